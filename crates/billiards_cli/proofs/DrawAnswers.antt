-- The right answers of `draw`.
use Rattle.std.proofs.Common.{◌≡◌, ℕ, ◌≤◌, ◌<◌, List, Option, refl, sym, ap, subst, count_by, inl, inr, arith}
use Rattle.line_grammar.specs.Input.{MayBe}
use Rattle.covering_file.specs.Header.{Heading}
use Rattle.covering_file.specs.Tree.{Tree}
use Rattle.svg_pictures.specs.declared.TheConstants.{MAX_DRAWN}
use Rattle.billiards_cli.specs.Command.{By}
use Rattle.billiards_cli.specs.Commands.Draw.{draw_reads_to, drawn_in, IsDrawAnswer, IsDrawDue}
use Rattle.billiards_cli.specs.Requests.{command_of}
use Rattle.billiards_cli.specs.Services.{IsAnswer, ReadsFor}
use Rattle.billiards_cli.specs.WholeFile.{file_input, IsFileText}
use Rattle.billiards_cli.specs.declared.request.Request.TheVariants as request
use Rattle.billiards_cli.specs.declared.status.Status.{Status}
use Rattle.billiards_cli.specs.declared.status.Status.TheVariants.{Done, Malformed, OutOfMemory, Full}
use Rattle.billiards_cli.proofs.WholeFiles.{file_is_not_refused, one_file}

-- the leaves that are drawn are those of one tree
one_count : (input : List ℕ) (g h : Heading) (s t : Tree) → IsFileText input g s → IsFileText input h t → drawn_in s ≡ drawn_in t
one_count input g h s t file other = ap drawn_in ((one_file input g h s t file other).1)

pub few_and_many : (input : List ℕ) (g h : Heading) (s t : Tree) → IsFileText input g s → IsFileText input h t → drawn_in s ≤ MAX_DRAWN → MAX_DRAWN < drawn_in t
    → ⊥
few_and_many input g h s t file other few many = omega (arith, one_count input g h s t file other, few, many)

draw_answer_is_due : (input : List ℕ) (status : Status) (text : List ℕ) → IsDrawAnswer input status text → IsDrawDue input status
draw_answer_is_due input Done text answer = record {
  drawn = λ h t file few. inl refl;
  full = λ h t file many. absurd (few_and_many input answer.heading h answer.tree t answer.file file answer.few many);
  refused = λ none. absurd (none (answer.heading, answer.tree, answer.file));
}
draw_answer_is_due input Full text answer = record {
  drawn = λ h t file few. absurd (few_and_many input h answer.heading t answer.tree file answer.file few answer.many);
  full = λ h t file many. inl refl;
  refused = λ none. absurd (none (answer.heading, answer.tree, answer.file));
}
draw_answer_is_due input Malformed text answer = record {
  drawn = λ h t file few. absurd (file_is_not_refused input h t answer.line answer.reason file answer.refused);
  full = λ h t file many. absurd (file_is_not_refused input h t answer.line answer.reason file answer.refused);
  refused = λ none. inl refl;
}
draw_answer_is_due input OutOfMemory text answer =
    record { drawn = λ h t file few. inr refl; full = λ h t file many. inr refl; refused = λ none. inr refl }
draw_answer_is_due input status text answer = absurd answer

-- a right answer is one that the command may give
pub draw_answer : (left left' : Option (List ℕ)) (input : List ℕ) (status : Status) (text : List ℕ)
    → MayBe left input → IsDrawAnswer input status text → ReadsFor (By file_input.grammar) (draw_reads_to status) text left left'
    → IsAnswer (command_of request.Draw) left left' status text
draw_answer left left' input status text may_be right read =
    record { input = input; may_be = may_be; right = right; due = draw_answer_is_due input status text right; read = read }
