-- Right answers of `check` differ only where one names the line of a node between the slacks.
use Rattle.std.proofs.Common.{◌≡◌, ◌⊎◌, inl, inr, ℕ, ◌<◌, ◌≤◌, min, List, length, refl, sym, ap, ap₂, subst, ◌∙◌, arith}
use Rattle.std.proofs.Math.Nat.{min-eq_left, min-eq_right}
use Rattle.std.proofs.lemmas.Bool.{cases_lt}
use Rattle.gradient_bounds.specs.Slacks as slacks
use Rattle.line_grammar.specs.declared.reason.Reason.{Reason}
use Rattle.covering_file.specs.Header.{Heading}
use Rattle.covering_file.specs.Laws.{HasNodeBetween}
use Rattle.covering_file.specs.Tree.{Tree, preorder}
use Rattle.covering_file.specs.declared.TheConstants.{MAX_NODES}
use Rattle.covering_file.proofs.Between.{accepted_is_refused_between, refusals_differ_between}
use Rattle.covering_file.proofs.OneFile.{accepted_is_one}
use Rattle.billiards_cli.specs.Commands.Check.{AcceptsFile, IsRefusedWith, accepted_text, refusal_status}
use Rattle.billiards_cli.specs.Laws.{CheckAnswersDifferBetween, NamesNodeBetween}
use Rattle.billiards_cli.specs.Refusals.{RefusesLine, refused_text}
use Rattle.billiards_cli.specs.declared.status.Status.{Status}
use Rattle.billiards_cli.specs.declared.status.Status.TheVariants.{Done, NotShown, Malformed, OutOfMemory}

-- an accepted file is one, and so are its numbers
one_accepted : (input text text' : List ℕ) → AcceptsFile input text → AcceptsFile input text' → text ≡ text'
one_accepted input text text' first second =
    let f = first.accepted.1 in
    let g = second.accepted.1 in
    let one = accepted_is_one slacks.sound first.nodes first.words input f g.heading g.tree g.is_heading g.text in
    let nodes = f.node_count ∙ sym (ap (λ (t : Tree). length (preorder t)) one.1) ∙ sym g.node_count in
    let words = f.word_count ∙ sym (ap (λ (h : Heading). length h.words) one.0) ∙ sym g.word_count in
    first.text_is ∙ ap₂ accepted_text nodes words ∙ sym second.text_is

-- of two refusals one names the lesser line
names_lesser : (input text text' : List ℕ) (line other : ℕ) (r s : Reason) → text ≡ refused_text line r → text' ≡ refused_text other s
    → HasNodeBetween input (min line other) → (line < other) ⊎ (other ≤ line) → NamesNodeBetween input text text'
names_lesser input text text' line other r s named named' between (inl before) = record {
  line = line;
  reason = r;
  named = inl named;
  between = subst (λ (n : ℕ). HasNodeBetween input n) (min-eq_left (omega (arith, before))) between;
}
names_lesser input text text' line other r s named named' between (inr behind) = record {
  line = other;
  reason = s;
  named = inr named';
  between = subst (λ (n : ℕ). HasNodeBetween input n) (min-eq_right behind) between;
}

refusals_differ : (input text text' : List ℕ) (status status' : Status) → RefusesLine (IsRefusedWith input status) text
    → RefusesLine (IsRefusedWith input status') text' → ((status ≡ status') × (text ≡ text')) ⊎ NamesNodeBetween input text text'
refusals_differ input text text' status status' first second =
    let p = first.refused in
    let q = second.refused in
    elim (refusals_differ_between MAX_NODES first.line second.line first.reason second.reason input p.first q.first) [
      | inl same ↦ inl (sym p.status_is ∙ ap refusal_status same.1 ∙ q.status_is, first.named ∙ ap₂ refused_text same.0 same.1 ∙ sym second.named)
      | inr at ↦ inr (names_lesser input text text' first.line second.line first.reason second.reason first.named second.named at (cases_lt first.line second.line))
    ]

-- an accepted file is refused only at such a line
at_refusal : (input text : List ℕ) (status : Status) (named : RefusesLine (IsRefusedWith input status) text) (text' : List ℕ) → AcceptsFile input text'
    → HasNodeBetween input named.line
at_refusal input text status named text' accepted =
    accepted_is_refused_between MAX_NODES accepted.nodes accepted.words named.line named.reason input accepted.accepted named.refused.first

second_names : (input text text' : List ℕ) (status : Status) → AcceptsFile input text → RefusesLine (IsRefusedWith input status) text'
    → NamesNodeBetween input text text'
second_names input text text' status accepted named =
    record { line = named.line; reason = named.reason; named = inr named.named; between = at_refusal input text' status named text accepted }

first_names : (input text text' : List ℕ) (status : Status) → RefusesLine (IsRefusedWith input status) text → AcceptsFile input text'
    → NamesNodeBetween input text text'
first_names input text text' status named accepted =
    record { line = named.line; reason = named.reason; named = inl named.named; between = at_refusal input text status named text' accepted }

pub check_answers_differ_between_lem : CheckAnswersDifferBetween
check_answers_differ_between_lem input text text' Done Done first second some more = inl (refl, one_accepted input text text' first second)
check_answers_differ_between_lem input text text' Done NotShown first second some more = inr (second_names input text text' NotShown first second)
check_answers_differ_between_lem input text text' Done Malformed first second some more = inr (second_names input text text' Malformed first second)
check_answers_differ_between_lem input text text' NotShown Done first second some more = inr (first_names input text text' NotShown first second)
check_answers_differ_between_lem input text text' Malformed Done first second some more = inr (first_names input text text' Malformed first second)
check_answers_differ_between_lem input text text' NotShown NotShown first second some more = refusals_differ input text text' NotShown NotShown first second
check_answers_differ_between_lem input text text' NotShown Malformed first second some more = refusals_differ input text text' NotShown Malformed first second
check_answers_differ_between_lem input text text' Malformed NotShown first second some more = refusals_differ input text text' Malformed NotShown first second
check_answers_differ_between_lem input text text' Malformed Malformed first second some more = refusals_differ input text text' Malformed Malformed first second
check_answers_differ_between_lem input text text' status OutOfMemory first second some more = absurd (more refl)
check_answers_differ_between_lem input text text' OutOfMemory status first second some more = absurd (some refl)
check_answers_differ_between_lem input text text' Done status first second some more = absurd second
check_answers_differ_between_lem input text text' NotShown status first second some more = absurd second
check_answers_differ_between_lem input text text' Malformed status first second some more = absurd second
check_answers_differ_between_lem input text text' status status' first second some more = absurd first
