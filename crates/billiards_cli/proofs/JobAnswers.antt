-- The right answer of `job`.
use Rattle.std.proofs.Common.{◌≡◌, ℕ, List, [], ◌∷◌, Option, refl, codes, decimal, append_assoc, ap, ◌∙◌}
use Rattle.std.specs.List.{concat}
use Rattle.std.specs.Fmt.{digits}
use Rattle.line_grammar.specs.Text.{text_of, two_fields}
use Rattle.covering_file.specs.Header.{job_lines, job_text}
use Rattle.billiards_cli.specs.Jobs.{near_side, far_side, job_heading}
use Rattle.billiards_cli.specs.Requests.{command_of}
use Rattle.billiards_cli.specs.Services.{IsAnswer}
use Rattle.billiards_cli.specs.declared.request.Request.TheVariants as request
use Rattle.billiards_cli.specs.declared.status.Status.TheVariants.{Done}
use Rattle.billiards_cli.proofs.Inputs.{some_input}

pub job_answer : (k : ℕ) (left : Option (List ℕ)) → IsAnswer (command_of (request.Job k)) left left Done (job_text (job_heading k))
job_answer k left = let some = some_input left in record { input = some.0; may_be = some.1; right = refl; due = refl; read = tt }

-- the lines of such a job, whose corners are written with these numbers
abbrev lines_with : List ℕ → List ℕ → List (List ℕ)
lines_with near far =
    codes "mcbjob 1" ∷ codes "grid 768" ∷ codes "polygon 3" ∷ two_fields near far ∷ two_fields near near ∷ two_fields far near ∷ codes "words 1"
    ∷ codes "123123" ∷ codes "depth 10" ∷ codes "end" ∷ []

-- their text, in the pieces in which it is written
abbrev pub pieces_with : List ℕ → List ℕ → List (List ℕ)
pieces_with near far =
    codes "mcbjob 1\ngrid 768\npolygon 3\n" ∷ near ∷ codes " " ∷ far ∷ codes "\n" ∷ near ∷ codes " " ∷ near ∷ codes "\n" ∷ far ∷ codes " " ∷ near
    ∷ codes "\nwords 1\n123123\ndepth 10\nend\n" ∷ []

in_pieces : (near far : List ℕ) → text_of (lines_with near far) ≡ concat (pieces_with near far)
in_pieces near far = simp append_assoc

the_lines : (k : ℕ) → job_lines (job_heading k) ≡ lines_with (decimal (near_side k)) (decimal (far_side k))
unfolding digits
the_lines k = refl

pub job_text-pieces : (k : ℕ) → job_text (job_heading k) ≡ concat (pieces_with (decimal (near_side k)) (decimal (far_side k)))
job_text-pieces k = ap text_of (the_lines k) ∙ in_pieces (decimal (near_side k)) (decimal (far_side k))
