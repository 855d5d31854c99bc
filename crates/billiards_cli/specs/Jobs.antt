-- The generated jobs, with the one word 123123. The region of each is a right-angled triangle in the plane of angles: its points are acute triangles,
-- the equilateral one among them. They are this program's own.
use Rattle.std.specs.Prelude.{ℕ, ◌+◌, ◌-◌, ◌*◌, ◌≤◌, List, [], ◌∷◌}
use Rattle.std.specs.declared.option.Option.{Option}
use Rattle.rational_polygon.specs.Outline.{Outline}
use Rattle.covering_file.specs.Header.{Heading}
use Rattle.billiards_cli.specs.Arguments.{number_up_to, at_least}

-- the numbers of the jobs
pub record IsJobNumber (k : ℕ) : Type 0 where
  pub at_least : 1 ≤ k
  pub at_most : k ≤ 127

-- the number of a job that a text writes
abbrev pub job_number : List ℕ → Option ℕ
job_number text = at_least 1 (number_up_to 127 text)

-- Two sides of 3 k grid steps along the axes. The centre of gravity, (256, 256), is the equilateral triangle.
abbrev pub near_side : ℕ → ℕ
near_side k = 256 + k

abbrev pub far_side : ℕ → ℕ
far_side k = 256 - 2 * k

abbrev pub job_outline : ℕ → Outline
job_outline k = record {
  grid = 768;
  corners = (near_side k, far_side k) ∷ (near_side k, near_side k) ∷ (far_side k, near_side k) ∷ [];
}

-- the word 123123
abbrev pub job_word : List ℕ
job_word = 1 ∷ 2 ∷ 3 ∷ 1 ∷ 2 ∷ 3 ∷ []

-- what job k says
abbrev pub job_heading : ℕ → Heading
job_heading k = record { version = 1; region = job_outline k ∷ []; words = job_word ∷ []; depth = 10 }
