-- When the directions of a product are near enough for an `ExpSum`.
use Rattle.std.specs.Prelude.{List}
use Rattle.std.specs.List.{All}
use Rattle.exp_sums.specs.declared.terms.Term.{Term}
use Rattle.exp_sums.specs.FormalPoint.{dir_sum}
use Rattle.exp_sums.specs.Limits.{IsNear, greatest_exponent}

-- each sum of a direction of the one list and a direction of the other is near
abbrev pub SumsAreNear : List Term → List Term → Type 0
SumsAreNear ts us = All (λ t. All (λ u. IsNear greatest_exponent (dir_sum t.dir u.dir)) us) ts
