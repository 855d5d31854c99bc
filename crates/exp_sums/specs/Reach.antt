-- The reach of a formal point, which bounds how fast its sine sums change.
use Rattle.std.specs.Prelude.{ℕ, ◌+◌, ◌*◌, List, unsigned_abs}
use Rattle.std.specs.List.{sum_by}
use Rattle.exp_sums.specs.declared.direction.Dir.{Dir}
use Rattle.exp_sums.specs.declared.terms.Term.{Term}
use Rattle.exp_sums.specs.FormalPoint.{FormalPoint, terms}

-- |m| + |n|
abbrev pub dir_reach : Dir → ℕ
dir_reach d = unsigned_abs d.m + unsigned_abs d.n

-- the sum of |c|·(|m| + |n|)
abbrev pub terms_reach : List Term → ℕ
terms_reach ts = sum_by (λ t. unsigned_abs t.c * dir_reach t.dir) ts

-- that of a formal point
abbrev pub reach : FormalPoint → ℕ
reach p = terms_reach (terms p)
