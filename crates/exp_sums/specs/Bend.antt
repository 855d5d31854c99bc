-- The bend of a formal point, which bounds how fast the slope of its sine sums changes.
use Rattle.std.specs.Prelude.{ℕ, ◌+◌, ◌*◌, List, unsigned_abs}
use Rattle.std.specs.List.{sum_by}
use Rattle.exp_sums.specs.declared.direction.Dir.{Dir}
use Rattle.exp_sums.specs.declared.terms.Term.{Term}
use Rattle.exp_sums.specs.FormalPoint.{FormalPoint, terms}

-- m² + n²
abbrev pub dir_bend : Dir → ℕ
dir_bend d = unsigned_abs d.m * unsigned_abs d.m + unsigned_abs d.n * unsigned_abs d.n

-- the sum of |c|·(m² + n²)
abbrev pub terms_bend : List Term → ℕ
terms_bend ts = sum_by (λ t. unsigned_abs t.c * dir_bend t.dir) ts

-- that of a formal point
abbrev pub bend : FormalPoint → ℕ
bend p = terms_bend (terms p)
