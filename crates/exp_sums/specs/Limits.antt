-- How large a formal point is, and how large an `ExpSum` may be.
use Rattle.std.specs.Prelude.{ℕ, ◌≤◌, ◌^◌, List, unsigned_abs, T}
use Rattle.std.specs.List.{All, sum_by}
use Rattle.exp_sums.specs.declared.direction.Dir.{Dir}
use Rattle.exp_sums.specs.declared.terms.Term.{Term}
use Rattle.exp_sums.specs.Terms.{is_canonical}
use Rattle.exp_sums.specs.FormalPoint.{FormalPoint, terms, point_of}

-- the sum of |c|
abbrev pub terms_weight : List Term → ℕ
terms_weight ts = sum_by (λ t. unsigned_abs t.c) ts

-- the weight of a formal point
abbrev pub weight : FormalPoint → ℕ
weight p = terms_weight (terms p)

-- both numbers of a direction are from −b to b
pub record IsNear (b : ℕ) (d : Dir) : Type 0 where
  pub m : unsigned_abs d.m ≤ b
  pub n : unsigned_abs d.n ≤ b

-- and of each direction that has a coefficient
abbrev pub IsWithin : ℕ → FormalPoint → Type 0
IsWithin b p = All (λ t. IsNear b t.dir) (terms p)

-- the largest number in a direction of an `ExpSum`
abbrev pub greatest_exponent : ℕ
greatest_exponent = 4096

-- the largest weight of an `ExpSum`
abbrev pub greatest_weight : ℕ
greatest_weight = 2 ^ 31

pub record IsWithinLimits (p : FormalPoint) : Type 0 where
  pub near : IsWithin greatest_exponent p
  pub light : weight p ≤ greatest_weight

-- what an `ExpSum` keeps of its terms
pub record IsKept (ts : List Term) : Type 0 where
  pub canonical : T (is_canonical ts)
  pub limits : IsWithinLimits (point_of ts)
