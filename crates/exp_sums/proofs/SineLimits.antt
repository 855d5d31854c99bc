-- How heavy, how long and how near sine forms are, and that they keep the limits of an `ExpSum`.
use Rattle.std.proofs.Common.{ℕ, ◌≤◌, Bool, true, false, if◌then◌else◌, List, [], ◌∷◌, length, length-append, arith}
use Rattle.std.specs.Prelude.{unsigned_abs}
use Rattle.std.specs.List.{flat_map, All}
use Rattle.std.proofs.lemmas.List.Elements.{All-nil, All-cons, All-head, All-tail, All-append}
use Rattle.exp_sums.specs.declared.terms.Term.{Term}
use Rattle.exp_sums.specs.FormalPoint.{FormalPoint, terms, term_neg, term_conj, dir_neg}
use Rattle.exp_sums.specs.SineForm.{is_upper, sine_terms, sine_form}
use Rattle.exp_sums.specs.Limits.{terms_weight, weight, IsNear, IsWithin, IsWithinLimits, greatest_exponent}
use Rattle.exp_sums.proofs.Weights.{terms_weight-cons, terms_weight-append, weight-point_of}
use Rattle.exp_sums.proofs.Within.{dirs-point_of, near_neg}
use Rattle.exp_sums.proofs.Reach.{abs-neg}

-- ---- weights and lengths
pub weight-sine_term : (t : Term) → terms_weight (sine_terms t) ≤ unsigned_abs t.c
weight-sine_term t = by_tests (is_upper t.dir) (is_upper (dir_neg t.dir))
  where
    by_tests : (a b : Bool) → terms_weight (if a then t ∷ [] else (if b then term_neg (term_conj t) ∷ [] else [])) ≤ unsigned_abs t.c
    by_tests true b = omega arith
    by_tests false true = omega (arith, abs-neg t.c)
    by_tests false false = omega arith

pub weight-sine_terms : (ts : List Term) → terms_weight (flat_map sine_terms ts) ≤ terms_weight ts
weight-sine_terms [] = omega arith
weight-sine_terms (t ∷ ts) =
    omega (arith, weight-sine_term t, weight-sine_terms ts, terms_weight-cons t ts, terms_weight-append (sine_terms t) (flat_map sine_terms ts))

pub weight-sine_form : (p : FormalPoint) → weight (sine_form p) ≤ weight p
unfolding sine_form
weight-sine_form p = omega (arith, weight-point_of (flat_map sine_terms (terms p)), weight-sine_terms (terms p))

length-sine_term : (t : Term) → length (sine_terms t) ≤ 1
length-sine_term t = by_tests (is_upper t.dir) (is_upper (dir_neg t.dir))
  where
    by_tests : (a b : Bool) → length (if a then t ∷ [] else (if b then term_neg (term_conj t) ∷ [] else [])) ≤ 1
    by_tests true b = omega arith
    by_tests false true = omega arith
    by_tests false false = omega arith

pub length-sine_terms : (ts : List Term) → length (flat_map sine_terms ts) ≤ length ts
length-sine_terms [] = omega arith
length-sine_terms (t ∷ ts) = omega (arith, length-sine_term t, length-sine_terms ts, length-append (sine_terms t) (flat_map sine_terms ts))

-- ---- directions
-- the terms of a list are near
abbrev AreNear : ℕ → List Term → Type 0
AreNear b ts = All (λ (t : Term). IsNear b t.dir) ts

near-sine_term : (b : ℕ) (t : Term) → IsNear b t.dir → AreNear b (sine_terms t)
near-sine_term b t h = by_tests (is_upper t.dir) (is_upper (dir_neg t.dir))
  where
    none : AreNear b []
    none = All-nil (λ (u : Term). IsNear b u.dir)

    by_tests : (x y : Bool) → AreNear b (if x then t ∷ [] else (if y then term_neg (term_conj t) ∷ [] else []))
    by_tests true y = All-cons (λ (u : Term). IsNear b u.dir) t [] h none
    by_tests false true = All-cons (λ (u : Term). IsNear b u.dir) (term_neg (term_conj t)) [] (near_neg b t.dir h) none
    by_tests false false = none

near-sine_terms : (b : ℕ) (ts : List Term) → AreNear b ts → AreNear b (flat_map sine_terms ts)
near-sine_terms b [] h = All-nil (λ (t : Term). IsNear b t.dir)
near-sine_terms b (t ∷ ts) h =
    All-append (λ (u : Term). IsNear b u.dir) (sine_terms t) (flat_map sine_terms ts)
    (near-sine_term b t (All-head (λ (u : Term). IsNear b u.dir) t ts h))
    (near-sine_terms b ts (All-tail (λ (u : Term). IsNear b u.dir) t ts h))

pub IsWithin-sine_form : (b : ℕ) (p : FormalPoint) → IsWithin b p → IsWithin b (sine_form p)
unfolding sine_form
IsWithin-sine_form b p h = dirs-point_of (IsNear b) (flat_map sine_terms (terms p)) (near-sine_terms b (terms p) h)

pub limits-sine_form : (p : FormalPoint) → IsWithinLimits p → IsWithinLimits (sine_form p)
limits-sine_form p h = record { near = IsWithin-sine_form greatest_exponent p h.near; light = omega (arith, weight-sine_form p, h.light) }
