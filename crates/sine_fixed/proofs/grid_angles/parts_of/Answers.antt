use Rattle.std.proofs.Common.{◌≡◌, sym, subst, ap, ap₂, ◌∙◌, ℕ, ◌^◌, ◌<◌, ◌≤◌, ℤ, pos, unsigned_abs, to_z, of_z, FitsSigned, arith}
use Rattle.std.specs.Prelude.{IfSome}
use Rattle.std.specs.Int.{w128}
use Rattle.std.proofs.lemmas.Int.{ints, to_z-of_z, fits_signed_from_abs}
use Rattle.rat_core.specs.Fraction.{ℚ, ◌÷◌, whole, ◌≤ℚ◌}
use Rattle.rat_core.specs.Written.{Written, value}
use Rattle.sine_fixed.specs.SineTables.{half_turn}
use Rattle.sine_fixed.proofs.SineTables.{numerator_is}
use Rattle.sine_fixed.proofs.grid_angles.parts_of.Goals as goal

-- the two numbers as the machine has them
record AreParts (x : Written) (a b : ℕ) : Type 0 where
  pub numerator : pos a ≡ x.num
  pub denominator : b ≡ x.den
  pub within : a ≤ b

are_parts : (x : Written) (n d : ℤ) (a b : ℕ) → n ≡ x.num → d ≡ pos x.den → unsigned_abs n < 2 ^ 60 → x.den < 2 ^ 60
    → a ≡ unsigned_abs (to_z w128 (of_z w128 n)) → b ≡ unsigned_abs (to_z w128 (of_z w128 d)) → 0 < x.den → whole 0 ≤ℚ value x → value x ≤ℚ whole 1
    → AreParts x a b
are_parts x n d a b n_is d_is num_small den_small a_is b_is positive least most =
    let num_fits : FitsSigned w128 n = fits_signed_from_abs w128 n (omega (arith, num_small)) in
    let den_fits : FitsSigned w128 d = fits_signed_from_abs w128 d (omega (arith, ints)) in
    let first : a ≡ unsigned_abs n = simp to_z-of_z at a_is in
    let second : b ≡ unsigned_abs d = simp to_z-of_z at b_is in
    let is = numerator_is x.num x.den positive least most in
    let numerator : a ≡ unsigned_abs x.num = first ∙ ap unsigned_abs n_is in
    let denominator : b ≡ x.den = second ∙ ap unsigned_abs d_is in
    let below = is.1 in
    record { numerator = ap pos numerator ∙ sym is.0; denominator = denominator; within = omega arith }

pub in_parts-requires-clause-within : goal.in_parts-requires-clause-within
in_parts-requires-clause-within c =
    (are_parts c.args.x c.num.result c.den.result c.unsigned_abs.result c.unsigned_abs-2.result c.num.ensures.value c.den.ensures.value c.num.ensures.small
    c.den.ensures.small c.unsigned_abs.ensures.value c.unsigned_abs-2.ensures.value c.den.ensures.positive c.requires.least c.requires.most).within

pub returns-clause-parts : goal.returns-clause-parts
returns-clause-parts c =
    let are =
    are_parts c.args.x c.num.result c.den.result c.unsigned_abs.result c.unsigned_abs-2.result c.num.ensures.value c.den.ensures.value c.num.ensures.small
    c.den.ensures.small c.unsigned_abs.ensures.value c.unsigned_abs-2.ensures.value c.den.ensures.positive c.requires.least c.requires.most
    in
    let same : pos c.unsigned_abs.result ÷ c.unsigned_abs-2.result ≡ value c.args.x = ap₂ ◌÷◌ are.numerator are.denominator in
    subst (λ (v : ℚ). IfSome c.in_parts.result (λ parts. pos parts ÷ half_turn ≡ v)) same c.in_parts.ensures.parts
