-- What formal points mean: the coefficients of each operation, and that a formal point is known by its coefficients.
use Rattle.std.specs.Prelude.{◌≡◌, List, ℤ, pos, ◌+ℤ◌, ◌-ℤ◌, ◌*ℤ◌, neg_ℤ, if◌then◌else◌, T}
use Rattle.std.specs.List.{All}
use Rattle.exp_sums.specs.declared.direction.Dir.{Dir}
use Rattle.exp_sums.specs.declared.terms.Term.{Term}
use Rattle.exp_sums.specs.Terms.{is_same_dir, is_canonical, total_at}
use Rattle.exp_sums.specs.FormalPoint.{FormalPoint, terms, coefficient, point_of, dir_sum, dir_neg, monomial, ◌+ₚ◌, ◌-ₚ◌, negative, ◌*ₚ◌, conj}
use Rattle.exp_sums.specs.Weigh.{weigh_ints}
use Rattle.exp_sums.specs.SineForm.{is_upper, sine_form}

-- the terms of a point rise, and none has the coefficient 0
abbrev pub TermsAreCanonical : Type 0
TermsAreCanonical = (p : FormalPoint) → T (is_canonical (terms p))

-- the point of a list of terms has the list's totals
abbrev pub ListsAddUp : Type 0
ListsAddUp = (ts : List Term) (d : Dir) → coefficient (point_of ts) d ≡ total_at d ts

-- two points with the same coefficients are the same
abbrev pub CoefficientsTellPointsApart : Type 0
CoefficientsTellPointsApart = (p q : FormalPoint) → ((d : Dir) → coefficient p d ≡ coefficient q d) → p ≡ q

-- a multiple of a direction has its one coefficient there
abbrev pub MonomialsHaveOneTerm : Type 0
MonomialsHaveOneTerm = (c : ℤ) (e d : Dir) → coefficient (monomial c e) d ≡ (if is_same_dir d e then c else pos 0)

abbrev pub SumsAddCoefficients : Type 0
SumsAddCoefficients = (p q : FormalPoint) (d : Dir) → coefficient (p +ₚ q) d ≡ coefficient p d +ℤ coefficient q d

abbrev pub NegativesNegateCoefficients : Type 0
NegativesNegateCoefficients = (p : FormalPoint) (d : Dir) → coefficient (negative p) d ≡ neg_ℤ (coefficient p d)

-- the sum over p's terms c·e of c times q's coefficient at d − e
abbrev pub ProductsConvolve : Type 0
ProductsConvolve = (p q : FormalPoint) (d : Dir) → coefficient (p *ₚ q) d ≡ weigh_ints (λ e. coefficient q (dir_sum d (dir_neg e))) p

abbrev pub ConjugatesNegateDirections : Type 0
ConjugatesNegateDirections = (p : FormalPoint) (d : Dir) → coefficient (conj p) d ≡ coefficient p (dir_neg d)

-- c(m, n) − c(−m, −n) at the directions with m > 0, or with m = 0 and n > 0, and none at the others
abbrev pub SineFormsSubtractConjugates : Type 0
SineFormsSubtractConjugates = (p : FormalPoint) (d : Dir) →
    coefficient (sine_form p) d ≡ (if is_upper d then coefficient p d -ℤ coefficient p (dir_neg d) else pos 0)

-- the sine form of a sum is the sum of the sine forms, and of a difference their difference
pub record SineFormsAddUp : Type 0 where
  pub of_sum : (p q : FormalPoint) → sine_form (p +ₚ q) ≡ sine_form p +ₚ sine_form q
  pub of_difference : (p q : FormalPoint) → sine_form (p -ₚ q) ≡ sine_form p -ₚ sine_form q

-- sums over the terms, of any function of the direction, are linear in the point
pub record WeighingAddsUp : Type 0 where
  pub of_sum : (f : Dir → ℤ) (p q : FormalPoint) → weigh_ints f (p +ₚ q) ≡ weigh_ints f p +ℤ weigh_ints f q
  pub of_difference : (f : Dir → ℤ) (p q : FormalPoint) → weigh_ints f (p -ₚ q) ≡ weigh_ints f p -ℤ weigh_ints f q
  pub of_term : (f : Dir → ℤ) (c : ℤ) (d : Dir) → weigh_ints f (monomial c d) ≡ c *ℤ f d

-- only the directions of a point's own terms count
abbrev pub OtherDirectionsAreFree : Type 0
OtherDirectionsAreFree =
    (f g : Dir → ℤ) (p : FormalPoint) → All (λ (t : Term). f t.dir ≡ g t.dir) (terms p) → weigh_ints f p ≡ weigh_ints g p
