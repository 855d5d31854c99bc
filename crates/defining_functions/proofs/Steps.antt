-- Steps between heights: edges as chords, forms, and the steps along a word.
use Rattle.std.proofs.Common.{◌≡◌, refl, sym, ap, ap₂, subst, ◌∙◌, ℕ, ◌+◌, ◌-◌, ◌*◌, ◌<◌, ◌≤◌, ◌%◌, ◌==◌, ◌↔◌, List, [], ◌∷◌, ◌++◌, length, length-append}
use Rattle.std.proofs.Common.{slice_index_or, Bool, true, false, not, if◌then◌else◌, pos, arith, IsTrue}
use Rattle.std.proofs.Common.{Result, Ok, Err}
use Rattle.std.specs.Result.{IfOk}
use Rattle.std.proofs.lemmas.Bool.Decides.{nat_tests}
use Rattle.std.proofs.Math.ListN.{get_or-append}
use Rattle.ring_solver.specs.Expression.{var, ◌⊞◌, ◌⊟◌, ◌⊠◌}
use Rattle.ring_solver.proofs.Solver.{ring}
use Rattle.edge_words.specs.Letters.{letter_at}
use Rattle.exp_sums.specs.declared.direction.Dir.{Dir}
use Rattle.exp_sums.specs.FormalPoint.{FormalPoint, terms, monomial, zero_point, conj, ◌+ₚ◌, ◌-ₚ◌, ◌*ₚ◌}
use Rattle.exp_sums.specs.Limits.{weight, IsNear, IsWithinLimits, greatest_weight}
use Rattle.exp_sums.specs.Products.{SumsAreNear}
use Rattle.exp_sums.specs.SineForm.{sine_form}
use Rattle.exp_sums.proofs.Limits.{limits-zero_point, limits_added}
use Rattle.exp_sums.proofs.PointRing.{point_ring, +ₚ_comm, +ₚ-zero_point, monomial-negative}
use Rattle.exp_sums.proofs.ProductLimits.{sums_near}
use Rattle.exp_sums.proofs.SineForm.{sine_forms_linear}
use Rattle.exp_sums.proofs.Weights.{weight-monomial, weight-zero_point}
use Rattle.exp_sums.proofs.Within.{IsWithin-monomial}
use Rattle.unfolding.specs.declared.signed.Signed.{Signed}
use Rattle.unfolding.specs.Corners.{upper_corner, lower_corner}
use Rattle.unfolding.specs.Shift.{IsShift}
use Rattle.unfolding.specs.Signed.{sign_of, signed_point}
use Rattle.unfolding.specs.Triangle.{next_corner, corner_of, centre_of}
use Rattle.defining_functions.specs.declared.step.Step.{Step}
use Rattle.defining_functions.specs.Chords.{Continues}
use Rattle.defining_functions.specs.Functions.{IsWithinFunctionLimits}
use Rattle.defining_functions.specs.Heights.{height, upper_height, lower_height}
use Rattle.defining_functions.specs.Kept.{IsSmall, AreWithinLimits, StandsAt}
use Rattle.defining_functions.specs.Steps.{SharesEnd, IsStep, AreSteps}
use Rattle.defining_functions.proofs.Limits.{form_limits, light_product}
use Rattle.defining_functions.proofs.Tables.{IsTable-snoc, IsTable-weaker, IsTable-nil}

-- ---- one direction as a sum

pub lone_in_limits : (p : FormalPoint) (d : Dir) → p ≡ zero_point → IsNear 65 d → IsWithinLimits (p +ₚ monomial (pos 1) d)
lone_in_limits p d is near =
    subst (λ q. IsWithinLimits (q +ₚ monomial (pos 1) d)) (sym is)
    (limits_added zero_point (pos 1) d limits-zero_point (record { m = omega (arith, near.m); n = omega (arith, near.n) }) (omega (arith, weight-zero_point)))

pub lone_is : (p q : FormalPoint) (d : Dir) → p ≡ zero_point → q ≡ p +ₚ monomial (pos 1) d → q ≡ monomial (pos 1) d
lone_is p q d is_p is_q =
    is_q ∙ ap (λ z. z +ₚ monomial (pos 1) d) is_p ∙ +ₚ_comm zero_point (monomial (pos 1) d) ∙ +ₚ-zero_point (monomial (pos 1) d)

direction_small : (d : Dir) → IsNear 65 d → IsSmall (monomial (pos 1) d)
direction_small d near = record { light = omega (arith, weight-monomial (pos 1) d); within = IsWithin-monomial 65 (pos 1) d near }

-- ---- its form

module _ (t q : FormalPoint) (d : Dir) (small : IsSmall t) (near : IsNear 65 d) (is : q ≡ monomial (pos 1) d) where
  pub light_form : weight t * weight q ≤ greatest_weight
  light_form =
      let direction = direction_small d near in
      subst (λ z. weight t * weight z ≤ greatest_weight) (sym is)
      (omega (arith, light_product t (monomial (pos 1) d) small.light direction.light))

  pub near_form : SumsAreNear (terms t) (terms q)
  near_form =
      subst (λ z. SumsAreNear (terms t) (terms z)) (sym is)
      (sums_near 65 65 t (monomial (pos 1) d) (omega arith) small.within (direction_small d near).within)

pub direction_form_limits : (t : FormalPoint) (d : Dir) → IsSmall t → IsNear 65 d → IsWithinFunctionLimits (sine_form (t *ₚ monomial (pos 1) d))
direction_form_limits t d small near =
    let direction = direction_small d near in
    form_limits t (monomial (pos 1) d) small direction.light direction.within

pub if_ok_limits : {E : Type 0} (r : Result FormalPoint E) (f : FormalPoint) → IfOk r (λ p. p ≡ f) → IsWithinFunctionLimits f → IfOk r IsWithinFunctionLimits
if_ok_limits (Ok p) f is limits = subst IsWithinFunctionLimits (sym is) limits
if_ok_limits (Err e) f is limits = tt

-- ---- chords

module _ (w : List ℕ) (j after before : ℕ) (s t : Signed) (seen : centre_of w j +ₚ signed_point s ≡ corner_of w j before)
    (seen' : centre_of w j +ₚ signed_point t ≡ corner_of w j after) where
  chord_by_parity : (even : Bool) → s.minus ≡ not even → t.minus ≡ not even →
      corner_of w j (if even then before else after) -ₚ corner_of w j (if even then after else before) ≡ monomial (pos 1) s.dir -ₚ monomial (pos 1) t.dir
  chord_by_parity true plus plus' =
      ap₂ ◌-ₚ◌ (sym seen ∙ ap (λ b. centre_of w j +ₚ monomial (sign_of b) s.dir) plus) (sym seen' ∙ ap (λ b. centre_of w j +ₚ monomial (sign_of b) t.dir) plus')
      ∙ ring point_ring (centre_of w j ∷ monomial (pos 1) s.dir ∷ monomial (pos 1) t.dir ∷ []) ((var 0 ⊞ var 1) ⊟ (var 0 ⊞ var 2)) (var 1 ⊟ var 2) refl
  chord_by_parity false minus minus' =
      ap₂ ◌-ₚ◌ (sym seen' ∙ ap (λ b. centre_of w j +ₚ monomial (sign_of b) t.dir) minus' ∙ ap (λ z. centre_of w j +ₚ z) (sym (monomial-negative (pos 1) t.dir)))
      (sym seen ∙ ap (λ b. centre_of w j +ₚ monomial (sign_of b) s.dir) minus ∙ ap (λ z. centre_of w j +ₚ z) (sym (monomial-negative (pos 1) s.dir)))
      ∙ ring point_ring (centre_of w j ∷ monomial (pos 1) s.dir ∷ monomial (pos 1) t.dir ∷ []) ((var 0 ⊟ var 2) ⊟ (var 0 ⊟ var 1)) (var 1 ⊟ var 2) refl

-- a triangle is reversed where its number is not even
parity : (j : ℕ) (minus : Bool) → (IsTrue minus ↔ (j % 2 ≡ 1)) → minus ≡ not (j % 2 == 0)
parity j minus h = grind (arith, nat_tests)

pub chord_way : (w : List ℕ) (k : ℕ) (s t : Signed) → let after = next_corner (letter_at w k) in
    centre_of w (k - 1) +ₚ signed_point s ≡ corner_of w (k - 1) (next_corner after) → centre_of w (k - 1) +ₚ signed_point t ≡ corner_of w (k - 1) after →
    (IsTrue s.minus ↔ ((k - 1) % 2 ≡ 1)) → (IsTrue t.minus ↔ ((k - 1) % 2 ≡ 1)) →
    upper_corner w k -ₚ lower_corner w k ≡ monomial (pos 1) s.dir -ₚ monomial (pos 1) t.dir
chord_way w k s t seen seen' minus minus' =
    let after = next_corner (letter_at w k) in
    chord_by_parity w (k - 1) after (next_corner after) s t seen seen' ((k - 1) % 2 == 0) (parity (k - 1) s.minus minus) (parity (k - 1) t.minus minus')

-- ---- steps

pub step_way : (w : List ℕ) (v t : FormalPoint) (k : ℕ) (a b : Dir) (f g : FormalPoint) → t ≡ conj v
    → upper_corner w k -ₚ lower_corner w k ≡ monomial (pos 1) a -ₚ monomial (pos 1) b → f ≡ sine_form (t *ₚ monomial (pos 1) a)
    → g ≡ sine_form (t *ₚ monomial (pos 1) b) → upper_height v w k ≡ lower_height v w k +ₚ (f -ₚ g)
unfolding height
step_way w v t k a b f g is_t way is_f is_g =
    let u = conj v in
    let p = upper_corner w k in
    let q = lower_corner w k in
    let o = lower_corner w 1 in
    let d = monomial (pos 1) a in
    let e = monomial (pos 1) b in
    let is_f' : sine_form (u *ₚ d) ≡ f = ap (λ z. sine_form (z *ₚ d)) (sym is_t) ∙ sym is_f in
    let is_g' : sine_form (u *ₚ e) ≡ g = ap (λ z. sine_form (z *ₚ e)) (sym is_t) ∙ sym is_g in
    ap sine_form (ring point_ring (u ∷ p ∷ q ∷ o ∷ []) (var 0 ⊠ (var 1 ⊟ var 3)) (var 0 ⊠ (var 2 ⊟ var 3) ⊞ var 0 ⊠ (var 1 ⊟ var 2)) refl)
    ∙ ap (λ z. sine_form (u *ₚ (q -ₚ o) +ₚ u *ₚ z)) way
    ∙ ap sine_form (ring point_ring (u ∷ q ∷ o ∷ d ∷ e ∷ []) (var 0 ⊠ (var 1 ⊟ var 2) ⊞ var 0 ⊠ (var 3 ⊟ var 4))
    (var 0 ⊠ (var 1 ⊟ var 2) ⊞ (var 0 ⊠ var 3 ⊟ var 0 ⊠ var 4)) refl)
    ∙ sine_forms_linear.of_sum (u *ₚ (q -ₚ o)) (u *ₚ d -ₚ u *ₚ e)
    ∙ ap (λ z. sine_form (u *ₚ (q -ₚ o)) +ₚ z) (sine_forms_linear.of_difference (u *ₚ d) (u *ₚ e) ∙ ap₂ ◌-ₚ◌ is_f' is_g')

-- forms that stand in a list stand in one that continues it
module _ (old new : List FormalPoint) (h : Continues old new) where
  still_at : (i : ℕ) (z : FormalPoint) → i < length old → slice_index_or new i z ≡ slice_index_or old i z
  still_at i z below = ap (λ xs. slice_index_or xs i z) h.is ∙ get_or-append old h.more z i below

  still_below : (i : ℕ) → i < length old → i < length new
  still_below i below = omega (arith, ap length h.is, length-append old h.more)

  stands_still : (P : FormalPoint → Type 0) (i : ℕ) → StandsAt P old i → StandsAt P new i
  stands_still P i s = record { in_range = still_below i s.in_range; is = λ z. subst P (sym (still_at i z s.in_range)) (s.is z) }

  step_still : (w : List ℕ) (i : ℕ) (s : Step) → IsStep w old i s → IsStep w new i s
  step_still w i s step = record {
    shared = step.shared;
    plus = still_below s.plus step.plus;
    minus = still_below s.minus step.minus;
    way = λ v z shift. step.way v z shift
        ∙ ap (λ x. lower_height v w (i + 1) +ₚ x) (ap₂ ◌-ₚ◌ (sym (still_at s.plus z step.plus)) (sym (still_at s.minus z step.minus)));
  }

pub no_steps : (w : List ℕ) (forms : List FormalPoint) (steps : List Step) → forms ≡ [] → steps ≡ [] → AreSteps w 0 forms steps
no_steps w forms steps is_f is_s =
    subst (λ fs. AreSteps w 0 fs steps) (sym is_f) (subst (AreSteps w 0 []) (sym is_s) (record {
      limits = λ i p below. absurd (omega (arith, below));
      each = IsTable-nil _;
    }))

pub next_step : (w : List ℕ) (i : ℕ) (forms forms' forms'' : List FormalPoint) (steps more : List Step) (s : Step) (f g : FormalPoint)
    → AreSteps w i forms steps
    → Continues forms forms' → Continues forms' forms'' → AreWithinLimits forms''
    → StandsAt (λ p. p ≡ f) forms' s.plus → StandsAt (λ p. p ≡ g) forms'' s.minus → SharesEnd w i s.shared
    → ((v : FormalPoint) → IsShift w v → upper_height v w (i + 1) ≡ lower_height v w (i + 1) +ₚ (f -ₚ g))
    → more ≡ steps ++ s ∷ [] → AreSteps w (i + 1) forms'' more
next_step w i forms forms' forms'' steps more s f g so_far first second limits plus minus shared way is =
    let here : StandsAt (λ p. p ≡ f) forms'' s.plus = stands_still forms' forms'' second (λ p. p ≡ f) s.plus plus in
    subst (AreSteps w (i + 1) forms'') (sym is) (record {
      limits = limits;
      each = IsTable-snoc (IsStep w forms'') i steps s
          (IsTable-weaker (IsStep w forms) (IsStep w forms'') i steps
          (λ j t h. step_still forms' forms'' second w j t (step_still forms forms' first w j t h)) so_far.each)
          (record {
            shared = shared;
            plus = here.in_range;
            minus = minus.in_range;
            way = λ v z shift. way v shift ∙ ap (λ x. lower_height v w (i + 1) +ₚ x) (ap₂ ◌-ₚ◌ (sym (here.is z)) (sym (minus.is z)));
          });
    })
