-- The gradient bound of a sine form: where x and y move by at most r each, its value moves by at most pi times its reach
-- times r.
use Rattle.std.proofs.Common.{◌≡◌, refl, sym, ap, ◌∙◌, subst, ℕ, suc, ◌*◌, List, [], ◌∷◌, ℤ, pos, negsuc}
use Rattle.std.specs.Prelude.{unsigned_abs}
use Rattle.ring_solver.specs.Expression.{var, num, ◌⊞◌, ◌⊟◌, ◌⊠◌}
use Rattle.ring_solver.specs.Ordered.{le}
use Rattle.ring_solver.proofs.Solver.{ring, ring₃, ring₆}
use Rattle.ring_solver.proofs.Certificate.{le₅, certified, moved, at_most_of_same, mul_mono}
use Rattle.rat_core.specs.Fraction.{ℚ, ◌÷◌, whole, ◌+ℚ◌, ◌-ℚ◌, ◌*ℚ◌, ◌≤ℚ◌, abs}
use Rattle.rat_core.proofs.Laws.{ℚ_ring, ℚ_ordered, ℚ_image, int-add, int-mul, int-neg, le_trans}
use Rattle.rat_core.proofs.Order.{whole_nonneg, abs_of_nonneg, abs-neg, abs_add_le, abs-mul}
use Rattle.exp_sums.specs.declared.direction.Dir.{Dir}
use Rattle.exp_sums.specs.declared.terms.Term.{Term}
use Rattle.exp_sums.specs.FormalPoint.{FormalPoint, terms}
use Rattle.exp_sums.specs.Weigh.{weigh_terms}
use Rattle.exp_sums.specs.Reach.{dir_reach, terms_reach, reach}
use Rattle.exp_sums.proofs.Reach.{terms_reach-cons}
use Rattle.trig_meaning.specs.PartialSums.{pi_sum}
use Rattle.trig_meaning.specs.Turn.{sine_of_turn}
use Rattle.trig_meaning.specs.Value.{turn_of, value_at}

-- the size of a whole number
abs-int : (c : ℤ) → abs (c ÷ 1) ≡ whole (unsigned_abs c)
abs-int (pos n) = abs_of_nonneg (whole n) (whole_nonneg n)
abs-int (negsuc n) = ap abs (int-neg (pos (suc n))) ∙ abs-neg (whole (suc n)) ∙ abs_of_nonneg (whole (suc n)) (whole_nonneg (suc n))

abs_zero : abs (whole 0 -ℚ whole 0) ≡ whole 0
abs_zero = ap abs zero ∙ abs_of_nonneg (whole 0) (whole_nonneg 0)
  where
    zero : whole 0 -ℚ whole 0 ≡ whole 0
    zero = ring ℚ_ring [] (num 0 ⊟ num 0) (num 0) refl

-- a multiple of what is at most b
pub multiple_at_most : (c : ℤ) (z b : ℚ) → abs z ≤ℚ b → abs ((c ÷ 1) *ℚ z) ≤ℚ whole (unsigned_abs c) *ℚ b
multiple_at_most c z b h =
    moved ℚ_ordered (sym (abs-mul (c ÷ 1) z ∙ ap (λ t. t *ℚ abs z) (abs-int c))) refl
    (mul_mono ℚ_ordered (whole (unsigned_abs c)) (abs z) b (whole_nonneg (unsigned_abs c)) h)

-- sums over terms, where no direction's share differs by more than b times its reach
terms_steep : (f g : Dir → ℚ) (b : ℚ) → ((d : Dir) → abs (f d -ℚ g d) ≤ℚ b *ℚ whole (dir_reach d)) → (ts : List Term)
    → abs (weigh_terms ℚ_ring ℚ_image f ts -ℚ weigh_terms ℚ_ring ℚ_image g ts) ≤ℚ b *ℚ whole (terms_reach ts)
terms_steep f g b near [] = at_most_of_same ℚ_ordered (abs_zero ∙ ring ℚ_ring (b ∷ []) (num 0) (var 0 ⊠ num 0) refl)
terms_steep f g b near (t ∷ ts) =
    let c = t.c ÷ 1 in
    let F = weigh_terms ℚ_ring ℚ_image f ts in
    let G = weigh_terms ℚ_ring ℚ_image g ts in
    let here = c *ℚ (f t.dir -ℚ g t.dir) in
    let k = whole (unsigned_abs t.c) in
    let m = whole (dir_reach t.dir) in
    let rest = whole (terms_reach ts) in
    let total : whole (terms_reach (t ∷ ts)) ≡ k *ℚ m +ℚ rest =
    ap whole (terms_reach-cons t ts) ∙ int-add (pos (unsigned_abs t.c * dir_reach t.dir)) (pos (terms_reach ts))
    ∙ ap (λ s. s +ℚ rest) (int-mul (pos (unsigned_abs t.c)) (pos (dir_reach t.dir)))
    in
    subst (λ s. abs ((c *ℚ f t.dir +ℚ F) -ℚ (c *ℚ g t.dir +ℚ G)) ≤ℚ b *ℚ s) (sym total)
    (le_trans (abs ((c *ℚ f t.dir +ℚ F) -ℚ (c *ℚ g t.dir +ℚ G))) (abs here +ℚ abs (F -ℚ G)) (b *ℚ (k *ℚ m +ℚ rest))
    (moved ℚ_ordered
    (ap abs (ring ℚ_ring (c ∷ f t.dir ∷ g t.dir ∷ F ∷ G ∷ []) (var 0 ⊠ (var 1 ⊟ var 2) ⊞ (var 3 ⊟ var 4))
    ((var 0 ⊠ var 1 ⊞ var 3) ⊟ (var 0 ⊠ var 2 ⊞ var 4)) refl)) refl
    (abs_add_le here (F -ℚ G)))
    (certified ℚ_ordered (abs here ∷ abs (F -ℚ G) ∷ b ∷ k ∷ m ∷ rest ∷ []) (var 0 ⊞ var 1) (var 2 ⊠ (var 3 ⊠ var 4 ⊞ var 5))
    (le (var 0) (var 3 ⊠ (var 2 ⊠ var 4)) ∷ le (var 1) (var 2 ⊠ var 5) ∷ []) refl
    (multiple_at_most t.c (f t.dir -ℚ g t.dir) (b *ℚ m) (near t.dir), (terms_steep f g b near ts, tt))))

-- how far a direction turns
turn_moves : (d : Dir) (x y x' y' r : ℚ) → abs (x -ℚ x') ≤ℚ r → abs (y -ℚ y') ≤ℚ r → abs (turn_of d x y -ℚ turn_of d x' y') ≤ℚ whole (dir_reach d) *ℚ r
turn_moves d x y x' y' r h k =
    let first = (d.m ÷ 1) *ℚ (x -ℚ x') in
    let second = (d.n ÷ 1) *ℚ (y -ℚ y') in
    let m = whole (unsigned_abs d.m) in
    let n = whole (unsigned_abs d.n) in
    subst (λ s. abs (turn_of d x y -ℚ turn_of d x' y') ≤ℚ s *ℚ r) (sym (int-add (pos (unsigned_abs d.m)) (pos (unsigned_abs d.n))))
    (le_trans (abs (turn_of d x y -ℚ turn_of d x' y')) (abs first +ℚ abs second) ((m +ℚ n) *ℚ r)
    (moved ℚ_ordered
    (ap abs (ring₆ ℚ_ring (λ m n x y s t. m ⊠ (x ⊟ s) ⊞ n ⊠ (y ⊟ t)) (λ m n x y s t. (m ⊠ x ⊞ n ⊠ y) ⊟ (m ⊠ s ⊞ n ⊠ t)) refl (d.m ÷ 1)
    (d.n ÷ 1) x y x' y')) refl
    (abs_add_le first second))
    (le₅ ℚ_ordered (λ u v m n r. u ⊞ v) (λ u v m n r. (m ⊞ n) ⊠ r) (λ u v m n r. le u (m ⊠ r) ∷ le v (n ⊠ r) ∷ []) refl
    (abs first) (abs second) m n r (multiple_at_most d.m (x -ℚ x') r h, (multiple_at_most d.n (y -ℚ y') r k, tt))))

pub value_is_steep : (n : ℕ) → ((t u : ℚ) → abs (sine_of_turn n t -ℚ sine_of_turn n u) ≤ℚ pi_sum n *ℚ abs (t -ℚ u)) → whole 0 ≤ℚ pi_sum n
    → (f : FormalPoint) (x y x' y' r : ℚ) → abs (x -ℚ x') ≤ℚ r → abs (y -ℚ y') ≤ℚ r
    → abs (value_at n f x y -ℚ value_at n f x' y') ≤ℚ pi_sum n *ℚ (whole (reach f) *ℚ r)
value_is_steep n steep nonneg f x y x' y' r h k =
    moved ℚ_ordered refl (ring₃ ℚ_ring (λ p r s. (p ⊠ r) ⊠ s) (λ p r s. p ⊠ (s ⊠ r)) refl (pi_sum n) r (whole (reach f)))
    (terms_steep (λ d. sine_of_turn n (turn_of d x y)) (λ d. sine_of_turn n (turn_of d x' y')) (pi_sum n *ℚ r) near (terms f))
  where
    near : (d : Dir) → abs (sine_of_turn n (turn_of d x y) -ℚ sine_of_turn n (turn_of d x' y')) ≤ℚ pi_sum n *ℚ r *ℚ whole (dir_reach d)
    near d =
        let turned = abs (turn_of d x y -ℚ turn_of d x' y') in
        le_trans (abs (sine_of_turn n (turn_of d x y) -ℚ sine_of_turn n (turn_of d x' y'))) (pi_sum n *ℚ turned) (pi_sum n *ℚ r *ℚ whole (dir_reach d))
        (steep (turn_of d x y) (turn_of d x' y'))
        (moved ℚ_ordered refl (ring₃ ℚ_ring (λ p r s. p ⊠ (s ⊠ r)) (λ p r s. (p ⊠ r) ⊠ s) refl (pi_sum n) r (whole (dir_reach d)))
        (mul_mono ℚ_ordered (pi_sum n) turned (whole (dir_reach d) *ℚ r) nonneg (turn_moves d x y x' y' r h k)))
