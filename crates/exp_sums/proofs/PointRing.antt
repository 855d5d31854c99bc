-- Formal points are a commutative ring, in which conj keeps sums and products and inverts directions.
use Rattle.std.proofs.Common.{◌≡◌, ℕ, ℤ, pos, ◌+ℤ◌, ◌*ℤ◌, neg_ℤ, refl, sym, ap, ap₂, ◌∙◌, arith}
use Rattle.std.proofs.lemmas.Int.{ints}
use Rattle.std.proofs.Math.IntN.{+ℤ_idr, +ℤ_invr}
use Rattle.ring_solver.specs.Ring.{CommutativeRing}
use Rattle.ring_solver.specs.Expression.{◌⊞◌, ◌⊠◌, opp}
use Rattle.ring_solver.proofs.Solver.{ring₁, ring₂, ring₃}
use Rattle.ring_solver.proofs.Whole.{ℤ_ring, ℤ_image}
use Rattle.exp_sums.specs.declared.direction.Dir.{Dir}
use Rattle.exp_sums.specs.FormalPoint.{FormalPoint, dir_sum, dir_neg, zero_dir, monomial, whole_point, zero_point, one_point, ◌+ₚ◌, negative, ◌*ₚ◌, conj}
use Rattle.exp_sums.specs.Weigh.{weigh_ints}
use Rattle.exp_sums.proofs.Directions.{dir_sum_comm, dir_sum_assoc, dir_sum-zero, dir_sum-neg, dir_neg-neg, dir_neg-sum}
use Rattle.exp_sums.proofs.Weigh.{weigh-+ₚ, weigh-negative, weigh-*ₚ, weigh-conj, weigh-monomial, weigh-zero_point, weigh-one_point, weigh_exchanged}
use Rattle.exp_sums.proofs.Weigh.{weigh_summed}
use Rattle.exp_sums.proofs.SamePoint.{same_by_weight}

-- ---- sums in the whole numbers at each operation
at-+ₚ : (f : Dir → ℤ) (p q : FormalPoint) → weigh_ints f (p +ₚ q) ≡ weigh_ints f p +ℤ weigh_ints f q
at-+ₚ = weigh-+ₚ ℤ_ring ℤ_image

at-negative : (f : Dir → ℤ) (p : FormalPoint) → weigh_ints f (negative p) ≡ neg_ℤ (weigh_ints f p)
at-negative = weigh-negative ℤ_ring ℤ_image

at-*ₚ : (f : Dir → ℤ) (p q : FormalPoint) → weigh_ints f (p *ₚ q) ≡ weigh_ints (λ d. weigh_ints (λ e. f (dir_sum d e)) q) p
at-*ₚ = weigh-*ₚ ℤ_ring ℤ_image

at-conj : (f : Dir → ℤ) (p : FormalPoint) → weigh_ints f (conj p) ≡ weigh_ints (λ d. f (dir_neg d)) p
at-conj = weigh-conj ℤ_ring ℤ_image

at-monomial : (f : Dir → ℤ) (c : ℤ) (d : Dir) → weigh_ints f (monomial c d) ≡ c *ℤ f d
at-monomial = weigh-monomial ℤ_ring ℤ_image

-- ---- the laws of a commutative ring
pub +ₚ_assoc : (p q r : FormalPoint) → p +ₚ q +ₚ r ≡ p +ₚ (q +ₚ r)
+ₚ_assoc p q r = same_by_weight _ _ (λ f. simp at-+ₚ (omega (arith, ints)))

pub +ₚ_comm : (p q : FormalPoint) → p +ₚ q ≡ q +ₚ p
+ₚ_comm p q = same_by_weight _ _ (λ f. simp at-+ₚ (omega (arith, ints)))

pub +ₚ-zero_point : (p : FormalPoint) → p +ₚ zero_point ≡ p
+ₚ-zero_point p = same_by_weight _ _ (λ f. at-+ₚ f p zero_point ∙ ap (λ z. weigh_ints f p +ℤ z) (weigh-zero_point ℤ_ring ℤ_image f) ∙ +ℤ_idr (weigh_ints f p))

pub +ₚ-negative : (p : FormalPoint) → p +ₚ negative p ≡ zero_point
+ₚ-negative p = same_by_weight _ _
    (λ f. at-+ₚ f p (negative p) ∙ ap (λ z. weigh_ints f p +ℤ z) (at-negative f p) ∙ +ℤ_invr (weigh_ints f p) ∙ sym (weigh-zero_point ℤ_ring ℤ_image f))

pub *ₚ_comm : (p q : FormalPoint) → p *ₚ q ≡ q *ₚ p
*ₚ_comm p q = same_by_weight _ _ (λ f.
    at-*ₚ f p q
    ∙ weigh_exchanged ℤ_ring ℤ_image (λ d e. f (dir_sum d e)) p q
    ∙ (λ i. weigh_ints (λ e. weigh_ints (λ d. f (dir_sum_comm d e i)) p) q)
    ∙ sym (at-*ₚ f q p))

pub *ₚ_assoc : (p q r : FormalPoint) → p *ₚ q *ₚ r ≡ p *ₚ (q *ₚ r)
*ₚ_assoc p q r = same_by_weight _ _ (λ f.
    at-*ₚ f (p *ₚ q) r
    ∙ at-*ₚ (λ d. weigh_ints (λ u. f (dir_sum d u)) r) p q
    ∙ (λ i. weigh_ints (λ d. weigh_ints (λ e. weigh_ints (λ u. f (dir_sum_assoc d e u i)) r) q) p)
    ∙ (λ i. weigh_ints (λ d. sym (at-*ₚ (λ e. f (dir_sum d e)) q r) i) p)
    ∙ sym (at-*ₚ f p (q *ₚ r)))

pub *ₚ-one_point : (p : FormalPoint) → p *ₚ one_point ≡ p
*ₚ-one_point p = same_by_weight _ _ (λ f.
    at-*ₚ f p one_point
    ∙ (λ i. weigh_ints (λ d. weigh-one_point ℤ_ring ℤ_image (λ e. f (dir_sum d e)) i) p)
    ∙ (λ i. weigh_ints (λ d. f (dir_sum-zero d i)) p))

pub *ₚ-+ₚ : (p q r : FormalPoint) → p *ₚ (q +ₚ r) ≡ p *ₚ q +ₚ p *ₚ r
*ₚ-+ₚ p q r = same_by_weight _ _ (λ f.
    at-*ₚ f p (q +ₚ r)
    ∙ (λ i. weigh_ints (λ d. at-+ₚ (λ e. f (dir_sum d e)) q r i) p)
    ∙ weigh_summed ℤ_ring ℤ_image (λ d. weigh_ints (λ e. f (dir_sum d e)) q) (λ d. weigh_ints (λ e. f (dir_sum d e)) r) p
    ∙ sym (at-+ₚ f (p *ₚ q) (p *ₚ r) ∙ ap₂ ◌+ℤ◌ (at-*ₚ f p q) (at-*ₚ f p r)))

pub monomial-+ₚ : (b c : ℤ) (d : Dir) → monomial (b +ℤ c) d ≡ monomial b d +ₚ monomial c d
monomial-+ₚ b c d = same_by_weight _ _ (λ f.
    at-monomial f (b +ℤ c) d
    ∙ ring₃ ℤ_ring (λ b c x. (b ⊞ c) ⊠ x) (λ b c x. b ⊠ x ⊞ c ⊠ x) refl b c (f d)
    ∙ sym (at-+ₚ f (monomial b d) (monomial c d) ∙ ap₂ ◌+ℤ◌ (at-monomial f b d) (at-monomial f c d)))

-- formal points as a commutative ring, for the ring solver
abbrev pub point_ring : CommutativeRing
point_ring = record {
  Element = FormalPoint;
  whole = whole_point;
  add = ◌+ₚ◌;
  mul = ◌*ₚ◌;
  neg = negative;
  add_assoc = +ₚ_assoc;
  add_comm = +ₚ_comm;
  add-zero = +ₚ-zero_point;
  add-neg = +ₚ-negative;
  mul_assoc = *ₚ_assoc;
  mul_comm = *ₚ_comm;
  mul-one = *ₚ-one_point;
  mul-add = *ₚ-+ₚ;
  whole-add = λ m n. monomial-+ₚ (pos m) (pos n) zero_dir;
}

pub negative-negative : (p : FormalPoint) → negative (negative p) ≡ p
negative-negative p = ring₁ point_ring (λ x. opp (opp x)) (λ x. x) refl p

-- ---- multiples of directions
pub monomial-negative : (c : ℤ) (d : Dir) → negative (monomial c d) ≡ monomial (neg_ℤ c) d
monomial-negative c d = same_by_weight _ _ (λ f.
    at-negative f (monomial c d) ∙ ap neg_ℤ (at-monomial f c d) ∙ ring₂ ℤ_ring (λ c x. opp (c ⊠ x)) (λ c x. opp c ⊠ x) refl c (f d)
    ∙ sym (at-monomial f (neg_ℤ c) d))

pub monomial-*ₚ : (b c : ℤ) (d e : Dir) → monomial b d *ₚ monomial c e ≡ monomial (b *ℤ c) (dir_sum d e)
monomial-*ₚ b c d e = same_by_weight _ _ (λ f.
    at-*ₚ f (monomial b d) (monomial c e)
    ∙ at-monomial (λ u. weigh_ints (λ v. f (dir_sum u v)) (monomial c e)) b d
    ∙ ap (λ z. b *ℤ z) (at-monomial (λ v. f (dir_sum d v)) c e)
    ∙ ring₃ ℤ_ring (λ b c x. b ⊠ (c ⊠ x)) (λ b c x. (b ⊠ c) ⊠ x) refl b c (f (dir_sum d e))
    ∙ sym (at-monomial f (b *ℤ c) (dir_sum d e)))

pub monomial-conj : (c : ℤ) (d : Dir) → conj (monomial c d) ≡ monomial c (dir_neg d)
monomial-conj c d = same_by_weight _ _ (λ f. at-conj f (monomial c d) ∙ at-monomial (λ e. f (dir_neg e)) c d ∙ sym (at-monomial f c (dir_neg d)))

-- a direction times its conjugate is one
pub direction_times_conj : (d : Dir) → monomial (pos 1) d *ₚ conj (monomial (pos 1) d) ≡ one_point
direction_times_conj d =
    ap (λ p. monomial (pos 1) d *ₚ p) (monomial-conj (pos 1) d)
    ∙ monomial-*ₚ (pos 1) (pos 1) d (dir_neg d)
    ∙ ap (monomial (pos 1)) (dir_sum-neg d)

-- ---- conj is a map of rings, and its own inverse
pub conj-conj : (p : FormalPoint) → conj (conj p) ≡ p
conj-conj p = same_by_weight _ _ (λ f.
    at-conj f (conj p) ∙ at-conj (λ d. f (dir_neg d)) p ∙ (λ i. weigh_ints (λ d. f (dir_neg-neg d i)) p))

pub conj-whole_point : (n : ℕ) → conj (whole_point n) ≡ whole_point n
conj-whole_point n = monomial-conj (pos n) zero_dir

pub conj-+ₚ : (p q : FormalPoint) → conj (p +ₚ q) ≡ conj p +ₚ conj q
conj-+ₚ p q = same_by_weight _ _ (λ f.
    at-conj f (p +ₚ q) ∙ at-+ₚ (λ d. f (dir_neg d)) p q ∙ sym (at-+ₚ f (conj p) (conj q) ∙ ap₂ ◌+ℤ◌ (at-conj f p) (at-conj f q)))

pub conj-negative : (p : FormalPoint) → conj (negative p) ≡ negative (conj p)
conj-negative p = same_by_weight _ _ (λ f.
    at-conj f (negative p) ∙ at-negative (λ d. f (dir_neg d)) p ∙ sym (at-negative f (conj p) ∙ ap neg_ℤ (at-conj f p)))

pub conj-*ₚ : (p q : FormalPoint) → conj (p *ₚ q) ≡ conj p *ₚ conj q
conj-*ₚ p q = same_by_weight _ _ (λ f.
    at-conj f (p *ₚ q)
    ∙ at-*ₚ (λ d. f (dir_neg d)) p q
    ∙ (λ i. weigh_ints (λ d. weigh_ints (λ e. f (dir_neg-sum d e i)) q) p)
    ∙ (λ i. weigh_ints (λ d. sym (at-conj (λ e. f (dir_sum (dir_neg d) e)) q) i) p)
    ∙ sym (at-*ₚ f (conj p) (conj q) ∙ at-conj (λ d. weigh_ints (λ e. f (dir_sum d e)) (conj q)) p))
