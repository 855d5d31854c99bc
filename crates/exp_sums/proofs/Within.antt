-- How far the directions of the results lie.
use Rattle.std.proofs.Common.{ℕ, ◌+◌, ◌≤◌, List, [], ◌∷◌, ◌++◌, map, ℤ, pos, ◌+ℤ◌, sym, subst, arith}
use Rattle.std.specs.List.{flat_map, All}
use Rattle.std.proofs.lemmas.Int.{ints}
use Rattle.std.proofs.lemmas.List.Elements.{All-nil, All-cons, All-head, All-tail, All-append, All-weaker, All-map}
use Rattle.exp_sums.specs.declared.direction.Dir.{Dir}
use Rattle.exp_sums.specs.declared.terms.Term.{Term}
use Rattle.exp_sums.specs.Terms.{dir_cmp, put_term, normal}
use Rattle.exp_sums.specs.Canonical.{cons_has, chosen}
use Rattle.exp_sums.specs.FormalPoint.{FormalPoint, terms, point_of, terms-point_of, term_of, term_neg, term_conj, term_product, dir_neg, dir_sum, zero_dir}
use Rattle.exp_sums.specs.FormalPoint.{monomial, zero_point, ◌+ₚ◌, negative, ◌*ₚ◌, conj}
use Rattle.exp_sums.specs.Limits.{IsNear, IsWithin}

-- a property of directions that each term of a list has
module _ (P : Dir → Type 0) where
  abbrev OfDirs : List Term → Type 0
  OfDirs ts = All (λ t. P t.dir) ts

  cons_dir : (t : Term) (ts : List Term) → P t.dir → OfDirs ts → OfDirs (t ∷ ts)
  cons_dir t ts h k = All-cons (λ (u : Term). P u.dir) t ts h k

  pub dirs-put : (t : Term) (us : List Term) → P t.dir → OfDirs us → OfDirs (put_term t us)
  dirs-put t [] h k = cons_has OfDirs t [] (λ _. cons_dir t [] h k) (λ _. k)
  dirs-put t (u ∷ us) h k =
      let sum : Term = term_of (t.c +ℤ u.c) u.dir in
      let head = All-head (λ (v : Term). P v.dir) u us k in
      let tail = All-tail (λ (v : Term). P v.dir) u us k in
      chosen OfDirs (dir_cmp t.dir u.dir) _ _ _
      (λ _. cons_has OfDirs t (u ∷ us) (λ _. cons_dir t (u ∷ us) h k) (λ _. k))
      (λ _. cons_has OfDirs sum us (λ _. cons_dir sum us head tail) (λ _. tail))
      (λ _. cons_dir u (put_term t us) head (dirs-put t us h tail))

  pub dirs-normal : (ts : List Term) → OfDirs ts → OfDirs (normal ts)
  dirs-normal [] h = h
  dirs-normal (t ∷ ts) h = dirs-put t (normal ts) (All-head (λ (u : Term). P u.dir) t ts h) (dirs-normal ts (All-tail (λ (u : Term). P u.dir) t ts h))

  pub dirs-point_of : (ts : List Term) → OfDirs ts → OfDirs (terms (point_of ts))
  dirs-point_of ts h = subst OfDirs (sym (terms-point_of ts)) (dirs-normal ts h)

near_sum : (a b : ℕ) (d e : Dir) → IsNear a d → IsNear b e → IsNear (a + b) (dir_sum d e)
near_sum a b d e h k = record { m = omega (arith, ints, h.m, k.m); n = omega (arith, ints, h.n, k.n) }

pub near_neg : (b : ℕ) (d : Dir) → IsNear b d → IsNear b (dir_neg d)
near_neg b d h = record { m = omega (arith, ints, h.m); n = omega (arith, ints, h.n) }

pub IsWithin-weaker : (a b : ℕ) (p : FormalPoint) → a ≤ b → IsWithin a p → IsWithin b p
IsWithin-weaker a b p le h =
    All-weaker (λ (t : Term). IsNear a t.dir) (λ (t : Term). IsNear b t.dir)
    (λ t k. record { m = omega (arith, k.m, le); n = omega (arith, k.n, le) }) (terms p) h

pub IsWithin-monomial : (b : ℕ) (c : ℤ) (d : Dir) → IsNear b d → IsWithin b (monomial c d)
unfolding monomial
IsWithin-monomial b c d h = dirs-point_of (IsNear b) (term_of c d ∷ []) (cons_dir (IsNear b) (term_of c d) [] h (All-nil (λ (t : Term). IsNear b t.dir)))

pub IsWithin-zero_point : (b : ℕ) → IsWithin b zero_point
IsWithin-zero_point b = IsWithin-monomial b (pos 0) zero_dir (record { m = omega arith; n = omega arith })

pub IsWithin-+ₚ : (b : ℕ) (p q : FormalPoint) → IsWithin b p → IsWithin b q → IsWithin b (p +ₚ q)
unfolding ◌+ₚ◌
IsWithin-+ₚ b p q h k = dirs-point_of (IsNear b) (terms p ++ terms q) (All-append (λ (t : Term). IsNear b t.dir) (terms p) (terms q) h k)

pub IsWithin-negative : (b : ℕ) (p : FormalPoint) → IsWithin b p → IsWithin b (negative p)
unfolding negative
IsWithin-negative b p h = dirs-point_of (IsNear b) (map term_neg (terms p)) (All-map (λ (t : Term). IsNear b t.dir) term_neg (terms p) h)

pub IsWithin_difference : (b : ℕ) (p q : FormalPoint) → IsWithin b p → IsWithin b q → IsWithin b (p +ₚ negative q)
IsWithin_difference b p q h k = IsWithin-+ₚ b p (negative q) h (IsWithin-negative b q k)

pub IsWithin-conj : (b : ℕ) (p : FormalPoint) → IsWithin b p → IsWithin b (conj p)
unfolding conj
IsWithin-conj b p h =
    dirs-point_of (IsNear b) (map term_conj (terms p))
    (All-map (λ (t : Term). IsNear b t.dir) term_conj (terms p)
    (All-weaker (λ (t : Term). IsNear b t.dir) (λ (t : Term). IsNear b (dir_neg t.dir)) (λ t k. near_neg b t.dir k) (terms p) h))

products_near : (a b : ℕ) (ts us : List Term) → All (λ (t : Term). IsNear a t.dir) ts → All (λ (u : Term). IsNear b u.dir) us →
    All (λ (t : Term). IsNear (a + b) t.dir) (flat_map (λ t. map (term_product t) us) ts)
products_near a b [] us h k = All-nil (λ (t : Term). IsNear (a + b) t.dir)
products_near a b (t ∷ ts) us h k =
    All-append (λ (v : Term). IsNear (a + b) v.dir) (map (term_product t) us) (flat_map (λ v. map (term_product v) us) ts)
    (All-map (λ (v : Term). IsNear (a + b) v.dir) (term_product t) us
    (All-weaker (λ (u : Term). IsNear b u.dir) (λ (u : Term). IsNear (a + b) (dir_sum t.dir u.dir))
    (λ u g. near_sum a b t.dir u.dir (All-head (λ (v : Term). IsNear a v.dir) t ts h) g) us k))
    (products_near a b ts us (All-tail (λ (v : Term). IsNear a v.dir) t ts h) k)

pub IsWithin-*ₚ : (a b : ℕ) (p q : FormalPoint) → IsWithin a p → IsWithin b q → IsWithin (a + b) (p *ₚ q)
unfolding ◌*ₚ◌
IsWithin-*ₚ a b p q h k = dirs-point_of (IsNear (a + b)) (flat_map (λ t. map (term_product t) (terms q)) (terms p)) (products_near a b (terms p) (terms q) h k)
