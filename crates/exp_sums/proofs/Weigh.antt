-- What the sums over formal points are at each operation.
use Rattle.std.proofs.Common.{◌≡◌, List, [], ◌∷◌, ◌++◌, map, ℤ, pos, ◌+ℤ◌, refl, sym, ap, ap₂, ◌∙◌}
use Rattle.std.specs.List.{flat_map, All}
use Rattle.std.proofs.lemmas.List.Elements.{All-head, All-tail}
use Rattle.ring_solver.specs.Ring.{CommutativeRing, Image}
use Rattle.ring_solver.specs.Expression.{num, ◌⊞◌, ◌⊠◌, opp}
use Rattle.ring_solver.proofs.Polynomials.{zero-add', zero-mul', add_left_comm}
use Rattle.ring_solver.proofs.Solver.{ring, ring₁, ring₃, ring₄, ring₅}
use Rattle.exp_sums.specs.declared.direction.Dir.{Dir}
use Rattle.exp_sums.specs.declared.terms.Term.{Term}
use Rattle.exp_sums.specs.Terms.{dir_cmp, cons_term, put_term, normal}
use Rattle.exp_sums.specs.Canonical.{cons_has, chosen}
use Rattle.exp_sums.proofs.Totals.{dir_is}
use Rattle.exp_sums.specs.FormalPoint.{FormalPoint, terms, point_of, terms-point_of, term_of, term_neg, term_conj, term_product, dir_sum, dir_neg, zero_dir}
use Rattle.exp_sums.specs.FormalPoint.{monomial, zero_point, one_point, ◌+ₚ◌, negative, ◌*ₚ◌, conj}
use Rattle.exp_sums.specs.Weigh.{weigh_terms, weigh}

-- ---- steps in any ring
module _ (K : CommutativeRing) where
  add-mul-add : (a b x y : K.Element) → K.add (K.mul (K.add a b) x) y ≡ K.add (K.mul a x) (K.add (K.mul b x) y)
  add-mul-add a b x y = ring₄ K (λ a b x y. (a ⊞ b) ⊠ x ⊞ y) (λ a b x y. a ⊠ x ⊞ (b ⊠ x ⊞ y)) refl a b x y

  mul-mul-add : (a b x y : K.Element) → K.add (K.mul a (K.mul b x)) (K.mul b y) ≡ K.mul b (K.add (K.mul a x) y)
  mul-mul-add a b x y = ring₄ K (λ a b x y. a ⊠ (b ⊠ x) ⊞ b ⊠ y) (λ a b x y. b ⊠ (a ⊠ x ⊞ y)) refl a b x y

  mul_assoc-add : (a b x y : K.Element) → K.add (K.mul (K.mul a b) x) (K.mul a y) ≡ K.mul a (K.add (K.mul b x) y)
  mul_assoc-add a b x y = ring₄ K (λ a b x y. (a ⊠ b) ⊠ x ⊞ a ⊠ y) (λ a b x y. a ⊠ (b ⊠ x ⊞ y)) refl a b x y

  mul-add-add : (a x y u v : K.Element) → K.add (K.mul a (K.add x y)) (K.add u v) ≡ K.add (K.add (K.mul a x) u) (K.add (K.mul a y) v)
  mul-add-add a x y u v = ring₅ K (λ a x y u v. a ⊠ (x ⊞ y) ⊞ (u ⊞ v)) (λ a x y u v. (a ⊠ x ⊞ u) ⊞ (a ⊠ y ⊞ v)) refl a x y u v

  neg-mul-add : (a x y : K.Element) → K.add (K.mul (K.neg a) x) (K.neg y) ≡ K.neg (K.add (K.mul a x) y)
  neg-mul-add a x y = ring₃ K (λ a x y. opp a ⊠ x ⊞ opp y) (λ a x y. opp (a ⊠ x ⊞ y)) refl a x y

  neg-zero : K.neg (K.whole 0) ≡ K.whole 0
  neg-zero = ring K [] (opp (num 0)) (num 0) refl

module _ (K : CommutativeRing) (image : Image K) where
  -- ---- sums over lists of terms
  pub weigh_terms-append : (f : Dir → K.Element) (ts us : List Term) →
      weigh_terms K image f (ts ++ us) ≡ K.add (weigh_terms K image f ts) (weigh_terms K image f us)
  weigh_terms-append f [] us = sym (zero-add' K (weigh_terms K image f us))
  weigh_terms-append f (t ∷ ts) us =
      ap (K.add (K.mul (image.of t.c) (f t.dir))) (weigh_terms-append f ts us)
      ∙ sym (K.add_assoc (K.mul (image.of t.c) (f t.dir)) (weigh_terms K image f ts) (weigh_terms K image f us))

  weigh_terms-cons_term : (f : Dir → K.Element) (t : Term) (ts : List Term) →
      weigh_terms K image f (cons_term t ts) ≡ K.add (K.mul (image.of t.c) (f t.dir)) (weigh_terms K image f ts)
  weigh_terms-cons_term f t ts =
      cons_has (λ us. weigh_terms K image f us ≡ K.add (K.mul (image.of t.c) (f t.dir)) (weigh_terms K image f ts)) t ts
      (λ _. refl)
      (λ (is : t.c ≡ pos 0). rw is (rw (image.of-pos 0) (rw (zero-mul' K (f t.dir)) (sym (zero-add' K (weigh_terms K image f ts))))))

  pub weigh_terms-put : (f : Dir → K.Element) (t : Term) (us : List Term) →
      weigh_terms K image f (put_term t us) ≡ K.add (K.mul (image.of t.c) (f t.dir)) (weigh_terms K image f us)
  weigh_terms-put f t [] = weigh_terms-cons_term f t []
  weigh_terms-put f t (u ∷ us) =
      let rest = weigh_terms K image f us in
      chosen (λ vs. weigh_terms K image f vs ≡ K.add (K.mul (image.of t.c) (f t.dir)) (weigh_terms K image f (u ∷ us))) (dir_cmp t.dir u.dir) _ _ _
      (λ _. weigh_terms-cons_term f t (u ∷ us))
      (λ equal.
      weigh_terms-cons_term f (term_of (t.c +ℤ u.c) u.dir) us
      ∙ ap (λ a. K.add (K.mul a (f u.dir)) rest) (image.of-add t.c u.c)
      ∙ add-mul-add K (image.of t.c) (image.of u.c) (f u.dir) rest
      ∙ ap (λ d. K.add (K.mul (image.of t.c) (f d)) (weigh_terms K image f (u ∷ us))) (sym (dir_is t.dir u.dir equal)))
      (λ _. ap (K.add (K.mul (image.of u.c) (f u.dir))) (weigh_terms-put f t us)
      ∙ add_left_comm K (K.mul (image.of u.c) (f u.dir)) (K.mul (image.of t.c) (f t.dir)) rest)

  -- the canonical form keeps each sum
  weigh_terms-normal : (f : Dir → K.Element) (ts : List Term) → weigh_terms K image f (normal ts) ≡ weigh_terms K image f ts
  weigh_terms-normal f [] = refl
  weigh_terms-normal f (t ∷ ts) = weigh_terms-put f t (normal ts) ∙ ap (K.add (K.mul (image.of t.c) (f t.dir))) (weigh_terms-normal f ts)

  -- a common factor
  weigh_terms_scaled : (f : Dir → K.Element) (a : K.Element) (ts : List Term) → weigh_terms K image (λ d. K.mul a (f d)) ts ≡ K.mul a (weigh_terms K image f ts)
  weigh_terms_scaled f a [] = sym (K.mul_comm a (K.whole 0) ∙ zero-mul' K a)
  weigh_terms_scaled f a (t ∷ ts) =
      ap (K.add (K.mul (image.of t.c) (K.mul a (f t.dir)))) (weigh_terms_scaled f a ts)
      ∙ mul-mul-add K (image.of t.c) a (f t.dir) (weigh_terms K image f ts)

  -- a sum of two weights
  weigh_terms_summed : (f g : Dir → K.Element) (ts : List Term) →
      weigh_terms K image (λ d. K.add (f d) (g d)) ts ≡ K.add (weigh_terms K image f ts) (weigh_terms K image g ts)
  weigh_terms_summed f g [] = sym (zero-add' K (K.whole 0))
  weigh_terms_summed f g (t ∷ ts) =
      ap (K.add (K.mul (image.of t.c) (K.add (f t.dir) (g t.dir)))) (weigh_terms_summed f g ts)
      ∙ mul-add-add K (image.of t.c) (f t.dir) (g t.dir) (weigh_terms K image f ts) (weigh_terms K image g ts)

  weigh_terms_zero : (ts : List Term) → weigh_terms K image (λ d. K.whole 0) ts ≡ K.whole 0
  weigh_terms_zero [] = refl
  weigh_terms_zero (t ∷ ts) =
      ap (K.add (K.mul (image.of t.c) (K.whole 0))) (weigh_terms_zero ts) ∙ K.add-zero (K.mul (image.of t.c) (K.whole 0))
      ∙ K.mul_comm (image.of t.c) (K.whole 0) ∙ zero-mul' K (image.of t.c)

  -- two sums change places
  weigh_terms_exchanged : (f : Dir → Dir → K.Element) (ts us : List Term) →
      weigh_terms K image (λ d. weigh_terms K image (f d) us) ts ≡ weigh_terms K image (λ e. weigh_terms K image (λ d. f d e) ts) us
  weigh_terms_exchanged f [] us = sym (weigh_terms_zero us)
  weigh_terms_exchanged f (t ∷ ts) us =
      ap₂ K.add (sym (weigh_terms_scaled (f t.dir) (image.of t.c) us)) (weigh_terms_exchanged f ts us)
      ∙ sym (weigh_terms_summed (λ e. K.mul (image.of t.c) (f t.dir e)) (λ e. weigh_terms K image (λ d. f d e) ts) us)

  pub weigh_terms-neg : (f : Dir → K.Element) (ts : List Term) → weigh_terms K image f (map term_neg ts) ≡ K.neg (weigh_terms K image f ts)
  weigh_terms-neg f [] = sym (neg-zero K)
  weigh_terms-neg f (t ∷ ts) = rw (image.of-neg t.c) (rw (weigh_terms-neg f ts) (neg-mul-add K (image.of t.c) (f t.dir) (weigh_terms K image f ts)))

  weigh_terms-conj : (f : Dir → K.Element) (ts : List Term) → weigh_terms K image f (map term_conj ts) ≡ weigh_terms K image (λ d. f (dir_neg d)) ts
  weigh_terms-conj f [] = refl
  weigh_terms-conj f (t ∷ ts) = ap (K.add (K.mul (image.of t.c) (f (dir_neg t.dir)))) (weigh_terms-conj f ts)

  -- one term times a list
  weigh_terms-times : (f : Dir → K.Element) (t : Term) (us : List Term) →
      weigh_terms K image f (map (term_product t) us) ≡ K.mul (image.of t.c) (weigh_terms K image (λ e. f (dir_sum t.dir e)) us)
  weigh_terms-times f t [] = sym (K.mul_comm (image.of t.c) (K.whole 0) ∙ zero-mul' K (image.of t.c))
  weigh_terms-times f t (u ∷ us) =
      rw (image.of-mul t.c u.c)
      (rw (weigh_terms-times f t us)
      (mul_assoc-add K (image.of t.c) (image.of u.c) (f (dir_sum t.dir u.dir)) (weigh_terms K image (λ e. f (dir_sum t.dir e)) us)))

  weigh_terms-products : (f : Dir → K.Element) (ts us : List Term) →
      weigh_terms K image f (flat_map (λ t. map (term_product t) us) ts) ≡ weigh_terms K image (λ d. weigh_terms K image (λ e. f (dir_sum d e)) us) ts
  weigh_terms-products f [] us = refl
  weigh_terms-products f (t ∷ ts) us =
      weigh_terms-append f (map (term_product t) us) (flat_map (λ v. map (term_product v) us) ts)
      ∙ ap₂ K.add (weigh_terms-times f t us) (weigh_terms-products f ts us)

  -- ---- sums over formal points
  pub weigh-point_of : (f : Dir → K.Element) (ts : List Term) → weigh K image f (point_of ts) ≡ weigh_terms K image f ts
  weigh-point_of f ts = ap (weigh_terms K image f) (terms-point_of ts) ∙ weigh_terms-normal f ts

  pub weigh-monomial : (f : Dir → K.Element) (c : ℤ) (d : Dir) → weigh K image f (monomial c d) ≡ K.mul (image.of c) (f d)
  unfolding monomial
  weigh-monomial f c d = weigh-point_of f (term_of c d ∷ []) ∙ K.add-zero (K.mul (image.of c) (f d))

  pub weigh-zero_point : (f : Dir → K.Element) → weigh K image f zero_point ≡ K.whole 0
  weigh-zero_point f = weigh-monomial f (pos 0) zero_dir ∙ ap (λ a. K.mul a (f zero_dir)) (image.of-pos 0) ∙ zero-mul' K (f zero_dir)

  pub weigh-one_point : (f : Dir → K.Element) → weigh K image f one_point ≡ f zero_dir
  weigh-one_point f = weigh-monomial f (pos 1) zero_dir ∙ ap (λ a. K.mul a (f zero_dir)) (image.of-pos 1) ∙ ring₁ K (λ x. num 1 ⊠ x) (λ x. x) refl (f zero_dir)

  pub weigh-+ₚ : (f : Dir → K.Element) (p q : FormalPoint) → weigh K image f (p +ₚ q) ≡ K.add (weigh K image f p) (weigh K image f q)
  unfolding ◌+ₚ◌
  weigh-+ₚ f p q = weigh-point_of f (terms p ++ terms q) ∙ weigh_terms-append f (terms p) (terms q)

  pub weigh-negative : (f : Dir → K.Element) (p : FormalPoint) → weigh K image f (negative p) ≡ K.neg (weigh K image f p)
  unfolding negative
  weigh-negative f p = weigh-point_of f (map term_neg (terms p)) ∙ weigh_terms-neg f (terms p)

  -- of a product, sum by sum
  pub weigh-*ₚ : (f : Dir → K.Element) (p q : FormalPoint) → weigh K image f (p *ₚ q) ≡ weigh K image (λ d. weigh K image (λ e. f (dir_sum d e)) q) p
  unfolding ◌*ₚ◌
  weigh-*ₚ f p q = weigh-point_of f (flat_map (λ t. map (term_product t) (terms q)) (terms p)) ∙ weigh_terms-products f (terms p) (terms q)

  pub weigh-conj : (f : Dir → K.Element) (p : FormalPoint) → weigh K image f (conj p) ≡ weigh K image (λ d. f (dir_neg d)) p
  unfolding conj
  weigh-conj f p = weigh-point_of f (map term_conj (terms p)) ∙ weigh_terms-conj f (terms p)

  pub weigh_exchanged : (f : Dir → Dir → K.Element) (p q : FormalPoint) →
      weigh K image (λ d. weigh K image (f d) q) p ≡ weigh K image (λ e. weigh K image (λ d. f d e) p) q
  weigh_exchanged f p q = weigh_terms_exchanged f (terms p) (terms q)

  pub weigh_scaled : (f : Dir → K.Element) (a : K.Element) (p : FormalPoint) → weigh K image (λ d. K.mul a (f d)) p ≡ K.mul a (weigh K image f p)
  weigh_scaled f a p = weigh_terms_scaled f a (terms p)

  pub weigh_summed : (f g : Dir → K.Element) (p : FormalPoint) → weigh K image (λ d. K.add (f d) (g d)) p ≡ K.add (weigh K image f p) (weigh K image g p)
  weigh_summed f g p = weigh_terms_summed f g (terms p)

  -- functions that agree at each direction
  pub weigh_same : (f g : Dir → K.Element) → ((d : Dir) → f d ≡ g d) → (p : FormalPoint) → weigh K image f p ≡ weigh K image g p
  weigh_same f g same p = λ i. weigh K image (λ d. same d i) p

  -- functions that agree at the directions of a point's own terms
  weigh_terms_alike : (f g : Dir → K.Element) (ts : List Term) → All (λ (t : Term). f t.dir ≡ g t.dir) ts →
      weigh_terms K image f ts ≡ weigh_terms K image g ts
  weigh_terms_alike f g [] h = refl
  weigh_terms_alike f g (t ∷ ts) h =
      let P : Term → Type 0 = λ t. f t.dir ≡ g t.dir in
      ap₂ K.add (ap (K.mul (image.of t.c)) (All-head P t ts h)) (weigh_terms_alike f g ts (All-tail P t ts h))

  pub weigh_alike : (f g : Dir → K.Element) (p : FormalPoint) → All (λ (t : Term). f t.dir ≡ g t.dir) (terms p) →
      weigh K image f p ≡ weigh K image g p
  weigh_alike f g p h = weigh_terms_alike f g (terms p) h
