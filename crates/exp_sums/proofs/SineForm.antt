-- What sums over sine forms are, and so their coefficients, and which operations sine forms keep.
use Rattle.std.proofs.Common.{◌≡◌, ◌≢◌, Bool, true, false, true≢false, List, [], ◌∷◌, ℤ, zero, suc, pos, negsuc, ◌+ℤ◌, ◌-ℤ◌, ◌*ℤ◌, neg_ℤ, if◌then◌else◌}
use Rattle.std.proofs.Common.{refl, sym, ap, ap₂, ◌∙◌, arith}
use Rattle.std.specs.List.{flat_map}
use Rattle.std.proofs.lemmas.Int.{ints}
use Rattle.ring_solver.specs.Ring.{CommutativeRing, Image}
use Rattle.ring_solver.specs.Expression.{num, ◌⊠◌, opp}
use Rattle.ring_solver.proofs.Solver.{ring₁, ring₂}
use Rattle.ring_solver.proofs.Whole.{ℤ_ring, ℤ_image}
use Rattle.exp_sums.specs.declared.direction.Dir.{Dir}
use Rattle.exp_sums.specs.declared.terms.Term.{Term}
use Rattle.exp_sums.specs.Terms.{is_same_dir}
use Rattle.exp_sums.specs.FormalPoint.{FormalPoint, terms, coefficient, term_neg, term_conj, dir_neg, ◌+ₚ◌, negative}
use Rattle.exp_sums.specs.Weigh.{weigh_terms, weigh, weigh_ints}
use Rattle.exp_sums.specs.SineForm.{is_upper, sine_terms, sine_form}
use Rattle.exp_sums.proofs.Directions.{is_same_dir-Decides}
use Rattle.exp_sums.specs.Laws.{SineFormsAddUp}
use Rattle.exp_sums.proofs.Weigh.{weigh_terms-append, weigh-point_of, weigh-+ₚ, weigh-negative, weigh_same, weigh_scaled, weigh_summed}
use Rattle.exp_sums.proofs.SamePoint.{only_at, only_conjugate, coefficient_is, same_by_weight}

-- ---- the half of the directions that is upper
-- a direction and its conjugate are not both upper
conjugate_is_lower : (d : Dir) → is_upper d ≡ true → is_upper (dir_neg d) ≡ false
conjugate_is_lower d h = by_numbers d.m d.n h
  where
    by_numbers : (m n : ℤ) → is_upper (record { m = m; n = n }) ≡ true → is_upper (record { m = neg_ℤ m; n = neg_ℤ n }) ≡ false
    by_numbers (pos zero) (pos zero) h = absurd (true≢false (sym h))
    by_numbers (pos zero) (pos (suc n)) h = refl
    by_numbers (pos zero) (negsuc n) h = absurd (true≢false (sym h))
    by_numbers (pos (suc m)) n h = refl
    by_numbers (negsuc m) n h = absurd (true≢false (sym h))

-- an upper direction and another one that is not are different
apart : (d e : Dir) → is_upper d ≢ is_upper e → only_at d e ≡ pos 0
apart d e differ = at_test (is_same_dir d e) refl
  where
    at_test : (b : Bool) → is_same_dir d e ≡ b → (if b then pos 1 else pos 0) ≡ pos 0
    at_test true h = absurd (differ (ap is_upper ((is_same_dir-Decides d e).0 h)))
    at_test false h = refl

true_and_false : (a b : Bool) → a ≡ true → b ≡ false → a ≢ b
true_and_false a b h k e = true≢false (sym h ∙ e ∙ k)

false_and_true : (a b : Bool) → a ≡ false → b ≡ true → a ≢ b
false_and_true a b h k e = true≢false (sym k ∙ sym e ∙ h)

module _ (K : CommutativeRing) (image : Image K) where
  -- what a direction counts in a sum over a sine form
  abbrev pub on_half : (Dir → K.Element) → Dir → K.Element
  on_half f d = if is_upper d then f d else (if is_upper (dir_neg d) then K.neg (f (dir_neg d)) else K.whole 0)

  weigh-sine_terms : (f : Dir → K.Element) (t : Term) → weigh_terms K image f (sine_terms t) ≡ K.mul (image.of t.c) (on_half f t.dir)
  weigh-sine_terms f t = by_tests (is_upper t.dir) (is_upper (dir_neg t.dir))
    where
      by_tests : (a b : Bool) → weigh_terms K image f (if a then t ∷ [] else (if b then term_neg (term_conj t) ∷ [] else [])) ≡ K.mul (image.of t.c)
          (if a then f t.dir else (if b then K.neg (f (dir_neg t.dir)) else K.whole 0))
      by_tests true b = K.add-zero (K.mul (image.of t.c) (f t.dir))
      by_tests false true =
          K.add-zero (K.mul (image.of (neg_ℤ t.c)) (f (dir_neg t.dir)))
          ∙ ap (λ a. K.mul a (f (dir_neg t.dir))) (image.of-neg t.c)
          ∙ ring₂ K (λ c x. opp c ⊠ x) (λ c x. c ⊠ opp x) refl (image.of t.c) (f (dir_neg t.dir))
      by_tests false false = ring₁ K (λ c. num 0) (λ c. c ⊠ num 0) refl (image.of t.c)

  weigh_terms-sines : (f : Dir → K.Element) (ts : List Term) → weigh_terms K image f (flat_map sine_terms ts) ≡ weigh_terms K image (on_half f) ts
  weigh_terms-sines f [] = refl
  weigh_terms-sines f (t ∷ ts) = weigh_terms-append K image f (sine_terms t) (flat_map sine_terms ts)
      ∙ ap₂ K.add (weigh-sine_terms f t) (weigh_terms-sines f ts)

  pub weigh-sine_form : (f : Dir → K.Element) (p : FormalPoint) → weigh K image f (sine_form p) ≡ weigh K image (on_half f) p
  unfolding sine_form
  weigh-sine_form f p = weigh-point_of K image f (flat_map sine_terms (terms p)) ∙ weigh_terms-sines f (terms p)

-- the same over the whole numbers
in_ints : (f : Dir → ℤ) (p : FormalPoint) → weigh_ints f (sine_form p) ≡ weigh_ints (on_half ℤ_ring ℤ_image f) p
in_ints = weigh-sine_form ℤ_ring ℤ_image

-- ---- the coefficients of a sine form
-- at an upper direction it counts that direction less its conjugate
at_upper : (d : Dir) → is_upper d ≡ true → (e : Dir) → on_half ℤ_ring ℤ_image (only_at d) e ≡ only_at d e +ℤ negsuc 0 *ℤ only_at (dir_neg d) e
at_upper d h e = by_tests (is_upper e) (is_upper (dir_neg e)) refl refl
  where
    by_tests : (a b : Bool) → is_upper e ≡ a → is_upper (dir_neg e) ≡ b →
        (if a then only_at d e else (if b then neg_ℤ (only_at d (dir_neg e)) else pos 0)) ≡ only_at d e +ℤ negsuc 0 *ℤ only_at (dir_neg d) e
    by_tests true b x y =
        let none = apart (dir_neg d) e (false_and_true _ _ (conjugate_is_lower d h) x) in
        omega (arith, ints, none)
    by_tests false true x y =
        let none = apart d e (true_and_false _ _ h x) in
        let same = only_conjugate d e in
        omega (arith, ints, none, same)
    by_tests false false x y =
        let none = apart d e (true_and_false _ _ h x) in
        let none_conjugate = apart d (dir_neg e) (true_and_false _ _ h y) in
        let same = only_conjugate d e in
        omega (arith, ints, none, none_conjugate, same)

-- and at any other direction nothing
at_other : (d : Dir) → is_upper d ≡ false → (e : Dir) → on_half ℤ_ring ℤ_image (only_at d) e ≡ pos 0 *ℤ only_at d e
at_other d h e = by_tests (is_upper e) (is_upper (dir_neg e)) refl refl
  where
    by_tests : (a b : Bool) → is_upper e ≡ a → is_upper (dir_neg e) ≡ b →
        (if a then only_at d e else (if b then neg_ℤ (only_at d (dir_neg e)) else pos 0)) ≡ pos 0 *ℤ only_at d e
    by_tests true b x y =
        let none = apart d e (false_and_true _ _ h x) in
        omega (arith, ints, none)
    by_tests false true x y =
        let none = apart d (dir_neg e) (false_and_true _ _ h y) in
        omega (arith, ints, none)
    by_tests false false x y = omega (arith, ints)

pub coefficient-sine_form : (p : FormalPoint) (d : Dir) →
    coefficient (sine_form p) d ≡ (if is_upper d then coefficient p d -ℤ coefficient p (dir_neg d) else pos 0)
coefficient-sine_form p d = coefficient_is (sine_form p) d ∙ in_ints (only_at d) p ∙ by_test (is_upper d) refl
  where
    by_test : (a : Bool) → is_upper d ≡ a →
        weigh_ints (on_half ℤ_ring ℤ_image (only_at d)) p ≡ (if a then coefficient p d -ℤ coefficient p (dir_neg d) else pos 0)
    by_test true h =
        let summed = weigh_summed ℤ_ring ℤ_image (only_at d) (λ e. negsuc 0 *ℤ only_at (dir_neg d) e) p in
        let scaled = weigh_scaled ℤ_ring ℤ_image (only_at (dir_neg d)) (negsuc 0) p in
        weigh_same ℤ_ring ℤ_image _ _ (at_upper d h) p ∙ summed ∙ omega (arith, ints, scaled, coefficient_is p d, coefficient_is p (dir_neg d))
    by_test false h =
        let scaled = weigh_scaled ℤ_ring ℤ_image (only_at d) (pos 0) p in
        weigh_same ℤ_ring ℤ_image _ _ (at_other d h) p ∙ scaled ∙ omega (arith, ints)

-- ---- sine forms are linear
sine_form-+ₚ : (p q : FormalPoint) → sine_form (p +ₚ q) ≡ sine_form p +ₚ sine_form q
sine_form-+ₚ p q = same_by_weight _ _ (λ f.
    let half = on_half ℤ_ring ℤ_image f in
    in_ints f (p +ₚ q)
    ∙ weigh-+ₚ ℤ_ring ℤ_image half p q
    ∙ sym (weigh-+ₚ ℤ_ring ℤ_image f (sine_form p) (sine_form q) ∙ ap₂ ◌+ℤ◌ (in_ints f p) (in_ints f q)))

sine_form-negative : (p : FormalPoint) → sine_form (negative p) ≡ negative (sine_form p)
sine_form-negative p = same_by_weight _ _ (λ f.
    let half = on_half ℤ_ring ℤ_image f in
    in_ints f (negative p)
    ∙ weigh-negative ℤ_ring ℤ_image half p
    ∙ sym (weigh-negative ℤ_ring ℤ_image f (sine_form p) ∙ ap neg_ℤ (in_ints f p)))

pub sine_forms_linear : SineFormsAddUp
sine_forms_linear = record {
  of_sum = sine_form-+ₚ;
  of_difference = λ p q. sine_form-+ₚ p (negative q) ∙ ap (λ r. sine_form p +ₚ r) (sine_form-negative q);
}
