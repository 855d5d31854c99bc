-- Gaps of one crossing more.
use Rattle.std.proofs.Common.{◌≡◌, refl, sym, ◌∙◌, subst, ℕ, zero, suc, ◌+◌, ◌<◌, List, [], ◌∷◌, ◌++◌, length, get_or, take, true, false, ℤ, ◌≤ℤ◌, arith}
use Rattle.std.proofs.Common.{length-append}
use Rattle.std.specs.Int.{int_min, int_max}
use Rattle.std.specs.List.{Any}
use Rattle.std.proofs.lemmas.Int.{ints, clamps}
use Rattle.std.proofs.lemmas.List.{take_more, get_or_append_left}
use Rattle.std.proofs.lemmas.List.Elements.{All-nil, All-cons, All-tail, All-append, All-weaker}
use Rattle.std.proofs.lemmas.List.Quantifiers.{Any-push}
use Rattle.directed_fixed.proofs.Rounding.{outer_has}
use Rattle.bounce_path.specs.declared.crossing.Crossing.{Crossing}
use Rattle.bounce_path.specs.declared.gap.Gap.{Gap}
use Rattle.bounce_path.specs.Crossings.{IsGap}

-- what some element has, it has in a longer list
any_begun : {X : Type 0} (P : X → Type 0) (xs ys : List X) → Any P xs → Any P (xs ++ ys)
any_begun P xs ys h =
    (h.0, h.1, omega (arith, h.2, length-append xs ys), get_or_append_left xs ys h.1 h.0 h.2 ∙ h.3, h.4)

-- and where the first element stands twice, in the list without it
any_twice : {X : Type 0} (P : X → Type 0) (x : X) (xs : List X) → Any P (x ∷ (x ∷ xs)) → Any P (x ∷ xs)
any_twice P x xs (zero, y, below, is, h) = (zero, y, omega arith, is, h)
any_twice P x xs (suc k, y, below, is, h) = (k, y, omega (arith, below), is, h)

abbrev gap_of_one : Crossing → Gap
gap_of_one c = record { floor = c.lower.hi; ceiling = c.upper.lo }

abbrev with_one : Gap → Crossing → Gap
with_one g c = record { floor = int_max g.floor c.lower.hi; ceiling = int_min g.ceiling c.upper.lo }

same : (z : ℤ) → z ≤ℤ z
same z = omega (arith, ints)

pub gap_one : (c : Crossing) → IsGap (c ∷ []) (gap_of_one c)
gap_one c = record {
  floor_all = All-cons (λ (t : Crossing). t.lower.hi ≤ℤ c.lower.hi) c [] (same c.lower.hi) (All-nil (λ (t : Crossing). t.lower.hi ≤ℤ c.lower.hi));
  floor_one = Any-push (λ (t : Crossing). t.lower.hi ≡ c.lower.hi) [] c refl;
  ceiling_all = All-cons (λ (t : Crossing). c.upper.lo ≤ℤ t.upper.lo) c [] (same c.upper.lo) (All-nil (λ (t : Crossing). c.upper.lo ≤ℤ t.upper.lo));
  ceiling_one = Any-push (λ (t : Crossing). t.upper.lo ≡ c.upper.lo) [] c refl;
}

gap_more : (cs : List Crossing) (g : Gap) (c : Crossing) → IsGap cs g → IsGap (cs ++ c ∷ []) (with_one g c)
gap_more cs g c h =
    let floor = int_max g.floor c.lower.hi in
    let ceiling = int_min g.ceiling c.upper.lo in
    let F : Crossing → Type 0 = λ t. t.lower.hi ≤ℤ floor in
    let C : Crossing → Type 0 = λ t. ceiling ≤ℤ t.upper.lo in
    record {
      floor_all = All-append F cs (c ∷ []) (All-weaker (λ (t : Crossing). t.lower.hi ≤ℤ g.floor) F (λ
          (t : Crossing) h. higher g.floor c.lower.hi t.lower.hi h) cs h.floor_all)
          (All-cons F c [] (greater g.floor c.lower.hi) (All-nil F));
      floor_one = outer_has true (λ m. Any (λ (t : Crossing). t.lower.hi ≡ m) (cs ++ c ∷ [])) g.floor c.lower.hi
          (any_begun (λ (t : Crossing). t.lower.hi ≡ g.floor) cs (c ∷ []) h.floor_one) (Any-push (λ (t : Crossing). t.lower.hi ≡ c.lower.hi) cs c refl);
      ceiling_all = All-append C cs (c ∷ []) (All-weaker (λ (t : Crossing). g.ceiling ≤ℤ t.upper.lo) C (λ
          (t : Crossing) h. lower g.ceiling c.upper.lo t.upper.lo h) cs h.ceiling_all)
          (All-cons C c [] (lesser g.ceiling c.upper.lo) (All-nil C));
      ceiling_one = outer_has false (λ m. Any (λ (t : Crossing). t.upper.lo ≡ m) (cs ++ c ∷ [])) g.ceiling c.upper.lo
          (any_begun (λ (t : Crossing). t.upper.lo ≡ g.ceiling) cs (c ∷ []) h.ceiling_one) (Any-push (λ (t : Crossing). t.upper.lo ≡ c.upper.lo) cs c refl);
    }
  where
    higher : (a b c : ℤ) → c ≤ℤ a → c ≤ℤ int_max a b
    higher a b c h = omega (arith, ints, clamps)

    greater : (a b : ℤ) → b ≤ℤ int_max a b
    greater a b = omega (arith, ints, clamps)

    lower : (a b c : ℤ) → a ≤ℤ c → int_min a b ≤ℤ c
    lower a b c h = omega (arith, ints, clamps)

    lesser : (a b : ℤ) → int_min a b ≤ℤ b
    lesser a b = omega (arith, ints, clamps)

-- with the next crossing
pub gap_next : (first : Crossing) (cs : List Crossing) (i : ℕ) (d : Crossing) (g next : Gap) → i < length cs → next ≡ with_one g (get_or cs i d)
    → IsGap (first ∷ take i cs) g → IsGap (first ∷ take (i + 1) cs) next
gap_next first cs i d g next within is h =
    subst (λ g. IsGap (first ∷ take (i + 1) cs) g) (sym is)
    (subst (λ ts. IsGap (first ∷ ts) (with_one g (get_or cs i d))) (sym (take_more cs i d within)) (gap_more (first ∷ take i cs) g (get_or cs i d) h))

-- all crossings, where the first one is that of the list
pub gap_all : (cs : List Crossing) (d : Crossing) (g : Gap) → 0 < length cs → IsGap (get_or cs 0 d ∷ cs) g → IsGap cs g
gap_all [] d g some h = absurd (omega (arith, some))
gap_all (c ∷ cs) d g some h = record {
  floor_all = All-tail (λ (t : Crossing). t.lower.hi ≤ℤ g.floor) c (c ∷ cs) h.floor_all;
  floor_one = any_twice (λ (t : Crossing). t.lower.hi ≡ g.floor) c cs h.floor_one;
  ceiling_all = All-tail (λ (t : Crossing). g.ceiling ≤ℤ t.upper.lo) c (c ∷ cs) h.ceiling_all;
  ceiling_one = any_twice (λ (t : Crossing). t.upper.lo ≡ g.ceiling) c cs h.ceiling_one;
}
