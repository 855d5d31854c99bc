-- Terms of forms by their places in the table.
use Rattle.std.proofs.Common.{◌≡◌, refl, sym, ap, ap₂, subst, subst₂, ◌∙◌, ℕ, ◌+◌, ◌<◌, ◌≤◌, List, [], ◌∷◌, ◌++◌, length, map, take, get_or, slice_index_or, to_z, of_z}
use Rattle.std.proofs.Common.{ℤ, pos, ◌+ℤ◌, ◌*ℤ◌, unsigned_abs, arith}
use Rattle.std.specs.Int.{w64}
use Rattle.std.specs.List.{All}
use Rattle.std.specs.Global.{Vec}
use Rattle.std.proofs.lemmas.Int.{ints, to_z-of_z, fits_signed_from_abs}
use Rattle.std.proofs.lemmas.List.{take_more, map-append, get_or-map, length-map}
use Rattle.std.proofs.lemmas.List.Sums.{sum_by_more_le}
use Rattle.std.proofs.lemmas.List.Elements.{All-append, All-cons, All-nil, All-weaker}
use Rattle.ring_solver.proofs.Whole.{ℤ_ring, ℤ_image}
use Rattle.exp_sums.specs.declared.direction.Dir.{Dir}
use Rattle.exp_sums.specs.declared.terms.Term.{Term}
use Rattle.exp_sums.specs.FormalPoint.{FormalPoint, zero_dir, zero_point}
use Rattle.exp_sums.specs.Limits.{terms_weight}
use Rattle.exp_sums.specs.Weigh.{weigh_terms}
use Rattle.exp_sums.proofs.Weigh.{weigh_terms-append}
use Rattle.exp_sums.proofs.Weights.{terms_weight-append}
use Rattle.sine_fixed.proofs.Weighing.{IsStep}
use Rattle.defining_functions.specs.Kept.{AreWithinLimits}
use Rattle.gradient_bounds.specs.declared.placed_term.PlacedTerm.{PlacedTerm}
use Rattle.gradient_bounds.specs.declared.sine_low.SineLow.{SineLow}
use Rattle.gradient_bounds.specs.HeightSums.{IsAbsent, IsPlaceOf, IsRowOf, AreRowsOf, dirs_of, dir_at, terms_at}
use Rattle.gradient_bounds.specs.Kept.{IsSmallEntry}
use Rattle.gradient_bounds.specs.Table.{low_in}
use Rattle.gradient_bounds.proofs.Placing.{low_missing, count_of_dirs}
use Rattle.gradient_bounds.proofs.Sums.{step_at}

-- the term that a placed one stands for
abbrev standing : List Dir → PlacedTerm → Term
standing dirs p = record { dir = dir_at dirs p.place; c = p.c }

abbrev one_term : Dir → ℤ → List Term
one_term d c = record { dir = d; c = c } ∷ []

-- ---- how rows are made

-- no terms
pub row_of_none : (dirs : List Dir) (ts : List Term) → IsRowOf dirs (take 0 ts) []
row_of_none dirs [] = record { placed = All-nil (λ (p : PlacedTerm). p.place < length dirs); light = omega arith; same = λ table is. refl }
row_of_none dirs (t ∷ ts) = record { placed = All-nil (λ (p : PlacedTerm). p.place < length dirs); light = omega arith; same = λ table is. refl }

module _ (dirs : List Dir) (ts : List Term) (i : ℕ) (e : Term) (below : i < length ts) (row : List PlacedTerm) (h : IsRowOf dirs (take i ts) row) where
  abbrev t : Term
  t = get_or ts i e

  -- one more term, whose direction stands in the table
  pub row_with : (p : PlacedTerm) → IsPlaceOf dirs t.dir p.place → p.c ≡ t.c → IsRowOf dirs (take (i + 1) ts) (row ++ p ∷ [])
  row_with p place c_is =
      let before = take i ts in
      let known = terms_at dirs row in
      let one : terms_at dirs (p ∷ []) ≡ t ∷ [] = ap₂ one_term (place.is zero_dir) c_is in
      let more : terms_at dirs (row ++ p ∷ []) ≡ known ++ t ∷ [] =
      map-append (standing dirs) row (p ∷ []) ∙ ap (λ us. known ++ us) one in
      subst (λ us. IsRowOf dirs us (row ++ p ∷ [])) (sym (take_more ts i e below)) (record {
        placed = All-append (λ (p : PlacedTerm). p.place < length dirs) row (p ∷ []) h.placed (All-cons (λ (p : PlacedTerm). p.place < length dirs) p [] place.below (All-nil (λ (p : PlacedTerm). p.place < length dirs)));
        light = subst (λ us. terms_weight us ≤ terms_weight (before ++ t ∷ [])) (sym more)
            (omega (arith, h.light, terms_weight-append known (t ∷ []), terms_weight-append before (t ∷ [])));
        same = λ table is.
            let f = low_in table in
            ap (weigh_terms ℤ_ring ℤ_image f) more
            ∙ weigh_terms-append ℤ_ring ℤ_image f known (t ∷ [])
            ∙ ap (λ z. z +ℤ weigh_terms ℤ_ring ℤ_image f (t ∷ [])) (h.same table is)
            ∙ sym (weigh_terms-append ℤ_ring ℤ_image f before (t ∷ []));
      })

  -- or does not
  pub row_without : IsAbsent dirs t.dir → IsRowOf dirs (take (i + 1) ts) row
  row_without absent =
      let before = take i ts in
      subst (λ us. IsRowOf dirs us row) (sym (take_more ts i e below)) (record {
        placed = h.placed;
        light = omega (arith, h.light, terms_weight-append before (t ∷ []));
        same = λ table is.
            let f = low_in table in
            let none : f t.dir ≡ pos 0 = low_missing table t.dir (subst (λ ds. IsAbsent ds t.dir) (sym is) absent) in
            h.same table is
            ∙ nothing (weigh_terms ℤ_ring ℤ_image f before) t.c (f t.dir) none
            ∙ sym (weigh_terms-append ℤ_ring ℤ_image f before (t ∷ []));
      })
    where
      nothing : (z c low : ℤ) → low ≡ pos 0 → z ≡ z +ℤ (c *ℤ low +ℤ pos 0)
      nothing z c low is = subst (λ y. z ≡ z +ℤ (c *ℤ y +ℤ pos 0)) (sym is) (zero_added z c)
        where
          zero_added : (z c : ℤ) → z ≡ z +ℤ (c *ℤ pos 0 +ℤ pos 0)
          zero_added z c = omega (arith, ints)

-- a coefficient, as the machine copies it
pub coefficient_read : (ts : List Term) (i : ℕ) (e : Term) → i < length ts → terms_weight ts ≤ 16384 → to_z w64 (of_z w64 (get_or ts i e).c) ≡ (get_or ts i e).c
coefficient_read ts i e below light =
    let part = sum_by_more_le (λ (t : Term). unsigned_abs t.c) ts i e below in
    to_z-of_z w64 (get_or ts i e).c (fits_signed_from_abs w64 (get_or ts i e).c (omega (arith, part, light)))

-- ---- their sums

-- what one more term makes of the sum of the first i
pub placed_step : (table : List SineLow) → All IsSmallEntry table → (row : List PlacedTerm) (i : ℕ) (x : PlacedTerm) (total from low : ℤ) → i < length row
    → terms_weight (terms_at (dirs_of table) row) ≤ 16384
    → total ≡ weigh_terms ℤ_ring ℤ_image (low_in table) (take i (terms_at (dirs_of table) row))
    → from ≡ to_z w64 (of_z w64 (get_or row i x).c) → low ≡ low_in table (dir_at (dirs_of table) (get_or row i x).place)
    → IsStep (low_in table) (terms_at (dirs_of table) row) i total from low
placed_step table small row i x total from low below light total_is from_is low_is =
    let dirs = dirs_of table in
    let ts = terms_at dirs row in
    let t = standing dirs x in
    let read : get_or ts i t ≡ standing dirs (get_or row i x) = get_or-map (standing dirs) row i x t below in
    let inside : i < length ts = omega (arith, below, length-map row (standing dirs)) in
    step_at table small ts i t total from low inside light total_is (from_is ∙ ap (λ (t : Term). to_z w64 (of_z w64 t.c)) (sym read))
    (low_is ∙ ap (λ (t : Term). low_in table t.dir) (sym read))

-- a row of terms within the limits of functions
pub record IsLightRow (table : List SineLow) (row : List PlacedTerm) : Type 0 where
  pub placed : All (λ p. p.place < length table) row
  pub light : terms_weight (terms_at (dirs_of table) row) ≤ 16384

pub light_row : (table : List SineLow) (forms : List FormalPoint) (rows : List (Vec PlacedTerm)) (i : ℕ) (row : Vec PlacedTerm)
    → AreRowsOf (dirs_of table) forms rows → AreWithinLimits forms → i < length forms → IsLightRow table (slice_index_or rows i row).items
light_row table forms rows i row are limits below =
    let r = are.each i row below zero_point in
    record {
      placed = All-weaker (λ (p : PlacedTerm). p.place < length (dirs_of table)) (λ (p : PlacedTerm). p.place < length table)
          (λ p h. omega (arith, h, count_of_dirs table)) (slice_index_or rows i row).items r.placed;
      light = omega (arith, r.light, (limits i zero_point below).light);
    }
