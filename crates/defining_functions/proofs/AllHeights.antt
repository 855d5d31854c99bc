-- Edges that stand for all edges.
use Rattle.std.proofs.Common.{◌≡◌, ℕ, zero, suc, ◌+◌, ◌-◌, ◌<◌, ◌≤◌, List, [], ◌∷◌}
use Rattle.std.proofs.Common.{◌++◌, length, length-append, slice_index_or, sym, ap, subst, ◌∙◌, inl, inr, arith}
use Rattle.std.specs.List.{All, Any}
use Rattle.std.proofs.Math.ListN.{get_or-append}
use Rattle.std.proofs.lemmas.Bool.{cases_lt}
use Rattle.std.proofs.lemmas.List.Elements.{All-append}
use Rattle.std.proofs.lemmas.List.Quantifiers.{Any-push}
use Rattle.edge_words.specs.Letters.{IsPlace}
use Rattle.exp_sums.specs.FormalPoint.{FormalPoint, zero_point}
use Rattle.unfolding.specs.Shift.{IsShift}
use Rattle.defining_functions.specs.AllHeights.{HaveAllHeights}
use Rattle.defining_functions.specs.Kept.{IsSide, HaveAllPlaces}
use Rattle.defining_functions.proofs.Kept.{side_at, place_of_index}

-- what stands in a list stands in a longer one
any_longer : {X : Type 0} (P : X → Type 0) (xs : List X) (y : X) → Any P xs → Any P (xs ++ y ∷ [])
any_longer P xs y (k, x, below, is, h) = (k, x, omega (arith, below, length-append xs (y ∷ [])), get_or-append xs (y ∷ []) x k below ∙ is, h)

module _ (places edges : List ℕ) (n : ℕ) (h : HaveAllPlaces places n edges) where
  StandsFor : ℕ → ℕ → Type 0
  StandsFor i e = (z : ℕ) → slice_index_or places i z ≡ slice_index_or places (e - 1) z

  -- an edge whose height stands where that of the edge before does
  pub places_again : 0 < n → ((z : ℕ) → slice_index_or places n z ≡ slice_index_or places (n - 1) z) → HaveAllPlaces places (n + 1) edges
  unfolding StandsFor
  places_again some again = record {
    in_range = λ k d below. let r = h.in_range k d below in (r.0, omega (arith, r.1));
    each = λ i below. elim (cases_lt i n) [
      | inl earlier ↦ h.each i earlier
      | inr last ↦ here i (omega (arith, below, last)) (h.each (n - 1) (omega (arith, some)))
    ];
  }
    where
      here : (i : ℕ) → i ≡ n → Any (StandsFor (n - 1)) edges → Any (StandsFor i) edges
      here i is (k, e, below, stands, same) = (k, e, below, stands, λ z. ap (λ j. slice_index_or places j z) is ∙ again z ∙ same z)

  -- the next edge
  pub places_more : HaveAllPlaces places (n + 1) (edges ++ (n + 1) ∷ [])
  unfolding StandsFor
  places_more = record {
    in_range = All-append (λ e. (1 ≤ e) × (e ≤ n + 1)) edges ((n + 1) ∷ []) (λ k d below. let r = h.in_range k d below in (r.0, omega (arith, r.1))) one;
    each = λ i below. elim (cases_lt i n) [
      | inl earlier ↦ any_longer (StandsFor i) edges (n + 1) (h.each i earlier)
      | inr last ↦
          let is : i ≡ n + 1 - 1 = omega (arith, below, last) in
          Any-push (StandsFor i) edges (n + 1) (λ z. ap (λ j. slice_index_or places j z) is)
    ];
  }
    where
      one : All (λ e. (1 ≤ e) × (e ≤ n + 1)) ((n + 1) ∷ [])
      one zero d below = (omega arith, omega arith)
      one (suc k) d below = absurd (omega (arith, below))

-- so their corners have all heights
pub have_all_heights : (w : List ℕ) (height : FormalPoint → List ℕ → ℕ → FormalPoint) (heights : List FormalPoint) (places edges : List ℕ)
    → IsSide (λ i p. (v : FormalPoint) → IsShift w v → p ≡ height v w (i + 1)) (length w) heights places → HaveAllPlaces places (length w) edges
    → HaveAllHeights w height edges
have_all_heights w height heights places edges side h = record {
  places = h.in_range;
  each = λ k place. found k place (h.each (k - 1) (omega (arith, place.0, place.1)));
}
  where
    height_at : (k : ℕ) (v : FormalPoint) → IsPlace w k → IsShift w v
        → slice_index_or heights (slice_index_or places (k - 1) 0) zero_point ≡ height v w k
    height_at k v place shift =
        (side_at (λ i p. (v : FormalPoint) → IsShift w v → p ≡ height v w (i + 1)) (length w) heights places side k 0 place.0 place.1).is zero_point v shift
        ∙ ap (height v w) (place_of_index k place.0)

    found : (k : ℕ) → IsPlace w k → Any (λ e. (z : ℕ) → slice_index_or places (k - 1) z ≡ slice_index_or places (e - 1) z) edges
        → Any (λ e. (v : FormalPoint) → IsShift w v → height v w k ≡ height v w e) edges
    found k place (i, e, below, stands, same) =
        let place' : IsPlace w e = subst (IsPlace w) stands (h.in_range i e below) in (
          i,
          e,
          below,
          stands,
          λ v shift. sym (height_at k v place shift)
              ∙ ap (λ j. slice_index_or heights j zero_point) (same 0) ∙ height_at e v place' shift,
        )
