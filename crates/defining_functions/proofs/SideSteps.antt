-- One side of the path, edge by edge.
use Rattle.std.proofs.Common.{◌≡◌, ℕ, ◌+◌, ◌-◌, ◌<◌, List, [], ◌∷◌, ◌++◌, length, length-append, slice_index_or, sym, ap, subst, ◌∙◌, inl, inr, arith}
use Rattle.std.proofs.Common.{Result, Ok, Err}
use Rattle.std.specs.Result.{OnOk}
use Rattle.std.proofs.Math.ListN.{get_or-append}
use Rattle.std.proofs.Math.Seq.{get_or-append_seam}
use Rattle.std.proofs.lemmas.Bool.{cases_lt}
use Rattle.exp_sums.specs.FormalPoint.{FormalPoint}
use Rattle.defining_functions.specs.Functions.{IsWithinFunctionLimits}
use Rattle.defining_functions.specs.Kept.{AreWithinLimits, StandsAt, IsSideSoFar}
use Rattle.defining_functions.proofs.Tables.{IsTable-snoc, IsTable-weaker, IsTable-nil}

module _ (IsWanted : ℕ → FormalPoint → Type 0) where
  pub side_none : IsSideSoFar IsWanted 0 [] []
  side_none = record {
    side = record { limits = λ i p below. absurd (omega (arith, below)); each = IsTable-nil _ };
    last = λ some. absurd (omega (arith, some));
  }

  module _ (n : ℕ) (heights : List FormalPoint) (places : List ℕ) (h : IsSideSoFar IsWanted n heights places) where
    -- ---- a new height
    module _ (p : FormalPoint) (limits : IsWithinFunctionLimits p) (is : IsWanted n p) where
      more : List FormalPoint
      more = heights ++ p ∷ []

      last_is : (i : ℕ) (z : FormalPoint) → i ≡ length heights → slice_index_or more i z ≡ p
      unfolding more
      last_is i z end = ap (λ i. slice_index_or (heights ++ p ∷ []) i z) end ∙ get_or-append_seam heights p [] z

      earlier_is : (i : ℕ) (z : FormalPoint) → i < length heights → slice_index_or more i z ≡ slice_index_or heights i z
      unfolding more
      earlier_is i z below = get_or-append heights (p ∷ []) z i below

      longer : length more ≡ length heights + 1
      unfolding more
      longer = omega (arith, length-append heights (p ∷ []))

      stands_new : (j : ℕ) → j ≡ length heights → StandsAt (IsWanted n) more j
      stands_new j end = record { in_range = omega (arith, longer, end); is = λ z. subst (IsWanted n) (sym (last_is j z end)) is }

      stands_still : (i place : ℕ) → StandsAt (IsWanted i) heights place → StandsAt (IsWanted i) more place
      stands_still i place s = record {
        in_range = omega (arith, longer, s.in_range);
        is = λ z. subst (IsWanted i) (sym (earlier_is place z s.in_range)) (s.is z);
      }

      more_limits : AreWithinLimits more
      more_limits i z below = elim (cases_lt i (length heights)) [
        | inl earlier ↦ subst IsWithinFunctionLimits (sym (earlier_is i z earlier)) (h.side.limits i z earlier)
        | inr last ↦ subst IsWithinFunctionLimits (sym (last_is i z (omega (arith, below, longer, last)))) limits
      ]

      pub side_pushed : IsSideSoFar IsWanted (n + 1) (heights ++ p ∷ []) (places ++ length heights ∷ [])
      unfolding more
      side_pushed = record {
        side = record {
          limits = more_limits;
          each = IsTable-snoc _ n places (length heights) (IsTable-weaker _ _ n places stands_still h.side.each) (stands_new (length heights) (omega arith));
        };
        last = λ _. subst (λ i. StandsAt (IsWanted i) more (length more - 1)) (omega arith) (stands_new (length more - 1) (omega (arith, longer)));
      }

    -- ---- the last height again
    pub side_again : 0 < n → ((p : FormalPoint) → IsWanted (n - 1) p → IsWanted n p)
        → IsSideSoFar IsWanted (n + 1) heights (places ++ (length heights - 1) ∷ [])
    side_again some onward =
        let last = h.last some in
        let stands : StandsAt (IsWanted n) heights (length heights - 1) = record { in_range = last.in_range; is = λ z. onward _ (last.is z) } in
        record {
          side = record { limits = h.side.limits; each = IsTable-snoc _ n places (length heights - 1) h.side.each stands };
          last = λ _. subst (λ i. StandsAt (IsWanted i) heights (length heights - 1)) (omega arith) stands;
        }

-- equal lists make the same side
pub side_along : (IsWanted : ℕ → FormalPoint → Type 0) (n : ℕ) (hs hs' : List FormalPoint) (ps ps' : List ℕ) →
    hs' ≡ hs → ps' ≡ ps → IsSideSoFar IsWanted n hs ps → IsSideSoFar IsWanted n hs' ps'
side_along IsWanted n hs hs' ps ps' is_h is_p h =
    subst (λ xs. IsSideSoFar IsWanted n xs ps') (sym is_h) (subst (IsSideSoFar IsWanted n hs) (sym is_p) h)

-- two facts of the one outcome
pub on_ok : {A E P Q R : Type 0} (r : Result A E) → (P → Q → R) → OnOk r P → OnOk r Q → OnOk r R
on_ok (Ok a) f p q = f p q
on_ok (Err e) f p q = tt
