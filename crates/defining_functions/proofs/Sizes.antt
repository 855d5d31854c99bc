-- Bounds for sizes.
use Rattle.std.proofs.Common.{◌≡◌, zero, suc, List, [], ◌∷◌, ◌++◌, slice_index_or, arith}
use Rattle.std.specs.List.{All}
use Rattle.std.proofs.lemmas.List.Elements.{All-append}
use Rattle.exp_sums.specs.FormalPoint.{FormalPoint, ◌-ₚ◌}
use Rattle.exp_sums.specs.Limits.{weight}
use Rattle.exp_sums.specs.Reach.{reach}
use Rattle.exp_sums.specs.Bend.{bend}
use Rattle.exp_sums.specs.declared.sizes.Sizes.{Sizes}
use Rattle.exp_sums.proofs.Weights.{weight_difference}
use Rattle.exp_sums.proofs.Within.{IsWithin_difference}
use Rattle.exp_sums.proofs.Reach.{reach_le}
use Rattle.exp_sums.proofs.Bend.{bend_le}
use Rattle.defining_functions.specs.Functions.{IsWithinFunctionLimits}
use Rattle.defining_functions.specs.Sizes.{sizes_of, AreAtMost, AreSmall}

pub at_most_both : (a b c : Sizes) → AreAtMost a b → AreAtMost b c → AreAtMost a c
at_most_both a b c h k = record {
  weight = omega (arith, h.weight, k.weight);
  reach = omega (arith, h.reach, k.reach);
  bend = omega (arith, h.bend, k.bend);
}

-- one more element, and bounds that are at least those before
pub all_at_most : {X : Type 0} (f : X → Sizes) (xs : List X) (x : X) (before after : Sizes) → All (λ x. AreAtMost (f x) before) xs
    → AreAtMost before after → AreAtMost (f x) after → All (λ x. AreAtMost (f x) after) (xs ++ x ∷ [])
all_at_most f xs x before after all more here =
    All-append (λ x. AreAtMost (f x) after) xs (x ∷ []) (λ k d below. at_most_both (f (slice_index_or xs k d)) before after (all k d below) more)
    (one here)
  where
    one : AreAtMost (f x) after → All (λ x. AreAtMost (f x) after) (x ∷ [])
    one h zero d below = h
    one h (suc k) d below = absurd (omega (arith, below))

-- the same for bounds that are at most those before
pub all_at_least : {X : Type 0} (f : X → Sizes) (xs : List X) (x : X) (before after : Sizes) → All (λ x. AreAtMost before (f x)) xs
    → AreAtMost after before → AreAtMost after (f x) → All (λ x. AreAtMost after (f x)) (xs ++ x ∷ [])
all_at_least f xs x before after all more here =
    All-append (λ x. AreAtMost after (f x)) xs (x ∷ []) (λ k d below. at_most_both after before (f (slice_index_or xs k d)) more (all k d below))
    (one here)
  where
    one : AreAtMost after (f x) → All (λ x. AreAtMost after (f x)) (x ∷ [])
    one h zero d below = h
    one h (suc k) d below = absurd (omega (arith, below))

-- the difference of two heights is small
pub difference_small : (p q : FormalPoint) → IsWithinFunctionLimits p → IsWithinFunctionLimits q → AreSmall (sizes_of (p -ₚ q))
difference_small p q h k =
    let within = IsWithin_difference 130 p q h.within k.within in
    let light = weight_difference p q in
    record {
      weight = omega (arith, light, h.light, k.light);
      reach = omega (arith, light, h.light, k.light, reach_le 130 (p -ₚ q) within);
      bend = omega (arith, light, h.light, k.light, bend_le 130 (p -ₚ q) within);
    }

-- weight, reach and bend make the sizes
pub sizes_are : (s : Sizes) (f : FormalPoint) → s.weight ≡ weight f → s.reach ≡ reach f → s.bend ≡ bend f → s ≡ sizes_of f
sizes_are s f a b c = λ t. record { weight = a t; reach = b t; bend = c t }
