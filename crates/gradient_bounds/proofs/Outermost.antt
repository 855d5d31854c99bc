-- What holds of the numbers of all edges of a list.
use Rattle.std.proofs.Common.{ℕ, ◌+◌, ◌-◌, ◌^◌, ◌<◌, ◌≤◌, List, pos, unsigned_abs, FitsSigned, length, slice_index_or, subst, ℤ, ◌≤ℤ◌, ◌<ℤ◌, below_more, arith}
use Rattle.std.specs.Int.{w128}
use Rattle.std.specs.List.{All}
use Rattle.std.specs.Prelude.{◌↔◌, IsTrue, false}
use Rattle.std.proofs.lemmas.Int.{ints, by_lt_z, fits_signed_from_abs}
use Rattle.std.proofs.lemmas.List.{get_or_default}
use Rattle.gradient_bounds.proofs.Deciding.{false_not}

-- one edge more
pub one_more : (P : ℕ → Type 0) (edges : List ℕ) (i : ℕ) → i < length edges → ((j d : ℕ) → j < i → P (slice_index_or edges j d))
    → P (slice_index_or edges i 0) → (j d : ℕ) → j < i + 1 → P (slice_index_or edges j d)
one_more P edges i below before here j d lt =
    below_more (λ j. (d : ℕ) → P (slice_index_or edges j d)) i (λ j h d. before j d h) (λ d. subst P (get_or_default edges i 0 d below) here) j lt d

pub less_at_most : (a b : ℤ) → a <ℤ b → a ≤ℤ b
less_at_most a b h = omega (arith, ints)

pub not_less_at_most : (a b : ℤ) → IsTrue false ↔ (a <ℤ b) → b ≤ℤ a
not_less_at_most a b h = by_lt_z a b (λ below. absurd (false_not (a <ℤ b) h below)) (λ above. above)

pub at_most_itself : (a : ℤ) → a ≤ℤ a
at_most_itself a = omega (arith, ints)

pub at_most_through : (a b c : ℤ) → a ≤ℤ b → b ≤ℤ c → a ≤ℤ c
at_most_through a b c h k = omega (arith, ints)

-- the number of an edge fits its type
pub number_fits : (numbers : List ℤ) → All (λ z. unsigned_abs z ≤ 2 ^ 76) numbers → (e : ℕ) → (1 ≤ e) × (e ≤ length numbers)
    → FitsSigned w128 (slice_index_or numbers (e - 1) (pos 0))
number_fits numbers small e inside =
    fits_signed_from_abs w128 (slice_index_or numbers (e - 1) (pos 0)) (omega (arith, small (e - 1) (pos 0) (omega (arith, inside.0, inside.1))))
