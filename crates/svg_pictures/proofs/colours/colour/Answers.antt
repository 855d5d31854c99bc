use Rattle.std.proofs.Common.{◌≡◌, inl, inr, refl, sym, ℕ, zero, suc, ◌≤◌, codes, arith}
use Rattle.std.proofs.lemmas.Bool.{cases_lt}
use Rattle.std.proofs.lemmas.List.{get_or_past}
use Rattle.svg_pictures.specs.Colours.{colours, colour_of}
use Rattle.svg_pictures.proofs.colours.colour.Goals as goal

-- a number that none of 32 words has
black_beyond : (n : ℕ) → (1 ≤ n → n ≤ 32 → ⊥) → colour_of n ≡ codes "black"
black_beyond zero none = refl
black_beyond (suc n) none =
    elim (cases_lt n 32) [
      | inl less ↦ absurd (none (omega arith) (omega (arith, less)))
      | inr past ↦ get_or_past colours n (codes "black") past
    ]

pub returns-in_default : goal.returns-in_default
returns-in_default c = sym (black_beyond c.args.number (λ some few. omega (arith, some, few)))
