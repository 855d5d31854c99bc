-- Numbers of 32 bits as the machine keeps them.
use Rattle.std.proofs.Common.{◌≡◌, ℤ, pos, ◌+ℤ◌, ◌-ℤ◌, ap, ap₂, ◌∙◌, SFits, w32, w64, to_z, of_z}
use Rattle.std.specs.Int.{int_min, int_max}
use Rattle.std.proofs.lemmas.Int.{to_z-of_z}

abbrev pub kept : ℤ → ℤ
kept z = to_z w32 (of_z w32 z)

pub lesser_kept : (z a b : ℤ) → SFits w32 z → SFits w32 a → SFits w32 b → z ≡ int_min (kept a) (kept b) → kept z ≡ int_min a b
lesser_kept z a b fits a_fits b_fits is = to_z-of_z w32 z fits ∙ is ∙ ap₂ int_min (to_z-of_z w32 a a_fits) (to_z-of_z w32 b b_fits)

pub greater_kept : (z a b : ℤ) → SFits w32 z → SFits w32 a → SFits w32 b → z ≡ int_max (kept a) (kept b) → kept z ≡ int_max a b
greater_kept z a b fits a_fits b_fits is = to_z-of_z w32 z fits ∙ is ∙ ap₂ int_max (to_z-of_z w32 a a_fits) (to_z-of_z w32 b b_fits)

abbrev pub kept_64 : ℤ → ℤ
kept_64 z = to_z w64 (of_z w64 z)

pub edge_kept : (z a : ℤ) → SFits w64 z → SFits w32 a → z ≡ kept a -ℤ pos 100 → kept_64 z ≡ a -ℤ pos 100
edge_kept z a fits a_fits is = to_z-of_z w64 z fits ∙ is ∙ ap (λ (v : ℤ). v -ℤ pos 100) (to_z-of_z w32 a a_fits)

pub extent_kept : (z a b : ℤ) → SFits w64 z → SFits w32 a → SFits w32 b → z ≡ kept b -ℤ kept a +ℤ pos 200 → kept_64 z ≡ b -ℤ a +ℤ pos 200
extent_kept z a b fits a_fits b_fits is =
    to_z-of_z w64 z fits ∙ is ∙ ap₂ (λ (u v : ℤ). u -ℤ v +ℤ pos 200) (to_z-of_z w32 b b_fits) (to_z-of_z w32 a a_fits)
