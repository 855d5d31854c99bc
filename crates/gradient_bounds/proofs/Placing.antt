-- Places in the table.
use Rattle.std.proofs.Common.{◌≡◌, refl, sym, ap, subst, ◌∙◌, ℕ, zero, suc, ◌^◌, ◌<◌, ◌≤◌, List, [], ◌∷◌, length, get_or, slice_index_or}
use Rattle.std.proofs.Common.{Bool, true, false, if◌then◌else◌, ℤ, pos, unsigned_abs, to_z, of_z, arith}
use Rattle.std.specs.Int.{w64, w128}
use Rattle.std.specs.List.{All}
use Rattle.std.proofs.lemmas.Int.{to_z-of_z, fits_signed_from_abs}
use Rattle.std.proofs.lemmas.List.{length-map, get_or_default}
use Rattle.std.proofs.lemmas.List.Elements.{All-get_or}
use Rattle.exp_sums.specs.declared.direction.Dir.{Dir}
use Rattle.exp_sums.specs.Terms.{is_same_dir}
use Rattle.exp_sums.specs.FormalPoint.{zero_dir}
use Rattle.exp_sums.proofs.Directions.{is_same_dir-Decides}
use Rattle.gradient_bounds.specs.declared.sine_low.SineLow.{SineLow}
use Rattle.gradient_bounds.specs.HeightSums.{IsAbsent, IsPlaceOf, dirs_of, dir_at}
use Rattle.gradient_bounds.specs.Kept.{IsSmallEntry}
use Rattle.gradient_bounds.specs.Table.{IsRising, low_in}
use Rattle.gradient_bounds.proofs.Sums.{low_at_place, low_small}

pub dir_standing : (table : List SineLow) (i : ℕ) (e : SineLow) → slice_index_or (dirs_of table) i e.dir ≡ (get_or table i e).dir
dir_standing [] i e = refl
dir_standing (x ∷ es) zero e = refl
dir_standing (x ∷ es) (suc i) e = dir_standing es i e

pub count_of_dirs : (table : List SineLow) → length (dirs_of table) ≡ length table
count_of_dirs table = length-map table (λ (e : SineLow). e.dir)

-- where no entry has the direction, its number is 0
low_absent : (table : List SineLow) (d : Dir) → ((j : ℕ) (e : SineLow) → j < length table → (get_or table j e).dir ≡ d → ⊥) → low_in table d ≡ pos 0
low_absent [] d none = refl
low_absent (x ∷ es) d none = by_test (is_same_dir x.dir d) refl (low_absent es d (λ j e below. none (suc j) e (omega (arith, below))))
  where
    by_test : (b : Bool) → is_same_dir x.dir d ≡ b → low_in es d ≡ pos 0 → (if b then x.low else low_in es d) ≡ pos 0
    by_test true is later = absurd (none 0 x (omega arith) ((is_same_dir-Decides x.dir d).0 is))
    by_test false is later = later

-- the direction at a place is that of the entry there
pub standing_at : (table : List SineLow) (p : ℕ) (x : SineLow) → p < length table → (get_or table p x).dir ≡ dir_at (dirs_of table) p
standing_at table p x below =
    sym (dir_standing table p x) ∙ get_or_default (dirs_of table) p x.dir zero_dir (omega (arith, count_of_dirs table, below))

-- the entry at a place, as the machine reads it
pub low_found : (table : List SineLow) (p : ℕ) (x : SineLow) → IsRising table → All IsSmallEntry table → p < length table
    → to_z w64 (of_z w64 (to_z w128 (of_z w128 (get_or table p x).low))) ≡ low_in table (dir_at (dirs_of table) p)
low_found table p x rising small below =
    let z = (get_or table p x).low in
    let size = (All-get_or IsSmallEntry table p x below small).low in
    ap (λ y. to_z w64 (of_z w64 y)) (to_z-of_z w128 z (fits_signed_from_abs w128 z (omega (arith, size))))
    ∙ to_z-of_z w64 z (fits_signed_from_abs w64 z (omega (arith, size)))
    ∙ low_at_place table (dir_at (dirs_of table) p) p x rising below (standing_at table p x below)

-- a direction that stands nowhere in a table has the number 0 there
pub low_missing : (table : List SineLow) (d : Dir) → IsAbsent (dirs_of table) d → low_in table d ≡ pos 0
low_missing table d absent =
    low_absent table d (λ j e below same. absent j e.dir (omega (arith, count_of_dirs table, below)) (dir_standing table j e ∙ same))

-- a number of the table that is read as one of 64 bits
pub low_converted : (table : List SineLow) (d : Dir) (low from : ℤ) → All IsSmallEntry table → low ≡ low_in table d → from ≡ to_z w64 (of_z w64 low)
    → from ≡ low_in table d
low_converted table d low from small low_is from_is =
    let size : unsigned_abs low ≤ 2 ^ 62 = subst (λ z. unsigned_abs z ≤ 2 ^ 62) (sym low_is) (low_small table d small) in
    from_is ∙ to_z-of_z w64 low (fits_signed_from_abs w64 low (omega (arith, size))) ∙ low_is

-- a direction that none of the entries has
pub place_missing : (table : List SineLow) (d : Dir) → ((j : ℕ) (e : SineLow) → j < length table → (get_or table j e).dir ≡ d → ⊥)
    → IsAbsent (dirs_of table) d
place_missing table d none j e below same =
    let entry : SineLow = record { dir = e; low = pos 0 } in
    none j entry (omega (arith, below, count_of_dirs table)) (sym (dir_standing table j entry) ∙ same)

-- and one that an entry has
pub place_found : (table : List SineLow) (d : Dir) (i : ℕ) (x : SineLow) → i < length table → (get_or table i x).dir ≡ d → IsPlaceOf (dirs_of table) d i
place_found table d i x below same =
    let inside : i < length (dirs_of table) = omega (arith, below, count_of_dirs table) in
    record {
      below = inside;
      is = λ e. get_or_default (dirs_of table) i e x.dir inside ∙ dir_standing table i x ∙ same;
    }
