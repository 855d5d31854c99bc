-- A path, from its crossings.
use Rattle.std.proofs.Common.{◌≡◌, ◌∙◌, subst, ℕ, ◌+◌, ◌-◌, ◌^◌, ◌<◌, ◌≤◌, List, length, get_or, ℤ, pos, ◌+ℤ◌, ◌≤ℤ◌, ◌<ℤ◌, unsigned_abs, FitsSigned, arith}
use Rattle.std.specs.Int.{w128}
use Rattle.std.proofs.lemmas.Int.{ints}
use Rattle.std.specs.List.{All}
use Rattle.rat_core.specs.Fraction.{ℚ}
use Rattle.edge_words.specs.Stable.{IsStable}
use Rattle.edge_words.specs.Word.{IsWord}
use Rattle.trig_meaning.proofs.FromSomeOnLaws.{onward}
use Rattle.sine_fixed.proofs.Turning.{fits_128}
use Rattle.gradient_bounds.specs.Clear.{IsClearAtPoint}
use Rattle.gradient_bounds.proofs.EachFunction.{has_shift}
use Rattle.bounce_path.specs.declared.bounce.Bounce.{Bounce}
use Rattle.bounce_path.specs.declared.crossing.Crossing.{Crossing}
use Rattle.bounce_path.specs.declared.gap.Gap.{Gap}
use Rattle.bounce_path.specs.Bounces.{IsOnEdge, from_lower}
use Rattle.bounce_path.specs.Crossings.{IsNearCrossing, AreCrossings, IsGap, IsMiddle, IsWellInside, half_room, AreShares, IsBounceAt, AreBounces}
use Rattle.bounce_path.specs.Path.{IsPath, room_for_path}
use Rattle.bounce_path.proofs.Levels.{blank, crossing_at, crossing_is, held, extremes, inside_gap, is_level, is_open, not_clear}
use Rattle.bounce_path.proofs.Places.{meets_at}

pub all_inside : (cs : List Crossing) (g : Gap) (h : ℤ) → IsGap cs g → IsMiddle g h → All (λ c. IsWellInside c h) cs
all_inside cs g h gap is = λ i d below.
    let c = get_or cs i d in
    let both = inside_gap g.floor g.ceiling h c.lower.hi c.upper.lo is.room is.low is.high (gap.floor_all i d below) (gap.ceiling_all i d below) in
    record { low = both.0; high = both.1 }

-- the level of a gap is small
pub level_fits : (cs : List Crossing) (g : Gap) (h : ℤ) → 0 < length cs → All IsNearCrossing cs → IsGap cs g → IsMiddle g h → FitsSigned w128 h
level_fits cs g h some near gap is =
    let c = get_or cs 0 blank in
    let inside = all_inside cs g h gap is 0 blank some in
    let first = near 0 blank some in
    fits h c.lower.hi c.upper.lo first.lower.small.high first.upper.small.low inside.low inside.high
  where
    fits : (h m u : ℤ) → unsigned_abs m ≤ 2 ^ 76 → unsigned_abs u ≤ 2 ^ 76 → (m +ℤ pos half_room) ≤ℤ h → (h +ℤ pos half_room) ≤ℤ u → FitsSigned w128 h
    fits h m u sm su low high = fits_128 h (omega (arith, ints, sm, su, low, high))

pub all_on_edge : (h : ℤ) (cs : List Crossing) (bs : List Bounce) → AreBounces h cs bs → All IsOnEdge bs
all_on_edge h cs bs are = λ i b below. let count = are.count in (are.each i b (omega (arith, below, count)) blank).on_edge

pub is_path : (w : List ℕ) (x y : ℚ) (cs : List Crossing) (g : Gap) (h : ℤ) (bs : List Bounce) → IsWord w → IsStable w → AreCrossings w x y cs → IsGap cs g
    → IsMiddle g h → AreBounces h cs bs → IsPath w x y (record { level = h; bounces = bs })
is_path w x y cs g h bs word stable are gap is bounces =
    let shift = has_shift w word stable in
    let v = shift.0 in
    let ext = extremes w cs g are.count gap in
    record {
      stable = stable;
      shift = v;
      is_shift = shift.1;
      corridor = is_open w x y cs are g ext h is v shift.1 stable;
      level = is_level w x y cs are g ext h is v shift.1;
      count = bounces.count ∙ are.count;
      each = λ k b place.
          let i = k - 1 in
          let next : i + 1 ≡ k = omega (arith, place) in
          let bounce = get_or bs i b in
          let at : IsBounceAt h (crossing_at cs k) (i + 1) bounce = bounces.each i b (omega (arith, place, are.count)) blank in
          record {
            edge = at.edge ∙ (crossing_is w x y cs are k place).is;
            on_edge = at.on_edge;
            place = onward (λ n holds. meets_at v w x y n k (crossing_at cs k) h (from_lower k bounce) (holds k place)
                (subst (λ (j : ℕ). AreShares (crossing_at cs k) h (from_lower j bounce)) next at.shares)) (held w x y cs are v shift.1);
          };
    }

pub not_found : (w : List ℕ) (x y : ℚ) (cs : List Crossing) (g : Gap) → AreCrossings w x y cs → IsGap cs g
    → g.ceiling <ℤ (g.floor +ℤ pos (2 ^ 40 - 2 ^ 24)) → ¬ (IsClearAtPoint w x y room_for_path)
not_found w x y cs g are gap narrow = not_clear w x y cs g are (extremes w cs g are.count gap) narrow
