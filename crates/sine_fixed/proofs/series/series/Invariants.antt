use Rattle.std.proofs.Common.{◌-◌, ◌*◌}
use Rattle.rat_core.specs.Fraction.{ℚ, whole, ◌*ℚ◌, ◌≤ℚ◌}
use Rattle.sine_fixed.specs.Near.{IsNear}
use Rattle.sine_fixed.proofs.Chains.{AreChains}
use Rattle.sine_fixed.proofs.Horner.{chain}
use Rattle.sine_fixed.proofs.series.series.Given as goal

abbrev pub invariant-loop-j : goal.invariant-loop-j
invariant-loop-j l = record {
  sizes : AreChains l.square l.j l.even l.odd;
  even : (u : ℚ) → whole 0 ≤ℚ u → whole 16 *ℚ u ≤ℚ whole 7 → IsNear 0 6 l.square u → IsNear 0 16 l.even (chain u (10 - 2 * l.j) l.j);
  odd : (u : ℚ) → whole 0 ≤ℚ u → whole 16 *ℚ u ≤ℚ whole 7 → IsNear 0 6 l.square u → IsNear 0 16 l.odd (chain u (11 - 2 * l.j) l.j);
}
