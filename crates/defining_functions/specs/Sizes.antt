-- Weight, reach and bend together, and bounds for them.

use Rattle.std.specs.Prelude.{◌≤◌}
use Rattle.exp_sums.specs.FormalPoint.{FormalPoint}
use Rattle.exp_sums.specs.Limits.{weight}
use Rattle.exp_sums.specs.Reach.{reach}
use Rattle.exp_sums.specs.Bend.{bend}
use Rattle.exp_sums.specs.declared.sizes.Sizes.{Sizes}

-- weight, reach and bend
abbrev pub sizes_of : FormalPoint → Sizes
sizes_of p = record { weight = weight p; reach = reach p; bend = bend p }

-- each of the three is at most the other's
pub record AreAtMost (sizes most : Sizes) : Type 0 where
  pub weight : sizes.weight ≤ most.weight
  pub reach : sizes.reach ≤ most.reach
  pub bend : sizes.bend ≤ most.bend

-- as large as the difference of two heights is at most
pub record AreSmall (sizes : Sizes) : Type 0 where
  pub weight : sizes.weight ≤ 32768
  pub reach : sizes.reach ≤ 8519680
  pub bend : sizes.bend ≤ 1107558400
