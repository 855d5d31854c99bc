-- How spots and sine forms hang together.

use Rattle.exp_sums.specs.FormalPoint.{FormalPoint}
use Rattle.plane_points.specs.declared.spot.Spot.{Spot}
use Rattle.plane_points.specs.Spots.{TriangleAngles, IsSpotOf, IsCrossProduct}

-- of any spots of two points the cross product is the value of the sine form of the one's conjugate times the other
abbrev pub SpotsCross : Type 0
SpotsCross = (at : TriangleAngles) (p q : FormalPoint) (s t : Spot) → IsSpotOf at p s → IsSpotOf at q t → IsCrossProduct at p q s t
