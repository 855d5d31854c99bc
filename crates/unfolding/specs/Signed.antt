-- Signed directions.

use Rattle.std.specs.Prelude.{Bool, ℤ, pos, negsuc, if◌then◌else◌}
use Rattle.exp_sums.specs.FormalPoint.{FormalPoint, monomial}
use Rattle.unfolding.specs.declared.signed.Signed.{Signed}

-- −1 or 1
abbrev pub sign_of : Bool → ℤ
sign_of minus = if minus then negsuc 0 else pos 1

-- the direction, or the point opposite to it
abbrev pub signed_point : Signed → FormalPoint
signed_point s = monomial (sign_of s.minus) s.dir
