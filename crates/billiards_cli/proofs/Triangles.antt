-- The triangle of a command line.
use Rattle.std.proofs.Common.{◌≡◌, ◌+◌, Bool, true, false, nat_le, nat_lt, ◌&&◌, IsTrue, pos, refl, arith}
use Rattle.std.proofs.lemmas.Bool.{leb-true, ltb-true}
use Rattle.rat_core.specs.Fraction.{◌÷◌}
use Rattle.rat_core.proofs.Order.{over_positive}
use Rattle.rat_core.proofs.Quotients.{sum_below_one}
use Rattle.rational_polygon.specs.Point.{IsTriangle}
use Rattle.billiards_cli.specs.Arguments.{Angles, are_angles}

both : (a b : Bool) → (a && b) ≡ true → (a ≡ true) × (b ≡ true)
both true true is = (refl, refl)
both true false is = cc
both false b is = cc

pub are_a_triangle : (a : Angles) → IsTrue (are_angles a) → IsTriangle (record { x = pos a.p ÷ a.d; y = pos a.q ÷ a.d })
are_a_triangle a is =
    let some = both (nat_le 1 a.p) (nat_le 1 a.q && nat_lt (a.p + a.q) a.d) is in
    let others = both (nat_le 1 a.q) (nat_lt (a.p + a.q) a.d) some.1 in
    let first = leb-true 1 a.p some.0 in
    let second = leb-true 1 a.q others.0 in
    let third = ltb-true (a.p + a.q) a.d others.1 in
    record {
      first = over_positive a.p a.d first (omega arith);
      second = over_positive a.q a.d second (omega arith);
      third = sum_below_one a.p a.q a.d (omega arith) third;
    }
