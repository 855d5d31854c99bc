use Rattle.std.proofs.Common.{subst}
use Rattle.rat_core.specs.Fraction.{whole, ◌*ℚ◌}
use Rattle.trig_meaning.specs.PartialSums.{arctan_sum, pi_sum}
use Rattle.directed_fixed.specs.Ends.{Encloses}
use Rattle.directed_fixed.proofs.Enclosing.{in_order}
use Rattle.pi_bounds.proofs.Terms.{machin_value, machin_room, multiple_room, machin_width}
use Rattle.pi_bounds.proofs.series.machin.Goals as goal

pub scale-lesser-requires : goal.scale-lesser-requires
scale-lesser-requires g c = multiple_room c.args.n c.arctan-2.result c.requires c.arctan-2.ensures.size

pub sub-requires : goal.sub-requires
sub-requires g c =
    machin_room c.args.n c.arctan.result c.arctan-2.result c.scale-greater.result c.scale-lesser.result c.requires c.arctan.ensures.size
    c.arctan-2.ensures.size c.scale-greater.ensures.ends c.scale-lesser.ensures.ends

pub returns-clause-encloses : goal.returns-clause-encloses
returns-clause-encloses g c =
    let greater = c.scale-greater.ensures.multiples (whole 1024 *ℚ arctan_sum 5 c.args.n) c.arctan.ensures.encloses in
    let lesser = c.scale-lesser.ensures.multiples (whole 1024 *ℚ arctan_sum 239 c.args.n) c.arctan-2.ensures.encloses in
    c.div_int.ensures.quotients (pi_sum c.args.n) (subst (Encloses g.S.Scale.BITS c.sub.result) (machin_value c.args.n)
    (c.sub.ensures.differences _ _ greater lesser))

pub returns-clause-width : goal.returns-clause-width
returns-clause-width g c =
    machin_width c.args.n c.arctan.result c.arctan-2.result c.scale-greater.result c.scale-lesser.result c.sub.result c.div_int.result c.requires
    (in_order g.S.Scale.BITS c.arctan.result (whole 1024 *ℚ arctan_sum 5 c.args.n) c.arctan.ensures.encloses)
    (in_order g.S.Scale.BITS c.arctan-2.result (whole 1024 *ℚ arctan_sum 239 c.args.n) c.arctan-2.ensures.encloses)
    c.arctan.ensures.width c.arctan-2.ensures.width c.scale-greater.ensures.ends c.scale-lesser.ensures.ends c.sub.ensures.ends c.div_int.ensures.lo
    c.div_int.ensures.hi
