use Rattle.std.proofs.Common.{◌≡◌, ◌+◌, refl, ◌∙◌, arith, length-set}
use Rattle.word_search.specs.Places.{place_of}
use Rattle.word_search.proofs.Walked.{upper_placed, lower_placed}
use Rattle.gradient_bounds.proofs.Numbering.{table_step}
use Rattle.unfolding.specs.Corners.{upper_corner, lower_corner}
use Rattle.word_search.proofs.corners.corners_of.Goals as goal

pub loop-k-init : goal.loop-k-init
loop-k-init c = record {
  upper_room = refl;
  lower_room = refl;
  uppers = λ j z h. absurd (omega (arith, h));
  lowers = λ j z h. absurd (omega (arith, h));
  seen = c.first-seen.ensures c.args.units.now;
}

pub loop-k-preserved : goal.loop-k-preserved
loop-k-preserved c =
    let units = c.args.units.now in
    let w = c.args.letters.now in
    let k = c.loop-k.k in
    let is = c.loop-k.invariant in
    let upper = c.either.ensures
    ∙ upper_placed units w k c.loop-k.seen c.ends.result.0 c.ends.result.1 c.loop-k-test.true is.seen c.ends.ensures.start c.ends.ensures.end in
    let lower = c.either-in-loop-k.ensures
    ∙ lower_placed units w k c.loop-k.seen c.ends.result.0 c.ends.result.1 c.loop-k-test.true is.seen c.ends.ensures.start c.ends.ensures.end in
    let room = is.upper_room in
    let room' = is.lower_room in
    record {
      upper_room = length-set c.loop-k.uppers k c.either.result ∙ room;
      lower_room = length-set c.loop-k.lowers k c.either-in-loop-k.result ∙ room';
      uppers = table_step (λ j p. p ≡ place_of units (upper_corner w (j + 1))) c.loop-k.uppers k c.either.result
          (omega (arith, room, c.requires.few, c.loop-k-test.true)) is.uppers upper;
      lowers = table_step (λ j p. p ≡ place_of units (lower_corner w (j + 1))) c.loop-k.lowers k c.either-in-loop-k.result
          (omega (arith, room', c.requires.few, c.loop-k-test.true)) is.lowers lower;
      seen = record {
        centre = c.across-seen.ensures.centre;
        minus = c.across-seen.ensures.minus;
        dirs = c.across-seen.ensures.dirs;
        known = c.across-seen.ensures.known;
      };
    }
