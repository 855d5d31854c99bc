use Rattle.std.proofs.Common.{pos}
use Rattle.word_search.proofs.Walked.{corner_placed, corner_unit}
use Rattle.word_search.proofs.seen.Seen.corner.Goals as goal

pub returns : goal.returns
returns c = λ v is.
    corner_placed c.args.units.now v c.args.self.now c.args.corner _ c.moved.result is
    (corner_unit c.args.units.now v c.args.self.now c.args.corner 0 (record { x = pos 0; y = pos 0 }) c.requires.units is c.requires.corner)
    c.moved.ensures.x c.moved.ensures.y
