use Rattle.std.proofs.Common.{◌-◌, refl, ◌∙◌, arith}
use Rattle.gradient_bounds.specs.Clear.{slack}
use Rattle.corner_bounds.proofs.Boxes.{corner_gives_corridor_lem}
use Rattle.corner_bounds.proofs.Tested.{clear_at_four, reaches_at, slack_enough}
use Rattle.corner_bounds.proofs.corners.test_corners.Goals as goal

pub returns-then-not-is_clear_at-clause-found : goal.returns-then-not-is_clear_at-clause-found
returns-then-not-is_clear_at-clause-found g c = λ clear. c.if-not-is_clear_at.ensures.found
    (reaches_at c.args.place (slack (c.args.low - 4)) c.args.p.now.word c.args.p.now.word (refl) clear 0 0 (omega arith) (omega arith))

pub returns-then-not-is_clear_at-2-clause-found : goal.returns-then-not-is_clear_at-2-clause-found
returns-then-not-is_clear_at-2-clause-found g c = λ clear. c.if-not-is_clear_at-2.ensures.found
    (reaches_at c.args.place (slack (c.args.low - 4)) c.args.p.now.word c.is_clear_at.new.p.word (c.is_clear_at.ensures.word) clear 1 0 (omega arith)
    (omega arith))

pub returns-then-not-is_clear_at-3-clause-found : goal.returns-then-not-is_clear_at-3-clause-found
returns-then-not-is_clear_at-3-clause-found g c = λ clear. c.if-not-is_clear_at-3.ensures.found
    (reaches_at c.args.place (slack (c.args.low - 4)) c.args.p.now.word c.is_clear_at-2.new.p.word
    (c.is_clear_at-2.ensures.word ∙ c.is_clear_at.ensures.word) clear 0 1 (omega arith) (omega arith))

pub returns-clause-found : goal.returns-clause-found
returns-clause-found g c = λ clear. c.is_clear_at-4.ensures.found
    (reaches_at c.args.place (slack (c.args.low - 4)) c.args.p.now.word c.is_clear_at-3.new.p.word
    (c.is_clear_at-3.ensures.word ∙ (c.is_clear_at-2.ensures.word ∙ c.is_clear_at.ensures.word)) clear 1 1 (omega arith) (omega arith))

pub returns-clause-clear : goal.returns-clause-clear
returns-clause-clear g c = λ h.
    clear_at_four c.args.place (slack c.args.low) c.args.p.now.word c.is_clear_at.new.p.word c.is_clear_at-2.new.p.word c.is_clear_at-3.new.p.word
    (record { first = c.is_clear_at.ensures.word; second = c.is_clear_at-2.ensures.word; third = c.is_clear_at-3.ensures.word }) c.requires.deep
    c.is_clear_at.ensures.is_word c.is_clear_at.ensures.shift (c.if-not-is_clear_at.ensures.clear refl) (c.if-not-is_clear_at-2.ensures.clear refl)
    (c.if-not-is_clear_at-3.ensures.clear refl) (c.is_clear_at-4.ensures.clear h)

pub returns-clause-corridor : goal.returns-clause-corridor
returns-clause-corridor g c = λ h.
    corner_gives_corridor_lem c.args.p.now.word c.args.place (slack c.args.low) c.is_clear_at.ensures.is_word (slack_enough c.args.low c.requires.low_most)
    (clear_at_four c.args.place (slack c.args.low) c.args.p.now.word c.is_clear_at.new.p.word c.is_clear_at-2.new.p.word c.is_clear_at-3.new.p.word
    (record { first = c.is_clear_at.ensures.word; second = c.is_clear_at-2.ensures.word; third = c.is_clear_at-3.ensures.word }) c.requires.deep
    c.is_clear_at.ensures.is_word c.is_clear_at.ensures.shift (c.if-not-is_clear_at.ensures.clear refl) (c.if-not-is_clear_at-2.ensures.clear refl)
    (c.if-not-is_clear_at-3.ensures.clear refl) (c.is_clear_at-4.ensures.clear h))
