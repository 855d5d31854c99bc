use Rattle.std.proofs.Common.{◌≡◌, ◌-◌, ap, ◌∙◌}
use Rattle.edge_words.specs.Letters.{letter_at}
use Rattle.unfolding.specs.Triangle.{next_corner, corner_of}
use Rattle.defining_functions.proofs.Steps.{chord_way}
use Rattle.defining_functions.proofs.chord.chord_of.Goals as goal

pub returns : goal.returns
returns c =
    let w = c.args.u.now in
    let k = c.args.k in
    let after : c.next_corner-after.result ≡ next_corner (letter_at w k) =
    c.next_corner-after.ensures.next ∙ ap (λ xs. next_corner (letter_at xs k)) (c.letters.ensures.all ∙ c.word.ensures.all) in
    let before : c.next_corner-before.result ≡ next_corner (next_corner (letter_at w k)) = c.next_corner-before.ensures.next ∙ ap next_corner after in
    record {
      way = chord_way w k c.seen.result c.seen-2.result (c.seen.ensures.corner ∙ ap (corner_of w (k - 1)) before)
          (c.seen-2.ensures.corner ∙ ap (corner_of w (k - 1)) after) c.seen.ensures.minus c.seen-2.ensures.minus;
      plus = c.seen.ensures.near;
      minus = c.seen-2.ensures.near;
    }
