use Rattle.std.proofs.Common.{◌≡◌, List, ℕ, ◌∷◌, ◌++◌, sym, subst, codes}
use Rattle.std.specs.List.{flat_map}
use Rattle.mcb_ends.specs.Bytes.{Writes}
use Rattle.mcb_ends.proofs.Written.{Writes-then}
use Rattle.svg_pictures.specs.CoveringPicture.{corner_text, corners_text}
use Rattle.svg_pictures.proofs.outlines.write_corners.Goals as goal

pub returns-in_ok-write_corner-in-Some-clause-text : goal.returns-in_ok-write_corner-in-Some-clause-text
returns-in_ok-write_corner-in-Some-clause-text g c =
    let k = g.K.Sink in
    let grid = c.args.grid in
    let first = c.in-Some.first.now in
    let others = c.in-Some.others.now in
    let split : c.args.corners.now ≡ first ∷ others = cc (c.in-Some.ensures.cases.0, c.in-Some.first-is, c.in-Some.others-is) in
    let old = k.written c.args.out.now in
    let head = k.written c.write_corner.new.out in
    let new = k.written c.write_next_corners.new.out in
    let result = c.write_next_corners.result in
    let all = Writes-then old head new result (corner_text grid first) (flat_map (λ d. codes " " ++ corner_text grid d) others)
    c.in_ok-write_corner-in-Some.ensures.text c.write_next_corners.ensures.text in
    subst (λ (cs : List (ℕ × ℕ)). Writes old new result (corners_text grid cs)) (sym split) all
