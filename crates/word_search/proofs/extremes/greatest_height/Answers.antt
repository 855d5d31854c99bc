use Rattle.std.proofs.Common.{◌≡◌, FitsSigned, to_z, pos, arith}
use Rattle.std.specs.Int.{w128}
use Rattle.std.proofs.lemmas.Int.{to_z-of_z}
use Rattle.word_search.proofs.Heights.{is_first, greatest_next}
use Rattle.word_search.proofs.extremes.greatest_height.Goals as goal

pub loop-place-init : goal.loop-place-init
loop-place-init c =
    let fits : FitsSigned w128 c.height-greatest.result = record { sfits = c.height-greatest.type_inv } in
    let first = is_first c.args.shift c.args.places.now c.height-greatest.result (record { x = pos 0; y = pos 0 }) c.requires.some c.height-greatest.ensures in
    simp to_z-of_z (record { greatest = λ j z h. absurd (omega (arith, h)); met = first })

pub loop-place-preserved : goal.loop-place-preserved
loop-place-preserved c =
    let fits : FitsSigned w128 c.greater-greatest.result = record { sfits = c.greater-greatest.type_inv } in
    let height_fits : FitsSigned w128 c.height.result = record { sfits = c.height.type_inv } in
    let so_far = to_z w128 c.loop-place.greatest-bits in
    let is : c.greater-greatest.result ≡ _ = simp to_z-of_z at c.greater-greatest.ensures in
    let next = greatest_next c.args.shift c.args.places.now c.loop-place.place-index
    (record { x = pos 0; y = pos 0 }) so_far c.height.result c.greater-greatest.result
    c.loop-place-test.true c.loop-place.invariant.greatest c.loop-place.invariant.met c.height.ensures is in
    simp to_z-of_z (record { greatest = next.0; met = next.1 })
