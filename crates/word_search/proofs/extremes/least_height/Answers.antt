use Rattle.std.proofs.Common.{◌≡◌, FitsSigned, to_z, pos, arith}
use Rattle.std.specs.Int.{w128}
use Rattle.std.proofs.lemmas.Int.{to_z-of_z}
use Rattle.word_search.proofs.Heights.{is_first, least_next}
use Rattle.word_search.proofs.extremes.least_height.Goals as goal

pub loop-place-init : goal.loop-place-init
loop-place-init c =
    let fits : FitsSigned w128 c.height-least.result = record { sfits = c.height-least.type_inv } in
    let first = is_first c.args.shift c.args.places.now c.height-least.result (record { x = pos 0; y = pos 0 }) c.requires.some c.height-least.ensures in
    simp to_z-of_z (record { least = λ j z h. absurd (omega (arith, h)); met = first })

pub loop-place-preserved : goal.loop-place-preserved
loop-place-preserved c =
    let fits : FitsSigned w128 c.lesser-least.result = record { sfits = c.lesser-least.type_inv } in
    let height_fits : FitsSigned w128 c.height.result = record { sfits = c.height.type_inv } in
    let so_far = to_z w128 c.loop-place.least-bits in
    let is : c.lesser-least.result ≡ _ = simp to_z-of_z at c.lesser-least.ensures in
    let next = least_next c.args.shift c.args.places.now c.loop-place.place-index (record { x = pos 0; y = pos 0 }) so_far c.height.result c.lesser-least.result
    c.loop-place-test.true c.loop-place.invariant.least c.loop-place.invariant.met c.height.ensures is in
    simp to_z-of_z (record { least = next.0; met = next.1 })
