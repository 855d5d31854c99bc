use Rattle.std.proofs.Common.{◌≡◌, List, ℕ, [], ◌∷◌, codes, subst₂}
use Rattle.std.specs.Fmt.{decimal}
use Rattle.std.specs.Io.KnownBytes.{Appends}
use Rattle.std.specs.List.{concat}
use Rattle.mcb_ends.specs.Bytes.{AppendsPrefix}
use Rattle.mcb_ends.proofs.Written.{AppendsPrefix-begun, Writes-then, Writes-failed}
use Rattle.billiards_cli.specs.Commands.Points.{corner_line, spot_line}
use Rattle.billiards_cli.proofs.commands.points.writing.write_corner.Goals as goal

-- the numbers of a corner and its triangle
abbrev names : List ℕ → List ℕ → List ℕ
names triangle corner = concat (triangle ∷ codes " " ∷ corner ∷ codes " " ∷ [])

pub returns-in_err-put_all-clause-text : goal.returns-in_err-put_all-clause-text
returns-in_err-put_all-clause-text g c =
    let k = g.K.Sink in
    let corner = c.args.corner in
    let old = k.written c.args.out.now in
    let new = k.written c.put_all.new.out in
    let triangle : c.digits.result.now ≡ decimal corner.triangle = cc in
    let number : c.digits-2.result.now ≡ decimal corner.corner = cc in
    let begun = subst₂ (λ (x y : List ℕ). AppendsPrefix old new (names x y)) triangle number c.in_err-put_all.ensures.text in
    Writes-failed old new c.from_residual.result (corner_line corner) c.from_residual.ensures.0
    (AppendsPrefix-begun old new (names (decimal corner.triangle) (decimal corner.corner)) (spot_line corner.spot) begun)

pub returns-clause-text : goal.returns-clause-text
returns-clause-text g c =
    let k = g.K.Sink in
    let corner = c.args.corner in
    let old = k.written c.args.out.now in
    let head = k.written c.put_all.new.out in
    let triangle : c.digits.result.now ≡ decimal corner.triangle = cc in
    let number : c.digits-2.result.now ≡ decimal corner.corner = cc in
    let named = subst₂ (λ (x y : List ℕ). Appends old head (names x y)) triangle number c.in_ok-put_all.ensures.text in
    Writes-then old head (k.written c.write_spot.new.out) c.write_spot.result (names (decimal corner.triangle) (decimal corner.corner))
    (spot_line corner.spot) named c.write_spot.ensures.text
