use Rattle.std.proofs.Common.{◌≡◌, sym, ◌∙◌, ap, ap₂, subst₂, ◌*◌, ◌%◌, ◌^◌, ◌<◌, arith}
use Rattle.std.proofs.lemmas.Bool.{ltb-true, lt-ltb}
use Rattle.rational_polygon.proofs.Lines.{shift_kept, behind}
use Rattle.rational_polygon.proofs.rectangle.is_behind.Goals as goal

pub returns : goal.returns
returns c =
    let n = c.args.n in
    let level = c.args.level in
    let grid = c.args.grid in
    let steps = c.args.steps in
    let small : steps < 2 ^ 32 = c.ranges.steps.fits in
    let line : c.from-2.result * c.from-3.result ≡ n * grid = ap₂ ◌*◌ c.from-2.ensures c.from-3.ensures in
    let corner : c.from.result * 2 ^ level % 2 ^ 64 ≡ steps * 2 ^ level =
    ap (λ s. s * 2 ^ level % 2 ^ 64) c.from.ensures ∙ shift_kept steps level small c.requires.level
    in
    let is = behind n level grid steps c.requires.grid in (
      λ h. is.0 (subst₂ ◌<◌ corner line (ltb-true _ _ h)),
      λ h. lt-ltb _ _ (subst₂ ◌<◌ (sym corner) (sym line) (is.1 h)),
    )
