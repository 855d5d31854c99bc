use Rattle.std.proofs.Common.{◌≡◌, sym, ◌∙◌, ap, ap₂, subst₂, ◌*◌, ◌%◌, ◌^◌, ◌<◌, arith}
use Rattle.std.proofs.lemmas.Bool.{ltb-true, lt-ltb}
use Rattle.rational_polygon.proofs.Lines.{shift_kept, before}
use Rattle.rational_polygon.proofs.rectangle.is_before.Goals as goal

pub returns : goal.returns
returns c =
    let n = c.args.n in
    let level = c.args.level in
    let grid = c.args.grid in
    let steps = c.args.steps in
    let small : steps < 2 ^ 32 = c.ranges.steps.fits in
    let line : c.from.result * c.from-2.result ≡ n * grid = ap₂ ◌*◌ c.from.ensures c.from-2.ensures in
    let corner : c.from-3.result * 2 ^ level % 2 ^ 64 ≡ steps * 2 ^ level =
    ap (λ s. s * 2 ^ level % 2 ^ 64) c.from-3.ensures ∙ shift_kept steps level small c.requires.level
    in
    let is = before n level grid steps c.requires.grid in (
      λ h. is.0 (subst₂ ◌<◌ line corner (ltb-true _ _ h)),
      λ h. lt-ltb _ _ (subst₂ ◌<◌ (sym line) (sym corner) (is.1 h)),
    )
