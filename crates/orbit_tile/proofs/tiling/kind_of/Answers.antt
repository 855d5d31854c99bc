-- A box that is not beyond is tested, and the test says what the cause asks for.
use Rattle.std.proofs.Common.{refl, subst, ℕ, List}
use Rattle.gradient_bounds.specs.Clear.{IsShut}
use Rattle.gradient_bounds.specs.Slacks as slacks
use Rattle.orbit_tile.proofs.Reached.{not_both}
use Rattle.orbit_tile.proofs.tiling.kind_of.Goals as goal

pub returns-then-test_box-clause-cause : goal.returns-then-test_box-clause-cause
returns-then-test_box-clause-cause c =
    (λ beyond. not_both c.is_beyond.result c.if-is_beyond.false (c.is_beyond.ensures.1 beyond), c.if-test_box.ensures.clear refl)

pub returns-then-shut_box-clause-cause : goal.returns-then-shut_box-clause-cause
returns-then-shut_box-clause-cause c = (
  λ beyond. not_both c.is_beyond.result c.if-is_beyond.false (c.is_beyond.ensures.1 beyond),
  subst (λ (w : List ℕ). IsShut w c.args.place slacks.sound.gradient) c.test_box.ensures.word (c.if-shut_box.ensures.shut refl),
)
