-- The words before the one that is reached were tested, or are shut on the box.
use Rattle.std.proofs.Common.{◌∙◌, ℕ, List, All, refl, sym, subst, arith}
use Rattle.gradient_bounds.specs.CornerClear.{IsCornerClear}
use Rattle.gradient_bounds.specs.Slacks as slacks
use Rattle.covering_claims.proofs.Listed.{none_more}
use Rattle.covering_file.specs.Faults.{word_at}
use Rattle.covering_file.specs.Header.{IsStableWord}
use Rattle.coverer.specs.Words.{AreShutOut}
use Rattle.coverer.proofs.choosing.first_at_corners.Goals as goal

pub returns-then-is_clear_at_corners-clause-first : goal.returns-then-is_clear_at_corners-clause-first
returns-then-is_clear_at_corners-clause-first c = record {
  listed = (c.loop-i.auto.i, c.loop-i-test.true);
  clear =
      subst (λ (ts : List (List ℕ)). IsCornerClear (word_at ts c.loop-i.i) c.args.place slacks.sure.corner) c.loop-i.invariant.0
      (c.if-is_clear_at_corners.ensures.clear refl);
  earlier = c.loop-i.invariant.1;
}

pub loop-i-preserved : goal.loop-i-preserved
loop-i-preserved c = (
  c.is_clear_at_corners.ensures.kept ∙ c.loop-i.invariant.0,
  none_more (λ (w : List ℕ). IsCornerClear w c.args.place slacks.findable.corner) c.args.tests.now c.loop-i.tests c.loop-i.i c.loop-i.invariant.0
      c.loop-i.invariant.1 c.if-is_clear_at_corners.ensures.found,
)

pub returns-else-is_clear_at_corners-clause-first : goal.returns-else-is_clear_at_corners-clause-first
returns-else-is_clear_at_corners-clause-first c i listed =
    none_more (λ (w : List ℕ). IsCornerClear w c.args.place slacks.findable.corner) c.args.tests.now c.loop-i.tests c.loop-i.i c.loop-i.invariant.0
    c.loop-i.invariant.1 c.if-is_clear_at_corners.ensures.found i listed (omega (arith, listed.1))

pub is_clear_at_corners-requires-clause-shut : goal.is_clear_at_corners-requires-clause-shut
is_clear_at_corners-requires-clause-shut c =
    subst (λ (ts : List (List ℕ)). AreShutOut ts c.args.words c.args.place) (sym c.loop-i.invariant.0) c.requires.shut

pub is_clear_at_corners-requires-clause-stable : goal.is_clear_at_corners-requires-clause-stable
is_clear_at_corners-requires-clause-stable c = subst (λ (ts : List (List ℕ)). All IsStableWord ts) (sym c.loop-i.invariant.0) c.requires.stable
