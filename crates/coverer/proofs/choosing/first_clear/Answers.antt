-- The words before the one that is reached were tested, or are shut on the box.
use Rattle.std.proofs.Common.{◌∙◌, ℕ, List, refl, sym, subst, arith}
use Rattle.gradient_bounds.specs.Clear.{IsClear}
use Rattle.gradient_bounds.specs.Slacks as slacks
use Rattle.covering_claims.proofs.Listed.{none_more}
use Rattle.covering_file.specs.Faults.{word_at}
use Rattle.coverer.specs.Words.{AreShutOut}
use Rattle.coverer.proofs.choosing.first_clear.Goals as goal

pub returns-then-is_clear-clause-first : goal.returns-then-is_clear-clause-first
returns-then-is_clear-clause-first c = record {
  listed = (c.loop-i.auto.i, c.loop-i-test.true);
  clear =
      subst (λ (ts : List (List ℕ)). IsClear (word_at ts c.loop-i.i) c.args.place slacks.sure.gradient) c.loop-i.invariant.0
      (c.if-is_clear.ensures.clear refl);
  earlier = c.loop-i.invariant.1;
}

pub loop-i-preserved : goal.loop-i-preserved
loop-i-preserved c = (
  c.is_clear.ensures.kept ∙ c.loop-i.invariant.0,
  none_more (λ (w : List ℕ). IsClear w c.args.place slacks.findable.gradient) c.args.tests.now c.loop-i.tests c.loop-i.i c.loop-i.invariant.0
      c.loop-i.invariant.1 c.if-is_clear.ensures.found,
)

pub returns-else-is_clear-clause-first : goal.returns-else-is_clear-clause-first
returns-else-is_clear-clause-first c i listed =
    none_more (λ (w : List ℕ). IsClear w c.args.place slacks.findable.gradient) c.args.tests.now c.loop-i.tests c.loop-i.i c.loop-i.invariant.0
    c.loop-i.invariant.1 c.if-is_clear.ensures.found i listed (omega (arith, listed.1))

pub is_clear-requires-clause-shut : goal.is_clear-requires-clause-shut
is_clear-requires-clause-shut c = subst (λ (ts : List (List ℕ)). AreShutOut ts c.args.words c.args.place) (sym c.loop-i.invariant.0) c.requires.shut
