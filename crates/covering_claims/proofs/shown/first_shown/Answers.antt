-- The words before the one that is reached were tested.
use Rattle.std.proofs.Common.{◌∙◌, ℕ, List, refl, subst, arith}
use Rattle.gradient_bounds.specs.Clear.{slack, IsClear}
use Rattle.covering_file.specs.Faults.{word_at}
use Rattle.covering_claims.proofs.Listed.{none_more}
use Rattle.covering_claims.proofs.shown.first_shown.Goals as goal

pub returns-then-is_shown-clause-first : goal.returns-then-is_shown-clause-first
returns-then-is_shown-clause-first g c = record {
  listed = (c.loop-i.auto.i, c.loop-i-test.true);
  clear =
      subst (λ (ts : List (List ℕ)). IsClear (word_at ts c.loop-i.i) c.args.place (slack g.S.Scale.LOW_BITS)) c.loop-i.invariant.0
      (c.if-is_shown.ensures.clear refl);
  earlier = c.loop-i.invariant.1;
}

pub loop-i-preserved : goal.loop-i-preserved
loop-i-preserved g c = (
  c.is_shown.ensures.kept ∙ c.loop-i.invariant.0,
  none_more (λ (w : List ℕ). IsClear w c.args.place (slack g.S.Scale.HIGH_BITS)) c.args.tests.now c.loop-i.tests c.loop-i.i c.loop-i.invariant.0
      c.loop-i.invariant.1 c.if-is_shown.ensures.found,
)

pub returns-else-is_shown-clause-first : goal.returns-else-is_shown-clause-first
returns-else-is_shown-clause-first g c i listed =
    none_more (λ (w : List ℕ). IsClear w c.args.place (slack g.S.Scale.HIGH_BITS)) c.args.tests.now c.loop-i.tests c.loop-i.i c.loop-i.invariant.0
    c.loop-i.invariant.1 c.if-is_shown.ensures.found i listed (omega (arith, listed.1))
