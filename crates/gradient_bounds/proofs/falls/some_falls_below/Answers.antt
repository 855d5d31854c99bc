use Rattle.std.proofs.Common.{◌↔◌, ℕ, pos, ◌≤ℤ◌, subst, sym, FitsSigned}
use Rattle.std.specs.Prelude.{IsTrue}
use Rattle.std.specs.Int.{w128}
use Rattle.std.proofs.lemmas.Int.{to_z-of_z}
use Rattle.edge_words.specs.Letters.{IsPlace}
use Rattle.gradient_bounds.specs.Decision.{needed_by, difference, FallsBelow, SomeFallsBelow}
use Rattle.gradient_bounds.proofs.Deciding.{at_most_iff, holds, fails, none_falls}
use Rattle.gradient_bounds.proofs.falls.some_falls_below.Goals as goal

pub returns-then-least-ge0 : goal.returns-then-least-ge0
returns-then-least-ge0 c =
    let w = c.args.functions.now in
    let us = c.args.uppers.now in
    let ls = c.args.lowers.now in
    let N = needed_by c.args.threshold.now in
    let least : FitsSigned w128 c.difference-least.result = record { sfits = c.difference-least.type_inv } in
    let below : (i j : ℕ) → IsPlace w i → IsPlace w j → c.difference-least.result ≤ℤ difference us ls i j =
    subst (λ z. (i j : ℕ) → IsPlace w i → IsPlace w j → z ≤ℤ difference us ls i j) (sym c.difference-least.ensures.is) c.nearest-k.ensures.least in
    fails (SomeFallsBelow N w us ls)
    (none_falls c.args.threshold.now w us ls c.difference-least.result c.requires.threshold c.nearest-k.ensures.shift below
    ((at_most_iff (pos 0) c.difference-least.result).0 (simp to_z-of_z at c.if-least-ge0.true)))

pub returns-then-falls_below : goal.returns-then-falls_below
returns-then-falls_below c =
    let w = c.args.functions.now in
    let us = c.args.uppers.now in
    let ls = c.args.lowers.now in
    let N = needed_by c.args.threshold.now in
    let k = c.nearest-k.result.0 in
    let l = c.nearest-k.result.1 in
    let least : FitsSigned w128 c.difference-least.result = record { sfits = c.difference-least.type_inv } in
    let iff = simp to_z-of_z at c.falls_below.ensures in
    subst (λ b. IsTrue b ↔ SomeFallsBelow N w us ls) (sym c.if-falls_below.true)
    (holds (SomeFallsBelow N w us ls)
    (record {
      upper = k;
      is_upper = c.nearest-k.ensures.upper;
      row = record {
        lower = l;
        is_lower = c.nearest-k.ensures.lower;
        falls = subst (FallsBelow N w k l) c.difference-least.ensures.is
            (iff.0 c.if-falls_below.true);
      };
    }))
