use Rattle.std.proofs.Common.{ℕ, ◌≤ℤ◌, subst, sym, FitsSigned}
use Rattle.std.specs.Int.{w128}
use Rattle.std.proofs.lemmas.Int.{to_z-of_z}
use Rattle.edge_words.specs.Letters.{IsPlace}
use Rattle.gradient_bounds.specs.Decision.{needed_by, difference, Reaches, EachReaches}
use Rattle.gradient_bounds.proofs.Deciding.{holds, then_not, reaches_more}
use Rattle.gradient_bounds.proofs.decision.each_reaches.Goals as goal

pub returns-then-not-reaches : goal.returns-then-not-reaches
returns-then-not-reaches c =
    let w = c.args.functions.now in
    let us = c.args.uppers.now in
    let ls = c.args.lowers.now in
    let N = needed_by c.args.threshold.now in
    let k = c.nearest-k.result.0 in
    let l = c.nearest-k.result.1 in
    let least : FitsSigned w128 c.difference-least.result = record { sfits = c.difference-least.type_inv } in
    then_not (Reaches N w k l c.difference-least.result) (EachReaches N w us ls) (simp to_z-of_z at c.if-not-reaches.ensures)
    (λ each. subst (Reaches N w k l) (sym c.difference-least.ensures.is) (each k l c.nearest-k.ensures.upper c.nearest-k.ensures.lower))

pub returns-then-is_at_least : goal.returns-then-is_at_least
returns-then-is_at_least c =
    let w = c.args.functions.now in
    let us = c.args.uppers.now in
    let ls = c.args.lowers.now in
    let N = needed_by c.args.threshold.now in
    let least : FitsSigned w128 c.difference-least.result = record { sfits = c.difference-least.type_inv } in
    let most : FitsSigned w128 c.enough_for_all-most.result = record { sfits = c.enough_for_all-most.type_inv } in
    let below : (i j : ℕ) → IsPlace w i → IsPlace w j → c.difference-least.result ≤ℤ difference us ls i j =
    subst (λ z. (i j : ℕ) → IsPlace w i → IsPlace w j → z ≤ℤ difference us ls i j) (sym c.difference-least.ensures.is) c.nearest-k.ensures.least in
    let reached : c.enough_for_all-most.result ≤ℤ c.difference-least.result = (simp to_z-of_z at c.is_at_least.ensures).0 c.if-is_at_least.true in
    let enough = c.enough_for_all-most.ensures in
    holds (EachReaches N w us ls)
    (λ i j upper lower. reaches_more N w i j c.difference-least.result (difference us ls i j) (below i j upper lower)
    (reaches_more N w i j c.enough_for_all-most.result c.difference-least.result reached (enough i upper j lower)))
