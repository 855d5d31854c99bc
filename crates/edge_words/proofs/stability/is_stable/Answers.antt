use Rattle.std.proofs.Common.{sym, ◌∙◌, arith}
use Rattle.edge_words.proofs.Balance.{stable_from_letters}
use Rattle.edge_words.proofs.stability.is_stable.Goals as goal
use Rattle.edge_words.proofs.stability.is_stable.Goals.{then-is_balanced, else-is_balanced}

pub returns-then-is_balanced-2 : goal.returns-then-is_balanced-2
returns-then-is_balanced-2 c =
    elim c.if-is_balanced.branch [
      | then-is_balanced w ↦ (
        λ third. stable_from_letters c.args.letters.now (c.is_balanced.ensures.0 w.if-is_balanced.true)
            (w.is_balanced-then-is_balanced.ensures.0 (sym w.value-is ∙ c.if-is_balanced-2.true)) (c.is_balanced-then-is_balanced-2.ensures.0 third),
        λ stable. c.is_balanced-then-is_balanced-2.ensures.1 (stable 3 (omega arith, omega arith)),
      )
      | else-is_balanced w ↦ cc
    ]
