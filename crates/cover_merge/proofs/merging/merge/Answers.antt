use Rattle.cover_merge.proofs.merging.merge.Goals as goal

pub returns-clause-wanting : goal.returns-clause-wanting
returns-clause-wanting g c = λ wants. c.in_ok-first.ensures.begins
