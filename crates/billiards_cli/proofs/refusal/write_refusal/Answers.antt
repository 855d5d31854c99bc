use Rattle.billiards_cli.proofs.refusal.write_refusal.Goals as goal

pub returns-clause-text : goal.returns-clause-text
returns-clause-text g c = rw c.number.ensures at c.write_numbered_refusal.ensures.text
