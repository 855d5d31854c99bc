use Rattle.billiards_cli.proofs.commands.demo.write_verdict.Goals as goal

pub returns-in-Accepted-clause-text : goal.returns-in-Accepted-clause-text
returns-in-Accepted-clause-text g c = rw c.in-Accepted.is c.write_acceptance.ensures.text

pub returns-in-Refused-clause-text : goal.returns-in-Refused-clause-text
returns-in-Refused-clause-text g c = rw c.in-Refused.is c.write_refusal.ensures.text
