use Rattle.covering_file.proofs.form.StableWordForm.read.Goals as goal

pub returns-in-Ok : goal.returns-in-Ok
returns-in-Ok c = (record { word = c.in-Ok.ensures.is_word; stable = c.is_stable.ensures.0 c.if-is_stable.true }, c.in-Ok.ensures.digits)
