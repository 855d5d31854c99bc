use Rattle.mcb_ends.proofs.tests.gather.Given as goal

abbrev pub ghosts-gather_after : goal.ghosts-gather_after
ghosts-gather_after g a = record { taken = g.K.Sink.written a.out }
