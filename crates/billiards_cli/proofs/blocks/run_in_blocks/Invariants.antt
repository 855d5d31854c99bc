use Rattle.billiards_cli.proofs.blocks.run_in_blocks.Given as goal

-- what the sink had taken before
abbrev pub ghosts-run_gathered : goal.ghosts-run_gathered
ghosts-run_gathered g a = record { taken = g.K.Sink.written a.out }
