-- A sink over one of std's writers.
use Rattle.std.specs.Prelude.{ℕ}
use Rattle.mcb_ends.specs.declared.std_sink.StdSink.{StdSink}

abbrev pub sink_writer : {W : Type 0} → StdSink W → W
sink_writer sink = sink.writer

abbrev pub sink_faults : {W : Type 0} → StdSink W → ℕ
sink_faults sink = sink.faults
