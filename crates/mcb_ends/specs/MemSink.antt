-- A sink in memory.
use Rattle.std.specs.Prelude.{ℕ, List}
use Rattle.mcb_ends.specs.Calls.{CallCounts}
use Rattle.mcb_ends.specs.declared.mem_sink.MemSink.{MemSink}

-- the bytes that it took
abbrev pub sink_bytes : MemSink → List ℕ
sink_bytes sink = sink.bytes.items

-- how many bytes it takes in all
abbrev pub sink_limit : MemSink → ℕ
sink_limit sink = sink.room

-- the most that a call takes
abbrev pub sink_piece : MemSink → ℕ
sink_piece sink = sink.piece

abbrev pub sink_calls : MemSink → CallCounts
sink_calls sink = sink.calls
