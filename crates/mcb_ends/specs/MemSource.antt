-- A source in memory.
use Rattle.std.specs.Prelude.{ℕ, List}
use Rattle.mcb_ends.specs.Calls.{CallCounts}
use Rattle.mcb_ends.specs.declared.mem_source.MemSource.{MemSource}

-- the bytes that it has left
abbrev pub source_left : MemSource → List ℕ
source_left source = source.unread

-- the most that a call hands out
abbrev pub source_piece : MemSource → ℕ
source_piece source = source.piece

abbrev pub source_calls : MemSource → CallCounts
source_calls source = source.calls
