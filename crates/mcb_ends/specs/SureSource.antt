-- A source in memory that never fails.
use Rattle.std.specs.Prelude.{ℕ, List}
use Rattle.mcb_ends.specs.declared.sure_source.SureSource.{SureSource}

-- the bytes that it has left
abbrev pub sure_left : SureSource → List ℕ
sure_left source = source.unread
