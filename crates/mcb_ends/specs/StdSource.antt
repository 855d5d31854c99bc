-- A source over one of std's readers.
use Rattle.std.specs.Prelude.{ℕ}
use Rattle.mcb_ends.specs.declared.std_source.StdSource.{StdSource}

abbrev pub source_reader : {R : Type 0} → StdSource R → R
source_reader source = source.reader

abbrev pub source_faults : {R : Type 0} → StdSource R → ℕ
source_faults source = source.faults
