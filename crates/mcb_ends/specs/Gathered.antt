-- A sink that gathers bytes, and passes them on to its own sink in blocks.
use Rattle.std.specs.Prelude.{ℕ, List, take}
use Rattle.std.specs.declared.option.Option.{Option}
use Rattle.std.specs.Io.KnownBytes.{append_known}
use Rattle.mcb_ends.specs.declared.gathered.Gathered.{Gathered}

-- its own sink
abbrev pub gathered_sink : {K B : Type 0} {k b : _} → Gathered K B k b → K
gathered_sink gathered = gathered.out

-- the bytes that it holds
abbrev pub gathered_held : {K B : Type 0} {k b : _} → Gathered K B k b → List ℕ
gathered_held gathered = take gathered.len gathered.bytes

-- what its own sink has taken, and then what it holds
abbrev pub gathered_written : {K B : Type 0} {k b : _} → (K → Option (List ℕ)) → Gathered K B k b → Option (List ℕ)
gathered_written written gathered = append_known (written (gathered_sink gathered)) (gathered_held gathered)
