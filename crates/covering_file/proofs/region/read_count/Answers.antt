use Rattle.std.proofs.Common.{arith}
use Rattle.covering_file.proofs.HeadLines.{regions_is_form}
use Rattle.covering_file.proofs.region.read_count.Goals as goal

pub take-requires-clause-form : goal.take-requires-clause-form
take-requires-clause-form g c = regions_is_form 1 8 (omega arith)
