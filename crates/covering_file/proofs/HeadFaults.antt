-- The fault of a line as that of a header.
use Rattle.std.proofs.Common.{◌≡◌, refl}
use Rattle.line_grammar.specs.declared.fault.LineFault.{LineFault}
use Rattle.line_grammar.specs.declared.fault.LineFault.TheVariants.{Line, Read}
use Rattle.line_grammar.specs.Faults.{refusal_of}
use Rattle.covering_file.specs.Faults.{head_of, head_refusal}

pub same_refusal : (fault : LineFault) → head_refusal (head_of fault) ≡ refusal_of fault
same_refusal (Line line reason) = refl
same_refusal Read = refl
