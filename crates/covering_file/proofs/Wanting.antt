-- Memory is wanted only after the first line of a header.
use Rattle.std.proofs.Common.{List, ℕ, [], ◌∷◌, ◌++◌, Option, Some, None, Result, Ok, Err, IfErr, refl, arith}
use Rattle.mcb_ends.specs.Reader.{Reader, bytes_before}
use Rattle.line_grammar.specs.declared.fault.LineFault.{LineFault}
use Rattle.line_grammar.specs.declared.fault.LineFault.TheVariants as line
use Rattle.line_grammar.specs.Input.{MayBe}
use Rattle.line_grammar.specs.Reading.{TakesLines}
use Rattle.line_grammar.specs.Text.{text_of}
use Rattle.line_grammar.proofs.Lines.{line-text}
use Rattle.line_grammar.proofs.Taken.{may_be_more}
use Rattle.covering_file.specs.declared.fault.HeadFault.{HeadFault}
use Rattle.covering_file.specs.declared.fault.HeadFault.TheVariants.{Line, Read, Memory}
use Rattle.covering_file.specs.declared.file_kind.FileKind.{FileKind}
use Rattle.covering_file.specs.Faults.{BeginsHeader, WantsMemory, head_of}
use Rattle.covering_file.specs.Header.{IsVersion, first_line}

-- some bytes that a source may have left
some_rest : (left : Option (List ℕ)) → (rest : List ℕ) × MayBe left rest
some_rest None = ([], tt)
some_rest (Some rest) = (rest, refl)

-- lines were taken of which the first is that of a header
pub begins_header : (kind : FileKind) (version : ℕ) (lines : List (List ℕ)) (old new : Reader) (a b : Option (List ℕ)) → IsVersion version
    → TakesLines (first_line kind version ∷ lines) old new a b → BeginsHeader kind (bytes_before old a)
begins_header kind version lines old new a b is taken =
    let rest = some_rest (bytes_before new b) in
    let all = text_of (first_line kind version ∷ lines) in (
      all ++ rest.0,
      may_be_more (bytes_before old a) (bytes_before new b) all rest.0 taken.bytes rest.1,
      (version, is, (text_of lines ++ rest.0, (taken.each 0 [] (omega arith), line-text (first_line kind version) (text_of lines) rest.0))),
    )

-- the fault of a line wants none
pub wants_none : (kind : FileKind) (input : Option (List ℕ)) (fault : LineFault) → WantsMemory kind input (head_of fault)
wants_none kind input (line.Line number reason) = tt
wants_none kind input line.Read = tt

-- after the first line any fault may come
pub wants_after : (kind : FileKind) (input : Option (List ℕ)) (fault : HeadFault) → BeginsHeader kind input → WantsMemory kind input fault
wants_after kind input (Line number reason) begins = tt
wants_after kind input Read begins = tt
wants_after kind input Memory begins = begins

pub wants_if_err : {T : Type 0} (kind : FileKind) (input : Option (List ℕ)) (result : Result T HeadFault) → BeginsHeader kind input
    → IfErr result (WantsMemory kind input)
wants_if_err kind input (Ok value) begins = tt
wants_if_err kind input (Err fault) begins = wants_after kind input fault begins
