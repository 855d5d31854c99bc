-- What a verdict says of a covering file, and how much of it was read.
use Rattle.std.specs.Prelude.{◌≡◌, ℕ, ◌+◌, Bool, true, false, List, ◌++◌, length, Ok, Err, ⊤}
use Rattle.std.specs.declared.option.Option.{Option}
use Rattle.std.specs.declared.result.Result.{Result}
use Rattle.std.specs.Io.KnownBytes.{IsAtEnd}
use Rattle.mcb_ends.specs.Reader.{Reader}
use Rattle.line_grammar.specs.Input.{MayBe}
use Rattle.line_grammar.specs.Part.{Part, whole_text}
use Rattle.line_grammar.specs.Reading.{EndsAt, RefusesFirst, StopsEarly}
use Rattle.covering_file.specs.declared.file_kind.FileKind.TheVariants.{Cover}
use Rattle.covering_file.specs.declared.node.Node.{Node}
use Rattle.covering_file.specs.CheckClaims.{check_claims}
use Rattle.covering_file.specs.Covering.{IsCovering}
use Rattle.covering_file.specs.FilePart.{tree_part, file_grammar}
use Rattle.covering_file.specs.Header.{Heading, header_text}
use Rattle.covering_file.specs.Verdicts.{IsAccepted, IsRefused}
use Rattle.cover_checker.specs.declared.verdict.Verdict.{Verdict}
use Rattle.cover_checker.specs.declared.verdict.Verdict.TheVariants.{Accepted, Refused}
use Rattle.cover_checker.specs.declared.verdict.CheckFault.{CheckFault}
use Rattle.cover_checker.specs.declared.verdict.CheckFault.TheVariants.{Read, Memory}
use Rattle.mcb_ends.specs.declared.failed.Failed.{Failed}

-- right for these bytes, with at most `limit` nodes
abbrev pub IsRight : ℕ → List ℕ → Verdict → Type 0
IsRight limit bytes (Accepted nodes words) = IsAccepted limit nodes words bytes
IsRight limit bytes (Refused line reason) = IsRefused limit line reason bytes

-- right for the bytes that a source has left, or for some where it does not tell them
abbrev pub IsRightFor : ℕ → Option (List ℕ) → Verdict → Type 0
IsRightFor limit left verdict = (bytes : List ℕ) × MayBe left bytes × IsRight limit bytes verdict

-- right for a header's lines and then these bytes
abbrev pub IsRightAfter : ℕ → Heading → Option (List ℕ) → Verdict → Type 0
IsRightAfter limit h left verdict = (bytes : List ℕ) × MayBe left bytes × IsRight limit (header_text Cover h ++ bytes) verdict

-- what `Accepted` means: the bytes are one whole covering file, and its region is covered
abbrev pub Covers : ℕ → Option (List ℕ) → Verdict → Type 0
Covers limit left (Accepted nodes words) = (bytes : List ℕ) × MayBe left bytes × IsCovering limit bytes
Covers limit left (Refused line reason) = ⊤

abbrev pub IsAcceptance : Verdict → Type 0
IsAcceptance (Accepted nodes words) = ⊤
IsAcceptance (Refused line reason) = ⊥

-- the fault that comes from outside
abbrev pub is_check_read : CheckFault → Bool
is_check_read Read = true
is_check_read Memory = false

-- ---- how much was read

-- An accepted file is read to its end. With any other answer reading stopped at some due line: for a refused file the refused one.
abbrev pub StopsAt : ℕ → Option (List ℕ) → Option (List ℕ) → Result Verdict CheckFault → Type 0
StopsAt limit left left' (Ok (Accepted nodes words)) = IsAtEnd left'
StopsAt limit left left' (Ok (Refused line reason)) =
    let g = file_grammar check_claims limit in
    (due : g.Due) × (line ≡ length (g.lines_before due) + 1) × EndsAt g due left left'
StopsAt limit left left' (Err fault) =
    let g = file_grammar check_claims limit in
    (due : g.Due) × EndsAt g due left left'

-- the nodes and the end line of a checked file, to the end of the text
abbrev pub checked_tree : ℕ → Heading → Part (List Node)
checked_tree limit h = whole_text (tree_part check_claims limit h)

-- After `Accepted` nothing is left. With any other answer reading stopped at a due line of the tree: for a refusal the refused one.
abbrev pub StopsInTree : ℕ → Heading → Reader → Reader → Option (List ℕ) → Option (List ℕ) → Result Verdict Failed → Type 0
StopsInTree limit h old new left left' (Ok (Accepted nodes words)) = IsAtEnd left'
StopsInTree limit h old new left left' (Ok (Refused line reason)) =
    RefusesFirst (checked_tree limit h).grammar old new left left' (record { line = line; reason = reason })
StopsInTree limit h old new left left' (Err failed) = StopsEarly (checked_tree limit h).grammar old new left left'
