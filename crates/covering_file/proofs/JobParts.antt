-- The parts of a job: a header, the end line, and nothing after it.
use Rattle.std.proofs.Common.{◌≡◌, ℕ, false, List, ◌++◌, length, codes, Option, IfErr, Result, refl, sym, subst}
use Rattle.mcb_ends.specs.Reader.{Reader, bytes_before}
use Rattle.line_grammar.specs.declared.reason.Reason.TheVariants.{EndLine}
use Rattle.line_grammar.specs.declared.fault.LineFault.{LineFault}
use Rattle.line_grammar.specs.Faults.{Refusal, refusal_of}
use Rattle.line_grammar.specs.Form.{whole_line}
use Rattle.line_grammar.specs.Input.{IsNew}
use Rattle.line_grammar.specs.Part.{Part, line_part, followed_by, end_of_text}
use Rattle.line_grammar.specs.Reading.{TakesPart, TakesText, FailsPart}
use Rattle.line_grammar.proofs.Parts.{fails_first, fails_second, takes_both, takes_seen, takes_text}
use Rattle.line_grammar.proofs.Taken.{new_bytes}
use Rattle.covering_file.specs.declared.fault.HeadFault.{HeadFault}
use Rattle.covering_file.specs.declared.file_kind.FileKind.{FileKind}
use Rattle.covering_file.specs.declared.file_kind.FileKind.TheVariants.{Job}
use Rattle.covering_file.specs.Faults.{BeginsHeader, WantsMemory, head_of, head_refusal}
use Rattle.covering_file.specs.Header.{Heading, IsHeading, job_lines, region_lines, words_lines}
use Rattle.covering_file.specs.HeaderPart.{header_part, ended_header, job_part, depth_part}
use Rattle.covering_file.proofs.HeadFaults.{same_refusal}
use Rattle.covering_file.proofs.HeadLines.{some_version}
use Rattle.covering_file.proofs.Wanting.{begins_header}

-- the end line, after any header
abbrev pub end_part : Heading → Part (Unit {0})
end_part _ = line_part (whole_line (codes "end") EndLine)

abbrev pub nothing_more : Heading → Part (Unit {0})
nothing_more _ = end_of_text

pub header_in_job : (old new : Reader) (a b : Option (List ℕ)) (refusal : Option Refusal) → old.is_done ≡ false
    → FailsPart (header_part Job).grammar old new a b refusal → FailsPart job_part.grammar old new a b refusal
header_in_job old new a b refusal reading fails =
    fails_first ended_header nothing_more old new a b refusal reading (fails_first (header_part Job) end_part old new a b refusal reading fails)

pub end_fails : (h : Heading) (old mid new : Reader) (a b c : Option (List ℕ)) (refusal : Option Refusal) → old.is_done ≡ false
    → TakesPart (header_part Job) old mid a b h → FailsPart (end_part h).grammar mid new b c refusal → FailsPart job_part.grammar old new a c refusal
end_fails h old mid new a b c refusal reading header fails =
    fails_first ended_header nothing_more old new a c refusal reading (fails_second (header_part Job) end_part h old mid new a b c refusal header fails)

ended : (h : Heading) (old mid new : Reader) (a b c : Option (List ℕ)) → TakesPart (header_part Job) old mid a b h
    → TakesPart (end_part h) mid new b c tt → TakesPart ended_header old new a c h
ended h old mid new a b c header end =
    takes_seen (followed_by (header_part Job) end_part) IsHeading job_lines (let p : Heading × Unit {0} = (h, tt) in p) h old new a c
    (takes_both (header_part Job) end_part h tt old mid new a b c header end) header.says refl

pub after_fails : (h : Heading) (old mid at new : Reader) (a b c d : Option (List ℕ)) (refusal : Option Refusal) → TakesPart (header_part Job) old mid a b h
    → TakesPart (end_part h) mid at b c tt → FailsPart end_of_text.grammar at new c d refusal → FailsPart job_part.grammar old new a d refusal
after_fails h old mid at new a b c d refusal header end fails =
    fails_second ended_header nothing_more h old at new a c d refusal (ended h old mid at a b c header end) fails

pub job_taken : (h : Heading) (old mid at : Reader) (a b c d : Option (List ℕ)) → TakesPart (header_part Job) old mid a b h
    → TakesPart (end_part h) mid at b c tt → TakesText end_of_text at c d tt → TakesText job_part old a d h
job_taken h old mid at a b c d header end over = takes_text ended_header h old at a c d (ended h old mid at a b c header end) over

-- ---- what a new reader reads

pub wants_new : {T : Type 0} (kind : FileKind) (reader : Reader) (left : Option (List ℕ)) (result : Result T HeadFault) → IsNew reader
    → IfErr result (WantsMemory kind (bytes_before reader left)) → IfErr result (WantsMemory kind left)
wants_new kind reader left result new wants = subst (λ (input : Option (List ℕ)). IfErr result (WantsMemory kind input)) (new_bytes reader left new) wants

-- a header that is read begins with its first line
pub header_begins : (kind : FileKind) (h : Heading) (old new : Reader) (a b : Option (List ℕ)) → TakesPart (header_part kind) old new a b h
    → BeginsHeader kind (bytes_before old a)
header_begins kind h old new a b header =
    begins_header kind h.version (region_lines h.version h.region ++ words_lines h.words ++ depth_part.lines_of h.depth) old new a b
    (some_version h.version (length h.region) header.says.version) header.taken

pub begins_new : (kind : FileKind) (h : Heading) (old new : Reader) (a b : Option (List ℕ)) → IsNew old → TakesPart (header_part kind) old new a b h
    → BeginsHeader kind a
begins_new kind h old new a b is header = subst (BeginsHeader kind) (new_bytes old a is) (header_begins kind h old new a b header)

-- ---- a line's fault in a job

pub from_line : (fault : LineFault) (old new : Reader) (a b : Option (List ℕ)) → FailsPart job_part.grammar old new a b (refusal_of fault)
    → FailsPart job_part.grammar old new a b (head_refusal (head_of fault))
from_line fault old new a b fails = subst (λ (r : Option Refusal). FailsPart job_part.grammar old new a b r) (sym (same_refusal fault)) fails
