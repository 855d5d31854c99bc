-- A header, and what is judged after it, make a right verdict of the whole file.
use Rattle.std.proofs.Common.{◌≡◌, refl, sym, subst, ℕ, ◌+◌, List, [], ◌++◌, length, Option, Some, None, Ok, Err, append-nil, arith}
use Rattle.std.specs.Io.KnownBytes.{Consumes}
use Rattle.mcb_ends.specs.Reader.{Reader, bytes_before}
use Rattle.line_grammar.specs.declared.reason.Reason.{Reason}
use Rattle.line_grammar.specs.Faults.{Refusal}
use Rattle.line_grammar.specs.Input.{MayBe, IsNew}
use Rattle.line_grammar.specs.Offence.{Grammar, IsFirstOffence}
use Rattle.line_grammar.specs.Part.{Part, InFirst, InSecond, whole_text}
use Rattle.line_grammar.specs.Reading.{TakesPart, FailsPart, RefusesFirst, StopsEarly, EndsAt, EndsWithin}
use Rattle.line_grammar.specs.Text.{text_of}
use Rattle.line_grammar.proofs.FrontLines.{text_of-append}
use Rattle.line_grammar.proofs.Parts.{offence_within, second_within, fails_first, fails_second}
use Rattle.line_grammar.proofs.Taken.{may_be_more, new_bytes}
use Rattle.covering_file.specs.declared.file_kind.FileKind.TheVariants.{Cover}
use Rattle.covering_file.specs.declared.node.Node.{Node}
use Rattle.covering_file.specs.CheckClaims.{check_claims}
use Rattle.covering_file.specs.Faults.{BeginsHeader}
use Rattle.covering_file.specs.FilePart.{tree_part, tree_lines, file_grammar}
use Rattle.covering_file.specs.Header.{Heading, IsHeading, header_lines, header_text}
use Rattle.covering_file.specs.HeaderPart.{header_part}
use Rattle.covering_file.specs.Verdicts.{IsAccepted, IsSureFile}
use Rattle.covering_file.proofs.HeadLines.{some_version}
use Rattle.covering_file.proofs.Accepted.{accepted_is_covering}
use Rattle.covering_file.proofs.Passed.{passed_is_accepted}
use Rattle.covering_file.proofs.Sure.{sure_is_not_refused}
use Rattle.covering_file.proofs.Wanting.{begins_header}
use Rattle.cover_checker.specs.declared.verdict.CheckFault.{CheckFault}
use Rattle.cover_checker.specs.declared.verdict.Verdict.{Verdict}
use Rattle.cover_checker.specs.declared.verdict.Verdict.TheVariants.{Accepted, Refused}
use Rattle.cover_checker.specs.Steps.{TakesTree}
use Rattle.cover_checker.specs.Verdicts.{IsRightFor, IsRightAfter, Covers, IsAcceptance, StopsAt, StopsInTree, checked_tree}

-- the part after a header
abbrev tree_after : ℕ → Heading → Part (List Node)
tree_after limit h = whole_text (tree_part check_claims limit h)

abbrev grammar_of : ℕ → Grammar
grammar_of limit = file_grammar check_claims limit

abbrev refusal_at : ℕ → Reason → Refusal
refusal_at line reason = record { line = line; reason = reason }

-- ---- after a header

pub accepted_after : (limit count words : ℕ) (h : Heading) (old : Reader) (a b : Option (List ℕ)) → IsHeading h → words ≡ length h.words
    → TakesTree limit h old a b count
    → IsRightAfter limit h (bytes_before old a) (Accepted count words)
accepted_after limit count words h old a b heading listed tree =
    let nodes = tree.0 in
    let bytes = text_of (tree_lines nodes) in
    let passed = passed_is_accepted limit h nodes heading tree.2.says in
    let text : IsAccepted limit (length nodes) (length h.words) (header_text Cover h ++ bytes) =
    subst (λ (xs : List ℕ). IsAccepted limit (length nodes) (length h.words) xs) (text_of-append (header_lines Cover h) (tree_lines nodes)) passed in (
      bytes,
      tree.2.text,
      subst (λ k. IsAccepted limit k words (header_text Cover h ++ bytes)) (sym tree.1)
          (subst (λ k. IsAccepted limit (length nodes) k (header_text Cover h ++ bytes)) (sym listed) text),
    )

pub refused_after : (limit : ℕ) (h : Heading) (old new : Reader) (a b : Option (List ℕ)) (line : ℕ) (reason : Reason) → IsHeading h
    → old.number ≡ length (header_lines Cover h)
    → RefusesFirst (checked_tree limit h).grammar old new a b (refusal_at line reason) → IsRightAfter limit h (bytes_before old a) (Refused line reason)
refused_after limit h old new a b line reason heading at refuses =
    let first = offence_within (checked_tree limit h).grammar (grammar_of limit) (header_lines Cover h) refuses.bytes refuses.line reason
    (second_within (header_part Cover) (tree_after limit) h heading) refuses.first in
    let same : length (header_lines Cover h) + refuses.line ≡ line = omega (arith, at, refuses.number) in
    (refuses.bytes, refuses.input, subst (λ k. IsFirstOffence (grammar_of limit) (header_text Cover h ++ refuses.bytes) k reason) same first)

-- ---- in the whole file

pub refused_right : (limit : ℕ) (old new : Reader) (a b : Option (List ℕ)) (line : ℕ) (reason : Reason) → IsNew old
    → RefusesFirst (grammar_of limit) old new a b (refusal_at line reason)
    → IsRightFor limit a (Refused line reason)
refused_right limit old new a b line reason fresh refuses =
    let same : refuses.line ≡ line = omega (arith, refuses.number, fresh.number) in (
      refuses.bytes,
      subst (λ (x : Option (List ℕ)). MayBe x refuses.bytes) (new_bytes old a fresh) refuses.input,
      subst
          (λ k. IsFirstOffence (grammar_of limit) refuses.bytes k reason) same refuses.first,
    )

ends_at : (limit : ℕ) (due : (grammar_of limit).Due) (old : Reader) (a b : Option (List ℕ)) → IsNew old → (grammar_of limit).IsReached due
    → EndsWithin ((grammar_of limit).lines_before due) old a b
    → EndsAt (grammar_of limit) due a b
ends_at limit due old a b fresh reached ahead = record {
  reached = reached;
  more = ahead.more;
  one_buffer = ahead.one_buffer;
  read = subst (λ (x : Option (List ℕ)). Consumes x b (text_of ((grammar_of limit).lines_before due) ++ ahead.more)) (new_bytes old a fresh) ahead.read;
}

pub refused_stops : (limit : ℕ) (old new : Reader) (a b : Option (List ℕ)) (line : ℕ) (reason : Reason) → IsNew old
    → RefusesFirst (grammar_of limit) old new a b (refusal_at line reason)
    → StopsAt limit a b (Ok (Refused line reason))
refused_stops limit old new a b line reason fresh refuses = (
  refuses.first.due,
  omega (arith, refuses.number, fresh.number, refuses.first.number),
  ends_at limit refuses.first.due old a b fresh refuses.first.reached refuses.stops.ahead,
)

pub failed_stops : (limit : ℕ) (old new : Reader) (a b : Option (List ℕ)) (fault : CheckFault) → IsNew old
    → StopsEarly (grammar_of limit) old new a b → StopsAt limit a b (Err fault)
failed_stops limit old new a b fault fresh early = (early.due, ends_at limit early.due old a b fresh early.reached early.stops.ahead)

-- ---- in the header

pub header_fails : (limit : ℕ) (old new : Reader) (a b : Option (List ℕ)) (refusal : Option Refusal) → IsNew old
    → FailsPart (header_part Cover).grammar old new a b refusal
    → FailsPart (grammar_of limit) old new a b refusal
header_fails limit old new a b refusal fresh fails = fails_first (header_part Cover) (tree_after limit) old new a b refusal fresh.done fails

-- after the header, before its first node
pub header_stops : (limit : ℕ) (h : Heading) (old new : Reader) (a b : Option (List ℕ)) (fault : CheckFault) → IsNew old
    → TakesPart (header_part Cover) old new a b h → StopsAt limit a b (Err fault)
header_stops limit h old new a b fault fresh takes =
    let due = InSecond h (InFirst (InFirst (record { said = []; due = tt }))) in
    let ahead = subst (λ (ls : List (List ℕ)). EndsWithin ls old a b) (sym (append-nil (header_lines Cover h))) takes.ahead in
    (due, ends_at limit due old a b fresh (takes.says, (tt, refl, tt)) ahead)

-- ---- after the header

pub tree_fails : (limit : ℕ) (h : Heading) (old mid new : Reader) (a b c : Option (List ℕ)) (refusal : Option Refusal)
    → TakesPart (header_part Cover) old mid a b h
    → FailsPart (checked_tree limit h).grammar mid new b c refusal → FailsPart (grammar_of limit) old new a c refusal
tree_fails limit h old mid new a b c refusal takes fails = fails_second (header_part Cover) (tree_after limit) h old mid new a b c refusal takes fails

pub right_for_all : (limit : ℕ) (h : Heading) (old mid : Reader) (a b : Option (List ℕ)) (verdict : Verdict) → IsNew old
    → TakesPart (header_part Cover) old mid a b h
    → IsRightAfter limit h (bytes_before mid b) verdict → IsRightFor limit a verdict
right_for_all limit h old mid a b verdict fresh takes right =
    let bytes = header_text Cover h ++ right.0 in (
      bytes,
      subst (λ (x : Option (List ℕ)). MayBe x bytes) (new_bytes old a fresh)
          (may_be_more (bytes_before old a) (bytes_before mid b) (header_text Cover h) right.0 takes.taken.bytes right.1),
      right.2,
    )

pub stops_for_all : (limit : ℕ) (h : Heading) (old mid new : Reader) (a b c : Option (List ℕ)) (verdict : Verdict) → IsNew old
    → TakesPart (header_part Cover) old mid a b h
    → StopsInTree limit h mid new b c (Ok verdict) → StopsAt limit a c (Ok verdict)
stops_for_all limit h old mid new a b c (Accepted nodes words) fresh takes stops = stops
stops_for_all limit h old mid new a b c (Refused line reason) fresh takes stops =
    refused_stops limit old new a c line reason fresh (tree_fails limit h old mid new a b c (Some (refusal_at line reason)) takes stops)

-- ---- what a right verdict says

pub right_covers : (limit : ℕ) (a : Option (List ℕ)) (verdict : Verdict) → IsRightFor limit a verdict → Covers limit a verdict
right_covers limit a (Accepted nodes words) right = (right.0, right.1, accepted_is_covering limit nodes words right.0 right.2)
right_covers limit a (Refused line reason) right = tt

pub sure_is_accepted : (limit : ℕ) (a : Option (List ℕ)) (verdict : Verdict) (bytes : List ℕ) → a ≡ Some bytes → IsSureFile limit bytes
    → IsRightFor limit a verdict → IsAcceptance verdict
sure_is_accepted limit a (Accepted nodes words) bytes told sure right = tt
sure_is_accepted limit a (Refused line reason) bytes told sure right =
    let same : bytes ≡ right.0 = subst (λ (x : Option (List ℕ)). MayBe x right.0) told right.1 in
    sure_is_not_refused limit right.0 line reason (subst (IsSureFile limit) same sure) right.2

-- a fault that is a line
pub is_refused : (g : Grammar) (old new : Reader) (a b : Option (List ℕ)) (refusal : Option Refusal) (line : ℕ) (reason : Reason)
    → refusal ≡ Some (refusal_at line reason)
    → FailsPart g old new a b refusal → RefusesFirst g old new a b (refusal_at line reason)
is_refused g old new a b refusal line reason is fails = subst (λ (r : Option Refusal). FailsPart g old new a b r) is fails

pub header_begins : (h : Heading) (old new : Reader) (a b : Option (List ℕ)) → IsNew old → TakesPart (header_part Cover) old new a b h → BeginsHeader Cover a
header_begins h old new a b fresh takes =
    subst (λ (x : Option (List ℕ)). BeginsHeader Cover x) (new_bytes old a fresh) (begins_header Cover h.version _ old new a b
    (some_version h.version (length h.region) takes.says.version) takes.taken)

-- a fault that is none
pub is_failed : (g : Grammar) (old new : Reader) (a b : Option (List ℕ)) (refusal : Option Refusal) → refusal ≡ None
    → FailsPart g old new a b refusal → StopsEarly g old new a b
is_failed g old new a b refusal is fails = subst (λ (r : Option Refusal). FailsPart g old new a b r) is fails
