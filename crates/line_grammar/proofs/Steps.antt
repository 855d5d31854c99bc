-- One step of a reader of lines: what it finds decides how the due line is taken or refused.
use Rattle.std.proofs.Common.{◌≡◌, ◌≢◌, ◌⊎◌, Bor, inl, inr, ℕ, ◌+◌, ◌≤◌, ◌<◌, false, List, [], ◌∷◌, ◌++◌, replicate, length, All, Option, Some, None}
use Rattle.std.proofs.Common.{refl, sym, ap, ◌∙◌, subst, arith, length-append, append_assoc}
use Rattle.std.specs.Io.KnownBytes.{Consumes, Keeps, prepend_known}
use Rattle.std.proofs.lemmas.List.Elements.{All-replicate, All-nil, All-cons}
use Rattle.mcb_ends.specs.Lines.{Next, Text, TooLong, CutShort, End, IsNext, IsShortLine, HasNoNewline, newline, is_text, next_of}
use Rattle.mcb_ends.specs.Reader.{Reader, bytes_before, Takes, IsLine, HandsOut, IsUnchanged, ReadsOneBuffer}
use Rattle.mcb_ends.specs.declared.line.Line.{Line}
use Rattle.mcb_ends.specs.declared.line.Line.TheVariants as line
use Rattle.line_grammar.specs.declared.reason.Reason.{Reason}
use Rattle.line_grammar.specs.declared.reason.Reason.TheVariants as reason
use Rattle.line_grammar.specs.Form.{LineForm, IsForm}
use Rattle.line_grammar.specs.Input.{MayBe}
use Rattle.line_grammar.specs.Offence.{IsLeast, HaveReason, LackReason, number_of}
use Rattle.line_grammar.specs.Part.{line_part, one_line, end_of_text, HasMore}
use Rattle.line_grammar.specs.Reading.{TakesLines, EndsWithin, StopsAfter, StandsAfter, RefusesFirst, StopsEarly, TakesPart, TakesText}
use Rattle.line_grammar.specs.Text.{text_of, BeginsWith}
use Rattle.line_grammar.proofs.FrontLines.{text_of_one}
use Rattle.line_grammar.proofs.Offending.{refused_least, long_least, early_least}

all_one : {A : Type 0} (P : A → Type 0) (x : A) → P x → All P (x ∷ [])
all_one P x here = All-cons P x [] here (All-nil P)

-- ---- how much was read

prepended : (held more : List ℕ) (left left' : Option (List ℕ)) → Consumes left left' more → Consumes (prepend_known held left) left' (held ++ more)
prepended held more None left' read = tt
prepended held more (Some xs) None read = absurd read
prepended held more (Some xs) (Some ys) read = ap (λ (zs : List ℕ). held ++ zs) read ∙ sym (append_assoc held more ys)

ends_here : (old : Reader) (left left' : Option (List ℕ)) → old.is_done ≡ false → ReadsOneBuffer old left left' → EndsWithin [] old left left'
ends_here old left left' reading ahead = record {
  more = old.held ++ ahead.0;
  one_buffer = omega (arith, ahead.1, length-append old.held ahead.0);
  read = rw reading (prepended old.held ahead.0 left left' ahead.2);
}

-- what a reader holds after a line is less than it held before
held_after : (held held' more line : List ℕ) (left left' : Option (List ℕ)) → length held + length more ≤ 4096 → Consumes left left' more
    → Takes (prepend_known held left) (Text line) (prepend_known held' left')
    → (rest : List ℕ) × (length rest ≤ 4096) × Consumes (prepend_known held left) left' (text_of (line ∷ []) ++ rest)
held_after held held' more line None left' within read takes = ([], omega arith, tt)
held_after held held' more line (Some xs) None within read takes = absurd read
held_after held held' more line (Some xs) (Some ys) within read takes =
    let all : length (held ++ xs) ≡ length (line ++ newline ∷ (held' ++ ys)) = ap length takes.1 in
    let fits : length held' ≤ 4096 =
    omega (
      arith,
      within,
      all,
      ap length read,
      length-append held xs,
      length-append more ys,
      length-append line
          (newline ∷ (held' ++ ys)),
      length-append held' ys,
    ) in
    (held', fits, takes.1 ∙ sym (text_of_one line (held' ++ ys)) ∙ sym (append_assoc (text_of (line ∷ [])) held' ys))

ends_after_line : (old new : Reader) (left left' : Option (List ℕ)) (line : List ℕ) → old.is_done ≡ false → ReadsOneBuffer old left left'
    → HandsOut old new left left' (Text line) → EndsWithin (line ∷ []) old left left'
ends_after_line old new left left' line reading ahead hands =
    let old_bytes : bytes_before old left ≡ prepend_known old.held left = rw reading refl in
    let new_bytes : bytes_before new left' ≡ prepend_known new.held left' = rw hands.done refl in
    let takes = subst (λ (x : Option (List ℕ)). Takes x (Text line) (bytes_before new left')) old_bytes hands.bytes in
    let takes' = subst (λ (x : Option (List ℕ)). Takes (prepend_known old.held left) (Text line) x) new_bytes takes in
    let rest = held_after old.held new.held ahead.0 line left left' ahead.1 ahead.2 takes' in
    record {
      more = rest.0;
      one_buffer = rest.1;
      read = subst (λ (x : Option (List ℕ)). Consumes x left' (text_of (line ∷ []) ++ rest.0)) (sym old_bytes) rest.2;
    }

-- ---- where the reader stands

takes_one : (before after : Option (List ℕ)) (line : List ℕ) → Takes before (Text line) after → Consumes before after (text_of (line ∷ []))
takes_one None after line takes = tt
takes_one (Some bytes) None line takes = absurd takes
takes_one (Some bytes) (Some rest) line takes = takes.1 ∙ sym (text_of_one line rest)

line_taken : (old new : Reader) (left left' : Option (List ℕ)) (line : List ℕ) → HandsOut old new left left' (Text line)
    → TakesLines (line ∷ []) old new left left'
line_taken old new left left' line hands = record {
  each = all_one IsShortLine line hands.form;
  bytes = takes_one (bytes_before old left) (bytes_before new left') line hands.bytes;
  reading = hands.done;
  number = hands.number;
}

stands_after : (old new : Reader) (left left' : Option (List ℕ)) (next : Next) → HandsOut old new left left' next → StandsAfter [] old new left left'
stands_after old new left left' (Text line) hands = inr (inl (line, line_taken old new left left' line hands))
stands_after old new left left' TooLong hands = inr (inr (record { done = hands.done; number = omega (arith, hands.number) }))
stands_after old new left left' CutShort hands = inr (inr (record { done = hands.done; number = omega (arith, hands.number) }))
stands_after old new left left' End hands = inr (inr (record { done = hands.done; number = omega (arith, hands.number) }))

pub stops_here : (old new : Reader) (left left' : Option (List ℕ)) (next : Next) → old.is_done ≡ false → ReadsOneBuffer old left left'
    → HandsOut old new left left' next → StopsAfter [] old new left left'
stops_here old new left left' next reading ahead hands = record {
  ahead = ends_here old left left' reading ahead;
  stands = stands_after old new left left' next hands;
}

keeps_none : (before after : Option (List ℕ)) → Keeps before after → Consumes before after []
keeps_none None after keeps = tt
keeps_none (Some xs) None keeps = absurd keeps
keeps_none (Some xs) (Some ys) keeps = sym keeps

-- a fault of the source leaves the reader before the due line
pub stops_before : (old new : Reader) (left left' : Option (List ℕ)) → old.is_done ≡ false → ReadsOneBuffer old left left'
    → IsUnchanged old new left left' → StopsAfter [] old new left left'
stops_before old new left left' reading ahead same = record {
  ahead = ends_here old left left' reading ahead;
  stands = inl (record {
    each = All-nil IsShortLine;
    bytes = keeps_none (bytes_before old left) (bytes_before new left') same.bytes;
    reading = same.done ∙ reading;
    number = omega (arith, same.number);
  });
}

-- ---- a line that is read

pub takes_line : {V : Type 0} (form : LineForm V) (old new : Reader) (left left' : Option (List ℕ)) (line : List ℕ) (v : V) → old.is_done ≡ false
    → ReadsOneBuffer old left left' → HandsOut old new left left' (Text line) → form.Says v → line ≡ form.line_of v
    → TakesPart (line_part form) old new left left' v
takes_line form old new left left' line v reading ahead hands says is = record {
  says = says;
  taken = subst (λ (l : List ℕ). TakesLines (l ∷ []) old new left left') is (line_taken old new left left' line hands);
  ahead = subst (λ (l : List ℕ). EndsWithin (l ∷ []) old left left') is (ends_after_line old new left left' line reading ahead hands);
}

-- ---- a line that is refused

-- the due line is the first of its part
pub refuses_here : (has lacks : List ℕ → Reason → Type 0) (old new : Reader) (left left' : Option (List ℕ)) (bytes : List ℕ) (number : ℕ) (r : Reason)
    → number ≡ old.number + 1 → MayBe (bytes_before old left) bytes → IsLeast (HaveReason has bytes) (LackReason lacks bytes) r
    → StopsAfter [] old new left left' → RefusesFirst (one_line has lacks) old new left left' (record { line = number; reason = r })
refuses_here has lacks old new left left' bytes number r here input least stops = record {
  bytes = bytes;
  input = input;
  line = 1;
  first = record { due = tt; rest = bytes; reached = tt; text = refl; number = refl; least = least };
  number = here;
  stops = stops;
}

-- bytes that begin with a line, also where none are told
pub begins_with : (before after : Option (List ℕ)) (line : List ℕ) → IsShortLine line → Takes before (Text line) after
    → (bytes : List ℕ) × MayBe before bytes × BeginsWith bytes line
begins_with None after line form takes = (line ++ newline ∷ [], tt, ([], (form, refl)))
begins_with (Some bytes) None line form takes = absurd takes
begins_with (Some bytes) (Some rest) line form takes = (bytes, refl, (rest, takes))

pub line_refused : {V : Type 0} (form : LineForm V) (old new : Reader) (left left' : Option (List ℕ)) (line : List ℕ) (number : ℕ) (r : Reason)
    → IsForm form → number ≡ old.number + 1 → old.is_done ≡ false → ReadsOneBuffer old left left' → HandsOut old new left left' (Text line)
    → form.Refuses line r → RefusesFirst (line_part form).grammar old new left left' (record { line = number; reason = r })
line_refused form old new left left' line number r is here reading ahead hands refuses =
    let begins = begins_with (bytes_before old left) (bytes_before new left') line hands.form hands.bytes in
    refuses_here form.Refuses (λ l s. ¬ (form.Refuses l s)) old new left left' begins.0 number r here begins.1
    (refused_least form begins.0 line r is begins.2 refuses) (stops_here old new left left' (Text line) reading ahead hands)

-- ---- no line

-- bytes in which this stands next, and nothing after it
abbrev pub example : Next → List ℕ
example (Text line) = line ++ newline ∷ []
example TooLong = replicate 81 0
example CutShort = 0 ∷ []
example End = []

no_newline : (n : ℕ) → HasNoNewline (replicate n 0)
no_newline n = All-replicate (λ byte. byte ≡ newline → ⊥) n 0 (λ e. omega (arith, e))

IsNext-example : (next : Next) → IsLine next → IsNext (example next) next []
IsNext-example (Text line) form = (form, refl)
IsNext-example TooLong form = (omega arith, no_newline 81, refl)
IsNext-example CutShort form = (omega arith, record { one = no_newline 1; short = omega arith }, refl)
IsNext-example End form = (refl, refl)

pub stands_next : (before after : Option (List ℕ)) (next : Next) → IsLine next → Takes before next after → is_text next ≡ false
    → (bytes : List ℕ) × MayBe before bytes × IsNext bytes next []
stands_next None after next form takes ends = (example next, tt, IsNext-example next form)
stands_next (Some bytes) None next form takes ends = absurd takes
stands_next (Some bytes) (Some rest) (Text line) form takes ends = absurd (cc)
stands_next (Some bytes) (Some rest) TooLong form takes ends = (bytes, refl, (takes.0, takes.1, refl))
stands_next (Some bytes) (Some rest) CutShort form takes ends = (bytes, refl, (takes.0, takes.1, refl))
stands_next (Some bytes) (Some rest) End form takes ends = (bytes, refl, (takes.0, refl))

pub long_refused : (has lacks : List ℕ → Reason → Type 0) (old new : Reader) (left left' : Option (List ℕ)) (number : ℕ) → number ≡ old.number + 1
    → old.is_done ≡ false → ReadsOneBuffer old left left' → HandsOut old new left left' TooLong
    → RefusesFirst (one_line has lacks) old new left left' (record { line = number; reason = reason.TooLong })
long_refused has lacks old new left left' number here reading ahead hands =
    let found = stands_next (bytes_before old left) (bytes_before new left') TooLong hands.form hands.bytes refl in
    refuses_here has lacks old new left left' found.0 number reason.TooLong here found.1
    (long_least has lacks found.0 (record { long = found.2.0; unbroken = found.2.1 })) (stops_here old new left left' TooLong reading ahead hands)

early_refused : (has lacks : List ℕ → Reason → Type 0) (old new : Reader) (left left' : Option (List ℕ)) (bytes : List ℕ) (number : ℕ) → number ≡ old.number + 1
    → MayBe (bytes_before old left) bytes → IsShortLine bytes → StopsAfter [] old new left left'
    → RefusesFirst (one_line has lacks) old new left left' (record { line = number; reason = reason.Ends })
early_refused has lacks old new left left' bytes number here input short stops =
    refuses_here has lacks old new left left' bytes number reason.Ends here input
    (early_least has lacks bytes (λ long. omega (arith, long.long, short.short)) short.one) stops

cut_refused : (has lacks : List ℕ → Reason → Type 0) (old new : Reader) (left left' : Option (List ℕ)) (number : ℕ) → number ≡ old.number + 1
    → old.is_done ≡ false → ReadsOneBuffer old left left' → HandsOut old new left left' CutShort
    → RefusesFirst (one_line has lacks) old new left left' (record { line = number; reason = reason.Ends })
cut_refused has lacks old new left left' number here reading ahead hands =
    let found = stands_next (bytes_before old left) (bytes_before new left') CutShort hands.form hands.bytes refl in
    early_refused has lacks old new left left' found.0 number here found.1 found.2.1 (stops_here old new left left' CutShort reading ahead hands)

none_short : IsShortLine []
none_short = record { one = All-nil (λ byte. byte ≡ newline → ⊥); short = omega arith }

end_refused : (has lacks : List ℕ → Reason → Type 0) (old new : Reader) (left left' : Option (List ℕ)) (number : ℕ) → number ≡ old.number + 1
    → old.is_done ≡ false → ReadsOneBuffer old left left' → HandsOut old new left left' End
    → RefusesFirst (one_line has lacks) old new left left' (record { line = number; reason = reason.Ends })
end_refused has lacks old new left left' number here reading ahead hands =
    let found = stands_next (bytes_before old left) (bytes_before new left') End hands.form hands.bytes refl in
    early_refused has lacks old new left left' found.0 number here found.1 (subst IsShortLine (sym found.2.0) none_short)
    (stops_here old new left left' End reading ahead hands)

-- the input ends at or in the due line
pub ends_refused : (has lacks : List ℕ → Reason → Type 0) (old new : Reader) (left left' : Option (List ℕ)) (found : Line) (number : ℕ)
    → number ≡ old.number + 1
    → old.is_done ≡ false → ReadsOneBuffer old left left' → HandsOut old new left left' (next_of found) → (found ≡ line.CutShort) ⊎ (found ≡ line.End)
    → RefusesFirst (one_line has lacks) old new left left' (record { line = number; reason = reason.Ends })
ends_refused has lacks old new left left' found number here reading ahead hands (inl cut) =
    cut_refused has lacks old new left left' number here reading ahead (subst (λ (l : Line). HandsOut old new left left' (next_of l)) cut hands)
ends_refused has lacks old new left left' found number here reading ahead hands (inr end) =
    end_refused has lacks old new left left' number here reading ahead (subst (λ (l : Line). HandsOut old new left left' (next_of l)) end hands)

-- ---- the end of the input, or a byte where none is due

takes_end : (before after : Option (List ℕ)) → Takes before End after → MayBe before []
takes_end None after takes = tt
takes_end (Some bytes) None takes = absurd takes
takes_end (Some bytes) (Some rest) takes = takes.0

pub ends_text : (old new : Reader) (left left' : Option (List ℕ)) → old.is_done ≡ false → HandsOut old new left left' End
    → TakesText end_of_text old left left' tt
ends_text old new left left' reading hands = record {
  says = tt;
  text = takes_end (bytes_before old left) (bytes_before new left') hands.bytes;
  ended = hands.end reading;
}

takes_more_bytes : (before after : Option (List ℕ)) (next : Next) → Takes before next after → next ≢ End → (bytes : List ℕ) × MayBe before bytes × (bytes ≢ [])
takes_more_bytes None after next takes other = (0 ∷ [], tt, λ e. cc)
takes_more_bytes (Some bytes) None next takes other = absurd takes
takes_more_bytes (Some bytes) (Some rest) (Text line) takes other =
    (bytes, refl, λ e. absurd (omega (arith, ap length e, ap length takes.1, length-append line (newline ∷ rest))))
takes_more_bytes (Some bytes) (Some rest) TooLong takes other = (bytes, refl, λ e. absurd (omega (arith, ap length e, takes.0)))
takes_more_bytes (Some bytes) (Some rest) CutShort takes other = (bytes, refl, λ e. absurd (omega (arith, ap length e, takes.0)))
takes_more_bytes (Some bytes) (Some rest) End takes other = absurd (other refl)

-- a line that stands next, and is not the end
not_end : (found : Line) → ((text : Bor (List ℕ)) × (found ≡ line.Text text)) ⊎ ((found ≡ line.TooLong) ⊎ (found ≡ line.CutShort)) → next_of found ≢ End
not_end found (inl text) end = let at : next_of (line.Text text.0) ≡ End = subst (λ (l : Line). next_of l ≡ End) text.1 end in cc
not_end found (inr (inl long)) end = let at : next_of line.TooLong ≡ End = subst (λ (l : Line). next_of l ≡ End) long end in cc
not_end found (inr (inr cut)) end = let at : next_of line.CutShort ≡ End = subst (λ (l : Line). next_of l ≡ End) cut end in cc

none_before : (bytes : List ℕ) (r : Reason) → number_of r < 13 → ¬ (HasMore bytes r)
none_before bytes reason.EndLine less = absurd (omega (arith, less))
none_before bytes r less = λ has. has

more_least : (bytes : List ℕ) → bytes ≢ [] → IsLeast (HasMore bytes) (λ r. ¬ (HasMore bytes r)) reason.EndLine
more_least bytes some = record { holds = some; none_less = λ r less. none_before bytes r less }

pub goes_on : (old new : Reader) (left left' : Option (List ℕ)) (found : Line) (number : ℕ) → number ≡ old.number + 1 → old.is_done ≡ false
    → ReadsOneBuffer old left left' → HandsOut old new left left' (next_of found)
    → ((text : Bor (List ℕ)) × (found ≡ line.Text text)) ⊎ ((found ≡ line.TooLong) ⊎ (found ≡ line.CutShort))
    → RefusesFirst end_of_text.grammar old new left left' (record { line = number; reason = reason.EndLine })
goes_on old new left left' found number here reading ahead hands which =
    let more = takes_more_bytes (bytes_before old left) (bytes_before new left') (next_of found) hands.bytes (not_end found which) in
    record {
      bytes = more.0;
      input = more.1;
      line = 1;
      first = record { due = tt; rest = more.0; reached = tt; text = refl; number = refl; least = more_least more.0 more.2 };
      number = here;
      stops = stops_here old new left left' (next_of found) reading ahead hands;
    }

-- ---- a fault of the source

pub fails_before : (has lacks : List ℕ → Reason → Type 0) (old new : Reader) (left left' : Option (List ℕ)) → StopsAfter [] old new left left'
    → StopsEarly (one_line has lacks) old new left left'
fails_before has lacks old new left left' stops = record { due = tt; reached = tt; stops = stops }
