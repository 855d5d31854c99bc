-- Reading part after part: what is read, and where reading fails.
use Rattle.std.proofs.Common.{◌≡◌, ℕ, ◌+◌, Bool, true, false, List, [], ◌∷◌, ◌++◌, length, Option, Some, None}
use Rattle.std.proofs.Common.{refl, sym, ap, ◌∙◌, subst, arith, length-append, append_assoc, append-nil}
use Rattle.mcb_ends.specs.Reader.{Reader, bytes_before}
use Rattle.line_grammar.specs.declared.reason.Reason.{Reason}
use Rattle.line_grammar.specs.Faults.{Refusal}
use Rattle.line_grammar.specs.Input.{MayBe}
use Rattle.line_grammar.specs.Offence.{Grammar, IsFirstOffence}
use Rattle.line_grammar.specs.Part.{Part, followed_by, InFirst, InSecond, in_turn, so_far, AreSaid, lines_in_turn}
use Rattle.line_grammar.specs.Part.{end_of_text, seen_as, whole_text, without_line}
use Rattle.line_grammar.specs.Reading.{TakesLines, ReadsAhead, StopsAfter, FailsPart, TakesPart, TakesText}
use Rattle.line_grammar.specs.Text.{text_of}
use Rattle.line_grammar.proofs.FrontLines.{text_of-after}
use Rattle.line_grammar.proofs.Taken.{takes_none, takes_as, takes_more, ahead_more, stops_later, may_be_more}

-- ---- a grammar within another

-- After these lines the due lines of one grammar are due lines of another, with the same reasons.
pub record Within (g h : Grammar) (lines : List (List ℕ)) : Type 0 where
  pub to : g.Due → h.Due
  pub reached : (due : g.Due) → g.IsReached due → h.IsReached (to due)
  pub before : (due : g.Due) → h.lines_before (to due) ≡ lines ++ g.lines_before due
  pub has : (due : g.Due) (bytes : List ℕ) (r : Reason) → g.Has due bytes r → h.Has (to due) bytes r
  pub lacks : (due : g.Due) (bytes : List ℕ) (r : Reason) → g.Lacks due bytes r → h.Lacks (to due) bytes r

pub offence_within : (g h : Grammar) (lines : List (List ℕ)) (bytes : List ℕ) (line : ℕ) (r : Reason) → Within g h lines
    → IsFirstOffence g bytes line r → IsFirstOffence h (text_of lines ++ bytes) (length lines + line) r
offence_within g h lines bytes line r within first = record {
  due = within.to first.due;
  rest = first.rest;
  reached = within.reached first.due first.reached;
  text = ap (λ (more : List ℕ). text_of lines ++ more) first.text ∙ sym (text_of-after lines (g.lines_before first.due) first.rest)
      ∙ ap (λ (ls : List (List ℕ)). text_of ls ++ first.rest) (sym (within.before first.due));
  number = omega (arith, first.number, ap length (within.before first.due), length-append lines (g.lines_before first.due));
  least = record {
    holds = within.has first.due first.rest r first.least.holds;
    none_less = λ s less. within.lacks first.due first.rest s (first.least.none_less s less);
  };
}

stops_within : (before lines more : List (List ℕ)) (old mid new : Reader) (a b c : Option (List ℕ)) → before ≡ lines ++ more
    → TakesLines lines old mid a b → StopsAfter more mid new b c → StopsAfter before old new a c
stops_within before lines more old mid new a b c is taken stops =
    subst (λ (ls : List (List ℕ)). StopsAfter ls old new a c) (sym is) (stops_later lines more old mid new a b c taken stops)

-- what fails after lines that were taken fails in the greater grammar
pub fails_within : (g h : Grammar) (lines : List (List ℕ)) (old mid new : Reader) (a b c : Option (List ℕ)) (refusal : Option Refusal)
    → Within g h lines → TakesLines lines old mid a b → FailsPart g mid new b c refusal → FailsPart h old new a c refusal
unfolding offence_within
fails_within g h lines old mid new a b c (Some refusal) within taken fails = record {
  bytes = text_of lines ++ fails.bytes;
  input = may_be_more (bytes_before old a) (bytes_before mid b) (text_of lines) fails.bytes taken.bytes fails.input;
  line = length lines + fails.line;
  first = offence_within g h lines fails.bytes fails.line refusal.reason within fails.first;
  number = omega (arith, fails.number, taken.number);
  stops = stops_within (h.lines_before (within.to fails.first.due)) lines (g.lines_before fails.first.due) old mid new a b c
      (within.before fails.first.due) taken fails.stops;
}
fails_within g h lines old mid new a b c None within taken fails = record {
  due = within.to fails.due;
  reached = within.reached fails.due fails.reached;
  stops = stops_within (h.lines_before (within.to fails.due)) lines (g.lines_before fails.due) old mid new a b c
      (within.before fails.due) taken fails.stops;
}

-- ---- no line

pub takes_without : {V : Type 0} (value : V) (reader : Reader) (left : Option (List ℕ)) → reader.is_done ≡ false
    → TakesPart (without_line value) reader reader left left value
takes_without value reader left reading = record { says = refl; taken = takes_none reader left reading; ahead = refl }

-- ---- one part after another

pub first_within : {V W : Type 0} (first : Part V) (second : V → Part W) → Within first.grammar (followed_by first second).grammar []
first_within first second = record {
  to = λ due. InFirst due;
  reached = λ due is. is;
  before = λ due. refl;
  has = λ due bytes r is. is;
  lacks = λ due bytes r is. is;
}

pub second_within : {V W : Type 0} (first : Part V) (second : V → Part W) (v : V) → first.Says v
    → Within (second v).grammar (followed_by first second).grammar (first.lines_of v)
second_within first second v says = record {
  to = λ due. InSecond v due;
  reached = λ due is. (says, is);
  before = λ due. refl;
  has = λ due bytes r is. is;
  lacks = λ due bytes r is. is;
}

pub fails_first : {V W : Type 0} (first : Part V) (second : V → Part W) (old new : Reader) (a b : Option (List ℕ)) (refusal : Option Refusal)
    → old.is_done ≡ false → FailsPart first.grammar old new a b refusal → FailsPart (followed_by first second).grammar old new a b refusal
fails_first first second old new a b refusal reading fails =
    fails_within first.grammar (followed_by first second).grammar [] old old new a a b refusal (first_within first second)
    (takes_none old a reading) fails

pub fails_second : {V W : Type 0} (first : Part V) (second : V → Part W) (v : V) (old mid new : Reader) (a b c : Option (List ℕ))
    (refusal : Option Refusal) → TakesPart first old mid a b v → FailsPart (second v).grammar mid new b c refusal
    → FailsPart (followed_by first second).grammar old new a c refusal
fails_second first second v old mid new a b c refusal takes fails =
    fails_within (second v).grammar (followed_by first second).grammar (first.lines_of v) old mid new a b c refusal
    (second_within first second v takes.says) takes.taken fails

pub takes_both : {V W : Type 0} (first : Part V) (second : V → Part W) (v : V) (w : W) (old mid new : Reader) (a b c : Option (List ℕ))
    → TakesPart first old mid a b v → TakesPart (second v) mid new b c w → TakesPart (followed_by first second) old new a c (v, w)
takes_both first second v w old mid new a b c one two = record {
  says = (one.says, two.says);
  taken = takes_more (first.lines_of v) ((second v).lines_of w) old mid new a b c one.taken two.taken;
  ahead = ahead_more (first.lines_of v) ((second v).lines_of w) old mid a b c one.taken one.ahead two.ahead;
}

-- ---- parts in turn

pub said_more : {V : Type 0} (is_due : List V → Bool) (part_after : List V → Part V) (before values : List V) (v : V)
    → AreSaid is_due part_after before values → is_due (before ++ values) ≡ true → (part_after (before ++ values)).Says v
    → AreSaid is_due part_after before (values ++ v ∷ [])
said_more is_due part_after before [] v said due says =
    let same = append-nil before in
    (subst (λ (l : List _). is_due l ≡ true) same due, subst (λ (l : List _). (part_after l).Says v) same says, tt)
said_more is_due part_after before (u ∷ values) v said due says =
    let same = sym (append_assoc before (u ∷ []) values) in (
      said.0,
      said.1,
      said_more is_due part_after (before ++ u ∷ []) values v said.2
          (subst (λ (l : List _). is_due l ≡ true) same due) (subst (λ (l : List _). (part_after l).Says v) same says),
    )

pub lines_more : {V : Type 0} (part_after : List V → Part V) (before values : List V) (v : V)
    → lines_in_turn part_after before (values ++ v ∷ []) ≡ lines_in_turn part_after before values ++ (part_after (before ++ values)).lines_of v
lines_more part_after before [] v =
    append-nil ((part_after before).lines_of v) ∙ ap (λ (l : List _). (part_after l).lines_of v) (sym (append-nil before))
lines_more part_after before (u ∷ values) v =
    let here = (part_after before).lines_of u in
    let there = lines_in_turn part_after (before ++ u ∷ []) values in
    ap (λ (ls : List (List ℕ)). here ++ ls) (lines_more part_after (before ++ u ∷ []) values v)
    ∙ ap (λ (l : List _). here ++ (there ++ (part_after l).lines_of v)) (append_assoc before (u ∷ []) values)
    ∙ sym (append_assoc here there ((part_after (before ++ u ∷ values)).lines_of v))

pub takes_no_turn : {V : Type 0} (is_due : List V → Bool) (part_after : List V → Part V) (reader : Reader) (left : Option (List ℕ))
    → reader.is_done ≡ false → TakesPart (so_far is_due part_after) reader reader left left []
takes_no_turn is_due part_after reader left reading = record { says = tt; taken = takes_none reader left reading; ahead = refl }

pub takes_turn : {V : Type 0} (is_due : List V → Bool) (part_after : List V → Part V) (values : List V) (v : V) (old mid new : Reader)
    (a b c : Option (List ℕ)) → TakesPart (so_far is_due part_after) old mid a b values → is_due values ≡ true
    → TakesPart (part_after values) mid new b c v → TakesPart (so_far is_due part_after) old new a c (values ++ v ∷ [])
takes_turn is_due part_after values v old mid new a b c so_far due one =
    let lines = lines_in_turn part_after [] values in
    let more = (part_after values).lines_of v in
    let same = sym (lines_more part_after [] values v) in
    record {
      says = said_more is_due part_after [] values v so_far.says due one.says;
      taken = takes_as (lines ++ more) (lines_in_turn part_after [] (values ++ v ∷ [])) old new a c same
          (takes_more lines more old mid new a b c so_far.taken one.taken);
      ahead = subst (λ (ls : List (List ℕ)). ReadsAhead ls old a c) same (ahead_more lines more old mid a b c so_far.taken so_far.ahead one.ahead);
    }

pub takes_all_turns : {V : Type 0} (is_due : List V → Bool) (part_after : List V → Part V) (values : List V) (old new : Reader)
    (a b : Option (List ℕ)) → TakesPart (so_far is_due part_after) old new a b values → is_due values ≡ false
    → TakesPart (in_turn is_due part_after) old new a b values
takes_all_turns is_due part_after values old new a b takes over = record { says = (takes.says, over); taken = takes.taken; ahead = takes.ahead }

pub turn_within : {V : Type 0} (is_due : List V → Bool) (part_after : List V → Part V) (values : List V) → AreSaid is_due part_after [] values
    → is_due values ≡ true → Within (part_after values).grammar (in_turn is_due part_after).grammar (lines_in_turn part_after [] values)
turn_within is_due part_after values said due = record {
  to = λ d. record { said = values; due = d };
  reached = λ d is. (said, due, is);
  before = λ d. refl;
  has = λ d bytes r is. is;
  lacks = λ d bytes r is. is;
}

pub fails_turn : {V : Type 0} (is_due : List V → Bool) (part_after : List V → Part V) (values : List V) (old mid new : Reader)
    (a b c : Option (List ℕ)) (refusal : Option Refusal) → TakesPart (so_far is_due part_after) old mid a b values → is_due values ≡ true
    → FailsPart (part_after values).grammar mid new b c refusal → FailsPart (in_turn is_due part_after).grammar old new a c refusal
fails_turn is_due part_after values old mid new a b c refusal takes due fails =
    fails_within (part_after values).grammar (in_turn is_due part_after).grammar (lines_in_turn part_after [] values) old mid new a b c refusal
    (turn_within is_due part_after values takes.says due) takes.taken fails

-- ---- another view, and the end

pub takes_seen : {V W : Type 0} (part : Part V) (says : W → Type 0) (lines : W → List (List ℕ)) (v : V) (w : W) (old new : Reader)
    (a b : Option (List ℕ)) → TakesPart part old new a b v → says w → part.lines_of v ≡ lines w → TakesPart (seen_as part says lines) old new a b w
takes_seen part says lines v w old new a b takes is same = record {
  says = is;
  taken = takes_as (part.lines_of v) (lines w) old new a b same takes.taken;
  ahead = subst (λ (ls : List (List ℕ)). ReadsAhead ls old a b) same takes.ahead;
}

-- a part, and then the end of the text
pub takes_text : {V : Type 0} (part : Part V) (v : V) (old mid : Reader) (a b c : Option (List ℕ)) → TakesPart part old mid a b v
    → TakesText end_of_text mid b c tt → TakesText (whole_text part) old a c v
takes_text part v old mid a b c takes ends = record {
  says = takes.says;
  text = subst (MayBe (bytes_before old a)) (append-nil (text_of (part.lines_of v)))
      (may_be_more (bytes_before old a) (bytes_before mid b) (text_of (part.lines_of v)) [] takes.taken.bytes ends.text);
  ended = ends.ended;
}
