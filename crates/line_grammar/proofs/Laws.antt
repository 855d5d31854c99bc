-- The laws of parts, closed under putting parts together: a part says one thing, whole ones are not refused, a first offence is one.
use Rattle.std.proofs.Common.{◌≡◌, ◌⊎◌, inl, inr, ℕ, ◌+◌, Bool, true, false, List, [], ◌∷◌, ◌++◌, length}
use Rattle.std.specs.Prelude.{⊤}
use Rattle.std.proofs.Common.{refl, sym, ap, ◌∙◌, subst, arith, length-append, append_assoc, append-nil}
use Rattle.line_grammar.specs.declared.reason.Reason.{Reason}
use Rattle.line_grammar.specs.declared.reason.Reason.TheVariants as reason
use Rattle.line_grammar.specs.Form.{LineForm, IsForm}
use Rattle.line_grammar.specs.Laws.{ValueIsOne, NeverOffends, OffenceIsOne}
use Rattle.line_grammar.specs.Offence.{IsFirstOffence, IsLeast, HaveReason, LackReason}
use Rattle.line_grammar.specs.Part.{Part, line_part, without_line, followed_by, InFirst, InSecond, in_turn, AreSaid, lines_in_turn}
use Rattle.line_grammar.specs.Part.{end_of_text, HasMore, seen_as, whole_text}
use Rattle.line_grammar.specs.Text.{text_of, BeginsWith}
use Rattle.line_grammar.proofs.FrontLines.{no_reason, text_of-after, text_of_one}
use Rattle.line_grammar.proofs.Lines as lines
use Rattle.line_grammar.proofs.Offending.{least_is_one, bytes_apart}

-- every value is sure
abbrev pub Any : {V : Type 0} → V → Type 0
Any v = ⊤

-- ---- one line

pub line_is_one : {V : Type 0} (form : LineForm V) → IsForm form → ValueIsOne (line_part form)
line_is_one form is v w x y p q same =
    let both = lines.one_line (form.line_of v) (form.line_of w) [] [] x y (is.short v p).one (is.short w q).one same in
    (is.one_value v w p q both.0, both.1)

-- bytes that begin with a line that lacks every reason, whatever follows
pub line_never : {V : Type 0} (form : LineForm V) → IsForm form → (Sure : V → Type 0) (rest : List ℕ) → NeverOffends (line_part form) Sure rest
line_never form is Sure rest v line r says sure first =
    let at = form.line_of v in
    let begins : BeginsWith (text_of (at ∷ []) ++ rest) at = (rest, (is.short v says, text_of_one at rest)) in
    no_reason form.Refuses (text_of (at ∷ []) ++ rest) at begins (λ s. is.passes v s says) r
    (subst (λ (bytes : List ℕ). HaveReason form.Refuses bytes r) (sym first.text) first.least.holds)

pub line_offence_is_one : {V : Type 0} (form : LineForm V) → OffenceIsOne (line_part form).grammar
line_offence_is_one form bytes line other r s p q =
    let has = form.Refuses in
    let lacks : List ℕ → Reason → Type 0 = λ l t. ¬ (form.Refuses l t) in
    let here = subst (λ (xs : List ℕ). IsLeast (HaveReason has xs) (LackReason lacks xs) r) (sym p.text) p.least in
    let there = subst (λ (xs : List ℕ). IsLeast (HaveReason has xs) (LackReason lacks xs) s) (sym q.text) q.least in
    (p.number ∙ sym q.number, least_is_one (HaveReason has bytes) (LackReason lacks bytes) (bytes_apart has bytes) r s here there)

-- ---- no line

pub without_is_one : {V : Type 0} (value : V) → ValueIsOne (without_line value)
without_is_one value v w x y p q same = (p ∙ sym q, same)

pub without_never : {V : Type 0} (value : V) (Sure : V → Type 0) (rest : List ℕ) → NeverOffends (without_line value) Sure rest
without_never value Sure rest v line r says sure first = first.reached

pub without_offence_is_one : {V : Type 0} (value : V) → OffenceIsOne (without_line value).grammar
without_offence_is_one value bytes line other r s p q = absurd p.reached

-- ---- the end of the text

pub end_is_one : ValueIsOne end_of_text
end_is_one v w x y p q same = (refl, same)

no_more : (r : Reason) → ¬ (HasMore [] r)
no_more reason.EndLine has = has refl
no_more r has = has

pub end_never : (Sure : Unit {0} → Type 0) → NeverOffends end_of_text Sure []
end_never Sure v line r says sure first = no_more r (subst (λ (bytes : List ℕ). HasMore bytes r) (sym first.text) first.least.holds)

pub end_offence_is_one : OffenceIsOne end_of_text.grammar
end_offence_is_one bytes line other r s p q =
    let here = subst (λ (xs : List ℕ). IsLeast (HasMore xs) (λ t. ¬ (HasMore xs t)) r) (sym p.text) p.least in
    let there = subst (λ (xs : List ℕ). IsLeast (HasMore xs) (λ t. ¬ (HasMore xs t)) s) (sym q.text) q.least in
    (p.number ∙ sym q.number, least_is_one (HasMore bytes) (λ t. ¬ (HasMore bytes t)) (λ t has lacks. lacks has) r s here there)

-- ---- one part after another

abbrev pair : {V W : Type 0} → V → W → V × W
pair v w = (v, w)

second_is_one : {V W : Type 0} (first : Part V) (second : V → Part W) (v v' : V) (w w' : W) (x y : List ℕ) → v ≡ v' → ValueIsOne (second v)
    → (second v).Says w → (second v').Says w' → text_of ((second v).lines_of w) ++ x ≡ text_of ((second v').lines_of w') ++ y
    → (pair v w ≡ pair v' w') × (x ≡ y)
second_is_one {V} {W} first second v v' w w' x y is one says =
    let Same : V → Type 0 = λ u. (second u).Says w' → text_of ((second v).lines_of w) ++ x ≡ text_of ((second u).lines_of w') ++ y
    → (pair v w ≡ pair u w') × (x ≡ y) in
    subst Same is (λ says' same. let both = one w w' x y says says' same in (ap (λ (z : W). pair v z) both.0, both.1))

pub both_are_one : {V W : Type 0} (first : Part V) (second : V → Part W) → ValueIsOne first → ((v : V) → first.Says v → ValueIsOne (second v))
    → ValueIsOne (followed_by first second)
both_are_one first second one ones (v, w) (v', w') x y p q same =
    let lines = first.lines_of v in
    let lines' = first.lines_of v' in
    let more = (second v).lines_of w in
    let more' = (second v').lines_of w' in
    let both = one v v' (text_of more ++ x) (text_of more' ++ y) p.0 q.0 (sym (text_of-after lines more x) ∙ same ∙ text_of-after lines' more' y) in
    second_is_one first second v v' w w' x y both.0 (ones v p.0) p.1 q.1 both.1

-- an offence in the second part, after what the first said
pub record InTheSecond {V W : Type 0} (first : Part V) (second : V → Part W) (bytes : List ℕ) (line : ℕ) (r : Reason) : Type 0 where
  pub value : V
  pub says : first.Says value
  pub rest : List ℕ
  pub number : ℕ
  pub text : bytes ≡ text_of (first.lines_of value) ++ rest
  pub line_is : line ≡ length (first.lines_of value) + number
  pub offence : IsFirstOffence (second value).grammar rest number r

split : {V W : Type 0} (first : Part V) (second : V → Part W) (bytes rest : List ℕ) (line : ℕ) (r : Reason) (due : (followed_by first second).grammar.Due)
    → (followed_by first second).grammar.IsReached due → bytes ≡ text_of ((followed_by first second).grammar.lines_before due) ++ rest
    → line ≡ length ((followed_by first second).grammar.lines_before due) + 1
    → IsLeast ((followed_by first second).grammar.Has due rest) ((followed_by first second).grammar.Lacks due rest) r
    → IsFirstOffence first.grammar bytes line r ⊎ InTheSecond first second bytes line r
split first second bytes rest line r (InFirst due) reached text number least =
    inl (record { due = due; rest = rest; reached = reached; text = text; number = number; least = least })
split first second bytes rest line r (InSecond v due) reached text number least =
    let lines = first.lines_of v in
    let more = (second v).grammar.lines_before due in
    inr (record {
      value = v;
      says = reached.0;
      rest = text_of more ++ rest;
      number = length more + 1;
      text = text ∙ text_of-after lines more rest;
      line_is = omega (arith, number, length-append lines more);
      offence = record { due = due; rest = rest; reached = reached.1; text = refl; number = refl; least = least };
    })

pub offence_splits : {V W : Type 0} (first : Part V) (second : V → Part W) (bytes : List ℕ) (line : ℕ) (r : Reason)
    → IsFirstOffence (followed_by first second).grammar bytes line r → IsFirstOffence first.grammar bytes line r ⊎ InTheSecond first second bytes line r
offence_splits first second bytes line r o = split first second bytes o.rest line r o.due o.reached o.text o.number o.least

pub both_never : {V W : Type 0} (first : Part V) (second : V → Part W) (Sure : V → Type 0) (SureAfter : V → W → Type 0) (rest : List ℕ) → ValueIsOne first
    → ((x : List ℕ) → NeverOffends first Sure x) → ((v : V) → first.Says v → NeverOffends (second v) (SureAfter v) rest)
    → NeverOffends (followed_by first second) (λ p. Sure p.0 × SureAfter p.0 p.1) rest
both_never {V} first second Sure SureAfter rest one never nevers (v, w) line r says sure o =
    let lines = first.lines_of v in
    let more = (second v).lines_of w in
    let bytes = text_of (lines ++ more) ++ rest in
    let cut = text_of-after lines more rest in
    elim (offence_splits first second bytes line r o) [
      | inl here ↦ never (text_of more ++ rest) v line r says.0 sure.0 (subst (λ (xs : List ℕ). IsFirstOffence first.grammar xs line r) cut here)
      | inr there ↦
          let both = one v there.value (text_of more ++ rest) there.rest says.0 there.says (sym cut ∙ there.text) in
          let Never : V → Type 0 = λ u. ¬ (IsFirstOffence (second u).grammar (text_of more ++ rest) there.number r) in
          let none : Never there.value = subst Never both.0 (nevers v says.0 w there.number r says.1 sure.1) in
          none (subst (λ (xs : List ℕ). IsFirstOffence (second there.value).grammar xs there.number r) (sym both.1) there.offence)
    ]

pub both_offences_are_one : {V W : Type 0} (first : Part V) (second : V → Part W) → ValueIsOne first → ((x : List ℕ) → NeverOffends first Any x)
    → OffenceIsOne first.grammar → ((v : V) → first.Says v → OffenceIsOne (second v).grammar) → OffenceIsOne (followed_by first second).grammar
both_offences_are_one {V} first second one never here there bytes line other r s p q =
    elim (offence_splits first second bytes line r p) [
      | inl a ↦ elim (offence_splits first second bytes other s q) [
        | inl b ↦ here bytes line other r s a b
        | inr b ↦ absurd (never b.rest b.value line r b.says tt (subst (λ (xs : List ℕ). IsFirstOffence first.grammar xs line r) b.text a))
      ]
      | inr a ↦ elim (offence_splits first second bytes other s q) [
        | inl b ↦ absurd (never a.rest a.value other s a.says tt (subst (λ (xs : List ℕ). IsFirstOffence first.grammar xs other s) a.text b))
        | inr b ↦
            let both = one a.value b.value a.rest b.rest a.says b.says (sym a.text ∙ b.text) in
            let Offence : V → Type 0 = λ u. IsFirstOffence (second u).grammar b.rest b.number s in
            let moved : Offence a.value = subst Offence (sym both.0) b.offence in
            let same = there a.value a.says a.rest a.number b.number r s a.offence
            (subst (λ (xs : List ℕ). IsFirstOffence (second a.value).grammar xs b.number s) (sym both.1) moved) in
            let counts : length (first.lines_of a.value) ≡ length (first.lines_of b.value) = ap (λ (v : V). length (first.lines_of v)) both.0 in
            (omega (arith, a.line_is, b.line_is, counts, same.0), same.1)
      ]
    ]

-- ---- parts in turn

pub due_or_over : {V : Type 0} (is_due : List V → Bool) (before : List V) → is_due before ≡ true → is_due (before ++ []) ≡ false → ⊥
due_or_over is_due before due over =
    let here : is_due before ≡ false = subst (λ (l : List _). is_due l ≡ false) (append-nil before) over in
    let never : true ≡ false = sym due ∙ here in
    cc

turns_are_one_from : {V : Type 0} (is_due : List V → Bool) (part_after : List V → Part V) → ((l : List V) → ValueIsOne (part_after l))
    → (before vs ws : List V) (x y : List ℕ) → AreSaid is_due part_after before vs → is_due (before ++ vs) ≡ false
    → AreSaid is_due part_after before ws → is_due (before ++ ws) ≡ false
    → text_of (lines_in_turn part_after before vs) ++ x ≡ text_of (lines_in_turn part_after before ws) ++ y → (vs ≡ ws) × (x ≡ y)
turns_are_one_from is_due part_after one before [] [] x y p over q over' same = (refl, same)
turns_are_one_from is_due part_after one before [] (w ∷ ws) x y p over q over' same = absurd (due_or_over is_due before q.0 over)
turns_are_one_from is_due part_after one before (v ∷ vs) [] x y p over q over' same = absurd (due_or_over is_due before p.0 over')
turns_are_one_from {V} is_due part_after one before (v ∷ vs) (w ∷ ws) x y p over q over' same =
    let here = (part_after before).lines_of v in
    let there = (part_after before).lines_of w in
    let more = lines_in_turn part_after (before ++ v ∷ []) vs in
    let more' = lines_in_turn part_after (before ++ w ∷ []) ws in
    let both = one before v w (text_of more ++ x) (text_of more' ++ y) p.1 q.1 (sym (text_of-after here more x) ∙ same ∙ text_of-after there more' y) in
    let Same : V → Type 0 = λ u. AreSaid is_due part_after (before ++ u ∷ []) ws → is_due ((before ++ u ∷ []) ++ ws) ≡ false
    → text_of more ++ x ≡ text_of (lines_in_turn part_after (before ++ u ∷ []) ws) ++ y → (v ∷ vs ≡ u ∷ ws) × (x ≡ y) in
    let over_v = subst (λ (l : List V). is_due l ≡ false) (sym (append_assoc before (v ∷ []) vs)) over in
    let over_w = subst (λ (l : List V). is_due l ≡ false) (sym (append_assoc before (w ∷ []) ws)) over' in
    let at_v : Same v = λ said ends is.
    let rest = turns_are_one_from is_due part_after one (before ++ v ∷ []) vs ws x y p.2 over_v said ends is in
    (ap (λ (l : List V). v ∷ l) rest.0, rest.1) in
    subst Same both.0 at_v q.2 over_w both.1

pub turns_are_one : {V : Type 0} (is_due : List V → Bool) (part_after : List V → Part V) → ((l : List V) → ValueIsOne (part_after l))
    → ValueIsOne (in_turn is_due part_after)
turns_are_one is_due part_after one vs ws x y p q same = turns_are_one_from is_due part_after one [] vs ws x y p.0 p.1 q.0 q.1 same

-- an offence in the turn after these values
pub record InATurn {V : Type 0} (is_due : List V → Bool) (part_after : List V → Part V) (bytes : List ℕ) (line : ℕ) (r : Reason) : Type 0 where
  pub said : List V
  pub are_said : AreSaid is_due part_after [] said
  pub due : is_due said ≡ true
  pub rest : List ℕ
  pub number : ℕ
  pub text : bytes ≡ text_of (lines_in_turn part_after [] said) ++ rest
  pub line_is : line ≡ length (lines_in_turn part_after [] said) + number
  pub offence : IsFirstOffence (part_after said).grammar rest number r

pub in_a_turn : {V : Type 0} (is_due : List V → Bool) (part_after : List V → Part V) (bytes : List ℕ) (line : ℕ) (r : Reason)
    → IsFirstOffence (in_turn is_due part_after).grammar bytes line r → InATurn is_due part_after bytes line r
in_a_turn is_due part_after bytes line r o =
    let lines = lines_in_turn part_after [] o.due.said in
    let more = (part_after o.due.said).grammar.lines_before o.due.due in
    record {
      said = o.due.said;
      are_said = o.reached.0;
      due = o.reached.1;
      rest = text_of more ++ o.rest;
      number = length more + 1;
      text = o.text ∙ text_of-after lines more o.rest;
      line_is = omega (arith, o.number, length-append lines more);
      offence = record { due = o.due.due; rest = o.rest; reached = o.reached.2; text = refl; number = refl; least = o.least };
    }

-- each of these values is sure after those before it
abbrev pub AreSure : {V : Type 0} → (List V → V → Type 0) → List V → List V → Type 0
AreSure Sure before [] = ⊤
AreSure Sure before (v ∷ values) = Sure before v × AreSure Sure (before ++ v ∷ []) values

turns_never_from : {V : Type 0} (is_due : List V → Bool) (part_after : List V → Part V) (Sure : List V → V → Type 0) (rest : List ℕ)
    → ((l : List V) → ValueIsOne (part_after l)) → ((l : List V) (x : List ℕ) → NeverOffends (part_after l) (Sure l) x)
    → (before vs said : List V) (bytes : List ℕ) (n : ℕ) (r : Reason) → AreSaid is_due part_after before vs → AreSure Sure before vs
    → is_due (before ++ vs) ≡ false → AreSaid is_due part_after before said → is_due (before ++ said) ≡ true
    → text_of (lines_in_turn part_after before vs) ++ rest ≡ text_of (lines_in_turn part_after before said) ++ bytes
    → ¬ (IsFirstOffence (part_after (before ++ said)).grammar bytes n r)
turns_never_from is_due part_after Sure rest one never before [] [] bytes n r p sure over q due same o =
    let nothing : true ≡ false = sym due ∙ over in cc
turns_never_from is_due part_after Sure rest one never before [] (s ∷ said) bytes n r p sure over q due same o = due_or_over is_due before q.0 over
turns_never_from {V} is_due part_after Sure rest one never before (v ∷ vs) [] bytes n r p sure over q due same o =
    let here = (part_after before).lines_of v in
    let more = lines_in_turn part_after (before ++ v ∷ []) vs in
    let text = sym same ∙ text_of-after here more rest in
    let moved = subst (λ (l : List V). IsFirstOffence (part_after l).grammar bytes n r) (append-nil before) o in
    never before (text_of more ++ rest) v n r p.1 sure.0 (subst (λ (xs : List ℕ). IsFirstOffence (part_after before).grammar xs n r) text moved)
turns_never_from {V} is_due part_after Sure rest one never before (v ∷ vs) (s ∷ said) bytes n r p sure over q due same o =
    let here = (part_after before).lines_of v in
    let there = (part_after before).lines_of s in
    let more = lines_in_turn part_after (before ++ v ∷ []) vs in
    let more' = lines_in_turn part_after (before ++ s ∷ []) said in
    let both = one before v s (text_of more ++ rest) (text_of more' ++ bytes) p.1 q.1
    (sym (text_of-after here more rest) ∙ same ∙ text_of-after there more' bytes) in
    let Never : V → Type 0 = λ u. AreSaid is_due part_after (before ++ u ∷ []) said → is_due ((before ++ u ∷ []) ++ said) ≡ true
    → text_of more ++ rest ≡ text_of (lines_in_turn part_after (before ++ u ∷ []) said) ++ bytes
    → ¬ (IsFirstOffence (part_after ((before ++ u ∷ []) ++ said)).grammar bytes n r) in
    let over_v = subst (λ (l : List V). is_due l ≡ false) (sym (append_assoc before (v ∷ []) vs)) over in
    let joined = sym (append_assoc before (s ∷ []) said) in
    let at_v : Never v = turns_never_from is_due part_after Sure rest one never (before ++ v ∷ []) vs said bytes n r p.2 sure.1 over_v in
    subst Never both.0 at_v q.2 (subst (λ (l : List V). is_due l ≡ true) joined due) both.1
    (subst (λ (l : List V). IsFirstOffence (part_after l).grammar bytes n r) joined o)

pub turns_never : {V : Type 0} (is_due : List V → Bool) (part_after : List V → Part V) (Sure : List V → V → Type 0) (rest : List ℕ)
    → ((l : List V) → ValueIsOne (part_after l)) → ((l : List V) (x : List ℕ) → NeverOffends (part_after l) (Sure l) x)
    → NeverOffends (in_turn is_due part_after) (AreSure Sure []) rest
turns_never is_due part_after Sure rest one never vs line r says sure o =
    let there = in_a_turn is_due part_after (text_of (lines_in_turn part_after [] vs) ++ rest) line r o in
    turns_never_from is_due part_after Sure rest one never
    [] vs there.said there.rest there.number r says.0 sure says.1 there.are_said there.due there.text there.offence

turn_offences_from : {V : Type 0} (is_due : List V → Bool) (part_after : List V → Part V) → ((l : List V) → ValueIsOne (part_after l))
    → ((l : List V) (x : List ℕ) → NeverOffends (part_after l) Any x) → ((l : List V) → OffenceIsOne (part_after l).grammar)
    → (before vs ws : List V) (x y : List ℕ) (m n : ℕ) (r s : Reason) → AreSaid is_due part_after before vs → AreSaid is_due part_after before ws
    → text_of (lines_in_turn part_after before vs) ++ x ≡ text_of (lines_in_turn part_after before ws) ++ y
    → IsFirstOffence (part_after (before ++ vs)).grammar x m r → IsFirstOffence (part_after (before ++ ws)).grammar y n s
    → (length (lines_in_turn part_after before vs) + m ≡ length (lines_in_turn part_after before ws) + n) × (r ≡ s)
turn_offences_from {V} is_due part_after one never ones before [] [] x y m n r s p q same a b =
    let both = ones (before ++ []) x m n r s a (subst (λ (xs : List ℕ). IsFirstOffence (part_after (before ++ [])).grammar xs n s) (sym same) b) in
    (omega (arith, both.0), both.1)
turn_offences_from {V} is_due part_after one never ones before [] (w ∷ ws) x y m n r s p q same a b =
    let there = (part_after before).lines_of w in
    let more = lines_in_turn part_after (before ++ w ∷ []) ws in
    let text = same ∙ text_of-after there more y in
    let moved = subst (λ (l : List V). IsFirstOffence (part_after l).grammar x m r) (append-nil before) a in
    absurd (never before (text_of more ++ y) w m r q.1 tt (subst (λ (xs : List ℕ). IsFirstOffence (part_after before).grammar xs m r) text moved))
turn_offences_from {V} is_due part_after one never ones before (v ∷ vs) [] x y m n r s p q same a b =
    let here = (part_after before).lines_of v in
    let more = lines_in_turn part_after (before ++ v ∷ []) vs in
    let text = sym same ∙ text_of-after here more x in
    let moved = subst (λ (l : List V). IsFirstOffence (part_after l).grammar y n s) (append-nil before) b in
    absurd (never before (text_of more ++ x) v n s p.1 tt (subst (λ (xs : List ℕ). IsFirstOffence (part_after before).grammar xs n s) text moved))
turn_offences_from {V} is_due part_after one never ones before (v ∷ vs) (w ∷ ws) x y m n r s p q same a b =
    let here = (part_after before).lines_of v in
    let there = (part_after before).lines_of w in
    let more = lines_in_turn part_after (before ++ v ∷ []) vs in
    let more' = lines_in_turn part_after (before ++ w ∷ []) ws in
    let both = one before v w (text_of more ++ x) (text_of more' ++ y) p.1 q.1 (sym (text_of-after here more x) ∙ same ∙ text_of-after there more' y) in
    let One : V → Type 0 = λ u. AreSaid is_due part_after (before ++ u ∷ []) ws
    → text_of more ++ x ≡ text_of (lines_in_turn part_after (before ++ u ∷ []) ws) ++ y
    → IsFirstOffence (part_after ((before ++ u ∷ []) ++ ws)).grammar y n s
    → (length more + m ≡ length (lines_in_turn part_after (before ++ u ∷ []) ws) + n) × (r ≡ s) in
    let a' = subst (λ (l : List V). IsFirstOffence (part_after l).grammar x m r) (sym (append_assoc before (v ∷ []) vs)) a in
    let b' = subst (λ (l : List V). IsFirstOffence (part_after l).grammar y n s) (sym (append_assoc before (w ∷ []) ws)) b in
    let at_v : One v = λ said is o. turn_offences_from is_due part_after one never ones (before ++ v ∷ []) vs ws x y m n r s p.2 said is a' o in
    let rest = subst One both.0 at_v q.2 both.1 b' in
    let counts : length here ≡ length there = ap (λ (u : V). length ((part_after before).lines_of u)) both.0 in
    (omega (arith, rest.0, counts, length-append here more, length-append there more'), rest.1)

pub turn_offences_are_one : {V : Type 0} (is_due : List V → Bool) (part_after : List V → Part V) → ((l : List V) → ValueIsOne (part_after l))
    → ((l : List V) (x : List ℕ) → NeverOffends (part_after l) Any x) → ((l : List V) → OffenceIsOne (part_after l).grammar)
    → OffenceIsOne (in_turn is_due part_after).grammar
turn_offences_are_one is_due part_after one never ones bytes line other r s p q =
    let a = in_a_turn is_due part_after bytes line r p in
    let b = in_a_turn is_due part_after bytes other s q in
    let both = turn_offences_from is_due part_after one never ones [] a.said b.said a.rest b.rest a.number b.number r s a.are_said b.are_said
    (sym a.text ∙ b.text) a.offence b.offence in
    (a.line_is ∙ both.0 ∙ sym b.line_is, both.1)

-- in an exact part each value is sure
pub all_sure : {V : Type 0} (before values : List V) → AreSure (λ _. Any {V = V}) before values
all_sure before [] = tt
all_sure before (v ∷ values) = (tt, all_sure (before ++ v ∷ []) values)

-- ---- another view

pub seen_is_one : {V W : Type 0} (part : Part V) (says : W → Type 0) (lines : W → List (List ℕ)) (view : W → V) → ValueIsOne part
    → ((w : W) → says w → part.Says (view w)) → ((w : W) → says w → lines w ≡ part.lines_of (view w))
    → ((v w : W) → says v → says w → view v ≡ view w → v ≡ w) → ValueIsOne (seen_as part says lines)
seen_is_one part says lines view one fits is tells v w x y p q same =
    let text = ap (λ (ls : List (List ℕ)). text_of ls ++ x) (sym (is v p)) ∙ same ∙ ap (λ (ls : List (List ℕ)). text_of ls ++ y) (is w q) in
    let both = one (view v) (view w) x y (fits v p) (fits w q) text in
    (tells v w p q both.0, both.1)

pub seen_never : {V W : Type 0} (part : Part V) (says : W → Type 0) (lines : W → List (List ℕ)) (view : W → V) (Sure : V → Type 0) (Sure' : W → Type 0)
    (rest : List ℕ) → NeverOffends part Sure rest → ((w : W) → says w → part.Says (view w)) → ((w : W) → says w → lines w ≡ part.lines_of (view w))
    → ((w : W) → says w → Sure' w → Sure (view w)) → NeverOffends (seen_as part says lines) Sure' rest
seen_never part says lines view Sure Sure' rest never fits is sures w line r p sure o =
    never (view w) line r (fits w p) (sures w p sure)
    (subst (λ (ls : List (List ℕ)). IsFirstOffence part.grammar (text_of ls ++ rest) line r) (is w p) o)

-- ---- a whole text

pub text_never : {V : Type 0} (part : Part V) (Sure : V → Type 0) → ValueIsOne part → ((x : List ℕ) → NeverOffends part Sure x)
    → NeverOffends (whole_text part) Sure []
text_never {V} part Sure one never =
    let both = both_never part (λ _. end_of_text) Sure (λ _. Any) [] one never (λ v says. end_never Any) in
    seen_never (followed_by part (λ _. end_of_text)) part.Says part.lines_of (λ (v : V). let p : V × Unit {0} = (v, tt) in p)
    (λ p. Sure p.0 × Any p.1) Sure [] both (λ v says. (says, tt)) (λ v says. sym (append-nil (part.lines_of v))) (λ v says sure. (sure, tt))

pub text_offence_is_one : {V : Type 0} (part : Part V) → ValueIsOne part → ((x : List ℕ) → NeverOffends part Any x) → OffenceIsOne part.grammar
    → OffenceIsOne (whole_text part).grammar
text_offence_is_one part one never here = both_offences_are_one part (λ _. end_of_text) one never here (λ v says. end_offence_is_one)
