-- Texts put together from parts: a line, a part and then one that depends on it, parts in turn, the end of the text.
use Rattle.std.specs.Prelude.{◌≡◌, ◌≢◌, ℕ, Bool, true, false, nat_lt, List, [], ◌∷◌, ◌++◌, length, ⊤}
use Rattle.line_grammar.specs.Form.{LineForm}
use Rattle.line_grammar.specs.Offence.{Grammar, HaveReason, LackReason}
use Rattle.line_grammar.specs.declared.reason.Reason.{Reason}
use Rattle.line_grammar.specs.declared.reason.Reason.TheVariants.{EndLine}

-- a part of a text: its grammar, the values that it may say, and the lines that say each
pub record Part (V : Type 0) : Type 1 where
  pub grammar : Grammar
  pub Says : V → Type 0
  pub lines_of : V → List (List ℕ)

-- ---- one line

-- one line is due, which can have and can lack these reasons
abbrev pub one_line : (List ℕ → Reason → Type 0) → (List ℕ → Reason → Type 0) → Grammar
one_line has lacks = record {
  Due = Unit {0};
  IsReached = λ _. ⊤;
  lines_before = λ _. [];
  Has = λ _. HaveReason has;
  Lacks = λ _. LackReason lacks;
}

-- a line of a form, which has the reasons for which the form refuses it
abbrev pub line_part : {V : Type 0} → LineForm V → Part V
line_part form = record {
  grammar = one_line form.Refuses (λ line reason. ¬ (form.Refuses line reason));
  Says = form.Says;
  lines_of = λ v. form.line_of v ∷ [];
}

-- ---- no line

-- this value is said by no line
abbrev pub without_line : {V : Type 0} → V → Part V
without_line value = record {
  grammar = record {
    Due = Unit {0};
    IsReached = λ _. ⊥;
    lines_before = λ _. [];
    Has = λ _ _ _. ⊥;
    Lacks = λ _ _ _. ⊤;
  };
  Says = λ v. v ≡ value;
  lines_of = λ _. [];
}

-- ---- one part after another

-- a line is due in the first part, or in the one that follows what the first said
pub data FollowingDue (First V : Type 0) (Second : V → Type 0) : Type 0 where
  InFirst : (due : First) → FollowingDue First V Second
  InSecond : (value : V) (due : Second value) → FollowingDue First V Second

-- what a due line of either part is in both, one after the other
abbrev pub IsReachedFollowing : {V W : Type 0} (first : Part V) (second : V → Part W)
    → FollowingDue first.grammar.Due V (λ v. (second v).grammar.Due) → Type 0
IsReachedFollowing first second (InFirst due) = first.grammar.IsReached due
IsReachedFollowing first second (InSecond v due) = first.Says v × (second v).grammar.IsReached due

abbrev pub lines_before_following : {V W : Type 0} (first : Part V) (second : V → Part W)
    → FollowingDue first.grammar.Due V (λ v. (second v).grammar.Due) → List (List ℕ)
lines_before_following first second (InFirst due) = first.grammar.lines_before due
lines_before_following first second (InSecond v due) = first.lines_of v ++ (second v).grammar.lines_before due

abbrev pub HasFollowing : {V W : Type 0} (first : Part V) (second : V → Part W)
    → FollowingDue first.grammar.Due V (λ v. (second v).grammar.Due) → List ℕ → Reason → Type 0
HasFollowing first second (InFirst due) = first.grammar.Has due
HasFollowing first second (InSecond v due) = (second v).grammar.Has due

abbrev pub LacksFollowing : {V W : Type 0} (first : Part V) (second : V → Part W)
    → FollowingDue first.grammar.Due V (λ v. (second v).grammar.Due) → List ℕ → Reason → Type 0
LacksFollowing first second (InFirst due) = first.grammar.Lacks due
LacksFollowing first second (InSecond v due) = (second v).grammar.Lacks due

-- this part, and then a part that depends on what it said
abbrev pub followed_by : {V W : Type 0} → Part V → (V → Part W) → Part (V × W)
followed_by {V} first second = record {
  grammar = record {
    Due = FollowingDue first.grammar.Due V (λ v. (second v).grammar.Due);
    IsReached = IsReachedFollowing first second;
    lines_before = lines_before_following first second;
    Has = HasFollowing first second;
    Lacks = LacksFollowing first second;
  };
  Says = λ (v, w). first.Says v × (second v).Says w;
  lines_of = λ (v, w). first.lines_of v ++ (second v).lines_of w;
}

-- ---- parts in turn

-- a line is due in the part after these values
pub record TurnDue {V : Type 0} (part_after : List V → Part V) : Type 0 where
  pub said : List V
  pub due : (part_after said).grammar.Due

-- After the values before, each of these was due and may be said.
abbrev pub AreSaid : {V : Type 0} → (List V → Bool) → (List V → Part V) → List V → List V → Type 0
AreSaid is_due part_after before [] = ⊤
AreSaid is_due part_after before (v ∷ values) =
    (is_due before ≡ true) × (part_after before).Says v × AreSaid is_due part_after (before ++ v ∷ []) values

-- their lines, one after another
abbrev pub lines_in_turn : {V : Type 0} → (List V → Part V) → List V → List V → List (List ℕ)
lines_in_turn part_after before [] = []
lines_in_turn part_after before (v ∷ values) =
    (part_after before).lines_of v ++ lines_in_turn part_after (before ++ v ∷ []) values

-- as long as a part is due after the values that were said, the part that is due after them
abbrev pub in_turn : {V : Type 0} → (List V → Bool) → (List V → Part V) → Part (List V)
in_turn is_due part_after = record {
  grammar = record {
    Due = TurnDue part_after;
    IsReached = λ d. AreSaid is_due part_after [] d.said × (is_due d.said ≡ true) × (part_after d.said).grammar.IsReached d.due;
    lines_before = λ d. lines_in_turn part_after [] d.said ++ (part_after d.said).grammar.lines_before d.due;
    Has = λ d. (part_after d.said).grammar.Has d.due;
    Lacks = λ d. (part_after d.said).grammar.Lacks d.due;
  };
  Says = λ values. AreSaid is_due part_after [] values × (is_due values ≡ false);
  lines_of = lines_in_turn part_after [];
}

-- the first of parts in turn, with more to come or not
abbrev pub so_far : {V : Type 0} → (List V → Bool) → (List V → Part V) → Part (List V)
so_far is_due part_after = record {
  grammar = (in_turn is_due part_after).grammar;
  Says = AreSaid is_due part_after [];
  lines_of = lines_in_turn part_after [];
}

-- the same part so many times
abbrev pub repeated : {V : Type 0} → ℕ → Part V → Part (List V)
repeated count part = in_turn (λ said. nat_lt (length said) count) (λ _. part)

-- ---- the end

-- where nothing more is due, any byte at all has the reason EndLine
abbrev pub HasMore : List ℕ → Reason → Type 0
HasMore bytes EndLine = bytes ≢ []
HasMore bytes reason = ⊥

-- nothing more
abbrev pub end_of_text : Part (Unit {0})
end_of_text = record {
  grammar = record {
    Due = Unit {0};
    IsReached = λ _. ⊤;
    lines_before = λ _. [];
    Has = λ _. HasMore;
    Lacks = λ _ bytes reason. ¬ (HasMore bytes reason);
  };
  Says = λ _. ⊤;
  lines_of = λ _. [];
}

-- ---- another view

-- a part whose values are seen as others: those that may be said, and their lines
abbrev pub seen_as : {V W : Type 0} → Part V → (W → Type 0) → (W → List (List ℕ)) → Part W
seen_as part says lines = record { grammar = part.grammar; Says = says; lines_of = lines }

-- a part that is the whole of a text
abbrev pub whole_text : {V : Type 0} → Part V → Part V
whole_text part = seen_as (followed_by part (λ _. end_of_text)) part.Says part.lines_of
