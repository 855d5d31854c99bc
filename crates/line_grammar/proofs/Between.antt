-- The laws of parts that leave some freedom: two first offences are one, or something is between at the lesser of their lines.
use Rattle.std.proofs.Common.{◌≡◌, ◌⊎◌, inl, inr, ℕ, ◌+◌, ◌≤◌, Bool, true, false, List, [], ◌∷◌, ◌++◌, length}
use Rattle.std.proofs.Common.{refl, sym, ap, ◌∙◌, subst, arith, length-append, append_assoc, append-nil}
use Rattle.line_grammar.specs.declared.reason.Reason.{Reason}
use Rattle.line_grammar.specs.Laws.{ValueIsOne, NeverOffends, OffenceIsOne}
use Rattle.line_grammar.specs.Offence.{Grammar, IsFirstOffence}
use Rattle.line_grammar.specs.Part.{Part, followed_by, in_turn, AreSaid, lines_in_turn, end_of_text, seen_as, whole_text}
use Rattle.line_grammar.specs.Text.{text_of}
use Rattle.line_grammar.proofs.FrontLines.{text_of-after}
use Rattle.line_grammar.proofs.Laws.{Any, InTheSecond, offence_splits, InATurn, in_a_turn, due_or_over, end_never, end_offence_is_one}

-- they are one, or this holds at the lesser of two lines, with the bytes there
abbrev pub Differ : Type 0 → Type 0 → Type 0 → ℕ → ℕ → Type 0
Differ Same Here There line other = Same ⊎ ((Here × (line ≤ other)) ⊎ (There × (other ≤ line)))

-- first offences are one, or something is between at the lesser of their lines
abbrev pub OffencesDiffer : Grammar → (List ℕ → ℕ → Type 0) → Type 0
OffencesDiffer g Between = (bytes : List ℕ) (line other : ℕ) (r s : Reason) → IsFirstOffence g bytes line r → IsFirstOffence g bytes other s
    → Differ ((line ≡ other) × (r ≡ s)) (Between bytes line) (Between bytes other) line other

-- a value that may be said offends, where these bytes follow, only where something is between at a line of it
abbrev pub PassedOffends : {V : Type 0} → Part V → (List ℕ → ℕ → Type 0) → List ℕ → Type 0
PassedOffends {V} part Between rest = (v : V) (line : ℕ) (r : Reason) → part.Says v
    → IsFirstOffence part.grammar (text_of (part.lines_of v) ++ rest) line r
    → Between (text_of (part.lines_of v) ++ rest) line × (line ≤ length (part.lines_of v))

-- ---- an exact part

pub one_differs : (g : Grammar) (Between : List ℕ → ℕ → Type 0) → OffenceIsOne g → OffencesDiffer g Between
one_differs g Between one bytes line other r s p q = inl (one bytes line other r s p q)

pub never_passed : {V : Type 0} (part : Part V) (Between : List ℕ → ℕ → Type 0) (rest : List ℕ) → NeverOffends part Any rest
    → PassedOffends part Between rest
never_passed part Between rest never v line r says o = absurd (never v line r says tt o)

-- ---- one part after another

-- what is between in the second part is so in both
abbrev pub IntoBoth : {V : Type 0} → Part V → (V → List ℕ → ℕ → Type 0) → (List ℕ → ℕ → Type 0) → Type 0
IntoBoth {V} first After Between = (v : V) (rest : List ℕ) (line : ℕ) → first.Says v → After v rest line
    → Between (text_of (first.lines_of v) ++ rest) (length (first.lines_of v) + line)

pub both_passed : {V W : Type 0} (first : Part V) (second : V → Part W) (Between : List ℕ → ℕ → Type 0) (After : V → List ℕ → ℕ → Type 0) (rest : List ℕ)
    → ValueIsOne first → IntoBoth first After Between → ((x : List ℕ) → PassedOffends first Between x)
    → ((v : V) → first.Says v → PassedOffends (second v) (After v) rest) → PassedOffends (followed_by first second) Between rest
both_passed {V} first second Between After rest one into here there (v, w) line r says o =
    let lines = first.lines_of v in
    let more = (second v).lines_of w in
    let bytes = text_of (lines ++ more) ++ rest in
    let cut = text_of-after lines more rest in
    elim (offence_splits first second bytes line r o) [
      | inl a ↦
          let passed = here (text_of more ++ rest) v line r says.0 (subst (λ (xs : List ℕ). IsFirstOffence first.grammar xs line r) cut a) in
          (subst (λ (xs : List ℕ). Between xs line) (sym cut) passed.0, omega (arith, passed.1, length-append lines more))
      | inr b ↦
          let both = one v b.value (text_of more ++ rest) b.rest says.0 b.says (sym cut ∙ b.text) in
          let Offence : V → Type 0 = λ u. IsFirstOffence (second u).grammar b.rest b.number r in
          let moved : Offence v = subst Offence (sym both.0) b.offence in
          let passed = there v says.0 w b.number r says.1
          (subst (λ (xs : List ℕ). IsFirstOffence (second v).grammar xs b.number r) (sym both.1) moved) in
          let counts : length lines ≡ length (first.lines_of b.value) = ap (λ (u : V). length (first.lines_of u)) both.0 in
          let number : length lines + b.number ≡ line = omega (arith, b.line_is, counts) in
          let at = into v (text_of more ++ rest) b.number says.0 passed.0 in (
            subst (λ (n : ℕ). Between bytes n) number (subst (λ (xs : List ℕ). Between xs (length lines + b.number)) (sym cut) at),
            omega (arith, passed.1, number, length-append lines more),
          )
    ]

in_second : {V W : Type 0} (first : Part V) (second : V → Part W) (Between : List ℕ → ℕ → Type 0) (After : V → List ℕ → ℕ → Type 0) (bytes : List ℕ)
    (line : ℕ) (r : Reason) → IntoBoth first After Between → (a : InTheSecond first second bytes line r) → After a.value a.rest a.number → Between bytes line
in_second first second Between After bytes line r into a after =
    let at = into a.value a.rest a.number a.says after in
    subst (λ (n : ℕ). Between bytes n) (sym a.line_is)
    (subst (λ (xs : List ℕ). Between xs (length (first.lines_of a.value) + a.number)) (sym a.text) at)

pub both_differ : {V W : Type 0} (first : Part V) (second : V → Part W) (Between : List ℕ → ℕ → Type 0) (After : V → List ℕ → ℕ → Type 0)
    → ValueIsOne first → IntoBoth first After Between → ((x : List ℕ) → PassedOffends first Between x) → OffencesDiffer first.grammar Between
    → ((v : V) → first.Says v → OffencesDiffer (second v).grammar (After v)) → OffencesDiffer (followed_by first second).grammar Between
both_differ {V} first second Between After one into passed here there bytes line other r s p q =
    elim (offence_splits first second bytes line r p) [
      | inl a ↦ elim (offence_splits first second bytes other s q) [
        | inl b ↦ here bytes line other r s a b
        | inr b ↦
            let at = passed b.rest b.value line r b.says (subst (λ (xs : List ℕ). IsFirstOffence first.grammar xs line r) b.text a) in
            inr (inl (subst (λ (xs : List ℕ). Between xs line) (sym b.text) at.0, omega (arith, at.1, b.line_is)))
      ]
      | inr a ↦ elim (offence_splits first second bytes other s q) [
        | inl b ↦
            let at = passed a.rest a.value other s a.says (subst (λ (xs : List ℕ). IsFirstOffence first.grammar xs other s) a.text b) in
            inr (inr (subst (λ (xs : List ℕ). Between xs other) (sym a.text) at.0, omega (arith, at.1, a.line_is)))
        | inr b ↦
            let both = one a.value b.value a.rest b.rest a.says b.says (sym a.text ∙ b.text) in
            let Offence : V → Type 0 = λ u. IsFirstOffence (second u).grammar b.rest b.number s in
            let moved : Offence a.value = subst Offence (sym both.0) b.offence in
            let counts : length (first.lines_of a.value) ≡ length (first.lines_of b.value) = ap (λ (v : V). length (first.lines_of v)) both.0 in
            elim (there a.value a.says a.rest a.number b.number r s a.offence
            (subst (λ (xs : List ℕ). IsFirstOffence (second a.value).grammar xs b.number s) (sym both.1) moved)) [
              | inl same ↦ inl (omega (arith, a.line_is, b.line_is, counts, same.0), same.1)
              | inr (inl at) ↦ inr (inl (in_second first second Between After bytes line r into a at.0, omega (arith, a.line_is, b.line_is, counts, at.1)))
              | inr (inr at) ↦
                  let At : V → List ℕ → Type 0 = λ u xs. After u xs b.number in
                  let after : After b.value b.rest b.number = subst (λ (xs : List ℕ). At b.value xs) both.1 (subst (λ (u : V). At u a.rest) both.0 at.0) in
                  inr (inr (in_second first second Between After bytes other s into b after, omega (arith, a.line_is, b.line_is, counts, at.1)))
            ]
      ]
    ]

-- ---- parts in turn

turns_passed_from : {V : Type 0} (is_due : List V → Bool) (part_after : List V → Part V) (After : List V → List ℕ → ℕ → Type 0) (rest : List ℕ)
    → ((l : List V) → ValueIsOne (part_after l)) → ((l : List V) (x : List ℕ) → PassedOffends (part_after l) (After l) x)
    → (before vs said : List V) (bytes : List ℕ) (n : ℕ) (r : Reason) → AreSaid is_due part_after before vs
    → is_due (before ++ vs) ≡ false → AreSaid is_due part_after before said → is_due (before ++ said) ≡ true
    → text_of (lines_in_turn part_after before vs) ++ rest ≡ text_of (lines_in_turn part_after before said) ++ bytes
    → IsFirstOffence (part_after (before ++ said)).grammar bytes n r
    → After (before ++ said) bytes n × (length (lines_in_turn part_after before said) + n ≤ length (lines_in_turn part_after before vs))
turns_passed_from is_due part_after After rest one passed before [] [] bytes n r p over q due same o =
    let nothing : true ≡ false = sym due ∙ over in cc
turns_passed_from is_due part_after After rest one passed before [] (s ∷ said) bytes n r p over q due same o = absurd (due_or_over is_due before q.0 over)
turns_passed_from {V} is_due part_after After rest one passed before (v ∷ vs) [] bytes n r p over q due same o =
    let here = (part_after before).lines_of v in
    let more = lines_in_turn part_after (before ++ v ∷ []) vs in
    let text : bytes ≡ text_of here ++ (text_of more ++ rest) = sym same ∙ text_of-after here more rest in
    let moved = subst (λ (l : List V). IsFirstOffence (part_after l).grammar bytes n r) (append-nil before) o in
    let at = passed before (text_of more ++ rest) v n r p.1 (subst (λ (xs : List ℕ). IsFirstOffence (part_after before).grammar xs n r) text moved) in (
      subst (λ (l : List V). After l bytes n) (sym (append-nil before)) (subst (λ (xs : List ℕ). After before xs n) (sym text) at.0),
      omega (arith, at.1, length-append here more),
    )
turns_passed_from {V} is_due part_after After rest one passed before (v ∷ vs) (s ∷ said) bytes n r p over q due same o =
    let here = (part_after before).lines_of v in
    let there = (part_after before).lines_of s in
    let more = lines_in_turn part_after (before ++ v ∷ []) vs in
    let more' = lines_in_turn part_after (before ++ s ∷ []) said in
    let both = one before v s (text_of more ++ rest) (text_of more' ++ bytes) p.1 q.1
    (sym (text_of-after here more rest) ∙ same ∙ text_of-after there more' bytes) in
    let Passed : V → Type 0 = λ u. AreSaid is_due part_after (before ++ u ∷ []) said → is_due ((before ++ u ∷ []) ++ said) ≡ true
    → text_of more ++ rest ≡ text_of (lines_in_turn part_after (before ++ u ∷ []) said) ++ bytes
    → IsFirstOffence (part_after ((before ++ u ∷ []) ++ said)).grammar bytes n r
    → After ((before ++ u ∷ []) ++ said) bytes n × (length (lines_in_turn part_after (before ++ u ∷ []) said) + n ≤ length more) in
    let over_v = subst (λ (l : List V). is_due l ≡ false) (sym (append_assoc before (v ∷ []) vs)) over in
    let joined = sym (append_assoc before (s ∷ []) said) in
    let at_v : Passed v = turns_passed_from is_due part_after After rest one passed (before ++ v ∷ []) vs said bytes n r p.2 over_v in
    let at = subst Passed both.0 at_v q.2 (subst (λ (l : List V). is_due l ≡ true) joined due) both.1
    (subst (λ (l : List V). IsFirstOffence (part_after l).grammar bytes n r) joined o) in
    let counts : length here ≡ length there = ap (λ (u : V). length ((part_after before).lines_of u)) both.0 in (
      subst (λ (l : List V). After l bytes n) (sym joined) at.0,
      omega (arith, at.1, counts, length-append here more, length-append there more'),
    )

-- what is between after the values that were said is so in all
abbrev pub IntoTurns : {V : Type 0} → (List V → Bool) → (List V → Part V) → (List V → List ℕ → ℕ → Type 0) → (List ℕ → ℕ → Type 0) → Type 0
IntoTurns {V} is_due part_after After Between = (said : List V) (rest : List ℕ) (line : ℕ) → is_due said ≡ true → After said rest line
    → Between (text_of (lines_in_turn part_after [] said) ++ rest) (length (lines_in_turn part_after [] said) + line)

in_turns : {V : Type 0} (is_due : List V → Bool) (part_after : List V → Part V) (After : List V → List ℕ → ℕ → Type 0) (Between : List ℕ → ℕ → Type 0)
    (bytes : List ℕ) (line : ℕ) (r : Reason) → IntoTurns is_due part_after After Between → (a : InATurn is_due part_after bytes line r)
    → After a.said a.rest a.number → Between bytes line
in_turns is_due part_after After Between bytes line r into a after =
    let at = into a.said a.rest a.number a.due after in
    subst (λ (n : ℕ). Between bytes n) (sym a.line_is)
    (subst (λ (xs : List ℕ). Between xs (length (lines_in_turn part_after [] a.said) + a.number)) (sym a.text) at)

pub turns_passed : {V : Type 0} (is_due : List V → Bool) (part_after : List V → Part V) (After : List V → List ℕ → ℕ → Type 0)
    (Between : List ℕ → ℕ → Type 0) (rest : List ℕ) → ((l : List V) → ValueIsOne (part_after l)) → IntoTurns is_due part_after After Between
    → ((l : List V) (x : List ℕ) → PassedOffends (part_after l) (After l) x) → PassedOffends (in_turn is_due part_after) Between rest
turns_passed is_due part_after After Between rest one into passed vs line r says o =
    let bytes = text_of (lines_in_turn part_after [] vs) ++ rest in
    let a = in_a_turn is_due part_after bytes line r o in
    let at = turns_passed_from is_due part_after After rest one passed [] vs a.said a.rest a.number r says.0 says.1 a.are_said a.due a.text a.offence in
    (in_turns is_due part_after After Between bytes line r into a at.0, omega (arith, at.1, a.line_is))

turn_offences_differ : {V : Type 0} (is_due : List V → Bool) (part_after : List V → Part V) (After : List V → List ℕ → ℕ → Type 0)
    → ((l : List V) → ValueIsOne (part_after l)) → ((l : List V) (x : List ℕ) → PassedOffends (part_after l) (After l) x)
    → ((l : List V) → OffencesDiffer (part_after l).grammar (After l))
    → (before vs ws : List V) (x y : List ℕ) (m n : ℕ) (r s : Reason) → AreSaid is_due part_after before vs → AreSaid is_due part_after before ws
    → text_of (lines_in_turn part_after before vs) ++ x ≡ text_of (lines_in_turn part_after before ws) ++ y
    → IsFirstOffence (part_after (before ++ vs)).grammar x m r → IsFirstOffence (part_after (before ++ ws)).grammar y n s
    → let line = length (lines_in_turn part_after before vs) + m in let other = length (lines_in_turn part_after before ws) + n in
    Differ ((line ≡ other) × (r ≡ s)) (After (before ++ vs) x m) (After (before ++ ws) y n) line other
turn_offences_differ {V} is_due part_after After one passed differ before [] [] x y m n r s p q same a b =
    let moved = subst (λ (xs : List ℕ). IsFirstOffence (part_after (before ++ [])).grammar xs n s) (sym same) b in
    elim (differ (before ++ []) x m n r s a moved) [
      | inl is ↦ inl (omega (arith, is.0), is.1)
      | inr (inl at) ↦ inr (inl (at.0, omega (arith, at.1)))
      | inr (inr at) ↦ inr (inr (subst (λ (xs : List ℕ). After (before ++ []) xs n) same at.0, omega (arith, at.1)))
    ]
turn_offences_differ {V} is_due part_after After one passed differ before [] (w ∷ ws) x y m n r s p q same a b =
    let there = (part_after before).lines_of w in
    let more = lines_in_turn part_after (before ++ w ∷ []) ws in
    let text : x ≡ text_of there ++ (text_of more ++ y) = same ∙ text_of-after there more y in
    let moved = subst (λ (l : List V). IsFirstOffence (part_after l).grammar x m r) (append-nil before) a in
    let at = passed before (text_of more ++ y) w m r q.1 (subst (λ (xs : List ℕ). IsFirstOffence (part_after before).grammar xs m r) text moved) in
    let here = subst (λ (l : List V). After l x m) (sym (append-nil before)) (subst (λ (xs : List ℕ). After before xs m) (sym text) at.0) in
    inr (inl (here, omega (arith, at.1, length-append there more)))
turn_offences_differ {V} is_due part_after After one passed differ before (v ∷ vs) [] x y m n r s p q same a b =
    let here = (part_after before).lines_of v in
    let more = lines_in_turn part_after (before ++ v ∷ []) vs in
    let text : y ≡ text_of here ++ (text_of more ++ x) = sym same ∙ text_of-after here more x in
    let moved = subst (λ (l : List V). IsFirstOffence (part_after l).grammar y n s) (append-nil before) b in
    let at = passed before (text_of more ++ x) v n s p.1 (subst (λ (xs : List ℕ). IsFirstOffence (part_after before).grammar xs n s) text moved) in
    let there = subst (λ (l : List V). After l y n) (sym (append-nil before)) (subst (λ (xs : List ℕ). After before xs n) (sym text) at.0) in
    inr (inr (there, omega (arith, at.1, length-append here more)))
turn_offences_differ {V} is_due part_after After one passed differ before (v ∷ vs) (w ∷ ws) x y m n r s p q same a b =
    let here = (part_after before).lines_of v in
    let there = (part_after before).lines_of w in
    let more = lines_in_turn part_after (before ++ v ∷ []) vs in
    let more' = lines_in_turn part_after (before ++ w ∷ []) ws in
    let both = one before v w (text_of more ++ x) (text_of more' ++ y) p.1 q.1 (sym (text_of-after here more x) ∙ same ∙ text_of-after there more' y) in
    let line = length more + m in
    let One : V → Type 0 = λ u. AreSaid is_due part_after (before ++ u ∷ []) ws
    → text_of more ++ x ≡ text_of (lines_in_turn part_after (before ++ u ∷ []) ws) ++ y
    → IsFirstOffence (part_after ((before ++ u ∷ []) ++ ws)).grammar y n s
    → let other = length (lines_in_turn part_after (before ++ u ∷ []) ws) + n in
    Differ ((line ≡ other) × (r ≡ s)) (After ((before ++ v ∷ []) ++ vs) x m) (After ((before ++ u ∷ []) ++ ws) y n) line other in
    let left = append_assoc before (v ∷ []) vs in
    let right = append_assoc before (w ∷ []) ws in
    let a' = subst (λ (l : List V). IsFirstOffence (part_after l).grammar x m r) (sym left) a in
    let b' = subst (λ (l : List V). IsFirstOffence (part_after l).grammar y n s) (sym right) b in
    let at_v : One v = λ said is o. turn_offences_differ is_due part_after After one passed differ (before ++ v ∷ []) vs ws x y m n r s p.2 said is a' o in
    let counts : length here ≡ length there = ap (λ (u : V). length ((part_after before).lines_of u)) both.0 in
    let first = length-append here more in
    let second = length-append there more' in
    elim (subst One both.0 at_v q.2 both.1 b') [
      | inl is ↦ inl (omega (arith, is.0, counts, first, second), is.1)
      | inr (inl at) ↦ inr (inl (subst (λ (l : List V). After l x m) left at.0, omega (arith, at.1, counts, first, second)))
      | inr (inr at) ↦ inr (inr (subst (λ (l : List V). After l y n) right at.0, omega (arith, at.1, counts, first, second)))
    ]

pub turns_differ : {V : Type 0} (is_due : List V → Bool) (part_after : List V → Part V) (After : List V → List ℕ → ℕ → Type 0)
    (Between : List ℕ → ℕ → Type 0) → ((l : List V) → ValueIsOne (part_after l)) → IntoTurns is_due part_after After Between
    → ((l : List V) (x : List ℕ) → PassedOffends (part_after l) (After l) x) → ((l : List V) → OffencesDiffer (part_after l).grammar (After l))
    → OffencesDiffer (in_turn is_due part_after).grammar Between
turns_differ is_due part_after After Between one into passed differ bytes line other r s p q =
    let a = in_a_turn is_due part_after bytes line r p in
    let b = in_a_turn is_due part_after bytes other s q in
    elim (turn_offences_differ is_due part_after After one passed differ [] a.said b.said a.rest b.rest a.number b.number r s a.are_said b.are_said
    (sym a.text ∙ b.text) a.offence b.offence) [
      | inl is ↦ inl (a.line_is ∙ is.0 ∙ sym b.line_is, is.1)
      | inr (inl at) ↦ inr (inl (in_turns is_due part_after After Between bytes line r into a at.0, omega (arith, at.1, a.line_is, b.line_is)))
      | inr (inr at) ↦ inr (inr (in_turns is_due part_after After Between bytes other s into b at.0, omega (arith, at.1, a.line_is, b.line_is)))
    ]

-- ---- another view

pub seen_passed : {V W : Type 0} (part : Part V) (says : W → Type 0) (lines : W → List (List ℕ)) (view : W → V) (Between : List ℕ → ℕ → Type 0)
    (rest : List ℕ) → PassedOffends part Between rest → ((w : W) → says w → part.Says (view w)) → ((w : W) → says w → lines w ≡ part.lines_of (view w))
    → PassedOffends (seen_as part says lines) Between rest
seen_passed part says lines view Between rest passed fits is w line r p o =
    let moved = subst (λ (ls : List (List ℕ)). IsFirstOffence part.grammar (text_of ls ++ rest) line r) (is w p) o in
    let at = passed (view w) line r (fits w p) moved in (
      subst (λ (ls : List (List ℕ)). Between (text_of ls ++ rest) line) (sym (is w p)) at.0,
      subst (λ (ls : List (List ℕ)). line ≤ length ls) (sym (is w p)) at.1,
    )

-- ---- a whole text

-- nothing is between
abbrev pub Never : List ℕ → ℕ → Type 0
Never bytes line = ⊥

pub text_passed : {V : Type 0} (part : Part V) (Between : List ℕ → ℕ → Type 0) → ValueIsOne part → ((x : List ℕ) → PassedOffends part Between x)
    → PassedOffends (whole_text part) Between []
text_passed {V} part Between one passed =
    let both = both_passed part (λ _. end_of_text) Between (λ _. Never) [] one (λ v rest line says never. absurd never) passed
    (λ v says. never_passed end_of_text Never [] (end_never Any)) in
    seen_passed (followed_by part (λ _. end_of_text)) part.Says part.lines_of (λ (v : V). let p : V × Unit {0} = (v, tt) in p) Between [] both
    (λ v says. (says, tt)) (λ v says. sym (append-nil (part.lines_of v)))

pub text_differs : {V : Type 0} (part : Part V) (Between : List ℕ → ℕ → Type 0) → ValueIsOne part → ((x : List ℕ) → PassedOffends part Between x)
    → OffencesDiffer part.grammar Between → OffencesDiffer (whole_text part).grammar Between
text_differs part Between one passed differ =
    both_differ part (λ _. end_of_text) Between (λ _. Never) one (λ v rest line says never. absurd never) passed differ
    (λ v says. one_differs end_of_text.grammar Never end_offence_is_one)
