-- Two coverings that stand by their causes first differ only at a box on which a word is between the slacks.
use Rattle.std.proofs.Common.{◌≡◌, ◌≢◌, ◌⊎◌, inl, inr, refl, sym, ap, ap₂, ◌∙◌, subst, ℕ, ◌+◌, ◌<◌, ◌≤◌, List, [], ◌∷◌, ◌++◌, length, map, take, fold, Option, Some}
use Rattle.std.proofs.Common.{arith, length-append, append_assoc, append-nil}
use Rattle.std.proofs.Math.Seq.{take-append_seam}
use Rattle.std.proofs.lemmas.Bool.{cases_lt}
use Rattle.std.proofs.lemmas.List.{map-append}
use Rattle.std.specs.Prelude.{count_by}
use Rattle.rational_polygon.specs.Square.{Square, unit_square}
use Rattle.gradient_bounds.specs.Clear.{IsClear}
use Rattle.gradient_bounds.specs.CornerClear.{IsCornerClear}
use Rattle.gradient_bounds.specs.Slacks as slacks
use Rattle.line_grammar.specs.Text.{text_of}
use Rattle.line_grammar.proofs.FrontLines.{text_of-append}
use Rattle.covering_file.specs.declared.file_kind.FileKind.TheVariants.{Cover}
use Rattle.covering_file.specs.declared.node.Node.{Node}
use Rattle.covering_file.specs.declared.node.Node.TheVariants.{Split, Outside, Shown, Corner, Uncovered}
use Rattle.covering_file.specs.DueBoxes.{due_after, due_boxes, first_of, AreDue, StandsIn}
use Rattle.covering_file.specs.Faults.{word_at}
use Rattle.covering_file.specs.FilePart.{due_end}
use Rattle.covering_file.specs.Header.{Heading, header_lines}
use Rattle.covering_file.specs.Node.{is_uncovered, node_line}
use Rattle.covering_file.proofs.Trees.{AreDueFrom, due_behind}
use Rattle.coverer.specs.declared.answer.Covered.{Covered}
use Rattle.coverer.specs.declared.answer.Covered.TheVariants.{Complete, OpenBoxes, Full}
use Rattle.coverer.specs.Begun.{IsBegun, Answers, IsCover, begun_lines, cover_lines}
use Rattle.coverer.specs.Causes.{HasCause}
use Rattle.coverer.specs.Laws.{HasWordBetween, DifferAtBox, CoversDifferBetween}

-- ---- one box

-- two nodes are one, or they differ where a word is between
abbrev OneOrBetween : Heading → Square → Node → Node → Type 0
OneOrBetween h box n m = (n ≡ m) ⊎ ((n ≢ m) × HasWordBetween h box)

shown_less : (i j : ℕ) → i < j → Shown i ≢ Shown j
shown_less i j less same = let one : i ≡ j = cc in omega (arith, less, one)

corner_less : (i j : ℕ) → i < j → Corner i ≢ Corner j
corner_less i j less same = let one : i ≡ j = cc in omega (arith, less, one)

-- a word that is shown, and passed over by another node
shown_between : (h : Heading) (box : Square) (i : ℕ) → HasCause h box (Shown i) → ¬ (IsClear (word_at h.words i) box slacks.findable.gradient)
    → HasWordBetween h box
shown_between h box i cause over = record { number = i; listed = cause.1.listed; between = inl (cause.1.clear, over) }

corner_between : (h : Heading) (box : Square) (i : ℕ) → HasCause h box (Corner i)
    → ¬ (IsCornerClear (word_at h.words i) box slacks.findable.corner) → HasWordBetween h box
corner_between h box i cause over = record { number = i; listed = cause.2.listed; between = inr (cause.0, cause.2.clear, over) }

two_shown : (h : Heading) (box : Square) (i j : ℕ) → HasCause h box (Shown i) → HasCause h box (Shown j) → OneOrBetween h box (Shown i) (Shown j)
two_shown h box i j p q =
    elim (cases_lt i j) [
      | inl less ↦ inr (shown_less i j less, shown_between h box i p (q.1.earlier i p.1.listed less))
      | inr within ↦ elim (cases_lt j i) [
        | inl less ↦ inr (λ same. shown_less j i less (sym same), shown_between h box j q (p.1.earlier j q.1.listed less))
        | inr both ↦ let same : i ≡ j = omega (arith, within, both) in inl (ap Shown same)
      ]
    ]

two_corners : (h : Heading) (box : Square) (i j : ℕ) → HasCause h box (Corner i) → HasCause h box (Corner j) → OneOrBetween h box (Corner i) (Corner j)
two_corners h box i j p q =
    elim (cases_lt i j) [
      | inl less ↦ inr (corner_less i j less, corner_between h box i p (q.2.earlier i p.2.listed less))
      | inr within ↦ elim (cases_lt j i) [
        | inl less ↦ inr (λ same. corner_less j i less (sym same), corner_between h box j q (p.2.earlier j q.2.listed less))
        | inr both ↦ let same : i ≡ j = omega (arith, within, both) in inl (ap Corner same)
      ]
    ]

causes : (h : Heading) (box : Square) (n m : Node) → HasCause h box n → HasCause h box m → OneOrBetween h box n m
causes h box Outside Outside p q = inl refl
causes h box Outside (Shown j) p q = absurd (q.0 p)
causes h box Outside (Corner j) p q = absurd (q.1.not_apart p)
causes h box Outside Split p q = absurd (q.0.in_question.not_apart p)
causes h box Outside Uncovered p q = absurd (q.0.in_question.not_apart p)
causes h box (Shown i) Outside p q = absurd (p.0 q)
causes h box (Shown i) (Shown j) p q = two_shown h box i j p q
causes h box (Shown i) (Corner j) p q = inr (λ same. cc, shown_between h box i p (q.1.none_clear i p.1.listed))
causes h box (Shown i) Split p q = inr (λ same. cc, shown_between h box i p (q.0.in_question.none_clear i p.1.listed))
causes h box (Shown i) Uncovered p q = inr (λ same. cc, shown_between h box i p (q.0.in_question.none_clear i p.1.listed))
causes h box (Corner i) Outside p q = absurd (p.1.not_apart q)
causes h box (Corner i) (Shown j) p q = inr (λ same. cc, shown_between h box j q (p.1.none_clear j q.1.listed))
causes h box (Corner i) (Corner j) p q = two_corners h box i j p q
causes h box (Corner i) Split p q = inr (λ same. cc, corner_between h box i p (q.0.none_at_corners p.0 i p.2.listed))
causes h box (Corner i) Uncovered p q = inr (λ same. cc, corner_between h box i p (q.0.none_at_corners p.0 i p.2.listed))
causes h box Split Outside p q = absurd (p.0.in_question.not_apart q)
causes h box Split (Shown j) p q = inr (λ same. cc, shown_between h box j q (p.0.in_question.none_clear j q.1.listed))
causes h box Split (Corner j) p q = inr (λ same. cc, corner_between h box j q (p.0.none_at_corners q.0 j q.2.listed))
causes h box Split Split p q = inl refl
causes h box Split Uncovered p q = absurd (omega (arith, p.1, q.1))
causes h box Uncovered Outside p q = absurd (p.0.in_question.not_apart q)
causes h box Uncovered (Shown j) p q = inr (λ same. cc, shown_between h box j q (p.0.in_question.none_clear j q.1.listed))
causes h box Uncovered (Corner j) p q = inr (λ same. cc, corner_between h box j q (p.0.none_at_corners q.0 j q.2.listed))
causes h box Uncovered Split p q = absurd (omega (arith, p.1, q.1))
causes h box Uncovered Uncovered p q = inl refl

-- ---- two lists of nodes

-- after the same nodes two others stand at a box on which a word is between; before the first node the boxes `due` are
record FirstDiffer (h : Heading) (due : List Square) (ns ms : List Node) : Type 0 where
  before : List Node
  box : Square
  first : Node
  second : Node
  more : List Node
  more' : List Node
  is : ns ≡ before ++ first ∷ more
  is' : ms ≡ before ++ second ∷ more'
  due_box : first_of (fold due_after due before) ≡ Some box
  differ : first ≢ second
  between : HasWordBetween h box

-- the second has more nodes
abbrev GoesOn : List Node → List Node → Type 0
GoesOn ns ms = (m : Node) × (more : List Node) × (ms ≡ ns ++ m ∷ more)

abbrev StandFrom : Heading → List Square → List Node → Type 0
StandFrom h due nodes = (box : Square) (n : Node) → StandsIn due nodes box n → HasCause h box n

abbrev OneOrDiffer : Heading → List Square → List Node → List Node → Type 0
OneOrDiffer h due ns ms = (ns ≡ ms) ⊎ (GoesOn ns ms ⊎ (GoesOn ms ns ⊎ FirstDiffer h due ns ms))

behind : (h : Heading) (box : Square) (due : List Square) (n : Node) (ns ms : List Node) → OneOrDiffer h (due_after (box ∷ due) n) ns ms
    → OneOrDiffer h (box ∷ due) (n ∷ ns) (n ∷ ms)
behind h box due n ns ms (inl same) = inl (ap (λ (l : List Node). n ∷ l) same)
behind h box due n ns ms (inr (inl on)) = inr (inl (on.0, on.1, ap (λ (l : List Node). n ∷ l) on.2))
behind h box due n ns ms (inr (inr (inl on))) = inr (inr (inl (on.0, on.1, ap (λ (l : List Node). n ∷ l) on.2)))
behind h box due n ns ms (inr (inr (inr d))) = inr (inr (inr (record {
  before = n ∷ d.before;
  box = d.box;
  first = d.first;
  second = d.second;
  more = d.more;
  more' = d.more';
  is = ap (λ (l : List Node). n ∷ l) d.is;
  is' = ap (λ (l : List Node). n ∷ l) d.is';
  due_box = d.due_box;
  differ = d.differ;
  between = d.between;
})))

one_or_differ : (h : Heading) (due : List Square) (ns ms : List Node) → AreDueFrom due ns → AreDueFrom due ms → StandFrom h due ns → StandFrom h due ms
    → OneOrDiffer h due ns ms
one_or_differ h due [] [] are are' each each' = inl refl
one_or_differ h due [] (m ∷ ms) are are' each each' = inr (inl (m, ms, refl))
one_or_differ h due (n ∷ ns) [] are are' each each' = inr (inr (inl (n, ns, refl)))
one_or_differ h [] (n ∷ ns) (m ∷ ms) are are' each each' = absurd (are 0 (omega arith) refl)
one_or_differ h (box ∷ due) (n ∷ ns) (m ∷ ms) are are' each each' =
    elim (causes h box n m (each box n (inl (refl, refl))) (each' box m (inl (refl, refl)))) [
      | inl same ↦
          let Walk : Node → Type 0 = λ k. AreDueFrom (due_after (box ∷ due) k) ms → StandFrom h (due_after (box ∷ due) k) ms
          → OneOrDiffer h (box ∷ due) (n ∷ ns) (k ∷ ms) in
          let at_n : Walk n = λ due' stand.
          behind h box due n ns ms (one_or_differ h (due_after (box ∷ due) n) ns ms (due_behind (box ∷ due) n ns are) due'
          (λ b k stands. each b k (inr stands)) stand) in
          subst Walk same at_n (due_behind (box ∷ due) m ms are') (λ b k stands. each' b k (inr stands))
      | inr between ↦ inr (inr (inr (record {
        before = [];
        box = box;
        first = n;
        second = m;
        more = ns;
        more' = ms;
        is = refl;
        is' = refl;
        due_box = refl;
        differ = between.0;
        between = between.1;
      })))
    ]

-- ---- two coverings

-- a covering has an end after which no other goes on
goes_past : (limit : ℕ) (h : Heading) (ns ms : List Node) → due_boxes ns ≡ [] → IsBegun limit h ms → ¬ (GoesOn ns ms)
goes_past limit h ns ms none begun on =
    let more = on.0 ∷ on.1 in
    let within : length ns < length ms = omega (arith, ap length on.2, length-append ns more) in
    let front : take (length ns) ms ≡ ns = ap (λ (l : List Node). take (length ns) l) on.2 ∙ take-append_seam ns more in
    begun.due (length ns) within (ap (λ (l : List Node). due_boxes l) front ∙ none)

never_goes_on : (limit : ℕ) (h : Heading) (ns ms : List Node) (answer : Covered) → Answers limit ns answer → IsBegun limit h ms → ¬ (GoesOn ns ms)
never_goes_on limit h ns ms (Complete count) answers begun on = goes_past limit h ns ms answers.1 begun on
never_goes_on limit h ns ms (OpenBoxes count left) answers begun on = goes_past limit h ns ms answers.1 begun on
never_goes_on limit h ns ms (Full count) answers begun on =
    omega (arith, answers.0, answers.1, begun.within, ap length on.2, length-append ns (on.0 ∷ on.1))

one_answer : (limit : ℕ) (nodes : List Node) (answer answer' : Covered) → Answers limit nodes answer → Answers limit nodes answer' → answer ≡ answer'
one_answer limit nodes (Complete n) (Complete m) p q = ap Complete (p.0 ∙ sym q.0)
one_answer limit nodes (Complete n) (OpenBoxes m left) p q = absurd (omega (arith, p.2, q.2, q.3))
one_answer limit nodes (Complete n) (Full m) p q = absurd (q.2 p.1)
one_answer limit nodes (OpenBoxes n left) (Complete m) p q = absurd (omega (arith, q.2, p.2, p.3))
one_answer limit nodes (OpenBoxes n left) (OpenBoxes m left') p q = ap₂ OpenBoxes (p.0 ∙ sym q.0) (p.2 ∙ sym q.2)
one_answer limit nodes (OpenBoxes n left) (Full m) p q = absurd (q.2 p.1)
one_answer limit nodes (Full n) (Complete m) p q = absurd (p.2 q.1)
one_answer limit nodes (Full n) (OpenBoxes m left) p q = absurd (p.2 q.1)
one_answer limit nodes (Full n) (Full m) p q = ap Full (p.0 ∙ sym q.0)

-- the lines behind the nodes
abbrev end_lines : List Node → Covered → List (List ℕ)
end_lines nodes (Complete n) = due_end nodes ∷ []
end_lines nodes (OpenBoxes n left) = due_end nodes ∷ []
end_lines nodes (Full n) = []

ends_with : (h : Heading) (nodes : List Node) (answer : Covered) → cover_lines h nodes answer ≡ begun_lines h nodes ++ end_lines nodes answer
ends_with h nodes (Complete n) = sym (append_assoc (header_lines Cover h) (map node_line nodes) (due_end nodes ∷ []))
ends_with h nodes (OpenBoxes n left) = sym (append_assoc (header_lines Cover h) (map node_line nodes) (due_end nodes ∷ []))
ends_with h nodes (Full n) = sym (append-nil (begun_lines h nodes))

-- the text of a covering up to a node
up_to : (h : Heading) (nodes before more : List Node) (n : Node) (answer : Covered) (text : List ℕ) → nodes ≡ before ++ n ∷ more
    → text ≡ text_of (cover_lines h nodes answer) → (rest : List ℕ) × (text ≡ text_of (begun_lines h (before ++ n ∷ [])) ++ rest)
up_to h nodes before more n answer text is is_text =
    let front = before ++ n ∷ [] in
    let end = end_lines nodes answer in
    let lines = map node_line more ++ end in
    let joined : nodes ≡ front ++ more = is ∙ sym (append_assoc before (n ∷ []) more) in
    let parted : begun_lines h nodes ≡ begun_lines h front ++ map node_line more =
    ap (λ (ns : List Node). begun_lines h ns) joined ∙ ap (λ (ls : List (List ℕ)). header_lines Cover h ++ ls) (map-append node_line front more)
    ∙ sym (append_assoc (header_lines Cover h) (map node_line front) (map node_line more)) in
    let all : cover_lines h nodes answer ≡ begun_lines h front ++ lines =
    ends_with h nodes answer ∙ ap (λ (ls : List (List ℕ)). ls ++ end) parted ∙ append_assoc (begun_lines h front) (map node_line more) end in
    (text_of lines, is_text ∙ ap text_of all ∙ text_of-append (begun_lines h front) lines)

pub covers_differ_between_lem : CoversDifferBetween
covers_differ_between_lem limit h answer answer' text text' first second =
    let ns = first.nodes in
    let ms = second.nodes in
    elim (one_or_differ h (unit_square ∷ []) ns ms first.begun.due second.begun.due first.begun.causes second.begun.causes) [
      | inl same ↦
          let one = one_answer limit ns answer answer' first.answers (subst (λ (l : List Node). Answers limit l answer') (sym same) second.answers) in
          inl (one, first.is_text ∙ ap₂ (λ (l : List Node) (a : Covered). text_of (cover_lines h l a)) same one ∙ sym second.is_text)
      | inr (inl on) ↦ absurd (never_goes_on limit h ns ms answer first.answers second.begun on)
      | inr (inr (inl on)) ↦ absurd (never_goes_on limit h ms ns answer' second.answers first.begun on)
      | inr (inr (inr d)) ↦
          let here = up_to h ns d.before d.more d.first answer text d.is first.is_text in
          let there = up_to h ms d.before d.more' d.second answer' text' d.is' second.is_text in
          inr (record {
            before = d.before;
            box = d.box;
            first = d.first;
            second = d.second;
            rest = here.0;
            rest' = there.0;
            due = d.due_box;
            text_is = here.1;
            text_is' = there.1;
            differ = d.differ;
            between = d.between;
          })
    ]
