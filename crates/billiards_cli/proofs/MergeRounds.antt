-- An input is the text of one pair of files, no line of which offends where they are read, and what the later rounds refuse in it.
use Rattle.std.proofs.Common.{◌≡◌, ◌≢◌, inl, inr, ℕ, ◌≤◌, ◌<◌, List, [], ◌∷◌, ◌++◌, length}
use Rattle.std.proofs.Common.{take, codes, refl, sym, ap, ap₂, ◌∙◌, subst, arith, lit<}
use Rattle.std.proofs.Common.{append-nil, append_assoc, length-append, false, nat_lt}
use Rattle.std.proofs.Math.Seq.{take-append_seam}
use Rattle.std.proofs.lemmas.List.{append_cancel_left}
use Rattle.rational_polygon.specs.Outline.{Outline}
use Rattle.rational_polygon.specs.Square.{Square, unit_square}
use Rattle.line_grammar.specs.Laws.{ValueIsOne}
use Rattle.line_grammar.specs.Offence.{IsFirstOffence}
use Rattle.line_grammar.specs.Part.{Part, followed_by}
use Rattle.line_grammar.specs.Text.{text_of, named_line}
use Rattle.line_grammar.specs.declared.reason.Reason.{Reason}
use Rattle.line_grammar.proofs.FrontLines.{text_of-append}
use Rattle.line_grammar.proofs.Laws.{both_are_one, both_never, text_never}
use Rattle.covering_file.specs.DueBoxes.{due_boxes, StandsIn}
use Rattle.covering_file.specs.FilePart.{first_box, tree_lines}
use Rattle.covering_file.specs.Header.{Heading, first_line, region_lines, words_lines}
use Rattle.covering_file.specs.Sound.{ClaimHas}
use Rattle.covering_file.specs.Tree.{preorder}
use Rattle.covering_file.specs.TreeFile.{TreeFile, IsTreeFile, HasLevelFor, tree_file_lines, tree_file_part, tree_file_text}
use Rattle.covering_file.specs.declared.TheConstants.{MAX_NODES}
use Rattle.covering_file.specs.declared.file_kind.FileKind.TheVariants.{Cover}
use Rattle.covering_file.specs.declared.node.Node.{Node}
use Rattle.covering_file.specs.declared.node.Node.TheVariants.{Split, Outside, Shown, Corner, Uncovered}
use Rattle.covering_file.proofs.TreeFiles.{tree_file_is_one, tree_file_never}
use Rattle.covering_file.proofs.Trees.{list_to_tree, stands_next, tree_is_whole}
use Rattle.cover_merge.specs.Merge.{HasUnion}
use Rattle.cover_merge.specs.Rounds.{AreAlike, RefusesRegion, RefusesWords, RefusesClaim, IsFalseAfter, lines_of_region}
use Rattle.cover_merge.specs.Union.{IsUnion}
use Rattle.billiards_cli.specs.Commands.Check.{refusal_status}
use Rattle.billiards_cli.specs.Commands.Merge.{merge_input, AreFiles}
use Rattle.billiards_cli.specs.declared.status.Status.TheVariants.{NotShown}

-- ---- the two files

abbrev both_files : Part (TreeFile × TreeFile)
both_files = followed_by (tree_file_part MAX_NODES) (λ _. tree_file_part MAX_NODES)

files_are_one : ValueIsOne both_files
files_are_one =
    both_are_one (tree_file_part MAX_NODES) (λ _. tree_file_part MAX_NODES) (tree_file_is_one MAX_NODES (lit< tt))
    (λ f is. tree_file_is_one MAX_NODES (lit< tt))

pub text_of_both : (f g : TreeFile) → text_of (tree_file_lines f ++ tree_file_lines g) ≡ tree_file_text f ++ tree_file_text g
text_of_both f g = text_of-append (tree_file_lines f) (tree_file_lines g)

-- an input is the text of one pair
pub same_files : (input : List ℕ) (f g f' g' : TreeFile) → AreFiles input f g → AreFiles input f' g' → (f ≡ f') × (g ≡ g')
same_files input f g f' g' are are' =
    let first = tree_file_is_one MAX_NODES (lit< tt) f f' (tree_file_text g) (tree_file_text g') are.first are'.first (sym are.text ∙ are'.text) in
    let second = tree_file_is_one MAX_NODES (lit< tt) g g' [] [] are.second are'.second
    (append-nil (tree_file_text g) ∙ first.1 ∙ sym (append-nil (tree_file_text g'))) in
    (first.0, second.0)

-- no line of them offends
pub files_never_offend : (input : List ℕ) (f g : TreeFile) (line : ℕ) (reason : Reason) → AreFiles input f g
    → ¬ (IsFirstOffence merge_input.grammar input line reason)
files_never_offend input f g line reason are first =
    let one = tree_file_is_one MAX_NODES (lit< tt) in
    let never = λ (x : List ℕ). both_never (tree_file_part MAX_NODES) (λ _. tree_file_part MAX_NODES) (λ _. Unit {0}) (λ _ _. Unit {0}) x one
    (λ y. tree_file_never MAX_NODES y (lit< tt)) (λ v says. tree_file_never MAX_NODES x (lit< tt)) in
    let text = are.text ∙ sym (text_of_both f g) ∙ sym (append-nil (text_of (tree_file_lines f ++ tree_file_lines g))) in
    text_never both_files (λ (p : TreeFile × TreeFile). Unit {0} × Unit {0}) files_are_one never (f, g) line reason (are.first, are.second) (tt, tt)
    (subst (λ (xs : List ℕ). IsFirstOffence merge_input.grammar xs line reason) text first)

-- ---- the region

-- a file begins with the lines of its region
begins_with_region : (f : TreeFile) → (rest : List (List ℕ)) × (tree_file_lines f ≡ lines_of_region f.heading ++ rest)
begins_with_region f =
    let first = first_line Cover f.heading.version in
    let region = region_lines f.heading.version f.heading.region in
    let words = words_lines f.heading.words in
    let depth = named_line (codes "depth") f.heading.depth ∷ [] in
    let tree = tree_lines f.nodes in
    let behind = append_assoc (region ++ words) depth tree ∙ append_assoc region words (depth ++ tree) in
    (words ++ (depth ++ tree), ap (λ (ls : List (List ℕ)). first ∷ ls) behind)

alike_lines : (g h : Heading) → AreAlike g h → lines_of_region g ≡ lines_of_region h
alike_lines g h alike = ap₂ (λ (v : ℕ) (r : List Outline). first_line Cover v ∷ region_lines v r) alike.version alike.region

one_head : (x y : List ℕ) (xs ys : List (List ℕ)) → x ∷ xs ≡ y ∷ ys → x ≡ y
one_head x y xs ys same = cc

pub not_another_region : (f g : TreeFile) (line : ℕ) → AreAlike f.heading g.heading → ¬ (RefusesRegion f g line)
not_another_region f g line alike (count, number, d) =
    let front = begins_with_region f in
    let lines : d.same ++ d.line ∷ d.lines_after ≡ (d.same ++ d.other ∷ d.others_after) ++ front.0 =
    sym d.lines_are ∙ front.1 ∙ ap (λ (ls : List (List ℕ)). ls ++ front.0) (alike_lines f.heading g.heading alike ∙ d.others_are) in
    let cut = append_cancel_left d.same (d.line ∷ d.lines_after) (d.other ∷ (d.others_after ++ front.0))
    (lines ∙ append_assoc d.same (d.other ∷ d.others_after) front.0) in
    d.differ (one_head d.line d.other d.lines_after (d.others_after ++ front.0) cut)

-- ---- the words

union_goes_on : (words first more union whole : List (List ℕ)) → IsUnion words first union → IsUnion words (first ++ more) whole
    → IsUnion union more whole
union_goes_on words [] more union whole is all = subst (λ (ws : List (List ℕ)). IsUnion ws more whole) (sym is) all
union_goes_on words (w ∷ first) more union whole (inl old) (inl old') = union_goes_on words first more union whole old.1 old'.1
union_goes_on words (w ∷ first) more union whole (inl old) (inr new) = absurd (new.0 old.0)
union_goes_on words (w ∷ first) more union whole (inr new) (inl old) = absurd (new.0 old.0)
union_goes_on words (w ∷ first) more union whole (inr new) (inr new') = union_goes_on (words ++ w ∷ []) first more union whole new.1 new'.1

union_grows : (words others union : List (List ℕ)) → IsUnion words others union → length words ≤ length union
union_grows words [] union is = omega (arith, ap length is)
union_grows words (w ∷ others) union (inl old) = union_grows words others union old.1
union_grows words (w ∷ others) union (inr new) = omega (arith, union_grows (words ++ w ∷ []) others union new.1, length-append words (w ∷ []))

pub not_one_too_many : (f g : TreeFile) (line : ℕ) → HasUnion f g → ¬ (RefusesWords f g line)
not_one_too_many f g line (whole, is, few) (before, number, many) =
    let all = subst (λ (ws : List (List ℕ)). IsUnion f.heading.words ws whole) many.others_are is in
    elim (union_goes_on f.heading.words many.first (many.word ∷ many.more) many.union whole many.is_union all) [
      | inl old ↦ many.is_new old.0
      | inr new ↦
          let grows = union_grows (many.union ++ many.word ∷ []) many.more whole new.1 in
          omega (arith, grows, few, many.is_full, length-append many.union (many.word ∷ []))
    ]

-- ---- the claims

box_is_due : (due : List Square) → due ≢ [] → (others : List Square) × (due ≡ first_box due ∷ others)
box_is_due [] some = absurd (some refl)
box_is_due (box ∷ others) some = (others, refl)

-- the node stands at the first box that was due before it
pub stands_there : (f : TreeFile) (first more : List Node) (n : Node) → IsTreeFile MAX_NODES f → f.nodes ≡ first ++ n ∷ more
    → StandsIn (unit_square ∷ []) f.nodes (first_box (due_boxes first)) n
stands_there f first more n is nodes =
    let list : first ++ n ∷ more ≡ preorder is.tree = sym (is.nodes ∙ nodes) in
    let within : length first < length (preorder is.tree) = omega (arith, ap length list, length-append first (n ∷ more)) in
    let some = (tree_is_whole is.tree).due (length first) within in
    let same : take (length first) (preorder is.tree) ≡ first =
    ap (λ (ns : List Node). take (length first) ns) (sym list) ∙ take-append_seam first (n ∷ more) in
    let due = box_is_due (due_boxes first) (subst (λ (ns : List Node). due_boxes ns ≢ []) same some) in
    subst (λ (ns : List Node). StandsIn (unit_square ∷ []) ns (first_box (due_boxes first)) n) (sym nodes)
    (stands_next first (unit_square ∷ []) n more (first_box (due_boxes first)) due.0 due.1)

has_level : (f : TreeFile) (first more : List Node) (n : Node) → IsTreeFile MAX_NODES f → f.nodes ≡ first ++ n ∷ more
    → HasLevelFor f.heading (first_box (due_boxes first)) n
has_level f first more n is nodes =
    let box = first_box (due_boxes first) in
    let stands = subst (λ (ns : List Node). StandsIn (unit_square ∷ []) ns box n) (sym is.nodes) (stands_there f first more n is nodes) in
    is.is_tree.levels box n (list_to_tree is.tree box n stands)

-- what such a node is refused for
claim_is_not_shown : (h : Heading) (box : Square) (n : Node) (reason : Reason) → HasLevelFor h box n → n ≢ Uncovered → ClaimHas h box n reason
    → refusal_status reason ≡ NotShown
claim_is_not_shown h box Split reason level covered claim = absurd (claim.1 level)
claim_is_not_shown h box Outside reason level covered claim = rw claim.0 refl
claim_is_not_shown h box (Shown i) reason level covered claim = rw claim.0 refl
claim_is_not_shown h box (Corner i) reason level covered claim =
    let deep : nat_lt box.level 10 ≡ false = grind arith in
    rw (claim.0, deep) refl
claim_is_not_shown h box Uncovered reason level covered claim = absurd (covered refl)

false_is_not_shown : (f : TreeFile) (before : ℕ) (reason : Reason) → IsTreeFile MAX_NODES f → IsFalseAfter f before reason
    → refusal_status reason ≡ NotShown
false_is_not_shown f before reason is false_ =
    claim_is_not_shown f.heading (first_box (due_boxes false_.first)) false_.node reason (has_level f false_.first false_.more false_.node is false_.nodes_are)
    false_.is_covered false_.claim

pub refused_claim_is_not_shown : (f g : TreeFile) (line : ℕ) (reason : Reason) → IsTreeFile MAX_NODES f → IsTreeFile MAX_NODES g
    → RefusesClaim f g line reason → refusal_status reason ≡ NotShown
refused_claim_is_not_shown f g line reason is is' (inl (before, number, false_)) = false_is_not_shown f before reason is false_
refused_claim_is_not_shown f g line reason is is' (inr (passed, (before, number, false_))) = false_is_not_shown g before reason is' false_
