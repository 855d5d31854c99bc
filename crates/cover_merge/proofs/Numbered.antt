-- The words of a union, and trees with their numbers in it.
use Rattle.std.proofs.Common.{◌≡◌, ◌⊎◌, inl, inr, refl, sym, ap, ◌∙◌, subst, ℕ, zero, suc, ◌+◌, ◌-◌, ◌<◌, ◌≤◌, List, [], ◌∷◌, ◌++◌, map, length, arith}
use Rattle.std.proofs.Common.{length-append}
use Rattle.std.specs.Prelude.{slice_index_or}
use Rattle.std.proofs.Math.Seq.{get_or-append_seam}
use Rattle.std.proofs.lemmas.Bool.{cases_lt}
use Rattle.std.proofs.lemmas.List.{get_or_append_left, map-append}
use Rattle.rational_polygon.specs.Outline.{Outline}
use Rattle.rational_polygon.specs.Region.{IsApartFromRegion}
use Rattle.rational_polygon.specs.Square.{Square, child}
use Rattle.gradient_bounds.specs.Clear.{IsClear}
use Rattle.gradient_bounds.specs.CornerClear.{IsCornerClear}
use Rattle.gradient_bounds.specs.Slacks.{Slacks}
use Rattle.covering_file.specs.declared.node.Node.{Node}
use Rattle.covering_file.specs.declared.node.Node.TheVariants.{Split, Outside, Shown, Corner, Uncovered}
use Rattle.covering_file.specs.Faults.{word_at, IsListed}
use Rattle.covering_file.specs.Header.{Heading}
use Rattle.covering_file.specs.Sound.{IsSoundNode}
use Rattle.covering_file.specs.Tree.{Tree, leaf, split, preorder, StandsAt}
use Rattle.cover_merge.specs.Union.{Lists, with_number, renumbered}
use Rattle.cover_merge.specs.UnionLaws.{UnionKeepsFirst, UnionHasOthers, UnionHasNoMore}
use Rattle.cover_merge.specs.UnionLaws.{RenumberedHasNodes, RenumberedIsOpenWhereTreeIs, RenumberedKeepsSound}

-- ---- a word more

before_last : (words : List (List ℕ)) (w : List ℕ) (i : ℕ) → IsListed words i → IsListed (words ++ w ∷ []) i × (word_at (words ++ w ∷ []) i ≡ word_at words i)
before_last words w i listed =
    let within : i - 1 < length words = omega (arith, listed.0, listed.1) in
    ((listed.0, omega (arith, listed.1, length-append words (w ∷ []))), get_or_append_left words (w ∷ []) [] (i - 1) within)

last : (words : List (List ℕ)) (w : List ℕ) → IsListed (words ++ w ∷ []) (length words + 1) × (word_at (words ++ w ∷ []) (length words + 1) ≡ w)
last words w =
    let place : length words + 1 - 1 ≡ length words = omega arith in (
      (omega arith, omega (arith, length-append words (w ∷ []))),
      ap (λ k. slice_index_or (words ++ w ∷ []) k []) place ∙ get_or-append_seam words w [] [],
    )

next_word : (w : List ℕ) (words : List (List ℕ)) (i : ℕ) → word_at (w ∷ words) (suc (suc i)) ≡ word_at words (suc i)
next_word w words i =
    let place : suc (suc i) - 1 ≡ suc (suc i - 1) = omega arith in
    ap (λ k. slice_index_or (w ∷ words) k []) place

-- ---- unions

pub union_keeps_first_lem : UnionKeepsFirst
union_keeps_first_lem words [] union i is listed =
    (subst (λ (ws : List (List ℕ)). IsListed ws i) (sym is) listed, ap (λ (ws : List (List ℕ)). word_at ws i) is)
union_keeps_first_lem words (w ∷ others) union i (inl old) listed = union_keeps_first_lem words others union i old.1 listed
union_keeps_first_lem words (w ∷ others) union i (inr new) listed =
    let one = before_last words w i listed in
    let all = union_keeps_first_lem (words ++ w ∷ []) others union i new.1 one.0 in
    (all.0, all.1 ∙ one.1)

pub union_has_others_lem : UnionHasOthers
union_has_others_lem words [] union i is listed = absurd (omega (arith, listed.0, listed.1))
union_has_others_lem words (w ∷ others) union zero is listed = absurd (omega (arith, listed.0))
union_has_others_lem words (w ∷ others) union (suc zero) (inl old) listed =
    let kept = union_keeps_first_lem words others union old.0.0 old.1 old.0.1 in
    (old.0.0, kept.0, kept.1 ∙ old.0.2)
union_has_others_lem words (w ∷ others) union (suc zero) (inr new) listed =
    let end = last words w in
    let kept = union_keeps_first_lem (words ++ w ∷ []) others union (length words + 1) new.1 end.0 in
    (length words + 1, kept.0, kept.1 ∙ end.1)
union_has_others_lem words (w ∷ others) union (suc (suc i)) (inl old) listed =
    let later = union_has_others_lem words others union (suc i) old.1 (omega arith, omega (arith, listed.1)) in
    (later.0, later.1, later.2 ∙ sym (next_word w others i))
union_has_others_lem words (w ∷ others) union (suc (suc i)) (inr new) listed =
    let later = union_has_others_lem (words ++ w ∷ []) others union (suc i) new.1 (omega arith, omega (arith, listed.1)) in
    (later.0, later.1, later.2 ∙ sym (next_word w others i))

-- what stands in a longer list stands in the list or is its last
before_or_last : (words : List (List ℕ)) (w v : List ℕ) → Lists (words ++ w ∷ []) v → Lists words v ⊎ (w ≡ v)
before_or_last words w v (i, listed, is) =
    elim (cases_lt (length words) i) [
      | inl past ↦
          let at : i ≡ length words + 1 = omega (arith, past, listed.1, length-append words (w ∷ [])) in
          inr (sym ((last words w).1) ∙ ap (λ k. word_at (words ++ w ∷ []) k) (sym at) ∙ is)
      | inr within ↦
          let here : IsListed words i = (listed.0, within) in
          inl (i, here, sym ((before_last words w i here).1) ∙ is)
    ]

lists_more : (w v : List ℕ) (words : List (List ℕ)) → Lists words v → Lists (w ∷ words) v
lists_more w v words (zero, listed, is) = absurd (omega (arith, listed.0))
lists_more w v words (suc i, listed, is) = (suc (suc i), (omega arith, omega (arith, listed.1)), next_word w words i ∙ is)

lists_first : (w v : List ℕ) (words : List (List ℕ)) → w ≡ v → Lists (w ∷ words) v
lists_first w v words is = (1, (omega arith, omega arith), is)

pub union_has_no_more_lem : UnionHasNoMore
union_has_no_more_lem words [] union v is lists = inl (subst (λ (ws : List (List ℕ)). Lists ws v) is lists)
union_has_no_more_lem words (w ∷ others) union v (inl old) lists =
    elim (union_has_no_more_lem words others union v old.1 lists) [ inl here ↦ inl here | inr there ↦ inr (lists_more w v others there) ]
union_has_no_more_lem words (w ∷ others) union v (inr new) lists =
    elim (union_has_no_more_lem (words ++ w ∷ []) others union v new.1 lists) [
      | inl longer ↦ elim (before_or_last words w v longer) [ inl here ↦ inl here | inr is ↦ inr (lists_first w v others is) ]
      | inr there ↦ inr (lists_more w v others there)
    ]

-- ---- other numbers

pub renumbered_has_nodes_lem : RenumberedHasNodes
renumbered_has_nodes_lem number (leaf n is) = refl
renumbered_has_nodes_lem number (split a b c d) =
    let f = with_number number in
    let in_a = renumbered_has_nodes_lem number a in
    let in_b = renumbered_has_nodes_lem number b in
    let in_c = renumbered_has_nodes_lem number c in
    let in_d = renumbered_has_nodes_lem number d in
    ap (λ (ns : List Node). Split ∷ (((ns ++ preorder (renumbered number b)) ++ preorder (renumbered number c)) ++ preorder (renumbered number d))) in_a
    ∙ ap (λ (ns : List Node). Split ∷ (((map f (preorder a) ++ ns) ++ preorder (renumbered number c)) ++ preorder (renumbered number d))) in_b
    ∙ ap (λ (ns : List Node). Split ∷ (((map f (preorder a) ++ map f (preorder b)) ++ ns) ++ preorder (renumbered number d))) in_c
    ∙ ap (λ (ns : List Node). Split ∷ (((map f (preorder a) ++ map f (preorder b)) ++ map f (preorder c)) ++ ns)) in_d
    ∙ ap (λ (ns : List Node). Split ∷ ns) (sym (parts f (preorder a) (preorder b) (preorder c) (preorder d)))
  where
    parts : (f : Node → Node) (a b c d : List Node) → map f (((a ++ b) ++ c) ++ d) ≡ ((map f a ++ map f b) ++ map f c) ++ map f d
    parts f a b c d =
        map-append f ((a ++ b) ++ c) d ∙ ap (λ (ns : List Node). ns ++ map f d) (map-append f (a ++ b) c)
        ∙ ap (λ (ns : List Node). (ns ++ map f c) ++ map f d) (map-append f a b)

-- what stands in the tree with other numbers is what stands in the tree, with another number
abbrev pub IsRenumbered : (ℕ → ℕ) → Tree → Square → Square → Node → Type 0
IsRenumbered number t root box n = (m : Node) × StandsAt root t box m × (n ≡ with_number number m)

pub is_renumbered : (number : ℕ → ℕ) (t : Tree) (root box : Square) (n : Node) → StandsAt root (renumbered number t) box n → IsRenumbered number t root box n
is_renumbered number (leaf m is) root box n stands = (m, (stands.0, refl), stands.1)
is_renumbered number (split a b c d) root box n (inl here) = (Split, inl (here.0, refl), here.1)
is_renumbered number (split a b c d) root box n (inr (inl there)) =
    let was = is_renumbered number a (child root 0) box n there in
    (was.0, inr (inl was.1), was.2)
is_renumbered number (split a b c d) root box n (inr (inr (inl there))) =
    let was = is_renumbered number b (child root 1) box n there in
    (was.0, inr (inr (inl was.1)), was.2)
is_renumbered number (split a b c d) root box n (inr (inr (inr (inl there)))) =
    let was = is_renumbered number c (child root 2) box n there in
    (was.0, inr (inr (inr (inl was.1))), was.2)
is_renumbered number (split a b c d) root box n (inr (inr (inr (inr there)))) =
    let was = is_renumbered number d (child root 3) box n there in
    (was.0, inr (inr (inr (inr was.1))), was.2)

still_open : (number : ℕ → ℕ) (t : Tree) (root box : Square) → StandsAt root t box Uncovered → StandsAt root (renumbered number t) box Uncovered
still_open number (leaf m is) root box stands = (stands.0, ap (with_number number) stands.1)
still_open number (split a b c d) root box (inl here) = inl here
still_open number (split a b c d) root box (inr (inl there)) = inr (inl (still_open number a (child root 0) box there))
still_open number (split a b c d) root box (inr (inr (inl there))) = inr (inr (inl (still_open number b (child root 1) box there)))
still_open number (split a b c d) root box (inr (inr (inr (inl there)))) = inr (inr (inr (inl (still_open number c (child root 2) box there))))
still_open number (split a b c d) root box (inr (inr (inr (inr there)))) = inr (inr (inr (inr (still_open number d (child root 3) box there))))

was_open : (number : ℕ → ℕ) (m : Node) → Uncovered ≡ with_number number m → m ≡ Uncovered
was_open number (Shown i) same = cc
was_open number (Corner i) same = cc
was_open number m same = sym same

pub renumbered_is_open_where_tree_is_lem : RenumberedIsOpenWhereTreeIs
renumbered_is_open_where_tree_is_lem number t root box = (
  λ stands. let was = is_renumbered number t root box Uncovered stands in
      subst (λ (m : Node). StandsAt root t box m) (was_open number was.0 was.2) was.1,
  still_open number t root box,
)

pub sound_still : (e : Slacks) (g h : Heading) (number : ℕ → ℕ) (box : Square) (m : Node) → g.version ≡ h.version → g.region ≡ h.region
    → g.depth ≤ h.depth
    → ((i : ℕ) → IsListed g.words i → IsListed h.words (number i) × (word_at h.words (number i) ≡ word_at g.words i))
    → IsSoundNode g e box m → IsSoundNode h e box (with_number number m)
sound_still e g h number box Split version region deeper same sound = omega (arith, sound, deeper)
sound_still e g h number box Outside version region deeper same sound = subst (λ (r : List Outline). IsApartFromRegion box r) region sound
sound_still e g h number box (Shown i) version region deeper same sound =
    let one = same i sound.0 in
    (one.0, subst (λ (w : List ℕ). IsClear w box e.gradient) (sym one.1) sound.1)
sound_still e g h number box (Corner i) version region deeper same sound =
    let one = same i sound.1 in
    (sym version ∙ sound.0, one.0, subst (λ (w : List ℕ). IsCornerClear w box e.corner) (sym one.1) sound.2)
sound_still e g h number box Uncovered version region deeper same sound = sound

pub renumbered_keeps_sound_lem : RenumberedKeepsSound
renumbered_keeps_sound_lem e g h number t root version region deeper same sound box n stands =
    let was = is_renumbered number t root box n stands in
    elim (sound box was.0 was.1) [
      | inl good ↦
          inl (subst (λ (m : Node). IsSoundNode h e box m) (sym was.2) (sound_still e g h number box was.0 version region deeper same good))
      | inr is ↦ inr (was.2 ∙ ap (with_number number) is)
    ]
