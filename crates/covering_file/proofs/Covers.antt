-- Each point of the region lies in a box of a sound tree that is shown, and so has a corridor.
use Rattle.std.proofs.Common.{◌≡◌, ◌⊎◌, inl, inr, ℕ, zero, suc, ◌-◌, ◌^◌, ◌<◌, pos, List, [], All, refl, subst, arith}
use Rattle.std.proofs.lemmas.Int.{ints}
use Rattle.std.proofs.lemmas.Nat.{pow_pos}
use Rattle.rat_core.specs.Fraction.{whole, ◌÷◌, ◌≤ℚ◌, ◌<ℚ◌}
use Rattle.rat_core.proofs.Laws.{over_le}
use Rattle.rat_core.proofs.Order.{over_positive}
use Rattle.rational_polygon.specs.Point.{Point}
use Rattle.rational_polygon.specs.Square.{Square, unit_square, child, IsInBox}
use Rattle.rational_polygon.specs.Region.{IsInRegion}
use Rattle.rational_polygon.proofs.Halves.{some_child}
use Rattle.rational_polygon.proofs.Regions.{region_in_unit_square, apart_region_has_none, region_point_is_triangle}
use Rattle.gradient_bounds.specs.Slacks.{Slacks}
use Rattle.gradient_bounds.specs.Slacks as slacks
use Rattle.gradient_bounds.specs.Corridor.{HasCorridor}
use Rattle.gradient_bounds.proofs.Boxes.{clear_gives_corridor_lem, clear_with_less_lem}
use Rattle.corner_bounds.proofs.Boxes.{corner_gives_corridor_lem, corner_clear_with_less_lem}
use Rattle.covering_file.specs.declared.node.Node.{Node}
use Rattle.covering_file.specs.declared.node.Node.TheVariants.{Split, Outside, Shown, Corner, Uncovered}
use Rattle.edge_words.specs.Word.{IsWord}
use Rattle.covering_file.specs.Header.{Heading, IsStableWord}
use Rattle.covering_file.specs.Faults.{word_at, IsListed}
use Rattle.covering_file.specs.Tree.{Tree, leaf, split, StandsAt}
use Rattle.covering_file.specs.Sound.{IsSoundNode}
use Rattle.covering_file.specs.Laws.{SoundCovers, SoundIsCovered, CoveredEverywhere, SureIsSound}

-- in the tree of `root`, a box that is shown, or shown at its corners, and has the point
record IsFound (root : Square) (t : Tree) (p : Point) : Type 0 where
  box : Square
  word : ℕ
  leaf : Node
  shows : (leaf ≡ Shown word) ⊎ (leaf ≡ Corner word)
  stands : StandsAt root t box leaf
  inside : IsInBox box p

-- what holds of a number below four holds of one of the four
one_of_four : (c : ℕ) (P : ℕ → Type 0) → c < 4 → P c → P 0 ⊎ P 1 ⊎ P 2 ⊎ P 3
one_of_four zero P less p = inl p
one_of_four (suc zero) P less p = inr (inl p)
one_of_four (suc (suc zero)) P less p = inr (inr (inl p))
one_of_four (suc (suc (suc zero))) P less p = inr (inr (inr p))
one_of_four (suc (suc (suc (suc c)))) P less p = absurd (omega (arith, less))

abbrev IsSoundFrom : Heading → Slacks → Square → Tree → Type 0
IsSoundFrom h e root t = (box : Square) (node : Node) → StandsAt root t box node → IsSoundNode h e box node

found : (t : Tree) (h : Heading) (e : Slacks) (root : Square) (p : Point) → IsSoundFrom h e root t → IsInRegion h.region p → IsInBox root p → IsFound root t p
found (leaf Split is) h e root p sound of_region inside = absurd is
found (leaf Outside is) h e root p sound of_region inside = absurd (apart_region_has_none root h.region p (sound root Outside (refl, refl)) of_region inside)
found (leaf (Shown i) is) h e root p sound of_region inside =
    record { box = root; word = i; leaf = Shown i; shows = inl refl; stands = (refl, refl); inside = inside }
found (leaf (Corner i) is) h e root p sound of_region inside =
    record { box = root; word = i; leaf = Corner i; shows = inr refl; stands = (refl, refl); inside = inside }
found (leaf Uncovered is) h e root p sound of_region inside = absurd (sound root Uncovered (refl, refl))
found (split a b c d) h e root p sound of_region inside =
    let part = some_child root p inside in
    elim (one_of_four part.0 (λ k. IsInBox (child root k) p) part.1 part.2) [
      | inl there ↦
          let f = found a h e (child root 0) p (λ box node s. sound box node (inr (inl s))) of_region there in
          record { box = f.box; word = f.word; leaf = f.leaf; shows = f.shows; stands = inr (inl f.stands); inside = f.inside }
      | inr after_a ↦ elim after_a [
        | inl there ↦
            let f = found b h e (child root 1) p (λ box node s. sound box node (inr (inr (inl s)))) of_region there in
            record { box = f.box; word = f.word; leaf = f.leaf; shows = f.shows; stands = inr (inr (inl f.stands)); inside = f.inside }
        | inr after_b ↦ elim after_b [
          | inl there ↦
              let f = found c h e (child root 2) p (λ box node s. sound box node (inr (inr (inr (inl s))))) of_region there in
              record { box = f.box; word = f.word; leaf = f.leaf; shows = f.shows; stands = inr (inr (inr (inl f.stands))); inside = f.inside }
          | inr there ↦
              let f = found d h e (child root 3) p (λ box node s. sound box node (inr (inr (inr (inr s))))) of_region there in
              record { box = f.box; word = f.word; leaf = f.leaf; shows = f.shows; stands = inr (inr (inr (inr f.stands))); inside = f.inside }
        ]
      ]
    ]

pub sound_covers : SoundCovers
sound_covers h t heading sound p of_region =
    let f = found t h slacks.sound unit_square p sound of_region (region_in_unit_square h.region p heading.region of_region) in
    let stands : StandsAt unit_square t f.box (Shown f.word) ⊎ StandsAt unit_square t f.box (Corner f.word) = elim f.shows [
      | inl is ↦ inl (subst (λ (n : Node). StandsAt unit_square t f.box n) is f.stands)
      | inr is ↦ inr (subst (λ (n : Node). StandsAt unit_square t f.box n) is f.stands)
    ] in
    (f.box, f.word, stands, f.inside)

-- ---- slacks

positive : whole 0 <ℚ slacks.sound.gradient
positive = over_positive 1 (2 ^ 60) (omega arith) (pow_pos 60)

pub narrower : slacks.sound.gradient ≤ℚ slacks.sure.gradient
narrower = over_le (pos 1) (pos 1) (2 ^ 60) (2 ^ 40) (pow_pos 60) (pow_pos 40) (omega (arith, ints))

enough : pos 1 ÷ 2 ^ 49 ≤ℚ slacks.sound.corner
enough = over_le (pos 1) (pos 1) (2 ^ 49) (2 ^ 36) (pow_pos 49) (pow_pos 36) (omega (arith, ints))

corner_narrower : slacks.sound.corner ≤ℚ slacks.sure.corner
corner_narrower = over_le (pos 1) (pos 1) (2 ^ 36) (2 ^ 32) (pow_pos 36) (pow_pos 32) (omega (arith, ints))

pub listed_is_word : (ws : List (List ℕ)) (i : ℕ) → All IsStableWord ws → IsListed ws i → IsWord (word_at ws i)
listed_is_word ws i stable listed = (stable (i - 1) [] (omega (arith, listed.0, listed.1))).word

-- a listed word has a corridor at each point of a box that it is shown for
abbrev HasWordAt : Heading → ℕ → Point → Type 0
HasWordAt h i p = IsListed h.words i × HasCorridor (word_at h.words i) p.x p.y

pub sound_is_covered : SoundIsCovered
sound_is_covered h t heading sound p of_region triangle =
    let f = sound_covers h t heading sound p of_region in
    let word = word_at h.words f.1 in
    let has : HasWordAt h f.1 p = elim f.2 [
      | inl stands ↦
          let shown = sound f.0 (Shown f.1) stands in
          (shown.0, clear_gives_corridor_lem word f.0 slacks.sound.gradient positive shown.1 p f.3)
      | inr stands ↦
          let shown = sound f.0 (Corner f.1) stands in (
            shown.1,
            corner_gives_corridor_lem word f.0 slacks.sound.corner (listed_is_word h.words f.1 heading.stable shown.1) enough shown.2 p f.3,
          )
    ] in
    (f.1, has.0, has.1)

pub covered_everywhere : CoveredEverywhere
covered_everywhere h heading covered p of_region = covered p of_region (region_point_is_triangle h.region p heading.region of_region)

sure_node : (h : Heading) (box : Square) (node : Node) → IsSoundNode h slacks.sure box node → IsSoundNode h slacks.sound box node
sure_node h box Split sure = sure
sure_node h box Outside sure = sure
sure_node h box (Shown i) sure = (sure.0, clear_with_less_lem (word_at h.words i) box slacks.sure.gradient slacks.sound.gradient narrower sure.1)
sure_node h box (Corner i) sure =
    (sure.0, sure.1, corner_clear_with_less_lem (word_at h.words i) box slacks.sure.corner slacks.sound.corner corner_narrower sure.2)
sure_node h box Uncovered sure = sure

pub sure_is_sound : SureIsSound
sure_is_sound h t sure box node stands = sure_node h box node (sure box node stands)
