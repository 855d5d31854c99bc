-- How many nodes an overlay and a fold have, and how many are uncovered.
use Rattle.std.proofs.Common.{◌≡◌, inl, inr, refl, sym, ap, subst, ℕ, ◌+◌, [], ◌∷◌, ◌++◌, true, arith, length-append}
use Rattle.std.proofs.lemmas.List.Sums.{sum_by-append}
use Rattle.std.specs.List.{sum_by}
use Rattle.std.specs.Prelude.{cond}
use Rattle.rational_polygon.specs.Square.{Square, unit_square, child}
use Rattle.covering_file.specs.declared.node.Node.{Node}
use Rattle.covering_file.specs.declared.node.Node.TheVariants.{Split, Uncovered}
use Rattle.covering_file.specs.Node.{is_uncovered}
use Rattle.covering_file.specs.Tree.{Tree, leaf, split, preorder, StandsAt, uncovered_in}
use Rattle.cover_merge.specs.Overlay.{overlay}
use Rattle.cover_merge.specs.Parts.{size}
use Rattle.cover_merge.specs.Laws.{OverlayIsSmall, FoldIsSmall, ClosedIsSound}

pub size_split : (a b c d : Tree) → size (split a b c d) ≡ 1 + (size a + size b + size c + size d)
size_split a b c d =
    omega (
      arith,
      length-append (preorder a) (preorder b),
      length-append (preorder a ++ preorder b) (preorder c),
      length-append ((preorder a ++ preorder b) ++ preorder c) (preorder d),
    )

pub overlay_is_small_lem : OverlayIsSmall
overlay_is_small_lem (leaf Uncovered is) t = omega arith
overlay_is_small_lem (leaf n is) t = omega arith
overlay_is_small_lem (split a b c d) (leaf Uncovered is) = omega arith
overlay_is_small_lem (split a b c d) (leaf n is) = omega arith
overlay_is_small_lem (split a b c d) (split e f g h) =
    omega (
      arith,
      size_split (overlay a e) (overlay b f) (overlay c g) (overlay d h),
      size_split a b c d,
      size_split e f g h,
      overlay_is_small_lem a e,
      overlay_is_small_lem b f,
      overlay_is_small_lem c g,
      overlay_is_small_lem d h,
    )

pub fold_is_small_lem : FoldIsSmall
fold_is_small_lem words (leaf n is) r root fold = omega (arith, ap (λ (t : Tree). size t) fold)
fold_is_small_lem words (split a b c d) r root (e, f, g, h, p, q, u, v, inl apart) =
    omega (
      arith,
      ap (λ (t : Tree). size t) apart.0,
      size_split a b c d,
      size_split e f g h,
      fold_is_small_lem words a e (child root 0) p,
      fold_is_small_lem words b f (child root 1) q,
      fold_is_small_lem words c g (child root 2) u,
      fold_is_small_lem words d h (child root 3) v,
    )
fold_is_small_lem words (split a b c d) r root (e, f, g, h, p, q, u, v, inr joined) =
    omega (arith, ap (λ (t : Tree). size t) joined.1.1, size_split a b c d)

-- ---- uncovered leaves

abbrev one_for : Node → ℕ
one_for n = cond (is_uncovered n) 1 0

uncovered_split : (a b c d : Tree) → uncovered_in (split a b c d) ≡ uncovered_in a + uncovered_in b + uncovered_in c + uncovered_in d
uncovered_split a b c d =
    let first = sum_by-append one_for (Split ∷ []) (((preorder a ++ preorder b) ++ preorder c) ++ preorder d) in
    let none : sum_by one_for (Split ∷ []) ≡ 0 = refl in
    omega (
      arith,
      first,
      none,
      sum_by-append one_for (preorder a) (preorder b),
      sum_by-append one_for (preorder a ++ preorder b) (preorder c),
      sum_by-append one_for ((preorder a ++ preorder b) ++ preorder c) (preorder d),
    )

none_stands : (t : Tree) (root box : Square) → uncovered_in t ≡ 0 → ¬ (StandsAt root t box Uncovered)
none_stands (leaf n is) root box none stands =
    let one : uncovered_in (leaf n is) ≡ 1 = ap (λ (m : Node). sum_by one_for (m ∷ [])) (sym stands.1) in
    omega (arith, one, none)
none_stands (split a b c d) root box none (inl here) =
    let both : true ≡ is_uncovered Split = ap is_uncovered here.1 in
    cc
none_stands (split a b c d) root box none (inr (inl there)) = none_stands a (child root 0) box (omega (arith, uncovered_split a b c d, none)) there
none_stands (split a b c d) root box none (inr (inr (inl there))) = none_stands b (child root 1) box (omega (arith, uncovered_split a b c d, none)) there
none_stands (split a b c d) root box none (inr (inr (inr (inl there)))) =
    none_stands c (child root 2) box (omega (arith, uncovered_split a b c d, none)) there
none_stands (split a b c d) root box none (inr (inr (inr (inr there)))) =
    none_stands d (child root 3) box (omega (arith, uncovered_split a b c d, none)) there

pub closed_is_sound_lem : ClosedIsSound
closed_is_sound_lem e h t sound none box n stands =
    elim (sound box n stands) [
      | inl good ↦ good
      | inr is ↦ absurd (none_stands t unit_square box none (subst (λ (m : Node). StandsAt unit_square t box m) is stands))
    ]
