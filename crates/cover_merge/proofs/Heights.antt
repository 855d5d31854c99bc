-- How deep the splits of a tree stand, by its height.
use Rattle.std.proofs.Common.{◌≡◌, inl, inr, ap, sym, ℕ, ◌+◌, ◌≤◌, max, arith}
use Rattle.rational_polygon.specs.Square.{Square, child}
use Rattle.covering_file.specs.Tree.{Tree, leaf, split}
use Rattle.covering_file.proofs.Trees.{leaf_is_no_split}
use Rattle.cover_merge.specs.Parts.{SplitsAbove}

-- the most splits that stand below each other
abbrev pub height : Tree → ℕ
height (leaf n is) = 0
height (split a b c d) = 1 + max (max (height a) (height b)) (max (height c) (height d))

pub splits_above : (depth : ℕ) (t : Tree) (root : Square) → root.level + height t ≤ depth → SplitsAbove depth root t
splits_above depth (leaf n is) root fits box stands = absurd (leaf_is_no_split n is (sym stands.1))
splits_above depth (split a b c d) root fits box (inl here) =
    let at : box.level ≡ root.level = ap (λ (b : Square). b.level) here.0 in
    omega (arith, at, fits)
splits_above depth (split a b c d) root fits box (inr (inl there)) = splits_above depth a (child root 0) (omega (arith, fits)) box there
splits_above depth (split a b c d) root fits box (inr (inr (inl there))) = splits_above depth b (child root 1) (omega (arith, fits)) box there
splits_above depth (split a b c d) root fits box (inr (inr (inr (inl there)))) = splits_above depth c (child root 2) (omega (arith, fits)) box there
splits_above depth (split a b c d) root fits box (inr (inr (inr (inr there)))) = splits_above depth d (child root 3) (omega (arith, fits)) box there
