-- No line of a file with a sure tree is refused.
use Rattle.std.proofs.Common.{◌≡◌, inl, inr, ℕ, List, refl, sym, ◌∙◌, subst, arith, append-nil}
use Rattle.rational_polygon.specs.Square.{Square, child}
use Rattle.gradient_bounds.specs.Slacks.{Slacks}
use Rattle.gradient_bounds.specs.Slacks as slacks
use Rattle.line_grammar.specs.Offence.{IsFirstOffence}
use Rattle.line_grammar.specs.Text.{text_of}
use Rattle.covering_file.specs.declared.node.Node.{Node}
use Rattle.covering_file.specs.CheckClaims.{check_claims}
use Rattle.covering_file.specs.FilePart.{file_grammar, file_lines}
use Rattle.covering_file.specs.Header.{Heading}
use Rattle.covering_file.specs.Laws.{SureIsNotRefused}
use Rattle.covering_file.specs.Sound.{IsSoundNode}
use Rattle.covering_file.specs.Tree.{Tree, leaf, split, StandsAt, preorder, uncovered_in}
use Rattle.covering_file.proofs.Covers.{sure_is_sound}
use Rattle.covering_file.proofs.FileParts.{check_ends, file_never}
use Rattle.covering_file.proofs.NodeLines.{sound_is_node, sound_is_covered}
use Rattle.covering_file.proofs.NodeParts.{NeverHas}
use Rattle.covering_file.proofs.NodesSaid.{all_said, each_sure}
use Rattle.covering_file.proofs.Trees.{tree_is_whole, list_to_tree}
use Rattle.covering_file.proofs.TreeText.{uncovered_in-split, file_text-lines}

-- a node that may stand with the wider slacks has no reason
never_has : NeverHas check_claims (λ g box n. IsSoundNode g slacks.sure box n)
never_has h box n r sure has = has.1 sure

-- a sound tree leaves no box uncovered
pub all_covered : (e : Slacks) (t : Tree) (h : Heading) (root : Square) → ((box : Square) (n : Node) → StandsAt root t box n → IsSoundNode h e box n)
    → uncovered_in t ≡ 0
all_covered e (leaf n is) h root sound = rw (sound_is_covered h e root n (sound root n (refl, refl))) refl
all_covered e (split a b c d) h root sound =
    omega (
      arith,
      uncovered_in-split a b c d,
      all_covered e a h (child root 0) (λ box n s. sound box n (inr (inl s))),
      all_covered e b h (child root 1) (λ box n s. sound box n (inr (inr (inl s)))),
      all_covered e c h (child root 2) (λ box n s. sound box n (inr (inr (inr (inl s))))),
      all_covered e d h (child root 3) (λ box n s. sound box n (inr (inr (inr (inr s))))),
    )

pub sure_is_not_refused : SureIsNotRefused
sure_is_not_refused limit bytes line r file refused =
    let f = file.3 in
    let h = f.heading in
    let t = f.tree in
    let nodes = preorder t in
    let whole = tree_is_whole t in
    let sound = sure_is_sound h t f.sound in
    let said = all_said check_claims limit h nodes whole (omega (arith, file.2, f.node_count))
    (λ box n stands. let at = list_to_tree t box n stands in (sound_is_node h slacks.sound box n (sound box n at), sound box n at)) in
    let Sure : Heading → Square → Node → Type 0 = λ g box n. IsSoundNode g slacks.sure box n in
    let sure = each_sure Sure h nodes whole.due (λ box n stands. f.sound box n (list_to_tree t box n stands)) in
    let text = f.text ∙ file_text-lines h t ∙ sym (append-nil (text_of (file_lines h nodes))) in
    file_never check_claims Sure limit never_has (check_ends limit) (h, nodes) line r (f.is_heading, said) (tt, sure)
    (subst (λ (xs : List ℕ). IsFirstOffence (file_grammar check_claims limit) xs line r) text refused)
