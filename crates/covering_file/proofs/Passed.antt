-- A file whose lines can all pass is the text of a sound tree.
use Rattle.std.proofs.Common.{List, [], ◌∷◌, length, refl, sym, ap, ◌∙◌, subst}
use Rattle.rational_polygon.specs.Square.{unit_square}
use Rattle.line_grammar.specs.Text.{text_of}
use Rattle.covering_file.specs.declared.node.Node.{Node}
use Rattle.covering_file.specs.CheckClaims.{check_claims}
use Rattle.covering_file.specs.DueBoxes.{StandsIn}
use Rattle.covering_file.specs.FilePart.{file_lines}
use Rattle.covering_file.specs.Laws.{PassedIsAccepted}
use Rattle.covering_file.specs.Sound.{IsSound}
use Rattle.covering_file.proofs.NodesSaid.{said_are_whole, said_may_stand, said_within}
use Rattle.covering_file.proofs.Trees.{whole_has_tree, tree_to_list}
use Rattle.covering_file.proofs.TreeText.{file_text-lines}

pub passed_is_accepted : PassedIsAccepted
passed_is_accepted limit h nodes heading says =
    let tree = whole_has_tree nodes (said_are_whole check_claims limit h nodes says) in
    let t = tree.0 in
    let sound : IsSound h t = λ box node stands.
    said_may_stand check_claims limit h nodes says box node
    (subst (λ (ns : List Node). StandsIn (unit_square ∷ []) ns box node) tree.1 (tree_to_list t box node stands)) in (
      said_within check_claims limit h nodes says,
      record {
        heading = h;
        tree = t;
        is_heading = heading;
        sound = sound;
        text = ap (λ (ns : List Node). text_of (file_lines h ns)) (sym tree.1) ∙ sym (file_text-lines h t);
        node_count = ap (λ (ns : List Node). length ns) (sym tree.1);
        word_count = refl;
      },
    )
