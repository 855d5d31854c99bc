-- An input that is a covering file: it is the text of one, and no line of it offends.
use Rattle.std.proofs.Common.{◌≡◌, ℕ, List, [], ◌++◌, refl, sym, ap, ◌∙◌, subst, lit<}
use Rattle.line_grammar.specs.Offence.{IsFirstOffence}
use Rattle.line_grammar.specs.Text.{text_of}
use Rattle.line_grammar.specs.declared.reason.Reason.{Reason}
use Rattle.covering_file.specs.FilePart.{file_lines}
use Rattle.covering_file.specs.Header.{Heading}
use Rattle.covering_file.specs.Tree.{Tree, preorder, file_text}
use Rattle.covering_file.specs.TreeFile.{TreeFile, IsTreeFile, tree_file_text}
use Rattle.covering_file.specs.declared.TheConstants.{MAX_NODES}
use Rattle.covering_file.specs.declared.node.Node.{Node}
use Rattle.covering_file.proofs.TreeFiles.{tree_file_is_one, tree_file_never_offends}
use Rattle.covering_file.proofs.TreeText.{file_text-lines}
use Rattle.covering_file.proofs.Trees.{tree_is_one}
use Rattle.billiards_cli.specs.WholeFile.{file_input, IsFileText, IsRefusedFile}

-- ---- what was read is the text of a file

-- the text of a file is that of its tree
pub text_of_tree : (h : Heading) (t : Tree) (nodes : List Node) → preorder t ≡ nodes → text_of (file_lines h nodes) ≡ file_text h t
text_of_tree h t nodes is = ap (λ (ns : List Node). text_of (file_lines h ns)) (sym is) ∙ sym (file_text-lines h t)

pub is_file_text : (f : TreeFile) (is : IsTreeFile MAX_NODES f) → IsFileText (tree_file_text f) f.heading is.tree
is_file_text f is = record { is_heading = is.is_heading; is_tree = is.is_tree; text = text_of_tree f.heading is.tree f.nodes is.nodes }

-- ---- and of no other

abbrev pub with_tree : Heading → Tree → TreeFile
with_tree h t = record { heading = h; nodes = preorder t }

file_of_text : (input : List ℕ) (h : Heading) (t : Tree) → IsFileText input h t → IsTreeFile MAX_NODES (with_tree h t)
file_of_text input h t file = record { is_heading = file.is_heading; tree = t; nodes = refl; is_tree = file.is_tree }

text_is_file : (input : List ℕ) (h : Heading) (t : Tree) → IsFileText input h t → input ≡ tree_file_text (with_tree h t)
text_is_file input h t file = file.text ∙ file_text-lines h t

pub one_file : (input : List ℕ) (g h : Heading) (s t : Tree) → IsFileText input g s → IsFileText input h t → (g ≡ h) × (s ≡ t)
one_file input g h s t file other =
    let behind = λ (xs : List ℕ). xs ++ [] in
    let both = tree_file_is_one MAX_NODES (lit< tt) (with_tree g s) (with_tree h t) [] [] (file_of_text input g s file) (file_of_text input h t other)
    (ap behind (sym (text_is_file input g s file) ∙ text_is_file input h t other)) in
    (ap (λ (f : TreeFile). f.heading) both.0, tree_is_one s t (ap (λ (f : TreeFile). f.nodes) both.0))

-- ---- no line of it offends

pub file_is_not_refused : (input : List ℕ) (h : Heading) (t : Tree) (line : ℕ) (reason : Reason) → IsFileText input h t → IsRefusedFile input line reason → ⊥
file_is_not_refused input h t line reason file refused =
    tree_file_never_offends MAX_NODES (with_tree h t) line reason (lit< tt) (file_of_text input h t file)
    (subst (λ (xs : List ℕ). IsFirstOffence file_input.grammar xs line reason) (text_is_file input h t file) refused)
