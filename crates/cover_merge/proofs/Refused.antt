-- The lines that the second round refuses, and how many nodes a merge has.
use Rattle.std.proofs.Common.{◌≡◌, sym, ap, ◌∙◌, subst, ℕ, ◌≤◌, List, [], ◌∷◌, ◌++◌, length, take, codes, arith, append_assoc}
use Rattle.std.proofs.lemmas.List.{append-nil}
use Rattle.std.proofs.Math.Seq.{take-append_seam}
use Rattle.line_grammar.specs.Text.{named_line}
use Rattle.covering_file.specs.declared.TheConstants.{MAX_NODES}
use Rattle.covering_file.specs.declared.file_kind.FileKind.TheVariants.{Cover}
use Rattle.covering_file.specs.declared.node.Node.{Node}
use Rattle.covering_file.specs.Header.{Heading, first_line, region_lines, words_lines}
use Rattle.covering_file.specs.TreeFile.{TreeFile, IsTreeFile, tree_file_lines}
use Rattle.covering_file.specs.FilePart.{tree_lines}
use Rattle.covering_file.proofs.TreeFiles.{tree_file_few}
use Rattle.cover_merge.specs.Merge.{IsMerge}
use Rattle.cover_merge.specs.Rounds.{DifferAfter, lines_of_region}
use Rattle.cover_merge.proofs.Differing.{differ_before}
use Rattle.cover_merge.proofs.Merged.{merge_is_small_lem}

-- a line within the region of both is one within the first file
pub region_refused : (f g : TreeFile) (h k : Heading) (same : ℕ) → h ≡ f.heading → k ≡ g.heading
    → DifferAfter (lines_of_region h) (lines_of_region k) same → DifferAfter (tree_file_lines f) (lines_of_region g.heading) same
region_refused f g h k same of_f of_g differ =
    let d = subst (λ (l : Heading). DifferAfter (lines_of_region l) (lines_of_region g.heading) same) of_f
    (subst (λ (l : Heading). DifferAfter (lines_of_region h) (lines_of_region l) same) of_g differ) in
    let region = region_lines f.heading.version f.heading.region in
    let words = words_lines f.heading.words in
    let depth = named_line (codes "depth") f.heading.depth ∷ [] in
    let tree = tree_lines f.nodes in
    let more = words ++ (depth ++ tree) in
    let lines : lines_of_region f.heading ++ more ≡ tree_file_lines f =
    ap (λ (ls : List (List ℕ)). first_line Cover f.heading.version ∷ ls)
    (sym (append_assoc (region ++ words) depth tree ∙ append_assoc region words (depth ++ tree))) in
    subst (λ (ls : List (List ℕ)). DifferAfter ls (lines_of_region g.heading) same) lines
    (subst (λ (ls : List (List ℕ)). DifferAfter (lines_of_region f.heading ++ more) ls same) (append-nil (lines_of_region g.heading))
    (differ_before (lines_of_region f.heading) (lines_of_region g.heading) more [] same d))

pub few_nodes : (f g r : TreeFile) → IsTreeFile MAX_NODES f → IsTreeFile MAX_NODES g → IsMerge f g r → length r.nodes ≤ 4000000
few_nodes f g r is_f is_g m = omega (arith, merge_is_small_lem f g r m, tree_file_few MAX_NODES f is_f, tree_file_few MAX_NODES g is_g)

-- what was written through a slice of a list is the list
pub written_back : (new rest : List Node) (len : ℕ) → length new ≡ len → take len (new ++ rest) ≡ new
written_back new rest len is = ap (λ (k : ℕ). take k (new ++ rest)) (sym is) ∙ take-append_seam new rest
