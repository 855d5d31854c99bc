-- The nodes of a tree, its end line and the end of the text, one after another.
use Rattle.std.proofs.Common.{◌≡◌, sym, ap, subst, ℕ, false, List, [], codes, Option}
use Rattle.mcb_ends.specs.Reader.{Reader}
use Rattle.line_grammar.specs.declared.reason.Reason.TheVariants.{EndLine}
use Rattle.line_grammar.specs.Faults.{Refusal}
use Rattle.line_grammar.specs.Form.{whole_line}
use Rattle.line_grammar.specs.Part.{line_part, end_of_text}
use Rattle.line_grammar.specs.Reading.{TakesPart, TakesText, FailsPart}
use Rattle.line_grammar.proofs.Parts.{fails_first, fails_second, takes_text}
use Rattle.covering_file.specs.declared.node.Node.{Node}
use Rattle.covering_file.specs.CheckClaims.{check_claims}
use Rattle.covering_file.specs.FilePart.{nodes_part, tree_part, due_end}
use Rattle.covering_file.specs.Header.{Heading}
use Rattle.covering_file.specs.Node.{end_line}
use Rattle.covering_file.proofs.FileParts.{none_uncovered}
use Rattle.covering_file.proofs.TreeParts as parts
use Rattle.cover_checker.specs.Verdicts.{checked_tree}
use Rattle.cover_checker.specs.Steps.{TakesNodes, TakesTree}

-- the end line of a tree that is checked
is_complete : (limit : ℕ) (h : Heading) (nodes : List Node) → (nodes_part check_claims limit h).Says nodes → due_end nodes ≡ codes "end complete"
is_complete limit h nodes says = ap (λ (k : ℕ). end_line k) (none_uncovered limit h [] nodes says.0)

pub nodes_fail : (limit : ℕ) (h : Heading) (old new : Reader) (a b : Option (List ℕ)) (refusal : Option Refusal) → old.is_done ≡ false
    → FailsPart (nodes_part check_claims limit h).grammar old new a b refusal → FailsPart (checked_tree limit h).grammar old new a b refusal
nodes_fail limit h old new a b refusal reading fails =
    fails_first (tree_part check_claims limit h) (λ _. end_of_text) old new a b refusal reading
    (parts.nodes_fail check_claims limit h old new a b refusal reading fails)

pub end_fails : (limit count : ℕ) (h : Heading) (old mid new : Reader) (a b c : Option (List ℕ)) (refusal : Option Refusal) → old.is_done ≡ false
    → TakesNodes limit h old mid a b count
    → FailsPart (line_part (whole_line (codes "end complete") EndLine)).grammar mid new b c refusal
    → FailsPart (checked_tree limit h).grammar old new a c refusal
end_fails limit count h old mid new a b c refusal reading nodes fails =
    let here = subst (λ (line : List ℕ). FailsPart (line_part (whole_line line EndLine)).grammar mid new b c refusal)
    (sym (is_complete limit h nodes.0 nodes.2.says)) fails in
    fails_first (tree_part check_claims limit h) (λ _. end_of_text) old new a c refusal reading
    (parts.end_fails check_claims limit h nodes.0 old mid new a b c refusal nodes.2 here)

tree_taken : (limit count : ℕ) (h : Heading) (old mid new : Reader) (a b c : Option (List ℕ)) → (nodes : TakesNodes limit h old mid a b count)
    → TakesPart (line_part (whole_line (codes "end complete") EndLine)) mid new b c tt → TakesPart (tree_part check_claims limit h) old new a c nodes.0
tree_taken limit count h old mid new a b c nodes end =
    let here = subst (λ (line : List ℕ). TakesPart (line_part (whole_line line EndLine)) mid new b c tt) (sym (is_complete limit h nodes.0 nodes.2.says)) end in
    parts.tree_taken check_claims limit h nodes.0 old mid new a b c nodes.2 here

pub text_fails : (limit count : ℕ) (h : Heading) (old mid end new : Reader) (a b c d : Option (List ℕ)) (refusal : Option Refusal)
    → TakesNodes limit h old mid a b count
    → TakesPart (line_part (whole_line (codes "end complete") EndLine)) mid end b c tt → FailsPart end_of_text.grammar end new c d refusal
    → FailsPart (checked_tree limit h).grammar old new a d refusal
text_fails limit count h old mid end new a b c d refusal nodes line fails =
    fails_second (tree_part check_claims limit h) (λ _. end_of_text) nodes.0 old end new a c d refusal
    (tree_taken limit count h old mid end a b c nodes line) fails

pub text_taken : (limit count : ℕ) (h : Heading) (old mid end : Reader) (a b c d : Option (List ℕ)) → TakesNodes limit h old mid a b count
    → TakesPart (line_part (whole_line (codes "end complete") EndLine)) mid end b c tt → TakesText end_of_text end c d tt → TakesTree limit h old a d count
text_taken limit count h old mid end a b c d nodes line ends = (
  nodes.0,
  nodes.1,
  takes_text (tree_part check_claims limit h) nodes.0 old end a c d (tree_taken limit count h old mid end a b c nodes line) ends,
)
