-- The trees that are due behind a place, as one goes on to the end of a tree.
use Rattle.std.proofs.Common.{◌≡◌, refl, sym, ap, ◌∙◌, subst, ℕ, ◌+◌, ◌≤◌, List, [], ◌∷◌, ◌++◌, length, drop, arith}
use Rattle.std.proofs.lemmas.List.{append-nil, append_assoc, drop_all}
use Rattle.std.specs.List.{flat_map}
use Rattle.covering_file.specs.declared.node.Node.{Node}
use Rattle.covering_file.specs.declared.node.Node.TheVariants.{Split}
use Rattle.covering_file.specs.Node.{IsLeaf}
use Rattle.covering_file.specs.Tree.{Tree, leaf, split, preorder}
use Rattle.covering_file.proofs.Trees.{regroup}
use Rattle.cover_merge.specs.Parts.{size, StandsFrom}
use Rattle.cover_merge.proofs.Listed.{some_node}

-- from place k on the list has the nodes of so many trees, which end here
pub record Due (nodes : List Node) (k due end : ℕ) : Type 0 where
  pub trees : List Tree
  pub rest : List Node
  pub count : length trees ≡ due
  pub list : drop k nodes ≡ flat_map preorder trees ++ rest
  pub ends : k + length (flat_map preorder trees) ≡ end

-- so it is for whatever tree stands from `start` on
abbrev pub IsDue : List Node → ℕ → ℕ → ℕ → Type 0
IsDue nodes start k due = (t : Tree) → StandsFrom nodes start t → Due nodes k due (start + size t)

pub due_first : (nodes : List Node) (start : ℕ) → IsDue nodes start start 1
due_first nodes start t stands = record {
  trees = t ∷ [];
  rest = stands.0;
  count = refl;
  list = stands.1 ∙ ap (λ (ns : List Node). ns ++ stands.0) (sym (append-nil (preorder t)));
  ends = ap (λ (ns : List Node). start + length ns) (append-nil (preorder t));
}

-- the same of a list, by its first node
record Grown (list rest : List Node) (k due end : ℕ) : Type 0 where
  trees : List Tree
  count : length trees ≡ due
  nodes : list ≡ flat_map preorder trees ++ rest
  ends : k + length (flat_map preorder trees) ≡ end

grown : (trees : List Tree) (n : Node) (list rest : List Node) (k due next end : ℕ) → length trees ≡ due → 1 ≤ due
    → n ∷ list ≡ flat_map preorder trees ++ rest → k + length (flat_map preorder trees) ≡ end → (n ≡ Split → next ≡ due + 3)
    → (IsLeaf n → next + 1 ≡ due) → Grown list rest (k + 1) next end
grown [] n list rest k due next end count some same ends at_split at_leaf = absurd (omega (arith, count, some))
grown (leaf m is ∷ ts) n list rest k due next end count some same ends at_split at_leaf =
    let head : m ≡ n = cc in
    let tail : list ≡ flat_map preorder ts ++ rest = cc in
    let less : next + 1 ≡ due = at_leaf (subst (λ (l : Node). IsLeaf l) head is) in
    record { trees = ts; count = omega (arith, count, less); nodes = tail; ends = omega (arith, ends) }
grown (split a b c d ∷ ts) n list rest k due next end count some same ends at_split at_leaf =
    let head : n ≡ Split = cc in
    let tail : list ≡ ((((preorder a ++ preorder b) ++ preorder c) ++ preorder d) ++ flat_map preorder ts) ++ rest = cc in
    let more : next ≡ due + 3 = at_split head in
    let flat = regroup (preorder a) (preorder b) (preorder c) (preorder d) (flat_map preorder ts) in
    record {
      trees = a ∷ b ∷ c ∷ d ∷ ts;
      count = omega (arith, count, more);
      nodes = tail ∙ ap (λ (ns : List Node). ns ++ rest) flat;
      ends = omega (arith, ends, ap (λ (ns : List Node). length ns) flat);
    }

pub due_next : (nodes : List Node) (start k due next : ℕ) (n : Node) → drop k nodes ≡ n ∷ drop (k + 1) nodes → 1 ≤ due
    → (n ≡ Split → next ≡ due + 3) → (IsLeaf n → next + 1 ≡ due) → IsDue nodes start k due → IsDue nodes start (k + 1) next
due_next nodes start k due next n head some at_split at_leaf before t stands =
    let d = before t stands in
    let g = grown d.trees n (drop (k + 1) nodes) d.rest k due next (start + size t) d.count some (sym head ∙ d.list) d.ends at_split at_leaf in
    record { trees = g.trees; rest = d.rest; count = g.count; list = g.nodes; ends = g.ends }

none_due : (trees : List Tree) → length trees ≡ 0 → length (flat_map preorder trees) ≡ 0
none_due [] count = refl
none_due (t ∷ ts) count = absurd (omega (arith, count))

-- where none is due, the tree ends
pub due_none : (nodes : List Node) (start k due : ℕ) → due ≡ 0 → IsDue nodes start k due → (t : Tree) → StandsFrom nodes start t → k ≡ start + size t
due_none nodes start k due none before t stands =
    let d = before t stands in
    omega (arith, d.ends, none_due d.trees (d.count ∙ none))

some_due : (trees : List Tree) (rest : List Node) → 1 ≤ length trees → ¬ ([] ≡ flat_map preorder trees ++ rest)
some_due [] rest some none = absurd (omega (arith, some))
some_due (t ∷ ts) rest some none = some_node t (flat_map preorder ts ++ rest) (none ∙ append_assoc (preorder t) (flat_map preorder ts) rest)

-- where some are due, the list goes on
pub due_past : (nodes : List Node) (start k due : ℕ) → 1 ≤ due → length nodes ≤ k → IsDue nodes start k due → (t : Tree) → ¬ (StandsFrom nodes start t)
due_past nodes start k due some past before t stands =
    let d = before t stands in
    some_due d.trees d.rest (omega (arith, d.count, some)) (sym (drop_all k nodes past) ∙ d.list)
