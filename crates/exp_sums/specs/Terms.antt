-- Lists of terms. A formal point is such a list in its canonical form: the directions rise, and no coefficient is 0.
use Rattle.std.specs.Prelude.{Bool, true, not, ◌&&◌, List, [], ◌∷◌, ℤ, pos, ◌+ℤ◌, if◌then◌else◌}
use Rattle.std.specs.List.{fold}
use Rattle.std.specs.declared.cmp.Ordering.{Ordering}
use Rattle.std.specs.Ordering.{ordering_then, int_cmp, int_eq, is_eq, is_lt, match_ordering}
use Rattle.exp_sums.specs.declared.direction.Dir.{Dir}
use Rattle.exp_sums.specs.declared.terms.Term.{Term}

-- directions are ordered by m, then by n
abbrev pub dir_cmp : Dir → Dir → Ordering
dir_cmp d e = ordering_then (int_cmp d.m e.m) (int_cmp d.n e.n)

abbrev pub is_same_dir : Dir → Dir → Bool
is_same_dir d e = is_eq (dir_cmp d e)

-- the sum of the coefficients that stand at a direction in a list of terms
abbrev pub total_at : Dir → List Term → ℤ
total_at d [] = pos 0
total_at d (t ∷ ts) = (if is_same_dir d t.dir then t.c else pos 0) +ℤ total_at d ts

-- each direction of the list comes after d
abbrev pub is_before_all : Dir → List Term → Bool
is_before_all d [] = true
is_before_all d (t ∷ ts) = is_lt (dir_cmp d t.dir) && is_before_all d ts

-- the directions rise, and no coefficient is 0
abbrev pub is_canonical : List Term → Bool
is_canonical [] = true
is_canonical (t ∷ ts) = not (int_eq t.c (pos 0)) && (is_before_all t.dir ts && is_canonical ts)

-- a term in front of the others, left out where its coefficient is 0
abbrev pub cons_term : Term → List Term → List Term
cons_term t ts = if int_eq t.c (pos 0) then ts else t ∷ ts

-- one more term, at its place
abbrev pub put_term : Term → List Term → List Term
put_term t [] = cons_term t []
put_term t (u ∷ us) =
    match_ordering (dir_cmp t.dir u.dir) (cons_term t (u ∷ us)) (cons_term (record { dir = u.dir; c = t.c +ℤ u.c }) us) (u ∷ put_term t us)

-- the canonical form of a list: one term for each direction whose total is not 0, in order
abbrev pub normal : List Term → List Term
normal [] = []
normal (t ∷ ts) = put_term t (normal ts)

-- further terms, one after another
abbrev pub put_terms : List Term → List Term → List Term
put_terms more ts = fold (λ rs t. put_term t rs) ts more
