-- The sine form of a formal point: for an odd function s, as the sine, the sum of c·s(mx+ny) over the terms, written with the directions of one half
-- of the plane.
use Rattle.std.specs.Prelude.{Bool, ◌&&◌, ◌||◌, List, [], ◌∷◌, pos, if◌then◌else◌, int_lt}
use Rattle.std.specs.List.{flat_map}
use Rattle.std.specs.Ordering.{int_eq}
use Rattle.exp_sums.specs.declared.direction.Dir.{Dir}
use Rattle.exp_sums.specs.declared.terms.Term.{Term}
use Rattle.exp_sums.specs.FormalPoint.{FormalPoint, terms, point_of, term_neg, term_conj, dir_neg}

-- m > 0, or m = 0 and n > 0
abbrev pub is_upper : Dir → Bool
is_upper d = int_lt (pos 0) d.m || (int_eq d.m (pos 0) && int_lt (pos 0) d.n)

-- a term itself where its direction is upper, the conjugate with the coefficient negated
-- where that is upper, and nothing at the origin: each leaves c·s(mx+ny) as it was
abbrev pub sine_terms : Term → List Term
sine_terms t = if is_upper t.dir then t ∷ [] else (if is_upper (dir_neg t.dir) then term_neg (term_conj t) ∷ [] else [])

-- that of each term, added up
unfoldable pub sine_form : FormalPoint → FormalPoint
sine_form p = point_of (flat_map sine_terms (terms p))
