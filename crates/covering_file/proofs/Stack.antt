-- The stack of a walk, as its last box gives its next child.
use Rattle.std.proofs.Common.{◌≡◌, ℕ, zero, suc, ◌+◌, ◌<◌, ◌≤◌, List, [], ◌∷◌, ◌++◌, drop, reverse, refl, sym, ap, ◌∙◌, subst, arith}
use Rattle.std.proofs.lemmas.List.{reverse-append}
use Rattle.rational_polygon.specs.Square.{Square, child}
use Rattle.covering_file.specs.declared.walk.Level.{Level}
use Rattle.covering_file.specs.DueBoxes.{children}
use Rattle.covering_file.specs.Walk.{children_to_come, AreBegun}

next_child : (box : Square) (n : ℕ) → n < 4 → drop n (children box) ≡ child box n ∷ drop (n + 1) (children box)
next_child box zero less = refl
next_child box (suc zero) less = refl
next_child box (suc (suc zero)) less = refl
next_child box (suc (suc (suc zero))) less = refl
next_child box (suc (suc (suc (suc n)))) less = absurd (omega (arith, less))

last_first : (rest : List Level) (level : Level)
    → children_to_come (reverse (rest ++ level ∷ [])) ≡ drop level.next (children level.place) ++ children_to_come (reverse rest)
last_first rest level = ap (λ (levels : List Level). children_to_come levels) (reverse-append rest (level ∷ []))

-- the last begun box has another child after this one
pub child_taken : (old rest new : List Level) (level : Level) (next : Square) → level.next < 3 → old ≡ rest ++ level ∷ []
    → new ≡ rest ++ record level { next = level.next + 1 } ∷ [] → next ≡ child level.place level.next
    → next ∷ children_to_come (reverse new) ≡ children_to_come (reverse old)
child_taken old rest new level next less was now is =
    ap (λ (box : Square). box ∷ children_to_come (reverse new)) is
    ∙ ap (λ (levels : List Level). child level.place level.next ∷ children_to_come (reverse levels)) now
    ∙ ap (λ (boxes : List Square). child level.place level.next ∷ boxes) (last_first rest (record level { next = level.next + 1 }))
    ∙ ap (λ (boxes : List Square). boxes ++ children_to_come (reverse rest)) (sym (next_child level.place level.next (omega (arith, less))))
    ∙ sym (last_first rest level)
    ∙ ap (λ (levels : List Level). children_to_come (reverse levels)) (sym was)

begun_last : (rest : List Level) (level : Level) → AreBegun (reverse (rest ++ level ∷ [])) → level.next < 4
begun_last rest level begun = (subst AreBegun (reverse-append rest (level ∷ [])) begun).0

last_child : (box : Square) (n : ℕ) → n ≡ 3 → drop (n + 1) (children box) ≡ []
last_child box n is = ap (λ k. drop (k + 1) (children box)) is

-- this was its last
pub last_child_taken : (old rest new : List Level) (level : Level) (next : Square) → AreBegun (reverse old) → 3 ≤ level.next
    → old ≡ rest ++ level ∷ [] → new ≡ rest → next ≡ child level.place level.next
    → next ∷ children_to_come (reverse new) ≡ children_to_come (reverse old)
last_child_taken old rest new level next begun last was now is =
    let less = begun_last rest level (subst (λ (levels : List Level). AreBegun (reverse levels)) was begun) in
    ap (λ (box : Square). box ∷ children_to_come (reverse new)) is
    ∙ ap (λ (levels : List Level). child level.place level.next ∷ children_to_come (reverse levels)) now
    ∙ ap (λ (boxes : List Square). child level.place level.next ∷ (boxes ++ children_to_come (reverse rest)))
    (sym (last_child level.place level.next (omega (arith, less, last))))
    ∙ ap (λ (boxes : List Square). boxes ++ children_to_come (reverse rest)) (sym (next_child level.place level.next less))
    ∙ sym (last_first rest level)
    ∙ ap (λ (levels : List Level). children_to_come (reverse levels)) (sym was)
