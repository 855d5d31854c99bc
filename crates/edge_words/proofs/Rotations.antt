-- Rotations of rotations, and of lists read backwards.
use Rattle.std.proofs.Common.{◌≡◌, ℕ, ◌+◌, ◌-◌, ◌<◌, ◌≤◌, List, [], ◌++◌, reverse, length, take, drop, inl, inr, refl, sym, ◌∙◌, ap, subst, arith}
use Rattle.std.proofs.Common.{append_assoc, length-append}
use Rattle.std.proofs.lemmas.Bool.{cases_lt}
use Rattle.std.proofs.lemmas.List.{append-nil, drop-append-le, drop-drop, drop_at, drop-take, length-reverse, nil_from_length, reverse-append}
use Rattle.std.proofs.lemmas.List.{take-append-drop, take-append-le, take-take, take_at}
use Rattle.edge_words.specs.Canonical.{rotated, IsRotation}

-- two parts change places
pub rotated_swap : (p q : List ℕ) → rotated (length p) (p ++ q) ≡ q ++ p
rotated_swap p q = ap (λ v. v ++ take (length p) (p ++ q)) (drop_at p q (length p) refl) ∙ ap (λ v. q ++ v) (take_at p q (length p) refl)

-- two parts that change places are a rotation, even where the second is empty
pub IsRotation-swap : (p q : List ℕ) → 0 < length (p ++ q) → IsRotation (p ++ q) (q ++ p)
IsRotation-swap p q some =
    elim (cases_lt (length p) (length (p ++ q))) [
      | inl below ↦ (length p, below, sym (rotated_swap p q))
      | inr all ↦
          let none : q ≡ [] = nil_from_length q (omega (arith, length-append p q)) in
          (0, some, ap (λ v. v ++ p) none ∙ sym (append-nil p) ∙ ap (λ v. p ++ v) (sym none) ∙ sym (append-nil (p ++ q)))
    ]

-- the rotations of a list that is not empty, by each number up to its length
pub IsRotation-upto : (w : List ℕ) (by : ℕ) → 0 < length w → IsRotation w (rotated by w)
IsRotation-upto w by some =
    let parts = take-append-drop by w in
    subst (λ v. IsRotation v (rotated by w)) parts (IsRotation-swap (take by w) (drop by w) (omega (arith, some, ap length parts)))

-- the first a letters and b more
take_add : (a b : ℕ) (w : List ℕ) → take a w ++ take b (drop a w) ≡ take (a + b) w
take_add a b w =
    ap (λ v. take a w ++ v) (sym (drop-take a b w)) ∙ ap (λ v. v ++ drop a (take (a + b) w)) (sym (take-take a (a + b) w (omega arith)))
    ∙ take-append-drop a (take (a + b) w)

-- a rotation that ends before the seam of another
rotated_before : (a b : ℕ) (w : List ℕ) → b ≤ length (drop a w) → rotated b (rotated a w) ≡ rotated (a + b) w
rotated_before a b w h =
    ap (λ v. v ++ take b (rotated a w)) (drop-append-le b (drop a w) (take a w) h ∙ ap (λ v. v ++ take a w) (drop-drop b a w))
    ∙ ap (λ v. drop (a + b) w ++ take a w ++ v) (take-append-le b (drop a w) (take a w) h)
    ∙ append_assoc (drop (a + b) w) (take a w) (take b (drop a w)) ∙ ap (λ v. drop (a + b) w ++ v) (take_add a b w)

-- one that goes on behind it
rotated_behind : (m : ℕ) (p q : List ℕ) → m ≤ length p → rotated (length q + m) (q ++ p) ≡ rotated m (p ++ q)
rotated_behind m p q h =
    let rest : drop (length q + m) (q ++ p) ≡ drop m p = sym (drop-drop m (length q) (q ++ p)) ∙ ap (drop m) (drop_at q p (length q) refl) in
    let front : take (length q + m) (q ++ p) ≡ q ++ take m p = sym (take_add (length q) m (q ++ p))
    ∙ ap (λ v. v ++ take m (drop (length q) (q ++ p))) (take_at q p (length q) refl) ∙ ap (λ v. q ++ take m v) (drop_at q p (length q) refl) in
    ap (λ v. v ++ take (length q + m) (q ++ p)) rest ∙ ap (λ v. drop m p ++ v) front ∙ sym (append_assoc (drop m p) q (take m p))
    ∙ ap (λ v. v ++ take m p) (sym (drop-append-le m p q h)) ∙ ap (λ v. drop m (p ++ q) ++ v) (sym (take-append-le m p q h))

-- a rotation of a rotation is a rotation
pub IsRotation-rotation : (w v u : List ℕ) → IsRotation w v → IsRotation v u → IsRotation w u
IsRotation-rotation w v u first second =
    let a = first.0 in
    let b = second.0 in
    let some : 0 < length w = omega (arith, first.1) in
    let again : u ≡ rotated b (rotated a w) = second.2 ∙ ap (rotated b) first.2 in
    elim (cases_lt b (length (drop a w))) [
      | inl before ↦ subst (IsRotation w) (sym (again ∙ rotated_before a b w (omega arith))) (IsRotation-upto w (a + b) some)
      | inr behind ↦
          let m = b - length (drop a w) in
          let short : m ≤ length (take a w) = omega (arith, second.1, ap length first.2, length-append (drop a w) (take a w)) in
          let whole : length (drop a w) + m ≡ b = omega arith in
          let turned : rotated b (rotated a w) ≡ rotated m w = ap (λ n. rotated n (rotated a w)) (sym whole)
          ∙ rotated_behind m (take a w) (drop a w) short ∙ ap (rotated m) (take-append-drop a w) in
          subst (IsRotation w) (sym (again ∙ turned)) (IsRotation-upto w m some)
    ]

-- what is a rotation of a list has it as a rotation
pub IsRotation-back : (w v : List ℕ) → IsRotation w v → IsRotation v w
IsRotation-back w v turn =
    let a = turn.0 in
    let parts = take-append-drop a w in
    let some : 0 < length (drop a w
    ++ take a w) = omega (arith, turn.1, length-append (drop a w) (take a w), ap length parts, length-append (take a w) (drop a w)) in
    subst (λ u. IsRotation u w) (sym turn.2) (subst (IsRotation (rotated a w)) parts (IsRotation-swap (drop a w) (take a w) some))

-- a rotation read backwards is a rotation of the list read backwards
pub IsRotation-reverse : (w v : List ℕ) → IsRotation w v → IsRotation (reverse w) (reverse v)
IsRotation-reverse w v turn =
    let a = turn.0 in
    let parts : reverse (drop a w) ++ reverse (take a w) ≡ reverse w = sym (reverse-append (take a w) (drop a w)) ∙ ap reverse (take-append-drop a w) in
    let turned : reverse v ≡ reverse (take a w) ++ reverse (drop a w) = ap reverse turn.2 ∙ reverse-append (drop a w) (take a w) in
    let some : 0 < length (reverse (drop a w) ++ reverse (take a w)) = omega (arith, turn.1, ap length parts, length-reverse w) in
    subst (IsRotation (reverse w)) (sym turned) (subst (λ u. IsRotation u (reverse (take a w) ++ reverse (drop a w))) parts
    (IsRotation-swap (reverse (drop a w)) (reverse (take a w)) some))
