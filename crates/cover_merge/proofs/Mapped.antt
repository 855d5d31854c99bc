-- A list, each of whose elements is the image of another list's.
use Rattle.std.proofs.Common.{◌≡◌, refl, ap, ◌∙◌, ℕ, suc, ◌<◌, List, [], ◌∷◌, map, length, get_or, arith}

pub each_is_mapped : {A : Type 0} (f : A → A) (xs ys : List A) → length xs ≡ length ys
    → ((k : ℕ) (d : A) → k < length ys → get_or xs k d ≡ f (get_or ys k d)) → xs ≡ map f ys
each_is_mapped f [] [] count each = refl
each_is_mapped f [] (y ∷ ys) count each = absurd (omega (arith, count))
each_is_mapped f (x ∷ xs) [] count each = absurd (omega (arith, count))
each_is_mapped {A} f (x ∷ xs) (y ∷ ys) count each =
    ap (λ (z : A). z ∷ xs) (each 0 x (omega arith))
    ∙ ap (λ (zs : List A). f y ∷ zs) (each_is_mapped f xs ys (omega (arith, count)) (λ k d less. each (suc k) d (omega (arith, less))))
