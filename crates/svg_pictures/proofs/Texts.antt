-- The texts of numbers as the machine keeps them, and of the elements of a list.
use Rattle.std.proofs.Common.{◌≡◌, ℕ, ◌+◌, ◌<◌, List, [], ◌∷◌, ◌++◌, length, take, get_or, ℤ, sym, ap, ◌∙◌, subst, SFits, w32, w64, to_z, of_z}
use Rattle.std.specs.Fmt.{signed_decimal}
use Rattle.std.specs.Io.KnownBytes.{Appends}
use Rattle.std.specs.List.{flat_map}
use Rattle.std.specs.declared.option.Option.{Option}
use Rattle.std.proofs.KnownBytes.{Appends-trans}
use Rattle.std.proofs.lemmas.Grind.{flat_map-append}
use Rattle.std.proofs.lemmas.Int.{to_z-of_z}
use Rattle.std.proofs.lemmas.List.{append-nil, take_more}
use Rattle.svg_pictures.specs.Svg.{first_line}

-- a text that is that of a number of 64 bits, as it is kept
pub text_of_64 : (digits text : List ℕ) (z : ℤ) → SFits w64 z → digits ≡ text → text ≡ signed_decimal (to_z w64 (of_z w64 z)) → digits ≡ signed_decimal z
text_of_64 digits text z fits same is = same ∙ is ∙ ap (λ (v : ℤ). signed_decimal v) (to_z-of_z w64 z fits)

-- and of 32 bits
pub text_of_32 : (digits text : List ℕ) (z : ℤ) → SFits w32 z → digits ≡ text → text ≡ signed_decimal (to_z w32 (of_z w32 z)) → digits ≡ signed_decimal z
text_of_32 digits text z fits same is = same ∙ is ∙ ap (λ (v : ℤ). signed_decimal v) (to_z-of_z w32 z fits)

-- the text of one more element
pub Appends-next : {A : Type 0} (f : A → List ℕ) (a b c : Option (List ℕ)) (xs : List A) (k : ℕ) (d : A) → k < length xs
    → Appends a b (flat_map f (take k xs)) → Appends b c (f (get_or xs k d)) → Appends a c (flat_map f (take (k + 1) xs))
Appends-next {A} f a b c xs k d within first second =
    let one : flat_map f (get_or xs k d ∷ []) ≡ f (get_or xs k d) = append-nil (f (get_or xs k d)) in
    let all : flat_map f (take (k + 1) xs) ≡ flat_map f (take k xs) ++ f (get_or xs k d) =
    ap (λ (ys : List A). flat_map f ys) (take_more xs k d within) ∙ flat_map-append f (take k xs) (get_or xs k d ∷ [])
    ∙ ap (λ (text : List ℕ). flat_map f (take k xs) ++ text) one
    in
    subst (λ (text : List ℕ). Appends a c text) (sym all) (Appends-trans a b c (flat_map f (take k xs)) (f (get_or xs k d)) first second)

-- a number of 64 bits is what it is kept as
pub kept_as : (z w : ℤ) → SFits w64 z → z ≡ w → to_z w64 (of_z w64 z) ≡ w
kept_as z w fits is = to_z-of_z w64 z fits ∙ is

-- two first lines with the same numbers
pub first_lines : (x x' y y' w w' h h' : ℤ) → x ≡ x' → y ≡ y' → w ≡ w' → h ≡ h' → first_line x y w h ≡ first_line x' y' w' h'
first_lines x x' y y' w w' h h' p q r s =
    ap (λ (z : ℤ). first_line z y w h) p ∙ ap (λ (z : ℤ). first_line x' z w h) q ∙ ap (λ (z : ℤ). first_line x' y' z h) r
    ∙ ap (λ (z : ℤ). first_line x' y' w' z) s
