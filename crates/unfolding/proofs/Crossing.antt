-- The directions of the corners after one more crossing.
use Rattle.std.proofs.Common.{◌≡◌, ℕ, List, [], ◌∷◌, ◌++◌, slice_index_or, ◌+ℤ◌, ◌-ℤ◌, sym, subst, arith}
use Rattle.std.proofs.lemmas.Int.{ints}
use Rattle.std.proofs.lemmas.List.Elements.{All-nil, All-cons}
use Rattle.std.specs.List.{All}
use Rattle.exp_sums.specs.declared.direction.Dir.{Dir}
use Rattle.exp_sums.specs.Limits.{IsNear}
use Rattle.unfolding.specs.Triangle.{next_corner, corner_dir}
use Rattle.unfolding.specs.Walk.{mirrored_dir}
use Rattle.unfolding.specs.Kept.{dirs_of}
use Rattle.unfolding.proofs.MirroredDirs.{same_dir, mirrored_dir-snoc-m, mirrored_dir-snoc-n}

-- x is where the mirror in the edge from p to q takes r
pub record IsImage (p q r x : Dir) : Type 0 where
  pub m : x.m ≡ p.m +ℤ q.m -ℤ r.m
  pub n : x.n ≡ p.n +ℤ q.n -ℤ r.n

-- the image of a direction in edge d is the direction after one more letter d
image_is : (w : List ℕ) (d : ℕ) (e x : Dir) → IsImage (mirrored_dir w (corner_dir (next_corner d))) (mirrored_dir w
    (corner_dir (next_corner (next_corner d)))) (mirrored_dir w e) x → x ≡ mirrored_dir (w ++ d ∷ []) e
image_is w d e x h =
    same_dir x (mirrored_dir (w ++ d ∷ []) e) (omega (arith, ints, h.m, mirrored_dir-snoc-m w d e)) (omega (arith, ints, h.n, mirrored_dir-snoc-n w d e))

-- the ends of the edge change places
image_of_start : (p q : Dir) → IsImage p q p q
image_of_start p q = record { m = omega (arith, ints); n = omega (arith, ints) }

image_of_end : (p q : Dir) → IsImage p q q p
image_of_end p q = record { m = omega (arith, ints); n = omega (arith, ints) }

-- lists of three with equal entries
pub three : {A : Type 0} (a b c a' b' c' : A) → a ≡ a' → b ≡ b' → c ≡ c' → a ∷ b ∷ c ∷ [] ≡ a' ∷ b' ∷ c' ∷ []
three a b c a' b' c' e f g = λ i. e i ∷ f i ∷ g i ∷ []

abbrev at_index : List Dir → ℕ → Dir → Dir
at_index ds i z = slice_index_or ds i z

-- over edge 1, 2 and 3
pub crossed_1 : (w : List ℕ) (ds : List Dir) (x z : Dir) → ds ≡ dirs_of w → IsImage (at_index ds 1 z) (at_index ds 2 z) (at_index ds 0 z) x →
    x ∷ at_index ds 2 z ∷ at_index ds 1 z ∷ [] ≡ dirs_of (w ++ 1 ∷ [])
crossed_1 w ds x z same =
    subst (λ (es : List Dir). IsImage (at_index es 1 z) (at_index es 2 z) (at_index es 0 z) x
    → x ∷ at_index es 2 z ∷ at_index es 1 z ∷ [] ≡ dirs_of (w ++ 1 ∷ []))
    (sym same)
    (λ h. three _ _ _ _ _ _
    (image_is w 1 (corner_dir 1) x h)
    (image_is w 1 (corner_dir 2) _ (image_of_start _ _))
    (image_is w 1 (corner_dir 3) _ (image_of_end _ _)))

pub crossed_2 : (w : List ℕ) (ds : List Dir) (x z : Dir) → ds ≡ dirs_of w → IsImage (at_index ds 2 z) (at_index ds 0 z) (at_index ds 1 z) x →
    at_index ds 2 z ∷ x ∷ at_index ds 0 z ∷ [] ≡ dirs_of (w ++ 2 ∷ [])
crossed_2 w ds x z same =
    subst (λ (es : List Dir). IsImage (at_index es 2 z) (at_index es 0 z) (at_index es 1 z) x
    → at_index es 2 z ∷ x ∷ at_index es 0 z ∷ [] ≡ dirs_of (w ++ 2 ∷ []))
    (sym same)
    (λ h. three _ _ _ _ _ _
    (image_is w 2 (corner_dir 1) _ (image_of_end _ _))
    (image_is w 2 (corner_dir 2) x h)
    (image_is w 2 (corner_dir 3) _ (image_of_start _ _)))

pub crossed_3 : (w : List ℕ) (ds : List Dir) (x z : Dir) → ds ≡ dirs_of w → IsImage (at_index ds 0 z) (at_index ds 1 z) (at_index ds 2 z) x →
    at_index ds 1 z ∷ at_index ds 0 z ∷ x ∷ [] ≡ dirs_of (w ++ 3 ∷ [])
crossed_3 w ds x z same =
    subst (λ (es : List Dir). IsImage (at_index es 0 z) (at_index es 1 z) (at_index es 2 z) x
    → at_index es 1 z ∷ at_index es 0 z ∷ x ∷ [] ≡ dirs_of (w ++ 3 ∷ []))
    (sym same)
    (λ h. three _ _ _ _ _ _
    (image_is w 3 (corner_dir 1) _ (image_of_start _ _))
    (image_is w 3 (corner_dir 2) _ (image_of_end _ _))
    (image_is w 3 (corner_dir 3) x h))

-- a direction that was near is not far
weaker : (d : Dir) → IsNear 65 d → IsNear 195 d
weaker d h = record { m = omega (arith, h.m); n = omega (arith, h.n) }

-- what holds of three
pub All-three : {X : Type 0} (P : X → Type 0) (a b c : X) → P a → P b → P c → All P (a ∷ b ∷ c ∷ [])
All-three P a b c h k l = All-cons P a (b ∷ c ∷ []) h (All-cons P b (c ∷ []) k (All-cons P c [] l (All-nil P)))

-- an image beside two directions that were near
pub near_first : (a b c : Dir) → IsNear 195 a → IsNear 65 b → IsNear 65 c → All (IsNear 195) (a ∷ b ∷ c ∷ [])
near_first a b c h k l = All-three (IsNear 195) a b c h (weaker b k) (weaker c l)

pub near_second : (a b c : Dir) → IsNear 65 a → IsNear 195 b → IsNear 65 c → All (IsNear 195) (a ∷ b ∷ c ∷ [])
near_second a b c h k l = All-three (IsNear 195) a b c (weaker a h) k (weaker c l)

pub near_third : (a b c : Dir) → IsNear 65 a → IsNear 65 b → IsNear 195 c → All (IsNear 195) (a ∷ b ∷ c ∷ [])
near_third a b c h k l = All-three (IsNear 195) a b c (weaker a h) (weaker b k) l
