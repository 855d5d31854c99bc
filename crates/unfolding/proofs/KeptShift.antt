-- The last triangle of a word, beside the first.
use Rattle.std.proofs.Common.{◌≡◌, ℕ, List, [], length, take, slice_index_or, sym, ap, subst, ◌∙◌, arith}
use Rattle.std.proofs.lemmas.List.{take_all}
use Rattle.edge_words.specs.Stable.{IsStable}
use Rattle.edge_words.specs.Word.{IsWord}
use Rattle.unfolding.specs.declared.triangle.Triangle.{Triangle}
use Rattle.unfolding.specs.Triangle.{corner_dir}
use Rattle.unfolding.specs.Shift.{IsShift}
use Rattle.unfolding.specs.Kept.{dirs_of, triangle_of, IsUnfolding}
use Rattle.unfolding.proofs.MirroredDirs.{is_reversed-even, mirrored_from_stable, stable_from_mirrored}
use Rattle.unfolding.proofs.Shifts.{shift_from_stable}
use Rattle.unfolding.proofs.Crossing.{three}
use Rattle.unfolding.proofs.KeptTriangles.{kept_triangle}

-- triangles whose corners are seen from their centres alike
abbrev pub IsAlike : Triangle → Triangle → Type 0
IsAlike t u = (t.minus ≡ u.minus) × (t.dirs ≡ u.dirs)

last_is : (w : List ℕ) (t : Triangle) → t ≡ triangle_of (take (length w) w) → t ≡ triangle_of w
last_is w t is = is ∙ ap triangle_of (take_all (length w) w (omega arith))

-- a stable word brings each direction back
pub alike_from_stable : (w : List ℕ) (t u : Triangle) → IsWord w → t ≡ triangle_of (take (length w) w) → u ≡ triangle_of (take 0 w) → IsStable w → IsAlike t u
alike_from_stable w t u word is first stable =
    let last = last_is w t is in
    let back : (c : ℕ) → _ = λ c. mirrored_from_stable w (corner_dir c) word.letters word.even_length.even stable in (
      ap (λ t. t.minus) last ∙ is_reversed-even w word.even_length.even ∙ sym (ap (λ t. t.minus) first),
      ap (λ t. t.dirs) last ∙ three _ _ _ _ _ _ (back 1) (back 2) (back 3) ∙ sym (ap (λ t. t.dirs) first),
    )

-- and no other word does
pub stable_from_alike : (w : List ℕ) (t u : Triangle) → IsWord w → t ≡ triangle_of (take (length w) w) → u ≡ triangle_of (take 0 w) → IsAlike t u → IsStable w
stable_from_alike w t u word is first alike =
    let dirs : dirs_of w ≡ dirs_of [] = sym (ap (λ t. t.dirs) (last_is w t is)) ∙ alike.1 ∙ ap (λ t. t.dirs) first in
    stable_from_mirrored w (corner_dir 1) word.letters word.even_length.even (ap (λ ds. slice_index_or ds 0 (corner_dir 1)) dirs)

-- the last centre is then the shift
pub centre_is_shift : (w : List ℕ) (t : Triangle) → IsWord w → t ≡ triangle_of (take (length w) w) → IsStable w → IsShift w t.centre
centre_is_shift w t word is stable = subst (IsShift w) (sym (ap (λ t. t.centre) (last_is w t is)))
    (shift_from_stable w word.letters word.even_length.even stable)

-- what the last and the first triangle of what is kept tell
pub record TellsShift (w : List ℕ) (t u : Triangle) : Type 0 where
  pub word : IsWord w
  pub last : t ≡ triangle_of (take (length w) w)
  pub stable : IsAlike t u → IsStable w
  pub alike : IsStable w → IsAlike t u

pub tells_shift : (v w : List ℕ) (ts : List Triangle) (n : ℕ) (t u : Triangle) → v ≡ w → IsUnfolding v ts → n ≡ length v →
    t ≡ slice_index_or ts n t → u ≡ slice_index_or ts 0 u → TellsShift w t u
tells_shift v w ts n t u same h n_is last first =
    let word = subst IsWord same h.word in
    let last_n : t ≡ slice_index_or ts (length w) t = last ∙ ap (λ n. slice_index_or ts n t) (n_is ∙ ap length same) in
    let is = kept_triangle v w ts (length w) t same h (omega arith) last_n in
    let first_is = kept_triangle v w ts 0 u same h (omega arith) first in
    record {
      word = word;
      last = is;
      stable = stable_from_alike w t u word is first_is;
      alike = alike_from_stable w t u word is first_is;
    }
