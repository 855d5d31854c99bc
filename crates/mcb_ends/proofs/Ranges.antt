-- Parts of a buffer.
use Rattle.std.proofs.Common.{◌≡◌, ℕ, ◌+◌, ◌-◌, ◌≤◌, List, ◌++◌, length, take, drop, sym, ap, ◌∙◌, arith}
use Rattle.std.proofs.Math.Seq.{take-append_seam}
use Rattle.std.proofs.lemmas.List.{drop-drop, drop-take, length-take-le, length-drop}
use Rattle.std.specs.List.{slice_range, copy_within}

-- a part without its first n bytes
pub drop-slice_range : (bytes : List ℕ) (from to n at : ℕ) → at ≡ from + n → at ≤ to → drop n (slice_range bytes from to) ≡ slice_range bytes at to
drop-slice_range bytes from to n at is within =
    let size : to - from ≡ n + (to - at) = omega arith in
    ap (λ k. drop n (take k (drop from bytes))) size ∙ drop-take n (to - at) (drop from bytes)
    ∙ ap (λ (xs : List ℕ). take (to - at) xs) (drop-drop n from bytes ∙ ap (λ k. drop k bytes) (sym is))

-- a part that was copied to the front stands there
pub take-copy_within : (bytes : List ℕ) (from to : ℕ) → from ≤ to → to ≤ length bytes
    → take (to - from) (copy_within bytes from to 0) ≡ slice_range bytes from to
take-copy_within bytes from to order within =
    let part = slice_range bytes from to in
    let size : length part ≡ to - from = length-take-le (to - from) (drop from bytes) (omega (arith, length-drop from bytes)) in
    let front : take (length part) (part ++ drop (0 + (to - from)) bytes) ≡ part = take-append_seam part (drop (0 + (to - from)) bytes) in
    ap (λ k. take k (copy_within bytes from to 0)) (sym size) ∙ front
