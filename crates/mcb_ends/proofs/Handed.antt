-- Bytes that are copied from a list to the front of a buffer.
use Rattle.std.proofs.Common.{◌≡◌, ℕ, ◌+◌, ◌≤◌, List, ◌++◌, length, take, drop, sym, ap, ◌∙◌, take-append-drop}
use Rattle.std.proofs.Math.Seq.{take-append_seam}
use Rattle.std.proofs.lemmas.List.{drop-drop, length-take-le}

-- what is left, split behind the copied bytes
pub left_is_handed : (bytes copied behind : List ℕ) (at count : ℕ) → copied ≡ take count (drop at bytes) → count ≤ length (drop at bytes)
    → drop at bytes ≡ take count (copied ++ behind) ++ drop (at + count) bytes
left_is_handed bytes copied behind at count copy fits =
    let size : length copied ≡ count = ap length copy ∙ length-take-le count (drop at bytes) fits in
    let front : take count (copied ++ behind) ≡ take count (drop at bytes) = ap (λ n. take n (copied ++ behind)) (sym size)
    ∙ take-append_seam copied behind ∙ copy in
    rw (front, ← drop-drop count at bytes) (sym (take-append-drop count (drop at bytes)))
