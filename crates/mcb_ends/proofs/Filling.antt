-- A buffer that is filled from a source behind what it holds.
use Rattle.std.proofs.Common.{◌≡◌, ℕ, ◌+◌, ◌-◌, ◌≤◌, List, ◌++◌, length, take, drop, ap, ◌∙◌, arith}
use Rattle.std.proofs.Math.Seq.{take-add}
use Rattle.std.proofs.lemmas.List.{length-take-le, length-drop}
use Rattle.std.specs.Io.KnownBytes.{Consumes, IsAtEnd}
use Rattle.std.specs.List.{slice_range, copy_within}
use Rattle.std.specs.declared.option.Option.{Option}
use Rattle.mcb_ends.specs.Advance.{Fills}
use Rattle.mcb_ends.proofs.Ranges.{take-copy_within}

-- the held bytes were copied to the front, and n bytes were read behind them
pub Fills-read : (held bytes copied filled : List ℕ) (from to n : ℕ) (left left' : Option (List ℕ)) → slice_range bytes from to ≡ held → from ≤ to
    → to ≤ length bytes → copied ≡ copy_within bytes from to 0 → take (to - from) filled ≡ take (to - from) copied → to - from + n ≤ length filled
    → Consumes left left' (take n (drop (to - from) filled)) → (n ≡ 0 → IsAtEnd left') → Fills held (slice_range filled 0 (to - from + n)) left left' n
Fills-read held bytes copied filled from to n left left' is order within copy front fits taken end =
    let len = to - from in
    let more = take n (drop len filled) in
    let kept : take len filled ≡ held = front ∙ ap (λ (xs : List ℕ). take len xs) copy ∙ take-copy_within bytes from to order within ∙ is in
    record {
      more = more;
      count = length-take-le n (drop len filled) (omega (arith, length-drop len filled));
      held = ap (λ k. take k filled) (omega arith) ∙ take-add len n filled ∙ ap (λ (xs : List ℕ). xs ++ more) kept;
      source = taken;
      end = end;
    }
