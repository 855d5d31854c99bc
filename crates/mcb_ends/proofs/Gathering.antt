-- Bytes that are gathered, and passed on from the front.
use Rattle.std.proofs.Common.{◌≡◌, ℕ, ◌-◌, ◌≤◌, List, ◌++◌, length, take, drop, Some, None, Ok, Err, OnOk, sym, ap, ◌∙◌, subst, arith}
use Rattle.std.proofs.Common.{take-append-drop, append_assoc, length-append}
use Rattle.std.proofs.lemmas.List.{append_cancel_left, drop-take, take-append-le}
use Rattle.std.proofs.Math.Seq.{take-length, take-append_seam}
use Rattle.std.proofs.Transfers.{starts_with_length}
use Rattle.std.proofs.KnownBytes.{starts_with_rest, Appends-kept}
use Rattle.std.specs.Io.KnownBytes.{Appends, Keeps, append_known}
use Rattle.std.specs.List.{slice_range, copy_within}
use Rattle.std.specs.declared.option.Option.{Option}
use Rattle.std.specs.declared.result.Result.{Result}
use Rattle.mcb_ends.specs.Bytes.{AppendsPrefix, HasGrown, Writes}
use Rattle.mcb_ends.proofs.Ranges.{take-copy_within}
use Rattle.mcb_ends.proofs.Written.{AppendsPrefix-begun}

-- what was passed on, and then what is left at the front
pub passed_split : (bytes copied : List ℕ) (n len : ℕ) → n ≤ len → len ≤ length bytes → copied ≡ copy_within bytes n len 0
    → take len bytes ≡ take n (take len bytes) ++ take (len - n) copied
passed_split bytes copied n len order within copy =
    let front = take n (take len bytes) in
    let rest : drop n (take len bytes) ≡ slice_range bytes n len =
    ap (λ k. drop n (take k bytes)) (omega arith) ∙ drop-take n (len - n) bytes in
    let left : take (len - n) copied ≡ slice_range bytes n len =
    ap (λ (xs : List ℕ). take (len - n) xs) copy ∙ take-copy_within bytes n len order within in
    sym (take-append-drop n (take len bytes)) ∙ ap (λ (xs : List ℕ). front ++ xs) (rest ∙ sym left)

-- they grow further
pub HasGrown-appends : (a b c : Option (List ℕ)) (bytes : List ℕ) → HasGrown a b → Appends b c bytes → HasGrown a c
HasGrown-appends None b c bytes grown more = tt
HasGrown-appends (Some xs) None c bytes grown more = absurd grown
HasGrown-appends (Some xs) (Some ys) None bytes grown more = absurd more
HasGrown-appends (Some xs) (Some ys) (Some zs) bytes grown more =
    ap (λ (all : List ℕ). take (length xs) all) more ∙ take-append-le (length xs) ys bytes (starts_with_length ys xs grown) ∙ grown

-- what was passed on of a text whose rest is held
Appends-sent : (old new : Option (List ℕ)) (held text : List ℕ) → HasGrown old new → Appends old (append_known new held) text
    → AppendsPrefix old new text
Appends-sent None new held text grown written = (0, omega arith, tt)
Appends-sent (Some xs) None held text grown written = absurd grown
Appends-sent (Some xs) (Some ys) held text grown written =
    let sent = drop (length xs) ys in
    let is : ys ≡ xs ++ sent = starts_with_rest ys xs grown in
    let whole : sent ++ held ≡ text =
    append_cancel_left xs (sent ++ held) text (sym (append_assoc xs sent held) ∙ ap (λ (bytes : List ℕ). bytes ++ held) (sym is) ∙ written) in
    let front : take (length sent) text ≡ sent = ap (λ (bytes : List ℕ). take (length sent) bytes) (sym whole) ∙ take-append_seam sent held in
    let within : length sent ≤ length text = omega (arith, ap length whole, length-append sent held) in
    (length sent, within, is ∙ ap (λ (bytes : List ℕ). xs ++ bytes) (sym front))

-- a prefix of a prefix
pub AppendsPrefix-more : (old new : Option (List ℕ)) (text : List ℕ) (n : ℕ) → AppendsPrefix old new (take n text) → AppendsPrefix old new text
AppendsPrefix-more old new text n begun =
    subst (λ (bytes : List ℕ). AppendsPrefix old new bytes) (take-append-drop n text)
    (AppendsPrefix-begun old new (take n text) (drop n text) begun)

-- what was passed on in the end: all of a text, or a prefix of it
pub Writes-sent : {T E : Type 0} (old mid new : Option (List ℕ)) (held text : List ℕ) (result : Result T E) → HasGrown old new
    → Keeps mid (append_known new held) → OnOk result (Keeps mid new) → Appends old mid text → Writes old new result text
Writes-sent old mid new held text (Ok value) grown kept all written = Appends-kept old mid new text written all
Writes-sent old mid new held text (Err fault) grown kept all written =
    Appends-sent old new held text grown (Appends-kept old mid (append_known new held) text written kept)

-- where only a prefix was written before, a prefix was passed on
pub AppendsPrefix-written : {T E : Type 0} (old new : Option (List ℕ)) (text : List ℕ) (n : ℕ) (result : Result T E)
    → Writes old new result (take n text) → AppendsPrefix old new text
AppendsPrefix-written old new text n (Ok value) written = AppendsPrefix-more old new text n (length (take n text), omega arith, rw take-length written)
AppendsPrefix-written old new text n (Err fault) begun = AppendsPrefix-more old new text n begun
