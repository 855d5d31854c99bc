-- Lines that stand at the front of bytes.
use Rattle.std.proofs.Common.{◌≡◌, ℕ, List, [], ◌∷◌, ◌++◌, length, get_or, refl, ap, ◌∙◌, subst, arith, length-append, append_assoc, append-nil}
use Rattle.std.proofs.Math.Seq.{get_or-append_seam}
use Rattle.std.proofs.lemmas.Grind.{flat_map-append}
use Rattle.mcb_ends.specs.Lines.{Text, newline}
use Rattle.mcb_ends.specs.Lines as next
use Rattle.mcb_ends.proofs.OneNext.{IsNext-unique}
use Rattle.line_grammar.specs.declared.reason.Reason.{Reason}
use Rattle.line_grammar.specs.declared.reason.Reason.TheVariants.{TooLong, Ends}
use Rattle.line_grammar.specs.Offence.{IsTooLong, EndsEarly, HaveReason}
use Rattle.line_grammar.specs.Text.{with_newline, text_of, BeginsWith}

-- bytes begin with one line
pub line_is_one : (bytes line other : List ℕ) → BeginsWith bytes line → BeginsWith bytes other → line ≡ other
line_is_one bytes line other begins begins' =
    let same = (IsNext-unique bytes (Text line) (Text other) begins.0 begins'.0 begins.1 begins'.1).0 in
    cc

-- and with no long one
pub not_too_long : (bytes line : List ℕ) → BeginsWith bytes line → ¬ IsTooLong bytes
not_too_long bytes line begins long =
    let same = (IsNext-unique bytes (Text line) next.TooLong begins.0 [] begins.1 (long.long, long.unbroken, refl)).0 in
    cc

-- and do not end early
pub not_early : (bytes line : List ℕ) → BeginsWith bytes line → ¬ EndsEarly bytes
not_early bytes line begins none =
    let is = begins.1.1 in
    let at : get_or bytes (length line) 0 ≡ newline = ap (λ (xs : List ℕ). get_or xs (length line) 0) is ∙ get_or-append_seam line newline begins.0 0 in
    none (length line) 0 (omega (arith, ap length is, length-append line (newline ∷ begins.0))) at

-- where they begin with a line that has no reason, they have none
pub no_reason : (line_has : List ℕ → Reason → Type 0) (bytes line : List ℕ) → BeginsWith bytes line → ((r : Reason) → ¬ (line_has line r))
    → (r : Reason) → ¬ (HaveReason line_has bytes r)
no_reason line_has bytes line begins lacks TooLong has = not_too_long bytes line begins has
no_reason line_has bytes line begins lacks Ends has = not_early bytes line begins has
no_reason line_has bytes line begins lacks r has = lacks r (subst (λ (l : List ℕ). line_has l r) (line_is_one bytes has.0 line has.1 begins) has.2)

pub text_of-append : (xs ys : List (List ℕ)) → text_of (xs ++ ys) ≡ text_of xs ++ text_of ys
text_of-append xs ys = flat_map-append with_newline xs ys

-- the text of two lists of lines, and what stands after it
pub text_of-after : (xs ys : List (List ℕ)) (rest : List ℕ) → text_of (xs ++ ys) ++ rest ≡ text_of xs ++ (text_of ys ++ rest)
text_of-after xs ys rest = ap (λ (zs : List ℕ). zs ++ rest) (text_of-append xs ys) ∙ append_assoc (text_of xs) (text_of ys) rest

-- one line, and what stands after it
pub text_of_one : (line rest : List ℕ) → text_of (line ∷ []) ++ rest ≡ line ++ newline ∷ rest
text_of_one line rest =
    ap (λ (zs : List ℕ). zs ++ rest) (append-nil (with_newline line)) ∙ append_assoc line (newline ∷ []) rest
