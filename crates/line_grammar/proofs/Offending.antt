-- The least reasons of lines are those of the bytes that begin with them.
use Rattle.std.proofs.Common.{◌≡◌, ◌⊎◌, ℕ, ◌<◌, List, refl, ap, subst, arith, inl, inr}
use Rattle.std.proofs.lemmas.Bool.{cases_lt}
use Rattle.line_grammar.specs.declared.reason.Reason.{Reason}
use Rattle.line_grammar.specs.declared.reason.Reason.TheVariants.{TooLong, Ends, OtherLine, Number, CornerOutside, NotConvex}
use Rattle.line_grammar.specs.declared.reason.Reason.TheVariants.{NotAWord, UnstableWord, SplitTooDeep, NotApart, NotShown}
use Rattle.line_grammar.specs.declared.reason.Reason.TheVariants.{Uncovered, EndLine, TooMany, TooShallow}
use Rattle.line_grammar.specs.Form.{LineForm, IsForm}
use Rattle.line_grammar.specs.Offence.{number_of, IsTooLong, EndsEarly, HaveReason, LackReason, IsLeast}
use Rattle.line_grammar.specs.Text.{BeginsWith}
use Rattle.line_grammar.proofs.FrontLines.{line_is_one, not_too_long, not_early}

-- ---- from a line to bytes

have_at : (has : List ℕ → Reason → Type 0) (bytes line : List ℕ) (r : Reason) → BeginsWith bytes line → 2 < number_of r → has line r
    → HaveReason has bytes r
have_at has bytes line TooLong begins late here = absurd (omega (arith, late))
have_at has bytes line Ends begins late here = absurd (omega (arith, late))
have_at has bytes line r begins late here = (line, begins, here)

lack_at : (lacks : List ℕ → Reason → Type 0) (bytes line : List ℕ) (r : Reason) → BeginsWith bytes line
    → (2 < number_of r → lacks line r) → LackReason lacks bytes r
lack_at lacks bytes line TooLong begins free = not_too_long bytes line begins
lack_at lacks bytes line Ends begins free = not_early bytes line begins
lack_at lacks bytes line r begins free = λ other begins'. subst (λ (l : List ℕ). lacks l r) (line_is_one bytes line other begins begins') (free (omega arith))

-- a line with a reason, which lacks each lesser one that a whole line may have
pub least_at : (has lacks : List ℕ → Reason → Type 0) (bytes line : List ℕ) (r : Reason) → BeginsWith bytes line → 2 < number_of r → has line r
    → ((s : Reason) → 2 < number_of s → number_of s < number_of r → lacks line s) → IsLeast (HaveReason has bytes) (LackReason lacks bytes) r
least_at has lacks bytes line r begins late here lesser = record {
  holds = have_at has bytes line r begins late here;
  none_less = λ s less. lack_at lacks bytes line s begins (λ above. lesser s above less);
}

none_below_one : (lacks : Reason → Type 0) (r : Reason) → number_of r < 1 → lacks r
none_below_one lacks TooLong less = absurd (omega (arith, less))
none_below_one lacks r less = absurd (omega (arith, less))

one_below_two : (lacks : Reason → Type 0) (r : Reason) → lacks TooLong → number_of r < 2 → lacks r
one_below_two lacks TooLong first less = first
one_below_two lacks r first less = absurd (omega (arith, less))

pub long_least : (has lacks : List ℕ → Reason → Type 0) (bytes : List ℕ) → IsTooLong bytes → IsLeast (HaveReason has bytes) (LackReason lacks bytes) TooLong
long_least has lacks bytes long = record { holds = long; none_less = none_below_one (LackReason lacks bytes) }

pub early_least : (has lacks : List ℕ → Reason → Type 0) (bytes : List ℕ) → ¬ IsTooLong bytes → EndsEarly bytes
    → IsLeast (HaveReason has bytes) (LackReason lacks bytes) Ends
early_least has lacks bytes short early = record { holds = early; none_less = λ r less. one_below_two (LackReason lacks bytes) r short less }

-- what a form refuses
pub refused_least : {V : Type 0} (form : LineForm V) (bytes line : List ℕ) (r : Reason) → IsForm form → BeginsWith bytes line → form.Refuses line r
    → IsLeast (HaveReason form.Refuses bytes) (LackReason (λ l s. ¬ (form.Refuses l s)) bytes) r
refused_least form bytes line r is begins refuses =
    least_at form.Refuses (λ l s. ¬ (form.Refuses l s)) bytes line r begins (is.whole line r refuses) refuses
    (λ s late less refuses'. let same = is.one_reason line s r refuses' refuses in omega (arith, less, ap number_of same))

-- ---- one least reason

one_number_of : (r s : Reason) → number_of r ≡ number_of s → r ≡ s
one_number_of TooLong TooLong is = refl
one_number_of Ends Ends is = refl
one_number_of OtherLine OtherLine is = refl
one_number_of Number Number is = refl
one_number_of CornerOutside CornerOutside is = refl
one_number_of NotConvex NotConvex is = refl
one_number_of NotAWord NotAWord is = refl
one_number_of UnstableWord UnstableWord is = refl
one_number_of SplitTooDeep SplitTooDeep is = refl
one_number_of NotApart NotApart is = refl
one_number_of NotShown NotShown is = refl
one_number_of Uncovered Uncovered is = refl
one_number_of EndLine EndLine is = refl
one_number_of TooMany TooMany is = refl
one_number_of TooShallow TooShallow is = refl
one_number_of r s is = absurd (omega (arith, is))

-- two least reasons are one, or else this follows from a reason that is there and is not
pub least_differ : (Between : Type 0) (has lacks : Reason → Type 0) → ((r : Reason) → has r → lacks r → Between) → (r s : Reason) → IsLeast has lacks r
    → IsLeast has lacks s → (r ≡ s) ⊎ Between
least_differ Between has lacks apart r s p q =
    elim (cases_lt (number_of r) (number_of s)) [
      | inl less ↦ inr (apart r p.holds (q.none_less r less))
      | inr within ↦ elim (cases_lt (number_of s) (number_of r)) [
        | inl less ↦ inr (apart s q.holds (p.none_less s less))
        | inr both ↦ inl (one_number_of r s (omega (arith, within, both)))
      ]
    ]

pub least_is_one : (has lacks : Reason → Type 0) → ((r : Reason) → has r → lacks r → ⊥) → (r s : Reason) → IsLeast has lacks r → IsLeast has lacks s → r ≡ s
least_is_one has lacks apart r s p q = elim (least_differ ⊥ has lacks apart r s p q) [ inl same ↦ same | inr never ↦ absurd never ]

pub bytes_apart : (has : List ℕ → Reason → Type 0) (bytes : List ℕ) (r : Reason) → HaveReason has bytes r
    → LackReason (λ line s. ¬ (has line s)) bytes r → ⊥
bytes_apart has bytes TooLong is not = not is
bytes_apart has bytes Ends is not = not is
bytes_apart has bytes r is not = not is.0 is.1 is.2
