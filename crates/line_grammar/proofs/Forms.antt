-- The general forms read each line in one way.
use Rattle.std.proofs.Common.{◌≡◌, ℕ, ◌≤◌, ◌<◌, ◌^◌, List, decimal, refl, sym, ◌∙◌, subst, arith}
use Rattle.mcb_ends.specs.Lines.{IsShortLine}
use Rattle.line_grammar.specs.declared.reason.Reason.{Reason}
use Rattle.line_grammar.specs.declared.reason.Reason.TheVariants.{OtherLine, Number}
use Rattle.line_grammar.specs.Form.{IsForm, IsName, whole_line, numbered_line, RefusesNumber}
use Rattle.line_grammar.specs.Offence.{number_of}
use Rattle.line_grammar.specs.Text.{named_line}
use Rattle.line_grammar.proofs.Lines.{decimal-no_space, two_fields-short, one_number}

pub whole_is_form : (text : List ℕ) (refusal : Reason) → IsShortLine text → 2 < number_of refusal → IsForm (whole_line text refusal)
whole_is_form text refusal short late = record {
  short = λ v says. short;
  one_value = λ v w p q is. refl;
  passes = λ v r says refuses. refuses.0 refl;
  one_reason = λ line r s p q. p.1 ∙ sym q.1;
  whole = λ line r p. subst (λ (s : Reason). 2 < number_of s) (sym p.1) late;
}

number_passes : (name : List ℕ) (low high n : ℕ) (r : Reason) → IsName name → low ≤ n → n ≤ high → ¬ (RefusesNumber name low high (named_line name n) r)
number_passes name low high n OtherLine is at_least at_most refuses =
    refuses (decimal n, record { is = refl; first_field = is.one_field; second_field = decimal-no_space n })
number_passes name low high n Number is at_least at_most refuses = refuses.1 (n, at_least, at_most, refl)
number_passes name low high n r is at_least at_most refuses = refuses

number_reason : (name : List ℕ) (low high : ℕ) (line : List ℕ) (r s : Reason) → RefusesNumber name low high line r
    → RefusesNumber name low high line s → r ≡ s
number_reason name low high line OtherLine OtherLine p q = refl
number_reason name low high line OtherLine Number p q = absurd (p q.0)
number_reason name low high line Number OtherLine p q = absurd (q p.0)
number_reason name low high line Number Number p q = refl
number_reason name low high line OtherLine s p q = absurd q
number_reason name low high line Number s p q = absurd q
number_reason name low high line r s p q = absurd p

number_whole : (name : List ℕ) (low high : ℕ) (line : List ℕ) (r : Reason) → RefusesNumber name low high line r → 2 < number_of r
number_whole name low high line OtherLine p = omega arith
number_whole name low high line Number p = omega arith
number_whole name low high line r p = absurd p

pub numbered_is_form : (name : List ℕ) (low high : ℕ) → IsName name → high < 2 ^ 32 → IsForm (numbered_line name low high)
numbered_is_form name low high is fits = record {
  short = λ n says. two_fields-short name n is.one_line is.short (omega (arith, says.1, fits));
  one_value = λ m n p q same. one_number name m n (omega (arith, p.1, fits)) same;
  passes = λ n r says. number_passes name low high n r is says.0 says.1;
  one_reason = number_reason name low high;
  whole = number_whole name low high;
}
