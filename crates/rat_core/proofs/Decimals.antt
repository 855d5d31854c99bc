-- The texts that are digits with no leading zero are the decimal texts of the numbers that they write.
use Rattle.std.proofs.Common.{◌≡◌, refl, sym, ap, ◌∙◌, subst, ℕ, ◌+◌, ◌*◌, ◌<◌, ◌≤◌, ◌^◌, true, false, List, length, get_or, take, Option, Some, None}
use Rattle.std.proofs.Common.{IsNone, decimal, ◌↔◌, ◌≢◌, arith, ◌-◌, eq-zero-or-pos, ◌⊎◌, inl, inr, tests, lit<}
use Rattle.std.specs.Char.{is_ascii_digit}
use Rattle.std.specs.Int.{IsInRange}
use Rattle.std.proofs.lemmas.Str.{digit_value_digit}
use Rattle.std.proofs.lemmas.Int.Digits.{digits_more, digits_value_more}
use Rattle.std.specs.Str.Parse.{AllDigits, digits_value}
use Rattle.std.proofs.lemmas.Fmt.{decimal_is_IsNumeral, decimal-digits_value, first_decimal, decimal_digit}
use Rattle.std.proofs.lemmas.Str.Parse.{IsNumeralModel, numerals_by_value, tells_digits, digit_at}
use Rattle.rat_core.specs.Decimal.{StartsAsADecimal}

digits_model : IsNumeralModel (AllDigits 10) (digits_value 10)
digits_model = numerals_by_value (AllDigits 10) tells_digits

-- the text of a number is such a text
pub decimal_starts : (n : ℕ) → n < 2 ^ 64 → StartsAsADecimal (decimal n)
decimal_starts n h =
    record {
      nonempty = (decimal_is_IsNumeral n h).0.0;
      zero_alone = λ e. alone n h (eq-zero-or-pos n) e;
    }
  where
    alone : (n : ℕ) → n < 2 ^ 64 → (n ≡ 0) ⊎ (0 < n) → get_or (decimal n) 0 0 ≡ 48 → length (decimal n) ≡ 1
    alone n h (inl z) e = ap (λ m. length (decimal m)) z ∙ ap length (decimal_digit 0 (lit< tt))
    alone n h (inr p) e = absurd (let k = first_decimal n p h in omega arith)

pub is_decimal : (bs : List ℕ) (n : ℕ) → n < 2 ^ 64 → StartsAsADecimal bs → AllDigits 10 bs → digits_value 10 bs ≡ n → bs ≡ decimal n
is_decimal bs n h s d e = sym (decimal-digits_value digits_model bs d s.nonempty s.zero_alone (subst (λ v. v < 2 ^ 64) (sym e) h)) ∙ ap decimal e

pub from_decimal : (bs : List ℕ) (n : ℕ) → n < 2 ^ 64 → bs ≡ decimal n → AllDigits 10 bs × (digits_value 10 bs ≡ n)
from_decimal bs n h e = let k = decimal_is_IsNumeral n h in rw e (k.0.1, k.1)

pub read_some : (bs : List ℕ) (r : Option ℕ) (bound : ℕ) → bound < 2 ^ 32 → StartsAsADecimal bs
    → ((n : ℕ) → (r ≡ Some n) ↔ (AllDigits 10 bs × (digits_value 10 bs ≡ n) × (n ≤ bound))) → (n : ℕ) → (r ≡ Some n) ↔ ((bs ≡ decimal n) × (n ≤ bound))
read_some bs r bound b s f n = (
  λ e. let k = (f n).0 e in (is_decimal bs n (omega (arith, k.2)) s k.0 k.1, k.2),
  λ k. let d = from_decimal bs n (omega (arith, k.1)) k.0 in (f n).1 (d.0, d.1, k.1),
)

-- a text that does not start so is no decimal
pub read_no : (bs : List ℕ) (bound : ℕ) → bound < 2 ^ 32 → ¬ StartsAsADecimal bs → (n : ℕ)
    → (◌≡◌ {A = Option ℕ} None (Some n)) ↔ ((bs ≡ decimal n) × (n ≤ bound))
read_no bs bound b s n = ((λ e. absurd cc), (λ k. absurd (s (subst StartsAsADecimal (sym k.0) (decimal_starts n (omega (arith, k.1)))))))

-- the clause on None follows from the one on Some
pub read_none : (bs : List ℕ) (r : Option ℕ) (bound : ℕ) → ((n : ℕ) → (r ≡ Some n) ↔ ((bs ≡ decimal n) × (n ≤ bound)))
    → IsNone r ↔ ((n : ℕ) → n ≤ bound → bs ≢ decimal n)
read_none bs None bound f = ((λ _ n h e. let k : ◌≡◌ {A = Option ℕ} None (Some n) = (f n).1 (e, h) in cc), (λ _. refl))
read_none bs (Some m) bound f = ((λ e. cc), (λ g. let k = (f m).0 refl in absurd (g m k.1 k.0)))

-- ---- the loop

pub not_digits : (bs : List ℕ) (i : ℕ) → i < length bs → false ≡ is_ascii_digit (get_or bs i 0) → ¬ AllDigits 10 bs
not_digits bs i h e d = let k = digit_at bs i d h in grind (arith, tests)

-- one more digit
pub digits_step : (bs : List ℕ) (i number : ℕ) → i < length bs → true ≡ is_ascii_digit (get_or bs i 0) → AllDigits 10 (take i bs)
    → digits_value 10 (take i bs) ≡ number → AllDigits 10 (take (i + 1) bs) × (digits_value 10 (take (i + 1) bs) ≡ 10 * number + (get_or bs i 0 - 48))
digits_step bs i number h e d v =
    let r : IsInRange 48 57 (get_or bs i 0) = grind (arith, tests) in
    let one = digit_value_digit (get_or bs i 0) r in
    (digits_more 10 bs i h d (omega arith), omega (arith, digits_value_more 10 bs i h))
