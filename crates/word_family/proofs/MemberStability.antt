-- Where each member is stable: where b is, and a c.
use Rattle.std.proofs.Common.{◌≡◌, ℕ, zero, suc, ◌+◌, ◌*◌, ◌%◌, List, ◌++◌, length, inl, inr, ap, arith}
use Rattle.std.specs.Prelude.{◌⊎◌}
use Rattle.std.proofs.lemmas.Bool.{cases_lt}
use Rattle.edge_words.specs.Stable.{at_odd_places, at_even_places, count_of, IsBalanced, IsStable}
use Rattle.edge_words.proofs.Balance.{counts_even, counts_odd}
use Rattle.word_family.specs.Family.{Parts, times_written, member, AreEven, IsStableFamily}
use Rattle.word_family.proofs.Members.{times_written-even}

-- how often a letter stands at odd and at even places
abbrev odds : ℕ → List ℕ → ℕ
odds x w = count_of x (at_odd_places w)

abbrev evens : ℕ → List ℕ → ℕ
evens x w = count_of x (at_even_places w)

-- n times as often, where b is even in length
counts_times : (x n : ℕ) (b : List ℕ) → length b % 2 ≡ 0 → (odds x (times_written n b) ≡ n * odds x b) × (evens x (times_written n b) ≡ n * evens x b)
counts_times x zero b h = (omega arith, omega arith)
counts_times x (suc n) b h =
    let parts = counts_even x b (times_written n b) h in
    let rest = counts_times x n b h in
    (omega (arith, parts.0, rest.0), omega (arith, parts.1, rest.1))

-- the counts of a member, in which b and c stand as they are where a is even in length, and else with their places exchanged
abbrev CountsStraight : ℕ → Parts → ℕ → Type 0
CountsStraight x f n =
    (odds x (member f n) ≡ odds x f.first + (n * odds x f.middle + odds x f.last))
    × (evens x (member f n) ≡ evens x f.first + (n * evens x f.middle + evens x f.last))

abbrev CountsCrossed : ℕ → Parts → ℕ → Type 0
CountsCrossed x f n =
    (odds x (member f n) ≡ odds x f.first + (n * evens x f.middle + evens x f.last))
    × (evens x (member f n) ≡ evens x f.first + (n * odds x f.middle + odds x f.last))

counts_straight : (x : ℕ) (f : Parts) (n : ℕ) → length f.middle % 2 ≡ 0 → length f.first % 2 ≡ 0 → CountsStraight x f n
counts_straight x f n even h =
    let all = counts_even x f.first (times_written n f.middle ++ f.last) h in
    let rest = counts_even x (times_written n f.middle) f.last (times_written-even n f.middle even) in
    let times = counts_times x n f.middle even in
    (omega (arith, all.0, rest.0, times.0), omega (arith, all.1, rest.1, times.1))

counts_crossed : (x : ℕ) (f : Parts) (n : ℕ) → length f.middle % 2 ≡ 0 → length f.first % 2 ≡ 1 → CountsCrossed x f n
counts_crossed x f n even h =
    let all = counts_odd x f.first (times_written n f.middle ++ f.last) h in
    let rest = counts_even x (times_written n f.middle) f.last (times_written-even n f.middle even) in
    let times = counts_times x n f.middle even in
    (omega (arith, all.0, rest.1, times.1), omega (arith, all.1, rest.0, times.0))

parity : (n : ℕ) → (n % 2 ≡ 0) ⊎ (n % 2 ≡ 1)
parity n =
    elim (cases_lt (n % 2) 1) [
      | inl even ↦ inl (omega arith)
      | inr odd ↦ inr (omega arith)
    ]

-- two members tell of b
middle_balanced : (x : ℕ) (f : Parts) → length f.middle % 2 ≡ 0 → IsBalanced x (member f 1) → IsBalanced x (member f 2) → IsBalanced x f.middle
middle_balanced x f even one two =
    elim (parity (length f.first)) [
      | inl h ↦
          let a = counts_straight x f 1 even h in
          let b = counts_straight x f 2 even h in
          omega (arith, one, two, a.0, a.1, b.0, b.1)
      | inr h ↦
          let a = counts_crossed x f 1 even h in
          let b = counts_crossed x f 2 even h in
          omega (arith, one, two, a.0, a.1, b.0, b.1)
    ]

-- where b is balanced, all members are, or none is
member_balanced : (x : ℕ) (f : Parts) (m n : ℕ) → length f.middle % 2 ≡ 0 → IsBalanced x f.middle → IsBalanced x (member f m) → IsBalanced x (member f n)
member_balanced x f m n even middle given =
    let at_m : m * odds x f.middle ≡ m * evens x f.middle = ap (λ k. m * k) middle in
    let at_n : n * odds x f.middle ≡ n * evens x f.middle = ap (λ k. n * k) middle in
    elim (parity (length f.first)) [
      | inl h ↦
          let a = counts_straight x f m even h in
          let b = counts_straight x f n even h in
          omega (arith, given, at_m, at_n, a.0, a.1, b.0, b.1)
      | inr h ↦
          let a = counts_crossed x f m even h in
          let b = counts_crossed x f n even h in
          omega (arith, given, at_m, at_n, a.0, a.1, b.0, b.1)
    ]

-- a stable family: b and a c are stable
pub record IsStableBetween (f : Parts) : Type 0 where
  pub ends : IsStable (member f 0)
  pub middle : IsStable f.middle

pub stable_between : (f : Parts) → AreEven f → IsStableFamily f → IsStableBetween f
stable_between f even stable =
    let middle : IsStable f.middle = λ x letter. middle_balanced x f even.middle (stable 1 (omega arith) x letter) (stable 2 (omega arith) x letter) in
    record {
      ends = λ x letter. member_balanced x f 1 0 even.middle (middle x letter) (stable 1 (omega arith) x letter);
      middle = middle;
    }

pub stable_family : (f : Parts) → AreEven f → IsStable (member f 0) → IsStable f.middle → IsStableFamily f
stable_family f even ends middle n some x letter = member_balanced x f 0 n even.middle (middle x letter) (ends x letter)
