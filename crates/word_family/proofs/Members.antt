-- The letters of members.
use Rattle.std.proofs.Common.{◌≡◌, ℕ, zero, suc, ◌+◌, ◌*◌, ◌%◌, ◌<◌, ◌≤◌, List, ◌++◌, length, sym, ap, ◌∙◌, arith, length-append}
use Rattle.std.specs.List.{All}
use Rattle.std.proofs.Math.Nat.{mul-le-mul_right}
use Rattle.std.proofs.lemmas.List.{append-nil, append_assoc}
use Rattle.std.proofs.lemmas.List.Elements.{All-append, All-nil}
use Rattle.edge_words.specs.Letters.{IsLetter}
use Rattle.word_family.specs.Family.{Parts, times_written, member, AreParts, AreEven}

pub length-times_written : (n : ℕ) (b : List ℕ) → length (times_written n b) ≡ n * length b
length-times_written zero b = omega arith
length-times_written (suc n) b = omega (arith, length-append b (times_written n b), length-times_written n b)

pub length-member : (f : Parts) (n : ℕ) → length (member f n) ≡ length f.first + n * length f.middle + length f.last
length-member f n =
    omega (
      arith,
      length-append f.first (times_written n f.middle ++ f.last),
      length-append (times_written n f.middle) f.last,
      length-times_written n f.middle,
    )

-- an even list stays even
pub times_written-even : (n : ℕ) (b : List ℕ) → length b % 2 ≡ 0 → length (times_written n b) % 2 ≡ 0
times_written-even zero b h = omega arith
times_written-even (suc n) b h = omega (arith, length-append b (times_written n b), times_written-even n b h, h)

pub member-even : (f : Parts) (n : ℕ) → AreEven f → length (member f n) % 2 ≡ 0
member-even f n even =
    omega (
      arith,
      length-append f.first (times_written n f.middle ++ f.last),
      length-append (times_written n f.middle) f.last,
      times_written-even n f.middle even.middle,
      even.ends,
    )

times_written-letters : (n : ℕ) (b : List ℕ) → All IsLetter b → All IsLetter (times_written n b)
times_written-letters zero b h = All-nil IsLetter
times_written-letters (suc n) b h = All-append IsLetter b (times_written n b) h (times_written-letters n b h)

pub member-letters : (f : Parts) (n : ℕ) → AreParts f → All IsLetter (member f n)
member-letters f n parts =
    All-append IsLetter f.first (times_written n f.middle ++ f.last) parts.first.letters
    (All-append IsLetter (times_written n f.middle) f.last (times_written-letters n f.middle parts.middle.letters) parts.last.letters)

-- ---- written one after another
-- b once more at the end
times_written-snoc : (n : ℕ) (b : List ℕ) → times_written n b ++ b ≡ times_written (suc n) b
times_written-snoc zero b = sym (append-nil b)
times_written-snoc (suc n) b = append_assoc b (times_written n b) b ∙ ap (λ xs. b ++ xs) (times_written-snoc n b)

pub times_written-more : (letters before b : List ℕ) (n : ℕ) → letters ≡ before ++ times_written n b → letters ++ b ≡ before ++ times_written (n + 1) b
times_written-more letters before b n e =
    ap (λ xs. xs ++ b) e ∙ append_assoc before (times_written n b) b ∙ ap (λ xs. before ++ xs) (times_written-snoc n b)
    ∙ (let e' : suc n ≡ n + 1 = omega arith in ap (λ k. before ++ times_written k b) e')

-- there is room for b once more
pub room_for_one : (letters before b : List ℕ) (n times : ℕ) → letters ≡ before ++ times_written n b → n < times → length before + times * length b ≤ 64
    → length letters + length b ≤ 64
room_for_one letters before b n times e h room =
    let below : suc n * length b ≤ times * length b = mul-le-mul_right (length b) (omega (arith, h)) in
    omega (arith, ap length e, length-append before (times_written n b), length-times_written n b, below, room)

-- a c, and a b, are short
pub ends_fit : (f : Parts) → AreParts f → length (member f 0) ≤ 32
ends_fit f parts = omega (arith, length-member f 0, parts.first.few, parts.last.few)

-- the length by parts that are kept elsewhere
pub count_is : (f g : Parts) (n : ℕ) (a b c : List ℕ) → g ≡ f → a ≡ g.first → b ≡ g.middle → c ≡ g.last
    → length (member f n) ≡ length a + n * length b + length c
count_is f g n a b c same first middle last =
    length-member f n
    ∙ sym (ap (λ (f : Parts). length f.first + n * length f.middle + length f.last) same)
    ∙ sym (λ i. length (first i) + n * length (middle i) + length (last i))
