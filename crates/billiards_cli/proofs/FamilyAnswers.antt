-- The right answers of `family`.
use Rattle.std.proofs.Common.{◌≡◌, ℕ, zero, suc, ◌+◌, ◌-◌, ◌≤◌, ◌<◌, Bool, true, false, List, []}
use Rattle.std.proofs.Common.{◌∷◌, ◌++◌, length, map, filter, Option, None, Some, nat_le, ◌&&◌, cond, take, get_or}
use Rattle.std.proofs.Common.{refl, sym, ap, ap₂, subst, ◌∙◌, inl, inr, arith}
use Rattle.std.specs.Prelude.{◌⊎◌, Ok, Err, IsTrue}
use Rattle.std.specs.List.{All, range_with_len}
use Rattle.std.proofs.lemmas.Bool.{le-leb, leb-true, cases_lt}
use Rattle.std.proofs.lemmas.List.{append-nil, map_push, take_more}
use Rattle.std.proofs.lemmas.List.Elements.{All-push}
use Rattle.word_family.specs.Family.{Parts, member, IsStableFamily}
use Rattle.word_family.specs.Reading.{Reads}
use Rattle.word_family.specs.declared.fault.FamilyFault.{FamilyFault}
use Rattle.word_family.proofs.Readings.{same_parts, reads_one_way}
use Rattle.gradient_bounds.specs.Clear.{IsClearAtPoint}
use Rattle.gradient_bounds.specs.Corridor.{HasCorridor}
use Rattle.gradient_bounds.specs.Slacks.{sure}
use Rattle.billiards_cli.specs.Arguments.{Angles}
use Rattle.billiards_cli.specs.Commands.At.{AtTriangle}
use Rattle.billiards_cli.specs.Commands.Family.{SpellsFamily, IsFamilyAnswer, IsFamilyDue, IsMembersAnswer, IsMembersDue, HasOtherLength, IsTested}
use Rattle.billiards_cli.specs.Commands.Family.{IsShownMember, ShowsMembers, AreOpen, word_numbers, members_text}
use Rattle.billiards_cli.specs.Requests.{command_of}
use Rattle.billiards_cli.specs.Services.{IsAnswer}
use Rattle.billiards_cli.specs.declared.commands.family.member.Member.{Member}
use Rattle.billiards_cli.specs.declared.request.Request.TheVariants as request
use Rattle.billiards_cli.specs.declared.status.Status.{Status}
use Rattle.billiards_cli.specs.declared.status.Status.TheVariants.{Done, NotShown, Malformed, OutOfMemory}
use Rattle.billiards_cli.proofs.Inputs.{some_input}

-- texts spell one family
stable_again : (texts f g : Parts) → SpellsFamily texts f → SpellsFamily texts g → IsStableFamily f → IsStableFamily g
stable_again texts f g h k = subst IsStableFamily (same_parts texts.first texts.middle texts.last f g h.spelled k.spelled)

family_answer_is_due : (texts : Parts) (status : Status) (text : List ℕ) → IsFamilyAnswer texts status text → IsFamilyDue texts status
family_answer_is_due texts Done text (inl answer) =
    record { done = λ f spells. inl refl; refused = λ none. absurd (none (answer.family, answer.spells)) }
family_answer_is_due texts Done text (inr answer) =
    record { done = λ f spells. inl refl; refused = λ none. absurd (none (answer.family, answer.spells)) }
family_answer_is_due texts Malformed text answer =
    record { done = λ f spells. absurd (answer.none (f, spells)); refused = λ none. refl }
family_answer_is_due texts OutOfMemory text answer =
    record {
      done = λ f spells. inr (stable_again texts answer.family f answer.spells spells answer.stable, refl);
      refused = λ none. absurd (none (answer.family, answer.spells));
    }
family_answer_is_due texts status text answer = absurd answer

-- a right answer is one that the command may give, whatever the input
pub family_answer : (texts : Parts) (left : Option (List ℕ)) (status : Status) (text : List ℕ)
    → IsFamilyAnswer texts status text → IsAnswer (command_of (request.Family texts)) left left status text
family_answer texts left status text right =
    let some = some_input left in
    record { input = some.0; may_be = some.1; right = right; due = family_answer_is_due texts status text right; read = tt }

members_answer_is_due : (texts : Parts) (triangle : Angles) (status : Status) (text : List ℕ)
    → IsMembersAnswer texts triangle status text → IsMembersDue texts status
members_answer_is_due texts triangle Done text (ms, shows, all) =
    record { tested = λ f spells stable. inl refl; refused = λ none. absurd (none (shows.family, shows.spells, shows.stable)) }
members_answer_is_due texts triangle NotShown text (ms, shows, some) =
    record { tested = λ f spells stable. inr (inl refl); refused = λ none. absurd (none (shows.family, shows.spells, shows.stable)) }
members_answer_is_due texts triangle Malformed text (inl answer) =
    record { tested = λ f spells stable. absurd (answer.none (f, spells)); refused = λ none. refl }
members_answer_is_due texts triangle Malformed text (inr answer) =
    record {
      tested = λ f spells stable. absurd (answer.unstable (stable_again texts f answer.family spells answer.spells stable));
      refused = λ none. refl;
    }
members_answer_is_due texts triangle OutOfMemory text answer =
    record { tested = λ f spells stable. inr (inr refl); refused = λ none. absurd (none (answer.family, answer.spells, answer.stable)) }
members_answer_is_due texts triangle status text answer = absurd answer

pub members_answer : (texts : Parts) (triangle : Angles) (left : Option (List ℕ)) (status : Status) (text : List ℕ)
    → IsMembersAnswer texts triangle status text → IsAnswer (command_of (request.FamilyAt texts triangle)) left left status text
members_answer texts triangle left status text right =
    let some = some_input left in
    record { input = some.0; may_be = some.1; right = right; due = members_answer_is_due texts triangle status text right; read = tt }

-- ---- the numbers of members that are words
-- whether a member has the length of a word
abbrev is_long : Parts → ℕ → Bool
is_long f n = nat_le 6 (length (member f n)) && nat_le (length (member f n)) 64

-- those before n
unfoldable pub numbers_before : Parts → ℕ → List ℕ
numbers_before f n = filter (is_long f) (range_with_len 1 (n - 1))

pub no_numbers : (f : Parts) → [] ≡ numbers_before f 1
unfolding numbers_before
no_numbers f = refl

pub all_numbers : (f : Parts) (n : ℕ) (numbers : List ℕ) → n ≡ 65 → numbers ≡ numbers_before f n → numbers ≡ word_numbers f
unfolding numbers_before word_numbers
all_numbers f n numbers end so_far = so_far ∙ (let e : n - 1 ≡ 64 = omega (arith, end) in ap (λ k. filter (is_long f) (range_with_len 1 k)) e)

range_more : (a k : ℕ) → range_with_len a (suc k) ≡ range_with_len a k ++ (a + k) ∷ []
range_more a zero = ap (λ x. x ∷ []) (omega arith)
range_more a (suc k) =
    ap (λ xs. a ∷ xs) (range_more (a + 1) k ∙ (let e : a + 1 + k ≡ a + suc k = omega arith in ap (λ x. range_with_len (a + 1) k ++ x ∷ []) e))

filter_step : (b : Bool) (p : ℕ → Bool) (y x : ℕ) (xs ys : List ℕ) → ys ≡ xs ++ filter p (x ∷ [])
    → cond b (y ∷ ys) ys ≡ cond b (y ∷ xs) xs ++ filter p (x ∷ [])
filter_step true p y x xs ys e = ap (λ zs. y ∷ zs) e
filter_step false p y x xs ys e = e

filter_more : (p : ℕ → Bool) (xs : List ℕ) (x : ℕ) → filter p (xs ++ x ∷ []) ≡ filter p xs ++ filter p (x ∷ [])
filter_more p [] x = refl
filter_more p (y ∷ xs) x = filter_step (p y) p y x (filter p xs) (filter p (xs ++ x ∷ [])) (filter_more p xs x)

numbers_next : (f : Parts) (n : ℕ) → 1 ≤ n → numbers_before f (n + 1) ≡ numbers_before f n ++ filter (is_long f) (n ∷ [])
unfolding numbers_before
numbers_next f n h =
    let e : n + 1 - 1 ≡ suc (n - 1) = omega (arith, h) in
    let e' : 1 + (n - 1) ≡ n = omega (arith, h) in
    ap (λ k. filter (is_long f) (range_with_len 1 k)) e
    ∙ ap (filter (is_long f)) (range_more 1 (n - 1) ∙ ap (λ x. range_with_len 1 (n - 1) ++ x ∷ []) e')
    ∙ filter_more (is_long f) (range_with_len 1 (n - 1)) n

-- a member of another length is left out
other_length : (f : Parts) (n : ℕ) → (length (member f n) < 6) ⊎ (64 < length (member f n)) → is_long f n ≡ false
other_length f n (inl short) = by_low (nat_le 6 (length (member f n))) (λ low. leb-true 6 (length (member f n)) low)
  where
    by_low : (b : Bool) → (b ≡ true → 6 ≤ length (member f n)) → (b && nat_le (length (member f n)) 64) ≡ false
    by_low true le = absurd (omega (arith, short, le refl))
    by_low false le = refl
other_length f n (inr long) = by_high (nat_le 6 (length (member f n))) (nat_le (length (member f n)) 64) (λ high. leb-true (length (member f n)) 64 high)
  where
    by_high : (b d : Bool) → (d ≡ true → length (member f n) ≤ 64) → (b && d) ≡ false
    by_high true true le = absurd (omega (arith, long, le refl))
    by_high true false le = refl
    by_high false d le = refl

word_length : (f : Parts) (n : ℕ) → ¬ ((length (member f n) < 6) ⊎ (64 < length (member f n))) → is_long f n ≡ true
word_length f n not_other =
    let low : 6 ≤ length (member f n) = elim (cases_lt (length (member f n)) 6) [
      | inl short ↦ absurd (not_other (inl short))
      | inr h ↦ h
    ] in
    let high : length (member f n) ≤ 64 = elim (cases_lt 64 (length (member f n))) [
      | inl long ↦ absurd (not_other (inr long))
      | inr h ↦ h
    ] in
    ap₂ ◌&&◌ (le-leb 6 (length (member f n)) low) (le-leb (length (member f n)) 64 high)

pub number_left_out : (f : Parts) (n : ℕ) (numbers : List ℕ) → 1 ≤ n → (length (member f n) < 6) ⊎ (64 < length (member f n))
    → numbers ≡ numbers_before f n → numbers ≡ numbers_before f (n + 1)
number_left_out f n numbers h other so_far =
    so_far ∙ sym (append-nil (numbers_before f n))
    ∙ sym (numbers_next f n h ∙ ap (λ b. numbers_before f n ++ cond b (n ∷ []) []) (other_length f n other))

pub number_taken : (f : Parts) (triangle : Angles) (n : ℕ) (ms : List Member) (m : Member) → 1 ≤ n → IsTested f triangle n (Some m)
    → map (λ (m : Member). m.number) ms ≡ numbers_before f n
    → map (λ (m : Member). m.number) (ms ++ m ∷ []) ≡ numbers_before f (n + 1)
number_taken f triangle n ms m h is so_far =
    map_push (λ (m : Member). m.number) ms m
    ∙ ap₂ (λ xs x. xs ++ x ∷ []) so_far is.1
    ∙ sym (numbers_next f n h ∙ ap (λ b. numbers_before f n ++ cond b (n ∷ []) []) (word_length f n is.0))

-- a member that is a word, and its test
pub tested_is : (f : Parts) (triangle : Angles) (n : ℕ) (w : List ℕ) (is_open : Bool) → w ≡ member f n → ¬ (HasOtherLength f n)
    → (is_open ≡ true → AtTriangle triangle (HasCorridor w)) → (is_open ≡ false → ¬ (AtTriangle triangle (λ x y. IsClearAtPoint w x y sure.gradient)))
    → IsTested f triangle n (Some (record { number = n; «open» = is_open }))
tested_is f triangle n w is_open is long shown not_shown = (
  long,
  refl,
  record {
    corridor = λ h. subst (λ w. AtTriangle triangle (HasCorridor w)) is (shown h);
    not_clear = λ h. subst (λ w. ¬ (AtTriangle triangle (λ x y. IsClearAtPoint w x y sure.gradient))) is (not_shown h);
  },
)

-- what is read in another way spells no family
pub not_spelled : (a b c : List ℕ) (texts : Parts) (fault : FamilyFault) → ◌≡◌ {A = Parts} (record { first = a; middle = b; last = c }) texts
    → Reads a b c (Err fault) → ¬ ((f : Parts) × SpellsFamily texts f)
not_spelled a b c texts fault same reads =
    subst (λ (texts : Parts). ¬ ((f : Parts) × SpellsFamily texts f)) same
    (λ (f, spells). let differ : Ok f ≡ Err fault = reads_one_way a b c (Ok f) (Err fault) spells reads in cc)

-- ---- lists of members
pub open_more : (ms : List Member) (i : ℕ) (d : Member) → i < length ms → AreOpen (take i ms) → IsTrue (get_or ms i d).«open» → AreOpen (take (i + 1) ms)
open_more ms i d h so_far here =
    subst AreOpen (sym (take_more ms i d h)) (All-push (λ (m : Member). IsTrue m.«open») (take i ms) (get_or ms i d) so_far here)

pub members_more : (f : Parts) (triangle : Angles) (n : ℕ) (ms : List Member) (m : Member) → IsTested f triangle n (Some m)
    → All (IsShownMember f triangle) ms → All (IsShownMember f triangle) (ms ++ m ∷ [])
members_more f triangle n ms m is so_far = All-push (IsShownMember f triangle) ms m so_far is.2

pub shows_members : (texts f : Parts) (triangle : Angles) (ms items : List Member) → ms ≡ items → SpellsFamily texts f → IsStableFamily f
    → map (λ (m : Member). m.number) items ≡ word_numbers f → All (IsShownMember f triangle) items → ShowsMembers texts triangle ms (members_text ms)
shows_members texts f triangle ms items same spells stable numbers shown = record {
  family = f;
  spells = spells;
  stable = stable;
  numbers = subst (λ (xs : List Member). map (λ (m : Member). m.number) xs ≡ word_numbers f) (sym same) numbers;
  shown = subst (All (IsShownMember f triangle)) (sym same) shown;
  text_is = refl;
}

-- the members tested before n
pub record AreTestedBefore (f : Parts) (triangle : Angles) (n : ℕ) (ms : List Member) : Type 0 where
  pub some : 1 ≤ n
  pub numbers : map (λ (m : Member). m.number) ms ≡ numbers_before f n
  pub shown : All (IsShownMember f triangle) ms

pub tested_taken : (f : Parts) (triangle : Angles) (n : ℕ) (found : Option Member) (m : Member) (ms new : List Member) → found ≡ Some m
    → IsTested f triangle n found → new ≡ ms ++ m ∷ [] → AreTestedBefore f triangle n ms → AreTestedBefore f triangle (n + 1) new
tested_taken f triangle n found m ms new is tested more before =
    let one : IsTested f triangle n (Some m) = subst (IsTested f triangle n) is tested in
    subst (AreTestedBefore f triangle (n + 1)) (sym more)
    (record {
      some = omega arith;
      numbers = number_taken f triangle n ms m before.some one before.numbers;
      shown = members_more f triangle n ms m one before.shown;
    })

pub tested_left_out : (f : Parts) (triangle : Angles) (n : ℕ) (found : Option Member) (ms new : List Member) → found ≡ None
    → IsTested f triangle n found → new ≡ ms → AreTestedBefore f triangle n ms → AreTestedBefore f triangle (n + 1) new
tested_left_out f triangle n found ms new is tested same before =
    let none : IsTested f triangle n None = subst (IsTested f triangle n) is tested in
    subst (AreTestedBefore f triangle (n + 1)) (sym same)
    (record {
      some = omega arith;
      numbers = number_left_out f n (map (λ (m : Member). m.number) ms) before.some none before.numbers;
      shown = before.shown;
    })
