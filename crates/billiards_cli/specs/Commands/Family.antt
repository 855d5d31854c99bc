-- The command `family`: the shifts of all words a bⁿ c, and which of them were shown to be open at a triangle.
use Rattle.std.specs.Prelude.{◌≡◌, ◌⊎◌, ℕ, ◌<◌, false, List, [], ◌∷◌, ◌++◌, length, map, filter, codes, Some, None, IsTrue, nat_le, ◌&&◌}
use Rattle.std.specs.Prelude.{if◌then◌else◌}
use Rattle.std.specs.Fmt.{decimal}
use Rattle.std.specs.List.{All, concat, flat_map, range_with_len}
use Rattle.std.specs.Option.{option_map}
use Rattle.std.specs.Str.{bytes_eq}
use Rattle.std.specs.declared.option.Option.{Option}
use Rattle.exp_sums.specs.FormalPoint.{FormalPoint, terms}
use Rattle.gradient_bounds.specs.Clear.{IsClearAtPoint}
use Rattle.gradient_bounds.specs.Corridor.{HasCorridor}
use Rattle.gradient_bounds.specs.Slacks.{sure}
use Rattle.line_grammar.specs.declared.reason.Reason.TheVariants.{NotAWord, UnstableWord}
use Rattle.word_family.specs.Family.{Parts, member, IsStableFamily, AreShiftsOf}
use Rattle.word_family.specs.Reading.{SpellFamily}
use Rattle.billiards_cli.specs.Arguments.{Angles, triangle_of}
use Rattle.billiards_cli.specs.Commands.At.{AtTriangle}
use Rattle.billiards_cli.specs.Commands.Word.{terms_text, unstable_text}
use Rattle.billiards_cli.specs.EndLine.{end_text}
use Rattle.billiards_cli.specs.Refusals.{newline, argument_text}
use Rattle.billiards_cli.specs.declared.commands.family.member.Member.{Member}
use Rattle.billiards_cli.specs.declared.request.Request.{Request}
use Rattle.billiards_cli.specs.declared.request.Request.TheVariants as request
use Rattle.billiards_cli.specs.declared.status.Status.{Status}
use Rattle.billiards_cli.specs.declared.status.Status.TheVariants.{Done, NotShown, Malformed, OutOfMemory}

-- ---- the arguments

-- a part's digits: `-` stands for none
abbrev pub part_text : List ℕ → List ℕ
part_text argument = if bytes_eq argument (codes "-") then [] else argument

abbrev pub part_texts : List ℕ → List ℕ → List ℕ → Parts
part_texts a b c = record { first = part_text a; middle = part_text b; last = part_text c }

-- it takes three parts, and the three numbers of a triangle or none
abbrev pub family_request : List (List ℕ) → Option Request
family_request (a ∷ b ∷ c ∷ []) = Some (request.Family (part_texts a b c))
family_request (a ∷ b ∷ c ∷ p ∷ q ∷ d ∷ []) = option_map (λ triangle. request.FamilyAt (part_texts a b c) triangle) (triangle_of p q d)
family_request arguments = None

-- the texts are the digits of a family's parts
abbrev pub SpellsFamily : Parts → Parts → Type 0
SpellsFamily texts f = SpellFamily texts.first texts.middle texts.last f

-- ---- all shifts

-- how many terms a formal point has, behind a name, and the terms in the order of their directions
abbrev pub sum_text : List ℕ → FormalPoint → List ℕ
sum_text name v = concat (name ∷ decimal (length (terms v)) ∷ newline ∷ []) ++ terms_text (terms v)

abbrev pub shifts_text : FormalPoint → FormalPoint → List ℕ
shifts_text base step = codes "stable\n" ++ (sum_text (codes "base ") base ++ (sum_text (codes "step ") step ++ codes "end\n"))

-- each a bⁿ c has the shift base + n·step
pub record ShowsShifts (texts : Parts) (text : List ℕ) : Type 0 where
  pub family : Parts
  pub spells : SpellsFamily texts family
  pub stable : IsStableFamily family
  pub base : FormalPoint
  pub step : FormalPoint
  pub shifts : AreShiftsOf family base step
  pub text_is : text ≡ shifts_text base step

pub record ShowsUnstable (texts : Parts) (text : List ℕ) : Type 0 where
  pub family : Parts
  pub spells : SpellsFamily texts family
  pub unstable : ¬ (IsStableFamily family)
  pub text_is : text ≡ unstable_text

-- the texts are those of no family
pub record RefusesFamily (texts : Parts) (text : List ℕ) : Type 0 where
  pub none : ¬ ((f : Parts) × SpellsFamily texts f)
  pub text_is : text ≡ argument_text NotAWord

pub record FamilyWantsMemory (texts : Parts) (text : List ℕ) : Type 0 where
  pub family : Parts
  pub spells : SpellsFamily texts family
  pub stable : IsStableFamily family
  pub text_is : text ≡ []

-- Done with the shifts, or where some member is not stable with that. What is no family is refused. Memory is wanting only for a stable family.
abbrev pub IsFamilyAnswer : Parts → Status → List ℕ → Type 0
IsFamilyAnswer texts Done text = ShowsShifts texts text ⊎ ShowsUnstable texts text
IsFamilyAnswer texts Malformed text = RefusesFamily texts text
IsFamilyAnswer texts OutOfMemory text = FamilyWantsMemory texts text
IsFamilyAnswer texts status text = ⊥

-- done for a family, unless it is stable and memory is wanting, and refused for every other text
pub record IsFamilyDue (texts : Parts) (status : Status) : Type 0 where
  pub done : (f : Parts) → SpellsFamily texts f → (status ≡ Done) ⊎ (IsStableFamily f × (status ≡ OutOfMemory))
  pub refused : ¬ ((f : Parts) × SpellsFamily texts f) → status ≡ Malformed

-- ---- at a triangle

-- the n from 1 on for which a bⁿ c has from 6 to 64 letters, in order; b has at least two
unfoldable pub word_numbers : Parts → List ℕ
word_numbers f = filter (λ n. nat_le 6 (length (member f n)) && nat_le (length (member f n)) 64) (range_with_len 1 64)

-- an open member has a corridor there, and one that was not shown to be is not clear with the wider slack
pub record IsShownMember (f : Parts) (triangle : Angles) (m : Member) : Type 0 where
  pub corridor : IsTrue m.«open» → AtTriangle triangle (HasCorridor (member f m.number))
  pub not_clear : m.«open» ≡ false → ¬ (AtTriangle triangle (λ x y. IsClearAtPoint (member f m.number) x y sure.gradient))

abbrev pub member_line : Member → List ℕ
member_line m = decimal m.number ++ (if m.«open» then codes " open\n" else codes " not shown\n")

abbrev pub members_text : List Member → List ℕ
members_text ms = flat_map member_line ms ++ end_text (length ms)

-- the members of a stable family that are words, each with its verdict
pub record ShowsMembers (texts : Parts) (triangle : Angles) (ms : List Member) (text : List ℕ) : Type 0 where
  pub family : Parts
  pub spells : SpellsFamily texts family
  pub stable : IsStableFamily family
  pub numbers : map (λ m. m.number) ms ≡ word_numbers family
  pub shown : All (IsShownMember family triangle) ms
  pub text_is : text ≡ members_text ms

abbrev pub AreOpen : List Member → Type 0
AreOpen ms = All (λ m. IsTrue m.«open») ms

-- the texts are those of no family, or of one that is not stable
pub record RefusesUnstable (texts : Parts) (text : List ℕ) : Type 0 where
  pub family : Parts
  pub spells : SpellsFamily texts family
  pub unstable : ¬ (IsStableFamily family)
  pub text_is : text ≡ argument_text UnstableWord

-- Done where each member is open, and not shown where one is not. What is no family is refused, and so is one that is not stable.
abbrev pub IsMembersAnswer : Parts → Angles → Status → List ℕ → Type 0
IsMembersAnswer texts triangle Done text = (ms : List Member) × ShowsMembers texts triangle ms text × AreOpen ms
IsMembersAnswer texts triangle NotShown text = (ms : List Member) × ShowsMembers texts triangle ms text × ¬ (AreOpen ms)
IsMembersAnswer texts triangle Malformed text = RefusesFamily texts text ⊎ RefusesUnstable texts text
IsMembersAnswer texts triangle OutOfMemory text = FamilyWantsMemory texts text
IsMembersAnswer texts triangle status text = ⊥

-- a stable family has each member that is a word tested, unless memory is wanting; all else is refused
pub record IsMembersDue (texts : Parts) (status : Status) : Type 0 where
  pub tested : (f : Parts) → SpellsFamily texts f → IsStableFamily f → (status ≡ Done) ⊎ ((status ≡ NotShown) ⊎ (status ≡ OutOfMemory))
  pub refused : ¬ ((f : Parts) × SpellsFamily texts f × IsStableFamily f) → status ≡ Malformed

-- ---- its steps

abbrev pub HasOtherLength : Parts → ℕ → Type 0
HasOtherLength f n = (length (member f n) < 6) ⊎ (64 < length (member f n))

-- the member with this number is no word, or has this verdict
abbrev pub IsTested : Parts → Angles → ℕ → Option Member → Type 0
IsTested f triangle n None = HasOtherLength f n
IsTested f triangle n (Some m) = ¬ (HasOtherLength f n) × (m.number ≡ n) × IsShownMember f triangle m
