-- What bytes spell a family, and why others do not.
use Rattle.std.specs.Prelude.{◌≡◌, ◌⊎◌, ℕ, ◌<◌, List, length}
use Rattle.std.specs.declared.result.Result.{Result}
use Rattle.std.specs.declared.result.Result.TheVariants.{Ok, Err}
use Rattle.edge_words.specs.Reading.{digits_of}
use Rattle.edge_words.specs.Word.{NeighboursDiffer}
use Rattle.word_family.specs.Family.{Parts, IsPart, AreParts, AreEven, IsFamily, member}
use Rattle.word_family.specs.declared.fault.FamilyFault.{FamilyFault}
use Rattle.word_family.specs.declared.fault.FamilyFault.TheVariants.{Part, Odd, Neighbours}

-- the bytes are the digits of a part
pub record SpellsPart (bytes w : List ℕ) : Type 0 where
  pub part : IsPart w
  pub digits : bytes ≡ digits_of w

abbrev pub SpellsSomePart : List ℕ → Type 0
SpellsSomePart bytes = (w : List ℕ) × SpellsPart bytes w

-- and they are not empty
pub record SpellsMiddle (bytes : List ℕ) : Type 0 where
  pub part : SpellsSomePart bytes
  pub some : 0 < length bytes

-- the bytes a, b and c are the digits of three parts
pub record SpellParts (a b c : List ℕ) (f : Parts) : Type 0 where
  pub parts : AreParts f
  pub first : a ≡ digits_of f.first
  pub middle : b ≡ digits_of f.middle
  pub last : c ≡ digits_of f.last

-- the first of a, b and c that is not as it has to be, counted from 1
abbrev pub IsFirstOther : List ℕ → List ℕ → List ℕ → ℕ → Type 0
IsFirstOther a b c which =
    ((which ≡ 1) × ¬ (SpellsSomePart a))
    ⊎ (((which ≡ 2) × SpellsSomePart a × ¬ (SpellsMiddle b))
    ⊎ ((which ≡ 3) × SpellsSomePart a × SpellsMiddle b × ¬ (SpellsSomePart c)))

-- parts, of which b or a and c together have an odd number of letters
pub record HaveOddLength (a b c : List ℕ) : Type 0 where
  pub family : Parts
  pub spelled : SpellParts a b c family
  pub odd : ¬ (AreEven family)

-- parts of even lengths, and two neighbours in a b b c that are equal
pub record HaveEqualNeighbours (a b c : List ℕ) : Type 0 where
  pub family : Parts
  pub spelled : SpellParts a b c family
  pub even : AreEven family
  pub equal : ¬ (NeighboursDiffer (member family 2))

-- the bytes are the digits of a family's parts
pub record SpellFamily (a b c : List ℕ) (f : Parts) : Type 0 where
  pub is_family : IsFamily f
  pub spelled : SpellParts a b c f

-- the answer that the bytes get: a family is read from its digits, and else the first reason counts, in the order of the cases
abbrev pub Reads : List ℕ → List ℕ → List ℕ → Result Parts FamilyFault → Type 0
Reads a b c (Ok f) = SpellFamily a b c f
Reads a b c (Err (Part which)) = IsFirstOther a b c which
Reads a b c (Err Odd) = HaveOddLength a b c
Reads a b c (Err Neighbours) = HaveEqualNeighbours a b c

-- no bytes get two answers
abbrev pub ReadsOneWay : Type 0
ReadsOneWay = (a b c : List ℕ) (answer other : Result Parts FamilyFault) → Reads a b c answer → Reads a b c other → answer ≡ other
