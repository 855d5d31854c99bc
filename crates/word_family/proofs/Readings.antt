-- No texts get two answers.
use Rattle.std.proofs.Common.{◌≡◌, ℕ, ◌+◌, ◌<◌, ◌≤◌, List, length, inl, inr, refl, sym, ap, subst, ◌∙◌, arith}
use Rattle.std.specs.Prelude.{Ok, Err}
use Rattle.std.proofs.lemmas.List.{length-map}
use Rattle.std.specs.List.{All}
use Rattle.edge_words.specs.Reading.{IsDigit, digits_of, IsFirstRepeat}
use Rattle.edge_words.specs.Reading.{IsFirstOther as IsFirstOtherByte}
use Rattle.edge_words.proofs.Digits.{digits_of-injective, letters_of_digits, digits_of_letters}
use Rattle.edge_words.proofs.OneWay.{no_other as no_other_byte}
use Rattle.edge_words.specs.Word.{NeighboursDiffer}
use Rattle.word_family.specs.Family.{Parts, AreEven, member}
use Rattle.word_family.specs.Reading.{SpellsPart, SpellsSomePart, SpellsMiddle, SpellParts, SpellFamily, IsFirstOther, HaveOddLength, HaveEqualNeighbours}
use Rattle.word_family.specs.Reading.{ReadsOneWay}
use Rattle.word_family.specs.declared.fault.FamilyFault.TheVariants.{Part, Odd, Neighbours}

-- texts spell one triple of parts
pub same_parts : (a b c : List ℕ) (f g : Parts) → SpellParts a b c f → SpellParts a b c g → f ≡ g
same_parts a b c f g h k =
    let first = digits_of-injective f.first g.first (sym h.first ∙ k.first) in
    let middle = digits_of-injective f.middle g.middle (sym h.middle ∙ k.middle) in
    let last = digits_of-injective f.last g.last (sym h.last ∙ k.last) in
    λ i. record { first = first i; middle = middle i; last = last i }

-- and then none of them is another one
pub spells_middle : (b w : List ℕ) → SpellsPart b w → 0 < length w → SpellsMiddle b
spells_middle b w h some = record { part = (w, h); some = omega (arith, ap length h.digits, length-map w (λ x. x + 48), some) }

no_other : (a b c : List ℕ) (f : Parts) (which : ℕ) → SpellParts a b c f → IsFirstOther a b c which → ⊥
no_other a b c f which h (inl first) = first.1 (f.first, record { part = h.parts.first; digits = h.first })
no_other a b c f which h (inr (inl second)) = second.2 (spells_middle b f.middle (record { part = h.parts.middle; digits = h.middle }) h.parts.some)
no_other a b c f which h (inr (inr third)) = third.3 (f.last, record { part = h.parts.last; digits = h.last })

-- there is one first other part
one_other : (a b c : List ℕ) (p q : ℕ) → IsFirstOther a b c p → IsFirstOther a b c q → p ≡ q
one_other a b c p q (inl h) (inl k) = h.0 ∙ sym k.0
one_other a b c p q (inl h) (inr (inl k)) = absurd (h.1 k.1)
one_other a b c p q (inl h) (inr (inr k)) = absurd (h.1 k.1)
one_other a b c p q (inr (inl h)) (inl k) = absurd (k.1 h.1)
one_other a b c p q (inr (inl h)) (inr (inl k)) = h.0 ∙ sym k.0
one_other a b c p q (inr (inl h)) (inr (inr k)) = absurd (h.2 k.2)
one_other a b c p q (inr (inr h)) (inl k) = absurd (k.1 h.1)
one_other a b c p q (inr (inr h)) (inr (inl k)) = absurd (k.2 h.2)
one_other a b c p q (inr (inr h)) (inr (inr k)) = h.0 ∙ sym k.0

pub reads_one_way : ReadsOneWay
reads_one_way a b c (Ok f) (Ok g) h k = ap Ok (same_parts a b c f g h.spelled k.spelled)
reads_one_way a b c (Ok f) (Err (Part q)) h k = absurd (no_other a b c f q h.spelled k)
reads_one_way a b c (Ok f) (Err Odd) h k =
    absurd (k.odd (subst AreEven (same_parts a b c f k.family h.spelled k.spelled) h.is_family.even))
reads_one_way a b c (Ok f) (Err Neighbours) h k =
    absurd (k.equal (subst (λ g. NeighboursDiffer (member g 2)) (same_parts a b c f k.family h.spelled k.spelled) h.is_family.neighbours_differ))
reads_one_way a b c (Err (Part p)) (Ok g) h k = absurd (no_other a b c g p k.spelled h)
reads_one_way a b c (Err (Part p)) (Err (Part q)) h k = ap (λ which. Err (Part which)) (one_other a b c p q h k)
reads_one_way a b c (Err (Part p)) (Err Odd) h k = absurd (no_other a b c k.family p k.spelled h)
reads_one_way a b c (Err (Part p)) (Err Neighbours) h k = absurd (no_other a b c k.family p k.spelled h)
reads_one_way a b c (Err Odd) (Ok g) h k =
    absurd (h.odd (subst AreEven (same_parts a b c g h.family k.spelled h.spelled) k.is_family.even))
reads_one_way a b c (Err Odd) (Err (Part q)) h k = absurd (no_other a b c h.family q h.spelled k)
reads_one_way a b c (Err Odd) (Err Odd) h k = refl
reads_one_way a b c (Err Odd) (Err Neighbours) h k =
    absurd (h.odd (subst AreEven (same_parts a b c k.family h.family k.spelled h.spelled) k.even))
reads_one_way a b c (Err Neighbours) (Ok g) h k =
    absurd (h.equal (subst (λ g. NeighboursDiffer (member g 2)) (same_parts a b c g h.family k.spelled h.spelled) k.is_family.neighbours_differ))
reads_one_way a b c (Err Neighbours) (Err (Part q)) h k = absurd (no_other a b c h.family q h.spelled k)
reads_one_way a b c (Err Neighbours) (Err Odd) h k =
    absurd (k.odd (subst AreEven (same_parts a b c h.family k.family h.spelled k.spelled) h.even))
reads_one_way a b c (Err Neighbours) (Err Neighbours) h k = refl

-- ---- one part
pub part_of_digits : (bytes w : List ℕ) → bytes ≡ digits_of w → All IsDigit bytes → length bytes ≤ 16 → SpellsPart bytes w
part_of_digits bytes w e digits few = record {
  part = record { letters = letters_of_digits bytes w e digits; few = omega (arith, ap length e, length-map w (λ x. x + 48), few) };
  digits = e;
}

pub too_long : (bytes : List ℕ) → 16 < length bytes → ¬ (SpellsSomePart bytes)
too_long bytes long (w, h) = omega (arith, ap length h.digits, length-map w (λ x. x + 48), h.part.few, long)

pub other_byte : (bytes : List ℕ) (place : ℕ) → IsFirstOtherByte bytes place → ¬ (SpellsSomePart bytes)
other_byte bytes place other (w, h) = no_other_byte bytes place (digits_of_letters bytes w h.digits h.part.letters) other

-- ---- three parts
pub parts_spelled : (a b c first middle last : List ℕ) → SpellsPart a first → SpellsPart b middle × (0 < length middle) → SpellsPart c last
    → SpellParts a b c (record { first = first; middle = middle; last = last })
parts_spelled a b c first middle last f m l = record {
  parts = record { first = f.part; middle = m.0.part; last = l.part; some = m.1 };
  first = f.digits;
  middle = m.0.digits;
  last = l.digits;
}

-- the parts, as they are read again
parts_again : {u v w first middle last : List ℕ} → u ≡ first → v ≡ middle → w ≡ last
    → ◌≡◌ {A = Parts} (record { first = u; middle = v; last = w }) (record { first = first; middle = middle; last = last })
parts_again f m l = λ i. record { first = f i; middle = m i; last = l i }

pub odd_parts : (a b c first middle last u v w : List ℕ) → SpellsPart a first → SpellsPart b middle × (0 < length middle) → SpellsPart c last
    → u ≡ first → v ≡ middle → w ≡ last → ¬ (AreEven (record { first = u; middle = v; last = w })) → HaveOddLength a b c
odd_parts a b c first middle last u v w f m l fu mv lw odd = record {
  family = record { first = first; middle = middle; last = last };
  spelled = parts_spelled a b c first middle last f m l;
  odd = λ even. odd (subst AreEven (sym (parts_again fu mv lw)) even);
}

pub equal_parts : (a b c first middle last u v w twice : List ℕ) (place : ℕ) → SpellsPart a first → SpellsPart b middle × (0 < length middle)
    → SpellsPart c last → u ≡ first → v ≡ middle → w ≡ last → AreEven (record { first = u; middle = v; last = w })
    → twice ≡ member (record { first = u; middle = v; last = w }) 2 → IsFirstRepeat twice place → HaveEqualNeighbours a b c
equal_parts a b c first middle last u v w twice place f m l fu mv lw even twice_is repeat = record {
  family = record { first = first; middle = middle; last = last };
  spelled = parts_spelled a b c first middle last f m l;
  even = subst AreEven (parts_again fu mv lw) even;
  equal = λ differ. subst NeighboursDiffer (sym (twice_is ∙ ap (λ f. member f 2) (parts_again fu mv lw))) differ place repeat.in_range repeat.repeats;
}

pub family_parts : (a b c first middle last u v w twice : List ℕ) → SpellsPart a first → SpellsPart b middle × (0 < length middle)
    → SpellsPart c last → u ≡ first → v ≡ middle → w ≡ last → AreEven (record { first = u; middle = v; last = w })
    → twice ≡ member (record { first = u; middle = v; last = w }) 2 → NeighboursDiffer twice
    → SpellFamily a b c (record { first = first; middle = middle; last = last })
family_parts a b c first middle last u v w twice f m l fu mv lw even twice_is differ =
    let spelled = parts_spelled a b c first middle last f m l in
    record {
      is_family = record {
        parts = spelled.parts;
        even = subst AreEven (parts_again fu mv lw) even;
        neighbours_differ = subst NeighboursDiffer (twice_is ∙ ap (λ f. member f 2) (parts_again fu mv lw)) differ;
      };
      spelled = spelled;
    }
