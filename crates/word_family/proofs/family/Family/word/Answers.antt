use Rattle.std.proofs.Common.{refl, sym, subst, ◌∙◌, inl, inr, arith}
use Rattle.edge_words.specs.Word.{IsWord}
use Rattle.word_family.proofs.Members.{count_is}
use Rattle.word_family.proofs.Links.{member_is_word}
use Rattle.word_family.proofs.family.Family.word.Goals as goal
use Rattle.word_family.proofs.family.Family.word.Goals.{then-count-lt6-via-then-count-lt6, then-count-lt6-via-else-count-lt6+then-count-gt-MAX_LETTERS}

pub returns-then-count-lt6-clause-none : goal.returns-then-count-lt6-clause-none
returns-then-count-lt6-clause-none c =
    let count = count_is c.args.self.now _ c.args.n _ _ _ c.self.view_is c.letters.ensures.all c.letters-2.ensures.all c.letters-3.ensures.all in (
      λ _. elim c.then-count-lt6.branch [
        | then-count-lt6-via-then-count-lt6 w ↦ inl (omega (arith, count, w.if-count-lt6.true))
        | then-count-lt6-via-else-count-lt6+then-count-gt-MAX_LETTERS w ↦ inr (omega (arith, count, w.if-count-gt-MAX_LETTERS.true))
      ],
      λ _. refl,
    )

pub returns-clause-none : goal.returns-clause-none
returns-clause-none c =
    let count = count_is c.args.self.now _ c.args.n _ _ _ c.self.view_is c.letters.ensures.all c.letters-2.ensures.all c.letters-3.ensures.all in (
      λ none. cc,
      λ other. elim other [
        | inl short ↦ absurd (omega (arith, count, c.if-count-lt6.false, short))
        | inr long ↦ absurd (omega (arith, count, c.if-count-gt-MAX_LETTERS.false, long))
      ],
    )

pub letters_of-requires : goal.letters_of-requires
letters_of-requires c =
    let count = count_is c.args.self.now _ c.args.n _ _ _ c.self.view_is c.letters.ensures.all c.letters-2.ensures.all c.letters-3.ensures.all in
    omega (arith, count, c.if-count-gt-MAX_LETTERS.false)

pub from_letters-requires : goal.from_letters-requires
from_letters-requires c =
    let count = count_is c.args.self.now _ c.args.n _ _ _ c.self.view_is c.letters.ensures.all c.letters-2.ensures.all c.letters-3.ensures.all in
    subst IsWord (sym (c.deref.ensures.0 ∙ c.letters_of.ensures.member))
    (member_is_word c.args.self.now c.args.n c.letters_of.ensures.family c.requires.0
    (omega (arith, count, c.if-count-lt6.false)) (omega (arith, count, c.if-count-gt-MAX_LETTERS.false)))
