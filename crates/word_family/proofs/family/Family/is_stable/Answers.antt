use Rattle.std.proofs.Common.{◌≡◌, sym, ap, subst, ◌∙◌, arith}
use Rattle.edge_words.specs.Stable.{IsStable}
use Rattle.word_family.specs.Family.{Parts, IsFamily}
use Rattle.word_family.proofs.Members.{ends_fit}
use Rattle.word_family.proofs.MemberStability.{stable_between, stable_family}
use Rattle.word_family.proofs.family.Family.is_stable.Goals as goal

pub letters_of-requires : goal.letters_of-requires
letters_of-requires c =
    let is : IsFamily c.args.self.now = subst IsFamily c.self.view_is c.self.invariant in
    omega (arith, ends_fit c.args.self.now is.parts)

pub returns-then-is_stable : goal.returns-then-is_stable
returns-then-is_stable c =
    let f = c.args.self.now in
    let is : IsFamily f = subst IsFamily c.self.view_is c.self.invariant in
    let middle_is : c.letters.result.now ≡ f.middle = c.letters.ensures.all ∙ ap (λ (f : Parts). f.middle) c.self.view_is in
    let middle : IsStable f.middle = subst IsStable middle_is (c.is_stable.ensures.0 c.if-is_stable.true) in
    let ends_is = c.deref.ensures.0 ∙ c.letters_of.ensures.member in (
      λ ends. stable_family f is.even (subst IsStable ends_is (c.is_stable-then-is_stable.ensures.0 ends)) middle,
      λ stable. c.is_stable-then-is_stable.ensures.1 (subst IsStable (sym ends_is) (stable_between f is.even stable).ends),
    )

pub returns-else-is_stable : goal.returns-else-is_stable
returns-else-is_stable c =
    let f = c.args.self.now in
    let is : IsFamily f = subst IsFamily c.self.view_is c.self.invariant in
    let middle_is : c.letters.result.now ≡ f.middle = c.letters.ensures.all ∙ ap (λ (f : Parts). f.middle) c.self.view_is in
    let unstable = c.if-is_stable.false in (
      λ no. cc,
      λ stable. c.is_stable.ensures.1 (subst IsStable (sym middle_is) (stable_between f is.even stable).middle),
    )
