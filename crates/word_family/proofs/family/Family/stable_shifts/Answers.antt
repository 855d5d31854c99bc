use Rattle.std.proofs.Common.{ap, ap₂, subst, ◌++◌, ◌∙◌}
use Rattle.word_family.specs.Family.{Parts, IsFamily}
use Rattle.word_family.proofs.MemberShifts.{shifts_are}
use Rattle.word_family.proofs.family.Family.stable_shifts.Goals as goal

pub returns : goal.returns
returns c =
    shifts_are c.args.self.now (subst IsFamily c.self.view_is c.self.invariant) c.requires
    c.deref.result.now c.letters.result.now c.deref-2.result.now
    (c.deref.ensures.0 ∙ c.letters_of.ensures.member)
    (c.letters.ensures.all ∙ ap (λ (f : Parts). f.first) c.self.view_is)
    (c.deref-2.ensures.0 ∙ c.joined.ensures ∙ ap₂ ◌++◌ c.letters-2.ensures.all c.letters-3.ensures.all
    ∙ ap (λ (f : Parts). f.first ++ f.middle) c.self.view_is)
    c.in_ok-base.base c.in_ok-before.before c.in_ok-step.step c.sub.new.self
    c.in_ok-base.ensures.centre c.in_ok-before.ensures.centre c.in_ok-step.ensures.centre c.in_ok-sub.ensures.ok
