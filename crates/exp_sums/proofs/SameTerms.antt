-- What the tests for equal directions, terms and sums tell.
use Rattle.std.proofs.Common.{◌≡◌, Bool, true, false, ◌&&◌, refl, ap}
use Rattle.std.specs.Bool.{Decides}
use Rattle.std.specs.Ordering.{int_eq}
use Rattle.std.proofs.lemmas.Bool.Decides.{Decides-int_eq}
use Rattle.exp_sums.specs.declared.direction.Dir.{Dir}
use Rattle.exp_sums.specs.declared.terms.Term.{Term}

pub both : {P Q : Type 0} (a b : Bool) → Decides a P → Decides b Q → Decides (a && b) (P × Q)
both true true h k = (λ _. (h.0 refl, k.0 refl), λ _. refl)
both true false h k = (λ e. cc, λ p. k.1 p.1)
both false b h k = (λ e. cc, λ p. h.1 p.0)

pub dir_decides : (d e : Dir) → Decides (int_eq d.m e.m && int_eq d.n e.n) (d ≡ e)
dir_decides d e =
    let numbers = both (int_eq d.m e.m) (int_eq d.n e.n) (Decides-int_eq d.m e.m) (Decides-int_eq d.n e.n) in (
      λ t. (let is = numbers.0 t in λ i. record { m = is.0 i; n = is.1 i }),
      λ p. numbers.1 (ap (λ d. d.m) p, ap (λ d. d.n) p),
    )

pub term_decides : (t u : Term) → Decides ((int_eq t.dir.m u.dir.m && int_eq t.dir.n u.dir.n) && int_eq t.c u.c) (t ≡ u)
term_decides t u =
    let parts_are = both (int_eq t.dir.m u.dir.m && int_eq t.dir.n u.dir.n) (int_eq t.c u.c) (dir_decides t.dir u.dir) (Decides-int_eq t.c u.c) in (
      λ h. (let is = parts_are.0 h in λ i. record { dir = is.0 i; c = is.1 i }),
      λ p. parts_are.1 (ap (λ t. t.dir) p, ap (λ t. t.c) p),
    )
