use Rattle.std.proofs.Common.{ℕ, ◌+◌, sym, ap, subst, ◌∙◌}
use Rattle.std.specs.Global.{Vec}
use Rattle.defining_functions.specs.Kept.{HaveAllPlaces}
use Rattle.defining_functions.proofs.AllHeights.{places_again, places_more}
use Rattle.defining_functions.proofs.first_edges.first_edges.Goals.{then-not-is_again+in_ok-push, else-not-is_again}
use Rattle.defining_functions.proofs.first_edges.first_edges.Goals as goal

pub loop-i-preserved : goal.loop-i-preserved
loop-i-preserved c =
    let places = c.args.places.now in
    let i = c.loop-i.i in
    let edges = c.loop-i.edges.items in
    elim c.if-not-is_again.branch [
      | then-not-is_again+in_ok-push w ↦
          subst (HaveAllPlaces places (i + 1)) (sym (ap (λ (v : Vec ℕ). v.items) w.edges-is ∙ w.in_ok-push.ensures.items))
          (places_more places edges i c.loop-i.invariant)
      | else-not-is_again w ↦
          let again = c.is_again.ensures w.if-not-is_again.false in
          subst (HaveAllPlaces places (i + 1)) (sym (ap (λ (v : Vec ℕ). v.items) w.edges-is))
          (places_again places edges i c.loop-i.invariant again.0 again.1)
    ]
