use Rattle.std.proofs.Common.{◌≡◌, refl, sym, subst, subst₂, ℕ, ◌+◌, ◌-◌, ◌<◌, ◌≤◌, length, slice_index_or, pos, ◌≤ℤ◌, ◌<ℤ◌, FitsSigned, to_z}
use Rattle.std.specs.Int.{w128}
use Rattle.std.proofs.lemmas.Int.{to_z-of_z}
use Rattle.gradient_bounds.proofs.Outermost.{one_more, less_at_most, not_less_at_most, at_most_itself, at_most_through, number_fits}
use Rattle.gradient_bounds.proofs.extremes.least.Goals.{then-is_less, else-is_less}
use Rattle.gradient_bounds.proofs.extremes.least.Goals as goal

pub loop-edge-preserved : goal.loop-edge-preserved
loop-edge-preserved c =
    let num = λ (e : ℕ). slice_index_or c.args.numbers.now (e - 1) (pos 0) in
    let edges = c.args.edges.now in
    let i = c.loop-edge.edge-index in
    let edge = slice_index_or edges i 0 in
    let place = c.loop-edge.place in
    let inside : (1 ≤ edge) × (edge ≤ length c.args.numbers.now) = c.requires.edges i 0 c.loop-edge-test.true in
    let next_fits : FitsSigned w128 (num edge) = number_fits c.args.numbers.now c.requires.small edge inside in
    let number = to_z w128 c.loop-edge.number-bits in
    let number_is : number ≡ num place = c.loop-edge.invariant.number in
    let fits : FitsSigned w128 (to_z w128 c.loop-edge.number-bits) = subst (FitsSigned w128) (sym number_is)
    (number_fits c.args.numbers.now c.requires.small place c.loop-edge.invariant.place) in
    elim c.if-is_less.branch [
      | then-is_less w ↦
          let iff = simp to_z-of_z at w.if-is_less.ensures in
          let less = less_at_most (num edge) (num place) (subst (λ z. num edge <ℤ z) number_is (iff.0 refl)) in
          subst₂ (λ p z. record {
            number : z ≡ num p;
            place : (1 ≤ p) × (p ≤ length c.args.numbers.now);
            least : (j d : ℕ) → j < i + 1 → num p ≤ℤ num (slice_index_or edges j d);
          }) (sym w.place-is) (sym w.number-is)
          (record {
            number = simp to_z-of_z;
            place = inside;
            least = one_more (λ e. num edge ≤ℤ num e) edges i c.loop-edge-test.true
                (λ j d h. at_most_through (num edge) (num place) (num (slice_index_or edges j d)) less (c.loop-edge.invariant.least j d h))
                (at_most_itself (num edge));
          })
      | else-is_less w ↦
          let iff = simp to_z-of_z at w.if-is_less.ensures in
          let more = subst (λ z. z ≤ℤ num edge) number_is (not_less_at_most (num edge) number iff) in
          subst₂ (λ p z. record {
            number : z ≡ num p;
            place : (1 ≤ p) × (p ≤ length c.args.numbers.now);
            least : (j d : ℕ) → j < i + 1 → num p ≤ℤ num (slice_index_or edges j d);
          }) (sym w.place-is) (sym w.number-is)
          (record {
            number = number_is;
            place = c.loop-edge.invariant.place;
            least = one_more (λ e. num place ≤ℤ num e) edges i c.loop-edge-test.true c.loop-edge.invariant.least more;
          })
    ]
