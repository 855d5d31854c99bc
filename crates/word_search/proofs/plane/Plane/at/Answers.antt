use Rattle.std.proofs.Common.{◌≡◌, ◌+◌, ◌<◌, ◌∙◌, ℕ, List, length, slice_index_or, sym, ap, subst, subst₂, arith}
use Rattle.std.specs.List.{All}
use Rattle.std.proofs.lemmas.List.{length_push}
use Rattle.rat_core.specs.Written.{value}
use Rattle.word_search.specs.declared.place.Place.{Place}
use Rattle.word_search.specs.Places.{IsUnit, IsSmallPlace, dir_at}
use Rattle.word_search.proofs.Placed.{next_entry}
use Rattle.sine_fixed.proofs.Turning.{unit_triangle}
use Rattle.word_search.proofs.plane.Plane.at.Goals as goal

pub over_one_denominator-angles-requires-clause-x_least : goal.over_one_denominator-angles-requires-clause-x_least
over_one_denominator-angles-requires-clause-x_least c =
    (unit_triangle (value c.args.x) (value c.args.y) c.requires.first c.requires.second c.requires.third).0

pub over_one_denominator-angles-requires-clause-x_most : goal.over_one_denominator-angles-requires-clause-x_most
over_one_denominator-angles-requires-clause-x_most c =
    (unit_triangle (value c.args.x) (value c.args.y) c.requires.first c.requires.second c.requires.third).1

pub over_one_denominator-angles-requires-clause-y_least : goal.over_one_denominator-angles-requires-clause-y_least
over_one_denominator-angles-requires-clause-y_least c =
    (unit_triangle (value c.args.x) (value c.args.y) c.requires.first c.requires.second c.requires.third).2

pub over_one_denominator-angles-requires-clause-y_most : goal.over_one_denominator-angles-requires-clause-y_most
over_one_denominator-angles-requires-clause-y_most c =
    (unit_triangle (value c.args.x) (value c.args.y) c.requires.first c.requires.second c.requires.third).3

pub loop-number-preserved : goal.loop-number-preserved
loop-number-preserved c =
    let before = c.loop-number.invariant in
    let xs = c.loop-number.units.items in
    let n = c.loop-number.number in
    let items = c.in_ok-push.ensures.items in
    let at = c.over_one_denominator-angles.ensures in
    let near : IsUnit (value c.args.x) (value c.args.y) (dir_at n) c.unit.result =
    subst (λ d. IsUnit (value c.args.x) (value c.args.y) d c.unit.result) c.direction.ensures.is
    (subst₂ (λ x y. IsUnit x y c.direction.result c.unit.result) at.first at.second c.unit.ensures.unit) in
    let count = before.count in
    subst (λ (ys : List Place). record {
      count : length ys ≡ n + 1;
      small : All (IsSmallPlace 1) ys;
      near : (i : ℕ) (p : Place) → i < n + 1 → IsUnit (value c.args.x) (value c.args.y) (dir_at i) (slice_index_or ys i p);
    }) (sym items)
    (record {
      count = length_push xs c.unit.result ∙ ap (λ k. k + 1) count;
      small = λ i p h. next_entry (λ i q. IsSmallPlace 1 q) xs n c.unit.result count (λ j q k. before.small j q (omega
          (arith, k, count))) c.unit.ensures.small i p
          (omega (arith, h, length_push xs c.unit.result, count));
      near = next_entry (λ i q. IsUnit (value c.args.x) (value c.args.y) (dir_at i) q) xs n c.unit.result count before.near near;
    })
