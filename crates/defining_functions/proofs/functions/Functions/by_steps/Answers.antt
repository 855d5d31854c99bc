use Rattle.std.proofs.Common.{◌≡◌, length, None, sym, ap, subst, subst₂, ◌∙◌}
use Rattle.defining_functions.specs.Kept.{HaveAllPlaces, IsFunctions}
use Rattle.defining_functions.proofs.functions.Functions.by_steps.Goals as goal

pub invariant_of-result : goal.invariant_of-result
invariant_of-result c =
    let w = c.args.u.now in
    let sides = c.in_ok-sides.sides in
    let uppers = c.in_ok-sides.ensures.uppers in
    let lowers = c.in_ok-sides.ensures.lowers in
    let upper_count : length c.deref.result.now ≡ length w = ap length c.deref.ensures.value ∙ uppers.each.count in
    let lower_count : length c.deref-2.result.now ≡ length w = ap length c.deref-2.ensures.value ∙ lowers.each.count in
    subst
    (λ w. IsFunctions w sides.uppers.heights.items sides.uppers.places.items sides.lowers.heights.items sides.lowers.places.items
    c.in_ok-upper_edges.upper_edges.items c.in_ok-lower_edges.lower_edges.items None)
    (sym (c.copied-word.ensures ∙ c.word.ensures.all))
    (record {
      word = c.word.ensures.is_word;
      shift = c.requires.shift;
      each_upper = uppers;
      each_lower = lowers;
      all_uppers = subst₂ (λ n ps. HaveAllPlaces ps n c.in_ok-upper_edges.upper_edges.items) upper_count c.deref.ensures.value c.in_ok-upper_edges.ensures;
      all_lowers = subst₂ (λ n ps. HaveAllPlaces ps n c.in_ok-lower_edges.lower_edges.items) lower_count c.deref-2.ensures.value c.in_ok-lower_edges.ensures;
      each_size = tt;
    })
