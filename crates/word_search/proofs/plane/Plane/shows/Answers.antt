use Rattle.std.proofs.Common.{◌≤◌, List, ℕ, length, ap, sym, subst, FitsSigned, ◌∙◌, arith}
use Rattle.std.specs.Int.{w128}
use Rattle.std.proofs.lemmas.Int.{to_z-of_z}
use Rattle.std.proofs.lemmas.Bool.{false≢true}
use Rattle.rat_core.specs.Written.{Written, value}
use Rattle.edge_words.specs.Stable.{IsStable}
use Rattle.edge_words.specs.Word.{IsWord}
use Rattle.gradient_bounds.specs.Clear.{slack, IsClearAtPoint}
use Rattle.gradient_bounds.specs.Corridor.{HasCorridor}
use Rattle.word_search.specs.Places.{AreUnits}
use Rattle.word_search.proofs.Shown.{shift_small, uppers_small, lowers_small, met_size, shown, not_shown}
use Rattle.word_search.proofs.plane.Plane.shows.Goals as goal

pub least_height-least-requires-clause-shift : goal.least_height-least-requires-clause-shift
least_height-least-requires-clause-shift c =
    let few : length c.letters-letters.result.now ≤ 24 = omega (arith, ap length c.letters-letters.ensures.all, c.requires.few) in
    let word = subst IsWord (sym c.letters-letters.ensures.all) c.letters-letters.ensures.is_word in
    let are = subst (AreUnits (c.self.inside.x, c.self.inside.y)) (sym c.deref.ensures.value) c.self.invariant in
    let k = c.corners_of-corners in
    shift_small (c.self.inside.x, c.self.inside.y) c.deref.result.now are c.letters-letters.result.now word few
    k.result.uppers k.result.lowers k.result.shift k.ensures.room.0 k.ensures.room.1 k.ensures.uppers k.ensures.lowers k.ensures.shift

pub least_height-least-requires-clause-places : goal.least_height-least-requires-clause-places
least_height-least-requires-clause-places c =
    let few : length c.letters-letters.result.now ≤ 24 = omega (arith, ap length c.letters-letters.ensures.all, c.requires.few) in
    let word = subst IsWord (sym c.letters-letters.ensures.all) c.letters-letters.ensures.is_word in
    let are = subst (AreUnits (c.self.inside.x, c.self.inside.y)) (sym c.deref.ensures.value) c.self.invariant in
    let k = c.corners_of-corners in
    uppers_small (c.self.inside.x, c.self.inside.y) c.deref.result.now are c.letters-letters.result.now word few
    k.result.uppers k.result.lowers k.result.shift k.ensures.room.0 k.ensures.room.1 k.ensures.uppers k.ensures.lowers k.ensures.shift

pub greatest_height-greatest-requires-clause-shift : goal.greatest_height-greatest-requires-clause-shift
greatest_height-greatest-requires-clause-shift c =
    let few : length c.letters-letters.result.now ≤ 24 = omega (arith, ap length c.letters-letters.ensures.all, c.requires.few) in
    let word = subst IsWord (sym c.letters-letters.ensures.all) c.letters-letters.ensures.is_word in
    let are = subst (AreUnits (c.self.inside.x, c.self.inside.y)) (sym c.deref.ensures.value) c.self.invariant in
    let k = c.corners_of-corners in
    shift_small (c.self.inside.x, c.self.inside.y) c.deref.result.now are c.letters-letters.result.now word few
    k.result.uppers k.result.lowers k.result.shift k.ensures.room.0 k.ensures.room.1 k.ensures.uppers k.ensures.lowers k.ensures.shift

pub greatest_height-greatest-requires-clause-places : goal.greatest_height-greatest-requires-clause-places
greatest_height-greatest-requires-clause-places c =
    let few : length c.letters-letters.result.now ≤ 24 = omega (arith, ap length c.letters-letters.ensures.all, c.requires.few) in
    let word = subst IsWord (sym c.letters-letters.ensures.all) c.letters-letters.ensures.is_word in
    let are = subst (AreUnits (c.self.inside.x, c.self.inside.y)) (sym c.deref.ensures.value) c.self.invariant in
    let k = c.corners_of-corners in
    lowers_small (c.self.inside.x, c.self.inside.y) c.deref.result.now are c.letters-letters.result.now word few
    k.result.uppers k.result.lowers k.result.shift k.ensures.room.0 k.ensures.room.1 k.ensures.uppers k.ensures.lowers k.ensures.shift

pub is_above-requires-clause-first : goal.is_above-requires-clause-first
is_above-requires-clause-first c =
    let few : length c.letters-letters.result.now ≤ 24 = omega (arith, ap length c.letters-letters.ensures.all, c.requires.few) in
    let word = subst IsWord (sym c.letters-letters.ensures.all) c.letters-letters.ensures.is_word in
    let are = subst (AreUnits (c.self.inside.x, c.self.inside.y)) (sym c.deref.ensures.value) c.self.invariant in
    let k = c.corners_of-corners in
    let fits : FitsSigned w128 c.least_height-least.result = record { sfits = c.least_height-least.type_inv } in
    simp to_z-of_z
    (met_size (c.self.inside.x, c.self.inside.y) c.deref.result.now are c.letters-letters.result.now word few
    k.result.uppers k.result.lowers k.result.shift k.ensures.room.0 k.ensures.room.1 k.ensures.uppers k.ensures.lowers k.ensures.shift
    _ c.least_height-least.result
    (uppers_small (c.self.inside.x, c.self.inside.y) c.deref.result.now are c.letters-letters.result.now word few
    k.result.uppers k.result.lowers k.result.shift k.ensures.room.0 k.ensures.room.1 k.ensures.uppers k.ensures.lowers k.ensures.shift)
    c.least_height-least.ensures.met)

pub is_above-requires-clause-second : goal.is_above-requires-clause-second
is_above-requires-clause-second c =
    let few : length c.letters-letters.result.now ≤ 24 = omega (arith, ap length c.letters-letters.ensures.all, c.requires.few) in
    let word = subst IsWord (sym c.letters-letters.ensures.all) c.letters-letters.ensures.is_word in
    let are = subst (AreUnits (c.self.inside.x, c.self.inside.y)) (sym c.deref.ensures.value) c.self.invariant in
    let k = c.corners_of-corners in
    let fits : FitsSigned w128 c.greatest_height-greatest.result = record { sfits = c.greatest_height-greatest.type_inv } in
    simp to_z-of_z
    (met_size (c.self.inside.x, c.self.inside.y) c.deref.result.now are c.letters-letters.result.now word few
    k.result.uppers k.result.lowers k.result.shift k.ensures.room.0 k.ensures.room.1 k.ensures.uppers k.ensures.lowers k.ensures.shift
    _ c.greatest_height-greatest.result
    (lowers_small (c.self.inside.x, c.self.inside.y) c.deref.result.now are c.letters-letters.result.now word few
    k.result.uppers k.result.lowers k.result.shift k.ensures.room.0 k.ensures.room.1 k.ensures.uppers k.ensures.lowers k.ensures.shift)
    c.greatest_height-greatest.ensures.met)

pub returns-clause-open : goal.returns-clause-open
returns-clause-open c = λ is.
    let few : length c.letters-letters.result.now ≤ 24 = omega (arith, ap length c.letters-letters.ensures.all, c.requires.few) in
    let word = subst IsWord (sym c.letters-letters.ensures.all) c.letters-letters.ensures.is_word in
    let are = subst (AreUnits (c.self.inside.x, c.self.inside.y)) (sym c.deref.ensures.value) c.self.invariant in
    let k = c.corners_of-corners in
    let fits : FitsSigned w128 c.least_height-least.result = record { sfits = c.least_height-least.type_inv } in
    let fits' : FitsSigned w128 c.greatest_height-greatest.result = record { sfits = c.greatest_height-greatest.type_inv } in
    let iff = simp to_z-of_z at c.is_above.ensures in
    let all = c.letters-letters.ensures.all in
    let open_there = shown (c.self.inside.x, c.self.inside.y) c.deref.result.now are c.letters-letters.result.now
    word few k.result.uppers k.result.lowers k.result.shift k.ensures.room.0 k.ensures.room.1 k.ensures.uppers k.ensures.lowers
    k.ensures.shift c.least_height-least.result c.greatest_height-greatest.result c.least_height-least.ensures.least c.greatest_height-greatest.ensures.greatest
    (iff.0 is) (subst IsStable (sym all) c.requires.stable) in
    subst (λ (at : Written × Written). HasCorridor c.args.word.now (value at.0) (value at.1)) c.self.view_is
    (subst (λ (v : List ℕ). HasCorridor v (value c.self.inside.x) (value c.self.inside.y)) all open_there)

pub returns-clause-not_shown : goal.returns-clause-not_shown
returns-clause-not_shown c = λ is clear.
    let few : length c.letters-letters.result.now ≤ 24 = omega (arith, ap length c.letters-letters.ensures.all, c.requires.few) in
    let word = subst IsWord (sym c.letters-letters.ensures.all) c.letters-letters.ensures.is_word in
    let are = subst (AreUnits (c.self.inside.x, c.self.inside.y)) (sym c.deref.ensures.value) c.self.invariant in
    let k = c.corners_of-corners in
    let fits : FitsSigned w128 c.least_height-least.result = record { sfits = c.least_height-least.type_inv } in
    let fits' : FitsSigned w128 c.greatest_height-greatest.result = record { sfits = c.greatest_height-greatest.type_inv } in
    let iff = simp to_z-of_z at c.is_above.ensures in
    let all = c.letters-letters.ensures.all in
    let here = subst (λ (v : List ℕ). IsClearAtPoint v (value c.self.inside.x) (value c.self.inside.y) (slack 40)) (sym all)
    (subst (λ (at : Written × Written). IsClearAtPoint c.args.word.now (value at.0) (value at.1) (slack 40)) (sym c.self.view_is) clear) in
    not_shown (c.self.inside.x, c.self.inside.y) c.deref.result.now are c.letters-letters.result.now
    word few k.result.uppers k.result.lowers k.result.shift k.ensures.room.0 k.ensures.room.1 k.ensures.uppers k.ensures.lowers
    k.ensures.shift c.least_height-least.result c.greatest_height-greatest.result c.least_height-least.ensures.met c.greatest_height-greatest.ensures.met
    (λ enough. false≢true (sym is ∙ iff.1 enough)) (subst IsStable (sym all) c.requires.stable) here
