use Rattle.std.proofs.Common.{◌≡◌, sym, subst₂, ◌∙◌, ℤ, pos, ◌+ℤ◌, ◌*ℤ◌, FitsSigned, arith}
use Rattle.std.specs.Int.{w32, w64}
use Rattle.std.proofs.lemmas.Int.{ints, to_z-of_z, fits_signed_from_abs}
use Rattle.sine_fixed.proofs.Turning.{fits_32}
use Rattle.sine_fixed.proofs.SineTables.{IsPartsOfTurn, PartsFit, parts_of_turn}
use Rattle.sine_fixed.proofs.sine_table.parts_of_turn.Goals as goal

-- the four numbers, which fit, and what is computed of them
record AreComputed (c : goal.After-from-4) : Type 0 where
  pub m : FitsSigned w64 c.from.result
  pub x : FitsSigned w64 c.from-2.result
  pub n : FitsSigned w64 c.from-3.result
  pub y : FitsSigned w64 c.from-4.result
  pub fit : PartsFit (c.from.result *ℤ c.from-2.result) (c.from-3.result *ℤ c.from-4.result)
  pub parts : IsPartsOfTurn c.args.dir c.args.at.now.first c.args.at.now.second (c.from.result *ℤ c.from-2.result +ℤ c.from-3.result *ℤ c.from-4.result)

are_computed : (c : goal.After-from-4) → AreComputed c
are_computed c =
    let near = c.requires.near in
    let near_m = near.m in
    let near_n = near.n in
    let x_small = c.requires.angles.first in
    let y_small = c.requires.angles.second in
    let m_is : c.from.result ≡ c.args.dir.m = c.from.ensures ∙ to_z-of_z w32 c.args.dir.m (fits_32 c.args.dir.m near_m) in
    let n_is : c.from-3.result ≡ c.args.dir.n = c.from-3.ensures ∙ to_z-of_z w32 c.args.dir.n (fits_32 c.args.dir.n near_n) in
    let x_is : c.from-2.result ≡ pos c.args.at.now.first = c.from-2.ensures in
    let y_is : c.from-4.result ≡ pos c.args.at.now.second = c.from-4.ensures in
    let all = parts_of_turn c.args.dir c.args.at.now.first c.args.at.now.second near x_small y_small in
    record {
      m = fits_signed_from_abs w64 c.from.result (omega (arith, ints));
      x = fits_signed_from_abs w64 c.from-2.result (omega (arith, ints));
      n = fits_signed_from_abs w64 c.from-3.result (omega (arith, ints));
      y = fits_signed_from_abs w64 c.from-4.result (omega (arith, ints));
      fit = subst₂ PartsFit (sym (λ i. m_is i *ℤ x_is i)) (sym (λ i. n_is i *ℤ y_is i)) all.0;
      parts = subst₂ (λ (p q : ℤ). IsPartsOfTurn c.args.dir c.args.at.now.first c.args.at.now.second (p +ℤ q))
          (sym (λ i. m_is i *ℤ x_is i)) (sym (λ i. n_is i *ℤ y_is i)) all.1;
    }

pub overflow_add-result : goal.overflow_add-result
overflow_add-result c =
    let are = are_computed c in
    let m = are.m in
    let x = are.x in
    let n = are.n in
    let y = are.y in
    let first = are.fit.first in
    let second = are.fit.second in
    simp to_z-of_z are.fit.sum

pub returns-clause-turn : goal.returns-clause-turn
returns-clause-turn c =
    let are = are_computed c in
    let m = are.m in
    let x = are.x in
    let n = are.n in
    let y = are.y in
    let first = are.fit.first in
    let second = are.fit.second in
    let sum = are.fit.sum in
    simp to_z-of_z are.parts.turn

pub returns-clause-size : goal.returns-clause-size
returns-clause-size c =
    let are = are_computed c in
    let m = are.m in
    let x = are.x in
    let n = are.n in
    let y = are.y in
    let first = are.fit.first in
    let second = are.fit.second in
    let sum = are.fit.sum in
    simp to_z-of_z are.parts.size
