-- The table of the coefficients: each entry is at most one unit below its coefficient, and they fall.
use Rattle.std.proofs.Common.{ℕ, zero, suc, ◌+◌, ◌*◌, ◌/◌, ◌^◌, ◌<◌, ◌≤◌, arith, lit≤, mul-le-mul, slice_index_or}
use Rattle.std.proofs.Math.Nat.{div-le_of_le-mul}
use Rattle.rat_core.specs.Fraction.{◌÷◌, ◌+ℚ◌, ◌*ℚ◌, at_most}
use Rattle.sine_fixed.specs.declared.series.TheConstants.{COEFFICIENTS}
use Rattle.sine_fixed.specs.Near.{IsNear}
use Rattle.sine_fixed.proofs.Horner.{coefficient}

-- the number at place j
abbrev pub entry : ℕ → ℕ
entry j = slice_index_or COEFFICIENTS j 0

near_0 : IsNear 0 1 (entry 0) (coefficient 0)
unfolding at_most ◌+ℚ◌ ◌*ℚ◌ ◌÷◌
near_0 = record { low = record { le = tt }; high = record { le = tt } }

near_1 : IsNear 0 1 (entry 1) (coefficient 1)
unfolding at_most ◌+ℚ◌ ◌*ℚ◌ ◌÷◌
near_1 = record { low = record { le = tt }; high = record { le = tt } }

near_2 : IsNear 0 1 (entry 2) (coefficient 2)
unfolding at_most ◌+ℚ◌ ◌*ℚ◌ ◌÷◌
near_2 = record { low = record { le = tt }; high = record { le = tt } }

near_3 : IsNear 0 1 (entry 3) (coefficient 3)
unfolding at_most ◌+ℚ◌ ◌*ℚ◌ ◌÷◌
near_3 = record { low = record { le = tt }; high = record { le = tt } }

near_4 : IsNear 0 1 (entry 4) (coefficient 4)
unfolding at_most ◌+ℚ◌ ◌*ℚ◌ ◌÷◌
near_4 = record { low = record { le = tt }; high = record { le = tt } }

near_5 : IsNear 0 1 (entry 5) (coefficient 5)
unfolding at_most ◌+ℚ◌ ◌*ℚ◌ ◌÷◌
near_5 = record { low = record { le = tt }; high = record { le = tt } }

near_6 : IsNear 0 1 (entry 6) (coefficient 6)
unfolding at_most ◌+ℚ◌ ◌*ℚ◌ ◌÷◌
near_6 = record { low = record { le = tt }; high = record { le = tt } }

near_7 : IsNear 0 1 (entry 7) (coefficient 7)
unfolding at_most ◌+ℚ◌ ◌*ℚ◌ ◌÷◌
near_7 = record { low = record { le = tt }; high = record { le = tt } }

near_8 : IsNear 0 1 (entry 8) (coefficient 8)
unfolding at_most ◌+ℚ◌ ◌*ℚ◌ ◌÷◌
near_8 = record { low = record { le = tt }; high = record { le = tt } }

near_9 : IsNear 0 1 (entry 9) (coefficient 9)
unfolding at_most ◌+ℚ◌ ◌*ℚ◌ ◌÷◌
near_9 = record { low = record { le = tt }; high = record { le = tt } }

near_10 : IsNear 0 1 (entry 10) (coefficient 10)
unfolding at_most ◌+ℚ◌ ◌*ℚ◌ ◌÷◌
near_10 = record { low = record { le = tt }; high = record { le = tt } }

near_11 : IsNear 0 1 (entry 11) (coefficient 11)
unfolding at_most ◌+ℚ◌ ◌*ℚ◌ ◌÷◌
near_11 = record { low = record { le = tt }; high = record { le = tt } }

pub entry_near : (j : ℕ) → j < 12 → IsNear 0 1 (entry j) (coefficient j)
entry_near zero h = near_0
entry_near (suc zero) h = near_1
entry_near (suc (suc zero)) h = near_2
entry_near (suc (suc (suc zero))) h = near_3
entry_near (suc (suc (suc (suc zero)))) h = near_4
entry_near (suc (suc (suc (suc (suc zero))))) h = near_5
entry_near (suc (suc (suc (suc (suc (suc zero)))))) h = near_6
entry_near (suc (suc (suc (suc (suc (suc (suc zero))))))) h = near_7
entry_near (suc (suc (suc (suc (suc (suc (suc (suc zero)))))))) h = near_8
entry_near (suc (suc (suc (suc (suc (suc (suc (suc (suc zero))))))))) h = near_9
entry_near (suc (suc (suc (suc (suc (suc (suc (suc (suc (suc zero)))))))))) h = near_10
entry_near (suc (suc (suc (suc (suc (suc (suc (suc (suc (suc (suc zero))))))))))) h = near_11
entry_near (suc (suc (suc (suc (suc (suc (suc (suc (suc (suc (suc (suc j)))))))))))) h = absurd (omega (arith, h))

pub entry_small : (j : ℕ) → j < 12 → entry j ≤ 2 ^ 60
entry_small zero h = lit≤ tt
entry_small (suc zero) h = lit≤ tt
entry_small (suc (suc zero)) h = lit≤ tt
entry_small (suc (suc (suc zero))) h = lit≤ tt
entry_small (suc (suc (suc (suc zero)))) h = lit≤ tt
entry_small (suc (suc (suc (suc (suc zero))))) h = lit≤ tt
entry_small (suc (suc (suc (suc (suc (suc zero)))))) h = lit≤ tt
entry_small (suc (suc (suc (suc (suc (suc (suc zero))))))) h = lit≤ tt
entry_small (suc (suc (suc (suc (suc (suc (suc (suc zero)))))))) h = lit≤ tt
entry_small (suc (suc (suc (suc (suc (suc (suc (suc (suc zero))))))))) h = lit≤ tt
entry_small (suc (suc (suc (suc (suc (suc (suc (suc (suc (suc zero)))))))))) h = lit≤ tt
entry_small (suc (suc (suc (suc (suc (suc (suc (suc (suc (suc (suc zero))))))))))) h = lit≤ tt
entry_small (suc (suc (suc (suc (suc (suc (suc (suc (suc (suc (suc (suc j)))))))))))) h = absurd (omega (arith, h))

-- two neighbours come to at most the entry before them
pub neighbours_small : (j : ℕ) → j < 10 → entry (suc j) + entry (suc (suc j)) ≤ entry j
neighbours_small zero h = lit≤ tt
neighbours_small (suc zero) h = lit≤ tt
neighbours_small (suc (suc zero)) h = lit≤ tt
neighbours_small (suc (suc (suc zero))) h = lit≤ tt
neighbours_small (suc (suc (suc (suc zero)))) h = lit≤ tt
neighbours_small (suc (suc (suc (suc (suc zero))))) h = lit≤ tt
neighbours_small (suc (suc (suc (suc (suc (suc zero)))))) h = lit≤ tt
neighbours_small (suc (suc (suc (suc (suc (suc (suc zero))))))) h = lit≤ tt
neighbours_small (suc (suc (suc (suc (suc (suc (suc (suc zero)))))))) h = lit≤ tt
neighbours_small (suc (suc (suc (suc (suc (suc (suc (suc (suc zero))))))))) h = lit≤ tt
neighbours_small (suc (suc (suc (suc (suc (suc (suc (suc (suc (suc j)))))))))) h = absurd (omega (arith, h))

-- a product with a number that is at most 1
pub part_of : (y p : ℕ) → y ≤ 2 ^ 60 → y * p / 2 ^ 60 ≤ p
part_of y p small =
    let product : y * p ≤ 2 ^ 60 * p = mul-le-mul {n₁ = y} {m₁ = p} {n₂ = 2 ^ 60} {m₂ = p} small (omega arith) in
    div-le_of_le-mul (2 ^ 60) product
