use Rattle.std.proofs.Common.{◌≡◌, take}
use Rattle.ring_solver.proofs.Whole.{ℤ_ring, ℤ_image}
use Rattle.exp_sums.specs.Weigh.{weigh_terms}
use Rattle.gradient_bounds.specs.HeightSums.{dirs_of, terms_at}
use Rattle.gradient_bounds.specs.Table.{low_in}
use Rattle.gradient_bounds.proofs.height_numbers.number_at.Given as goal

-- the sum over the terms so far
abbrev pub invariant-loop-term : goal.invariant-loop-term
invariant-loop-term l = l.total ≡ weigh_terms ℤ_ring ℤ_image (low_in l.table) (take l.term-index (terms_at (dirs_of l.table) l.row))
