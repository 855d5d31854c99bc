-- The fractions as a commutative ring, and the whole numbers in it. That the laws of a ring hold is proved in `RingLaws`.
use Rattle.std.specs.Prelude.{refl, pos}
use Rattle.ring_solver.specs.Ring.{CommutativeRing, Image}
use Rattle.rat_core.specs.Fraction.{ℚ, ◌÷◌, whole, ◌+ℚ◌, ◌*ℚ◌, neg_ℚ}
use Rattle.rat_core.specs.RingLaws.{add_assoc, add_comm, add-zero, add-neg, mul_assoc, mul_comm, mul-one, mul-add, int-add, int-mul, int-neg}

abbrev pub ℚ_ring : CommutativeRing
ℚ_ring = record {
  Element = ℚ;
  whole = whole;
  add = ◌+ℚ◌;
  mul = ◌*ℚ◌;
  neg = neg_ℚ;
  add_assoc = add_assoc;
  add_comm = add_comm;
  add-zero = add-zero;
  add-neg = add-neg;
  mul_assoc = mul_assoc;
  mul_comm = mul_comm;
  mul-one = mul-one;
  mul-add = mul-add;
  whole-add = λ m n. int-add (pos m) (pos n);
}

-- the whole numbers in the fractions
abbrev pub ℚ_image : Image ℚ_ring
ℚ_image = record { of = λ a. a ÷ 1; of-pos = λ n. refl; of-add = int-add; of-mul = int-mul; of-neg = int-neg }
