-- The whole numbers as a commutative ring, and as their own image. What the record needs of them is proved in `WholeProducts`
-- and in the library.
use Rattle.std.specs.Prelude.{refl, ℤ, pos, ◌+ℤ◌, ◌*ℤ◌, neg_ℤ}
use Rattle.std.proofs.Math.IntN.{+ℤ_assoc, +ℤ_comm, +ℤ_idr, +ℤ_invr, *ℤ_comm}
use Rattle.ring_solver.specs.Ring.{CommutativeRing, Image}
use Rattle.ring_solver.specs.WholeProducts.{*ℤ-+ℤ, *ℤ_assoc, *ℤ-pos_one}

-- the ring of the whole numbers
abbrev pub ℤ_ring : CommutativeRing
ℤ_ring = record {
  Element = ℤ;
  whole = pos;
  add = ◌+ℤ◌;
  mul = ◌*ℤ◌;
  neg = neg_ℤ;
  add_assoc = +ℤ_assoc;
  add_comm = +ℤ_comm;
  add-zero = +ℤ_idr;
  add-neg = +ℤ_invr;
  mul_assoc = *ℤ_assoc;
  mul_comm = *ℤ_comm;
  mul-one = *ℤ-pos_one;
  mul-add = *ℤ-+ℤ;
  whole-add = λ m n. refl;
}

-- the whole numbers as their own image
abbrev pub ℤ_image : Image ℤ_ring
ℤ_image = record { of = λ a. a; of-pos = λ n. refl; of-add = λ a b. refl; of-mul = λ a b. refl; of-neg = λ a. refl }
