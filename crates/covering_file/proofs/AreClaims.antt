-- What the lemmas on nodes ask of claims. Those of the checker are such, and those of one who reads a tree without judging it.
use Rattle.std.proofs.Common.{◌≡◌, ◌≢◌, ◌<◌, Bool, true, false, refl, sym, ap, ◌∙◌, subst, arith}
use Rattle.std.specs.Prelude.{nat_lt, cond}
use Rattle.rational_polygon.specs.Square.{Square}
use Rattle.line_grammar.specs.declared.reason.Reason.{Reason}
use Rattle.line_grammar.specs.declared.reason.Reason.TheVariants.{NotShown, TooMany, TooShallow}
use Rattle.line_grammar.specs.Offence.{number_of}
use Rattle.covering_file.specs.declared.node.Node.{Node}
use Rattle.covering_file.specs.declared.node.Node.TheVariants.{Split, Outside, Shown, Corner, Uncovered}
use Rattle.covering_file.specs.CheckClaims.{check_claims}
use Rattle.covering_file.specs.FilePart.{Claims}
use Rattle.covering_file.specs.Header.{Heading}
use Rattle.covering_file.specs.Sound.{reason_of}
use Rattle.covering_file.specs.TreeFile.{level_claims, level_reason}

-- The reason for which a claim is refused is none of a form, nor that there are enough nodes. One alone comes after that.
pub record IsClaimReason (r : Reason) : Type 0 where
  pub late : 4 < number_of r
  pub apart : r ≢ TooMany
  pub last : 14 < number_of r → r ≡ TooShallow

-- A node that has a reason lacks each lesser one, one that may stand lacks all, and a split may stand above the full depth alone.
pub record AreClaims (claims : Claims) : Type 0 where
  pub whole : (h : Heading) (box : Square) (n : Node) (r : Reason) → claims.Has h box n r → IsClaimReason r
  pub lesser : (h : Heading) (box : Square) (n : Node) (r s : Reason) → claims.Has h box n r → number_of s < number_of r → claims.Lacks h box n s
  pub passed : (h : Heading) (box : Square) (n : Node) (s : Reason) → claims.MayStand h box n → claims.Lacks h box n s
  pub splits : (h : Heading) (box : Square) → claims.MayStand h box Split → box.level < h.depth

shallow_reason : IsClaimReason TooShallow
shallow_reason = record { late = omega arith; apart = λ is. cc; last = λ more. refl }

-- ---- the checker's

corner_reason : (shallow : Bool) → IsClaimReason (cond shallow TooShallow NotShown)
corner_reason true = shallow_reason
corner_reason false = record { late = omega arith; apart = λ is. cc; last = λ more. absurd (omega (arith, more)) }

check_reason : (box : Square) (n : Node) → IsClaimReason (reason_of box n)
check_reason box (Corner i) = corner_reason (nat_lt box.level 10)
check_reason box Split = record { late = omega arith; apart = λ is. cc; last = λ more. absurd (omega (arith, more)) }
check_reason box Outside = record { late = omega arith; apart = λ is. cc; last = λ more. absurd (omega (arith, more)) }
check_reason box (Shown i) = record { late = omega arith; apart = λ is. cc; last = λ more. absurd (omega (arith, more)) }
check_reason box Uncovered = record { late = omega arith; apart = λ is. cc; last = λ more. absurd (omega (arith, more)) }

pub check_are_claims : AreClaims check_claims
check_are_claims = record {
  whole = λ h box n r has. subst IsClaimReason (sym has.0) (check_reason box n);
  lesser = λ h box n r s has less. λ same. absurd (omega (arith, less, ap number_of (same ∙ sym has.0)));
  passed = λ h box n s stands. λ same. stands;
  splits = λ h box stands. stands;
}

-- ---- those of the levels alone

level_whole : (n : Node) → IsClaimReason (level_reason n)
level_whole (Corner i) = shallow_reason
level_whole Split = record { late = omega arith; apart = λ is. cc; last = λ more. absurd (omega (arith, more)) }
level_whole n = record { late = omega arith; apart = λ is. cc; last = λ more. absurd (omega (arith, more)) }

pub level_are_claims : AreClaims level_claims
level_are_claims = record {
  whole = λ h box n r has. subst IsClaimReason (sym has.0) (level_whole n);
  lesser = λ h box n r s has less. λ other. omega (arith, less, ap number_of (other.0 ∙ sym has.0));
  passed = λ h box n s stands. λ other. other.1 stands;
  splits = λ h box stands. stands;
}
