use Rattle.std.proofs.Common.{inl, inr, refl, ℕ, zero, suc, ◌≤◌, arith}
use Rattle.covering_file.specs.Header.{IsVersion}
use Rattle.billiards_cli.proofs.upgrade_version.UpgradeVersion.get.Goals as goal

-- a number from 2 to 3 is a version
is_later_version : (v : ℕ) → 2 ≤ v → v ≤ 3 → IsVersion v
is_later_version zero low high = absurd (omega (arith, low))
is_later_version (suc zero) low high = absurd (omega (arith, low))
is_later_version (suc (suc zero)) low high = inr (inl refl)
is_later_version (suc (suc (suc zero))) low high = inr (inr refl)
is_later_version (suc (suc (suc (suc v)))) low high = absurd (omega (arith, high))

pub returns-clause-is_version : goal.returns-clause-is_version
returns-clause-is_version c =
    is_later_version _ (omega (arith, c.self.view_is, c.self.invariant.0)) (omega (arith, c.self.view_is, c.self.invariant.1))
