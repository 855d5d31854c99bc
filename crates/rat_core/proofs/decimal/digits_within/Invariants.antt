use Rattle.std.proofs.Common.{◌≡◌, ◌≤◌, take}
use Rattle.std.specs.Str.Parse.{AllDigits, digits_value}
use Rattle.rat_core.proofs.decimal.digits_within.Given as goal

-- the bytes so far are digits, and write the number
abbrev pub invariant-loop-byte : goal.invariant-loop-byte
invariant-loop-byte l = AllDigits 10 (take l.byte-index l.bytes) × (digits_value 10 (take l.byte-index l.bytes) ≡ l.number) × (l.number ≤ l.bound)
