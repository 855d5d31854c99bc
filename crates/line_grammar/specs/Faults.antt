-- Why a due line could not be taken.
use Rattle.std.specs.Prelude.{ℕ, Bool, true, false, Some, None}
use Rattle.std.specs.declared.option.Option.{Option}
use Rattle.line_grammar.specs.declared.fault.LineFault.{LineFault}
use Rattle.line_grammar.specs.declared.fault.LineFault.TheVariants.{Line, Read}
use Rattle.line_grammar.specs.declared.reason.Reason.{Reason}

-- a line that is refused, by its number, and the reason
pub record Refusal : Type 0 where
  pub line : ℕ
  pub reason : Reason

-- the refusal that a fault is, if it is one
abbrev pub refusal_of : LineFault → Option Refusal
refusal_of (Line line reason) = Some (record { line = line; reason = reason })
refusal_of Read = None

-- the fault that comes from outside
abbrev pub is_read : LineFault → Bool
is_read (Line line reason) = false
is_read Read = true
