-- The versions to which a covering file is upgraded. They are this program's own.
use Rattle.std.specs.Prelude.{ℕ, List}
use Rattle.std.specs.declared.option.Option.{Option}
use Rattle.covering_file.specs.declared.TheConstants.{MAX_VERSION}
use Rattle.billiards_cli.specs.Arguments.{number_up_to, at_least}

-- the version that a text writes: one after the first
abbrev pub upgrade_version : List ℕ → Option ℕ
upgrade_version text = at_least 2 (number_up_to MAX_VERSION text)
