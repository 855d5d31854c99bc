-- The last line of a list.
use Rattle.std.specs.Prelude.{ℕ, List, [], ◌∷◌, codes}
use Rattle.std.specs.List.{concat}
use Rattle.std.specs.Fmt.{decimal}
use Rattle.billiards_cli.specs.Refusals.{newline}

-- how many there are
abbrev pub end_text : ℕ → List ℕ
end_text count = concat (codes "end " ∷ decimal count ∷ newline ∷ [])
