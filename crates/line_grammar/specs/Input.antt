-- What is said of the bytes before a reader, where a source tells them.
use Rattle.std.specs.Prelude.{◌≡◌, ℕ, false, List, [], ⊤, Some, None}
use Rattle.std.specs.declared.option.Option.{Option}
use Rattle.mcb_ends.specs.Reader.{Reader}

-- The input is these bytes, where they are told. It may be any bytes where they are not.
abbrev pub MayBe : Option (List ℕ) → List ℕ → Type 0
MayBe None bytes = ⊤
MayBe (Some input) bytes = input ≡ bytes

-- A reader that has read nothing yet.
pub record IsNew (reader : Reader) : Type 0 where
  pub held : reader.held ≡ []
  pub done : reader.is_done ≡ false
  pub number : reader.number ≡ 0
