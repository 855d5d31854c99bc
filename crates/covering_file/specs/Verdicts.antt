-- Which verdicts on the bytes of a covering file are right.
use Rattle.std.specs.Prelude.{◌≡◌, ℕ, ◌≤◌, List, length}
use Rattle.gradient_bounds.specs.Slacks.{Slacks}
use Rattle.gradient_bounds.specs.Slacks as slacks
use Rattle.line_grammar.specs.declared.reason.Reason.{Reason}
use Rattle.covering_file.specs.Header.{Heading, IsHeading}
use Rattle.covering_file.specs.Tree.{Tree, preorder, file_text}
use Rattle.covering_file.specs.Sound.{IsSoundWith}
use Rattle.line_grammar.specs.Offence.{IsFirstOffence}
use Rattle.covering_file.specs.CheckClaims.{check_claims}
use Rattle.covering_file.specs.FilePart.{file_grammar}

-- the bytes are the text of one file, whose tree has so many nodes and is sound with the slacks e, and which lists so many words
pub record IsFileWith (e : Slacks) (nodes words : ℕ) (bytes : List ℕ) : Type 0 where
  pub heading : Heading
  pub tree : Tree
  pub is_heading : IsHeading heading
  pub sound : IsSoundWith e heading tree
  pub text : bytes ≡ file_text heading tree
  pub node_count : nodes ≡ length (preorder tree)
  pub word_count : words ≡ length heading.words

-- accepted: the text of a file with a sound tree of so many nodes, within the limit
abbrev pub IsAccepted : ℕ → ℕ → ℕ → List ℕ → Type 0
IsAccepted limit nodes words bytes = (nodes ≤ limit) × IsFileWith slacks.sound nodes words bytes

-- refused: this line is the first that can have a reason, and this its least one
abbrev pub IsRefused : ℕ → ℕ → Reason → List ℕ → Type 0
IsRefused limit line reason bytes = IsFirstOffence (file_grammar check_claims limit) bytes line reason

-- the text of a file with a sure tree within the limit
abbrev pub IsSureFile : ℕ → List ℕ → Type 0
IsSureFile limit bytes = (nodes words : ℕ) × (nodes ≤ limit) × IsFileWith slacks.sure nodes words bytes
