-- An input that is a covering file, be its claims true or not, as `upgrade` and `draw` read it.
use Rattle.std.specs.Prelude.{◌≡◌, ℕ, List, []}
use Rattle.line_grammar.specs.Offence.{IsFirstOffence}
use Rattle.line_grammar.specs.Part.{Part}
use Rattle.line_grammar.specs.declared.reason.Reason.{Reason}
use Rattle.covering_file.specs.Faults.{BeginsFile}
use Rattle.covering_file.specs.Header.{Heading, IsHeading}
use Rattle.covering_file.specs.Tree.{Tree, file_text}
use Rattle.covering_file.specs.TreeFile.{TreeFile, IsTreeOf, whole_tree_file}
use Rattle.covering_file.specs.declared.TheConstants.{MAX_NODES}
use Rattle.covering_file.specs.declared.file_kind.FileKind.TheVariants.{Cover}

-- a covering file none of whose boxes is judged, and nothing more
abbrev pub file_input : Part TreeFile
file_input = whole_tree_file MAX_NODES

-- the input is the text of a covering file with this header and this tree, be its claims true or not
pub record IsFileText (input : List ℕ) (h : Heading) (t : Tree) : Type 0 where
  pub is_heading : IsHeading h
  pub is_tree : IsTreeOf MAX_NODES h t
  pub text : input ≡ file_text h t

-- the input is no such text
abbrev pub IsNoFileText : List ℕ → Type 0
IsNoFileText input = ¬ ((h : Heading) × (t : Tree) × IsFileText input h t)

-- the input offends first at this line, counted from 1, and this is the least of its reasons there
abbrev pub IsRefusedFile : List ℕ → ℕ → Reason → Type 0
IsRefusedFile input line reason = IsFirstOffence file_input.grammar input line reason

-- memory is wanting after the first line of a covering file, and nothing is written
pub record FileWantsMemory (input text : List ℕ) : Type 0 where
  pub begins : BeginsFile Cover input
  pub text_is : text ≡ []
