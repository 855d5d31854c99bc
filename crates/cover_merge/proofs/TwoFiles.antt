-- Two files that are read one directly after the other.
use Rattle.std.proofs.Common.{◌≡◌, ℕ, List, false, Option}
use Rattle.mcb_ends.specs.Reader.{Reader}
use Rattle.line_grammar.specs.Faults.{Refusal}
use Rattle.line_grammar.specs.Part.{Part, followed_by, end_of_text}
use Rattle.line_grammar.specs.Reading.{TakesPart, TakesText, FailsPart}
use Rattle.line_grammar.proofs.Parts.{fails_first, fails_second, takes_both, takes_text}
use Rattle.covering_file.specs.TreeFile.{TreeFile, tree_file_part}
use Rattle.cover_merge.specs.Rounds.{two_files}

abbrev files : ℕ → Part (TreeFile × TreeFile)
files limit = followed_by (tree_file_part limit) (λ _. tree_file_part limit)

pub first_fails : (limit : ℕ) (old new : Reader) (a b : Option (List ℕ)) (refusal : Option Refusal) → old.is_done ≡ false
    → FailsPart (tree_file_part limit).grammar old new a b refusal → FailsPart (two_files limit).grammar old new a b refusal
first_fails limit old new a b refusal reading fails =
    fails_first (files limit) (λ _. end_of_text) old new a b refusal reading
    (fails_first (tree_file_part limit) (λ _. tree_file_part limit) old new a b refusal reading fails)

pub second_fails : (limit : ℕ) (f : TreeFile) (old mid new : Reader) (a b c : Option (List ℕ)) (refusal : Option Refusal) → old.is_done ≡ false
    → TakesPart (tree_file_part limit) old mid a b f → FailsPart (tree_file_part limit).grammar mid new b c refusal
    → FailsPart (two_files limit).grammar old new a c refusal
second_fails limit f old mid new a b c refusal reading first fails =
    fails_first (files limit) (λ _. end_of_text) old new a c refusal reading
    (fails_second (tree_file_part limit) (λ _. tree_file_part limit) f old mid new a b c refusal first fails)

pub end_fails : (limit : ℕ) (f g : TreeFile) (old mid at new : Reader) (a b c d : Option (List ℕ)) (refusal : Option Refusal)
    → TakesPart (tree_file_part limit) old mid a b f → TakesPart (tree_file_part limit) mid at b c g → FailsPart end_of_text.grammar at new c d refusal
    → FailsPart (two_files limit).grammar old new a d refusal
end_fails limit f g old mid at new a b c d refusal first second fails =
    fails_second (files limit) (λ _. end_of_text) (f, g) old at new a c d refusal
    (takes_both (tree_file_part limit) (λ _. tree_file_part limit) f g old mid at a b c first second) fails

pub both_taken : (limit : ℕ) (f g : TreeFile) (old mid at : Reader) (a b c d : Option (List ℕ))
    → TakesPart (tree_file_part limit) old mid a b f → TakesPart (tree_file_part limit) mid at b c g → TakesText end_of_text at c d tt
    → TakesText (two_files limit) old a d (f, g)
both_taken limit f g old mid at a b c d first second ends =
    takes_text (files limit) (f, g) old at a c d
    (takes_both (tree_file_part limit) (λ _. tree_file_part limit) f g old mid at a b c first second) ends
