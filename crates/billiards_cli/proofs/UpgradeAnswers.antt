-- The right answers of `upgrade`.
use Rattle.std.proofs.Common.{ℕ, List, Option, refl, inl, inr}
use Rattle.line_grammar.specs.Input.{MayBe}
use Rattle.covering_file.specs.TreeFile.{TreeFile, IsTreeFile, tree_file_text, upgraded}
use Rattle.covering_file.specs.declared.TheConstants.{MAX_NODES}
use Rattle.billiards_cli.specs.Command.{By}
use Rattle.billiards_cli.specs.Commands.Upgrade.{upgrade_reads_to, UpgradesFile, IsUpgradeAnswer, IsUpgradeDue}
use Rattle.billiards_cli.specs.Requests.{command_of}
use Rattle.billiards_cli.specs.Services.{IsAnswer, ReadsFor}
use Rattle.billiards_cli.specs.WholeFile.{file_input}
use Rattle.billiards_cli.specs.declared.request.Request.TheVariants as request
use Rattle.billiards_cli.specs.declared.status.Status.{Status}
use Rattle.billiards_cli.specs.declared.status.Status.TheVariants.{Done, Malformed, OutOfMemory}
use Rattle.billiards_cli.proofs.WholeFiles.{file_is_not_refused, is_file_text, text_of_tree}

upgrade_answer_is_due : (version : ℕ) (input : List ℕ) (status : Status) (text : List ℕ) → IsUpgradeAnswer version input status text
    → IsUpgradeDue input status
upgrade_answer_is_due version input Done text answer =
    record { upgraded = λ h t file. inl refl; refused = λ none. absurd (none (answer.heading, answer.tree, answer.file)) }
upgrade_answer_is_due version input Malformed text answer = record {
  upgraded = λ h t file. absurd (file_is_not_refused input h t answer.line answer.reason file answer.refused);
  refused = λ none. inl refl;
}
upgrade_answer_is_due version input OutOfMemory text answer = record { upgraded = λ h t file. inr refl; refused = λ none. inr refl }
upgrade_answer_is_due version input status text answer = absurd answer

-- a right answer is one that the command may give
pub upgrade_answer : (version : ℕ) (left left' : Option (List ℕ)) (input : List ℕ) (status : Status) (text : List ℕ)
    → MayBe left input → IsUpgradeAnswer version input status text → ReadsFor (By file_input.grammar) (upgrade_reads_to status) text left left'
    → IsAnswer (command_of (request.Upgrade version)) left left' status text
upgrade_answer version left left' input status text may_be right read = record {
  input = input;
  may_be = may_be;
  right = right;
  due = upgrade_answer_is_due version input status text right;
  read = read;
}

pub upgrades_file : (version : ℕ) (f : TreeFile) → IsTreeFile MAX_NODES f
    → UpgradesFile version (tree_file_text f) (tree_file_text (record { heading = upgraded version f.heading; nodes = f.nodes }))
upgrades_file version f is = record {
  heading = f.heading;
  tree = is.tree;
  file = is_file_text f is;
  text_is = text_of_tree (upgraded version f.heading) is.tree f.nodes is.nodes;
}
