-- What the arguments of a command line ask for.
use Rattle.std.specs.Prelude.{ℕ, List, [], ◌∷◌, None, codes, if◌then◌else◌}
use Rattle.std.specs.declared.option.Option.{Option}
use Rattle.std.specs.Str.{bytes_eq}
use Rattle.covering_file.specs.CheckClaims.{check_claims}
use Rattle.covering_file.specs.FilePart.{file_grammar}
use Rattle.covering_file.specs.HeaderPart.{job_part}
use Rattle.covering_file.specs.declared.TheConstants.{MAX_NODES}
use Rattle.billiards_cli.specs.Command.{Command, Nothing, By, ToALine}
use Rattle.billiards_cli.specs.Commands.Word.{word_request, word_input, word_reads_to, IsWordAnswer, IsWordDue}
use Rattle.billiards_cli.specs.Commands.Check.{check_request, check_reads_to, IsCheckAnswer, IsCheckDue}
use Rattle.billiards_cli.specs.Commands.At.{at_request, IsAtAnswer, IsAtDue}
use Rattle.billiards_cli.specs.Commands.Cover.{cover_request, cover_reads_to, IsCoverAnswer, IsCoverDue}
use Rattle.billiards_cli.specs.Commands.Job.{job_request, IsJobAnswer, IsJobDue}
use Rattle.billiards_cli.specs.Commands.Demo.{demo_request, IsDemoAnswer, IsDemoDue}
use Rattle.billiards_cli.specs.Commands.Search.{search_request, IsSearchAnswer, IsSearchDue}
use Rattle.billiards_cli.specs.Commands.Tile.{tile_request, IsTileAnswer, IsTileDue}
use Rattle.billiards_cli.specs.Commands.Unfold.{unfold_request, IsUnfoldAnswer, IsUnfoldDue}
use Rattle.billiards_cli.specs.Commands.Upgrade.{upgrade_request, upgrade_reads_to, IsUpgradeAnswer, IsUpgradeDue}
use Rattle.billiards_cli.specs.Commands.Draw.{draw_request, draw_reads_to, IsDrawAnswer, IsDrawDue}
use Rattle.billiards_cli.specs.Commands.Points.{points_request, IsPointsAnswer, IsPointsDue}
use Rattle.billiards_cli.specs.Commands.Merge.{merge_request, merge_input, merge_reads_to, IsMergeAnswer, IsMergeDue}
use Rattle.billiards_cli.specs.Commands.Path.{path_request, IsPathAnswer, IsDrawnPathAnswer, IsPathDue}
use Rattle.billiards_cli.specs.Commands.Family.{family_request, IsFamilyAnswer, IsFamilyDue, IsMembersAnswer, IsMembersDue}
use Rattle.billiards_cli.specs.WholeFile.{file_input}
use Rattle.billiards_cli.specs.declared.request.Request.{Request}
use Rattle.billiards_cli.specs.declared.request.Request.TheVariants.{Word, Check, At, Cover, Job, Demo, Search, Tile, Unfold}
use Rattle.billiards_cli.specs.declared.request.Request.TheVariants.{Upgrade, Points, Merge, Path, DrawnPath, Family, FamilyAt, Draw}

-- the commands by their names: what the arguments after a name ask of it, if anything
abbrev pub request_named : List ℕ → List (List ℕ) → Option Request
request_named name arguments =
    if bytes_eq name (codes "word") then word_request arguments else
    (if bytes_eq name (codes "check") then check_request arguments else
    (if bytes_eq name (codes "at") then at_request arguments else
    (if bytes_eq name (codes "cover") then cover_request arguments else
    (if bytes_eq name (codes "job") then job_request arguments else
    (if bytes_eq name (codes "demo") then demo_request arguments else
    (if bytes_eq name (codes "search") then search_request arguments else
    (if bytes_eq name (codes "tile") then tile_request arguments else
    (if bytes_eq name (codes "unfold") then unfold_request arguments else
    (if bytes_eq name (codes "upgrade") then upgrade_request arguments else
    (if bytes_eq name (codes "points") then points_request arguments else
    (if bytes_eq name (codes "merge") then merge_request arguments else
    (if bytes_eq name (codes "path") then path_request arguments else
    (if bytes_eq name (codes "family") then family_request arguments else
    (if bytes_eq name (codes "draw") then draw_request arguments else
    None))))))))))))))

abbrev pub request_of : List (List ℕ) → Option Request
request_of [] = None
request_of (name ∷ arguments) = request_named name arguments

-- what a request is to do
abbrev pub command_of : Request → Command
command_of Word = record {
  reads = By word_input.grammar;
  reads_to = word_reads_to;
  IsRight = IsWordAnswer;
  IsDue = IsWordDue;
}
command_of Check = record {
  reads = By (file_grammar check_claims MAX_NODES);
  reads_to = check_reads_to;
  IsRight = IsCheckAnswer;
  IsDue = IsCheckDue;
}
command_of (At word triangle) = record {
  reads = Nothing;
  reads_to = λ status. ToALine;
  IsRight = λ input. IsAtAnswer word triangle;
  IsDue = λ input. IsAtDue word triangle;
}
command_of Cover = record {
  reads = By job_part.grammar;
  reads_to = cover_reads_to;
  IsRight = IsCoverAnswer;
  IsDue = IsCoverDue;
}
command_of (Job k) = record {
  reads = Nothing;
  reads_to = λ status. ToALine;
  IsRight = λ input. IsJobAnswer k;
  IsDue = λ input. IsJobDue;
}
command_of (Demo k) = record {
  reads = Nothing;
  reads_to = λ status. ToALine;
  IsRight = λ input. IsDemoAnswer k;
  IsDue = λ input. IsDemoDue;
}
command_of (Search triangle bound) = record {
  reads = Nothing;
  reads_to = λ status. ToALine;
  IsRight = λ input. IsSearchAnswer triangle bound;
  IsDue = λ input. IsSearchDue;
}
command_of (Tile word depth) = record {
  reads = Nothing;
  reads_to = λ status. ToALine;
  IsRight = λ input. IsTileAnswer word depth;
  IsDue = λ input. IsTileDue word depth;
}
command_of (Unfold word triangle) = record {
  reads = Nothing;
  reads_to = λ status. ToALine;
  IsRight = λ input. IsUnfoldAnswer word triangle;
  IsDue = λ input. IsUnfoldDue word;
}
command_of (Upgrade version) = record {
  reads = By file_input.grammar;
  reads_to = upgrade_reads_to;
  IsRight = IsUpgradeAnswer version;
  IsDue = IsUpgradeDue;
}
command_of (Points word triangle) = record {
  reads = Nothing;
  reads_to = λ status. ToALine;
  IsRight = λ input. IsPointsAnswer word triangle;
  IsDue = λ input. IsPointsDue word;
}
command_of Merge = record {
  reads = By merge_input.grammar;
  reads_to = merge_reads_to;
  IsRight = IsMergeAnswer;
  IsDue = IsMergeDue;
}
command_of (Path word triangle) = record {
  reads = Nothing;
  reads_to = λ status. ToALine;
  IsRight = λ input. IsPathAnswer word triangle;
  IsDue = λ input. IsPathDue word triangle;
}
command_of (DrawnPath word triangle) = record {
  reads = Nothing;
  reads_to = λ status. ToALine;
  IsRight = λ input. IsDrawnPathAnswer word triangle;
  IsDue = λ input. IsPathDue word triangle;
}
command_of (Family texts) = record {
  reads = Nothing;
  reads_to = λ status. ToALine;
  IsRight = λ input. IsFamilyAnswer texts;
  IsDue = λ input. IsFamilyDue texts;
}
command_of (FamilyAt texts triangle) = record {
  reads = Nothing;
  reads_to = λ status. ToALine;
  IsRight = λ input. IsMembersAnswer texts triangle;
  IsDue = λ input. IsMembersDue texts;
}
command_of Draw = record {
  reads = By file_input.grammar;
  reads_to = draw_reads_to;
  IsRight = IsDrawAnswer;
  IsDue = IsDrawDue;
}
