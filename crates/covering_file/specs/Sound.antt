-- Which trees are sound: what each node claims of its box is true.
use Rattle.std.specs.Prelude.{◌≡◌, ◌<◌, nat_lt, cond}
use Rattle.rational_polygon.specs.Square.{Square, unit_square}
use Rattle.rational_polygon.specs.Region.{IsApartFromRegion}
use Rattle.gradient_bounds.specs.Clear.{IsClear}
use Rattle.gradient_bounds.specs.CornerClear.{IsCornerClear}
use Rattle.gradient_bounds.specs.Slacks.{Slacks}
use Rattle.gradient_bounds.specs.Slacks as slacks
use Rattle.covering_file.specs.declared.node.Node.{Node}
use Rattle.covering_file.specs.declared.node.Node.TheVariants.{Split, Outside, Shown, Corner, Uncovered}
use Rattle.line_grammar.specs.declared.reason.Reason.{Reason}
use Rattle.line_grammar.specs.declared.reason.Reason.TheVariants as reason
use Rattle.covering_file.specs.Header.{Heading}
use Rattle.covering_file.specs.Faults.{word_at, IsListed}
use Rattle.covering_file.specs.Tree.{Tree, StandsAt}

-- The node may stand at the box: a split above the full depth, a box apart from the region, a listed word that is clear on the
-- box with these slacks, or in version 3 at its corners. An uncovered box has nothing to show.
abbrev pub IsSoundNode : Heading → Slacks → Square → Node → Type 0
IsSoundNode h e box Split = box.level < h.depth
IsSoundNode h e box Outside = IsApartFromRegion box h.region
IsSoundNode h e box (Shown i) = IsListed h.words i × IsClear (word_at h.words i) box e.gradient
IsSoundNode h e box (Corner i) = (h.version ≡ 3) × IsListed h.words i × IsCornerClear (word_at h.words i) box e.corner
IsSoundNode h e box Uncovered = ⊥

-- The reason for which a node that may not stand at the box is refused. At a level below 10 no corners are judged.
abbrev pub reason_of : Square → Node → Reason
reason_of box Split = reason.SplitTooDeep
reason_of box Outside = reason.NotApart
reason_of box (Shown i) = reason.NotShown
reason_of box (Corner i) = cond (nat_lt box.level 10) reason.TooShallow reason.NotShown
reason_of box Uncovered = reason.Uncovered

-- A node can have its reason at a box where it may not stand with the wider slacks ..
abbrev pub ClaimHas : Heading → Square → Node → Reason → Type 0
ClaimHas h box node r = (r ≡ reason_of box node) × ¬ (IsSoundNode h slacks.sure box node)

-- .. and can lack it where it may stand with the narrower ones. Between the two either may be said.
abbrev pub ClaimLacks : Heading → Square → Node → Reason → Type 0
ClaimLacks h box node r = r ≡ reason_of box node → IsSoundNode h slacks.sound box node

-- each node may stand where it does
abbrev pub IsSoundWith : Slacks → Heading → Tree → Type 0
IsSoundWith e h t = (box : Square) (node : Node) → StandsAt unit_square t box node → IsSoundNode h e box node

abbrev pub IsSound : Heading → Tree → Type 0
IsSound = IsSoundWith slacks.sound

-- with the wider slacks, which the test at a box never misses
abbrev pub IsSure : Heading → Tree → Type 0
IsSure = IsSoundWith slacks.sure
