-- A header in a greater version: it is one, and the same trees are sound under it.
use Rattle.std.proofs.Common.{◌≡◌, ◌↔◌, inl, inr, ℕ, ◌≤◌, max, length, arith}
use Rattle.rational_polygon.specs.Square.{Square}
use Rattle.gradient_bounds.specs.Slacks.{Slacks}
use Rattle.gradient_bounds.specs.Slacks as slacks
use Rattle.covering_file.specs.declared.node.Node.{Node}
use Rattle.covering_file.specs.declared.node.Node.TheVariants.{Split, Outside, Shown, Corner, Uncovered}
use Rattle.covering_file.specs.Header.{Heading, IsHeading, IsVersion, IsVersionFor}
use Rattle.covering_file.specs.Laws.{UpgradedIsSound, UpgradedIsSure}
use Rattle.covering_file.specs.Node.{IsNode}
use Rattle.covering_file.specs.Sound.{IsSoundNode, IsSoundWith}
use Rattle.covering_file.specs.Tree.{Tree}
use Rattle.covering_file.specs.TreeFile.{TreeFile, HasLevelFor, IsTreeOf, IsTreeFile, upgraded}

-- ---- the header

-- the greater of two versions of which one is that of a region, and the other one that has any
pub greater_version : (version given polygons : ℕ) → IsVersionFor version polygons → IsVersion given → 2 ≤ given → IsVersionFor (max given version) polygons
greater_version version given polygons is (inl one) least = absurd (omega (arith, one, least))
greater_version version given polygons (inl one) (inr (inl two)) least = inr (inl (omega (arith, one.0, two)))
greater_version version given polygons (inr (inl two')) (inr (inl two)) least = inr (inl (omega (arith, two', two)))
greater_version version given polygons (inr (inr three')) (inr (inl two)) least = inr (inr (omega (arith, three', two)))
greater_version version given polygons (inl one) (inr (inr three)) least = inr (inr (omega (arith, one.0, three)))
greater_version version given polygons (inr (inl two')) (inr (inr three)) least = inr (inr (omega (arith, two', three)))
greater_version version given polygons (inr (inr three')) (inr (inr three)) least = inr (inr (omega (arith, three', three)))

-- and the third version stays
pub third_stays : (version given : ℕ) → IsVersion given → version ≡ 3 → max given version ≡ 3
third_stays version given (inl one) three = omega (arith, one, three)
third_stays version given (inr (inl two)) three = omega (arith, two, three)
third_stays version given (inr (inr is)) three = omega (arith, is, three)

pub upgraded_is_heading : (version : ℕ) (h : Heading) → IsVersion version → 2 ≤ version → IsHeading h → IsHeading (upgraded version h)
upgraded_is_heading version h is least heading = record {
  version = greater_version h.version version (length h.region) heading.version is least;
  region = heading.region;
  word_count = heading.word_count;
  stable = heading.stable;
  depth = heading.depth;
}

-- ---- the tree

same_level : (version : ℕ) (h : Heading) (box : Square) (node : Node) → HasLevelFor h box node → HasLevelFor (upgraded version h) box node
same_level version h box Split has = has
same_level version h box (Corner i) has = has
same_level version h box node has = has

same_node : (version : ℕ) (h : Heading) (node : Node) → IsVersion version → IsNode (length h.words) h.version node
    → IsNode (length h.words) (max version h.version) node
same_node version h (Shown i) is node = node
same_node version h (Corner i) is node = (third_stays h.version version is node.0, node.1, node.2)
same_node version h other is has = has

pub upgraded_tree : (limit version : ℕ) (h : Heading) (t : Tree) → IsVersion version → IsTreeOf limit h t → IsTreeOf limit (upgraded version h) t
upgraded_tree limit version h t is tree = record {
  within = tree.within;
  listed = λ box node stands. same_node version h node is (tree.listed box node stands);
  levels = λ box node stands. same_level version h box node (tree.levels box node stands);
}

pub upgraded_is_file : (limit version : ℕ) (f : TreeFile) → IsVersion version → 2 ≤ version → IsTreeFile limit f
    → IsTreeFile limit (record { heading = upgraded version f.heading; nodes = f.nodes })
upgraded_is_file limit version f is least file = record {
  is_heading = upgraded_is_heading version f.heading is least file.is_heading;
  tree = file.tree;
  nodes = file.nodes;
  is_tree = upgraded_tree limit version f.heading file.tree is file.is_tree;
}

-- ---- what is sound

to_upgraded : (version : ℕ) (h : Heading) (e : Slacks) (box : Square) (node : Node) → IsVersion version → IsSoundNode h e box node
    → IsSoundNode (upgraded version h) e box node
to_upgraded version h e box Split is sound = sound
to_upgraded version h e box Outside is sound = sound
to_upgraded version h e box (Shown i) is sound = sound
to_upgraded version h e box (Corner i) is sound = (third_stays h.version version is sound.0, sound.1, sound.2)
to_upgraded version h e box Uncovered is sound = sound

from_upgraded : (version : ℕ) (h : Heading) (e : Slacks) (box : Square) (node : Node) → IsNode (length h.words) h.version node
    → IsSoundNode (upgraded version h) e box node → IsSoundNode h e box node
from_upgraded version h e box Split node sound = sound
from_upgraded version h e box Outside node sound = sound
from_upgraded version h e box (Shown i) node sound = sound
from_upgraded version h e box (Corner i) node sound = (node.0, sound.1, sound.2)
from_upgraded version h e box Uncovered node sound = sound

pub upgraded_is_sound_with : (limit version : ℕ) (e : Slacks) (h : Heading) (t : Tree) → IsVersion version → IsTreeOf limit h t
    → IsSoundWith e (upgraded version h) t ↔ IsSoundWith e h t
upgraded_is_sound_with limit version e h t is tree = (
  (λ sound. λ box node stands. from_upgraded version h e box node (tree.listed box node stands) (sound box node stands)),
  (λ sound. λ box node stands. to_upgraded version h e box node is (sound box node stands)),
)

pub upgraded_is_sound : UpgradedIsSound
upgraded_is_sound limit version h t is tree = upgraded_is_sound_with limit version slacks.sound h t is tree

pub upgraded_is_sure : UpgradedIsSure
upgraded_is_sure limit version h t is tree = upgraded_is_sound_with limit version slacks.sure h t is tree
