-- The headline, and the way to it.
--
--     Where `mcb check` ends with status 0, the bytes read are one whole covering file, and every rational point of its
--     region that is a triangle has a listed stable word whose unfolding by reflections ends in a translate of its first
--     triangle and has every upper corner strictly to the left of every lower corner along that translation.
--
-- Start here. The definitions that the sentence is made of are passed on below, the lowest layer first, each from the file
-- in which it stands; the sentence itself is the last definition of this page, and the clause `headline` of `run`.
use Rattle.std.specs.Prelude.{◌≡◌, ℕ, List, [], ◌∷◌, Some, codes}
use Rattle.std.specs.declared.option.Option.{Option}
use Rattle.std.specs.Io.KnownBytes.{IsAtEnd}
use Rattle.covering_file.specs.declared.TheConstants.{MAX_NODES}
use Rattle.billiards_cli.specs.declared.status.Status.{Status}
use Rattle.billiards_cli.specs.declared.status.Status.TheVariants.{Done}
-- what stands next in some bytes: a line of at most 80 bytes, or an end
pub use Rattle.mcb_ends.specs.Lines.{IsNext}
-- a word, a list of crossed edges, and when it is stable
pub use Rattle.edge_words.specs.Word.{IsWord}
pub use Rattle.edge_words.specs.Stable.{IsStable}
-- sums of directions, and the sine form of one
pub use Rattle.exp_sums.specs.FormalPoint.{FormalPoint}
pub use Rattle.exp_sums.specs.SineForm.{sine_form}
-- the unfolding by mirrors, its shift, and its upper and lower corners
pub use Rattle.unfolding.specs.Triangle.{first_corner, mirror, corner_of}
pub use Rattle.unfolding.specs.Shift.{IsShift}
pub use Rattle.unfolding.specs.Corners.{upper_corner, lower_corner}
-- fractions
pub use Rattle.rat_core.specs.Fraction.{ℚ}
-- the approximations of pi and of the sine, the value of a sine form, and "from some n on"
pub use Rattle.trig_meaning.specs.PartialSums.{pi_sum, sine_sum}
pub use Rattle.trig_meaning.specs.Turn.{sine_of_turn}
pub use Rattle.trig_meaning.specs.FromSomeOn.{FromSomeOn}
pub use Rattle.trig_meaning.specs.Value.{value_at, IsPositiveAt}
-- the function of an upper and a lower corner: positive where the one lies strictly to the left of the other
pub use Rattle.defining_functions.specs.Functions.{defining_function}
-- the corridor of a word at a triangle
pub use Rattle.gradient_bounds.specs.Corridor.{HasCorridor}
-- polygons, regions, their points, and which points are triangles
pub use Rattle.rational_polygon.specs.Outline.{IsPolygon, IsInPolygon}
pub use Rattle.rational_polygon.specs.Region.{IsRegion, IsInRegion}
pub use Rattle.rational_polygon.specs.Point.{IsTriangle}
-- lines one after another, the text of a covering file, and what it says of its region
pub use Rattle.line_grammar.specs.Text.{text_of}
pub use Rattle.covering_file.specs.Header.{Heading, IsHeading, header_text}
pub use Rattle.covering_file.specs.Tree.{Tree, file_text}
pub use Rattle.covering_file.specs.Covering.{IsCovered, IsCovering}

-- Where `check` is done, the bytes that the source had left are one whole covering file whose region is covered, and none is left.
-- `left` and `left'` are the bytes that the source has left before the run and after it: `Some bytes`, where it tells them.
abbrev pub Headline : List (List ℕ) → Status → Option (List ℕ) → Option (List ℕ) → Type 0
Headline arguments status left left' =
    arguments ≡ codes "check" ∷ [] → status ≡ Done → (bytes : List ℕ) → left ≡ Some bytes → IsCovering MAX_NODES bytes × IsAtEnd left'
