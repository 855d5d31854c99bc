use Rattle.std.proofs.Common.{◌≡◌, ◌∙◌, sym, ap, refl, subst, pos, not, take, get_or}
use Rattle.exp_sums.specs.FormalPoint.{zero_point}
use Rattle.unfolding.specs.Triangle.{next_corner, mirrors, corner_dir}
use Rattle.unfolding.specs.Walk.{is_reversed, mirrored_dir}
use Rattle.unfolding.proofs.KeptTriangles.{is_reversed-snoc}
use Rattle.word_search.specs.Places.{IsSmallPlace, unit_in, place_of}
use Rattle.word_search.proofs.Placed.{corner_small}
use Rattle.word_search.proofs.Walked.{centre_placed, corner_unit, next_letters}
use Rattle.word_search.proofs.seen.Seen.across.Goals as goal

pub moved-requires-clause-near : goal.moved-requires-clause-near
moved-requires-clause-near c =
    subst (IsSmallPlace 48) (sym c.requires.start)
    (corner_small c.args.units.now c.args.letters.now c.args.k _ c.requires.units c.requires.few c.requires.place)

pub returns : goal.returns
returns c =
    let w = c.args.letters.now in
    let k = c.args.k in
    let d = get_or w k 0 in
    let v = take k w in
    let units = c.args.units.now in
    let next = next_letters w k d c.requires.place refl in
    let end : c.next_corner-end.result ≡ next_corner (next_corner d) = c.next_corner-end.ensures.next ∙ ap next_corner c.next_corner.ensures.next in
    let unit = corner_unit units v c.args.self.now c.next_corner-end.result 0 (record { x = pos 0; y = pos 0 }) c.requires.units c.requires.seen
    c.next_corner-end.ensures.corner in
    record {
      centre = centre_placed units v d c.args.self.now c.args.start _ c.moved.result c.requires.seen c.requires.start
          (unit ∙ ap (λ e. unit_in units (mirrored_dir v (corner_dir e))) end) c.moved.ensures.x c.moved.ensures.y
          ∙ ap (λ u. place_of units (mirrors u zero_point)) next;
      minus = ap not c.requires.seen.minus ∙ sym (is_reversed-snoc v d) ∙ ap is_reversed next;
      dirs = c.dirs_across.ensures.dirs;
      known = c.dirs_across.ensures.known;
    }
