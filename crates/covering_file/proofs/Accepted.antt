-- What an accepted file covers.
use Rattle.std.proofs.Common.{ℕ, ◌≤◌, subst}
use Rattle.rational_polygon.specs.Square.{unit_square}
use Rattle.gradient_bounds.specs.Slacks as slacks
use Rattle.covering_file.specs.Laws.{AcceptedIsCovering}
use Rattle.covering_file.proofs.Covers.{sound_is_covered}
use Rattle.covering_file.proofs.Sure.{all_covered}

pub accepted_is_covering : AcceptedIsCovering
accepted_is_covering limit nodes words bytes accepted =
    let file = accepted.1 in
    record {
      heading = file.heading;
      tree = file.tree;
      is_heading = file.is_heading;
      text = file.text;
      within = subst (λ (n : ℕ). n ≤ limit) file.node_count accepted.0;
      complete = all_covered slacks.sound file.tree file.heading unit_square file.sound;
      covered = sound_is_covered file.heading file.tree file.is_heading file.sound;
    }
