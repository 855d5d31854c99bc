use Rattle.cover_merge.proofs.Numbered.{renumbered_has_nodes_lem, renumbered_is_open_where_tree_is_lem, renumbered_keeps_sound_lem}
use Rattle.cover_merge.proofs.laws.renumbered_is_the_same.Goals as goal

pub returns-clause-nodes : goal.returns-clause-nodes
returns-clause-nodes c = renumbered_has_nodes_lem

pub returns-clause-open : goal.returns-clause-open
returns-clause-open c = renumbered_is_open_where_tree_is_lem

pub returns-clause-sound : goal.returns-clause-sound
returns-clause-sound c = renumbered_keeps_sound_lem
