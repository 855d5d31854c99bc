use Rattle.edge_words.proofs.Bracelet.{compare_parts}
use Rattle.edge_words.proofs.order.compare_rotated.Goals as goal

pub returns : goal.returns
returns c =
    compare_parts _ _ _ _ _ _ _ _ _ _ c.split_at.ensures.front c.split_at.ensures.back c.split_at-2.ensures.front c.split_at-2.ensures.back
    c.requires.len c.cmp.ensures c.cmp-2.ensures c.then.ensures
