use Rattle.cover_merge.proofs.Numbered.{union_keeps_first_lem, union_has_others_lem, union_has_no_more_lem}
use Rattle.cover_merge.proofs.laws.union_has_both.Goals as goal

pub returns-clause-first : goal.returns-clause-first
returns-clause-first c = union_keeps_first_lem

pub returns-clause-others : goal.returns-clause-others
returns-clause-others c = union_has_others_lem

pub returns-clause-no_more : goal.returns-clause-no_more
returns-clause-no_more c = union_has_no_more_lem
