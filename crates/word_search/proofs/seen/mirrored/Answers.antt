use Rattle.word_search.proofs.Numbered.{image_number}
use Rattle.word_search.proofs.seen.mirrored.Goals as goal

pub overflow_sub-result : goal.overflow_sub-result
overflow_sub-result c = (image_number c.args.p c.args.q c.args.r c.requires.p c.requires.q c.requires.r c.requires.near).enough

pub returns-clause-is : goal.returns-clause-is
returns-clause-is c = (image_number c.args.p c.args.q c.args.r c.requires.p c.requires.q c.requires.r c.requires.near).is

pub returns-clause-known : goal.returns-clause-known
returns-clause-known c = (image_number c.args.p c.args.q c.args.r c.requires.p c.requires.q c.requires.r c.requires.near).below
