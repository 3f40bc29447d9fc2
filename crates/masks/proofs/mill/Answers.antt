-- `masks::mill` meets its contract: the rule of the masks. Assumes nothing.
use Rattle.masks.proofs.mill.Goals as goal

pub returns : goal.returns
returns c = c.requires.0.mills c.args.p c.args.j c.requires.1 c.requires.2
