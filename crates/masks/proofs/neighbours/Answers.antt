-- `masks::neighbours` meets its contract: the rule of the masks. Assumes nothing.
use Rattle.masks.proofs.neighbours.Goals as goal

pub returns : goal.returns
returns c = c.requires.0.neighbours c.args.p c.requires.1
