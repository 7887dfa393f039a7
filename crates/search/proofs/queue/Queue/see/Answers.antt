use Rattle.std.proofs.Common.{refl}
use Rattle.search.proofs.Joining.{seen}
use Rattle.search.proofs.Steps.{saw}
use Rattle.search.proofs.queue.Queue.see.Goals as goal

pub invariant_of-self : goal.invariant_of-self
invariant_of-self c = record { queued = (seen c.args.self.now.queued c.requires.node c.requires.near c.requires.early c.see-self.ensures).queue }

pub returns : goal.returns
returns c = saw (seen c.args.self.now.queued c.requires.node c.requires.near c.requires.early c.see-self.ensures) refl refl
