use Rattle.std.proofs.Common.{w32}
use Rattle.sign.proofs.Laws.{held}
use Rattle.sign.proofs.magnitude_of.Goals as goal

pub returns : goal.returns
returns c = held w32 c.args.size c.ranges.size c.unsigned_abs.ensures.value
