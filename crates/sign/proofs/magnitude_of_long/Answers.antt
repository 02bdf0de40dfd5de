use Rattle.std.proofs.Common.{w64}
use Rattle.sign.proofs.Laws.{held}
use Rattle.sign.proofs.magnitude_of_long.Goals as goal

pub returns : goal.returns
returns c = held w64 c.args.number c.ranges.number c.unsigned_abs.ensures.value
