use Rattle.asking.proofs.LineLaws.{spelt_by}
use Rattle.asking.proofs.lines.digits_of.Goals as goal

pub returns : goal.returns
returns c = spelt_by _ _ _ c.decimal.ensures.in_bounds.0 c.decimal.ensures.len c.decimal.ensures.digits
