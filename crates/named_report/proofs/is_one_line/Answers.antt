use mathlib.Core.Path.{ap, ◌∙◌}
use mathlib.Core.Bool.{not}
use Rattle.named_report.proofs.Laws.{no_feed}
use Rattle.named_report.proofs.is_one_line.Goals as goal

pub returns : goal.returns
returns c = ap not c.contains.ensures.value ∙ no_feed c.args.name.now
