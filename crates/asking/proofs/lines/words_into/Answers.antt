use Rattle.asking.proofs.LineLaws.{row_laws as laws}
use Rattle.asking.proofs.lines.words_into.Goals as goal

pub loop-word-init : goal.loop-word-init
loop-word-init c = search laws

pub loop-word-preserved : goal.loop-word-preserved
loop-word-preserved c = search laws

pub returns : goal.returns
returns c = search laws
