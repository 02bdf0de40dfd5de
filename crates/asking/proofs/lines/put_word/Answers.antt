use Rattle.asking.proofs.LineLaws.{word_laws as laws}
use Rattle.asking.proofs.lines.put_word.Goals as goal

pub returns-then-bits-eq1 : goal.returns-then-bits-eq1
returns-then-bits-eq1 c = search laws

pub returns : goal.returns
returns c = search laws
