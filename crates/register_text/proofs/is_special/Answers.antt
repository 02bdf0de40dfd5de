use Rattle.register_text.proofs.Laws.{special_laws as laws}
use Rattle.register_text.proofs.is_special.Goals as goal

pub returns-then-b-lt32 : goal.returns-then-b-lt32
returns-then-b-lt32 c = search laws

pub returns-then-b-eq127 : goal.returns-then-b-eq127
returns-then-b-eq127 c = search laws

pub returns-then-b-eq92 : goal.returns-then-b-eq92
returns-then-b-eq92 c = search laws

pub returns-then-key : goal.returns-then-key
returns-then-key c = search laws

pub returns : goal.returns
returns c = search laws
