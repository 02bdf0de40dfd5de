use Rattle.access_flags.proofs.Laws.{bit_laws as laws}
use Rattle.access_flags.proofs.is_kept.Goals as goal

pub returns-then-v-ne1 : goal.returns-then-v-ne1
returns-then-v-ne1 c = search laws

pub returns-then-i-eq6 : goal.returns-then-i-eq6
returns-then-i-eq6 c = search laws

pub returns-then-class : goal.returns-then-class
returns-then-class c = search laws

pub returns : goal.returns
returns c = search laws
