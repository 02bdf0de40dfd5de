use Rattle.value_heads.proofs.Laws.{limit_laws as laws}
use Rattle.value_heads.specs.Kinds.{count_of}
use Rattle.value_heads.proofs.limit_of.Goals as goal

pub returns-in-21 : goal.returns-in-21
unfolding count_of
returns-in-21 c = search laws

pub returns-in-22 : goal.returns-in-22
unfolding count_of
returns-in-22 c = search laws

pub returns-in-23 : goal.returns-in-23
unfolding count_of
returns-in-23 c = search laws

pub returns-in-24 : goal.returns-in-24
unfolding count_of
returns-in-24 c = search laws

pub returns-in-26 : goal.returns-in-26
unfolding count_of
returns-in-26 c = search laws

pub returns-in_default : goal.returns-in_default
unfolding count_of
returns-in_default c = search laws
