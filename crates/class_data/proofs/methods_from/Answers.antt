use Rattle.class_data.proofs.Laws.{stage_laws as laws}
use Rattle.class_data.specs.Data.{methods_from}
use Rattle.class_data.proofs.methods_from.Goals as goal

pub returns-in_err-two_at : goal.returns-in_err-two_at
unfolding methods_from
returns-in_err-two_at c = search laws

pub returns : goal.returns
unfolding methods_from
returns c = search laws
