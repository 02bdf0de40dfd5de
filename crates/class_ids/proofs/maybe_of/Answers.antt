use Rattle.class_ids.proofs.Laws.{own_laws as laws}
use Rattle.class_ids.proofs.maybe_of.Goals as goal

pub returns-then-v-eq4294967295 : goal.returns-then-v-eq4294967295
returns-then-v-eq4294967295 c = search laws

pub returns : goal.returns
returns c = search laws
