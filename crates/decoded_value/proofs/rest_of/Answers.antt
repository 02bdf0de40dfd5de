use Rattle.decoded_value.proofs.Laws.{kind_laws as laws}
use Rattle.decoded_value.proofs.rest_of.Goals as goal

pub float_of-requires : goal.float_of-requires
float_of-requires c = search laws

pub double_of-requires : goal.double_of-requires
double_of-requires c = search laws

pub overflow_cast-result-in_default : goal.overflow_cast-result-in_default
overflow_cast-result-in_default c = search laws

pub returns-in-16 : goal.returns-in-16
returns-in-16 c = search laws

pub returns-in-17 : goal.returns-in-17
returns-in-17 c = search laws

pub returns-in-30 : goal.returns-in-30
returns-in-30 c = search laws

pub returns-in-31 : goal.returns-in-31
returns-in-31 c = search laws

pub returns-in_default : goal.returns-in_default
returns-in_default c = search laws
