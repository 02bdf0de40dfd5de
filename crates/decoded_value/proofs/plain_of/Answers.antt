use Rattle.decoded_value.proofs.Laws.{kind_laws as laws}
use Rattle.decoded_value.proofs.plain_of.Goals as goal

pub byte_of-requires : goal.byte_of-requires
byte_of-requires c = search laws

pub short_of-requires : goal.short_of-requires
short_of-requires c = search laws

pub overflow_cast-result : goal.overflow_cast-result
overflow_cast-result c = search laws

pub int_of-requires : goal.int_of-requires
int_of-requires c = search laws

pub long_of-requires : goal.long_of-requires
long_of-requires c = search laws

pub returns-in-0 : goal.returns-in-0
returns-in-0 c = search laws

pub returns-in-2 : goal.returns-in-2
returns-in-2 c = search laws

pub returns-in-3 : goal.returns-in-3
returns-in-3 c = search laws

pub returns-in-4 : goal.returns-in-4
returns-in-4 c = search laws

pub returns-in-6 : goal.returns-in-6
returns-in-6 c = search laws

pub returns-in_default : goal.returns-in_default
returns-in_default c = search laws
