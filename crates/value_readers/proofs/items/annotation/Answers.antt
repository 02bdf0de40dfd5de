use Rattle.value_readers.proofs.Laws.{placed as laws}
use Rattle.value_readers.specs.Items.{annotation_of}
use Rattle.value_readers.proofs.items.annotation.Goals as goal

pub returns-in_err-o : goal.returns-in_err-o
unfolding annotation_of
returns-in_err-o c = search laws

pub returns : goal.returns
unfolding annotation_of
returns c = search laws
