use Rattle.set_readers.proofs.Laws.{laws}
use Rattle.set_readers.specs.Sets.{annotation_count}
use Rattle.set_readers.proofs.count_of.Goals as goal

pub returns-in_err-reached : goal.returns-in_err-reached
unfolding annotation_count
returns-in_err-reached c = search laws

pub returns : goal.returns
unfolding annotation_count
returns c = search laws
