use Rattle.class_readers.proofs.SpotLaws.{under_laws as laws}
use Rattle.class_readers.specs.Members.{counts_under}
use Rattle.class_readers.proofs.members.counts_under.Goals as goal

pub returns-in_err-counts : goal.returns-in_err-counts
unfolding counts_under
returns-in_err-counts c = search laws

pub returns : goal.returns
unfolding counts_under
returns c = search laws
