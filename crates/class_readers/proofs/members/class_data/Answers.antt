use Rattle.class_readers.proofs.SpotLaws.{laws}
use Rattle.class_readers.specs.Members.{class_data}
use Rattle.class_readers.proofs.members.class_data.Goals as goal

pub returns-in_err-spot : goal.returns-in_err-spot
unfolding class_data
returns-in_err-spot c = search laws

pub returns-in_default : goal.returns-in_default
unfolding class_data
returns-in_default c = search laws

pub returns : goal.returns
unfolding class_data
returns c = search laws
