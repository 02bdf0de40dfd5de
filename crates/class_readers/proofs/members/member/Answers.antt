use Rattle.class_readers.proofs.SpotLaws.{laws}
use Rattle.class_readers.specs.Members.{member_number}
use Rattle.class_readers.proofs.members.member.Goals as goal

pub returns-in_err-data : goal.returns-in_err-data
unfolding member_number
returns-in_err-data c = search laws

pub returns-in_default : goal.returns-in_default
unfolding member_number
returns-in_default c = search laws

pub returns : goal.returns
unfolding member_number
returns c = search laws
