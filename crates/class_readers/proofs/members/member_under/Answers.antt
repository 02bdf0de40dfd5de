use Rattle.class_readers.proofs.SpotLaws.{under_laws as laws}
use Rattle.class_readers.specs.Members.{member_under}
use Rattle.class_readers.proofs.members.member_under.Goals as goal

pub returns-in_err-m : goal.returns-in_err-m
unfolding member_under
returns-in_err-m c = search laws

pub returns : goal.returns
unfolding member_under
returns c = search laws
