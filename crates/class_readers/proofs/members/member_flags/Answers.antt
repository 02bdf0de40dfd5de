use Rattle.class_readers.proofs.SpotLaws.{laws}
use Rattle.class_readers.specs.Members.{member_flags, flags_in, member_content, content_of}
use Rattle.class_readers.proofs.members.member_flags.Goals as goal

pub returns-in_err-m-clause-answer : goal.returns-in_err-m-clause-answer
unfolding member_flags flags_in
returns-in_err-m-clause-answer c = search laws

pub returns-in_err-m-clause-content : goal.returns-in_err-m-clause-content
unfolding member_content content_of
returns-in_err-m-clause-content c = search laws

pub returns-in_default-clause-answer : goal.returns-in_default-clause-answer
unfolding member_flags flags_in
returns-in_default-clause-answer c = search laws

pub returns-in_default-clause-content : goal.returns-in_default-clause-content
unfolding member_content content_of
returns-in_default-clause-content c = search laws

pub returns-in_err-n-clause-answer : goal.returns-in_err-n-clause-answer
unfolding member_flags flags_in
returns-in_err-n-clause-answer c = search laws

pub returns-in_err-n-clause-content : goal.returns-in_err-n-clause-content
unfolding member_content content_of
returns-in_err-n-clause-content c = search laws

pub returns-clause-answer : goal.returns-clause-answer
unfolding member_flags flags_in
returns-clause-answer c = search laws

pub returns-clause-content : goal.returns-clause-content
unfolding member_content content_of
returns-clause-content c = search laws
