use Rattle.table_readers.specs.Flags.{content_of}
use Rattle.table_readers.specs.Flags.{class_content}
use Rattle.table_readers.proofs.FlagLaws.{laws}
use Rattle.table_readers.specs.Flags.{class_flags}
use Rattle.table_readers.proofs.flags.class_flags.Goals as goal

pub returns-in_err-c-clause-answer : goal.returns-in_err-c-clause-answer
unfolding class_flags
returns-in_err-c-clause-answer c = search laws

pub returns-in_err-c-clause-content : goal.returns-in_err-c-clause-content
unfolding class_flags
returns-in_err-c-clause-content c = search laws

pub returns-clause-answer : goal.returns-clause-answer
unfolding class_flags
returns-clause-answer c = search laws

pub returns-clause-content : goal.returns-clause-content
unfolding class_flags class_content content_of
returns-clause-content c = search laws
