use Rattle.class_readers.proofs.SpotLaws.{under_laws as laws}
use Rattle.code_readers.specs.Code.{outline_under}
use Rattle.code_readers.proofs.methods.outline_under.Goals as goal

pub returns-in_err-o : goal.returns-in_err-o
unfolding outline_under
returns-in_err-o c = search laws

pub returns : goal.returns
unfolding outline_under
returns c = search laws
