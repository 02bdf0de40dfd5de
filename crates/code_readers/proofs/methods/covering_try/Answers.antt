use Rattle.class_readers.proofs.SpotLaws.{laws}
use Rattle.code_readers.specs.Code.{covering_try}
use Rattle.code_readers.proofs.methods.covering_try.Goals as goal

pub returns-in_err-spot : goal.returns-in_err-spot
unfolding covering_try
returns-in_err-spot c = search laws

pub returns-in_default : goal.returns-in_default
unfolding covering_try
returns-in_default c = search laws

pub returns : goal.returns
unfolding covering_try
returns c = search laws
