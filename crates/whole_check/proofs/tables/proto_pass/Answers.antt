use Rattle.whole_check.proofs.TableLaws.{laws}
use Rattle.whole_check.specs.File.{proto_below}
use Rattle.whole_check.proofs.tables.proto_pass.Goals as goal

pub returns-in_err-p : goal.returns-in_err-p
unfolding proto_below
returns-in_err-p c = search laws depth 7

pub returns : goal.returns
unfolding proto_below
returns c = search laws depth 7
