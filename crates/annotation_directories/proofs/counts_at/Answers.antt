use Rattle.annotation_directories.proofs.Laws.{head_laws as laws}
use Rattle.annotation_directories.specs.Directories.{counts_at}
use Rattle.annotation_directories.proofs.counts_at.Goals as goal

pub returns-in_err-fields : goal.returns-in_err-fields
unfolding counts_at
returns-in_err-fields c = search laws depth 9

pub returns-in_err-methods : goal.returns-in_err-methods
unfolding counts_at
returns-in_err-methods c = search (laws, c.in_ok-fields.ensures) depth 9

pub returns-in_err-parameters : goal.returns-in_err-parameters
unfolding counts_at
returns-in_err-parameters c = search (laws, c.in_ok-fields.ensures, c.in_ok-methods.ensures) depth 9

pub returns : goal.returns
unfolding counts_at
returns c = search (laws, c.in_ok-fields.ensures, c.in_ok-methods.ensures, c.in_ok-parameters.ensures) depth 9
