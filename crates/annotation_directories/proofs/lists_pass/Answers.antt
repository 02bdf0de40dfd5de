use Rattle.annotation_directories.proofs.Laws.{lists_laws as laws}
use Rattle.annotation_directories.proofs.Laws.{lists_past}
use Rattle.annotation_directories.specs.Directories.{lists_at}
use Rattle.annotation_directories.proofs.lists_pass.Goals as goal

pub returns-in_err-methods : goal.returns-in_err-methods
unfolding lists_past lists_at
returns-in_err-methods c = search laws depth 9

pub returns-in_err-parameters : goal.returns-in_err-parameters
unfolding lists_past lists_at
returns-in_err-parameters c = search (laws, c.in_ok-methods.ensures) depth 9

pub returns-in_err-list_past : goal.returns-in_err-list_past
unfolding lists_past lists_at
returns-in_err-list_past c = search (laws, c.in_ok-methods.ensures, c.in_ok-parameters.ensures) depth 9

pub returns : goal.returns
unfolding lists_past lists_at
returns c = search (laws, c.in_ok-methods.ensures, c.in_ok-parameters.ensures) depth 9
