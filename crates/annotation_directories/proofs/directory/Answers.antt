use Rattle.annotation_directories.proofs.Laws.{directory_laws as laws}
use Rattle.annotation_directories.proofs.Laws.{head_kept}
use Rattle.annotation_directories.proofs.directory.Goals as goal

pub returns-in_err-h : goal.returns-in_err-h
unfolding head_kept
returns-in_err-h c = search laws depth 7

pub lists_pass-requires : goal.lists_pass-requires
lists_pass-requires c = search (laws, c.in_ok-h.ensures) depth 7

pub returns-in_err-lists_pass : goal.returns-in_err-lists_pass
unfolding head_kept
returns-in_err-lists_pass c = search (laws, c.in_ok-h.ensures) depth 7

pub returns : goal.returns
unfolding head_kept
returns c = search (laws, c.in_ok-h.ensures) depth 7
