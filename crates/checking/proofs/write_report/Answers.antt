use Rattle.checking.proofs.Laws.{laws}
use Rattle.checking.proofs.write_report.Goals as goal

pub slice_bounds-out-end : goal.slice_bounds-out-end
slice_bounds-out-end g c = search laws

pub slice_bounds-write_output-end : goal.slice_bounds-write_output-end
slice_bounds-write_output-end g c = search laws
