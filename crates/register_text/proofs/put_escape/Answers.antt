use Rattle.register_text.proofs.Laws.{escape_laws as laws}
use Rattle.register_text.proofs.put_escape.Goals as goal

pub returns : goal.returns
returns c = search laws depth 7
