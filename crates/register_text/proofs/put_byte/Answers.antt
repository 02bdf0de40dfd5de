use Rattle.register_text.proofs.Laws.{byte_laws as laws}
use Rattle.register_text.proofs.put_byte.Goals as goal

pub returns : goal.returns
returns c = search laws
