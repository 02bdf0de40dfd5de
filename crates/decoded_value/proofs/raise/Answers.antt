use Rattle.decoded_value.proofs.Signs.{raise_laws as laws}
use Rattle.decoded_value.proofs.raise.Goals as goal

pub returns : goal.returns
returns c = search laws
