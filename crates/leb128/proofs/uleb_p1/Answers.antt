use Rattle.leb128.specs.Leb.{less_one}
use Rattle.leb128.specs.Leb.{weight}
use Rattle.leb128.specs.Leb.{bytes_at}
use Rattle.leb128.specs.Leb.{uleb_at}
use Rattle.leb128.proofs.Laws.{plus_one_laws as laws}
use Rattle.leb128.specs.Leb.{plus_one_at}
use Rattle.leb128.proofs.uleb_p1.Goals as goal

pub returns-in_err-n : goal.returns-in_err-n
unfolding plus_one_at
returns-in_err-n c = search laws

pub returns-then-n-gt0 : goal.returns-then-n-gt0
unfolding plus_one_at uleb_at bytes_at weight less_one
returns-then-n-gt0 c = search laws

pub returns : goal.returns
unfolding plus_one_at uleb_at bytes_at weight less_one
returns c = search laws
