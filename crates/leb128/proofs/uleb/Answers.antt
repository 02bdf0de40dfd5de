use Rattle.leb128.proofs.Laws.{uleb_laws as laws}
use Rattle.std.proofs.Common.{rules}
use Rattle.leb128.proofs.uleb.Goals as goal

pub returns-then-only-lt128 : goal.returns-then-only-lt128
returns-then-only-lt128 c = search laws depth 9

pub returns-in_err-n : goal.returns-in_err-n
returns-in_err-n c = search laws depth 9

pub returns-then-n-lt4294967296 : goal.returns-then-n-lt4294967296
returns-then-n-lt4294967296 c = search laws depth 9

pub returns : goal.returns
returns c = search laws depth 9
