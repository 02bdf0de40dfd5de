use Rattle.code_item.proofs.Covering.{covering_laws as laws}
use Rattle.code_item.proofs.covering_try.Goals as goal

pub cover_at-requires : goal.cover_at-requires
cover_at-requires c = search laws

pub returns-in_err-head : goal.returns-in_err-head
returns-in_err-head c = search laws

pub returns : goal.returns
returns c = search laws
