use Rattle.refusal.proofs.Laws.{handed_on}
use Rattle.whole_check.proofs.TableLaws.{counting as laws}
use Rattle.whole_check.proofs.tables.protos_pass.Goals as goal

pub loop-k-init : goal.loop-k-init
loop-k-init c = search laws

pub returns-in_err-proto_pass : goal.returns-in_err-proto_pass
returns-in_err-proto_pass c = let e = c.in_err-proto_pass.ensures in handed_on _ _ c.from_residual.ensures (search laws)

pub loop-k-preserved : goal.loop-k-preserved
loop-k-preserved c = let e = c.in_ok-proto_pass.ensures in search laws

pub returns : goal.returns
returns c = search laws
