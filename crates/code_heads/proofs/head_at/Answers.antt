use Rattle.code_heads.proofs.Laws.{head_laws as laws}
use Rattle.code_heads.proofs.head_at.Goals as goal

pub returns-then-s-item : goal.returns-then-s-item
returns-then-s-item c = search laws

pub returns-then-s-item-lt12 : goal.returns-then-s-item-lt12
returns-then-s-item-lt12 c = search laws

pub returns-then-s-item-lt16 : goal.returns-then-s-item-lt16
returns-then-s-item-lt16 c = search laws

pub returns-then-is_allowed_or_absent : goal.returns-then-is_allowed_or_absent
returns-then-is_allowed_or_absent c = search laws

pub returns : goal.returns
returns c = search laws
