use Rattle.registering.proofs.Laws.{piece_less}
use Rattle.registering.proofs.lines.Output.put_text.Goals as goal

pub loop-i-smaller : goal.loop-i-smaller
loop-i-smaller g c = piece_less _ _ _ _ _ _ _ _ c.escape_into-piece.ensures c.in_ok-reserve.ensures c.loop-i-test.true c.reserve.new.self.whole
