use Rattle.registering.proofs.Laws.{put_laws as laws, room_kept}
use Rattle.registering.proofs.lines.Output.put_bits.Goals as goal

pub overflow_add-self : goal.overflow_add-self
overflow_add-self g c = search laws

pub invariant_of-self-2-clause-in_room : goal.invariant_of-self-2-clause-in_room
invariant_of-self-2-clause-in_room g c = search laws

pub invariant_of-self-2-clause-whole : goal.invariant_of-self-2-clause-whole
invariant_of-self-2-clause-whole g c = room_kept _ _ _ c.hex_into.auto.out c.reserve.new.self.whole
