use Prim.Native.Nat.{◌+◌}
use mathlib.Core.Path.{◌≡◌, refl}
use mathlib.Core.Bool.{◌&&◌}
use lib.ListN.{get_or}
use lib.Dec.{eqb}
use Rattle.header.proofs.Laws.{is_and, differs_and, true_and, false_and, read_by, four_by}
use Rattle.header.proofs.is_four.Goals as goal
use Rattle.header.proofs.is_four.Goals.{then-byte_at-bytes, else-byte_at-bytes, then-byte_at-bytes-2, else-byte_at-bytes-2}

pub returns-then-byte_at-bytes-3 : goal.returns-then-byte_at-bytes-3
returns-then-byte_at-bytes-3 c =
    let first : c.if-byte_at-bytes.value ≡ (eqb (get_or c.args.f.now c.args.at 0) (get_or c.args.bytes 0 0) && eqb (get_or c.args.f.now (c.args.at + 1) 0) (get_or c.args.bytes 1 0)) = elim c.if-byte_at-bytes.branch [
      | then-byte_at-bytes w ↦ is_and c.byte_at.ensures w.if-byte_at-bytes.true (read_by _ w.byte_at-then-byte_at-bytes.ensures w.value-is)
      | else-byte_at-bytes w ↦ differs_and _ c.byte_at.ensures w.if-byte_at-bytes.false w.value-is
    ] in
    let second : c.if-byte_at-bytes-2.value ≡ (c.if-byte_at-bytes.value && eqb (get_or c.args.f.now (c.args.at + 2) 0) (get_or c.args.bytes 2 0)) = elim c.if-byte_at-bytes-2.branch [
      | then-byte_at-bytes-2 w ↦ true_and w.if-byte_at-bytes-2.true (read_by _ w.byte_at-then-byte_at-bytes-2.ensures w.value-is)
      | else-byte_at-bytes-2 w ↦ false_and _ w.if-byte_at-bytes-2.false w.value-is
    ] in
    four_by c.args.f.now c.args.at _ _ _ _ first second (true_and c.if-byte_at-bytes-3.true (read_by _ c.byte_at-then-byte_at-bytes-3.ensures refl))

pub returns-else-byte_at-bytes-3 : goal.returns-else-byte_at-bytes-3
returns-else-byte_at-bytes-3 c =
    let first : c.if-byte_at-bytes.value ≡ (eqb (get_or c.args.f.now c.args.at 0) (get_or c.args.bytes 0 0) && eqb (get_or c.args.f.now (c.args.at + 1) 0) (get_or c.args.bytes 1 0)) = elim c.if-byte_at-bytes.branch [
      | then-byte_at-bytes w ↦ is_and c.byte_at.ensures w.if-byte_at-bytes.true (read_by _ w.byte_at-then-byte_at-bytes.ensures w.value-is)
      | else-byte_at-bytes w ↦ differs_and _ c.byte_at.ensures w.if-byte_at-bytes.false w.value-is
    ] in
    let second : c.if-byte_at-bytes-2.value ≡ (c.if-byte_at-bytes.value && eqb (get_or c.args.f.now (c.args.at + 2) 0) (get_or c.args.bytes 2 0)) = elim c.if-byte_at-bytes-2.branch [
      | then-byte_at-bytes-2 w ↦ true_and w.if-byte_at-bytes-2.true (read_by _ w.byte_at-then-byte_at-bytes-2.ensures w.value-is)
      | else-byte_at-bytes-2 w ↦ false_and _ w.if-byte_at-bytes-2.false w.value-is
    ] in
    four_by c.args.f.now c.args.at _ _ _ _ first second (false_and _ c.if-byte_at-bytes-3.false refl)
