-- The head of a code item as a reading, and how far from the item its tries are.
use Rattle.std.specs.Prelude.{ℕ, ◌+◌, ◌*◌, ◌%◌, false, cond, ◌&&◌, List, length, ltb, leb, eqb}
use Rattle.refusal.specs.Refusals.{runs_past, wrong_offset}
use Rattle.refusal.specs.Outcome.{Outcome, answer, given}
use Rattle.word.specs.Words.{u16_at, u32_at}
use Rattle.frame.specs.declared.Frame.{Frame}
use Rattle.frame.specs.Offsets.{allowed_or_absent}
use Rattle.code_heads.specs.declared.CodeHead.{CodeHead}

-- fields in stored order: a debug offset that is there and wrong (8) comes before a later field that is missing (9)
unfoldable pub code_head_at : List ℕ → Frame → ℕ → Outcome CodeHead
code_head_at s frame item =
    given (leb (item + 12) (length s)) (runs_past item)
    (given (allowed_or_absent frame.start (length s) false (u32_at frame.order s (item + 8))) (wrong_offset item)
    (given (leb (item + 16) (length s)) (runs_past item)
    (answer (record {
      registers = u16_at frame.order s item;
      ins = u16_at frame.order s (item + 2);
      outs = u16_at frame.order s (item + 4);
      tries = u16_at frame.order s (item + 6);
      debug = u32_at frame.order s (item + 8);
      units = u32_at frame.order s (item + 12);
    }))))

-- "Padding of two bytes follows an odd unit count only if there are tries."
unfoldable pub padding : ℕ → ℕ → ℕ
padding tries units = cond (ltb 0 tries && eqb (units % 2) 1) 2 0

-- how far from the item the tries are
unfoldable pub body_size : CodeHead → ℕ
body_size h = 16 + 2 * h.units + padding h.tries h.units
