-- A code item as a rule: which bytes say what, with no walk.
use Rattle.std.specs.Prelude.{ℕ, ◌+◌, ◌*◌, ◌≤◌, ◌<◌, ◌≡◌, ◌⊎◌, List, [], length}
use Rattle.refusal.specs.Exact.{At, Each, Alike, Rising}
use Rattle.word.specs.Words.{u16_at, u32_at}
use Rattle.word.specs.declared.Endian.{Endian}
use Rattle.frame.specs.declared.Frame.{Frame}
use Rattle.handlers.specs.Handlers.{Handler}
use Rattle.handlers.specs.Rules.{HandlersRule}
use Rattle.code_units.specs.Units.{units_at}
use Rattle.code_heads.specs.Heads.{body_size}
use Rattle.code_heads.specs.Rules.{CodeHeadRule}
use Rattle.code_bodies.specs.declared.Try.{Try}
use Rattle.code_bodies.specs.Code.{judge_of, Code}

-- a try's eight bytes stand at p: "A try lies within the instructions"
pub record TryRule (o : Endian) (s : List ℕ) (units p : ℕ) (t : Try) : Type 0 where
  pub start : u32_at o s p ≡ t.start
  pub count : u16_at o s (p + 4) ≡ t.count
  pub handler : u16_at o s (p + 6) ≡ t.handler
  pub within : t.start + t.count ≤ units

-- "starts at or after the previous try's end"
abbrev pub EndsBefore : Try → Try → Type 0
EndsBefore a b = a.start + a.count ≤ b.start

-- "its handler offset is the start of a handler in the list": of handler number n
pub record LinkRule (handlers : List Handler) (t : Try) (n : ℕ) : Type 0 where
  pub handler : Handler
  pub stands : At handlers n handler
  pub starts : handler.offset ≡ t.handler

pub record CodeRule (s : List ℕ) (frame : Frame) (item : ℕ) (c : Code) : Type 0 where
  pub head : CodeHeadRule s frame item c.head
  pub room : item + (body_size c.head + 8 * c.head.tries) ≤ length s
  -- as many tries as the head says, eight bytes each, in order
  pub tries : Each (λ (k : ℕ) (t : Try). TryRule frame.order s c.head.units (c.from + 8 * k) t) c.head.tries c.tries
  pub in_order : Rising EndsBefore c.tries
  -- "Without tries there is no handler list."
  pub handlers : ((0 < c.head.tries) × HandlersRule s (judge_of frame item c.head c.base) c.handlers)
      ⊎ ((0 < c.head.tries → ⊥) × (record { first = c.base; handlers = []; end = c.base } ≡ c.handlers))
  -- beside each try the number of its handler
  pub links : Alike (LinkRule c.handlers.handlers) c.tries c.links
  pub units : units_at frame.order s (item + 16) c.head.units ≡ c.units
  pub from : item + body_size c.head ≡ c.from
  pub base : item + (body_size c.head + 8 * c.head.tries) ≡ c.base
