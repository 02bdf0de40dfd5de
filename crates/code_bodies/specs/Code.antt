-- A code item as a reading: "its own bytes, whole, in stored order".
use Rattle.std.specs.Prelude.{ℕ, ◌+◌, ◌*◌, cond, List, [], length, get_or, ltb, leb}
use Rattle.refusal.specs.Refusals.{runs_past}
use Rattle.refusal.specs.Outcome.{Outcome, answer, ◌>>=◌, given}
use Rattle.word.specs.declared.Endian.{Endian}
use Rattle.frame.specs.declared.Frame.{Frame}
use Rattle.handlers.specs.declared.HandlerJudge.{HandlerJudge}
use Rattle.handlers.specs.declared.Brief.{Brief}
use Rattle.handlers.specs.Handlers as H
use Rattle.code_units.specs.Units.{units_at}
use Rattle.code_heads.specs.declared.CodeHead.{CodeHead}
use Rattle.code_heads.specs.Heads.{code_head_at, body_size}
use Rattle.code_bodies.specs.declared.Try.{Try}
use Rattle.code_bodies.specs.Tries.{tries_at, links_at, no_try, kept_try, kept_link}

abbrev pub judge_of : Frame → ℕ → CodeHead → ℕ → HandlerJudge
judge_of frame item h base = record { types = frame.types; units = h.units; item = item; base = base }

-- "Without tries there is no handler list."
unfoldable pub list_at : List ℕ → Frame → ℕ → CodeHead → ℕ → Outcome H.HandlerList
list_at s frame item h base = cond (ltb 0 h.tries) (H.handlers_at s (judge_of frame item h base)) (answer (record { first = base; handlers = []; end = base }))

-- what the bytes say
pub record Code : Type 0 where
  pub head : CodeHead
  pub units : List ℕ
  pub tries : List Try
  pub handlers : H.HandlerList
  pub links : List ℕ
  pub from : ℕ
  pub base : ℕ

-- tries, handler list, and then the tries' handler offsets
unfoldable pub parts_at : List ℕ → Frame → ℕ → CodeHead → ℕ → ℕ → Outcome Code
parts_at s frame item h from base = do
  t ← tries_at frame.order s h.units item from h.tries
  l ← list_at s frame item h base
  n ← links_at frame.order s l.handlers item from h.tries
  answer (record { head = h; units = units_at frame.order s (item + 16) h.units; tries = t.item; handlers = l; links = n.item; from = from; base = base })

-- units, padding and tries are 9 where they run past the end
unfoldable pub body_at : List ℕ → Frame → ℕ → CodeHead → Outcome Code
body_at s frame item h =
    given (leb (item + (body_size h + 8 * h.tries)) (length s)) (runs_past item)
    (parts_at s frame item h (item + body_size h) (item + (body_size h + 8 * h.tries)))

unfoldable pub code_at : List ℕ → Frame → ℕ → Outcome Code
code_at s frame item = code_head_at s frame item >>= body_at s frame item

-- ---- stages of the code, which keeps try t with its link, and pair k of handler h
pub record KeptCode : Type 0 where
  pub head : CodeHead
  pub attempt : Try
  pub link : ℕ
  pub handlers : ℕ
  pub brief : Brief
  pub from : ℕ
  pub base : ℕ
  pub end : ℕ

abbrev pub kept : ℕ → ℕ → ℕ → Code → Outcome KeptCode
kept t h k c = answer (record {
  head = c.head;
  attempt = get_or c.tries t no_try;
  link = get_or c.links t 0;
  handlers = length c.handlers.handlers;
  brief = H.brief k (get_or c.handlers.handlers h H.nobody);
  from = c.from;
  base = c.base;
  end = c.handlers.end;
})

unfoldable pub kept_code_at : List ℕ → Frame → ℕ → ℕ → ℕ → ℕ → Outcome KeptCode
kept_code_at s frame item t h k = code_at s frame item >>= kept t h k

-- with tries
unfoldable pub linked_stage : List ℕ → Endian → HandlerJudge → CodeHead → Try → ℕ → ℕ → ℕ → ℕ → Outcome KeptCode
linked_stage s o j head attempt from t h k = do
  l ← H.kept_handlers_at s j h k
  n ← kept_link o s j l.first l.count from head.tries t
  answer (record { head = head; attempt = attempt; link = n; handlers = l.count; brief = l.brief; from = from; base = j.base; end = l.end })

unfoldable pub listed_stage : List ℕ → Endian → HandlerJudge → CodeHead → Try → ℕ → ℕ → ℕ → ℕ → Outcome KeptCode
listed_stage s o j head attempt from t h k =
    cond (ltb 0 head.tries) (linked_stage s o j head attempt from t h k)
    (answer (record { head = head; attempt = attempt; link = 0; handlers = 0; brief = H.brief k H.nobody; from = from; base = j.base; end = j.base }))

unfoldable pub parts_stage : List ℕ → Endian → HandlerJudge → CodeHead → ℕ → ℕ → ℕ → ℕ → Outcome KeptCode
parts_stage s o j head from t h k = do
  a ← kept_try o s head.units j.item from head.tries t
  listed_stage s o j head a from t h k

unfoldable pub body_stage : List ℕ → Frame → ℕ → CodeHead → ℕ → ℕ → ℕ → Outcome KeptCode
body_stage s frame item head t h k =
    given (leb (item + (body_size head + 8 * head.tries)) (length s)) (runs_past item)
    (parts_stage s frame.order (judge_of frame item head (item + (body_size head + 8 * head.tries))) head (item + body_size head) t h k)
