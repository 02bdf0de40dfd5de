-- The handler list of a code item as a reading. `s` ends where the data section ends; all faults are at the code item.
use Rattle.std.specs.Prelude.{ℕ, zero, suc, ◌-◌, Bool, true, false, cond, List, [], length, get_or, ltb, ℤ, pos, negsuc, Some, None}
use Rattle.std.specs.Prelude as S
use Rattle.std.proofs.Math.Option.{Option, none, some}
use Rattle.refusal.specs.Refusals.{wrong_code, wrong_index}
use Rattle.refusal.specs.Outcome.{Outcome, answer, ◌>>=◌, given}
use Rattle.refusal.specs.Rows.{Found, collect}
use Rattle.refusal.specs.Choose.{choose}
use Rattle.leb128.specs.Leb.{uleb_at, sleb_at}
use Rattle.sign.specs.Magnitude.{magnitude}
use Rattle.handlers.specs.declared.Pair.{Pair}
use Rattle.handlers.specs.declared.HandlerJudge.{HandlerJudge}
use Rattle.handlers.specs.declared.Brief.{Brief}

-- "for s at most 0, a catch-all"
unfoldable pub catches : ℤ → Bool
catches (pos zero) = true
catches (pos (suc n)) = false
catches (negsuc n) = true

-- "Addresses are below the unit count": 17
unfoldable pub address_at : List ℕ → HandlerJudge → ℕ → Outcome (Found ℕ ℕ)
address_at s j p = do
  a ← uleb_at s j.item p
  given (ltb a.item j.units) (wrong_code j.item) (answer a)

unfoldable pub pair_at : List ℕ → HandlerJudge → ℕ → Outcome (Found Pair ℕ)
pair_at s j p = do
  t ← uleb_at s j.item p
  given (ltb t.item j.types) (wrong_index j.item) do
    a ← address_at s j t.next
    answer (record { item = record { kind = t.item; address = a.item }; next = a.next })

-- the catch-all's address, or none
unfoldable pub catch_at : List ℕ → HandlerJudge → ℤ → ℕ → Outcome (Found (Option ℕ) ℕ)
catch_at s j size p =
    cond (catches size) (do
      a ← address_at s j p
      answer (record { item = some a.item; next = a.next }))
    (answer (record { item = none; next = p }))

-- what a handler's bytes say; its offset is that from the list's first byte
pub record Handler : Type 0 where
  pub offset : ℕ
  pub pairs : List Pair
  pub all : Option ℕ

-- "A handler of size s has |s| pairs and, for s at most 0, a catch-all."
unfoldable pub handler_at : List ℕ → HandlerJudge → ℕ → Outcome (Found Handler ℕ)
handler_at s j p = do
  z ← sleb_at s j.item p
  ps ← collect (magnitude z.item) (pair_at s j) z.next
  c ← catch_at s j z.item ps.next
  answer (record { item = record { offset = p - j.base; pairs = ps.item; all = c.item }; next = c.next })

-- where the first handler begins, what the handlers say, and the place after them
pub record HandlerList : Type 0 where
  pub first : ℕ
  pub handlers : List Handler
  pub end : ℕ

-- "Without tries there is no handler list", and with tries one of size 0 is 17
unfoldable pub handlers_at : List ℕ → HandlerJudge → Outcome HandlerList
handlers_at s j = do
  n ← uleb_at s j.item j.base
  given (ltb 0 n.item) (wrong_code j.item) do
    l ← collect n.item (handler_at s j) n.next
    answer (record { first = n.next; handlers = l.item; end = l.next })

-- ---- what the code keeps: pair k of handler h, and counts
abbrev pub nothing : Pair
nothing = record { kind = 0; address = 0 }

abbrev pub nobody : Handler
nobody = record { offset = 0; pairs = []; all = none }

-- the catch-all's address as the code keeps it
abbrev pub caught_in : Option ℕ → S.Option ℕ
caught_in none = None
caught_in (some a) = Some a

abbrev pub brief : ℕ → Handler → Brief
brief k h = record { offset = h.offset; pairs = length h.pairs; pair = get_or h.pairs k nothing; all = caught_in h.all }

abbrev pub briefly : ℕ → Found Handler ℕ → Outcome (Found Brief ℕ)
briefly k h = answer (record { item = brief k h.item; next = h.next })

unfoldable pub kept_handler : List ℕ → HandlerJudge → ℕ → ℕ → Outcome (Found Brief ℕ)
kept_handler s j k p = handler_at s j p >>= briefly k

pub record KeptHandlers : Type 0 where
  pub count : ℕ
  pub brief : Brief
  pub first : ℕ
  pub end : ℕ

unfoldable pub kept_handlers_at : List ℕ → HandlerJudge → ℕ → ℕ → Outcome KeptHandlers
kept_handlers_at s j h k = do
  l ← handlers_at s j
  answer (record { count = length l.handlers; brief = brief k (get_or l.handlers h nobody); first = l.first; end = l.end })

-- ---- stages of the code
unfoldable pub kept_pairs : List ℕ → HandlerJudge → ℕ → ℕ → ℕ → Outcome (Found Pair ℕ)
kept_pairs s j from count k = choose count (pair_at s j) nothing k from

pub record Caught : Type 0 where
  pub all : S.Option ℕ
  pub next : ℕ

unfoldable pub all_at : List ℕ → HandlerJudge → ℤ → ℕ → Outcome Caught
all_at s j size p =
    cond (catches size) (do
      a ← address_at s j p
      answer (record { all = Some a.item; next = a.next }))
    (answer (record { all = None; next = p }))

unfoldable pub rest_at : List ℕ → HandlerJudge → ℕ → ℕ → ℤ → ℕ → ℕ → Outcome (Found Brief ℕ)
rest_at s j offset pairs size from k = do
  q ← kept_pairs s j from pairs k
  c ← all_at s j size q.next
  answer (record { item = record { offset = offset; pairs = pairs; pair = q.item; all = c.all }; next = c.next })

unfoldable pub staged_handler : List ℕ → HandlerJudge → ℕ → ℕ → Outcome (Found Brief ℕ)
staged_handler s j k p = do
  z ← sleb_at s j.item p
  rest_at s j (p - j.base) (magnitude z.item) z.item z.next k

unfoldable pub kept_list : List ℕ → HandlerJudge → ℕ → ℕ → ℕ → ℕ → Outcome (Found Brief ℕ)
kept_list s j from count h k = choose count (handler_at s j) nobody h from >>= briefly k

unfoldable pub staged_at : List ℕ → HandlerJudge → ℕ → ℕ → Outcome KeptHandlers
staged_at s j h k = do
  n ← uleb_at s j.item j.base
  given (ltb 0 n.item) (wrong_code j.item) do
    l ← kept_list s j n.next n.item h k
    answer (record { count = n.item; brief = l.item; first = n.next; end = l.next })
