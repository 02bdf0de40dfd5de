-- Stages of the code: each table by itself, of which only that there is an answer is kept.
use Rattle.std.specs.Prelude.{ℕ, Bool, cond, List, ltb}
use Rattle.std.proofs.Math.Option.{Option, none, some}
use Rattle.refusal.specs.Outcome.{Outcome, answer, ◌>>=◌, accepted}
use Rattle.refusal.specs.Rows.{every, follows}
use Rattle.frame.specs.declared.Frame.{Frame}
use Rattle.header.specs.declared.Header.{Header}
use Rattle.header.specs.declared.Table.{Table}
use Rattle.header.specs.Header.{frame_of, plain_frame}
use Rattle.map_list.specs.Map.{kept_at}
use Rattle.ids.specs.Records.{types_at, member_id_at, handle_at}
use Rattle.string_ids.specs.Strings.{strings_checked}
use Rattle.class_walk.specs.Classes as C
use Rattle.whole_check.specs.File.{proto_below}

-- the last string of a type, if there was one
abbrev pub last_of : Bool → ℕ → Option ℕ
last_of later last = cond later (some last) none

abbrev pub rising : Bool → ℕ → ℕ → Bool
rising later last string = follows ltb (last_of later last) string

abbrev pub types_pass : List ℕ → Frame → ℕ → ℕ → Outcome Unit
types_pass f frame offset count = types_at f frame offset count >>= accepted

abbrev pub member_pass : List ℕ → Frame → ℕ → ℕ → ℕ → Outcome Unit
member_pass f frame kinds offset n = member_id_at f frame kinds offset n >>= accepted

abbrev pub members_pass : List ℕ → Frame → ℕ → ℕ → ℕ → Outcome Unit
members_pass f frame kinds offset count = every (member_id_at f frame kinds offset) count >>= accepted

abbrev pub handle_pass : List ℕ → Frame → ℕ → ℕ → Outcome Unit
handle_pass f frame offset n = handle_at f frame offset n >>= accepted

abbrev pub handles_pass : List ℕ → Frame → ℕ → ℕ → Outcome Unit
handles_pass f frame offset count = every (handle_at f frame offset) count >>= accepted

module _ (f : List ℕ) (header : Header) where
  abbrev pub proto_pass : ℕ → Outcome Unit
  proto_pass n = proto_below f header n >>= accepted

  abbrev pub protos_pass : ℕ → Outcome Unit
  protos_pass count = every (proto_below f header) count >>= accepted

  abbrev pub classes_pass : ℕ → ℕ → Outcome Unit
  classes_pass handles count = every (C.class_below f header handles) count >>= accepted

  -- strings, types, protos
  unfoldable pub names_pass : Outcome Unit
  names_pass = do
    u ← strings_checked f header
    u ← types_pass f (plain_frame header) header.types.offset header.types.count
    protos_pass header.protos.count

  -- fields, methods
  unfoldable pub records_pass : Outcome Unit
  records_pass = do
    u ← members_pass f (plain_frame header) header.types.count header.fields.offset header.fields.count
    members_pass f (plain_frame header) header.protos.count header.methods.offset header.methods.count

  -- handles, classes
  unfoldable pub items_pass : Table → Outcome Unit
  items_pass t = do
    u ← handles_pass f (frame_of header t.count) t.offset t.count
    classes_pass t.count header.classes.count

  unfoldable pub tables_pass : Table → Outcome Unit
  tables_pass t = do
    u ← names_pass
    u ← records_pass
    items_pass t

  unfoldable pub pass_in : Outcome Unit
  pass_in = kept_at f header >>= λ m. tables_pass m.handles

  unfoldable pub verdict_in : Outcome Header
  verdict_in = do
    u ← pass_in
    answer header
