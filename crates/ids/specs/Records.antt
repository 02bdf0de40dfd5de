-- The records of types, protos, fields, methods and method handles as readings: own rules in stored order, at the record.
use Rattle.std.specs.Prelude.{ℕ, ◌+◌, ◌*◌, true, cond, List, ltb, leb}
use Rattle.refusal.specs.Refusals.{out_of_order, unknown_kind, wrong_index, wrong_offset}
use Rattle.refusal.specs.Outcome.{Outcome, answer, given}
use Rattle.refusal.specs.Rows.{in_turn}
use Rattle.word.specs.Words.{u16_at, u32_at}
use Rattle.frame.specs.declared.Frame.{Frame}
use Rattle.frame.specs.Offsets.{allowed_or_absent}
use Rattle.ids.specs.declared.Proto.{Proto}
use Rattle.ids.specs.declared.MemberId.{MemberId}
use Rattle.ids.specs.declared.Handle.{Handle}

-- a type is a string number
unfoldable pub type_of : Frame → ℕ → ℕ → Outcome ℕ
type_of frame place string = given (ltb string frame.strings) (wrong_index place) (answer string)

unfoldable pub type_at : List ℕ → Frame → ℕ → ℕ → Outcome ℕ
type_at f frame offset n = type_of frame (offset + 4 * n) (u32_at frame.order f (offset + 4 * n))

-- "types by string index (15, at the record)"
unfoldable pub types_at : List ℕ → Frame → ℕ → ℕ → Outcome (List ℕ)
types_at f frame offset count = in_turn (type_at f frame offset) ltb (λ n. out_of_order (offset + 4 * n)) count

-- shorty (11), return type (11), parameters (8)
unfoldable pub proto_of : Frame → ℕ → ℕ → ℕ → ℕ → ℕ → Outcome Proto
proto_of frame end place shorty return_type_lem parameters =
    given (ltb shorty frame.strings) (wrong_index place)
    (given (ltb return_type_lem frame.types) (wrong_index place)
    (given (allowed_or_absent frame.start end true parameters) (wrong_offset place)
    (answer (record { shorty = shorty; return_type = return_type_lem; parameters = parameters }))))

unfoldable pub proto_at : List ℕ → Frame → ℕ → ℕ → ℕ → Outcome Proto
proto_at f frame end offset n = proto_of frame end (offset + 12 * n) (u32_at frame.order f (offset + 12 * n)) (u32_at frame.order f (offset + 12 * n + 4)) (u32_at frame.order f (offset + 12 * n + 8))

-- class (11), type or proto (11), name (11)
unfoldable pub member_id_of : Frame → ℕ → ℕ → ℕ → ℕ → ℕ → Outcome MemberId
member_id_of frame kinds place class kind name =
    given (ltb class frame.types) (wrong_index place)
    (given (ltb kind kinds) (wrong_index place)
    (given (ltb name frame.strings) (wrong_index place)
    (answer (record { class = class; kind = kind; name = name }))))

unfoldable pub member_id_at : List ℕ → Frame → ℕ → ℕ → ℕ → Outcome MemberId
member_id_at f frame kinds offset n = member_id_of frame kinds (offset + 8 * n) (u16_at frame.order f (offset + 8 * n)) (u16_at frame.order f (offset + 8 * n + 2)) (u32_at frame.order f (offset + 8 * n + 4))

-- "Handle types 0 to 3 name a field, 4 to 8 a method."
unfoldable pub handle_of : Frame → ℕ → ℕ → ℕ → Outcome Handle
handle_of frame place kind number =
    given (leb kind 8) (unknown_kind place)
    (cond (leb kind 3)
    (given (ltb number frame.fields) (wrong_index place) (answer (record { kind = kind; number = number })))
    (given (ltb number frame.methods) (wrong_index place) (answer (record { kind = kind; number = number }))))

unfoldable pub handle_at : List ℕ → Frame → ℕ → ℕ → Outcome Handle
handle_at f frame offset n = handle_of frame (offset + 8 * n) (u16_at frame.order f (offset + 8 * n)) (u16_at frame.order f (offset + 8 * n + 4))
