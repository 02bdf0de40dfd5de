-- What the proofs of the readers of records cite: a record that was read against the file's frame, r.
-- Assumes nothing.
use Prim.Native.Nat.{ℕ}
use mathlib.Core.Path.{◌≡◌, ap, ◌∙◌}
use mathlib.Core.List.{List}
use borrow.Author.Rules.{rules}
use Rattle.refusal.specs.Outcome.{Outcome}
use Rattle.refusal.proofs.Laws.{tests, calls}
use Rattle.frame.specs.declared.Frame.{Frame}
use Rattle.header.specs.declared.Header.{Header}
use Rattle.header.specs.Header.{frame_of}
use Rattle.ids.specs.declared.Proto.{Proto}
use Rattle.ids.specs.declared.MemberId.{MemberId}
use Rattle.ids.specs.declared.Handle.{Handle}
use Rattle.ids.specs.Records.{type_at, proto_at, member_id_at, handle_at}
use Rattle.class_ids.specs.declared.Class.{Class}
use Rattle.class_ids.specs.Classes.{class_at}

module _ (f : List ℕ) (h : Header) (handles offset n : ℕ) {r : Frame} (e : r ≡ frame_of h handles) where
  pub type_framed : {y : Outcome ℕ} → y ≡ type_at f r offset n → y ≡ type_at f (frame_of h handles) offset n
  type_framed q = q ∙ ap (λ (x : Frame). type_at f x offset n) e

  pub proto_framed : (end : ℕ) {y : Outcome Proto} → y ≡ proto_at f r end offset n → y ≡ proto_at f (frame_of h handles) end offset n
  proto_framed end q = q ∙ ap (λ (x : Frame). proto_at f x end offset n) e

  pub member_framed : (kinds : ℕ) {y : Outcome MemberId} → y ≡ member_id_at f r kinds offset n → y ≡ member_id_at f (frame_of h handles) kinds offset n
  member_framed kinds q = q ∙ ap (λ (x : Frame). member_id_at f x kinds offset n) e

  pub handle_framed : {y : Outcome Handle} → y ≡ handle_at f r offset n → y ≡ handle_at f (frame_of h handles) offset n
  handle_framed q = q ∙ ap (λ (x : Frame). handle_at f x offset n) e

  pub class_framed : (end : ℕ) {y : Outcome Class} → y ≡ class_at f r end offset n → y ≡ class_at f (frame_of h handles) end offset n
  class_framed end q = q ∙ ap (λ (x : Frame). class_at f x end offset n) e

pub ruleset framed = (type_framed, proto_framed, member_framed, handle_framed, class_framed, calls, tests, rules)

pub ruleset laws = (calls, rules)
