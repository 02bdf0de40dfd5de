-- What the proofs of the whole check cite: its stages are the reading of the whole file, of which only that there is an answer is kept.
-- Assumes nothing.
use Prim.Native.Nat.{ℕ}
use mathlib.Core.Path.{◌≡◌, refl, ap, sym, ◌∙◌}
use mathlib.Core.List.{List}
use borrow.Author.Rules.{rules}
use Rattle.refusal.specs.Outcome.{Outcome, answer, refused, ◌>>=◌, accepted}
use Rattle.refusal.specs.Rows.{every}
use Rattle.refusal.proofs.Laws.{calls}
use Rattle.refusal.proofs.Rows.{bind_assoc}
use Rattle.refusal.proofs.Kept.{kept, kept_part, kept_on, made_kept}
use Rattle.frame.specs.declared.Frame.{Frame}
use Rattle.header.specs.declared.Header.{Header}
use Rattle.header.specs.declared.Table.{Table}
use Rattle.header.specs.Header.{header_at, frame_of, plain_frame}
use Rattle.map_list.specs.declared.MapList.{MapList}
use Rattle.map_list.specs.Map.{Map, map_at, kept_at}
use Rattle.ids.specs.Records.{types_at}
use Rattle.string_ids.specs.Strings.{strings_at, strings_checked}
use Rattle.class_walk.specs.Classes as C
use Rattle.whole_check.specs.File.{proto_below, field_at, method_at, handle_in, tables_at, file_at, check_at, verdict_at}
use Rattle.whole_check.specs.Passes.{types_pass, members_pass, handles_pass, protos_pass, classes_pass, names_pass, records_pass, items_pass, tables_pass, pass_in, verdict_in}

module _ (f : List ℕ) (h : Header) where
  -- a table that was read against the file's frame, r
  module _ {r : Frame} where
    pub types_framed : (offset count : ℕ) {y : Outcome Unit} → r ≡ plain_frame h → y ≡ types_pass f r offset count → y ≡ types_pass f (plain_frame h) offset count
    types_framed offset count g q = q ∙ ap (λ (x : Frame). types_pass f x offset count) g

    pub members_framed : (kinds offset count : ℕ) {y : Outcome Unit} → r ≡ plain_frame h → y ≡ members_pass f r kinds offset count → y ≡ members_pass f (plain_frame h) kinds offset count
    members_framed kinds offset count g q = q ∙ ap (λ (x : Frame). members_pass f x kinds offset count) g

    pub handles_framed : (handles offset count : ℕ) {y : Outcome Unit} → r ≡ frame_of h handles → y ≡ handles_pass f r offset count → y ≡ handles_pass f (frame_of h handles) offset count
    handles_framed handles offset count g q = q ∙ ap (λ (x : Frame). handles_pass f x offset count) g

  -- the stages, told in the grouping of the code
  grouped : (t : Table) → tables_pass f h t ≡ (strings_checked f h >>= λ (u : Unit).
      types_pass f (plain_frame h) h.types.offset h.types.count >>= λ (u : Unit).
      protos_pass f h h.protos.count >>= λ (u : Unit).
      members_pass f (plain_frame h) h.types.count h.fields.offset h.fields.count >>= λ (u : Unit).
      members_pass f (plain_frame h) h.protos.count h.methods.offset h.methods.count >>= λ (u : Unit).
      handles_pass f (frame_of h t.count) t.offset t.count >>= λ (u : Unit).
      classes_pass f h t.count h.classes.count)
  unfolding tables_pass names_pass records_pass items_pass ◌>>=◌
  grouped t = simp bind_assoc refl

  tables_kept : (m : Map) → (tables_at f h m >>= accepted) ≡ tables_pass f h m.handles
  unfolding tables_at
  tables_kept m =
      kept_on (strings_at f h) _ _ _ refl (λ a t.
      kept_on (types_at f (plain_frame h) h.types.offset h.types.count) _ _ _ refl (λ b t.
      kept_on (every (proto_below f h) h.protos.count) _ _ _ refl (λ c t.
      kept_on (every (field_at f h) h.fields.count) _ _ _ refl (λ d t.
      kept_on (every (method_at f h) h.methods.count) _ _ _ refl (λ e t.
      kept_on (every (handle_in f h m) m.handles.count) _ _ _ refl (λ g t.
      made_kept _ (every (C.class_below f h m.handles.count) h.classes.count)))))))
      ∙ sym (grouped m.handles)

  pass_kept : ((map_at f h >>= λ (m : Map). tables_at f h m) >>= accepted) ≡ pass_in f h
  unfolding pass_in kept_at
  pass_kept = kept_part (map_at f h) _ (λ (m : Map). tables_at f h m) (λ (l : MapList). tables_pass f h l.handles) (λ m t. tables_kept m)

-- the check by the stages of the code, and the verdict by them
check_is : (f : List ℕ) → (header_at f >>= λ (h : Header). pass_in f h) ≡ check_at f
unfolding check_at file_at
check_is f = (λ i. header_at f >>= λ (h : Header). sym (pass_kept f h) i) ∙ sym (bind_assoc (header_at f) _ accepted)

-- of a header that was read, the second reading says the same
again : {A B : Type 0} (o : Outcome A) (k : A → Outcome B) → ((o >>= k) >>= λ (b : B). o) ≡ (o >>= λ (a : A). k a >>= λ (b : B). answer a)
unfolding ◌>>=◌
again (answer a) k = refl
again (refused r) k = refl

pub verdict_by : (f : List ℕ) {y : Outcome Header} → y ≡ (header_at f >>= λ (h : Header). verdict_in f h) → y ≡ verdict_at f
unfolding verdict_at verdict_in
verdict_by f e = e ∙ sym (ap (λ (o : Outcome Unit). o >>= λ (u : Unit). header_at f) (sym (check_is f)) ∙ again (header_at f) (pass_in f))

pub verdict_in_by : (f : List ℕ) (h : Header) {y : Outcome Header} → y ≡ (pass_in f h >>= λ (u : Unit). answer h) → y ≡ verdict_in f h
unfolding verdict_in
verdict_in_by f h e = e

-- where the check accepts there is a header: so that nothing but the header of a verdict is left out
once_more : {A : Type 0} (o : Outcome A) (k : A → Outcome Unit) → (((o >>= k) >>= λ (u : Unit). o) >>= accepted) ≡ (o >>= k)
unfolding ◌>>=◌
once_more (answer a) k = go (k a)
  where
    go : (c : Outcome Unit) → ((c >>= λ (u : Unit). answer a) >>= accepted) ≡ c
    go (answer u) = refl
    go (refused r) = refl
once_more (refused r) k = refl

checked_verdict : (f : List ℕ) → (verdict_at f >>= accepted) ≡ check_at f
unfolding verdict_at
checked_verdict f = ap (λ (o : Outcome Unit). (o >>= λ (u : Unit). header_at f) >>= accepted) (sym (check_is f)) ∙ once_more (header_at f) (pass_in f) ∙ check_is f

pub check_by : (f : List ℕ) {y : Outcome Unit} → y ≡ (verdict_at f >>= accepted) → y ≡ check_at f
check_by f e = e ∙ checked_verdict f

pub ruleset laws = (types_framed, members_framed, handles_framed, check_by, verdict_by, verdict_in_by, kept, calls, rules)
