-- On a file of which a reading is known, each reader of header, map, records, texts and type lists answers what the reading says.
-- Assumes nothing.
use Prim.Native.Nat.{ℕ}
use mathlib.Core.Path.{◌≡◌, refl, ap, sym, ◌∙◌}
use mathlib.Core.Option.{Option}
use mathlib.Core.List.{List, []}
use lib.ListN.{length}
use lib.Dec.{ltb}
use borrow.Author.Tests.{lt-ltb, le-ltb}
use native.Mathlib.Omega.{arith}
use Rattle.refusal.specs.Refusals.{not_there}
use Rattle.refusal.specs.Outcome.{Outcome, answer, refused, ◌>>=◌, given}
use Rattle.refusal.specs.Exact.{absent, found_there, Each}
use Rattle.refusal.proofs.Laws.{bind_answer, picks, leaves}
use Rattle.refusal.proofs.Rows.{bind_assoc}
use Rattle.header.specs.declared.Header.{Header}
use Rattle.header.specs.Header.{header_at, up_to_end, frame_of, plain_frame}
use Rattle.header.proofs.Exactly.{header_exact}
use Rattle.map_list.specs.declared.MapEntry.{MapEntry}
use Rattle.map_list.specs.Map.{kept_at, kept, entry_number}
use Rattle.map_list.proofs.Exactly.{map_exact}
use Rattle.text.specs.Text.{Text, extent}
use Rattle.string_ids.specs.Strings.{string_of}
use Rattle.string_ids.proofs.Exactly.{string_of_exact}
use Rattle.ids.specs.declared.Proto.{Proto}
use Rattle.ids.specs.Records.{type_at, proto_at, member_id_at, handle_at}
use Rattle.ids.proofs.Exactly.{type_exact, proto_exact, member_exact, handle_exact}
use Rattle.type_list.specs.TypeList.{count_at, number_at, entry_number as listEntry}
use Rattle.type_list.specs.Rules.{TypeListRule, TypesBelowRule}
use Rattle.type_list.specs.Below.{list_judge, list_count}
use Rattle.type_list.proofs.Exactly.{list_exact}
use Rattle.class_ids.specs.declared.Class.{Class}
use Rattle.class_ids.specs.Classes.{class_at}
use Rattle.class_ids.proofs.Exactly.{class_exact}
use Rattle.value_bodies.specs.Bodies.{pick}
use Rattle.value_bodies.proofs.Picks.{pick_none}
use Rattle.table_readers.specs.Head.{signed_by, signature_of, map_count, map_entry_in, map_entry, handle_count}
use Rattle.table_readers.specs.Strings.{string_number, string_extent_of}
use Rattle.table_readers.specs.Tables.{type_in, type_name, proto_in, proto_number, field_in, field_number, method_in, method_number, class_in, class_number, handle_under, handle_in, handle_number}
use Rattle.table_readers.specs.Lists as L
use Rattle.table_readers.specs.Flags.{class_flags, content_of, class_content}
use Rattle.class_walk.specs.Classes.{ClassBelow}
use Rattle.class_walk.specs.Rules.{ClassBelowRule}
use Rattle.whole_check.specs.File.{ProtoBelow, File}
use Rattle.promises.specs.Reads.{ProtoBelowRule, Reads}
use Rattle.promises.specs.Tables.{listed, flags_left, TableReaders}
use Rattle.promises.proofs.Asked.{made_same, asked, asked_plain}

-- ---- lists of types
module _ (f : List ℕ) (h : Header) where
  counted : {at : ℕ} {l : Option (List ℕ)} → TypesBelowRule f h at l → list_count f h at ≡ answer (length (listed l))
  unfolding list_count count_at
  counted {at} (absent e) = sym (leaves (count_at (up_to_end f h) (list_judge h at)) (le-ltb 0 at (omega arith)) refl)
  counted {at} (found_there {a = l} p rule) = sym (picks (answer 0) (lt-ltb 0 at p) refl) ∙ bind_answer _ ((list_exact (up_to_end f h) (list_judge h at)).complete l rule)

  numbered : {at : ℕ} {l : Option (List ℕ)} → TypesBelowRule f h at l → (k : ℕ) → L.list_type f h at k ≡ pick k (listed l)
  unfolding L.list_type number_at count_at
  numbered {at} (absent e) k = sym (leaves (number_at (up_to_end f h) (list_judge h at) k) (le-ltb 0 at (omega arith)) refl) ∙ sym (pick_none [] k (omega arith))
  numbered {at} (found_there {a = l} p rule) k =
      let whole = (list_exact (up_to_end f h) (list_judge h at)).complete l rule in
      sym (picks _ (lt-ltb 0 at p) refl)
      ∙ bind_answer _ (bind_answer _ whole)
      ∙ asked_plain (λ (n : ℕ). answer (listEntry (up_to_end f h) (list_judge h at) n)) (sized rule) (λ n a q. ap answer q) k
    where
      sized : TypeListRule (up_to_end f h) (list_judge h at) l → Each (λ (n a : ℕ). listEntry (up_to_end f h) (list_judge h at) n ≡ a) (length l) l
      sized rule = record { count = refl; each = λ m. (rule.entries.each m).stands }

module _ (f : List ℕ) {r : File} (reads : Reads f r) where
  pub headed : {B : Type 0} (k : Header → Outcome B) → (header_at f >>= k) ≡ k r.header
  headed k = bind_answer k ((header_exact f).complete r.header reads.header)

  pub mapped : kept_at f r.header ≡ kept r.map
  unfolding kept_at
  mapped = bind_answer kept ((map_exact f r.header).complete r.map reads.map)

  -- ---- records, by the table that they stand in
  string_at : (n : ℕ) → given (ltb n r.header.strings.count) not_there (string_of f r.header n) ≡ pick n r.strings
  string_at = asked_plain (string_of f r.header) reads.strings.each (λ n t q. (string_of_exact f r.header n).complete t q)

  module _ {C : Type 0} (n : ℕ) where
    pub proto_at_lem : (k : Proto → Outcome C) (g : ProtoBelow → Outcome C) → ((p : ProtoBelow) → ProtoBelowRule f r.header n p → k p.own ≡ g p) → (proto_in f n r.header >>= k) ≡ (pick n r.protos >>= g)
    unfolding proto_in
    proto_at_lem k g same =
        asked (proto_at f (plain_frame r.header) r.header.end r.header.protos.offset) reads.protos (λ (p : ProtoBelow). p.own)
        (λ n p q. (proto_exact f (plain_frame r.header) r.header.protos.offset r.header.end n).complete p.own q.own) n k g same

    pub class_at_lem : (k : Class → Outcome C) (g : ClassBelow → Outcome C) → ((c : ClassBelow) → ClassBelowRule f r.header r.map.handles.count n c → k c.own ≡ g c) → (class_in f n r.header >>= k) ≡ (pick n r.classes >>= g)
    unfolding class_in
    class_at_lem k g same =
        asked (class_at f (plain_frame r.header) r.header.end r.header.classes.offset) reads.classes (λ (c : ClassBelow). c.own)
        (λ n c q. (class_exact f (plain_frame r.header) r.header.end r.header.classes.offset n).complete c.own q.own) n k g same

  -- entry k of the map stands at its place
  entries : Each (λ (k : ℕ) (e : MapEntry). entry_number f r.header k ≡ e) (length r.map.entries) r.map.entries
  unfolding entry_number
  entries = record { count = refl; each = λ m. (reads.map.list.entries.each m).stands }

left : (o : Outcome ClassBelow) (out : List ℕ) → content_of (o >>= λ (c : ClassBelow). answer c.own) out ≡ flags_left o out
unfolding content_of ◌>>=◌
left (answer c) out = refl
left (refused r) out = refl

pub tables_agree : (f : List ℕ) {r : File} → Reads f r → TableReaders f r
unfolding signature_of signed_by map_count map_entry map_entry_in handle_count string_number string_extent_of type_name type_in proto_number field_number field_in method_number method_in class_number handle_number handle_in handle_under L.parameter_count L.parameters_in L.parameter L.parameter_in L.interface_count L.interfaces_in L.interface L.interface_in class_flags class_content
tables_agree f {r} reads =
    record {
      header = (header_exact f).complete r.header reads.header;
      signature = ap (signed_by f) ((header_exact f).complete r.header reads.header);
      map_count_lem = headed f reads _ ∙ bind_answer _ (mapped f reads);
      map_entry_lem = λ k. headed f reads _ ∙ bind_answer _ (mapped f reads) ∙ asked_plain (λ (n : ℕ). answer (entry_number f r.header n)) (entries f reads) (λ n a q. ap answer q) k;
      string = λ n. ap (λ (o : Outcome Text). o >>= extent) (headed f reads _ ∙ string_at f reads n);
      string_bytes = λ n. headed f reads _ ∙ string_at f reads n;
      type_name_lem = λ n. headed f reads _ ∙ asked_plain (type_at f (plain_frame r.header) r.header.types.offset) reads.types.each (λ n a q. (type_exact f (plain_frame r.header) r.header.types.offset n).complete a q) n;
      proto = λ n. headed f reads _ ∙ sym (made_same _) ∙ proto_at_lem f reads n _ _ (λ p q. refl);
      parameter_count_lem = λ n. headed f reads _ ∙ proto_at_lem f reads n _ _ (λ p q. counted f r.header q.parameters);
      parameter = λ n k. headed f reads _ ∙ proto_at_lem f reads n _ _ (λ p q. numbered f r.header q.parameters k);
      field = λ n. headed f reads _ ∙ asked_plain (member_id_at f (plain_frame r.header) r.header.types.count r.header.fields.offset) reads.fields (λ n a q. (member_exact f (plain_frame r.header) r.header.fields.offset r.header.types.count n).complete a q) n;
      method = λ n. headed f reads _ ∙ asked_plain (member_id_at f (plain_frame r.header) r.header.protos.count r.header.methods.offset) reads.methods (λ n a q. (member_exact f (plain_frame r.header) r.header.methods.offset r.header.protos.count n).complete a q) n;
      handle_count_lem = headed f reads _ ∙ bind_answer _ (mapped f reads) ∙ ap answer (sym reads.handles.count);
      handle = λ n. headed f reads _ ∙ bind_answer _ (mapped f reads) ∙ asked_plain (handle_at f (frame_of r.header r.map.handles.count) r.map.handles.offset) reads.handles (λ n a q. (handle_exact f (frame_of r.header r.map.handles.count) r.map.handles.offset n).complete a q) n;
      class = λ n. headed f reads _ ∙ sym (made_same _) ∙ class_at_lem f reads n _ _ (λ c q. refl);
      interface_count_lem = λ n. headed f reads _ ∙ class_at_lem f reads n _ _ (λ c q. counted f r.header q.interfaces);
      interface = λ n k. headed f reads _ ∙ class_at_lem f reads n _ _ (λ c q. numbered f r.header q.interfaces k);
      class_flags_lem = λ n room. bind_assoc (header_at f) (class_in f n) _ ∙ headed f reads _ ∙ class_at_lem f reads n _ _ (λ c q. refl);
      class_content_lem = λ n out. ap (λ (o : Outcome Class). content_of o out) (headed f reads _ ∙ sym (made_same _) ∙ class_at_lem f reads n _ _ (λ c q. refl)) ∙ left (pick n r.classes) out;
    }
