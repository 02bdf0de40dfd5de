-- Each reader answers for each number and place that an accepted file gives.
-- Assumes nothing.
use Prim.Native.Nat.{ℕ, ◌<◌}
use mathlib.Core.Path.{ap, ◌∙◌}
use mathlib.Core.Bool.{true}
use mathlib.Core.List.{List}
use lib.ListN.{length}
use native.Mathlib.Omega.{arith}
use Rattle.refusal.specs.Outcome.{answer}
use Rattle.refusal.specs.Seek.{position}
use Rattle.refusal.proofs.Laws.{bind_answer}
use Rattle.refusal.proofs.Exact.{accepted_iff}
use Rattle.refusal.proofs.Each.{at_some}
use Rattle.string_ids.specs.Strings.{looked_up, is}
use Rattle.string_ids.proofs.Exactly.{strings_exact}
use Rattle.class_data.specs.Data.{counts}
use Rattle.value_bodies.proofs.Picks.{pick_there}
use Rattle.table_readers.specs.Strings.{find_string}
use Rattle.table_readers.specs.Lists as L
use Rattle.class_walk.specs.Methods.{DataBelow}
use Rattle.whole_check.specs.File.{File, check_at}
use Rattle.promises.specs.Reads.{Reads}
use Rattle.promises.specs.Tables.{listed}
use Rattle.promises.specs.Numbers.{Answers}
use Rattle.promises.specs.RowsAnswered.{StringAnswered, TypeAnswered}
use Rattle.promises.specs.Given.{ClassAnswered, ReadersAnswer}
use Rattle.promises.proofs.Whole.{file_exact}
use Rattle.promises.proofs.Tables.{headed, tables_agree}
use Rattle.promises.proofs.Methods.{methods_agree}
use Rattle.promises.specs.Statics.{fields_of}
use Rattle.promises.proofs.Annotations.{annotations_agree}
use Rattle.promises.proofs.Values.{values_agree}
use Rattle.promises.proofs.Statics.{field_answers, kind_answers}
use Rattle.promises.proofs.InRange.{String, Kind, DataIndices}
use Rattle.promises.proofs.Indices.{indices}
use Rattle.promises.proofs.Numbers.{each_number, leads_to, is_there, of_there, if_given_then}
use Rattle.promises.proofs.RowsAnswered.{string_answered, type_answered, types_answered, proto_answered, field_answered, method_answered, handle_answered}
use Rattle.promises.proofs.ValuesAnswered.{index_answered, array_answered, annotation_body_answered}
use Rattle.promises.proofs.AnnotationsAnswered.{class_set_answered, directory_answered}
use Rattle.promises.proofs.MethodsAnswered.{if_none_or, flags_fit, data_answered}

module _ (f : List ℕ) {r : File} (reads : Reads f r) where
  looked_up_lem : (text : List ℕ) → Answers (find_string f text)
  unfolding find_string looked_up
  looked_up_lem text = (position (is text) r.strings, headed f reads _ ∙ bind_answer _ ((strings_exact f r.header).complete r.strings reads.strings))

  class_answered : (n : ℕ) → n < length r.classes → ClassAnswered f r n
  class_answered n p =
      let tables = tables_agree f reads in
      let notes = annotations_agree f reads in
      let values = values_agree f reads in
      let m = at_some r.classes n p in
      let b = m.0 in
      let at = m.1 in
      let rule = reads.classes.each at in
      let low = (indices f reads).classes n b at in
      record {
        row = b;
        row_is = at;
        class = tables.class n ∙ bind_answer _ (pick_there at);
        own_type = type_answered f reads _ low.class;
        superclass = if_given_then (Kind r) (TypeAnswered f r) (type_answered f reads) b.own.superclass low.superclass;
        source = if_given_then (String r) (StringAnswered f r) (string_answered f reads) b.own.source low.source;
        class_flags_lem = λ room q. tables.class_flags_lem n room ∙ bind_answer _ (pick_there at) ∙ flags_fit true b.own.flags room q;
        interfaces_there = is_there rule.interfaces;
        interface_count_lem = tables.interface_count_lem n ∙ bind_answer _ (pick_there at);
        interface = types_answered f reads (L.interface f n) (listed b.interfaces) (λ k. tables.interface n k ∙ bind_answer _ (pick_there at)) low.interfaces;
        directory = notes.head n ∙ bind_answer _ (pick_there at);
        directory_below = leads_to rule.annotations (λ d e q. directory_answered f reads n at d e q);
        class_set_lem = class_set_answered f reads n at;
        class_data_lem = (methods_agree f reads).class_data_lem n ∙ if_none_or _ b.members (λ (d : DataBelow). counts d.members) (bind_answer _ (pick_there at));
        class_data_below = leads_to rule.members (λ d e q. data_answered f reads n at d e q (of_there (DataIndices r) e low.members));
        static_value_count = values.static_count_lem n ∙ bind_answer _ (pick_there at);
        static_value_lem = each_number (listed b.values) (λ k v q. values.static_value_lem n k ∙ bind_answer _ (pick_there at) ∙ bind_answer _ (pick_there q));
        static_array = leads_to rule.values (λ l e q.
            let top = values.top_array at e in
            (_, record { array = top.size; array_value_lem = each_number l (λ k v w. top.value k ∙ bind_answer _ (pick_there w)) }));
        static_field_lem = each_number (fields_of b.members) (λ k m q. field_answers f reads at k m q);
        wrong_kind_lem = kind_answers f reads at;
      }

pub readers_answer : (f : List ℕ) {r : File} → Reads f r → ReadersAnswer f r
unfolding check_at
readers_answer f {r} reads =
    let tables = tables_agree f reads in
    record {
      check = (accepted_iff (file_exact f)).1 (r, reads);
      header = tables.header;
      signature = tables.signature;
      map_count_lem = tables.map_count_lem;
      handle_count_lem = tables.handle_count_lem ∙ ap answer reads.handles.count;
      find_string_lem = looked_up_lem f reads;
      map_entry_lem = each_number r.map.entries (λ k e m. tables.map_entry_lem k ∙ pick_there m);
      strings = λ n p. string_answered f reads n (let size = reads.strings.each.count in omega arith);
      types = λ n p. type_answered f reads n (let size = reads.types.each.count in omega arith);
      protos = λ n p. proto_answered f reads n (let size = reads.protos.count in omega arith);
      fields = λ n p. field_answered f reads n (let size = reads.fields.count in omega arith);
      methods = λ n p. method_answered f reads n (let size = reads.methods.count in omega arith);
      handles = λ n p. handle_answered f reads n (let size = reads.handles.count in omega arith);
      classes = λ n p. class_answered f reads n (let size = reads.classes.count in omega arith);
      value_index = λ i. index_answered f reads i;
      value_array = λ vs i. array_answered f reads vs i;
      value_annotation = λ es i. annotation_body_answered f reads es i;
    }
