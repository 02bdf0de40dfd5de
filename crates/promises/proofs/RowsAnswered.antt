-- On a file of which a reading is known, each number of a table is answered, with the indices that its row holds.
-- Assumes nothing.
use Prim.Native.Nat.{ℕ, ◌<◌}
use mathlib.Core.Path.{◌≡◌, ap, ◌∙◌}
use mathlib.Core.List.{List}
use lib.ListN.{length}
use Rattle.refusal.specs.Outcome.{Outcome}
use Rattle.refusal.proofs.Laws.{bind_answer}
use Rattle.refusal.proofs.Each.{at_some}
use Rattle.text.specs.Text.{extent}
use Rattle.value_bodies.specs.Bodies.{pick}
use Rattle.value_bodies.proofs.Picks.{pick_there}
use Rattle.table_readers.specs.Strings.{bytes_of}
use Rattle.table_readers.specs.Lists as L
use Rattle.whole_check.specs.File.{File}
use Rattle.promises.specs.Reads.{Reads}
use Rattle.promises.specs.Tables.{listed}
use Rattle.promises.specs.RowsAnswered.{StringAnswered, TypeAnswered, TypesAnswered, ProtoAnswered, FieldAnswered, MethodAnswered, HandleAnswered}
use Rattle.promises.proofs.InRange.{All, Kind}
use Rattle.promises.proofs.Indices.{indices}
use Rattle.promises.proofs.Numbers.{each_number, is_there}
use Rattle.promises.proofs.Tables.{tables_agree}

module _ (f : List ℕ) {r : File} (reads : Reads f r) where
  pub string_answered : (n : ℕ) → n < length r.strings → StringAnswered f r n
  unfolding extent bytes_of
  string_answered n p =
      let m = at_some r.strings n p in
      record {
        row = m.0;
        row_is = m.1;
        string = (tables_agree f reads).string n ∙ bind_answer extent (pick_there m.1);
        string_bytes = ap bytes_of ((tables_agree f reads).string_bytes n ∙ pick_there m.1);
      }

  pub type_answered : (n : ℕ) → n < length r.types → TypeAnswered f r n
  type_answered n p =
      let m = at_some r.types n p in
      record {
        row = m.0;
        row_is = m.1;
        type_name_lem = (tables_agree f reads).type_name_lem n ∙ pick_there m.1;
        name = string_answered m.0 ((indices f reads).types n m.0 m.1);
      }

  pub types_answered : (reader : ℕ → Outcome ℕ) (l : List ℕ) → ((k : ℕ) → reader k ≡ pick k l) → All (Kind r) l → TypesAnswered f r reader l
  types_answered reader l reads_as low = each_number l (λ k t m. (reads_as k ∙ pick_there m, type_answered t (low k t m)))

  pub proto_answered : (n : ℕ) → n < length r.protos → ProtoAnswered f r n
  proto_answered n p =
      let tables = tables_agree f reads in
      let m = at_some r.protos n p in
      let low = (indices f reads).protos n m.0 m.1 in
      record {
        row = m.0;
        row_is = m.1;
        proto = tables.proto n ∙ bind_answer _ (pick_there m.1);
        shorty = string_answered _ low.shorty;
        return_type_lem = type_answered _ low.returns;
        parameters_there = is_there (reads.protos.each m.1).parameters;
        parameter_count_lem = tables.parameter_count_lem n ∙ bind_answer _ (pick_there m.1);
        parameter = types_answered (L.parameter f n) (listed m.0.parameters) (λ k. tables.parameter n k ∙ bind_answer _ (pick_there m.1)) low.parameters;
      }

  pub field_answered : (n : ℕ) → n < length r.fields → FieldAnswered f r n
  field_answered n p =
      let m = at_some r.fields n p in
      let low = (indices f reads).fields n m.0 m.1 in
      record {
        row = m.0;
        row_is = m.1;
        field = (tables_agree f reads).field n ∙ pick_there m.1;
        class = type_answered _ low.class;
        kind = type_answered _ low.kind;
        name = string_answered _ low.name;
      }

  pub method_answered : (n : ℕ) → n < length r.methods → MethodAnswered f r n
  method_answered n p =
      let m = at_some r.methods n p in
      let low = (indices f reads).methods n m.0 m.1 in
      record {
        row = m.0;
        row_is = m.1;
        method = (tables_agree f reads).method n ∙ pick_there m.1;
        class = type_answered _ low.class;
        kind = proto_answered _ low.kind;
        name = string_answered _ low.name;
      }

  pub handle_answered : (n : ℕ) → n < length r.handles → HandleAnswered f r n
  handle_answered n p =
      let m = at_some r.handles n p in
      let low = (indices f reads).handles n m.0 m.1 in
      record {
        row = m.0;
        row_is = m.1;
        handle = (tables_agree f reads).handle n ∙ pick_there m.1;
        names_field = λ q. field_answered _ (low.field q);
        names_method = λ q. method_answered _ (low.method q);
      }
