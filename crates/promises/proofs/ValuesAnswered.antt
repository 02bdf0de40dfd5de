-- On a file of which a reading is known, each index value, array and annotation body is answered.
-- Assumes nothing.
use Prim.Native.Nat.{ℕ, zero, suc, ◌+◌, ◌-◌, ◌<◌}
use mathlib.Core.Path.{◌≡◌, sym, subst, ◌∙◌}
use mathlib.Core.List.{List}
use lib.ListN.{length}
use native.Mathlib.Omega.{arith}
use Rattle.refusal.specs.Outcome.{Outcome, answer, ◌>>=◌}
use Rattle.refusal.specs.Exact.{At}
use Rattle.refusal.proofs.Laws.{bind_answer}
use Rattle.encoded_value.specs.Tree.{Named, Tree, index, array, annotation, trees, elements_of}
use Rattle.value_bodies.specs.Bodies.{ShownElement, pick}
use Rattle.value_bodies.proofs.Picks.{pick_there}
use Rattle.value_readers.specs.Bodies.{body_element_of}
use Rattle.whole_check.specs.File.{File}
use Rattle.promises.specs.Reads.{Reads}
use Rattle.promises.specs.Annotations.{element_shown}
use Rattle.promises.specs.Values.{ValueIn}
use Rattle.promises.specs.ValuesAnswered.{ArrayAnswered, IndexAnswered, a_proto, a_handle, a_string, a_type, a_field, a_method, an_enum, ElementsAnswered, AnnotationBodyAnswered}
use Rattle.promises.proofs.InRange.{rows}
use Rattle.promises.proofs.Values.{values_agree}
use Rattle.promises.proofs.ValueIndices.{value_indices}
use Rattle.promises.proofs.Numbers.{each_number}
use Rattle.promises.proofs.RowsAnswered.{string_answered, type_answered, proto_answered, field_answered, method_answered, handle_answered}

module _ (f : List ℕ) {r : File} (reads : Reads f r) where
  -- ---- an index, by how far its code is from the first of the seven
  by_code : (k n : ℕ) → k < 7 → n < rows r (0x15 + k) → IndexAnswered f r (0x15 + k) n
  by_code zero n l p = a_proto (proto_answered f reads n p)
  by_code (suc zero) n l p = a_handle (handle_answered f reads n p)
  by_code (suc (suc zero)) n l p = a_string (string_answered f reads n p)
  by_code (suc (suc (suc zero))) n l p = a_type (type_answered f reads n p)
  by_code (suc (suc (suc (suc zero)))) n l p = a_field (field_answered f reads n p)
  by_code (suc (suc (suc (suc (suc zero))))) n l p = a_method (method_answered f reads n p)
  by_code (suc (suc (suc (suc (suc (suc zero)))))) n l p = an_enum (field_answered f reads n p)
  by_code (suc (suc (suc (suc (suc (suc (suc k))))))) n l p = absurd (omega arith)

  pub index_answered : {code n : ℕ} → ValueIn r (index code n) → IndexAnswered f r code n
  index_answered {code} {n} i =
      let low = (value_indices f reads).index_value i in
      let from = low.0 in
      let to = low.1 in
      let same : code ≡ 0x15 + (code - 0x15) = omega arith in
      let fits : code - 0x15 < 7 = omega arith in
      subst (λ (c : ℕ). IndexAnswered f r c n) (sym same) (by_code (code - 0x15) n fits (subst (λ (c : ℕ). n < rows r c) same low.2))

  -- ---- bodies
  pub array_answered : {p q : ℕ} (vs : List Tree) → ValueIn r (array p q (trees vs)) → ArrayAnswered f p (q - p) vs
  array_answered vs i =
      let values = values_agree f reads in
      record { array = values.array_size vs i; array_value_lem = each_number vs (λ k v m. values.array_value_lem vs i k ∙ bind_answer _ (pick_there m)) }

  pub elements_answered : (reader : ℕ → Outcome ShownElement) (es : List Named) → ((k : ℕ) → reader k ≡ (pick k es >>= λ (e : Named). answer (element_shown e)))
      → ((k : ℕ) (e : Named) → At es k e → e.name < length r.strings) → ElementsAnswered f r reader es
  elements_answered reader es reads_as low = each_number es (λ k e m. (reads_as k ∙ bind_answer _ (pick_there m), string_answered f reads e.name (low k e m)))

  pub annotation_body_answered : {p q t : ℕ} (es : List Named) → ValueIn r (annotation p q t (elements_of es)) → AnnotationBodyAnswered f r p (q - p) t es
  annotation_body_answered {p} es i =
      let values = values_agree f reads in
      let low = value_indices f reads in
      record {
        annotation_body = values.body_size es i;
        kind = type_answered f reads _ (low.body_type es i);
        annotation_body_element = elements_answered (body_element_of f p) es (λ k. values.body_element es i k) (λ k e m. low.body_name es i m);
      }
