-- The readings find exactly what the rules allow.
-- Assumes nothing.
use Prim.Native.Nat.{ℕ, zero, suc, ◌+◌, ◌<◌}
use mathlib.Core.Path.{◌≡◌, refl, ap, sym, subst, ◌∙◌}
use mathlib.Core.Logic.{◌⊎◌, inl, inr}
use mathlib.Core.Bool.{Bool, true, false, cond, false≢true}
use mathlib.Core.Option.{Option, none, some}
use mathlib.Core.List.{List, [], ◌∷◌}
use lib.ListN.{length}
use native.Mathlib.Omega.{arith}
use Rattle.refusal.specs.Refusals.{not_there, too_many_values}
use Rattle.refusal.specs.Outcome.{answer}
use Rattle.refusal.specs.Rows.{Found}
use Rattle.refusal.specs.Exact.{Exact, Decides, At, here, there}
use Rattle.refusal.proofs.Exact.{never, answers_equal, same, below, at_most, answer_exact, given_exact, bind_exact, either_exact, exact_iff, present_exact}
use Rattle.refusal.proofs.Each.{at_below}
use Rattle.header.specs.declared.Header.{Header}
use Rattle.header.specs.Header.{up_to_end, plain_frame}
use Rattle.header.proofs.Exactly.{header_exact}
use Rattle.map_list.specs.declared.MapList.{MapList}
use Rattle.map_list.specs.Map.{kept_at}
use Rattle.map_list.proofs.Exactly.{map_exact}
use Rattle.string_ids.proofs.Exactly.{string_of_exact}
use Rattle.ids.proofs.Exactly.{type_exact, member_exact}
use Rattle.class_ids.specs.declared.Class.{Class}
use Rattle.class_ids.proofs.Exactly.{class_exact}
use Rattle.class_members.specs.declared.Member.{Member}
use Rattle.class_data.specs.Data.{ClassData}
use Rattle.class_data.specs.Rules.{DataRule}
use Rattle.class_data.proofs.Exactly.{data_exact}
use Rattle.encoded_value.specs.Tree.{Tree}
use Rattle.encoded_value.specs.Rules.{ArrayRule}
use Rattle.encoded_value.proofs.Exactly.{array_rule_exact}
use Rattle.decoded_value.specs.Shown.{Shown, shown}
use Rattle.value_bodies.specs.Bodies.{pick}
use Rattle.value_bodies.proofs.Picks.{pick_there}
use Rattle.static_kinds.specs.Kinds.{default, fits}
use Rattle.static_kinds.specs.Rules.{Takes}
use Rattle.static_kinds.proofs.Exactly.{fits_decides, default_exact}
use Rattle.table_readers.specs.Head.{mapped_at, opened_at}
use Rattle.table_readers.specs.Tables.{class_in}
use Rattle.value_readers.specs.Opening.{walk_in}
use Rattle.static_fields.specs.Pairing.{StaticField, WrongKind, default_of, fits_of, paired, first_wrong, class_place, type_string, type_text, fields_in, stored_in, field_under, wrong_under, field_in, static_field, wrong_in, wrong_kind}
use Rattle.static_fields.specs.Rules.{OpenedRule, ClassIs, TypeTextRule, FieldsRule, no_data, of_data, StoredRule, no_list, a_list, ValueOf, is_stored, by_default, PairRule, FitsField, MissesField, FirstWrong, first_at, all_fit, FirstWrongRule, StaticFieldRule, WrongKindRule}

-- ---- the way to a class
pub opened_exact : (f : List ℕ) → Exact (opened_at f) (OpenedRule f)
unfolding opened_at mapped_at kept_at
opened_exact f =
    exact_iff (bind_exact _ _ (header_exact f) (λ h. bind_exact _ _ (bind_exact _ _ (map_exact f h) (λ m. answer_exact _)) (λ l. answer_exact _)))
    (λ o p. subst (OpenedRule f) p.1.1.1.1 (record { header = p.1.0; map = p.1.1.1.0.0; map_rule = p.1.1.1.0.1.0; handles = ap (λ (l : MapList). l.handles.count) p.1.1.1.0.1.1 }))
    (λ o p. (o.header, (p.header, (record { count = length p.map.entries; handles = p.map.handles }, ((p.map, (p.map_rule, refl)), λ i. record { header = o.header; handles = p.handles i })))))

class_is_exact : (f : List ℕ) (h : Header) (c : ℕ) → Exact (class_in f c h) (ClassIs f h c)
unfolding class_in
class_is_exact f h c =
    exact_iff (given_exact not_there (below c h.classes.count) (class_exact f (plain_frame h) h.end h.classes.offset c))
    (λ r p. record { below_count = p.0; rule = p.1 })
    (λ r p. (p.below_count, p.rule))

-- ---- number k of a list
pick_sound : {A : Type 0} (k : ℕ) (l : List A) (a : A) → pick k l ≡ answer a → At l k a
unfolding pick
pick_sound k [] a e = absurd (never e)
pick_sound zero (b ∷ l) a e = subst (λ (x : _). At (b ∷ l) zero x) (answers_equal e) here
pick_sound (suc k) (b ∷ l) a e = there (pick_sound k l a e)

pub pick_exact : {A : Type 0} (k : ℕ) (l : List A) → Exact (pick k l) (At l k)
pick_exact k l = record { sound = pick_sound k l; complete = λ a m. pick_there m }

module _ (f : List ℕ) (h : Header) where
  -- ---- the text of a field's type
  pub text_exact : (n : ℕ) → Exact (type_text f h n) (TypeTextRule f h n)
  unfolding type_text type_string
  text_exact n =
      exact_iff
      (bind_exact _ _ (bind_exact _ _ (member_exact f (plain_frame h) h.fields.offset h.types.count n) (λ m. type_exact f (plain_frame h) h.types.offset m.kind)) (λ t. bind_exact _ _ (string_of_exact f h t) (λ x. answer_exact x.bytes)))
      (λ l p. record { member = p.1.0.0; string = p.0; spelt = p.1.1.0; field_is = p.1.0.1.0; type_is = p.1.0.1.1; string_is = p.1.1.1.0; bytes = p.1.1.1.1 })
      (λ l p. (p.string, ((p.member, (p.field_is, p.type_is)), (p.spelt, (p.string_is, p.bytes)))))

  -- ---- fields and values
  pub fields_exact : (at : ℕ) → Exact (fields_in f h at) (FieldsRule f h at)
  unfolding fields_in
  fields_exact at =
      exact_iff (either_exact (below 0 at) (bind_exact _ (λ (d : ClassData) (l : List Member). d.statics ≡ l) (data_exact (up_to_end f h) (plain_frame h) at) (λ d. answer_exact d.statics)) (answer_exact []))
      there_is back
    where
      there_is : (l : List Member) → ((0 < at) × ((d : ClassData) × (DataRule (up_to_end f h) (plain_frame h) at d × (d.statics ≡ l)))) ⊎ ((0 < at → ⊥) × ([] ≡ l)) → FieldsRule f h at l
      there_is l (inl p) = subst (FieldsRule f h at) p.1.1.1 (of_data p.0 p.1.1.0)
      there_is l (inr p) = subst (FieldsRule f h at) p.1 (no_data (let q = p.0 in omega arith))

      back : (l : List Member) → FieldsRule f h at l → ((0 < at) × ((d : ClassData) × (DataRule (up_to_end f h) (plain_frame h) at d × (d.statics ≡ l)))) ⊎ ((0 < at → ⊥) × ([] ≡ l))
      back l (no_data e) = inr ((λ p. omega arith), refl)
      back l (of_data {d = d} p r) = inl (p, (d, (r, refl)))

  pub stored_exact : (handles at : ℕ) → Exact (stored_in f h handles at) (StoredRule f h handles at)
  unfolding stored_in
  stored_exact handles at =
      exact_iff (either_exact (below 0 at) (bind_exact _ (λ (r : Found (List Tree) ℕ) (l : List Tree). r.item ≡ l) (array_rule_exact (up_to_end f h) (walk_in h handles at) at) (λ r. answer_exact r.item)) (answer_exact []))
      there_is back
    where
      there_is : (l : List Tree)
          → ((0 < at) × ((r : Found (List Tree) ℕ) × (ArrayRule (up_to_end f h) (walk_in h handles at) at r.item r.next × (r.item ≡ l)))) ⊎ ((0 < at → ⊥) × ([] ≡ l)) → StoredRule f h handles at l
      there_is l (inl p) = subst (StoredRule f h handles at) p.1.1.1 (a_list p.0 p.1.1.0)
      there_is l (inr p) = subst (StoredRule f h handles at) p.1 (no_list (let q = p.0 in omega arith))

      back : (l : List Tree)
          → StoredRule f h handles at l → ((0 < at) × ((r : Found (List Tree) ℕ) × (ArrayRule (up_to_end f h) (walk_in h handles at) at r.item r.next × (r.item ≡ l)))) ⊎ ((0 < at → ⊥) × ([] ≡ l))
      back l (no_list e) = inr ((λ p. omega arith), refl)
      back l (a_list {end = end} p r) = inl (p, (record { item = l; next = end }, (r, refl)))

  -- ---- the pair
  abbrev as_field : Member → Bool → Shown → StaticField
  as_field m stored v = record { field = m.index; flags = m.flags; stored = stored; value = v }

  default_is_exact : (n : ℕ) → Exact (default_of (type_text f h) n) (λ (v : Shown). (text : List ℕ) × (TypeTextRule f h n text × (default text ≡ v)))
  unfolding default_of
  default_is_exact n = bind_exact _ (λ (text : List ℕ) (v : Shown). default text ≡ v) (text_exact n) (λ text. answer_exact (default text))

  pub paired_exact : (k : ℕ) (m : Member) (values : List Tree) → Exact (paired (type_text f h) k m values) (ValueOf f h m k values)
  unfolding paired
  paired_exact k m values =
      exact_iff
      (either_exact (below k (length values))
      (bind_exact (At values k) (λ (v : Tree) (a : StaticField). as_field m true (shown v) ≡ a) (pick_exact k values) (λ v. answer_exact (as_field m true (shown v))))
      (bind_exact _ (λ (v : Shown) (a : StaticField). as_field m false v ≡ a) (default_is_exact m.index) (λ v. answer_exact (as_field m false v))))
      there_is back
    where
      there_is : (a : StaticField) → ((k < length values) × ((v : Tree) × (At values k v × (as_field m true (shown v) ≡ a)))) ⊎ ((k < length values → ⊥) × ((v : Shown) × (((text : List ℕ) × (TypeTextRule f h m.index text × (default text ≡ v))) × (as_field m false v ≡ a)))) → ValueOf f h m k values a
      there_is a (inl p) = subst (ValueOf f h m k values) p.1.1.1 (is_stored p.1.1.0)
      there_is a (inr p) =
          let d = p.1.1.0 in
          subst (ValueOf f h m k values) p.1.1.1 (by_default (let q = p.0 in omega arith) d.1.0 ((default_exact d.0).sound p.1.0 (ap answer d.1.1)))

      back : (a : StaticField) → ValueOf f h m k values a → ((k < length values) × ((v : Tree) × (At values k v × (as_field m true (shown v) ≡ a)))) ⊎ ((k < length values → ⊥) × ((v : Shown) × (((text : List ℕ) × (TypeTextRule f h m.index text × (default text ≡ v))) × (as_field m false v ≡ a))))
      back a (is_stored {v = v} n) = inl (at_below n, (v, (n, refl)))
      back a (by_default {text = text} {v = v} l t u) = inr ((λ p. omega arith), (v, ((text, (t, answers_equal ((default_exact text).complete v u))), refl)))

  -- ---- the first value that does not fit its field, from number k on
  abbrev AllFit : List Member → List Tree → Type 0
  AllFit fields values = (j : ℕ) (l : Member) (u : Tree) → At fields j l → At values j u → FitsField f h l u

  abbrev FitBelow : ℕ → List Member → List Tree → Type 0
  FitBelow k fields values = (j : ℕ) (l : Member) (u : Tree) → j < k → At fields j l → At values j u → FitsField f h l u

  data From (k : ℕ) (fields : List Member) (values : List Tree) : Option WrongKind → Type 0 where
    wrong_from : {j : ℕ} {m : Member} {v : Tree} → At fields j m → At values j v → MissesField f h m v → FitBelow j fields values → From k fields values (some (record { number = k + j; field = m.index }))
    none_from : AllFit fields values → From k fields values none

  judged_exact : (m : Member) (v : Tree) → Exact (fits_of (type_text f h) m.index (shown v).kind) (λ (b : Bool). (text : List ℕ) × (TypeTextRule f h m.index text × (fits text (shown v).kind ≡ b)))
  unfolding fits_of
  judged_exact m v = bind_exact _ (λ (text : List ℕ) (b : Bool). fits text (shown v).kind ≡ b) (text_exact m.index) (λ text. answer_exact (fits text (shown v).kind))

  abbrev Rest : ℕ → Member → List Member → List Tree → Bool → Option WrongKind → Type 0
  Rest k m fields values true a = From (k + 1) fields values a
  Rest k m fields values false a = some (record { number = k; field = m.index }) ≡ a

  Judged : Member → Tree → Bool → Type 0
  Judged m v b = (text : List ℕ) × (TypeTextRule f h m.index text × (fits text (shown v).kind ≡ b))

  fit_front : {k : ℕ} {m : Member} {v : Tree} {fields : List Member} {values : List Tree} → FitsField f h m v → FitBelow k fields values → FitBelow (suc k) (m ∷ fields) (v ∷ values)
  fit_front {k} {m} {v} {fields} {values} q rest = go
    where
      go : (j : ℕ) (l : Member) (u : Tree) → j < suc k → At (m ∷ fields) j l → At (v ∷ values) j u → FitsField f h l u
      go j l u p here here = q
      go j l u p (there a) (there b) = rest _ l u (omega arith) a b

  all_front : {m : Member} {v : Tree} {fields : List Member} {values : List Tree} → FitsField f h m v → AllFit fields values → AllFit (m ∷ fields) (v ∷ values)
  all_front {m} {v} {fields} {values} q rest = go
    where
      go : (j : ℕ) (l : Member) (u : Tree) → At (m ∷ fields) j l → At (v ∷ values) j u → FitsField f h l u
      go j l u here here = q
      go j l u (there a) (there b) = rest _ l u a b

  join : (k : ℕ) (m : Member) (v : Tree) (fields : List Member) (values : List Tree) (b : Bool) (a : Option WrongKind) → Judged m v b → Rest k m fields values b a → From k (m ∷ fields) (v ∷ values) a
  unfolding Judged
  join k m v fields values true a q (wrong_from {j = j} {m = n} x y z w) =
      let fit : FitsField f h m v = record { text = q.0; text_is = q.1.0; takes = (fits_decides q.0 (shown v).kind).sound q.1.1 } in
      let e : k + suc j ≡ k + 1 + j = omega arith in
      subst (λ (i : ℕ). From k (m ∷ fields) (v ∷ values) (some (record { number = i; field = n.index }))) e (wrong_from (there x) (there y) z (fit_front fit w))
  join k m v fields values true a q (none_from w) = none_from (all_front (record { text = q.0; text_is = q.1.0; takes = (fits_decides q.0 (shown v).kind).sound q.1.1 }) w)
  join k m v fields values false a q e =
      let z : k + 0 ≡ k = omega arith in
      let miss : MissesField f h m v = record { text = q.0; text_is = q.1.0; takes_not = λ t. false≢true (sym q.1.1 ∙ (fits_decides q.0 (shown v).kind).complete t) } in
      subst (From k (m ∷ fields) (v ∷ values)) e (subst (λ (i : ℕ). From k (m ∷ fields) (v ∷ values) (some (record { number = i; field = m.index }))) z (wrong_from here here miss (λ j l u p x y. absurd (omega arith))))

  missed : (m : Member) (v : Tree) → MissesField f h m v → Judged m v false
  unfolding Judged
  missed m v z = (z.text, (z.text_is, go (fits z.text (shown v).kind) (fits_decides z.text (shown v).kind)))
    where
      go : (b : Bool) → Decides b (Takes z.text (shown v).kind) → b ≡ false
      go true d = absurd (z.takes_not (d.sound refl))
      go false d = refl

  fitted : (m : Member) (v : Tree) → FitsField f h m v → Judged m v true
  unfolding Judged
  fitted m v z = (z.text, (z.text_is, (fits_decides z.text (shown v).kind).complete z.takes))

  part : (k : ℕ) (m : Member) (v : Tree) (fields : List Member) (values : List Tree) (a : Option WrongKind) → From k (m ∷ fields) (v ∷ values) a → (b : Bool) × (Judged m v b × Rest k m fields values b a)
  part k m v fields values a (wrong_from here here z w) = let e : k ≡ k + 0 = omega arith in (false, (missed m v z, λ i. some (record { number = e i; field = m.index })))
  part k m v fields values a (wrong_from {j = suc j} {m = n} (there x) (there y) z w) =
      let e : k + 1 + j ≡ k + suc j = omega arith in (
        true,
        (
          fitted m v (w 0 m v (omega arith) here here),
          subst (λ (i : ℕ). From (k + 1) fields values (some (record { number = i; field = n.index }))) e (wrong_from x y z (λ i l u p b c. w (suc i) l u (omega arith) (there b) (there c))),
        ),
      )
  part k m v fields values a (none_from w) = (true, (fitted m v (w 0 m v here here), none_from (λ j l u x y. w (suc j) l u (there x) (there y))))

  no_values : (k : ℕ) (fields : List Member) (a : Option WrongKind) → From k fields [] a → none ≡ a
  no_values k fields a (wrong_from x y z w) = absurd (let n = at_below y in omega arith)
  no_values k fields a (none_from w) = refl

  no_fields : (k : ℕ) (values : List Tree) (a : Option WrongKind) → From k [] values a → none ≡ a
  no_fields k values a (wrong_from x y z w) = absurd (let n = at_below x in omega arith)
  no_fields k values a (none_from w) = refl

  from_exact : (k : ℕ) (fields : List Member) (values : List Tree) → Exact (first_wrong (type_text f h) k fields values) (From k fields values)
  unfolding first_wrong Judged
  from_exact k fields [] = exact_iff (answer_exact none) (λ a e. subst (From k fields []) e (none_from (λ j l u x y. absurd (let n = at_below y in omega arith)))) (no_values k fields)
  from_exact k [] (v ∷ values) = exact_iff (answer_exact none) (λ a e. subst (From k [] (v ∷ values)) e (none_from (λ j l u x y. absurd (let n = at_below x in omega arith)))) (no_fields k (v ∷ values))
  from_exact k (m ∷ fields) (v ∷ values) =
      exact_iff (bind_exact (Judged m v) (Rest k m fields values) (judged_exact m v) (by_kind (from_exact (k + 1) fields values)))
      (λ a p. join k m v fields values p.0 a p.1.0 p.1.1)
      (part k m v fields values)
    where
      by_kind : Exact (first_wrong (type_text f h) (k + 1) fields values) (From (k + 1) fields values)
          → (b : Bool) → Exact (cond b (first_wrong (type_text f h) (k + 1) fields values) (answer (some (record { number = k; field = m.index })))) (Rest k m fields values b)
      by_kind rest true = rest
      by_kind rest false = answer_exact (some (record { number = k; field = m.index }))

  from_first : (fields : List Member) (values : List Tree) (a : Option WrongKind) → From 0 fields values a → FirstWrong f h fields values a
  from_first fields values a (wrong_from {j = j} {m = m} x y z w) =
      let e : j ≡ 0 + j = omega arith in
      subst (λ (i : ℕ). FirstWrong f h fields values (some (record { number = i; field = m.index }))) e (first_at x y z w)
  from_first fields values a (none_from w) = all_fit w

  first_from : (fields : List Member) (values : List Tree) (a : Option WrongKind) → FirstWrong f h fields values a → From 0 fields values a
  first_from fields values a (first_at {k = k} {m = m} x y z w) =
      let e : 0 + k ≡ k = omega arith in
      subst (λ (i : ℕ). From 0 fields values (some (record { number = i; field = m.index }))) e (wrong_from x y z w)
  first_from fields values a (all_fit w) = none_from w

  pub first_wrong_exact : (fields : List Member) (values : List Tree) → Exact (first_wrong (type_text f h) 0 fields values) (FirstWrong f h fields values)
  first_wrong_exact fields values = exact_iff (from_exact 0 fields values) (from_first fields values) (first_from fields values)

  -- ---- below a class
  pub pair_exact : (handles c k : ℕ) (r : Class) → Exact (field_under f h handles c k r.«data» r.values) (PairRule f h handles k r)
  unfolding field_under
  pair_exact handles c k r =
      exact_iff
      (bind_exact _ _ (fields_exact r.«data»)
      (λ fields. bind_exact _ _ (pick_exact k fields)
      (λ m. bind_exact _ _ (stored_exact handles r.values)
      (λ values. given_exact (too_many_values (class_place h c)) (at_most (length values) (length fields)) (paired_exact k m values)))))
      (λ a p. record {
        fields = p.0;
        values = p.1.1.1.1.0;
        member = p.1.1.0;
        fields_rule = p.1.0;
        values_rule = p.1.1.1.1.1.0;
        enough = p.1.1.1.1.1.1.0;
        number = p.1.1.1.0;
        value = p.1.1.1.1.1.1.1;
      })
      (λ a p. (p.fields, (p.fields_rule, (p.member, (p.number, (p.values, (p.values_rule, (p.enough, p.value))))))))

  pub first_exact : (handles c : ℕ) (r : Class) → Exact (wrong_under f h handles c r.«data» r.values) (FirstWrongRule f h handles r)
  unfolding wrong_under
  first_exact handles c r =
      exact_iff
      (bind_exact _ _ (fields_exact r.«data»)
      (λ fields. bind_exact _ _ (stored_exact handles r.values)
      (λ values. given_exact (too_many_values (class_place h c)) (at_most (length values) (length fields)) (first_wrong_exact fields values))))
      (λ a p. record { fields = p.0; values = p.1.1.0; fields_rule = p.1.0; values_rule = p.1.1.1.0; enough = p.1.1.1.1.0; first = p.1.1.1.1.1 })
      (λ a p. (p.fields, (p.fields_rule, (p.values, (p.values_rule, (p.enough, p.first))))))

-- ---- the two questions
pub static_field_exact : (f : List ℕ) (c k : ℕ) → Exact (static_field f c k) (StaticFieldRule f c k)
unfolding static_field field_in
static_field_exact f c k =
    exact_iff
    (bind_exact _ _ (opened_exact f)
    (λ o. bind_exact _ _ (class_is_exact f o.header c) (λ r. present_exact r.«data» (pair_exact f o.header o.handles c k r))))
    (λ a p. record { opened = p.0; class = p.1.1.0; opened_rule = p.1.0; class_is = p.1.1.1.0; pair = p.1.1.1.1 })
    (λ a p. (p.opened, (p.opened_rule, (p.class, (p.class_is, p.pair)))))

pub wrong_kind_exact : (f : List ℕ) (c : ℕ) → Exact (wrong_kind f c) (WrongKindRule f c)
unfolding wrong_kind wrong_in
wrong_kind_exact f c =
    exact_iff
    (bind_exact _ _ (opened_exact f)
    (λ o. bind_exact _ _ (class_is_exact f o.header c) (λ r. first_exact f o.header o.handles c r)))
    (λ a p. record { opened = p.0; class = p.1.1.0; opened_rule = p.1.0; class_is = p.1.1.1.0; first = p.1.1.1.1 })
    (λ a p. (p.opened, (p.opened_rule, (p.class, (p.class_is, p.first)))))

-- .. and so one answer
pub static_field_same : (f : List ℕ) (c k : ℕ) (a b : Option StaticField) → StaticFieldRule f c k a → StaticFieldRule f c k b → a ≡ b
static_field_same f c k = same (static_field_exact f c k)

pub wrong_kind_same : (f : List ℕ) (c : ℕ) (a b : Option WrongKind) → WrongKindRule f c a → WrongKindRule f c b → a ≡ b
wrong_kind_same f c = same (wrong_kind_exact f c)
