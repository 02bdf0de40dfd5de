-- What the functions' proofs cite: a record, a text that was read, comparisons, and the loop of `look_up`.
-- Assumes nothing.
use Prim.Native.Nat.{ℕ, ◌+◌, ◌<◌, ◌≤◌}
use mathlib.Core.Path.{◌≡◌, refl, ap, sym, subst, ◌∙◌}
use mathlib.Core.Bool.{Bool, true, false}
use mathlib.Core.Option.{Option, none, some}
use mathlib.Core.List.{List, [], ◌∷◌, ◌++◌}
use lib.ListN.{length, length-append}
use borrow.Author.Rules.{rules}
use native.Mathlib.Omega.{arith}
use Rattle.refusal.specs.Refusals.{out_of_order, wrong_offset}
use Rattle.refusal.specs.declared.Refusal.{Refusal}
use Rattle.refusal.specs.Outcome.{Outcome, answer, refused, ◌>>=◌, given, accepted}
use Rattle.refusal.specs.Rows.{Found, Turn, follows, turn, first_turn, in_turn}
use Rattle.refusal.specs.Seek.{position, or_this}
use Rattle.refusal.proofs.Laws.{handed_on, tests, calls, refused_by, passes, fails, bind_answer, bind_refused}
use Rattle.refusal.proofs.Exact.{never}
use Rattle.refusal.proofs.Kept.{part_answer, part_refused}
use Rattle.refusal.proofs.Rows.{bind_assoc}
use Rattle.refusal.proofs.Loops.{Collecting, collecting_first, collecting_next, collecting_stop, collecting_done}
use Rattle.refusal.proofs.Seek.{position_more}
use Rattle.word.specs.Bytes.{part}
use Rattle.word.specs.Words.{u32_at}
use Rattle.header.specs.declared.Header.{Header}
use Rattle.header.specs.Header.{up_to_end}
use Rattle.text.specs.Text.{Text, string_at, Extent, extent, extent_at}
use Rattle.text_order.specs.Order.{by_key, is_less, is_equal}
use Rattle.std.specs.declared.cmp.Ordering.{Ordering}
use Rattle.std.specs.declared.cmp.Ordering.TheVariants.{Less, Equal, Greater}
use Rattle.std.specs.Ordering.{is_lt, is_eq}
use Rattle.std.specs.Prelude.{Some, None}
use Rattle.std.specs.Prelude as S
use Rattle.text.proofs.Laws.{Lies, text_lies}
use Rattle.text_order.proofs.ByUnits.{lies_order}
use Rattle.string_ids.specs.Strings.{string_place, record_of, record_at, string_of, string_extent, before, less_bytes, strings_at, strings_checked, is, looked_up}
use Rattle.string_ids.specs.Answers.{last_bytes, found_number}
use Rattle.string_ids.specs.declared.Last.{Last}

-- ---- a record, and the text that it names
pub record_by : (f : List ℕ) (h : Header) (n : ℕ) {place v : ℕ} {y : Outcome ℕ} → place ≡ string_place h n → v ≡ u32_at h.order f place → y ≡ record_of h n v → y ≡ record_at f h n
unfolding record_at
record_by f h n {place} {v} {y} p e q = subst (λ (x : ℕ). y ≡ record_of h n x) (e ∙ ap (u32_at h.order f) p) q

-- the refusal at a place that a function answered
pub record_fails : (h : Header) (n v : ℕ) {r : Refusal} {place : ℕ} → r ≡ wrong_offset place → place ≡ string_place h n → refused (wrong_offset (string_place h n)) ≡ record_of h n v → refused r ≡ record_of h n v
record_fails h n v made e q = refused_by made ∙ ap (λ (x : ℕ). refused (wrong_offset x)) e ∙ q

-- the code's order of doing it: the extent of the text of the record's item
pub string_by : (f : List ℕ) (h : Header) (n : ℕ) {y : Outcome Extent} → y ≡ (record_at f h n >>= extent_at (up_to_end f h)) → y ≡ string_extent f h n
unfolding string_extent string_of extent_at
string_by f h n e = e ∙ sym (bind_assoc (record_at f h n) (string_at (up_to_end f h)) extent)

pub extent_of : (f : List ℕ) (h : Header) (item : ℕ) {s : List ℕ} {y : Outcome Extent} → s ≡ up_to_end f h → y ≡ extent_at s item → y ≡ extent_at (up_to_end f h) item
extent_of f h item e q = q ∙ ap (λ (x : List ℕ). extent_at x item) e

-- where the text of string n lies
record Told (f : List ℕ) (h : Header) (n p m u : ℕ) : Type 0 where
  item : ℕ
  lies : Lies (up_to_end f h) item p m u
  read : string_of f h n ≡ answer lies.text

told : (f : List ℕ) (h : Header) (n : ℕ) {p m u : ℕ} → answer (record { start = p; length = m; units = u }) ≡ string_extent f h n → Told f h n p m u
unfolding string_extent string_of extent_at ◌>>=◌
told f h n {p} {m} {u} e = go (record_at f h n) refl (e ∙ bind_assoc (record_at f h n) (string_at (up_to_end f h)) extent)
  where
    go : (o : Outcome ℕ) → record_at f h n ≡ o → answer (record { start = p; length = m; units = u }) ≡ (o >>= λ (i : ℕ). string_at (up_to_end f h) i >>= extent) → Told f h n p m u
    go (answer i) r q = let l = text_lies (up_to_end f h) i q in record { item = i; lies = l; read = bind_answer (string_at (up_to_end f h)) r ∙ l.read }
    go (refused r) k q = absurd (never (sym q))

untold : (f : List ℕ) (h : Header) (n : ℕ) {r : Refusal} → refused r ≡ string_extent f h n → refused r ≡ string_of f h n
unfolding string_extent extent ◌>>=◌
untold f h n {r} e = go (string_of f h n) e
  where
    go : (o : Outcome Text) → refused r ≡ (o >>= extent) → refused r ≡ o
    go (answer a) q = absurd (never q)
    go (refused s) q = cc

-- ---- comparisons
lt_less : (o : Ordering) → is_lt o ≡ is_less o
unfolding is_less
lt_less Less = refl
lt_less Equal = refl
lt_less Greater = refl

eq_equal : (o : Ordering) → is_eq o ≡ is_equal o
unfolding is_equal
eq_equal Less = refl
eq_equal Equal = refl
eq_equal Greater = refl

pub rises_first : (s : List ℕ) (last : S.Option Last) (b : List ℕ) → last ≡ None → true ≡ follows less_bytes (last_bytes s last) b
unfolding follows last_bytes
rises_first s last b e = rw e

pub rises_after : (s : List ℕ) (last : S.Option Last) {l : Last} (q m : ℕ) {x y : List ℕ} {o : Ordering} {v : Bool}
    → last ≡ Some l → x ≡ part s l.start l.length → y ≡ part s q m → o ≡ by_key x y → v ≡ is_lt o → v ≡ follows less_bytes (last_bytes s last) (part s q m)
unfolding follows last_bytes
rises_after s last q m e a b t h = rw (e, ← a, ← b) (h ∙ lt_less _ ∙ ap is_less t)

pub found_before : (x y : List ℕ) (k : ℕ) {found : S.Option ℕ} {j : ℕ} → found ≡ Some j → some j ≡ or_this (found_number found) (is_equal (by_key x y)) k
found_before x y k e = rw e

pub found_now : (x y : List ℕ) (k : ℕ) {found : S.Option ℕ} {o : Ordering} {v : Bool} → found ≡ None → o ≡ by_key x y → v ≡ is_eq o → v ≡ true → some k ≡ or_this (found_number found) (is_equal (by_key x y)) k
found_now x y k e t w q = rw (e, sym (ap is_equal t) ∙ sym (w ∙ eq_equal _) ∙ q)

pub found_not : (x y : List ℕ) (k : ℕ) {found : S.Option ℕ} {o : Ordering} {v : Bool} → found ≡ None → o ≡ by_key x y → v ≡ is_eq o → v ≡ false → none ≡ or_this (found_number found) (is_equal (by_key x y)) k
found_not x y k e t w q = rw (e, sym (ap is_equal t) ∙ sym (w ∙ eq_equal _) ∙ q)

-- ---- the loop of `look_up` at its head: the last text lies where the code says, and what was found is what the strings so far have
abbrev LastIs : List ℕ → Option Text → S.Option Last → Type 0
LastIs s none None = Unit
LastIs s none (Some l) = ⊥
LastIs s (some t) None = ⊥
LastIs s (some t) (Some l) = (i : ℕ) × ((u : ℕ) × ((lies : Lies s i l.start l.length u) × (lies.text ≡ t)))

record Kept (f : List ℕ) (h : Header) (text : List ℕ) (k : ℕ) (last : S.Option Last) (found : S.Option ℕ) (l : List Text) (t : Turn Text) : Type 0 where
  number_is : t.number ≡ k
  length_is : length l ≡ k
  last_is : LastIs (up_to_end f h) t.last last
  found_is : found_number found ≡ position (is text) l

abbrev step_of : List ℕ → Header → Turn Text → Outcome (Found Text (Turn Text))
step_of f h = turn (string_of f h) before (λ (n : ℕ). out_of_order (string_place h n))

pub record Looking (f : List ℕ) (h : Header) (text s : List ℕ) (k : ℕ) (last : S.Option Last) (found : S.Option ℕ) : Type 0 where
  section_is : s ≡ up_to_end f h
  collecting : Collecting (step_of f h) h.strings.count first_turn (Kept f h text k last found) k

pub looking_first : (f : List ℕ) (h : Header) (text : List ℕ) {s : List ℕ} → s ≡ up_to_end f h → Looking f h text s 0 None None
unfolding position
looking_first f h text e = record {
  section_is = e;
  collecting = collecting_first (step_of f h) h.strings.count first_turn (Kept f h text 0 None None) (record { number_is = refl; length_is = refl; last_is = tt; found_is = refl });
}

-- the order of a text against the last one is that of their bytes
same_order : {s : List ℕ} {i p m u : ℕ} (o : Option Text) (last : S.Option Last) → LastIs s o last → (l : Lies s i p m u) → follows before o l.text ≡ follows less_bytes (last_bytes s last) (part s p m)
unfolding follows last_bytes
same_order none None w l = refl
same_order none (Some q) w l = absurd w
same_order (some t) None w l = absurd w
same_order (some t) (Some q) w l =
    let prior = w.1.1.0 in
    ap (λ (x : Text). before x l.text) (sym w.1.1.1) ∙ ap is_less (sym (lies_order prior l))

-- the step that string k is, before its order is judged
stepped : (f : List ℕ) (h : Header) {k p m u : ℕ} (d : Told f h k p m u) (t : Turn Text) → t.number ≡ k
    → step_of f h t ≡ given (follows before t.last d.lies.text) (out_of_order (string_place h k)) (answer (record { item = d.lies.text; next = record { number = k + 1; last = some d.lies.text } }))
unfolding turn
stepped f h {k} d t q =
    bind_answer _ (ap (string_of f h) q ∙ d.read)
    ∙ (λ i. given (follows before t.last d.lies.text) (out_of_order (string_place h (q i))) (answer (record { item = d.lies.text; next = record { number = q i + 1; last = some d.lies.text } })))

module _ {f : List ℕ} {h : Header} {text s : List ℕ} {k : ℕ} {last : S.Option Last} {found : S.Option ℕ} (w : Looking f h text s k last found) (l : k < h.strings.count) where
  pub looking_stop : {r : Refusal} → refused r ≡ string_extent f h k → refused r ≡ looked_up f h text
  unfolding looked_up strings_at in_turn turn
  looking_stop e =
      sym (bind_refused _ (bind_refused _ (sym (collecting_stop w.collecting l λ a b kept. sym (bind_refused _ (ap (string_of f h) kept.number_is ∙ sym (untold f h k e)))))))

  module _ {p m u : ℕ} (e : answer (record { start = p; length = m; units = u }) ≡ string_extent f h k) {b : Bool} (asked : b ≡ follows less_bytes (last_bytes s last) (part s p m)) where
    d : Told f h k p m u
    d = told f h k e

    ordered : (q : Turn Text) (a : List Text) → Kept f h text k last found a q → follows before q.last d.lies.text ≡ b
    ordered q a kept =
        same_order q.last last kept.last_is d.lies
        ∙ ap (λ (y : List ℕ). follows less_bytes (last_bytes y last) (part y p m)) (sym w.section_is) ∙ sym asked

    pub looking_fail : {r : Refusal} {place : ℕ} → b ≡ false → r ≡ out_of_order place → place ≡ string_place h k → refused r ≡ looked_up f h text
    unfolding looked_up strings_at in_turn
    looking_fail false-is made at =
        refused_by made
        ∙ ap (λ (y : ℕ). refused (out_of_order y)) at
        ∙ sym (bind_refused _ (bind_refused _ (sym (collecting_stop w.collecting l λ a q kept. fails _ refl (ordered q a kept ∙ false-is) ∙ sym (stepped f h d q kept.number_is)))))

    pub looking_next : {g : S.Option ℕ} {y : List ℕ} → b ≡ true → y ≡ part s p m → found_number g ≡ or_this (found_number found) (is_equal (by_key y text)) k
        → Looking f h text s (k + 1) (Some (record { start = p; length = m })) g
    looking_next {g} {y} true-is part-is next = record {
      section_is = w.section_is;
      collecting = collecting_next w.collecting (Kept f h text (k + 1) (Some (record { start = p; length = m })) g) l λ a q kept. record {
        item = d.lies.text;
        next = record { number = k + 1; last = some d.lies.text };
        found = passes (out_of_order (string_place h k)) (ordered q a kept ∙ true-is) refl ∙ sym (stepped f h d q kept.number_is);
        keep = record {
          number_is = refl;
          length_is = length-append a (d.lies.text ∷ []) ∙ (let z = kept.length_is in omega arith);
          last_is = (d.item, (u, (d.lies, refl)));
          found_is = now_found a kept;
        };
      };
    }
      where
        bytes_are : d.lies.text.bytes ≡ y
        bytes_are = d.lies.bytes_are ∙ ap (λ (z : List ℕ). part z p m) (sym w.section_is) ∙ sym part-is

        now_found : (a : List Text) {q : Turn Text} → Kept f h text k last found a q → found_number g ≡ position (is text) (a ++ d.lies.text ∷ [])
        now_found a kept =
            next
            ∙ (λ i. or_this (kept.found_is i) (is_equal (by_key (sym bytes_are i) text)) (sym kept.length_is i))
            ∙ sym (position_more (is text) a d.lies.text)

pub looking_done : {f : List ℕ} {h : Header} {text s : List ℕ} {k : ℕ} {last : S.Option Last} {found : S.Option ℕ} → Looking f h text s k last found → h.strings.count ≤ k → answer (found_number found) ≡ looked_up f h text
unfolding looked_up strings_at in_turn
looking_done w l =
    let d = collecting_done w.collecting l in
    sym (bind_answer _ (bind_answer _ (sym d.1.1.1)) ∙ ap answer (sym d.1.1.0.found_is))

-- ---- the loop of `check_strings`, which keeps no number: it goes as a lookup does, of which what was found is not looked at
pub record Checking (f : List ℕ) (h : Header) (s : List ℕ) (k : ℕ) (last : S.Option Last) : Type 0 where
  found : S.Option ℕ
  looking : Looking f h [] s k last found

as_found : Option ℕ → S.Option ℕ
as_found none = None
as_found (some j) = Some j

found_as : (o : Option ℕ) → found_number (as_found o) ≡ o
unfolding as_found
found_as none = refl
found_as (some j) = refl

unchecked : (f : List ℕ) (h : Header) {r : Refusal} → refused r ≡ looked_up f h [] → refused r ≡ strings_checked f h
unfolding looked_up
unchecked f h e = sym (bind_refused accepted (part_refused (position (is [])) (strings_at f h) (sym e)))

pub checking_first : (f : List ℕ) (h : Header) {s : List ℕ} → s ≡ up_to_end f h → Checking f h s 0 None
checking_first f h e = record { found = None; looking = looking_first f h [] e }

module _ {f : List ℕ} {h : Header} {s : List ℕ} {k : ℕ} {last : S.Option Last} (w : Checking f h s k last) (l : k < h.strings.count) where
  pub checking_stop : {r : Refusal} → refused r ≡ string_extent f h k → refused r ≡ strings_checked f h
  checking_stop e = unchecked f h (looking_stop w.looking l e)

  module _ {p m u : ℕ} (e : answer (record { start = p; length = m; units = u }) ≡ string_extent f h k) {b : Bool} (asked : b ≡ follows less_bytes (last_bytes s last) (part s p m)) where
    pub checking_fail : {r : Refusal} {place : ℕ} → b ≡ false → r ≡ out_of_order place → place ≡ string_place h k → refused r ≡ strings_checked f h
    checking_fail false-is made at = unchecked f h (looking_fail w.looking l e asked false-is made at)

    pub checking_next : b ≡ true → Checking f h s (k + 1) (Some (record { start = p; length = m }))
    checking_next true-is = record {
      found = as_found (or_this (found_number w.found) (is_equal (by_key (part s p m) [])) k);
      looking = looking_next w.looking l e asked true-is refl (found_as _);
    }

pub checking_done : {f : List ℕ} {h : Header} {s : List ℕ} {k : ℕ} {last : S.Option Last} → Checking f h s k last → h.strings.count ≤ k → answer tt ≡ strings_checked f h
unfolding looked_up
checking_done {f} {h} w l = sym (bind_answer accepted (part_answer (position (is [])) (strings_at f h) (sym (looking_done w.looking l))).1.0)

pub ruleset record_laws = (record_by, record_fails, string_by, extent_of, calls, tests, rules)

pub ruleset order_laws = (rises_first, rises_after, found_before, found_now, found_not, rules)

pub ruleset looking = (handed_on, looking_first, looking_stop, looking_fail, looking_next, looking_done, rules)

pub ruleset checking = (handed_on, checking_first, checking_stop, checking_fail, checking_next, checking_done, rules)
