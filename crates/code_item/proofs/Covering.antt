-- The try that covers an address: the loop of `cover_at`, and that what is found is the only one.
-- Assumes nothing.
use Prim.Native.Nat.{ℕ, zero, suc, ◌+◌, ◌-◌, ◌*◌, ◌<◌, ◌≤◌}
use mathlib.Core.Path.{◌≡◌, refl, ap, sym, ◌∙◌}
use mathlib.Core.Bool.{Bool, true, false, cond, ◌&&◌}
use mathlib.Core.Option.{Option, none, some}
use mathlib.Core.List.{List, [], ◌∷◌}
use lib.ListN.{length}
use lib.Dec.{ltb, leb}
use Rattle.std.specs.Prelude as S
use borrow.Author.Rules.{rules}
use borrow.Author.Tests.{le-leb, lt-leb}
use native.Mathlib.Omega.{arith}
use Rattle.refusal.specs.declared.Refusal.{Refusal}
use Rattle.refusal.specs.Outcome.{Outcome, answer, refused, ◌>>=◌}
use Rattle.refusal.specs.Seek.{position, later}
use Rattle.refusal.specs.Exact.{Decides, At, here, there, Rising, Sought}
use Rattle.refusal.proofs.Laws.{handed_on, all_left, some_left, one_less, bind_answer}
use Rattle.refusal.proofs.Exact.{never, answer_exact, bind_exact, below, at_most, both}
use Rattle.refusal.proofs.Each.{rising_head, rising_tail}
use Rattle.refusal.proofs.Seek.{position_sought}
use Rattle.word.specs.Words.{u16_at, u32_at}
use Rattle.word.specs.declared.Endian.{Endian}
use Rattle.frame.specs.declared.Frame.{Frame}
use Rattle.handlers.specs.declared.Brief.{Brief}
use Rattle.code_heads.specs.declared.CodeHead.{CodeHead}
use Rattle.code_bodies.specs.declared.Try.{Try}
use Rattle.code_bodies.specs.Tries.{try_at}
use Rattle.code_bodies.specs.Code.{Code, code_at, KeptCode, kept, kept_code_at}
use Rattle.code_bodies.specs.Rules.{EndsBefore, CodeRule}
use Rattle.code_bodies.proofs.Exactly.{EachTry, tries_head, tries_tail, code_exact, code_lies}
use Rattle.code_bodies.proofs.Stages.{from_number}
use Rattle.code_item.specs.Covering.{covers, tries_from, cover_at}
use Rattle.code_item.specs.Code.{covering_of}
use Rattle.code_item.specs.Answers.{cover_meant}

-- ---- the loop of `cover_at` at its head: the first i tries do not cover the address
pub record Looking (o : Endian) (s : List ℕ) (from count address place i : ℕ) : Type 0 where
  same : cover_at o s from count address ≡ from_number i (position (covers address) (tries_from o s place (count - i)))
  pub room : place + 8 * (count - i) ≤ length s

pub looking_first : (o : Endian) (s : List ℕ) (from count address : ℕ) → from + 8 * count ≤ length s → Looking o s from count address from 0
unfolding cover_at
looking_first o s from count address h = record { same = go (position (covers address) (tries_from o s from count)) ∙ ap (λ (n : ℕ). from_number 0 (position (covers address) (tries_from o s from n))) all_left; room = omega arith }
  where
    go : (x : Option ℕ) → x ≡ from_number 0 x
    go none = refl
    go (some k) = let z : k ≡ 0 + k = omega arith in ap some z

module _ {o : Endian} {s : List ℕ} {from count address place i : ℕ} (h : Looking o s from count address place i) where
  pub looking_room : i < count → place + 8 ≤ length s
  looking_room l = let z = h.room in omega arith

  module _ {start units : ℕ} {b : Bool} (l : i < count) (first-unit : start ≡ u32_at o s place) (count-read : units ≡ u16_at o s (place + 4)) (asked : b ≡ leb start address && ltb address (start + units)) where
    covered : b ≡ covers address (try_at o s place)
    unfolding covers
    covered = asked ∙ λ k. leb (first-unit k) address && ltb address (first-unit k + count-read k)

    abbrev rest : Option ℕ
    rest = position (covers address) (tries_from o s (place + 8) (count - (i + 1)))

    opened : position (covers address) (tries_from o s place (count - i)) ≡ cond b (some 0) (later rest)
    unfolding tries_from position
    opened = go (count - i) (some_left l) ∙ λ k. cond (sym covered k) (some 0) (later (position (covers address) (tries_from o s (place + 8) (one_less l k))))
      where
        go : (n : ℕ) → 0 < n → position (covers address) (tries_from o s place n) ≡ cond (covers address (try_at o s place)) (some 0) (later (position (covers address) (tries_from o s (place + 8) (n - 1))))
        go zero q = absurd (omega arith)
        go (suc n) q =
            let back : suc n - 1 ≡ n = omega arith in
            rw back

    pub looking_found : b ≡ true → some i ≡ cover_at o s from count address
    looking_found e =
        let z : i + 0 ≡ i = omega arith in
        sym (h.same ∙ ap (from_number i) (opened ∙ ap (λ (c : Bool). cond c (some 0) (later rest)) e) ∙ ap some z)

    pub looking_next : b ≡ false → Looking o s from count address (place + 8) (i + 1)
    looking_next e = record {
      same = h.same ∙ ap (from_number i) (opened ∙ ap (λ (c : Bool). cond c (some 0) (later rest)) e) ∙ go rest;
      room = let z = h.room in omega arith;
    }
      where
        go : (x : Option ℕ) → from_number i (later x) ≡ from_number (i + 1) x
        go none = refl
        go (some k) = let z : i + suc k ≡ i + 1 + k = omega arith in ap some z

  pub looking_none : count ≤ i → none ≡ cover_at o s from count address
  unfolding tries_from position
  looking_none l =
      let z : count - i ≡ 0 = omega arith in
      sym (h.same ∙ ap (λ (n : ℕ). from_number i (position (covers address) (tries_from o s place n))) z)

module _ (start units address : ℕ) where
  pub cover_low : address < start → false ≡ leb start address && ltb address (start + units)
  cover_low h = rw (lt-leb start address h)

  pub cover_high : start ≤ address → ltb address (start + units) ≡ leb start address && ltb address (start + units)
  cover_high h = rw (le-leb start address h)

-- ---- the tries of an item that was read are those that lie there
tries_are : (o : Endian) (s : List ℕ) (units : ℕ) (l : List Try) (n p : ℕ) → EachTry o s units p n l → tries_from o s p n ≡ l
unfolding tries_from
tries_are o s units [] zero p e = refl
tries_are o s units [] (suc n) p e = absurd (let z = e.count in omega arith)
tries_are o s units (t ∷ l) zero p e = absurd (let z = e.count in omega arith)
tries_are o s units (t ∷ l) (suc n) p e =
    let h = tries_head o s units p e in
    λ i. record { start = h.start i; count = h.count i; handler = h.handler i } ∷ tries_are o s units l n (p + 8) (tries_tail o s units p e) i

module _ (s : List ℕ) (f : Frame) (item address : ℕ) where
  pub covering_refused : {r : Refusal} → refused r ≡ kept_code_at s f item 0 0 0 → refused r ≡ covering_of s f item address
  unfolding covering_of kept_code_at ◌>>=◌
  covering_refused {r} = go (code_at s f item)
    where
      go : (o : Outcome Code) → refused r ≡ (o >>= kept 0 0 0) → refused r ≡ (o >>= λ (c : Code). answer (position (covers address) c.tries))
      go (answer c) h = absurd (never h)
      go (refused q) h = cc

  module _ {head : CodeHead} {a : Try} {l n : ℕ} {b : Brief} {from base end : ℕ}
      (e : answer (record { head = head; attempt = a; link = l; handlers = n; brief = b; from = from; base = base; end = end }) ≡ kept_code_at s f item 0 0 0) where
    record Behind : Type 0 where
      code : Code
      rule : CodeRule s f item code
      head_is : code.head ≡ head
      from_is : code.from ≡ from

    behind : Behind
    unfolding kept_code_at
    behind =
        let all = bind_exact _ _ (code_exact s f item) (λ c. answer_exact _) in
        let found = all.sound _ (sym e) in
        record { code = found.0; rule = found.1.0; head_is = ap (λ (k : KeptCode). k.head) found.1.1; from_is = ap (λ (k : KeptCode). k.from) found.1.1 }

    pub covering_room : from + 8 * head.tries ≤ length s
    covering_room =
        let c = behind in
        let w = code_lies s f item c.code c.rule in
        let tries = ap (λ (h : CodeHead). h.tries) c.head_is in
        let place = c.from_is in
        let p = w.tries_inside in
        let q = w.base_inside in
        let r = w.inside in
        omega arith

    pub covering_got : (v : S.Option ℕ) → cover_meant v ≡ cover_at f.order s from head.tries address → answer (cover_meant v) ≡ covering_of s f item address
    unfolding covering_of cover_at
    covering_got v g =
        let c = behind in
        sym (bind_answer _ ((code_exact s f item).complete c.code c.rule)
        ∙ ap (λ (ts : List Try). answer (position (covers address) ts)) (sym (tries_are f.order s c.code.head.units c.code.tries c.code.head.tries c.code.from c.rule.tries) ∙ λ i. tries_from f.order s (c.from_is i) (c.head_is i).tries)
        ∙ ap answer (sym g))

-- ---- at most one try covers an address
abbrev pub Covers : ℕ → Try → Type 0
Covers address t = (t.start ≤ address) × (address < t.start + t.count)

pub covers_decides : (address : ℕ) (t : Try) → Decides (covers address t) (Covers address t)
unfolding covers
covers_decides address t = both (at_most t.start address) (below address (t.start + t.count))

ends_before : {a b : Try} {l : List Try} {k : ℕ} → Rising EndsBefore (a ∷ l) → At l k b → EndsBefore a b
ends_before r here = rising_head r
ends_before r (there m) =
    let one = rising_head r in
    let rest = ends_before (rising_tail r) m in
    omega arith

covered_once : {l : List Try} {i j : ℕ} {a b : Try} (x : ℕ) → Rising EndsBefore l → At l i a → At l j b → Covers x a → Covers x b → i ≡ j
covered_once x r here here p q = refl
covered_once x r here (there m) p q = absurd (let z = ends_before r m in let y = p.1 in let w = q.0 in omega arith)
covered_once x r (there m) here p q = absurd (let z = ends_before r m in let y = q.1 in let w = p.0 in omega arith)
covered_once x r (there m) (there k) p q = ap suc (covered_once x (rising_tail r) m k p q)

-- ---- what is answered is a try that covers the address, or none where no try does, and at most one does
pub covering_sought : (c : Code) (address : ℕ) → Sought (Covers address) c.tries (position (covers address) c.tries)
covering_sought c address = position_sought (covers address) (covers_decides address) c.tries

pub covering_once : (s : List ℕ) (f : Frame) (item : ℕ) (c : Code) → CodeRule s f item c → (address i j : ℕ) (a b : Try) → At c.tries i a → At c.tries j b → Covers address a → Covers address b → i ≡ j
covering_once s f item c h address i j a b m n p q = covered_once address h.in_order m n p q

pub ruleset cover_laws = (looking_first, looking_room, looking_found, looking_next, looking_none, cover_low, cover_high, rules)

pub ruleset covering_laws = (covering_refused, covering_room, covering_got, handed_on, rules)
