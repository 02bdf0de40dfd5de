-- What the functions' proofs cite: signed sizes, the loops of `pairs_at` and `list_found`, and the stages of the list.
-- Assumes nothing.
use Prim.Native.Nat.{ℕ, zero, suc, ◌+◌, ◌-◌, ◌<◌, ◌≤◌}
use mathlib.Core.Path.{◌≡◌, refl, ap, sym, ◌∙◌}
use mathlib.Core.Bool.{Bool, true, false, cond, false≢true}
use mathlib.Core.Option.{Option, none, some}
use mathlib.Core.List.{List}
use lib.ListN.{length, get_or}
use lib.Dec.{ltb, eqb}
use lib.IntN.{ℤ, pos, negsuc}
use lib.Signed.{lt_z}
use Rattle.std.specs.Prelude.{Some, None}
use borrow.Author.Rules.{rules}
use borrow.Author.Tests.{ltb-true, ltb-false}
use native.Mathlib.Omega.{arith}
use mir.Syntax.{w32}
use mir.Val.{SFits, to_z, of_z}
use mir.ValLaws.{to_z-of_z}
use Rattle.refusal.specs.Refusals.{wrong_code}
use Rattle.refusal.specs.declared.Refusal.{Refusal}
use Rattle.refusal.specs.Outcome.{Outcome, answer, refused, ◌>>=◌, given}
use Rattle.refusal.specs.Rows.{Found, collect}
use Rattle.refusal.specs.Choose.{choose}
use Rattle.refusal.proofs.Laws.{handed_on, tests, calls, bind_answer, bind_refused}
use Rattle.refusal.proofs.Exact.{answers_equal, never}
use Rattle.refusal.proofs.Rows.{bind_assoc}
use Rattle.refusal.proofs.Choose.{Choosing, choosing_first, choosing_next, choosing_stop, choosing_done, chosen_by}
use Rattle.leb128.specs.Leb.{uleb_at, sleb_at}
use Rattle.sign.specs.Magnitude.{magnitude}
use Rattle.handlers.specs.declared.Pair.{Pair}
use Rattle.handlers.specs.declared.HandlerJudge.{HandlerJudge}
use Rattle.handlers.specs.declared.Brief.{Brief}
use Rattle.handlers.specs.Handlers.{catches, address_at, pair_at, catch_at, Handler, handler_at, HandlerList, handlers_at, nothing, nobody, caught_in, brief, briefly, kept_handler, KeptHandlers, kept_handlers_at, kept_pairs, Caught, all_at, rest_at, staged_handler, kept_list, staged_at}

-- ---- a signed size: `back z` is what the machine reads from z's bits
abbrev back : ℤ → ℤ
back z = to_z w32 (of_z w32 z)

module _ (z : ℤ) (f : SFits w32 z) where
  pub catches_no : lt_z (pos 0) (back z) ≡ true → false ≡ catches z
  unfolding catches
  catches_no t = by z (rw (to_z-of_z w32 z f) at t)
    where
      by : (y : ℤ) → lt_z (pos 0) y ≡ true → false ≡ catches y
      by (pos zero) e = absurd (omega (arith, ltb-true 0 0 e))
      by (pos (suc n)) e = refl
      by (negsuc n) e = absurd (false≢true e)

  pub catches_yes : lt_z (pos 0) (back z) ≡ false → true ≡ catches z
  unfolding catches
  catches_yes t = by z (rw (to_z-of_z w32 z f) at t)
    where
      by : (y : ℤ) → lt_z (pos 0) y ≡ false → true ≡ catches y
      by (pos zero) e = refl
      by (pos (suc n)) e = absurd (omega (arith, ltb-false 0 (suc n) e))
      by (negsuc n) e = refl

-- a call reads its signed argument from its bits
pub catches_asked : (z : ℤ) {t : Bool} → SFits w32 z → t ≡ catches (back z) → t ≡ catches z
catches_asked z f e = e ∙ ap catches (to_z-of_z w32 z f)

pub before_base : (at base : ℕ) → at < base → 0 ≡ at - base
before_base at base h = omega arith

-- ---- what is kept of a handler that was read
module _ (s : List ℕ) (j : HandlerJudge) (k p : ℕ) where
  -- there is a handler of which that is kept
  pub behind : {b : Brief} {n : ℕ} → answer (record { item = b; next = n }) ≡ kept_handler s j k p → (a : Handler) × ((answer (record { item = a; next = n }) ≡ handler_at s j p) × (brief k a ≡ b))
  unfolding kept_handler ◌>>=◌
  behind {b} {n} = go (handler_at s j p)
    where
      go : (o : Outcome (Found Handler ℕ)) → answer (record { item = b; next = n }) ≡ (o >>= briefly k) → (a : Handler) × ((answer (record { item = a; next = n }) ≡ o) × (brief k a ≡ b))
      go (answer r) e =
          let same = answers_equal e in
          (r.item, ((λ i. answer (record { item = r.item; next = (same i).next })), λ i. (sym same i).item))
      go (refused r) e = absurd (never (sym e))

  pub unread : {r : Refusal} → refused r ≡ kept_handler s j k p → refused r ≡ handler_at s j p
  unfolding kept_handler ◌>>=◌
  unread {r} = go (handler_at s j p)
    where
      go : (o : Outcome (Found Handler ℕ)) → refused r ≡ (o >>= briefly k) → refused r ≡ o
      go (answer a) e = absurd (never e)
      go (refused q) e = cc

-- ---- the loop of `list_found` at its head
pub record Listing (s : List ℕ) (j : HandlerJudge) (from count h k p i : ℕ) (kept : Brief) : Type 0 where
  handler : Handler
  is : brief k handler ≡ kept
  choosing : Choosing (handler_at s j) count from nobody h p i handler

pub listing_first : (s : List ℕ) (j : HandlerJudge) (from count h k : ℕ) → Listing s j from count h k from 0 (record { offset = 0; pairs = 0; pair = nothing; all = None })
listing_first s j from count h k = record { handler = nobody; is = refl; choosing = choosing_first (handler_at s j) count from nobody h }

module _ {s : List ℕ} {j : HandlerJudge} {from count h k p i : ℕ} {kept : Brief} (w : Listing s j from count h k p i kept) where
  pub listing_next : {b new : Brief} {n : ℕ} → i < count → answer (record { item = b; next = n }) ≡ kept_handler s j k p → new ≡ cond (eqb i h) b kept
      → Listing s j from count h k n (i + 1) new
  listing_next {b} l e q =
      let a = behind s j k p e in
      record { handler = cond (eqb i h) a.0 w.handler; is = go (eqb i h) a.0 a.1.1 ∙ sym q; choosing = choosing_next w.choosing l a.1.0 refl }
    where
      go : (t : Bool) (a : Handler) → brief k a ≡ b → brief k (cond t a w.handler) ≡ cond t b kept
      go true a m = m
      go false a m = w.is

  pub listing_stop : {r : Refusal} → i < count → refused r ≡ kept_handler s j k p → refused r ≡ kept_list s j from count h k
  unfolding kept_list
  listing_stop l e = sym (bind_refused (briefly k) (sym (choosing_stop w.choosing l (unread s j k p e))))

  pub listing_done : count ≤ i → answer (record { item = kept; next = p }) ≡ kept_list s j from count h k
  unfolding kept_list
  listing_done l = sym (bind_answer (briefly k) (sym (choosing_done w.choosing l)) ∙ λ i. answer (record { item = w.is i; next = p }))

-- what follows a test that holds, under what comes after
guarded : {A B : Type 0} (r : Refusal) (t : Bool) (o : Outcome A) (f : A → Outcome B) {q : Outcome B} → (o >>= f) ≡ q → (given t r o >>= f) ≡ given t r q
unfolding given ◌>>=◌
guarded r true o f e = e
guarded r false o f e = refl

-- ---- the stages: of a handler one pair is kept, of the list one handler
module _ (s : List ℕ) (j : HandlerJudge) where
  catch_stage : {B : Type 0} (b : Bool) (p : ℕ) (f : Found (Option ℕ) ℕ → Outcome B) (g : Caught → Outcome B)
      → ((c : Found (Option ℕ) ℕ) → f c ≡ g (record { all = caught_in c.item; next = c.next }))
      → (cond b (address_at s j p >>= λ (a : Found ℕ ℕ). answer (record { item = some a.item; next = a.next })) (answer (record { item = none; next = p })) >>= f)
      ≡ (cond b (address_at s j p >>= λ (a : Found ℕ ℕ). answer (record { all = Some a.item; next = a.next })) (answer (record { all = None; next = p })) >>= g)
  unfolding ◌>>=◌
  catch_stage {B} true p f g h = go (address_at s j p)
    where
      go : (o : Outcome (Found ℕ ℕ)) → ((o >>= λ (a : Found ℕ ℕ). answer (record { item = some a.item; next = a.next })) >>= f)
          ≡ ((o >>= λ (a : Found ℕ ℕ). answer (record { all = Some a.item; next = a.next })) >>= g)
      go (answer a) = h (record { item = some a.item; next = a.next })
      go (refused r) = refl
  catch_stage false p f g h = h (record { item = none; next = p })

  pub handler_by : (k p : ℕ) {y : Outcome (Found Brief ℕ)} → y ≡ staged_handler s j k p → y ≡ kept_handler s j k p
  unfolding kept_handler handler_at staged_handler rest_at catch_at all_at kept_pairs
  handler_by k p e =
      e ∙ sym (bind_assoc (sleb_at s j.item p) _ (briefly k) ∙ λ i. sleb_at s j.item p >>= λ (z : Found ℤ ℕ). rest z i)
    where
      rest : (z : Found ℤ ℕ)
          → ((collect (magnitude z.item) (pair_at s j) z.next >>= λ (ps : Found (List Pair) ℕ). catch_at s j z.item ps.next >>= λ (c : Found (Option ℕ) ℕ).
          answer (record { item = record { offset = p - j.base; pairs = ps.item; all = c.item }; next = c.next })) >>= briefly k)
          ≡ rest_at s j (p - j.base) (magnitude z.item) z.item z.next k
      rest z =
          bind_assoc (collect (magnitude z.item) (pair_at s j) z.next) _ (briefly k)
          ∙ chosen_by (magnitude z.item) (pair_at s j) nothing k z.next _ _
          (λ ps size. bind_assoc (catch_at s j z.item ps.next) _ (briefly k) ∙ catch_stage (catches z.item) ps.next _ _
          (λ c. bind_answer (briefly k) refl ∙ λ i. answer (record { item = record { offset = p - j.base; pairs = size i; pair = get_or ps.item k nothing; all = caught_in c.item }; next = c.next })))

  -- with the count and the offset that were asked for, and a signed argument read from its bits
  pub rest_by : (z : ℤ) (at from k : ℕ) {pairs offset : ℕ} {y : Outcome (Found Brief ℕ)} → SFits w32 z → offset ≡ at - j.base → pairs ≡ magnitude (back z)
      → y ≡ rest_at s j offset pairs (back z) from k → y ≡ rest_at s j (at - j.base) (magnitude z) z from k
  rest_by z at from k f e g h = h ∙ λ i. rest_at s j (e i) ((g ∙ ap magnitude (to_z-of_z w32 z f)) i) (to_z-of_z w32 z f i) from k

  pub all_asked : (z : ℤ) (p : ℕ) {o : Outcome Caught} → SFits w32 z → o ≡ all_at s j (back z) p → o ≡ all_at s j z p
  all_asked z p f e = e ∙ ap (λ (y : ℤ). all_at s j y p) (to_z-of_z w32 z f)

  abbrev keeping : ℕ → ℕ → HandlerList → Outcome KeptHandlers
  keeping h k l = answer (record { count = length l.handlers; brief = brief k (get_or l.handlers h nobody); first = l.first; end = l.end })

  pub list_by : (h k : ℕ) {y : Outcome KeptHandlers} → y ≡ staged_at s j h k → y ≡ kept_handlers_at s j h k
  unfolding kept_handlers_at handlers_at staged_at kept_list
  list_by h k e =
      e ∙ sym (bind_assoc (uleb_at s j.item j.base) _ (keeping h k) ∙ λ i. uleb_at s j.item j.base >>= λ (n : Found ℕ ℕ). rest n i)
    where
      inner : (n : Found ℕ ℕ)
          → ((collect n.item (handler_at s j) n.next >>= λ (l : Found (List Handler) ℕ). answer (record { first = n.next; handlers = l.item; end = l.next })) >>= keeping h k)
          ≡ (kept_list s j n.next n.item h k >>= λ (l : Found Brief ℕ). answer (record { count = n.item; brief = l.item; first = n.next; end = l.next }))
      inner n =
          bind_assoc (collect n.item (handler_at s j) n.next) _ (keeping h k)
          ∙ chosen_by n.item (handler_at s j) nobody h n.next _ (λ (l : Found Handler ℕ). answer (record { count = n.item; brief = brief k l.item; first = n.next; end = l.next }))
          (λ l size. bind_answer (keeping h k) refl ∙ λ i. answer (record { count = size i; brief = brief k (get_or l.item h nobody); first = n.next; end = l.next }))
          ∙ sym (bind_assoc (choose n.item (handler_at s j) nobody h n.next) (briefly k) _ ∙ λ i. choose n.item (handler_at s j) nobody h n.next >>= λ (l : Found Handler ℕ).
          bind_answer {o = briefly k l} (λ (b : Found Brief ℕ). answer (record { count = n.item; brief = b.item; first = n.next; end = b.next })) refl i)

      rest : (n : Found ℕ ℕ)
          → (given (ltb 0 n.item) (wrong_code j.item) (collect n.item (handler_at s j) n.next >>= λ (l : Found (List Handler) ℕ). answer (record { first = n.next; handlers = l.item; end = l.next })) >>= keeping h k)
          ≡ given (ltb 0 n.item) (wrong_code j.item) (kept_list s j n.next n.item h k >>= λ (l : Found Brief ℕ). answer (record { count = n.item; brief = l.item; first = n.next; end = l.next }))
      rest n = guarded (wrong_code j.item) (ltb 0 n.item) _ (keeping h k) (inner n)

-- ---- what this crate's functions are searched with
pub ruleset sign_laws = (catches_no, catches_yes, before_base, rules)

pub ruleset part_laws = (calls, tests, rules)

pub ruleset all_laws = (catches_asked, calls, rules)

pub ruleset loop_laws = (choosing_first, choosing_next, choosing_stop, choosing_done, listing_first, listing_next, listing_stop, listing_done, handed_on, rules)

pub ruleset handler_laws = (handler_by, rest_by, calls, rules)

pub ruleset rest_laws = (all_asked, calls, rules)

pub ruleset stage_laws = (list_by, calls, tests, rules)
