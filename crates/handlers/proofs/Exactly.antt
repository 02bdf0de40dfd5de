-- The reading of a handler list finds exactly what the rule allows, and in such a list no two handlers start at one offset.
-- Assumes nothing.
use Prim.Native.Nat.{ℕ, ◌<◌, ◌≤◌}
use mathlib.Core.Path.{◌≡◌, refl, subst}
use mathlib.Core.Bool.{Bool, true, false, cond}
use mathlib.Core.Option.{Option, none, some}
use mathlib.Core.List.{List, ◌∷◌}
use lib.ListN.{length}
use native.Mathlib.Omega.{arith}
use Rattle.refusal.specs.Refusals.{wrong_code, wrong_index}
use Rattle.refusal.specs.Outcome.{answer, ◌>>=◌}
use Rattle.refusal.specs.Rows.{Found}
use Rattle.refusal.specs.Exact.{Exact, Row, empty, first, At, Rising, Strict}
use Rattle.refusal.proofs.Exact.{same, answer_exact, given_exact, bind_exact, exact_iff, below}
use Rattle.refusal.proofs.Rows.{collect_exact}
use Rattle.refusal.proofs.Each.{at_below, rising_one, rising_cons, rising_apart}
use Rattle.leb128.specs.Rules.{Uleb}
use Rattle.leb128.proofs.Exactly.{uleb_exact, sleb_exact}
use Rattle.leb128.proofs.Laws.{uleb_span, sleb_span}
use Rattle.sign.specs.Magnitude.{magnitude}
use Rattle.handlers.specs.declared.Pair.{Pair}
use Rattle.handlers.specs.declared.HandlerJudge.{HandlerJudge}
use Rattle.handlers.specs.Handlers.{catches, address_at, pair_at, catch_at, Handler, handler_at, HandlerList, handlers_at}
use Rattle.handlers.specs.Rules.{AddressRule, PairRule, CatchRule, HandlerRule, HandlersRule}

abbrev pub StartsBefore : Handler → Handler → Type 0
StartsBefore a b = a.offset < b.offset

starts_strict : Strict StartsBefore
starts_strict = record { never = λ p. omega arith; onward = λ p q. omega arith }

module _ (s : List ℕ) (j : HandlerJudge) where
  address_exact : (p : ℕ) → Exact (address_at s j p) (λ (r : Found ℕ ℕ). AddressRule s j p r.item r.next)
  unfolding address_at
  address_exact p =
      exact_iff (bind_exact _ _ (uleb_exact s j.item p) (λ a. given_exact (wrong_code j.item) (below a.item j.units) (answer_exact a)))
      (λ r h. subst (λ (x : Found ℕ ℕ). AddressRule s j p x.item x.next) h.1.1.1 (record { number = h.1.0; below = h.1.1.0 }))
      (λ r h. (r, (h.number, (h.below, refl))))

  pair_exact : (p : ℕ) → Exact (pair_at s j p) (λ (r : Found Pair ℕ). PairRule s j p r.item r.next)
  unfolding pair_at
  pair_exact p =
      exact_iff (bind_exact _ _ (uleb_exact s j.item p) (λ t. given_exact (wrong_index j.item) (below t.item j.types) (bind_exact _ _ (address_exact t.next) (λ a. answer_exact _))))
      (λ r h. subst (λ (x : Found Pair ℕ). PairRule s j p x.item x.next) h.1.1.1.1.1 (record { middle = h.0.next; kind = h.1.0; below = h.1.1.0; address = h.1.1.1.1.0 }))
      (λ r h. (record { item = r.item.kind; next = h.middle }, (h.kind, (h.below, (record { item = r.item.address; next = r.next }, (h.address, refl))))))

  catch_by : (b : Bool) (p : ℕ) → Exact (cond b (address_at s j p >>= λ (a : Found ℕ ℕ). answer (record { item = some a.item; next = a.next })) (answer (record { item = none; next = p })))
      (λ (r : Found (Option ℕ) ℕ). CatchRule s j b p r.item r.next)
  catch_by true p =
      exact_iff (bind_exact _ _ (address_exact p) (λ a. answer_exact _))
      (λ r h. subst (λ (x : Found (Option ℕ) ℕ). CatchRule s j true p x.item x.next) h.1.1 h.1.0)
      (λ r h. go r.item r.next h)
    where
      go : (o : Option ℕ) (q : ℕ) → CatchRule s j true p o q → (a : Found ℕ ℕ) × (AddressRule s j p a.item a.next × ◌≡◌ {A = Found (Option ℕ) ℕ} (record { item = some a.item; next = a.next }) (record { item = o; next = q }))
      go none q h = absurd h
      go (some a) q h = (record { item = a; next = q }, (h, refl))
  catch_by false p =
      exact_iff (answer_exact _)
      (λ r h. subst (λ (x : Found (Option ℕ) ℕ). CatchRule s j false p x.item x.next) h refl)
      (λ r h. go r.item r.next h)
    where
      go : (o : Option ℕ) (q : ℕ) → CatchRule s j false p o q → ◌≡◌ {A = Found (Option ℕ) ℕ} (record { item = none; next = p }) (record { item = o; next = q })
      go none q h = λ i. record { item = none; next = h i }
      go (some a) q h = absurd h

  pub handler_exact : (p : ℕ) → Exact (handler_at s j p) (λ (r : Found Handler ℕ). HandlerRule s j p r.item r.next)
  unfolding handler_at catch_at
  handler_exact p =
      exact_iff
      (bind_exact _ _ (sleb_exact s j.item p) (λ z. bind_exact _ _ (collect_exact (pair_at s j) (PairRule s j) pair_exact (magnitude z.item) z.next)
      (λ ps. bind_exact _ _ (catch_by (catches z.item) ps.next) (λ c. answer_exact _))))
      (λ r h. subst (λ (x : Found Handler ℕ). HandlerRule s j p x.item x.next) h.1.1.1.1.1.1
      (record { size = h.0.item; after_size = h.0.next; after_pairs = h.1.1.0.next; stored = h.1.0; pairs = h.1.1.1.0; all = h.1.1.1.1.1.0; offset = refl }))
      (λ r h. (
        record { item = h.size; next = h.after_size },
        (
          h.stored,
          (
            record { item = r.item.pairs; next = h.after_pairs },
            (
              h.pairs,
              (record { item = r.item.all; next = r.next }, (h.all, λ i. record { item = record { offset = h.offset i; pairs = r.item.pairs; all = r.item.all }; next = r.next })),
            ),
          ),
        ),
      ))

  pub handlers_exact : Exact (handlers_at s j) (HandlersRule s j)
  unfolding handlers_at
  handlers_exact =
      exact_iff
      (bind_exact _ _ (uleb_exact s j.item j.base) (λ n. given_exact (wrong_code j.item) (below 0 n.item)
      (bind_exact _ _ (collect_exact (handler_at s j) (HandlerRule s j) handler_exact n.item n.next) (λ l. answer_exact _))))
      (λ r h. subst (HandlersRule s j) h.1.1.1.1.1 (record { count = h.0.item; stored = h.1.0; some_handler = h.1.1.0; handlers = h.1.1.1.1.0 }))
      (λ r h. (record { item = h.count; next = r.first }, (h.stored, (h.some_handler, (record { item = r.handlers; next = r.end }, (h.handlers, refl))))))

  -- two readings of one place are equal
  pub handlers_same : (a b : HandlerList) → HandlersRule s j a → HandlersRule s j b → a ≡ b
  handlers_same = same handlers_exact

  -- ---- bounds: a handler ends after its place, and a list that was read within the slice
  uleb_on : {p v q : ℕ} → Uleb s p (record { item = v; next = q }) → (p < q) × (q ≤ length s)
  uleb_on {p} h = let z = uleb_span s 0 p ((uleb_exact s 0 p).complete _ h) in (z.after_place, z.inside)

  pairs_on : {n p q : ℕ} {l : List Pair} → Row (PairRule s j) n p l q → p ≤ length s → (p ≤ q) × (q ≤ length s)
  pairs_on empty i = (omega arith, i)
  pairs_on (first h r) i =
      let a = uleb_on h.kind in
      let b = uleb_on h.address.number in
      let rest = pairs_on r b.1 in
      (omega arith, rest.1)

  catch_on : (b : Bool) (p : ℕ) (o : Option ℕ) (q : ℕ) → CatchRule s j b p o q → p ≤ length s → (p ≤ q) × (q ≤ length s)
  catch_on true p (some a) q h i = let z = uleb_on h.number in (omega arith, z.1)
  catch_on true p none q h i = absurd h
  catch_on false p (some a) q h i = absurd h
  catch_on false p none q h i = (omega arith, omega arith)

  pub handler_on : {p q : ℕ} {a : Handler} → HandlerRule s j p a q → (p < q) × (q ≤ length s)
  handler_on {p} {q} {a} h =
      let z = sleb_span s 0 p ((sleb_exact s 0 p).complete _ h.stored) in
      let size = z.after_place in
      let pairs = pairs_on h.pairs z.inside in
      let all = catch_on (catches h.size) h.after_pairs a.all q h.all pairs.1 in
      (omega arith, all.1)

  handlers_on : {n p q : ℕ} {l : List Handler} → Row (HandlerRule s j) n p l q → p ≤ length s → (p ≤ q) × (q ≤ length s)
  handlers_on empty i = (omega arith, i)
  handlers_on (first h r) i =
      let a = handler_on h in
      let rest = handlers_on r a.1 in
      (omega arith, rest.1)

  pub record Lies (l : HandlerList) : Type 0 where
    pub first_after : j.base < l.first
    pub end_after : l.first ≤ l.end
    pub inside : l.end ≤ length s

  pub handlers_lie : (l : HandlerList) → HandlersRule s j l → Lies l
  handlers_lie l h =
      let a = uleb_on h.stored in
      let b = handlers_on h.handlers a.1 in
      record { first_after = a.0; end_after = b.0; inside = b.1 }

  -- ---- handlers start at rising places, so that no two of them start at one
  start_before : {n p t q : ℕ} {a : Handler} {l : List Handler} → HandlerRule s j p a t → j.base ≤ p → Row (HandlerRule s j) n t l q → Rising StartsBefore l → Rising StartsBefore (a ∷ l)
  start_before h i empty rest = rising_one
  start_before h i (first g r) rest =
      let longer = (handler_on h).0 in
      let own = h.offset in
      let next = g.offset in
      rising_cons (omega arith) rest

  row_starts : {n p q : ℕ} {l : List Handler} → Row (HandlerRule s j) n p l q → j.base ≤ p → Rising StartsBefore l
  row_starts empty i = record { rises = λ m n. absurd (let z = at_below n in omega arith) }
  row_starts (first h r) i = start_before h i r (row_starts r (let longer = (handler_on h).0 in omega arith))

  pub handlers_rise : (l : HandlerList) → HandlersRule s j l → Rising StartsBefore l.handlers
  handlers_rise l h = row_starts h.handlers (let z = (uleb_on h.stored).0 in omega arith)

  pub handlers_apart : (l : HandlerList) → HandlersRule s j l → (m n : ℕ) (a b : Handler) → At l.handlers m a → At l.handlers n b → a.offset ≡ b.offset → m ≡ n
  handlers_apart l h m n a b x y e = rising_apart starts_strict (handlers_rise l h) x y (λ p. omega arith) (λ p. omega arith)
