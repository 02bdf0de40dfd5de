-- A verdict refuses exactly what the whole check refuses, with the same number and place, and what it hands out of an accepted file is that file's header.
-- Assumes nothing.
use Prim.Native.Nat.{ℕ}
use mathlib.Core.Path.{◌≡◌, refl, sym, ◌∙◌}
use mathlib.Core.List.{List}
use Rattle.refusal.specs.declared.Refusal.{Refusal}
use Rattle.refusal.specs.Outcome.{Outcome, answer, refused, ◌>>=◌}
use Rattle.refusal.proofs.Laws.{bind_answer, bind_refused}
use Rattle.refusal.proofs.Exact.{never}
use Rattle.refusal.proofs.Kept.{accepted_answer}
use Rattle.header.specs.declared.Header.{Header}
use Rattle.header.specs.Header.{header_at}
use Rattle.map_list.specs.Map.{map_at}
use Rattle.whole_check.specs.File.{tables_at, file_at, check_at, verdict_at}

-- what goes on with an answer had one
had : {A B : Type 0} (o : Outcome A) (k : A → Outcome B) {b : B} → (o >>= k) ≡ answer b → (a : A) × (o ≡ answer a)
unfolding ◌>>=◌
had (answer a) k e = (a, refl)
had (refused r) k e = absurd (never e)

pub verdict_refused : (f : List ℕ) (r : Refusal) → check_at f ≡ refused r → verdict_at f ≡ refused r
unfolding verdict_at
verdict_refused f r e = bind_refused _ e

pub verdict_accepted : (f : List ℕ) → check_at f ≡ answer tt → (h : Header) × ((header_at f ≡ answer h) × (verdict_at f ≡ answer h))
unfolding verdict_at check_at file_at
verdict_accepted f e =
    let file = accepted_answer (file_at f) (sym e) in
    let head = had (header_at f) (λ (h : Header). map_at f h >>= tables_at f h) file.1 in
    (head.0, (head.1, bind_answer (λ (u : Unit). header_at f) e ∙ head.1))
