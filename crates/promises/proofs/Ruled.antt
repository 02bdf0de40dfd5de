-- The code that the reading of a file gives for a number obeys the rules of a code item.
-- Assumes nothing.
use Prim.Native.Nat.{ℕ, zero, suc}
use mathlib.Core.Path.{◌≡◌, subst}
use mathlib.Core.Option.{Option, none, some}
use mathlib.Core.Bool.{Bool, true, false, cond}
use mathlib.Core.List.{List, [], ◌∷◌}
use lib.Dec.{eqb}
use Rattle.refusal.specs.Outcome.{Outcome, answer, refused, ◌>>=◌}
use Rattle.refusal.specs.Exact.{here, there, Alike}
use Rattle.header.specs.Header.{up_to_end, plain_frame}
use Rattle.value_bodies.specs.Bodies.{pick}
use Rattle.code_bodies.specs.Code.{Code}
use Rattle.code_bodies.specs.Rules.{CodeRule}
use Rattle.class_members.specs.declared.Member.{Member}
use Rattle.class_readers.specs.Spots.{onward}
use Rattle.class_walk.specs.Methods.{Body, DataBelow}
use Rattle.class_walk.specs.Classes.{ClassBelow}
use Rattle.class_walk.specs.Rules.{BodyRule, MethodRule, DataBelowRule}
use Rattle.whole_check.specs.File.{File}
use Rattle.promises.specs.Reads.{Reads}
use Rattle.promises.specs.Methods.{bodies_of, data_of, body_of, code_of}
use Rattle.promises.specs.Numbers.{IfThere}
use Rattle.promises.proofs.Asked.{made_same}
use Rattle.promises.proofs.InRange.{All}
use Rattle.promises.proofs.Indices.{all_none, if_present, alike_all}

-- what is answered, if it is there
abbrev Sure : {A : Type 0} → (A → Type 0) → Outcome (Option A) → Type 0
Sure P (answer o) = IfThere P o
Sure P (refused r) = Unit

sure_onward : {A B : Type 0} (P : A → Type 0) (Q : B → Type 0) (o : Outcome (Option A)) (k : A → Outcome (Option B)) → Sure P o → ((a : A) → P a → Sure Q (k a)) → Sure Q (o >>= onward k)
unfolding ◌>>=◌ onward
sure_onward P Q (answer none) k h next = tt
sure_onward P Q (answer (some a)) k h next = next a h
sure_onward P Q (refused r) k h next = tt

sure_pick : {A B : Type 0} (P : A → Type 0) (l : List B) (k : ℕ) (g : B → Outcome (Option A)) → All (λ (b : B). Sure P (g b)) l → Sure P (pick k l >>= g)
unfolding pick ◌>>=◌
sure_pick P [] k g all = tt
sure_pick P (b ∷ l) zero g all = all zero b here
sure_pick P (b ∷ l) (suc k) g all = sure_pick P l k g (λ j a m. all (suc j) a (there m))

either_all : {A : Type 0} (P : A → Type 0) (test : Bool) {a b : A} → P a → P b → P (cond test a b)
either_all P true p q = p
either_all P false p q = q

module _ (f : List ℕ) {r : File} (reads : Reads f r) (c : ℕ) where
  abbrev DataRuled : DataBelow → Type 0
  DataRuled d = (at : ℕ) × DataBelowRule (up_to_end f r.header) (plain_frame r.header) at d

  abbrev BodyRuled : Body → Type 0
  BodyRuled b = (at : ℕ) × BodyRule (up_to_end f r.header) (plain_frame r.header) at b

  abbrev pub CodeRuled : Code → Type 0
  CodeRuled x = (at : ℕ) × CodeRule (up_to_end f r.header) (plain_frame r.header) at x

  data_ruled : Sure DataRuled (data_of r c)
  data_ruled = sure_pick DataRuled r.classes c (λ (b : ClassBelow). answer b.members) (λ k b m. if_present DataRuled (λ d q. (_, q)) (reads.classes.each m).members)

  bodies_ruled : {l : List Member} {m : List (Option Body)} → Alike (MethodRule (up_to_end f r.header) (plain_frame r.header)) l m → All (IfThere BodyRuled) m
  bodies_ruled {l} {m} both = alike_all (IfThere BodyRuled) (λ x o rule. if_present BodyRuled (λ b q. (_, q)) rule) l m both

  list_ruled : (list : ℕ) (d : DataBelow) → DataRuled d → All (IfThere BodyRuled) (bodies_of list d)
  list_ruled list d q =
      either_all Ruled (eqb list 0) (all_none _) (either_all Ruled (eqb list 1) (all_none _) (either_all Ruled (eqb list 2) (bodies_ruled q.1.directs) (either_all Ruled (eqb list 3) (bodies_ruled q.1.virtuals) (all_none _))))
    where
      Ruled : List (Option Body) → Type 0
      Ruled l = All (IfThere BodyRuled) l

  pub code_ruled : (list k : ℕ) {x : Code} → code_of r c list k ≡ answer (some x) → CodeRuled x
  unfolding ◌>>=◌
  code_ruled list k e = subst (Sure CodeRuled) e (sure_onward BodyRuled CodeRuled (body_of r c list k) _ body_ruled (λ b q. (q.0, q.1.code)))
    where
      body_ruled : Sure BodyRuled (body_of r c list k)
      body_ruled = sure_onward DataRuled BodyRuled (data_of r c) _ data_ruled (λ d q. subst (Sure BodyRuled) (made_same (pick k (bodies_of list d))) (sure_pick BodyRuled (bodies_of list d) k (λ (o : Option Body). answer o) (list_ruled list d q)))
