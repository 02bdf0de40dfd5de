-- The handler list as a rule: which bytes say what, with no walk.
use Rattle.std.specs.Prelude.{ℕ, ◌-◌, ◌<◌, ◌≡◌, Bool, true, false, List, ℤ}
use Rattle.std.proofs.Math.Option.{Option, none, some}
use Rattle.refusal.specs.Exact.{Row}
use Rattle.leb128.specs.Rules.{Uleb, Sleb}
use Rattle.sign.specs.Magnitude.{magnitude}
use Rattle.handlers.specs.declared.Pair.{Pair}
use Rattle.handlers.specs.declared.HandlerJudge.{HandlerJudge}
use Rattle.handlers.specs.Handlers.{catches, Handler, HandlerList}

-- an address that stands at p and ends at q
pub record AddressRule (s : List ℕ) (j : HandlerJudge) (p a q : ℕ) : Type 0 where
  pub number : Uleb s p (record { item = a; next = q })
  pub below : a < j.units

pub record PairRule (s : List ℕ) (j : HandlerJudge) (p : ℕ) (r : Pair) (q : ℕ) : Type 0 where
  pub middle : ℕ
  pub kind : Uleb s p (record { item = r.kind; next = middle })
  pub below : r.kind < j.types
  pub address : AddressRule s j middle r.address q

-- a catch-all where there is to be one
abbrev pub CatchRule : List ℕ → HandlerJudge → Bool → ℕ → Option ℕ → ℕ → Type 0
CatchRule s j true p (some a) q = AddressRule s j p a q
CatchRule s j true p none q = ⊥
CatchRule s j false p (some a) q = ⊥
CatchRule s j false p none q = p ≡ q

pub record HandlerRule (s : List ℕ) (j : HandlerJudge) (p : ℕ) (h : Handler) (q : ℕ) : Type 0 where
  pub size : ℤ
  pub after_size : ℕ
  pub after_pairs : ℕ
  pub stored : Sleb s p (record { item = size; next = after_size })
  pub pairs : Row (PairRule s j) (magnitude size) after_size h.pairs after_pairs
  pub all : CatchRule s j (catches size) after_pairs h.all q
  pub offset : p - j.base ≡ h.offset

pub record HandlersRule (s : List ℕ) (j : HandlerJudge) (l : HandlerList) : Type 0 where
  pub count : ℕ
  pub stored : Uleb s j.base (record { item = count; next = l.first })
  pub some_handler : 0 < count
  pub handlers : Row (HandlerRule s j) count l.first l.handlers l.end
