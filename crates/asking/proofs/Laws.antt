-- What the lending of an output's front asks for.
-- Assumes nothing.
use Prim.Native.Nat.{ℕ, ◌≤◌}
use mathlib.Core.Path.{◌≡◌, sym}
use mathlib.Core.List.{List}
use lib.ListN.{length, take}
use lib.Seq.{length-take-le}
use borrow.Author.Rules.{rules}

-- the front has the length that was asked for
pub front_long : (k : ℕ) (s : List ℕ) → k ≤ length s → k ≡ length (take k s)
front_long k s within = sym (length-take-le k s within)

pub ruleset laws = (front_long, rules)
