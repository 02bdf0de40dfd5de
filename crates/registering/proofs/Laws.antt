-- What the functions' proofs cite: what is put fits the room, and a piece of a text goes on.
-- Assumes nothing.
use Rattle.std.proofs.Common.{◌≡◌, ℕ, ◌+◌, ◌-◌, ◌*◌, ◌<◌, ◌≤◌, Bool, List, length, take, drop, ℤ, pos, negsuc, sym, refl, ap, ◌∙◌, arith, length-drop, length-take-le, take_all, w8, w16, w32, w64, Fits, SFits, to_z, of_z, rules}
use Rattle.refusal.specs.Outcome.{answer}
use Rattle.report.specs.Stored.{written}
use Rattle.report.proofs.Laws.{got_within}
use lib.ListN.{length-take}
use borrow.Rule.Slice.PartMut.{mid_of, put_mid, same_len_mid}
use Rattle.register_text.specs.Escapes.{Pieced}
use Rattle.register_text.proofs.Laws.{piece_goes_on}

-- ---- the rest of the output is lent
lent_long : (n : ℕ) (out : List ℕ) → length (take n out) ≤ n
lent_long n out = let z = length-take n out in omega arith

module _ (text out : List ℕ) (p k : ℕ) (e : answer k ≡ written text (length (take (16384 - p) (drop p out)))) (l : p ≤ 16384) where
  pub put_within : p + k ≤ 16384
  put_within = let z = got_within text (length (take (16384 - p) (drop p out))) k e in let y = lent_long (16384 - p) (drop p out) in omega arith

  pub put_fits : Fits w64 (p + k)
  put_fits = record { fits = let z = put_within in omega arith }

pub ruleset put_laws = (put_within, put_fits, rules)

-- it is as long afterwards
pub room_kept : (p : ℕ) (out lent : List ℕ) → length lent ≡ length (mid_of p (16384 - p) out) → length out ≡ 16384 → length (put_mid p (16384 - p) out lent) ≡ 16384
room_kept p out lent e l = same_len_mid p (16384 - p) out lent e ∙ l

-- ---- a text in pieces
module _ (key : Bool) (text out after : List ℕ) (from next used p : ℕ) (h : Pieced key text from (take (16384 - p) (drop p out)) after next used) (l : p + 64 ≤ 16384) where
  pub piece_less : from < length text → length out ≡ 16384 → length text - next < length text - from
  piece_less m e = let z = piece_goes_on h m (let y = length-take (16384 - p) (drop p out) in let x = length-drop p out in omega arith) in omega arith
