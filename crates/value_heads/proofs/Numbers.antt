-- Laws of a value's bytes as numbers: their size, and the loop that joins them.
-- Assumes nothing.
use Prim.Native.Nat.{ℕ, suc, ◌+◌, ◌-◌, ◌*◌, ◌^◌, ◌%◌, ◌/◌, ◌<◌, ◌≤◌}
use mathlib.Core.Path.{◌≡◌}
use mathlib.Core.Bool.{Bool, true, false, cond}
use mathlib.Core.List.{List}
use lib.ListN.{length, get_or}
use lib.Dec.{ltb}
use lib.Pow.{pow_pos, pow_mono, pow-add}
use native.Mathlib.Omega.{arith}
use borrow.Author.Rules.{rules}
use borrow.Author.Tests.{lt-ltb, le-ltb}
use mir.Syntax.{w8, w64}
use mir.Val.{Fits}
use Rattle.word.specs.Bytes.{stretch}
use Rattle.value_heads.specs.Kinds.{bytes_of}
use Rattle.value_heads.specs.Numbers.{little}

-- ---- how many bytes
pub size_some : (h : ℕ) → h % 32 < 0x1c → h / 32 + 1 ≡ bytes_of h
unfolding bytes_of
size_some h p = rw (lt-ltb (h % 32) 0x1c p)

pub size_none : (h : ℕ) → 0x1c ≤ h % 32 → 0 ≡ bytes_of h
unfolding bytes_of
size_none h p = rw (le-ltb (h % 32) 0x1c p)

pub size_most : (h : ℕ) → bytes_of h ≤ h / 32 + 1
unfolding bytes_of
size_most h = go (ltb (h % 32) 0x1c)
  where
    go : (b : Bool) → cond b (h / 32 + 1) 0 ≤ h / 32 + 1
    go true = omega arith
    go false = omega arith

pub size_small : (h : ℕ) → h < 256 → bytes_of h ≤ 8
size_small h p = let m = size_most h in omega arith

-- ---- the loop of `joined` at its head: the bytes from `left` on are joined
pub record Joining (s : List ℕ) (at n left sum : ℕ) : Type 0 where
  few : n ≤ 8
  within : left ≤ n
  inside : at + n ≤ length s
  sum_is : sum ≡ little (stretch s (at + left) (n - left))
  small : sum < 2 ^ (8 * (n - left))

pub joining_first : (s : List ℕ) (at n : ℕ) → (n ≤ 8) × (at + n ≤ length s) → Joining s at n n 0
unfolding little stretch
joining_first s at n h =
    let z : n - n ≡ 0 = omega arith in
    record { few = h.0; within = omega arith; inside = h.1; sum_is = rw z; small = pow_pos _ }

module _ {s : List ℕ} {at n left sum : ℕ} (j : Joining s at n left sum) (l : 0 < left) where
  most : sum < 2 ^ 56
  most = let f = j.few in let t = j.within in let h = j.small in omega (arith, pow_mono {i = 8 * (n - left)} {j = 56} (omega arith))

  pub joining_place : at + (left - 1) < length s
  joining_place = let i = j.inside in let t = j.within in omega arith

  pub fits_place : Fits w64 (length s) → Fits w64 (at + (left - 1))
  fits_place f = let p = joining_place in omega arith

  pub fits_part : Fits w64 (sum * 256)
  fits_part = let m = most in omega arith

  pub fits_sum : (b : ℕ) → Fits w8 b → Fits w64 (sum * 256 + b)
  fits_sum b f = let m = most in omega arith

  step : n - (left - 1) ≡ suc (n - left)
  step = let t = j.within in omega arith

  again : (b : ℕ) → b < 256 → sum * 256 + b < 2 ^ (8 * (n - (left - 1)))
  again b f =
      let h = j.small in
      let e : 8 * (n - (left - 1)) ≡ 8 * (n - left) + 8 = let t = j.within in omega arith in
      rw (e, pow-add 2 (8 * (n - left)) 8) (omega arith)

  pub joining_next : Fits w8 (get_or s (at + (left - 1)) 0) → Joining s at n (left - 1) (sum * 256 + get_or s (at + (left - 1)) 0)
  unfolding little stretch
  joining_next f =
      let t = j.within in
      let e = j.sum_is in
      let d : at + (left - 1) + 1 ≡ at + left = omega arith in
      record {
        few = j.few;
        within = omega arith;
        inside = j.inside;
        sum_is = rw (step, d) (omega arith);
        small = again (get_or s (at + (left - 1)) 0) (omega arith);
      }

module _ {s : List ℕ} {at n left sum : ℕ} (j : Joining s at n left sum) (l : left ≤ 0) where
  pub joining_value : sum ≡ little (stretch s at n)
  joining_value =
      let a : at + left ≡ at = omega arith in
      let b : n - left ≡ n = omega arith in
      rw (a, b) at j.sum_is

  pub joining_small : sum < 2 ^ (8 * n)
  joining_small = let b : n - left ≡ n = omega arith in rw b at j.small

-- a byte of a slice fits a wider type
pub byte_fits : (s : List ℕ) (i : ℕ) → ((k : ℕ) → Fits w8 (get_or s k 0)) → Fits w64 (get_or s i 0)
byte_fits s i h = omega (arith, h i)

pub ruleset joining_laws = (joining_first, joining_place, fits_place, fits_part, fits_sum, joining_next, joining_value, joining_small, byte_fits, rules)
