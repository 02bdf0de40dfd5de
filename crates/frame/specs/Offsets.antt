-- Where an item may lie: "8: an item offset outside the data section, or not a multiple of 4 where that is required".
use Rattle.std.specs.Prelude.{ℕ, ◌%◌, ◌≤◌, ◌<◌, ◌≡◌, ◌⊎◌, Bool, true, cond, ◌&&◌, ◌||◌, ltb, leb, eqb}

-- as a test: the section starts at `start` and ends before `end`, and `four` says that a multiple of 4 is required
unfoldable pub allowed : ℕ → ℕ → Bool → ℕ → Bool
allowed start end four offset = leb start offset && (ltb offset end && cond four (eqb (offset % 4) 0) true)

-- "Offset 0 means absent"
unfoldable pub allowed_or_absent : ℕ → ℕ → Bool → ℕ → Bool
allowed_or_absent start end four offset = eqb offset 0 || allowed start end four offset

-- as a rule
pub record Allowed (start end : ℕ) (four : Bool) (offset : ℕ) : Type 0 where
  pub from : start ≤ offset
  pub before_end : offset < end
  pub multiple : four ≡ true → offset % 4 ≡ 0

abbrev pub AllowedOrAbsent : ℕ → ℕ → Bool → ℕ → Type 0
AllowedOrAbsent start end four offset = (offset ≡ 0) ⊎ Allowed start end four offset
