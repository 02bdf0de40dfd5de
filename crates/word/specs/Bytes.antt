-- Bytes of a file.
use Rattle.std.specs.Prelude.{ℕ, zero, suc, ◌+◌, ◌≤◌, ◌≡◌, cond, List, [], ◌∷◌, length, get_or, leb}

-- n bytes from p on, 0 past the end
unfoldable pub stretch : List ℕ → ℕ → ℕ → List ℕ
stretch slice p zero = []
stretch slice p (suc n) = get_or slice p 0 ∷ stretch slice (p + 1) n

-- n bytes from p on, none where the slice ends before them
unfoldable pub part : List ℕ → ℕ → ℕ → List ℕ
part slice p n = cond (leb (p + n) (length slice)) (stretch slice p n) []

-- these bytes stand at p, and end at q
pub record Stands (slice : List ℕ) (p : ℕ) (bytes : List ℕ) (q : ℕ) : Type 0 where
  pub bytes_there : stretch slice p (length bytes) ≡ bytes
  pub ends : p + length bytes ≡ q
  pub inside : q ≤ length slice
