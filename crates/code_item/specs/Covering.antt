-- The try that covers an address.
use Rattle.std.specs.Prelude.{ℕ, zero, suc, ◌+◌, Bool, ◌&&◌, List, [], ◌∷◌, ltb, leb}
use Rattle.std.proofs.Math.Option.{Option}
use Rattle.refusal.specs.Seek.{position}
use Rattle.word.specs.declared.Endian.{Endian}
use Rattle.code_bodies.specs.declared.Try.{Try}
use Rattle.code_bodies.specs.Tries.{try_at}

-- does a try cover an address
unfoldable pub covers : ℕ → Try → Bool
covers address t = leb t.start address && ltb address (t.start + t.count)

-- the tries that lie from p on, and the number of the first that covers an address
unfoldable pub tries_from : Endian → List ℕ → ℕ → ℕ → List Try
tries_from o s p zero = []
tries_from o s p (suc n) = try_at o s p ∷ tries_from o s (p + 8) n

unfoldable pub cover_at : Endian → List ℕ → ℕ → ℕ → ℕ → Option ℕ
cover_at o s from count address = position (covers address) (tries_from o s from count)
