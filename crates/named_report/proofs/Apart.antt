-- What goes out for a file whose name is one line says that name and that report, and no other: no name can be taken for a report's line, or for another name.
-- Assumes nothing.
use Prim.Native.Nat.{ℕ, ◌<◌}
use mathlib.Core.Path.{◌≡◌, refl, ap, sym, ◌∙◌}
use mathlib.Core.Bool.{Bool, true, false, cond}
use mathlib.Core.List.{List, [], ◌∷◌, ◌++◌, append_assoc}
use lib.ListN.{length, drop}
use lib.Dec.{eqb}
use native.Mathlib.Omega.{arith}
use Rattle.refusal.specs.Outcome.{Outcome}
use Rattle.header.specs.declared.Header.{Header}
use Rattle.report.specs.Lines.{told, ascii, report_of}
use Rattle.named_report.specs.Output.{one_line, heading, output_of}

-- the first line, and what comes after it
first_line : List ℕ → List ℕ
first_line [] = []
first_line (b ∷ bs) = cond (eqb b 10) [] (b ∷ first_line bs)

other_lines : List ℕ → List ℕ
other_lines [] = []
other_lines (b ∷ bs) = cond (eqb b 10) bs (other_lines bs)

Read : List ℕ → List ℕ → Type 0
Read xs ys = (first_line (xs ++ (10 ∷ ys)) ≡ xs) × (other_lines (xs ++ (10 ∷ ys)) ≡ ys)

read_back : (xs ys : List ℕ) → one_line xs ≡ true → Read xs ys
unfolding one_line Read first_line other_lines
read_back [] ys h = (refl, refl)
read_back (x ∷ xs) ys h = by_feed (eqb x 10) h (read_back xs ys)
  where
    by_feed : (b : Bool) → cond b false (one_line xs) ≡ true → (one_line xs ≡ true → Read xs ys) → (cond b [] (x ∷ first_line (xs ++ (10 ∷ ys))) ≡ x ∷ xs) × (cond b (xs ++ (10 ∷ ys)) (other_lines (xs ++ (10 ∷ ys))) ≡ ys)
    by_feed true e below = let z : ◌≡◌ {A = ℕ} 0 1 = cc e in absurd (omega arith)
    by_feed false e below = let z = below e in (ap (λ (l : List ℕ). x ∷ l) z.0, z.1)

module _ (name : List ℕ) (o : Outcome Header) (some : 0 < length name) (one : one_line name ≡ true) where
  -- file=NAME, the line feed, the report
  in_lines : (ascii "file=" ++ name) ++ (10 ∷ report_of o) ≡ output_of name o
  unfolding output_of heading told
  in_lines = by_name name some
    where
      by_name : (n : List ℕ) → 0 < length n → (ascii "file=" ++ n) ++ (10 ∷ report_of o) ≡ output_of n o
      by_name [] h = absurd (omega arith)
      by_name (b ∷ bs) h = simp append_assoc

  name_back : first_line (output_of name o) ≡ ascii "file=" ++ name
  unfolding one_line Read
  name_back = ap first_line (sym in_lines) ∙ (read_back (ascii "file=" ++ name) (report_of o) one).0

  report_back : other_lines (output_of name o) ≡ report_of o
  unfolding one_line Read
  report_back = ap other_lines (sym in_lines) ∙ (read_back (ascii "file=" ++ name) (report_of o) one).1

pub outputs_apart : (n m : List ℕ) (o p : Outcome Header) → 0 < length n → 0 < length m → one_line n ≡ true → one_line m ≡ true → output_of n o ≡ output_of m p → (n ≡ m) × (report_of o ≡ report_of p)
outputs_apart n m o p hn hm en em e = (
  ap (λ (l : List ℕ). drop 5 l) (sym (name_back n o hn en) ∙ ap first_line e ∙ name_back m p hm em),
  sym (report_back n o hn en) ∙ ap other_lines e ∙ report_back m p hm em,
)
