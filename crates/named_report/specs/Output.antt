-- What the program writes for an input. Document 01 has the report; a file that is named has a line before it, so that the reports of several can be told apart.
use Rattle.std.specs.Prelude.{ℕ, Bool, true, false, cond, List, [], ◌∷◌, ◌++◌, eqb}
use Rattle.refusal.specs.Outcome.{Outcome, answer, refused}
use Rattle.header.specs.declared.Header.{Header}
use Rattle.report.specs.Lines.{ascii, told, report_of}

-- no byte of a name is a line feed
unfoldable pub one_line : List ℕ → Bool
one_line [] = true
one_line (b ∷ bs) = cond (eqb b 10) false (one_line bs)

-- file=NAME and a line feed; nothing for standard input, which has no name
unfoldable pub heading : List ℕ → List ℕ
heading [] = []
heading (b ∷ bs) = told (record { name = ascii "file"; value = b ∷ bs })

-- "Standard input is checked": its report alone; of a file the line of its name, and the report
unfoldable pub output_of : List ℕ → Outcome Header → List ℕ
output_of name o = heading name ++ report_of o

-- what an input comes to that was read: 0 where it is accepted, 1 where it is refused
abbrev pub status : Outcome Header → ℕ
status (answer header) = 0
status (refused r) = 1
