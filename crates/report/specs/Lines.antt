-- "The program's report": lines of a name, a sign and a value, each ended by a line feed.
use Rattle.std.specs.Prelude.{ℕ, List, [], ◌∷◌, ◌++◌}
use Prim.Native.Char.{code}
use Prim.Native.String.{String, [] as []ᵗ, ◌∷◌ as ◌∷ᵗ◌}
use Rattle.refusal.specs.declared.Refusal.{Refusal}
use Rattle.refusal.specs.Outcome.{Outcome, answer, refused}
use Rattle.word.specs.declared.Endian.{Endian}
use Rattle.word.specs.declared.Endian.TheVariants.{Little, Big}
use Rattle.header.specs.declared.Header.{Header}
use Rattle.report.specs.Decimal.{decimal}

-- the bytes of a text of ASCII
abbrev pub ascii : String → List ℕ
ascii []ᵗ = []
ascii (c ∷ᵗ rest) = code c ∷ ascii rest

pub record Line : Type 0 where
  pub name : List ℕ
  pub value : List ℕ

-- name=value and a line feed
unfoldable pub told : Line → List ℕ
told l = (l.name ++ (61 ∷ [])) ++ (l.value ++ (10 ∷ []))

unfoldable pub lines : List Line → List ℕ
lines [] = []
lines (l ∷ ls) = told l ++ lines ls

-- a line whose value is a number
abbrev pub counted : List ℕ → ℕ → Line
counted name n = record { name = name; value = decimal n }

-- the line of the byte order: endian=little, endian=big
abbrev pub order_line : Endian → Line
order_line Little = record { name = ascii "endian"; value = ascii "little" }
order_line Big = record { name = ascii "endian"; value = ascii "big" }

-- "accepted=1 .. classes=0"
unfoldable pub accepted_lines : Header → List Line
accepted_lines header =
    counted (ascii "accepted") 1
    ∷ counted (ascii "version") header.version
    ∷ order_line header.order
    ∷ counted (ascii "strings") header.strings.count
    ∷ counted (ascii "types") header.types.count
    ∷ counted (ascii "protos") header.protos.count
    ∷ counted (ascii "fields") header.fields.count
    ∷ counted (ascii "methods") header.methods.count
    ∷ counted (ascii "classes") header.classes.count
    ∷ []

-- "A refusal gives accepted=0, refusal=N, place=N."
unfoldable pub refused_lines : Refusal → List Line
refused_lines r =
    counted (ascii "accepted") 0
    ∷ counted (ascii "refusal") r.number
    ∷ counted (ascii "place") r.place
    ∷ []

-- a verdict: the header of a file that is accepted, or the refusal
abbrev pub verdict_lines : Outcome Header → List Line
verdict_lines (answer header) = accepted_lines header
verdict_lines (refused r) = refused_lines r

-- the report of a verdict, byte for byte
unfoldable pub report_of : Outcome Header → List ℕ
report_of o = lines (verdict_lines o)
