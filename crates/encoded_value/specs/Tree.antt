-- A value with all that is in it. A nested body is kept with its place and its end.
use Rattle.std.specs.Prelude.{ℕ, ◌+◌, Bool, cond, List, [], ◌∷◌, eqb, ℤ}
use Rattle.value_heads.specs.Numbers.{signed, raised}

mutual
  pub data Tree : Type 0 where
    byte : ℤ → Tree
    short : ℤ → Tree
    char : ℕ → Tree
    int : ℤ → Tree
    long : ℤ → Tree
    float : ℕ → Tree
    double : ℕ → Tree
    index : ℕ → ℕ → Tree
    null : Tree
    boolean : Bool → Tree
    array : ℕ → ℕ → Trees → Tree
    annotation : ℕ → ℕ → ℕ → Elements → Tree

  -- "An array holds values, an annotation holds named values"
  pub data Trees : Type 0 where
    no_tree : Trees
    tree : Tree → Trees → Trees

  pub data Elements : Type 0 where
    no_element : Elements
    element : ℕ → Tree → Elements → Elements

pub record Named : Type 0 where
  pub name : ℕ
  pub value : Tree

pub record Annotation : Type 0 where
  pub type_index : ℕ
  pub elements : List Named

-- a list of them inside a tree
unfoldable pub trees : List Tree → Trees
trees [] = no_tree
trees (v ∷ vs) = tree v (trees vs)

unfoldable pub elements_of : List Named → Elements
elements_of [] = no_element
elements_of (e ∷ es) = element e.name e.value (elements_of es)

-- the value of an allowed code other than 1c and 1d, its argument and the number of its bytes. The codes left at the end are the indices
unfoldable pub rest_of : ℕ → ℕ → ℕ → Tree
rest_of code argument x =
    cond (eqb code 0x10) (float (raised 4 (argument + 1) x))
    (cond (eqb code 0x11) (double (raised 8 (argument + 1) x))
    (cond (eqb code 0x1e) null
    (cond (eqb code 0x1f) (boolean (eqb argument 1))
    (index code x))))

unfoldable pub plain_of : ℕ → ℕ → ℕ → Tree
plain_of code argument x =
    cond (eqb code 0x00) (byte (signed (argument + 1) x))
    (cond (eqb code 0x02) (short (signed (argument + 1) x))
    (cond (eqb code 0x03) (char x)
    (cond (eqb code 0x04) (int (signed (argument + 1) x))
    (cond (eqb code 0x06) (long (signed (argument + 1) x))
    (rest_of code argument x)))))
