-- How deep bodies lie one inside the other: "A top body is depth 1; depth 65 is 13".
use Rattle.std.specs.Prelude.{ℕ, suc, max, ◌-◌, List}
use Rattle.encoded_value.specs.Tree.{Tree, byte, short, char, int, long, float, double, index, null, boolean, array, annotation, Trees, no_tree, tree, Elements, no_element, element, Annotation, trees, elements_of}

-- "13: bodies nested deeper than 64". The code's `DEEPEST` is this number by the contracts of `top_array` and `top_annotation`
abbrev pub deepest : ℕ
deepest = 64

-- how deep a value of a top body may be
abbrev pub deepest_value : ℕ
deepest_value = deepest - 1

-- a value that is no body has depth 0; an array or an annotation is one deeper than the deepest value in it
unfoldable mutual
  pub depth : Tree → ℕ
  depth (byte z) = 0
  depth (short z) = 0
  depth (char n) = 0
  depth (int z) = 0
  depth (long z) = 0
  depth (float n) = 0
  depth (double n) = 0
  depth (index k n) = 0
  depth null = 0
  depth (boolean b) = 0
  depth (array p q vs) = suc (trees_depth vs)
  depth (annotation p q t es) = suc (elements_depth es)

  -- the deepest value of an array, and of an annotation
  pub trees_depth : Trees → ℕ
  trees_depth no_tree = 0
  trees_depth (tree v vs) = max (depth v) (trees_depth vs)

  pub elements_depth : Elements → ℕ
  elements_depth no_element = 0
  elements_depth (element n v es) = max (depth v) (elements_depth es)

-- the same of a top body, whose values are a list
abbrev pub array_depth : List Tree → ℕ
array_depth vs = suc (trees_depth (trees vs))

abbrev pub annotation_depth : Annotation → ℕ
annotation_depth a = suc (elements_depth (elements_of a.elements))
