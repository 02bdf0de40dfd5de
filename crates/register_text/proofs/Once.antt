-- What an answer of the code says, no other answer says.
-- Assumes nothing.
use mathlib.Core.Path.{◌≡◌, refl, ap, sym, ◌∙◌}
use Rattle.std.specs.Prelude.{Option, Some, None}
use Rattle.register_text.specs.Wholes.{Worth, whole, not_whole}
use Rattle.register_text.specs.Answers.{whole_worth}
use Rattle.register_text.specs.declared.WholeNumber.{WholeNumber}

whole_back : Worth → Option WholeNumber
whole_back (whole negative n) = Some (record { negative = negative; magnitude = n })
whole_back not_whole = None

whole_told : (x : Option WholeNumber) → whole_back (whole_worth x) ≡ x
unfolding whole_back
whole_told (Some w) = refl
whole_told None = refl

pub whole_once : (x y : Option WholeNumber) → whole_worth x ≡ whole_worth y → x ≡ y
whole_once x y e = sym (whole_told x) ∙ ap whole_back e ∙ whole_told y
