-- What the rules of a code item say of its tries, a law for each fact that `readers_answer` needs.
-- Assumes nothing.
use Prim.Native.Nat.{ℕ}
use mathlib.Core.Path.{◌≡◌, ◌∙◌}
use mathlib.Core.List.{List}
use lib.ListN.{length}
use Rattle.refusal.specs.Exact.{At}
use Rattle.frame.specs.declared.Frame.{Frame}
use Rattle.handlers.specs.Handlers.{Handler}
use Rattle.code_bodies.specs.declared.Try.{Try}
use Rattle.code_bodies.specs.Code.{Code}
use Rattle.code_bodies.specs.Rules.{LinkRule, CodeRule}

module _ (s : List ℕ) (f : Frame) (item : ℕ) (x : Code) (rule : CodeRule s f item x) where
  -- tries and links are as many as the head says
  pub tries_counted : length x.tries ≡ x.head.tries
  tries_counted = rule.tries.count

  pub links_counted : length x.links ≡ x.head.tries
  links_counted = rule.links.count ∙ tries_counted

  -- the link of a try is the number of the handler at its handler offset
  pub link_leads : {t n : ℕ} {a : Try} → At x.tries t a → At x.links t n → (h : Handler) × At x.handlers.handlers n h × (h.offset ≡ a.handler)
  link_leads m l = let link = rule.links.each m l in (link.handler, link.stands, link.starts)
