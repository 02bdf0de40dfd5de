-- What the function's proof cites.
-- Assumes nothing.
use borrow.Author.Rules.{rules}
use Rattle.refusal.proofs.Laws.{tests, calls}

pub ruleset laws = (tests, calls, rules)
