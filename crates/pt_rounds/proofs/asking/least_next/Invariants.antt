use Rattle.std.proofs.Common.{MatchOption}
use Rattle.pt_rounds.specs.Asked.{IsLeastOf, NoneIsOpen}
use Rattle.pt_rounds.proofs.asking.least_next.Given as goal

abbrev pub invariant-loop-i : goal.invariant-loop-i
invariant-loop-i l = MatchOption l.least (NoneIsOpen l.i l.platforms) (IsLeastOf l.i l.platforms)
