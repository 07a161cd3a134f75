use Rattle.std.proofs.Common.{◌≡◌, false}
use Rattle.pt_replay.proofs.Visits.Moving.{PutsTo}
use Rattle.pt_replay.proofs.visit.sending.send_all.Given as goal

abbrev pub invariant-loop-l : goal.invariant-loop-l
invariant-loop-l l = record {
  puts : PutsTo l.air l.graph l.now l.l l.initial.airways l.airways l.initial.pipes l.pipes;
  none : l.sent ≡ false → l.airways ≡ l.initial.airways;
}
