use Rattle.std.proofs.Common.{◌≡◌, ◌++◌, List, Option, length, vec_len}
use Rattle.pt_links.specs.Ends.{SentBy, TakenBy}
use Rattle.pt_workers.specs.LinkEnds.Settled.{AreSettled}
use Rattle.pt_workers.proofs.ends.settling.settle_all.Given as goal

abbrev pub invariant-loop-outlet : goal.invariant-loop-outlet
invariant-loop-outlet g l = record {
  count : vec_len l.inlets ≡ vec_len l.outlets;
  outs : (rest : List (Option SentBy)) × (l.fn.outlets.items ≡ l.outlets.items ++ rest);
  ins : (rest : List (Option TakenBy)) × (l.fn.inlets.items ≡ l.inlets.items ++ rest);
  settled : AreSettled (length l.outlets.items) l.fn.outlets.items l.fn.inlets.items;
}

abbrev pub decreases-loop-outlet : goal.decreases-loop-outlet
decreases-loop-outlet g l = vec_len l.outlets
