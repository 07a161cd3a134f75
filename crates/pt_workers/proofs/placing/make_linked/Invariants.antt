use Rattle.std.proofs.Common.{◌≡◌, ◌+◌, ◌++◌, List, vec_len, vec_capacity}
use mathlib.Core.List.{reverse}
use Rattle.pt_turn.specs.Platforms.{PlatformView}
use Rattle.pt_workers.specs.Working.Orders.{count_up, numbers}
use Rattle.pt_workers.proofs.LinkedPlatforms.{AreLeft}
use Rattle.pt_workers.proofs.placing.make_linked.Given as goal

abbrev pub invariant-loop-platform : goal.invariant-loop-platform
invariant-loop-platform g l = record {
  clocks : vec_len l.clocks ≡ vec_len l.platforms;
  front : (rest : List PlatformView) × (l.fn.platforms.items ≡ l.platforms.items ++ rest);
  clock_front : (rest : List g.row.C.Denot) × (l.fn.clocks.items ≡ l.clocks.items ++ rest);
  sending : AreLeft l.sides.senders.items (vec_len l.platforms) l.fn.ends.outlets.items l.outlets.items;
  taking : AreLeft l.sides.receivers.items (vec_len l.platforms) l.fn.ends.inlets.items l.inlets.items;
  count : (vec_len l.outlets ≡ vec_len l.fn.ends.outlets) × (vec_len l.inlets ≡ vec_len l.fn.ends.inlets);
  room : (vec_len l.linked_platforms + vec_len l.platforms ≡ vec_len l.fn.platforms) × (vec_capacity l.linked_platforms ≡ vec_len l.fn.platforms);
  order : count_up (vec_len l.platforms) ++ numbers (reverse l.linked_platforms.items) ≡ count_up (vec_len l.fn.platforms);
}

abbrev pub decreases-loop-platform : goal.decreases-loop-platform
decreases-loop-platform g l = vec_len l.platforms
