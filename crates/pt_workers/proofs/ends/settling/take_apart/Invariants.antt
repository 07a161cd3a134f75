use Rattle.std.proofs.Common.{◌≡◌, ◌+◌, ◌++◌, List, length, map, vec_len, vec_capacity}
use mathlib.Core.List.{reverse}
use Rattle.pt_pool.specs.Ends.{leaves, receiving_platform}
use Rattle.pt_pool.specs.LinkedPlatform.{LinkedPlatformView, plan_graph}
use Rattle.pt_workers.specs.LinkEnds.Settled.{AreReturned, AreLinkedPlatforms, IsSentBy, IsTakenBy, platform_in, readings_in}
use Rattle.pt_workers.proofs.ends.settling.take_apart.Given as goal

abbrev pub invariant-loop-linked : goal.invariant-loop-linked
invariant-loop-linked g l = record {
  count : (vec_len l.outlets ≡ l.links) × (vec_len l.inlets ≡ l.links);
  room : (vec_len l.platforms + vec_len l.linked_platforms ≡ vec_len l.fn.linked_platforms) × (vec_len l.clocks + vec_len l.linked_platforms ≡ vec_len l.fn.linked_platforms);
  exact : (vec_capacity l.platforms ≡ vec_len l.fn.linked_platforms) × (vec_capacity l.clocks ≡ vec_len l.fn.linked_platforms);
  front : (rest : List LinkedPlatformView) × (l.fn.linked_platforms.items ≡ l.linked_platforms.items ++ rest) × (reverse l.platforms.items ≡ map platform_in rest) × (map g.C.Clock.readings (reverse l.clocks.items) ≡ map readings_in rest);
  sent : AreReturned (plan_graph g.J.Run.plan) leaves (IsSentBy g.J.Run.link) (length l.linked_platforms.items) l.fn.linked_platforms.items l.outlets.items;
  taken : AreReturned (plan_graph g.J.Run.plan) receiving_platform (IsTakenBy g.J.Run.link) (length l.linked_platforms.items) l.fn.linked_platforms.items l.inlets.items;
  of_run : AreLinkedPlatforms g.J.Run.plan g.J.Run.rows g.J.Run.link g.J.Run.began g.J.Run.fixed (length l.linked_platforms.items) l.fn.linked_platforms.items;
}

abbrev pub decreases-loop-linked : goal.decreases-loop-linked
decreases-loop-linked g l = vec_len l.linked_platforms
