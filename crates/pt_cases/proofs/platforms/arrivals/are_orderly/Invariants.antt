use Rattle.std.proofs.Common.{◌≡◌, ◌<◌, ℕ, Some}
use Rattle.std.specs.Prelude.{slice_get}
use Rattle.pt_types.specs.declared.graph.Link.{Link}
use Rattle.pt_semantics.specs.Closing.{on_link}
use Rattle.pt_types.specs.Lookups.{platform_of}
use Rattle.pt_semantics.specs.Orderly.{IsOrderly}
use Rattle.pt_turn.specs.Platforms.{level_at}
use Rattle.pt_cases.proofs.platforms.arrivals.are_orderly.Given as goal

abbrev pub invariant-loop-l : goal.invariant-loop-l
invariant-loop-l v = (k : ℕ) (link : Link) → k < v.l → slice_get v.platform.plan.graph.links k ≡ Some link → platform_of v.platform.plan.graph link.to ≡ v.platform.number → IsOrderly v.platform.plan.graph (level_at v.platform) link (on_link k v.messages)
