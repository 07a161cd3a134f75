use Rattle.std.proofs.Common.{◌≡◌, ℕ, ◌<◌, None, true, slice_index_or}
use Rattle.pt_semantics.specs.Linked.{IsFinished}
use Rattle.pt_turn.specs.Platforms.{state_at}
use Rattle.pt_pool.specs.LinkedPlatform.{LinkedPlatformView}
use Rattle.pt_workers.proofs.work.ended.look_over.Given as goal

abbrev pub invariant-loop-k : goal.invariant-loop-k
invariant-loop-k g l = record {
  sound : (i : ℕ) (d : LinkedPlatformView) → i < l.k → (slice_index_or l.linked_platforms.items i d).platform.fault ≡ None;
  over : l.over ≡ true → (i : ℕ) (d : LinkedPlatformView) → i < l.k → IsFinished (slice_index_or l.linked_platforms.items i d).platform.plan.graph (slice_index_or l.linked_platforms.items i d).platform.number (state_at (slice_index_or l.linked_platforms.items i d).platform);
}
