use Rattle.std.proofs.Common.{◌≡◌, ℕ, ◌==◌, length, false, ◌&&◌}
use Rattle.pt_tags.specs.declared.tag.Tag.{Tag}
use Rattle.pt_tags.specs.Tags.{same_tag}
use Rattle.pt_types.specs.Ports.{when}
use Rattle.pt_semantics.specs.Lists.{or_else}
use Rattle.pt_meaning.specs.Early.{early_waits, left, IsFiringOrder}
use Rattle.pt_meaning.proofs.early.EarlyList.take.Given as goal

abbrev pub invariant-loop-value : goal.invariant-loop-value
invariant-loop-value l = record {
  orderly : (rank : ℕ → ℕ) (actors : ℕ) → IsFiringOrder rank actors (left l.fn.self) → IsFiringOrder rank actors (left l.self);
  others : (b p : ℕ) (u : Tag) → (b == l.actor && same_tag l.tag u) ≡ false → early_waits (left l.self) b p u ≡ early_waits (left l.fn.self) b p u;
  here : (p : ℕ) → or_else (when (p == 0) l.first) (early_waits (left l.self) l.actor p l.tag) ≡ early_waits (left l.fn.self) l.actor p l.tag;
}

abbrev pub decreases-loop-value : goal.decreases-loop-value
decreases-loop-value l = length (left l.self)
