use Rattle.std.proofs.Common.{◌≡◌, ℕ, ◌<◌, None, Some, ℤ, slice_index_or, length, false}
use Rattle.pt_semantics.specs.Lists.{or_else}
use Rattle.pt_meaning.specs.Waiting.{place_of, EventsArePlaced}
use Rattle.pt_meaning.specs.Front.{is_place_of}
use Rattle.pt_meaning.specs.declared.place.EventPlace.{EventPlace}
use Rattle.pt_meaning.proofs.front.take_all.Given as goal

abbrev pub invariant-loop-port : goal.invariant-loop-port
invariant-loop-port g l = record {
  len : length l.inputs ≡ 8;
  kept : (q : EventPlace) (v : ℤ) → g.F.TakeFirst.held l.front q ≡ Some v → g.F.TakeFirst.held l.fn.front q ≡ Some v;
  others : (q : EventPlace) → is_place_of l.tag l.actor q ≡ false → g.F.TakeFirst.held l.front q ≡ g.F.TakeFirst.held l.fn.front q;
  values : (rank : ℕ → ℕ) (actors steps : ℕ) → EventsArePlaced rank actors steps (g.F.TakeFirst.held l.fn.front) → (p : ℕ) → p < 8
      → or_else (g.F.TakeFirst.held l.front (place_of rank l.actor p l.tag)) (slice_index_or l.inputs p None) ≡ or_else (g.F.TakeFirst.held l.fn.front (place_of rank l.actor p l.tag)) (slice_index_or l.fn.inputs p None);
}

abbrev pub decreases-loop-port : goal.decreases-loop-port
decreases-loop-port g l = g.F.TakeFirst.count l.front
