use Rattle.std.proofs.Common.{ℕ, ◌≤◌, reverse}
use Rattle.pt_causality.specs.Places.{place_at}
use Rattle.pt_causality.specs.Ranking.{IsWalk, marks_left, steps_left}
use Rattle.pt_causality.proofs.ranking.finish.Given as goal

abbrev pub invariant-loop-trail : goal.invariant-loop-trail
invariant-loop-trail l = record {
  walk : IsWalk l.incoming l.places.items l.top (reverse l.trail.items);
  keeps : (a : ℕ) → marks_left (place_at l.places.items a).mark ≤ marks_left (place_at l.fn.places.items a).mark;
  met : marks_left (place_at l.places.items l.root).mark ≤ 1;
}

abbrev pub decreases-loop-trail : goal.decreases-loop-trail
decreases-loop-trail l = steps_left l.places.items
