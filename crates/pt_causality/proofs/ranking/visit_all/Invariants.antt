use Rattle.std.proofs.Common.{◌≡◌, ◌<◌, ℕ}
use Rattle.pt_causality.specs.declared.places.SearchMark.TheVariants.{Done}
use Rattle.pt_causality.specs.Places.{place_at}
use Rattle.pt_causality.specs.Ranking.{Rests}
use Rattle.pt_causality.proofs.ranking.visit_all.Given as goal

abbrev pub invariant-loop-actor : goal.invariant-loop-actor
invariant-loop-actor l = record {
  rests : Rests l.incoming l.places.items;
  done : (a : ℕ) → a < l.actor → (place_at l.places.items a).mark ≡ Done;
}
