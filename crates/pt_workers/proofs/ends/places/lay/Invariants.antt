use Rattle.std.proofs.Common.{◌≡◌, ◌++◌, ℕ, List, length, vec_len}
use Rattle.std.specs.Prelude.{slice_get, Some}
use Rattle.pt_workers.specs.LinkEnds.Places.{AreLaid}
use Rattle.pt_workers.proofs.ends.places.lay.Given as goal

abbrev pub invariant-loop-number : goal.invariant-loop-number
invariant-loop-number g l = record {
  count : vec_len l.places ≡ vec_len l.initial.places;
  front : (rest : List (ℕ × _)) × (l.fn.things.items ≡ l.things.items ++ rest);
  laid : AreLaid (length l.things.items) l.fn.things.items l.places.items;
  others : (n : ℕ) → ((i : ℕ) (e : ℕ × _) → slice_get l.fn.things.items i ≡ Some e → e.0 ≡ n → ⊥) → slice_get l.places.items n ≡ slice_get l.initial.places.items n;
}

abbrev pub decreases-loop-number : goal.decreases-loop-number
decreases-loop-number g l = vec_len l.things
