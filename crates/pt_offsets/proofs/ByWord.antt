-- The least offsets by word are those of the graph's units.
use Rattle.std.proofs.Common.{ℕ, ℤ, ◌<◌, ◌≤◌, ◌≤ℤ◌, List, Option, Some, None, length, get_or, subst, arith, ⊎_elim}
use Rattle.std.proofs.lemmas.Bool.{cases_lt}
use Rattle.std.proofs.lemmas.List.{get_or_past}
use Rattle.pt_types.specs.declared.graph.Graph.{Graph}
use Rattle.pt_types.specs.declared.graph.Unit.{Unit}
use Rattle.pt_semantics.specs.Offsets.{HasOffset}
use Rattle.pt_causality.specs.Units.{IsUnit}
use Rattle.pt_offsets.specs.declared.table.Timing.{Timing}
use Rattle.pt_offsets.specs.Timings.{AreTimings, no_timing, timing_at}
use Rattle.pt_offsets.specs.Words.{AreAtMostWords, IsAtMostOffset, IsAtMostWord, IsLeastInWord}

module _ (g : Graph) (timings : List Timing) (timed : AreTimings g timings) where
  -- a unit of the graph has an entry
  there : (u : Unit) → IsUnit g u → u.actor < length timings
  there u unit =
      ⊎_elim
      (λ (less : u.actor < length timings). less)
      (λ (past : length timings ≤ u.actor).
      let none : u.group < 0 = subst (λ (t : Timing). u.group < length t.offsets) (get_or_past timings u.actor no_timing past) ((timed u.actor).units u.group unit) in
      absurd (omega (arith, none)))
      (cases_lt u.actor (length timings))

  offset_there : (u : Unit) (o : ℤ) (offset : Option ℤ) → IsAtMostOffset o offset → HasOffset g u offset → (x : ℤ) × HasOffset g u (Some x) × (o ≤ℤ x)
  offset_there u o None h has = absurd h
  offset_there u o (Some x) h has = (x, has, h)

  in_word : (word : ℕ) (found : Option ℤ) → IsAtMostWord (length timings) timings word found → IsLeastInWord g word found
  in_word word None all = tt
  in_word word (Some o) all = λ u unit at.
      offset_there u o (get_or (timing_at timings u.actor).offsets u.group None) (all u.actor (there u unit) at u.group ((timed u.actor).units u.group unit)) ((timed u.actor).offsets u.group)

-- the numbers by word are the least offsets of the graph's units
pub least_in_words : (g : Graph) (timings : List Timing) (words : List (Option ℤ)) → AreTimings g timings → AreAtMostWords (length timings) timings words → (word : ℕ) → IsLeastInWord g word (get_or words word None)
least_in_words g timings words timed all word = in_word g timings timed word (get_or words word None) (all word)
