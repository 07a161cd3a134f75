-- Nothing is missed in a paced run over the made input.
use Rattle.std.proofs.Common.{◌≡◌, ℕ, ◌+◌, ◌<◌, ◌≤◌, ◌&&◌, Bool, true, false, List, [], ◌∷◌, Option, Some, None, ℤ, pos, negsuc, ◌+ℤ◌, ◌≤ℤ◌, nat_lt, if◌then◌else◌, arith, refl, subst}
use Rattle.std.proofs.lemmas.Int.{ints}
use Rattle.pt_tags.specs.declared.tag.Tag.{Tag}
use Rattle.pt_types.specs.declared.graph.Graph.{Graph}
use Rattle.pt_types.specs.declared.graph.Unit.{Unit}
use Rattle.pt_semantics.specs.Lists.{Each, IsIn}
use Rattle.pt_semantics.specs.Kept.{kept, kept_from, kept_with, settled}
use Rattle.pt_semantics.specs.Missed.{IsMissed}
use Rattle.pt_semantics.specs.Offsets.{HasOffset}
use Rattle.pt_semantics.specs.Paced.{at_least_zero, paced_by}
use Rattle.pt_semantics.specs.Ranks.{AreLevels}
use Rattle.pt_semantics.specs.Rounds.{IsTimely, IsWholeRun}
use Rattle.pt_semantics.specs.Turn.{Turn, is_quiet, joined}
use Rattle.pt_semantics.specs.Units.{unit_of}
use Rattle.pt_semantics.specs.Visits.{RunState}
use Rattle.pt_semantics.proofs.Lookups.{Each-in, Each-append}
use Rattle.pt_paced_laws.proofs.PacedRuns.{missed_when_paced, timely_when_paced}
use Rattle.pt_semantics.proofs.LawfulEdges.{wired}
use Rattle.pt_sensors.specs.Places.{of_run}
use Rattle.pt_make.specs.Input.{made_graph, made_rows}
use Rattle.pt_make.proofs.Fitting.{rows_fit}
use Rattle.pt_make.proofs.Shape.{feasible, lawful, offset_is, patient}

-- a fact of each turn that a joined turn has from its second is one of each kept turn
module _ (P : Turn → Type 0) (join : (x y : Turn) → P y → P (joined x y)) where
  each_settled : (turns : List Turn) → Each P turns → Each P (settled turns)
  each_settled [] h = tt
  each_settled (x ∷ []) h = h
  each_settled (x ∷ y ∷ []) h = by_test (is_quiet x && is_quiet y && nat_lt (x.count + y.count) 18446744073709551616)
    where
      by_test : (b : Bool) → Each P (if b then joined x y ∷ [] else x ∷ y ∷ [])
      by_test true = (join x y h.1.0, tt)
      by_test false = h
  each_settled (x ∷ y ∷ z ∷ rest) h = (h.0, each_settled (y ∷ z ∷ rest) h.1)

  each_kept_from : (history turns : List Turn) → Each P history → Each P turns → Each P (kept_from history turns)
  each_kept_from history [] old new = old
  each_kept_from history (turn ∷ turns) old new = each_kept_from (kept_with history turn) turns (Each-append P (settled history) (turn ∷ []) (each_settled history old) (new.0, tt)) new.1

  pub each_kept : (turns : List Turn) → Each P turns → Each P (kept turns)
  each_kept turns h = each_kept_from [] turns tt h

joined_timely : (g : Graph) (offset : Unit → Option ℤ) (x y : Turn) → IsTimely g offset y → IsTimely g offset (joined x y)
joined_timely g offset x y h = record { claims = h.claims; posts = h.posts; sends = h.sends }

-- a paced reading is at most 46 microseconds past the tag's time
paced_soon : (o : Option ℤ) (t : Tag) → ((z : ℤ) → o ≡ Some z → z ≤ℤ pos 45) → paced_by o t ≤ t.time + 46
paced_soon None t h = omega arith
paced_soon (Some o) t h = at_most (pos t.time +ℤ o +ℤ pos 1) (t.time + 46) (sum t.time o (h o refl))
  where
    sum : (n : ℕ) (z : ℤ) → z ≤ℤ pos 45 → (pos n +ℤ z +ℤ pos 1) ≤ℤ pos (n + 46)
    sum n z le = omega (arith, ints)

    at_most : (z : ℤ) (n : ℕ) → z ≤ℤ pos n → at_least_zero z ≤ n
    at_most (pos m) n le = omega (arith, ints)
    at_most (negsuc m) n le = omega arith

-- so nothing is missed: an actuator waits 50 microseconds at least
none_missed : (n : ℕ) (offset : Unit → Option ℤ) → ((u : Unit) → HasOffset (made_graph n) u (offset u)) → (turn : Turn) → IsTimely (made_graph n) offset turn → (a limit : ℕ) (t : Tag) → IsMissed (made_graph n) turn a t limit → ⊥
none_missed n offset has turn timely a limit t missed =
    let m = missed_when_paced (made_graph n) offset turn a t limit timely missed in
    let slack = m.4 in
    let waits : 50 ≤ slack.0 = patient n a slack.0 slack.1 in
    let soon : paced_by (offset (unit_of (made_graph n) m.0.task)) t ≤ t.time + 46 = paced_soon (offset (unit_of (made_graph n) m.0.task)) t (λ z is. offset_is n (unit_of (made_graph n) m.0.task) z (subst (HasOffset (made_graph n) (unit_of (made_graph n) m.0.task)) is (has (unit_of (made_graph n) m.0.task)))) in
    past limit t.time slack.0 (paced_by (offset (unit_of (made_graph n) m.0.task)) t) slack.2 m.5 waits soon
  where
    past : (limit time slack reading : ℕ) → limit ≡ time + slack → limit < reading → 50 ≤ slack → reading ≤ time + 46 → ⊥
    past limit time slack reading is late waits soon = omega arith

-- in all kept turns of a whole paced run
pub never_missed : (n : ℕ) → n ≤ 100 → (level : ℕ → ℕ) (offset : Unit → Option ℤ) → AreLevels (made_graph n) level → ((u : Unit) → HasOffset (made_graph n) u (offset u)) → (y : RunState) → IsWholeRun (made_graph n) level (of_run (made_graph n) (made_rows n)) y → (i : ℕ) → i < 4 → (turn : Turn) → IsIn turn (kept (y.did i)) → (a limit : ℕ) (t : Tag) → IsMissed (made_graph n) turn a t limit → ⊥
never_missed n few level offset are has y run i lt turn mem =
    none_missed n offset has turn
    (Each-in (IsTimely (made_graph n) offset) (kept (y.did i)) (each_kept (IsTimely (made_graph n) offset) (joined_timely (made_graph n) offset) (y.did i) timely) turn mem)
  where
    timely : Each (IsTimely (made_graph n) offset) (y.did i)
    timely = timely_when_paced (made_graph n) level (of_run (made_graph n) (made_rows n)) offset run.rounds run.reading 4 run.made y
        (wired (made_graph n) (lawful n few)) are (rows_fit n) (feasible n) has
        (record { before = run.before; run = run.run; some = omega arith; round = run.round }) i lt
