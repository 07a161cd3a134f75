-- With the least slacks nothing is missed in a paced run.
use Rattle.std.proofs.Common.{◌≡◌, ℕ, ◌+◌, ◌<◌, ◌≤◌, List, [], Option, Some, None, Ok, ℤ, pos, negsuc, ◌+ℤ◌, ◌≤ℤ◌, length, arith, refl, sym, ap, subst, ◌∙◌}
use Rattle.std.specs.Prelude.{flat_map, slice_get}
use Rattle.std.proofs.lemmas.Int.{ints}
use Rattle.std.proofs.lemmas.Option.{slice_get_within}
use Rattle.pt_tags.specs.declared.tag.Tag.{Tag}
use Rattle.pt_types.specs.declared.firing.Task.{Task}
use Rattle.pt_types.specs.declared.graph.Graph.{Graph}
use Rattle.pt_types.specs.declared.graph.Unit.{Unit}
use Rattle.pt_types.specs.declared.kind.Kind.{Kind}
use Rattle.pt_types.specs.declared.kind.Kind.TheVariants.{Actuator, Send}
use Rattle.pt_types.specs.declared.rows.Row.{Row}
use Rattle.pt_types.specs.Groups.{input_group}
use Rattle.pt_types.specs.Lawful.{IsLawful}
use Rattle.pt_types.specs.Lookups.{kind_of}
use Rattle.pt_graph_text.specs.declared.fault.GraphFault.{GraphFault}
use Rattle.pt_history.specs.declared.miss.Miss.{Miss}
use Rattle.pt_semantics.specs.Kept.{kept}
use Rattle.pt_semantics.specs.Lists.{Each, IsIn}
use Rattle.pt_semantics.specs.Missed.{IsMissed}
use Rattle.pt_semantics.specs.Offsets.{HasOffset, IsFeasible}
use Rattle.pt_semantics.specs.Paced.{at_least_zero, paced_by}
use Rattle.pt_semantics.specs.Ranks.{AreLevels}
use Rattle.pt_semantics.specs.Rounds.{IsTimely, IsWholeRun}
use Rattle.pt_semantics.specs.Rows.{FitRows}
use Rattle.pt_semantics.specs.Turn.{Turn, joined}
use Rattle.pt_semantics.specs.Units.{at_input, first_port, unit_of}
use Rattle.pt_semantics.specs.Visits.{RunState}
use Rattle.pt_semantics.proofs.LawfulEdges.{wired}
use Rattle.pt_semantics.proofs.Lookups.{Each-in}
use Rattle.pt_paced_laws.proofs.PacedRuns.{missed_when_paced, timely_when_paced}
use Rattle.pt_causality.specs.Ranked.{level_of}
use Rattle.pt_offsets.specs.Margins.{unit_at}
use Rattle.pt_offsets.specs.Plans.{Parts}
use Rattle.pt_offsets.specs.Timings.{offset_of}
use Rattle.pt_turn.specs.declared.fault.TurnFault.{TurnFault}
use Rattle.pt_turn.specs.Platforms.{PlatformView}
use Rattle.pt_monitors.specs.Platforms.{missed_by}
use Rattle.pt_monitors.proofs.Members.{in_flat_map}
use Rattle.pt_monitors.proofs.Missing.{lists_missed}
use Rattle.pt_rounds.specs.Outcome.{IsOutcome as IsPacedOutcome}
use Rattle.pt_sensors.specs.Places.{of_run}
use Rattle.pt_slacks.specs.Slacks.{AreLeastSlacks, slack_for, with_slack, with_slacks}
use Rattle.pt_slacks.proofs.Changed.{input_with, kind_with}
use Rattle.pt_make.proofs.Timely.{each_kept}
use Rattle.pt_run.specs.SlackRuns.{SlackRoundsMissNothing, SlackRunsMissNothing}
use Rattle.pt_run.proofs.Complete.{agrees, same_ok}
use Rattle.pt_run.proofs.Made.{none_of, place_of}
use Rattle.pt_run.specs.GraphFiles.{graph_by}
use Rattle.pt_sensor_files.specs.Bytes.{OfBytes}

-- a paced reading is past the tag's time by no more than the slack that the offset asks for
at_most : (z : ℤ) (n : ℕ) → z ≤ℤ pos n → at_least_zero z ≤ n
at_most (pos m) n le = omega (arith, ints)
at_most (negsuc m) n le = omega arith

below : (z : ℤ) → z ≤ℤ pos (at_least_zero z)
below (pos m) = omega (arith, ints)
below (negsuc m) = omega (arith, ints)

paced_within : (o : Option ℤ) (t : Tag) → paced_by o t ≤ t.time + slack_for o
paced_within None t = omega arith
paced_within (Some o) t = at_most (pos t.time +ℤ o +ℤ pos 1) (t.time + at_least_zero (o +ℤ pos 1)) (sum t.time (at_least_zero (o +ℤ pos 1)) o (below (o +ℤ pos 1)))
  where
    sum : (n m : ℕ) (z : ℤ) → (z +ℤ pos 1) ≤ℤ pos m → (pos n +ℤ z +ℤ pos 1) ≤ℤ pos (n + m)
    sum n m z le = omega (arith, ints)

-- an actuator has the slack that it was given
own_slack : (n slack : ℕ) (k : Kind) → with_slack n k ≡ Actuator slack → ((own : ℕ) × (k ≡ Actuator own)) × (slack ≡ n)
own_slack n slack (Actuator own) e = ((own, refl), same n slack e)
  where
    same : (a b : ℕ) → Actuator a ≡ Actuator b → b ≡ a
    same a b e = cc
own_slack n slack (Send own) e = absurd cc
own_slack n slack _ e = absurd cc

joined_timely : (g : Graph) (offset : Unit → Option ℤ) (x y : Turn) → IsTimely g offset y → IsTimely g offset (joined x y)
joined_timely g offset x y h = record { claims = h.claims; posts = h.posts; sends = h.sends }

module _ (g : Graph) (slack : ℕ → ℕ) (least : AreLeastSlacks g slack) where
  -- the unit of an actuator's task
  unit_is : (task : Task) (a own : ℕ) → task.actor ≡ a → kind_of g a ≡ Actuator own → unit_of (with_slacks g slack) task ≡ at_input g a 0
  unit_is task a own is acts =
      input_with g slack task.actor (first_port task.inputs) ∙ ap (λ b. at_input g b (first_port task.inputs)) is
      ∙ ap (unit_at a) (ap (λ k. input_group k (first_port task.inputs)) acts ∙ sym (ap (λ k. input_group k 0) acts))

  in_turn : (offset : Unit → Option ℤ) → ((u : Unit) → HasOffset (with_slacks g slack) u (offset u)) → (turn : Turn) → IsTimely (with_slacks g slack) offset turn → (a limit : ℕ) (t : Tag) → IsMissed (with_slacks g slack) turn a t limit → ⊥
  in_turn offset has turn timely a limit t missed =
      let m = missed_when_paced (with_slacks g slack) offset turn a t limit timely missed in
      let u = unit_of (with_slacks g slack) m.0.task in
      let own = own_slack (slack a) m.4.0 (kind_of g a) (sym (kind_with g slack a) ∙ m.4.1) in
      let here : u ≡ at_input g a 0 = unit_is m.0.task a own.0.0 m.2 own.0.1 in
      let is : slack a ≡ slack_for (offset u) = least.acts a own.0.0 (offset u) own.0.1 (subst (λ v. HasOffset (with_slacks g slack) v (offset u)) here (has u)) in
      past limit t.time m.4.0 (slack a) (slack_for (offset u)) (paced_by (offset u) t) m.4.2 own.1 is m.5 (paced_within (offset u) t)
    where
      past : (limit time own given asked reading : ℕ) → limit ≡ time + own → own ≡ given → given ≡ asked → limit < reading → reading ≤ time + asked → ⊥
      past limit time own given asked reading is same least late soon = omega (arith, is, same, least)

  -- what holds of the graph of a plan
  record Known (plan : Parts) (h : Graph) (rows : ℕ → List Row) (y : RunState) : Type 0 where
    pub lawful : IsLawful h
    pub levels : AreLevels h (level_of plan.ranks)
    pub feasible : IsFeasible h
    pub fit : FitRows h rows
    pub offsets : (u : Unit) → HasOffset h u (offset_of plan.offsets u)
    pub run : IsWholeRun h (level_of plan.ranks) rows y

  module _ (plan : Parts) (rows : ℕ → List Row) (platforms : List PlatformView) (fault : Option (ℕ × TurnFault)) (is : plan.graph ≡ with_slacks g slack) (run : IsPacedOutcome plan (level_of plan.ranks) rows platforms fault) where
    known : Known plan (with_slacks g slack) rows run.after.together
    known = subst (λ h. Known plan h rows run.after.together) is (record {
      lawful = run.admitted.lawful;
      levels = run.admitted.levels;
      feasible = run.admitted.feasible;
      fit = run.fit;
      offsets = run.admitted.offsets.units;
      run = run.after.run;
    })

    number_in : (i : ℕ) (v : PlatformView) → slice_get platforms i ≡ Some v → i < length g.platforms
    number_in i v at = subst (λ k. i < k) (run.all.count ∙ ap (λ (h : Graph). length h.platforms) is) (slice_get_within platforms i v at)

    timely : (i : ℕ) → i < length g.platforms → Each (IsTimely (with_slacks g slack) (offset_of plan.offsets)) (run.after.together.did i)
    timely i less =
        timely_when_paced (with_slacks g slack) (level_of plan.ranks) rows (offset_of plan.offsets) known.run.rounds known.run.reading (length g.platforms) known.run.made run.after.together
        (wired (with_slacks g slack) known.lawful) known.levels known.fit known.feasible known.offsets
        (record { before = known.run.before; run = known.run.run; some = omega arith; round = known.run.round }) i less

    at_platform : (m : Miss) (i : ℕ) (v : PlatformView) → slice_get platforms i ≡ Some v → IsIn m (missed_by v) → ⊥
    at_platform m i v at mem =
        let graph : v.plan.graph ≡ with_slacks g slack = ap (λ (p : Parts). p.graph) (run.all.plans i v at) ∙ is in
        let (turn, there, reading, missed) = (lists_missed v.plan.graph v.turns m).0 mem in
        in_turn (offset_of plan.offsets) known.offsets turn
        (Each-in (IsTimely (with_slacks g slack) (offset_of plan.offsets)) (kept (run.after.together.did i))
        (each_kept (IsTimely (with_slacks g slack) (offset_of plan.offsets)) (joined_timely (with_slacks g slack) (offset_of plan.offsets)) (run.after.together.did i) (timely i (number_in i v at))) turn
        (subst (IsIn turn) (run.after.kept_turns i v at) there))
        m.actor m.limit m.tag (subst (λ h. IsMissed h turn m.actor m.tag m.limit) graph missed)

    none_missed : flat_map missed_by platforms ≡ []
    none_missed = none_of (flat_map missed_by platforms) (λ m mem.
        let v = in_flat_map missed_by platforms m mem in
        let at = place_of v.0 platforms v.1 in
        at_platform m at.0 v.0 at.1 v.2)

pub slack_rounds_miss_nothing : SlackRoundsMissNothing
slack_rounds_miss_nothing g slack plan rows platforms fault least is run = none_missed g slack least plan rows platforms fault is run

pub slack_runs_miss_nothing : SlackRunsMissNothing
slack_runs_miss_nothing g slack workers log contents blocks graph_file bytes text left least reported defines (h, file, run) =
    let same : h ≡ with_slacks g slack = sym (same_ok {E = GraphFault} (with_slacks g slack) h (agrees (graph_by blocks graph_file) (contents graph_file.name) bytes (Ok (with_slacks g slack)) (Ok h) reported (subst (λ z. OfBytes z (λ bytes. graph_by blocks graph_file bytes ≡ Ok (with_slacks g slack))) (sym reported) defines) file)) in
    run.finished.missed ∙ slack_rounds_miss_nothing g slack run.plan (of_run run.plan.graph run.finished.run.rows) left.platforms None least (run.graph ∙ same) (run.finished.run.fact.paced refl)
