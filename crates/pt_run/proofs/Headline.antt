-- The headline, of what is due.
use Rattle.std.proofs.Common.{◌≡◌, ◌≢◌, ◌<◌, ◌++◌, [], ◌∷◌, ℕ, zero, suc, Bool, true, false, if◌then◌else◌, List, Option, Some, None, Ok, flat_map, map, option_map, slice_get, unwrap_or, refl, sym, ap, ap₂, subst, inl, inr, ◌∙◌}
use Rattle.std.proofs.lemmas.List.{length-map}
use Rattle.std.proofs.lemmas.Option.{slice_get-map}
use Rattle.pt_io.specs.Causes.{Appends, AppendsPart}
use Rattle.pt_tags.specs.declared.tag.Tag.{Tag}
use Rattle.pt_types.specs.declared.graph.Graph.{Graph}
use Rattle.pt_types.specs.declared.rows.Row.{Row}
use Rattle.pt_types.specs.Lookups.{platform_of}
use Rattle.pt_blocks.specs.declared.blocks.Named.{Named}
use Rattle.pt_semantics.specs.History.{IsLegal}
use Rattle.pt_semantics.specs.Linked.{AreLinked, AreMatched, IsFinished, all_sent, all_taken}
use Rattle.pt_semantics.specs.Lists.{Each}
use Rattle.pt_semantics.specs.Tables.{tables_text}
use Rattle.pt_semantics.specs.Turn.{Turn}
use Rattle.pt_causality.specs.Ranked.{level_of, rank_of}
use Rattle.pt_offsets.specs.Plans.{IsAdmitted, Parts}
use Rattle.pt_turn.specs.declared.fault.TurnFault.{TurnFault}
use Rattle.pt_turn.specs.declared.fault.TurnFault.TheVariants as turn
use Rattle.pt_turn.specs.All.{histories_of}
use Rattle.pt_turn.specs.Platforms.{PlatformView}
use Rattle.pt_engine.specs.Asked.{EndsAt}
use Rattle.pt_monitors.specs.Misses.{missed_of}
use Rattle.pt_monitors.specs.Platforms.{missed_by}
use Rattle.pt_tables.specs.Held.{IsHeldTurn}
use Rattle.pt_tables.specs.Log.{log_text}
use Rattle.pt_tables.specs.Platforms.{histories}
use Rattle.pt_io.specs.Calls.{Contents}
use Rattle.pt_sensors.specs.Places.{of_run}
use Rattle.pt_sensor_files.specs.declared.recorded_fault.LateRows.TheVariants.{Refused}
use Rattle.pt_sensor_files.specs.Recorded.{AllPass, AreRows, SensorLate}
use Rattle.pt_words.specs.declared.orders.ClockChoice.{ClockChoice}
use Rattle.pt_words.specs.declared.orders.ClockChoice.TheVariants.{Paced}
use Rattle.pt_run.specs.declared.fault.Fault.{Fault}
use Rattle.pt_run.specs.declared.fault.Fault.TheVariants as fault
use Rattle.pt_words.specs.declared.orders.Command.TheVariants.{Run}
use Rattle.pt_run.specs.Due.{AfterAdmission, Answer, HasRunBy, IsDue, IsDueTo, RefusedWith, UnlessMemory}
use Rattle.pt_run.specs.Leaving.{PutsMeaning}
use Rattle.pt_run.specs.OverFiles.{HasHeadline, HasReadings, at_end, inputs_of}
use Rattle.pt_run.specs.Headline.{AtEnd, ByReadings, EndAs, Headline, LeavesTurns, PutsTables, turns_at}
use Rattle.pt_rounds.specs.Outcome.{IsOutcome as IsPacedOutcome}
use Rattle.pt_run.specs.Runs.{IsKept}
use Rattle.pt_words.specs.Grammar.{GraphFile, Order, over}
use Rattle.pt_run.specs.Written.{run_clocks, has_run, stop_of}
use Rattle.pt_run.proofs.Stages.{by_admission, by_file, with_fault}
use Rattle.pt_run.specs.GraphFiles.{graph_by}
use Rattle.pt_sensor_files.specs.Bytes.{OfBytes}

-- Platforms at the end, from all that contracts see of them.

abbrev turns_in : AtEnd → List Turn
turns_in p = p.turns

abbrev ended : List PlatformView → List AtEnd
ended vs = map at_end vs

-- each of them is one of these platforms
found : (vs : List PlatformView) (i : ℕ) (p : AtEnd) → slice_get (ended vs) i ≡ Some p → (v : PlatformView) × (slice_get vs i ≡ Some v) × (at_end v ≡ p)
found vs i p at = of (slice_get vs i) refl (sym (slice_get-map at_end vs i) ∙ at)
  where
    of : (o : Option PlatformView) → slice_get vs i ≡ o → option_map at_end o ≡ Some p → (v : PlatformView) × (slice_get vs i ≡ Some v) × (at_end v ≡ p)
    of None is e = absurd cc
    of (Some v) is e = (v, is, cc)

there : (vs : List PlatformView) (i : ℕ) (v : PlatformView) → slice_get vs i ≡ Some v → slice_get (ended vs) i ≡ Some (at_end v)
there vs i v at = slice_get-map at_end vs i ∙ ap (option_map at_end) at

-- a fact of each of these platforms is one of each of them
each_at_end : (Fact : ℕ → AtEnd → Type 0) (vs : List PlatformView) → ((i : ℕ) (v : PlatformView) → slice_get vs i ≡ Some v → Fact i (at_end v)) → (i : ℕ) (p : AtEnd) → slice_get (ended vs) i ≡ Some p → Fact i p
each_at_end Fact vs h i p at = let (v, is, same) = found vs i p at in subst (Fact i) same (h i v is)

same_turns : (vs : List PlatformView) (i : ℕ) → turns_at (ended vs) i ≡ histories_of vs i
same_turns vs i = ap (λ o. unwrap_or (option_map turns_in o) []) (slice_get-map at_end vs i) ∙ of (slice_get vs i)
  where
    of : (o : Option PlatformView) → unwrap_or (option_map turns_in (option_map at_end o)) [] ≡ unwrap_or (option_map (λ (v : PlatformView). v.turns) o) []
    of None = refl
    of (Some v) = refl

same_histories : (vs : List PlatformView) → histories vs ≡ map turns_in (ended vs)
same_histories [] = refl
same_histories (v ∷ vs) = ap (λ z. v.turns ∷ z) (same_histories vs)

same_misses : (g : Graph) (vs : List PlatformView) → ((i : ℕ) (v : PlatformView) → slice_get vs i ≡ Some v → v.plan.graph ≡ g) → flat_map missed_by vs ≡ flat_map (λ (p : AtEnd). missed_of g p.turns) (ended vs)
same_misses g [] h = refl
same_misses g (v ∷ vs) h = ap₂ (λ x y. x ++ y) (ap (λ z. missed_of z v.turns) (h zero v refl)) (same_misses g vs (λ i w at. h (suc i) w at))

module _ (g : Graph) (some others : ℕ → List Turn) (same : (i : ℕ) → others i ≡ some i) where
  matched_alike : AreMatched g some → AreMatched g others
  matched_alike h l link at =
      let (rest, e) = h l link at in
      (rest, ap (all_sent l) (same (platform_of g link.from)) ∙ e ∙ ap (λ z. all_taken l z ++ rest) (sym (same (platform_of g link.to))))

  linked_alike : AreLinked g some → AreLinked g others
  linked_alike h l link at = ap (all_sent l) (same (platform_of g link.from)) ∙ h l link at ∙ ap (all_taken l) (sym (same (platform_of g link.to)))

end_as : (g : Graph) (vs : List PlatformView) (stop : Option (ℕ × TurnFault)) → EndsAt g vs stop → (stop ≡ None → AreLinked g (histories_of vs)) → EndAs g (ended vs) stop
end_as g vs None ends linked = (linked_alike g (histories_of vs) (turns_at (ended vs)) (same_turns vs) (linked refl), each_at_end (λ i p. (p.fault ≡ None) × IsFinished g i p.state) vs ends)
end_as g vs (Some f) (v, at, is, shows, before) linked = (at_end v, there vs f.0 v at, is, shows, λ j p lt there_p. each_at_end (λ i q. i < f.0 → q.fault ≡ None) vs (λ i w at_w below. before i w below at_w) j p there_p lt)

-- what was put
puts : (plan : Parts) (rows : ℕ → List Row) (log : Bool) (vs : List PlatformView) (Put : List ℕ → Type 0) → PutsMeaning plan rows log vs Put → PutsTables plan.graph (rank_of plan.ranks) rows log (map turns_in (ended vs)) Put
puts plan rows log vs Put h = record {
  fit = h.fit;
  firings = h.firings;
  meaning = h.meaning;
  text = subst (λ hs. Put (tables_text plan.graph h.firings ++ (if log then log_text plan.graph hs else []))) (same_histories vs) h.text;
  held = λ e. subst (Each (Each IsHeldTurn)) (same_histories vs) (h.held e);
}

-- the late row of a fault is the one that the fault names
same_late : (contents : Contents) (g : Graph) (actor row seen limit sensor number read by : ℕ) → ◌≡◌ {A = Option Fault} (Some (fault.LateRow actor row seen limit)) (Some (fault.LateRow sensor number read by)) → SensorLate contents g actor row seen limit → SensorLate contents g sensor number read by
same_late contents g actor row seen limit sensor number read by e is =
    subst (λ z. SensorLate contents g sensor number read z) limits (subst (λ z. SensorLate contents g sensor number z limit) seens (subst (λ z. SensorLate contents g sensor z seen limit) numbers (subst (λ z. SensorLate contents g z row seen limit) actors is)))
  where
    actors : actor ≡ sensor
    actors = cc

    numbers : row ≡ number
    numbers = cc

    seens : seen ≡ read
    seens = cc

    limits : limit ≡ by
    limits = cc

both : (b : Bool) → b ≡ true → b ≡ false → ⊥
both b e h = cc

module _ (contents : Contents) (blocks : List Named) (graph_file : GraphFile) (workers : ℕ) (clock : ClockChoice) (log : Bool) (a : Answer) where
  abbrev By : ByReadings
  By = HasReadings (run_clocks workers clock a.left) a.left.platforms

  abbrev Holds : Option Fault → Type 0
  Holds o = Headline (inputs_of contents blocks) By graph_file clock log o (ended a.left.platforms) a.left.misses a.wrote

  -- a call without a run
  refused : (f : Fault) → RefusedWith f a → has_run (Some f) ≡ false → ((platform actor : ℕ) (tag : Tag) (reading limit : ℕ) → f ≢ fault.LateMessage platform actor tag reading limit) → ((actor row seen limit : ℕ) → f ≢ fault.LateRow actor row seen limit) → Holds (Some f)
  refused f h none no_message no_row = record {
    run = λ e. absurd (both (has_run (Some f)) e none);
    nothing_else = λ e. (ap ended h.1.1, h.1.0, h.2);
    late_message = λ platform actor tag reading limit e. absurd (no_message platform actor tag reading limit cc);
    late_row = λ actor row seen limit e. absurd (no_row actor row seen limit cc);
  }

  late : (g : Graph) → OfBytes (contents graph_file.name) (λ bytes. graph_by blocks graph_file bytes ≡ Ok g) → (actor row seen limit : ℕ) → RefusedWith (fault.LateRow actor row seen limit) a → SensorLate contents g actor row seen limit → Holds (Some (fault.LateRow actor row seen limit))
  late g file actor row seen limit h is = record {
    run = λ e. absurd cc;
    nothing_else = λ e. (ap ended h.1.1, h.1.0, h.2);
    late_message = λ platform receiver tag reading past e. absurd cc;
    late_row = λ sensor number read by e. (g, file, same_late contents g actor row seen limit sensor number read by e is);
  }

  module _ (plan : Parts) (all : ℕ → List Row) (admitted : IsAdmitted plan) (k : HasRunBy workers clock log a plan (of_run plan.graph all)) where
    abbrev rows : ℕ → List Row
    rows = of_run plan.graph all

    leaves : LeavesTurns log a.fault (ended a.left.platforms) a.left.misses a.wrote plan.graph (rank_of plan.ranks) (level_of plan.ranks) rows
    leaves = record {
      admitted = record { lawful = admitted.lawful; no_free_cycle = admitted.no_free_cycle; feasible = admitted.feasible; ranks = admitted.ranks; levels = admitted.levels };
      kept = record {
        count = length-map a.left.platforms at_end ∙ kept.all.count;
        numbers = each_at_end (λ i p. p.number ≡ i) a.left.platforms kept.all.numbers;
        legal = each_at_end (λ i p. IsLegal plan.graph (level_of plan.ranks) i rows p.turns p.state) a.left.platforms kept.legal;
        matched = matched_alike plan.graph (histories_of a.left.platforms) (turns_at (ended a.left.platforms)) (same_turns a.left.platforms) kept.matched;
        ends = end_as plan.graph a.left.platforms (stop_of a.fault) kept.ends kept.linked;
      };
      written = λ e. puts plan rows log a.left.platforms (Appends a.wrote.written_before a.wrote.written_now) (k.leaves.written e);
      misses_are = λ e. k.leaves.misses e ∙ same_misses plan.graph a.left.platforms (λ i v at. ap (λ (p : Parts). p.graph) (kept.all.plans i v at));
      part = λ e. puts plan rows log a.left.platforms (AppendsPart a.wrote.written_before a.wrote.written_now) (k.leaves.part e);
      unwritten = k.leaves.unwritten;
      no_misses = k.leaves.no_misses;
    }
      where
        kept : IsKept plan rows a.left.platforms (stop_of a.fault)
        kept = k.leaves.kept

    -- a paced run is stopped by a platform that needed too many claims
    never_late : (o : Option Fault) → a.fault ≡ o → (platform actor : ℕ) (tag : Tag) (reading limit : ℕ) → o ≡ Some (fault.LateMessage platform actor tag reading limit) → clock ≢ Paced
    never_late o is platform actor tag reading limit e paced = late_not_long (subst (λ z. IsPacedOutcome plan (level_of plan.ranks) rows a.left.platforms (stop_of z)) (is ∙ e) (k.paced paced)).all_claims_made
      where
        late_not_long : turn.Late actor tag reading limit ≡ turn.Long → ⊥
        late_not_long same = cc

    ran : (g : Graph) → OfBytes (contents graph_file.name) (λ bytes. graph_by blocks graph_file bytes ≡ Ok g) → plan.graph ≡ g → AreRows contents plan.graph all → AllPass Refused plan.graph all → Holds a.fault
    ran g file same are in_time = record {
      run = λ e. record {
        graph = plan.graph;
        rank = rank_of plan.ranks;
        level = level_of plan.ranks;
        rows = rows;
        file = subst (λ h. OfBytes (contents graph_file.name) (λ bytes. graph_by blocks graph_file bytes ≡ Ok h)) (sym same) file;
        sensors = (all, are, in_time, refl);
        leaves = leaves;
        readings = record { plan = plan; graph = refl; levels = refl; readings = k.leaves.readings };
      };
      nothing_else = λ e. absurd (both (has_run a.fault) k.ran e);
      late_message = never_late a.fault refl;
      late_row = λ actor row seen limit e. absurd (both (has_run a.fault) k.ran (ap has_run e));
    }

  over_graph : (g : Graph) → OfBytes (contents graph_file.name) (λ bytes. graph_by blocks graph_file bytes ≡ Ok g) → AfterAdmission contents g (graph_file.name ∷ []) a (HasRunBy workers clock log a) → Holds a.fault
  over_graph g file h =
      by_admission contents a Holds g (graph_file.name ∷ []) (HasRunBy workers clock log a) h
      (λ actors is cycle. refused (fault.Cycle actors) is refl (λ platform actor tag reading limit e. absurd cc) (λ actor row seen limit e. absurd cc))
      (λ free send offset slack is first. refused (fault.Infeasible send offset slack) is refl (λ platform actor tag reading limit e. absurd cc) (λ actor row seen limit e. absurd cc))
      (λ free feasible sensor is unread. refused (fault.Read (Some sensor)) is refl (λ platform actor tag reading limit e. absurd cc) (λ actor row seen limit e. absurd cc))
      (λ free feasible sensor f is fails. refused (fault.Sensor sensor f) is refl (λ platform actor tag reading limit e. absurd cc) (λ actor row seen limit e. absurd cc))
      (λ free feasible actor row seen limit is tardy. late g file actor row seen limit is tardy)
      (λ plan rows same admitted are in_time k. ran plan rows admitted k g file same are in_time)

  holds : UnlessMemory a (IsDueTo (over (Run workers clock log) graph_file) contents blocks) → Holds a.fault
  holds (inl h) = with_fault contents a Holds fault.Memory h (refused fault.Memory h refl (λ platform actor tag reading limit e. absurd cc) (λ actor row seen limit e. absurd cc))
  holds (inr h) =
      by_file contents a Holds blocks graph_file (λ g. AfterAdmission contents g (graph_file.name ∷ []) a (HasRunBy workers clock log a)) h
      (λ is unread. refused (fault.Read None) is refl (λ platform actor tag reading limit e. absurd cc) (λ actor row seen limit e. absurd cc))
      (λ f is fails. refused (fault.Graph f) is refl (λ platform actor tag reading limit e. absurd cc) (λ actor row seen limit e. absurd cc))
      over_graph

pub headline : (order : Option Order) (contents : Contents) (blocks : List Named) (a : Answer) → IsDue order contents blocks a → HasHeadline a.fault a.left order contents blocks a.wrote
headline order contents blocks a due workers clock log graph_file words = holds contents blocks graph_file workers clock log a (subst (λ z. IsDue z contents blocks a) words due)
