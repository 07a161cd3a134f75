-- A run of a program that can run ends as its meaning says.
use Rattle.std.proofs.Common.{◌≡◌, ℕ, ◌+◌, ◌<◌, ◌≤◌, Bool, List, [], ◌∷◌, Option, Some, None, Result, Ok, Err, ℤ, pos, ◌+ℤ◌, ◌-ℤ◌, ◌<ℤ◌, length, refl, sym, ap, subst, ◌∙◌, arith, inl, inr}
use Rattle.std.specs.Prelude.{◌↔◌}
use Rattle.std.proofs.lemmas.Int.{ints}
use Rattle.std.proofs.lemmas.Option.{slice_get_within}
use Rattle.pt_io.specs.Causes.{Rose}
use Rattle.pt_types.specs.declared.graph.Graph.{Graph}
use Rattle.pt_types.specs.declared.kind.Kind.{Kind}
use Rattle.pt_types.specs.declared.kind.Kind.TheVariants.{Sensor}
use Rattle.pt_types.specs.declared.firing.ActorFiring.{ActorFiring}
use Rattle.pt_types.specs.declared.rows.Row.{Row}
use Rattle.pt_blocks.specs.declared.blocks.Named.{Named}
use Rattle.pt_graph_text.specs.declared.fault.GraphFault.{GraphFault}
use Rattle.pt_history.specs.declared.miss.Miss.{Miss}
use Rattle.pt_sensors.specs.declared.fault.RowFault.{RowFault}
use Rattle.pt_sensors.specs.Late.{late_row}
use Rattle.pt_sensors.specs.RowsOf.{rows_of}
use Rattle.pt_types.specs.Lookups.{kind_of}
use Rattle.pt_semantics.specs.Lists.{IsIn}
use Rattle.pt_semantics.specs.Meaning.{IsMeaning}
use Rattle.pt_semantics.specs.Offsets.{IsFeasible}
use Rattle.pt_semantics.specs.Counts.{unit_firings}
use Rattle.pt_semantics.specs.Parts.{parts}
use Rattle.pt_semantics.specs.Ranks.{AreRanks, sum_along}
use Rattle.pt_semantics.proofs.Acyclic.{ranks_are_one}
use Rattle.pt_semantics.proofs.Lookups.{none_some}
use Rattle.pt_laws.proofs.Unique.{meaning_is_one}
use Rattle.pt_paced_laws.specs.Schedule.{IsMissedByMeaning}
use Rattle.pt_offsets.specs.Margins.{IsFirstInfeasible}
use Rattle.pt_offsets.specs.Plans.{IsAdmitted, Parts}
use Rattle.pt_turn.specs.Platforms.{PlatformView}
use Rattle.pt_rounds.specs.Outcome.{IsOutcome as IsPacedOutcome, IsLongOn}
use Rattle.pt_sensor_files.specs.declared.recorded_fault.LateRows.TheVariants.{Refused}
use Rattle.pt_io.specs.Calls.{Contents, SourceCall, SinkCall}
use Rattle.pt_sensors.specs.Places.{of_run}
use Rattle.pt_sensor_files.specs.Recorded.{AreRows, InTime, RowsOfKind, SensorFails, SensorLate}
use Rattle.pt_run.proofs.ByFault.{CauseOf, Ends, EndsBy, RunStops}
use Rattle.pt_run.proofs.RunsAgreeing.{rows_are_one}
use Rattle.pt_run.specs.Runs.{IsFinishedRun}
use Rattle.pt_run.specs.declared.fault.Fault.{Fault}
use Rattle.pt_run.specs.declared.fault.Fault.TheVariants as fault
use Rattle.pt_words.specs.declared.orders.Command.TheVariants.{Run}
use Rattle.pt_run.specs.Complete.{CanBegin, EndsAsShown, FitsClaims, IsComplete, IsCompleteByAnyClock, StatusIsMeant}
use Rattle.pt_run.specs.Written.{GraphWith, Leaves, Means, run_clocks}
use Rattle.pt_run.proofs.CauseTable.{never_paced, stopped as stopped_at}
use Rattle.pt_causality.specs.Ranked.{level_of, rank_of}
use Rattle.pt_turn.specs.declared.fault.TurnFault.{TurnFault}
use Rattle.pt_turn.specs.declared.fault.TurnFault.TheVariants as turn
use Rattle.pt_words.specs.declared.orders.ClockChoice.{ClockChoice}
use Rattle.pt_words.specs.declared.orders.ClockChoice.TheVariants.{Paced}
use Rattle.pt_run.specs.Readings.{RunClocks}
use Rattle.pt_run.specs.Statuses.{status_of}
use Rattle.pt_words.specs.Grammar.{GraphFile, Order}
use Rattle.pt_run.specs.GraphFiles.{graph_by}
use Rattle.pt_sensors.specs.Limits.{file_limits}
use Rattle.pt_sensor_files.specs.Bytes.{OfBytes}

-- what a file with known content defines is one
pub agrees : {R : Type 0} (read : List ℕ → R) (reported : Option (List ℕ)) (bytes : List ℕ) (o p : R) → reported ≡ Some bytes → OfBytes reported (λ bytes. read bytes ≡ o) → OfBytes reported (λ bytes. read bytes ≡ p) → o ≡ p
agrees read None bytes o p e h k = absurd (none_some bytes e)
agrees read (Some b) bytes o p e h k = sym h ∙ k

pub same_ok : {X E : Type 0} (x y : X) → ◌≡◌ {A = Result X E} (Ok x) (Ok y) → x ≡ y
same_ok x y e = cc

pub ok_err : {X E : Type 0} (x : X) (f : E) → ◌≡◌ {A = Result X E} (Ok x) (Err f) → ⊥
ok_err x f e = cc

-- a sender that can't send in time is in no graph in which all can
pub too_late : (g : Graph) (send slack : ℕ) (offset : ℤ) → IsFeasible g → IsFirstInfeasible g send offset slack → ⊥
too_late g send slack offset feasible h =
    let o = h.infeasible.offset_is.some in
    late o.1 (sum_along o.2).time slack offset o.4 (feasible send slack o.0 o.1 o.2 h.infeasible.sends o.3) h.infeasible.late
  where
    late : (b d slack : ℕ) (offset : ℤ) → (pos b -ℤ pos d) ≡ offset → b + 1 ≤ slack + d → pos slack <ℤ (offset +ℤ pos 1) → ⊥
    late b d slack offset e le lt = omega (arith, ints)

-- the status of a run that finished, by what it missed
pub by_misses : (status : ℕ) (g : Graph) (xs : List ActorFiring) (ms : List Miss) → status ≡ status_of None ms → FitsClaims g xs → ((m : Miss) → IsIn m ms ↔ IsMissedByMeaning g xs m.actor m.tag m.reading m.limit) → StatusIsMeant status g xs
by_misses status g xs [] e few all = inl (e, few, (λ missed. (all (record { actor = missed.0; tag = missed.1; reading = missed.2; limit = missed.3 })).1 missed.4))
by_misses status g xs (m ∷ ms) e few all = inr (inl (e, few, (m.actor, m.tag, m.reading, m.limit, (all m).0 (inl refl))))

-- and of one that a platform stopped
pub by_platform : (status : ℕ) (g : Graph) (xs : List ActorFiring) (platform : ℕ) → status ≡ 6 → platform < length g.platforms → g.claims < unit_firings g platform (parts g xs) → StatusIsMeant status g xs
by_platform status g xs platform is within over = inr (inr (inl (is, λ few. clash (unit_firings g platform (parts g xs)) over (few platform within))))
  where
    clash : (n : ℕ) → g.claims < n → n ≤ g.claims → ⊥
    clash n over le = omega arith

module _ (contents : Contents) (blocks : List Named) (graph_file : GraphFile) (g : Graph) (can : CanBegin contents blocks graph_file g) where
  read : OfBytes (contents graph_file.name) (λ bytes. graph_by blocks graph_file bytes ≡ Ok g)
  read = subst (λ reported. OfBytes reported (λ bytes. graph_by blocks graph_file bytes ≡ Ok g)) (sym can.reported) can.graph

  -- a graph that the file defines is this one, and it has no fault
  pub this_graph : (h : Graph) → OfBytes (contents graph_file.name) (λ bytes. graph_by blocks graph_file bytes ≡ Ok h) → h ≡ g
  this_graph h other = sym (same_ok {E = GraphFault} g h (agrees (graph_by blocks graph_file) (contents graph_file.name) can.bytes (Ok g) (Ok h) can.reported read other))

  pub no_fault : (f : GraphFault) → OfBytes (contents graph_file.name) (λ bytes. graph_by blocks graph_file bytes ≡ Err f) → ⊥
  no_fault f other = ok_err g f (agrees (graph_by blocks graph_file) (contents graph_file.name) can.bytes (Ok g) (Err f) can.reported read other)

  -- no sensor's file has a fault, and no row is late
  of_sensor : (a : ℕ) (file : List ℕ) (bound : ℕ) → kind_of g a ≡ Sensor file bound → OfBytes (contents file) (λ bytes. rows_of (file_limits g.claims) bytes ≡ Ok (can.rows a))
  of_sensor a file bound kind = subst (λ (k : Kind). RowsOfKind (file_limits g.claims) contents k (can.rows a)) kind (can.sensors a)

  pub sensor_fails : (actor : ℕ) (f : RowFault) → SensorFails Refused contents g actor f → ⊥
  sensor_fails actor f h =
      let reported = can.files actor h.file h.bound h.sensor in
      ok_err (can.rows actor) f (agrees (rows_of (file_limits g.claims)) (contents h.file) reported.0 (Ok (can.rows actor)) (Err f) reported.1 (of_sensor actor h.file h.bound h.sensor) h.fails)

  pub sensor_late : (actor row seen limit : ℕ) → SensorLate contents g actor row seen limit → ⊥
  sensor_late actor row seen limit h =
      let reported = can.files actor h.file h.bound h.sensor in
      let rows : can.rows actor ≡ h.rows = same_ok {E = RowFault} (can.rows actor) h.rows (agrees (rows_of (file_limits g.claims)) (contents h.file) reported.0 (Ok (can.rows actor)) (Ok h.rows) reported.1 (of_sensor actor h.file h.bound h.sensor) h.read) in
      let passes : late_row h.bound g.until (can.rows actor) ≡ None = subst (λ (k : Kind). InTime g.until k (can.rows actor)) h.sensor (can.in_time actor) in
      none_some row (sym passes ∙ ap (late_row h.bound g.until) rows ∙ h.is_late.first)

  -- by whatever clock
  module _ (left : Leaves) (workers : ℕ) (clock : ClockChoice) (log : Bool) (r : SourceCall) (w : SinkCall) (reads : Rose r.before r.now → ⊥) (writes : Rose w.before w.now → ⊥) where
    own_cause : (f : Fault) → GraphWith contents blocks graph_file (λ h. CauseOf (Run workers clock log) f left contents h (graph_file.name ∷ []) r) → EndsAsShown (Some f) left g
    own_cause f (h, file, cause) = on_graph f (subst (λ z. CauseOf (Run workers clock log) f left contents z (graph_file.name ∷ []) r) (this_graph h file) cause)
      where
        on_graph : (e : Fault) → CauseOf (Run workers clock log) e left contents g (graph_file.name ∷ []) r → EndsAsShown (Some e) left g
        on_graph (fault.Cycle actors) k = absurd (can.no_free_cycle k.0.first k.0.edge k.0.path k.0.cycle k.0.free)
        on_graph fault.Memory k = tt
        on_graph (fault.Infeasible send offset slack) k = absurd (too_late g send slack offset can.feasible k.1.0)
        on_graph (fault.Read (Some actor)) k = absurd (reads k.1.1.failed.rose)
        on_graph (fault.Sensor actor e) k = absurd (sensor_fails actor e k.1.1)
        on_graph (fault.LateRow actor row seen limit) k = absurd (sensor_late actor row seen limit k.1.1)
        on_graph (fault.LateMessage platform actor tag reading limit) k = stopped_at left contents blocks r w g workers clock platform (turn.Late actor tag reading limit) k.1
        on_graph (fault.Long (Some platform)) k = stopped_at left contents blocks r w g workers clock platform turn.Long k.1
        on_graph (fault.Long None) k = absurd k.1
        on_graph (fault.Ring sends gain) k = absurd k.1
        on_graph fault.ReadLog k = absurd k.1
        on_graph (fault.Unlawful v) k = absurd k.1
        on_graph (fault.LateAir platform actor tag reading limit row) k = absurd k.1
        on_graph (fault.Air e) k = absurd k.1
        on_graph fault.ReadAir k = absurd k.1
        on_graph (fault.Read None) k = absurd k.1
        on_graph fault.Usage k = absurd k.1
        on_graph (fault.Graph e) k = absurd k.1
        on_graph fault.Write k = absurd k.1

    own_outcome : (o : Option Fault) → EndsBy o left (Some (Run workers clock log, graph_file)) contents blocks r w → EndsAsShown o left g
    own_outcome None (text, (h, file, (free, run)), appends) = run.finished.missed
    own_outcome (Some fault.Usage) k = absurd k
    own_outcome (Some (fault.Graph f)) k = absurd (no_fault f k.0)
    own_outcome (Some (fault.Read None)) k = absurd (reads k.0.rose)
    own_outcome (Some fault.Write) k = absurd (writes k.0)
    own_outcome (Some fault.Memory) k = tt
    own_outcome (Some (fault.Cycle actors)) k = own_cause (fault.Cycle actors) k.0
    own_outcome (Some (fault.Infeasible send offset slack)) k = own_cause (fault.Infeasible send offset slack) k.0
    own_outcome (Some (fault.Ring sends gain)) k = own_cause (fault.Ring sends gain) k.0
    own_outcome (Some fault.ReadLog) k = own_cause fault.ReadLog k.0
    own_outcome (Some (fault.Unlawful v)) k = own_cause (fault.Unlawful v) k.0
    own_outcome (Some (fault.LateAir platform actor tag reading limit row)) k = own_cause (fault.LateAir platform actor tag reading limit row) k.0
    own_outcome (Some (fault.Air e)) k = own_cause (fault.Air e) k.0
    own_outcome (Some fault.ReadAir) k = own_cause fault.ReadAir k.0
    own_outcome (Some (fault.Read (Some actor))) k = own_cause (fault.Read (Some actor)) k.0
    own_outcome (Some (fault.Sensor actor e)) k = own_cause (fault.Sensor actor e) k.0
    own_outcome (Some (fault.LateRow actor row seen limit)) k = own_cause (fault.LateRow actor row seen limit) k.0
    own_outcome (Some (fault.LateMessage platform actor tag reading limit)) k = own_cause (fault.LateMessage platform actor tag reading limit) k.0
    own_outcome (Some (fault.Long platform)) k = own_cause (fault.Long platform) k.0

  module _ (xs : List ActorFiring) (means : Means g can.rows xs) where
    -- the meaning of a plan of this graph with the rows of the run
    pub meaning : (plan : Parts) (rows : ℕ → List Row) → plan.graph ≡ g → AreRows contents plan.graph rows → IsMeaning plan.graph means.rank (of_run plan.graph rows) xs
    meaning plan rows same are =
        subst (λ h. IsMeaning h means.rank (of_run h rows) xs) (sym same)
        (subst (λ r. IsMeaning g means.rank (of_run g r) xs) (rows_are_one contents g can.rows rows can.files can.sensors (subst (λ h. AreRows contents h rows) same are)) means.meaning)

    is_long : (plan : Parts) (rows : ℕ → List Row) (platforms : List PlatformView) (stop : Option (ℕ × TurnFault)) → plan.graph ≡ g → AreRows contents plan.graph rows → IsPacedOutcome plan (level_of plan.ranks) (of_run plan.graph rows) platforms stop → IsLongOn plan.graph xs stop
    is_long plan rows platforms stop same are run = run.long means.rank xs (subst (λ h. AreRanks h means.rank) (sym same) means.ranks) (meaning plan rows same are)

    -- the firings of a plan of this graph with these rows are those of the meaning
    pub one_meaning : (plan : Parts) (rows : ℕ → List Row) (firings : List ActorFiring) → plan.graph ≡ g → AreRows contents plan.graph rows → IsAdmitted plan → IsMeaning plan.graph (rank_of plan.ranks) (of_run plan.graph rows) firings → firings ≡ xs
    one_meaning plan rows firings same are admitted found =
        meaning_is_one plan.graph (rank_of plan.ranks) (of_run plan.graph rows) firings xs found
        (subst (λ rank. IsMeaning plan.graph rank (of_run plan.graph rows) xs)
        (ranks_are_one plan.graph means.rank (rank_of plan.ranks) (subst (λ h. AreRanks h means.rank) (sym same) means.ranks) admitted.ranks)
        (meaning plan rows same are))

    -- a run that finished
    module _ (c : RunClocks) (plan : Parts) (log : Bool) (platforms : List PlatformView) (misses : List Miss) (text : List ℕ) (paced : c.choice ≡ Paced) (same : plan.graph ≡ g) (done : IsFinishedRun contents c plan log platforms misses text) where
      pub firings_meant : done.firings ≡ xs
      firings_meant = one_meaning plan done.run.rows done.firings same done.run.sensors done.run.admitted done.meaning

      pub missed_meant : (m : Miss) → IsIn m misses ↔ IsMissedByMeaning g xs m.actor m.tag m.reading m.limit
      missed_meant m = subst (λ h. IsIn m misses ↔ IsMissedByMeaning h xs m.actor m.tag m.reading m.limit) same (subst (λ zs. IsIn m misses ↔ IsMissedByMeaning plan.graph zs m.actor m.tag m.reading m.limit) firings_meant (done.missed_as_meant paced m))

      finished : (status : ℕ) → status ≡ status_of None misses → StatusIsMeant status g xs
      finished status is = by_misses status g xs misses is (subst (λ h. FitsClaims h xs) same (is_long plan done.run.rows platforms None same done.run.sensors (done.run.fact.paced paced))) missed_meant

    -- a run that stopped
    stopped : (status workers : ℕ) (left : Leaves) (platform : ℕ) (f : TurnFault) → status ≡ 6 → RunStops contents g workers Paced left platform f → StatusIsMeant status g xs
    stopped status workers left platform f is h =
        let over : g.claims < unit_firings g platform (parts g xs) = subst (λ z. z.claims < unit_firings z platform (parts z xs)) h.graph (is_long h.plan h.run.rows left.platforms (Some (platform, f)) h.graph h.run.sensors (h.run.fact.paced refl)) in
        let view = h.run.fact.kept.ends in
        let within : platform < length g.platforms = subst (λ z. platform < length z) (ap (λ (z : Graph). z.platforms) h.graph) (subst (λ n. platform < n) h.run.fact.kept.all.count (slice_get_within left.platforms platform view.0 view.1)) in
        by_platform status g xs platform is within over

    module _ (status : ℕ) (left : Leaves) (workers : ℕ) (log : Bool) (r : SourceCall) (w : SinkCall) (reads : Rose r.before r.now → ⊥) (writes : Rose w.before w.now → ⊥) where
      -- by the fault over the graph
      by_cause : (f : Fault) → status ≡ status_of (Some f) left.misses → GraphWith contents blocks graph_file (λ h. CauseOf (Run workers Paced log) f left contents h (graph_file.name ∷ []) r) → StatusIsMeant status g xs
      by_cause f is (h, file, cause) = on_graph f is (subst (λ z. CauseOf (Run workers Paced log) f left contents z (graph_file.name ∷ []) r) (this_graph h file) cause)
        where
          on_graph : (e : Fault) → status ≡ status_of (Some e) left.misses → CauseOf (Run workers Paced log) e left contents g (graph_file.name ∷ []) r → StatusIsMeant status g xs
          on_graph (fault.Cycle actors) is k = absurd (can.no_free_cycle k.0.first k.0.edge k.0.path k.0.cycle k.0.free)
          on_graph fault.Memory is k = inr (inr (inr is))
          on_graph (fault.Infeasible send offset slack) is k = absurd (too_late g send slack offset can.feasible k.1.0)
          on_graph (fault.Read (Some actor)) is k = absurd (reads k.1.1.failed.rose)
          on_graph (fault.Sensor actor e) is k = absurd (sensor_fails actor e k.1.1)
          on_graph (fault.LateRow actor row seen limit) is k = absurd (sensor_late actor row seen limit k.1.1)
          on_graph (fault.LateMessage platform actor tag reading limit) is k = absurd (never_paced left contents blocks r w g workers Paced platform actor tag reading limit k.1 refl)
          on_graph (fault.Long (Some platform)) is k = stopped status workers left platform turn.Long is k.1
          on_graph (fault.Long None) is k = absurd k.1
          on_graph (fault.Ring sends gain) is k = absurd k.1
          on_graph fault.ReadLog is k = absurd k.1
          on_graph (fault.Unlawful v) is k = absurd k.1
          on_graph (fault.LateAir platform actor tag reading limit row) is k = absurd k.1
          on_graph (fault.Air e) is k = absurd k.1
          on_graph fault.ReadAir is k = absurd k.1
          on_graph (fault.Read None) is k = absurd k.1
          on_graph fault.Usage is k = absurd k.1
          on_graph (fault.Graph e) is k = absurd k.1
          on_graph fault.Write is k = absurd k.1

      by_outcome : (o : Option Fault) → status ≡ status_of o left.misses → EndsBy o left (Some (Run workers Paced log, graph_file)) contents blocks r w → StatusIsMeant status g xs
      by_outcome None is (text, (h, file, (free, run)), appends) = finished (run_clocks workers Paced left) run.plan log left.platforms left.misses text refl (run.graph ∙ this_graph h file) run.finished status is
      by_outcome (Some fault.Usage) is k = absurd k
      by_outcome (Some (fault.Graph f)) is k = absurd (no_fault f k.0)
      by_outcome (Some (fault.Read None)) is k = absurd (reads k.0.rose)
      by_outcome (Some fault.Write) is k = absurd (writes k.0)
      by_outcome (Some fault.Memory) is k = inr (inr (inr is))
      by_outcome (Some (fault.Cycle actors)) is k = by_cause (fault.Cycle actors) is k.0
      by_outcome (Some (fault.Infeasible send offset slack)) is k = by_cause (fault.Infeasible send offset slack) is k.0
      by_outcome (Some (fault.Ring sends gain)) is k = by_cause (fault.Ring sends gain) is k.0
      by_outcome (Some fault.ReadLog) is k = by_cause fault.ReadLog is k.0
      by_outcome (Some (fault.Unlawful v)) is k = by_cause (fault.Unlawful v) is k.0
      by_outcome (Some (fault.LateAir platform actor tag reading limit row)) is k = by_cause (fault.LateAir platform actor tag reading limit row) is k.0
      by_outcome (Some (fault.Air e)) is k = by_cause (fault.Air e) is k.0
      by_outcome (Some fault.ReadAir) is k = by_cause fault.ReadAir is k.0
      by_outcome (Some (fault.Read (Some actor))) is k = by_cause (fault.Read (Some actor)) is k.0
      by_outcome (Some (fault.Sensor actor e)) is k = by_cause (fault.Sensor actor e) is k.0
      by_outcome (Some (fault.LateRow actor row seen limit)) is k = by_cause (fault.LateRow actor row seen limit) is k.0
      by_outcome (Some (fault.LateMessage platform actor tag reading limit)) is k = by_cause (fault.LateMessage platform actor tag reading limit) is k.0
      by_outcome (Some (fault.Long platform)) is k = by_cause (fault.Long platform) is k.0

-- a call that ends by its words
pub complete : (status : ℕ) (o : Option Fault) (left : Leaves) (order : Option Order) (contents : Contents) (blocks : List Named) (r : SourceCall) (w : SinkCall) → status ≡ status_of o left.misses → Ends o left order contents blocks r w → IsComplete status order contents blocks r w
complete status o left order contents blocks r w is ends workers log graph_file g xs words can reads writes =
    by_outcome contents blocks graph_file g can.begins xs can.means status left workers log r w reads writes o is (subst (λ z. Ends o left z contents blocks r w) words ends)

pub complete_by_any_clock : (o : Option Fault) (left : Leaves) (order : Option Order) (contents : Contents) (blocks : List Named) (r : SourceCall) (w : SinkCall) → Ends o left order contents blocks r w → IsCompleteByAnyClock o left order contents blocks r w
complete_by_any_clock o left order contents blocks r w ends workers clock log graph_file g words can reads writes =
    own_outcome contents blocks graph_file g can left workers clock log r w reads writes o (subst (λ z. Ends o left z contents blocks r w) words ends)
