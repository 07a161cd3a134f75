-- Each answer has its cause.
use Rattle.std.proofs.Common.{◌≡◌, ◌≢◌, ℕ, List, [], ◌∷◌, Option, Some, None, Err, ℤ, refl, sym, ap, subst, ◌∙◌, arith}
use Rattle.std.specs.Prelude.{flat_map}
use Rattle.pt_io.specs.Causes.{Rose}
use Rattle.pt_audit.specs.declared.verdict.Verdict.{Verdict}
use Rattle.pt_types.specs.declared.graph.Graph.{Graph}
use Rattle.pt_air.specs.declared.fault.AirFault.{AirFault}
use Rattle.pt_air.specs.AirOf.{air_of}
use Rattle.pt_blocks.specs.declared.blocks.Named.{Named}
use Rattle.pt_graph_text.specs.declared.fault.GraphFault.{GraphFault}
use Rattle.pt_history.specs.declared.miss.Miss.{Miss}
use Rattle.pt_causality.specs.Ranked.{IsFreeCycle}
use Rattle.pt_offsets.specs.Margins.{IsFirstInfeasible}
use Rattle.pt_sensors.specs.declared.fault.RowFault.{RowFault}
use Rattle.pt_offsets.specs.Plans.{Parts}
use Rattle.pt_semantics.specs.Cycles.{NoFreeCycle}
use Rattle.pt_slacks.specs.Rings.{IsRing}
use Rattle.pt_semantics.specs.Offsets.{IsFeasible}
use Rattle.pt_monitors.specs.Platforms.{missed_by}
use Rattle.pt_sensor_files.specs.Asked.{ReadFails}
use Rattle.pt_io.specs.Calls.{Contents, SourceCall, SinkCall}
use Rattle.pt_sensors.specs.Places.{of_run}
use Rattle.pt_sensor_files.specs.Recorded.{SensorFails, SensorLate, SensorUnread}
use Rattle.pt_run.specs.declared.fault.Fault.{Fault}
use Rattle.pt_run.specs.declared.fault.Fault.TheVariants as fault
use Rattle.pt_words.specs.declared.orders.Command.{Command}
use Rattle.pt_words.specs.declared.orders.Command.TheVariants.{Run, Check, Meaning, Slacks}
use Rattle.pt_tags.specs.declared.tag.Tag.{Tag}
use Rattle.pt_turn.specs.declared.fault.TurnFault.{TurnFault}
use Rattle.pt_turn.specs.declared.fault.TurnFault.TheVariants as turn
use Rattle.pt_turn.specs.Platforms.{state_at}
use Rattle.pt_turn.specs.Running.{Shows, ShowsLate, ShowsLong}
use Rattle.pt_words.specs.declared.orders.ClockChoice.{ClockChoice}
use Rattle.pt_words.specs.declared.orders.ClockChoice.TheVariants.{Paced}
use Rattle.pt_run.proofs.ByFault.{MeansLong}
use Rattle.pt_run.specs.Complete.{OnPlatform}
use Rattle.pt_run.proofs.CauseFields.{AsksFeasible, CauseTable, IsAccepted, IsNotPaced, IsRunCommand, OfRows, OverAir, OverFile, OverGraph, OverLog}
use Rattle.pt_run.specs.Statuses.{status_of, status_of_fault}
use Rattle.pt_run.specs.Auditing.{Accepts, IsUnlawful, LastFails, OnLog}
use Rattle.pt_run.specs.Leaving.{RunWith}
use Rattle.pt_run.specs.Replaying.{LeavesReplay, OnAir}
use Rattle.pt_words.specs.Grammar.{GraphFile, Order, over, make, migrate, audit, replay}
use Rattle.pt_run.specs.Reporting.{paced_run}
use Rattle.pt_run.specs.Written.{GraphWith, Leaves}
use Rattle.pt_run.proofs.ByFault.{CauseOfText, Ends, IsCause, RunStops, WritesText}
use Rattle.pt_run.proofs.Stages.{not_true}
use Rattle.pt_run.proofs.Replayed.{stopped_in_air, unwritten_in_air}
use Rattle.pt_run.specs.GraphFiles.{graph_by}
use Rattle.pt_sensor_files.specs.Bytes.{OfBytes}

-- the status of a fault is not 5
not_missed : (f : Fault) → status_of_fault f ≡ 5 → ⊥
not_missed fault.Usage e = omega (arith, e)
not_missed (fault.Graph f) e = omega (arith, e)
not_missed (fault.Cycle actors) e = omega (arith, e)
not_missed (fault.Infeasible send offset slack) e = omega (arith, e)
not_missed (fault.Ring sends gain) e = omega (arith, e)
not_missed fault.ReadLog e = omega (arith, e)
not_missed (fault.Unlawful v) e = omega (arith, e)
not_missed (fault.LateAir platform actor tag reading limit row) e = omega (arith, e)
not_missed (fault.Air f) e = omega (arith, e)
not_missed fault.ReadAir e = omega (arith, e)
not_missed (fault.Sensor actor f) e = omega (arith, e)
not_missed (fault.LateRow actor row seen limit) e = omega (arith, e)
not_missed (fault.LateMessage platform actor tag reading limit) e = omega (arith, e)
not_missed (fault.Long platform) e = omega (arith, e)
not_missed (fault.Read file) e = omega (arith, e)
not_missed fault.Write e = omega (arith, e)
not_missed fault.Memory e = omega (arith, e)

none_misses : (o : Option Fault) (misses : List Miss) → status_of o misses ≡ 5 → (o ≡ None) × (misses ≢ [])
none_misses None [] e = absurd (omega (arith, e))
none_misses None (m ∷ ms) e = (refl, λ h. absurd cc)
none_misses (Some f) misses e = absurd (not_missed f e)

is_missed : (misses : List Miss) → misses ≢ [] → status_of None misses ≡ 5
is_missed [] h = absurd (h refl)
is_missed (m ∷ ms) h = refl

module _ (left : Leaves) (contents : Contents) (blocks : List Named) (r : SourceCall) (w : SinkCall) where
  usage : (order : Option Order) → Ends (Some fault.Usage) left order contents blocks r w → order ≡ None
  usage None k = refl
  usage (Some (over command graph_file)) k = absurd k
  usage (Some (make n workers)) k = absurd k
  usage (Some (migrate graph_file)) k = absurd k.1
  usage (Some (audit graph_file log)) k = absurd (not_true k.0)
  usage (Some (replay graph_file air workers log)) k = absurd (not_true k.0)

  graph_unread : (order : Option Order) → Ends (Some (fault.Read None)) left order contents blocks r w → OverFile order (λ graph_file. ReadFails [] graph_file.name r)
  graph_unread None k = absurd (let e = k.0 in cc)
  graph_unread (Some (over command graph_file)) k = k.0
  graph_unread (Some (make n workers)) k = absurd k
  graph_unread (Some (migrate graph_file)) k = k.1
  graph_unread (Some (audit graph_file log)) k = k.2.0
  graph_unread (Some (replay graph_file air workers log)) k = k.2.0

  graph : (f : GraphFault) (order : Option Order) → Ends (Some (fault.Graph f)) left order contents blocks r w → OverFile order (λ graph_file. OfBytes (contents graph_file.name) (λ bytes. graph_by blocks graph_file bytes ≡ Err f))
  graph f None k = absurd (let e = k.0 in cc)
  graph f (Some (over command graph_file)) k = k.0
  graph f (Some (make n workers)) k = absurd k
  graph f (Some (migrate graph_file)) k = k.1
  graph f (Some (audit graph_file log)) k = k.2.0
  graph f (Some (replay graph_file air workers log)) k = k.2.0

  cycle : (actors : List ℕ) (order : Option Order) → Ends (Some (fault.Cycle actors)) left order contents blocks r w → OverGraph order contents blocks (λ command graph_file g. IsFreeCycle g actors)
  cycle actors None k = absurd (let e = k.0 in cc)
  cycle actors (Some (over command graph_file)) (k, same) = (k.0, k.1, k.2.0)
  cycle actors (Some (make n workers)) k = absurd k
  cycle actors (Some (migrate graph_file)) k = absurd k.1
  cycle actors (Some (audit graph_file log)) (is, none, (k, same)) = (k.0, k.1, k.2.0)
  cycle actors (Some (replay graph_file air workers log)) (is, none, (k, same)) = (k.0, k.1, k.2.0)

  infeasible_over : (send : ℕ) (offset : ℤ) (slack : ℕ) (command : Command) (graph_file : GraphFile) → IsCause (fault.Infeasible send offset slack) left command contents blocks graph_file r w → GraphWith contents blocks graph_file (λ g. AsksFeasible command × NoFreeCycle g × IsFirstInfeasible g send offset slack)
  infeasible_over send offset slack command graph_file (k, same) = (k.0, k.1, of command k.0 k.2.0 k.2.1)
    where
      of : (c : Command) (g : Graph) → NoFreeCycle g → CauseOfText c (fault.Infeasible send offset slack) left contents g (graph_file.name ∷ []) r → AsksFeasible c × NoFreeCycle g × IsFirstInfeasible g send offset slack
      of (Run workers clock log) g free h = (tt, free, h.0)
      of Check g free h = (tt, free, h.0)
      of Meaning g free h = absurd h.0
      of Slacks g free h = absurd h.0

  infeasible : (send : ℕ) (offset : ℤ) (slack : ℕ) (order : Option Order) → Ends (Some (fault.Infeasible send offset slack)) left order contents blocks r w → OverGraph order contents blocks (λ command graph_file g. AsksFeasible command × NoFreeCycle g × IsFirstInfeasible g send offset slack)
  infeasible send offset slack None k = absurd (let e = k.0 in cc)
  infeasible send offset slack (Some (over command graph_file)) k = infeasible_over send offset slack command graph_file k
  infeasible send offset slack (Some (make n workers)) k = absurd k
  infeasible send offset slack (Some (migrate graph_file)) k = absurd k.1
  infeasible send offset slack (Some (audit graph_file log)) k = infeasible_over send offset slack paced_run graph_file k.2
  infeasible send offset slack (Some (replay graph_file air workers log)) k = infeasible_over send offset slack paced_run graph_file k.2

  ring : (sends : List ℕ) (gain : ℕ) (order : Option Order) → Ends (Some (fault.Ring sends gain)) left order contents blocks r w → OverGraph order contents blocks (λ command graph_file g. (command ≡ Slacks) × NoFreeCycle g × IsRing g sends gain)
  ring sends gain None k = absurd (let e = k.0 in cc)
  ring sends gain (Some (over command graph_file)) (k, same) = (k.0, k.1, of command k.0 k.2.0 k.2.1)
    where
      of : (c : Command) (g : Graph) → NoFreeCycle g → CauseOfText c (fault.Ring sends gain) left contents g (graph_file.name ∷ []) r → (c ≡ Slacks) × NoFreeCycle g × IsRing g sends gain
      of (Run workers clock log) g free h = absurd h
      of Check g free h = absurd h.0
      of Meaning g free h = absurd h.0
      of Slacks g free h = (refl, free, h.0)
  ring sends gain (Some (make n workers)) k = absurd k
  ring sends gain (Some (migrate graph_file)) k = absurd k.1
  ring sends gain (Some (audit graph_file log)) k = absurd (not_true k.0)
  ring sends gain (Some (replay graph_file air workers log)) k = absurd (not_true k.0)

  sensor_unread_over : (actor : ℕ) (command : Command) (graph_file : GraphFile) → IsCause (fault.Read (Some actor)) left command contents blocks graph_file r w → GraphWith contents blocks graph_file (λ g. IsAccepted command g × OfRows command (λ late. SensorUnread late contents g actor (graph_file.name ∷ []) r))
  sensor_unread_over actor command graph_file (k, same) = (k.0, k.1, of command k.0 k.2.0 k.2.1)
    where
      of : (c : Command) (g : Graph) → NoFreeCycle g → CauseOfText c (fault.Read (Some actor)) left contents g (graph_file.name ∷ []) r → IsAccepted c g × OfRows c (λ late. SensorUnread late contents g actor (graph_file.name ∷ []) r)
      of (Run workers clock log) g free h = ((free, λ reads. h.0), h.1)
      of Check g free h = absurd h.0
      of Meaning g free h = ((free, λ reads. absurd reads), h.0)
      of Slacks g free h = absurd h.0

  sensor_unread : (actor : ℕ) (order : Option Order) → Ends (Some (fault.Read (Some actor))) left order contents blocks r w → OverGraph order contents blocks (λ command graph_file g. IsAccepted command g × OfRows command (λ late. SensorUnread late contents g actor (graph_file.name ∷ []) r))
  sensor_unread actor None k = absurd (let e = k.0 in cc)
  sensor_unread actor (Some (over command graph_file)) k = sensor_unread_over actor command graph_file k
  sensor_unread actor (Some (make n workers)) k = absurd k
  sensor_unread actor (Some (migrate graph_file)) k = absurd k.1
  sensor_unread actor (Some (audit graph_file log)) k = sensor_unread_over actor paced_run graph_file k.2
  sensor_unread actor (Some (replay graph_file air workers log)) k = sensor_unread_over actor paced_run graph_file k.2

  sensor_over : (actor : ℕ) (f : RowFault) (command : Command) (graph_file : GraphFile) → IsCause (fault.Sensor actor f) left command contents blocks graph_file r w → GraphWith contents blocks graph_file (λ g. IsAccepted command g × OfRows command (λ late. SensorFails late contents g actor f))
  sensor_over actor f command graph_file (k, same) = (k.0, k.1, of command k.0 k.2.0 k.2.1)
    where
      of : (c : Command) (g : Graph) → NoFreeCycle g → CauseOfText c (fault.Sensor actor f) left contents g (graph_file.name ∷ []) r → IsAccepted c g × OfRows c (λ late. SensorFails late contents g actor f)
      of (Run workers clock log) g free h = ((free, λ reads. h.0), h.1)
      of Check g free h = absurd h.0
      of Meaning g free h = ((free, λ reads. absurd reads), h.0)
      of Slacks g free h = absurd h.0

  sensor : (actor : ℕ) (f : RowFault) (order : Option Order) → Ends (Some (fault.Sensor actor f)) left order contents blocks r w → OverGraph order contents blocks (λ command graph_file g. IsAccepted command g × OfRows command (λ late. SensorFails late contents g actor f))
  sensor actor f None k = absurd (let e = k.0 in cc)
  sensor actor f (Some (over command graph_file)) k = sensor_over actor f command graph_file k
  sensor actor f (Some (make n workers)) k = absurd k
  sensor actor f (Some (migrate graph_file)) k = absurd k.1
  sensor actor f (Some (audit graph_file log)) k = sensor_over actor f paced_run graph_file k.2
  sensor actor f (Some (replay graph_file air workers log)) k = sensor_over actor f paced_run graph_file k.2

  late_row_over : (actor row seen limit : ℕ) (command : Command) (graph_file : GraphFile) → IsCause (fault.LateRow actor row seen limit) left command contents blocks graph_file r w → GraphWith contents blocks graph_file (λ g. IsRunCommand command × IsAccepted command g × SensorLate contents g actor row seen limit)
  late_row_over actor row seen limit command graph_file (k, same) = (k.0, k.1, of command k.0 k.2.0 k.2.1)
    where
      of : (c : Command) (g : Graph) → NoFreeCycle g → CauseOfText c (fault.LateRow actor row seen limit) left contents g (graph_file.name ∷ []) r → IsRunCommand c × IsAccepted c g × SensorLate contents g actor row seen limit
      of (Run workers clock log) g free h = (tt, (free, λ reads. h.0), h.1)
      of Check g free h = absurd h.0
      of Meaning g free h = absurd h.0
      of Slacks g free h = absurd h.0

  late_row : (actor row seen limit : ℕ) (order : Option Order) → Ends (Some (fault.LateRow actor row seen limit)) left order contents blocks r w → OverGraph order contents blocks (λ command graph_file g. IsRunCommand command × IsAccepted command g × SensorLate contents g actor row seen limit)
  late_row actor row seen limit None k = absurd (let e = k.0 in cc)
  late_row actor row seen limit (Some (over command graph_file)) k = late_row_over actor row seen limit command graph_file k
  late_row actor row seen limit (Some (make n workers)) k = absurd k
  late_row actor row seen limit (Some (migrate graph_file)) k = absurd k.1
  late_row actor row seen limit (Some (audit graph_file log)) k = late_row_over actor row seen limit paced_run graph_file k.2
  late_row actor row seen limit (Some (replay graph_file air workers log)) k = late_row_over actor row seen limit paced_run graph_file k.2

  -- the platform that stopped a run, as its recorded turns show
  pub stopped : (g : Graph) (workers : ℕ) (clock : ClockChoice) (platform : ℕ) (f : TurnFault) → RunStops contents g workers clock left platform f → OnPlatform left g platform (λ v. Shows g v.turns (state_at v) f)
  stopped g workers clock platform f stop = let (v, at, is, shows, before) = stop.run.fact.kept.ends in (v, at, ap (λ (p : Parts). p.graph) (stop.run.fact.kept.all.plans platform v at) ∙ stop.graph, subst (λ z. Shows z v.turns (state_at v) f) stop.graph shows)

  -- a run that began is of a graph whose senders can send in time
  feasible : (g : Graph) (workers : ℕ) (clock : ClockChoice) (platform : ℕ) (f : TurnFault) → RunStops contents g workers clock left platform f → IsFeasible g
  feasible g workers clock platform f stop = subst IsFeasible stop.graph stop.run.admitted.feasible

  -- no message is late in a paced run
  pub never_paced : (g : Graph) (workers : ℕ) (clock : ClockChoice) (platform actor : ℕ) (tag : Tag) (reading limit : ℕ) → RunStops contents g workers clock left platform (turn.Late actor tag reading limit) → clock ≢ Paced
  never_paced g workers clock platform actor tag reading limit stop paced = late (stop.run.fact.paced paced).all_claims_made
    where
      late : turn.Late actor tag reading limit ≡ turn.Long → ⊥
      late e = cc

  late_message : (platform actor : ℕ) (tag : Tag) (reading limit : ℕ) (order : Option Order) → Ends (Some (fault.LateMessage platform actor tag reading limit)) left order contents blocks r w →
      OverGraph order contents blocks (λ command graph_file g. IsNotPaced command × IsAccepted command g × OnPlatform left g platform (λ v. ShowsLate g v.turns actor tag reading limit))
  late_message platform actor tag reading limit None k = absurd (let e = k.0 in cc)
  late_message platform actor tag reading limit (Some (over command graph_file)) (k, same) = (k.0, k.1, of command k.0 k.2.0 k.2.1)
    where
      of : (c : Command) (g : Graph) → NoFreeCycle g → CauseOfText c (fault.LateMessage platform actor tag reading limit) left contents g (graph_file.name ∷ []) r → IsNotPaced c × IsAccepted c g × OnPlatform left g platform (λ v. ShowsLate g v.turns actor tag reading limit)
      of (Run workers clock log) g free h = (never_paced g workers clock platform actor tag reading limit h, (free, λ reads. feasible g workers clock platform (turn.Late actor tag reading limit) h), stopped g workers clock platform (turn.Late actor tag reading limit) h)
      of Check g free h = absurd h.0
      of Meaning g free h = absurd h.0
      of Slacks g free h = absurd h.0
  late_message platform actor tag reading limit (Some (make n workers)) k = absurd k
  late_message platform actor tag reading limit (Some (migrate graph_file)) k = absurd k.1
  late_message platform actor tag reading limit (Some (audit graph_file log)) k = absurd (not_true k.0)
  late_message platform actor tag reading limit (Some (replay graph_file air workers log)) k = absurd (not_true k.0)

  long : (platform : ℕ) (order : Option Order) → Ends (Some (fault.Long (Some platform))) left order contents blocks r w → OverGraph order contents blocks (λ command graph_file g. IsRunCommand command × IsAccepted command g × OnPlatform left g platform (λ v. ShowsLong g (state_at v)))
  long platform None k = absurd (let e = k.0 in cc)
  long platform (Some (over command graph_file)) (k, same) = (k.0, k.1, of command k.0 k.2.0 k.2.1)
    where
      of : (c : Command) (g : Graph) → NoFreeCycle g → CauseOfText c (fault.Long (Some platform)) left contents g (graph_file.name ∷ []) r → IsRunCommand c × IsAccepted c g × OnPlatform left g platform (λ v. ShowsLong g (state_at v))
      of (Run workers clock log) g free h = (tt, (free, λ reads. feasible g workers clock platform turn.Long h), stopped g workers clock platform turn.Long h)
      of Check g free h = absurd h.0
      of Meaning g free h = absurd h.0
      of Slacks g free h = absurd h.0
  long platform (Some (make n workers)) k = absurd k
  long platform (Some (migrate graph_file)) k = absurd k.1
  long platform (Some (audit graph_file log)) k = absurd (not_true k.0)
  long platform (Some (replay graph_file air workers log)) k =
      let leaves : LeavesReplay log (Some (fault.Long (Some platform))) left w k.plan (of_run k.plan.graph k.over.rows) k.over.fact.recorded = k.over.fact.fact in
      (k.plan.graph, k.file, (tt, (k.over.admitted.no_free_cycle, λ reads. k.over.admitted.feasible), stopped_in_air left k.plan (of_run k.plan.graph k.over.rows) k.over.fact.recorded platform turn.Long leaves.replayed))

  long_meaning : (order : Option Order) → Ends (Some (fault.Long None)) left order contents blocks r w → OverGraph order contents blocks (λ command graph_file g. (command ≡ Meaning) × NoFreeCycle g × MeansLong contents g)
  long_meaning None k = absurd (let e = k.0 in cc)
  long_meaning (Some (over command graph_file)) (k, same) = (k.0, k.1, of command k.0 k.2.0 k.2.1)
    where
      of : (c : Command) (g : Graph) → NoFreeCycle g → CauseOfText c (fault.Long None) left contents g (graph_file.name ∷ []) r → (c ≡ Meaning) × NoFreeCycle g × MeansLong contents g
      of (Run workers clock log) g free h = absurd h
      of Check g free h = absurd h.0
      of Meaning g free h = (refl, free, h.0)
      of Slacks g free h = absurd h.0
  long_meaning (Some (make n workers)) k = absurd k
  long_meaning (Some (migrate graph_file)) k = absurd k.1
  long_meaning (Some (audit graph_file log)) k = absurd (not_true k.0)
  long_meaning (Some (replay graph_file air workers log)) k = absurd (not_true k.0)

  -- the log could not be read, and no other order asks for one
  log_unread : (order : Option Order) → Ends (Some fault.ReadLog) left order contents blocks r w → OverLog order (λ graph_file log. RunWith contents blocks graph_file (λ plan rows. LastFails plan.graph (graph_file.name ∷ []) log r))
  log_unread None k = absurd (let e = k.0 in cc)
  log_unread (Some (over command graph_file)) (k, same) = of command k.0 k.2.1
    where
      of : (c : Command) (g : Graph) → CauseOfText c fault.ReadLog left contents g (graph_file.name ∷ []) r → ⊥
      of (Run workers clock log) g h = h
      of Check g h = h.0
      of Meaning g h = h.0
      of Slacks g h = h.0
  log_unread (Some (make n workers)) k = absurd k
  log_unread (Some (migrate graph_file)) k = absurd k.1
  log_unread (Some (audit graph_file log)) k = k.1
  log_unread (Some (replay graph_file air workers log)) k = absurd (not_true k.0)

  unlawful : (v : Verdict) (order : Option Order) → Ends (Some (fault.Unlawful v)) left order contents blocks r w → OverLog order (λ graph_file log. RunWith contents blocks graph_file (OnLog contents log (λ plan rows bytes. IsUnlawful plan rows bytes v)))
  unlawful v None k = absurd (let e = k.0 in cc)
  unlawful v (Some (over command graph_file)) (k, same) = of command k.0 k.2.1
    where
      of : (c : Command) (g : Graph) → CauseOfText c (fault.Unlawful v) left contents g (graph_file.name ∷ []) r → ⊥
      of (Run workers clock log) g h = h
      of Check g h = h.0
      of Meaning g h = h.0
      of Slacks g h = h.0
  unlawful v (Some (make n workers)) k = absurd k
  unlawful v (Some (migrate graph_file)) k = absurd k.1
  unlawful v (Some (audit graph_file log)) k = k.1
  unlawful v (Some (replay graph_file air workers log)) k = absurd (not_true k.0)

  lawful : (order : Option Order) (graph_file : GraphFile) (log : List ℕ) → order ≡ Some (audit graph_file log) → Ends None left order contents blocks r w → RunWith contents blocks graph_file (OnLog contents log Accepts)
  lawful order graph_file log is k = let h = subst (λ o. Ends None left o contents blocks r w) is k in h.1

  -- the recording could not be read, and no other order asks for one
  air_unread : (order : Option Order) → Ends (Some fault.ReadAir) left order contents blocks r w → OverAir order (λ graph_file air. RunWith contents blocks graph_file (λ plan rows. LastFails plan.graph (graph_file.name ∷ []) air r))
  air_unread None k = absurd (let e = k.0 in cc)
  air_unread (Some (over command graph_file)) (k, same) = of command k.0 k.2.1
    where
      of : (c : Command) (g : Graph) → CauseOfText c fault.ReadAir left contents g (graph_file.name ∷ []) r → ⊥
      of (Run workers clock log) g h = h
      of Check g h = h.0
      of Meaning g h = h.0
      of Slacks g h = h.0
  air_unread (Some (make n workers)) k = absurd k
  air_unread (Some (migrate graph_file)) k = absurd k.1
  air_unread (Some (audit graph_file log)) k = absurd (not_true k.0)
  air_unread (Some (replay graph_file air workers log)) k = k.1

  air_fails : (f : AirFault) (order : Option Order) → Ends (Some (fault.Air f)) left order contents blocks r w → OverAir order (λ graph_file air. RunWith contents blocks graph_file (λ plan rows. OfBytes (contents air) (λ bytes. air_of plan.graph bytes ≡ Err f)))
  air_fails f None k = absurd (let e = k.0 in cc)
  air_fails f (Some (over command graph_file)) (k, same) = of command k.0 k.2.1
    where
      of : (c : Command) (g : Graph) → CauseOfText c (fault.Air f) left contents g (graph_file.name ∷ []) r → ⊥
      of (Run workers clock log) g h = h
      of Check g h = h.0
      of Meaning g h = h.0
      of Slacks g h = h.0
  air_fails f (Some (make n workers)) k = absurd k
  air_fails f (Some (migrate graph_file)) k = absurd k.1
  air_fails f (Some (audit graph_file log)) k = absurd (not_true k.0)
  air_fails f (Some (replay graph_file air workers log)) k = k.1

  late_air : (platform actor : ℕ) (tag : Tag) (reading limit row : ℕ) (order : Option Order) → Ends (Some (fault.LateAir platform actor tag reading limit row)) left order contents blocks r w →
      OverAir order (λ graph_file air. RunWith contents blocks graph_file (OnAir contents air (λ plan rows recorded. (recorded.breach ≡ Some row) × OnPlatform left plan.graph platform (λ v. ShowsLate plan.graph v.turns actor tag reading limit))))
  late_air platform actor tag reading limit row None k = absurd (let e = k.0 in cc)
  late_air platform actor tag reading limit row (Some (over command graph_file)) (k, same) = of command k.0 k.2.1
    where
      of : (c : Command) (g : Graph) → CauseOfText c (fault.LateAir platform actor tag reading limit row) left contents g (graph_file.name ∷ []) r → ⊥
      of (Run workers clock log) g h = h
      of Check g h = h.0
      of Meaning g h = h.0
      of Slacks g h = h.0
  late_air platform actor tag reading limit row (Some (make n workers)) k = absurd k
  late_air platform actor tag reading limit row (Some (migrate graph_file)) k = absurd k.1
  late_air platform actor tag reading limit row (Some (audit graph_file log)) k = absurd (not_true k.0)
  late_air platform actor tag reading limit row (Some (replay graph_file air workers log)) k =
      let leaves : LeavesReplay log (Some (fault.LateAir platform actor tag reading limit row)) left w k.plan (of_run k.plan.graph k.over.rows) k.over.fact.recorded = k.over.fact.fact in
      record {
        plan = k.plan;
        file = k.file;
        over = record {
          admitted = k.over.admitted;
          rows = k.over.rows;
          sensors = k.over.sensors;
          in_time = k.over.in_time;
          fact = record {
            recorded = k.over.fact.recorded;
            file = k.over.fact.file;
            bounds = k.over.fact.bounds;
            fact = (leaves.breach, stopped_in_air left k.plan (of_run k.plan.graph k.over.rows) k.over.fact.recorded platform (turn.Late actor tag reading limit) leaves.replayed);
          };
        };
      }

  write : (order : Option Order) → Ends (Some fault.Write) left order contents blocks r w → Rose w.before w.now
  write None k = absurd (let e = k.0 in cc)
  write (Some (over command graph_file)) k = k.0
  write (Some (make n workers)) k = k.0
  write (Some (migrate graph_file)) k = k.1
  write (Some (audit graph_file log)) k = k.2
  write (Some (replay graph_file air workers log)) k = k.0

  unwritten : (f : Fault) (order : Option Order) → f ≢ fault.Write → Ends (Some f) left order contents blocks r w → w.written_now ≡ w.written_before
  unwritten fault.Memory None never k = k.1
  unwritten fault.Usage None never k = k.2
  unwritten (fault.Graph f) None never k = k.2
  unwritten (fault.Cycle actors) None never k = k.2
  unwritten (fault.Infeasible send offset slack) None never k = k.2
  unwritten (fault.Ring sends gain) None never k = k.2
  unwritten fault.ReadLog None never k = k.2
  unwritten (fault.Unlawful v) None never k = k.2
  unwritten (fault.LateAir platform actor tag reading limit row) None never k = k.2
  unwritten (fault.Air f) None never k = k.2
  unwritten fault.ReadAir None never k = k.2
  unwritten (fault.Sensor actor f) None never k = k.2
  unwritten (fault.LateRow actor row seen limit) None never k = k.2
  unwritten (fault.LateMessage platform actor tag reading limit) None never k = k.2
  unwritten (fault.Long platform) None never k = k.2
  unwritten (fault.Read file) None never k = k.2
  unwritten fault.Write order never k = absurd (never refl)
  unwritten fault.Memory (Some (over command graph_file)) never k = k.1
  unwritten fault.Usage (Some (over command graph_file)) never k = absurd k
  unwritten (fault.Graph f) (Some (over command graph_file)) never k = k.2
  unwritten (fault.Cycle actors) (Some (over command graph_file)) never k = k.1
  unwritten (fault.Infeasible send offset slack) (Some (over command graph_file)) never k = k.1
  unwritten (fault.Ring sends gain) (Some (over command graph_file)) never k = k.1
  unwritten fault.ReadLog (Some (over command graph_file)) never k = k.1
  unwritten (fault.Unlawful v) (Some (over command graph_file)) never k = k.1
  unwritten (fault.LateAir platform actor tag reading limit row) (Some (over command graph_file)) never k = k.1
  unwritten (fault.Air f) (Some (over command graph_file)) never k = k.1
  unwritten fault.ReadAir (Some (over command graph_file)) never k = k.1
  unwritten (fault.Sensor actor f) (Some (over command graph_file)) never k = k.1
  unwritten (fault.LateRow actor row seen limit) (Some (over command graph_file)) never k = k.1
  unwritten (fault.LateMessage platform actor tag reading limit) (Some (over command graph_file)) never k = k.1
  unwritten (fault.Long platform) (Some (over command graph_file)) never k = k.1
  unwritten (fault.Read None) (Some (over command graph_file)) never k = k.2
  unwritten (fault.Read (Some actor)) (Some (over command graph_file)) never k = k.1
  unwritten fault.Memory (Some (make n workers)) never k = k.1
  unwritten fault.Memory (Some (migrate graph_file)) never k = k.2
  unwritten fault.Usage (Some (make n workers)) never k = absurd k
  unwritten fault.Usage (Some (migrate graph_file)) never k = k.2
  unwritten (fault.Graph f) (Some (make n workers)) never k = absurd k
  unwritten (fault.Graph f) (Some (migrate graph_file)) never k = k.2
  unwritten (fault.Cycle actors) (Some (make n workers)) never k = absurd k
  unwritten (fault.Cycle actors) (Some (migrate graph_file)) never k = k.2
  unwritten (fault.Infeasible send offset slack) (Some (make n workers)) never k = absurd k
  unwritten (fault.Infeasible send offset slack) (Some (migrate graph_file)) never k = k.2
  unwritten (fault.Ring sends gain) (Some (make n workers)) never k = absurd k
  unwritten fault.ReadLog (Some (make n workers)) never k = absurd k
  unwritten (fault.Unlawful v) (Some (make n workers)) never k = absurd k
  unwritten (fault.LateAir platform actor tag reading limit row) (Some (make n workers)) never k = absurd k
  unwritten (fault.Air f) (Some (make n workers)) never k = absurd k
  unwritten fault.ReadAir (Some (make n workers)) never k = absurd k
  unwritten (fault.Ring sends gain) (Some (migrate graph_file)) never k = k.2
  unwritten fault.ReadLog (Some (migrate graph_file)) never k = k.2
  unwritten (fault.Unlawful v) (Some (migrate graph_file)) never k = k.2
  unwritten (fault.LateAir platform actor tag reading limit row) (Some (migrate graph_file)) never k = k.2
  unwritten (fault.Air f) (Some (migrate graph_file)) never k = k.2
  unwritten fault.ReadAir (Some (migrate graph_file)) never k = k.2
  unwritten (fault.Sensor actor f) (Some (make n workers)) never k = absurd k
  unwritten (fault.Sensor actor f) (Some (migrate graph_file)) never k = k.2
  unwritten (fault.LateRow actor row seen limit) (Some (make n workers)) never k = absurd k
  unwritten (fault.LateRow actor row seen limit) (Some (migrate graph_file)) never k = k.2
  unwritten (fault.LateMessage platform actor tag reading limit) (Some (make n workers)) never k = absurd k
  unwritten (fault.LateMessage platform actor tag reading limit) (Some (migrate graph_file)) never k = k.2
  unwritten (fault.Long platform) (Some (make n workers)) never k = absurd k
  unwritten (fault.Long platform) (Some (migrate graph_file)) never k = k.2
  unwritten (fault.Read file) (Some (make n workers)) never k = absurd k
  unwritten (fault.Read file) (Some (migrate graph_file)) never k = k.2
  unwritten fault.Memory (Some (audit graph_file log)) never k = k.1
  unwritten (fault.Unlawful v) (Some (audit graph_file log)) never k = k.2
  unwritten fault.ReadLog (Some (audit graph_file log)) never k = k.2
  unwritten (fault.Graph f) (Some (audit graph_file log)) never k = k.2.2
  unwritten (fault.Read None) (Some (audit graph_file log)) never k = k.2.2
  unwritten (fault.Read (Some actor)) (Some (audit graph_file log)) never k = k.2.1
  unwritten (fault.Cycle actors) (Some (audit graph_file log)) never k = k.2.1
  unwritten (fault.Infeasible send offset slack) (Some (audit graph_file log)) never k = k.2.1
  unwritten (fault.Sensor actor f) (Some (audit graph_file log)) never k = k.2.1
  unwritten (fault.LateRow actor row seen limit) (Some (audit graph_file log)) never k = k.2.1
  unwritten fault.Usage (Some (audit graph_file log)) never k = absurd (not_true k.0)
  unwritten (fault.Ring sends gain) (Some (audit graph_file log)) never k = absurd (not_true k.0)
  unwritten (fault.LateMessage platform actor tag reading limit) (Some (audit graph_file log)) never k = absurd (not_true k.0)
  unwritten (fault.Long platform) (Some (audit graph_file log)) never k = absurd (not_true k.0)
  unwritten (fault.LateAir platform actor tag reading limit row) (Some (audit graph_file log)) never k = absurd (not_true k.0)
  unwritten (fault.Air f) (Some (audit graph_file log)) never k = absurd (not_true k.0)
  unwritten fault.ReadAir (Some (audit graph_file log)) never k = absurd (not_true k.0)
  unwritten f (Some (replay graph_file air workers log)) never k = unwritten_in_air left graph_file air log contents blocks r w f never k

  missed_are : (order : Option Order) → Ends None left order contents blocks r w → left.misses ≡ flat_map missed_by left.platforms
  missed_are None k = absurd (let e = k.0 in cc)
  missed_are (Some (over command graph_file)) (text, (g, file, (free, writes)), appends) = of command writes
    where
      of : (c : Command) → WritesText c contents g left text → left.misses ≡ flat_map missed_by left.platforms
      of (Run workers clock log) run = run.finished.missed
      of Check h = h.0.0 ∙ sym (ap (flat_map missed_by) h.0.1)
      of Meaning h = h.0.0 ∙ sym (ap (flat_map missed_by) h.0.1)
      of Slacks h = h.0.0 ∙ sym (ap (flat_map missed_by) h.0.1)
  missed_are (Some (make n workers)) (none, text, run, appends) = none ∙ sym run.none_missed
  missed_are (Some (migrate graph_file)) k = k.0.0 ∙ sym (ap (flat_map missed_by) k.0.1)
  missed_are (Some (audit graph_file log)) k = k.0.0 ∙ sym (ap (flat_map missed_by) k.0.1)
  missed_are (Some (replay graph_file air workers log)) k = k.over.fact.fact.misses refl

pub caused : (status : ℕ) (o : Option Fault) (left : Leaves) (order : Option Order) (contents : Contents) (blocks : List Named) (r : SourceCall) (w : SinkCall) → status ≡ status_of o left.misses → Ends o left order contents blocks r w → CauseTable status o left order contents blocks r w
caused status o left order contents blocks r w is ends = record {
  usage = λ e. usage left contents blocks r w order (by fault.Usage e);
  graph_unread = λ e. graph_unread left contents blocks r w order (by (fault.Read None) e);
  graph = λ f e. graph left contents blocks r w f order (by (fault.Graph f) e);
  cycle = λ actors e. cycle left contents blocks r w actors order (by (fault.Cycle actors) e);
  infeasible = λ send offset slack e. infeasible left contents blocks r w send offset slack order (by (fault.Infeasible send offset slack) e);
  ring = λ sends gain e. ring left contents blocks r w sends gain order (by (fault.Ring sends gain) e);
  sensor_unread = λ actor e. sensor_unread left contents blocks r w actor order (by (fault.Read (Some actor)) e);
  sensor = λ actor f e. sensor left contents blocks r w actor f order (by (fault.Sensor actor f) e);
  late_row = λ actor row seen limit e. late_row left contents blocks r w actor row seen limit order (by (fault.LateRow actor row seen limit) e);
  late_message = λ platform actor tag reading limit e. late_message left contents blocks r w platform actor tag reading limit order (by (fault.LateMessage platform actor tag reading limit) e);
  long = λ platform e. long left contents blocks r w platform order (by (fault.Long (Some platform)) e);
  long_meaning = λ e. long_meaning left contents blocks r w order (by (fault.Long None) e);
  log_unread = λ e. log_unread left contents blocks r w order (by fault.ReadLog e);
  unlawful = λ v e. unlawful left contents blocks r w v order (by (fault.Unlawful v) e);
  lawful = λ graph_file log words e. lawful left contents blocks r w order graph_file log words (subst (λ z. Ends z left order contents blocks r w) e ends);
  air_unread = λ e. air_unread left contents blocks r w order (by fault.ReadAir e);
  air = λ f e. air_fails left contents blocks r w f order (by (fault.Air f) e);
  late_air = λ platform actor tag reading limit row e. late_air left contents blocks r w platform actor tag reading limit row order (by (fault.LateAir platform actor tag reading limit row) e);
  write = λ e. write left contents blocks r w order (by fault.Write e);
  unwritten = λ f e never. unwritten left contents blocks r w f order never (by f e);
  missed = (λ five. none_misses o left.misses (sym is ∙ five), λ h. is ∙ ap (λ z. status_of z left.misses) h.0 ∙ is_missed left.misses h.1);
  missed_are = λ e. missed_are left contents blocks r w order (subst (λ z. Ends z left order contents blocks r w) e ends);
}
  where
    by : (f : Fault) → o ≡ Some f → Ends (Some f) left order contents blocks r w
    by f e = subst (λ z. Ends z left order contents blocks r w) e ends
