-- How a replay over a graph ends, by how it ends over its plan.
use Rattle.std.proofs.Common.{◌≡◌, ◌≢◌, ℕ, ◌+◌, Bool, true, false, cond, List, [], Option, Some, None, Result, Ok, Err, IfErr, IfOk, length, take, refl, sym, ap, subst, ◌∙◌, inl, inr, ⊎_elim, arith}
use Rattle.std.specs.Prelude.{flat_map, nat_lt, string_bytes}
use Rattle.std.proofs.lemmas.Bool.Decides.{nat_tests}
use Rattle.std.proofs.lemmas.List.{length-take, take_all}
use Rattle.pt_io.specs.Causes.{Appends, AppendsPart, Rose}
use Rattle.csv.specs.Reading.{strip_bom}
use Rattle.csv.specs.declared.parser.State.TheVariants as st
use Rattle.pt_types.specs.declared.graph.Graph.{Graph}
use Rattle.pt_tags.specs.declared.tag.Tag.{Tag}
use Rattle.pt_types.specs.declared.rows.Row.{Row}
use Rattle.pt_semantics.proofs.Lookups.{none_some, same_some}
use Rattle.pt_causality.specs.Ranked.{level_of}
use Rattle.pt_offsets.specs.Plans.{Parts}
use Rattle.pt_turn.specs.declared.fault.TurnFault.{TurnFault}
use Rattle.pt_turn.specs.declared.fault.TurnFault.TheVariants as turn
use Rattle.pt_turn.specs.Platforms.{PlatformView}
use Rattle.pt_confluence.specs.Gathered.{HaveFinished}
use Rattle.pt_tables.specs.Misses.{miss_line}
use Rattle.pt_io.specs.Calls.{Contents, SourceCall, SinkCall}
use Rattle.pt_sensors.specs.declared.sensor_rows.SensorRows.{SensorRows}
use Rattle.pt_sensors.specs.Listed.{rows_for}
use Rattle.pt_sensors.specs.RowsOf.{next}
use Rattle.pt_sensors.specs.Places.{of_run as rows_of_run}
use Rattle.pt_types.specs.declared.air.Air.{Air}
use Rattle.pt_air.specs.declared.fault.AirFault.{AirFault}
use Rattle.pt_air.specs.declared.fault.AirFault.TheVariants as airs
use Rattle.pt_air.specs.declared.row.AirRow.{AirRow}
use Rattle.pt_air.specs.AirOf.{air_after_header, air_of, air_with, air_rows_of}
use Rattle.pt_air.specs.Rows.{◌>>=◌}
use Rattle.pt_replay.specs.Outcome.{IsOutcome as IsReplayOutcome}
use Rattle.pt_run.specs.declared.fault.Fault.{Fault}
use Rattle.pt_run.specs.declared.fault.Fault.TheVariants as fault
use Rattle.pt_run.specs.declared.outputs.Outputs.{Outputs}
use Rattle.pt_run.specs.declared.outcome.Ending.{Ending}
use Rattle.pt_run.specs.declared.outcome.Stopped.{Stopped}
use Rattle.pt_run.specs.Due.{AfterAdmission, AfterAir, Answer, HasReplayedBy, IsReplayed, RefusedWith, RefusesAsDue, StoppedWith, StopsAsDue, UnlessMemory}
use Rattle.pt_run.specs.Faults.{fault_of_air}
use Rattle.pt_run.specs.Leaving.{PutsMeaning}
use Rattle.pt_run.specs.Replaying.{FinishedReplay, HasReplayed, IsRecorded, LeavesReplay, NamesBreach, OnAir, has_replayed, stop_of_replay}
use Rattle.pt_run.specs.Runs.{IsOutput, IsStop, AreOutputs, RunOver, outputs_text}
use Rattle.pt_run.specs.Texts.{HasEnded, LeftAll, WroteRun, left_by, left_by_run}
use Rattle.pt_run.specs.Written.{Leaves}
use Rattle.pt_run.proofs.Endings.{has_nothing}
use Rattle.pt_run.proofs.ReplayInBounds.{never_late}
use Rattle.pt_run.proofs.Stages.{past_air}
use Rattle.pt_sensors.specs.Limits.{file_limits}
use Rattle.pt_sensor_files.specs.Bytes.{OfBytes}

-- What is read.

cut : {R : Type 0} (limit : ℕ) (e : R) (f : List ℕ → R) (bytes : List ℕ) →
    cond (nat_lt limit (length (take (limit + 1) bytes))) e (f (take (limit + 1) bytes)) ≡ cond (nat_lt limit (length bytes)) e (f bytes)
cut limit e f bytes =
    elim (nat_lt limit (length bytes))
    as (λ b. nat_lt limit (length bytes) ≡ b → cond (nat_lt limit (length (take (limit + 1) bytes))) e (f (take (limit + 1) bytes)) ≡ cond b e (f bytes)) [
      | true ↦ λ long.
          let more : nat_lt limit (length (take (limit + 1) bytes)) ≡ true = grind (arith, nat_tests, length-take (limit + 1) bytes) in
          rw more refl
      | false ↦ λ short.
          let all : take (limit + 1) bytes ≡ bytes = take_all _ _ (grind (arith, nat_tests)) in
          rw (all, short) refl
    ] refl

-- the first bytes of a recording, one more than it may have, say what all of them say
rows_of-fetched : (g : Graph) (bytes : List ℕ) → air_rows_of g (take ((file_limits g.claims).bytes + 1) bytes) ≡ air_rows_of g bytes
unfolding air_rows_of
rows_of-fetched g bytes = cut (file_limits g.claims).bytes (Err airs.TooLong) (λ bs. air_after_header g (next st.StartRecord (strip_bom bs))) bytes

pub air_of-fetched : (g : Graph) (bytes : List ℕ) → air_of g (take ((file_limits g.claims).bytes + 1) bytes) ≡ air_of g bytes
air_of-fetched g bytes = ap (λ (rows : Result (List AirRow) AirFault). rows >>= λ rows. Ok (air_with g rows)) (rows_of-fetched g bytes)

-- the recording has a fault
pub air_refused : (air : List ℕ) (contents : Contents) (g : Graph) (f : AirFault) (a : Answer) → (f ≢ airs.Memory → OfBytes (contents air) (λ bytes. air_of g bytes ≡ Err f)) → RefusedWith (fault_of_air f) a → UnlessMemory a (λ a. AfterAir air contents g [] a ⊥)
air_refused air contents g airs.Memory a h out = inl out
air_refused air contents g airs.TooLong a h out = inr (inr (inl (airs.TooLong, out, h (λ e. absurd cc))))
air_refused air contents g airs.Header a h out = inr (inr (inl (airs.Header, out, h (λ e. absurd cc))))
air_refused air contents g (airs.Form row) a h out = inr (inr (inl (airs.Form row, out, h (λ e. absurd cc))))
air_refused air contents g (airs.Unknown row) a h out = inr (inr (inl (airs.Unknown row, out, h (λ e. absurd cc))))
air_refused air contents g (airs.Number row) a h out = inr (inr (inl (airs.Number row, out, h (λ e. absurd cc))))
air_refused air contents g (airs.Repeated row) a h out = inr (inr (inl (airs.Repeated row, out, h (λ e. absurd cc))))
air_refused air contents g airs.TooManyRows a h out = inr (inr (inl (airs.TooManyRows, out, h (λ e. absurd cc))))

-- What is replayed.

-- a fact of what was read
pub over_air : (air : List ℕ) (contents : Contents) (p : Parts) (entries : List SensorRows) (recorded : Air) (Fact : Parts → (ℕ → List Row) → Air → Type 0) → IsRecorded contents air p entries recorded → Fact p (rows_of_run p.graph (rows_for entries)) recorded → RunOver contents p (OnAir contents air Fact p)
over_air air contents p entries recorded Fact is fact = record {
  admitted = is.admitted;
  rows = rows_for entries;
  sensors = is.sensors;
  in_time = is.in_time;
  fact = record { recorded = recorded; file = is.file; bounds = is.bounds; fact = fact };
}

-- the outputs of its platforms
pub replay_outputs : (log : Bool) (p : Parts) (rows : ℕ → List Row) (recorded : Air) (platforms : List PlatformView) (stopped : Option (ℕ × TurnFault)) (result : Result Outputs Stopped) → IsReplayOutcome p (level_of p.ranks) rows recorded platforms stopped →
    IfOk result (IsOutput stopped p log platforms) → IfOk result (λ ran. FinishedReplay log ran p rows recorded)
replay_outputs log p rows recorded platforms stopped (Ok ran) outcome (none, reported) =
    (subst (λ ps. IsReplayOutcome p (level_of p.ranks) rows recorded ps None) (sym reported.platforms_are) (subst (IsReplayOutcome p (level_of p.ranks) rows recorded platforms) none outcome), subst (λ ps. AreOutputs p log ps ran) (sym reported.platforms_are) reported)
replay_outputs log p rows recorded platforms stopped (Err s) outcome h = tt

-- nothing was replayed
pub unread_stops : (f : Fault) (s : Stopped) (air : List ℕ) (log : Bool) (contents : Contents) (g : Graph) (r : SourceCall) → s.fault ≡ f → s.platforms.items ≡ [] → RefusesAsDue f r (λ a. AfterAdmission contents g [] a (λ p rows. AfterAir air contents g [] a ⊥)) →
    StopsAsDue s.fault s.platforms.items r (IsReplayed air log contents g [])
unread_stops f s air log contents g r is_fault none refuses a is out = past_air air log contents g a (refuses a is (out.0 ∙ ap Some is_fault, (out.1.0, out.1.1 ∙ none), out.2))

-- memory ran out before it began
pub memory_stops : (s : Stopped) (air : List ℕ) (log : Bool) (contents : Contents) (g : Graph) (r : SourceCall) → s.fault ≡ fault.Memory → s.platforms.items ≡ [] → StopsAsDue s.fault s.platforms.items r (IsReplayed air log contents g [])
memory_stops s air log contents g r is_fault none a is out = inl (out.0 ∙ ap Some is_fault, (out.1.0, out.1.1 ∙ none), out.2)

-- what was put is the tables of the meaning, and the log if it is asked for
puts : (log : Bool) (ran : Outputs) (p : Parts) (rows : ℕ → List Row) (recorded : Air) (Put : List ℕ → Type 0) → FinishedReplay log ran p rows recorded → Put (outputs_text ran) → PutsMeaning p rows log ran.platforms.items Put
puts log ran p rows recorded Put (outcome, reported) put =
    let finished : HaveFinished p rows ran.platforms.items = record { all = outcome.all; fit = outcome.fit; finished = λ i v at. (outcome.ends i v at).1; linked = outcome.linked refl } in
    let text = reported.text rows finished in
    record { fit = outcome.fit; firings = text.0; meaning = text.1; text = subst Put text.2 put; held = reported.held }

-- a replay of a plan
module _ (air : List ℕ) (log : Bool) (contents : Contents) (p : Parts) (r : SourceCall) (w : SinkCall) where
  -- it ended so with this fault, or without one
  abbrev Due : Option Fault → Leaves → Type 0
  Due o left = UnlessMemory (record { fault = o; left = left; read = r; wrote = w }) (IsReplayed air log contents p.graph [])

  -- it ran
  replay_ran : (o : Option Fault) (left : Leaves) (Fact : Parts → (ℕ → List Row) → Air → Type 0) → RunOver contents p (OnAir contents air Fact p) → has_replayed o ≡ true → (o ≡ Some fault.Write → Rose w.before w.now) →
      ((rows : ℕ → List Row) (recorded : Air) → Fact p rows recorded → LeavesReplay log o left w p rows recorded) → Due o left
  replay_ran o left Fact h has rose to =
      let ran : HasReplayedBy air log contents (record { fault = o; left = left; read = r; wrote = w }) p (rows_of_run p.graph h.rows) = record {
        ran = has;
        leaves = record { recorded = h.fact.recorded; file = h.fact.file; bounds = h.fact.bounds; fact = to (rows_of_run p.graph h.rows) h.fact.recorded h.fact.fact };
        failed = rose;
      } in
      inr (inr (h.admitted.no_free_cycle, inr (h.admitted.feasible, inr (inr (inr (h.rows, h.sensors, h.in_time, (p, refl, h.admitted, inr (inr ran))))))))

  wrote : (ran : Outputs) (o : Ending) → HasReplayed contents air p log ran → WroteRun ran o w → Due o.fault (left_by o)
  wrote ran o run h =
      ⊎_elim
      (λ all. subst (Due o.fault) (sym all.1) (subst (λ f. Due f (left_by_run ran.misses.items ran.platforms.items)) (sym all.0) (done all.2)))
      (λ part. subst (Due o.fault) (sym part.1) (subst (λ f. Due f (left_by_run [] ran.platforms.items)) (sym part.0) (partly part.2 part.3)))
      h
    where
      done : Appends w.written_before w.written_now (outputs_text ran) → Due None (left_by_run ran.misses.items ran.platforms.items)
      done put = replay_ran None (left_by_run ran.misses.items ran.platforms.items) (FinishedReplay log ran) run refl (λ e. absurd cc) (λ rows recorded k. record {
        replayed = k.0;
        written = λ e. puts log ran p rows recorded (Appends w.written_before w.written_now) k put;
        misses = λ e. k.1.misses;
        part = λ e. absurd cc;
        unwritten = λ ne. absurd (ne refl);
        no_misses = λ ne. absurd (ne refl);
        breach = tt;
      })

      partly : Rose w.before w.now → AppendsPart w.written_before w.written_now (outputs_text ran) → Due (Some fault.Write) (left_by_run [] ran.platforms.items)
      partly rose put = replay_ran (Some fault.Write) (left_by_run [] ran.platforms.items) (FinishedReplay log ran) run refl (λ e. rose) (λ rows recorded k. record {
        replayed = k.0;
        written = λ e. absurd cc;
        misses = λ e. absurd cc;
        part = λ e. puts log ran p rows recorded (AppendsPart w.written_before w.written_now) k put;
        unwritten = λ ne. absurd (ne refl);
        no_misses = λ ne. refl;
        breach = tt;
      })

  reported : (f : Fault) (ps : List PlatformView) (o : Ending) → StopsAsDue f ps r (IsReplayed air log contents p.graph []) → LeftAll f ps o → w.written_now ≡ w.written_before → Due o.fault (left_by o)
  reported f ps o stops h still =
      ⊎_elim
      (λ is. stops (record { fault = o.fault; left = left_by o; read = r; wrote = w }) refl (is.0, (ap (λ (l : Leaves). l.misses) is.1, ap (λ (l : Leaves). l.platforms) is.1), still))
      (λ memory. inl (memory.0, has_nothing o [] [] memory.1, still))
      h

  pub replay_due : (g : Graph) → p.graph ≡ g → (ran : Result Outputs Stopped) (o : Ending) → IfOk ran (HasReplayed contents air p log) → IfErr ran (λ s. StopsAsDue s.fault s.platforms.items r (IsReplayed air log contents p.graph [])) → HasEnded ran o w →
      UnlessMemory (record { fault = o.fault; left = left_by o; read = r; wrote = w }) (IsReplayed air log contents g [])
  replay_due g same ran o run stops h = subst (λ z. UnlessMemory (record { fault = o.fault; left = left_by o; read = r; wrote = w }) (IsReplayed air log contents z [])) same (by_ran ran run stops h)
    where
      by_ran : (ran : Result Outputs Stopped) → IfOk ran (HasReplayed contents air p log) → IfErr ran (λ s. StopsAsDue s.fault s.platforms.items r (IsReplayed air log contents p.graph [])) → HasEnded ran o w → Due o.fault (left_by o)
      by_ran (Ok ran) run stops h = wrote ran o run h
      by_ran (Err s) run stops h = reported s.fault s.platforms.items o stops h.0 h.1

-- a platform stopped a replay of a plan
module _ (air : List ℕ) (log : Bool) (contents : Contents) (p : Parts) (f : Fault) (ps : List PlatformView) where
  abbrev Halts : Parts → (ℕ → List Row) → Air → Type 0
  Halts q rows recorded = IsReplayOutcome q (level_of q.ranks) rows recorded ps (stop_of_replay (Some f)) × NamesBreach (Some f) recorded

  halted : has_replayed (Some f) ≡ true → (f ≡ fault.Write → ⊥) → RunOver contents p (OnAir contents air Halts p) → (a : Answer) → StoppedWith f ps a → UnlessMemory a (IsReplayed air log contents p.graph [])
  halted has other run a out =
      replay_ran air log contents p a.read a.wrote a.fault a.left Halts run (subst (λ o. has_replayed o ≡ true) (sym out.0) has) (λ e. absurd (other (same_some f fault.Write (sym out.0 ∙ e)))) (λ rows recorded late. record {
        replayed = subst (λ z. IsReplayOutcome p (level_of p.ranks) rows recorded z (stop_of_replay a.fault)) (sym out.1.1) (subst (λ o. IsReplayOutcome p (level_of p.ranks) rows recorded ps (stop_of_replay o)) (sym out.0) late.0);
        written = λ e. absurd (none_some f (sym e ∙ out.0));
        misses = λ e. absurd (none_some f (sym e ∙ out.0));
        part = λ e. absurd (other (same_some f fault.Write (sym out.0 ∙ e)));
        unwritten = λ ne. out.2;
        no_misses = λ ne. out.1.0;
        breach = subst (λ o. NamesBreach o recorded) (sym out.0) late.1;
      })

-- what stopped a replay over what was read
module _ (air : List ℕ) (log : Bool) (contents : Contents) (p : Parts) (entries : List SensorRows) (recorded : Air) (read : IsRecorded contents air p entries recorded) (platforms : List PlatformView) where
  -- a late message: a row of the recording breaks a stated bound
  late_stops : (platform actor : ℕ) (tag : Tag) (reading limit : ℕ) → IsReplayOutcome p (level_of p.ranks) (rows_of_run p.graph (rows_for entries)) recorded platforms (Some (platform, turn.Late actor tag reading limit)) →
      (breach : Option ℕ) → recorded.breach ≡ breach → (s : Stopped) (r : SourceCall) → IsStop breach (Some (platform, turn.Late actor tag reading limit)) platforms s → StopsAsDue s.fault s.platforms.items r (IsReplayed air log contents p.graph [])
  late_stops platform actor tag reading limit outcome None none s r stop a is out =
      absurd (never_late p (rows_of_run p.graph (rows_for entries)) recorded platforms (Some (platform, turn.Late actor tag reading limit)) outcome (read.bounds.0 none) platform actor tag reading limit refl)
  late_stops platform actor tag reading limit outcome (Some row) breaks s r stop a is out =
      halted air log contents p (fault.LateAir platform actor tag reading limit row) platforms refl (λ e. absurd cc)
      (over_air air contents p entries recorded (Halts air log contents p (fault.LateAir platform actor tag reading limit row) platforms) read (outcome, breaks)) a
      (out.0 ∙ ap Some stop.0, (out.1.0, out.1.1 ∙ stop.1), out.2)

  -- or memory, or a platform that needed more claims than it may make
  pub replay_stops : (stopped : Option (ℕ × TurnFault)) → IsReplayOutcome p (level_of p.ranks) (rows_of_run p.graph (rows_for entries)) recorded platforms stopped → (s : Stopped) (r : SourceCall) → IsStop recorded.breach stopped platforms s →
      StopsAsDue s.fault s.platforms.items r (IsReplayed air log contents p.graph [])
  replay_stops None outcome s r stop a is out = inl (out.0 ∙ ap Some stop.0, (out.1.0, out.1.1 ∙ stop.1), out.2)
  replay_stops (Some (platform, turn.Long)) outcome s r stop a is out =
      halted air log contents p (fault.Long (Some platform)) platforms refl (λ e. absurd cc) (over_air air contents p entries recorded (Halts air log contents p (fault.Long (Some platform)) platforms) read (outcome, tt)) a
      (out.0 ∙ ap Some stop.0, (out.1.0, out.1.1 ∙ stop.1), out.2)
  replay_stops (Some (platform, turn.Late actor tag reading limit)) outcome s r stop a is out = late_stops platform actor tag reading limit outcome recorded.breach refl s r stop a is out

  -- over what was read
  pub replay_ran_over : (stopped : Option (ℕ × TurnFault)) (result : Result Outputs Stopped) → IsReplayOutcome p (level_of p.ranks) (rows_of_run p.graph (rows_for entries)) recorded platforms stopped → IfOk result (IsOutput stopped p log platforms) →
      IfOk result (HasReplayed contents air p log)
  replay_ran_over stopped (Ok ran) outcome output =
      over_air air contents p entries recorded (FinishedReplay log ran) read (replay_outputs log p (rows_of_run p.graph (rows_for entries)) recorded platforms stopped (Ok ran) outcome output)
  replay_ran_over stopped (Err s) outcome output = tt

  pub replay_stops_over : (stopped : Option (ℕ × TurnFault)) → IsReplayOutcome p (level_of p.ranks) (rows_of_run p.graph (rows_for entries)) recorded platforms stopped → (result : Result Outputs Stopped) (r : SourceCall) →
      IfErr result (IsStop recorded.breach stopped platforms) → IfErr result (λ s. StopsAsDue s.fault s.platforms.items r (IsReplayed air log contents p.graph []))
  replay_stops_over stopped outcome (Ok ran) r stop = tt
  replay_stops_over stopped outcome (Err s) r stop = replay_stops stopped outcome s r stop

-- the lines of what was missed
pub replay_lines : (stopped : Option (ℕ × TurnFault)) (p : Parts) (log : Bool) (platforms : List PlatformView) (result : Result Outputs Stopped) → IfOk result (IsOutput stopped p log platforms) →
    IfOk result (λ ran. string_bytes ran.lines ≡ flat_map (miss_line p.graph) ran.misses.items)
replay_lines stopped p log platforms (Ok ran) output = output.1.lines
replay_lines stopped p log platforms (Err s) output = tt
