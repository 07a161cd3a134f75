-- Which files a source was asked for.
use Rattle.std.proofs.Common.{◌≡◌, ◌⊎◌, ℕ, zero, suc, List, [], ◌∷◌, ◌+◌, ◌++◌, Option, Some, None, Result, Ok, Err, IfErr, take, append_assoc, refl, sym, ap, subst, ◌∙◌, inl, inr, ⊎_elim}
use Rattle.pt_types.specs.declared.graph.Graph.{Graph}
use Rattle.pt_types.specs.declared.graph.Actor.{Actor}
use Rattle.pt_blocks.specs.declared.blocks.Named.{Named}
use Rattle.pt_types.specs.declared.rows.Row.{Row}
use Rattle.pt_graph_text.specs.declared.fault.GraphFault.{GraphFault}
use Rattle.pt_graph_text.specs.declared.fault.GraphFault.TheVariants as graph
use Rattle.pt_causality.specs.declared.cycle.CycleFault.{CycleFault}
use Rattle.pt_causality.specs.declared.cycle.CycleFault.TheVariants as cycle
use Rattle.pt_sensor_files.specs.declared.recorded_fault.RecordedFault.{RecordedFault}
use Rattle.pt_sensor_files.specs.declared.recorded_fault.RecordedFault.TheVariants as rows
use Rattle.pt_sensor_files.specs.Asked.{Asks, AsksUpTo, file_of, files_before, sensor_files}
use Rattle.pt_io.specs.Calls.{Contents, SourceCall, SinkCall}
use Rattle.pt_sensor_files.proofs.Asking.{append_none, asks_more, asks_none}
use Rattle.pt_turn.specs.declared.fault.TurnFault.{TurnFault}
use Rattle.pt_turn.specs.declared.fault.TurnFault.TheVariants as turn
use Rattle.pt_turn.specs.Platforms.{PlatformView}
use Rattle.pt_run.specs.declared.outputs.Outputs.{Outputs}
use Rattle.pt_run.specs.declared.fault.Fault.{Fault}
use Rattle.pt_run.specs.declared.fault.Fault.TheVariants as fault
use Rattle.pt_run.specs.declared.last_file.LastFile.{LastFile}
use Rattle.pt_run.specs.declared.last_file.LastFile.TheVariants.{Log, Air}
use Rattle.pt_run.specs.declared.outcome.Ending.{Ending}
use Rattle.pt_run.specs.declared.outcome.Stopped.{Stopped}
use Rattle.pt_words.specs.declared.orders.Command.{Command}
use Rattle.pt_run.specs.Asks.{AreAsked, AsksAlone, AsksFrom, AsksOf, AsksOver, Begins, all_sensors, actors_for}
use Rattle.pt_run.specs.Due.{AfterCycles, AfterOffsets, Answer, AnswersAsDue, EndsRefused, IsMeantBy, UnlessMemory}
use Rattle.pt_run.specs.Faults.{fault_of_cycle, fault_of_graph, fault_of_rows, fault_of_turn}
use Rattle.pt_run.specs.LastFiles.{unread_of}
use Rattle.pt_run.specs.Runs.{IsStop}
use Rattle.pt_run.specs.Texts.{HasEnded, OrMemory, PutBy, PutsOrReports, fault_in, stop_in}
use Rattle.pt_words.specs.Grammar.{GraphFile, Order, audit, make, migrate, over, replay}
use Rattle.pt_run.specs.Written.{leaves_nothing}
use Rattle.pt_run.proofs.Planned.{by_refusal}
use Rattle.pt_run.specs.GraphFiles.{graph_by}
use Rattle.pt_sensor_files.specs.Bytes.{OfBytes}

-- The first of some names.

begins_all : (all : List (List ℕ)) → Begins all all
begins_all all = ([], append_none all)

begins_none : (all : List (List ℕ)) → Begins [] all
begins_none all = (all, refl)

-- those of a part are those of the whole
begins_more : (part all more : List (List ℕ)) → Begins part all → Begins part (all ++ more)
begins_more part all more (rest, is) = (rest ++ more, sym (append_assoc part rest more) ∙ ap (λ xs. xs ++ more) is)

-- after others
begins_after : (first part all : List (List ℕ)) → Begins part all → Begins (first ++ part) (first ++ all)
begins_after first part all (rest, is) = (rest, append_assoc first part rest ∙ ap (λ xs. first ++ xs) is)

-- the files of the first actors are the first of all
first_files : (actors : List Actor) (n : ℕ) → Begins (sensor_files (take n actors)) (sensor_files actors)
first_files actors zero = begins_none (sensor_files actors)
first_files [] (suc n) = begins_none []
first_files (a ∷ actors) (suc n) = begins_after (file_of a.kind) (sensor_files (take n actors)) (sensor_files actors) (first_files actors n)

-- and of more
begins_up_to : (actors : List Actor) (n : ℕ) (more files : List (List ℕ)) → files ≡ sensor_files (take n actors) → Begins files (sensor_files actors ++ more)
begins_up_to actors n more files is = subst (λ xs. Begins xs (sensor_files actors ++ more)) (sym is) (begins_more (sensor_files (take n actors)) (sensor_files actors) more (first_files actors n))

-- where there are no actors, there are no files
no_files : (n : ℕ) → [] ≡ sensor_files (take n [])
no_files zero = refl
no_files (suc n) = refl

-- By the outcome.

-- however a call ends, its files are the first of all
begin : (outcome : Option Fault) (actors : List Actor) (last files : List (List ℕ)) → AreAsked outcome actors last files → Begins files (sensor_files actors ++ last)
begin (Some (fault.Graph f)) actors last files is = subst (λ xs. Begins xs (sensor_files actors ++ last)) (sym is) (begins_none (sensor_files actors ++ last))
begin (Some (fault.Read None)) actors last files is = subst (λ xs. Begins xs (sensor_files actors ++ last)) (sym is) (begins_none (sensor_files actors ++ last))
begin (Some (fault.Cycle found)) actors last files is = subst (λ xs. Begins xs (sensor_files actors ++ last)) (sym is) (begins_none (sensor_files actors ++ last))
begin (Some (fault.Infeasible send offset slack)) actors last files is = subst (λ xs. Begins xs (sensor_files actors ++ last)) (sym is) (begins_none (sensor_files actors ++ last))
begin (Some (fault.Ring sends gain)) actors last files is = subst (λ xs. Begins xs (sensor_files actors ++ last)) (sym is) (begins_none (sensor_files actors ++ last))
begin (Some (fault.Read (Some actor))) actors last files is = begins_up_to actors (actor + 1) last files is
begin (Some (fault.Sensor actor f)) actors last files is = begins_up_to actors (actor + 1) last files is
begin (Some (fault.LateRow actor row seen limit)) actors last files is = begins_up_to actors (actor + 1) last files is
begin (Some fault.Memory) actors last files is = is
begin outcome actors last files is = subst (λ xs. Begins xs (sensor_files actors ++ last)) (sym is) (begins_all (sensor_files actors ++ last))

-- where there are no files to ask for
none_to_ask : (outcome : Option Fault) → AreAsked outcome [] [] []
none_to_ask (Some (fault.Read (Some actor))) = no_files (actor + 1)
none_to_ask (Some (fault.Sensor actor f)) = no_files (actor + 1)
none_to_ask (Some (fault.LateRow actor row seen limit)) = no_files (actor + 1)
none_to_ask (Some fault.Memory) = begins_none []
none_to_ask outcome = refl

-- none, if the graph has a cycle that takes no time
cycle_refused : (f : CycleFault) (actors : List Actor) (last : List (List ℕ)) → AreAsked (Some (fault_of_cycle f)) actors last []
cycle_refused cycle.Memory actors last = begins_none (sensor_files actors ++ last)
cycle_refused (cycle.Cycle found) actors last = refl

-- Over a graph.

-- nothing was asked for, since nothing is to be
pub asks_no_files : (outcome : Option Fault) (before now : Option (List (List ℕ))) → now ≡ before → AsksOver outcome [] [] [] before now
asks_no_files outcome before now same = ([], none_to_ask outcome, asks_none before now same)

module _ (first : List (List ℕ)) (actors : List Actor) (last : List (List ℕ)) (before now : Option (List (List ℕ))) where
  -- if memory runs out for the line of a fault
  over_memory : (outcome : Option Fault) → AsksOver outcome first actors last before now → AsksOver (Some fault.Memory) first actors last before now
  over_memory outcome (files, are, asks) = (files, begin outcome actors last files are, asks)

  over_reported : (o : Option Fault) (f : Fault) → OrMemory o f → AsksOver (Some f) first actors last before now → AsksOver o first actors last before now
  over_reported o f reported h =
      ⊎_elim
      (λ (same : o ≡ Some f). subst (λ e. AsksOver e first actors last before now) (sym same) h)
      (λ (memory : o ≡ Some fault.Memory). subst (λ e. AsksOver e first actors last before now) (sym memory) (over_memory (Some f) h))
      reported

  -- nothing more is asked for while an answer is given
  pub given_asks : {X : Type 0} (text : X → List ℕ) (made : Result X Fault) (o : Ending) (w : SinkCall) → PutsOrReports text made o w → AsksOver (fault_in made) first actors last before now → AsksOver o.fault first actors last before now
  given_asks text (Ok made) o w (left, put) h = by_put o.fault put
    where
      by_put : (e : Option Fault) → PutBy e (text made) w → AsksOver e first actors last before now
      by_put None put = h
      by_put (Some f) put = subst (λ e. AsksOver (Some e) first actors last before now) (sym put.0) h
  given_asks text (Err f) o w (left, reported, same) h = over_reported o.fault f reported h

-- the graph has a cycle that takes no time
pub cycle_asks : (actors : List Actor) (last : List (List ℕ)) (before now : Option (List (List ℕ))) (f : CycleFault) → now ≡ before → AsksOver (Some (fault_of_cycle f)) [] actors last before now
cycle_asks actors last before now f same = ([], cycle_refused f actors last, asks_none before now same)

-- it has no plan
pub unplanned_asks : (actors : List Actor) (last : List (List ℕ)) (before now : Option (List (List ℕ))) (g : Graph) (o : Ending) → EndsRefused o (λ a. AfterCycles g a (AfterOffsets g a ⊥)) → now ≡ before → AsksOver o.fault [] actors last before now
unplanned_asks actors last before now g o refused same =
    by_refusal o g refused (λ e. AsksOver e [] actors last before now) (λ found. ([], refl, asks_none before now same)) (λ send offset slack. ([], refl, asks_none before now same)) ([], begins_none (sensor_files actors ++ last), asks_none before now same)

-- all were asked for, since nothing was refused
pub whole_asks : (actors : List Actor) (last : List (List ℕ)) (before now : Option (List (List ℕ))) → AsksOver None [] actors last before now → Asks before now (sensor_files actors ++ last)
whole_asks actors last before now (files, is, asks) = subst (Asks before now) is asks

-- by what a command asks for
pub of_command : (command other : Command) (o : Option Fault) (g : Graph) (before now : Option (List (List ℕ))) → command ≡ other → AsksOver o [] (actors_for other g) [] before now → AsksOver o [] (actors_for command g) [] before now
of_command command other o g before now is h = subst (λ d. AsksOver o [] (actors_for d g) [] before now) (sym is) h

-- By how its sensors' files were read.

module _ (g : Graph) (last : List (List ℕ)) (before now : Option (List (List ℕ))) where
  -- the rows are not available
  pub rows_asked : (f : RecordedFault) → AsksUpTo f g before now → AsksOver (Some (fault_of_rows f)) [] g.actors last before now
  rows_asked rows.Memory (n, asks) = (files_before g n, begins_up_to g.actors n last (files_before g n) refl, asks)
  rows_asked (rows.Read actor) asks = (files_before g (actor + 1), refl, asks)
  rows_asked (rows.Sensor actor f) asks = (files_before g (actor + 1), refl, asks)
  rows_asked (rows.Late actor row seen limit) asks = (files_before g (actor + 1), refl, asks)

  -- the last file was asked for after them
  pub last_asked : (middle : Option (List (List ℕ))) → Asks before middle (all_sensors g) → Asks middle now last → Asks before now (all_sensors g ++ last)
  last_asked middle asks more = asks_more before middle now (all_sensors g) last asks more

  -- it could not be read
  pub unread_asked : (file : LastFile) → Asks before now (all_sensors g ++ last) → AsksOver (Some (unread_of file)) [] g.actors last before now
  unread_asked Log asks = (all_sensors g ++ last, refl, asks)
  unread_asked Air asks = (all_sensors g ++ last, refl, asks)

  -- memory ran out once all were asked for
  pub memory_asked : Asks before now (all_sensors g ++ last) → AsksOver (Some fault.Memory) [] g.actors last before now
  memory_asked asks = (all_sensors g ++ last, begins_all (all_sensors g ++ last), asks)

  -- a platform stopped the run
  turn_asked : (platform : ℕ) (breach : Option ℕ) (f : TurnFault) → Asks before now (all_sensors g ++ last) → AsksOver (Some (fault_of_turn platform breach f)) [] g.actors last before now
  turn_asked platform breach turn.Long asks = (all_sensors g ++ last, refl, asks)
  turn_asked platform None (turn.Late actor tag reading limit) asks = (all_sensors g ++ last, refl, asks)
  turn_asked platform (Some row) (turn.Late actor tag reading limit) asks = (all_sensors g ++ last, refl, asks)

  -- or it finished, or memory ran out
  pub outcome_asks : (breach : Option ℕ) (stopped : Option (ℕ × TurnFault)) (platforms : List PlatformView) (ran : Result Outputs Stopped) → IfErr ran (IsStop breach stopped platforms) → Asks before now (all_sensors g ++ last) → AsksOver (stop_in ran) [] g.actors last before now
  outcome_asks breach stopped platforms (Ok ran) stops asks = (all_sensors g ++ last, refl, asks)
  outcome_asks breach None platforms (Err s) stops asks = subst (λ e. AsksOver (Some e) [] g.actors last before now) (sym stops.0) (memory_asked asks)
  outcome_asks breach (Some f) platforms (Err s) stops asks = subst (λ e. AsksOver (Some e) [] g.actors last before now) (sym stops.0) (turn_asked f.0 breach f.1 asks)

-- nothing is asked for after the sensors' files
pub all_rows_asked : (g : Graph) (before now : Option (List (List ℕ))) → Asks before now (all_sensors g) → Asks before now (all_sensors g ++ [])
all_rows_asked g before now asks = subst (Asks before now) (sym (append_none (all_sensors g))) asks

-- a meaning whose rows were available
module _ (g : Graph) (rows : ℕ → List Row) (r : SourceCall) (before now : Option (List (List ℕ))) (all : Asks before now (all_sensors g)) where
  abbrev refused : Fault → Answer
  refused f = record { fault = Some f; left = leaves_nothing; read = r; wrote = record { before = 0; now = 0; written_before = None; written_now = None } }

  asks_whole : (o : Option Fault) → AreAsked o g.actors [] (all_sensors g ++ []) → AsksOver o [] g.actors [] before now
  asks_whole o are = (all_sensors g ++ [], are, all_rows_asked g before now all)

  meant : (f : Fault) → UnlessMemory (refused f) (IsMeantBy g rows) → AsksOver (Some f) [] g.actors [] before now
  meant f (inl out) = subst (λ o. AsksOver o [] g.actors [] before now) (sym out.0) (asks_whole (Some fault.Memory) (begins_all (all_sensors g ++ [])))
  meant f (inr (inl long)) = subst (λ o. AsksOver o [] g.actors [] before now) (sym long.0.0) (asks_whole (Some (fault.Long None)) refl)
  meant f (inr (inr puts)) =
      ⊎_elim
      (λ text. subst (λ o. AsksOver o [] g.actors [] before now) (sym text.0) (asks_whole None refl))
      (λ part. subst (λ o. AsksOver o [] g.actors [] before now) (sym part.0) (asks_whole (Some fault.Write) refl))
      puts.1

  pub meant_asks : {X : Type 0} (text : X → List ℕ) (made : Result X Fault) → AnswersAsDue text made r (IsMeantBy g rows) → AsksOver (fault_in made) [] g.actors [] before now
  meant_asks text (Ok x) due = asks_whole None refl
  meant_asks text (Err f) due = meant f (due (refused f) refl (refl, (refl, refl), refl))

-- nothing more is asked for once a run or a replay ended
pub ended_asks : (ran : Result Outputs Stopped) (o : Ending) (w : SinkCall) (actors : List Actor) (last : List (List ℕ)) (before now : Option (List (List ℕ))) → HasEnded ran o w → AsksOver (stop_in ran) [] actors last before now → AsksOver o.fault [] actors last before now
ended_asks (Ok ran) o w actors last before now ends h = ⊎_elim (λ all. subst (λ e. AsksOver e [] actors last before now) (sym all.0) h) (λ part. subst (λ e. AsksOver e [] actors last before now) (sym part.0) h) ends
ended_asks (Err s) o w actors last before now ends h =
    ⊎_elim
    (λ is. subst (λ e. AsksOver e [] actors last before now) (sym is.0) h)
    (λ memory. subst (λ e. AsksOver e [] actors last before now) (sym memory.0) (over_memory [] actors last before now (Some s.fault) h))
    ends.0

-- From the graph file on.

module _ (contents : Contents) (blocks : List Named) (graph_file : GraphFile) (actors : Graph → List Actor) (last : List (List ℕ)) (first now : Option (List (List ℕ))) where
  -- it defines this graph
  pub asks_on : (g : Graph) (outcome : Option Fault) (asked : Option (List (List ℕ))) → OfBytes (contents graph_file.name) (λ bytes. graph_by blocks graph_file bytes ≡ Ok g) → Asks first asked (graph_file.name ∷ []) → AsksOver outcome [] (actors g) last asked now → AsksFrom outcome contents blocks graph_file actors last first now
  asks_on g outcome asked read asks (files, are, more) = inr (g, read, (files, are, asks_more first asked now (graph_file.name ∷ []) files asks more))

  -- and no other file is to be asked for
  pub asks_only : (g : Graph) (outcome : Option Fault) → OfBytes (contents graph_file.name) (λ bytes. graph_by blocks graph_file bytes ≡ Ok g) → Asks first now (graph_file.name ∷ []) → AsksFrom outcome contents blocks graph_file (λ g. []) [] first now
  asks_only g outcome read asks = inr (g, read, ([], none_to_ask outcome, subst (Asks first now) (sym (append_none (graph_file.name ∷ []))) asks))

  -- it gave no graph
  alone_memory : (outcome : Option Fault) → AsksAlone outcome graph_file first now → AsksAlone (Some fault.Memory) graph_file first now
  alone_memory (Some (fault.Graph f)) h = inr h
  alone_memory (Some (fault.Read None)) h = inr h
  alone_memory (Some fault.Memory) h = h
  alone_memory outcome h = absurd h

  from_memory : (outcome : Option Fault) → AsksFrom outcome contents blocks graph_file actors last first now → AsksFrom (Some fault.Memory) contents blocks graph_file actors last first now
  from_memory outcome (inl h) = inl (alone_memory outcome h)
  from_memory outcome (inr (g, read, h)) = inr (g, read, over_memory (graph_file.name ∷ []) (actors g) last first now outcome h)

  -- its fault, or that there is no memory for its line
  pub from_reported : (outcome : Option Fault) (f reported : Fault) → outcome ≡ Some reported → (reported ≡ f) ⊎ (reported ≡ fault.Memory) → AsksFrom (Some f) contents blocks graph_file actors last first now → AsksFrom outcome contents blocks graph_file actors last first now
  from_reported outcome f reported is report h = subst (λ o. AsksFrom o contents blocks graph_file actors last first now) (sym is)
      (⊎_elim
      (λ (same : reported ≡ f). subst (λ e. AsksFrom (Some e) contents blocks graph_file actors last first now) (sym same) h)
      (λ (memory : reported ≡ fault.Memory). subst (λ e. AsksFrom (Some e) contents blocks graph_file actors last first now) (sym memory) (from_memory (Some f) h))
      report)

  pub from_graph : (outcome : Option Fault) (f reported : Fault) → outcome ≡ Some reported → (reported ≡ f) ⊎ (reported ≡ fault.Memory) → AsksAlone (Some f) graph_file first now → AsksFrom outcome contents blocks graph_file actors last first now
  from_graph outcome f reported is report h = from_reported outcome f reported is report (inl h)

-- the graph file was fetched and has a fault
pub alone_asks : (f : GraphFault) (graph_file : GraphFile) (before now : Option (List (List ℕ))) → Asks before now (graph_file.name ∷ []) → AsksAlone (Some (fault_of_graph f)) graph_file before now
alone_asks graph.Memory graph_file before now asks = inr asks
alone_asks f graph_file before now asks = asks

-- memory ran out before the words were read
pub asked_nothing : (order : Option Order) (outcome : Option Fault) (contents : Contents) (blocks : List Named) (r : SourceCall) → outcome ≡ Some fault.Memory → Asks r.asked_before r.asked_now [] → AsksOf outcome order contents blocks r
asked_nothing None outcome contents blocks r is h = h
asked_nothing (Some (over command graph_file)) outcome contents blocks r is h = subst (λ o. AsksOf o (Some (over command graph_file)) contents blocks r) (sym is) (inl (inl h))
asked_nothing (Some (make number workers)) outcome contents blocks r is h = h
asked_nothing (Some (migrate graph_file)) outcome contents blocks r is h = subst (λ o. AsksOf o (Some (migrate graph_file)) contents blocks r) (sym is) (inl (inl h))
asked_nothing (Some (audit graph_file log)) outcome contents blocks r is h = subst (λ o. AsksOf o (Some (audit graph_file log)) contents blocks r) (sym is) (inl (inl h))
asked_nothing (Some (replay graph_file air workers log)) outcome contents blocks r is h = subst (λ o. AsksOf o (Some (replay graph_file air workers log)) contents blocks r) (sym is) (inl (inl h))
