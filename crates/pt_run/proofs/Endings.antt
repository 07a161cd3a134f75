-- How a command over a graph file ends, by how it ended over the graph.
use Rattle.std.proofs.Common.{◌≡◌, ◌≢◌, ◌⊎◌, ◌∙◌, ℕ, List, [], Option, Some, None, Result, Ok, Err, refl, sym, ap, subst, inl, inr, ⊎_elim}
use Rattle.pt_types.specs.declared.graph.Graph.{Graph}
use Rattle.pt_types.specs.declared.rows.Row.{Row}
use Rattle.pt_blocks.specs.declared.blocks.Named.{Named}
use Rattle.pt_graph_text.specs.declared.fault.GraphFault.{GraphFault}
use Rattle.pt_graph_text.specs.declared.fault.GraphFault.TheVariants as graph
use Rattle.pt_semantics.specs.Ranks.{AreLevels}
use Rattle.pt_semantics.proofs.Acyclic.{levels_forbid_cycles}
use Rattle.pt_causality.specs.declared.cycle.CycleFault.{CycleFault}
use Rattle.pt_causality.specs.declared.cycle.CycleFault.TheVariants as cycle
use Rattle.pt_causality.specs.Ranked.{CauseOfCycle}
use Rattle.pt_offsets.specs.declared.fault.OffsetFault.{OffsetFault}
use Rattle.pt_offsets.specs.declared.fault.OffsetFault.TheVariants as offset
use Rattle.pt_offsets.specs.Faults.{CauseOfOffset}
use Rattle.pt_slacks.specs.declared.slack.SlackFault.{SlackFault}
use Rattle.pt_slacks.specs.declared.slack.SlackFault.TheVariants as slack
use Rattle.pt_slacks.specs.Rings.{CauseOfSlacks}
use Rattle.pt_slacks.specs.Text.{IsSlacked}
use Rattle.pt_sensor_files.specs.declared.recorded_fault.LateRows.{LateRows}
use Rattle.pt_sensor_files.specs.declared.recorded_fault.LateRows.TheVariants.{Taken}
use Rattle.pt_sensor_files.specs.declared.recorded_fault.RecordedFault.{RecordedFault}
use Rattle.pt_sensor_files.specs.declared.recorded_fault.RecordedFault.TheVariants as rows
use Rattle.pt_sensor_files.specs.Asked.{ReadFails}
use Rattle.pt_io.specs.Calls.{Contents, SourceCall, SinkCall}
use Rattle.pt_sensor_files.specs.Recorded.{AreRows, CauseOfRows, SensorUnread}
use Rattle.pt_io.specs.Clocks.{ClockView}
use Rattle.pt_run.specs.declared.fault.Fault.{Fault}
use Rattle.pt_run.specs.declared.fault.Fault.TheVariants as fault
use Rattle.pt_run.specs.declared.outcome.Ending.{Ending}
use Rattle.pt_run.specs.Causes.{IsTooLongForAll}
use Rattle.pt_run.specs.Due.{AfterCycles, AfterFile, AfterOffsets, AfterRows, Answer, Answers, AnswersAsDue, IsMeantBy, IsSlackedBy, OnlyPuts, PutsText, RefusedWith, RefusesAsDue, UnlessMemory}
use Rattle.pt_run.specs.Faults.{fault_of_cycle, fault_of_graph, fault_of_offset, fault_of_rows, fault_of_slacks}
use Rattle.pt_run.specs.Texts.{PutsOrReports, PutBy, left_by, left_with}
use Rattle.pt_run.specs.Written.{FitOnAll, HasNothing, IsChecked, IsTables, Leaves, leaves_nothing}
use Rattle.pt_run.specs.GraphFiles.{graph_by}
use Rattle.pt_words.specs.Grammar.{GraphFile}
use Rattle.pt_sensor_files.specs.Bytes.{OfBytes}

-- where nothing is left, there are no misses and no platforms
pub has_nothing : (o : Ending) (before now : List ClockView) → left_by o ≡ leaves_nothing → HasNothing (left_with o before now)
has_nothing o before now e = (ap (λ (l : Leaves). l.misses) e, ap (λ (l : Leaves). l.platforms) e)

-- a text that is put, or a fault that is reported
module _ (o : Ending) (r : SourceCall) (w : SinkCall) where
  -- the answer of the call
  abbrev answer : Answer
  answer = record { fault = o.fault; left = left_by o; read = r; wrote = w }

  given : {X : Type 0} (text : X → List ℕ) (made : Result X Fault) → PutsOrReports text made o w → UnlessMemory answer (Answers text made)
  given text (Ok x) (none, put) = inr (has_nothing o [] [] none, by_outcome o.fault refl put)
    where
      by_outcome : (e : Option Fault) → o.fault ≡ e → PutBy e (text x) w → PutsText answer (λ z. z ≡ text x)
      by_outcome None is all = inl (is, text x, refl, all)
      by_outcome (Some f) is part = inr (is ∙ ap Some part.0, part.1, text x, refl, part.2)
  given text (Err f) (none, is, still) = ⊎_elim (λ (same : o.fault ≡ Some f). inr (same, has_nothing o [] [] none, still)) (λ (memory : o.fault ≡ Some fault.Memory). inl (memory, has_nothing o [] [] none, still)) is

  -- is so as is due
  pub given_due : {X : Type 0} (text : X → List ℕ) (made : Result X Fault) (Due : Answer → Type 0) → AnswersAsDue text made r Due → PutsOrReports text made o w → UnlessMemory answer Due
  given_due text made Due due h = ⊎_elim (λ (out : RefusedWith fault.Memory answer). inl out) (λ (k : Answers text made answer). due answer refl k) (given text made h)

-- a refusal that was reported, or there was no memory for its line
pub reported_due : (a : Answer) (f reported : Fault) (Due : Answer → Type 0) → HasNothing a.left → a.wrote.written_now ≡ a.wrote.written_before → a.fault ≡ Some reported → (reported ≡ f) ⊎ (reported ≡ fault.Memory) → RefusesAsDue f a.read Due → UnlessMemory a Due
reported_due a f reported Due nothing still is report refuses = ⊎_elim (λ (same : reported ≡ f). refuses a refl (is ∙ ap Some same, nothing, still)) (λ (none : reported ≡ fault.Memory). inl (is ∙ ap Some none, nothing, still)) report

-- The graph file.

module _ (contents : Contents) (blocks : List Named) (graph_file : GraphFile) (r : SourceCall) where
  -- it could not be read
  pub graph_unread : ReadFails [] graph_file.name r → RefusesAsDue (fault.Read None) r (λ a. AfterFile contents blocks graph_file a (λ g. ⊥))
  graph_unread failed a is out = inr (inl (out, subst (ReadFails [] graph_file.name) (sym is) failed))

  -- its text has a fault
  pub graph_fails : (f : GraphFault) → (f ≢ graph.Memory → OfBytes (contents graph_file.name) (λ bytes. graph_by blocks graph_file bytes ≡ Err f)) → RefusesAsDue (fault_of_graph f) r (λ a. AfterFile contents blocks graph_file a (λ g. ⊥))
  graph_fails graph.Memory h a is out = inl out
  graph_fails graph.TooLong h a is out = inr (inr (inl (graph.TooLong, out, h (λ e. absurd cc))))
  graph_fails graph.NotJson h a is out = inr (inr (inl (graph.NotJson, out, h (λ e. absurd cc))))
  graph_fails (graph.Member p) h a is out = inr (inr (inl (graph.Member p, out, h (λ e. absurd cc))))
  graph_fails (graph.TooMany w) h a is out = inr (inr (inl (graph.TooMany w, out, h (λ e. absurd cc))))
  graph_fails (graph.Range p) h a is out = inr (inr (inl (graph.Range p, out, h (λ e. absurd cc))))
  graph_fails (graph.Name p) h a is out = inr (inr (inl (graph.Name p, out, h (λ e. absurd cc))))
  graph_fails (graph.Repeated p) h a is out = inr (inr (inl (graph.Repeated p, out, h (λ e. absurd cc))))
  graph_fails (graph.Unknown p) h a is out = inr (inr (inl (graph.Unknown p, out, h (λ e. absurd cc))))
  graph_fails (graph.WireEnd p) h a is out = inr (inr (inl (graph.WireEnd p, out, h (λ e. absurd cc))))
  graph_fails (graph.CrossWire p) h a is out = inr (inr (inl (graph.CrossWire p, out, h (λ e. absurd cc))))
  graph_fails (graph.FedTwice p) h a is out = inr (inr (inl (graph.FedTwice p, out, h (λ e. absurd cc))))
  graph_fails (graph.Unfed actor p) h a is out = inr (inr (inl (graph.Unfed actor p, out, h (λ e. absurd cc))))
  graph_fails (graph.LinkEnd p) h a is out = inr (inr (inl (graph.LinkEnd p, out, h (λ e. absurd cc))))
  graph_fails (graph.Block p) h a is out = inr (inr (inl (graph.Block p, out, h (λ e. absurd cc))))

  -- a call that it refuses goes on with no graph
  pub past_file : (a : Answer) (Then : Graph → Type 0) → UnlessMemory a (λ a. AfterFile contents blocks graph_file a (λ g. ⊥)) → UnlessMemory a (λ a. AfterFile contents blocks graph_file a Then)
  past_file a Then (inl out) = inl out
  past_file a Then (inr (inl k)) = inr (inl k)
  past_file a Then (inr (inr (inl k))) = inr (inr (inl k))
  past_file a Then (inr (inr (inr k))) = absurd k.2

-- What was made, as is due.

-- there was no memory
pub memory_due : {X : Type 0} (text : X → List ℕ) (r : SourceCall) (Due : Answer → Type 0) → AnswersAsDue text (Err fault.Memory) r Due
memory_due text r Due a is out = inl out

-- a text is put
pub text_due : {X : Type 0} (text : X → List ℕ) (x : X) (r : SourceCall) (Text : List ℕ → Type 0) → Text (text x) → AnswersAsDue text (Ok x) r (λ a. OnlyPuts a Text)
text_due text x r Text it a is (none, puts) = inr (none, ⊎_elim (λ all. inl (all.0, all.1, subst Text (sym all.2) it, all.3)) (λ part. inr (part.0, part.1, part.2, subst Text (sym part.3) it, part.4)) puts)

-- the graph has levels, so no cycle takes no time
pub free_due : {X : Type 0} (text : X → List ℕ) (made : Result X Fault) (g : Graph) (level : ℕ → ℕ) (r : SourceCall) (Due : Answer → Type 0) → AreLevels g level → AnswersAsDue text made r Due → AnswersAsDue text made r (λ a. AfterCycles g a (Due a))
free_due text made g level r Due levels due a is h = ⊎_elim (λ (out : RefusedWith fault.Memory a). inl out) (λ (k : Due a). inr (inr (levels_forbid_cycles g level levels, k))) (due a is h)

-- a cycle takes no time
pub cycle_due : {X : Type 0} (text : X → List ℕ) (f : CycleFault) (g : Graph) (r : SourceCall) (Due : Answer → Type 0) → CauseOfCycle f g → AnswersAsDue text (Err (fault_of_cycle f)) r (λ a. AfterCycles g a (Due a))
cycle_due text cycle.Memory g r Due k a is out = inl out
cycle_due text (cycle.Cycle actors) g r Due k a is out = inr (inl (actors, out, k))

-- a sender can't send in time
pub offset_due : {X : Type 0} (text : X → List ℕ) (f : OffsetFault) (g : Graph) (r : SourceCall) (Due : Answer → Type 0) → CauseOfOffset f g → AnswersAsDue text (Err (fault_of_offset f)) r (λ a. AfterOffsets g a (Due a))
offset_due text offset.Memory g r Due k a is out = inl out
offset_due text (offset.Infeasible send o slack) g r Due k a is out = inr (inl (send, o, slack, out, k))

-- no slacks do
pub ring_due : {X : Type 0} (text : X → List ℕ) (f : SlackFault) (g : Graph) (r : SourceCall) → CauseOfSlacks f g → AnswersAsDue text (Err (fault_of_slacks f)) r (IsSlackedBy g)
ring_due text slack.Memory g r k a is out = inl out
ring_due text (slack.Ring sends gain) g r k a is out = inr (inl (sends, gain, out, k))

-- a sensor has no rows
pub rows_due : {X : Type 0} (text : X → List ℕ) (late : LateRows) (f : RecordedFault) (contents : Contents) (g : Graph) (r : SourceCall) (Then : Answer → (ℕ → List Row) → Type 0) → CauseOfRows late f contents g [] r → AnswersAsDue text (Err (fault_of_rows f)) r (λ a. AfterRows late contents g [] a (Then a))
rows_due text late rows.Memory contents g r Then k a is out = inl out
rows_due text late (rows.Read actor) contents g r Then k a is out = inr (inl (actor, out, subst (SensorUnread late contents g actor []) (sym is) k))
rows_due text late (rows.Sensor actor f) contents g r Then k a is out = inr (inr (inl (actor, f, out, k)))
rows_due text late (rows.Late actor row seen limit) contents g r Then k a is out = inr (inr (inr (inl (actor, row, seen, limit, out, k.0, k.1))))

-- the rows were read
pub read_due : {X : Type 0} (text : X → List ℕ) (made : Result X Fault) (contents : Contents) (g : Graph) (r : SourceCall) (all : ℕ → List Row) → AreRows contents g all → AnswersAsDue text made r (IsMeantBy g all) → AnswersAsDue text made r (λ a. AfterRows Taken contents g [] a (λ rows. IsMeantBy g rows a))
read_due text made contents g r all are due a is h = ⊎_elim (λ (out : RefusedWith fault.Memory a). inl out) (λ (k : IsMeantBy g all a). inr (inr (inr (inr (all, are, (λ x. tt), k))))) (due a is h)

-- the meaning is too long, or its tables are put
pub long_due : {X : Type 0} (text : X → List ℕ) (g : Graph) (all : ℕ → List Row) (r : SourceCall) → IsTooLongForAll g all → AnswersAsDue text (Err (fault.Long None)) r (IsMeantBy g all)
long_due text g all r long a is out = inr (inl (out, long))

pub meant_due : {X : Type 0} (text : X → List ℕ) (x : X) (g : Graph) (all : ℕ → List Row) (r : SourceCall) → IsTables g all (FitOnAll g) (text x) → AnswersAsDue text (Ok x) r (IsMeantBy g all)
meant_due text x g all r it a is h = ⊎_elim (λ (out : RefusedWith fault.Memory a). inl out) (λ (k : OnlyPuts a (IsTables g all (FitOnAll g))). inr (inr k)) (text_due text x r (IsTables g all (FitOnAll g)) it a is h)

-- the offsets and margins are put
pub checked_due : {X : Type 0} (text : X → List ℕ) (x : X) (g : Graph) (r : SourceCall) → IsChecked g (text x) → AnswersAsDue text (Ok x) r (λ a. AfterOffsets g a (OnlyPuts a (IsChecked g)))
checked_due text x g r it a is h = ⊎_elim (λ (out : RefusedWith fault.Memory a). inl out) (λ (k : OnlyPuts a (IsChecked g)). inr (inr (it.feasible, k))) (text_due text x r (IsChecked g) it a is h)

-- the least slacks are put
pub slacked_due : {X : Type 0} (text : X → List ℕ) (x : X) (g : Graph) (r : SourceCall) → IsSlacked g (text x) → AnswersAsDue text (Ok x) r (IsSlackedBy g)
slacked_due text x g r it a is h = ⊎_elim (λ (out : RefusedWith fault.Memory a). inl out) (λ (k : OnlyPuts a (IsSlacked g)). inr (inr k)) (text_due text x r (IsSlacked g) it a is h)
