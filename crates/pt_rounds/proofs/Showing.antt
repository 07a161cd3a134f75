-- A visit at the reading of a round, in a paced run.
use Rattle.std.proofs.Common.{◌≡◌, ℕ, ◌-◌, ◌<◌, ◌^◌, false, List, Some, length, set, slice_get, sym, ap, subst, ◌∙◌, refl}
use Rattle.std.proofs.lemmas.Option.{slice_get_within}
use Rattle.pt_tags.specs.declared.message.Message.{Message}
use Rattle.pt_types.specs.declared.firing.Done.{Done}
use Rattle.pt_types.specs.declared.rows.Row.{Row}
use Rattle.pt_semantics.specs.Platform.{State}
use Rattle.pt_semantics.specs.Rounds.{Makes}
use Rattle.pt_semantics.specs.Rows.{FitRows}
use Rattle.pt_semantics.specs.Turn.{Turn}
use Rattle.pt_semantics.specs.Visits.{VisitRecord, RunState}
use Rattle.pt_semantics.proofs.LawfulEdges.{wired}
use Rattle.pt_laws.proofs.Onward.{Onward, makes_onward}
use Rattle.pt_causality.specs.Ranked.{level_of}
use Rattle.pt_offsets.specs.Plans.{IsAdmitted, Parts}
use Rattle.pt_offsets.specs.Timings.{offset_of}
use Rattle.pt_turn.specs.Platforms.{PlatformView, level_at, raised_to, state_at}
use Rattle.pt_turn.specs.Turned.{MayCome, is_late}
use Rattle.pt_visits.specs.Pipes.{arriving}
use Rattle.pt_visits.specs.Visited.{IsVisited}
use Rattle.pt_engine.specs.Shown.{AreShown, is_fault}
use Rattle.pt_engine.specs.Showing.{OnTimeSoFar, ShowsVisit}
use Rattle.pt_engine.proofs.Showing.{all_on_time, may_come as comes, visit_shows as shows_visit}
use Rattle.pt_engine.proofs.Passing.{raised_same}

-- a visit at reading c of a round, and what the platforms, pipes and results represent after it
pub record Shows (plan : Parts) (rows : ℕ → List Row) (c i : ℕ) (x : RunState) (w : PlatformView) (turn : Turn) (platforms : List PlatformView) (piped : List (List Message)) (results : List (List Done)) : Type 0 where
  pub made : VisitRecord
  pub together : RunState
  pub platform : made.platform ≡ i
  pub turn_is : made.turn ≡ turn
  pub late : made.late ≡ false
  pub in_time : is_late w.fault ≡ false
  pub fault : made.fault ≡ is_fault w.fault
  pub makes : Makes plan.graph (level_of plan.ranks) c x made together
  pub onward : Onward plan.graph (level_of plan.ranks) rows (offset_of plan.offsets) c together
  pub shown : AreShown plan rows together platforms piped results

so_far : (plan : Parts) (rows : ℕ → List Row) (c : ℕ) (x : RunState) → IsAdmitted plan → FitRows plan.graph rows → Onward plan.graph (level_of plan.ranks) rows (offset_of plan.offsets) c x → (i : ℕ) → i < length plan.graph.platforms → OnTimeSoFar plan.graph (level_of plan.ranks) rows i x
so_far plan rows c x admitted fits onward i lt = all_on_time plan.graph (level_of plan.ranks) rows x (wired plan.graph admitted.lawful) admitted.levels fits onward.legal onward.linked i lt (onward.later i lt).foreign

-- a platform may take the messages that are on their way to it
pub may_come : (plan : Parts) (rows : ℕ → List Row) (c : ℕ) (x : RunState) (platforms : List PlatformView) (pipes : List (List Message)) (results : List (List Done)) → IsAdmitted plan → FitRows plan.graph rows → Onward plan.graph (level_of plan.ranks) rows (offset_of plan.offsets) c x → AreShown plan rows x platforms pipes results → (i : ℕ) (v : PlatformView) → slice_get platforms i ≡ Some v → MayCome v.plan.graph (level_at v) v.number (state_at v) (arriving v.plan.graph v.number 0 pipes)
may_come plan rows c x platforms pipes results admitted fits onward shown i v there =
    comes plan rows x platforms pipes results admitted fits shown i v there (so_far plan rows c x admitted fits onward i (subst (λ n. i < n) shown.all.count (slice_get_within platforms i v there)))

-- a visit of a platform is a turn of the round
pub visit_shows : (plan : Parts) (rows : ℕ → List Row) (c : ℕ) (x : RunState) (platforms : List PlatformView) (pipes : List (List Message)) (results : List (List Done)) → IsAdmitted plan → FitRows plan.graph rows → Onward plan.graph (level_of plan.ranks) rows (offset_of plan.offsets) c x → AreShown plan rows x platforms pipes results → (i : ℕ) (v w : PlatformView) (dones next : List Done) (piped : List (List Message)) → slice_get platforms i ≡ Some v → slice_get results i ≡ Some dones → c < 2 ^ 64 →
    (visited : IsVisited 64 c dones next v w pipes piped) → Shows plan rows c i x w visited.turn (set platforms i w) piped (set results i next)
visit_shows plan rows c x platforms pipes results admitted fits onward shown i v w dones next piped there mine small visited =
    let lt : i < length plan.graph.platforms = subst (λ n. i < n) shown.all.count (slice_get_within platforms i v there) in
    let at_reading : raised_to v.reading c ≡ c = raised_same v.reading c (λ p e. (onward.later i lt).reading p (ap (λ (z : State). z.reading) (shown.states i v there) ∙ e)) in
    let one : ShowsVisit plan rows 64 (λ l. 64 - length (x.on_way l)) c i x w visited.turn (set platforms i w) piped (set results i next) =
    subst (λ r. ShowsVisit plan rows 64 (λ l. 64 - length (x.on_way l)) r i x w visited.turn (set platforms i w) piped (set results i next)) at_reading
    (shows_visit plan rows x platforms pipes results admitted fits shown 64 c i v w dones next piped there mine (so_far plan rows c x admitted fits onward i lt) (λ l. 64 - length (x.on_way l)) (λ l link at home. refl) (subst (λ r. r < 2 ^ 64) (sym at_reading) small) visited) in
    let on = makes_onward plan.graph (level_of plan.ranks) rows (offset_of plan.offsets) admitted.offsets.units (wired plan.graph admitted.lawful) admitted.feasible c x one.together one.made (subst (λ n. n < length plan.graph.platforms) (sym one.platform) lt) onward one.makes in
    record {
      made = one.made;
      together = one.together;
      platform = one.platform;
      turn_is = one.turn_is;
      late = on.0;
      in_time = sym one.late ∙ on.0;
      fault = one.fault;
      makes = one.makes;
      onward = on.1;
      shown = one.shown (sym one.late ∙ on.0);
    }
