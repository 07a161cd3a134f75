-- The true times at which something can happen, as the engine sees them and by the definitions.
use Rattle.std.proofs.Common.{◌≡◌, ◌∙◌, ℕ, ◌<◌, false, List, [], Some, length, slice_get, sym, ap, subst, inl, inr, ⊎_elim}
use Rattle.std.proofs.lemmas.Option.{slice_get_within}
use Rattle.pt_types.specs.declared.firing.Done.{Done}
use Rattle.pt_types.specs.declared.rows.Row.{Row}
use Rattle.pt_types.specs.Lookups.{platform_of}
use Rattle.pt_semantics.specs.Lists.{IsIn}
use Rattle.pt_semantics.specs.Paced.{IsCandidate}
use Rattle.pt_semantics.specs.Platform.{State}
use Rattle.pt_semantics.specs.Visits.{RunState}
use Rattle.pt_semantics.specs.Wired.{IsWired}
use Rattle.pt_offsets.specs.Plans.{Parts}
use Rattle.pt_types.specs.declared.air.Air.{Air}
use Rattle.pt_types.specs.declared.air.InAir.{InAir}
use Rattle.pt_semantics.specs.Arrivals.{AirwayView}
use Rattle.pt_turn.specs.Platforms.{PlatformView}
use Rattle.pt_replay.specs.Visits.Moments.{IsArrival, IsLeastNumber, IsMoment, IsReading, OfOne}
use Rattle.pt_semantics.specs.TrueTime.{true_time}
use Rattle.pt_replay_laws.specs.ReplayState.{AllFinished, CanHappen, IsNextTime, ReplayState}
use Rattle.pt_engine.specs.Asked.{AreAllFinished, HaveNoFault}
use Rattle.pt_engine.specs.Shown.{AreThere}
use Rattle.pt_engine.proofs.Listed.{member}
use Rattle.pt_engine.proofs.Views.{all_finished, each_finished, from_view, to_view, view}
use Rattle.pt_replay.specs.Shown.{AreShownInReplay}

-- the platforms alone
abbrev pub platforms_in : ReplayState → RunState
platforms_in x = record { at = x.at; did = x.did; on_way = λ l. [] }

module _ (plan : Parts) (rows : ℕ → List Row) (air : Air) (x : ReplayState) (platforms : List PlatformView) (airways : List AirwayView) (results : List (List Done)) (shown : AreShownInReplay plan rows x platforms airways results) where
  pub are_there : AreThere plan rows (platforms_in x) platforms
  are_there = record { all = shown.all; states = shown.states; kept_turns = shown.kept_turns }

  pub all_done : AreAllFinished platforms → AllFinished plan.graph x
  all_done done = all_finished plan rows (platforms_in x) platforms are_there done

  pub each_done : AllFinished plan.graph x → AreAllFinished platforms
  each_done done = each_finished plan rows (platforms_in x) platforms are_there done

  module _ (is_wired : IsWired plan.graph) (none : HaveNoFault platforms) where
    -- no platform has a fault, so each airway is as it is by the definitions
    same_way : (l : ℕ) (a : AirwayView) → slice_get airways l ≡ Some a → x.airways l ≡ a
    same_way l a at =
        let link = member plan.graph.links l (subst (λ n. l < n) shown.links (slice_get_within airways l a at)) in
        let there = view plan rows (platforms_in x) platforms are_there (platform_of plan.graph link.0.to) (is_wired.homes link.0.to) in
        shown.ways l link.0 there.0 a link.1 there.1 (none (platform_of plan.graph link.0.to) there.0 there.1) at

    pub moment : (time : ℕ) → CanHappen plan.graph air x time → IsMoment air platforms airways time
    moment time h =
        ⊎_elim
        (λ (one : (i : ℕ) × (i < length plan.graph.platforms) × ((x.at i).closed ≡ false) × (reading : ℕ) × IsCandidate plan.graph i (x.at i) reading × (time ≡ true_time air i reading)).
        let (i, lt, is_open, reading, candidate, e) = one in
        let there = view plan rows (platforms_in x) platforms are_there i lt in
        inl (
          i,
          there.0,
          there.1,
          (
            reading,
            to_view plan rows (platforms_in x) platforms are_there (λ (p : Parts) k (s : State). s.closed ≡ false) i there.0 there.1 is_open,
            to_view plan rows (platforms_in x) platforms are_there (λ (p : Parts) k s. IsCandidate p.graph k s reading) i there.0 there.1 candidate,
            e ∙ ap (λ k. true_time air k reading) (sym (shown.all.numbers i there.0 there.1)),
          ),
        ))
        (λ (one : (l : ℕ) × (l < length plan.graph.links) × (m : InAir) × IsIn m (x.airways l).on_way × (time ≡ m.arrives)).
        let (l, lt, m, mem, e) = one in
        let there = member airways l (subst (λ n. l < n) (sym shown.links) lt) in
        inr (l, there.0, there.1, (m, subst (λ (a : AirwayView). IsIn m a.on_way) (same_way l there.0 there.1) mem, e)))
        h

    pub happens : (time : ℕ) → IsMoment air platforms airways time → CanHappen plan.graph air x time
    happens time h =
        ⊎_elim
        (λ (one : OfOne (IsReading air) platforms time).
        let (i, v, at, of) = one in
        let (reading, is_open, candidate, e) = of in
        inl (
          i,
          subst (λ n. i < n) shown.all.count (slice_get_within platforms i v at),
          from_view plan rows (platforms_in x) platforms are_there (λ (p : Parts) k (s : State). s.closed ≡ false) i v at is_open,
          reading,
          from_view plan rows (platforms_in x) platforms are_there (λ (p : Parts) k s. IsCandidate p.graph k s reading) i v at candidate,
          e ∙ ap (λ k. true_time air k reading) (shown.all.numbers i v at),
        ))
        (λ (one : OfOne IsArrival airways time).
        let (l, a, at, of) = one in
        let (m, mem, e) = of in
        inr (l, subst (λ n. l < n) shown.links (slice_get_within airways l a at), m, subst (λ (z : AirwayView). IsIn m z.on_way) (sym (same_way l a at)) mem, e))
        h

    -- the least such time
    pub next_is : (time : ℕ) → IsLeastNumber (IsMoment air platforms airways) (Some time) → IsNextTime plan.graph air x time
    next_is time least = (happens time least.0, λ other h. least.1 other (moment other h))
