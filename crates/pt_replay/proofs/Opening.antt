-- Before the first round.
use Rattle.std.proofs.Common.{◌≡◌, ◌∙◌, ℕ, zero, suc, ◌<◌, ◌≤◌, List, [], ◌∷◌, Some, length, replicate, slice_get, slice_index_or, refl, sym, ap, subst, arith}
use Rattle.std.proofs.lemmas.List.{length-replicate}
use Rattle.pt_tags.specs.declared.message.Message.{Message}
use Rattle.pt_types.specs.declared.firing.Done.{Done}
use Rattle.pt_types.specs.declared.rows.Row.{Row}
use Rattle.pt_types.specs.declared.graph.Graph.{Graph}
use Rattle.pt_types.specs.Lookups.{platform_of}
use Rattle.pt_semantics.specs.Lists.{Each}
use Rattle.pt_semantics.specs.Visits.{run_at_start}
use Rattle.pt_semantics.specs.Wired.{IsWired}
use Rattle.pt_semantics.proofs.LawfulEdges.{wired}
use Rattle.pt_semantics.proofs.Lookups.{none_some, same_some}
use Rattle.pt_offsets.specs.Plans.{Parts}
use Rattle.pt_types.specs.declared.air.Air.{Air}
use Rattle.pt_types.specs.declared.air.InAir.{InAir}
use Rattle.pt_semantics.specs.Arrivals.{AirwayView, empty_airway}
use Rattle.pt_turn.specs.Platforms.{PlatformView}
use Rattle.pt_replay.specs.Visits.Moments.{ArriveFrom, IsLeastNumber, IsMoment}
use Rattle.pt_replay_laws.specs.ReplayState.{replay_at_start}
use Rattle.pt_replay_laws.proofs.Ended.{replays_begin}
use Rattle.pt_engine.specs.Shown.{AreShown}
use Rattle.pt_engine.proofs.First.{AreOpened, shown_first}
use Rattle.pt_engine.proofs.Listed.{member}
use Rattle.pt_replay.specs.Shown.{AreShownInReplay}
use Rattle.pt_replay.specs.Passing.{PipesAreEmpty, IsBeforeRound}
use Rattle.pt_replay.proofs.Moments.{moment, next_is}

one_of : {X : Type 0} (n i : ℕ) (x y : X) → slice_get (replicate n x) i ≡ Some y → y ≡ x
one_of zero i x y e = absurd (none_some y e)
one_of (suc n) zero x y e = sym (same_some x y e)
one_of (suc n) (suc i) x y e = one_of n i x y e

all_empty : (n : ℕ) → Each (λ (pipe : List Message). pipe ≡ []) (replicate n [])
all_empty zero = tt
all_empty (suc n) = (refl, all_empty n)

-- no message arrives before time 0
all_zero : (n i : ℕ) → ◌≡◌ {A = ℕ} (slice_index_or (replicate n 0) i 0) 0
all_zero zero i = refl
all_zero (suc n) zero = refl
all_zero (suc n) (suc i) = all_zero n i

pub from_zero : (g : Graph) (count : ℕ) (times : List ℕ) (airways : List AirwayView) → times ≡ replicate count 0 → ArriveFrom g times airways
from_zero g count times airways is = λ l link a at at_a. each (slice_index_or times (platform_of g link.to) 0) (ap (λ (ts : List ℕ). slice_index_or ts (platform_of g link.to) 0) is ∙ all_zero count (platform_of g link.to)) a.on_way
  where
    each : (time : ℕ) → time ≡ 0 → (ms : List InAir) → Each (λ (m : InAir). time ≤ m.arrives) ms
    each time none [] = tt
    each time none (m ∷ ms) = (omega (arith, none), each time none ms)

-- with an empty pipe and an empty airway for each link
module _ (plan : Parts) (rows : ℕ → List Row) (air : Air) (platforms : List PlatformView) (airways : List AirwayView) (pipes : List (List Message)) (results : List (List Done)) (new : AreOpened plan rows platforms pipes results)
    (links : ℕ) (no_message : pipes ≡ replicate links []) (no_air : airways ≡ replicate links empty_airway) (transits : (i : ℕ) (v : PlatformView) → slice_get platforms i ≡ Some v → length air.transits ≡ length v.plan.graph.links) where
  links_are : links ≡ length plan.graph.links
  links_are = sym (length-replicate links []) ∙ ap length (sym no_message ∙ new.no_message) ∙ length-replicate (length plan.graph.links) []

  is_wired : IsWired plan.graph
  is_wired = wired plan.graph new.admitted.lawful

  pub empty : PipesAreEmpty plan.graph pipes
  empty = (ap length no_message ∙ length-replicate links [] ∙ links_are, subst (Each (λ (pipe : List Message). pipe ≡ [])) (sym no_message) (all_empty links))

  shown : AreShown plan rows (run_at_start plan.graph rows) platforms pipes results
  shown = shown_first plan rows platforms pipes results new

  shown_at_start : AreShownInReplay plan rows (replay_at_start plan.graph rows) platforms airways results
  shown_at_start = record {
    all = shown.all;
    states = shown.states;
    kept_turns = shown.kept_turns;
    links = ap length no_air ∙ length-replicate links empty_airway ∙ links_are;
    ways = λ l link v a at there none at_a. sym (one_of links l empty_airway a (subst (λ (z : List AirwayView). slice_get z l ≡ Some a) no_air at_a));
    pending = record { count = shown.count; each = shown.pending };
  }

  pub some_moment : ((time : ℕ) → IsMoment air platforms airways time → ⊥) → ⊥
  some_moment never =
      let begins = replays_begin plan.graph air rows is_wired (subst (λ n. 0 < n) new.ready.all.count new.some) in
      never begins.0 (moment plan rows air (replay_at_start plan.graph rows) platforms airways results shown_at_start is_wired new.ready.fresh.faults begins.0 begins.1)

  pub stands_first : (begins : ℕ) → IsLeastNumber (IsMoment air platforms airways) (Some begins) → IsBeforeRound plan rows air 0 begins platforms airways results
  stands_first begins least = record {
    admitted = new.admitted;
    fit = new.ready.fit;
    transits = (let one = member platforms 0 new.some in transits 0 one.0 one.1 ∙ ap (λ (p : Parts). length p.graph.links) (new.ready.all.plans 0 one.0 one.1));
    rounds = [];
    rounds_made = refl;
    state = replay_at_start plan.graph rows;
    run = record {
      begins = begins;
      begins_at = next_is plan rows air (replay_at_start plan.graph rows) platforms airways results shown_at_start is_wired new.ready.fresh.faults begins least;
      goes = (refl, refl);
    };
    shown = shown_at_start;
    no_fault = new.ready.fresh.faults;
  }

  -- also as the calls lend them
  module _ (sliced lent : List PlatformView) (visiting lent_airways : List AirwayView) (same : sliced ≡ platforms) (same_air : visiting ≡ airways) where
    pub some_lent : ((time : ℕ) → IsMoment air sliced visiting time → ⊥) → ⊥
    some_lent never = some_moment (λ time h. never time (subst (λ (vs : List PlatformView). IsMoment air vs visiting time) (sym same) (subst (λ (ways : List AirwayView). IsMoment air platforms ways time) (sym same_air) h)))

    pub stands_lent : (begins : ℕ) (lent_results : List (List Done)) → IsLeastNumber (IsMoment air sliced visiting) (Some begins) → lent ≡ platforms → lent_airways ≡ airways → lent_results ≡ results → IsBeforeRound plan rows air 0 begins lent lent_airways lent_results
    stands_lent begins lent_results least e e2 e3 =
        subst (λ (vs : List PlatformView). IsBeforeRound plan rows air 0 begins vs lent_airways lent_results) (sym e)
        (subst (λ (ways : List AirwayView). IsBeforeRound plan rows air 0 begins platforms ways lent_results) (sym e2)
        (subst (λ (rs : List (List Done)). IsBeforeRound plan rows air 0 begins platforms airways rs) (sym e3)
        (stands_first begins
        (subst (λ (vs : List PlatformView). IsLeastNumber (IsMoment air vs airways) (Some begins)) same (subst (λ (ways : List AirwayView). IsLeastNumber (IsMoment air sliced ways) (Some begins)) same_air least)))))
