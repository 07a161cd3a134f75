-- One visit, with the clocks and the vectors of results that the engine owns.
use Rattle.std.proofs.Common.{◌≡◌, ◌∙◌, ◌+◌, ◌<◌, ◌^◌, ◌⊎◌, ◌==◌, ℕ, suc, List, Option, None, Some, length, set, slice_get, sym, ap, subst, ⊎_elim, arith, eq-eqb}
use Rattle.std.proofs.lemmas.Bool.{cond-true, cond-false, ne_eqb}
use Rattle.std.proofs.lemmas.List.{length-map, map-set}
use Rattle.std.proofs.lemmas.Option.{slice_get-map}
use Rattle.std.specs.Global.{Vec}
use Rattle.std.specs.Prelude.{option_map}
use Rattle.pt_tags.specs.declared.message.Message.{Message}
use Rattle.pt_io.specs.Clocks.{ClockView, IsAsAhead, ReportsOneMore, viewed}
use Rattle.pt_types.specs.declared.firing.Done.{Done}
use Rattle.pt_types.specs.declared.graph.Graph.{Graph}
use Rattle.pt_types.specs.declared.rows.Row.{Row}
use Rattle.pt_semantics.specs.FixedOrder.{platform_after}
use Rattle.pt_offsets.specs.Plans.{Parts}
use Rattle.pt_turn.specs.Posts.Posted.{AreDone}
use Rattle.pt_turn.specs.declared.fault.TurnFault.{TurnFault}
use Rattle.pt_turn.specs.Platforms.{PlatformView, level_at, state_at}
use Rattle.pt_turn.specs.Turned.{MayCome}
use Rattle.pt_visits.specs.Pipes.{arriving}
use Rattle.pt_visits.specs.Visited.{IsVisited}
use Rattle.pt_engine.proofs.Showing.{may_come}
use Rattle.pt_engine.specs.Asked.{AreAllFinished, result_lists}
use Rattle.pt_fixed_order.specs.Asked.{HasNone, HasOne}
use Rattle.pt_fixed_order.specs.Outcome.{IsOutcome}
use Rattle.pt_fixed_order.specs.Between.{BeforeVisit, AfterVisit}
use Rattle.pt_engine.proofs.Listed.{list_at}
use Rattle.pt_fixed_order.proofs.OneVisit.{after_visit, before_next, ended_fault, ended_finished, so_far}

-- one clock as clauses see it
abbrev pub view_of_clock : {X : Type 0} → (X → Option (List ℕ)) → (X → Option (ℕ → ℕ)) → X → ClockView
view_of_clock reported ahead c = record { readings = reported c; ahead = ahead c }

-- there is a platform of that number, a clock for it and results for it
module _ {C : Type 0} (reported : C → Option (List ℕ)) (ahead : C → Option (ℕ → ℕ)) (plan : Parts) (rows : ℕ → List Row) (most j : ℕ) (began : List ClockView) (clocks : List C) (platforms : List PlatformView) (pipes : List (List Message)) (results : List (Vec Done))
    (s : BeforeVisit plan rows most j began (viewed reported ahead clocks) platforms pipes (result_lists results)) where
  pub within_all : (j < length platforms) × (j < length clocks) × (j < length results)
  within_all =
      let a : length platforms ≡ length plan.graph.platforms = s.shown.all.count in
      let n : j < length plan.graph.platforms = s.next in
      let b : length clocks ≡ length platforms = sym (length-map clocks (view_of_clock reported ahead)) ∙ s.clocks.count in
      let c : length results ≡ length platforms = sym (length-map results (λ (d : Vec Done). d.items)) ∙ s.shown.count in
      (omega (arith, a, n), omega (arith, a, n, b), omega (arith, a, n, c))

module _ {C : Type 0} (reported : C → Option (List ℕ)) (ahead : C → Option (ℕ → ℕ)) (plan : Parts) (rows : ℕ → List Row) (most j : ℕ) (began : List ClockView) (clocks : List C) (platforms : List PlatformView) (pipes : List (List Message)) (results : List (Vec Done))
    (s : BeforeVisit plan rows most j began (viewed reported ahead clocks) platforms pipes (result_lists results)) (v : PlatformView) (there : slice_get platforms j ≡ Some v) where
  pub has_links : length pipes ≡ length v.plan.graph.links
  has_links = s.shown.links ∙ ap (λ (p : Parts). length p.graph.links) (sym (s.shown.all.plans j v there))

  pub has_come : MayCome v.plan.graph (level_at v) v.number (state_at v) (arriving v.plan.graph v.number 0 pipes)
  has_come = may_come plan rows s.together platforms pipes (result_lists results) s.admitted s.fit s.shown j v there (so_far plan rows s.together s.admitted s.fit s.sound j s.next)

  module _ (dones : Vec Done) (pending : slice_get results j ≡ Some dones) where
    pub are_done : AreDone v.plan.graph dones.items
    are_done = subst (λ (p : Parts). AreDone p.graph dones.items) (sym (s.shown.all.plans j v there)) (s.shown.pending j v dones.items there (list_at results j dones pending)).done

    pub visit_done : (w : PlatformView) (next : Vec Done) (piped : List (List Message)) (r : ℕ) (old new : C) → r < 2 ^ 64 → IsVisited most r dones.items next.items v w pipes piped → slice_get clocks j ≡ Some old → ReportsOneMore (reported old) r (reported new) → ahead new ≡ ahead old → IsAsAhead (ahead old) (reported old) r →
        AfterVisit plan rows most j began (viewed reported ahead (set clocks j new)) (set platforms j w) piped (result_lists (set results j next))
    visit_done w next piped r old new small visited clock one same fixed =
        subst (λ (cs : List ClockView). AfterVisit plan rows most j began cs (set platforms j w) piped (result_lists (set results j next))) (sym (map-set (view_of_clock reported ahead) clocks j new))
        (subst (λ (rs : List (List Done)). AfterVisit plan rows most j began (set (viewed reported ahead clocks) j (view_of_clock reported ahead new)) (set platforms j w) piped rs) (sym (map-set (λ (d : Vec Done). d.items) results j next))
        (after_visit plan rows most j began (viewed reported ahead clocks) platforms pipes (result_lists results) s v w there dones.items next.items (list_at results j dones pending) piped r small visited
        (view_of_clock reported ahead old) (view_of_clock reported ahead new) (slice_get-map (view_of_clock reported ahead) clocks j ∙ ap (option_map (view_of_clock reported ahead)) clock) one same fixed))

-- the number after one is that of the platform after it
pub after_is : (g : Graph) (j count next : ℕ) → length g.platforms ≡ count → ((j + 1 ≡ count) × (next ≡ 0)) ⊎ ((j + 1 < count) × (next ≡ j + 1)) → next ≡ platform_after g j
after_is g j count next e h = ⊎_elim
    (λ (last : (j + 1 ≡ count) × (next ≡ 0)). last.1 ∙ sym (cond-true (suc j == length g.platforms) 0 (suc j) (eq-eqb (suc j) (length g.platforms) (there j count (length g.platforms) last.0 e))))
    (λ (more : (j + 1 < count) × (next ≡ j + 1)). more.1 ∙ one j ∙ sym (cond-false (suc j == length g.platforms) 0 (suc j) (ne_eqb (suc j) (length g.platforms) (apart j count (length g.platforms) more.0 e))))
    h
  where
    there : (j count n : ℕ) → j + 1 ≡ count → n ≡ count → suc j ≡ n
    there j count n a b = omega arith

    one : (j : ℕ) → j + 1 ≡ suc j
    one j = omega arith

    apart : (j count n : ℕ) → j + 1 < count → n ≡ count → suc j ≡ n → ⊥
    apart j count n a b c = omega arith

-- how a visit ends
module _ (plan : Parts) (rows : ℕ → List Row) (most j : ℕ) (began now : List ClockView) (platforms : List PlatformView) (pipes : List (List Message)) (results : List (List Done)) (a : AfterVisit plan rows most j began now platforms pipes results) where
  pub ends_one : (f : ℕ × TurnFault) → HasOne platforms j f → IsOutcome plan rows most began now platforms (Some f)
  ends_one f (v, at, number, fault, shows) =
      subst (λ (n : ℕ). IsOutcome plan rows most began now platforms (Some (n, f.1))) (sym (number ∙ a.there.all.numbers j v at)) (ended_fault plan rows most j began now platforms pipes results a v at f.1 fault shows)

  pub ends_none : HasNone platforms j → AreAllFinished platforms → IsOutcome plan rows most began now platforms None
  ends_none (v, at, none) done = ended_finished plan rows most j began now platforms pipes results a v at none done

  pub goes_on : HasNone platforms j → (AreAllFinished platforms → ⊥) → (next : ℕ) → ((j + 1 ≡ length platforms) × (next ≡ 0)) ⊎ ((j + 1 < length platforms) × (next ≡ j + 1)) → BeforeVisit plan rows most next began now platforms pipes results
  goes_on (v, at, none) going next h =
      subst (λ (n : ℕ). BeforeVisit plan rows most n began now platforms pipes results) (sym (after_is plan.graph j (length platforms) next (sym a.there.all.count) h)) (before_next plan rows most j began now platforms pipes results a v at none going)
