-- Facts on platforms, read from their views and the other way round.
use Rattle.std.proofs.Common.{◌≡◌, ℕ, ◌<◌, List, [], Option, Some, length, option_map, slice_get, unwrap_or, sym, ap, subst, ◌∙◌}
use Rattle.std.proofs.lemmas.Option.{slice_get_within}
use Rattle.pt_tags.specs.declared.message.Message.{Message}
use Rattle.pt_types.specs.declared.firing.Done.{Done}
use Rattle.pt_types.specs.declared.rows.Row.{Row}
use Rattle.pt_semantics.specs.Kept.{kept}
use Rattle.pt_semantics.specs.Linked.{IsFinished}
use Rattle.pt_semantics.specs.Platform.{State}
use Rattle.pt_semantics.specs.Visits.{AreFinished, RunState}
use Rattle.pt_offsets.specs.Plans.{Parts}
use Rattle.pt_turn.specs.All.{histories_of}
use Rattle.pt_turn.specs.Platforms.{PlatformView, state_at}
use Rattle.pt_engine.specs.Asked.{AreAllFinished}
use Rattle.pt_engine.specs.Shown.{AreShown, AreThere}
use Rattle.pt_engine.proofs.Listed.{member}

pub there_of : (plan : Parts) (rows : ℕ → List Row) (x : RunState) (platforms : List PlatformView) (pipes : List (List Message)) (results : List (List Done)) → AreShown plan rows x platforms pipes results → AreThere plan rows x platforms
there_of plan rows x platforms pipes results shown = record { all = shown.all; states = shown.states; kept_turns = shown.kept_turns }

module _ (plan : Parts) (rows : ℕ → List Row) (x : RunState) (platforms : List PlatformView) (are : AreThere plan rows x platforms) where
  -- a fact on a platform's plan, number and state is one on its view
  pub to_view : (P : Parts → ℕ → State → Type 0) (i : ℕ) (v : PlatformView) → slice_get platforms i ≡ Some v → P plan i (x.at i) → P v.plan v.number (state_at v)
  to_view P i v there h =
      subst (λ (p : Parts). P p v.number (state_at v)) (sym (are.all.plans i v there))
      (subst (λ k. P plan k (state_at v)) (sym (are.all.numbers i v there))
      (subst (P plan i) (are.states i v there) h))

  pub from_view : (P : Parts → ℕ → State → Type 0) (i : ℕ) (v : PlatformView) → slice_get platforms i ≡ Some v → P v.plan v.number (state_at v) → P plan i (x.at i)
  from_view P i v there h =
      subst (P plan i) (sym (are.states i v there))
      (subst (λ k. P plan k (state_at v)) (are.all.numbers i v there)
      (subst (λ (p : Parts). P p v.number (state_at v)) (are.all.plans i v there) h))

  pub view : (i : ℕ) → i < length plan.graph.platforms → (v : PlatformView) × (slice_get platforms i ≡ Some v)
  view i lt = member platforms i (subst (λ n. i < n) (sym are.all.count) lt)

  pub below : (i : ℕ) (v : PlatformView) → slice_get platforms i ≡ Some v → i < length plan.graph.platforms
  below i v there = subst (λ n. i < n) are.all.count (slice_get_within platforms i v there)

  pub all_finished : AreAllFinished platforms → AreFinished plan.graph x
  all_finished done i lt = let one = view i lt in from_view (λ (p : Parts) k s. IsFinished p.graph k s) i one.0 one.1 (done i one.0 one.1)

  pub each_finished : AreFinished plan.graph x → AreAllFinished platforms
  each_finished done i v there = to_view (λ (p : Parts) k s. IsFinished p.graph k s) i v there (done i (below i v there))

  pub finished_here : AreAllFinished platforms → (i : ℕ) (v : PlatformView) → slice_get platforms i ≡ Some v → IsFinished plan.graph i (state_at v)
  finished_here done i v there =
      subst (λ k. IsFinished plan.graph k (state_at v)) (are.all.numbers i v there)
      (subst (λ (p : Parts). IsFinished p.graph v.number (state_at v)) (are.all.plans i v there) (done i v there))

  pub history : (i : ℕ) → i < length plan.graph.platforms → histories_of platforms i ≡ kept (x.did i)
  history i lt =
      let one = view i lt in
      ap (λ (o : Option PlatformView). unwrap_or (option_map (λ (v : PlatformView). v.turns) o) []) one.1 ∙ are.kept_turns i one.0 one.1
