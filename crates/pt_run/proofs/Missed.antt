-- What a finished run missed.
use Rattle.std.proofs.Common.{◌≡◌, ℕ, zero, suc, ◌<◌, List, [], ◌∷◌, Option, Some, option_map, slice_get, unwrap_or, inl, inr, sym, ap, subst, ⊎_elim}
use Rattle.std.specs.Prelude.{◌↔◌, flat_map}
use Rattle.std.proofs.lemmas.Option.{slice_get_within}
use Rattle.pt_types.specs.declared.rows.Row.{Row}
use Rattle.pt_history.specs.declared.miss.Miss.{Miss}
use Rattle.pt_semantics.specs.Lists.{IsIn}
use Rattle.pt_semantics.specs.Missed.{IsMissed}
use Rattle.pt_semantics.proofs.Lookups.{none_some, same_some}
use Rattle.pt_paced_laws.specs.Schedule.{HaveMissed}
use Rattle.pt_offsets.specs.Plans.{Parts}
use Rattle.pt_turn.specs.Platforms.{PlatformView}
use Rattle.pt_turn.specs.All.{AreAll, histories_of}
use Rattle.pt_monitors.specs.Platforms.{missed_by}
use Rattle.pt_monitors.proofs.Members.{flat_map_in, in_flat_map}
use Rattle.pt_monitors.proofs.Missing.{lists_missed}
use Rattle.pt_engine.proofs.Listed.{member}

-- a member stands at some place, and what stands at a place is a member
place : {X : Type 0} (xs : List X) (x : X) → IsIn x xs → (i : ℕ) × (slice_get xs i ≡ Some x)
place [] x m = absurd m
place (y ∷ xs) x m = ⊎_elim (λ (e : x ≡ y). (0, ap Some (sym e))) (λ (later : IsIn x xs). let at = place xs x later in (suc at.0, at.1)) m

stands : {X : Type 0} (xs : List X) (i : ℕ) (x : X) → slice_get xs i ≡ Some x → IsIn x xs
stands [] i x e = absurd (none_some x e)
stands (y ∷ xs) zero x e = inl (same_some x y (sym e))
stands (y ∷ xs) (suc i) x e = inr (stands xs i x e)

module _ (plan : Parts) (rows : ℕ → List Row) (platforms : List PlatformView) (all : AreAll plan rows platforms) where
  history : (i : ℕ) (v : PlatformView) → slice_get platforms i ≡ Some v → histories_of platforms i ≡ v.turns
  history i v at = ap (λ (o : Option PlatformView). unwrap_or (option_map (λ (w : PlatformView). w.turns) o) []) at

  there : (m : Miss) → IsIn m (flat_map missed_by platforms) → HaveMissed plan.graph (histories_of platforms) m.actor m.tag m.reading m.limit
  there m mem =
      let f = in_flat_map missed_by platforms m mem in
      let v : PlatformView = f.0 in
      let at = place platforms v f.1 in
      let turn = (lists_missed v.plan.graph v.turns m).0 f.2 in (
        at.0,
        subst (λ n. at.0 < n) all.count (slice_get_within platforms at.0 v at.1),
        turn.0,
        subst (IsIn turn.0) (sym (history at.0 v at.1)) turn.1,
        sym turn.2,
        subst (λ (p : Parts). IsMissed p.graph turn.0 m.actor m.tag m.limit) (all.plans at.0 v at.1) turn.3,
      )

  back : (m : Miss) → HaveMissed plan.graph (histories_of platforms) m.actor m.tag m.reading m.limit → IsIn m (flat_map missed_by platforms)
  back m (i, lt, turn, mem, at, missed) =
      let one = member platforms i (subst (λ n. i < n) (sym all.count) lt) in
      let v : PlatformView = one.0 in
      flat_map_in missed_by platforms v m (stands platforms i v one.1)
      ((lists_missed v.plan.graph v.turns m).1 (turn, subst (IsIn turn) (history i v one.1) mem, sym at, subst (λ (p : Parts). IsMissed p.graph turn m.actor m.tag m.limit) (sym (all.plans i v one.1)) missed))

  pub missed_in : (misses : List Miss) → misses ≡ flat_map missed_by platforms → (m : Miss) → IsIn m misses ↔ HaveMissed plan.graph (histories_of platforms) m.actor m.tag m.reading m.limit
  missed_in misses e m = ((λ mem. there m (subst (IsIn m) e mem)), (λ missed. subst (IsIn m) (sym e) (back m missed)))
