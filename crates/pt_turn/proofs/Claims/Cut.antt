-- What was claimed is a front of the greedy list.
use Rattle.std.proofs.Common.{◌≡◌, ℕ, ◌+◌, ◌<◌, ◌≤◌, ◌⊎◌, List, [], ◌∷◌, length, ap, subst, inl, inr, ⊎_elim, arith}
use Rattle.pt_types.specs.declared.firing.Task.{Task}
use Rattle.pt_types.specs.declared.firing.OnLink.{OnLink}
use Rattle.pt_types.specs.declared.graph.Graph.{Graph}
use Rattle.pt_semantics.specs.Candidates.{AreCut, after_claims}
use Rattle.pt_semantics.specs.Claiming.{Claims, after_claim}
use Rattle.pt_semantics.specs.Platform.{State}
use Rattle.pt_semantics.specs.Safe.{NothingSafe}
use Rattle.pt_semantics.specs.Units.{unit_of}
use Rattle.pt_queue.specs.Events.{waiting_in}
use Rattle.pt_turn.specs.declared.state.fields.Fields.{Fields}
use Rattle.pt_turn.specs.Fields.State.{busy_in, state_of}
use Rattle.pt_turn.specs.Claims.Claimed.{AreClaimed}

pub after_is : (g : Graph) (r : ℕ) (s new : State) (tasks : List Task) → Claims g r s tasks new → new ≡ after_claims g s tasks
after_is g r s new [] h = h
after_is g r s new (task ∷ tasks) h = after_is g r (after_claim g s (unit_of g task) task) new tasks h.1

-- nothing was claimed, so nothing is safe or all claims were made
none_left : (X : Type 0) (in_all most old new : ℕ) (tasks : List Task) → 0 < most → new ≡ old + length tasks → tasks ≡ [] → X ⊎ ((most ≤ length tasks) ⊎ (in_all ≤ new)) → X ⊎ (in_all ≤ old)
none_left X in_all most old new tasks some count empty h =
    let none : length tasks ≡ 0 = ap length empty in
    ⊎_elim (λ x. inl x) (λ k. ⊎_elim (λ (full : most ≤ length tasks). absurd (omega (arith, some, none, full))) (λ (all : in_all ≤ new). inr (omega (arith, all, count, none))) k) h

pub are_cut : (g : Graph) (r most : ℕ) (old new : Fields) (before after : List Task) (c : AreClaimed g r most old new before after) (taken : List OnLink) → 0 < most → AreCut g (state_of old taken) r most c.claimed
are_cut g r most old new before after c taken some =
    let is : state_of new taken ≡ after_claims g (state_of old taken) c.claimed = after_is g r (state_of old taken) (state_of new taken) c.claimed (c.claims taken) in
    record {
      claims = subst (Claims g r (state_of old taken) c.claimed) is (c.claims taken);
      at_most = c.at_most;
      in_all = subst (λ (z : State). z.claims ≤ g.claims) is c.in_all;
      greedy = λ empty. subst (λ (z : State). NothingSafe g z.waits z.busy r ⊎ (g.claims ≤ (state_of old taken).claims)) is
          (none_left (NothingSafe g (waiting_in new.queue.events) (busy_in new.open_claims.items) r) g.claims most old.claims new.claims c.claimed some c.count empty c.all_or);
      all_or = subst (λ (z : State). NothingSafe g z.waits z.busy r ⊎ ((most ≤ length c.claimed) ⊎ (g.claims ≤ z.claims))) is c.all_or;
    }
