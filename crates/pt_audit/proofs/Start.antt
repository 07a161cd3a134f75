-- Platforms just opened, before the first turn of a log.
use Rattle.std.proofs.Common.{◌≡◌, ℕ, zero, suc, ◌<◌, true, false, List, [], Option, Some, None, cond, refl, sym, ap, subst, ◌∙◌, ⊎_elim, arith, length, replicate, slice_get}
use Rattle.std.specs.Prelude.{◌==◌}
use Rattle.std.proofs.Math.Path.{fun_ext}
use Rattle.std.proofs.lemmas.Bool.{cases_Bool, cond-false, eqb-true}
use Rattle.std.proofs.lemmas.List.{length-replicate}
use Rattle.std.proofs.lemmas.Option.{slice_get_within}
use Rattle.pt_tags.specs.declared.message.Message.{Message}
use Rattle.pt_types.specs.declared.graph.Graph.{Graph}
use Rattle.pt_types.specs.declared.rows.Row.{Row}
use Rattle.pt_types.specs.Lookups.{platform_of}
use Rattle.pt_semantics.specs.Closing.{on_link}
use Rattle.pt_semantics.specs.History.{Legal}
use Rattle.pt_semantics.specs.Linked.{all_sent, all_taken}
use Rattle.pt_semantics.specs.Platform.{opened}
use Rattle.pt_semantics.specs.Turn.{Turn}
use Rattle.pt_causality.specs.Ranked.{level_of}
use Rattle.pt_offsets.specs.Plans.{IsAdmitted, Parts}
use Rattle.pt_turn.specs.All.{AreReady}
use Rattle.pt_turn.specs.Platforms.{PlatformView, level_at, messages_of, rows_at, state_at}
use Rattle.pt_confluence.specs.Gathered.{AreLegal}
use Rattle.pt_audit.specs.Remaking.Lasts.{last_of}
use Rattle.pt_audit.specs.Verifying.{HasMadeLogged, AreVerified, fresh_order}

same_opened : (g : Graph) (i : ℕ) (some others : ℕ → List Row) → ((a : ℕ) → platform_of g a ≡ i → some a ≡ others a) → opened g i some ≡ opened g i others
same_opened g i some others same =
    ap (λ (left : ℕ → List Row). record (opened g i some) { left = left })
    (fun_ext (λ a.
    ⊎_elim
    (λ (here : (platform_of g a == i) ≡ true). ap (λ z. cond (platform_of g a == i) z []) (same a (eqb-true (platform_of g a) i here)))
    (λ (other : (platform_of g a == i) ≡ false). cond-false (platform_of g a == i) (some a) [] other ∙ sym (cond-false (platform_of g a == i) (others a) [] other))
    (cases_Bool (platform_of g a == i))))

abbrev no_message : Option Message
no_message = None

none_at : (n l : ℕ) → l < n → slice_get (replicate n no_message) l ≡ Some no_message
none_at zero l lt = absurd (omega arith)
none_at (suc n) zero lt = refl
none_at (suc n) (suc l) lt = none_at n l (omega arith)

module _ (plan : Parts) (rows : ℕ → List Row) (platforms : List PlatformView) (last : List (Option Message)) (admitted : IsAdmitted plan) (ready : AreReady plan rows platforms) (legal : AreLegal platforms) (none : last ≡ replicate (length plan.graph.links) None) where
  state_is : (i : ℕ) (v : PlatformView) → slice_get platforms i ≡ Some v → state_at v ≡ opened plan.graph i rows
  state_is i v at =
      let here = (legal i v at).leads in
      let opening : state_at v ≡ opened v.plan.graph v.number (rows_at v) = subst (λ (ts : List Turn). Legal v.plan.graph (level_at v) v.number (opened v.plan.graph v.number (rows_at v)) ts (state_at v)) (ready.fresh.turns i v at) here in
      opening ∙ ap (λ (p : Parts). opened p.graph v.number (rows_at v)) (ready.all.plans i v at) ∙ ap (λ n. opened plan.graph n (rows_at v)) (ready.all.numbers i v at)
      ∙ same_opened plan.graph i (rows_at v) rows (λ a home. ready.all.opened i a v at home)

  made : (i : ℕ) (v : PlatformView) → slice_get platforms i ≡ Some v → HasMadeLogged plan.graph (level_of plan.ranks) i rows v []
  made i v at = record {
    goes_on = λ e. state_is i v at;
    leads = state_is i v at;
    over = λ fault turn new h. absurd (fault (ready.fresh.faults i v at));
    counted = tt;
    joined = tt;
    sent = λ l. ap (all_sent l) (ready.fresh.turns i v at);
    taken = λ l. ap (all_taken l) (ready.fresh.turns i v at);
  }

  pub starts : AreVerified plan rows [] (fresh_order 0) last platforms
  starts = record {
    admitted = admitted;
    all = ready.all;
    logged = [];
    are_logged = tt;
    in_order = tt;
    up_to = tt;
    reached = λ i h. omega arith;
    two = refl;
    lasts = λ i v at. record {
      count = ap length none ∙ length-replicate (length plan.graph.links) None;
      is = λ l link found home.
          ap (λ (xs : List (Option Message)). slice_get xs l) none ∙ none_at (length plan.graph.links) l (slice_get_within plan.graph.links l link found)
          ∙ ap (λ (ts : List Turn). Some (last_of (on_link l (messages_of ts)))) (sym (ready.fresh.turns i v at));
    };
    made = made;
  }
