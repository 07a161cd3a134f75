-- The verdict on a log that was verified to its end.
use Rattle.std.proofs.Common.{◌≡◌, ℕ, zero, suc, ◌<◌, List, [], ◌∷◌, Option, Some, refl, sym, ap, subst, ◌∙◌, arith, length, slice_get}
use Rattle.std.specs.Prelude.{option_map, unwrap_or}
use Rattle.std.proofs.lemmas.Option.{slice_get_within}
use Rattle.pt_tags.specs.declared.message.Message.{Message}
use Rattle.pt_types.specs.declared.rows.Row.{Row}
use Rattle.pt_types.specs.Lookups.{platform_of}
use Rattle.pt_semantics.specs.History.{IsLegal}
use Rattle.pt_semantics.specs.Linked.{AreLinked, IsFinished, all_sent, all_taken}
use Rattle.pt_semantics.specs.Platform.{State, opened}
use Rattle.pt_semantics.specs.Rows.{FitRows}
use Rattle.pt_semantics.proofs.LawfulEdges.{wired}
use Rattle.pt_causality.specs.Ranked.{level_of}
use Rattle.pt_offsets.specs.Plans.{Parts}
use Rattle.pt_turn.specs.All.{histories_of}
use Rattle.pt_turn.specs.Platforms.{PlatformView, state_at}
use Rattle.pt_confluence.specs.Gathered.{HaveFinished}
use Rattle.pt_audit.specs.Parsing.Lines.{Block}
use Rattle.pt_audit.specs.Finishing.{AreAtEnd, IsAtEnd, IsFinalVerdict}
use Rattle.pt_audit.specs.Verifying.{HasMadeLogged, AreVerified}
use Rattle.pt_audit.specs.Logged.{AreLawful, BlocksAreLawful, turns_of}
use Rattle.pt_audit.specs.Verdicts.{AllAreFinished, IsLinked, IsVerdictOn}
use Rattle.pt_audit.specs.declared.order.Order.{Order}
use Rattle.pt_audit.specs.declared.verdict.Verdict.{Verdict}
use Rattle.pt_audit.specs.declared.verdict.Verdict.TheVariants.{TooLong, NoLog, Turn, Unfinished, Unlinked, Table, Fine}

-- the member at a place
pub member : {X : Type 0} (xs : List X) (i : ℕ) → i < length xs → (x : X) × (slice_get xs i ≡ Some x)
member [] i lt = absurd (omega arith)
member (x ∷ xs) zero lt = (x, refl)
member (x ∷ xs) (suc i) lt = member xs i (omega arith)

module _ (plan : Parts) (rows : ℕ → List Row) (blocks : List Block) (order : Order) (last : List (Option Message)) (platforms : List PlatformView) (r : AreVerified plan rows blocks order last platforms) where
  -- the platform of a number
  view : (i : ℕ) → i < length plan.graph.platforms → (v : PlatformView) × (slice_get platforms i ≡ Some v)
  view i lt = member platforms i (subst (λ n. i < n) (sym r.all.count) lt)

  below : (i : ℕ) (v : PlatformView) → slice_get platforms i ≡ Some v → i < length plan.graph.platforms
  below i v at = subst (λ n. i < n) r.all.count (slice_get_within platforms i v at)

  -- the state of each platform
  abbrev pub ends : ℕ → State
  ends i = unwrap_or (option_map state_at (slice_get platforms i)) (opened plan.graph i rows)

  ends_at : (i : ℕ) (v : PlatformView) → slice_get platforms i ≡ Some v → ends i ≡ state_at v
  ends_at i v at = ap (λ (o : Option PlatformView). unwrap_or (option_map state_at o) (opened plan.graph i rows)) at

  legal : (i : ℕ) → i < length plan.graph.platforms → IsLegal plan.graph (level_of plan.ranks) i rows (turns_of i r.logged) (ends i)
  legal i lt =
      let (v, at) = view i lt in
      let made : HasMadeLogged plan.graph (level_of plan.ranks) i rows v (turns_of i r.logged) = r.made i v at in
      subst (λ (s : State). IsLegal plan.graph (level_of plan.ranks) i rows (turns_of i r.logged) s) (sym (ends_at i v at)) (record { leads = made.leads; counted = made.counted; joined = made.joined })

  pub lawful : AreLawful plan.graph (level_of plan.ranks) rows r.logged ends
  lawful = record { in_order = r.in_order; legal = legal }

  pub are_lawful : BlocksAreLawful plan.graph (level_of plan.ranks) rows blocks
  are_lawful = (r.logged, ends, r.are_logged, lawful)

  -- finished platforms

  at_end : (i : ℕ) (v : PlatformView) → slice_get platforms i ≡ Some v → IsAtEnd v → IsFinished plan.graph i (state_at v)
  at_end i v at h = subst (λ (p : Parts). IsFinished p.graph i (state_at v)) (r.all.plans i v at) (subst (λ n. IsFinished v.plan.graph n (state_at v)) (r.all.numbers i v at) h)

  not_at_end : (i : ℕ) (v : PlatformView) → slice_get platforms i ≡ Some v → IsFinished plan.graph i (ends i) → IsAtEnd v
  not_at_end i v at h =
      subst (λ n. IsFinished v.plan.graph n (state_at v)) (sym (r.all.numbers i v at)) (subst (λ (p : Parts). IsFinished p.graph i (state_at v)) (sym (r.all.plans i v at))
      (subst (IsFinished plan.graph i) (ends_at i v at) h))

  finished_at : (i : ℕ) (v : PlatformView) → slice_get platforms i ≡ Some v → IsAtEnd v → IsFinished plan.graph i (ends i)
  finished_at i v at h = subst (IsFinished plan.graph i) (sym (ends_at i v at)) (at_end i v at h)

  finished : AreAtEnd platforms → AllAreFinished plan.graph ends
  finished all i lt = let (v, at) = view i lt in finished_at i v at (all i v at)

  -- linked platforms

  homes : (a : ℕ) → platform_of plan.graph a < length plan.graph.platforms
  homes = (wired plan.graph r.admitted.lawful).homes

  history_at : (i : ℕ) (v : PlatformView) → slice_get platforms i ≡ Some v → histories_of platforms i ≡ v.turns
  history_at i v at = ap (λ (o : Option PlatformView). unwrap_or (option_map (λ (z : PlatformView). z.turns) o) []) at

  sent_same : (i l : ℕ) → i < length plan.graph.platforms → all_sent l (histories_of platforms i) ≡ all_sent l (turns_of i r.logged)
  sent_same i l lt = let (v, at) = view i lt in ap (all_sent l) (history_at i v at) ∙ (r.made i v at).sent l

  taken_same : (i l : ℕ) → i < length plan.graph.platforms → all_taken l (histories_of platforms i) ≡ all_taken l (turns_of i r.logged)
  taken_same i l lt = let (v, at) = view i lt in ap (all_taken l) (history_at i v at) ∙ (r.made i v at).taken l

  linked_logged : (l : ℕ) → IsLinked plan.graph (histories_of platforms) l → IsLinked plan.graph (λ i. turns_of i r.logged) l
  linked_logged l h link at =
      sym (sent_same (platform_of plan.graph link.from) l (homes link.from)) ∙ h link at ∙ taken_same (platform_of plan.graph link.to) l (homes link.to)

  logged_linked : (l : ℕ) → IsLinked plan.graph (λ i. turns_of i r.logged) l → IsLinked plan.graph (histories_of platforms) l
  logged_linked l h link at =
      sent_same (platform_of plan.graph link.from) l (homes link.from) ∙ h link at ∙ sym (taken_same (platform_of plan.graph link.to) l (homes link.to))

  pub judged : (v : Verdict) → IsFinalVerdict plan.graph platforms v → IsVerdictOn plan rows blocks v
  judged TooLong h = absurd h
  judged NoLog h = absurd h
  judged Table h = absurd h
  judged (Turn line) h = absurd h
  judged (Unfinished number) h =
      let here : number ≡ h.place = h.is ∙ r.all.numbers h.place h.view h.at in
      record {
        logged = r.logged;
        ends = ends;
        are_logged = r.are_logged;
        lawful = lawful;
        fact = record {
          platform = subst (λ n. n < length plan.graph.platforms) (sym here) (below h.place h.view h.at);
          unfinished = λ f. h.unfinished (not_at_end h.place h.view h.at (subst (λ n. IsFinished plan.graph n (ends n)) here f));
          first = λ j lt.
              let le : j < h.place = subst (λ n. j < n) here lt in
              let within : j < length plan.graph.platforms = before j h.place (length plan.graph.platforms) le (below h.place h.view h.at) in
              let (v, at) = view j within in
              finished_at j v at (h.first j v le at);
        };
      }
    where
      before : (a b c : ℕ) → a < b → b < c → a < c
      before a b c h k = omega (arith, h, k)
  judged (Unlinked l) h = record {
    logged = r.logged;
    ends = ends;
    are_logged = r.are_logged;
    lawful = lawful;
    fact = (finished h.0, record { link = h.1.link; unlinked = λ f. h.1.unlinked (logged_linked l f); first = λ k lt. linked_logged k (h.1.first k lt) });
  }
  judged Fine h = record {
    logged = r.logged;
    ends = ends;
    are_logged = r.are_logged;
    lawful = lawful;
    fact = (finished h.0, λ l. linked_logged l (h.1 l));
  }

  pub all_finished : FitRows plan.graph rows → (v : Verdict) → IsFinalVerdict plan.graph platforms v → v ≡ Fine → HaveFinished plan rows platforms
  all_finished fit v h e =
      let fine : AreAtEnd platforms × AreLinked plan.graph (histories_of platforms) = subst (IsFinalVerdict plan.graph platforms) e h in
      record { all = r.all; fit = fit; finished = λ i w at. at_end i w at (fine.0 i w at); linked = fine.1 }
