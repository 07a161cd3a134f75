-- How a replay begins, and after which quiet round it ends.
use Rattle.std.proofs.Common.{◌≡◌, ℕ, ◌<◌, true, false, List, [], ◌∷◌, ◌++◌, Some, length, map, slice_get, refl, sym, ap, subst, ◌∙◌, inl, inr, ⊎_elim, append-nil}
use Rattle.std.proofs.lemmas.Bool.{cases_Bool}
use Rattle.std.proofs.lemmas.Option.{slice_get_within}
use Rattle.pt_tags.specs.declared.message.Message.TheVariants.{End}
use Rattle.pt_types.specs.declared.graph.Graph.{Graph}
use Rattle.pt_types.specs.declared.graph.Link.{Link}
use Rattle.pt_types.specs.declared.rows.Row.{Row}
use Rattle.pt_types.specs.Lookups.{platform_of}
use Rattle.pt_semantics.specs.Linked.{IsFinished, all_sent, all_taken}
use Rattle.pt_semantics.specs.Lists.{IsIn}
use Rattle.pt_semantics.specs.Ranks.{AreLevels}
use Rattle.pt_semantics.specs.Rows.{FitRows}
use Rattle.pt_semantics.specs.Units.{at_output}
use Rattle.pt_semantics.specs.Wired.{IsWired}
use Rattle.pt_semantics.proofs.Longest.{levels_grow}
use Rattle.pt_semantics.proofs.Lookups.{IsIn-append_right}
use Rattle.pt_laws.proofs.Steps.{messages_of}
use Rattle.pt_laws.proofs.Walks.{on_time_history}
use Rattle.pt_types.specs.declared.air.Air.{Air}
use Rattle.pt_types.specs.declared.air.InAir.{InAir}
use Rattle.pt_semantics.specs.TrueTime.{true_time}
use Rattle.pt_replay_laws.specs.Between.{under_way}
use Rattle.pt_replay_laws.specs.Ending.{QuietEndsReplay, ReplaysBegin}
use Rattle.pt_replay_laws.specs.ReplayState.{CanHappen, ReplayState, replay_at_start}
use Rattle.pt_replay_laws.proofs.Calm.{IsCalm}
use Rattle.pt_replay_laws.proofs.Closing.{closing_of}
use Rattle.pt_replay_laws.proofs.Quiet.{IsSettled, legal_of}
use Rattle.pt_replay_laws.proofs.Replays.{round_fine, run_sound, settled}
use Rattle.pt_replay_laws.proofs.Sound.{IsSound}

-- an open platform closes at some true time
closes_at : (g : Graph) (air : Air) (x : ReplayState) (i : ℕ) → IsWired g → i < length g.platforms → (x.at i).closed ≡ false → (time : ℕ) × CanHappen g air x time
closes_at g air x i wired lt is_open =
    let (c, closing) = closing_of g i wired in
    (true_time air i c, inl (i, lt, is_open, c, inr (inr closing), refl))

pub replays_begin : ReplaysBegin
replays_begin g air rows wired some = closes_at g air (replay_at_start g rows) 0 wired some refl

module _ (g : Graph) (level : ℕ → ℕ) (rows : ℕ → List Row) (air : Air) (wired : IsWired g) (are : AreLevels g level) (fits : FitRows g rows) (now : ℕ) (y : ReplayState) (h : IsSound g level rows 0 y) (calm : (j : ℕ) → j < length g.platforms → IsSettled g air now y j) (never : (time : ℕ) → CanHappen g air y time → ⊥) where
  all_closed : (i : ℕ) → i < length g.platforms → (y.at i).closed ≡ true
  all_closed i lt = ⊎_elim
      (λ (e : (y.at i).closed ≡ true). e)
      (λ (e : (y.at i).closed ≡ false). let (time, can) = closes_at g air y i wired lt e in absurd (never time can))
      (cases_Bool (y.at i).closed)

  nothing_to_send : (i : ℕ) → i < length g.platforms → (l : ℕ) → (y.at i).outbox l ≡ []
  nothing_to_send i lt l = ⊎_elim
      (λ (done : IsFinished g i (y.at i)). done.all_went l)
      (λ (rests : IsCalm g air now i (y.at i) y.airways). rests.sent_all l)
      (calm i lt)

  nothing_under_way : (l : ℕ) (link : Link) → slice_get g.links l ≡ Some link → under_way y l ≡ []
  nothing_under_way l link at = by_list (y.airways l).on_way refl
    where
      by_list : (ms : List InAir) → (y.airways l).on_way ≡ ms → under_way y l ≡ []
      by_list [] e = ap (map (λ (m : InAir). m.message)) e
      by_list (m ∷ ms) e = absurd (never m.arrives (inr (l, slice_get_within g.links l link at, m, subst (IsIn m) (sym e) (inl refl), refl)))

  pub all_finished : (i : ℕ) → i < length g.platforms → IsFinished g i (y.at i)
  all_finished i lt = record {
    closed = all_closed i lt;
    all_went = nothing_to_send i lt;
    ends = λ l link at home.
        let sender : ℕ = platform_of g link.from in
        let to : ℕ = platform_of g link.to in
        let from = on_time_history g level sender rows wired (levels_grow g level are) fits (y.did sender) (y.at sender) (legal_of g level rows air wired are fits now y h calm sender) in
        let taker = on_time_history g level to rows wired (levels_grow g level are) fits (y.did to) (y.at to) (legal_of g level rows air wired are fits now y h calm to) in
        let sent_is : all_sent l (y.did sender) ≡ messages_of (from.keeps.q (at_output g link.from 0)) ++ End ∷ [] =
        sym (append-nil (all_sent l (y.did sender)))
        ∙ ap (λ e. all_sent l (y.did sender) ++ e) (sym (nothing_to_send sender (wired.homes link.from) l))
        ∙ from.keeps.out.once_shut (all_closed sender (wired.homes link.from)) l link at refl in
        let taken_is : all_taken l (y.did to) ≡ all_sent l (y.did sender) =
        sym (append-nil (all_taken l (y.did to)))
        ∙ ap (λ e. all_taken l (y.did to) ++ e) (sym (nothing_under_way l link at))
        ∙ sym (h.linked l link at) in
        subst (λ n. IsIn End ((y.at n).taken l)) home
        (subst (IsIn End) (sym (taker.keeps.taken_is l ∙ taken_is ∙ sent_is))
        (IsIn-append_right End (messages_of (from.keeps.q (at_output g link.from 0))) (End ∷ []) (inl refl)));
  }

pub quiet_ends_replay : QuietEndsReplay
quiet_ends_replay g level air rows rounds now x ms y wired are fits run round fine quiet never =
    all_finished g level rows air wired are fits now y
    (round_fine g level rows air wired are fits now (length g.platforms) 0 x ms y (run_sound g level rows air wired are fits rounds now x run) round fine)
    (settled g level rows air wired are fits now x ms y round fine quiet) never
