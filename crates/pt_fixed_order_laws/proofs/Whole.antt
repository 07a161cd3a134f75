-- Whole runs in fixed order.
use Rattle.std.proofs.Common.{◌≡◌, ◌≢◌, ℕ, ◌<◌, ◌==◌, Bool, true, false, List, [], ◌∷◌, ◌++◌, Option, None, Some, length, slice_get, refl, sym, ap, subst, ◌∙◌, inl, inr, ⊎_elim, eq-eqb}
use Rattle.std.proofs.lemmas.Bool.{cases_Bool, cond-true}
use Rattle.pt_tags.specs.declared.message.Message.{Message}
use Rattle.pt_tags.specs.declared.message.Message.TheVariants.{End}
use Rattle.pt_types.specs.declared.firing.OnLink.{OnLink}
use Rattle.pt_types.specs.declared.firing.Task.{Task}
use Rattle.pt_types.specs.declared.graph.Graph.{Graph}
use Rattle.pt_types.specs.declared.graph.Link.{Link}
use Rattle.pt_types.specs.declared.rows.Row.{Row}
use Rattle.pt_semantics.specs.Bounds.{link_bound}
use Rattle.pt_semantics.specs.Claiming.{Claims, after_claim}
use Rattle.pt_semantics.specs.Closing.{CanClose, shut}
use Rattle.pt_types.specs.Lookups.{platform_of}
use Rattle.pt_semantics.specs.Entering.{after_rows}
use Rattle.pt_semantics.specs.FixedOrder.{IsOver, Visits, platform_after, put_clock}
use Rattle.pt_semantics.specs.History.{Legal, LegalOnTime}
use Rattle.pt_semantics.specs.Kept.{IsSingle, kept}
use Rattle.pt_semantics.specs.Linked.{AreMatched, IsFinished, all_sent, all_taken}
use Rattle.pt_semantics.specs.Lists.{Each, IsIn}
use Rattle.pt_semantics.specs.Platform.{State, opened, raised}
use Rattle.pt_semantics.specs.Ranks.{AreLevels}
use Rattle.pt_semantics.specs.Rows.{FitRows}
use Rattle.pt_semantics.specs.Taking.{IsOnTime, Takes, after_message, with_taken}
use Rattle.pt_semantics.specs.Turn.{IsTurn, Turn}
use Rattle.pt_semantics.specs.Units.{unit_of}
use Rattle.pt_semantics.specs.Visits.{IsVisit, VisitRecord, RunState, run_at_start}
use Rattle.pt_semantics.specs.Wired.{IsWired}
use Rattle.pt_laws.proofs.KeptTurns.{kept_is_legal}
use Rattle.pt_semantics.proofs.Lookups.{IsIn-append}
use Rattle.pt_laws.proofs.Onward.{cases_same}
use Rattle.pt_fixed_order_laws.specs.Linking.{FinishedIsLinked}
use Rattle.pt_fixed_order_laws.specs.Whole.{FixedOrderIsLegal}
use Rattle.pt_fixed_order_laws.proofs.Linking.{end_is_last, matched_is_linked}
use Rattle.pt_fixed_order_laws.specs.Sound.{Sound}
use Rattle.pt_fixed_order_laws.proofs.Sound.{goes_on_time, legal_after, linked_after, single_after, sound_after, sound_at_start}

differ : false ≡ true → ⊥
differ e = cc

-- a late message is an event, and End was not taken on its link
not_end : (last : Option ℕ) (bound : ℕ) (m : Message) → (IsOnTime last bound m → ⊥) → End ≡ m → ⊥
not_end None bound m off e = off tt
not_end (Some p) bound m off e = off (subst (IsOnTime (Some p) bound) e tt)

pub record IsStuck (g : Graph) (i : ℕ) (taken : ℕ → List Message) : Type 0 where
  pub l : ℕ
  pub link : Link
  pub at : slice_get g.links l ≡ Some link
  pub home : platform_of g link.to ≡ i
  pub never : IsIn End (taken l) → ⊥

module _ (g : Graph) (level : ℕ → ℕ) (i : ℕ) where
  late_is_stuck : (ms : List OnLink) (s new : State) → Takes g level i s ms true new → IsStuck g i new.taken
  late_is_stuck [] s new (none, e) = absurd (differ (sym none))
  late_is_stuck (m ∷ ms) s new (link, at, home, orderly, next) = ⊎_elim
      (λ (on : IsOnTime s.reading (link_bound g link) m.message × Takes g level i (after_message s m.link link m.message) ms true new). late_is_stuck ms (after_message s m.link link m.message) new on.1)
      (λ (off : (IsOnTime s.reading (link_bound g link) m.message → ⊥) × (ms ≡ []) × (true ≡ true) × (new ≡ with_taken s m.link m.message)). record {
        l = m.link;
        link = link;
        at = at;
        home = home;
        never = λ mem.
            let here : new.taken m.link ≡ s.taken m.link ++ m.message ∷ [] = ap (λ (z : State). z.taken m.link) off.3 ∙ cond-true (m.link == m.link) (s.taken m.link ++ m.message ∷ []) (s.taken m.link) (eq-eqb m.link m.link refl) in
            ⊎_elim
            (λ (old : IsIn End (s.taken m.link)). never m.message (end_is_last (s.taken m.link) (m.message ∷ []) orderly.0 old))
            (λ (new : IsIn End (m.message ∷ [])). ⊎_elim (λ (e : End ≡ m.message). not_end s.reading (link_bound g link) m.message off.0 e) (λ (no : ⊥). no) new)
            (IsIn-append End (s.taken m.link) (m.message ∷ []) (subst (IsIn End) here mem));
      })
      next
    where
      never : (m : Message) → m ∷ [] ≡ [] → ⊥
      never m e = cc

  claims_taken : (r : ℕ) (tasks : List Task) (s new : State) → Claims g r s tasks new → new.taken ≡ s.taken
  claims_taken r [] s new e = ap (λ (z : State). z.taken) e
  claims_taken r (task ∷ tasks) s new (is, rest) = claims_taken r tasks (after_claim g s (unit_of g task) task) new rest

  late_turn : (s new : State) (turn : Turn) → IsTurn g level i s turn true new → IsFinished g i new → ⊥
  late_turn s new turn is done =
      let stuck = late_is_stuck turn.taken (after_rows is.posted turn.last) is.got is.takes in
      let closes : is.done.taken ≡ is.ready.taken = ⊎_elim
      (λ (shuts : CanClose g i is.ready turn.last × (true ≡ false) × (is.done ≡ shut g i is.ready)). ap (λ (z : State). z.taken) shuts.2)
      (λ (stays : (CanClose g i is.ready turn.last → true ≡ true) × (is.done ≡ is.ready)). ap (λ (z : State). z.taken) stays.1)
      is.closes in
      let same : new.taken ≡ is.got.taken = ap (λ (z : State). z.taken) is.sends.1 ∙ closes ∙ claims_taken turn.last turn.claimed (raised is.got turn.last) is.ready is.claims in
      stuck.never (subst (λ (t : ℕ → List Message). IsIn End (t stuck.l)) same (done.ends stuck.l stuck.link stuck.at stuck.home))

pub push_time : (g : Graph) (level : ℕ → ℕ) (i : ℕ) (turns : List Turn) (turn : Turn) (s mid new : State) → LegalOnTime g level i s turns mid → IsTurn g level i mid turn false new → LegalOnTime g level i s (turns ++ turn ∷ []) new
push_time g level i [] turn s mid new e is = (new, subst (λ z. IsTurn g level i z turn false new) e is, refl)
push_time g level i (x ∷ turns) turn s mid new (one, ix, rest) is = (one, ix, push_time g level i turns turn one mid new rest is)

module _ (g : Graph) (level : ℕ → ℕ) (rows : ℕ → List Row) (wired : IsWired g) (are : AreLevels g level) (fits : FitRows g rows) where
  -- all platforms after a whole run
  pub record Ended (y : RunState) : Type 0 where
    pub legal : (p : ℕ) → Legal g level p (opened g p rows) (y.did p) (y.at p)
    pub single : (p : ℕ) → Each IsSingle (y.did p)
    pub linked : (l : ℕ) (link : Link) → slice_get g.links l ≡ Some link → all_sent l (y.did (platform_of g link.from)) ≡ all_taken l (y.did (platform_of g link.to)) ++ y.on_way l
    pub on_time : ((p : ℕ) → p < length g.platforms → IsFinished g p (y.at p)) → (p : ℕ) → p < length g.platforms → LegalOnTime g level p (opened g p rows) (y.did p) (y.at p)

  ended : (most r : ℕ) (room : ℕ → ℕ) (x y : RunState) (m : VisitRecord) → Sound g level rows x → IsVisit g level most room r x m y → Ended y
  ended most r room x y m h k = record {
    legal = legal_after g level rows wired are fits most r room x y m h k;
    single = single_after g level rows wired are fits most r room x y m h k;
    linked = linked_after g level rows wired are fits most r room x y m h k;
    on_time = λ done p lt. ⊎_elim
        (λ (here : p ≡ m.platform). subst (λ q. LegalOnTime g level q (opened g q rows) (y.did q) (y.at q)) (sym here)
        (subst (λ l. LegalOnTime g level m.platform (opened g m.platform rows) l (y.at m.platform)) (sym k.joins)
        (push_time g level m.platform (x.did m.platform) m.turn (opened g m.platform rows) (x.at m.platform) (y.at m.platform) (goes_on_time g level m.platform (x.did m.platform) (opened g m.platform rows) (x.at m.platform) (h.goes m.platform))
        (in_time (y.at m.platform) (subst (λ q. IsFinished g q (y.at q)) here (done p lt)) m.late k.is))))
        (λ (there : p ≢ m.platform).
        subst (λ l. LegalOnTime g level p (opened g p rows) l (y.at p)) (sym (k.others p there).1)
        (subst (LegalOnTime g level p (opened g p rows) (x.did p)) (sym (k.others p there).0) (goes_on_time g level p (x.did p) (opened g p rows) (x.at p) (h.goes p))))
        (cases_same p m.platform);
  }
    where
      in_time : (new : State) → IsFinished g m.platform new → (late : Bool) → IsTurn g level m.platform (x.at m.platform) m.turn late new → IsTurn g level m.platform (x.at m.platform) m.turn false new
      in_time new done false is = is
      in_time new done true is = absurd (late_turn g level m.platform (x.at m.platform) new m.turn is done)

  fine_if_going : (y : RunState) (m : VisitRecord) → (IsOver g m y → ⊥) → m.fault ≡ false
  fine_if_going y m going = ⊎_elim (λ (e : m.fault ≡ true). absurd (going (inr e))) (λ (e : m.fault ≡ false). e) (cases_Bool m.fault)

  visits_ended : (most i : ℕ) (clocks : ℕ → List ℕ) (x y : RunState) (ms : List VisitRecord) → Sound g level rows x → Visits g level most i clocks x ms y → Ended y
  visits_ended most i clocks x y [] h v = absurd v
  visits_ended most i clocks x y (m ∷ []) h (r, at, given, visit, over, none) = ended most r (λ l. 64) x y m h visit
  visits_ended most i clocks x y (m ∷ n ∷ ms) h (r, later, mid, at, given, visit, going, rest) =
      visits_ended most (platform_after g i) (put_clock clocks i later) mid y (n ∷ ms) (sound_after g level rows wired are fits most r (λ l. 64) x mid m h visit (fine_if_going mid m going)) rest

pub fixed_order_is_legal : FixedOrderIsLegal
fixed_order_is_legal g level rows most readings y wired are fits went =
    let e = visits_ended g level rows wired are fits most 0 _ (run_at_start g rows) y went.made (sound_at_start g level rows) went.visits in
    let keep = λ (i : ℕ). kept_is_legal g level i rows (y.did i) (y.at i) wired are fits (e.single i) in
    let linked : (l : ℕ) (link : Link) → slice_get g.links l ≡ Some link → all_sent l (kept (y.did (platform_of g link.from))) ≡ all_taken l (kept (y.did (platform_of g link.to))) ++ y.on_way l =
    λ l link at. (keep (platform_of g link.from)).2.sent l ∙ e.linked l link at ∙ ap (λ z. z ++ y.on_way l) (sym ((keep (platform_of g link.to)).2.taken l)) in
    let matched : AreMatched g (λ i. kept (y.did i)) = λ l link at. (y.on_way l, linked l link at) in (
      (λ i lt. (keep i).0 (e.legal i)),
      matched,
      (λ done. matched_is_linked g level rows (λ i. kept (y.did i)) y.at wired are fits (λ i lt. (keep i).1 (e.on_time done i lt)) done matched),
    )

-- a legal history of a finished platform has no late turn
pub finished_on_time : (g : Graph) (level : ℕ → ℕ) (i : ℕ) (turns : List Turn) (s new : State) → Legal g level i s turns new → IsFinished g i new → LegalOnTime g level i s turns new
finished_on_time g level i [] s new e done = e
finished_on_time g level i (turn ∷ turns) s new (false, mid, is, last, rest) done = (mid, is, finished_on_time g level i turns mid new rest done)
finished_on_time g level i (turn ∷ turns) s new (true, mid, is, last, rest) done =
    let none : turns ≡ [] = last (inl refl) in
    let same : new ≡ mid = subst (λ ts. Legal g level i mid ts new) none rest in
    absurd (late_turn g level i s mid turn is (subst (IsFinished g i) same done))

pub linked_if_finished : FinishedIsLinked
linked_if_finished g level rows histories ends wired are fits legal finished matched =
    matched_is_linked g level rows histories ends wired are fits (λ i lt. finished_on_time g level i (histories i) (opened g i rows) (ends i) (legal i lt).leads (finished i lt)) finished matched
