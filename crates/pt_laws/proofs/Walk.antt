-- Whatever each change of a platform's state keeps, a legal history keeps.
use Rattle.std.proofs.Common.{◌≡◌, ℕ, ◌≤◌, Bool, true, false, List, [], ◌∷◌, ◌++◌, Option, Some, filter_map, slice_get, arith, refl, sym, subst, ◌∙◌, inl, ⊎_elim, append-nil, append_assoc}
use Rattle.pt_types.specs.declared.graph.Graph.{Graph}
use Rattle.pt_types.specs.declared.graph.Link.{Link}
use Rattle.pt_types.specs.Lookups.{kind_of, platform_of}
use Rattle.pt_semantics.specs.Firing.{fired}
use Rattle.pt_semantics.specs.Behaviours.{Firings}
use Rattle.pt_semantics.specs.Cycles.{HasLevels}
use Rattle.pt_semantics.specs.Wired.{IsWired}
use Rattle.pt_semantics.specs.Bounds.{link_bound}
use Rattle.pt_types.specs.declared.firing.Task.{Task}
use Rattle.pt_types.specs.declared.firing.Done.{Done}
use Rattle.pt_tags.specs.declared.message.Message.{Message}
use Rattle.pt_types.specs.declared.firing.OnLink.{OnLink}
use Rattle.pt_semantics.specs.Platform.{State, raised}
use Rattle.pt_semantics.specs.Turn.{Turn, IsTurn}
use Rattle.pt_semantics.specs.Units.{unit_of}
use Rattle.pt_semantics.specs.History.{firing_by, of_unit, claims_of, Legal, LegalOnTime}
use Rattle.pt_semantics.specs.Posting.{Posts, after_post}
use Rattle.pt_semantics.specs.Entering.{after_rows}
use Rattle.pt_semantics.specs.Taking.{after_message, with_taken, Takes, IsOnTime}
use Rattle.pt_semantics.specs.Claiming.{Claims, after_claim, IsNext}
use Rattle.pt_semantics.specs.Closing.{CanClose, shut, unsent}
use Rattle.pt_semantics.specs.Orderly.{IsOrderly}
use Rattle.pt_semantics.proofs.Floor.{floor_raise}
use Rattle.pt_semantics.proofs.Claiming.{more, floor_claim}
use Rattle.pt_laws.proofs.FloorHolds.{Sound, all_more, posts_sound, rows_sound, takes_sound, turn_sound}

module _ (g : Graph) (level : ℕ → ℕ) (i : ℕ) (wired : IsWired g) (levels : HasLevels g level) (Inv : State → Firings → Type 0)
    (post : (s : State) (up : Option ℕ) (c : Firings) (d : Done) → Sound g s up c → Inv s c → s.busy (unit_of g d.task) ≡ Some d.task → d.fired ≡ fired (kind_of g d.task.actor) d.task.state d.task.inputs → Inv (after_post g s d) c)
    (enter : (s : State) (c : Firings) (r : ℕ) → Sound g s s.reading c → Inv s c → Inv (after_rows s r) c)
    (message : (s : State) (up : Option ℕ) (c : Firings) (m : OnLink) (link : Link) → Sound g s up c → Inv s c → slice_get g.links m.link ≡ Some link → platform_of g link.to ≡ i → IsOnTime s.reading (link_bound g link) m.message → IsOrderly g level link (s.taken m.link ++ m.message ∷ []) → Inv (after_message s m.link link m.message) c)
    (late_one : (s : State) (c : Firings) (l : ℕ) (m : Message) → Inv s c → Inv (with_taken s l m) c)
    (raise : (s : State) (c : Firings) (r : ℕ) → ((p : ℕ) → s.reading ≡ Some p → p ≤ r) → Inv s c → Inv (raised s r) c)
    (claim : (s : State) (up : Option ℕ) (c : Firings) (r : ℕ) (task : Task) → s.reading ≡ Some r → Sound g s up c → Inv s c → IsNext g s r (unit_of g task) task → Inv (after_claim g s (unit_of g task) task) (more c (unit_of g task) (firing_by g task)))
    (close : (s : State) (c : Firings) → Inv s c → Inv (shut g i s) c)
    (sent : (s : State) (c : Firings) (rest : ℕ → List Message) → Inv s c → Inv (unsent s rest) c) where
  posts_keep : (ds : List Done) (s new : State) (up : Option ℕ) (c : Firings) → Sound g s up c → Inv s c → Posts g s ds new → Inv new c
  posts_keep [] s new up c h k e = subst (λ z. Inv z c) (sym e) k
  posts_keep (d ∷ ds) s new up c h k (busy, result, rest) =
      posts_keep ds (after_post g s d) new up c (posts_sound g level (d ∷ []) s (after_post g s d) up c levels h (busy, result, refl)).0 (post s up c d h k busy result) rest

  takes_keep : (ms : List OnLink) (late : Bool) (s new : State) (up : Option ℕ) (c : Firings) → Sound g s up c → Inv s c → Takes g level i s ms late new → Inv new c
  takes_keep [] late s new up c h k (l, e) = subst (λ z. Inv z c) (sym e) k
  takes_keep (m ∷ ms) late s new up c h k (link, at, home, orderly, next) =
      ⊎_elim
      (λ (on : IsOnTime s.reading (link_bound g link) m.message × Takes g level i (after_message s m.link link m.message) ms late new).
      takes_keep ms late (after_message s m.link link m.message) new up c
      (takes_sound g level i (m ∷ []) false s (after_message s m.link link m.message) up c wired h (link, at, home, orderly, inl (on.0, (refl, refl)))).0
      (message s up c m link h k at home on.0 orderly) on.1)
      (λ (off : (IsOnTime s.reading (link_bound g link) m.message → ⊥) × (ms ≡ []) × (late ≡ true) × (new ≡ with_taken s m.link m.message)).
      subst (λ z. Inv z c) (sym off.3) (late_one s c m.link m.message k))
      next

  claims_keep : (r : ℕ) (tasks : List Task) (s new : State) (up : Option ℕ) (c : Firings) → s.reading ≡ Some r → Sound g s up c → Inv s c → Claims g r s tasks new → Inv new (λ u. c u ++ filter_map (of_unit g u) tasks)
  claims_keep r [] s new up c reading h k e =
      let same : ◌≡◌ {A = Firings} c (λ u. c u ++ []) = λ j u. sym (append-nil (c u)) j in
      subst (λ z. Inv z (λ u. c u ++ [])) (sym e) (subst (λ z. Inv s z) same k)
  claims_keep r (task ∷ tasks) s new up c reading h k (next, rest) =
      let one : Sound g (after_claim g s (unit_of g task) task) up (more c (unit_of g task) (firing_by g task)) =
      record { floor = floor_claim g s c (unit_of g task) task r h.floor reading next.safe; rest = record { fit = h.rest.fit; order = h.rest.order; unseen = h.rest.unseen } } in
      subst (λ z. Inv new z) (all_more c g task tasks)
      (claims_keep r tasks (after_claim g s (unit_of g task) task) new up (more c (unit_of g task) (firing_by g task)) reading one (claim s up c r task reading h k next) rest)

  -- up to the claims of a turn
  pub keeps_to_claims : (s new : State) (turn : Turn) (late : Bool) (c : Firings) → Sound g s s.reading c → Inv s c → (t : IsTurn g level i s turn late new) → Sound g (raised t.got turn.last) (Some turn.last) c × Inv (raised t.got turn.last) c
  keeps_to_claims s new turn late c h k t =
      let r : ℕ = turn.last in
      let posted = posts_sound g level turn.posted s t.posted s.reading c levels h t.posts in
      let later = λ (p : ℕ) (e : t.posted.reading ≡ Some p). le_both p turn.first turn.last (t.rises p (sym posted.1 ∙ e)) t.span in
      let sound_posted : Sound g t.posted t.posted.reading c = subst (λ z. Sound g t.posted z c) (sym posted.1) posted.0 in
      let entered = rows_sound g t.posted r c later sound_posted in
      let got = takes_sound g level i turn.taken late (after_rows t.posted r) t.got (Some r) c wired entered t.takes in
      let up : Sound g (raised t.got r) (Some r) c = record {
        floor = floor_raise g t.got c r got.0.floor (λ p e. later p (sym got.1 ∙ e));
        rest = record { fit = got.0.rest.fit; order = got.0.rest.order; unseen = got.0.rest.unseen };
      } in
      let k1 = posts_keep turn.posted s t.posted s.reading c h k t.posts in
      let k2 = takes_keep turn.taken late (after_rows t.posted r) t.got (Some r) c entered (enter t.posted c r sound_posted k1) t.takes in
      (up, raise t.got c r (λ p e. later p (sym got.1 ∙ e)) k2)
    where
      le_both : (a b d : ℕ) → a ≤ b → b ≤ d → a ≤ d
      le_both a b d x y = omega arith

  pub turn_keeps : (s new : State) (turn : Turn) (late : Bool) (c : Firings) → Sound g s s.reading c → Inv s c → IsTurn g level i s turn late new → Inv new (λ u. c u ++ filter_map (of_unit g u) turn.claimed)
  turn_keeps s new turn late c h k t =
      let r : ℕ = turn.last in
      let ready = keeps_to_claims s new turn late c h k t in
      let k3 = claims_keep r turn.claimed (raised t.got r) t.ready (Some r) c refl ready.0 ready.1 t.claims in
      let k4 : Inv t.done (λ u. c u ++ filter_map (of_unit g u) turn.claimed) =
      ⊎_elim
      (λ (shuts : CanClose g i t.ready r × (late ≡ false) × (t.done ≡ shut g i t.ready)). subst (λ z. Inv z (λ u. c u ++ filter_map (of_unit g u) turn.claimed)) (sym shuts.2) (close t.ready (λ u. c u ++ filter_map (of_unit g u) turn.claimed) k3))
      (λ (stays : (CanClose g i t.ready r → late ≡ true) × (t.done ≡ t.ready)). subst (λ z. Inv z (λ u. c u ++ filter_map (of_unit g u) turn.claimed)) (sym stays.1) k3)
      t.closes in
      subst (λ z. Inv z (λ u. c u ++ filter_map (of_unit g u) turn.claimed)) (sym t.sends.1) (sent t.done (λ u. c u ++ filter_map (of_unit g u) turn.claimed) t.sends.0 k4)

  pub legal_keeps : (turns : List Turn) (s new : State) (c : Firings) → Sound g s s.reading c → Inv s c → Legal g level i s turns new → Inv new (λ u. c u ++ claims_of g turns u)
  legal_keeps [] s new c h k e =
      let same : ◌≡◌ {A = Firings} c (λ u. c u ++ []) = λ j u. sym (append-nil (c u)) j in
      subst (λ z. Inv z (λ u. c u ++ [])) (sym e) (subst (λ z. Inv s z) same k)
  legal_keeps (turn ∷ turns) s new c h k (late, mid, is, last, rest) =
      let all = legal_keeps turns mid new (λ u. c u ++ filter_map (of_unit g u) turn.claimed) (turn_sound g level i s mid turn late c wired levels h is) (turn_keeps s mid turn late c h k is) rest in
      let same : ◌≡◌ {A = Firings} (λ u. (c u ++ filter_map (of_unit g u) turn.claimed) ++ claims_of g turns u) (λ u. c u ++ claims_of g (turn ∷ turns) u) = λ j u. append_assoc (c u) (filter_map (of_unit g u) turn.claimed) (claims_of g turns u) j in
      subst (λ z. Inv new z) same all

  pub on_time_keeps : (turns : List Turn) (s new : State) (c : Firings) → Sound g s s.reading c → Inv s c → LegalOnTime g level i s turns new → Inv new (λ u. c u ++ claims_of g turns u)
  on_time_keeps [] s new c h k e =
      let same : ◌≡◌ {A = Firings} c (λ u. c u ++ []) = λ j u. sym (append-nil (c u)) j in
      subst (λ z. Inv z (λ u. c u ++ [])) (sym e) (subst (λ z. Inv s z) same k)
  on_time_keeps (turn ∷ turns) s new c h k (mid, is, rest) =
      let all = on_time_keeps turns mid new (λ u. c u ++ filter_map (of_unit g u) turn.claimed) (turn_sound g level i s mid turn false c wired levels h is) (turn_keeps s mid turn false c h k is) rest in
      let same : ◌≡◌ {A = Firings} (λ u. (c u ++ filter_map (of_unit g u) turn.claimed) ++ claims_of g turns u) (λ u. c u ++ claims_of g (turn ∷ turns) u) = λ j u. append_assoc (c u) (filter_map (of_unit g u) turn.claimed) (claims_of g turns u) j in
      subst (λ z. Inv new z) same all
