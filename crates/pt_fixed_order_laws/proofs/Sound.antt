-- What is true between any two visits.
use Rattle.std.proofs.Common.{◌≡◌, ◌≢◌, ℕ, ◌<◌, ◌==◌, Bool, true, false, List, [], ◌∷◌, ◌++◌, Option, None, Some, slice_get, ℤ, refl, sym, ap, ap₂, subst, ◌∙◌, inl, ⊎_elim, append_assoc, append-nil, eqb-true, ◌^◌}
use Rattle.std.proofs.lemmas.Bool.{cases_Bool, cond-false}
use Rattle.std.specs.List.{cons_option}
use Rattle.pt_tags.specs.declared.message.Message.{Message}
use Rattle.pt_tags.specs.declared.message.Message.TheVariants.{End}
use Rattle.pt_tags.specs.declared.tag.Tag.{Tag}
use Rattle.pt_types.specs.declared.firing.Done.{Done}
use Rattle.pt_types.specs.declared.firing.OnLink.{OnLink}
use Rattle.pt_types.specs.declared.firing.Task.{Task}
use Rattle.pt_types.specs.declared.graph.Graph.{Graph}
use Rattle.pt_types.specs.declared.graph.Link.{Link}
use Rattle.pt_types.specs.declared.graph.Unit.{Unit}
use Rattle.pt_types.specs.declared.rows.Row.{Row}
use Rattle.pt_types.specs.Ports.{when}
use Rattle.pt_semantics.specs.Bounds.{link_bound}
use Rattle.pt_semantics.specs.Claiming.{Claims, after_claim}
use Rattle.pt_semantics.specs.Closing.{CanClose, end_for, on_link, shut}
use Rattle.pt_types.specs.Lookups.{platform_of}
use Rattle.pt_semantics.specs.Entering.{after_rows}
use Rattle.pt_semantics.specs.History.{Legal, LegalOnTime}
use Rattle.pt_semantics.specs.Kept.{IsSingle}
use Rattle.pt_semantics.specs.Linked.{all_sent, all_taken}
use Rattle.pt_semantics.specs.Lists.{Each}
use Rattle.pt_semantics.specs.Platform.{State, opened, raised}
use Rattle.pt_semantics.specs.Posting.{Posts, after_post, message_from}
use Rattle.pt_semantics.specs.Ranks.{AreLevels}
use Rattle.pt_semantics.specs.Rows.{FitRows}
use Rattle.pt_semantics.specs.Taking.{IsOnTime, Takes, after_message, with_taken}
use Rattle.pt_semantics.specs.Turn.{IsLast, IsTurn, Turn}
use Rattle.pt_semantics.specs.Units.{unit_of}
use Rattle.pt_semantics.specs.Visits.{IsVisit, VisitRecord, RunState, run_at_start}
use Rattle.pt_semantics.specs.Wired.{IsWired}
use Rattle.pt_semantics.proofs.Floor.{put_none_found}
use Rattle.pt_laws.proofs.Home.{home_on_time}
use Rattle.pt_semantics.proofs.Longest.{levels_grow}
use Rattle.pt_semantics.proofs.Lookups.{same_some}
use Rattle.pt_laws.proofs.Onward.{cases_same}
use Rattle.pt_semantics.proofs.Words.{when-false}
use Rattle.pt_fixed_order_laws.specs.Sound.{NoneWasLast, IsForeign, SendsNothingElse, Sound}

abbrev pub OwnBusy : Graph → ℕ → State → Type 0
OwnBusy g i s = (u : Unit) (task : Task) → s.busy u ≡ Some task → platform_of g u.actor ≡ i

never : {X : Type 0} (x : X) (xs : List X) → x ∷ xs ≡ [] → ⊥
never x xs e = cc

no_left : (a b : List Message) → a ++ b ≡ [] → a ≡ []
no_left [] b e = refl
no_left (x ∷ a) b e = absurd (never x (a ++ b) e)

no_right : (a b : List Message) → a ++ b ≡ [] → b ≡ []
no_right [] b e = e
no_right (x ∷ a) b e = absurd (never x (a ++ b) e)

message_none : (o : Option Link) (a : ℕ) (t : Tag) (outputs : List (Option ℤ)) → ((link : Link) → o ≡ Some link → link.from ≡ a → ⊥) → message_from o a t outputs ≡ []
message_none None a t outputs f = refl
message_none (Some link) a t outputs f =
    cond-false (link.from == a) _ [] (⊎_elim (λ (e : (link.from == a) ≡ true). absurd (f link refl (eqb-true link.from a e))) (λ (e : (link.from == a) ≡ false). e) (cases_Bool (link.from == a)))

end_none : (g : Graph) (i : ℕ) (o : Option Link) → ((link : Link) → o ≡ Some link → platform_of g link.from ≡ i → ⊥) → end_for g i o ≡ []
end_none g i None f = refl
end_none g i (Some link) f =
    cond-false (platform_of g link.from == i) (End ∷ []) []
    (⊎_elim (λ (e : (platform_of g link.from == i) ≡ true). absurd (f link refl (eqb-true (platform_of g link.from) i e))) (λ (e : (platform_of g link.from == i) ≡ false). e) (cases_Bool (platform_of g link.from == i)))

module _ (g : Graph) (level : ℕ → ℕ) (i : ℕ) where
  posts_own : (ds : List Done) (s new : State) → OwnBusy g i s → SendsNothingElse g i s → Posts g s ds new → SendsNothingElse g i new
  posts_own [] s new own none e = subst (SendsNothingElse g i) (sym e) none
  posts_own (d ∷ ds) s new own none (busy, fired, rest) = posts_own ds (after_post g s d) new
      (λ u task b. own u task (put_none_found s.busy (unit_of g d.task) u task b))
      (λ l f. ap (λ z. s.outbox l ++ z) (message_none (slice_get g.links l) d.task.actor d.task.tag d.fired.outputs (λ link at mine. f link at (ap (platform_of g) mine ∙ own (unit_of g d.task) d.task busy)))
      ∙ append-nil (s.outbox l) ∙ none l f)
      rest

  takes_outbox : (ms : List OnLink) (late : Bool) (s new : State) → Takes g level i s ms late new → new.outbox ≡ s.outbox
  takes_outbox [] late s new (none, e) = ap (λ (z : State). z.outbox) e
  takes_outbox (m ∷ ms) late s new (link, at, home, orderly, next) = ⊎_elim
      (λ (on : IsOnTime s.reading (link_bound g link) m.message × Takes g level i (after_message s m.link link m.message) ms late new). takes_outbox ms late (after_message s m.link link m.message) new on.1)
      (λ (off : (IsOnTime s.reading (link_bound g link) m.message → ⊥) × (ms ≡ []) × (late ≡ true) × (new ≡ with_taken s m.link m.message)). ap (λ (z : State). z.outbox) off.3)
      next

  pub takes_own : (ms : List OnLink) (late : Bool) (s new : State) (l : ℕ) (link : Link) → slice_get g.links l ≡ Some link → (platform_of g link.to ≡ i → ⊥) → Takes g level i s ms late new → on_link l ms ≡ []
  takes_own [] late s new l link at other h = refl
  takes_own (m ∷ ms) late s new l link at other (to, at_to, home, orderly, next) =
      let here : when (m.link == l) (Some m.message) ≡ None =
      ⊎_elim
      (λ (e : (m.link == l) ≡ true). absurd (other (ap (λ (z : Link). platform_of g z.to) (same_some link to (sym at ∙ ap (slice_get g.links) (sym (eqb-true m.link l e)) ∙ at_to)) ∙ home)))
      (λ (e : (m.link == l) ≡ false). when-false (m.link == l) (Some m.message) e)
      (cases_Bool (m.link == l)) in
      ap (λ o. cons_option o (on_link l ms)) here
      ∙ ⊎_elim
      (λ (on : IsOnTime s.reading (link_bound g to) m.message × Takes g level i (after_message s m.link to m.message) ms late new). takes_own ms late (after_message s m.link to m.message) new l link at other on.1)
      (λ (off : (IsOnTime s.reading (link_bound g to) m.message → ⊥) × (ms ≡ []) × (late ≡ true) × (new ≡ with_taken s m.link m.message)). ap (on_link l) off.1)
      next

  claims_outbox : (r : ℕ) (tasks : List Task) (s new : State) → Claims g r s tasks new → new.outbox ≡ s.outbox
  claims_outbox r [] s new e = ap (λ (z : State). z.outbox) e
  claims_outbox r (task ∷ tasks) s new (is, rest) = claims_outbox r tasks (after_claim g s (unit_of g task) task) new rest

  pub record Own (s : State) (turn : Turn) (new : State) : Type 0 where
    pub sent : (l : ℕ) → IsForeign g i l → on_link l turn.sent ≡ []
    pub left : SendsNothingElse g i new

  pub turn_own : (s new : State) (turn : Turn) (late : Bool) → OwnBusy g i s → SendsNothingElse g i s → IsTurn g level i s turn late new → Own s turn new
  turn_own s new turn late own none is =
      let posted = posts_own turn.posted s is.posted own none is.posts in
      let ready : SendsNothingElse g i is.ready = λ l f.
      ap (λ (z : ℕ → List Message). z l) (claims_outbox turn.last turn.claimed (raised is.got turn.last) is.ready is.claims ∙ takes_outbox turn.taken late (after_rows is.posted turn.last) is.got is.takes)
      ∙ posted l f in
      let done : SendsNothingElse g i is.done = ⊎_elim
      (λ (shuts : CanClose g i is.ready turn.last × (late ≡ false) × (is.done ≡ shut g i is.ready)). λ l f. ap (λ (z : State). z.outbox l) shuts.2 ∙ ap (λ z. is.ready.outbox l ++ z) (end_none g i (slice_get g.links l) (λ link at. f link at)) ∙ append-nil (is.ready.outbox l) ∙ ready l f)
      (λ (stays : (CanClose g i is.ready turn.last → late ≡ true) × (is.done ≡ is.ready)). λ l f. ap (λ (z : State). z.outbox l) stays.1 ∙ ready l f)
      is.closes in
      record {
        sent = λ l f. no_left (on_link l turn.sent) (is.sends.0 l) (sym (is.sends.2 l) ∙ done l f);
        left = λ l f. ap (λ (z : State). z.outbox l) is.sends.1 ∙ no_right (on_link l turn.sent) (is.sends.0 l) (sym (is.sends.2 l) ∙ done l f);
      }

claims_reading : (g : Graph) (r : ℕ) (tasks : List Task) (s new : State) → Claims g r s tasks new → new.reading ≡ s.reading
claims_reading g r [] s new e = ap (λ (z : State). z.reading) e
claims_reading g r (task ∷ tasks) s new (is, rest) = claims_reading g r tasks (after_claim g s (unit_of g task) task) new rest

-- after a turn the platform's last reading is the turn's
pub turn_reading : (g : Graph) (level : ℕ → ℕ) (i : ℕ) (s new : State) (turn : Turn) (late : Bool) → IsTurn g level i s turn late new → new.reading ≡ Some turn.last
turn_reading g level i s new turn late is =
    ap (λ (z : State). z.reading) is.sends.1
    ∙ ⊎_elim
    (λ (shuts : CanClose g i is.ready turn.last × (late ≡ false) × (is.done ≡ shut g i is.ready)). ap (λ (z : State). z.reading) shuts.2)
    (λ (stays : (CanClose g i is.ready turn.last → late ≡ true) × (is.done ≡ is.ready)). ap (λ (z : State). z.reading) stays.1)
    is.closes
    ∙ claims_reading g turn.last turn.claimed (raised is.got turn.last) is.ready is.claims

pub sent_push : (l : ℕ) (turns : List Turn) (turn : Turn) → all_sent l (turns ++ turn ∷ []) ≡ all_sent l turns ++ on_link l turn.sent
sent_push l [] turn = append-nil (on_link l turn.sent)
sent_push l (x ∷ turns) turn = ap (λ z. on_link l x.sent ++ z) (sent_push l turns turn) ∙ sym (append_assoc (on_link l x.sent) (all_sent l turns) (on_link l turn.sent))

pub taken_push : (l : ℕ) (turns : List Turn) (turn : Turn) → all_taken l (turns ++ turn ∷ []) ≡ all_taken l turns ++ on_link l turn.taken
taken_push l [] turn = append-nil (on_link l turn.taken)
taken_push l (x ∷ turns) turn = ap (λ z. on_link l x.taken ++ z) (taken_push l turns turn) ∙ sym (append_assoc (on_link l x.taken) (all_taken l turns) (on_link l turn.taken))

pub single_push : (turns : List Turn) (turn : Turn) → Each IsSingle turns → IsSingle turn → Each IsSingle (turns ++ turn ∷ [])
single_push [] turn h one = (one, tt)
single_push (x ∷ turns) turn h one = (h.0, single_push turns turn h.1 one)

pub goes_on_time : (g : Graph) (level : ℕ → ℕ) (i : ℕ) (turns : List Turn) (s new : State) → NoneWasLast g level i s turns new → LegalOnTime g level i s turns new
goes_on_time g level i [] s new e = e
goes_on_time g level i (turn ∷ turns) s new (mid, is, on, rest) = (mid, is, goes_on_time g level i turns mid new rest)

pub goes_legal : (g : Graph) (level : ℕ → ℕ) (i : ℕ) (turns : List Turn) (s new : State) → NoneWasLast g level i s turns new → Legal g level i s turns new
goes_legal g level i [] s new e = e
goes_legal g level i (turn ∷ turns) s new (mid, is, on, rest) = (false, mid, is, (λ l. absurd (on l)), goes_legal g level i turns mid new rest)

pub push_last : (g : Graph) (level : ℕ → ℕ) (i : ℕ) (turns : List Turn) (turn : Turn) (late : Bool) (s mid new : State) → NoneWasLast g level i s turns mid → IsTurn g level i mid turn late new → Legal g level i s (turns ++ turn ∷ []) new
push_last g level i [] turn late s mid new e is = subst (λ z. Legal g level i z (turn ∷ []) new) e (late, new, is, (λ l. refl), refl)
push_last g level i (x ∷ turns) turn late s mid new (one, ix, on, rest) is = (false, one, ix, (λ l. absurd (on l)), push_last g level i turns turn late one mid new rest is)

pub push_on : (g : Graph) (level : ℕ → ℕ) (i : ℕ) (turns : List Turn) (turn : Turn) (s mid new : State) → NoneWasLast g level i s turns mid → (is : IsTurn g level i mid turn false new) → (IsLast g mid turn.last false is.ready → ⊥) → NoneWasLast g level i s (turns ++ turn ∷ []) new
push_on g level i [] turn s mid new e is on = subst (λ z. NoneWasLast g level i z (turn ∷ []) new) e (new, is, on, refl)
push_on g level i (x ∷ turns) turn s mid new (one, ix, on2, rest) is on = (one, ix, on2, push_on g level i turns turn one mid new rest is on)

-- all histories when one of them has a turn more
module _ (g : Graph) (i : ℕ) (turn : Turn) (before after : ℕ → List Turn) (joins : after i ≡ before i ++ turn ∷ []) (others : (p : ℕ) → p ≢ i → after p ≡ before p) (l : ℕ) (link : Link) (at : slice_get g.links l ≡ Some link) where
  pub one_more_sent : (IsForeign g i l → on_link l turn.sent ≡ []) → all_sent l (after (platform_of g link.from)) ≡ all_sent l (before (platform_of g link.from)) ++ on_link l turn.sent
  one_more_sent own = ⊎_elim
      (λ (here : platform_of g link.from ≡ i). ap (λ p. all_sent l (after p)) here ∙ ap (all_sent l) joins ∙ sent_push l (before i) turn ∙ ap (λ p. all_sent l (before p) ++ on_link l turn.sent) (sym here))
      (λ (there : platform_of g link.from ≢ i). ap (all_sent l) (others (platform_of g link.from) there)
      ∙ sym (ap (λ z. all_sent l (before (platform_of g link.from)) ++ z) (own (λ other at2 e. there (ap (λ (z : Link). platform_of g z.from) (same_some link other (sym at ∙ at2)) ∙ e))) ∙ append-nil (all_sent l (before (platform_of g link.from)))))
      (cases_same (platform_of g link.from) i)

  pub one_more_taken : (platform_of g link.to ≢ i → on_link l turn.taken ≡ []) → all_taken l (after (platform_of g link.to)) ≡ all_taken l (before (platform_of g link.to)) ++ on_link l turn.taken
  one_more_taken own = ⊎_elim
      (λ (here : platform_of g link.to ≡ i). ap (λ p. all_taken l (after p)) here ∙ ap (all_taken l) joins ∙ taken_push l (before i) turn ∙ ap (λ p. all_taken l (before p) ++ on_link l turn.taken) (sym here))
      (λ (there : platform_of g link.to ≢ i). ap (all_taken l) (others (platform_of g link.to) there)
      ∙ sym (ap (λ z. all_taken l (before (platform_of g link.to)) ++ z) (own there) ∙ append-nil (all_taken l (before (platform_of g link.to)))))
      (cases_same (platform_of g link.to) i)

  -- if the turn takes the first messages that are on the way and sends further ones, the link still carries what was sent
  pub one_more_linked : (IsForeign g i l → on_link l turn.sent ≡ []) → (platform_of g link.to ≢ i → on_link l turn.taken ≡ []) → (way rest new_way : List Message) → way ≡ on_link l turn.taken ++ rest → new_way ≡ rest ++ on_link l turn.sent →
      all_sent l (before (platform_of g link.from)) ≡ all_taken l (before (platform_of g link.to)) ++ way →
      all_sent l (after (platform_of g link.from)) ≡ all_taken l (after (platform_of g link.to)) ++ new_way
  one_more_linked own_sent own_taken way rest new_way first last linked =
      let T : List Message = all_taken l (before (platform_of g link.to)) in
      let t : List Message = on_link l turn.taken in
      let s : List Message = on_link l turn.sent in
      one_more_sent own_sent
      ∙ ap (λ z. z ++ s) (linked ∙ ap (λ z. T ++ z) first)
      ∙ append_assoc T (t ++ rest) s
      ∙ ap (λ z. T ++ z) (append_assoc t rest s)
      ∙ sym (append_assoc T t (rest ++ s))
      ∙ ap₂ (λ a b. a ++ b) (sym (one_more_taken own_taken)) (sym last)

pub sound_at_start : (g : Graph) (level : ℕ → ℕ) (rows : ℕ → List Row) → Sound g level rows (run_at_start g rows)
sound_at_start g level rows = record { goes = λ p. refl; single = λ p. tt; linked = λ l link at. refl; own = λ p l f. refl }

module _ (g : Graph) (level : ℕ → ℕ) (rows : ℕ → List Row) (wired : IsWired g) (are : AreLevels g level) (fits : FitRows g rows) where
  module _ (most r : ℕ) (room : ℕ → ℕ) (x y : RunState) (m : VisitRecord) (h : Sound g level rows x) (k : IsVisit g level most room r x m y) where
    pub own_turn : Own g level m.platform (x.at m.platform) m.turn (y.at m.platform)
    own_turn = turn_own g level m.platform (x.at m.platform) (y.at m.platform) m.turn m.late
        (home_on_time g level m.platform rows (x.did m.platform) (x.at m.platform) wired (levels_grow g level are) fits (goes_on_time g level m.platform (x.did m.platform) (opened g m.platform rows) (x.at m.platform) (h.goes m.platform))).busy
        (h.own m.platform) k.is

    pub linked_after : (l : ℕ) (link : Link) → slice_get g.links l ≡ Some link → all_sent l (y.did (platform_of g link.from)) ≡ all_taken l (y.did (platform_of g link.to)) ++ y.on_way l
    linked_after l link at =
        one_more_linked g m.platform m.turn x.did y.did k.joins (λ p ne. (k.others p ne).1) l link at (own_turn.sent l)
        (λ away. takes_own g level m.platform m.turn.taken m.late (after_rows k.is.posted m.turn.last) k.is.got l link at away k.is.takes)
        (x.on_way l) (k.rest l) (y.on_way l) (k.takes l) (k.sends l) (h.linked l link at)

    pub single_after : (p : ℕ) → Each IsSingle (y.did p)
    single_after p = ⊎_elim
        (λ (here : p ≡ m.platform).
        subst (λ q. Each IsSingle (y.did q)) (sym here)
        (subst (Each IsSingle) (sym k.joins) (single_push (x.did m.platform) m.turn (h.single m.platform)
        (record { once = k.once; one_reading = k.first ∙ sym k.last; fits = subst (λ n. n < 2 ^ 64) (sym k.last) k.fits }))))
        (λ (there : p ≢ m.platform). subst (Each IsSingle) (sym (k.others p there).1) (h.single p))
        (cases_same p m.platform)

    pub legal_after : (p : ℕ) → Legal g level p (opened g p rows) (y.did p) (y.at p)
    legal_after p = ⊎_elim
        (λ (here : p ≡ m.platform).
        subst (λ q. Legal g level q (opened g q rows) (y.did q) (y.at q)) (sym here)
        (subst (λ l. Legal g level m.platform (opened g m.platform rows) l (y.at m.platform)) (sym k.joins)
        (push_last g level m.platform (x.did m.platform) m.turn m.late (opened g m.platform rows) (x.at m.platform) (y.at m.platform) (h.goes m.platform) k.is)))
        (λ (there : p ≢ m.platform).
        subst (λ l. Legal g level p (opened g p rows) l (y.at p)) (sym (k.others p there).1)
        (subst (Legal g level p (opened g p rows) (x.did p)) (sym (k.others p there).0) (goes_legal g level p (x.did p) (opened g p rows) (x.at p) (h.goes p))))
        (cases_same p m.platform)

    not_late : m.fault ≡ false → m.late ≡ false
    not_late fine = ⊎_elim (λ (e : m.late ≡ true). absurd (differ (sym fine ∙ k.faults.0 (inl e)))) (λ (e : m.late ≡ false). e) (cases_Bool m.late)
      where
        differ : false ≡ true → ⊥
        differ e = cc

    on_time : m.late ≡ false → (is : IsTurn g level m.platform (x.at m.platform) m.turn false (y.at m.platform)) × (is.ready ≡ k.is.ready)
    on_time e = go m.late e k.is
      where
        go : (late : Bool) → late ≡ false → (is : IsTurn g level m.platform (x.at m.platform) m.turn late (y.at m.platform)) → (one : IsTurn g level m.platform (x.at m.platform) m.turn false (y.at m.platform)) × (one.ready ≡ is.ready)
        go false e is = (is, refl)
        go true e is = absurd (differ (sym e))
          where
            differ : false ≡ true → ⊥
            differ e = cc

    pub sound_after : m.fault ≡ false → Sound g level rows y
    sound_after fine =
        let late = not_late fine in
        let turn = on_time late in
        let on : IsLast g (x.at m.platform) m.turn.last false turn.0.ready → ⊥ = λ last. differ (sym fine ∙ k.faults.0
        (subst (λ b. IsLast g (x.at m.platform) r b k.is.ready) (sym late) (subst (λ n. IsLast g (x.at m.platform) n false k.is.ready) k.last (subst (IsLast g (x.at m.platform) m.turn.last false) turn.1 last)))) in
        record {
          goes = λ p. ⊎_elim
              (λ (here : p ≡ m.platform).
              subst (λ q. NoneWasLast g level q (opened g q rows) (y.did q) (y.at q)) (sym here)
              (subst (λ l. NoneWasLast g level m.platform (opened g m.platform rows) l (y.at m.platform)) (sym k.joins)
              (push_on g level m.platform (x.did m.platform) m.turn (opened g m.platform rows) (x.at m.platform) (y.at m.platform) (h.goes m.platform) turn.0 on)))
              (λ (there : p ≢ m.platform).
              subst (λ l. NoneWasLast g level p (opened g p rows) l (y.at p)) (sym (k.others p there).1)
              (subst (NoneWasLast g level p (opened g p rows) (x.did p)) (sym (k.others p there).0) (h.goes p)))
              (cases_same p m.platform);
          single = single_after;
          linked = linked_after;
          own = λ p. ⊎_elim
              (λ (here : p ≡ m.platform). subst (λ q. SendsNothingElse g q (y.at q)) (sym here) own_turn.left)
              (λ (there : p ≢ m.platform). subst (SendsNothingElse g p) (sym (k.others p there).0) (h.own p))
              (cases_same p m.platform);
        }
      where
        differ : false ≡ true → ⊥
        differ e = cc
