-- What a turn with these hints that may follow shows of the turn that was made.
use Rattle.std.proofs.Common.{◌≡◌, ℕ, ◌+◌, ◌≤◌, ◌⊎◌, max, Bool, true, false, List, [], ◌∷◌, ◌++◌, Option, Some, None, length, refl, sym, ap, subst, ◌∙◌, inl, inr, ⊎_elim, append-nil, arith}
use Rattle.std.proofs.lemmas.Bool.{cases_Bool, false≢true}
use Rattle.std.proofs.lemmas.List.{length-map}
use Rattle.pt_types.specs.declared.graph.Graph.{Graph}
use Rattle.pt_types.specs.declared.firing.Done.{Done}
use Rattle.pt_types.specs.declared.firing.OnLink.{OnLink}
use Rattle.pt_types.specs.declared.firing.Task.{Task}
use Rattle.pt_semantics.specs.Bounds.{link_bound}
use Rattle.pt_semantics.specs.Closing.{on_link}
use Rattle.pt_semantics.specs.Entering.{after_rows}
use Rattle.pt_semantics.specs.Platform.{State, raised}
use Rattle.pt_semantics.specs.Posting.{Posts, after_post}
use Rattle.pt_semantics.specs.Safe.{NothingSafe}
use Rattle.pt_semantics.specs.Taking.{IsOnTime, Takes, after_message, with_taken}
use Rattle.pt_semantics.specs.Turn.{IsTurn, Turn}
use Rattle.pt_paced_laws.proofs.SameTurn.{claims_grow}
use Rattle.pt_turn.specs.Posts.Posted.{AreDone, ArePosted}
use Rattle.pt_turn.specs.Fields.State.{busy_in}
use Rattle.pt_turn.specs.Platforms.{PlatformView, level_at, raised_to, state_at}
use Rattle.pt_turn.specs.Turned.{IsTurned, is_late}
use Rattle.pt_audit.specs.declared.parse.hints.Hints.{Hints}
use Rattle.pt_audit.specs.Parsing.Hints.{AreHints}
use Rattle.pt_audit.proofs.Remaking.Results.{number_of}
use Rattle.pt_audit.specs.Remaking.Steps.{AreOf, CanSend, HasCounts, IsInForm}
use Rattle.pt_audit.proofs.Remaking.OneTurn.{claims_count, done_state, late_is_last, takes_logged, took, claims_logged}
use Rattle.pt_audit.proofs.Remaking.Results.{all_posted, dones_are, posts_open}
use Rattle.pt_audit.proofs.Remaking.Tidy.{IsTidy}

-- the reading of the turn is the last one of the hints
pub reading_is : (reading : Option ℕ) (hints : Hints) → IsInForm reading hints → raised_to reading hints.last ≡ hints.last
reading_is None hints form = refl
reading_is (Some p) hints form = later p hints.last (le p hints.first hints.last (form.rises p refl) form.span)
  where
    le : (a b c : ℕ) → a ≤ b → b ≤ c → a ≤ c
    le a b c h k = omega (arith, h, k)

    later : (p r : ℕ) → p ≤ r → raised_to (Some p) r ≡ r
    later p r h = grind arith

-- posting and taking make no claims
posts_claims : (g : Graph) (ds : List Done) (s new : State) → Posts g s ds new → new.claims ≡ s.claims
posts_claims g [] s new e = ap (λ (z : State). z.claims) e
posts_claims g (d ∷ ds) s new (busy, result, rest) = posts_claims g ds (after_post g s d) new rest

takes_claims : (g : Graph) (level : ℕ → ℕ) (i : ℕ) (ms : List OnLink) (late : Bool) (s new : State) → Takes g level i s ms late new → new.claims ≡ s.claims
takes_claims g level i [] late s new e = ap (λ (z : State). z.claims) e.1
takes_claims g level i (m ∷ ms) late s new (link, at, home, orderly, next) =
    ⊎_elim
    (λ (on : IsOnTime s.reading (link_bound g link) m.message × Takes g level i (after_message s m.link link m.message) ms late new). takes_claims g level i ms late (after_message s m.link link m.message) new on.1)
    (λ (off : (IsOnTime s.reading (link_bound g link) m.message → ⊥) × (ms ≡ []) × (late ≡ true) × (new ≡ with_taken s m.link m.message)). ap (λ (z : State). z.claims) off.3)
    next

-- if a turn claims nothing and no message was late, nothing is left to claim
idle_for_good : (g : Graph) (level : ℕ → ℕ) (i : ℕ) (s new : State) (turn : Turn) (late : Bool) → (t : IsTurn g level i s turn late new) → late ≡ false → turn.claimed ≡ [] → NothingSafe g t.ready.waits t.ready.busy turn.last ⊎ (g.claims ≤ t.ready.claims)
idle_for_good g level i s new turn late t timely none =
    let grew : t.ready.claims ≡ length turn.claimed + t.got.claims = claims_grow g turn.last turn.claimed (raised t.got turn.last) t.ready t.claims in
    let got : t.got.claims ≡ t.posted.claims = takes_claims g level i turn.taken late (after_rows t.posted turn.last) t.got t.takes in
    let posted : t.posted.claims ≡ s.claims = posts_claims g turn.posted s t.posted t.posts in
    ⊎_elim
    (λ (slow : late ≡ true). absurd (false≢true (sym timely ∙ slow)))
    (λ (h : NothingSafe g t.ready.waits t.ready.busy turn.last ⊎ (g.claims ≤ s.claims)).
    ⊎_elim
    (λ (safe : NothingSafe g t.ready.waits t.ready.busy turn.last). inl safe)
    (λ (all : g.claims ≤ s.claims). inr (at_least s.claims t.posted.claims t.got.claims t.ready.claims (length turn.claimed) all posted got grew))
    h)
    (t.greedy none)
  where
    at_least : (a b c d n : ℕ) → g.claims ≤ a → b ≡ a → c ≡ b → d ≡ n + c → g.claims ≤ d
    at_least a b c d n h e f k = omega (arith, h, e, f, k)

-- a turn that was made from hints, and a turn that has these hints
module _ (hints : Hints) (old mid : PlatformView) (claims : List Task) (dones : List Done) (tidy : IsTidy old.plan.graph (level_at old) old.number claims (state_at old)) (form : IsInForm old.reading hints)
    (are : AreOf claims hints.posts.items dones) (done : AreDone old.plan.graph dones) (made : IsTurned old mid hints.last (max 1 hints.claims) dones hints.taken.items)
    (turn : Turn) (logged : AreHints old.number turn hints) (slow : Bool) (s : State) (is : IsTurn old.plan.graph (level_at old) old.number (state_at old) turn slow s) where
  same_last : made.turn.last ≡ turn.last
  same_last = made.at.1 ∙ reading_is old.reading hints form ∙ logged.last

  dones_logged : dones ≡ turn.posted
  dones_logged = dones_are old.plan.graph (level_at old) old.number claims (state_at old) turn.posted dones tidy (posts_open old.plan.graph turn.posted (state_at old) is.posted is.posts) (subst (λ ns. AreOf claims ns dones) logged.posts are) done

  same_posted : made.turn.posted ≡ turn.posted
  same_posted = all_posted old.plan.graph turn.posted made.turn.posted (state_at old) is.posted is.posts (subst (λ ds. ArePosted old.plan.graph (busy_in old.open_claims) ds made.turn.posted) dones_logged made.posted)

  takes_in : Takes old.plan.graph (level_at old) old.number (after_rows made.is.posted made.turn.last) turn.taken slow is.got
  takes_in = takes_logged old.plan.graph (level_at old) old.number (state_at old) (state_at mid) s made.turn turn (is_late mid.fault) slow made.is is same_last same_posted

  front : turn.taken ≡ made.turn.taken ++ made.taken.rest
  front = sym logged.taken ∙ made.taken.front

  nothing_left : made.taken.rest ≡ []
  nothing_left =
      ⊎_elim
      (λ (late : is_late mid.fault ≡ true).
      late_is_last old.plan.graph (level_at old) old.number made.turn.taken made.taken.rest slow (after_rows made.is.posted made.turn.last) made.is.got is.got
      (subst (λ b. Takes old.plan.graph (level_at old) old.number (after_rows made.is.posted made.turn.last) made.turn.taken b made.is.got) late made.is.takes)
      (subst (λ ms. Takes old.plan.graph (level_at old) old.number (after_rows made.is.posted made.turn.last) ms slow is.got) front takes_in))
      (λ (timely : is_late mid.fault ≡ false). made.taken.all timely)
      (cases_Bool (is_late mid.fault))

  same_taken : made.turn.taken ≡ turn.taken
  same_taken = sym (front ∙ ap (λ ms. made.turn.taken ++ ms) nothing_left ∙ append-nil made.turn.taken)

  both_took : (is_late mid.fault ≡ slow) × (made.is.got ≡ is.got)
  both_took = took old.plan.graph (level_at old) old.number (state_at old) (state_at mid) s made.turn turn (is_late mid.fault) slow made.is is same_last same_posted same_taken

  same_count : length made.turn.claimed ≡ length turn.claimed
  same_count =
      ⊎_elim
      (λ (late : is_late mid.fault ≡ true). ap length (made.is.idle_if_late late ∙ sym (is.idle_if_late (sym both_took.0 ∙ late))))
      (λ (timely : is_late mid.fault ≡ false).
      claims_count old.plan.graph made.turn.last (max 1 hints.claims) made.turn.claimed turn.claimed (raised made.is.got made.turn.last) made.is.ready is.ready made.is.claims
      (claims_logged old.plan.graph (level_at old) old.number (state_at old) (state_at mid) s made.turn turn (is_late mid.fault) slow made.is is same_last same_posted same_taken)
      (ap (max 1) logged.claims) made.few (made.all_or timely)
      (λ none. subst (λ r. NothingSafe old.plan.graph is.ready.waits is.ready.busy r ⊎ (old.plan.graph.claims ≤ is.ready.claims)) (sym same_last) (idle_for_good old.plan.graph (level_at old) old.number (state_at old) s turn slow is (sym both_took.0 ∙ timely) none))
      made.is.at_most.1 is.at_most.1)
      (cases_Bool (is_late mid.fault))

  -- as much was done in the turn that was made
  pub counts_hold : HasCounts hints made.turn
  counts_hold = record {
    posted = ap length same_posted ∙ sym (ap length logged.posts ∙ length-map turn.posted number_of);
    taken = ap length (same_taken ∙ sym logged.taken);
    claimed = same_count ∙ sym logged.claims;
  }

  -- and what was sent after that turn can be sent
  pub sends_hold : CanSend mid.outbox hints.sent.items
  sends_hold =
      let same_done : made.is.done ≡ is.done = done_state old.plan.graph (level_at old) old.number (state_at old) (state_at mid) s made.turn turn (is_late mid.fault) slow made.is is same_last same_posted same_taken same_count in
      record {
        rest = is.sends.0;
        front = λ l.
            sym (made.is.sends.2 l ∙ ap (λ z. on_link l z ++ made.is.sends.0 l) made.at.3 ∙ sym (ap (λ (z : State). z.outbox l) made.is.sends.1))
            ∙ ap (λ (z : State). z.outbox l) same_done
            ∙ is.sends.2 l
            ∙ ap (λ z. on_link l z ++ is.sends.0 l) (sym logged.sent);
        few = λ l. subst (λ z. length (on_link l z) ≤ 64) (sym logged.sent) (is.sends.3 l);
      }
