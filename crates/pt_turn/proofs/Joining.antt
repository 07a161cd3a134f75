-- The steps make one turn.
use Rattle.std.proofs.Common.{◌≡◌, ℕ, ◌+◌, ◌≤◌, ◌⊎◌, Bool, true, false, List, [], ◌∷◌, ◌++◌, Some, length, refl, sym, ap, subst, ◌∙◌, inl, inr, ⊎_elim, arith}
use Rattle.std.proofs.lemmas.Bool.{false≢true}
use Rattle.pt_tags.specs.declared.message.Message.{Message}
use Rattle.pt_types.specs.declared.graph.Graph.{Graph}
use Rattle.pt_types.specs.declared.firing.Task.{Task}
use Rattle.pt_types.specs.declared.firing.Done.{Done}
use Rattle.pt_types.specs.declared.firing.OnLink.{OnLink}
use Rattle.pt_types.specs.declared.rows.RowAt.{RowAt}
use Rattle.pt_semantics.specs.Claiming.{Claims}
use Rattle.pt_semantics.specs.Closing.{Closes}
use Rattle.pt_semantics.specs.Entering.{after_rows, all_due}
use Rattle.pt_semantics.specs.Platform.{State, raised}
use Rattle.pt_semantics.specs.Posting.{Posts, after_post}
use Rattle.pt_semantics.specs.Safe.{NothingSafe}
use Rattle.pt_semantics.specs.Taking.{Takes}
use Rattle.pt_semantics.specs.Turn.{IsTurn, IsLast}
use Rattle.pt_turn.specs.declared.state.fields.Fields.{Fields}
use Rattle.pt_turn.specs.Fields.State.{busy_in, left_in, state_of}
use Rattle.pt_turn.specs.Claims.Claimed.{AreClaimed}
use Rattle.pt_turn.specs.Posts.Posted.{ArePosted, NeverPosts, picked}
use Rattle.pt_turn.specs.declared.claim_step.TurnEnd.{TurnEnd}
use Rattle.pt_turn.specs.declared.claim_step.TurnEnd.TheVariants.{On, Late, Long}
use Rattle.pt_turn.specs.Claiming.{EndsIn, HasClaimed, IsIdle}
use Rattle.pt_turn.specs.Takes.Taken.{Basis}
use Rattle.pt_turn.specs.declared.steps.Lists.{Lists}
use Rattle.pt_queue.specs.Events.{waiting_in}
use Rattle.pt_turn.specs.Steps.{EndsAsLast, IsFront, IsMade, ShowsEnd, took_late}

-- a state in which other messages were taken
abbrev pub retaken : State → (ℕ → List Message) → State
retaken s k = record s { taken = k }

posts_retaken : (g : Graph) (s mid : State) (k : ℕ → List Message) (ds : List Done) → Posts g s ds mid → Posts g (retaken s k) ds (retaken mid k)
posts_retaken g s mid k [] h = ap (λ z. retaken z k) h
posts_retaken g s mid k (d ∷ ds) h = (h.0, h.1, posts_retaken g (after_post g s d) mid k ds h.2)

-- what was taken does not matter to what is posted
pub never_posts : (g : Graph) (s : State) (k : ℕ → List Message) → NeverPosts g s → NeverPosts g (retaken s k)
never_posts g s k h = λ ds mid d posts busy. h ds (retaken mid s.taken) d (posts_retaken g (retaken s k) mid s.taken ds posts) busy

-- what is claimed in a turn, late or not
pub record ClaimsPart (g : Graph) (old new : Fields) (r most : ℕ) (taken : List OnLink) (tasks : List Task) (ending : TurnEnd) : Type 0 where
  pub claims : Claims g r (state_of old taken) tasks (state_of new taken)
  pub idle : took_late ending ≡ true → tasks ≡ []
  pub greedy : tasks ≡ [] → (took_late ending ≡ true) ⊎ (IsIdle g new r ⊎ (g.claims ≤ old.claims))
  pub few : length tasks ≤ most
  pub bound : new.claims ≤ g.claims
  pub all_or : took_late ending ≡ false → IsIdle g new r ⊎ ((most ≤ length tasks) ⊎ (g.claims ≤ new.claims))

-- a turn is late exactly where it ends so
pub late_is : (g : Graph) (r : ℕ) (old new : Fields) (late : Bool) (ending : TurnEnd) → EndsIn g r old new late ending → took_late ending ≡ late
late_is g r old new late On h = sym h.0
late_is g r old new late Late h = sym h
late_is g r old new late Long h = sym h.0

-- nothing was claimed, so nothing is safe or all claims were made
none_left : (X : Type 0) (in_all most old new : ℕ) (tasks : List Task) → 1 ≤ most → new ≡ old + length tasks → tasks ≡ [] → X ⊎ ((most ≤ length tasks) ⊎ (in_all ≤ new)) → X ⊎ (in_all ≤ old)
none_left X in_all most old new tasks some count empty h =
    let none : length tasks ≡ 0 = ap length empty in
    ⊎_elim (λ x. inl x) (λ k. ⊎_elim (λ (full : most ≤ length tasks). absurd (omega (arith, some, none, full))) (λ (all : in_all ≤ new). inr (omega (arith, all, count, none))) k) h

in_time : (g : Graph) (old new : Fields) (r most : ℕ) (taken : List OnLink) (before after : List Task) (ending : TurnEnd) → took_late ending ≡ false → before ≡ [] → 1 ≤ most → AreClaimed g r most old new before after → ClaimsPart g old new r most taken after ending
in_time g old new r most taken before after ending on empty some h =
    let list : after ≡ h.claimed = h.appended ∙ ap (λ xs. xs ++ h.claimed) empty in
    record {
      claims = subst (λ cs. Claims g r (state_of old taken) cs (state_of new taken)) (sym list) (h.claims taken);
      idle = λ e. absurd (false≢true (sym on ∙ e));
      greedy = λ e. inr (none_left (IsIdle g new r) g.claims most old.claims new.claims h.claimed some h.count (sym list ∙ e) h.all_or);
      few = subst (λ (cs : List Task). length cs ≤ most) (sym list) h.at_most;
      bound = h.in_all;
      all_or = λ e. subst (λ (cs : List Task). IsIdle g new r ⊎ ((most ≤ length cs) ⊎ (g.claims ≤ new.claims))) (sym list) h.all_or;
    }

too_late : (g : Graph) (old new : Fields) (r most : ℕ) (taken : List OnLink) (before after : List Task) (ending : TurnEnd) → took_late ending ≡ true → before ≡ [] → old.claims ≤ g.claims → (new ≡ old) × (after ≡ before) → ClaimsPart g old new r most taken after ending
too_late g old new r most taken before after ending off empty bound same =
    let none : after ≡ [] = same.1 ∙ empty in
    record {
      claims = subst (λ cs. Claims g r (state_of old taken) cs (state_of new taken)) (sym none) (ap (λ f. state_of f taken) same.0);
      idle = λ e. none;
      greedy = λ e. inl off;
      few = subst (λ (cs : List Task). length cs ≤ most) (sym none) (omega arith);
      bound = subst (λ (f : Fields). f.claims ≤ g.claims) (sym same.0) bound;
      all_or = λ e. absurd (false≢true (sym e ∙ off));
    }

pub claims_part : (g : Graph) (old new : Fields) (r most : ℕ) (taken : List OnLink) (before after : List Task) (late : Bool) (ending : TurnEnd) → before ≡ [] → 1 ≤ most → old.claims ≤ g.claims → HasClaimed g r most old new before after late ending → ClaimsPart g old new r most taken after ending
claims_part g old new r most taken before after true ending empty some bound h = too_late g old new r most taken before after ending (late_is g r old new true ending h.ends) empty bound (h.none refl)
claims_part g old new r most taken before after false ending empty some bound h = in_time g old new r most taken before after ending (late_is g r old new false ending h.ends) empty some (h.claimed refl)

-- how a turn ends is what the definition of a last turn says
pub ends_as : (g : Graph) (r : ℕ) (old new : Fields) (s ready : State) (late : Bool) (ending : TurnEnd) → s.claims ≡ old.claims → ready.waits ≡ (state_of new []).waits → ready.busy ≡ (state_of new []).busy → EndsIn g r old new late ending → EndsAsLast g ending (IsLast g s r (took_late ending) ready)
ends_as g r old new s ready late On count waits busy h = λ last. ⊎_elim (λ (l : false ≡ true). false≢true l)
    (λ (l : (g.claims ≤ s.claims) × (NothingSafe g ready.waits ready.busy r → ⊥)). l.1 (subst (λ w. NothingSafe g w ready.busy r) (sym waits) (subst (λ b. NothingSafe g (state_of new []).waits b r) (sym busy) (h.1 (subst (λ n. g.claims ≤ n) count l.0))))) last
ends_as g r old new s ready late Late count waits busy h = inl refl
ends_as g r old new s ready late Long count waits busy h = inr (subst (λ n. g.claims ≤ n) (sym count) h.1, λ nothing. h.2 (subst (λ w. NothingSafe g w (state_of new []).busy r) waits (subst (λ b. NothingSafe g ready.waits b r) busy nothing)))

-- one turn, by its five steps
pub whole : (g : Graph) (level : ℕ → ℕ) (i r : ℕ) (s posted got ready new : State) (ps : List Done) (rs : List RowAt) (ts : List OnLink) (cs : List Task) (late : Bool) → ((p : ℕ) → s.reading ≡ Some p → p ≤ r) → Posts g s ps posted → rs ≡ all_due g r s.left → Takes g level i (after_rows posted r) ts late got → Claims g r (raised got r) cs ready → (late ≡ true → cs ≡ []) → (cs ≡ [] → (late ≡ true) ⊎ (NothingSafe g ready.waits ready.busy r ⊎ (g.claims ≤ s.claims))) → length cs ≤ 64 → ready.claims ≤ g.claims → Closes g i ready r late new → IsTurn g level i s (record { first = r; last = r; count = 1; posted = ps; rows = rs; taken = ts; claimed = cs; sent = [] }) late new
whole g level i r s posted got ready new ps rs ts cs late rises posts rows takes claims idle greedy few bound closes = record {
  rises = rises;
  span = omega arith;
  posted = posted;
  posts = posts;
  rows = rows;
  got = got;
  takes = takes;
  ready = ready;
  claims = claims;
  idle_if_late = idle;
  greedy = greedy;
  at_most = (few, bound);
  done = new;
  closes = closes;
  sends = (new.outbox, refl, λ l. refl, λ l. omega arith);
}

-- what each step did
pub record AreSteps (g : Graph) (w : Basis) (r most : ℕ) (dones : List Done) (messages : List OnLink) (old before after new : Fields) (lists : Lists) (late : Bool) (ending : TurnEnd) : Type 0 where
  pub rises : (p : ℕ) → old.reading ≡ Some p → p ≤ r
  pub posted : State
  pub posts : Posts g (state_of old w.taken) (picked dones lists.posted.items) posted
  pub are : ArePosted g (busy_in old.open_claims.items) dones (picked dones lists.posted.items)
  pub rows : lists.rows.items ≡ all_due g r (left_in old.sensors.items)
  pub got : State
  pub takes : Takes g w.level w.platform (after_rows posted r) lists.taken.items late got
  pub front : IsFront messages lists.taken.items late
  pub reading : raised got r ≡ state_of before (w.taken ++ lists.taken.items)
  pub count : before.claims ≡ old.claims
  pub is_late : took_late ending ≡ late
  pub ends : EndsIn g r before after late ending
  pub claims : ClaimsPart g before after r most (w.taken ++ lists.taken.items) lists.claimed.items ending
  pub closes : Closes g w.platform (state_of after (w.taken ++ lists.taken.items)) r late (state_of new (w.taken ++ lists.taken.items))

-- are one turn
pub is_made : (g : Graph) (w : Basis) (r most : ℕ) (dones : List Done) (messages : List OnLink) (old before after new : Fields) (lists : Lists) (late : Bool) (ending : TurnEnd) → most ≤ 64 → AreSteps g w r most dones messages old before after new lists late ending → IsMade g w r most dones messages old new lists ending
unfolding whole
is_made g w r most dones messages old before after new lists late ending few s =
    let all : List OnLink = w.taken ++ lists.taken.items in
    record {
      turn = whole g w.level w.platform r (state_of old w.taken) s.posted s.got (state_of after all) (state_of new all) (picked dones lists.posted.items) lists.rows.items lists.taken.items lists.claimed.items (took_late ending) s.rises s.posts s.rows
          (subst (λ l. Takes g w.level w.platform (after_rows s.posted r) lists.taken.items l s.got) (sym s.is_late) s.takes)
          (subst (λ z. Claims g r z lists.claimed.items (state_of after all)) (sym s.reading) s.claims.claims)
          s.claims.idle
          (λ e. ⊎_elim (λ (l : took_late ending ≡ true). inl l) (λ (o : IsIdle g after r ⊎ (g.claims ≤ before.claims)). inr (⊎_elim (λ (n : IsIdle g after r). inl n) (λ (m : g.claims ≤ before.claims). inr (subst (λ n. g.claims ≤ n) s.count m)) o)) (s.claims.greedy e))
          (omega (arith, few, s.claims.few)) s.claims.bound
          (subst (λ l. Closes g w.platform (state_of after all) r l (state_of new all)) (sym s.is_late) s.closes);
      posted = s.are;
      taken = subst (IsFront messages lists.taken.items) (sym s.is_late) s.front;
      few = s.claims.few;
      all_or = s.claims.all_or;
      last = ends_as g r before after (state_of old w.taken) (state_of after all) late ending (sym s.count) refl refl s.ends;
    }

-- what the end of a turn shows
pub shows_end : (g : Graph) (r : ℕ) (old new done : Fields) (late : Bool) (ending : TurnEnd) → done.claims ≡ new.claims → done.queue ≡ new.queue → done.open_claims ≡ new.open_claims → (late ≡ false → old.claims ≤ new.claims) → EndsIn g r old new late ending → ShowsEnd g r done ending
shows_end g r old new done late On claims queue opens count h = tt
shows_end g r old new done late Late claims queue opens count h = tt
shows_end g r old new done late Long claims queue opens count h =
    let all : g.claims ≤ old.claims = h.1 in
    (omega (arith, claims, count h.0, all), λ idle. h.2 (subst (λ q. NothingSafe g (waiting_in q.events) (busy_in new.open_claims.items) r) queue (subst (λ v. NothingSafe g (waiting_in done.queue.events) (busy_in v.items) r) opens idle)))
