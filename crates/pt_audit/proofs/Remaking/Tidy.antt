-- What a legal history keeps true: the claims are numbered one after another, each open claim is the one of its
-- number, what was taken on each link is orderly, and only links have an outbox.
use Rattle.std.proofs.Common.{◌≡◌, ℕ, zero, suc, ◌+◌, ◌<◌, ◌≢◌, Bool, true, false, List, [], ◌∷◌, ◌++◌, Some, None, length, slice_get, flat_map, refl, sym, ap, subst, ◌∙◌, ⊎_elim, append-nil, append_assoc, arith, length-append, eqb-true, eq-eqb}
use Rattle.std.specs.Prelude.{◌==◌, if◌then◌else◌}
use Rattle.std.proofs.lemmas.Bool.{cases_Bool, cond-false, cond-true, false≢true}
use Rattle.std.proofs.lemmas.Option.{slice_get_within}
use Rattle.pt_tags.specs.declared.message.Message.{Message}
use Rattle.pt_types.specs.declared.graph.Graph.{Graph}
use Rattle.pt_types.specs.declared.graph.Link.{Link}
use Rattle.pt_types.specs.declared.graph.Unit.{Unit}
use Rattle.pt_types.specs.declared.firing.Done.{Done}
use Rattle.pt_types.specs.declared.firing.OnLink.{OnLink}
use Rattle.pt_types.specs.declared.firing.Task.{Task}
use Rattle.pt_types.specs.declared.rows.Row.{Row}
use Rattle.pt_types.specs.Lookups.{platform_of}
use Rattle.pt_semantics.specs.Bounds.{link_bound}
use Rattle.pt_semantics.specs.Claiming.{Claims, IsNext, after_claim}
use Rattle.pt_semantics.specs.Closing.{CanClose, Closes, Sends, end_for, on_link, shut}
use Rattle.pt_semantics.specs.Entering.{after_rows}
use Rattle.pt_semantics.specs.History.{Legal}
use Rattle.pt_semantics.specs.Orderly.{IsOrderly}
use Rattle.pt_semantics.specs.Platform.{State, opened, raised}
use Rattle.pt_semantics.specs.Posting.{Posts, after_post, message_from}
use Rattle.pt_semantics.specs.Taking.{IsOnTime, Takes, after_message, with_taken}
use Rattle.pt_semantics.specs.Turn.{IsTurn, Turn}
use Rattle.pt_semantics.specs.Units.{unit_of}
use Rattle.pt_semantics.proofs.Floor.{put_none_found, put_other, put_same}
use Rattle.pt_semantics.proofs.Lookups.{cases_part, none_some, same_some}

-- a state of platform i after these claims: they are numbered from 0, and each open claim is the one of its number; what was
-- taken on each link that leads here is orderly, and messages wait only on links
pub record IsTidy (g : Graph) (level : ℕ → ℕ) (i : ℕ) (claimed : List Task) (s : State) : Type 0 where
  pub count : length claimed ≡ s.claims
  pub numbers : (k : ℕ) (task : Task) → slice_get claimed k ≡ Some task → task.number ≡ k
  pub claims : (u : Unit) (task : Task) → s.busy u ≡ Some task → slice_get claimed task.number ≡ Some task
  pub orderly : (l : ℕ) (link : Link) → slice_get g.links l ≡ Some link → platform_of g link.to ≡ i → IsOrderly g level link (s.taken l)
  pub foreign : (l : ℕ) → slice_get g.links l ≡ None → s.outbox l ≡ []

pub at_before : {X : Type 0} (xs ys : List X) (k : ℕ) (x : X) → slice_get xs k ≡ Some x → slice_get (xs ++ ys) k ≡ Some x
at_before [] ys k x at = absurd (none_some x at)
at_before (y ∷ xs) ys zero x at = at
at_before (y ∷ xs) ys (suc k) x at = at_before xs ys k x at

pub at_front : {X : Type 0} (xs ys : List X) (k : ℕ) (x : X) → k < length xs → slice_get (xs ++ ys) k ≡ Some x → slice_get xs k ≡ Some x
at_front [] ys k x lt at = absurd (omega (arith, lt))
at_front (y ∷ xs) ys zero x lt at = at
at_front (y ∷ xs) ys (suc k) x lt at = at_front xs ys k x (omega (arith, lt)) at

pub at_seam : {X : Type 0} (xs ys : List X) (x : X) → slice_get (xs ++ x ∷ ys) (length xs) ≡ Some x
at_seam [] ys x = refl
at_seam (y ∷ xs) ys x = at_seam xs ys x

-- one claim more
numbers_push : (claimed : List Task) (task : Task) → task.number ≡ length claimed → ((k : ℕ) (x : Task) → slice_get claimed k ≡ Some x → x.number ≡ k) → (k : ℕ) (x : Task) → slice_get (claimed ++ task ∷ []) k ≡ Some x → x.number ≡ k
numbers_push claimed task number before k x at =
    let within : k < length (claimed ++ task ∷ []) = slice_get_within (claimed ++ task ∷ []) k x at in
    let long : length (claimed ++ task ∷ []) ≡ length claimed + 1 = length-append claimed (task ∷ []) in
    ⊎_elim
    (λ (here : (k == length claimed) ≡ true).
    let k_is : k ≡ length claimed = eqb-true k (length claimed) here in
    let x_is : x ≡ task = same_some x task (sym at ∙ ap (slice_get (claimed ++ task ∷ [])) k_is ∙ at_seam claimed [] task) in
    ap (λ (z : Task). z.number) x_is ∙ number ∙ sym k_is)
    (λ (there : (k == length claimed) ≡ false).
    let apart : k ≡ length claimed → ⊥ = λ same. false≢true (sym there ∙ eq-eqb k (length claimed) same) in
    let lt : k < length claimed = omega (arith, within, long, apart) in
    before k x (at_front claimed (task ∷ []) k x lt at))
    (cases_Bool (k == length claimed))

module _ (g : Graph) (level : ℕ → ℕ) (i : ℕ) where
  post_tidy : (claimed : List Task) (s : State) (d : Done) → IsTidy g level i claimed s → IsTidy g level i claimed (after_post g s d)
  post_tidy claimed s d h = record {
    count = h.count;
    numbers = h.numbers;
    claims = λ u task busy. h.claims u task (put_none_found s.busy (unit_of g d.task) u task busy);
    orderly = h.orderly;
    foreign = λ l none.
        ap (λ o. s.outbox l ++ message_from o d.task.actor d.task.tag d.fired.outputs) none ∙ append-nil (s.outbox l) ∙ h.foreign l none;
  }

  posts_tidy : (claimed : List Task) (ds : List Done) (s new : State) → Posts g s ds new → IsTidy g level i claimed s → IsTidy g level i claimed new
  posts_tidy claimed [] s new e h = subst (IsTidy g level i claimed) (sym e) h
  posts_tidy claimed (d ∷ ds) s new (busy, result, rest) h = posts_tidy claimed ds (after_post g s d) new rest (post_tidy claimed s d h)

  -- one message more on a link
  taken_orderly : (s : State) (l : ℕ) (link : Link) (m : Message) → slice_get g.links l ≡ Some link → IsOrderly g level link (s.taken l ++ m ∷ [])
      → ((k : ℕ) (other : Link) → slice_get g.links k ≡ Some other → platform_of g other.to ≡ i → IsOrderly g level other (s.taken k))
      → (k : ℕ) (other : Link) → slice_get g.links k ≡ Some other → platform_of g other.to ≡ i → IsOrderly g level other (if k == l then s.taken k ++ m ∷ [] else s.taken k)
  taken_orderly s l link m at orderly before k other there home =
      ⊎_elim
      (λ (e : (k == l) ≡ true).
      let same : k ≡ l = eqb-true k l e in
      let link_is : link ≡ other = same_some link other (sym at ∙ ap (slice_get g.links) (sym same) ∙ there) in
      subst (IsOrderly g level other) (sym (cond-true (k == l) (s.taken k ++ m ∷ []) (s.taken k) e))
      (subst (λ (n : ℕ). IsOrderly g level other (s.taken n ++ m ∷ [])) (sym same) (subst (λ z. IsOrderly g level z (s.taken l ++ m ∷ [])) link_is orderly)))
      (λ (e : (k == l) ≡ false). subst (IsOrderly g level other) (sym (cond-false (k == l) (s.taken k ++ m ∷ []) (s.taken k) e)) (before k other there home))
      (cases_Bool (k == l))

  takes_tidy : (claimed : List Task) (ms : List OnLink) (late : Bool) (s new : State) → Takes g level i s ms late new → IsTidy g level i claimed s → IsTidy g level i claimed new
  takes_tidy claimed [] late s new e h = subst (IsTidy g level i claimed) (sym e.1) h
  takes_tidy claimed (m ∷ ms) late s new (link, at, home, orderly, next) h =
      ⊎_elim
      (λ (on : IsOnTime s.reading (link_bound g link) m.message × Takes g level i (after_message s m.link link m.message) ms late new).
      takes_tidy claimed ms late (after_message s m.link link m.message) new on.1
      (record { count = h.count; numbers = h.numbers; claims = h.claims; orderly = taken_orderly s m.link link m.message at orderly h.orderly; foreign = h.foreign }))
      (λ (off : (IsOnTime s.reading (link_bound g link) m.message → ⊥) × (ms ≡ []) × (late ≡ true) × (new ≡ with_taken s m.link m.message)).
      subst (IsTidy g level i claimed) (sym off.3)
      (record { count = h.count; numbers = h.numbers; claims = h.claims; orderly = taken_orderly s m.link link m.message at orderly h.orderly; foreign = h.foreign }))
      next

  claim_tidy : (claimed : List Task) (r : ℕ) (s : State) (task : Task) → IsNext g s r (unit_of g task) task → IsTidy g level i claimed s → IsTidy g level i (claimed ++ task ∷ []) (after_claim g s (unit_of g task) task)
  claim_tidy claimed r s task next h = record {
    count = let n : length (claimed ++ task ∷ []) ≡ length claimed + 1 = length-append claimed (task ∷ []) in let c : length claimed ≡ s.claims = h.count in omega (arith, n, c);
    numbers = numbers_push claimed task (next.number ∙ sym h.count) h.numbers;
    claims = λ v other busy.
        ⊎_elim
        (λ (here : unit_of g task ≡ v).
        let same : task ≡ other = same_some task other (sym (put_same s.busy (unit_of g task) v (Some task) here) ∙ busy) in
        let number : task.number ≡ length claimed = next.number ∙ sym h.count in
        subst (λ (x : Task). slice_get (claimed ++ task ∷ []) x.number ≡ Some x) same (ap (slice_get (claimed ++ task ∷ [])) number ∙ at_seam claimed [] task))
        (λ (there : unit_of g task ≢ v). at_before claimed (task ∷ []) other.number other (h.claims v other (sym (put_other s.busy (unit_of g task) v (Some task) there) ∙ busy)))
        (cases_part (unit_of g task) v);
    orderly = h.orderly;
    foreign = h.foreign;
  }

  claims_tidy : (claimed : List Task) (r : ℕ) (tasks : List Task) (s new : State) → Claims g r s tasks new → IsTidy g level i claimed s → IsTidy g level i (claimed ++ tasks) new
  claims_tidy claimed r [] s new e h = subst (λ z. IsTidy g level i z new) (sym (append-nil claimed)) (subst (IsTidy g level i claimed) (sym e) h)
  claims_tidy claimed r (task ∷ tasks) s new (next, rest) h =
      subst (λ z. IsTidy g level i z new) (append_assoc claimed (task ∷ []) tasks)
      (claims_tidy (claimed ++ task ∷ []) r tasks (after_claim g s (unit_of g task) task) new rest (claim_tidy claimed r s task next h))

  closes_tidy : (claimed : List Task) (r : ℕ) (late : Bool) (s new : State) → Closes g i s r late new → IsTidy g level i claimed s → IsTidy g level i claimed new
  closes_tidy claimed r late s new closes h =
      ⊎_elim
      (λ (shuts : CanClose g i s r × (late ≡ false) × (new ≡ shut g i s)).
      subst (IsTidy g level i claimed) (sym shuts.2)
      (record { count = h.count; numbers = h.numbers; claims = h.claims; orderly = h.orderly; foreign = λ l none. ap (λ o. s.outbox l ++ end_for g i o) none ∙ append-nil (s.outbox l) ∙ h.foreign l none }))
      (λ (stays : (CanClose g i s r → late ≡ true) × (new ≡ s)). subst (IsTidy g level i claimed) (sym stays.1) h)
      closes

  sends_tidy : (claimed : List Task) (sent : List OnLink) (s new : State) → Sends s sent new → IsTidy g level i claimed s → IsTidy g level i claimed new
  sends_tidy claimed sent s new sends h =
      subst (IsTidy g level i claimed) (sym sends.1)
      (record { count = h.count; numbers = h.numbers; claims = h.claims; orderly = h.orderly; foreign = λ l none. nothing_left (on_link l sent) (sends.0 l) (sym (sends.2 l) ∙ h.foreign l none) })
    where
      nothing_left : (xs ys : List Message) → xs ++ ys ≡ [] → ys ≡ []
      nothing_left [] ys e = e
      nothing_left (x ∷ xs) ys e = cc

  pub got_tidy : (claimed : List Task) (s new : State) (turn : Turn) (late : Bool) → (t : IsTurn g level i s turn late new) → IsTidy g level i claimed s → IsTidy g level i claimed t.got
  got_tidy claimed s new turn late t h =
      let posted : IsTidy g level i claimed t.posted = posts_tidy claimed turn.posted s t.posted t.posts h in
      let entered : IsTidy g level i claimed (after_rows t.posted turn.last) = record { count = posted.count; numbers = posted.numbers; claims = posted.claims; orderly = posted.orderly; foreign = posted.foreign } in
      takes_tidy claimed turn.taken late (after_rows t.posted turn.last) t.got t.takes entered

  pub turn_tidy : (claimed : List Task) (s new : State) (turn : Turn) (late : Bool) → IsTurn g level i s turn late new → IsTidy g level i claimed s → IsTidy g level i (claimed ++ turn.claimed) new
  turn_tidy claimed s new turn late t h =
      let got : IsTidy g level i claimed t.got = got_tidy claimed s new turn late t h in
      let read : IsTidy g level i claimed (raised t.got turn.last) = record { count = got.count; numbers = got.numbers; claims = got.claims; orderly = got.orderly; foreign = got.foreign } in
      let ready : IsTidy g level i (claimed ++ turn.claimed) t.ready = claims_tidy claimed turn.last turn.claimed (raised t.got turn.last) t.ready t.claims read in
      sends_tidy (claimed ++ turn.claimed) turn.sent t.done new t.sends (closes_tidy (claimed ++ turn.claimed) turn.last late t.ready t.done t.closes ready)

  legal_tidy : (claimed : List Task) (turns : List Turn) (s new : State) → Legal g level i s turns new → IsTidy g level i claimed s → IsTidy g level i (claimed ++ flat_map (λ (turn : Turn). turn.claimed) turns) new
  legal_tidy claimed [] s new e h = subst (λ z. IsTidy g level i z new) (sym (append-nil claimed)) (subst (IsTidy g level i claimed) (sym e) h)
  legal_tidy claimed (turn ∷ turns) s new (late, mid, is, last, rest) h =
      subst (λ z. IsTidy g level i z new) (append_assoc claimed turn.claimed (flat_map (λ (turn : Turn). turn.claimed) turns))
      (legal_tidy (claimed ++ turn.claimed) turns mid new rest (turn_tidy claimed s mid turn late is h))

  opened_tidy : (rows : ℕ → List Row) → IsTidy g level i [] (opened g i rows)
  opened_tidy rows = record { count = refl; numbers = λ k task at. absurd (none_some task at); claims = λ u task busy. absurd (none_some task busy); orderly = λ l link at home. (tt, tt); foreign = λ l none. refl }

  pub history_tidy : (rows : ℕ → List Row) (turns : List Turn) (s : State) → Legal g level i (opened g i rows) turns s → IsTidy g level i (flat_map (λ (turn : Turn). turn.claimed) turns) s
  history_tidy rows turns s legal = legal_tidy [] turns (opened g i rows) s legal (opened_tidy rows)
