-- From one state, the last reading, what was posted and taken, how many tasks were claimed, and what was sent fix a turn.
use Rattle.std.proofs.Common.{◌≡◌, ℕ, suc, ◌+◌, ◌≤◌, ◌⊎◌, max, Bool, true, List, [], ◌∷◌, ◌++◌, length, refl, sym, ap, ap₂, subst, ◌∙◌, inl, inr, ⊎_elim, append-nil, arith, length-append}
use Rattle.std.proofs.lemmas.Bool.{false≢true}
use Rattle.std.proofs.lemmas.List.{append_cancel_left}
use Rattle.pt_tags.specs.declared.message.Message.{Message}
use Rattle.pt_types.specs.declared.graph.Graph.{Graph}
use Rattle.pt_types.specs.declared.firing.OnLink.{OnLink}
use Rattle.pt_types.specs.declared.firing.Task.{Task}
use Rattle.pt_semantics.specs.Bounds.{link_bound}
use Rattle.pt_semantics.specs.Claiming.{Claims, after_claim}
use Rattle.pt_semantics.specs.Closing.{Closes, on_link, unsent}
use Rattle.pt_semantics.specs.Entering.{after_rows, all_due}
use Rattle.pt_semantics.specs.Platform.{State, raised}
use Rattle.pt_semantics.specs.Posting.{Posts}
use Rattle.pt_semantics.specs.Safe.{NothingSafe}
use Rattle.pt_semantics.specs.Taking.{IsOnTime, Takes, after_message, with_taken}
use Rattle.pt_semantics.specs.Turn.{IsTurn, Turn}
use Rattle.pt_semantics.proofs.Lookups.{same_some}
use Rattle.pt_paced_laws.proofs.Fronts.{nothing_after}
use Rattle.pt_semantics.specs.Units.{unit_of}
use Rattle.pt_paced_laws.proofs.SameTurn.{claims_grow, closes_one, next_same, nothing_claimed, posts_state, takes_state}

-- the second list of claims goes on where the first one ends
pub record GoesPast (g : Graph) (r : ℕ) (tasks others : List Task) (a b : State) : Type 0 where
  pub more : List Task
  pub is : others ≡ tasks ++ more
  pub on : Claims g r a more b

-- of two lists of claims from one state, one is a front of the other
pub claims_front : (g : Graph) (r : ℕ) (tasks others : List Task) (s a b : State) → Claims g r s tasks a → Claims g r s others b → GoesPast g r tasks others a b ⊎ GoesPast g r others tasks b a
claims_front g r [] others s a b e h = inl (record { more = others; is = refl; on = subst (λ z. Claims g r z others b) (sym e) h })
claims_front g r (t ∷ tasks) [] s a b h e = inr (record { more = t ∷ tasks; is = refl; on = subst (λ z. Claims g r z (t ∷ tasks) a) (sym e) h })
claims_front g r (t ∷ tasks) (o ∷ others) s a b (next, rest) (next2, rest2) =
    let same : o ≡ t = next_same g r s o t next2 next in
    let from_one : Claims g r (after_claim g s (unit_of g t) t) others b = subst (λ (z : Task). Claims g r (after_claim g s (unit_of g z) z) others b) same rest2 in
    ⊎_elim
    (λ (h : GoesPast g r tasks others a b). inl (record { more = h.more; is = ap₂ (λ (x : Task) xs. x ∷ xs) same h.is; on = h.on }))
    (λ (h : GoesPast g r others tasks b a). inr (record { more = h.more; is = ap₂ (λ (x : Task) xs. x ∷ xs) (sym same) h.is; on = h.on }))
    (claims_front g r tasks others (after_claim g s (unit_of g t) t) a b rest from_one)

no_longer : (tasks more : List Task) → length (tasks ++ more) ≡ length tasks → more ≡ []
no_longer tasks [] e = refl
no_longer tasks (m ∷ more) e = absurd (longer (length tasks) (length more) (sym (length-append tasks (m ∷ more)) ∙ e))
  where
    longer : (a b : ℕ) → a + suc b ≡ a → ⊥
    longer a b e = omega (arith, e)

ends_there : (g : Graph) (r : ℕ) (tasks others : List Task) (a b : State) → length tasks ≡ length others → GoesPast g r tasks others a b → (tasks ≡ others) × (a ≡ b)
ends_there g r tasks others a b count h =
    let none : h.more ≡ [] = no_longer tasks h.more (ap length (sym h.is) ∙ sym count) in
    (sym (h.is ∙ ap (λ z. tasks ++ z) none ∙ append-nil tasks), sym (nothing_claimed g r h.more a b none h.on))

-- two lists of claims from one state with the same count are the same, and lead to the same state
pub claims_same : (g : Graph) (r : ℕ) (tasks others : List Task) (s a b : State) → Claims g r s tasks a → Claims g r s others b → length tasks ≡ length others → (tasks ≡ others) × (a ≡ b)
claims_same g r tasks others s a b h k count =
    ⊎_elim
    (λ (past : GoesPast g r tasks others a b). ends_there g r tasks others a b count past)
    (λ (past : GoesPast g r others tasks b a). let same = ends_there g r others tasks b a (sym count) past in (sym same.0, sym same.1))
    (claims_front g r tasks others s a b h k)

-- two turns from one state
module _ (g : Graph) (level : ℕ → ℕ) (i : ℕ) (s new other : State) (turn logged : Turn) (late slow : Bool) (k : IsTurn g level i s turn late new) (j : IsTurn g level i s logged slow other)
    (last : turn.last ≡ logged.last) (posts : turn.posted ≡ logged.posted) where
  pub posted_state : k.posted ≡ j.posted
  posted_state = posts_state g logged.posted s k.posted j.posted (subst (λ ds. Posts g s ds k.posted) posts k.posts) j.posts

  pub same_rows : turn.rows ≡ logged.rows
  same_rows = k.rows ∙ ap (λ q. all_due g q s.left) last ∙ sym j.rows

  pub takes_logged : Takes g level i (after_rows k.posted turn.last) logged.taken slow j.got
  takes_logged =
      subst (λ q. Takes g level i (after_rows k.posted q) logged.taken slow j.got) (sym last)
      (subst (λ z. Takes g level i (after_rows z logged.last) logged.taken slow j.got) (sym posted_state) j.takes)

  module _ (takes : turn.taken ≡ logged.taken) where
    pub took : (late ≡ slow) × (k.got ≡ j.got)
    took = takes_state g level i logged.taken late slow (after_rows k.posted turn.last) k.got j.got
        (subst (λ ms. Takes g level i (after_rows k.posted turn.last) ms late k.got) takes k.takes) takes_logged

    pub claims_logged : Claims g turn.last (raised k.got turn.last) logged.claimed j.ready
    claims_logged =
        subst (λ q. Claims g q (raised k.got q) logged.claimed j.ready) (sym last)
        (subst (λ z. Claims g logged.last (raised z logged.last) logged.claimed j.ready) (sym took.1) j.claims)

    module _ (count : length turn.claimed ≡ length logged.claimed) where
      pub same_claims : (turn.claimed ≡ logged.claimed) × (k.ready ≡ j.ready)
      same_claims = claims_same g turn.last turn.claimed logged.claimed (raised k.got turn.last) k.ready j.ready k.claims claims_logged count

      pub done_state : k.done ≡ j.done
      done_state =
          closes_one g i k.ready k.done j.done turn.last late k.closes
          (subst (λ q. Closes g i k.ready q late j.done) (sym last)
          (subst (λ z. Closes g i z logged.last late j.done) (sym same_claims.1)
          (subst (λ b. Closes g i j.ready logged.last b j.done) (sym took.0) j.closes)))

      -- what is sent after it fixes the state
      pub new_state : turn.sent ≡ logged.sent → new ≡ other
      new_state sent =
          let rest_same = λ (l : ℕ). append_cancel_left (on_link l turn.sent) (k.sends.0 l) (j.sends.0 l)
          (sym (k.sends.2 l) ∙ ap (λ (z : State). z.outbox l) done_state ∙ j.sends.2 l ∙ ap (λ w. on_link l w ++ j.sends.0 l) (sym sent)) in
          let outboxes : ◌≡◌ {A = ℕ → List Message} k.sends.0 j.sends.0 = λ n l. rest_same l n in
          k.sends.1 ∙ ap₂ unsent done_state outboxes ∙ sym j.sends.1

-- a turn with at most as many claims as another one, at least one if it can, and greedy up to that number, has as many
abbrev pub IsGreedy : Graph → ℕ → ℕ → ℕ → State → Type 0
IsGreedy g r most count ready = NothingSafe g ready.waits ready.busy r ⊎ ((most ≤ count) ⊎ (g.claims ≤ ready.claims))

stops : (g : Graph) (r : ℕ) (s a b : State) (more : List Task) → NothingSafe g a.waits a.busy r → Claims g r a more b → more ≡ []
stops g r s a b [] none h = refl
stops g r s a b (t ∷ more) none (next, rest) = absurd (none (unit_of g t) t.tag next.safe)

at_limit : (g : Graph) (r : ℕ) (a b : State) (more : List Task) → g.claims ≤ a.claims → b.claims ≤ g.claims → Claims g r a more b → more ≡ []
at_limit g r a b [] all most h = refl
at_limit g r a b (t ∷ more) all most h = absurd (past (length more) a.claims b.claims all (claims_grow g r (t ∷ more) a b h) most)
  where
    past : (n c d : ℕ) → g.claims ≤ c → d ≡ suc n + c → d ≤ g.claims → ⊥
    past n c d h1 h2 h3 = omega (arith, h1, h2, h3)

-- a list of claims that was made greedily, with at most as many claims as another list has and one where it has none, has as
-- many; of the other list it is known that it is empty only if nothing more can be claimed
pub claims_count : (g : Graph) (r most : ℕ) (tasks others : List Task) (s a b : State) → Claims g r s tasks a → Claims g r s others b → most ≡ max 1 (length others) → length tasks ≤ most → IsGreedy g r most (length tasks) a
    → (others ≡ [] → NothingSafe g b.waits b.busy r ⊎ (g.claims ≤ b.claims)) → a.claims ≤ g.claims → b.claims ≤ g.claims → length tasks ≡ length others
claims_count g r most tasks others s a b h k most_is few greedy idle all_a all_b =
    ⊎_elim
    (λ (past : GoesPast g r tasks others a b). same_end tasks others past.more past.is (shorter past))
    (λ (past : GoesPast g r others tasks b a). sym (same_end others tasks past.more past.is (longer others tasks past.more past.is most_is few idle past.on)))
    (claims_front g r tasks others s a b h k)
  where
    same_end : (xs ys more : List Task) → ys ≡ xs ++ more → more ≡ [] → length xs ≡ length ys
    same_end xs ys more is none = sym (ap length (is ∙ ap (λ z. xs ++ z) none ∙ append-nil xs))

    full : (xs ys more : List Task) (n : ℕ) → ys ≡ xs ++ more → n ≡ max 1 (length ys) → n ≤ length xs → more ≡ []
    full xs ys [] n is n_is le = refl
    full xs ys (m ∷ more) n is n_is le =
        let count : length ys ≡ length xs + suc (length more) = ap length is ∙ length-append xs (m ∷ more) in
        absurd (omega (arith, count, n_is, le))

    shorter : (past : GoesPast g r tasks others a b) → past.more ≡ []
    shorter past =
        ⊎_elim
        (λ (none : NothingSafe g a.waits a.busy r). stops g r s a b past.more none past.on)
        (λ (other : (most ≤ length tasks) ⊎ (g.claims ≤ a.claims)).
        ⊎_elim
        (λ (many : most ≤ length tasks). full tasks others past.more most past.is most_is many)
        (λ (all : g.claims ≤ a.claims). at_limit g r a b past.more all all_b past.on)
        other)
        greedy

    longer : (ys xs more : List Task) → xs ≡ ys ++ more → most ≡ max 1 (length ys) → length xs ≤ most → (ys ≡ [] → NothingSafe g b.waits b.busy r ⊎ (g.claims ≤ b.claims)) → Claims g r b more a → more ≡ []
    longer [] xs more is n_is le when_none on =
        ⊎_elim
        (λ (none : NothingSafe g b.waits b.busy r). stops g r s b a more none on)
        (λ (all : g.claims ≤ b.claims). at_limit g r b a more all all_a on)
        (when_none refl)
    longer (y ∷ ys) xs [] is n_is le when_none on = refl
    longer (y ∷ ys) xs (m ∷ more) is n_is le when_none on =
        let count : length xs ≡ suc (length ys) + suc (length more) = ap length is ∙ length-append (y ∷ ys) (m ∷ more) in
        absurd (omega (arith, count, n_is, le))

-- if a message is late, none was taken after it
pub late_is_last : (g : Graph) (level : ℕ → ℕ) (i : ℕ) (ms more : List OnLink) (slow : Bool) (s a b : State) → Takes g level i s ms true a → Takes g level i s (ms ++ more) slow b → more ≡ []
late_is_last g level i [] more slow s a b h k = absurd (false≢true (sym h.0))
late_is_last g level i (m ∷ ms) more slow s a b (link, at, home, orderly, next) (link2, at2, home2, orderly2, next2) =
    let same : link2 ≡ link = same_some link2 link (sym at2 ∙ at) in
    ⊎_elim
    (λ (on : IsOnTime s.reading (link_bound g link) m.message × Takes g level i (after_message s m.link link m.message) ms true a).
    ⊎_elim
    (λ (on2 : IsOnTime s.reading (link_bound g link2) m.message × Takes g level i (after_message s m.link link2 m.message) (ms ++ more) slow b).
    late_is_last g level i ms more slow (after_message s m.link link m.message) a b on.1
    (subst (λ z. Takes g level i (after_message s m.link z m.message) (ms ++ more) slow b) same on2.1))
    (λ (off : (IsOnTime s.reading (link_bound g link2) m.message → ⊥) × (ms ++ more ≡ []) × (slow ≡ true) × (b ≡ with_taken s m.link m.message)). nothing_after ms more off.1)
    next2)
    (λ (off : (IsOnTime s.reading (link_bound g link) m.message → ⊥) × (ms ≡ []) × (true ≡ true) × (a ≡ with_taken s m.link m.message)).
    ⊎_elim
    (λ (on2 : IsOnTime s.reading (link_bound g link2) m.message × Takes g level i (after_message s m.link link2 m.message) (ms ++ more) slow b).
    absurd (off.0 (subst (λ z. IsOnTime s.reading (link_bound g z) m.message) same on2.0)))
    (λ (off2 : (IsOnTime s.reading (link_bound g link2) m.message → ⊥) × (ms ++ more ≡ []) × (slow ≡ true) × (b ≡ with_taken s m.link m.message)). nothing_after ms more off2.1)
    next2)
    next
