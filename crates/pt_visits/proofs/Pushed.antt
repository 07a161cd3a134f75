-- Messages go out of a platform and into the pipes.
use Rattle.std.proofs.Common.{◌≡◌, ℕ, zero, suc, ◌+◌, ◌-◌, ◌<◌, ◌≤◌, List, [], ◌∷◌, ◌++◌, Some, None, length, map, take, set, refl, sym, ap, subst, ◌∙◌, ⊎_elim, append_assoc, append-nil, length-append, length-set, arith}
use Rattle.std.specs.Prelude.{◌≢◌, slice_get}
use Rattle.std.proofs.lemmas.Bool.{cases_eq}
use Rattle.std.proofs.lemmas.List.{take_all, map-append}
use Rattle.std.proofs.lemmas.Option.{slice_get_within}
use Rattle.pt_tags.specs.declared.message.Message.{Message}
use Rattle.pt_types.specs.declared.firing.OnLink.{OnLink}
use Rattle.pt_semantics.specs.Closing.{on_link}
use Rattle.pt_semantics.specs.Lists.{Each}
use Rattle.pt_semantics.specs.Turn.{Turn}
use Rattle.pt_semantics.specs.Visits.{LinkByLink}
use Rattle.pt_history.proofs.LastMember.{length-on_last}
use Rattle.pt_history.specs.Turns.{sending}
use Rattle.pt_turn.specs.Gone.{FirstHasGone, last_sent}
use Rattle.pt_turn.specs.Platforms.{PlatformView}
use Rattle.pt_turn.proofs.Coming.{on_append}
use Rattle.pt_visits.specs.Pipes.{put_on}
use Rattle.pt_visits.specs.Pushing.{ArePushed, IsPushed}
use Rattle.pt_visits.specs.Visited.{HasSent}
use Rattle.pt_visits.proofs.Sent.{last_sent_more, on_past, on_put, on_put_elsewhere, sent_both, sent_none, sent_one}

-- messages of link l went into its pipe so far
pub record PushesOn (l : ℕ) (old now : PlatformView) (pipe piped : List Message) : Type 0 where
  pub messages : List Message
  pub gone : HasSent old now (map (put_on l) messages)
  pub appended : piped ≡ pipe ++ messages
  pub fits : length messages ≤ 64 - length pipe

pub none_yet : (l : ℕ) (v : PlatformView) (pipe : List Message) → PushesOn l v v pipe pipe
none_yet l v pipe = record { messages = []; gone = sent_none v; appended = sym (append-nil pipe); fits = omega arith }

module _ (l : ℕ) (old mid : PlatformView) (pipe piped : List Message) (so_far : PushesOn l old mid pipe piped) where
  pub still_begun : 0 < length old.turns → 0 < length mid.turns
  still_begun some =
      let same : length mid.turns ≡ length old.turns = ap length so_far.gone.turns ∙ length-on_last (sending (map (put_on l) so_far.messages)) old.turns in
      omega (arith, same, some)

  sent_so_far : 0 < length old.turns → on_link l (last_sent old.turns) ≡ [] → on_link l (last_sent mid.turns) ≡ so_far.messages
  sent_so_far some none =
      ap (λ (ts : List Turn). on_link l (last_sent ts)) so_far.gone.turns
      ∙ ap (on_link l) (last_sent_more (map (put_on l) so_far.messages) old.turns some)
      ∙ on_append l (last_sent old.turns) (map (put_on l) so_far.messages)
      ∙ ap (λ (z : List Message). z ++ on_link l (map (put_on l) so_far.messages)) none
      ∙ on_put l so_far.messages

  -- a message for which the pipe had a place may go
  pub has_place : (m : Message) (more : List Message) → 0 < length old.turns → on_link l (last_sent old.turns) ≡ [] → more ≡ piped ++ m ∷ [] → length more ≤ 64 → length (on_link l (last_sent mid.turns)) < 64
  has_place m more some none is fits =
      let sent : length (on_link l (last_sent mid.turns)) ≡ length so_far.messages = ap length (sent_so_far some none) in
      let all : length more ≡ length piped + 1 = ap length is ∙ length-append piped (m ∷ []) in
      let before : length piped ≡ length pipe + length so_far.messages = ap length so_far.appended ∙ length-append pipe so_far.messages in
      omega (arith, sent, all, before, fits)

  pub one_more : (new : PlatformView) (m : Message) (more : List Message) → Some m ≡ slice_get (on_link l mid.outbox) 0 → more ≡ piped ++ m ∷ [] → length more ≤ 64 → FirstHasGone mid new l → PushesOn l old new pipe more
  one_more new m more first is fits h =
      let all : length more ≡ length piped + 1 = ap length is ∙ length-append piped (m ∷ []) in
      let before : length piped ≡ length pipe + length so_far.messages = ap length so_far.appended ∙ length-append pipe so_far.messages in
      let same : Some m ≡ Some h.message = first ∙ ap (λ (z : List Message). slice_get z 0) h.first in
      let m_is : m ≡ h.message = cc in
      let count : length (so_far.messages ++ h.message ∷ []) ≡ length so_far.messages + 1 = length-append so_far.messages (h.message ∷ []) in
      record {
        messages = so_far.messages ++ h.message ∷ [];
        gone = subst (HasSent old new) (sym (map-append (put_on l) so_far.messages (h.message ∷ []))) (sent_both old mid new (map (put_on l) so_far.messages) (put_on l h.message ∷ []) so_far.gone (sent_one mid new l h));
        appended = is ∙ ap (λ (z : List Message). z ++ m ∷ []) so_far.appended ∙ append_assoc pipe so_far.messages (m ∷ []) ∙ ap (λ (x : Message). pipe ++ (so_far.messages ++ x ∷ [])) m_is;
        fits = omega (arith, all, before, fits, count);
      }

  outbox_was : on_link l old.outbox ≡ so_far.messages ++ on_link l mid.outbox
  outbox_was = so_far.gone.rest l ∙ ap (λ (z : List Message). z ++ on_link l mid.outbox) (on_put l so_far.messages)

  pub when_empty : None ≡ slice_get (on_link l mid.outbox) 0 → IsPushed l old mid pipe piped
  when_empty none = record {
    messages = so_far.messages;
    gone = so_far.gone;
    appended = so_far.appended;
    first = sym (ap (take (64 - length pipe)) (outbox_was ∙ ap (λ (z : List Message). so_far.messages ++ z) (nothing (on_link l mid.outbox) none) ∙ append-nil so_far.messages) ∙ take_all (64 - length pipe) so_far.messages so_far.fits);
  }
    where
      nothing : (ms : List Message) → None ≡ slice_get ms 0 → ms ≡ []
      nothing [] e = refl
      nothing (m ∷ ms) e = cc

  pub when_full : length piped ≡ 64 → IsPushed l old mid pipe piped
  when_full full =
      let before : length piped ≡ length pipe + length so_far.messages = ap length so_far.appended ∙ length-append pipe so_far.messages in
      let places : 64 - length pipe ≡ length so_far.messages = omega (arith, before, full) in
      record {
        messages = so_far.messages;
        gone = so_far.gone;
        appended = so_far.appended;
        first = sym (ap (take (64 - length pipe)) outbox_was ∙ ap (λ (n : ℕ). take n (so_far.messages ++ on_link l mid.outbox)) places ∙ front so_far.messages (on_link l mid.outbox));
      }
    where
      front : (xs ys : List Message) → take (length xs) (xs ++ ys) ≡ xs
      front [] ys = refl
      front (x ∷ xs) ys = ap (λ (z : List Message). x ∷ z) (front xs ys)

-- messages of the first n links went into their pipes so far
pub record PushesTo (n : ℕ) (old now : PlatformView) (pipes piped : List (List Message)) : Type 0 where
  pub sent : List OnLink
  pub gone : HasSent old now sent
  pub count : length piped ≡ length pipes
  pub pipes_below : (k : ℕ) (pipe : List Message) → k < n → slice_get pipes k ≡ Some pipe → slice_get piped k ≡ Some (pipe ++ on_link k sent)
  pub first_below : (k : ℕ) (pipe : List Message) → k < n → slice_get pipes k ≡ Some pipe → on_link k sent ≡ take (64 - length pipe) (on_link k old.outbox)
  pub above : (k : ℕ) → n ≤ k → slice_get piped k ≡ slice_get pipes k
  pub links : Each (λ (m : OnLink). m.link < n) sent
  pub by_link : LinkByLink sent

pub nowhere_yet : (v : PlatformView) (pipes : List (List Message)) → PushesTo 0 v v pipes pipes
nowhere_yet v pipes = record {
  sent = [];
  gone = sent_none v;
  count = refl;
  pipes_below = λ k pipe lt at. absurd (omega (arith, lt));
  first_below = λ k pipe lt at. absurd (omega (arith, lt));
  above = λ k le. refl;
  links = tt;
  by_link = tt;
}

pub everywhere : (old new : PlatformView) (pipes piped : List (List Message)) → PushesTo (length pipes) old new pipes piped → ArePushed old new pipes piped
everywhere old new pipes piped h = record {
  sent = h.sent;
  gone = h.gone;
  pushed = record {
    count = h.count;
    pipes = λ l pipe at. h.pipes_below l pipe (slice_get_within pipes l pipe at) at;
    first = λ l pipe at. h.first_below l pipe (slice_get_within pipes l pipe at) at;
    nowhere_else = λ l none. on_past (length pipes) l h.sent h.links (past pipes l none);
    by_link = h.by_link;
  };
}
  where
    past : (xs : List (List Message)) (k : ℕ) → slice_get xs k ≡ None → length xs ≤ k
    past [] k e = omega arith
    past (x ∷ xs) zero e = cc
    past (x ∷ xs) (suc k) e = let le : length xs ≤ k = past xs k e in omega (arith, le)

-- the pipe of one link more
set_here : (xs : List (List Message)) (n : ℕ) (y : List Message) → n < length xs → slice_get (set xs n y) n ≡ Some y
set_here [] n y lt = absurd (omega arith)
set_here (x ∷ xs) zero y lt = refl
set_here (x ∷ xs) (suc n) y lt = set_here xs n y (omega arith)

set_elsewhere : (xs : List (List Message)) (n k : ℕ) (y : List Message) → (k ≡ n → ⊥) → slice_get (set xs n y) k ≡ slice_get xs k
set_elsewhere [] n k y other = refl
set_elsewhere (x ∷ xs) zero zero y other = absurd (other refl)
set_elsewhere (x ∷ xs) zero (suc k) y other = refl
set_elsewhere (x ∷ xs) (suc n) zero y other = refl
set_elsewhere (x ∷ xs) (suc n) (suc k) y other = set_elsewhere xs n k y (λ (e : k ≡ n). other (ap suc e))

each_wider : (n : ℕ) (ms : List OnLink) → Each (λ (m : OnLink). m.link < n) ms → Each (λ (m : OnLink). m.link < n + 1) ms
each_wider n [] h = tt
each_wider n (m ∷ ms) h = (wider m.link h.0, each_wider n ms h.1)
  where
    wider : (k : ℕ) → k < n → k < n + 1
    wider k lt = omega arith

each_both : (P : OnLink → Type 0) (xs ys : List OnLink) → Each P xs → Each P ys → Each P (xs ++ ys)
each_both P [] ys h k = k
each_both P (x ∷ xs) ys h k = (h.0, each_both P xs ys h.1 k)

put_below : (n : ℕ) (ms : List Message) → Each (λ (m : OnLink). m.link < n + 1) (map (put_on n) ms)
put_below n [] = tt
put_below n (m ∷ ms) = (omega arith, put_below n ms)

put_from : (k n : ℕ) (ms : List Message) → k ≤ n → Each (λ (m : OnLink). k ≤ m.link) (map (put_on n) ms)
put_from k n [] le = tt
put_from k n (m ∷ ms) le = (le, put_from k n ms le)

put_by_link : (n : ℕ) (ms : List Message) → LinkByLink (map (put_on n) ms)
put_by_link n [] = tt
put_by_link n (m ∷ ms) = (put_from n n ms (omega arith), put_by_link n ms)

by_link_both : (n : ℕ) (xs : List OnLink) (ms : List Message) → LinkByLink xs → Each (λ (m : OnLink). m.link < n) xs → LinkByLink (xs ++ map (put_on n) ms)
by_link_both n [] ms h below = put_by_link n ms
by_link_both n (x ∷ xs) ms h below = (each_both (λ (m : OnLink). x.link ≤ m.link) xs (map (put_on n) ms) h.0 (put_from x.link n ms (less x.link below.0)), by_link_both n xs ms h.1 below.1)
  where
    less : (k : ℕ) → k < n → k ≤ n
    less k lt = omega arith

before : {k n : ℕ} → (k ≡ n → ⊥) → k < n + 1 → k < n
before {k} {n} apart lt = ⊎_elim (λ (same : k ≡ n). absurd (apart same)) (λ (other : k ≡ n → ⊥). less other lt) (cases_eq k n)
  where
    less : k ≢ n → k < n + 1 → k < n
    less other lt = omega arith

past : {k n : ℕ} → n + 1 ≤ k → k ≡ n → ⊥
past le same = omega arith

module _ (n : ℕ) (old mid new : PlatformView) (pipes piped : List (List Message)) (pipe more : List Message) (h : PushesTo n old mid pipes piped) (at : slice_get piped n ≡ Some pipe) (p : IsPushed n mid new pipe more) where
  within : n < length piped
  within = slice_get_within piped n pipe at

  there : slice_get pipes n ≡ Some pipe
  there = sym (h.above n (omega arith)) ∙ at

  elsewhere : (k : ℕ) → (k ≡ n → ⊥) → on_link k (h.sent ++ map (put_on n) p.messages) ≡ on_link k h.sent
  elsewhere k other =
      on_append k h.sent (map (put_on n) p.messages)
      ∙ ap (λ (z : List Message). on_link k h.sent ++ z) (on_put_elsewhere k n p.messages other)
      ∙ append-nil (on_link k h.sent)

  here : on_link n (h.sent ++ map (put_on n) p.messages) ≡ p.messages
  here =
      on_append n h.sent (map (put_on n) p.messages)
      ∙ ap (λ (z : List Message). z ++ on_link n (map (put_on n) p.messages)) (on_past n n h.sent h.links (omega arith))
      ∙ on_put n p.messages

  outbox_here : on_link n mid.outbox ≡ on_link n old.outbox
  outbox_here = sym (h.gone.rest n ∙ ap (λ (z : List Message). z ++ on_link n mid.outbox) (on_past n n h.sent h.links (omega arith)))

  same_pipe : (other : List Message) → slice_get pipes n ≡ Some other → pipe ≡ other
  same_pipe other e = let both : Some pipe ≡ Some other = sym there ∙ e in cc

  pipes_to : (k : ℕ) (other : List Message) → k < n + 1 → slice_get pipes k ≡ Some other → slice_get (set piped n more) k ≡ Some (other ++ on_link k (h.sent ++ map (put_on n) p.messages))
  pipes_to k other lt e =
      ⊎_elim
      (λ (same : k ≡ n).
      subst (λ (j : ℕ). slice_get (set piped n more) j ≡ Some (other ++ on_link j (h.sent ++ map (put_on n) p.messages))) (sym same)
      (set_here piped n more within ∙ ap Some (p.appended ∙ ap (λ (z : List Message). z ++ p.messages) (same_pipe other (subst (λ (j : ℕ). slice_get pipes j ≡ Some other) same e)) ∙ ap (λ (z : List Message). other ++ z) (sym here))))
      (λ (apart : k ≡ n → ⊥).
      set_elsewhere piped n k more apart
      ∙ h.pipes_below k other (before apart lt) e
      ∙ ap (λ (z : List Message). Some (other ++ z)) (sym (elsewhere k apart)))
      (cases_eq k n)

  first_to : (k : ℕ) (other : List Message) → k < n + 1 → slice_get pipes k ≡ Some other → on_link k (h.sent ++ map (put_on n) p.messages) ≡ take (64 - length other) (on_link k old.outbox)
  first_to k other lt e =
      ⊎_elim
      (λ (same : k ≡ n).
      subst (λ (j : ℕ). on_link j (h.sent ++ map (put_on n) p.messages) ≡ take (64 - length other) (on_link j old.outbox)) (sym same)
      (here ∙ p.first ∙ ap (λ (z : List Message). take (64 - length z) (on_link n mid.outbox)) (same_pipe other (subst (λ (j : ℕ). slice_get pipes j ≡ Some other) same e)) ∙ ap (take (64 - length other)) outbox_here))
      (λ (apart : k ≡ n → ⊥). elsewhere k apart ∙ h.first_below k other (before apart lt) e)
      (cases_eq k n)

  pub next_link : PushesTo (n + 1) old new pipes (set piped n more)
  next_link = record {
    sent = h.sent ++ map (put_on n) p.messages;
    gone = sent_both old mid new h.sent (map (put_on n) p.messages) h.gone p.gone;
    count = length-set piped n more ∙ h.count;
    pipes_below = pipes_to;
    first_below = first_to;
    above = λ k le. set_elsewhere piped n k more (past le) ∙ h.above k (omega (arith, le));
    links = each_both (λ (m : OnLink). m.link < n + 1) h.sent (map (put_on n) p.messages) (each_wider n h.sent h.links) (put_below n p.messages);
    by_link = by_link_both n h.sent p.messages h.by_link h.links;
  }

-- what was sent stands on the links so far
pub none_on : (n : ℕ) (old now : PlatformView) (pipes piped : List (List Message)) → (h : PushesTo n old now pipes piped) → 0 < length old.turns → last_sent old.turns ≡ [] → on_link n (last_sent now.turns) ≡ []
none_on n old now pipes piped h some none =
    ap (λ (ts : List Turn). on_link n (last_sent ts)) h.gone.turns
    ∙ ap (on_link n) (last_sent_more h.sent old.turns some ∙ ap (λ (z : List OnLink). z ++ h.sent) none)
    ∙ on_past n n h.sent h.links (omega arith)

pub begun_to : (n : ℕ) (old now : PlatformView) (pipes piped : List (List Message)) → (h : PushesTo n old now pipes piped) → 0 < length old.turns → 0 < length now.turns
begun_to n old now pipes piped h some =
    let same : length now.turns ≡ length old.turns = ap length h.gone.turns ∙ length-on_last (sending h.sent) old.turns in
    omega (arith, same, some)

-- nothing is pushed where nothing waits
pub nothing_pushed : (v : PlatformView) (pipes : List (List Message)) → v.outbox ≡ [] → ArePushed v v pipes pipes
nothing_pushed v pipes none = record {
  sent = [];
  gone = sent_none v;
  pushed = record {
    count = refl;
    pipes = λ l pipe at. at ∙ ap Some (sym (append-nil pipe));
    first = λ l pipe at. sym (ap (λ (ms : List OnLink). take (64 - length pipe) (on_link l ms)) none ∙ none_of (64 - length pipe));
    nowhere_else = λ l at. refl;
    by_link = tt;
  };
}
  where
    none_of : (n : ℕ) → ◌≡◌ {A = List Message} (take n []) []
    none_of zero = refl
    none_of (suc n) = refl
