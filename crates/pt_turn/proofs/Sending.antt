-- More messages are sent after the last turn.
use Rattle.std.proofs.Common.{◌≡◌, ℕ, ◌+◌, ◌<◌, ◌≤◌, Bool, false, List, [], ◌∷◌, ◌++◌, Option, Some, None, length, refl, sym, ap, subst, ◌∙◌, arith, append_assoc, length-append}
use Rattle.pt_tags.specs.declared.message.Message.{Message}
use Rattle.pt_types.specs.declared.graph.Graph.{Graph}
use Rattle.pt_types.specs.declared.firing.OnLink.{OnLink}
use Rattle.pt_types.specs.declared.rows.Row.{Row}
use Rattle.pt_history.specs.Lists.{on_last}
use Rattle.pt_history.proofs.LastMember.{on_last-push}
use Rattle.pt_semantics.specs.Closing.{Sends, on_link, unsent}
use Rattle.pt_semantics.specs.History.{Legal}
use Rattle.pt_semantics.specs.Kept.{IsSingle, kept, settled}
use Rattle.pt_semantics.specs.Lists.{Each}
use Rattle.pt_semantics.specs.Platform.{State, opened}
use Rattle.pt_semantics.specs.Turn.{IsTurn, Turn}
use Rattle.pt_history.specs.Turns.{sending}
use Rattle.pt_history.proofs.Gathered.{kept-on_last, kept-push}
use Rattle.pt_turn.specs.declared.fault.TurnFault.{TurnFault}
use Rattle.pt_turn.specs.declared.fault.TurnFault.TheVariants.{Late, Long}
use Rattle.pt_turn.specs.Gone.{last_sent}
use Rattle.pt_turn.specs.Platforms.{messages_of}
use Rattle.pt_turn.specs.Running.{GoesOn, LeadsOn, Ran, Shows, last_reading}
use Rattle.pt_turn.proofs.Coming.{on_append}
use Rattle.pt_turn.proofs.Turns.{last_pushed}

-- of each outbox these messages are a front
abbrev pub AreFront : (ℕ → List Message) → List OnLink → (ℕ → List Message) → Type 0
AreFront outbox ms rest = (l : ℕ) → outbox l ≡ on_link l ms ++ rest l

-- these messages may follow those that were sent
abbrev pub MayFollow : List OnLink → List OnLink → Type 0
MayFollow sent ms = (l : ℕ) → length (on_link l sent) ≤ 64 → length (on_link l (sent ++ ms)) ≤ 64

pub sends_more : (done mid : State) (sent ms : List OnLink) (rest : ℕ → List Message) → Sends done sent mid → AreFront mid.outbox ms rest → MayFollow sent ms → Sends done (sent ++ ms) (unsent mid rest)
sends_more done mid sent ms rest s front few = (
  rest,
  ap (λ (z : State). unsent z rest) s.1,
  λ l.
      s.2 l
      ∙ ap (λ z. on_link l sent ++ z) (sym (ap (λ (z : State). z.outbox l) s.1) ∙ front l)
      ∙ sym (append_assoc (on_link l sent) (on_link l ms) (rest l))
      ∙ ap (λ z. z ++ rest l) (sym (on_append l sent ms)),
  λ l. few l (s.3 l),
)

abbrev pub turn_more : (g : Graph) (level : ℕ → ℕ) (i : ℕ) (s mid : State) (turn : Turn) (late : Bool) (ms : List OnLink) (rest : ℕ → List Message) → IsTurn g level i s turn late mid → AreFront mid.outbox ms rest → MayFollow turn.sent ms → IsTurn g level i s (sending ms turn) late (unsent mid rest)
turn_more g level i s mid turn late ms rest is front few = record {
  rises = is.rises;
  span = is.span;
  posted = is.posted;
  posts = is.posts;
  rows = is.rows;
  got = is.got;
  takes = is.takes;
  ready = is.ready;
  claims = is.claims;
  idle_if_late = is.idle_if_late;
  greedy = is.greedy;
  at_most = is.at_most;
  done = is.done;
  closes = is.closes;
  sends = sends_more is.done mid turn.sent ms rest is.sends front few;
}

same_front : (new mid : State) (ms : List OnLink) (rest : ℕ → List Message) → new ≡ mid → AreFront new.outbox ms rest → AreFront mid.outbox ms rest
same_front new mid ms rest e front = subst (λ (z : State). AreFront z.outbox ms rest) e front

goes_on_more : (g : Graph) (level : ℕ → ℕ) (i : ℕ) (s new : State) (turns : List Turn) (turn : Turn) (ms : List OnLink) (rest : ℕ → List Message) → GoesOn g level i s (turns ++ turn ∷ []) new → AreFront new.outbox ms rest → MayFollow turn.sent ms → GoesOn g level i s (turns ++ sending ms turn ∷ []) (unsent new rest)
goes_on_more g level i s new [] turn ms rest h front few = (unsent h.0 rest, turn_more g level i s h.0 turn false ms rest h.1 (same_front new h.0 ms rest h.3 front) few, h.2, ap (λ (z : State). unsent z rest) h.3)
goes_on_more g level i s new (x ∷ turns) turn ms rest h front few = (h.0, h.1, h.2, goes_on_more g level i h.0 new turns turn ms rest h.3 front few)

never_empty : (turns : List Turn) (turn : Turn) → turns ++ turn ∷ [] ≡ [] → ⊥
never_empty turns turn e = let n : length (turns ++ turn ∷ []) ≡ length turns + 1 = length-append turns (turn ∷ []) in let none : length (turns ++ turn ∷ []) ≡ 0 = ap length e in omega (arith, n, none)

legal_more : (g : Graph) (level : ℕ → ℕ) (i : ℕ) (s new : State) (turns : List Turn) (turn : Turn) (ms : List OnLink) (rest : ℕ → List Message) → Legal g level i s (turns ++ turn ∷ []) new → AreFront new.outbox ms rest → MayFollow turn.sent ms → Legal g level i s (turns ++ sending ms turn ∷ []) (unsent new rest)
legal_more g level i s new [] turn ms rest h front few = (h.0, unsent h.1 rest, turn_more g level i s h.1 turn h.0 ms rest h.2 (same_front new h.1 ms rest h.4 front) few, λ last. refl, ap (λ (z : State). unsent z rest) h.4)
legal_more g level i s new (x ∷ turns) turn ms rest h front few = (h.0, h.1, h.2, λ last. absurd (never_empty turns turn (h.3 last)), legal_more g level i h.1 new turns turn ms rest h.4 front few)

shows_still : (g : Graph) (turns : List Turn) (s : State) (fault : TurnFault) (ms : List OnLink) (rest : ℕ → List Message) → Shows g turns s fault → Shows g (on_last (sending ms) turns) (unsent s rest) fault
shows_still g turns s (Late actor tag reading limit) ms rest h = record {
  before = h.before;
  turn = sending ms h.turn;
  ends = ap (on_last (sending ms)) h.ends ∙ on_last-push (sending ms) h.before h.turn;
  late = h.late;
}
shows_still g turns s Long ms rest h = record { all = h.all; reading = h.reading; read = h.read; safe = h.safe }

leads_more : (g : Graph) (level : ℕ → ℕ) (i : ℕ) (start s : State) (kept all : List Turn) (turn : Turn) (fault : Option TurnFault) (ms : List OnLink) (rest : ℕ → List Message) → LeadsOn g level i start kept (all ++ turn ∷ []) s fault → AreFront s.outbox ms rest → MayFollow turn.sent ms → LeadsOn g level i start (on_last (sending ms) kept) (all ++ sending ms turn ∷ []) (unsent s rest) fault
leads_more g level i start s kept all turn None ms rest h front few = goes_on_more g level i start s all turn ms rest h front few
leads_more g level i start s kept all turn (Some fault) ms rest h front few = (legal_more g level i start s all turn ms rest h.0 front few, shows_still g kept s fault ms rest h.1)

single_more : (turns : List Turn) (turn : Turn) (ms : List OnLink) → Each IsSingle (turns ++ turn ∷ []) → Each IsSingle (turns ++ sending ms turn ∷ [])
single_more [] turn ms h = (record { once = h.0.once; one_reading = h.0.one_reading; fits = h.0.fits }, tt)
single_more (x ∷ turns) turn ms h = (h.0, single_more turns turn ms h.1)

-- the last member of a list that has one
record Ending (turns : List Turn) : Type 0 where
  before : List Turn
  last : Turn
  ends : turns ≡ before ++ last ∷ []

ending_of : (x : Turn) (turns : List Turn) → Ending (x ∷ turns)
ending_of x [] = record { before = []; last = x; ends = refl }
ending_of x (y ∷ turns) = let e = ending_of y turns in record { before = x ∷ e.before; last = e.last; ends = ap (λ (ts : List Turn). x ∷ ts) e.ends }

last_there : (turns all : List Turn) → turns ≡ kept all → 0 < length turns → Ending all
last_there turns [] is lt = absurd (none is lt)
  where
    none : turns ≡ [] → 0 < length turns → ⊥
    none e lt = let n : length turns ≡ 0 = ap length e in omega (arith, n, lt)
last_there turns (x ∷ all) is lt = ending_of x all

pub last_sent_pushed : (turns : List Turn) (turn : Turn) → last_sent (turns ++ turn ∷ []) ≡ turn.sent
last_sent_pushed [] turn = refl
last_sent_pushed (x ∷ []) turn = refl
last_sent_pushed (x ∷ y ∷ turns) turn = last_sent_pushed (y ∷ turns) turn

-- the turns of a platform, with more messages sent after the last
pub ran_more : (g : Graph) (level : ℕ → ℕ) (i : ℕ) (rows : ℕ → List Row) (turns : List Turn) (s : State) (fault : Option TurnFault) (ms : List OnLink) (rest : ℕ → List Message) → Ran g level i rows turns s fault → 0 < length turns → AreFront s.outbox ms rest → MayFollow (last_sent turns) ms → Ran g level i rows (on_last (sending ms) turns) (unsent s rest) fault
ran_more g level i rows turns s fault ms rest ran some front few =
    let e : Ending ran.all = last_there turns ran.all ran.are_kept some in
    let before : List Turn = settled (kept e.before) in
    let is_kept : turns ≡ kept (e.before ++ e.last ∷ []) = ran.are_kept ∙ ap kept e.ends in
    let ends : turns ≡ before ++ e.last ∷ [] = is_kept ∙ kept-push e.before e.last in
    let sent : last_sent turns ≡ e.last.sent = ap last_sent ends ∙ last_sent_pushed before e.last in
    let new : on_last (sending ms) turns ≡ before ++ sending ms e.last ∷ [] = ap (on_last (sending ms)) ends ∙ on_last-push (sending ms) before e.last in
    record {
      all = e.before ++ sending ms e.last ∷ [];
      single = single_more e.before e.last ms (subst (Each IsSingle) e.ends ran.single);
      are_kept = ap (on_last (sending ms)) is_kept ∙ kept-on_last (sending ms) e.before e.last;
      leads = leads_more g level i (opened g i rows) s turns e.before e.last fault ms rest (subst (λ all. LeadsOn g level i (opened g i rows) turns all s fault) e.ends ran.leads) front (subst (λ z. MayFollow z ms) sent few);
      read = ran.read ∙ ap last_reading ends ∙ last_pushed before e.last ∙ sym (ap last_reading new ∙ last_pushed before (sending ms e.last));
    }

-- what was taken stays
pub taken_still : (turns : List Turn) (ms : List OnLink) → messages_of (on_last (sending ms) turns) ≡ messages_of turns
taken_still [] ms = refl
taken_still (x ∷ []) ms = refl
taken_still (x ∷ y ∷ turns) ms = ap (λ z. x.taken ++ z) (taken_still (y ∷ turns) ms)
