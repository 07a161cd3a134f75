-- A turn leads from a state to one state, and so do the turns of a history.
use Rattle.std.proofs.Common.{◌≡◌, ℕ, ◌+◌, Bool, List, [], ◌∷◌, ◌++◌, length, arith, refl, sym, ap, subst, ◌∙◌, length-append}
use Rattle.std.proofs.lemmas.List.{append_cancel_left}
use Rattle.pt_tags.specs.declared.message.Message.{Message}
use Rattle.pt_types.specs.declared.graph.Graph.{Graph}
use Rattle.pt_types.specs.declared.firing.Task.{Task}
use Rattle.pt_types.specs.declared.firing.OnLink.{OnLink}
use Rattle.pt_semantics.specs.Units.{unit_of}
use Rattle.pt_semantics.specs.Platform.{State, raised}
use Rattle.pt_semantics.specs.Entering.{after_rows}
use Rattle.pt_semantics.specs.Taking.{Takes}
use Rattle.pt_semantics.specs.Claiming.{Claims, after_claim}
use Rattle.pt_semantics.specs.Closing.{Closes, Sends, on_link, unsent}
use Rattle.pt_semantics.specs.History.{Legal}
use Rattle.pt_semantics.specs.Turn.{IsLast, IsTurn, Turn}
use Rattle.pt_paced_laws.proofs.SameTurn.{closes_one, posts_state, takes_state}

claims_state : (g : Graph) (r : ℕ) (tasks : List Task) (s a b : State) → Claims g r s tasks a → Claims g r s tasks b → a ≡ b
claims_state g r [] s a b ea eb = ea ∙ sym eb
claims_state g r (t ∷ tasks) s a b (next, rest) (next2, rest2) = claims_state g r tasks (after_claim g s (unit_of g t) t) a b rest rest2

sends_state : (s : State) (sent : List OnLink) (a b : State) → Sends s sent a → Sends s sent b → a ≡ b
sends_state s sent a b ha hb =
    let left : (l : ℕ) → ha.0 l ≡ hb.0 l = λ l. append_cancel_left (on_link l sent) (ha.0 l) (hb.0 l) (sym (ha.2 l) ∙ hb.2 l) in
    let outboxes : ◌≡◌ {A = ℕ → List Message} ha.0 hb.0 = λ i l. left l i in
    ha.1 ∙ ap (unsent s) outboxes ∙ sym hb.1

-- a turn leads to one state, and it is late or not
turn_one : (g : Graph) (level : ℕ → ℕ) (i : ℕ) (s : State) (turn : Turn) (late slow : Bool) (a b : State) → (ha : IsTurn g level i s turn late a) → (hb : IsTurn g level i s turn slow b) → (late ≡ slow) × (a ≡ b) × (ha.ready ≡ hb.ready)
turn_one g level i s turn late slow a b ha hb =
    let posted : ha.posted ≡ hb.posted = posts_state g turn.posted s ha.posted hb.posted ha.posts hb.posts in
    let takes : Takes g level i (after_rows ha.posted turn.last) turn.taken slow hb.got = subst (λ (z : State). Takes g level i (after_rows z turn.last) turn.taken slow hb.got) (sym posted) hb.takes in
    let took = takes_state g level i turn.taken late slow (after_rows ha.posted turn.last) ha.got hb.got ha.takes takes in
    let claims : Claims g turn.last (raised ha.got turn.last) turn.claimed hb.ready = subst (λ (z : State). Claims g turn.last (raised z turn.last) turn.claimed hb.ready) (sym took.1) hb.claims in
    let ready : ha.ready ≡ hb.ready = claims_state g turn.last turn.claimed (raised ha.got turn.last) ha.ready hb.ready ha.claims claims in
    let closes : Closes g i ha.ready turn.last late hb.done = subst (λ (z : Bool). Closes g i ha.ready turn.last z hb.done) (sym took.0) (subst (λ (z : State). Closes g i z turn.last slow hb.done) (sym ready) hb.closes) in
    let done : ha.done ≡ hb.done = closes_one g i ha.ready ha.done hb.done turn.last late ha.closes closes in
    (took.0, sends_state ha.done turn.sent a b ha.sends (subst (λ (z : State). Sends z turn.sent b) (sym done) hb.sends), ready)

pub turn_state : (g : Graph) (level : ℕ → ℕ) (i : ℕ) (s : State) (turn : Turn) (late slow : Bool) (a b : State) → IsTurn g level i s turn late a → IsTurn g level i s turn slow b → (late ≡ slow) × (a ≡ b)
turn_state g level i s turn late slow a b ha hb = let one = turn_one g level i s turn late slow a b ha hb in (one.0, one.1)

-- whether it is a last one does not depend on how it is shown
pub turn_same : (g : Graph) (level : ℕ → ℕ) (i : ℕ) (turn : Turn) (late slow : Bool) (s z a b : State) → s ≡ z → (ha : IsTurn g level i s turn late a) → (hb : IsTurn g level i z turn slow b)
    → IsLast g s turn.last late ha.ready → IsLast g z turn.last slow hb.ready
turn_same g level i turn late slow s z a b e ha hb last =
    let P : State → Type 0 = λ y. (hy : IsTurn g level i y turn slow b) → IsLast g y turn.last slow hy.ready in
    subst P e (λ hy. let one = turn_one g level i s turn late slow a b ha hy in
    subst (λ (l : Bool). IsLast g s turn.last l hy.ready) one.0 (subst (λ (r : State). IsLast g s turn.last late r) one.2 last)) hb

-- turns lead to one state
pub legal_state : (g : Graph) (level : ℕ → ℕ) (i : ℕ) (s : State) (turns : List Turn) (a b : State) → Legal g level i s turns a → Legal g level i s turns b → a ≡ b
legal_state g level i s [] a b ea eb = ea ∙ sym eb
legal_state g level i s (turn ∷ turns) a b (late, mid, is, last, rest) (slow, mid2, is2, last2, rest2) =
    let same : mid2 ≡ mid = sym (turn_state g level i s turn late slow mid mid2 is is2).1 in
    legal_state g level i mid turns a b rest (subst (λ (z : State). Legal g level i z turns b) same rest2)

-- the last turn of a history, and those before it
pub record Parted (g : Graph) (level : ℕ → ℕ) (i : ℕ) (s : State) (turns : List Turn) (turn : Turn) (new : State) : Type 0 where
  pub mid : State
  pub leads : Legal g level i s turns mid
  pub late : Bool
  pub is : IsTurn g level i mid turn late new

none_after : (turns : List Turn) (turn : Turn) → turns ++ turn ∷ [] ≡ [] → ⊥
none_after turns turn e = let n : length (turns ++ turn ∷ []) ≡ length turns + 1 = length-append turns (turn ∷ []) in let none : length (turns ++ turn ∷ []) ≡ 0 = ap length e in omega (arith, n, none)

pub legal_parted : (g : Graph) (level : ℕ → ℕ) (i : ℕ) (s : State) (turns : List Turn) (turn : Turn) (new : State) → Legal g level i s (turns ++ turn ∷ []) new → Parted g level i s turns turn new
legal_parted g level i s [] turn new (late, mid, is, last, end) = record { mid = s; leads = refl; late = late; is = subst (λ (z : State). IsTurn g level i s turn late z) (sym end) is }
legal_parted g level i s (x ∷ turns) turn new (late, mid, is, last, rest) =
    let p = legal_parted g level i mid turns turn new rest in
    record { mid = p.mid; leads = (late, mid, is, λ l. absurd (none_after turns turn (last l)), p.leads); late = p.late; is = p.is }
