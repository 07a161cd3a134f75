-- A platform after its visit in a quiet round, and the airways that lead to it.
use Rattle.std.proofs.Common.{◌≡◌, ℕ, ◌<◌, ◌≤◌, ◌+◌, ◌==◌, ◌&&◌, zero, suc, true, false, List, [], ◌∷◌, ◌++◌, None, Some, filter, length, map, nat_le, slice_get, take, refl, sym, ap, ap₂, subst, ◌∙◌, ⊎_elim, arith, eq-eqb, eqb-true, le-leb}
use Rattle.std.proofs.lemmas.Bool.{and_parts, cases_Bool, cases_lt, cond-false, cond-true, false≢true}
use Rattle.pt_tags.specs.declared.message.Message.{Message}
use Rattle.pt_types.specs.declared.graph.Graph.{Graph}
use Rattle.pt_types.specs.declared.graph.Link.{Link}
use Rattle.pt_types.specs.declared.graph.Unit.{Unit}
use Rattle.pt_types.specs.declared.rows.Row.{Row}
use Rattle.pt_types.specs.Lookups.{platform_of}
use Rattle.pt_semantics.specs.Closing.{CanClose, on_link}
use Rattle.pt_semantics.specs.Entering.{not_due}
use Rattle.pt_semantics.specs.Lists.{IsIn}
use Rattle.pt_semantics.specs.Platform.{State}
use Rattle.pt_semantics.specs.Safe.{NothingSafe}
use Rattle.pt_semantics.specs.Turn.{Turn, is_empty, is_quiet}
use Rattle.pt_semantics.specs.Visits.{VisitRecord, leads_to}
use Rattle.pt_laws.proofs.Raise.{Rests, nothing_in, quiet_visit}
use Rattle.pt_paced_laws.proofs.Turns.{turn_does}
use Rattle.pt_types.specs.declared.air.Air.{Air}
use Rattle.pt_types.specs.declared.air.InAir.{InAir}
use Rattle.pt_semantics.specs.Arrivals.{AirwayView}
use Rattle.pt_semantics.specs.TrueTime.{came, come_on, lag_of, put_link, reading_at, true_time}
use Rattle.pt_replay_laws.specs.ReplayState.{IsVisitAt, ReplayState, come_to, taken_off}

-- at its last reading the platform has nothing open and nothing to send, nothing is safe, it can't close, and no row is due.
-- No message has come for it
pub record IsCalm (g : Graph) (air : Air) (now i : ℕ) (s : State) (airways : ℕ → AirwayView) : Type 0 where
  pub free : (u : Unit) → s.busy u ≡ None
  pub unsafe : (NothingSafe g s.waits s.busy (reading_at air i now) → ⊥) → ⊥
  pub stays_open : s.closed ≡ false → CanClose g i s (reading_at air i now) → ⊥
  pub sent_all : (l : ℕ) → s.outbox l ≡ []
  pub unseen : (a : ℕ) (row : Row) (rest : List Row) → s.left a ≡ row ∷ rest → reading_at air i now < row.seen
  pub none_come : (l : ℕ) (link : Link) → slice_get g.links l ≡ Some link → platform_of g link.to ≡ i → come_on g i now l (airways l) ≡ []

-- nothing is posted, entered, taken, claimed and sent in a quiet turn
pub record HasNothing (turn : Turn) : Type 0 where
  pub posted : turn.posted ≡ []
  pub rows : turn.rows ≡ []
  pub taken : turn.taken ≡ []
  pub claimed : turn.claimed ≡ []
  pub sent : turn.sent ≡ []

pub quiet_parts : (turn : Turn) → is_quiet turn ≡ true → HasNothing turn
quiet_parts turn quiet =
    let a = and_parts (is_empty turn.posted && is_empty turn.rows && is_empty turn.taken && is_empty turn.claimed) (is_empty turn.sent) quiet in
    let b = and_parts (is_empty turn.posted && is_empty turn.rows && is_empty turn.taken) (is_empty turn.claimed) a.0 in
    let c = and_parts (is_empty turn.posted && is_empty turn.rows) (is_empty turn.taken) b.0 in
    let d = and_parts (is_empty turn.posted) (is_empty turn.rows) c.0 in
    record {
      posted = nothing_in turn.posted d.0;
      rows = nothing_in turn.rows d.1;
      taken = nothing_in turn.taken c.1;
      claimed = nothing_in turn.claimed b.1;
      sent = nothing_in turn.sent a.1;
    }

-- the first row that is not due is seen later
pub not_due_later : (r : ℕ) (rows : List Row) (row : Row) (rest : List Row) → not_due r rows ≡ row ∷ rest → r < row.seen
not_due_later r [] row rest e = absurd (never row rest e)
  where
    never : (row : Row) (rest : List Row) → [] ≡ row ∷ rest → ⊥
    never row rest e = cc
not_due_later r (w ∷ ws) row rest e = ⊎_elim
    (λ (due : nat_le w.seen r ≡ true). not_due_later r ws row rest (sym (cond-true (nat_le w.seen r) (not_due r ws) (w ∷ ws) due) ∙ e))
    (λ (later : nat_le w.seen r ≡ false).
    subst (λ (z : Row). r < z.seen) (same_head w row ws rest (sym (cond-false (nat_le w.seen r) (not_due r ws) (w ∷ ws) later) ∙ e))
    (⊎_elim (λ (lt : r < w.seen). lt) (λ (le : w.seen ≤ r). absurd (false≢true (sym later ∙ le-leb w.seen r le))) (cases_lt r w.seen)))
    (cases_Bool (nat_le w.seen r))
  where
    same_head : (x y : Row) (xs ys : List Row) → x ∷ xs ≡ y ∷ ys → x ≡ y
    same_head x y xs ys e = cc

take_none : (xs : List Message) → take 64 xs ≡ [] → xs ≡ []
take_none [] h = refl
take_none (z ∷ zs) h = absurd (never z (take 63 zs) h)
  where
    never : (z : Message) (zs : List Message) → z ∷ zs ≡ [] → ⊥
    never z zs h = cc

-- after a quiet visit the platform is calm, and the airways are as they were
module _ (g : Graph) (level : ℕ → ℕ) (air : Air) (now : ℕ) (x : ReplayState) (m : VisitRecord) (y : ReplayState) (f : IsVisitAt g level air now x m y) (quiet : is_quiet m.turn ≡ true) (late : m.late ≡ false) (fine : m.fault ≡ false) (closed : (y.at m.platform).closed ≡ (x.at m.platform).closed) where
  nothing : HasNothing m.turn
  nothing = quiet_parts m.turn quiet

  same_state : y.at m.platform ≡ f.after.at m.platform
  same_state = ap (λ (z : ℕ → State). z m.platform) f.states

  nothing_left : (l : ℕ) → f.visit.is.done.outbox l ≡ []
  nothing_left l = take_none (f.visit.is.done.outbox l) (sym (f.visit.sends_all l) ∙ ap (on_link l) nothing.sent)

  rests : Rests g (reading_at air m.platform now) m.platform (f.after.at m.platform) (come_to g m.platform now x).on_way
  rests = (quiet_visit g level 64 (λ l. 64) (reading_at air m.platform now) (come_to g m.platform now x) f.after m (λ l none. absurd (omega (arith, none))) quiet late fine
      (ap (λ (s : State). s.closed) (sym same_state) ∙ closed) f.visit).0

  outbox_none : (l : ℕ) → (f.after.at m.platform).outbox l ≡ []
  outbox_none l =
      ap (λ (s : State). s.outbox l) f.visit.is.sends.1
      ∙ sym (f.visit.is.sends.2 l ∙ ap (λ z. z ++ f.visit.is.sends.0 l) (ap (on_link l) nothing.sent)) ∙ nothing_left l

  pub calm_visit : IsCalm g air now m.platform (y.at m.platform) x.airways
  calm_visit = subst (λ s. IsCalm g air now m.platform s x.airways) (sym same_state) (record {
    free = rests.free;
    unsafe = rests.unsafe;
    stays_open = rests.stays_open;
    sent_all = outbox_none;
    unseen = λ a row rest at.
        subst (λ r. r < row.seen) f.visit.last
        (not_due_later m.turn.last ((x.at m.platform).left a) row rest
        (sym ((turn_does g level m.platform (x.at m.platform) (f.after.at m.platform) m.turn m.late f.visit.is).left a) ∙ at));
    none_come = rests.took_all;
  })

  pub calm_airways : (l : ℕ) → y.airways l ≡ x.airways l
  calm_airways l =
      f.airways l
      ∙ ap₂ (λ s t. put_link air g now l (on_link l s) (taken_off (on_link l t) (x.airways l))) nothing.sent nothing.taken

-- of messages one of which has come, one comes
some_pass : (now : ℕ) (ms : List InAir) (m : InAir) → IsIn m ms → m.arrives ≤ now → 1 ≤ length (filter (λ (z : InAir). nat_le z.arrives now) ms)
some_pass now [] m mem le = absurd mem
some_pass now (z ∷ zs) m mem le = ⊎_elim
    (λ (here : m ≡ z).
    let passes : nat_le z.arrives now ≡ true = le-leb z.arrives now (subst (λ (w : InAir). w.arrives ≤ now) here le) in
    subst (λ (ws : List InAir). 1 ≤ length ws) (sym (cond-true (nat_le z.arrives now) (z ∷ filter (λ (w : InAir). nat_le w.arrives now) zs) (filter (λ (w : InAir). nat_le w.arrives now) zs) passes)) (omega arith))
    (λ (later : IsIn m zs).
    let more = some_pass now zs m later le in
    ⊎_elim
    (λ (e : nat_le z.arrives now ≡ true). subst (λ (ws : List InAir). 1 ≤ length ws) (sym (cond-true (nat_le z.arrives now) (z ∷ filter (λ (w : InAir). nat_le w.arrives now) zs) (filter (λ (w : InAir). nat_le w.arrives now) zs) e)) (omega arith))
    (λ (e : nat_le z.arrives now ≡ false). subst (λ (ws : List InAir). 1 ≤ length ws) (sym (cond-false (nat_le z.arrives now) (z ∷ filter (λ (w : InAir). nat_le w.arrives now) zs) (filter (λ (w : InAir). nat_le w.arrives now) zs) e)) more)
    (cases_Bool (nat_le z.arrives now)))
    mem

some_taken : (n : ℕ) (ms : List InAir) (m : InAir) → 1 ≤ n → IsIn m ms → map (λ (z : InAir). z.message) (take n ms) ≡ [] → ⊥
some_taken zero ms m some mem e = absurd (omega (arith, some))
some_taken (suc n) [] m some mem e = absurd mem
some_taken (suc n) (z ∷ zs) m some mem e = never z.message (map (λ (w : InAir). w.message) (take n zs)) e
  where
    never : (z : Message) (zs : List Message) → z ∷ zs ≡ [] → ⊥
    never z zs h = cc

-- where none has come, each message on the link arrives later
pub arrives_later : (g : Graph) (i now l : ℕ) (link : Link) (a : AirwayView) (m : InAir) → slice_get g.links l ≡ Some link → platform_of g link.to ≡ i → come_on g i now l a ≡ [] → IsIn m a.on_way → now < m.arrives
arrives_later g i now l link a m at home none mem = ⊎_elim
    (λ (lt : now < m.arrives). lt)
    (λ (le : m.arrives ≤ now).
    let leads : leads_to g i (slice_get g.links l) ≡ true = ap (leads_to g i) at ∙ eq-eqb (platform_of g link.to) i home in
    let some = some_pass now a.on_way m mem le in
    absurd (some_taken (came now a.on_way) a.on_way m (omega (arith, some)) mem
    (sym (cond-true (leads_to g i (slice_get g.links l)) (map (λ (z : InAir). z.message) (take (came now a.on_way) a.on_way)) [] leads) ∙ none)))
    (cases_lt now m.arrives)

-- a reading comes at its true time, and not before
pub has_come : (air : Air) (i v now : ℕ) → true_time air i v ≤ now → v ≤ reading_at air i now
has_come air i v now le = ⊎_elim
    (λ (e : (v == 0) ≡ true). let none : v ≡ 0 = eqb-true v 0 e in omega (arith, none))
    (λ (e : (v == 0) ≡ false).
    let low : v + lag_of air i ≤ now = subst (λ n. n ≤ now) (cond-false (v == 0) 0 (v + lag_of air i) e) le in
    omega (arith, low))
    (cases_Bool (v == 0))

pub read_then : (air : Air) (i v : ℕ) → reading_at air i (true_time air i v) ≤ v
read_then air i v = ⊎_elim
    (λ (e : (v == 0) ≡ true). let none : true_time air i v ≡ 0 = cond-true (v == 0) 0 (v + lag_of air i) e in omega (arith, none))
    (λ (e : (v == 0) ≡ false). let some : true_time air i v ≡ v + lag_of air i = cond-false (v == 0) 0 (v + lag_of air i) e in omega (arith, some))
    (cases_Bool (v == 0))
