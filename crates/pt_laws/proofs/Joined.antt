-- Quiet turns, one after another, are one quiet turn.
use Rattle.std.proofs.Common.{◌≡◌, ℕ, ◌+◌, ◌<◌, ◌≤◌, ◌⊎◌, ◌&&◌, ◌==◌, Bool, true, false, List, [], ◌∷◌, ◌++◌, Some, ℤ, length, map, arith, refl, sym, ap, subst, ◌∙◌, inl, inr, ⊎_elim}
use Rattle.std.proofs.lemmas.Bool.{and_parts, false≢true}
use Rattle.std.specs.List.{flat_map, range_with_len}
use Rattle.pt_types.specs.declared.graph.Graph.{Graph}
use Rattle.pt_tags.specs.declared.tag.Tag.{Tag}
use Rattle.pt_types.specs.declared.graph.Unit.{Unit}
use Rattle.pt_semantics.specs.Lists.{IsIn, or_else}
use Rattle.pt_types.specs.Ports.{when}
use Rattle.pt_semantics.specs.Meaning.{Values, row_at, added}
use Rattle.pt_types.specs.declared.rows.Row.{Row}
use Rattle.pt_semantics.specs.Platform.{State, raised}
use Rattle.pt_semantics.specs.Turn.{Turn, IsTurn, is_quiet, is_empty, joined}
use Rattle.pt_tags.specs.declared.message.Message.{Message}
use Rattle.pt_types.specs.declared.rows.RowAt.{RowAt}
use Rattle.pt_semantics.specs.Safe.{IsSafe, NothingSafe}
use Rattle.pt_semantics.specs.Posting.{Posts}
use Rattle.pt_semantics.specs.Taking.{Takes}
use Rattle.pt_semantics.specs.Claiming.{Claims}
use Rattle.pt_semantics.specs.Closing.{CanClose, Sends, shut, unsent, on_link}
use Rattle.pt_semantics.specs.Entering.{after_rows, due, not_due, all_due}
use Rattle.pt_semantics.specs.Rows.{FitsRow}
use Rattle.pt_laws.specs.TurnTheorems.{QuietTurnsJoin}
use Rattle.pt_semantics.proofs.Lookups.{or_else_none, when_none}
use Rattle.pt_laws.proofs.Rows.{due_split}
use Rattle.pt_laws.proofs.Progress.{nothing_of, in_range, sensor_in}
use Rattle.pt_laws.proofs.Raise.{nothing_in}

-- what a quiet turn does: it has a later reading, and may close
pub record Rested (g : Graph) (i : ℕ) (s : State) (first last : ℕ) (new : State) : Type 0 where
  pub rises : (p : ℕ) → s.reading ≡ Some p → p ≤ first
  pub span : first ≤ last
  pub none_due : (a : ℕ) → due last (s.left a) ≡ []
  pub greedy : NothingSafe g (raised s last).waits (raised s last).busy last ⊎ (g.claims ≤ s.claims)
  pub few : s.claims ≤ g.claims
  pub how : ((new ≡ raised s last) × (CanClose g i (raised s last) last → ⊥)) ⊎ ((new ≡ shut g i (raised s last)) × CanClose g i (raised s last) last)

map_nil : (a : ℕ) (xs : List Row) → map {B = RowAt} (λ (x : Row). record { sensor = a; row = x }) xs ≡ [] → xs ≡ []
map_nil a [] h = refl
map_nil a (x ∷ xs) h = absurd (never a x xs h)
  where
    never : (a : ℕ) (x : Row) (xs : List Row) → map {B = RowAt} (λ (z : Row). record { sensor = a; row = z }) (x ∷ xs) ≡ [] → ⊥
    never a x xs h = cc

none_due_of : (g : Graph) (r : ℕ) (left : ℕ → List Row) → ((a : ℕ) (row : Row) → IsIn row (left a) → FitsRow g a row) → all_due g r left ≡ [] → (a : ℕ) → due r (left a) ≡ []
none_due_of g r left fit none a = by_list (left a) refl
  where
    by_list : (xs : List Row) → left a ≡ xs → due r (left a) ≡ []
    by_list [] e = ap (due r) e
    by_list (x ∷ xs) e =
        let f : FitsRow g a x = fit a x (subst (IsIn x) (sym e) (inl refl)) in
        let lt : a < length g.actors = sensor_in g f.file a f.bound f.sensor in
        map_nil a (due r (left a)) (nothing_of (λ c. map {B = RowAt} (λ (z : Row). record { sensor = c; row = z }) (due r (left c))) (range_with_len 0 (length g.actors)) a (in_range (length g.actors) 0 a (omega arith) (omega arith)) none)

all_none : (g : Graph) (r : ℕ) (left : ℕ → List Row) → ((a : ℕ) → due r (left a) ≡ []) → (xs : List ℕ) → flat_map (λ c. map {B = RowAt} (λ (z : Row). record { sensor = c; row = z }) (due r (left c))) xs ≡ []
all_none g r left none [] = refl
all_none g r left none (a ∷ xs) = ap (λ d. map {B = RowAt} (λ (z : Row). record { sensor = a; row = z }) d ++ flat_map (λ c. map {B = RowAt} (λ (z : Row). record { sensor = c; row = z }) (due r (left c))) xs) (none a) ∙ all_none g r left none xs

-- rows of which none is due change nothing
rows_stay : (s : State) (r : ℕ) → ((a : ℕ) → due r (s.left a) ≡ []) → after_rows s r ≡ s
rows_stay s r none =
    let waits : ◌≡◌ {A = Values} (added s.waits (λ a p t. when (p == 0) (row_at (due r (s.left a)) t))) s.waits =
    λ k a p t. (ap (λ d. or_else (s.waits a p t) (when (p == 0) (row_at d t))) (none a) ∙ ap (or_else (s.waits a p t)) (when_none ℤ (p == 0)) ∙ or_else_none (s.waits a p t)) k in
    let left : ◌≡◌ {A = ℕ → List Row} (λ a. not_due r (s.left a)) s.left =
    λ k a. (sym (ap (λ d. d ++ not_due r (s.left a)) (none a)) ∙ due_split r (s.left a)) k in
    λ k. record s { waits = waits k; left = left k }

all_sent_none : (s new : State) (sent : List (Rattle.pt_types.specs.declared.firing.OnLink.OnLink)) → sent ≡ [] → Sends s sent new → new ≡ s
all_sent_none s new sent none h =
    let outbox : ◌≡◌ {A = ℕ → List Message} h.0 s.outbox = λ k l. (sym (h.2 l ∙ ap (λ z. on_link l z ++ h.0 l) none)) k in
    h.1 ∙ ap (unsent s) outbox

rested : (g : Graph) (level : ℕ → ℕ) (i : ℕ) (s new : State) (x : Turn) → ((a : ℕ) (row : Row) → IsIn row (s.left a) → FitsRow g a row) → is_quiet x ≡ true → IsTurn g level i s x false new → Rested g i s x.first x.last new
rested g level i s new x fit quiet is = record {
  rises = is.rises;
  span = is.span;
  none_due = none;
  greedy =
      ⊎_elim
      (λ (l : false ≡ true). absurd (false≢true l))
      (λ (o : NothingSafe g is.ready.waits is.ready.busy x.last ⊎ (g.claims ≤ s.claims)). ⊎_elim (λ (n : NothingSafe g is.ready.waits is.ready.busy x.last). inl (subst (λ z. NothingSafe g z.waits z.busy x.last) ready n)) (λ (m : g.claims ≤ s.claims). inr m) o)
      (is.greedy claimed);
  few = subst (λ (z : State). z.claims ≤ g.claims) ready is.at_most.1;
  how =
      ⊎_elim
      (λ (shuts : CanClose g i is.ready x.last × (false ≡ false) × (is.done ≡ shut g i is.ready)).
      inr (new_is ∙ shuts.2 ∙ ap (shut g i) ready, subst (λ z. CanClose g i z x.last) ready shuts.0))
      (λ (stays : (CanClose g i is.ready x.last → false ≡ true) × (is.done ≡ is.ready)).
      inl (new_is ∙ stays.1 ∙ ready, λ can. false≢true (stays.0 (subst (λ z. CanClose g i z x.last) (sym ready) can))))
      is.closes;
}
  where
    q1 : (is_empty x.posted && is_empty x.rows && is_empty x.taken && is_empty x.claimed ≡ true) × (is_empty x.sent ≡ true)
    q1 = and_parts (is_empty x.posted && is_empty x.rows && is_empty x.taken && is_empty x.claimed) (is_empty x.sent) quiet

    q2 : (is_empty x.posted && is_empty x.rows && is_empty x.taken ≡ true) × (is_empty x.claimed ≡ true)
    q2 = and_parts (is_empty x.posted && is_empty x.rows && is_empty x.taken) (is_empty x.claimed) q1.0

    q3 : (is_empty x.posted && is_empty x.rows ≡ true) × (is_empty x.taken ≡ true)
    q3 = and_parts (is_empty x.posted && is_empty x.rows) (is_empty x.taken) q2.0

    q4 : (is_empty x.posted ≡ true) × (is_empty x.rows ≡ true)
    q4 = and_parts (is_empty x.posted) (is_empty x.rows) q3.0

    claimed : x.claimed ≡ []
    claimed = nothing_in x.claimed q2.1

    none : (a : ℕ) → due x.last (s.left a) ≡ []
    none = none_due_of g x.last s.left fit (sym is.rows ∙ nothing_in x.rows q4.1)

    posted : is.posted ≡ s
    posted = subst (λ z. Posts g s z is.posted) (nothing_in x.posted q4.0) is.posts

    got : is.got ≡ s
    got = (subst (λ z. Takes g level i (after_rows is.posted x.last) z false is.got) (nothing_in x.taken q3.1) is.takes).1 ∙ ap (λ z. after_rows z x.last) posted ∙ rows_stay s x.last none

    ready : is.ready ≡ raised s x.last
    ready = subst (λ z. Claims g x.last (raised is.got x.last) z is.ready) claimed is.claims ∙ ap (λ z. raised z x.last) got

    new_is : new ≡ is.done
    new_is = all_sent_none is.done new x.sent (nothing_in x.sent q1.1) is.sends

-- a quiet turn is not late, claims nothing, and leaves what waits, is open and is left
pub quiet_on_time : (g : Graph) (level : ℕ → ℕ) (i : ℕ) (s new : State) (x : Turn) (late : Bool) → is_quiet x ≡ true → IsTurn g level i s x late new → late ≡ false
quiet_on_time g level i s new x late quiet is =
    let q1 = and_parts (is_empty x.posted && is_empty x.rows && is_empty x.taken && is_empty x.claimed) (is_empty x.sent) quiet in
    let q2 = and_parts (is_empty x.posted && is_empty x.rows && is_empty x.taken) (is_empty x.claimed) q1.0 in
    let q3 = and_parts (is_empty x.posted && is_empty x.rows) (is_empty x.taken) q2.0 in
    (subst (λ z. Takes g level i (after_rows is.posted x.last) z late is.got) (nothing_in x.taken q3.1) is.takes).0

pub quiet_ready : (g : Graph) (level : ℕ → ℕ) (i : ℕ) (s new : State) (x : Turn) → ((a : ℕ) (row : Row) → IsIn row (s.left a) → FitsRow g a row) → is_quiet x ≡ true → (is : IsTurn g level i s x false new) → is.ready ≡ raised s x.last
quiet_ready g level i s new x fit quiet is =
    let q1 = and_parts (is_empty x.posted && is_empty x.rows && is_empty x.taken && is_empty x.claimed) (is_empty x.sent) quiet in
    let q2 = and_parts (is_empty x.posted && is_empty x.rows && is_empty x.taken) (is_empty x.claimed) q1.0 in
    let q3 = and_parts (is_empty x.posted && is_empty x.rows) (is_empty x.taken) q2.0 in
    let q4 = and_parts (is_empty x.posted) (is_empty x.rows) q3.0 in
    let none : (a : ℕ) → due x.last (s.left a) ≡ [] = none_due_of g x.last s.left fit (sym is.rows ∙ nothing_in x.rows q4.1) in
    let posted : is.posted ≡ s = subst (λ z. Posts g s z is.posted) (nothing_in x.posted q4.0) is.posts in
    let got : is.got ≡ s = (subst (λ z. Takes g level i (after_rows is.posted x.last) z false is.got) (nothing_in x.taken q3.1) is.takes).1 ∙ ap (λ z. after_rows z x.last) posted ∙ rows_stay s x.last none in
    subst (λ z. Claims g x.last (raised is.got x.last) z is.ready) (nothing_in x.claimed q2.1) is.claims ∙ ap (λ z. raised z x.last) got

pub record Leaves (s new : State) : Type 0 where
  pub waits : new.waits ≡ s.waits
  pub busy : new.busy ≡ s.busy
  pub left : new.left ≡ s.left
  pub claims : new.claims ≡ s.claims

pub quiet_leaves : (g : Graph) (level : ℕ → ℕ) (i : ℕ) (s new : State) (x : Turn) → ((a : ℕ) (row : Row) → IsIn row (s.left a) → FitsRow g a row) → is_quiet x ≡ true → IsTurn g level i s x false new → Leaves s new
quiet_leaves g level i s new x fit quiet is =
    ⊎_elim
    (λ (stays : (new ≡ raised s x.last) × (CanClose g i (raised s x.last) x.last → ⊥)). record {
      waits = ap (λ (z : State). z.waits) stays.0;
      busy = ap (λ (z : State). z.busy) stays.0;
      left = ap (λ (z : State). z.left) stays.0;
      claims = ap (λ (z : State). z.claims) stays.0;
    })
    (λ (shuts : (new ≡ shut g i (raised s x.last)) × CanClose g i (raised s x.last) x.last). record {
      waits = ap (λ (z : State). z.waits) shuts.0;
      busy = ap (λ (z : State). z.busy) shuts.0;
      left = ap (λ (z : State). z.left) shuts.0;
      claims = ap (λ (z : State). z.claims) shuts.0;
    })
    (rested g level i s new x fit quiet is).how

-- and what does so is a quiet turn
quiet_turn : (g : Graph) (level : ℕ → ℕ) (i : ℕ) (s new : State) (x : Turn) → is_quiet x ≡ true → Rested g i s x.first x.last new → IsTurn g level i s x false new
quiet_turn g level i s new x quiet h = record {
  rises = h.rises;
  span = h.span;
  posted = s;
  posts = subst (λ z. Posts g s z s) (sym posted) refl;
  rows = rows ∙ sym (all_none g x.last s.left h.none_due (range_with_len 0 (length g.actors)));
  got = s;
  takes = subst (λ z. Takes g level i (after_rows s x.last) z false s) (sym taken) (refl, sym (rows_stay s x.last h.none_due));
  ready = raised s x.last;
  claims = subst (λ z. Claims g x.last (raised s x.last) z (raised s x.last)) (sym claimed) refl;
  idle_if_late = λ l. claimed;
  greedy = λ e. inr h.greedy;
  at_most = (subst (λ z. length z ≤ 64) (sym claimed) (omega arith), h.few);
  done = new;
  closes =
      ⊎_elim
      (λ (stays : (new ≡ raised s x.last) × (CanClose g i (raised s x.last) x.last → ⊥)). inr ((λ can. absurd (stays.1 can)), stays.0))
      (λ (shuts : (new ≡ shut g i (raised s x.last)) × CanClose g i (raised s x.last) x.last). inl (shuts.1, refl, shuts.0))
      h.how;
  sends = (new.outbox, refl, (λ l. sym (ap (λ z. on_link l z ++ new.outbox l) sent)), (λ l. subst (λ z. length (on_link l z) ≤ 64) (sym sent) (omega arith)));
}
  where
    q1 : (is_empty x.posted && is_empty x.rows && is_empty x.taken && is_empty x.claimed ≡ true) × (is_empty x.sent ≡ true)
    q1 = and_parts (is_empty x.posted && is_empty x.rows && is_empty x.taken && is_empty x.claimed) (is_empty x.sent) quiet

    q2 : (is_empty x.posted && is_empty x.rows && is_empty x.taken ≡ true) × (is_empty x.claimed ≡ true)
    q2 = and_parts (is_empty x.posted && is_empty x.rows && is_empty x.taken) (is_empty x.claimed) q1.0

    q3 : (is_empty x.posted && is_empty x.rows ≡ true) × (is_empty x.taken ≡ true)
    q3 = and_parts (is_empty x.posted && is_empty x.rows) (is_empty x.taken) q2.0

    q4 : (is_empty x.posted ≡ true) × (is_empty x.rows ≡ true)
    q4 = and_parts (is_empty x.posted) (is_empty x.rows) q3.0

    posted : x.posted ≡ []
    posted = nothing_in x.posted q4.0

    rows : x.rows ≡ []
    rows = nothing_in x.rows q4.1

    taken : x.taken ≡ []
    taken = nothing_in x.taken q3.1

    claimed : x.claimed ≡ []
    claimed = nothing_in x.claimed q2.1

    sent : x.sent ≡ []
    sent = nothing_in x.sent q1.1

-- safe while open, safe while closed
shut_safe : (g : Graph) (i : ℕ) (s : State) (r q : ℕ) (u : Unit) (t : Tag) → IsSafe g (raised s q).waits (raised s q).busy q u t → IsSafe g (raised (shut g i (raised s r)) q).waits (raised (shut g i (raised s r)) q).busy q u t
shut_safe g i s r q u t k = record { event = k.event; least = k.least; free = k.free; bounds = k.bounds; events = k.events; claims = k.claims }

spans : (a b c d : ℕ) → a ≤ b → b ≤ c → c ≤ d → a ≤ d
spans a b c d x y z = omega arith

pub quiet_turns_join : QuietTurnsJoin
quiet_turns_join g level i s mid new x y fit qx qy ix iy =
    let a = rested g level i s mid x fit qx ix in
    quiet_turn g level i s new (joined x y) qy
    (⊎_elim
    (λ (stays : (mid ≡ raised s x.last) × (CanClose g i (raised s x.last) x.last → ⊥)).
    let b = rested g level i (raised s x.last) new y fit qy (subst (λ z. IsTurn g level i z y false new) stays.0 iy) in
    record {
      rises = a.rises;
      span = spans x.first x.last y.first y.last a.span (b.rises x.last refl) b.span;
      none_due = b.none_due;
      greedy = b.greedy;
      few = a.few;
      how = b.how;
    })
    (λ (shuts : (mid ≡ shut g i (raised s x.last)) × CanClose g i (raised s x.last) x.last).
    let b = rested g level i (shut g i (raised s x.last)) new y fit qy (subst (λ z. IsTurn g level i z y false new) shuts.0 iy) in
    let up : x.last ≤ y.last = spans x.last x.last y.first y.last (omega arith) (b.rises x.last refl) b.span in
    record {
      rises = a.rises;
      span = spans x.first x.last y.first y.last a.span (b.rises x.last refl) b.span;
      none_due = b.none_due;
      greedy = ⊎_elim (λ (n : NothingSafe g (raised (shut g i (raised s x.last)) y.last).waits (raised (shut g i (raised s x.last)) y.last).busy y.last). inl (λ u t safe. n u t (shut_safe g i s x.last y.last u t safe))) (λ (m : g.claims ≤ s.claims). inr m) b.greedy;
      few = a.few;
      how =
          ⊎_elim
          (λ (on : (new ≡ raised (shut g i (raised s x.last)) y.last) × (CanClose g i (raised (shut g i (raised s x.last)) y.last) y.last → ⊥)).
          inr (
            on.0,
            record {
              was_open = shuts.1.was_open;
              bounds = λ p d home bound. let lt : g.until + d < x.last = shuts.1.bounds p d home bound in omega arith;
              nothing_waits = shuts.1.nothing_waits;
              nothing_open = shuts.1.nothing_open;
              nothing_to_send = shuts.1.nothing_to_send;
            },
          ))
          (λ (again : (new ≡ shut g i (raised (shut g i (raised s x.last)) y.last)) × CanClose g i (raised (shut g i (raised s x.last)) y.last) y.last). absurd (false≢true (sym again.1.was_open)))
          b.how;
    })
    a.how)
