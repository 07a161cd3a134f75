-- The next reading, by sensors and by units.
use Rattle.std.proofs.Common.{◌≡◌, ℕ, zero, suc, ◌+◌, ◌-◌, ◌*◌, ◌/◌, ◌<◌, ◌≤◌, ◌⊎◌, ◌==◌, true, false, List, [], ◌∷◌, Some, None, get_or, drop, length, min, unwrap_or, refl, sym, ap, subst, ◌∙◌, inl, inr, ⊎_elim, eq-eqb, ne_eqb, arith}
use Rattle.std.proofs.lemmas.Bool.{cases_Bool}
use Rattle.std.proofs.lemmas.List.{drop_more}
use Rattle.pt_tags.specs.declared.tag.Tag.{Tag}
use Rattle.pt_tags.specs.Tags.{UpTo}
use Rattle.pt_types.specs.declared.firing.OnLink.{OnLink}
use Rattle.pt_types.specs.declared.graph.Graph.{Graph}
use Rattle.pt_types.specs.declared.graph.Unit.{Unit}
use Rattle.pt_types.specs.declared.rows.Row.{Row}
use Rattle.pt_types.specs.Ports.{when}
use Rattle.pt_semantics.specs.Lists.{first_of, or_else}
use Rattle.pt_semantics.specs.Paced.{IsClosing, IsNextReading, IsPaced}
use Rattle.pt_semantics.specs.Units.{HasEvent}
use Rattle.pt_semantics.proofs.Least.{paced_meets}
use Rattle.pt_turn.proofs.Claims.Fronts.{event_is_unit}
use Rattle.pt_causality.specs.Units.{IsUnit}
use Rattle.pt_queue.specs.declared.waiting.Waiting.{Waiting}
use Rattle.pt_queue.specs.Events.{IsFirstWaiting, waiting_in}
use Rattle.pt_turn.specs.declared.state.fields.Fields.{Fields}
use Rattle.pt_turn.specs.declared.state.fields.Sensor.{Sensor}
use Rattle.pt_turn.specs.Fields.State.{IsSound, busy_in, left_in, rows_left, state_of}
use Rattle.pt_turn.specs.Fields.Sensors.{AreSensors, RiseFrom}
use Rattle.pt_turn.specs.Claims.Early.{IsEarlyWord}
use Rattle.pt_turn.specs.Claims.Least.{AtOrIn, Below, IsLeastAmong}
use Rattle.pt_turn.specs.Claims.Next.{no_sensor, IsPacedNext, IsPacedOfSome, IsSeenNext}
use Rattle.pt_turn.proofs.Claims.Least.{least_both, least_none, least_one}

-- rows

left_here : (s : Sensor) (ss : List Sensor) (a : ℕ) → (s.actor == a) ≡ true → left_in (s ∷ ss) a ≡ drop s.entered s.rows
left_here s ss a e = ap (λ b. unwrap_or (or_else (when b (Some (drop s.entered s.rows))) (first_of (rows_left a) ss)) []) e

left_other : (s : Sensor) (ss : List Sensor) (a : ℕ) → (s.actor == a) ≡ false → left_in (s ∷ ss) a ≡ left_in ss a
left_other s ss a e = ap (λ b. unwrap_or (or_else (when b (Some (drop s.entered s.rows))) (first_of (rows_left a) ss)) []) e

rise_at : (ss : List Sensor) (n k : ℕ) → RiseFrom n ss → k < length ss → n ≤ (get_or ss k no_sensor).actor
rise_at [] n k rise lt = absurd (omega arith)
rise_at (s ∷ ss) n zero rise lt = rise.0
rise_at (s ∷ ss) n (suc k) rise lt = let from : n ≤ s.actor = rise.0 in let more : s.actor + 1 ≤ (get_or ss k no_sensor).actor = rise_at ss (s.actor + 1) k rise.1 (omega arith) in omega (arith, from, more)

left_at : (ss : List Sensor) (n k : ℕ) → RiseFrom n ss → k < length ss → left_in ss (get_or ss k no_sensor).actor ≡ drop (get_or ss k no_sensor).entered (get_or ss k no_sensor).rows
left_at [] n k rise lt = absurd (omega arith)
left_at (s ∷ ss) n zero rise lt = left_here s ss s.actor (eq-eqb s.actor s.actor refl)
left_at (s ∷ ss) n (suc k) rise lt =
    let more : s.actor + 1 ≤ (get_or ss k no_sensor).actor = rise_at ss (s.actor + 1) k rise.1 (omega arith) in
    left_other s ss (get_or ss k no_sensor).actor (ne_eqb s.actor (get_or ss k no_sensor).actor (λ e. absurd (omega (arith, e, more)))) ∙ left_at ss (s.actor + 1) k rise.1 (omega arith)

left_from : (ss : List Sensor) (a : ℕ) (row : Row) (rest : List Row) → left_in ss a ≡ row ∷ rest → (k : ℕ) × (k < length ss) × (drop (get_or ss k no_sensor).entered (get_or ss k no_sensor).rows ≡ row ∷ rest)
left_from [] a row rest h = absurd (empty row rest h)
  where
    empty : (row : Row) (rest : List Row) → [] ≡ row ∷ rest → ⊥
    empty row rest h = omega (arith, ap length h)
left_from (s ∷ ss) a row rest h =
    ⊎_elim
    (λ (e : (s.actor == a) ≡ true). (0, omega arith, sym (left_here s ss a e) ∙ h))
    (λ (e : (s.actor == a) ≡ false). let f = left_from ss a row rest (sym (left_other s ss a e) ∙ h) in let lt : f.0 < length ss = f.1 in (suc f.0, omega (arith, lt), f.2))
    (cases_Bool (s.actor == a))

-- the first row left of a sensor
pub seen_one : (s : Sensor) (rows : List Row) (row : Row) (b r : ℕ) → rows ≡ s.rows → s.entered < length rows → row ≡ get_or rows s.entered row → r ≡ min b row.seen → IsLeastAmong (AtOrIn b (IsSeenNext s)) r
seen_one s rows row b r same lt at is =
    let front : drop s.entered s.rows ≡ row ∷ drop (s.entered + 1) rows = ap (drop s.entered) (sym same) ∙ drop_more rows s.entered row lt ∙ ap (λ x. x ∷ drop (s.entered + 1) rows) (sym at) in
    least_one (IsSeenNext s) b row.seen r is (row, drop (s.entered + 1) rows, front, refl)
    (λ d h.
    let head : row ≡ h.0 = ap (λ xs. get_or xs 0 row) (sym front ∙ h.2) in
    let seen : row.seen ≡ h.0.seen = ap (λ (x : Row). x.seen) head in
    let at_d : d ≡ h.0.seen = h.3 in
    omega (arith, seen, at_d))

-- a platform has one closing reading
one_closing : (g : Graph) (i c d : ℕ) → IsClosing g i c → IsClosing g i d → c ≤ d
one_closing g i c d (inl none) other = let zero : c ≡ 0 = none.0 in omega (arith, zero)
one_closing g i c d (inr some) (inl none) = absurd (none.1 some.0.0 some.0.1 some.0.2 some.0.3)
one_closing g i c d (inr some) (inr other) = subst (λ z. z ≤ d) (sym some.0.4) (other.1 some.0.0 some.0.1 some.0.2 some.0.3)

abbrev SeenNext : Fields → ℕ → Type 0
SeenNext f = Below (length f.sensors.items) (λ i. IsSeenNext (get_or f.sensors.items i no_sensor))

abbrev PacedNext : Graph → Fields → ℕ → Type 0
PacedNext g f = IsPacedOfSome g (waiting_in f.queue.events) (busy_in f.open_claims.items)

-- c is the paced reading of a unit whose place is before n
abbrev pub PacedBefore : Graph → Fields → ℕ → ℕ → Type 0
PacedBefore g f n c = (u : Unit) × IsUnit g u × (8 * u.actor + u.group < n) × IsPacedNext g (waiting_in f.queue.events) (busy_in f.open_claims.items) u c

pub next_is : (g : Graph) (f : Fields) (i closing seen r : ℕ) (taken : List OnLink) → IsSound g f → AreSensors g f.sensors.items → IsClosing g i closing → IsLeastAmong (AtOrIn closing (SeenNext f)) seen → IsLeastAmong (AtOrIn seen (PacedNext g f)) r → IsNextReading g i (state_of f taken) r
next_is g f i closing seen r taken sound sensors closes first then = (
  ⊎_elim
      (λ (same : r ≡ seen). ⊎_elim
      (λ (at : seen ≡ closing). inr (inr (subst (IsClosing g i) (sym (same ∙ at)) closes)))
      (λ (s : SeenNext f seen). inl ((get_or f.sensors.items s.0 no_sensor).actor, s.2.0, s.2.1, left_at f.sensors.items 0 s.0 sensors.0 s.1 ∙ s.2.2, same ∙ s.2.3))
      first.0)
      (λ (p : PacedNext g f r). inr (inl (p.0, p.2.0, p.2.1, p.2.2, p.2.3, p.2.4)))
      then.0,
  λ d h. ⊎_elim
      (λ (s : (a : ℕ) × (row : Row) × (rest : List Row) × (left_in f.sensors.items a ≡ row ∷ rest) × (d ≡ row.seen)).
      let k = left_from f.sensors.items s.0 s.1 s.2 s.3 in
      let le : seen ≤ d = first.1 d (inr (k.0, k.1, (s.1, s.2, k.2, s.4))) in
      omega (arith, le, below_seen))
      (λ (rest : ((u : Unit) × (t : Tag) × HasEvent g (waiting_in f.queue.events) u t × ((w : Tag) → HasEvent g (waiting_in f.queue.events) u w → UpTo t w) × (busy_in f.open_claims.items u ≡ None) × IsPaced g u t d) ⊎ IsClosing g i d).
      ⊎_elim
      (λ (p : (u : Unit) × (t : Tag) × HasEvent g (waiting_in f.queue.events) u t × ((w : Tag) → HasEvent g (waiting_in f.queue.events) u w → UpTo t w) × (busy_in f.open_claims.items u ≡ None) × IsPaced g u t d).
      let unit : IsUnit g p.0 = event_is_unit g f p.0 p.1 sound p.2 in
      then.1 d (inr (p.0, unit, (p.1, p.2, p.3, p.4, p.5))))
      (λ (c : IsClosing g i d). let le : closing ≤ d = one_closing g i closing d closes c in omega (arith, le, below_seen, below_closing))
      rest)
      h,
)
  where
    below_seen : r ≤ seen
    below_seen = then.1 seen (inl refl)

    below_closing : seen ≤ closing
    below_closing = first.1 closing (inl refl)

-- before the first place there is no unit
pub before_none : (g : Graph) (f : Fields) (b : ℕ) → IsLeastAmong (AtOrIn b (PacedBefore g f 0)) b
before_none g f b = least_none (PacedBefore g f 0) b (λ d h. never (8 * h.0.actor + h.0.group) h.2)
  where
    never : (n : ℕ) → n < 0 → ⊥
    never n l = omega (arith, l)

same_place : (u v : Unit) → u.group < 8 → v.group < 8 → 8 * u.actor + u.group ≡ 8 * v.actor + v.group → u ≡ v
same_place u v few less is =
    let actor : u.actor ≡ v.actor = omega (arith, few, less, is) in
    let group : u.group ≡ v.group = omega (arith, few, less, is) in
    λ i. record { actor = actor i; group = group i }

-- one unit more
pub before_more : (g : Graph) (f : Fields) (b c e n : ℕ) (w : Waiting) → IsSound g f → IsFirstWaiting g (waiting_in f.queue.events) n (Some w)
    → IsLeastAmong (AtOrIn b (PacedBefore g f n)) c → IsLeastAmong (AtOrIn c (IsPacedNext g (waiting_in f.queue.events) (busy_in f.open_claims.items) w.unit)) e → IsLeastAmong (AtOrIn b (PacedBefore g f (8 * w.unit.actor + w.unit.group + 1))) e
before_more g f b c e n w sound next = least_both (PacedBefore g f n) (IsPacedNext g (waiting_in f.queue.events) (busy_in f.open_claims.items) w.unit) (PacedBefore g f (8 * w.unit.actor + w.unit.group + 1)) b c e
    (λ d h.
    let less : 8 * h.0.actor + h.0.group < n = h.2 in
    let le : n ≤ 8 * w.unit.actor + w.unit.group = next.1 in
    (h.0, h.1, omega (arith, less, le), h.3))
    (λ d paced. (w.unit, event_is_unit g f w.unit w.tag sound next.0.0, omega arith, paced))
    (λ d h.
    let less : 8 * h.0.actor + h.0.group < 8 * w.unit.actor + w.unit.group + 1 = h.2 in
    let this = next.2 h.0 h.3.0 h.3.1 in
    ⊎_elim
    (λ (l : 8 * h.0.actor + h.0.group < n). inl (h.0, h.1, l, h.3))
    (λ (m : 8 * w.unit.actor + w.unit.group ≤ 8 * h.0.actor + h.0.group).
    let same : h.0 ≡ w.unit = same_place h.0 w.unit this.0 (next.2 w.unit w.tag next.0.0).0 (omega (arith, less, m)) in
    inr (subst (λ u. IsPacedNext g (waiting_in f.queue.events) (busy_in f.open_claims.items) u d) same h.3))
    this.1)

-- the word of the next unit is passed over if none of its units has a lesser paced reading
pub before_word : (g : Graph) (f : Fields) (b c r n p m : ℕ) (w : Waiting) → r ≡ c - 1 → p ≡ 8 * w.unit.actor + w.unit.group → m ≡ 64 * (p / 64 + 1) → IsFirstWaiting g (waiting_in f.queue.events) n (Some w) → IsEarlyWord g (waiting_in f.queue.events) r (p / 64)
    → IsLeastAmong (AtOrIn b (PacedBefore g f n)) c → IsLeastAmong (AtOrIn b (PacedBefore g f m)) c
before_word g f b c r n p m w just at is next early least =
    let le : n ≤ 8 * w.unit.actor + w.unit.group = next.1 in (
      ⊎_elim (λ (same : c ≡ b). inl same) (λ (h : PacedBefore g f n c). let less : 8 * h.0.actor + h.0.group < n = h.2 in inr (h.0, h.1, omega (arith, less, le, at, is), h.3)) least.0,
      λ d h. ⊎_elim (λ (same : d ≡ b). least.1 d (inl same))
          (λ (q : PacedBefore g f m d).
          let less : 8 * q.0.actor + q.0.group < m = q.2 in
          ⊎_elim
          (λ (l : 8 * q.0.actor + q.0.group < n). least.1 d (inr (q.0, q.1, l, q.3)))
          (λ (from : 8 * w.unit.actor + w.unit.group ≤ 8 * q.0.actor + q.0.group). ⊎_elim
          (λ (past : r < d). omega (arith, past, just))
          (λ (due : d ≤ r). absurd (early q.0 q.3.0 q.3.1 (omega (arith, less, from, at, is)) (paced_meets g q.0 q.3.0 d r q.3.4 due)))
          (less_or r d))
          (next.2 q.0 q.3.0 q.3.1).1) h,
    )
  where
    less_or : (x y : ℕ) → (x < y) ⊎ (y ≤ x)
    less_or x y = grind arith

-- behind the last unit that has events there is none
pub before_all : (g : Graph) (f : Fields) (b r n : ℕ) → IsFirstWaiting g (waiting_in f.queue.events) n None → IsLeastAmong (AtOrIn b (PacedBefore g f n)) r → IsLeastAmong (AtOrIn b (PacedNext g f)) r
before_all g f b r n none least = (
  ⊎_elim (λ (same : r ≡ b). inl same) (λ (h : PacedBefore g f n r). inr (h.0, h.1, h.3)) least.0,
  λ d h. ⊎_elim (λ (same : d ≡ b). least.1 d (inl same))
      (λ (p : PacedNext g f d). least.1 d (inr (p.0, p.1, (none p.0 p.2.0 p.2.1).1, p.2))) h,
)
