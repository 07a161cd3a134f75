-- A history that joins quiet turns keeps what is legal, and what was claimed, sent and taken.
use Rattle.std.proofs.Common.{rules, inr, ◌≡◌, ℕ, ◌+◌, ◌-◌, ◌^◌, ◌<◌, ◌≤◌, ◌&&◌, if◌then◌else◌, Bool, true, false, List, [], ◌∷◌, ◌++◌, filter_map, nat_lt, arith, refl, sym, ap, subst, ◌∙◌, ⊎_elim, append_assoc, append-nil}
use Rattle.std.specs.Prelude.{⊤}
use Rattle.std.proofs.lemmas.Bool.{and_parts, and_from, false≢true}
use Rattle.std.specs.List.{flat_map}
use Rattle.std.proofs.lemmas.Grind.{flat_map-append}
use Rattle.pt_types.specs.declared.graph.Graph.{Graph}
use Rattle.pt_types.specs.declared.graph.Unit.{Unit}
use Rattle.pt_types.specs.declared.rows.Row.{Row}
use Rattle.pt_semantics.specs.Lists.{Each, IsIn}
use Rattle.pt_semantics.specs.Behaviours.{Firings}
use Rattle.pt_semantics.specs.Cycles.{HasLevels}
use Rattle.pt_semantics.specs.Wired.{IsWired}
use Rattle.pt_semantics.specs.Rows.{FitsRow}
use Rattle.pt_semantics.specs.Platform.{State, opened}
use Rattle.pt_semantics.specs.Safe.{NothingSafe}
use Rattle.pt_semantics.specs.Turn.{Turn, IsTurn, IsLast, is_quiet, is_empty, joined}
use Rattle.pt_semantics.specs.Closing.{on_link}
use Rattle.pt_semantics.specs.History.{Legal, LegalOnTime, IsCounted, AreJoined, of_unit}
use Rattle.pt_semantics.specs.Kept.{settled, kept_with, kept_from, kept, IsSingle}
use Rattle.pt_laws.specs.HistoryTheorems.{IsSame, SettledIsLegal, KeptIsLegal}
use Rattle.pt_semantics.proofs.Longest.{levels_grow}
use Rattle.pt_laws.proofs.FloorHolds.{Sound, turn_sound, opened_sound}
use Rattle.pt_laws.proofs.Raise.{nothing_in}
use Rattle.pt_laws.proofs.Joined.{quiet_turns_join, quiet_ready, quiet_on_time, quiet_leaves}

-- the five lists of a quiet turn are empty
record AreEmpty (x : Turn) : Type 0 where
  pub posted : x.posted ≡ []
  pub rows : x.rows ≡ []
  pub taken : x.taken ≡ []
  pub claimed : x.claimed ≡ []
  pub sent : x.sent ≡ []

empty : (x : Turn) → is_quiet x ≡ true → AreEmpty x
empty x quiet =
    let q1 = and_parts (is_empty x.posted && is_empty x.rows && is_empty x.taken && is_empty x.claimed) (is_empty x.sent) quiet in
    let q2 = and_parts (is_empty x.posted && is_empty x.rows && is_empty x.taken) (is_empty x.claimed) q1.0 in
    let q3 = and_parts (is_empty x.posted && is_empty x.rows) (is_empty x.taken) q2.0 in
    let q4 = and_parts (is_empty x.posted) (is_empty x.rows) q3.0 in
    record {
      posted = nothing_in x.posted q4.0;
      rows = nothing_in x.rows q4.1;
      taken = nothing_in x.taken q3.1;
      claimed = nothing_in x.claimed q2.1;
      sent = nothing_in x.sent q1.1;
    }

-- whether the last of two turns joins the first
abbrev joins : Turn → Turn → Bool
joins x y = is_quiet x && is_quiet y && nat_lt (x.count + y.count) (2 ^ 64)

abbrev pair : Bool → Turn → Turn → List Turn
pair b x y = if b then joined x y ∷ [] else x ∷ y ∷ []

record Join (x y : Turn) : Type 0 where
  pub first : is_quiet x ≡ true
  pub second : is_quiet y ≡ true
  pub fits : x.count + y.count < 2 ^ 64

join_of : (x y : Turn) → joins x y ≡ true → Join x y
join_of x y h =
    let a = and_parts (is_quiet x && is_quiet y) (nat_lt (x.count + y.count) (2 ^ 64)) h in
    let b = and_parts (is_quiet x) (is_quiet y) a.0 in
    record { first = b.0; second = b.1; fits = lt_of (x.count + y.count) (2 ^ 64) a.1 }
  where
    lt_of : (m n : ℕ) → nat_lt m n ≡ true → m < n
    lt_of m n h = search rules

-- what is gathered of each turn, and of a quiet one is nothing, is gathered of the settled history too
module _ {X : Type 0} (f : Turn → List X) (nothing : (x : Turn) → is_quiet x ≡ true → f x ≡ []) (second : (x y : Turn) → f (joined x y) ≡ f y) where
  gathers_pair : (x y : Turn) (b : Bool) → (b ≡ true → Join x y) → flat_map f (pair b x y) ≡ f x ++ (f y ++ [])
  gathers_pair x y true h = ap (λ z. z ++ []) (second x y) ∙ ap (λ z. z ++ (f y ++ [])) (sym (nothing x (h refl).first))
  gathers_pair x y false h = refl

  gathers_settled : (turns : List Turn) → flat_map f (settled turns) ≡ flat_map f turns
  gathers_settled [] = refl
  gathers_settled (x ∷ []) = refl
  gathers_settled (x ∷ y ∷ []) = gathers_pair x y (joins x y) (join_of x y)
  gathers_settled (x ∷ y ∷ z ∷ rest) = ap (λ l. f x ++ l) (gathers_settled (y ∷ z ∷ rest))

  gathers_from : (history turns : List Turn) → flat_map f (kept_from history turns) ≡ flat_map f history ++ flat_map f turns
  gathers_from history [] = sym (append-nil (flat_map f history))
  gathers_from history (turn ∷ turns) =
      gathers_from (kept_with history turn) turns
      ∙ ap (λ z. z ++ flat_map f turns) (flat_map-append f (settled history) (turn ∷ []) ∙ ap (λ z. z ++ (f turn ++ [])) (gathers_settled history) ∙ ap (λ z. flat_map f history ++ z) (append-nil (f turn)))
      ∙ append_assoc (flat_map f history) (f turn) (flat_map f turns)

  gathers : (turns : List Turn) → flat_map f (kept turns) ≡ flat_map f turns
  gathers turns = gathers_from [] turns

claims_none : (g : Graph) (u : Unit) (x : Turn) → is_quiet x ≡ true → filter_map (of_unit g u) x.claimed ≡ []
claims_none g u x quiet = ap (filter_map (of_unit g u)) (empty x quiet).claimed

sent_nothing : (l : ℕ) (x : Turn) → is_quiet x ≡ true → on_link l x.sent ≡ []
sent_nothing l x quiet = ap (on_link l) (empty x quiet).sent

taken_nothing : (l : ℕ) (x : Turn) → is_quiet x ≡ true → on_link l x.taken ≡ []
taken_nothing l x quiet = ap (on_link l) (empty x quiet).taken

settled_same : (g : Graph) (turns : List Turn) → IsSame g (settled turns) turns
settled_same g turns = record {
  claims = λ u. gathers_settled (λ (x : Turn). filter_map (of_unit g u) x.claimed) (claims_none g u) (λ x y. refl) turns;
  sent = λ l. gathers_settled (λ (x : Turn). on_link l x.sent) (sent_nothing l) (λ x y. refl) turns;
  taken = λ l. gathers_settled (λ (x : Turn). on_link l x.taken) (taken_nothing l) (λ x y. refl) turns;
}

kept_same : (g : Graph) (turns : List Turn) → IsSame g (kept turns) turns
kept_same g turns = record {
  claims = λ u. gathers (λ (x : Turn). filter_map (of_unit g u) x.claimed) (claims_none g u) (λ x y. refl) turns;
  sent = λ l. gathers (λ (x : Turn). on_link l x.sent) (sent_nothing l) (λ x y. refl) turns;
  taken = λ l. gathers (λ (x : Turn). on_link l x.taken) (taken_nothing l) (λ x y. refl) turns;
}

module _ (g : Graph) (level : ℕ → ℕ) (i : ℕ) (wired : IsWired g) (levels : HasLevels g level) where
  -- two quiet turns in front of others
  on_time_pair : (x y : Turn) (rest : List Turn) (s new : State) (c : Firings) (b : Bool) → (b ≡ true → Join x y) → Sound g s s.reading c → LegalOnTime g level i s (x ∷ y ∷ rest) new → LegalOnTime g level i s (pair b x y ++ rest) new
  on_time_pair x y rest s new c false h sound legal = legal
  on_time_pair x y rest s new c true h sound (mid, ix, (end, iy, more)) =
      let j = h refl in
      (end, quiet_turns_join g level i s mid end x y sound.rest.fit j.first j.second ix iy, more)

  pub settled_on_time : (turns rest : List Turn) (s new : State) (c : Firings) → Sound g s s.reading c → LegalOnTime g level i s (turns ++ rest) new → LegalOnTime g level i s (settled turns ++ rest) new
  settled_on_time [] rest s new c sound legal = legal
  settled_on_time (x ∷ []) rest s new c sound legal = legal
  settled_on_time (x ∷ y ∷ []) rest s new c sound legal = on_time_pair x y rest s new c (joins x y) (join_of x y) sound legal
  settled_on_time (x ∷ y ∷ z ∷ more) rest s new c sound (mid, ix, after) =
      (mid, ix, settled_on_time (y ∷ z ∷ more) rest mid new (λ u. c u ++ filter_map (of_unit g u) x.claimed) (turn_sound g level i s mid x false c wired levels sound ix) after)

  -- a quiet turn is not late
  in_time : (x : Turn) (s new : State) (late : Bool) → is_quiet x ≡ true → IsTurn g level i s x late new → late ≡ false
  in_time x s new late quiet is = quiet_on_time g level i s new x late quiet is

  -- a joined turn is the last one where the second turn was
  last_of : (x y : Turn) (s mid end : State) → ((a : ℕ) (row : Row) → IsIn row (s.left a) → FitsRow g a row) → Join x y → IsTurn g level i s x false mid → (iy : IsTurn g level i mid y false end) → (is : IsTurn g level i s (joined x y) false end) → IsLast g s y.last false is.ready → IsLast g mid y.last false iy.ready
  last_of x y s mid end fit j ix iy is last =
      let leaves = quiet_leaves g level i s mid x fit j.first ix in
      let fit2 : (a : ℕ) (row : Row) → IsIn row (mid.left a) → FitsRow g a row = λ a row mem. fit a row (subst (λ (l : List Row). IsIn row l) (ap (λ (left : ℕ → List Row). left a) leaves.left) mem) in
      let ready_j = quiet_ready g level i s end (joined x y) fit j.second is in
      let ready_y = quiet_ready g level i mid end y fit2 j.second iy in
      ⊎_elim
      (λ (l : false ≡ true). absurd (false≢true l))
      (λ (full : (g.claims ≤ s.claims) × (NothingSafe g is.ready.waits is.ready.busy y.last → ⊥)).
      inr (
        subst (λ n. g.claims ≤ n) (sym leaves.claims) full.0,
        λ none. full.1
            (subst (λ (z : State). NothingSafe g z.waits z.busy y.last) (sym ready_j)
            (subst (λ w. NothingSafe g w s.busy y.last) leaves.waits
            (subst (λ b. NothingSafe g mid.waits b y.last) leaves.busy
            (subst (λ (z : State). NothingSafe g z.waits z.busy y.last) ready_y none)))),
      ))
      last

  legal_pair : (x y : Turn) (rest : List Turn) (s new : State) (c : Firings) (b : Bool) → (b ≡ true → Join x y) → Sound g s s.reading c → Legal g level i s (x ∷ y ∷ rest) new → Legal g level i s (pair b x y ++ rest) new
  legal_pair x y rest s new c false h sound legal = legal
  legal_pair x y rest s new c true h sound (late, mid, ix, last_x, (late2, end, iy, last_y, more)) =
      let j = h refl in
      let e1 = in_time x s mid late j.first ix in
      let e2 = in_time y mid end late2 j.second iy in
      let jx : IsTurn g level i s x false mid = subst (λ z. IsTurn g level i s x z mid) e1 ix in
      both x y rest s mid end new c late2 e2 j sound jx iy last_y more
    where
      both : (x y : Turn) (rest : List Turn) (s mid end new : State) (c : Firings) (late2 : Bool) → late2 ≡ false → Join x y → Sound g s s.reading c → IsTurn g level i s x false mid → (iy : IsTurn g level i mid y late2 end) → (IsLast g mid y.last late2 iy.ready → rest ≡ []) → Legal g level i end rest new → Legal g level i s (joined x y ∷ rest) new
      both x y rest s mid end new c true e j sound ix iy last more = absurd (false≢true (sym e))
      both x y rest s mid end new c false e j sound ix iy last more =
          let is = quiet_turns_join g level i s mid end x y sound.rest.fit j.first j.second ix iy in
          (false, end, is, (λ l. last (last_of x y s mid end sound.rest.fit j ix iy is l)), more)

  pub settled_legal : (turns rest : List Turn) (s new : State) (c : Firings) → Sound g s s.reading c → Legal g level i s (turns ++ rest) new → Legal g level i s (settled turns ++ rest) new
  settled_legal [] rest s new c sound legal = legal
  settled_legal (x ∷ []) rest s new c sound legal = legal
  settled_legal (x ∷ y ∷ []) rest s new c sound legal = legal_pair x y rest s new c (joins x y) (join_of x y) sound legal
  settled_legal (x ∷ y ∷ z ∷ more) rest s new c sound (late, mid, ix, last, after) =
      (late, mid, ix, (λ l. absurd (never y (z ∷ more ++ rest) (last l))), settled_legal (y ∷ z ∷ more) rest mid new (λ u. c u ++ filter_map (of_unit g u) x.claimed) (turn_sound g level i s mid x late c wired levels sound ix) after)
    where
      never : (x : Turn) (xs : List Turn) → x ∷ xs ≡ [] → ⊥
      never x xs h = cc

  kept_on_time : (history turns : List Turn) (s new : State) (c : Firings) → Sound g s s.reading c → LegalOnTime g level i s (history ++ turns) new → LegalOnTime g level i s (kept_from history turns) new
  kept_on_time history [] s new c sound legal = subst (λ z. LegalOnTime g level i s z new) (append-nil history) legal
  kept_on_time history (turn ∷ turns) s new c sound legal =
      kept_on_time (kept_with history turn) turns s new c sound
      (subst (λ z. LegalOnTime g level i s z new) (sym (append_assoc (settled history) (turn ∷ []) turns)) (settled_on_time history (turn ∷ turns) s new c sound legal))

  kept_legal : (history turns : List Turn) (s new : State) (c : Firings) → Sound g s s.reading c → Legal g level i s (history ++ turns) new → Legal g level i s (kept_from history turns) new
  kept_legal history [] s new c sound legal = subst (λ z. Legal g level i s z new) (append-nil history) legal
  kept_legal history (turn ∷ turns) s new c sound legal =
      kept_legal (kept_with history turn) turns s new c sound
      (subst (λ z. Legal g level i s z new) (sym (append_assoc (settled history) (turn ∷ []) turns)) (settled_legal history (turn ∷ turns) s new c sound legal))

pub settled_is_legal : SettledIsLegal
settled_is_legal g level i rows turns s wired are fits =
    let up = levels_grow g level are in
    let sound = opened_sound g i rows fits in (
      (λ legal. subst (λ z. Legal g level i (opened g i rows) z s) (append-nil (settled turns)) (settled_legal g level i wired up turns [] (opened g i rows) s (λ u. []) sound (subst (λ z. Legal g level i (opened g i rows) z s) (sym (append-nil turns)) legal))),
      (λ legal. subst (λ z. LegalOnTime g level i (opened g i rows) z s) (append-nil (settled turns)) (settled_on_time g level i wired up turns [] (opened g i rows) s (λ u. []) sound (subst (λ z. LegalOnTime g level i (opened g i rows) z s) (sym (append-nil turns)) legal))),
      settled_same g turns,
    )

-- the last turn of a history is by itself
abbrev EndsSingle : List Turn → Type 0
EndsSingle [] = ⊤
EndsSingle (x ∷ []) = x.count ≡ 1
EndsSingle (x ∷ y ∷ rest) = EndsSingle (y ∷ rest)

ends_push : (turns : List Turn) (turn : Turn) → turn.count ≡ 1 → EndsSingle (turns ++ turn ∷ [])
ends_push [] turn h = h
ends_push (x ∷ []) turn h = h
ends_push (x ∷ y ∷ rest) turn h = ends_push (y ∷ rest) turn h

counted_push : (turns : List Turn) (turn : Turn) → Each IsCounted turns → IsCounted turn → Each IsCounted (turns ++ turn ∷ [])
counted_push [] turn h one = (one, tt)
counted_push (x ∷ turns) turn h one = (h.0, counted_push turns turn h.1 one)

single_counted : (turn : Turn) → IsSingle turn → IsCounted turn
single_counted turn h =
    let once : turn.count ≡ 1 = h.once in
    (omega (arith, once), subst (λ n. n < 2 ^ 64) (sym once) (omega arith), h.fits, (λ e. h.one_reading), (λ q. once))

counted_pair : (x y : Turn) (b : Bool) → (b ≡ true → Join x y) → IsCounted x → IsCounted y → Each IsCounted (pair b x y)
counted_pair x y false h cx cy = (cx, (cy, tt))
counted_pair x y true h cx cy =
    let j = h refl in
    let ax : 1 ≤ x.count = cx.0 in
    let ay : 1 ≤ y.count = cy.0 in
    ((omega (arith, ax, ay), j.fits, cy.2, (λ (e : x.count + y.count ≡ 1). absurd (omega (arith, ax, ay, e))), (λ (q : is_quiet (joined x y) ≡ false). absurd (false≢true (sym q ∙ j.second)))), tt)

counted_settled : (turns : List Turn) → Each IsCounted turns → Each IsCounted (settled turns)
counted_settled [] h = tt
counted_settled (x ∷ []) h = h
counted_settled (x ∷ y ∷ []) h = counted_pair x y (joins x y) (join_of x y) h.0 h.1.0
counted_settled (x ∷ y ∷ z ∷ rest) h = (h.0, counted_settled (y ∷ z ∷ rest) h.1)

full_run : (x y : Turn) → joins x y ≡ false → IsCounted x → y.count ≡ 1 → is_quiet x ≡ true → is_quiet y ≡ true → x.count ≡ 2 ^ 64 - 1
full_run x y h cx one qx qy =
    let most : 2 ^ 64 ≤ x.count + y.count = le_of (x.count + y.count) (2 ^ 64) (sym (ap (λ b. b && nat_lt (x.count + y.count) (2 ^ 64)) (and_from (is_quiet x) (is_quiet y) qx qy)) ∙ h) in
    let less : x.count < 2 ^ 64 = cx.1 in
    omega (arith, most, less, one)
  where
    le_of : (m n : ℕ) → nat_lt m n ≡ false → n ≤ m
    le_of m n h = search rules

joined_pair : (x y turn : Turn) (b : Bool) → (b ≡ false → is_quiet x ≡ true → is_quiet y ≡ true → x.count ≡ 2 ^ 64 - 1) → AreJoined (pair b x y ++ turn ∷ [])
joined_pair x y turn true h = tt
joined_pair x y turn false h = (h refl, tt)

joined_three : (w x y turn : Turn) (b : Bool) → (b ≡ true → Join x y) → (is_quiet w ≡ true → is_quiet x ≡ true → w.count ≡ 2 ^ 64 - 1) → (b ≡ false → is_quiet x ≡ true → is_quiet y ≡ true → x.count ≡ 2 ^ 64 - 1) → AreJoined (w ∷ (pair b x y ++ turn ∷ []))
joined_three w x y turn true h before last = ((λ qw qy. before qw (h refl).first), tt)
joined_three w x y turn false h before last = (before, (last refl, tt))

joined_cons : (x y : Turn) (l : List Turn) (turn : Turn) → (is_quiet x ≡ true → is_quiet y ≡ true → x.count ≡ 2 ^ 64 - 1) → AreJoined (y ∷ (l ++ turn ∷ [])) → AreJoined (x ∷ y ∷ (l ++ turn ∷ []))
joined_cons x y [] turn full h = (full, h)
joined_cons x y (z ∷ l) turn full h = (full, h)

joined_settled : (turns : List Turn) (turn : Turn) → AreJoined turns → Each IsCounted turns → EndsSingle turns → AreJoined (kept_with turns turn)
joined_settled [] turn h counted single = tt
joined_settled (x ∷ []) turn h counted single = tt
joined_settled (x ∷ y ∷ []) turn h counted single = joined_pair x y turn (joins x y) (λ e. full_run x y e counted.0 single)
joined_settled (x ∷ y ∷ z ∷ []) turn h counted single = joined_three x y z turn (joins y z) (join_of y z) h.0 (λ e. full_run y z e counted.1.0 single)
joined_settled (x ∷ y ∷ z ∷ w ∷ rest) turn h counted single = joined_cons x y (settled (z ∷ w ∷ rest)) turn h.0 (joined_settled (y ∷ z ∷ w ∷ rest) turn h.1 counted.1 single)

kept_joined : (history turns : List Turn) → AreJoined history → Each IsCounted history → EndsSingle history → Each IsSingle turns → Each IsCounted (kept_from history turns) × AreJoined (kept_from history turns)
kept_joined history [] joined counted single h = (counted, joined)
kept_joined history (turn ∷ turns) joined counted single h =
    kept_joined (kept_with history turn) turns (joined_settled history turn joined counted single)
    (counted_push (settled history) turn (counted_settled history counted) (single_counted turn h.0))
    (ends_push (settled history) turn h.0.once) h.1

-- as single turns are recorded, their counts are right
pub kept_counted : (turns : List Turn) → Each IsSingle turns → Each IsCounted (kept turns)
kept_counted turns single = (kept_joined [] turns tt tt tt single).0

pub kept_is_legal : KeptIsLegal
kept_is_legal g level i rows turns s wired are fits single =
    let up = levels_grow g level are in
    let sound = opened_sound g i rows fits in
    let form = kept_joined [] turns tt tt tt single in (
      (λ legal. record { leads = kept_legal g level i wired up [] turns (opened g i rows) s (λ u. []) sound legal; counted = form.0; joined = form.1 }),
      (λ legal. kept_on_time g level i wired up [] turns (opened g i rows) s (λ u. []) sound legal),
      kept_same g turns,
    )
