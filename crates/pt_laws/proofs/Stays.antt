-- A unit that is safe stays safe until it is claimed.
use Rattle.std.proofs.Common.{◌≡◌, ℕ, ◌+◌, ◌<◌, ◌≤◌, ◌==◌, ◌⊎◌, ◌≢◌, Bool, true, false, ◌&&◌, List, [], ◌∷◌, ◌++◌, Option, Some, None, ℤ, slice_get, arith, refl, sym, ap, ap₂, subst, ◌∙◌, inl, inr, ⊎_elim, eqb-true}
use Rattle.std.proofs.lemmas.Bool.{and_parts}
use Rattle.pt_types.specs.declared.graph.Graph.{Graph}
use Rattle.pt_types.specs.declared.graph.Link.{Link}
use Rattle.pt_tags.specs.declared.tag.Tag.{Tag}
use Rattle.pt_types.specs.declared.graph.Unit.{Unit}
use Rattle.pt_tags.specs.Tags.{Before, UpTo, plus, zero_delay, same_tag}
use Rattle.pt_types.specs.Ports.{when}
use Rattle.pt_semantics.specs.Lists.{or_else, IsIn}
use Rattle.pt_semantics.specs.Edges.{Edge, wires}
use Rattle.pt_types.specs.Lookups.{kind_of}
use Rattle.pt_semantics.specs.Units.{source, target, at_input, at_output, unit_inputs, HasEvent, unit_of, leaves_unit}
use Rattle.pt_types.specs.Groups.{input_group}
use Rattle.pt_semantics.specs.Meaning.{Values, at_time, going, added}
use Rattle.pt_semantics.specs.Behaviours.{Firing, Firings}
use Rattle.pt_semantics.specs.Ranks.{sum_along}
use Rattle.pt_semantics.specs.Paths.{Goes}
use Rattle.pt_semantics.specs.Bounds.{Feeds, bound_by, link_bound}
use Rattle.pt_semantics.specs.Wired.{IsWired}
use Rattle.pt_semantics.specs.Cycles.{HasLevels}
use Rattle.pt_types.specs.declared.rows.Row.{Row}
use Rattle.pt_types.specs.declared.firing.Task.{Task}
use Rattle.pt_types.specs.declared.firing.Done.{Done}
use Rattle.pt_tags.specs.declared.message.Message.{Message}
use Rattle.pt_semantics.specs.Platform.{State, opened, raised}
use Rattle.pt_semantics.specs.Turn.{Turn}
use Rattle.pt_semantics.specs.Safe.{IsSafe}
use Rattle.pt_semantics.specs.Claiming.{IsNext, after_claim}
use Rattle.pt_semantics.specs.History.{Legal, firing_by, claims_of}
use Rattle.pt_semantics.specs.Posting.{after_post}
use Rattle.pt_semantics.specs.Entering.{after_rows, due, not_due}
use Rattle.pt_semantics.specs.Taking.{after_message, with_taken, IsOnTime}
use Rattle.pt_semantics.specs.Closing.{shut, unsent}
use Rattle.pt_tags.specs.declared.message.Message.TheVariants.{Event, End}
use Rattle.pt_semantics.specs.Floor.{Floor}
use Rattle.pt_semantics.specs.Rows.{FitsRow, FitRows}
use Rattle.pt_laws.specs.TurnTheorems.{SafeInTurn, SafeStays}
use Rattle.pt_semantics.proofs.Longest.{levels_grow}
use Rattle.pt_semantics.proofs.Tags.{Before-irrefl, same_tag-true}
use Rattle.pt_semantics.proofs.Words.{when_same}
use Rattle.pt_semantics.proofs.Lookups.{none_some, same_some, or_else_found, or_else_none, when_found, first_of_found, IsIn-append, IsIn-append_left, same_part-true, cases_part, eight_below}
use Rattle.pt_laws.proofs.Rows.{due_split}
use Rattle.pt_semantics.proofs.Floor.{going_found, end_is, plus_then, plus_zero, past_reading, put_none_found, put_other, put_same, row_values, message_values, sensor_unit, receiver_unit, bound_of_link}
use Rattle.pt_semantics.proofs.Claiming.{more, more_same, more_other, event_found, has_event, claimed_below}
use Rattle.pt_laws.proofs.FloorHolds.{Sound, opened_sound, legal_sound}
use Rattle.pt_laws.proofs.Walk.{legal_keeps, keeps_to_claims}
use Rattle.pt_laws.proofs.Once.{absent}
use Rattle.pt_laws.proofs.Candidates.{keeps_safe, others_stay, more_there}

-- new values come past t along each path to u
abbrev pub IsBeyond : Graph → Unit → Tag → Values → Type 0
IsBeyond g u t new = (a p : ℕ) (w : Tag) (v : ℤ) (path : List Edge) → new a p w ≡ Some v → Goes g (at_input g a p) path u → Before t (plus w (sum_along path))

up_to : (t w : Tag) → Before t (plus w zero_delay) → UpTo t w
up_to t w h = omega arith

-- what comes in past it leaves a unit safe
arrive_safe : (g : Graph) (s : State) (r : ℕ) (u : Unit) (t : Tag) (new : Values) → IsBeyond g u t new → IsSafe g s.waits s.busy r u t → IsSafe g (added s.waits new) s.busy r u t
arrive_safe g s r u t new past k = record {
  event = more_there (λ p. when (input_group (kind_of g u.actor) p == u.group) (s.waits u.actor p t)) (λ p. when (input_group (kind_of g u.actor) p == u.group) (added s.waits new u.actor p t))
      (λ p v e. keep (input_group (kind_of g u.actor) p == u.group) (s.waits u.actor p t) (new u.actor p t) v e) k.event;
  least = λ w h.
      let at = event_found g (added s.waits new) u w h in
      ⊎_elim
      (λ (old : s.waits u.actor at.port w ≡ Some at.value). k.least w (subst (λ z. HasEvent g s.waits z w) at.unit (has_event g s.waits u.actor at.port w at.value at.below old)))
      (λ (n : new u.actor at.port w ≡ Some at.value). up_to t w (past u.actor at.port w at.value [] n at.unit))
      (or_else_found (s.waits u.actor at.port w) (new u.actor at.port w) at.value at.waits_there);
  free = k.free;
  bounds = k.bounds;
  events = λ x w path nx h go.
      let at = event_found g (added s.waits new) x w h in
      ⊎_elim
      (λ (old : s.waits x.actor at.port w ≡ Some at.value). k.events x w path nx (subst (λ z. HasEvent g s.waits z w) at.unit (has_event g s.waits x.actor at.port w at.value at.below old)) go)
      (λ (n : new x.actor at.port w ≡ Some at.value). past x.actor at.port w at.value path n (subst (λ z. Goes g z path u) (sym at.unit) go))
      (or_else_found (s.waits x.actor at.port w) (new x.actor at.port w) at.value at.waits_there);
  claims = k.claims;
}
  where
    keep : (b : Bool) (x y : Option ℤ) (v : ℤ) → when b x ≡ Some v → when b (or_else x y) ≡ Some v
    keep true (Some x) y v h = h
    keep true None y v h = absurd (none_some v h)
    keep false x y v h = absurd (none_some v h)

-- nor does it change the inputs
arrive_inputs : (g : Graph) (waits : Values) (u : Unit) (t : Tag) (new : Values) → IsBeyond g u t new → unit_inputs g (added waits new) u t ≡ unit_inputs g waits u t
arrive_inputs g waits u t new past =
    eight_below
    (λ p. when (input_group (kind_of g u.actor) p == u.group) (added waits new u.actor p t))
    (λ p. when (input_group (kind_of g u.actor) p == u.group) (waits u.actor p t))
    (λ p lt. when_same (input_group (kind_of g u.actor) p == u.group) (added waits new u.actor p t) (waits u.actor p t)
    (λ h.
    let eg : input_group (kind_of g u.actor) p ≡ u.group = eqb-true _ u.group h in
    let eu : at_input g u.actor p ≡ u = λ i. record { actor = u.actor; group = eg i } in
    let none : new u.actor p t ≡ None = absent (new u.actor p t) (λ v n. Before-irrefl t (subst (λ z. Before t z) (plus_zero t) (past u.actor p t v [] n eu))) in
    ap (or_else (waits u.actor p t)) none ∙ or_else_none (waits u.actor p t)))

-- the changes of a turn, one by one
posted_beyond : (g : Graph) (s : State) (r : ℕ) (u : Unit) (t : Tag) (w : Unit) (task : Task) (outputs : List (Option ℤ)) → IsSafe g s.waits s.busy r u t → s.busy w ≡ Some task → IsBeyond g u t (going g (wires g) (leaves_unit g w) task.tag outputs)
posted_beyond g s r u t w task outputs k busy a p z v path found go =
    let went = going_found g (wires g) (leaves_unit g w) task.tag outputs a p z v found in
    let e : Edge = went.edge in
    let src : source g e ≡ w = sym (same_part-true w (source g e) went.leaves_it) in
    let on : Goes g (target g e) path u = subst (λ y. Goes g y path u) (end_is g e a p went.to went.input) go in
    subst (λ y. Before t (plus y (sum_along path))) went.when_is
    (subst (λ y. Before t y) (sym (plus_then task.tag e.weight (sum_along path))) (k.claims w task (e ∷ path) busy (went.mem, src, on)))

rows_beyond : (g : Graph) (s : State) (r : ℕ) (u : Unit) (t : Tag) (rows : ℕ → List Row) → IsSafe g s.waits s.busy r u t → ((a : ℕ) (row : Row) → IsIn row (rows a) → FitsRow g a row × (r ≤ row.seen)) → IsBeyond g u t (row_values rows)
rows_beyond g s r u t rows k fresh a p w v path found go =
    let here = when_found (p == 0) _ v found in
    let at = first_of_found _ (rows a) v here.1 in
    let row : Row = at.0 in
    let et : at_time row.time ≡ w = same_tag-true (at_time row.time) w (when_found (same_tag (at_time row.time) w) _ v at.2).0 in
    let f = fresh a row at.1 in
    let feeds : Feeds g a f.0.bound path u = record { bound = ap (bound_by g a) f.0.sensor; goes = subst (λ z. Goes g z path u) (sensor_unit g f.0.file a p f.0.bound f.0.sensor) go } in
    subst (λ z. Before t (plus z (sum_along path))) et
    (past_reading t (at_time row.time) (sum_along path) r f.0.bound row.seen (k.bounds a f.0.bound path feeds) f.1 f.0.in_time)

message_beyond : (g : Graph) (s : State) (r p : ℕ) (u : Unit) (t : Tag) (l : ℕ) (link : Link) (m : Message) → IsWired g → IsSafe g s.waits s.busy r u t → s.reading ≡ Some p → r ≤ p → slice_get g.links l ≡ Some link → IsOnTime s.reading (link_bound g link) m → IsBeyond g u t (message_values link m)
message_beyond g s r p u t l link End wired k reading le at ok a q w v path found go = absurd (none_some v (when_found (a == link.to && q == 0) _ v found).1)
message_beyond g s r p u t l link (Event tag value) wired k reading le at ok a q w v path found go =
    let here = when_found (a == link.to && q == 0) _ v found in
    let ea : a ≡ link.to = eqb-true a link.to (and_parts (a == link.to) (q == 0) here.0).0 in
    let et : tag ≡ w = same_tag-true tag w (when_found (same_tag tag w) _ v here.1).0 in
    let unit : at_input g a q ≡ at_output g link.to 0 = ap (λ b. at_input g b q) ea ∙ receiver_unit g link.to q (wired.receives l link at) in
    let feeds : Feeds g link.to (link_bound g link) path u = record { bound = bound_of_link g l link wired at; goes = subst (λ z. Goes g z path u) unit go } in
    let timely : p ≤ tag.time + link_bound g link = subst (λ o. IsOnTime o (link_bound g link) (Event tag value)) reading ok in
    subst (λ z. Before t (plus z (sum_along path))) et
    (past_reading t tag (sum_along path) r (link_bound g link) p (k.bounds link.to (link_bound g link) path feeds) le timely)

-- safe at a reading, safe at each later one
pub safe_later : (g : Graph) (s : State) (r q : ℕ) (u : Unit) (t : Tag) → r ≤ q → IsSafe g s.waits s.busy r u t → IsSafe g s.waits s.busy q u t
safe_later g s r q u t le k = record {
  event = k.event;
  least = k.least;
  free = k.free;
  events = k.events;
  claims = k.claims;
  bounds = λ a b path feeds. let lt : t.time + b < r + (sum_along path).time = k.bounds a b path feeds in omega arith;
}

-- a safe unit after a reading at which it was safe, with these inputs
pub record Safe (g : Graph) (r : ℕ) (u : Unit) (t : Tag) (inputs : List (Option ℤ)) (s : State) : Type 0 where
  pub last : ℕ
  pub reading : s.reading ≡ Some last
  pub since : r ≤ last
  pub safe : IsSafe g s.waits s.busy r u t
  pub inputs_are : unit_inputs g s.waits u t ≡ inputs

abbrev pub ClaimedAt : Unit → Tag → List (Option ℤ) → Firings → Type 0
ClaimedAt u t inputs c = (x : Firing) × IsIn x (c u) × (x.tag ≡ t) × (x.inputs ≡ inputs)

abbrev pub Stays : Graph → ℕ → Unit → Tag → List (Option ℤ) → State → Firings → Type 0
Stays g r u t inputs s c = ClaimedAt u t inputs c ⊎ Safe g r u t inputs s

same_least : (t w : Tag) → UpTo t w → UpTo w t → t ≡ w
same_least t w h k = grind arith

module _ (g : Graph) (r : ℕ) (u : Unit) (t : Tag) (inputs : List (Option ℤ)) where
  still : (s : State) (c : Firings) (z : State) → (Safe g r u t inputs s → Safe g r u t inputs z) → Stays g r u t inputs s c → Stays g r u t inputs z c
  still s c z on h = ⊎_elim (λ (a : ClaimedAt u t inputs c). inl a) (λ (b : Safe g r u t inputs s). inr (on b)) h

  by_post : (s : State) (d : Done) → s.busy (unit_of g d.task) ≡ Some d.task → Safe g r u t inputs s → Safe g r u t inputs (after_post g s d)
  by_post s d busy k =
      let beyond = posted_beyond g s r u t (unit_of g d.task) d.task d.fired.outputs k.safe busy in
      let one = arrive_safe g s r u t (going g (wires g) (leaves_unit g (unit_of g d.task)) d.task.tag d.fired.outputs) beyond k.safe in
      record {
        last = k.last;
        reading = k.reading;
        since = k.since;
        safe = record {
          event = one.event;
          least = one.least;
          bounds = one.bounds;
          events = one.events;
          free = ⊎_elim
              (λ (here : unit_of g d.task ≡ u). put_same s.busy (unit_of g d.task) u None here)
              (λ (there : unit_of g d.task ≢ u). put_other s.busy (unit_of g d.task) u None there ∙ k.safe.free)
              (cases_part (unit_of g d.task) u);
          claims = λ x task path b go. one.claims x task path (put_none_found s.busy (unit_of g d.task) x task b) go;
        };
        inputs_are = arrive_inputs g s.waits u t (going g (wires g) (leaves_unit g (unit_of g d.task)) d.task.tag d.fired.outputs) beyond ∙ k.inputs_are;
      }

  by_rows : (s : State) (c : Firings) (q : ℕ) → Sound g s s.reading c → Safe g r u t inputs s → Safe g r u t inputs (after_rows s q)
  by_rows s c q h k =
      let beyond = rows_beyond g s r u t (λ a. due q (s.left a)) k.safe (λ a row m.
      let m2 : IsIn row (s.left a) = subst (IsIn row) (due_split q (s.left a)) (IsIn-append_left row (due q (s.left a)) (not_due q (s.left a)) m) in
      let later : k.last < row.seen = h.rest.unseen a row k.last m2 k.reading in
      let since : r ≤ k.last = k.since in
      (h.rest.fit a row m2, before r k.last row.seen since later)) in
      let one = arrive_safe g s r u t (row_values (λ a. due q (s.left a))) beyond k.safe in
      record {
        last = k.last;
        reading = k.reading;
        since = k.since;
        safe = record { event = one.event; least = one.least; free = one.free; bounds = one.bounds; events = one.events; claims = one.claims };
        inputs_are = arrive_inputs g s.waits u t (row_values (λ a. due q (s.left a))) beyond ∙ k.inputs_are;
      }
    where
      before : (a b d : ℕ) → a ≤ b → b < d → a ≤ d
      before a b d x y = omega arith

  by_message : (s : State) (l : ℕ) (link : Link) (m : Message) → IsWired g → slice_get g.links l ≡ Some link → IsOnTime s.reading (link_bound g link) m → Safe g r u t inputs s → Safe g r u t inputs (after_message s l link m)
  by_message s l link m wired at ok k =
      let beyond = message_beyond g s r k.last u t l link m wired k.safe k.reading k.since at ok in
      let one = arrive_safe g s r u t (message_values link m) beyond k.safe in
      record {
        last = k.last;
        reading = k.reading;
        since = k.since;
        safe = record { event = one.event; least = one.least; free = one.free; bounds = one.bounds; events = one.events; claims = one.claims };
        inputs_are = arrive_inputs g s.waits u t (message_values link m) beyond ∙ k.inputs_are;
      }

  by_claim : (s : State) (c : Firings) (q : ℕ) (task : Task) → s.reading ≡ Some q → IsNext g s q (unit_of g task) task → Safe g r u t inputs s → Stays g r u t inputs (after_claim g s (unit_of g task) task) (more c (unit_of g task) (firing_by g task))
  by_claim s c q task reading next k =
      let el : k.last ≡ q = same_some k.last q (sym k.reading ∙ reading) in
      let le : r ≤ q = subst (λ z. r ≤ z) el k.since in
      ⊎_elim
      (λ (here : unit_of g task ≡ u).
      let et : task.tag ≡ t = same_least task.tag t
      (next.safe.least t (subst (λ z. HasEvent g s.waits z t) (sym here) k.safe.event))
      (k.safe.least task.tag (subst (λ z. HasEvent g s.waits z task.tag) here next.safe.event)) in
      inl (
        firing_by g task,
        subst (IsIn (firing_by g task)) (sym (more_same c (unit_of g task) u (firing_by g task) here)) (at_end (firing_by g task) (c u)),
        et,
        next.inputs ∙ ap₂ (λ z w. unit_inputs g s.waits z w) here et ∙ k.inputs_are,
      ))
      (λ (there : unit_of g task ≢ u).
      let now = keeps_safe g s q (unit_of g task) u task t next.safe (safe_later g s r q u t le k.safe) (λ e. there (sym e)) in
      inr (record {
        last = k.last;
        reading = k.reading;
        since = k.since;
        safe = record { event = now.event; least = now.least; free = now.free; bounds = k.safe.bounds; events = now.events; claims = now.claims };
        inputs_are = others_stay g s.waits (unit_of g task) u task.tag t (λ e. there (sym e)) ∙ k.inputs_are;
      }))
      (cases_part (unit_of g task) u)
    where
      at_end : (x : Firing) (xs : List Firing) → IsIn x (xs ++ x ∷ [])
      at_end x [] = inl refl
      at_end x (y ∷ xs) = inr (at_end x xs)

  at_claim : (s : State) (c : Firings) (q : ℕ) (task : Task) → s.reading ≡ Some q → IsNext g s q (unit_of g task) task → Stays g r u t inputs s c → Stays g r u t inputs (after_claim g s (unit_of g task) task) (more c (unit_of g task) (firing_by g task))
  at_claim s c q task reading next h =
      ⊎_elim
      (λ (a : ClaimedAt u t inputs c). inl (a.0, more_keeps c (unit_of g task) u (firing_by g task) a.0 a.1, a.2, a.3))
      (λ (b : Safe g r u t inputs s). by_claim s c q task reading next b)
      h
    where
      more_keeps : (c : Firings) (w v : Unit) (x y : Firing) → IsIn y (c v) → IsIn y (more c w x v)
      more_keeps c w v x y mem =
          ⊎_elim
          (λ (e : w ≡ v). subst (IsIn y) (sym (more_same c w v x e)) (IsIn-append_left y (c v) (x ∷ []) mem))
          (λ (ne : w ≢ v). subst (IsIn y) (sym (more_other c w v x ne)) mem)
          (cases_part w v)

  -- a change of nothing that it rests on
  by_other : (s z : State) (o : ℕ) → s.waits ≡ z.waits → s.busy ≡ z.busy → z.reading ≡ Some o → r ≤ o → Safe g r u t inputs s → Safe g r u t inputs z
  by_other s z o ew eb reading le k = record {
    last = o;
    reading = reading;
    since = le;
    safe = record {
      event = subst (λ (y : Values). HasEvent g y u t) ew k.safe.event;
      least = λ w h. k.safe.least w (subst (λ (y : Values). HasEvent g y u w) (sym ew) h);
      free = sym (ap (λ (f : Unit → Option Task). f u) eb) ∙ k.safe.free;
      bounds = k.safe.bounds;
      events = λ x w path nx h go. k.safe.events x w path nx (subst (λ (y : Values). HasEvent g y x w) (sym ew) h) go;
      claims = λ x task path b go. k.safe.claims x task path (ap (λ (f : Unit → Option Task). f x) eb ∙ b) go;
    };
    inputs_are = ap (λ (y : Values). unit_inputs g y u t) (sym ew) ∙ k.inputs_are;
  }

-- the start of both: what the history before makes sure of
before_it : (g : Graph) (level : ℕ → ℕ) (i : ℕ) (rows : ℕ → List Row) (turns : List Turn) (s : State) → IsWired g → HasLevels g level → FitRows g rows → Legal g level i (opened g i rows) turns s → Sound g s s.reading (claims_of g turns)
before_it g level i rows turns s wired up fits legal = legal_sound g level i turns (opened g i rows) s (λ u. []) wired up (opened_sound g i rows fits) legal

begins : (g : Graph) (s : State) (p r : ℕ) (u : Unit) (t : Tag) → s.reading ≡ Some p → r ≤ p → IsSafe g s.waits s.busy r u t → Safe g r u t (unit_inputs g s.waits u t) s
begins g s p r u t reading le safe = record { last = p; reading = reading; since = le; safe = safe; inputs_are = refl }

-- what was claimed before is below
not_before_it : (g : Graph) (s : State) (c : Firings) (r : ℕ) (u : Unit) (t : Tag) (x : Firing) → Floor g s c → IsSafe g s.waits s.busy r u t → IsIn x (c u) → x.tag ≡ t → ⊥
not_before_it g s c r u t x f safe mem et = Before-irrefl t (subst (λ z. Before z t) et (claimed_below g s c u t x f safe.event mem))

both : (a b d : ℕ) → a ≤ b → b ≤ d → a ≤ d
both a b d x y = omega arith

pub safe_in_turn : SafeInTurn
safe_in_turn g level i rows turns turn s new late p r u t wired are fits legal reading le safe is =
    let up = levels_grow g level are in
    let inputs : List (Option ℤ) = unit_inputs g s.waits u t in
    let c : Firings = claims_of g turns in
    let h = before_it g level i rows turns s wired up fits legal in
    let k = keeps_to_claims g level i wired up (λ x d. Stays g r u t inputs x d)
    (λ x o d e hd kd busy result. still g r u t inputs x d (after_post g x e) (by_post g r u t inputs x e busy) kd)
    (λ x d q hd kd. still g r u t inputs x d (after_rows x q) (by_rows g r u t inputs x d q hd) kd)
    (λ x o d m link hd kd at home ok orderly. still g r u t inputs x d (after_message x m.link link m.message) (by_message g r u t inputs x m.link link m.message wired at ok) kd)
    (λ x d l m kd. still g r u t inputs x d (with_taken x l m) (λ b. by_other g r u t inputs x (with_taken x l m) b.last refl refl b.reading b.since b) kd)
    (λ x d q later kd. still g r u t inputs x d (raised x q) (λ b. by_other g r u t inputs x (raised x q) q refl refl refl (both r b.last q b.since (later b.last b.reading)) b) kd)
    (λ x o d q task rd hd kd next. at_claim g r u t inputs x d q task rd next kd)
    (λ x d kd. still g r u t inputs x d (shut g i x) (λ b. by_other g r u t inputs x (shut g i x) b.last refl refl b.reading b.since b) kd)
    (λ x d rest kd. still g r u t inputs x d (unsent x rest) (λ b. by_other g r u t inputs x (unsent x rest) b.last refl refl b.reading b.since b) kd)
    s new turn late c h (inr (begins g s p r u t reading le safe)) is in
    ⊎_elim
    (λ (old : ClaimedAt u t inputs c). absurd (not_before_it g s c r u t old.0 h.floor safe old.1 old.2))
    (λ (b : Safe g r u t inputs (raised is.got turn.last)).
    (safe_later g (raised is.got turn.last) r turn.last u t (subst (λ z. r ≤ z) (same_some b.last turn.last (sym b.reading)) b.since) b.safe, b.inputs_are))
    k.1

pub safe_stays : SafeStays
safe_stays g level i rows turns later s new p r u t wired are fits legal reading le safe on =
    let up = levels_grow g level are in
    let inputs : List (Option ℤ) = unit_inputs g s.waits u t in
    let c : Firings = claims_of g turns in
    let h = before_it g level i rows turns s wired up fits legal in
    let k = legal_keeps g level i wired up (λ x d. Stays g r u t inputs x d)
    (λ x o d e hd kd busy result. still g r u t inputs x d (after_post g x e) (by_post g r u t inputs x e busy) kd)
    (λ x d q hd kd. still g r u t inputs x d (after_rows x q) (by_rows g r u t inputs x d q hd) kd)
    (λ x o d m link hd kd at home ok orderly. still g r u t inputs x d (after_message x m.link link m.message) (by_message g r u t inputs x m.link link m.message wired at ok) kd)
    (λ x d l m kd. still g r u t inputs x d (with_taken x l m) (λ b. by_other g r u t inputs x (with_taken x l m) b.last refl refl b.reading b.since b) kd)
    (λ x d q before kd. still g r u t inputs x d (raised x q) (λ b. by_other g r u t inputs x (raised x q) q refl refl refl (both r b.last q b.since (before b.last b.reading)) b) kd)
    (λ x o d q task rd hd kd next. at_claim g r u t inputs x d q task rd next kd)
    (λ x d kd. still g r u t inputs x d (shut g i x) (λ b. by_other g r u t inputs x (shut g i x) b.last refl refl b.reading b.since b) kd)
    (λ x d rest kd. still g r u t inputs x d (unsent x rest) (λ b. by_other g r u t inputs x (unsent x rest) b.last refl refl b.reading b.since b) kd)
    later s new c h (inr (begins g s p r u t reading le safe)) on in
    ⊎_elim
    (λ (old : ClaimedAt u t inputs (λ v. c v ++ claims_of g later v)).
    ⊎_elim
    (λ (m : IsIn old.0 (c u)). absurd (not_before_it g s c r u t old.0 h.floor safe m old.2))
    (λ (m : IsIn old.0 (claims_of g later u)). inl (record { firing = old.0; claimed = m; tag = old.2; inputs_are = old.3 }))
    (IsIn-append old.0 (c u) (claims_of g later u) old.1))
    (λ (b : Safe g r u t inputs new). inr ((λ q lq. safe_later g new r q u t lq b.safe), b.inputs_are))
    k
