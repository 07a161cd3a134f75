-- What waits is up to the horizon, for actors of the graph, and at few steps.
use Rattle.std.proofs.Common.{◌≡◌, ℕ, suc, ◌+◌, ◌<◌, ◌≤◌, ◌==◌, ◌&&◌, ◌⊎◌, ⊎_elim, inl, inr, not, Bool, true, false, cond, nat_lt, nat_le, Some, Option, IsSome, ℤ, pos, List, [], ◌∷◌, refl, sym, subst, arith}
use Rattle.std.proofs.lemmas.Bool.Decides.{nat_tests}
use Rattle.std.proofs.lemmas.Grind.{common_steps}
use Rattle.pt_tags.specs.declared.tag.Tag.{Tag}
use Rattle.pt_tags.specs.Tags.{same_tag, plus}
use Rattle.pt_types.specs.declared.graph.Graph.{Graph}
use Rattle.pt_types.specs.declared.graph.Edge.{Edge}
use Rattle.pt_types.specs.declared.rows.Row.{Row}
use Rattle.pt_types.specs.declared.kind.Kind.{Kind}
use Rattle.pt_types.specs.declared.kind.Kind.TheVariants.{Every}
use Rattle.pt_types.specs.Ports.{when, at_port}
use Rattle.pt_types.specs.Lookups.{kind_of}
use Rattle.pt_semantics.specs.Lists.{first_of, or_else, Each}
use Rattle.pt_semantics.specs.Edges.{edges}
use Rattle.pt_semantics.specs.Meaning.{Values, World, ActorFiring, Steps, added, after_firing, at_start, at_time, going, leaves_actor, opening, row_at, rows_until, start_at, without}
use Rattle.pt_semantics.proofs.Lookups.{none_some, when_found}
use Rattle.pt_meaning.specs.declared.early.Early.{Early}
use Rattle.pt_meaning.specs.declared.world.WaitingEvents.{WaitingEvents}
use Rattle.pt_meaning.specs.Both.{all_waits, AreSound}
use Rattle.pt_meaning.specs.Early.{early_waits, left, AreEarly}
use Rattle.pt_meaning.specs.Emission.{IsUsable}
use Rattle.pt_meaning.specs.Held.{late_value}
use Rattle.pt_meaning.specs.Opening.{start_event}
use Rattle.pt_meaning.specs.Waiting.{waits_in, place_of}
use Rattle.pt_meaning.proofs.Both.{either}
use Rattle.pt_meaning.proofs.Firsts.{AreWithin}

-- all that waits is at times up to this one
abbrev pub AreUpTo : ℕ → Values → Type 0
AreUpTo until waits = (a p : ℕ) (t : Tag) (v : ℤ) → waits a p t ≡ Some v → t.time ≤ until

row_up_to : (until : ℕ) (rows : List Row) (t : Tag) (v : ℤ) → row_at (rows_until until rows) t ≡ Some v → t.time ≤ until
row_up_to until [] t v is = absurd (none_some v is)
row_up_to until (row ∷ rows) t v is = by (nat_le row.time until) refl is (row_up_to until rows t v)
  where
    in_time : nat_le row.time until ≡ true → same_tag (at_time row.time) t ≡ true → t.time ≤ until
    in_time low same = grind (arith, nat_tests, common_steps)

    by : (b : Bool) → nat_le row.time until ≡ b → row_at (cond b (row ∷ rows_until until rows) (rows_until until rows)) t ≡ Some v → (row_at (rows_until until rows) t ≡ Some v → t.time ≤ until) → t.time ≤ until
    by true low there rest =
        ⊎_elim
        (λ (h : when (same_tag (at_time row.time) t) (Some row.value) ≡ Some v). in_time low (when_found (same_tag (at_time row.time) t) (Some row.value) v h).0)
        rest
        (either (when (same_tag (at_time row.time) t) (Some row.value)) (row_at (rows_until until rows) t) v there)
    by false low there rest = rest there

start_up_to : (g : Graph) (kind : Kind) (t : Tag) (v : ℤ) → start_at g kind t ≡ Some v → t.time ≤ g.until
start_up_to g (Every start period) t v is = in_time (when_found (nat_lt start (suc g.until) && same_tag (at_time start) t) (Some (pos 0)) v is).0
  where
    in_time : (nat_lt start (suc g.until) && same_tag (at_time start) t) ≡ true → t.time ≤ g.until
    in_time h = grind (arith, nat_tests, common_steps)
start_up_to g _ t v is = absurd (none_some v is)

opening_up_to : (g : Graph) (rows : ℕ → List Row) → AreUpTo g.until (opening g (λ a. rows_until g.until (rows a)))
opening_up_to g rows a p t v is =
    ⊎_elim
    (λ (h : start_at g (kind_of g a) t ≡ Some v). start_up_to g (kind_of g a) t v h)
    (λ (h : row_at (rows_until g.until (rows a)) t ≡ Some v). row_up_to g.until (rows a) t v h)
    (either (start_at g (kind_of g a) t) (row_at (rows_until g.until (rows a)) t) v
    (when_found (p == 0) (or_else (start_at g (kind_of g a) t) (row_at (rows_until g.until (rows a)) t)) v is).1)

-- what waits after a firing waited before, or was sent
after_or_sent : (g : Graph) (w : World) (x : ActorFiring) (a p : ℕ) (t : Tag) (v : ℤ) → (after_firing g w x).waits a p t ≡ Some v
    → (w.waits a p t ≡ Some v) ⊎ (going g (edges g) (leaves_actor x.actor) x.tag x.outputs a p t ≡ Some v)
after_or_sent g w x a p t v is =
    ⊎_elim
    (λ (h : without w.waits x.actor x.tag a p t ≡ Some v). inl (when_found (not (a == x.actor && same_tag x.tag t)) (w.waits a p t) v h).1)
    (λ (h : going g (edges g) (leaves_actor x.actor) x.tag x.outputs a p t ≡ Some v). inr h)
    (either (without w.waits x.actor x.tag a p t) (going g (edges g) (leaves_actor x.actor) x.tag x.outputs a p t) v is)

abbrev sent_along : ℕ → ℕ → (Edge → Bool) → Tag → Tag → List (Option ℤ) → List Edge → Option ℤ
sent_along a p leaves t u outputs along = first_of (λ (e : Edge). when (e.to == a && e.input == p) (when (leaves e && same_tag (plus t e.weight) u) (at_port outputs e.output))) along

-- an event that is sent
module _ (g : Graph) (x : ActorFiring) (a p : ℕ) (u : Tag) (v : ℤ) (is : going g (edges g) (leaves_actor x.actor) x.tag x.outputs a p u ≡ Some v) where
  found : (nat_lt u.time (suc g.until) ≡ true) × (sent_along a p (leaves_actor x.actor) x.tag u x.outputs (edges g) ≡ Some v)
  found = when_found (nat_lt u.time (suc g.until)) (sent_along a p (leaves_actor x.actor) x.tag u x.outputs (edges g)) v is

  sent_up_to : u.time ≤ g.until
  sent_up_to = let h = found.0 in grind (arith, nat_tests)

after_up_to : (g : Graph) (w : World) (x : ActorFiring) → AreUpTo g.until w.waits → AreUpTo g.until (after_firing g w x).waits
after_up_to g w x was a p t v is =
    ⊎_elim
    (λ (h : w.waits a p t ≡ Some v). was a p t v h)
    (λ (h : going g (edges g) (leaves_actor x.actor) x.tag x.outputs a p t ≡ Some v). sent_up_to g x a p t v h)
    (after_or_sent g w x a p t v is)

steps_up_to : (g : Graph) (rank : ℕ → ℕ) (w : World) (xs : List ActorFiring) (v : World) → Steps g rank w xs v → AreUpTo g.until w.waits → AreUpTo g.until v.waits
steps_up_to g rank w [] v steps was = subst (λ (z : World). AreUpTo g.until z.waits) steps was
steps_up_to g rank w (x ∷ xs) v steps was = steps_up_to g rank (after_firing g w x) xs v steps.1 (after_up_to g w x was)

-- where an edge leads
edge_leads : (n steps a p : ℕ) (t u : Tag) (leaves : Bool) (e : Edge) → IsUsable n e → t.step ≤ steps → (e.to == a && e.input == p) ≡ true → (leaves && same_tag (plus t e.weight) u) ≡ true → (a < n) × (p < 8) × (u.step ≤ suc steps)
edge_leads n steps a p t u leaves e usable low to at =
    let actor : e.to ≡ a = grind (arith, nat_tests, common_steps) in
    let port : e.input ≡ p = grind (arith, nat_tests, common_steps) in
    let step : t.step + e.weight.step ≡ u.step = grind (arith, nat_tests, common_steps) in
    (omega (arith, usable.to, actor), omega (arith, usable.port, port), omega (arith, usable.step, step, low))

sent_within : (n steps a p : ℕ) (leaves : Edge → Bool) (t u : Tag) (outputs : List (Option ℤ)) (v : ℤ) (es : List Edge) → Each (IsUsable n) es → t.step ≤ steps → sent_along a p leaves t u outputs es ≡ Some v → (a < n) × (p < 8) × (u.step ≤ suc steps)
sent_within n steps a p leaves t u outputs v [] usable low is = absurd (none_some v is)
sent_within n steps a p leaves t u outputs v (e ∷ es) usable low is =
    ⊎_elim
    (λ (h : when (e.to == a && e.input == p) (when (leaves e && same_tag (plus t e.weight) u) (at_port outputs e.output)) ≡ Some v).
    let to = when_found (e.to == a && e.input == p) (when (leaves e && same_tag (plus t e.weight) u) (at_port outputs e.output)) v h in
    let at = when_found (leaves e && same_tag (plus t e.weight) u) (at_port outputs e.output) v to.1 in
    edge_leads n steps a p t u (leaves e) e usable.0 low to.0 at.0)
    (λ (h : sent_along a p leaves t u outputs es ≡ Some v). sent_within n steps a p leaves t u outputs v es usable.1 low h)
    (either (when (e.to == a && e.input == p) (when (leaves e && same_tag (plus t e.weight) u) (at_port outputs e.output))) (sent_along a p leaves t u outputs es) v is)

-- a firing sends events within the bounds, with one step more
pub after_within : (g : Graph) (n steps : ℕ) (w : World) (x : ActorFiring) → Each (IsUsable n) (edges g) → x.tag.step ≤ steps → AreWithin n g.until steps w.waits → AreWithin n g.until (suc steps) (after_firing g w x).waits
after_within g n steps w x usable low within a p t v is =
    ⊎_elim
    (λ (h : w.waits a p t ≡ Some v). let was = within a p t v h in record { actor = was.actor; port = was.port; time = was.time; step = omega (arith, was.step) })
    (λ (h : going g (edges g) (leaves_actor x.actor) x.tag x.outputs a p t ≡ Some v).
    let there = sent_within n steps a p (leaves_actor x.actor) x.tag t x.outputs v (edges g) usable low (found g x a p t v h).1 in
    record { actor = there.0; port = there.1; time = sent_up_to g x a p t v h; step = there.2 })
    (after_or_sent g w x a p t v is)

-- an event that was known at the start
early_at : (n : ℕ) (e : Early) (a p : ℕ) (t : Tag) → e.moment.actor < n → (e.moment.actor == a && p == 0 && same_tag (at_time e.moment.time) t) ≡ true → (a < n) × (p ≡ 0) × (t.step ≡ 0)
early_at n e a p t low h =
    let actor : e.moment.actor ≡ a = grind (arith, nat_tests, common_steps) in
    let port : p ≡ 0 = grind (arith, nat_tests, common_steps) in
    let step : 0 ≡ t.step = grind (arith, nat_tests, common_steps) in
    (omega (arith, low, actor), port, sym step)

early_within : (rank : ℕ → ℕ) (n a p : ℕ) (t : Tag) (v : ℤ) (events : List Early) → AreEarly rank n events → early_waits events a p t ≡ Some v → (a < n) × (p ≡ 0) × (t.step ≡ 0)
early_within rank n a p t v [] are is = absurd (none_some v is)
early_within rank n a p t v (e ∷ events) are is =
    ⊎_elim
    (λ (h : start_event e.moment.actor e.moment.time e.value a p t ≡ Some v).
    early_at n e a p t are.0.actor (when_found (e.moment.actor == a && p == 0 && same_tag (at_time e.moment.time) t) (Some e.value) v h).0)
    (λ (h : early_waits events a p t ≡ Some v). early_within rank n a p t v events are.1 h)
    (either (start_event e.moment.actor e.moment.time e.value a p t) (early_waits events a p t) v is)

-- the events of the engine are within the bounds
pub all_within : (g : Graph) (rank : ℕ → ℕ) (n steps : ℕ) (rows : ℕ → List Row) (xs : List ActorFiring) (v : World) (w : WaitingEvents)
    → Steps g rank (at_start g (λ a. rows_until g.until (rows a))) xs v → v.waits ≡ all_waits rank w → AreSound rank n steps w → AreWithin n g.until steps v.waits
all_within g rank n steps rows xs v w went same sound a p t z is =
    let up = steps_up_to g rank (at_start g (λ a. rows_until g.until (rows a))) xs v went (opening_up_to g rows) a p t z is in
    ⊎_elim
    (λ (h : early_waits (left w.early) a p t ≡ Some z).
    let at = early_within rank n a p t z (left w.early) sound.early.placed h in
    record { actor = at.0; port = omega (arith, at.1); time = up; step = omega (arith, at.2) })
    (λ (h : waits_in rank (late_value w.late) a p t ≡ Some z).
    let at = sound.late (place_of rank a p t) (subst IsSome (sym h) refl) in
    record { actor = at.actor; port = at.port; time = up; step = at.step })
    (either (early_waits (left w.early) a p t) (waits_in rank (late_value w.late) a p t) z (subst (λ (waits : Values). waits a p t ≡ Some z) same is))
