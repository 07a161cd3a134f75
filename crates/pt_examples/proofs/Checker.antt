-- The meaning, computed: a list of events in place of the lookup, and a run that is the meaning.
use Rattle.std.proofs.Common.{append_assoc, append-nil, slice_index_or, ◌≡◌, ℕ, ℤ, zero, suc, ◌<◌, ◌≤◌, ◌==◌, ◌&&◌, ◌||◌, nat_lt, nat_le, not, Bool, true, false, if◌then◌else◌, List, [], ◌∷◌, ◌++◌, length, Option, Some, None, unwrap_or, pos, arith, refl, sym, ap, ap₂, subst, ◌∙◌, ⊎_elim, eqb-true}
use Rattle.std.proofs.lemmas.Bool.{cases_lt, and_parts}
use Rattle.std.proofs.lemmas.Bool.Decides.{nat_tests}
use Rattle.pt_tags.specs.declared.tag.Tag.{Tag}
use Rattle.pt_tags.specs.Tags.{same_tag, plus}
use Rattle.pt_types.specs.declared.graph.Graph.{Graph}
use Rattle.pt_types.specs.declared.graph.Actor.{Actor}
use Rattle.pt_types.specs.declared.kind.Kind.{Kind}
use Rattle.pt_types.specs.declared.kind.Kind.TheVariants.{Every, Actuator}
use Rattle.pt_types.specs.declared.rows.Row.{Row}
use Rattle.pt_types.specs.declared.firing.Event.{Event}
use Rattle.pt_types.specs.Ports.{when, at_port}
use Rattle.pt_semantics.specs.Lists.{first_of, or_else, IsIn}
use Rattle.pt_semantics.specs.Edges.{Edge, edges, first_state}
use Rattle.pt_types.specs.Groups.{no_actor}
use Rattle.pt_types.specs.Lookups.{kind_of}
use Rattle.pt_semantics.specs.Firing.{fired, any_present, or_zero}
use Rattle.pt_semantics.specs.Meaning.{Values, World, ActorFiring, at_time, row_at, start_at, opening, going, added, waiting, NotAfter, IsFirst, put_state, without, leaves_actor, after_firing, Runs, at_start}
use Rattle.pt_semantics.specs.Tables.{tables_from, table_of, lines_of, line_of, line, head}
use Rattle.pt_semantics.proofs.Tags.{same_tag-true}
use Rattle.pt_semantics.proofs.Lookups.{none_some, first_of_found, first_of-append, when_found, when_none, when_or_else}
use Rattle.pt_examples.specs.Programs.{Acts, lines_text, listed_rows, ranks_of}
use Rattle.pt_examples.specs.Worked.{HasMeaningLines}

abbrev pub matches : Event → ℕ → ℕ → Tag → Bool
matches e a p t = (e.actor == a && e.port == p) && same_tag e.tag t

abbrev pub waits_of : List Event → Values
waits_of events a p t = first_of (λ (e : Event). when (matches e a p t) (Some e.value)) events

-- without an actor's events of a tag
abbrev keep : Bool → Event → List Event → List Event
keep true e es = e ∷ es
keep false e es = es

abbrev pub dropped : List Event → ℕ → Tag → List Event
dropped [] a t = []
dropped (e ∷ es) a t = keep (not (e.actor == a && same_tag t e.tag)) e (dropped es a t)

-- what an actor sends along edges
abbrev sent_by : Bool → Tag → Edge → Option ℤ → List Event
sent_by true u e (Some v) = record { tag = u; actor = e.to; port = e.input; value = v } ∷ []
sent_by true u e None = []
sent_by false u e o = []

abbrev pub sent : Graph → List Edge → ℕ → Tag → List (Option ℤ) → List Event
sent g [] a t outputs = []
sent g (e ∷ es) a t outputs = sent_by (e.from == a && nat_lt (plus t e.weight).time (suc g.until)) (plus t e.weight) e (at_port outputs e.output) ++ sent g es a t outputs

-- the events of the start
abbrev row_events : ℕ → List Row → List Event
row_events a [] = []
row_events a (row ∷ rows) = record { tag = at_time row.time; actor = a; port = 0; value = row.value } ∷ row_events a rows

abbrev start_when : Bool → ℕ → ℕ → List Event
start_when true a start = record { tag = at_time start; actor = a; port = 0; value = pos 0 } ∷ []
start_when false a start = []

abbrev start_events : Graph → ℕ → Kind → List Event
start_events g a (Every start period) = start_when (nat_lt start (suc g.until)) a start
start_events g a _ = []

abbrev pub events_at_start : Graph → (ℕ → List Row) → ℕ → List Event
events_at_start g rows zero = []
events_at_start g rows (suc a) = events_at_start g rows a ++ (start_events g a (kind_of g a) ++ row_events a (rows a))

-- the order of tag, rank and actor
abbrev key_test : ℕ → ℕ → ℕ → ℕ → ℕ → ℕ → ℕ → ℕ → Bool
key_test t1 t2 r a u1 u2 s b = nat_lt t1 u1 || ((t1 == u1) && (nat_lt t2 u2 || ((t2 == u2) && (nat_lt r s || ((r == s) && nat_le a b)))))

abbrev not_after : (ℕ → ℕ) → Event → Event → Bool
not_after rank e f = key_test e.tag.time e.tag.step (rank e.actor) e.actor f.tag.time f.tag.step (rank f.actor) f.actor

abbrev least : (ℕ → ℕ) → Event → List Event → Event
least rank e [] = e
least rank e (f ∷ fs) = least rank (if not_after rank e f then e else f) fs

abbrev all_after : (ℕ → ℕ) → Event → List Event → Bool
all_after rank e [] = true
all_after rank e (f ∷ fs) = not_after rank e f && all_after rank e fs

-- the firing of an actor at a tag
abbrev fires : Graph → List Event → (ℕ → ℤ) → ℕ → Tag → ActorFiring
fires g events states a t = record {
  actor = a;
  tag = t;
  inputs = waiting (waits_of events) a t;
  before = states a;
  after = (fired (kind_of g a) (states a) (waiting (waits_of events) a t)).state;
  outputs = (fired (kind_of g a) (states a) (waiting (waits_of events) a t)).outputs;
}

abbrev after : Graph → List Event → ActorFiring → List Event
after g events x = dropped events x.actor x.tag ++ sent g (edges g) x.actor x.tag x.outputs

abbrev onto : ActorFiring → Option (List ActorFiring) → Option (List ActorFiring)
onto x None = None
onto x (Some xs) = Some (x ∷ xs)

abbrev pub run : ℕ → Graph → (ℕ → ℕ) → List Event → (ℕ → ℤ) → Option (List ActorFiring)
run zero g rank [] states = Some []
run zero g rank (e ∷ es) states = None
run (suc n) g rank [] states = Some []
run (suc n) g rank (e ∷ es) states =
    let first = least rank e es in
    let x = fires g (e ∷ es) states first.actor first.tag in
    when (all_after rank first (e ∷ es) && any_present x.inputs) (onto x (run n g rank (after g (e ∷ es) x) (put_state states x.actor x.after)))

-- the lookups of these lists

when_and : (a b c : Bool) (v : ℤ) → ◌≡◌ {A = Option ℤ} (when ((a && b) && c) (Some v)) (when a (when b (when c (Some v))))
when_and true true c v = refl
when_and true false c v = refl
when_and false b c v = refl

keep_is : (m k n : Bool) (v : ℤ) (e : Event) (es : List Event) (a p : ℕ) (t : Tag) (rest : Option ℤ) → matches e a p t ≡ m → (m ≡ true → k ≡ n) → e.value ≡ v → waits_of es a p t ≡ when n rest → waits_of (keep k e es) a p t ≡ when n (or_else (when m (Some v)) rest)
keep_is true true n v e es a p t rest em same ev ih = subst (λ z. waits_of (e ∷ es) a p t ≡ when z (Some v)) (same refl) (ap (λ b. or_else (when b (Some e.value)) (waits_of es a p t)) em ∙ ap Some ev)
keep_is true false n v e es a p t rest em same ev ih = subst (λ z. waits_of es a p t ≡ when z (Some v)) (same refl) (ih ∙ subst (λ z. when z rest ≡ None) (same refl) refl)
keep_is false true n v e es a p t rest em same ev ih = ap (λ b. or_else (when b (Some e.value)) (waits_of es a p t)) em ∙ ih
keep_is false false n v e es a p t rest em same ev ih = ih

dropped_is : (es : List Event) (a : ℕ) (t : Tag) (b p : ℕ) (u : Tag) → waits_of (dropped es a t) b p u ≡ without (waits_of es) a t b p u
dropped_is [] a t b p u = sym (when_none ℤ (not (b == a && same_tag t u)))
dropped_is (e ∷ es) a t b p u =
    keep_is (matches e b p u) (not (e.actor == a && same_tag t e.tag)) (not (b == a && same_tag t u)) e.value e (dropped es a t) b p u (waits_of es b p u) refl
    (λ m.
    let two = and_parts (e.actor == b && e.port == p) (same_tag e.tag u) m in
    ap not (ap₂ (λ (k : ℕ) (w : Tag). k == a && same_tag t w) (eqb-true e.actor b (and_parts (e.actor == b) (e.port == p) two.0).0) (same_tag-true e.tag u two.1)))
    refl (dropped_is es a t b p u)

-- along one edge
sent_is : (from within to same late : Bool) (e : Edge) (w u : Tag) (a p : ℕ) (o : Option ℤ) → (e.to == a && e.input == p) ≡ to → same_tag w u ≡ same → (same ≡ true → within ≡ late) →
    waits_of (sent_by (from && within) w e o) a p u ≡ when late (when to (when (from && same) o))
sent_is false within to same late e w u a p o et es h = sym (ap (when late) (when_none ℤ to) ∙ when_none ℤ late)
sent_is true false to same late e w u a p o et es h = late_none same refl
  where
    late_none : (s : Bool) → same ≡ s → None ≡ when late (when to (when same o))
    late_none true k = subst (λ z. None ≡ when z (when to (when same o))) (h k) refl
    late_none false k = sym (ap (λ z. when late (when to (when z o))) k ∙ ap (when late) (when_none ℤ to) ∙ when_none ℤ late)
sent_is true true to same late e w u a p None et es h = sym (ap (λ z. when late (when to z)) (when_none ℤ same) ∙ ap (when late) (when_none ℤ to) ∙ when_none ℤ late)
sent_is true true to same late e w u a p (Some v) et es h = ap₂ (λ x y. or_else (when (x && y) (Some v)) None) et es ∙ by_same same refl
  where
    by_same : (s : Bool) → same ≡ s → or_else (when (to && same) (Some v)) None ≡ when late (when to (when same (Some v)))
    by_same true k = subst (λ z. or_else (when (to && same) (Some v)) None ≡ when z (when to (when same (Some v)))) (h k) (subst (λ z. or_else (when (to && z) (Some v)) None ≡ when to (when z (Some v))) (sym k) (one to))
      where
        one : (b : Bool) → or_else (when (b && true) (Some v)) None ≡ when b (Some v)
        one true = refl
        one false = refl
    by_same false k = subst (λ z. or_else (when (to && z) (Some v)) None ≡ when late (when to (when z (Some v)))) (sym k) (none to late)
      where
        none : (b c : Bool) → or_else (when (b && false) (Some v)) None ≡ when c (when b None)
        none true true = refl
        none true false = refl
        none false true = refl
        none false false = refl

going_is : (g : Graph) (es : List Edge) (a : ℕ) (t : Tag) (outputs : List (Option ℤ)) (b p : ℕ) (u : Tag) → waits_of (sent g es a t outputs) b p u ≡ going g es (leaves_actor a) t outputs b p u
going_is g [] a t outputs b p u = sym (when_none ℤ (nat_lt u.time (suc g.until)))
going_is g (e ∷ es) a t outputs b p u =
    first_of-append (λ (z : Event). when (matches z b p u) (Some z.value)) (sent_by (e.from == a && nat_lt (plus t e.weight).time (suc g.until)) (plus t e.weight) e (at_port outputs e.output)) (sent g es a t outputs)
    ∙ ap₂ or_else
    (sent_is (e.from == a) (nat_lt (plus t e.weight).time (suc g.until)) (e.to == b && e.input == p) (same_tag (plus t e.weight) u) (nat_lt u.time (suc g.until)) e (plus t e.weight) u b p (at_port outputs e.output) refl refl
    (λ k. ap (λ (w : Tag). nat_lt w.time (suc g.until)) (same_tag-true (plus t e.weight) u k)))
    (going_is g es a t outputs b p u)
    ∙ sym (when_or_else (nat_lt u.time (suc g.until)) _ _)

swap_zero : (p : ℕ) → (0 == p) ≡ (p == 0)
swap_zero p = grind (arith, nat_tests)

row_one : (here zero_port same : Bool) (v : ℤ) → when ((here && zero_port) && same) (Some v) ≡ when here (when zero_port (when same (Some v)))
row_one here zero_port same v = when_and here zero_port same v

rows_are : (a : ℕ) (rows : List Row) (b p : ℕ) (t : Tag) → waits_of (row_events a rows) b p t ≡ when (a == b) (when (p == 0) (row_at rows t))
rows_are a [] b p t = sym (ap (when (a == b)) (when_none ℤ (p == 0)) ∙ when_none ℤ (a == b))
rows_are a (row ∷ rows) b p t =
    ap₂ or_else
    (ap (λ z. when ((a == b && z) && same_tag (at_time row.time) t) (Some row.value)) (swap_zero p) ∙ when_and (a == b) (p == 0) (same_tag (at_time row.time) t) row.value)
    (rows_are a rows b p t)
    ∙ sym (ap (when (a == b)) (when_or_else (p == 0) (when (same_tag (at_time row.time) t) (Some row.value)) (row_at rows t)) ∙ when_or_else (a == b) _ _)

starts_when : (within : Bool) (a start b p : ℕ) (t : Tag) → waits_of (start_when within a start) b p t ≡ when (a == b) (when (p == 0) (when (within && same_tag (at_time start) t) (Some (pos 0))))
starts_when true a start b p t =
    or_none _ ∙ ap (λ z. when ((a == b && z) && same_tag (at_time start) t) (Some (pos 0))) (swap_zero p) ∙ when_and (a == b) (p == 0) (same_tag (at_time start) t) (pos 0)
  where
    or_none : (o : Option ℤ) → or_else o None ≡ o
    or_none None = refl
    or_none (Some x) = refl
starts_when false a start b p t = sym (ap (when (a == b)) (when_none ℤ (p == 0)) ∙ when_none ℤ (a == b))

nothing_at : (a b p : ℕ) → ◌≡◌ {A = Option ℤ} None (when (a == b) (when (p == 0) None))
nothing_at a b p = sym (ap (when (a == b)) (when_none ℤ (p == 0)) ∙ when_none ℤ (a == b))

starts_are : (g : Graph) (a : ℕ) (kind : Kind) (b p : ℕ) (t : Tag) → waits_of (start_events g a kind) b p t ≡ when (a == b) (when (p == 0) (start_at g kind t))
starts_are g a (Every start period) b p t = starts_when (nat_lt start (suc g.until)) a start b p t
starts_are g a _ b p t = nothing_at a b p

-- the events of actor a
actor_is : (g : Graph) (rows : ℕ → List Row) (a b p : ℕ) (t : Tag) → waits_of (start_events g a (kind_of g a) ++ row_events a (rows a)) b p t ≡ when (a == b) (opening g rows b p t)
actor_is g rows a b p t =
    first_of-append (λ (z : Event). when (matches z b p t) (Some z.value)) (start_events g a (kind_of g a)) (row_events a (rows a))
    ∙ ap₂ or_else (starts_are g a (kind_of g a) b p t) (rows_are a (rows a) b p t)
    ∙ sym (when_or_else (a == b) (when (p == 0) (start_at g (kind_of g a) t)) (when (p == 0) (row_at (rows a) t)))
    ∙ ap (when (a == b)) (sym (when_or_else (p == 0) (start_at g (kind_of g a) t) (row_at (rows a) t)))
    ∙ by_actor (a == b) refl
  where
    by_actor : (s : Bool) → (a == b) ≡ s → when (a == b) (opening g rows a p t) ≡ when (a == b) (opening g rows b p t)
    by_actor true k = ap (λ c. when (a == b) (opening g rows c p t)) (eqb-true a b k)
    by_actor false k = subst (λ z. when z (opening g rows a p t) ≡ when z (opening g rows b p t)) (sym k) refl

start_below : (g : Graph) (rows : ℕ → List Row) (n b p : ℕ) (t : Tag) → waits_of (events_at_start g rows n) b p t ≡ when (nat_lt b n) (opening g rows b p t)
start_below g rows zero b p t = sym (ap (λ z. when z (opening g rows b p t)) (none_below b))
  where
    none_below : (k : ℕ) → nat_lt k 0 ≡ false
    none_below k = grind (arith, nat_tests)
start_below g rows (suc n) b p t =
    first_of-append (λ (z : Event). when (matches z b p t) (Some z.value)) (events_at_start g rows n) (start_events g n (kind_of g n) ++ row_events n (rows n))
    ∙ ap₂ or_else (start_below g rows n b p t) (actor_is g rows n b p t)
    ∙ join (nat_lt b n) (n == b) (opening g rows b p t)
    ∙ ap (λ z. when z (opening g rows b p t)) (more_below b n)
  where
    join : (c d : Bool) (o : Option ℤ) → or_else (when c o) (when d o) ≡ when (c || d) o
    join true true None = refl
    join true true (Some x) = refl
    join true false None = refl
    join true false (Some x) = refl
    join false d o = refl

    more_below : (k m : ℕ) → (nat_lt k m || (m == k)) ≡ nat_lt k (suc m)
    more_below k m = grind (arith, nat_tests)

past_actors : (xs : List Actor) (k : ℕ) → length xs ≤ k → slice_index_or xs k no_actor ≡ no_actor
past_actors [] k h = refl
past_actors (x ∷ xs) zero h = absurd (omega (arith, h))
past_actors (x ∷ xs) (suc k) h = past_actors xs k (omega (arith, h))

past_rows : (xs : List (List Row)) (k : ℕ) → length xs ≤ k → slice_index_or xs k [] ≡ []
past_rows [] k h = refl
past_rows (x ∷ xs) zero h = absurd (omega (arith, h))
past_rows (x ∷ xs) (suc k) h = past_rows xs k (omega (arith, h))

start_is : (g : Graph) (rows : ℕ → List Row) → ((a : ℕ) → length g.actors ≤ a → rows a ≡ []) → (b p : ℕ) (t : Tag) → waits_of (events_at_start g rows (length g.actors)) b p t ≡ opening g rows b p t
start_is g rows past b p t =
    start_below g rows (length g.actors) b p t
    ∙ ⊎_elim
    (λ (l : b < length g.actors). ap (λ z. when z (opening g rows b p t)) (below b (length g.actors) l))
    (λ (k : length g.actors ≤ b).
    ap (λ z. when z (opening g rows b p t)) (above b (length g.actors) k)
    ∙ sym (ap (λ (z : Kind). when (p == 0) (or_else (start_at g z t) (row_at (rows b) t))) (ap (λ (x : Actor). x.kind) (past_actors g.actors b k))
    ∙ ap (λ z. when (p == 0) (row_at z t)) (past b k) ∙ when_none ℤ (p == 0)))
    (cases_lt b (length g.actors))
  where
    below : (k n : ℕ) → k < n → nat_lt k n ≡ true
    below k n h = grind (arith, nat_tests)

    above : (k n : ℕ) → n ≤ k → nat_lt k n ≡ false
    above k n h = grind (arith, nat_tests)

-- a run is one of the definition
key_is : (t1 t2 r a u1 u2 s b : ℕ) → key_test t1 t2 r a u1 u2 s b ≡ true → (t1 ≤ u1) × (u1 ≤ t1 → (t2 ≤ u2) × (u2 ≤ t2 → (r ≤ s) × (s ≤ r → a ≤ b)))
key_is t1 t2 r a u1 u2 s b h = grind (arith, nat_tests)

all_are : (rank : ℕ → ℕ) (e : Event) (es : List Event) (f : Event) → all_after rank e es ≡ true → IsIn f es → not_after rank e f ≡ true
all_are rank e [] f h m = absurd m
all_are rank e (x ∷ es) f h m =
    let two = and_parts (not_after rank e x) (all_after rank e es) h in
    ⊎_elim (λ (same : f ≡ x). ap (not_after rank e) same ∙ two.0) (λ (on : IsIn f es). all_are rank e es f two.1 on) m

first_is : (rank : ℕ → ℕ) (e : Event) (es : List Event) → all_after rank e es ≡ true → IsFirst rank (waits_of es) e.actor e.tag
first_is rank e es h b p u v there =
    let f = first_of_found (λ (z : Event). when (matches z b p u) (Some z.value)) es v there in
    let two = and_parts (f.0.actor == b && f.0.port == p) (same_tag f.0.tag u) (when_found (matches f.0 b p u) (Some f.0.value) v f.2).0 in
    let actor : f.0.actor ≡ b = eqb-true f.0.actor b (and_parts (f.0.actor == b) (f.0.port == p) two.0).0 in
    let tag : f.0.tag ≡ u = same_tag-true f.0.tag u two.1 in
    subst (λ (w : Tag). NotAfter rank e.tag e.actor w b) tag
    (subst (λ k. NotAfter rank e.tag e.actor f.0.tag k) actor
    (key_is e.tag.time e.tag.step (rank e.actor) e.actor f.0.tag.time f.0.tag.step (rank f.0.actor) f.0.actor (all_are rank e es f.0 h f.1)))

abbrev world : List Event → (ℕ → ℤ) → World
world events states = record { waits = waits_of events; states = states }

world_after : (g : Graph) (events : List Event) (states : ℕ → ℤ) (x : ActorFiring) → world (after g events x) (put_state states x.actor x.after) ≡ after_firing g (world events states) x
world_after g events states x =
    let waits : ◌≡◌ {A = Values} (waits_of (after g events x)) (added (without (waits_of events) x.actor x.tag) (going g (edges g) (leaves_actor x.actor) x.tag x.outputs)) =
    λ i b p u. (first_of-append (λ (z : Event). when (matches z b p u) (Some z.value)) (dropped events x.actor x.tag) (sent g (edges g) x.actor x.tag x.outputs)
    ∙ ap₂ or_else (dropped_is events x.actor x.tag b p u) (going_is g (edges g) x.actor x.tag x.outputs b p u)) i in
    λ i. record { waits = waits i; states = put_state states x.actor x.after }

nothing_left : (g : Graph) (rank : ℕ → ℕ) (states : ℕ → ℤ) (xs : List ActorFiring) → Some [] ≡ Some xs → Runs g rank (world [] states) xs
nothing_left g rank states xs h = subst (Runs g rank (world [] states)) (none xs h) (λ a p t. refl)
  where
    none : (xs : List ActorFiring) → Some [] ≡ Some xs → [] ≡ xs
    none xs h = cc

onto_found : (x : ActorFiring) (o : Option (List ActorFiring)) (xs : List ActorFiring) → onto x o ≡ Some xs → (rest : List ActorFiring) × (o ≡ Some rest) × (x ∷ rest ≡ xs)
onto_found x None xs h = absurd (none_some xs h)
onto_found x (Some rest) xs h = (rest, refl, same (x ∷ rest) xs h)
  where
    same : (xs ys : List ActorFiring) → Some xs ≡ Some ys → xs ≡ ys
    same xs ys h = cc

pub run_is : (n : ℕ) (g : Graph) (rank : ℕ → ℕ) (events : List Event) (states : ℕ → ℤ) (xs : List ActorFiring) → run n g rank events states ≡ Some xs → Runs g rank (world events states) xs
run_is zero g rank [] states xs h = nothing_left g rank states xs h
run_is zero g rank (e ∷ es) states xs h = absurd (none_some xs h)
run_is (suc n) g rank [] states xs h = nothing_left g rank states xs h
run_is (suc n) g rank (e ∷ es) states xs h =
    let first = least rank e es in
    let x = fires g (e ∷ es) states first.actor first.tag in
    let found = when_found (all_after rank first (e ∷ es) && any_present x.inputs) (onto x (run n g rank (after g (e ∷ es) x) (put_state states x.actor x.after))) xs h in
    let tests = and_parts (all_after rank first (e ∷ es)) (any_present x.inputs) found.0 in
    let rest = onto_found x (run n g rank (after g (e ∷ es) x) (put_state states x.actor x.after)) xs found.1 in
    subst (Runs g rank (world (e ∷ es) states)) rest.2 (
      record { first = first_is rank first (e ∷ es) tests.0; inputs = refl; present = tests.1; before = refl; after = refl; outputs = refl },
      subst (λ w. Runs g rank w rest.0) (world_after g (e ∷ es) states x) (run_is n g rank (after g (e ∷ es) x) (put_state states x.actor x.after) rest.0 rest.1),
    )

-- the firings of a program, at most 200 of them
abbrev pub computed : Graph → List ℕ → List (List Row) → Option (List ActorFiring)
computed g ranks rows = run 200 g (ranks_of ranks) (events_at_start g (listed_rows rows) (length g.actors)) (λ a. first_state (kind_of g a))

-- the lines of a table, before they are text
abbrev act_of : ℕ → List ℕ → ActorFiring → List Acts
act_of a name x = if x.actor == a then record { name = name; time = x.tag.time; step = x.tag.step; value = or_zero (at_port x.inputs 0) } ∷ [] else []

abbrev acts_of : ℕ → List ℕ → List ActorFiring → List Acts
acts_of a name [] = []
acts_of a name (x ∷ xs) = act_of a name x ++ acts_of a name xs

abbrev acts_by : ℕ → List ℕ → Kind → List ActorFiring → List Acts
acts_by a name (Actuator slack) xs = acts_of a name xs
acts_by a name _ xs = []

abbrev pub acts_from : ℕ → List Actor → List ActorFiring → List Acts
acts_from a [] xs = []
acts_from a (actor ∷ more) xs = acts_by a actor.name actor.kind xs ++ acts_from (suc a) more xs

lines_append : (xs ys : List Acts) → lines_text (xs ++ ys) ≡ lines_text xs ++ lines_text ys
lines_append [] ys = refl
lines_append (x ∷ xs) ys = ap (λ z. line x.name (record { time = x.time; step = x.step }) x.value ++ z) (lines_append xs ys) ∙ sym (append_assoc (line x.name (record { time = x.time; step = x.step }) x.value) (lines_text xs) (lines_text ys))

line_is : (a : ℕ) (name : List ℕ) (x : ActorFiring) → line_of a name x ≡ lines_text (act_of a name x)
line_is a name x = by_actor (x.actor == a)
  where
    by_actor : (b : Bool) → (if b then line name x.tag (or_zero (at_port x.inputs 0)) else []) ≡ lines_text (if b then record { name = name; time = x.tag.time; step = x.tag.step; value = or_zero (at_port x.inputs 0) } ∷ [] else [])
    by_actor true = sym (append-nil (line name x.tag (or_zero (at_port x.inputs 0))))
    by_actor false = refl

lines_are : (a : ℕ) (name : List ℕ) (xs : List ActorFiring) → lines_of a name xs ≡ lines_text (acts_of a name xs)
lines_are a name [] = refl
lines_are a name (x ∷ xs) = ap₂ (λ y z. y ++ z) (line_is a name x) (lines_are a name xs) ∙ sym (lines_append (act_of a name x) (acts_of a name xs))

kind_is : (a : ℕ) (name : List ℕ) (kind : Kind) (xs : List ActorFiring) → table_of a name kind xs ≡ lines_text (acts_by a name kind xs)
kind_is a name (Actuator slack) xs = lines_are a name xs
kind_is a name _ xs = refl

from_is : (a : ℕ) (actors : List Actor) (xs : List ActorFiring) → tables_from a actors xs ≡ lines_text (acts_from a actors xs)
from_is a [] xs = refl
from_is a (actor ∷ more) xs = ap₂ (λ y z. y ++ z) (kind_is a actor.name actor.kind xs) (from_is (suc a) more xs) ∙ sym (lines_append (acts_by a actor.name actor.kind xs) (acts_from (suc a) more xs))

-- what is computed is what the program writes
pub worked : {g : Graph} {ranks : List ℕ} {rows : List (List Row)} {lines : List Acts} → nat_le (length rows) (length g.actors) ≡ true → computed g ranks rows ≡ Some (unwrap_or (computed g ranks rows) []) → acts_from 0 g.actors (unwrap_or (computed g ranks rows) []) ≡ lines → HasMeaningLines g ranks rows lines
worked {g} {ranks} {rows} {lines} few is table = record {
  firings = unwrap_or (computed g ranks rows) [];
  meaning = subst (λ w. Runs g (ranks_of ranks) w (unwrap_or (computed g ranks rows) [])) start (run_is 200 g (ranks_of ranks) (events_at_start g (listed_rows rows) (length g.actors)) (λ a. first_state (kind_of g a)) (unwrap_or (computed g ranks rows) []) is);
  table = ap (λ z. head ++ z) (from_is 0 g.actors (unwrap_or (computed g ranks rows) []) ∙ ap lines_text table);
}
  where
    up_to : (a b c : ℕ) → nat_le a b ≡ true → b ≤ c → a ≤ c
    up_to a b c h k = grind (arith, nat_tests)

    waits : ◌≡◌ {A = Values} (waits_of (events_at_start g (listed_rows rows) (length g.actors))) (opening g (listed_rows rows))
    waits = λ i b p t. start_is g (listed_rows rows) (λ a le. past_rows rows a (up_to (length rows) (length g.actors) a few le)) b p t i

    start : world (events_at_start g (listed_rows rows) (length g.actors)) (λ a. first_state (kind_of g a)) ≡ at_start g (listed_rows rows)
    start = λ i. record { waits = waits i; states = λ a. first_state (kind_of g a) }
