-- Steps are bounded by times and levels.
use Rattle.std.proofs.Common.{◌≡◌, append_assoc, ℕ, zero, suc, nat_lt, pos, ltb-true, ◌+◌, ◌*◌, ◌<◌, ◌≤◌, ◌==◌, ◌⊎◌, ◌≢◌, Bool, true, false, ◌&&◌, List, [], ◌∷◌, ◌++◌, Option, Some, None, ℤ, map, length, slice_get, arith, refl, sym, ap, subst, ◌∙◌, inl, inr, ⊎_elim, eqb-true, append-nil}
use Rattle.std.proofs.lemmas.Bool.{cases_Bool, and_parts, cond-true, cond-false}
use Rattle.pt_tags.specs.declared.tag.Tag.{Tag}
use Rattle.pt_tags.specs.declared.tag.Delay.{Delay}
use Rattle.pt_types.specs.declared.graph.Graph.{Graph}
use Rattle.pt_types.specs.declared.graph.Link.{Link}
use Rattle.pt_types.specs.declared.graph.Wire.{Wire}
use Rattle.pt_types.specs.declared.kind.Kind.{Kind}
use Rattle.pt_types.specs.declared.kind.Kind.TheVariants.{Every}
use Rattle.pt_types.specs.declared.graph.Unit.{Unit}
use Rattle.pt_tags.specs.Tags.{same_tag, Before}
use Rattle.pt_types.specs.Ports.{when, at_port}
use Rattle.pt_semantics.specs.Lists.{IsIn, Each}
use Rattle.pt_semantics.specs.Edges.{Edge, wires, links, of_wire, weight, of_link}
use Rattle.pt_types.specs.Lookups.{kind_of, platform_of}
use Rattle.pt_semantics.specs.Units.{source, at_output, unit_of, leaves_unit}
use Rattle.pt_semantics.specs.Behaviours.{Firing, Firings, Rising}
use Rattle.pt_semantics.specs.Cycles.{HasLevels}
use Rattle.pt_semantics.specs.Wired.{IsWired}
use Rattle.pt_types.specs.declared.rows.Row.{Row}
use Rattle.pt_semantics.specs.Meaning.{row_at, start_at, at_time, going}
use Rattle.pt_types.specs.declared.firing.Task.{Task}
use Rattle.pt_types.specs.declared.firing.Done.{Done}
use Rattle.pt_tags.specs.declared.message.Message.{Message}
use Rattle.pt_types.specs.declared.firing.OnLink.{OnLink}
use Rattle.pt_semantics.specs.Platform.{State, opened, raised}
use Rattle.pt_semantics.specs.History.{firing_by, claims_of, LegalOnTime}
use Rattle.pt_semantics.specs.Posting.{Posts, after_post, as_message}
use Rattle.pt_semantics.specs.Entering.{after_rows, due, not_due}
use Rattle.pt_semantics.specs.Taking.{IsOnTime, Takes, after_message, value_of, with_taken}
use Rattle.pt_semantics.specs.Bounds.{link_bound}
use Rattle.pt_semantics.specs.Closing.{CanClose, on_link, shut}
use Rattle.pt_semantics.specs.Ranks.{AreLevels}
use Rattle.pt_semantics.specs.Claiming.{Claims, after_claim, IsNext}
use Rattle.pt_semantics.specs.Orderly.{IsOrderly, FitsStep, InOrder, ComesAfter}
use Rattle.pt_semantics.specs.Turn.{IsTurn, Turn}
use Rattle.pt_semantics.specs.Linked.{all_sent, all_taken}
use Rattle.pt_tags.specs.declared.message.Message.TheVariants.{Event, End}
use Rattle.pt_semantics.specs.Rows.{FitsRow, FitRows}
use Rattle.pt_semantics.specs.Floor.{IsBounded, Bounded}
use Rattle.pt_laws.specs.HistoryTheorems.{StepsBounded, OutgoingOrderly, OutgoingOrderlyAfter}
use Rattle.pt_semantics.proofs.Acyclic.{levels_are_small}
use Rattle.pt_laws.proofs.Keeps.{open_list}
use Rattle.pt_laws.proofs.Steps.{Keeps, messages_of}
use Rattle.pt_laws.proofs.Walks.{on_time_history, posts_whole}
use Rattle.pt_semantics.proofs.Longest.{levels_grow}
use Rattle.pt_semantics.proofs.Tags.{same_tag-true}
use Rattle.pt_semantics.proofs.Lookups.{none_some, same_some, or_else_found, when_found, first_of_found, Each-in, IsIn-append_left, IsIn-append_right, same_part-true, cases_part}
use Rattle.pt_laws.proofs.Rows.{due_split}
use Rattle.pt_semantics.proofs.Floor.{going_found, put_same, put_other, put_none_found}
use Rattle.pt_semantics.proofs.Claiming.{more, more_found, event_found, without_found}
use Rattle.pt_laws.proofs.FloorHolds.{Sound, opened_sound}
use Rattle.pt_laws.proofs.Walk.{on_time_keeps}

-- a weight is whole microseconds, or one step
weight_form : (k : Kind) (o : ℕ) → ((weight k o).step ≡ 0) ⊎ (((weight k o).time ≡ 0) × ((weight k o).step ≡ 1))
weight_form (Kind.Delay d) o =
    ⊎_elim
    (λ (z : (d == 0) ≡ true). inr (subst (λ (w : Delay). (w.time ≡ 0) × (w.step ≡ 1)) (sym (cond-true (d == 0) (record { time = 0; step = 1 }) (record { time = d; step = 0 }) z)) (refl, refl)))
    (λ (z : (d == 0) ≡ false). inl (subst (λ (w : Delay). w.step ≡ 0) (sym (cond-false (d == 0) (record { time = 0; step = 1 }) (record { time = d; step = 0 }) z)) refl))
    (cases_Bool (d == 0))
weight_form (Every start period) o =
    ⊎_elim
    (λ (z : (o == 1) ≡ true). inl (subst (λ (w : Delay). w.step ≡ 0) (sym (cond-true (o == 1) (record { time = period; step = 0 }) (record { time = 0; step = 0 }) z)) refl))
    (λ (z : (o == 1) ≡ false). inl (subst (λ (w : Delay). w.step ≡ 0) (sym (cond-false (o == 1) (record { time = period; step = 0 }) (record { time = 0; step = 0 }) z)) refl))
    (cases_Bool (o == 1))
weight_form _ o = inl refl

wire_form : (g : Graph) (ws : List Wire) (e : Edge) → IsIn e (map (of_wire g) ws) → (e.weight.step ≡ 0) ⊎ ((e.weight.time ≡ 0) × (e.weight.step ≡ 1))
wire_form g [] e m = absurd m
wire_form g (w ∷ ws) e m =
    ⊎_elim
    (λ (s : e ≡ of_wire g w). subst (λ (d : Edge). (d.weight.step ≡ 0) ⊎ ((d.weight.time ≡ 0) × (d.weight.step ≡ 1))) (sym s) (weight_form (kind_of g w.from) w.output))
    (λ (r : IsIn e (map (of_wire g) ws)). wire_form g ws e r)
    m

-- along an edge the bound goes on
at_zero : (n time step lx la ws : ℕ) → step ≤ n * time + lx → lx < la → ws ≤ 1 → step + ws ≤ n * (time + 0) + la
at_zero n time step lx la ws h l w = omega arith

at_more : (n time step lx la ws w : ℕ) → step ≤ n * time + lx → lx ≤ n → ws ≡ 0 → step + ws ≤ n * (time + suc w) + la
at_more n time step lx la ws w h l z = omega arith

goes_on : (n time step lx la wt ws : ℕ) → step ≤ n * time + lx → lx ≤ n → (wt ≡ 0 → lx < la) → (ws ≡ 0) ⊎ ((wt ≡ 0) × (ws ≡ 1)) → step + ws ≤ n * (time + wt) + la
goes_on n time step lx la zero ws h small up form =
    at_zero n time step lx la ws h (up refl) (⊎_elim (λ (z : ws ≡ 0). omega arith) (λ (o : (zero ≡ 0) × (ws ≡ 1)). let e : ws ≡ 1 = o.1 in omega arith) form)
goes_on n time step lx la (suc w) ws h small up form =
    at_more n time step lx la ws w h small (⊎_elim (λ (z : ws ≡ 0). z) (λ (o : (suc w ≡ 0) × (ws ≡ 1)). let e : suc w ≡ 0 = o.0 in absurd (omega arith)) form)

module _ (g : Graph) (level : ℕ → ℕ) (i : ℕ) (wired : IsWired g) (levels : HasLevels g level) (small : (a : ℕ) → level a ≤ length g.actors) where
  post : (s : State) (up : Option ℕ) (c : Firings) (d : Done) → Sound g s up c → Bounded g level s c → s.busy (unit_of g d.task) ≡ Some d.task → Bounded g level (after_post g s d) c
  post s up c d h k busy = record {
    waits = λ a p t v found.
        ⊎_elim
        (λ (old : s.waits a p t ≡ Some v). k.waits a p t v old)
        (λ (new : going g (wires g) (leaves_unit g (unit_of g d.task)) d.task.tag d.fired.outputs a p t ≡ Some v).
        let went = going_found g (wires g) (leaves_unit g (unit_of g d.task)) d.task.tag d.fired.outputs a p t v new in
        let e : Edge = went.edge in
        let from : d.task.actor ≡ e.from = ap (λ (z : Unit). z.actor) (same_part-true (unit_of g d.task) (source g e) went.leaves_it) in
        let b = k.busy (unit_of g d.task) d.task busy in
        let up_level : e.weight.time ≡ 0 → level d.task.actor < level a = λ z. subst (λ x. level x < level a) (sym from) (subst (λ x. level e.from < level x) went.to (levels e (IsIn-append_left e (wires g) (links g) went.mem) z)) in
        let on = goes_on (length g.actors) d.task.tag.time d.task.tag.step (level d.task.actor) (level a) e.weight.time e.weight.step b.1 (small d.task.actor) up_level (wire_form g g.wires e went.mem) in
        (went.within, subst (λ (z : Tag). z.step ≤ length g.actors * z.time + level a) went.when_is on))
        (or_else_found (s.waits a p t) _ v found);
    busy = λ u task b. k.busy u task (put_none_found s.busy (unit_of g d.task) u task b);
    claims = k.claims;
  }

  enter : (s : State) (c : Firings) (r : ℕ) → Sound g s s.reading c → Bounded g level s c → Bounded g level (after_rows s r) c
  enter s c r h k = record {
    waits = λ a p t v found.
        ⊎_elim
        (λ (old : s.waits a p t ≡ Some v). k.waits a p t v old)
        (λ (new : when (p == 0) (row_at (due r (s.left a)) t) ≡ Some v).
        let y = first_of_found (λ (row : Row). when (same_tag (at_time row.time) t) (Some row.value)) (due r (s.left a)) v (when_found (p == 0) _ v new).1 in
        let tag : at_time y.0.time ≡ t = same_tag-true (at_time y.0.time) t (when_found (same_tag (at_time y.0.time) t) _ v y.2).0 in
        let fit : FitsRow g a y.0 = h.rest.fit a y.0 (subst (IsIn y.0) (due_split r (s.left a)) (IsIn-append_left y.0 (due r (s.left a)) (not_due r (s.left a)) y.1)) in
        subst (IsBounded g level a) tag (fit.within, omega arith))
        (or_else_found (s.waits a p t) _ v found);
    busy = k.busy;
    claims = k.claims;
  }

  message : (s : State) (up : Option ℕ) (c : Firings) (m : OnLink) (link : Link) → Sound g s up c → Bounded g level s c → slice_get g.links m.link ≡ Some link → IsOrderly g level link (s.taken m.link ++ m.message ∷ []) → Bounded g level (after_message s m.link link m.message) c
  message s up c m link h k at orderly = record {
    waits = λ a p t v found.
        ⊎_elim
        (λ (old : s.waits a p t ≡ Some v). k.waits a p t v old)
        (λ (new : when (a == link.to && p == 0) (value_of t m.message) ≡ Some v).
        let here = when_found (a == link.to && p == 0) (value_of t m.message) v new in
        let to : a ≡ link.to = eqb-true a link.to (and_parts (a == link.to) (p == 0) here.0).0 in
        let fits : FitsStep g.until (length g.actors) (level link.to) m.message = Each-in (FitsStep g.until (length g.actors) (level link.to)) (s.taken m.link ++ m.message ∷ []) orderly.1 m.message (IsIn-append_right m.message (s.taken m.link) (m.message ∷ []) (inl refl)) in
        subst (λ x. IsBounded g level x t) (sym to) (of_message m.message t v link.to here.1 fits))
        (or_else_found (s.waits a p t) _ v found);
    busy = k.busy;
    claims = k.claims;
  }
    where
      of_message : (n : Message) (t : Tag) (v : ℤ) (a : ℕ) → value_of t n ≡ Some v → FitsStep g.until (length g.actors) (level a) n → IsBounded g level a t
      of_message End t v a e f = absurd (none_some v e)
      of_message (Event u x) t v a e f = subst (IsBounded g level a) (same_tag-true u t (when_found (same_tag u t) (Some x) v e).0) f

  claim : (s : State) (up : Option ℕ) (c : Firings) (r : ℕ) (task : Task) → Sound g s up c → Bounded g level s c → IsNext g s r (unit_of g task) task → Bounded g level (after_claim g s (unit_of g task) task) (more c (unit_of g task) (firing_by g task))
  claim s up c r task h k next =
      let at = event_found g s.waits (unit_of g task) task.tag next.safe.event in
      let b : IsBounded g level task.actor task.tag = k.waits task.actor at.port task.tag at.value at.waits_there in
      record {
        waits = λ a p t v found. k.waits a p t v (without_found g s.waits (unit_of g task) task.tag a p t v found).0;
        busy = λ u other o.
            ⊎_elim
            (λ (here : unit_of g task ≡ u).
            let et : task ≡ other = same_some task other (sym (put_same s.busy (unit_of g task) u (Some task) here) ∙ o) in
            subst (λ (z : Task). IsBounded g level u.actor z.tag) et (subst (λ (z : Unit). IsBounded g level z.actor task.tag) here b))
            (λ (there : unit_of g task ≢ u). k.busy u other (sym (put_other s.busy (unit_of g task) u (Some task) there) ∙ o))
            (cases_part (unit_of g task) u);
        claims = λ u x mem.
            ⊎_elim
            (λ (old : IsIn x (c u)). k.claims u x old)
            (λ (new : (unit_of g task ≡ u) × (x ≡ firing_by g task)). subst (λ (z : Firing). IsBounded g level u.actor z.tag) (sym new.1) (subst (λ (z : Unit). IsBounded g level z.actor task.tag) new.0 b))
            (more_found c (unit_of g task) u (firing_by g task) x mem);
      }

starts : (g : Graph) (level : ℕ → ℕ) (a : ℕ) (k : Kind) (t : Tag) (v : ℤ) → start_at g k t ≡ Some v → IsBounded g level a t
starts g level a (Every start period) t v h =
    let two = and_parts (nat_lt start (suc g.until)) (same_tag (at_time start) t) (when_found (nat_lt start (suc g.until) && same_tag (at_time start) t) (Some (pos 0)) v h).0 in
    let lt : start < suc g.until = ltb-true start (suc g.until) two.0 in
    let le : start ≤ g.until = omega arith in
    subst (IsBounded g level a) (same_tag-true (at_time start) t two.1) (le, omega arith)
starts g level a _ t v h = absurd (none_some v h)

no_task : (task : Task) → None ≡ Some task → ⊥
no_task task e = cc

opened_bounded : (g : Graph) (level : ℕ → ℕ) (i : ℕ) (rows : ℕ → List Row) → Bounded g level (opened g i rows) (λ u. [])
opened_bounded g level i rows = record {
  waits = λ a p t v h. starts g level a (kind_of g a) t v (when_found (platform_of g a == i && p == 0) _ v h).1;
  busy = λ u task b. absurd (no_task task b);
  claims = λ u x mem. absurd mem;
}

on_time_bounded : (g : Graph) (level : ℕ → ℕ) (i : ℕ) (rows : ℕ → List Row) (turns : List Turn) (s : State) → IsWired g → HasLevels g level → ((a : ℕ) → level a ≤ length g.actors) → FitRows g rows → LegalOnTime g level i (opened g i rows) turns s → Bounded g level s (claims_of g turns)
on_time_bounded g level i rows turns s wired up small fits legal =
    on_time_keeps g level i wired up (λ x c. Bounded g level x c)
    (λ x u c d h k busy result. post g level i wired up small x u c d h k busy)
    (λ x c r h k. enter g level i wired up small x c r h k)
    (λ x u c m link h k at home timely orderly. message g level i wired up small x u c m link h k at orderly)
    (λ x c l m k. record { waits = k.waits; busy = k.busy; claims = k.claims })
    (λ x c r later k. record { waits = k.waits; busy = k.busy; claims = k.claims })
    (λ x u c r task reading h k next. claim g level i wired up small x u c r task h k next)
    (λ x c k. record { waits = k.waits; busy = k.busy; claims = k.claims })
    (λ x c rest k. record { waits = k.waits; busy = k.busy; claims = k.claims })
    turns (opened g i rows) s (λ u. []) (opened_sound g i rows fits) (opened_bounded g level i rows) legal

pub steps_bounded : StepsBounded
steps_bounded g level i rows turns s wired are fits legal =
    on_time_bounded g level i rows turns s wired (levels_grow g level are) (levels_are_small g level wired are) fits legal

-- a list that is empty or End alone
abbrev AtMostEnd : List Message → Type 0
AtMostEnd last = (last ≡ []) ⊎ (last ≡ End ∷ [])

each_last : (P : Message → Type 0) (last : List Message) → P End → AtMostEnd last → Each P last
each_last P last e form = ⊎_elim (λ (z : last ≡ []). subst (Each P) (sym z) tt) (λ (z : last ≡ End ∷ []). subst (Each P) (sym z) (e, tt)) form

-- the message of one more firing, before the rest
each_message : (P : Message → Type 0) (t : Tag) (o : Option ℤ) (ms last : List Message) → ((v : ℤ) → P (Event t v)) → Each P (ms ++ last) → Each P ((as_message t o ++ ms) ++ last)
each_message P t None ms last one rest = rest
each_message P t (Some v) ms last one rest = (one v, rest)

all_after : (t : Tag) (v : ℤ) (last : List Message) → AtMostEnd last → (ys : List Firing) → Each (λ (y : Firing). Before t y.tag) ys → Each (ComesAfter (Event t v)) (messages_of ys ++ last)
all_after t v last form [] h = each_last (ComesAfter (Event t v)) last tt form
all_after t v last form (y ∷ ys) h = each_message (ComesAfter (Event t v)) y.tag (at_port y.outputs 0) (messages_of ys) last (λ w. h.0) (all_after t v last form ys h.1)

order_message : (t : Tag) (o : Option ℤ) (ms last : List Message) → ((v : ℤ) → Each (ComesAfter (Event t v)) (ms ++ last)) → InOrder (ms ++ last) → InOrder ((as_message t o ++ ms) ++ last)
order_message t None ms last one rest = rest
order_message t (Some v) ms last one rest = (one v, rest)

-- messages of rising firings are in order, and End may follow
ordered : (xs : List Firing) (last : List Message) → Rising xs → AtMostEnd last → InOrder (messages_of xs ++ last)
ordered [] last r form = ⊎_elim (λ (e : last ≡ []). subst InOrder (sym e) tt) (λ (e : last ≡ End ∷ []). subst InOrder (sym e) (tt, tt)) form
ordered (x ∷ xs) last r form = order_message x.tag (at_port x.outputs 0) (messages_of xs) last (λ v. all_after x.tag v last form xs r.0) (ordered xs last r.1 form)

more_room : (n time step l m : ℕ) → l ≤ m → step ≤ n * time + l → step ≤ n * time + m
more_room n time step l m le k = omega arith

fitting : (g : Graph) (l m : ℕ) (xs : List Firing) (last : List Message) → l ≤ m → ((x : Firing) → IsIn x xs → (x.tag.time ≤ g.until) × (x.tag.step ≤ length g.actors * x.tag.time + l)) → AtMostEnd last → Each (FitsStep g.until (length g.actors) m) (messages_of xs ++ last)
fitting g l m [] last le h form = each_last (FitsStep g.until (length g.actors) m) last tt form
fitting g l m (x ∷ xs) last le h form =
    let k = h x (inl refl) in
    each_message (FitsStep g.until (length g.actors) m) x.tag (at_port x.outputs 0) (messages_of xs) last
    (λ v. (k.0, more_room (length g.actors) x.tag.time x.tag.step l m le k.1))
    (fitting g l m xs last le (λ y mem. h y (inr mem)) form)

front_each : (P : Firing → Type 0) (zs ys : List Firing) → Each P (zs ++ ys) → Each P zs
front_each P [] ys h = tt
front_each P (z ∷ zs) ys h = (h.0, front_each P zs ys h.1)

rising_front : (xs ys : List Firing) → Rising (xs ++ ys) → Rising xs
rising_front [] ys r = tt
rising_front (x ∷ xs) ys r = (front_each (λ (y : Firing). Before x.tag y.tag) xs ys r.0, rising_front xs ys r.1)

link_edge : (ls : List Link) (l : ℕ) (link : Link) → slice_get ls l ≡ Some link → IsIn (of_link link) (map of_link ls)
link_edge [] l link h = absurd (none_link link h)
  where
    none_link : (x : Link) → None ≡ Some x → ⊥
    none_link x e = cc
link_edge (x ∷ ls) zero link h = inl (ap of_link (sym (same_some x link h)))
link_edge (x ∷ ls) (suc l) link h = inr (link_edge ls l link h)

pub outgoing_orderly : OutgoingOrderly
outgoing_orderly g level i rows turns s wired are fits legal l link at home =
    let up = levels_grow g level are in
    let whole = on_time_history g level i rows wired up fits turns s legal in
    let bounded = on_time_bounded g level i rows turns s wired up (levels_are_small g level wired are) fits legal in
    let k = whole.keeps in
    let u : Unit = at_output g link.from 0 in
    let rises : Rising (k.q u) = rising_front (k.q u) (open_list g (s.busy u)) (subst Rising (k.chains.open_is u) (whole.sound.floor.rises u)) in
    let claims = λ (x : Firing) (mem : IsIn x (k.q u)). bounded.claims u x (subst (IsIn x) (sym (k.chains.open_is u)) (IsIn-append_left x (k.q u) (open_list g (s.busy u)) mem)) in
    let lower : level link.from < level link.to = up (of_link link) (IsIn-append_right (of_link link) (wires g) (links g) (link_edge g.links l link at)) refl in
    at_closed s.closed refl k u rises claims (omega arith)
  where
    at_closed : (b : Bool) → s.closed ≡ b → (k : Keeps g level i rows s (claims_of g turns) (λ m. all_sent m turns) (λ m. all_taken m turns)) (u : Unit) → Rising (k.q (at_output g link.from 0)) → ((x : Firing) → IsIn x (k.q (at_output g link.from 0)) → IsBounded g level link.from x.tag) → level link.from ≤ level link.to → IsOrderly g level link (all_sent l turns ++ s.outbox l)
    at_closed false e k u rises claims le =
        let same : all_sent l turns ++ s.outbox l ≡ messages_of (k.q (at_output g link.from 0)) ++ [] = k.out.while_open e l link at home ∙ sym (append-nil (messages_of (k.q (at_output g link.from 0)))) in
        subst (IsOrderly g level link) (sym same) (ordered (k.q (at_output g link.from 0)) [] rises (inl refl), fitting g (level link.from) (level link.to) (k.q (at_output g link.from 0)) [] le claims (inl refl))
    at_closed true e k u rises claims le =
        subst (IsOrderly g level link) (sym (k.out.once_shut e l link at home)) (ordered (k.q (at_output g link.from 0)) (End ∷ []) rises (inr refl), fitting g (level link.from) (level link.to) (k.q (at_output g link.from 0)) (End ∷ []) le claims (inr refl))

-- Pushing after a turn, a late one among them.

takes_outbox : (g : Graph) (level : ℕ → ℕ) (i : ℕ) (ms : List OnLink) (late : Bool) (s new : State) → Takes g level i s ms late new → new.outbox ≡ s.outbox
takes_outbox g level i [] late s new (none, e) = ap (λ (z : State). z.outbox) e
takes_outbox g level i (m ∷ ms) late s new (link, at, home, orderly, next) = ⊎_elim
    (λ (on : IsOnTime s.reading (link_bound g link) m.message × Takes g level i (after_message s m.link link m.message) ms late new). takes_outbox g level i ms late (after_message s m.link link m.message) new on.1)
    (λ (off : (IsOnTime s.reading (link_bound g link) m.message → ⊥) × (ms ≡ []) × (late ≡ true) × (new ≡ with_taken s m.link m.message)). ap (λ (z : State). z.outbox) off.3)
    next

nothing_claimed : (g : Graph) (r : ℕ) (tasks : List Task) (s new : State) → tasks ≡ [] → Claims g r s tasks new → new ≡ s
nothing_claimed g r [] s new none e = e
nothing_claimed g r (x ∷ tasks) s new none h = absurd (never x tasks none)
  where
    never : (x : Task) (xs : List Task) → x ∷ xs ≡ [] → ⊥
    never x xs e = cc

push_time : (g : Graph) (level : ℕ → ℕ) (i : ℕ) (turns : List Turn) (turn : Turn) (s mid new : State) → LegalOnTime g level i s turns mid → IsTurn g level i mid turn false new → LegalOnTime g level i s (turns ++ turn ∷ []) new
push_time g level i [] turn s mid new e is = (new, subst (λ z. IsTurn g level i z turn false new) e is, refl)
push_time g level i (x ∷ turns) turn s mid new (one, ix, rest) is = (one, ix, push_time g level i turns turn one mid new rest is)

sent_push : (l : ℕ) (turns : List Turn) (turn : Turn) → all_sent l (turns ++ turn ∷ []) ≡ all_sent l turns ++ on_link l turn.sent
sent_push l [] turn = append-nil (on_link l turn.sent)
sent_push l (x ∷ turns) turn = ap (λ z. on_link l x.sent ++ z) (sent_push l turns turn) ∙ sym (append_assoc (on_link l x.sent) (all_sent l turns) (on_link l turn.sent))

-- what is in an outbox after the posts of a turn is orderly with what was sent before
posted_orderly : (g : Graph) (level : ℕ → ℕ) (i : ℕ) (rows : ℕ → List Row) (turns : List Turn) (s new : State) (ds : List Done) → IsWired g → AreLevels g level → FitRows g rows → LegalOnTime g level i (opened g i rows) turns s → Posts g s ds new → (l : ℕ) (link : Link) → slice_get g.links l ≡ Some link → platform_of g link.from ≡ i → IsOrderly g level link (all_sent l turns ++ new.outbox l)
posted_orderly g level i rows turns s new ds wired are fits legal posts l link at home =
    let up = levels_grow g level are in
    let whole = posts_whole g level i rows wired up ds s new s.reading (claims_of g turns) (λ m. all_sent m turns) (λ m. all_taken m turns) (on_time_history g level i rows wired up fits turns s legal) posts in
    let bounded = on_time_bounded g level i rows turns s wired up (levels_are_small g level wired are) fits legal in
    let k = whole.keeps in
    let u : Unit = at_output g link.from 0 in
    let rises : Rising (k.q u) = rising_front (k.q u) (open_list g (new.busy u)) (subst Rising (k.chains.open_is u) (whole.sound.floor.rises u)) in
    let claims = λ (x : Firing) (mem : IsIn x (k.q u)). bounded.claims u x (subst (IsIn x) (sym (k.chains.open_is u)) (IsIn-append_left x (k.q u) (open_list g (new.busy u)) mem)) in
    let lower : level link.from < level link.to = up (of_link link) (IsIn-append_right (of_link link) (wires g) (links g) (link_edge g.links l link at)) refl in
    at_closed new.closed refl k rises claims (omega arith)
  where
    at_closed : (b : Bool) → new.closed ≡ b → (k : Keeps g level i rows new (claims_of g turns) (λ m. all_sent m turns) (λ m. all_taken m turns)) → Rising (k.q (at_output g link.from 0)) → ((x : Firing) → IsIn x (k.q (at_output g link.from 0)) → IsBounded g level link.from x.tag) → level link.from ≤ level link.to → IsOrderly g level link (all_sent l turns ++ new.outbox l)
    at_closed false e k rises claims le =
        let same : all_sent l turns ++ new.outbox l ≡ messages_of (k.q (at_output g link.from 0)) ++ [] = k.out.while_open e l link at home ∙ sym (append-nil (messages_of (k.q (at_output g link.from 0)))) in
        subst (IsOrderly g level link) (sym same) (ordered (k.q (at_output g link.from 0)) [] rises (inl refl), fitting g (level link.from) (level link.to) (k.q (at_output g link.from 0)) [] le claims (inl refl))
    at_closed true e k rises claims le =
        subst (IsOrderly g level link) (sym (k.out.once_shut e l link at home)) (ordered (k.q (at_output g link.from 0)) (End ∷ []) rises (inr refl), fitting g (level link.from) (level link.to) (k.q (at_output g link.from 0)) (End ∷ []) le claims (inr refl))

pub outgoing_orderly_after : OutgoingOrderlyAfter
outgoing_orderly_after g level i rows turns turn s new late wired are fits legal is l link at home = go late is
  where
    go : (late : Bool) → IsTurn g level i s turn late new → IsOrderly g level link (all_sent l turns ++ (on_link l turn.sent ++ new.outbox l))
    go false is =
        subst (IsOrderly g level link) (ap (λ z. z ++ new.outbox l) (sent_push l turns turn) ∙ append_assoc (all_sent l turns) (on_link l turn.sent) (new.outbox l))
        (outgoing_orderly g level i rows (turns ++ turn ∷ []) new wired are fits (push_time g level i turns turn (opened g i rows) s new legal is) l link at home)
    go true is =
        let ready : is.ready.outbox ≡ is.posted.outbox =
        ap (λ (z : State). z.outbox) (nothing_claimed g turn.last turn.claimed (raised is.got turn.last) is.ready (is.idle_if_late refl) is.claims)
        ∙ takes_outbox g level i turn.taken true (after_rows is.posted turn.last) is.got is.takes in
        let done : is.done.outbox ≡ is.ready.outbox = ⊎_elim
        (λ (shuts : CanClose g i is.ready turn.last × (true ≡ false) × (is.done ≡ shut g i is.ready)). absurd (differ shuts.1))
        (λ (stays : (CanClose g i is.ready turn.last → true ≡ true) × (is.done ≡ is.ready)). ap (λ (z : State). z.outbox) stays.1)
        is.closes in
        let same : is.posted.outbox l ≡ on_link l turn.sent ++ new.outbox l =
        sym (ap (λ (z : ℕ → List Message). z l) (done ∙ ready)) ∙ is.sends.2 l ∙ ap (λ z. on_link l turn.sent ++ z) (sym (ap (λ (z : State). z.outbox l) is.sends.1)) in
        subst (λ z. IsOrderly g level link (all_sent l turns ++ z)) same (posted_orderly g level i rows turns s is.posted turn.posted wired are fits legal is.posts l link at home)
      where
        differ : true ≡ false → ⊥
        differ e = cc
