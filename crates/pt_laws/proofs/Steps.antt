-- All that a platform keeps, through each step.
use Rattle.std.proofs.Common.{◌≡◌, ℕ, ◌+◌, ◌<◌, ◌≤◌, ◌==◌, Bool, true, false, ◌&&◌, List, [], ◌∷◌, ◌++◌, Option, Some, None, ℤ, flat_map, slice_get, arith, refl, sym, ap, ap₂, subst, ◌∙◌, inl, ⊎_elim, append-nil, append_assoc, eqb-true, eq-eqb, length, nat_lt, suc, pos}
use Rattle.std.proofs.lemmas.Bool.{cases_Bool, cases_eq, true≢false, cond-true, cond-false, and_parts}
use Rattle.std.specs.List.{cons_option}
use Rattle.pt_tags.specs.declared.tag.Tag.{Tag}
use Rattle.pt_types.specs.declared.graph.Graph.{Graph}
use Rattle.pt_types.specs.declared.graph.Link.{Link}
use Rattle.pt_types.specs.declared.kind.Kind.TheVariants.{Send, Every}
use Rattle.pt_types.specs.declared.graph.Unit.{Unit}
use Rattle.pt_semantics.specs.Lists.{or_else, IsIn}
use Rattle.pt_types.specs.Ports.{when, at_port}
use Rattle.pt_semantics.specs.Edges.{wires, links}
use Rattle.pt_types.specs.Lookups.{kind_of, platform_of}
use Rattle.pt_semantics.specs.Units.{at_input, at_output, source, first_port, unit_of, leaves_unit, HasEvent}
use Rattle.pt_types.specs.Groups.{input_group, output_group}
use Rattle.pt_types.specs.declared.firing.Fired.{Fired}
use Rattle.pt_semantics.specs.Firing.{fired}
use Rattle.pt_semantics.specs.Meaning.{Values, row_at, going, added, start_at, at_time}
use Rattle.pt_semantics.specs.Behaviours.{Firing, Firings}
use Rattle.pt_semantics.specs.Bounds.{bound_by, link_bound, bound_of}
use Rattle.pt_semantics.specs.Cycles.{HasLevels}
use Rattle.pt_semantics.specs.Wired.{IsWired}
use Rattle.pt_types.specs.declared.rows.Row.{Row}
use Rattle.pt_types.specs.declared.firing.Task.{Task}
use Rattle.pt_types.specs.declared.firing.Done.{Done}
use Rattle.pt_tags.specs.declared.message.Message.{Message}
use Rattle.pt_types.specs.declared.firing.OnLink.{OnLink}
use Rattle.pt_semantics.specs.Platform.{State, raised}
use Rattle.pt_semantics.specs.Claiming.{IsNext, after_claim}
use Rattle.pt_semantics.specs.Posting.{after_post, as_message, message_from}
use Rattle.pt_semantics.specs.Entering.{after_rows, due, not_due}
use Rattle.pt_semantics.specs.Taking.{after_message, IsOnTime}
use Rattle.pt_semantics.specs.Closing.{shut, unsent, CanClose, end_for, on_link}
use Rattle.pt_semantics.specs.History.{firing_by}
use Rattle.pt_semantics.specs.Orderly.{IsOrderly, FitsStep}
use Rattle.pt_tags.specs.declared.message.Message.TheVariants.{Event, End}
use Rattle.pt_semantics.specs.Floor.{Floor}
use Rattle.pt_semantics.specs.Rows.{FitsRow}
use Rattle.pt_types.specs.declared.kind.Kind.{Kind}
use Rattle.pt_tags.specs.Tags.{Before, plus, same_tag}
use Rattle.pt_semantics.proofs.Tags.{same_tag-true, Before-irrefl}
use Rattle.pt_laws.proofs.Flows.{flows}
use Rattle.pt_laws.proofs.Threads.{firing_at_absent}
use Rattle.pt_semantics.proofs.Words.{when-true, when-false}
use Rattle.pt_semantics.proofs.Lookups.{none_some, same_some, when_none, IsIn-append_left, IsIn-append_right, Each-in, when_found, first_of_found, or_else_found}
use Rattle.pt_laws.proofs.Rows.{due_split}
use Rattle.pt_semantics.proofs.Floor.{going_past, row_values, rows_past, message_values, message_past, bound_of_link}
use Rattle.pt_semantics.proofs.Claiming.{more, more_same, more_other, event_found, claimed_below, more_found}
use Rattle.pt_laws.proofs.FloorHolds.{Rest}
use Rattle.pt_laws.proofs.Held.{Held, held_arrive, held_claim, past_new}
use Rattle.pt_laws.proofs.Keeps.{Chains, chains_post, chains_claim, open_list}
use Rattle.pt_laws.proofs.Came.{Came, taken_more, taken_here, taken_there, came_post, came_rows, came_message}

-- the messages that a sender's firings are
abbrev pub messages_of : List Firing → List Message
messages_of xs = flat_map (λ (x : Firing). as_message x.tag (at_port x.outputs 0)) xs

pub messages_push : (xs : List Firing) (x : Firing) → messages_of (xs ++ x ∷ []) ≡ messages_of xs ++ as_message x.tag (at_port x.outputs 0)
messages_push [] x = append-nil (as_message x.tag (at_port x.outputs 0))
messages_push (y ∷ xs) x = ap (λ z. as_message y.tag (at_port y.outputs 0) ++ z) (messages_push xs x) ∙ sym (append_assoc (as_message y.tag (at_port y.outputs 0)) (messages_of xs) (as_message x.tag (at_port x.outputs 0)))

pub record Out (g : Graph) (i : ℕ) (closed : Bool) (outbox sent : ℕ → List Message) (q : Firings) : Type 0 where
  pub while_open : closed ≡ false → (l : ℕ) (link : Link) → slice_get g.links l ≡ Some link → platform_of g link.from ≡ i → sent l ++ outbox l ≡ messages_of (q (at_output g link.from 0))
  pub once_shut : closed ≡ true → (l : ℕ) (link : Link) → slice_get g.links l ≡ Some link → platform_of g link.from ≡ i → sent l ++ outbox l ≡ messages_of (q (at_output g link.from 0)) ++ End ∷ []

pub record IsShut (g : Graph) (i : ℕ) (s : State) : Type 0 where
  pub waits : (a p : ℕ) (t : Tag) → s.waits a p t ≡ None
  pub busy : (u : Unit) → s.busy u ≡ None
  pub left : (a : ℕ) → s.left a ≡ []
  pub late : (l : ℕ) (link : Link) → slice_get g.links l ≡ Some link → platform_of g link.to ≡ i → (r : ℕ) × (s.reading ≡ Some r) × (g.until + link_bound g link < r)

pub record Keeps (g : Graph) (level : ℕ → ℕ) (i : ℕ) (rows : ℕ → List Row) (s : State) (c : Firings) (sent tk : ℕ → List Message) : Type 0 where
  pub arr : Values
  pub q : Firings
  pub held : Held g s.waits c arr
  pub chains : Chains g s.busy s.states c q
  pub came : Came g i rows s.left s.taken arr q
  pub out : Out g i s.closed s.outbox sent q
  pub is_shut : s.closed ≡ true → IsShut g i s
  pub orderly : (l : ℕ) (link : Link) → slice_get g.links l ≡ Some link → IsOrderly g level link (s.taken l)
  pub taken_is : (l : ℕ) → s.taken l ≡ tk l
  -- an actor that begins by itself fires from its start on
  pub after_start : (u : Unit) (x : Firing) (start period : ℕ) → kind_of g u.actor ≡ Every start period → IsIn x (c u) → start ≤ x.tag.time

pub sender_unit : (g : Graph) (a p slack : ℕ) → kind_of g a ≡ Send slack → at_input g a p ≡ at_output g a 0
sender_unit g a p slack e =
    let same : input_group (kind_of g a) p ≡ output_group (kind_of g a) 0 = ap (λ k. input_group k p) e ∙ sym (ap (λ k. output_group k 0) e) in
    λ j. record { actor = a; group = same j }

pub out_post : (g : Graph) (i : ℕ) (closed : Bool) (outbox sent : ℕ → List Message) (q : Firings) (task : Task) (outputs : List (Option ℤ)) → IsWired g → (closed ≡ true → ⊥) → outputs ≡ (firing_by g task).outputs → Out g i closed outbox sent q → Out g i closed (λ l. outbox l ++ message_from (slice_get g.links l) task.actor task.tag outputs) sent (more q (unit_of g task) (firing_by g task))
out_post g i closed outbox sent q task outputs wired never same h = record {
  while_open = λ o l link at home.
      let from : message_from (slice_get g.links l) task.actor task.tag outputs ≡ message_from (Some link) task.actor task.tag outputs = ap (λ k. message_from k task.actor task.tag outputs) at in
      let send = wired.sends l link at in
      ap (λ z. sent l ++ (outbox l ++ z)) from
      ∙ sym (append_assoc (sent l) (outbox l) _)
      ∙ ap (λ z. z ++ message_from (Some link) task.actor task.tag outputs) (h.while_open o l link at home)
      ∙ ⊎_elim
      (λ (mine : link.from ≡ task.actor).
      let unit : unit_of g task ≡ at_output g link.from 0 = ap (λ b. at_input g b (first_port task.inputs)) (sym mine) ∙ sender_unit g link.from (first_port task.inputs) send.0 send.1 in
      ap (λ z. messages_of (q (at_output g link.from 0)) ++ z)
      (cond-true (link.from == task.actor) (as_message task.tag (at_port outputs 0)) [] (eq-eqb link.from task.actor mine)
      ∙ ap (λ o2. as_message task.tag (at_port o2 0)) same)
      ∙ sym (messages_push (q (at_output g link.from 0)) (firing_by g task))
      ∙ ap messages_of (sym (more_same q (unit_of g task) (at_output g link.from 0) (firing_by g task) unit)))
      (λ (other : link.from ≡ task.actor → ⊥).
      ap (λ z. messages_of (q (at_output g link.from 0)) ++ z) (cond-false (link.from == task.actor) (as_message task.tag (at_port outputs 0)) [] (not_same link.from task.actor other))
      ∙ append-nil (messages_of (q (at_output g link.from 0)))
      ∙ ap messages_of (sym (more_other q (unit_of g task) (at_output g link.from 0) (firing_by g task) (λ e. other (sym (ap (λ (v : Unit). v.actor) e))))))
      (cases_eq link.from task.actor);
  once_shut = λ o l link at home. absurd (never o);
}
  where
    not_same : (a b : ℕ) → (a ≡ b → ⊥) → (a == b) ≡ false
    not_same a b ne = ⊎_elim (λ (t : (a == b) ≡ true). absurd (ne (eqb-true a b t))) (λ (f : (a == b) ≡ false). f) (cases_Bool (a == b))

pub keeps_post : (g : Graph) (level : ℕ → ℕ) (i : ℕ) (rows : ℕ → List Row) (s : State) (c : Firings) (sent tk : ℕ → List Message) (d : Done) → IsWired g → HasLevels g level → Floor g s c → s.busy (unit_of g d.task) ≡ Some d.task → d.fired ≡ fired (kind_of g d.task.actor) d.task.state d.task.inputs → Keeps g level i rows s c sent tk → Keeps g level i rows (after_post g s d) c sent tk
keeps_post g level i rows s c sent tk d wired levels f busy result h = record {
  arr = added h.arr (going g (wires g) (leaves_unit g (unit_of g d.task)) d.task.tag d.fired.outputs);
  q = more h.q (unit_of g d.task) (firing_by g d.task);
  held = held_arrive g s.waits c h.arr _ h.held (past_new g c _ (going_past g level s c (unit_of g d.task) d.task d.fired.outputs levels f busy));
  chains = chains_post g s.busy s.states c h.q d.task d.fired.state h.chains busy (ap (λ (z : Fired). z.state) result);
  came = came_post g i rows s.left s.taken h.arr h.q (unit_of g d.task) (firing_by g d.task) d.fired.outputs wired (ap (λ (z : Fired). z.outputs) result) h.came;
  out = out_post g i s.closed s.outbox sent h.q d.task d.fired.outputs wired never (ap (λ (z : Fired). z.outputs) result) h.out;
  is_shut = λ e. absurd (never e);
  orderly = h.orderly;
  taken_is = h.taken_is;
  after_start = h.after_start;
}
  where
    never : s.closed ≡ true → ⊥
    never e = none_some d.task (sym ((h.is_shut e).busy (unit_of g d.task)) ∙ busy)

pub keeps_rows : (g : Graph) (level : ℕ → ℕ) (i : ℕ) (rows : ℕ → List Row) (s : State) (c : Firings) (sent tk : ℕ → List Message) (r : ℕ) → IsWired g → Floor g s c → Rest g s s.reading → Keeps g level i rows s c sent tk → Keeps g level i rows (after_rows s r) c sent tk
keeps_rows g level i rows s c sent tk r wired f rest h = record {
  arr = added h.arr (row_values (λ a. due r (s.left a)));
  q = h.q;
  held = held_arrive g s.waits c h.arr _ h.held (past_new g c _ (rows_past g s c (λ a. due r (s.left a)) f (λ a row m.
      let m2 : IsIn row (s.left a) = subst (IsIn row) (due_split r (s.left a)) (IsIn-append_left row (due r (s.left a)) (not_due r (s.left a)) m) in
      (rest.fit a row m2, λ p e. rest.unseen a row p m2 e))));
  chains = h.chains;
  came = came_rows g i rows s.left s.taken h.arr h.q r wired rest.fit h.came;
  out = h.out;
  is_shut = λ e.
      let k = h.is_shut e in
      record {
        waits = λ a p t.
            ap₂ or_else (k.waits a p t) (ap (λ z. when (p == 0) (row_at (due r z) t)) (k.left a)) ∙ when_none ℤ (p == 0);
        busy = k.busy;
        left = λ a. ap (not_due r) (k.left a);
        late = k.late;
      };
  orderly = h.orderly;
  taken_is = h.taken_is;
  after_start = h.after_start;
}

-- a message one more on what was taken
abbrev pub tk_more : (ℕ → List Message) → OnLink → ℕ → List Message
tk_more tk m k = tk k ++ on_link k (m ∷ [])

taken_as : (taken tk : ℕ → List Message) (m : OnLink) → ((l : ℕ) → taken l ≡ tk l) → (k : ℕ) → taken_more taken m.link m.message k ≡ tk_more tk m k
taken_as taken tk m same k =
    ⊎_elim
    (λ (e : k ≡ m.link).
    taken_here taken m.link k m.message e ∙ ap₂ (λ a b. a ++ b) (same k) (ap (λ o. cons_option o []) (sym (when-true (m.link == k) (Some m.message) (eq-eqb m.link k (sym e))))))
    (λ (ne : k ≡ m.link → ⊥).
    taken_there taken m.link k m.message ne ∙ same k ∙ sym (append-nil (tk k))
    ∙ ap (λ o. tk k ++ cons_option o []) (sym (when-false (m.link == k) (Some m.message) (⊎_elim (λ (t : (m.link == k) ≡ true). absurd (ne (sym (eqb-true m.link k t)))) (λ (f : (m.link == k) ≡ false). f) (cases_Bool (m.link == k))))))
    (cases_eq k m.link)

orderly_more : (g : Graph) (level : ℕ → ℕ) (taken : ℕ → List Message) (l : ℕ) (link : Link) (m : Message) → slice_get g.links l ≡ Some link → ((k : ℕ) (other : Link) → slice_get g.links k ≡ Some other → IsOrderly g level other (taken k)) → IsOrderly g level link (taken l ++ m ∷ []) → (k : ℕ) (other : Link) → slice_get g.links k ≡ Some other → IsOrderly g level other (taken_more taken l m k)
orderly_more g level taken l link m at h here k other atk =
    ⊎_elim
    (λ (e : k ≡ l).
    let same : link ≡ other = same_some link other (sym at ∙ ap (slice_get g.links) (sym e) ∙ atk) in
    let list : taken l ++ m ∷ [] ≡ taken_more taken l m k = ap (λ z. taken z ++ m ∷ []) (sym e) ∙ sym (taken_here taken l k m e) in
    subst (λ z. IsOrderly g level other z) list (subst (λ z. IsOrderly g level z (taken l ++ m ∷ [])) same here))
    (λ (ne : k ≡ l → ⊥). subst (λ z. IsOrderly g level other z) (sym (taken_there taken l k m ne)) (h k other atk))
    (cases_eq k l)

pub keeps_message : (g : Graph) (level : ℕ → ℕ) (i : ℕ) (rows : ℕ → List Row) (s : State) (c : Firings) (sent tk : ℕ → List Message) (m : OnLink) (link : Link) → IsWired g → Floor g s c → slice_get g.links m.link ≡ Some link → platform_of g link.to ≡ i → IsOrderly g level link (s.taken m.link ++ m.message ∷ []) → IsOnTime s.reading (link_bound g link) m.message → Keeps g level i rows s c sent tk → Keeps g level i rows (after_message s m.link link m.message) c sent (tk_more tk m)
keeps_message g level i rows s c sent tk m link wired f at home orderly timely h = record {
  arr = added h.arr (message_values link m.message);
  q = h.q;
  held = held_arrive g s.waits c h.arr _ h.held (past_new g c _ (message_past g s c m.link link m.message wired f at timely));
  chains = h.chains;
  came = came_message g i rows s.left s.taken h.arr h.q m.link link m.message wired at h.came;
  out = h.out;
  is_shut = λ e.
      let k = h.is_shut e in
      record {
        waits = λ a p t. ap₂ or_else (k.waits a p t) (nothing_new m.message k refl a p t);
        busy = k.busy;
        left = k.left;
        late = k.late;
      };
  orderly = orderly_more g level s.taken m.link link m.message at h.orderly orderly;
  taken_is = taken_as s.taken tk m h.taken_is;
  after_start = h.after_start;
}
  where
    too_late : (p until b : ℕ) (t : Tag) → until + b < p → p ≤ t.time + b → t.time ≤ until → ⊥
    too_late p until b t x y z = omega arith

    nothing_new : (n : Message) → IsShut g i s → m.message ≡ n → (a p : ℕ) (t : Tag) → message_values link m.message a p t ≡ None
    nothing_new End k e a p t = ap (λ n. message_values link n a p t) e ∙ when_none ℤ (a == link.to && p == 0)
    nothing_new (Event u v) k e a p t =
        let late = k.late m.link link at home in
        let on : IsOnTime (Some late.0) (link_bound g link) (Event u v) = subst (λ n. IsOnTime (Some late.0) (link_bound g link) n) e (subst (λ o. IsOnTime o (link_bound g link) m.message) late.1 timely) in
        let fits : FitsStep g.until (length g.actors) (level link.to) m.message = Each-in (FitsStep g.until (length g.actors) (level link.to)) (s.taken m.link ++ m.message ∷ []) orderly.1 m.message (IsIn-append_right m.message (s.taken m.link) (m.message ∷ []) (inl refl)) in
        let fits_u : FitsStep g.until (length g.actors) (level link.to) (Event u v) = subst (FitsStep g.until (length g.actors) (level link.to)) e fits in
        absurd (too_late late.0 g.until (link_bound g link) u late.2 on fits_u.0)

pub keeps_raise : (g : Graph) (level : ℕ → ℕ) (i : ℕ) (rows : ℕ → List Row) (s : State) (c : Firings) (sent tk : ℕ → List Message) (r : ℕ) → ((p : ℕ) → s.reading ≡ Some p → p ≤ r) → Keeps g level i rows s c sent tk → Keeps g level i rows (raised s r) c sent tk
keeps_raise g level i rows s c sent tk r up h = record {
  arr = h.arr;
  q = h.q;
  held = h.held;
  chains = h.chains;
  came = h.came;
  out = h.out;
  orderly = h.orderly;
  taken_is = h.taken_is;
  after_start = h.after_start;
  is_shut = λ e.
      let k = h.is_shut e in
      record {
        waits = k.waits;
        busy = k.busy;
        left = k.left;
        late = λ l link at home.
            let was = k.late l link at home in
            let le : was.0 ≤ r = up was.0 was.1 in
            let lt : g.until + link_bound g link < was.0 = was.2 in
            (r, refl, further (g.until + link_bound g link) was.0 r lt le);
      };
}
  where
    further : (a b d : ℕ) → a < b → b ≤ d → a < d
    further a b d x y = omega arith

pub every_bound : (g : Graph) (a start period : ℕ) → kind_of g a ≡ Every start period → bound_of g a ≡ None
every_bound g a start period e = ap (bound_by g a) e

pub start_time : (g : Graph) (k : Kind) (start period : ℕ) (t : Tag) (v : ℤ) → k ≡ Every start period → start_at g k t ≡ Some v → at_time start ≡ t
start_time g k start period t v e h =
    let at : start_at g (Every start period) t ≡ Some v = ap (λ z. start_at g z t) (sym e) ∙ h in
    same_tag-true (at_time start) t (and_parts (nat_lt start (suc g.until)) (same_tag (at_time start) t) (when_found (nat_lt start (suc g.until) && same_tag (at_time start) t) (Some (pos 0)) v at).0).1

-- what comes to such an actor comes at its start or later
pub every_later : (g : Graph) (i : ℕ) (rows left : ℕ → List Row) (taken : ℕ → List Message) (arr : Values) (c q : Firings) (a p start period : ℕ) (t : Tag) (v : ℤ) → IsWired g → kind_of g a ≡ Every start period → Came g i rows left taken arr q → ((u : Unit) (x : Firing) → IsIn x (q u) → IsIn x (c u)) → ((u : Unit) (x : Firing) (start period : ℕ) → kind_of g u.actor ≡ Every start period → IsIn x (c u) → start ≤ x.tag.time) → arr a p t ≡ Some v → start ≤ t.time
every_later g i rows left taken arr c q a p start period t v wired kind came sub later h =
    ⊎_elim
    (λ (s : when (platform_of g a == i && p == 0) (start_at g (kind_of g a) t) ≡ Some v).
    let e : at_time start ≡ t = start_time g (kind_of g a) start period t v kind (when_found (platform_of g a == i && p == 0) _ v s).1 in
    let time : start ≡ t.time = ap (λ (z : Tag). z.time) e in omega arith)
    (λ (f : flows g (wires g) q a p t ≡ Some v).
    let e = first_of_found _ (wires g) v (when_found (nat_lt t.time (suc g.until)) _ v f).1 in
    let ends = when_found (e.0.to == a && e.0.input == p) _ v e.2 in
    let to : e.0.to ≡ a = eqb-true e.0.to a (and_parts (e.0.to == a) (e.0.input == p) ends.0).0 in
    let y = first_of_found _ (q (source g e.0)) v ends.1 in
    let tag : plus y.0.tag e.0.weight ≡ t = same_tag-true (plus y.0.tag e.0.weight) t (when_found _ _ v y.2).0 in
    let loop = wired.loops e.0 start period (IsIn-append_left e.0 (wires g) (links g) e.1) (ap (kind_of g) to ∙ kind) in
    let old : start ≤ y.0.tag.time = later (source g e.0) y.0 start period (ap (kind_of g) (loop.0 ∙ to) ∙ kind) (sub (source g e.0) y.0 y.1) in
    let sum : y.0.tag.time + e.0.weight.time ≡ t.time = ap (λ (z : Tag). z.time) tag in omega arith)
    (or_else_found _ _ v (sym (came.inner a p t (every_bound g a start period kind)) ∙ h))

pub posted_claimed : (g : Graph) (busy : Unit → Option Task) (states : ℕ → ℤ) (c q : Firings) → Chains g busy states c q → (u : Unit) (x : Firing) → IsIn x (q u) → IsIn x (c u)
posted_claimed g busy states c q h u x mem = subst (IsIn x) (sym (h.open_is u)) (IsIn-append_left x (q u) (open_list g (busy u)) mem)

-- what waits and was not claimed came
pub waits_came : (g : Graph) (waits : Values) (c : Firings) (arr : Values) (a p : ℕ) (t : Tag) (v : ℤ) → Held g waits c arr → p < 8 → ((x : Firing) → IsIn x (c (at_input g a p)) → x.tag ≡ t → ⊥) → waits a p t ≡ Some v → arr a p t ≡ Some v
waits_came g waits c arr a p t v h lt never w = sym (h.fresh a p t lt (firing_at_absent (c (at_input g a p)) t never)) ∙ w

claim_after_start : (g : Graph) (level : ℕ → ℕ) (i : ℕ) (rows : ℕ → List Row) (s : State) (c : Firings) (sent tk : ℕ → List Message) (task : Task) → IsWired g → Floor g s c → HasEvent g s.waits (unit_of g task) task.tag → Keeps g level i rows s c sent tk → (u : Unit) (x : Firing) (start period : ℕ) → kind_of g u.actor ≡ Every start period → IsIn x (more c (unit_of g task) (firing_by g task) u) → start ≤ x.tag.time
claim_after_start g level i rows s c sent tk task wired f event h u x start period kind mem =
    ⊎_elim
    (λ (old : IsIn x (c u)). h.after_start u x start period kind old)
    (λ (new : (unit_of g task ≡ u) × (x ≡ firing_by g task)).
    let at = event_found g s.waits (unit_of g task) task.tag event in
    let kind_t : kind_of g task.actor ≡ Every start period = ap (λ (v : Unit). kind_of g v.actor) new.0 ∙ kind in
    let came : h.arr task.actor at.port task.tag ≡ Some at.value =
    waits_came g s.waits c h.arr task.actor at.port task.tag at.value h.held at.below
    (λ y m e. Before-irrefl task.tag (subst (λ z. Before z task.tag) e (claimed_below g s c (unit_of g task) task.tag y f event (subst (λ z. IsIn y (c z)) at.unit m))))
    at.waits_there in
    subst (λ (z : Firing). start ≤ z.tag.time) (sym new.1)
    (every_later g i rows s.left s.taken h.arr c h.q task.actor at.port start period task.tag at.value wired kind_t h.came (posted_claimed g s.busy s.states c h.q h.chains) h.after_start came))
    (more_found c (unit_of g task) u (firing_by g task) x mem)

pub keeps_claim : (g : Graph) (level : ℕ → ℕ) (i : ℕ) (rows : ℕ → List Row) (s : State) (c : Firings) (sent tk : ℕ → List Message) (r : ℕ) (task : Task) → IsWired g → Floor g s c → IsNext g s r (unit_of g task) task → Keeps g level i rows s c sent tk → Keeps g level i rows (after_claim g s (unit_of g task) task) (more c (unit_of g task) (firing_by g task)) sent tk
keeps_claim g level i rows s c sent tk r task wired f next h = record {
  arr = h.arr;
  q = h.q;
  held = held_claim g s.waits c h.arr (unit_of g task) task h.held (λ x m. claimed_below g s c (unit_of g task) task.tag x f next.safe.event m) next.inputs;
  chains = chains_claim g s c h.q task h.chains next.safe.free next.safe.event next.inputs next.state;
  came = h.came;
  out = h.out;
  orderly = h.orderly;
  taken_is = h.taken_is;
  after_start = claim_after_start g level i rows s c sent tk task wired f next.safe.event h;
  is_shut = λ e.
      let at = event_found g s.waits (unit_of g task) task.tag next.safe.event in
      absurd (none_some at.value (sym ((h.is_shut e).waits task.actor at.port task.tag) ∙ at.waits_there));
}

pub end_for_link : (g : Graph) (i : ℕ) (l : ℕ) (link : Link) → slice_get g.links l ≡ Some link → platform_of g link.from ≡ i → end_for g i (slice_get g.links l) ≡ End ∷ []
end_for_link g i l link at home = ap (end_for g i) at ∙ cond-true (platform_of g link.from == i) (End ∷ []) [] (eq-eqb (platform_of g link.from) i home)

pub keeps_shut : (g : Graph) (level : ℕ → ℕ) (i : ℕ) (rows : ℕ → List Row) (s : State) (c : Firings) (sent tk : ℕ → List Message) (r : ℕ) → IsWired g → s.reading ≡ Some r → Rest g s (Some r) → CanClose g i s r → Keeps g level i rows s c sent tk → Keeps g level i rows (shut g i s) c sent tk
keeps_shut g level i rows s c sent tk r wired reading rest can h = record {
  arr = h.arr;
  q = h.q;
  held = h.held;
  chains = h.chains;
  came = h.came;
  orderly = h.orderly;
  taken_is = h.taken_is;
  after_start = h.after_start;
  out = record {
    while_open = λ e l link at home. absurd (true≢false e);
    once_shut = λ e l link at home.
        sym (append_assoc (sent l) (s.outbox l) (end_for g i (slice_get g.links l)))
        ∙ ap₂ (λ a b. a ++ b) (h.out.while_open can.was_open l link at home) (end_for_link g i l link at home);
  };
  is_shut = λ e. record {
    waits = can.nothing_waits;
    busy = can.nothing_open;
    left = λ a. nothing_left a (s.left a) refl;
    late = λ l link at home. (r, reading, can.bounds link.to (link_bound g link) home (bound_of_link g l link wired at));
  };
}
  where
    seen_late : (r seen time b until : ℕ) → r < seen → seen ≤ time + b → time ≤ until → until + b < r → ⊥
    seen_late r seen time b until w x y z = omega arith

    nil_end : (xs : List Row) (row : Row) (ys : List Row) → xs ++ row ∷ ys ≡ [] → ⊥
    nil_end [] row ys e = cc
    nil_end (x ∷ xs) row ys e = cc

    nothing_left : (a : ℕ) (xs : List Row) → s.left a ≡ xs → s.left a ≡ []
    nothing_left a [] e = e
    nothing_left a (row ∷ xs) e =
        let m : IsIn row (s.left a) = subst (IsIn row) (sym e) (inl refl) in
        let fits : FitsRow g a row = rest.fit a row m in
        ⊎_elim
        (λ (home : (platform_of g a == i) ≡ true).
        absurd (seen_late r row.seen row.time fits.bound g.until (rest.unseen a row r m refl) fits.in_time fits.within
        (can.bounds a fits.bound (eqb-true (platform_of g a) i home) (ap (bound_by g a) fits.sensor))))
        (λ (away : (platform_of g a == i) ≡ false).
        absurd (nil_end (h.came.entered a) row xs (ap (λ z. h.came.entered a ++ z) (sym e) ∙ h.came.split a ∙ cond-false (platform_of g a == i) (rows a) [] away)))
        (cases_Bool (platform_of g a == i))

abbrev pub sent_more : (ℕ → List Message) → List OnLink → ℕ → List Message
sent_more sent xs l = sent l ++ on_link l xs

pub keeps_send : (g : Graph) (level : ℕ → ℕ) (i : ℕ) (rows : ℕ → List Row) (s : State) (c : Firings) (sent tk : ℕ → List Message) (xs : List OnLink) (rest : ℕ → List Message) → ((l : ℕ) → s.outbox l ≡ on_link l xs ++ rest l) → Keeps g level i rows s c sent tk → Keeps g level i rows (unsent s rest) c (sent_more sent xs) tk
keeps_send g level i rows s c sent tk xs rest fronts h = record {
  arr = h.arr;
  q = h.q;
  held = h.held;
  chains = h.chains;
  came = h.came;
  orderly = h.orderly;
  taken_is = h.taken_is;
  after_start = h.after_start;
  out = record {
    while_open = λ e l link at home. moved l ∙ h.out.while_open e l link at home;
    once_shut = λ e l link at home. moved l ∙ h.out.once_shut e l link at home;
  };
  is_shut = λ e. let k = h.is_shut e in record { waits = k.waits; busy = k.busy; left = k.left; late = k.late };
}
  where
    moved : (l : ℕ) → sent_more sent xs l ++ rest l ≡ sent l ++ s.outbox l
    moved l = append_assoc (sent l) (on_link l xs) (rest l) ∙ ap (λ z. sent l ++ z) (sym (fronts l))
