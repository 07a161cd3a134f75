-- Whatever a platform has still to do in a paced run has its paced reading no sooner than the common one.
use Rattle.std.proofs.Common.{◌≡◌, ℕ, ◌+◌, ◌<◌, ◌≤◌, ◌==◌, ◌≢◌, Bool, true, false, ◌&&◌, List, [], ◌∷◌, ◌++◌, Option, Some, None, ℤ, pos, ◌+ℤ◌, ◌-ℤ◌, ◌≤ℤ◌, slice_get, arith, refl, sym, ap, subst, ◌∙◌, inl, inr, ⊎_elim, eqb-true, append-nil}
use Rattle.std.proofs.lemmas.Bool.{and_parts, cases_Bool, cond-true, cond-false}
use Rattle.std.proofs.lemmas.Int.{ints}
use Rattle.std.specs.List.{cons_option}
use Rattle.pt_types.specs.declared.graph.Graph.{Graph}
use Rattle.pt_types.specs.declared.graph.Link.{Link}
use Rattle.pt_tags.specs.declared.tag.Tag.{Tag}
use Rattle.pt_types.specs.declared.graph.Unit.{Unit}
use Rattle.pt_tags.specs.Tags.{plus, same_tag}
use Rattle.pt_types.specs.Ports.{when, at_port}
use Rattle.pt_semantics.specs.Lists.{IsIn, Each}
use Rattle.pt_semantics.specs.Edges.{Edge, wires}
use Rattle.pt_types.specs.Lookups.{platform_of}
use Rattle.pt_semantics.specs.Units.{source, target, at_input, at_output, unit_of, first_port, leaves_unit}
use Rattle.pt_semantics.specs.Ranks.{sum_along}
use Rattle.pt_semantics.specs.Bounds.{Feeds, bound_by, link_bound}
use Rattle.pt_semantics.specs.Wired.{IsWired}
use Rattle.pt_semantics.specs.Offsets.{HasOffset}
use Rattle.pt_types.specs.declared.rows.Row.{Row}
use Rattle.pt_semantics.specs.Meaning.{row_at, at_time, going}
use Rattle.pt_types.specs.declared.firing.Task.{Task}
use Rattle.pt_types.specs.declared.firing.Done.{Done}
use Rattle.pt_tags.specs.declared.message.Message.{Message}
use Rattle.pt_types.specs.declared.firing.OnLink.{OnLink}
use Rattle.pt_semantics.specs.Platform.{State, raised}
use Rattle.pt_semantics.specs.Turn.{Turn, IsTurn}
use Rattle.pt_semantics.specs.Safe.{IsSafe}
use Rattle.pt_semantics.specs.Claiming.{IsNext, Claims, after_claim}
use Rattle.pt_semantics.specs.Posting.{Posts, after_post, message_from, as_message}
use Rattle.pt_semantics.specs.Taking.{Takes, after_message, with_taken, value_of, IsOnTime}
use Rattle.pt_semantics.specs.Closing.{CanClose, shut, end_for, on_link}
use Rattle.pt_semantics.specs.Entering.{after_rows, due, not_due}
use Rattle.pt_tags.specs.declared.message.Message.TheVariants.{Event, End}
use Rattle.pt_semantics.specs.Rows.{FitsRow}
use Rattle.pt_semantics.specs.Paced.{paced_by, at_least_zero}
use Rattle.pt_semantics.proofs.Tags.{same_tag-true}
use Rattle.pt_semantics.proofs.Words.{when-true, when-false}
use Rattle.pt_semantics.proofs.Lookups.{none_some, same_some, or_else_found, when_found, first_of_found, IsIn-append, IsIn-append_left, IsIn-append_right, same_part-true, cases_part}
use Rattle.pt_laws.proofs.Rows.{due_split}
use Rattle.pt_semantics.proofs.Floor.{going_found, end_is, put_none_found, put_same, put_other, sensor_unit}
use Rattle.pt_semantics.proofs.Claiming.{event_found, without_found}
use Rattle.pt_laws.proofs.Steps.{sender_unit}
use Rattle.pt_laws.proofs.PacedClosed.{along_wire, past_bound, there, zero_below}

-- on the links that don't lead from platform i
abbrev pub IsForeign : Graph → ℕ → ℕ → Type 0
IsForeign g i l = (link : Link) → slice_get g.links l ≡ Some link → platform_of g link.from ≡ i → ⊥

-- what platform i has still to do is its own, and not before reading c
pub record Later (g : Graph) (offset : Unit → Option ℤ) (c i : ℕ) (s : State) : Type 0 where
  pub waits : (a p : ℕ) (t : Tag) (v : ℤ) → s.waits a p t ≡ Some v → (platform_of g a ≡ i) × (c ≤ paced_by (offset (at_input g a p)) t)
  pub busy : (u : Unit) (task : Task) → s.busy u ≡ Some task → (platform_of g u.actor ≡ i) × (c ≡ paced_by (offset u) task.tag)
  pub left : (a : ℕ) (row : Row) → IsIn row (s.left a) → FitsRow g a row × (platform_of g a ≡ i) × (c ≤ row.seen)
  pub outbox : (l : ℕ) (link : Link) (t : Tag) (v : ℤ) → slice_get g.links l ≡ Some link → IsIn (Event t v) (s.outbox l) → c ≤ paced_by (offset (at_output g link.from 0)) t
  pub foreign : (l : ℕ) → IsForeign g i l → s.outbox l ≡ []
  pub reading : (p : ℕ) → s.reading ≡ Some p → p ≤ c

-- a unit is safe no sooner than its paced reading
at_most_reading : (r : ℕ) (z : ℤ) → z ≤ℤ pos r → at_least_zero z ≤ r
at_most_reading r z h = zero_below z (pos r) h

pub safe_when_paced : (g : Graph) (s : State) (r : ℕ) (u : Unit) (t : Tag) (o : Option ℤ) → HasOffset g u o → IsSafe g s.waits s.busy r u t → paced_by o t ≤ r
safe_when_paced g s r u t None has safe = omega arith
safe_when_paced g s r u t (Some o) has safe =
    let w = has.some in
    let met : t.time + w.1 < r + (sum_along w.2).time = safe.bounds w.0 w.1 w.2 w.3 in
    at_most_reading r ((pos t.time +ℤ o) +ℤ pos 1) (step t.time w.1 (sum_along w.2).time r o w.4 met)
  where
    step : (t b d r : ℕ) (o : ℤ) → (pos b -ℤ pos d) ≡ o → t + b < r + d → ((pos t +ℤ o) +ℤ pos 1) ≤ℤ pos r
    step t b d r o e h = omega (arith, ints)

-- a sensor's row has its paced reading past the time at which it can be seen
pub row_when_paced : (g : Graph) (a p : ℕ) (row : Row) (o : Option ℤ) → FitsRow g a row → HasOffset g (at_input g a p) o → row.seen ≤ paced_by o (at_time row.time)
row_when_paced g a p row o fit has =
    let feeds : Feeds g a fit.bound [] (at_input g a p) = record { bound = ap (bound_by g a) fit.sensor; goes = sym (sensor_unit g fit.file a p fit.bound fit.sensor) } in
    let k = there g (at_input g a p) o has a fit.bound [] feeds in
    let in_time : row.seen ≤ row.time + fit.bound = fit.in_time in
    subst (λ z. row.seen ≤ paced_by z (at_time row.time)) (sym k.1)
    (zero_below (pos row.seen) ((pos row.time +ℤ k.0) +ℤ pos 1) (step row.time fit.bound row.seen k.0 k.2 in_time))
  where
    step : (t b n : ℕ) (r : ℤ) → (pos b -ℤ pos 0) ≤ℤ r → n ≤ t + b → pos n ≤ℤ ((pos t +ℤ r) +ℤ pos 1)
    step t b n r h k = omega (arith, ints)

pub as_le : (a b : ℕ) → a ≡ b → a ≤ b
as_le a b e = omega arith

on_time_of : (c bound : ℕ) (o : Option ℕ) (m : Message) → ((p : ℕ) → o ≡ Some p → p ≤ c) → ((t : Tag) (v : ℤ) → m ≡ Event t v → c ≤ t.time + bound) → IsOnTime o bound m
on_time_of c bound None m h k = tt
on_time_of c bound (Some p) End h k = tt
on_time_of c bound (Some p) (Event t v) h k = let a : p ≤ c = h p refl in let b : c ≤ t.time + bound = k t v refl in omega arith

one_message : (t u : Tag) (v : ℤ) (o : Option ℤ) → IsIn (Event t v) (as_message u o) → u ≡ t
one_message t u v None m = absurd m
one_message t u v (Some w) m = ⊎_elim (λ (e : Event t v ≡ Event u w). sym (same_event t u v w e)) (λ (n : ⊥). absurd n) m
  where
    same_event : (t u : Tag) (v w : ℤ) → Event t v ≡ Event u w → t ≡ u
    same_event t u v w e = cc

no_event_end : (g : Graph) (i : ℕ) (o : Option Link) (t : Tag) (v : ℤ) → IsIn (Event t v) (end_for g i o) → ⊥
no_event_end g i None t v m = m
no_event_end g i (Some link) t v m =
    ⊎_elim
    (λ (h : (platform_of g link.from == i) ≡ true). is_end (subst (IsIn (Event t v)) (cond-true (platform_of g link.from == i) (End ∷ []) [] h) m))
    (λ (h : (platform_of g link.from == i) ≡ false). let none : IsIn (Event t v) [] = subst (IsIn (Event t v)) (cond-false (platform_of g link.from == i) (End ∷ []) [] h) m in none)
    (cases_Bool (platform_of g link.from == i))
  where
    is_end : IsIn (Event t v) (End ∷ []) → ⊥
    is_end n = ⊎_elim (λ (e : Event t v ≡ End). not_end t v e) (λ (k : ⊥). k) n
      where
        not_end : (t : Tag) (v : ℤ) → Event t v ≡ End → ⊥
        not_end t v e = cc

pub cons_in : (o : Option Message) (ms : List Message) (m : Message) → IsIn m ms → IsIn m (cons_option o ms)
cons_in None ms m h = h
cons_in (Some x) ms m h = inr h

pub in_on_link : (x : OnLink) (ms : List OnLink) → IsIn x ms → IsIn x.message (on_link x.link ms)
in_on_link x [] m = absurd m
in_on_link x (y ∷ ms) m =
    ⊎_elim
    (λ (e : x ≡ y).
    subst (λ (z : OnLink). IsIn x.message (cons_option (when (z.link == x.link) (Some z.message)) (on_link x.link ms))) e
    (subst (λ o. IsIn x.message (cons_option o (on_link x.link ms))) (sym (when-true (x.link == x.link) (Some x.message) (same_ℕ x.link))) (inl refl)))
    (λ (n : IsIn x ms). cons_in (when (y.link == x.link) (Some y.message)) (on_link x.link ms) x.message (in_on_link x ms n))
    m
  where
    same_ℕ : (n : ℕ) → (n == n) ≡ true
    same_ℕ n = grind arith

message_none : (o : Option Link) (a : ℕ) (t : Tag) (outputs : List (Option ℤ)) → ((link : Link) → o ≡ Some link → link.from ≡ a → ⊥) → message_from o a t outputs ≡ []
message_none None a t outputs f = refl
message_none (Some link) a t outputs f =
    cond-false (link.from == a) (as_message t (at_port outputs 0)) []
    (⊎_elim (λ (e : (link.from == a) ≡ true). absurd (f link refl (eqb-true link.from a e))) (λ (e : (link.from == a) ≡ false). e) (cases_Bool (link.from == a)))

nil_right : (a b : List Message) → a ++ b ≡ [] → b ≡ []
nil_right [] b e = e
nil_right (x ∷ a) b e = absurd (never x (a ++ b) e)
  where
    never : (x : Message) (c : List Message) → x ∷ c ≡ [] → ⊥
    never x c h = cc

module _ (g : Graph) (offset : Unit → Option ℤ) (has : (u : Unit) → HasOffset g u (offset u)) (wired : IsWired g) (c i : ℕ) where
  later_post : (s : State) (d : Done) → Later g offset c i s → s.busy (unit_of g d.task) ≡ Some d.task → Later g offset c i (after_post g s d)
  later_post s d k busy = record {
    waits = λ a p t v found.
        ⊎_elim
        (λ (old : s.waits a p t ≡ Some v). k.waits a p t v old)
        (λ (new : going g (wires g) (leaves_unit g (unit_of g d.task)) d.task.tag d.fired.outputs a p t ≡ Some v).
        let went = going_found g (wires g) (leaves_unit g (unit_of g d.task)) d.task.tag d.fired.outputs a p t v new in
        let e : Edge = went.edge in
        let open_here = k.busy (unit_of g d.task) d.task busy in
        let src : unit_of g d.task ≡ source g e = same_part-true (unit_of g d.task) (source g e) went.leaves_it in
        let here : c ≤ paced_by (offset (source g e)) d.task.tag = subst (λ z. c ≤ paced_by (offset z) d.task.tag) src (as_le c _ open_here.1) in
        let on : paced_by (offset (source g e)) d.task.tag ≤ paced_by (offset (target g e)) (plus d.task.tag e.weight) = along_wire g offset has e d.task.tag went.mem in (
          ap (platform_of g) (sym went.to) ∙ sym (wired.at_home e went.mem) ∙ ap (λ (z : Unit). platform_of g z.actor) (sym src) ∙ open_here.0,
          subst (λ z. c ≤ paced_by (offset z) t) (sym (end_is g e a p went.to went.input))
              (subst (λ z. c ≤ paced_by (offset (target g e)) z) went.when_is (both c _ _ here on)),
        ))
        (or_else_found (s.waits a p t) _ v found);
    busy = λ u task b. k.busy u task (put_none_found s.busy (unit_of g d.task) u task b);
    left = k.left;
    reading = k.reading;
    foreign = λ l f.
        ap (λ z. s.outbox l ++ z) (message_none (slice_get g.links l) d.task.actor d.task.tag d.fired.outputs (λ link at mine. f link at (ap (platform_of g) mine ∙ (k.busy (unit_of g d.task) d.task busy).0)))
        ∙ append-nil (s.outbox l) ∙ k.foreign l f;
    outbox = λ l link t v at m.
        ⊎_elim
        (λ (old : IsIn (Event t v) (s.outbox l)). k.outbox l link t v at old)
        (λ (new : IsIn (Event t v) (message_from (slice_get g.links l) d.task.actor d.task.tag d.fired.outputs)).
        let new2 : IsIn (Event t v) (message_from (Some link) d.task.actor d.task.tag d.fired.outputs) = subst (λ o. IsIn (Event t v) (message_from o d.task.actor d.task.tag d.fired.outputs)) at new in
        ⊎_elim
        (λ (h : (link.from == d.task.actor) ≡ true).
        let mine : link.from ≡ d.task.actor = eqb-true link.from d.task.actor h in
        let tag : d.task.tag ≡ t = one_message t d.task.tag v (at_port d.fired.outputs 0) (subst (IsIn (Event t v)) (cond-true (link.from == d.task.actor) (as_message d.task.tag (at_port d.fired.outputs 0)) [] h) new2) in
        let send = wired.sends l link at in
        let unit : unit_of g d.task ≡ at_output g link.from 0 = ap (λ b. at_input g b (first_port d.task.inputs)) (sym mine) ∙ sender_unit g link.from (first_port d.task.inputs) send.0 send.1 in
        subst (λ z. c ≤ paced_by (offset (at_output g link.from 0)) z) tag (subst (λ z. c ≤ paced_by (offset z) d.task.tag) unit (as_le c _ (k.busy (unit_of g d.task) d.task busy).1)))
        (λ (h : (link.from == d.task.actor) ≡ false).
        let none : IsIn (Event t v) [] = subst (IsIn (Event t v)) (cond-false (link.from == d.task.actor) (as_message d.task.tag (at_port d.fired.outputs 0)) [] h) new2 in absurd none)
        (cases_Bool (link.from == d.task.actor)))
        (IsIn-append (Event t v) (s.outbox l) (message_from (slice_get g.links l) d.task.actor d.task.tag d.fired.outputs) m);
  }
    where
      both : (a b d : ℕ) → a ≤ b → b ≤ d → a ≤ d
      both a b d x y = omega arith

  -- a task is claimed and posted at its paced reading
  abbrev pub IsTimed : Task → Type 0
  IsTimed task = c ≡ paced_by (offset (unit_of g task)) task.tag

  later_posts : (ds : List Done) (s new : State) → Later g offset c i s → Posts g s ds new → Later g offset c i new × Each (λ (d : Done). IsTimed d.task) ds
  later_posts [] s new k e = (subst (Later g offset c i) (sym e) k, tt)
  later_posts (d ∷ ds) s new k (busy, result, rest) =
      let on = later_posts ds (after_post g s d) new (later_post s d k busy) rest in
      (on.0, ((k.busy (unit_of g d.task) d.task busy).1, on.1))

  later_rows : (s : State) → Later g offset c i s → Later g offset c i (after_rows s c)
  later_rows s k = record {
    waits = λ a p t v found.
        ⊎_elim
        (λ (old : s.waits a p t ≡ Some v). k.waits a p t v old)
        (λ (new : when (p == 0) (row_at (due c (s.left a)) t) ≡ Some v).
        let y = first_of_found (λ (row : Row). when (same_tag (at_time row.time) t) (Some row.value)) (due c (s.left a)) v (when_found (p == 0) (row_at (due c (s.left a)) t) v new).1 in
        let tag : at_time y.0.time ≡ t = same_tag-true (at_time y.0.time) t (when_found (same_tag (at_time y.0.time) t) _ v y.2).0 in
        let row = k.left a y.0 (subst (IsIn y.0) (due_split c (s.left a)) (IsIn-append_left y.0 (due c (s.left a)) (not_due c (s.left a)) y.1)) in
        let seen : c ≤ y.0.seen = row.2 in
        let on : y.0.seen ≤ paced_by (offset (at_input g a p)) (at_time y.0.time) = row_when_paced g a p y.0 (offset (at_input g a p)) row.0 (has (at_input g a p)) in
        (row.1, subst (λ z. c ≤ paced_by (offset (at_input g a p)) z) tag (omega arith)))
        (or_else_found (s.waits a p t) _ v found);
    left = λ a row m. k.left a row (subst (IsIn row) (due_split c (s.left a)) (IsIn-append_right row (due c (s.left a)) (not_due c (s.left a)) m));
    busy = k.busy;
    outbox = k.outbox;
    foreign = k.foreign;
    reading = k.reading;
  }

  -- a message that comes within its link's bound
  abbrev pub InBound : OnLink → Type 0
  InBound m = (link : Link) (t : Tag) (v : ℤ) → slice_get g.links m.link ≡ Some link → m.message ≡ Event t v → c ≤ t.time + link_bound g link

  later_message : (s : State) (l : ℕ) (link : Link) (m : Message) → Later g offset c i s → slice_get g.links l ≡ Some link → platform_of g link.to ≡ i → InBound (record { link = l; message = m }) → Later g offset c i (after_message s l link m)
  later_message s l link m k at home sent = record {
    waits = λ a p t v found.
        ⊎_elim
        (λ (old : s.waits a p t ≡ Some v). k.waits a p t v old)
        (λ (new : when (a == link.to && p == 0) (value_of t m) ≡ Some v).
        let here = when_found (a == link.to && p == 0) (value_of t m) v new in
        let two = and_parts (a == link.to) (p == 0) here.0 in
        let to : at_input g a p ≡ at_input g link.to 0 = ap (λ b. at_input g b p) (eqb-true a link.to two.0) ∙ ap (at_input g link.to) (eqb-true p 0 two.1) in
        let bound : c ≤ t.time + link_bound g link = sent link t v at (event_is m t v here.1) in
        let past : t.time + link_bound g link + 1 ≤ paced_by (offset (at_input g link.to 0)) t = past_bound g offset wired has l link t at in (
          ap (platform_of g) (eqb-true a link.to two.0) ∙ home,
          subst (λ z. c ≤ paced_by (offset z) t) (sym to) (omega (arith, bound, past)),
        ))
        (or_else_found (s.waits a p t) _ v found);
    busy = k.busy;
    left = k.left;
    outbox = k.outbox;
    foreign = k.foreign;
    reading = k.reading;
  }
    where
      event_is : (m : Message) (t : Tag) (v : ℤ) → value_of t m ≡ Some v → m ≡ Event t v
      event_is End t v e = absurd (none_some v e)
      event_is (Event u w) t v e =
          let f = when_found (same_tag u t) (Some w) v e in
          ap (λ z. Event z w) (same_tag-true u t f.0) ∙ ap (Event t) (same_some w v f.1)

  -- so each message that is taken is on time
  timely : (s : State) (l : ℕ) (link : Link) (m : Message) → Later g offset c i s → slice_get g.links l ≡ Some link → InBound (record { link = l; message = m }) → IsOnTime s.reading (link_bound g link) m
  timely s l link m k at sent =
      on_time_of c (link_bound g link) s.reading m k.reading (λ t v e. sent link t v at e)

  later_takes : (level : ℕ → ℕ) (ms : List OnLink) (late : Bool) (s new : State) → Later g offset c i s → Each InBound ms → Takes g level i s ms late new → (late ≡ false) × Later g offset c i new
  later_takes level [] late s new k sent (l, e) = (l, subst (Later g offset c i) (sym e) k)
  later_takes level (m ∷ ms) late s new k sent (link, at, home, orderly, next) =
      ⊎_elim
      (λ (on : IsOnTime s.reading (link_bound g link) m.message × Takes g level i (after_message s m.link link m.message) ms late new).
      later_takes level ms late (after_message s m.link link m.message) new (later_message s m.link link m.message k at home sent.0) sent.1 on.1)
      (λ (off : (IsOnTime s.reading (link_bound g link) m.message → ⊥) × (ms ≡ []) × (late ≡ true) × (new ≡ with_taken s m.link m.message)).
      absurd (off.0 (timely s m.link link m.message k at sent.0)))
      next

  -- what is taken came on a link to this platform
  pub takes_own : (level : ℕ → ℕ) (ms : List OnLink) (late : Bool) (s new : State) (l : ℕ) (link : Link) → slice_get g.links l ≡ Some link → (platform_of g link.to ≡ i → ⊥) → Takes g level i s ms late new → on_link l ms ≡ []
  takes_own level [] late s new l link at other h = refl
  takes_own level (m ∷ ms) late s new l link at other (to, at_to, home, orderly, next) =
      let here : when (m.link == l) (Some m.message) ≡ None =
      ⊎_elim
      (λ (e : (m.link == l) ≡ true). absurd (other (ap (λ (z : Link). platform_of g z.to) (same_some link to (sym at ∙ ap (slice_get g.links) (sym (eqb-true m.link l e)) ∙ at_to)) ∙ home)))
      (λ (e : (m.link == l) ≡ false). when-false (m.link == l) (Some m.message) e)
      (cases_Bool (m.link == l)) in
      ap (λ o. cons_option o (on_link l ms)) here
      ∙ ⊎_elim
      (λ (on : IsOnTime s.reading (link_bound g to) m.message × Takes g level i (after_message s m.link to m.message) ms late new). takes_own level ms late (after_message s m.link to m.message) new l link at other on.1)
      (λ (off : (IsOnTime s.reading (link_bound g to) m.message → ⊥) × (ms ≡ []) × (late ≡ true) × (new ≡ with_taken s m.link m.message)). ap (on_link l) off.1)
      next

  claim_timed : (s : State) (task : Task) → Later g offset c i s → IsNext g s c (unit_of g task) task → IsTimed task
  claim_timed s task k next =
      let at = event_found g s.waits (unit_of g task) task.tag next.safe.event in
      let low : c ≤ paced_by (offset (unit_of g task)) task.tag = subst (λ z. c ≤ paced_by (offset z) task.tag) at.unit (k.waits task.actor at.port task.tag at.value at.waits_there).1 in
      let high : paced_by (offset (unit_of g task)) task.tag ≤ c = safe_when_paced g s c (unit_of g task) task.tag (offset (unit_of g task)) (has (unit_of g task)) next.safe in
      omega arith

  later_claim : (s : State) (task : Task) → Later g offset c i s → IsNext g s c (unit_of g task) task → Later g offset c i (after_claim g s (unit_of g task) task)
  later_claim s task k next = record {
    waits = λ a p t v found. k.waits a p t v (without_found g s.waits (unit_of g task) task.tag a p t v found).0;
    busy = λ u other b.
        ⊎_elim
        (λ (here : unit_of g task ≡ u).
        let et : task ≡ other = same_some task other (sym (put_same s.busy (unit_of g task) u (Some task) here) ∙ b) in
        let is : c ≡ paced_by (offset (unit_of g task)) task.tag = claim_timed s task k next in
        let at = event_found g s.waits (unit_of g task) task.tag next.safe.event in (
          subst (λ (z : Unit). platform_of g z.actor ≡ i) here (k.waits task.actor at.port task.tag at.value at.waits_there).0,
          subst (λ (z : Task). c ≡ paced_by (offset u) z.tag) et (subst (λ z. c ≡ paced_by (offset z) task.tag) here is),
        ))
        (λ (there : unit_of g task ≢ u). k.busy u other (sym (put_other s.busy (unit_of g task) u (Some task) there) ∙ b))
        (cases_part (unit_of g task) u);
    left = k.left;
    outbox = k.outbox;
    foreign = k.foreign;
    reading = k.reading;
  }

  later_claims : (tasks : List Task) (s new : State) → Later g offset c i s → Claims g c s tasks new → Later g offset c i new × Each IsTimed tasks
  later_claims [] s new k e = (subst (Later g offset c i) (sym e) k, tt)
  later_claims (task ∷ tasks) s new k (next, rest) =
      let on = later_claims tasks (after_claim g s (unit_of g task) task) new (later_claim s task k next) rest in
      (on.0, (claim_timed s task k next, on.1))

  end_none : (o : Option Link) → ((link : Link) → o ≡ Some link → platform_of g link.from ≡ i → ⊥) → end_for g i o ≡ []
  end_none None f = refl
  end_none (Some link) f =
      cond-false (platform_of g link.from == i) (End ∷ []) []
      (⊎_elim (λ (e : (platform_of g link.from == i) ≡ true). absurd (f link refl (eqb-true (platform_of g link.from) i e))) (λ (e : (platform_of g link.from == i) ≡ false). e) (cases_Bool (platform_of g link.from == i)))

  later_shut : (s : State) → Later g offset c i s → Later g offset c i (shut g i s)
  later_shut s k = record {
    waits = k.waits;
    busy = k.busy;
    left = k.left;
    reading = k.reading;
    foreign = λ l f. ap (λ z. s.outbox l ++ z) (end_none (slice_get g.links l) (λ link at. f link at)) ∙ append-nil (s.outbox l) ∙ k.foreign l f;
    outbox = λ l link t v at m.
        ⊎_elim
        (λ (old : IsIn (Event t v) (s.outbox l)). k.outbox l link t v at old)
        (λ (new : IsIn (Event t v) (end_for g i (slice_get g.links l))). absurd (no_event_end g i (slice_get g.links l) t v new))
        (IsIn-append (Event t v) (s.outbox l) (end_for g i (slice_get g.links l)) m);
  }

  -- a turn at reading c of a platform that has nothing to do before c, where what it takes was not sent before its paced reading
  pub record Paces (level : ℕ → ℕ) (s : State) (turn : Turn) (late : Bool) (new : State) : Type 0 where
    pub not_late : late ≡ false
    pub later : Later g offset c i new
    pub timed : Each IsTimed turn.claimed
    pub posted : Each (λ (d : Done). IsTimed d.task) turn.posted
    pub sent : (l : ℕ) (link : Link) (t : Tag) (v : ℤ) → slice_get g.links l ≡ Some link → IsIn (Event t v) (on_link l turn.sent) → c ≤ paced_by (offset (at_output g link.from 0)) t
    pub sent_own : (l : ℕ) → IsForeign g i l → on_link l turn.sent ≡ []
    pub taken_own : (l : ℕ) (link : Link) → slice_get g.links l ≡ Some link → (platform_of g link.to ≡ i → ⊥) → on_link l turn.taken ≡ []

  pub turn_paces : (level : ℕ → ℕ) (s new : State) (turn : Turn) (late : Bool) → Later g offset c i s → turn.last ≡ c → IsTurn g level i s turn late new → Each InBound turn.taken → Paces level s turn late new
  turn_paces level s new turn late k last is taken =
      let k1 = later_posts turn.posted s is.posted k is.posts in
      let k2 = later_rows is.posted k1.0 in
      let takes = later_takes level turn.taken late (after_rows is.posted c) is.got k2 taken (subst (λ z. Takes g level i (after_rows is.posted z) turn.taken late is.got) last is.takes) in
      let k3 : Later g offset c i (raised is.got c) = record { waits = takes.1.waits; busy = takes.1.busy; left = takes.1.left; outbox = takes.1.outbox; foreign = takes.1.foreign; reading = λ p e. let same : c ≡ p = same_some c p e in omega arith } in
      let claims = later_claims turn.claimed (raised is.got c) is.ready k3 (subst (λ z. Claims g z (raised is.got z) turn.claimed is.ready) last is.claims) in
      let k5 : Later g offset c i is.done =
      ⊎_elim
      (λ (shuts : CanClose g i is.ready turn.last × (late ≡ false) × (is.done ≡ shut g i is.ready)). subst (Later g offset c i) (sym shuts.2) (later_shut is.ready claims.0))
      (λ (stays : (CanClose g i is.ready turn.last → late ≡ true) × (is.done ≡ is.ready)). subst (Later g offset c i) (sym stays.1) claims.0)
      is.closes in
      let rest : ℕ → List Message = is.sends.0 in
      let fronts = is.sends.2 in
      record {
        not_late = takes.0;
        timed = claims.1;
        posted = k1.1;
        later = subst (Later g offset c i) (sym is.sends.1) (record {
          waits = k5.waits;
          busy = k5.busy;
          left = k5.left;
          reading = k5.reading;
          outbox = λ l link t v at m. k5.outbox l link t v at (subst (IsIn (Event t v)) (sym (fronts l)) (IsIn-append_right (Event t v) (on_link l turn.sent) (rest l) m));
          foreign = λ l f. nil_right (on_link l turn.sent) (rest l) (sym (fronts l) ∙ k5.foreign l f);
        });
        sent = λ l link t v at m. k5.outbox l link t v at (subst (IsIn (Event t v)) (sym (fronts l)) (IsIn-append_left (Event t v) (on_link l turn.sent) (rest l) m));
        sent_own = λ l f. nil_left (on_link l turn.sent) (rest l) (sym (fronts l) ∙ k5.foreign l f);
        taken_own = λ l link at other. takes_own level turn.taken late (after_rows is.posted turn.last) is.got l link at other is.takes;
      }
    where
      nil_left : (a b : List Message) → a ++ b ≡ [] → a ≡ []
      nil_left [] b e = refl
      nil_left (x ∷ a) b e = absurd (never x (a ++ b) e)
        where
          never : (x : Message) (d : List Message) → x ∷ d ≡ [] → ⊥
          never x d h = cc
