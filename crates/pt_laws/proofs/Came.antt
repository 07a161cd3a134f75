-- What came to each input so far: rows, messages, starting events and what was posted.
use Rattle.std.proofs.Common.{◌≡◌, ℕ, ◌==◌, Bool, true, false, ◌&&◌, List, [], ◌∷◌, ◌++◌, Option, Some, None, ℤ, slice_get, if◌then◌else◌, refl, sym, ap, ap₂, subst, ◌∙◌, ⊎_elim, append_assoc, eqb-true, eq-eqb}
use Rattle.std.proofs.lemmas.Bool.{cases_Bool, cases_eq, and_parts, cond-true, cond-false}
use Rattle.pt_tags.specs.declared.tag.Tag.{Tag}
use Rattle.pt_types.specs.declared.graph.Graph.{Graph}
use Rattle.pt_types.specs.declared.graph.Link.{Link}
use Rattle.pt_types.specs.declared.kind.Kind.TheVariants.{Sensor, Receive}
use Rattle.pt_types.specs.declared.graph.Unit.{Unit}
use Rattle.pt_tags.specs.Tags.{same_tag}
use Rattle.pt_semantics.specs.Lists.{first_of, or_else, IsIn}
use Rattle.pt_types.specs.Ports.{when}
use Rattle.pt_semantics.specs.Edges.{Edge, wires}
use Rattle.pt_types.specs.Lookups.{kind_of, platform_of}
use Rattle.pt_semantics.specs.Meaning.{Values, row_at, start_at, at_time, going, added}
use Rattle.pt_semantics.specs.Behaviours.{Firing, Firings}
use Rattle.pt_semantics.specs.Bounds.{bound_of, bound_by, link_bound}
use Rattle.pt_semantics.specs.Wired.{IsWired}
use Rattle.pt_types.specs.declared.rows.Row.{Row}
use Rattle.pt_tags.specs.declared.message.Message.{Message}
use Rattle.pt_semantics.specs.Units.{leaves_unit}
use Rattle.pt_semantics.specs.Entering.{due, not_due}
use Rattle.pt_semantics.specs.Taking.{value_of}
use Rattle.pt_semantics.specs.Rows.{FitsRow}
use Rattle.pt_semantics.proofs.Lookups.{none_some, same_some, or_else_none, or_else_assoc, when_found, when_or_else, first_of-append, first_of_found, IsIn-append_left}
use Rattle.pt_laws.proofs.Rows.{due_split}
use Rattle.pt_semantics.proofs.Floor.{going_found, row_values, message_values, bound_of_link}
use Rattle.pt_semantics.proofs.Claiming.{more}
use Rattle.pt_laws.proofs.Flows.{flows, wires_fed_once, flows_more}

-- the value at a tag in a list of messages
abbrev pub in_messages : List Message → Tag → Option ℤ
in_messages ms t = first_of (value_of t) ms

pub record Came (g : Graph) (i : ℕ) (rows : ℕ → List Row) (left : ℕ → List Row) (taken : ℕ → List Message) (arr : Values) (q : Firings) : Type 0 where
  pub entered : ℕ → List Row
  pub split : (a : ℕ) → entered a ++ left a ≡ (if platform_of g a == i then rows a else [])
  pub inner : (a p : ℕ) (t : Tag) → bound_of g a ≡ None → arr a p t ≡ or_else (when (platform_of g a == i && p == 0) (start_at g (kind_of g a) t)) (flows g (wires g) q a p t)
  pub sensors : (file : List ℕ) (a b p : ℕ) (t : Tag) → kind_of g a ≡ Sensor file b → arr a p t ≡ when (p == 0) (row_at (entered a) t)
  pub receivers : (l : ℕ) (link : Link) (p : ℕ) (t : Tag) → slice_get g.links l ≡ Some link → arr link.to p t ≡ when (p == 0) (in_messages (taken l) t)

-- a value that is not there
absent : (o : Option ℤ) → ((v : ℤ) → o ≡ Some v → ⊥) → o ≡ None
absent None h = refl
absent (Some v) h = absurd (h v refl)

going_misses : (g : Graph) (leaves : Edge → Bool) (tag : Tag) (outputs : List (Option ℤ)) (a b p : ℕ) (t : Tag) → IsWired g → bound_of g a ≡ Some b → going g (wires g) leaves tag outputs a p t ≡ None
going_misses g leaves tag outputs a b p t wired bound = absent _ (λ v h.
    let w = going_found g (wires g) leaves tag outputs a p t v h in
    none_some b (sym (wired.inner w.edge w.mem) ∙ ap (bound_of g) w.to ∙ bound))

sensor_bound : (g : Graph) (file : List ℕ) (a b : ℕ) → kind_of g a ≡ Sensor file b → bound_of g a ≡ Some b
sensor_bound g file a b e = ap (bound_by g a) e

added_none : (x y : Option ℤ) → y ≡ None → or_else x y ≡ x
added_none x y e = ap (or_else x) e ∙ or_else_none x

pub came_post : (g : Graph) (i : ℕ) (rows left : ℕ → List Row) (taken : ℕ → List Message) (arr : Values) (q : Firings) (w : Unit) (x : Firing) (outputs : List (Option ℤ)) → IsWired g → outputs ≡ x.outputs → Came g i rows left taken arr q → Came g i rows left taken (added arr (going g (wires g) (leaves_unit g w) x.tag outputs)) (more q w x)
came_post g i rows left taken arr q w x outputs wired same h = record {
  entered = h.entered;
  split = h.split;
  inner = λ a p t none.
      ap₂ or_else (h.inner a p t none) (ap (λ o. going g (wires g) (leaves_unit g w) x.tag o a p t) same)
      ∙ or_else_assoc (when (platform_of g a == i && p == 0) (start_at g (kind_of g a) t)) (flows g (wires g) q a p t) (going g (wires g) (leaves_unit g w) x.tag x.outputs a p t)
      ∙ ap (or_else (when (platform_of g a == i && p == 0) (start_at g (kind_of g a) t))) (sym (flows_more g (wires g) (wires_fed_once g wired) q w x a p t));
  sensors = λ file a b p t kind.
      added_none (arr a p t) _ (going_misses g (leaves_unit g w) x.tag outputs a b p t wired (sensor_bound g file a b kind)) ∙ h.sensors file a b p t kind;
  receivers = λ l link p t at.
      added_none (arr link.to p t) _ (going_misses g (leaves_unit g w) x.tag outputs link.to (link_bound g link) p t wired (bound_of_link g l link wired at)) ∙ h.receivers l link p t at;
}

-- rows come to sensors alone
row_sensor : (g : Graph) (rows : ℕ → List Row) (a p : ℕ) (t : Tag) (v : ℤ) → ((b : ℕ) (row : Row) → IsIn row (rows b) → FitsRow g b row) → row_values rows a p t ≡ Some v → (b : ℕ) × (file : List ℕ) × (kind_of g a ≡ Sensor file b)
row_sensor g rows a p t v fit h =
    let f = first_of_found _ (rows a) v (when_found (p == 0) _ v h).1 in
    let is = fit a f.0 f.1 in
    (is.bound, is.file, is.sensor)

receive_sensor : (file : List ℕ) (b : ℕ) → Receive ≡ Sensor file b → ⊥
receive_sensor file b e = cc

pub came_rows : (g : Graph) (i : ℕ) (rows left : ℕ → List Row) (taken : ℕ → List Message) (arr : Values) (q : Firings) (r : ℕ) → IsWired g → ((a : ℕ) (row : Row) → IsIn row (left a) → FitsRow g a row) → Came g i rows left taken arr q → Came g i rows (λ a. not_due r (left a)) taken (added arr (row_values (λ a. due r (left a)))) q
came_rows g i rows left taken arr q r wired fit h = record {
  entered = λ a. h.entered a ++ due r (left a);
  split = λ a. append_assoc (h.entered a) (due r (left a)) (not_due r (left a)) ∙ ap (λ z. h.entered a ++ z) (due_split r (left a)) ∙ h.split a;
  inner = λ a p t none.
      added_none (arr a p t) _ (absent _ (λ v e.
      let s = row_sensor g (λ b. due r (left b)) a p t v fit_due e in
      none_some s.0 (sym none ∙ sensor_bound g s.1 a s.0 s.2)))
      ∙ h.inner a p t none;
  sensors = λ file a b p t kind.
      ap (λ o. or_else o (when (p == 0) (row_at (due r (left a)) t))) (h.sensors file a b p t kind)
      ∙ sym (when_or_else (p == 0) (row_at (h.entered a) t) (row_at (due r (left a)) t))
      ∙ ap (when (p == 0)) (sym (first_of-append (λ (row : Row). when (same_tag (at_time row.time) t) (Some row.value)) (h.entered a) (due r (left a))));
  receivers = λ l link p t at.
      added_none (arr link.to p t) _ (absent _ (λ v e.
      let s = row_sensor g (λ b. due r (left b)) link.to p t v fit_due e in
      receive_sensor s.1 s.0 (sym (wired.receives l link at) ∙ s.2)))
      ∙ h.receivers l link p t at;
}
  where
    fit_due : (b : ℕ) (row : Row) → IsIn row (due r (left b)) → FitsRow g b row
    fit_due b row m = fit b row (subst (IsIn row) (due_split r (left b)) (IsIn-append_left row (due r (left b)) (not_due r (left b)) m))

-- one message more on a link
abbrev pub taken_more : (ℕ → List Message) → ℕ → Message → ℕ → List Message
taken_more taken l m k = if k == l then taken k ++ m ∷ [] else taken k

pub taken_here : (taken : ℕ → List Message) (l k : ℕ) (m : Message) → k ≡ l → taken_more taken l m k ≡ taken k ++ m ∷ []
taken_here taken l k m e = cond-true (k == l) (taken k ++ m ∷ []) (taken k) (eq-eqb k l e)

pub taken_there : (taken : ℕ → List Message) (l k : ℕ) (m : Message) → (k ≡ l → ⊥) → taken_more taken l m k ≡ taken k
taken_there taken l k m ne = cond-false (k == l) (taken k ++ m ∷ []) (taken k) (⊎_elim (λ (t : (k == l) ≡ true). absurd (ne (eqb-true k l t))) (λ (f : (k == l) ≡ false). f) (cases_Bool (k == l)))

message_receiver : (g : Graph) (l : ℕ) (link : Link) (m : Message) (a p : ℕ) (t : Tag) (v : ℤ) → message_values link m a p t ≡ Some v → a ≡ link.to
message_receiver g l link m a p t v h = eqb-true a link.to (and_parts (a == link.to) (p == 0) (when_found (a == link.to && p == 0) (value_of t m) v h).0).0

message_there : (link : Link) (m : Message) (a p : ℕ) (t : Tag) → a ≡ link.to → message_values link m a p t ≡ when (p == 0) (value_of t m)
message_there link m a p t e = ap (λ b. when (b && p == 0) (value_of t m)) (eq-eqb a link.to e)

pub came_message : (g : Graph) (i : ℕ) (rows left : ℕ → List Row) (taken : ℕ → List Message) (arr : Values) (q : Firings) (l : ℕ) (link : Link) (m : Message) → IsWired g → slice_get g.links l ≡ Some link → Came g i rows left taken arr q → Came g i rows left (taken_more taken l m) (added arr (message_values link m)) q
came_message g i rows left taken arr q l link m wired at h = record {
  entered = h.entered;
  split = h.split;
  inner = λ a p t none.
      added_none (arr a p t) _ (absent _ (λ v e.
      none_some (link_bound g link) (sym none ∙ ap (bound_of g) (message_receiver g l link m a p t v e) ∙ bound_of_link g l link wired at)))
      ∙ h.inner a p t none;
  sensors = λ file a b p t kind.
      added_none (arr a p t) _ (absent _ (λ v e.
      receive_sensor file b (sym (wired.receives l link at) ∙ ap (kind_of g) (sym (message_receiver g l link m a p t v e)) ∙ kind)))
      ∙ h.sensors file a b p t kind;
  receivers = λ k other p t atk.
      ⊎_elim
      (λ (same : k ≡ l).
      let links_same : other ≡ link = same_some other link (sym atk ∙ ap (slice_get g.links) same ∙ at) in
      let to : other.to ≡ link.to = ap (λ (z : Link). z.to) links_same in
      ap₂ or_else (h.receivers k other p t atk) (message_there link m other.to p t to)
      ∙ sym (when_or_else (p == 0) (in_messages (taken k) t) (value_of t m))
      ∙ ap (when (p == 0)) (ap (or_else (in_messages (taken k) t)) (sym (or_else_none (value_of t m))) ∙ sym (first_of-append (value_of t) (taken k) (m ∷ [])) ∙ ap (λ z. in_messages z t) (sym (taken_here taken l k m same))))
      (λ (differ : k ≡ l → ⊥).
      added_none (arr other.to p t) _ (absent _ (λ v e. differ (wired.one_link k l other link atk at (message_receiver g l link m other.to p t v e))))
      ∙ h.receivers k other p t atk
      ∙ ap (λ z. when (p == 0) (in_messages z t)) (sym (taken_there taken l k m differ)))
      (cases_eq k l);
}
