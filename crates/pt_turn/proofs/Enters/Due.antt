-- Rows that entered make no unit safe before they are due.
use Rattle.std.proofs.Common.{◌≡◌, ℕ, ◌+◌, ◌<◌, ◌≤◌, ◌++◌, List, [], ◌∷◌, Option, Some, None, ℤ, pos, length, take, get_or, refl, sym, ap, subst, ◌∙◌, inl, inr, ⊎_elim, arith}
use Rattle.std.proofs.lemmas.List.{take_more}
use Rattle.pt_tags.specs.declared.tag.Tag.{Tag}
use Rattle.pt_types.specs.declared.firing.Task.{Task}
use Rattle.pt_types.specs.declared.graph.Graph.{Graph}
use Rattle.pt_types.specs.declared.graph.Unit.{Unit}
use Rattle.pt_types.specs.declared.kind.Kind.{Kind}
use Rattle.pt_types.specs.declared.kind.Kind.TheVariants.{Receive, Sensor}
use Rattle.pt_types.specs.declared.rows.Row.{Row}
use Rattle.pt_types.specs.declared.rows.RowAt.{RowAt}
use Rattle.pt_types.specs.Lookups.{kind_of}
use Rattle.pt_semantics.specs.Bounds.{bound_by, bound_of}
use Rattle.pt_semantics.specs.Lists.{IsIn, or_else}
use Rattle.pt_semantics.specs.Meaning.{Values, added, at_time}
use Rattle.pt_semantics.specs.Safe.{IsSafe, NothingSafe}
use Rattle.pt_semantics.specs.Units.{HasEvent, at_input, at_output}
use Rattle.pt_semantics.proofs.Claiming.{event_found, has_event}
use Rattle.pt_semantics.proofs.Floor.{sensor_unit, receiver_unit}
use Rattle.pt_semantics.proofs.Lookups.{IsIn-append, IsIn-append_right, none_some, or_else_found}
use Rattle.pt_offsets.specs.declared.table.Offsets.{Offsets}
use Rattle.pt_offsets.specs.Plans.{AreOffsets}
use Rattle.pt_offsets.specs.Timings.{bound_in}
use Rattle.pt_turn.specs.declared.state.fields.Sensor.{Sensor as Rows}
use Rattle.pt_turn.specs.Claims.Early.{IsDueAt}
use Rattle.pt_turn.specs.Enters.{IsNotDueBefore}
use Rattle.pt_turn.proofs.Enters.Sensors.{brought, brought_row, due_rows}

-- a sensor's input and its output belong to one unit
own_unit : (g : Graph) (a b : ℕ) (k : Kind) → kind_of g a ≡ k → bound_by g a k ≡ Some b → at_input g a 0 ≡ at_output g a 0
own_unit g a b (Sensor file bound) e h = sensor_unit g file a 0 bound e
own_unit g a b Receive e h = receiver_unit g a 0 e
own_unit g a b _ e h = absurd (none_some b h)

-- past the bound an event is due where it came
pub bound_due : (g : Graph) (o : Offsets) (x : RowAt) (b n : ℕ) → bound_in o x.sensor ≡ Some b → n ≤ x.row.time + b + 1 → AreOffsets g o → IsNotDueBefore g n x
bound_due g o x b n read le are q lt due =
    let bound : bound_of g x.sensor ≡ Some b = sym (are.bounds x.sensor) ∙ read in
    let own = own_unit g x.sensor b (kind_of g x.sensor) refl bound in
    let past : x.row.time + b < q + 0 = due x.sensor b [] (record { bound = bound; goes = sym own }) in
    omega (arith, past, lt, le)

pub less_due : (g : Graph) (n m : ℕ) (x : RowAt) → m ≤ n → IsNotDueBefore g n x → IsNotDueBefore g m x
less_due g n m x le not q lt = not q (omega (arith, lt, le))

-- of the first i rows none is due at a reading below n
abbrev pub NoneDueOf : Offsets → List RowAt → ℕ → Type 0
NoneDueOf o rows n = (g : Graph) → AreOffsets g o → (x : RowAt) → IsIn x rows → IsNotDueBefore g n x

abbrev pub no_row : RowAt
no_row = record { sensor = 0; row = record { time = 0; seen = 0; value = pos 0 } }

pub more_due : (o : Offsets) (rows : List RowAt) (i n m : ℕ) (d : RowAt) → i < length rows → NoneDueOf o (take i rows) n → m ≤ n → ((g : Graph) → AreOffsets g o → IsNotDueBefore g m (get_or rows i d)) → NoneDueOf o (take (i + 1) rows) m
more_due o rows i n m d lt before le one g are x mem =
    ⊎_elim
    (λ (old : IsIn x (take i rows)). less_due g n m x le (before g are x old))
    (λ (new : IsIn x (get_or rows i d ∷ [])). ⊎_elim (λ (is : x ≡ get_or rows i d). subst (IsNotDueBefore g m) (sym is) (one g are)) (λ (none : ⊥). absurd none) new)
    (IsIn-append x (take i rows) (get_or rows i d ∷ []) (subst (IsIn x) (take_more rows i d lt) mem))

-- where an event waited one waits still
more_event : (g : Graph) (waits more : Values) (u : Unit) (t : Tag) → HasEvent g waits u t → HasEvent g (added waits more) u t
more_event g waits more u t h =
    let at = event_found g waits u t h in
    subst (λ x. HasEvent g (added waits more) x t) at.unit (has_event g (added waits more) u.actor at.port t at.value at.below (ap (λ o. or_else o (more u.actor at.port t)) at.waits_there))

-- new events make no other unit safe, and their own not before they are due there
pub none_safe_with : (g : Graph) (waits more : Values) (busy : Unit → Option Task) (n m : ℕ) → ((q : ℕ) → q < n → NothingSafe g waits busy q) → m ≤ n → ((a p : ℕ) (t : Tag) (v : ℤ) → more a p t ≡ Some v → (q : ℕ) → q < m → IsDueAt g q (at_input g a p) t → ⊥)
    → (q : ℕ) → q < m → NothingSafe g (added waits more) busy q
none_safe_with g waits more busy n m none le not q lt u t safe =
    let at = event_found g (added waits more) u t safe.event in
    ⊎_elim
    (λ (old : waits u.actor at.port t ≡ Some at.value).
    none q (omega (arith, lt, le)) u t (record {
      event = subst (λ x. HasEvent g waits x t) at.unit (has_event g waits u.actor at.port t at.value at.below old);
      least = λ w h. safe.least w (more_event g waits more u w h);
      free = safe.free;
      bounds = safe.bounds;
      events = λ x w path other h go. safe.events x w path other (more_event g waits more x w h) go;
      claims = safe.claims;
    }))
    (λ (new : more u.actor at.port t ≡ Some at.value). not u.actor at.port t at.value new q lt (subst (λ x. IsDueAt g q x t) (sym at.unit) safe.bounds))
    (or_else_found (waits u.actor at.port t) (more u.actor at.port t) at.value at.waits_there)

-- so after rows entered
pub none_safe_entered : (g : Graph) (o : Offsets) (waits : Values) (busy : Unit → Option Task) (r : ℕ) (sensors : List Rows) (kept : List RowAt) (n m : ℕ) → AreOffsets g o → ((q : ℕ) → q < n → NothingSafe g waits busy q) → m ≤ n → NoneDueOf o (kept ++ due_rows r sensors) m
    → (q : ℕ) → q < m → NothingSafe g (added waits (brought r sensors)) busy q
none_safe_entered g o waits busy r sensors kept n m are none le not =
    none_safe_with g waits (brought r sensors) busy n m none le
    (λ a p t v there q lt due.
    let row = brought_row r sensors a p t v there in
    not g are row.0 (IsIn-append_right row.0 kept (due_rows r sensors) row.1) q lt
    (subst (λ z. IsDueAt g q (at_input g z 0) (at_time row.0.row.time)) (sym row.2)
    (subst (λ z. IsDueAt g q (at_input g a z) (at_time row.0.row.time)) row.3
    (subst (λ z. IsDueAt g q (at_input g a p) z) (sym row.4) due))))
