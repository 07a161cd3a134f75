-- Over known files and one graph, each fault of a graph, a sensor or a meaning has one cause at most.
use Rattle.std.proofs.Common.{◌≡◌, ℕ, ◌+◌, ◌*◌, ◌<◌, ◌≤◌, List, [], ◌∷◌, Some, None, Result, Ok, Err, ℤ, pos, ◌+ℤ◌, ◌≤ℤ◌, ◌<ℤ◌, length, slice_get, sym, ap, ap₂, subst, ◌∙◌, arith, ⊎_elim}
use Rattle.std.proofs.lemmas.Bool.{cases_lt}
use Rattle.std.proofs.lemmas.Int.{ints}
use Rattle.pt_tags.specs.declared.tag.Tag.{Tag}
use Rattle.pt_types.specs.declared.graph.Graph.{Graph}
use Rattle.pt_types.specs.declared.graph.Unit.{Unit}
use Rattle.pt_types.specs.declared.kind.Kind.{Kind}
use Rattle.pt_types.specs.declared.kind.Kind.TheVariants.{Send, Sensor}
use Rattle.pt_types.specs.declared.firing.ActorFiring.{ActorFiring}
use Rattle.pt_types.specs.declared.rows.Row.{Row}
use Rattle.pt_offsets.specs.Margins.{IsFirstInfeasible}
use Rattle.pt_sensors.specs.declared.fault.RowFault.{RowFault}
use Rattle.pt_sensors.specs.Late.{late_row}
use Rattle.pt_sensors.specs.RowsOf.{rows_of}
use Rattle.pt_types.specs.Lookups.{kind_of}
use Rattle.pt_semantics.specs.Firing.{any_present, fired}
use Rattle.pt_semantics.specs.Meaning.{Fires, IsLonger, IsMeaning, Runs, Steps, World, after_firing, at_start, waiting}
use Rattle.pt_semantics.specs.Offsets.{IsOffset}
use Rattle.pt_semantics.specs.Units.{at_output}
use Rattle.pt_semantics.proofs.Acyclic.{ranks_are_one}
use Rattle.pt_semantics.proofs.Lookups.{eight_found, none_some, same_some}
use Rattle.pt_sensor_files.specs.declared.recorded_fault.LateRows.{LateRows}
use Rattle.pt_sensor_files.specs.declared.recorded_fault.LateRows.TheVariants.{Refused}
use Rattle.pt_io.specs.Calls.{Contents}
use Rattle.pt_sensors.specs.Places.{of_run}
use Rattle.pt_sensor_files.specs.Recorded.{AllPass, AreRows, HaveRows, InTime, IsLateRow, RowsOfKind, SensorFails, SensorLate}
use Rattle.pt_run.specs.RunsAgreeing.{ReportsSensors}
use Rattle.pt_run.proofs.ByFault.{IsMeant}
use Rattle.pt_run.proofs.RunsAgreeing.{rows_are_one}
use Rattle.pt_run.specs.declared.fault.Fault.TheVariants as fault
use Rattle.pt_run.specs.Causes.{IsTooLongForAll}
use Rattle.pt_run.proofs.Complete.{agrees, ok_err, same_ok}
use Rattle.pt_sensors.specs.Limits.{file_limits}
use Rattle.pt_sensor_files.specs.Bytes.{OfBytes}

pub same_err : {X E : Type 0} (x y : E) → ◌≡◌ {A = Result X E} (Err x) (Err y) → x ≡ y
same_err x y e = cc

-- neither of two numbers is less
neither_less : (a b : ℕ) → (a < b → ⊥) → (b < a → ⊥) → a ≡ b
neither_less a b not_less none = ⊎_elim (λ (l : a < b). absurd (not_less l)) (λ (ge : b ≤ a). ⊎_elim (λ (l : b < a). absurd (none l)) (λ (le : a ≤ b). omega (arith, ge, le)) (cases_lt b a)) (cases_lt a b)

-- there is one first sender that can't send in time, with one offset and slack
one_offset : (g : Graph) (u : Unit) (o p : ℤ) → IsOffset g u o → IsOffset g u p → o ≡ p
one_offset g u o p h k =
    let (s, b, path, feeds, is) = h.some in
    let (t, c, other, feeds2, is2) = k.some in
    same o p (subst (λ z. z ≤ℤ p) is (k.greatest s b path feeds)) (subst (λ z. z ≤ℤ o) is2 (h.greatest t c other feeds2))
  where
    same : (x y : ℤ) → x ≤ℤ y → y ≤ℤ x → x ≡ y
    same x y a b = omega (arith, ints)

same_send : (slack other : ℕ) → Send slack ≡ Send other → slack ≡ other
same_send slack other e = cc

not_before : (g : Graph) (send other slack slack2 : ℕ) (offset offset2 : ℤ) → IsFirstInfeasible g send offset slack → IsFirstInfeasible g other offset2 slack2 → send < other → ⊥
not_before g send other slack slack2 offset offset2 h k l = clash slack offset (k.first send l slack offset h.infeasible.sends h.infeasible.offset_is) h.infeasible.late
  where
    clash : (s : ℕ) (o : ℤ) → (o +ℤ pos 1) ≤ℤ pos s → pos s <ℤ (o +ℤ pos 1) → ⊥
    clash s o le lt = omega (arith, ints)

pub one_infeasible : (g : Graph) (send other slack slack2 : ℕ) (offset offset2 : ℤ) → IsFirstInfeasible g send offset slack → IsFirstInfeasible g other offset2 slack2 → fault.Infeasible other offset2 slack2 ≡ fault.Infeasible send offset slack
one_infeasible g send other slack slack2 offset offset2 h k =
    let same : other ≡ send = neither_less other send (not_before g other send slack2 slack offset2 offset k h) (not_before g send other slack slack2 offset offset2 h k) in
    let slacks : slack2 ≡ slack = same_send slack2 slack (sym k.infeasible.sends ∙ ap (kind_of g) same ∙ h.infeasible.sends) in
    let offsets : offset2 ≡ offset = one_offset g (at_output g send 0) offset2 offset (subst (λ z. IsOffset g (at_output g z 0) offset2) same k.infeasible.offset_is) h.infeasible.offset_is in
    λ i. fault.Infeasible (same i) (offsets i) (slacks i)

-- a list of rows has one first late row
one_late_row : (rows : List Row) (until bound row row2 seen seen2 limit limit2 : ℕ) → IsLateRow rows until bound row seen limit → IsLateRow rows until bound row2 seen2 limit2 → (row ≡ row2) × (seen ≡ seen2) × (limit ≡ limit2)
one_late_row rows until bound row row2 seen seen2 limit limit2 h k =
    let same : row ≡ row2 = same_some row row2 (sym h.first ∙ k.first) in
    let index : h.there.0 ≡ k.there.0 = drop_one h.there.0 k.there.0 (sym h.there.1 ∙ same ∙ k.there.1) in
    let it : h.it ≡ k.it = same_some h.it k.it (sym h.there.2 ∙ ap (slice_get rows) index ∙ k.there.2) in
    (same, h.seen_then ∙ ap (λ (z : Row). z.seen) it ∙ sym k.seen_then, h.by ∙ ap (λ (z : Row). z.time + bound) it ∙ sym k.by)
  where
    drop_one : (i j : ℕ) → i + 1 ≡ j + 1 → i ≡ j
    drop_one i j e = omega (arith, e)

-- each actor has its rows, and none is refused
abbrev pub AllHave : LateRows → Contents → Graph → Type 0
AllHave late contents g = (rows : ℕ → List Row) × AreRows contents g rows × AllPass late g rows

same_sensor : (file file2 : List ℕ) (bound bound2 : ℕ) → Sensor file bound ≡ Sensor file2 bound2 → (file ≡ file2) × (bound ≡ bound2)
same_sensor file file2 bound bound2 e = (cc, cc)

-- over files with known contents one sensor at most is the first that gives no rows
module _ (contents : Contents) (g : Graph) (reported : ReportsSensors contents g) where
  pub fails_rows : (late : LateRows) (actor : ℕ) (f : RowFault) (rows : List Row) → SensorFails late contents g actor f → RowsOfKind (file_limits g.claims) contents (kind_of g actor) rows → ⊥
  fails_rows late actor f rows h are =
      let (bytes, is) = reported actor h.file h.bound h.sensor in
      ok_err rows f (agrees (rows_of (file_limits g.claims)) (contents h.file) bytes (Ok rows) (Err f) is (subst (λ (k : Kind). RowsOfKind (file_limits g.claims) contents k rows) h.sensor are) h.fails)

  late_rows : (actor row seen limit : ℕ) (rows : List Row) → SensorLate contents g actor row seen limit → RowsOfKind (file_limits g.claims) contents (kind_of g actor) rows → InTime g.until (kind_of g actor) rows → ⊥
  late_rows actor row seen limit rows h are in_time =
      let (bytes, is) = reported actor h.file h.bound h.sensor in
      let same : rows ≡ h.rows = same_ok {E = RowFault} rows h.rows (agrees (rows_of (file_limits g.claims)) (contents h.file) bytes (Ok rows) (Ok h.rows) is (subst (λ (k : Kind). RowsOfKind (file_limits g.claims) contents k rows) h.sensor are) h.read) in
      let passes : late_row h.bound g.until rows ≡ None = subst (λ (k : Kind). InTime g.until k rows) h.sensor in_time in
      none_some row (sym passes ∙ ap (late_row h.bound g.until) same ∙ h.is_late.first)

  -- the rows of a sensor, of which one is late
  rows_there : (actor row seen limit : ℕ) (h : SensorLate contents g actor row seen limit) → RowsOfKind (file_limits g.claims) contents (kind_of g actor) h.rows
  rows_there actor row seen limit h = subst (λ (k : Kind). RowsOfKind (file_limits g.claims) contents k h.rows) (sym h.sensor) h.read

  fails_earlier : (late : LateRows) (actor n : ℕ) (f : RowFault) → SensorFails late contents g actor f → HaveRows late contents g n → actor < n → ⊥
  fails_earlier late actor n f h have l = let (rows, are, passes) = have actor l in fails_rows late actor f rows h are

  late_earlier : (actor n row seen limit : ℕ) → SensorLate contents g actor row seen limit → HaveRows Refused contents g n → actor < n → ⊥
  late_earlier actor n row seen limit h have l = let (rows, are, passes) = have actor l in late_rows actor row seen limit rows h are passes

  pub one_fails : (late : LateRows) (actor other : ℕ) (f e : RowFault) → SensorFails late contents g actor f → SensorFails late contents g other e → fault.Sensor other e ≡ fault.Sensor actor f
  one_fails late actor other f e h k =
      let same : other ≡ actor = neither_less other actor (fails_earlier late other actor e k h.earlier) (fails_earlier late actor other f h k.earlier) in
      let moved : SensorFails late contents g actor e = subst (λ z. SensorFails late contents g z e) same k in
      let files = same_sensor moved.file h.file moved.bound h.bound (sym moved.sensor ∙ h.sensor) in
      let (bytes, is) = reported actor h.file h.bound h.sensor in
      let faults : e ≡ f = same_err {X = List Row} e f (agrees (rows_of (file_limits g.claims)) (contents h.file) bytes (Err e) (Err f) is (subst (λ z. OfBytes (contents z) (λ bytes. rows_of (file_limits g.claims) bytes ≡ Err e)) files.0 moved.fails) h.fails) in
      λ i. fault.Sensor (same i) (faults i)

  pub fails_late : (actor other row seen limit : ℕ) (f : RowFault) → SensorFails Refused contents g actor f → SensorLate contents g other row seen limit → ⊥
  fails_late actor other row seen limit f h k =
      let same : other ≡ actor = neither_less other actor (late_earlier other actor row seen limit k h.earlier) (fails_earlier Refused actor other f h k.earlier) in
      let moved : SensorLate contents g actor row seen limit = subst (λ z. SensorLate contents g z row seen limit) same k in
      fails_rows Refused actor f moved.rows h (rows_there actor row seen limit moved)

  pub one_late : (actor other row row2 seen seen2 limit limit2 : ℕ) → SensorLate contents g actor row seen limit → SensorLate contents g other row2 seen2 limit2 → fault.LateRow other row2 seen2 limit2 ≡ fault.LateRow actor row seen limit
  one_late actor other row row2 seen seen2 limit limit2 h k =
      let same : other ≡ actor = neither_less other actor (late_earlier other actor row2 seen2 limit2 k h.earlier) (late_earlier actor other row seen limit h k.earlier) in
      let moved : SensorLate contents g actor row2 seen2 limit2 = subst (λ z. SensorLate contents g z row2 seen2 limit2) same k in
      let files = same_sensor moved.file h.file moved.bound h.bound (sym moved.sensor ∙ h.sensor) in
      let (bytes, is) = reported actor h.file h.bound h.sensor in
      let rows : moved.rows ≡ h.rows = same_ok {E = RowFault} moved.rows h.rows (agrees (rows_of (file_limits g.claims)) (contents h.file) bytes (Ok moved.rows) (Ok h.rows) is (subst (λ z. OfBytes (contents z) (λ bytes. rows_of (file_limits g.claims) bytes ≡ Ok moved.rows)) files.0 moved.read) h.read) in
      let is_late : IsLateRow h.rows g.until h.bound row2 seen2 limit2 = subst (λ b. IsLateRow h.rows g.until b row2 seen2 limit2) files.1 (subst (λ rs. IsLateRow rs g.until moved.bound row2 seen2 limit2) rows moved.is_late) in
      let parts = one_late_row h.rows g.until h.bound row2 row seen2 seen limit2 limit is_late h.is_late in
      λ i. fault.LateRow (same i) (parts.0 i) (parts.1 i) (parts.2 i)

  -- where all sensors give rows none is such
  pub fails_all : (late : LateRows) (actor : ℕ) (f : RowFault) → SensorFails late contents g actor f → AllHave late contents g → ⊥
  fails_all late actor f h (rows, are, pass) = fails_rows late actor f (rows actor) h (are actor)

  pub late_all : (actor row seen limit : ℕ) → SensorLate contents g actor row seen limit → AllHave Refused contents g → ⊥
  late_all actor row seen limit h (rows, are, pass) = late_rows actor row seen limit (rows actor) h (are actor) (pass actor)

-- a world makes one firing
module _ (g : Graph) (rank : ℕ → ℕ) where
  waits_for : (w : World) (x : ActorFiring) → Fires g rank w x → (p : ℕ) × (v : ℤ) × (w.waits x.actor p x.tag ≡ Some v)
  waits_for w x f = let at = eight_found (λ p. w.waits x.actor p x.tag) (ap any_present (sym f.inputs) ∙ f.present) in (at.0, at.1, at.3)

  both_first : (t u : Tag) (a b ra rb : ℕ) →
      ((t.time ≤ u.time) × (u.time ≤ t.time → (t.step ≤ u.step) × (u.step ≤ t.step → (ra ≤ rb) × (rb ≤ ra → a ≤ b)))) →
      ((u.time ≤ t.time) × (t.time ≤ u.time → (u.step ≤ t.step) × (t.step ≤ u.step → (rb ≤ ra) × (ra ≤ rb → b ≤ a)))) →
      (t.time ≡ u.time) × (t.step ≡ u.step) × (a ≡ b)
  both_first t u a b ra rb h k = (grind arith, grind arith, grind arith)

  same_firing : (w : World) (x y : ActorFiring) → Fires g rank w x → Fires g rank w y → x ≡ y
  same_firing w x y f h =
      let at_x = waits_for w x f in
      let at_y = waits_for w y h in
      let keys = both_first x.tag y.tag x.actor y.actor (rank x.actor) (rank y.actor) (f.first y.actor at_y.0 y.tag at_y.1 at_y.2) (h.first x.actor at_x.0 x.tag at_x.1 at_x.2) in
      let tag : x.tag ≡ y.tag = λ i. record { time = keys.0 i; step = keys.1 i } in
      let actor : x.actor ≡ y.actor = keys.2 in
      let inputs : x.inputs ≡ y.inputs = f.inputs ∙ ap₂ (λ a t. waiting w.waits a t) actor tag ∙ sym h.inputs in
      let before : x.before ≡ y.before = f.before ∙ ap w.states actor ∙ sym h.before in
      let after : x.after ≡ y.after = f.after ∙ (λ i. (fired (kind_of g (actor i)) (before i) (inputs i)).state) ∙ sym h.after in
      let outputs : x.outputs ≡ y.outputs = f.outputs ∙ (λ i. (fired (kind_of g (actor i)) (before i) (inputs i)).outputs) ∙ sym h.outputs in
      λ i. record { actor = actor i; tag = tag i; inputs = inputs i; before = before i; after = after i; outputs = outputs i }

  -- after as many firings as end with nothing that waits, or more, nothing waits
  ended : (xs ys : List ActorFiring) (w v : World) → Runs g rank w xs → Steps g rank w ys v → length xs ≤ length ys → (a p : ℕ) (t : Tag) (x : ℤ) → v.waits a p t ≡ Some x → ⊥
  ended [] [] w v runs same le a p t x waits = none_some x (sym (runs a p t) ∙ ap (λ (z : World). z.waits a p t) same ∙ waits)
  ended [] (y ∷ ys) w v runs (f, steps) le a p t x waits = let at = waits_for w y f in none_some at.1 (sym (runs y.actor at.0 y.tag) ∙ at.2)
  ended (z ∷ xs) [] w v runs same le a p t x waits = absurd (omega (arith, le))
  ended (z ∷ xs) (y ∷ ys) w v (h, runs) (f, steps) le a p t x waits =
      ended xs ys (after_firing g w z) v runs (subst (λ q. Steps g rank (after_firing g w q) ys v) (same_firing w y z f h) steps) (omega (arith, le)) a p t x waits

  not_longer : (rows : ℕ → List Row) (xs : List ActorFiring) (most : ℕ) → IsMeaning g rank rows xs → length xs ≤ most → IsLonger g rank rows most → ⊥
  not_longer rows xs most meaning le h =
      ended xs h.firings (at_start g rows) h.world meaning h.steps (subst (λ n. length xs ≤ n) (sym h.count) le) h.more.0 h.more.1 h.more.2 h.more.3 h.more.4

-- a meaning whose tables are written is not too long
pub meant_long : (contents : Contents) (g : Graph) (text : List ℕ) (rows : ℕ → List Row) → ReportsSensors contents g → AreRows contents g rows → IsMeant contents g text → IsTooLongForAll g rows → ⊥
meant_long contents g text rows reported are meant too_long =
    let means = meant.tables.means in
    let meaning : IsMeaning g means.rank (of_run g rows) meant.tables.firings = subst (λ rs. IsMeaning g means.rank (of_run g rs) meant.tables.firings) (rows_are_one contents g meant.rows rows reported meant.sensors are) means.meaning in
    not_longer g too_long.rank (of_run g rows) meant.tables.firings (g.claims * length g.platforms)
    (subst (λ rank. IsMeaning g rank (of_run g rows) meant.tables.firings) (ranks_are_one g means.rank too_long.rank means.ranks too_long.ranks) meaning)
    meant.tables.fact too_long.longer
