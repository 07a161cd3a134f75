-- The floor holds through each step of a platform.
use Rattle.std.proofs.Common.{◌≡◌, ℕ, suc, ◌+◌, ◌<◌, ◌≤◌, ◌==◌, ◌≢◌, Bool, true, false, ◌&&◌, List, [], ◌∷◌, Option, Some, None, ℤ, slice_get, arith, refl, sym, ap, ap₂, subst, ◌∙◌, inl, inr, ⊎_elim, eqb-true, ltb-true, nat_lt}
use Rattle.std.proofs.lemmas.Bool.{cases_Bool, and_parts, cond-true, cond-false}
use Rattle.pt_tags.specs.declared.tag.Tag.{Tag}
use Rattle.pt_tags.specs.declared.tag.Delay.{Delay}
use Rattle.pt_types.specs.declared.graph.Graph.{Graph}
use Rattle.pt_types.specs.declared.graph.Link.{Link}
use Rattle.pt_types.specs.declared.kind.Kind.TheVariants.{Sensor, Receive}
use Rattle.pt_types.specs.declared.graph.Unit.{Unit}
use Rattle.pt_tags.specs.Tags.{Before, UpTo, same_tag, plus, then, zero_delay}
use Rattle.pt_types.specs.Ports.{when, at_port}
use Rattle.pt_semantics.specs.Lists.{IsIn}
use Rattle.pt_semantics.specs.Edges.{Edge, wires, links}
use Rattle.pt_types.specs.Lookups.{kind_of}
use Rattle.pt_semantics.specs.Units.{source, target, at_input, at_output, same_part, unit_of, leaves_unit}
use Rattle.pt_types.specs.Groups.{input_group, output_group}
use Rattle.pt_semantics.specs.Meaning.{Values, row_at, at_time, going, added}
use Rattle.pt_semantics.specs.Behaviours.{Firing, Firings}
use Rattle.pt_semantics.specs.Ranks.{sum_along}
use Rattle.pt_semantics.specs.Paths.{Goes}
use Rattle.pt_semantics.specs.Bounds.{Feeds, bound_of, bound_by, link_bound}
use Rattle.pt_semantics.specs.Cycles.{HasLevels}
use Rattle.pt_semantics.specs.Wired.{IsWired}
use Rattle.pt_types.specs.declared.rows.Row.{Row}
use Rattle.pt_types.specs.declared.firing.Task.{Task}
use Rattle.pt_types.specs.declared.firing.Done.{Done}
use Rattle.pt_tags.specs.declared.message.Message.{Message}
use Rattle.pt_semantics.specs.Platform.{State, put_busy, raised}
use Rattle.pt_semantics.specs.Posting.{after_post}
use Rattle.pt_semantics.specs.Entering.{after_rows, due}
use Rattle.pt_semantics.specs.Taking.{after_message, value_of, IsOnTime}
use Rattle.pt_tags.specs.declared.message.Message.TheVariants.{Event, End}
use Rattle.pt_semantics.specs.Floor.{Floor}
use Rattle.pt_semantics.specs.Rows.{FitsRow}
use Rattle.pt_semantics.proofs.Tags.{same_tag-true}
use Rattle.pt_semantics.proofs.Words.{when-true, when-false}
use Rattle.pt_semantics.proofs.Lookups.{none_some, or_else_found, when_found, first_of_found, first_of_at, IsIn-append_left, same_part-refl, same_part-true, same_part_not, cases_part}

-- a state with other values
abbrev pub with_waits : State → Values → State
with_waits s waits = record s { waits = waits }

-- new values are past what is claimed
abbrev pub IsPast : Graph → Firings → Values → Type 0
IsPast g claimed new = (a p : ℕ) (t : Tag) (v : ℤ) (path : List Edge) (u : Unit) (x : Firing) → new a p t ≡ Some v → Goes g (at_input g a p) path u → IsIn x (claimed u) → Before x.tag (plus t (sum_along path))

pub plus_then : (t : Tag) (d e : Delay) → plus (plus t d) e ≡ plus t (then d e)
plus_then t d e = grind arith

pub plus_zero : (t : Tag) → plus t zero_delay ≡ t
plus_zero t = grind arith

-- a path whose times are 0 leads to higher levels
pub path_grows : (g : Graph) (level : ℕ → ℕ) → HasLevels g level → (path : List Edge) (x a : Unit) → Goes g x path a → (sum_along path).time ≡ 0 → level x.actor ≤ level a.actor
path_grows g level up [] x a go z = let e : x.actor ≡ a.actor = ap (λ (w : Unit). w.actor) go in subst (λ n. level x.actor ≤ level n) e (omega arith)
path_grows g level up (e ∷ path) x a (mem, src, go) z =
    let here : level e.from < level e.to = up e (IsIn-append_left e (wires g) (links g) mem) (omega arith) in
    let rest : level e.to ≤ level a.actor = path_grows g level up path (target g e) a go (omega arith) in
    let es : e.from ≡ x.actor = ap (λ (w : Unit). w.actor) src in
    subst (λ n. level n ≤ level a.actor) es (omega arith)

pub cycle_takes_time : (g : Graph) (level : ℕ → ℕ) → HasLevels g level → (e : Edge) (path : List Edge) (x : Unit) → Goes g x (e ∷ path) x → (sum_along (e ∷ path)).time ≡ 0 → ⊥
cycle_takes_time g level up e path x (mem, src, go) z =
    let here : level e.from < level e.to = up e (IsIn-append_left e (wires g) (links g) mem) (omega arith) in
    let rest : level e.to ≤ level x.actor = path_grows g level up path (target g e) x go (omega arith) in
    let es : level e.from ≡ level x.actor = ap (λ (w : Unit). level w.actor) src in
    omega arith

-- what comes in past the floor leaves it
pub floor_arrive : (g : Graph) (s : State) (c : Firings) (new : Values) → Floor g s c → IsPast g c new → Floor g (with_waits s (added s.waits new)) c
floor_arrive g s c new f past = record {
  waits = λ a p t v path u x lt found go mem.
      ⊎_elim (λ (old : s.waits a p t ≡ Some v). f.waits a p t v path u x lt old go mem) (λ (n : new a p t ≡ Some v). past a p t v path u x n go mem) (or_else_found (s.waits a p t) (new a p t) v found);
  open_elsewhere = f.open_elsewhere;
  open_here = f.open_here;
  open_claimed = f.open_claimed;
  sources = f.sources;
  rises = f.rises;
}

-- what goes out along an edge
pub record Went (g : Graph) (along : List Edge) (leaves : Edge → Bool) (tag : Tag) (outputs : List (Option ℤ)) (a p : ℕ) (t : Tag) (v : ℤ) : Type 0 where
  pub edge : Edge
  pub mem : IsIn edge along
  pub to : edge.to ≡ a
  pub input : edge.input ≡ p
  pub leaves_it : leaves edge ≡ true
  pub when_is : plus tag edge.weight ≡ t
  pub value : at_port outputs edge.output ≡ Some v
  pub within : t.time ≤ g.until

pub going_found : (g : Graph) (along : List Edge) (leaves : Edge → Bool) (tag : Tag) (outputs : List (Option ℤ)) (a p : ℕ) (t : Tag) (v : ℤ) → going g along leaves tag outputs a p t ≡ Some v → Went g along leaves tag outputs a p t v
going_found g along leaves tag outputs a p t v h =
    let w = when_found _ _ v h in
    let f = first_of_found _ along v w.1 in
    let e : Edge = f.0 in
    let ends = when_found (e.to == a && e.input == p) _ v f.2 in
    let parts = and_parts (e.to == a) (e.input == p) ends.0 in
    let tags = when_found (leaves e && same_tag (plus tag e.weight) t) _ v ends.1 in
    let two = and_parts (leaves e) (same_tag (plus tag e.weight) t) tags.0 in
    record {
      edge = e;
      mem = f.1;
      to = eqb-true e.to a parts.0;
      input = eqb-true e.input p parts.1;
      leaves_it = two.0;
      when_is = same_tag-true (plus tag e.weight) t two.1;
      value = tags.1;
      within = le_of_test t.time g.until w.0;
    }
  where
    le_of_test : (m n : ℕ) → nat_lt m (suc n) ≡ true → m ≤ n
    le_of_test m n q = let r : m < suc n = ltb-true m (suc n) q in omega arith

pub end_is : (g : Graph) (e : Edge) (a p : ℕ) → e.to ≡ a → e.input ≡ p → at_input g a p ≡ target g e
end_is g e a p ea ep = ap₂ (λ b q. at_input g b q) (sym ea) (sym ep)

pub past_own : (x tag : Tag) (d : Delay) → UpTo x tag → (d.time ≡ 0 → ⊥) → Before x (plus tag d)
past_own x tag d h nz = grind arith

pub going_past : (g : Graph) (level : ℕ → ℕ) (s : State) (c : Firings) (w : Unit) (task : Task) (outputs : List (Option ℤ)) → HasLevels g level → Floor g s c → s.busy w ≡ Some task → IsPast g c (going g (wires g) (leaves_unit g w) task.tag outputs)
going_past g level s c w task outputs up f busy a p t v path u x found go mem =
    let went = going_found g (wires g) (leaves_unit g w) task.tag outputs a p t v found in
    let e : Edge = went.edge in
    let src : source g e ≡ w = sym (same_part-true w (source g e) went.leaves_it) in
    let on : Goes g (target g e) path u = subst (λ z. Goes g z path u) (end_is g e a p went.to went.input) go in
    let whole : Goes g w (e ∷ path) u = (went.mem, src, on) in
    let past : Before x.tag (plus task.tag (sum_along (e ∷ path))) =
    ⊎_elim
    (λ (same : w ≡ u).
    past_own x.tag task.tag (sum_along (e ∷ path))
    (f.open_here w task x busy (subst (λ z. IsIn x (c z)) (sym same) mem))
    (cycle_takes_time g level up e path w (subst (λ z. Goes g w (e ∷ path) z) (sym same) whole)))
    (λ (other : w ≢ u). f.open_elsewhere w task (e ∷ path) u x busy other whole mem)
    (cases_part w u) in
    subst (λ z. Before x.tag (plus z (sum_along path))) went.when_is
    (subst (λ z. Before x.tag z) (sym (plus_then task.tag e.weight (sum_along path))) past)

pub put_other : (busy : Unit → Option Task) (w v : Unit) (o : Option Task) → w ≢ v → put_busy busy w o v ≡ busy v
put_other busy w v o ne = cond-false (same_part w v) o (busy v) (same_part_not w v ne)

pub put_same : (busy : Unit → Option Task) (w v : Unit) (o : Option Task) → w ≡ v → put_busy busy w o v ≡ o
put_same busy w v o e = cond-true (same_part w v) o (busy v) (subst (λ z. same_part w z ≡ true) e (same_part-refl w))

pub put_none_found : (busy : Unit → Option Task) (w v : Unit) (task : Task) → put_busy busy w None v ≡ Some task → busy v ≡ Some task
put_none_found busy w v task h =
    ⊎_elim (λ (e : w ≡ v). absurd (none_some task (sym (put_same busy w v None e) ∙ h))) (λ (ne : w ≢ v). sym (put_other busy w v None ne) ∙ h) (cases_part w v)

pub floor_post : (g : Graph) (level : ℕ → ℕ) (s : State) (c : Firings) (d : Done) → HasLevels g level → Floor g s c → s.busy (unit_of g d.task) ≡ Some d.task → Floor g (after_post g s d) c
floor_post g level s c d up f busy =
    let f2 = floor_arrive g s c (going g (wires g) (leaves_unit g (unit_of g d.task)) d.task.tag d.fired.outputs) f (going_past g level s c (unit_of g d.task) d.task d.fired.outputs up f busy) in
    record {
      waits = f2.waits;
      open_elsewhere = λ w task path u x h ne go mem. f.open_elsewhere w task path u x (put_none_found s.busy (unit_of g d.task) w task h) ne go mem;
      open_here = λ u task x h mem. f.open_here u task x (put_none_found s.busy (unit_of g d.task) u task h) mem;
      open_claimed = λ u task h. f.open_claimed u task (put_none_found s.busy (unit_of g d.task) u task h);
      sources = f.sources;
      rises = f.rises;
    }

-- rows
pub sensor_unit : (g : Graph) (file : List ℕ) (a p b : ℕ) → kind_of g a ≡ Sensor file b → at_input g a p ≡ at_output g a 0
sensor_unit g file a p b e =
    let same : input_group (kind_of g a) p ≡ output_group (kind_of g a) 0 = ap (λ k. input_group k p) e ∙ sym (ap (λ k. output_group k 0) e) in
    λ i. record { actor = a; group = same i }

pub receiver_unit : (g : Graph) (a p : ℕ) → kind_of g a ≡ Receive → at_input g a p ≡ at_output g a 0
receiver_unit g a p e =
    let same : input_group (kind_of g a) p ≡ output_group (kind_of g a) 0 = ap (λ k. input_group k p) e ∙ sym (ap (λ k. output_group k 0) e) in
    λ i. record { actor = a; group = same i }

pub past_reading : (x t : Tag) (d : Delay) (r b seen : ℕ) → x.time + b < r + d.time → r ≤ seen → seen ≤ t.time + b → Before x (plus t d)
past_reading x t d r b seen h k l = omega arith

-- each of these rows was not seen by the last reading
abbrev pub NotSeen : Graph → State → (ℕ → List Row) → Type 0
NotSeen g s rows = (a : ℕ) (row : Row) → IsIn row (rows a) → FitsRow g a row × ((r : ℕ) → s.reading ≡ Some r → r < row.seen)

abbrev pub row_values : (ℕ → List Row) → Values
row_values rows a p t = when (p == 0) (row_at (rows a) t)

pub rows_past : (g : Graph) (s : State) (c : Firings) (rows : ℕ → List Row) → Floor g s c → NotSeen g s rows → IsPast g c (row_values rows)
rows_past g s c rows f fresh a p t v path u x found go mem =
    let here = when_found (p == 0) _ v found in
    let at = first_of_found _ (rows a) v here.1 in
    let row : Row = at.0 in
    let tag = when_found (same_tag (at_time row.time) t) _ v at.2 in
    let et : at_time row.time ≡ t = same_tag-true (at_time row.time) t tag.0 in
    let fits = (fresh a row at.1).0 in
    let feeds : Feeds g a fits.bound path u = record { bound = ap (bound_by g a) fits.sensor; goes = subst (λ z. Goes g z path u) (sensor_unit g fits.file a p fits.bound fits.sensor) go } in
    let from = f.sources a fits.bound path u x feeds mem in
    let later : from.0 < row.seen = (fresh a row at.1).1 from.0 from.1 in
    subst (λ z. Before x.tag (plus z (sum_along path))) et
    (past_reading x.tag (at_time row.time) (sum_along path) from.0 fits.bound row.seen from.2 (omega arith) fits.in_time)

pub floor_rows : (g : Graph) (s : State) (c : Firings) (r : ℕ) → Floor g s c → NotSeen g s (λ a. due r (s.left a)) → Floor g (after_rows s r) c
floor_rows g s c r f fresh =
    let f2 = floor_arrive g s c (row_values (λ a. due r (s.left a))) f (rows_past g s c (λ a. due r (s.left a)) f fresh) in
    record { waits = f2.waits; open_elsewhere = f.open_elsewhere; open_here = f.open_here; open_claimed = f.open_claimed; sources = f.sources; rises = f.rises }

-- messages
pub bound_of_link : (g : Graph) (l : ℕ) (link : Link) → IsWired g → slice_get g.links l ≡ Some link → bound_of g link.to ≡ Some (link_bound g link)
bound_of_link g l link wired at =
    ap (bound_by g link.to) (wired.receives l link at)
    ∙ first_of_at _ g.links l link (link_bound g link) at (when-true (link.to == link.to) (Some (link_bound g link)) (same_ℕ link.to))
    (λ k other atk.
    ⊎_elim
    (λ (yes_k : (other.to == link.to) ≡ true). inr (wired.one_link k l other link atk at (eqb-true other.to link.to yes_k)))
    (λ (no_k : (other.to == link.to) ≡ false). inl (when-false (other.to == link.to) (Some (link_bound g other)) no_k))
    (cases_Bool (other.to == link.to)))
  where
    same_ℕ : (n : ℕ) → (n == n) ≡ true
    same_ℕ n = grind arith

abbrev pub message_values : Link → Message → Values
message_values link m a p t = when (a == link.to && p == 0) (value_of t m)

pub message_past : (g : Graph) (s : State) (c : Firings) (l : ℕ) (link : Link) (m : Message) → IsWired g → Floor g s c → slice_get g.links l ≡ Some link → IsOnTime s.reading (link_bound g link) m → IsPast g c (message_values link m)
message_past g s c l link End wired f at ok a p t v path u x found go mem =
    let here = when_found (a == link.to && p == 0) _ v found in absurd (none_some v here.1)
message_past g s c l link (Event tag value) wired f at ok a p t v path u x found go mem =
    let here = when_found (a == link.to && p == 0) _ v found in
    let parts = and_parts (a == link.to) (p == 0) here.0 in
    let ea : a ≡ link.to = eqb-true a link.to parts.0 in
    let et : tag ≡ t = same_tag-true tag t (when_found (same_tag tag t) _ v here.1).0 in
    let unit : at_input g a p ≡ at_output g link.to 0 = ap (λ b. at_input g b p) ea ∙ receiver_unit g link.to p (wired.receives l link at) in
    let feeds : Feeds g link.to (link_bound g link) path u = record { bound = bound_of_link g l link wired at; goes = subst (λ z. Goes g z path u) unit go } in
    let from = f.sources link.to (link_bound g link) path u x feeds mem in
    let timely : from.0 ≤ tag.time + link_bound g link = subst (λ o. IsOnTime o (link_bound g link) (Event tag value)) from.1 ok in
    subst (λ z. Before x.tag (plus z (sum_along path))) et
    (past_reading x.tag tag (sum_along path) from.0 (link_bound g link) from.0 from.2 (omega arith) timely)

pub floor_message : (g : Graph) (s : State) (c : Firings) (l : ℕ) (link : Link) (m : Message) → IsWired g → Floor g s c → slice_get g.links l ≡ Some link → IsOnTime s.reading (link_bound g link) m → Floor g (after_message s l link m) c
floor_message g s c l link m wired f at ok =
    let f2 = floor_arrive g s c (message_values link m) f (message_past g s c l link m wired f at ok) in
    record { waits = f2.waits; open_elsewhere = f.open_elsewhere; open_here = f.open_here; open_claimed = f.open_claimed; sources = f.sources; rises = f.rises }

-- a later reading
pub floor_raise : (g : Graph) (s : State) (c : Firings) (r : ℕ) → Floor g s c → ((p : ℕ) → s.reading ≡ Some p → p ≤ r) → Floor g (raised s r) c
floor_raise g s c r f up = record {
  waits = f.waits;
  open_elsewhere = f.open_elsewhere;
  open_here = f.open_here;
  open_claimed = f.open_claimed;
  rises = f.rises;
  sources = λ a b path u x feeds mem.
      let from = f.sources a b path u x feeds mem in
      let le : from.0 ≤ r = up from.0 from.1 in
      let lt : x.tag.time + b < r + (sum_along path).time = let old : x.tag.time + b < from.0 + (sum_along path).time = from.2 in omega arith in
      (r, refl, lt);
}
