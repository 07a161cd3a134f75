-- Legal, linked and finished histories are a behaviour.
use Rattle.std.proofs.Common.{◌<◌, ◌≡◌, ℕ, zero, suc, ◌≤◌, ◌==◌, Bool, true, false, ◌&&◌, List, [], ◌∷◌, ◌++◌, Option, Some, None, ℤ, pos, nat_lt, map, slice_get, length, arith, refl, sym, ap, ap₂, subst, ◌∙◌, inl, inr, ⊎_elim, append-nil, append_assoc, eq-eqb, eqb-true, lt-ltb}
use Rattle.std.proofs.lemmas.Bool.{cases_Bool, cond-true, and_parts, and_from, false≢true}
use Rattle.pt_types.specs.declared.graph.Graph.{Graph}
use Rattle.pt_types.specs.declared.graph.Link.{Link}
use Rattle.pt_types.specs.declared.kind.Kind.{Kind}
use Rattle.pt_types.specs.declared.kind.Kind.TheVariants.{Sensor, Receive, Every}
use Rattle.pt_types.specs.declared.graph.Unit.{Unit}
use Rattle.pt_tags.specs.declared.tag.Tag.{Tag}
use Rattle.pt_tags.specs.Tags.{same_tag, plus, zero_delay}
use Rattle.pt_semantics.specs.Lists.{first_of, or_else, IsIn, Each}
use Rattle.pt_types.specs.Ports.{when, eight, at_port, nothing}
use Rattle.pt_semantics.specs.Edges.{Edge, edges, wires, links, of_link, first_state}
use Rattle.pt_types.specs.Lookups.{kind_of, platform_of}
use Rattle.pt_semantics.specs.Units.{at_input, at_output, source, target, unit_inputs}
use Rattle.pt_types.specs.Groups.{input_group}
use Rattle.pt_semantics.specs.Behaviours.{Firing, Firings, firing_at, state_before, firing_of, comes, comes_along, reaction, Behaves, Everywhere, IsClosed}
use Rattle.pt_semantics.specs.Cycles.{HasLevels}
use Rattle.pt_semantics.specs.Wired.{IsWired}
use Rattle.pt_semantics.specs.Bounds.{link_bound, bound_of, bound_by}
use Rattle.pt_types.specs.declared.rows.Row.{Row}
use Rattle.pt_semantics.specs.Meaning.{row_at, start_at, at_time, opening}
use Rattle.pt_semantics.specs.Platform.{State}
use Rattle.pt_semantics.specs.Turn.{Turn}
use Rattle.pt_tags.specs.declared.message.Message.{Message}
use Rattle.pt_semantics.specs.History.{claims_of, IsLegal}
use Rattle.pt_semantics.specs.Linked.{IsFinished, all_sent, all_taken, all_claims}
use Rattle.pt_semantics.specs.Taking.{value_of}
use Rattle.pt_semantics.specs.Posting.{as_message}
use Rattle.pt_semantics.specs.Orderly.{IsOrderly, FitsStep}
use Rattle.pt_types.specs.declared.firing.Task.{Task}
use Rattle.pt_tags.specs.declared.message.Message.TheVariants.{Event, End}
use Rattle.pt_semantics.specs.Rows.{FitsRow, FitRows}
use Rattle.pt_laws.specs.HistoryTheorems.{FloorOnTime, HistoriesBehave, HistoriesBehaveOn}
use Rattle.pt_semantics.specs.Settled.{IsSettled, AreCaughtUp}
use Rattle.pt_semantics.proofs.Longest.{levels_grow}
use Rattle.pt_semantics.proofs.Tags.{same_tag-true}
use Rattle.pt_semantics.proofs.Words.{when-true, when-false, when_same, first_of_same}
use Rattle.pt_semantics.proofs.Lookups.{none_some, same_some, or_else_none, when_found, when_or_else, when_none, first_of-append, first_of_found, first_of_none, Each-in, IsIn-append_right, eight_below, pick, at_pick, picked, IsIn-append_left}
use Rattle.pt_semantics.proofs.Floor.{bound_of_link, end_is}
use Rattle.pt_laws.proofs.Threads.{threaded_at, firing_is}
use Rattle.pt_laws.proofs.Keeps.{open_list}
use Rattle.pt_laws.proofs.Flows.{edges_fed_once, flows}
use Rattle.pt_laws.proofs.Came.{in_messages}
use Rattle.pt_laws.proofs.Steps.{IsShut, messages_of}
use Rattle.pt_laws.proofs.Walks.{Whole, Stuck, history_whole, on_time_history}

or_else_left : (x y : Option ℤ) → y ≡ None → or_else x y ≡ x
or_else_left x y e = ap (or_else x) e ∙ or_else_none x

or_else_right : (x y : Option ℤ) → x ≡ None → or_else x y ≡ y
or_else_right x y e = ap (λ o. or_else o y) e

absent : (o : Option ℤ) → ((v : ℤ) → o ≡ Some v → ⊥) → o ≡ None
absent None h = refl
absent (Some v) h = absurd (h v refl)

-- nothing is there past the horizon
pub kept_within : (b : Bool) (o : Option ℤ) → ((v : ℤ) → o ≡ Some v → b ≡ true) → when b o ≡ o
kept_within true o h = refl
kept_within false o h = sym (absent o (λ v e. false≢true (h v e)))

in_horizon : (m n : ℕ) → m ≤ n → nat_lt m (suc n) ≡ true
in_horizon m n h = lt-ltb m (suc n) (omega arith)

pub start_kind : (g : Graph) (k : Kind) (t : Tag) (v : ℤ) → start_at g k t ≡ Some v → nat_lt t.time (suc g.until) ≡ true
start_kind g (Every start period) t v h =
    let parts = and_parts (nat_lt start (suc g.until)) (same_tag (at_time start) t) (when_found (nat_lt start (suc g.until) && same_tag (at_time start) t) (Some (pos 0)) v h).0 in
    let time : start ≡ t.time = ap (λ (u : Tag). u.time) (same_tag-true (at_time start) t parts.1) in
    subst (λ m. nat_lt m (suc g.until) ≡ true) time parts.0
start_kind g _ t v h = absurd (none_some v h)

pub rows_within : (g : Graph) (a : ℕ) (rows : List Row) (t : Tag) (v : ℤ) → Each (FitsRow g a) rows → row_at rows t ≡ Some v → nat_lt t.time (suc g.until) ≡ true
rows_within g a rows t v fit h =
    let f = first_of_found (λ (row : Row). when (same_tag (at_time row.time) t) (Some row.value)) rows v h in
    let row : Row = f.0 in
    let is : FitsRow g a row = Each-in (FitsRow g a) rows fit row f.1 in
    let time : row.time ≡ t.time = ap (λ (u : Tag). u.time) (same_tag-true (at_time row.time) t (when_found (same_tag (at_time row.time) t) (Some row.value) v f.2).0) in
    subst (λ m. nat_lt m (suc g.until) ≡ true) time (in_horizon row.time g.until is.within)

rows_none : (g : Graph) (a : ℕ) (rows : List Row) (t : Tag) → Each (FitsRow g a) rows → ((file : List ℕ) (b : ℕ) → kind_of g a ≡ Sensor file b → ⊥) → row_at rows t ≡ None
rows_none g a rows t fit never = absent _ (λ v h.
    let f = first_of_found (λ (row : Row). when (same_tag (at_time row.time) t) (Some row.value)) rows v h in
    let is : FitsRow g a f.0 = Each-in (FitsRow g a) rows fit f.0 f.1 in
    never is.file is.bound is.sensor)

-- an edge of a list of links comes from a link
pub link_of : (ls : List Link) (e : Edge) → IsIn e (map of_link ls) → (l : ℕ) × (link : Link) × (slice_get ls l ≡ Some link) × (e ≡ of_link link)
link_of [] e m = absurd m
link_of (x ∷ ls) e m =
    ⊎_elim (λ (s : e ≡ of_link x). (0, x, refl, s)) (λ (r : IsIn e (map of_link ls)). let f = link_of ls e r in (suc f.0, f.1, f.2, f.3)) m

pub link_in : (ls : List Link) (l : ℕ) (link : Link) → slice_get ls l ≡ Some link → IsIn (of_link link) (map of_link ls)
link_in [] l link h = absurd (none_some link h)
link_in (x ∷ ls) zero link h = inl (ap of_link (sym (same_some x link h)))
link_in (x ∷ ls) (suc l) link h = inr (link_in ls l link h)

listed : {X : Type 0} (xs : List X) (x : X) → IsIn x xs → (l : ℕ) × (slice_get xs l ≡ Some x)
listed [] x m = absurd m
listed (y ∷ xs) x m = ⊎_elim (λ (e : x ≡ y). (0, ap Some (sym e))) (λ (r : IsIn x xs). let f = listed xs x r in (suc f.0, f.1)) m

-- where one member passes a test, what is found is what it has
pick_one : {X : Type 0} (b : X → Bool) (xs : List X) (x : X) → IsIn x xs → b x ≡ true → ((y z : X) → IsIn y xs → IsIn z xs → b y ≡ true → b z ≡ true → y ≡ z) → pick b xs ≡ Some x
pick_one b [] x mem yes_x one = absurd mem
pick_one b (y ∷ xs) x mem yes_x one =
    ⊎_elim
    (λ (yes_y : b y ≡ true). ap (λ o. or_else o (pick b xs)) (when-true (b y) (Some y) yes_y) ∙ ap Some (one y x (inl refl) mem yes_y yes_x))
    (λ (no_y : b y ≡ false).
    ap (λ o. or_else o (pick b xs)) (when-false (b y) (Some y) no_y)
    ∙ pick_one b xs x
    (⊎_elim (λ (e : x ≡ y). absurd (false≢true (sym no_y ∙ ap b (sym e) ∙ yes_x))) (λ (r : IsIn x xs). r) mem)
    yes_x (λ v w mv mw. one v w (inr mv) (inr mw)))
    (cases_Bool (b y))

one_found : {X Y : Type 0} (b : X → Bool) (h : X → Option Y) (xs : List X) (x : X) → IsIn x xs → b x ≡ true → ((y z : X) → IsIn y xs → IsIn z xs → b y ≡ true → b z ≡ true → y ≡ z) → first_of (λ y. when (b y) (h y)) xs ≡ h x
one_found b h xs x mem yes_x one = picked b h xs one ∙ ap (at_pick h) (pick_one b xs x mem yes_x one)

-- what a sender's messages say at a tag is what its firings bring along the link
message_value : (t u : Tag) (o : Option ℤ) → in_messages (as_message u o) t ≡ when (same_tag u t) o
message_value t u None = sym (when_none ℤ (same_tag u t))
message_value t u (Some v) = or_else_none (when (same_tag u t) (Some v))

plus_nothing : (u : Tag) → u ≡ plus u zero_delay
plus_nothing u = grind arith

messages_value : (xs : List Firing) (t : Tag) → in_messages (messages_of xs ++ End ∷ []) t ≡ first_of (λ (x : Firing). when (same_tag (plus x.tag zero_delay) t) (at_port x.outputs 0)) xs
messages_value [] t = refl
messages_value (x ∷ xs) t =
    ap (λ z. in_messages z t) (append_assoc (as_message x.tag (at_port x.outputs 0)) (messages_of xs) (End ∷ []))
    ∙ first_of-append (value_of t) (as_message x.tag (at_port x.outputs 0)) (messages_of xs ++ End ∷ [])
    ∙ ap₂ or_else (message_value t x.tag (at_port x.outputs 0) ∙ ap (λ u. when (same_tag u t) (at_port x.outputs 0)) (plus_nothing x.tag)) (messages_value xs t)

pub data SourceKind (g : Graph) (a : ℕ) : Type 0 where
  plain : bound_of g a ≡ None → SourceKind g a
  sensor : (file : List ℕ) (b : ℕ) → kind_of g a ≡ Sensor file b → SourceKind g a
  receiver : (l : ℕ) (link : Link) → slice_get g.links l ≡ Some link → link.to ≡ a → SourceKind g a

by_kind : (g : Graph) (a : ℕ) (k : Kind) (o : Option ℕ) → kind_of g a ≡ k → bound_by g a k ≡ o → SourceKind g a
by_kind g a k None ek eo = plain (ap (bound_by g a) ek ∙ eo)
by_kind g a (Sensor file bound) (Some b) ek eo = sensor file bound ek
by_kind g a Receive (Some b) ek eo =
    let f = first_of_found (λ (l : Link). when (l.to == a) (Some (link_bound g l))) g.links b eo in
    let at = listed g.links f.0 f.1 in
    receiver at.0 f.0 at.1 (eqb-true f.0.to a (when_found (f.0.to == a) (Some (link_bound g f.0)) b f.2).0)
by_kind g a _ (Some b) ek eo = absurd (none_some b eo)

pub source_kind : (g : Graph) (a : ℕ) → SourceKind g a
source_kind g a = by_kind g a (kind_of g a) (bound_of g a) refl refl

receive_sensor : (file : List ℕ) (b : ℕ) → Receive ≡ Sensor file b → ⊥
receive_sensor file b e = cc

-- where D holds nothing that is open leads on, and no row is left
pub record Unfed (g : Graph) (D : Unit → Tag → Type 0) (s : State) : Type 0 where
  pub busy : (e : Edge) (task : Task) → IsIn e (edges g) → s.busy (source g e) ≡ Some task → D (target g e) (plus task.tag e.weight) → ⊥
  pub left : (a : ℕ) (row : Row) → IsIn row (s.left a) → D (at_input g a 0) (at_time row.time) → ⊥

pub unfed : (g : Graph) (D : Unit → Tag → Type 0) (s : State) → IsSettled g D s → Unfed g D s
unfed g D s k = record { busy = k.busy; left = k.left }

-- two states of affairs join: what was claimed so far, by histories that are settled on D
module _ (g : Graph) (level : ℕ → ℕ) (rows : ℕ → List Row) (histories : ℕ → List Turn) (ends : ℕ → State) (wired : IsWired g) (fits : FitRows g rows) (D : Unit → Tag → Type 0) (closed : IsClosed g D) (here : (a : ℕ) → Whole g level (platform_of g a) rows (ends (platform_of g a)) (ends (platform_of g a)).reading (claims_of g (histories (platform_of g a))) (λ l. all_sent l (histories (platform_of g a))) (λ l. all_taken l (histories (platform_of g a)))) (settled : (a : ℕ) → Unfed g D (ends (platform_of g a))) (caught : AreCaughtUp g D histories ends) where
  abbrev f : Firings
  f u = all_claims g histories u

  -- along an edge into D what was posted brings as much as what was claimed
  posted_along : (a : ℕ) (e : Edge) (t : Tag) → IsIn e (edges g) → D (target g e) t → comes_along (here a).keeps.q g e t ≡ first_of (λ (x : Firing). when (same_tag (plus x.tag e.weight) t) (at_port x.outputs e.output)) (claims_of g (histories (platform_of g a)) (source g e))
  posted_along a e t mem d =
      sym (ap (λ xs. first_of (λ (x : Firing). when (same_tag (plus x.tag e.weight) t) (at_port x.outputs e.output)) xs) ((here a).keeps.chains.open_is (source g e))
      ∙ first_of-append (λ (x : Firing). when (same_tag (plus x.tag e.weight) t) (at_port x.outputs e.output)) ((here a).keeps.q (source g e)) (open_list g ((ends (platform_of g a)).busy (source g e)))
      ∙ or_else_left (comes_along (here a).keeps.q g e t) _ (open_none ((ends (platform_of g a)).busy (source g e)) refl))
    where
      open_none : (o : Option Task) → (ends (platform_of g a)).busy (source g e) ≡ o → first_of (λ (x : Firing). when (same_tag (plus x.tag e.weight) t) (at_port x.outputs e.output)) (open_list g ((ends (platform_of g a)).busy (source g e))) ≡ None
      open_none None b = ap (λ o. first_of (λ (x : Firing). when (same_tag (plus x.tag e.weight) t) (at_port x.outputs e.output)) (open_list g o)) b
      open_none (Some task) b =
          ap (λ o. first_of (λ (x : Firing). when (same_tag (plus x.tag e.weight) t) (at_port x.outputs e.output)) (open_list g o)) b
          ∙ ⊎_elim
          (λ (same : same_tag (plus task.tag e.weight) t ≡ true).
          absurd ((settled a).busy e task mem b (subst (λ z. D (target g e) z) (sym (same_tag-true (plus task.tag e.weight) t same)) d)))
          (λ (other : same_tag (plus task.tag e.weight) t ≡ false). or_else_none _ ∙ when-false (same_tag (plus task.tag e.weight) t) _ other)
          (cases_Bool (same_tag (plus task.tag e.weight) t))

  from_wires : (a p : ℕ) (t : Tag) → D (at_input g a p) t → first_of (λ (e : Edge). when (e.to == a && e.input == p) (comes_along (here a).keeps.q g e t)) (wires g) ≡ first_of (λ (e : Edge). when (e.to == a && e.input == p) (comes_along f g e t)) (wires g)
  from_wires a p t d = first_of_same _ _ (wires g) (λ e m.
      when_same (e.to == a && e.input == p) _ _ (λ both.
      let two = and_parts (e.to == a) (e.input == p) both in
      let to : e.to ≡ a = eqb-true e.to a two.0 in
      let home : platform_of g a ≡ platform_of g e.from = sym (wired.at_home e m ∙ ap (platform_of g) to) in
      let end : at_input g a p ≡ target g e = end_is g e a p to (eqb-true e.input p two.1) in
      posted_along a e t (IsIn-append_left e (wires g) (links g) m) (subst (λ z. D z t) end d)
      ∙ ap (λ i. first_of (λ (x : Firing). when (same_tag (plus x.tag e.weight) t) (at_port x.outputs e.output)) (claims_of g (histories i) (source g e))) home))

  no_wires : (a b p : ℕ) (t : Tag) → bound_of g a ≡ Some b → first_of (λ (e : Edge). when (e.to == a && e.input == p) (comes_along f g e t)) (wires g) ≡ None
  no_wires a b p t bound = absent _ (λ v h.
      let w = first_of_found (λ (e : Edge). when (e.to == a && e.input == p) (comes_along f g e t)) (wires g) v h in
      let e : Edge = w.0 in
      let to : e.to ≡ a = eqb-true e.to a (and_parts (e.to == a) (e.input == p) (when_found (e.to == a && e.input == p) _ v w.2).0).0 in
      none_some b (sym (wired.inner e w.1) ∙ ap (bound_of g) to ∙ bound))

  no_links : (a p : ℕ) (t : Tag) → ((l : ℕ) (link : Link) → slice_get g.links l ≡ Some link → link.to ≡ a → ⊥) → first_of (λ (e : Edge). when (e.to == a && e.input == p) (comes_along f g e t)) (links g) ≡ None
  no_links a p t never = absent _ (λ v h.
      let w = first_of_found (λ (e : Edge). when (e.to == a && e.input == p) (comes_along f g e t)) (links g) v h in
      let e : Edge = w.0 in
      let l = link_of g.links e w.1 in
      let to : e.to ≡ a = eqb-true e.to a (and_parts (e.to == a) (e.input == p) (when_found (e.to == a && e.input == p) _ v w.2).0).0 in
      never l.0 l.1 l.2 (ap (λ (z : Edge). z.to) (sym l.3) ∙ to))

  all_come : (a p : ℕ) (t : Tag) → first_of (λ (e : Edge). when (e.to == a && e.input == p) (comes_along f g e t)) (edges g) ≡ or_else (first_of (λ (e : Edge). when (e.to == a && e.input == p) (comes_along f g e t)) (wires g)) (first_of (λ (e : Edge). when (e.to == a && e.input == p) (comes_along f g e t)) (links g))
  all_come a p t = first_of-append (λ (e : Edge). when (e.to == a && e.input == p) (comes_along f g e t)) (wires g) (links g)

  came_plain : (a p : ℕ) (t : Tag) → D (at_input g a p) t → bound_of g a ≡ None → (here a).keeps.arr a p t ≡ comes g (opening g rows) f a p t
  came_plain a p t d none =
      let b : Bool = nat_lt t.time (suc g.until) in
      let start : Option ℤ = when (p == 0) (start_at g (kind_of g a) t) in
      let along : Option ℤ = first_of (λ (e : Edge). when (e.to == a && e.input == p) (comes_along f g e t)) (wires g) in
      let open_is : opening g rows a p t ≡ start = ap (when (p == 0)) (or_else_left (start_at g (kind_of g a) t) (row_at (rows a) t)
      (rows_none g a (rows a) t (fits.fit a) (λ file c kind. none_some c (sym none ∙ ap (bound_by g a) kind)))) in
      let all : first_of (λ (e : Edge). when (e.to == a && e.input == p) (comes_along f g e t)) (edges g) ≡ along =
      all_come a p t ∙ or_else_left along _ (no_links a p t (λ l link at to. none_some (link_bound g link) (sym none ∙ ap (bound_of g) (sym to) ∙ bound_of_link g l link wired at))) in
      (here a).keeps.came.inner a p t none
      ∙ ap (λ c. or_else (when (c && p == 0) (start_at g (kind_of g a) t)) (flows g (wires g) (here a).keeps.q a p t)) (eq-eqb (platform_of g a) (platform_of g a) refl)
      ∙ ap₂ or_else (sym (kept_within b start (λ v h. start_kind g (kind_of g a) t v (when_found (p == 0) (start_at g (kind_of g a) t) v h).1))) (ap (when b) (from_wires a p t d))
      ∙ sym (when_or_else b start along)
      ∙ ap (when b) (ap₂ or_else (sym open_is) (sym all))

  -- on D the rows that entered are all
  all_entered : (a p : ℕ) (t : Tag) → D (at_input g a p) t → when (p == 0) (row_at ((here a).keeps.came.entered a) t) ≡ when (p == 0) (row_at (rows a) t)
  all_entered a p t d = when_same (p == 0) _ _ (λ zero_p.
      let k = (here a).keeps in
      let left : List Row = (ends (platform_of g a)).left a in
      let d0 : D (at_input g a 0) t = subst (λ z. D (at_input g a z) t) (eqb-true p 0 zero_p) d in
      let none : row_at left t ≡ None = absent (row_at left t) (λ v h.
      let r = first_of_found (λ (row : Row). when (same_tag (at_time row.time) t) (Some row.value)) left v h in
      let tag : at_time r.0.time ≡ t = same_tag-true (at_time r.0.time) t (when_found (same_tag (at_time r.0.time) t) _ v r.2).0 in
      (settled a).left a r.0 r.1 (subst (λ z. D (at_input g a 0) z) (sym tag) d0)) in
      sym (or_else_left (row_at (k.came.entered a) t) (row_at left t) none)
      ∙ sym (first_of-append (λ (row : Row). when (same_tag (at_time row.time) t) (Some row.value)) (k.came.entered a) left)
      ∙ ap (λ l. row_at l t) (k.came.split a ∙ cond-true (platform_of g a == platform_of g a) (rows a) [] (eq-eqb (platform_of g a) (platform_of g a) refl)))

  came_sensor : (file : List ℕ) (a b p : ℕ) (t : Tag) → D (at_input g a p) t → kind_of g a ≡ Sensor file b → (here a).keeps.arr a p t ≡ comes g (opening g rows) f a p t
  came_sensor file a b p t d kind =
      let w : Bool = nat_lt t.time (suc g.until) in
      let k = (here a).keeps in
      let found : Option ℤ = when (p == 0) (row_at (rows a) t) in
      let open_is : opening g rows a p t ≡ found = ap (when (p == 0)) (or_else_right (start_at g (kind_of g a) t) (row_at (rows a) t) (ap (λ z. start_at g z t) kind)) in
      let none : first_of (λ (e : Edge). when (e.to == a && e.input == p) (comes_along f g e t)) (edges g) ≡ None =
      all_come a p t ∙ ap₂ or_else (no_wires a b p t (ap (bound_by g a) kind)) (no_links a p t (λ l link at to. receive_sensor file b (sym (wired.receives l link at) ∙ ap (kind_of g) to ∙ kind))) in
      k.came.sensors file a b p t kind
      ∙ all_entered a p t d
      ∙ sym (kept_within w found (λ v h. rows_within g a (rows a) t v (fits.fit a) (when_found (p == 0) (row_at (rows a) t) v h).1))
      ∙ ap (when w) (sym (or_else_none found) ∙ ap₂ or_else (sym open_is) (sym none))

  -- on D what was taken on a link is what its sender's firings send
  along_link : (l : ℕ) (link : Link) (t : Tag) → slice_get g.links l ≡ Some link → D (at_input g link.to 0) t → in_messages ((ends (platform_of g link.to)).taken l) t ≡ comes_along f g (of_link link) t
  along_link l link t at d =
      let from = (here link.from).keeps in
      let way = caught l link at in
      let none : in_messages way.0 t ≡ None = absent (in_messages way.0 t) (λ v h.
      let m = first_of_found (value_of t) way.0 v h in
      on_its_way m.0 v m.2 (λ w mem. way.2 t w mem d) m.1) in
      ap (λ z. in_messages z t) ((here link.to).keeps.taken_is l)
      ∙ sym (or_else_left (in_messages (all_taken l (histories (platform_of g link.to))) t) (in_messages way.0 t) none)
      ∙ sym (first_of-append (value_of t) (all_taken l (histories (platform_of g link.to))) way.0)
      ∙ ap (λ z. in_messages z t) (sym way.1)
      ∙ sent_value (ends (platform_of g link.from)).closed refl
      ∙ posted_along link.from (of_link link) t (IsIn-append_right (of_link link) (wires g) (links g) (link_in g.links l link at)) d
    where
      on_its_way : (m : Message) (v : ℤ) → value_of t m ≡ Some v → ((w : ℤ) → IsIn (Event t w) (caught l link at).0 → ⊥) → IsIn m (caught l link at).0 → ⊥
      on_its_way End v h never mem = none_some v h
      on_its_way (Event u x) v h never mem =
          let tag : u ≡ t = same_tag-true u t (when_found (same_tag u t) (Some x) v h).0 in
          never x (subst (λ z. IsIn (Event z x) (caught l link at).0) tag mem)

      sent_value : (b : Bool) → (ends (platform_of g link.from)).closed ≡ b → in_messages (all_sent l (histories (platform_of g link.from)) ++ (ends (platform_of g link.from)).outbox l) t ≡ comes_along (here link.from).keeps.q g (of_link link) t
      sent_value true e = ap (λ z. in_messages z t) ((here link.from).keeps.out.once_shut e l link at refl) ∙ messages_value ((here link.from).keeps.q (at_output g link.from 0)) t
      sent_value false e =
          ap (λ z. in_messages z t) ((here link.from).keeps.out.while_open e l link at refl)
          ∙ sym (first_of-append (value_of t) (messages_of ((here link.from).keeps.q (at_output g link.from 0))) (End ∷ []) ∙ or_else_none _)
          ∙ messages_value ((here link.from).keeps.q (at_output g link.from 0)) t

  message_within : (l : ℕ) (link : Link) (t : Tag) (v : ℤ) → slice_get g.links l ≡ Some link → in_messages ((ends (platform_of g link.to)).taken l) t ≡ Some v → nat_lt t.time (suc g.until) ≡ true
  message_within l link t v at h =
      let s : State = ends (platform_of g link.to) in
      let w = first_of_found (value_of t) (s.taken l) v h in
      let orderly : IsOrderly g level link (s.taken l) = (here link.to).keeps.orderly l link at in
      fits_within w.0 w.2 (Each-in (FitsStep g.until (length g.actors) (level link.to)) (s.taken l) orderly.1 w.0 w.1)
    where
      fits_within : (m : Message) → value_of t m ≡ Some v → FitsStep g.until (length g.actors) (level link.to) m → nat_lt t.time (suc g.until) ≡ true
      fits_within End e fit = absurd (none_some v e)
      fits_within (Event u x) e fit =
          let tag : u ≡ t = same_tag-true u t (when_found (same_tag u t) (Some x) v e).0 in
          subst (λ z. nat_lt z (suc g.until) ≡ true) (ap (λ (z : Tag). z.time) tag) (in_horizon u.time g.until fit.0)

  from_links : (l : ℕ) (link : Link) (p : ℕ) (t : Tag) → slice_get g.links l ≡ Some link → first_of (λ (e : Edge). when (e.to == link.to && e.input == p) (comes_along f g e t)) (links g) ≡ when (p == 0) (comes_along f g (of_link link) t)
  from_links l link p t at =
      ⊎_elim
      (λ (zero_p : (p == 0) ≡ true).
      one_found (λ (e : Edge). e.to == link.to && e.input == p) (λ (e : Edge). comes_along f g e t) (links g) (of_link link) (link_in g.links l link at)
      (and_from (link.to == link.to) (0 == p) (eq-eqb link.to link.to refl) (eq-eqb 0 p (sym (eqb-true p 0 zero_p))))
      (λ e d me md be bd.
      let pe = and_parts (e.to == link.to) (e.input == p) be in
      let pd = and_parts (d.to == link.to) (d.input == p) bd in
      edges_fed_once g wired e d (IsIn-append_right e (wires g) (links g) me) (IsIn-append_right d (wires g) (links g) md)
      (eqb-true e.to link.to pe.0 ∙ sym (eqb-true d.to link.to pd.0)) (eqb-true e.input p pe.1 ∙ sym (eqb-true d.input p pd.1)))
      ∙ sym (when-true (p == 0) (comes_along f g (of_link link) t) zero_p))
      (λ (other_p : (p == 0) ≡ false).
      first_of_none (λ (e : Edge). when (e.to == link.to && e.input == p) (comes_along f g e t)) (links g) (λ e m.
      let w = link_of g.links e m in
      let input : e.input ≡ 0 = ap (λ (z : Edge). z.input) w.3 in
      when-false (e.to == link.to && e.input == p) (comes_along f g e t)
      (⊎_elim
      (λ (both : (e.to == link.to && e.input == p) ≡ true).
      absurd (false≢true (sym other_p ∙ eq-eqb p 0 (sym (eqb-true e.input p (and_parts (e.to == link.to) (e.input == p) both).1) ∙ input))))
      (λ (not_both : (e.to == link.to && e.input == p) ≡ false). not_both)
      (cases_Bool (e.to == link.to && e.input == p))))
      ∙ sym (when-false (p == 0) (comes_along f g (of_link link) t) other_p))
      (cases_Bool (p == 0))

  came_link : (l : ℕ) (link : Link) (p : ℕ) (t : Tag) → slice_get g.links l ≡ Some link → D (at_input g link.to p) t → (here link.to).keeps.arr link.to p t ≡ comes g (opening g rows) f link.to p t
  came_link l link p t at d =
      let w : Bool = nat_lt t.time (suc g.until) in
      let taken : List Message = (ends (platform_of g link.to)).taken l in
      let found : Option ℤ = when (p == 0) (in_messages taken t) in
      let kind : kind_of g link.to ≡ Receive = wired.receives l link at in
      let open_is : opening g rows link.to p t ≡ None =
      ap (when (p == 0)) (ap₂ or_else (ap (λ z. start_at g z t) kind) (rows_none g link.to (rows link.to) t (fits.fit link.to) (λ file b k. receive_sensor file b (sym kind ∙ k)))) ∙ when_none ℤ (p == 0) in
      let all : first_of (λ (e : Edge). when (e.to == link.to && e.input == p) (comes_along f g e t)) (edges g) ≡ found =
      all_come link.to p t
      ∙ ap₂ or_else (no_wires link.to (link_bound g link) p t (bound_of_link g l link wired at)) (from_links l link p t at)
      ∙ when_same (p == 0) _ _ (λ zero_p. sym (along_link l link t at (subst (λ z. D (at_input g link.to z) t) (eqb-true p 0 zero_p) d))) in
      (here link.to).keeps.came.receivers l link p t at
      ∙ sym (kept_within w found (λ v h. message_within l link t v at (when_found (p == 0) (in_messages taken t) v h).1))
      ∙ ap (when w) (ap₂ or_else (sym open_is) (sym all))

  came_receiver : (a p : ℕ) (t : Tag) (l : ℕ) (link : Link) → D (at_input g a p) t → slice_get g.links l ≡ Some link → link.to ≡ a → (here a).keeps.arr a p t ≡ comes g (opening g rows) f a p t
  came_receiver a p t l link d at to = subst (λ z. D (at_input g z p) t → (here z).keeps.arr z p t ≡ comes g (opening g rows) f z p t) to (came_link l link p t at) d

  pub came_is : (a p : ℕ) (t : Tag) → D (at_input g a p) t → SourceKind g a → (here a).keeps.arr a p t ≡ comes g (opening g rows) f a p t
  came_is a p t d (plain none) = came_plain a p t d none
  came_is a p t d (sensor file b kind) = came_sensor file a b p t d kind
  came_is a p t d (receiver l link at to) = came_receiver a p t l link d at to

  reacts_none : ((a p : ℕ) (t : Tag) → p < 8 → D (at_input g a p) t → (ends (platform_of g a)).waits a p t ≡ None) → (u : Unit) (t : Tag) → D u t → firing_at (f u) t ≡ None → reaction g (opening g rows) f u t ≡ None
  reacts_none nothing_waits u t d e =
      let k = (here u.actor).keeps in
      let inputs : unit_inputs g (comes g (opening g rows) f) u t ≡ eight nothing = eight_below _ nothing (λ p lt.
      when_same (input_group (kind_of g u.actor) p == u.group) (comes g (opening g rows) f u.actor p t) None (λ eg.
      let unit : at_input g u.actor p ≡ u = unit_is u p (eqb-true _ u.group eg) in
      sym (came_is u.actor p t (subst (λ z. D z t) (sym unit) d) (source_kind g u.actor))
      ∙ sym (k.held.fresh u.actor p t lt (ap (λ v. firing_at (claims_of g (histories (platform_of g u.actor)) v) t) unit ∙ e))
      ∙ nothing_waits u.actor p t lt (subst (λ z. D z t) (sym unit) d))
      ∙ when_none ℤ (input_group (kind_of g u.actor) p == u.group)) in
      ap (λ i. firing_of (kind_of g u.actor) t (state_before (first_state (kind_of g u.actor)) (f u) t) i) inputs
    where
      unit_is : (u : Unit) (p : ℕ) → input_group (kind_of g u.actor) p ≡ u.group → at_input g u.actor p ≡ u
      unit_is u p eg = λ i. record { actor = u.actor; group = eg i }

  reacts_some : (u : Unit) (t : Tag) (x : Firing) → D u t → firing_at (f u) t ≡ Some x → Some x ≡ reaction g (opening g rows) f u t
  reacts_some u t x d e =
      let w = here u.actor in
      let k = w.keeps in
      let is = threaded_at (kind_of g u.actor) u.group (first_state (kind_of g u.actor)) (f u) t x (w.sound.floor.rises u) (k.chains.threaded u) e in
      let inputs : x.inputs ≡ unit_inputs g (comes g (opening g rows) f) u t =
      sym is.0.shape ∙ eight_below _ _ (λ p lt.
      when_same (input_group (kind_of g u.actor) p == u.group) (at_port x.inputs p) (comes g (opening g rows) f u.actor p t) (λ eg.
      let unit : at_input g u.actor p ≡ u = unit_is u p (eqb-true _ u.group eg) in
      k.held.used u.actor p t x lt (ap (λ v. firing_at (claims_of g (histories (platform_of g u.actor)) v) t) unit ∙ e)
      ∙ came_is u.actor p t (subst (λ z. D z t) (sym unit) d) (source_kind g u.actor))) in
      firing_is (kind_of g u.actor) u.group (state_before (first_state (kind_of g u.actor)) (f u) t) t x (unit_inputs g (comes g (opening g rows) f) u t) is.0 is.1 inputs
    where
      unit_is : (u : Unit) (p : ℕ) → input_group (kind_of g u.actor) p ≡ u.group → at_input g u.actor p ≡ u
      unit_is u p eg = λ i. record { actor = u.actor; group = eg i }

  reacts_is : ((a p : ℕ) (t : Tag) → p < 8 → D (at_input g a p) t → (ends (platform_of g a)).waits a p t ≡ None) → (u : Unit) (t : Tag) → D u t → (o : Option Firing) → firing_at (f u) t ≡ o → firing_at (f u) t ≡ reaction g (opening g rows) f u t
  reacts_is nothing_waits u t d None e = e ∙ sym (reacts_none nothing_waits u t d e)
  reacts_is nothing_waits u t d (Some x) e = e ∙ reacts_some u t x d e

  pub behaves : ((a p : ℕ) (t : Tag) → p < 8 → D (at_input g a p) t → (ends (platform_of g a)).waits a p t ≡ None) → Behaves g (opening g rows) D f
  behaves nothing_waits = record {
    rising = λ u. (here u.actor).sound.floor.rises u;
    reacts = λ u t d. reacts_is nothing_waits u t d (firing_at (f u) t) refl;
  }

-- the platform of a finished history, and all that it keeps
pub record Ended (g : Graph) (level : ℕ → ℕ) (i : ℕ) (rows : ℕ → List Row) (turns : List Turn) (s : State) : Type 0 where
  pub whole : Whole g level i rows s s.reading (claims_of g turns) (λ l. all_sent l turns) (λ l. all_taken l turns)
  pub shuts : IsShut g i s
  pub finished : IsFinished g i s

ended : (g : Graph) (level : ℕ → ℕ) (i : ℕ) (rows : ℕ → List Row) (turns : List Turn) (s : State) → IsWired g → HasLevels g level → FitRows g rows → IsLegal g level i rows turns s → IsFinished g i s → Ended g level i rows turns s
ended g level i rows turns s wired levels fits legal fin =
    ⊎_elim
    (λ (w : Whole g level i rows s s.reading (claims_of g turns) (λ l. all_sent l turns) (λ l. all_taken l turns)). record { whole = w; shuts = w.keeps.is_shut fin.closed; finished = fin })
    (λ (stuck : Stuck g i s.taken). absurd (stuck.never (fin.ends stuck.l stuck.link stuck.at stuck.home)))
    (history_whole g level i rows wired levels fits turns s legal.leads)

pub histories_behave : HistoriesBehave
histories_behave g level rows histories ends wired levels fits legal finished linked =
    let up = levels_grow g level levels in
    let end = λ (a : ℕ). ended g level (platform_of g a) rows (histories (platform_of g a)) (ends (platform_of g a)) wired up fits (legal (platform_of g a) (wired.homes a)) (finished (platform_of g a) (wired.homes a)) in
    behaves g level rows histories ends wired fits Everywhere (record { earlier = λ u s t l d. tt; sources = λ e s mem d. tt })
    (λ a. (end a).whole)
    (λ a. record {
      busy = λ e task mem b d. none_task task (sym ((end a).shuts.busy (source g e)) ∙ b);
      left = λ b row mem d. subst (IsIn row) ((end a).shuts.left b) mem;
    })
    (λ l link at. (
      [],
      ap (λ z. all_sent l (histories (platform_of g link.from)) ++ z) ((end link.from).finished.all_went l)
          ∙ append-nil (all_sent l (histories (platform_of g link.from))) ∙ linked l link at ∙ sym (append-nil (all_taken l (histories (platform_of g link.to)))),
      λ t v mem d. mem,
    ))
    (λ a p t lt d. (end a).shuts.waits a p t)
  where
    none_task : (t : Task) → None ≡ Some t → ⊥
    none_task t e = cc

pub histories_behave_on : HistoriesBehaveOn
histories_behave_on g level rows histories ends D wired levels fits closed legal settled caught =
    behaves g level rows histories ends wired fits D closed
    (λ a. on_time_history g level (platform_of g a) rows wired (levels_grow g level levels) fits (histories (platform_of g a)) (ends (platform_of g a)) (legal (platform_of g a) (wired.homes a)))
    (λ a. unfed g D (ends (platform_of g a)) (settled (platform_of g a) (wired.homes a)))
    caught
    (λ a. (settled (platform_of g a) (wired.homes a)).waits a)

pub floor_on_time : FloorOnTime
floor_on_time g level i rows turns s wired are fits legal = (on_time_history g level i rows wired (levels_grow g level are) fits turns s legal).sound.floor
