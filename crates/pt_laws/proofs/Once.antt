-- No input port ever has two events of one tag.
use Rattle.std.proofs.Common.{◌≡◌, ℕ, suc, ◌+◌, ◌<◌, ◌≤◌, ◌==◌, true, false, ◌&&◌, nat_lt, List, [], ◌∷◌, ◌++◌, Option, Some, None, ℤ, slice_get, if◌then◌else◌, arith, refl, sym, ap, subst, ◌∙◌, inl, ⊎_elim, eqb-true}
use Rattle.std.proofs.lemmas.Bool.{and_parts, false≢true, cases_Bool, cond-true, cond-false}
use Rattle.pt_types.specs.declared.graph.Graph.{Graph}
use Rattle.pt_types.specs.declared.graph.Link.{Link}
use Rattle.pt_tags.specs.declared.tag.Tag.{Tag}
use Rattle.pt_types.specs.declared.kind.Kind.{Kind}
use Rattle.pt_types.specs.declared.kind.Kind.TheVariants.{Every}
use Rattle.pt_types.specs.declared.graph.Unit.{Unit}
use Rattle.pt_tags.specs.Tags.{Before, plus, same_tag}
use Rattle.pt_types.specs.Ports.{when}
use Rattle.pt_semantics.specs.Lists.{IsIn}
use Rattle.pt_semantics.specs.Edges.{Edge, wires, links}
use Rattle.pt_types.specs.Lookups.{kind_of, platform_of}
use Rattle.pt_semantics.specs.Units.{source, at_input, unit_of, leaves_unit}
use Rattle.pt_semantics.specs.Meaning.{Values, row_at, start_at, at_time, going}
use Rattle.pt_semantics.specs.Behaviours.{Firing, Firings, Rising, firing_at}
use Rattle.pt_semantics.specs.Wired.{IsWired}
use Rattle.pt_semantics.specs.Cycles.{HasLevels}
use Rattle.pt_semantics.specs.Bounds.{bound_of, link_bound}
use Rattle.pt_types.specs.declared.rows.Row.{Row}
use Rattle.pt_types.specs.declared.firing.Done.{Done}
use Rattle.pt_tags.specs.declared.message.Message.{Message}
use Rattle.pt_semantics.specs.Platform.{State}
use Rattle.pt_semantics.specs.Posting.{Posts}
use Rattle.pt_semantics.specs.Entering.{after_rows, due, not_due}
use Rattle.pt_semantics.specs.History.{firing_by, claims_of}
use Rattle.pt_semantics.specs.Orderly.{IsOrderly, InOrder, ComesAfter}
use Rattle.pt_semantics.specs.Taking.{IsOnTime, value_of}
use Rattle.pt_semantics.specs.Linked.{all_sent, all_taken}
use Rattle.pt_tags.specs.declared.message.Message.TheVariants.{Event, End}
use Rattle.pt_semantics.specs.Rows.{FitsRow, FitRows, TimesRise}
use Rattle.pt_semantics.specs.Floor.{NothingThere, NeverTwice}
use Rattle.pt_laws.specs.HistoryTheorems.{NoPortTwice}
use Rattle.pt_semantics.proofs.Longest.{levels_grow}
use Rattle.pt_semantics.proofs.Tags.{Before-irrefl, plus-cancel, same_tag-true}
use Rattle.pt_semantics.proofs.Lookups.{none_some, or_else_found, when_found, first_of_found, Each-in, IsIn-append_left, IsIn-append_right, same_part-true}
use Rattle.pt_laws.proofs.Rows.{due_split}
use Rattle.pt_semantics.proofs.Floor.{going_found, going_past, row_values, rows_past, message_values, message_past}
use Rattle.pt_laws.proofs.FloorHolds.{posts_sound, rows_sound}
use Rattle.pt_laws.proofs.Flows.{edges_fed_once, flows}
use Rattle.pt_laws.proofs.Held.{Held, IsNew, past_new}
use Rattle.pt_laws.proofs.Keeps.{open_list}
use Rattle.pt_laws.proofs.Came.{in_messages}
use Rattle.pt_laws.proofs.Steps.{keeps_rows, start_time}
use Rattle.pt_laws.proofs.Walks.{Whole, Stuck, posts_whole, takes_whole, on_time_history}

pub absent : (o : Option ℤ) → ((v : ℤ) → o ≡ Some v → ⊥) → o ≡ None
absent None h = refl
absent (Some v) h = absurd (h v refl)

-- where something new comes, what waits has come before
waits_is : (g : Graph) (waits : Values) (c : Firings) (arr new : Values) → Held g waits c arr → IsNew g c new → (a p : ℕ) (t : Tag) (v w : ℤ) → p < 8 → new a p t ≡ Some v → waits a p t ≡ Some w → arr a p t ≡ Some w
waits_is g waits c arr new held fresh a p t v w lt n h = at (firing_at (c (at_input g a p)) t) refl
  where
    at : (o : Option Firing) → firing_at (c (at_input g a p)) t ≡ o → arr a p t ≡ Some w
    at None e = sym (held.fresh a p t lt e) ∙ h
    at (Some x) e = absurd (none_some v (sym (fresh a p t x e) ∙ n))

rising_last : (xs : List Firing) (x y : Firing) → Rising (xs ++ x ∷ []) → IsIn y xs → Before y.tag x.tag
rising_last [] x y r m = absurd m
rising_last (z ∷ xs) x y r m =
    ⊎_elim
    (λ (e : y ≡ z). subst (λ (k : Firing). Before k.tag x.tag) (sym e) (Each-in (λ (k : Firing). Before z.tag k.tag) (xs ++ x ∷ []) r.0 x (IsIn-append_right x xs (x ∷ []) (inl refl))))
    (λ (n : IsIn y xs). rising_last xs x y r.1 n)
    m

rises_apart : (xs ys : List Row) (x y : Row) → TimesRise (xs ++ ys) → IsIn x xs → IsIn y ys → x.time < y.time
rises_apart [] ys x y r mx my = absurd mx
rises_apart (z ∷ xs) ys x y r mx my =
    ⊎_elim
    (λ (e : x ≡ z). subst (λ (k : Row). k.time < y.time) (sym e) (Each-in (λ (k : Row). z.time < k.time) (xs ++ ys) r.0 y (IsIn-append_right y xs ys my)))
    (λ (n : IsIn x xs). rises_apart xs ys x y r.1 n my)
    mx

order_last : (xs : List Message) (m x : Message) → InOrder (xs ++ m ∷ []) → IsIn x xs → ComesAfter x m
order_last [] m x r n = absurd n
order_last (y ∷ xs) m x r n =
    ⊎_elim
    (λ (e : x ≡ y). subst (λ k. ComesAfter k m) (sym e) (Each-in (ComesAfter y) (xs ++ m ∷ []) r.0 m (IsIn-append_right m xs (m ∷ []) (inl refl))))
    (λ (k : IsIn x xs). order_last xs m x r.1 k)
    n

module _ (g : Graph) (level : ℕ → ℕ) (i : ℕ) (rows : ℕ → List Row) (wired : IsWired g) (levels : HasLevels g level) (fits : FitRows g rows) where
  post_once : (s : State) (up : Option ℕ) (c : Firings) (sent tk : ℕ → List Message) (d : Done) → Whole g level i rows s up c sent tk → s.busy (unit_of g d.task) ≡ Some d.task → NothingThere s.waits (going g (wires g) (leaves_unit g (unit_of g d.task)) d.task.tag d.fired.outputs)
  post_once s up c sent tk d h busy a p t v new = absent (s.waits a p t) (λ w there.
      let k = h.keeps in
      let u : Unit = unit_of g d.task in
      let went = going_found g (wires g) (leaves_unit g u) d.task.tag d.fired.outputs a p t v new in
      let e : Edge = went.edge in
      let src : u ≡ source g e = same_part-true u (source g e) went.leaves_it in
      let lt : p < 8 = subst (λ n. n < 8) went.input (wired.ports e (IsIn-append_left e (wires g) (links g) went.mem)) in
      let arr : k.arr a p t ≡ Some w = waits_is g s.waits c k.arr _ k.held (past_new g c _ (going_past g level s c u d.task d.fired.outputs levels h.sound.floor busy)) a p t v w lt new there in
      let bound : bound_of g a ≡ None = ap (bound_of g) (sym went.to) ∙ wired.inner e went.mem in
      let list : c u ≡ k.q u ++ firing_by g d.task ∷ [] = k.chains.open_is u ∙ ap (λ o. k.q u ++ open_list g o) busy in
      let mine : IsIn (firing_by g d.task) (c u) = subst (IsIn (firing_by g d.task)) (sym list) (IsIn-append_right (firing_by g d.task) (k.q u) (firing_by g d.task ∷ []) (inl refl)) in
      ⊎_elim
      (λ (s : when (platform_of g a == i && p == 0) (start_at g (kind_of g a) t) ≡ Some w). starts (kind_of g a) refl e went.mem went.to t w mine src went.when_is (when_found (platform_of g a == i && p == 0) _ w s).1 (λ start period kind. k.after_start u (firing_by g d.task) start period kind mine))
      (λ (f : flows g (wires g) k.q a p t ≡ Some w).
      let e2 = first_of_found _ (wires g) w (when_found (nat_lt t.time (suc g.until)) _ w f).1 in
      let ends = when_found (e2.0.to == a && e2.0.input == p) _ w e2.2 in
      let parts = and_parts (e2.0.to == a) (e2.0.input == p) ends.0 in
      let same : e2.0 ≡ e = edges_fed_once g wired e2.0 e (IsIn-append_left e2.0 (wires g) (links g) e2.1) (IsIn-append_left e (wires g) (links g) went.mem)
      (eqb-true e2.0.to a parts.0 ∙ sym went.to) (eqb-true e2.0.input p parts.1 ∙ sym went.input) in
      let y = first_of_found _ (k.q (source g e2.0)) w ends.1 in
      let tag : plus y.0.tag e2.0.weight ≡ t = same_tag-true (plus y.0.tag e2.0.weight) t (when_found _ _ w y.2).0 in
      let tag_e : plus y.0.tag e.weight ≡ plus d.task.tag e.weight = ap (λ (z : Edge). plus y.0.tag z.weight) (sym same) ∙ tag ∙ sym went.when_is in
      let equal : y.0.tag ≡ d.task.tag = plus-cancel y.0.tag d.task.tag e.weight tag_e in
      let in_u : IsIn y.0 (k.q u) = subst (λ z. IsIn y.0 (k.q z)) (ap (source g) same ∙ sym src) y.1 in
      let before : Before y.0.tag d.task.tag = rising_last (k.q u) (firing_by g d.task) y.0 (subst Rising list (h.sound.floor.rises u)) in_u in
      Before-irrefl d.task.tag (subst (λ z. Before z d.task.tag) equal before))
      (or_else_found _ _ w (sym (k.came.inner a p t bound) ∙ arr)))
    where
      starts : (kind : Kind) → kind_of g a ≡ kind → (e : Edge) → IsIn e (wires g) → e.to ≡ a → (t : Tag) (w : ℤ) → IsIn (firing_by g d.task) (c (unit_of g d.task)) → unit_of g d.task ≡ source g e → plus d.task.tag e.weight ≡ t → start_at g (kind_of g a) t ≡ Some w → ((start period : ℕ) → kind_of g d.task.actor ≡ Every start period → start ≤ d.task.tag.time) → ⊥
      starts (Every start period) ek e mem to t w mine src tag h later =
          let loop = wired.loops e start period (IsIn-append_left e (wires g) (links g) mem) (ap (kind_of g) to ∙ ek) in
          let from : d.task.actor ≡ a = ap (λ (z : Unit). z.actor) src ∙ loop.0 ∙ to in
          let le : start ≤ d.task.tag.time = later start period (ap (kind_of g) from ∙ ek) in
          let at : at_time start ≡ t = start_time g (kind_of g a) start period t w ek h in
          let time : start ≡ t.time = ap (λ (z : Tag). z.time) at in
          let sum : d.task.tag.time + e.weight.time ≡ t.time = ap (λ (z : Tag). z.time) tag in
          let positive : 0 < e.weight.time = loop.1 in
          omega arith
      starts _ ek e mem to t w mine src tag h later = none_some w (ap (λ z. start_at g z t) (sym ek) ∙ h)

  row_once : (s : State) (c : Firings) (sent tk : ℕ → List Message) (r : ℕ) → Whole g level i rows s s.reading c sent tk → NothingThere s.waits (row_values (λ a. due r (s.left a)))
  row_once s c sent tk r h a p t v new = absent (s.waits a p t) (λ w there.
      let k = h.keeps in
      let here = when_found (p == 0) (row_at (due r (s.left a)) t) v new in
      let zero_p : p ≡ 0 = eqb-true p 0 here.0 in
      let lt : p < 8 = omega arith in
      let y = first_of_found (λ (row : Row). when (same_tag (at_time row.time) t) (Some row.value)) (due r (s.left a)) v here.1 in
      let y_left : IsIn y.0 (s.left a) = subst (IsIn y.0) (due_split r (s.left a)) (IsIn-append_left y.0 (due r (s.left a)) (not_due r (s.left a)) y.1) in
      let fit : FitsRow g a y.0 = h.sound.rest.fit a y.0 y_left in
      let fresh = past_new g c _ (rows_past g s c (λ b. due r (s.left b)) h.sound.floor (λ b row m.
      let m2 : IsIn row (s.left b) = subst (IsIn row) (due_split r (s.left b)) (IsIn-append_left row (due r (s.left b)) (not_due r (s.left b)) m) in
      (h.sound.rest.fit b row m2, λ q e. h.sound.rest.unseen b row q m2 e))) in
      let arr : k.arr a p t ≡ Some w = waits_is g s.waits c k.arr (row_values (λ b. due r (s.left b))) k.held fresh a p t v w lt new there in
      let entered : when (p == 0) (row_at (k.came.entered a) t) ≡ Some w = sym (k.came.sensors fit.file a fit.bound p t fit.sensor) ∙ arr in
      let x = first_of_found (λ (row : Row). when (same_tag (at_time row.time) t) (Some row.value)) (k.came.entered a) w (when_found (p == 0) _ w entered).1 in
      let tx : at_time x.0.time ≡ t = same_tag-true (at_time x.0.time) t (when_found (same_tag (at_time x.0.time) t) _ w x.2).0 in
      let ty : at_time y.0.time ≡ t = same_tag-true (at_time y.0.time) t (when_found (same_tag (at_time y.0.time) t) _ v y.2).0 in
      let nx : x.0.time ≡ y.0.time = ap (λ (z : Tag). z.time) (tx ∙ sym ty) in
      let apart : x.0.time < y.0.time = rises_apart (k.came.entered a) (s.left a) x.0 y.0 (subst TimesRise (sym (k.came.split a)) (own_rise a)) x.1 y_left in
      absurd_lt x.0.time y.0.time apart nx)
    where
      absurd_lt : (m n : ℕ) → m < n → m ≡ n → ⊥
      absurd_lt m n l e = omega arith

      own_rise : (a : ℕ) → TimesRise (if platform_of g a == i then rows a else [])
      own_rise a =
          ⊎_elim
          (λ (e : (platform_of g a == i) ≡ true). subst TimesRise (sym (cond-true (platform_of g a == i) (rows a) [] e)) (fits.times a))
          (λ (e : (platform_of g a == i) ≡ false). subst TimesRise (sym (cond-false (platform_of g a == i) (rows a) [] e)) tt)
          (cases_Bool (platform_of g a == i))

  message_once : (s : State) (up : Option ℕ) (c : Firings) (sent tk : ℕ → List Message) (l : ℕ) (link : Link) (m : Message) → Whole g level i rows s up c sent tk → slice_get g.links l ≡ Some link → IsOrderly g level link (s.taken l ++ m ∷ []) → IsOnTime s.reading (link_bound g link) m → NothingThere s.waits (message_values link m)
  message_once s up c sent tk l link m h at orderly timely a p t v new = absent (s.waits a p t) (λ w there.
      let k = h.keeps in
      let here = when_found (a == link.to && p == 0) (value_of t m) v new in
      let two = and_parts (a == link.to) (p == 0) here.0 in
      let zero_p : p ≡ 0 = eqb-true p 0 two.1 in
      let to : a ≡ link.to = eqb-true a link.to two.0 in
      let lt : p < 8 = omega arith in
      let arr : k.arr a p t ≡ Some w = waits_is g s.waits c k.arr (message_values link m) k.held (past_new g c _ (message_past g s c l link m wired h.sound.floor at timely)) a p t v w lt new there in
      let taken : when (p == 0) (in_messages (s.taken l) t) ≡ Some w = sym (k.came.receivers l link p t at) ∙ ap (λ b. k.arr b p t) (sym to) ∙ arr in
      let x = first_of_found (value_of t) (s.taken l) w (when_found (p == 0) _ w taken).1 in
      clash m x.0 t v w here.1 x.2 (order_last (s.taken l) m x.0 orderly.0 x.1))
    where
      clash : (m x : Message) (t : Tag) (v w : ℤ) → value_of t m ≡ Some v → value_of t x ≡ Some w → ComesAfter x m → ⊥
      clash End x t v w hm hx o = none_some v hm
      clash (Event tm vm) End t v w hm hx o = none_some w hx
      clash (Event tm vm) (Event tx vx) t v w hm hx o =
          let em : tm ≡ t = same_tag-true tm t (when_found (same_tag tm t) (Some vm) v hm).0 in
          let ex : tx ≡ t = same_tag-true tx t (when_found (same_tag tx t) (Some vx) w hx).0 in
          Before-irrefl t (subst (λ z. Before z t) ex (subst (λ z. Before tx z) em o))

  never_twice : (s : State) (c : Firings) (sent tk : ℕ → List Message) → Whole g level i rows s s.reading c sent tk → NeverTwice g level i s
  never_twice s c sent tk h = record {
    posts = λ ds mid d posts busy. post_once mid s.reading c sent tk d (posts_whole g level i rows wired levels ds s mid s.reading c sent tk h posts) busy;
    rows = λ ds mid r posts. row_once mid c sent tk r (at_mid ds mid posts);
    messages = λ ds mid r ms got l link m posts up takes at orderly timely.
        let whole = at_mid ds mid posts in
        let later = λ (p : ℕ) (e : mid.reading ≡ Some p). up p (sym (readings ds mid posts) ∙ e) in
        let entered : Whole g level i rows (after_rows mid r) (Some r) c sent tk = record {
          sound = rows_sound g mid r c later whole.sound;
          keeps = keeps_rows g level i rows mid c sent tk r wired whole.sound.floor whole.sound.rest whole.keeps;
        } in
        ⊎_elim
        (λ (fine : (false ≡ false) × Whole g level i rows got (Some r) c sent _). message_once got (Some r) c sent _ l link m fine.1 at orderly timely)
        (λ (stuck : (false ≡ true) × Stuck g i got.taken). absurd (false≢true stuck.0))
        (takes_whole g level i rows wired levels ms false (after_rows mid r) got (Some r) c sent tk entered takes);
  }
    where
      readings : (ds : List Done) (mid : State) → Posts g s ds mid → mid.reading ≡ s.reading
      readings ds mid posts = (posts_sound g level ds s mid s.reading c levels h.sound posts).1

      at_mid : (ds : List Done) (mid : State) → Posts g s ds mid → Whole g level i rows mid mid.reading c sent tk
      at_mid ds mid posts = subst (λ z. Whole g level i rows mid z c sent tk) (sym (readings ds mid posts)) (posts_whole g level i rows wired levels ds s mid s.reading c sent tk h posts)

pub no_port_twice : NoPortTwice
no_port_twice g level i rows turns s wired levels fits legal =
    let up = levels_grow g level levels in
    never_twice g level i rows wired up fits s (claims_of g turns) (λ l. all_sent l turns) (λ l. all_taken l turns) (on_time_history g level i rows wired up fits turns s legal)
