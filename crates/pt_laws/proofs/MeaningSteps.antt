-- What the global list keeps through each firing, and the behaviour at its end.
use Rattle.std.proofs.Common.{◌≡◌, ℕ, suc, ◌+◌, ◌<◌, ◌==◌, ◌⊎◌, Bool, true, false, not, ◌&&◌, List, [], ◌∷◌, ◌++◌, Option, Some, None, ℤ, nat_lt, refl, sym, ap, subst, ◌∙◌, inl, inr, ⊎_elim, append-nil, append_assoc, eq-eqb, eqb-true}
use Rattle.std.proofs.lemmas.Bool.{cases_Bool, cases_eq, cond-true, cond-false, and_parts, and_from, false≢true}
use Rattle.std.specs.List.{cons_option}
use Rattle.pt_types.specs.declared.graph.Graph.{Graph}
use Rattle.pt_types.specs.declared.kind.Kind.{Kind}
use Rattle.pt_types.specs.declared.graph.Unit.{Unit}
use Rattle.pt_tags.specs.declared.tag.Tag.{Tag}
use Rattle.pt_tags.specs.Tags.{same_tag, Before}
use Rattle.pt_semantics.specs.Lists.{first_of, or_else, IsIn}
use Rattle.pt_types.specs.Ports.{when, at_port, nothing}
use Rattle.pt_semantics.specs.Edges.{Edge, edges, first_state}
use Rattle.pt_types.specs.Lookups.{kind_of}
use Rattle.pt_semantics.specs.Units.{at_input, unit_inputs}
use Rattle.pt_types.specs.Groups.{input_group}
use Rattle.pt_semantics.specs.Firing.{any_present, fired}
use Rattle.pt_semantics.specs.Meaning.{Values, row_at, start_at, opening, going, added, World, ActorFiring, put_state, without, leaves_actor, after_firing, Fires, Runs, at_start}
use Rattle.pt_semantics.specs.Behaviours.{Firing, Firings, Rising, firing_at, state_before, comes, comes_along, reaction, Behaves, Everywhere}
use Rattle.pt_semantics.specs.Cycles.{GrowsAlong}
use Rattle.pt_semantics.specs.Wired.{IsWired}
use Rattle.pt_types.specs.declared.rows.Row.{Row}
use Rattle.pt_semantics.specs.Parts.{narrowed, part_of, parts}
use Rattle.pt_semantics.specs.Rows.{FitRows}
use Rattle.pt_laws.specs.MeaningTheorems.{MeaningBehaves}
use Rattle.pt_semantics.specs.Sorted.{Sooner}
use Rattle.pt_semantics.proofs.Longest.{ranks_grow}
use Rattle.pt_semantics.proofs.Tags.{same_tag-refl, same_tag-true}
use Rattle.pt_semantics.proofs.Words.{when-true, when-false, first_of_same}
use Rattle.pt_semantics.proofs.Lookups.{none_some, or_else_none, or_else_assoc, or_else_found, when_found, when_or_else, when_none, IsIn-append, IsIn-append_left, IsIn-append_right, eight_below, at_eight, eight_found}
use Rattle.pt_semantics.proofs.Floor.{going_found}
use Rattle.pt_semantics.proofs.Claiming.{rising_push}
use Rattle.pt_laws.proofs.Threads.{IsFiring, Threaded, last_state, threaded_push, threaded_at, firing_is, last_push, kind_cases, firing_at_in}
use Rattle.pt_laws.proofs.Flows.{edges_fed_once, flows, flows_append, flows_nothing}
use Rattle.pt_laws.proofs.Narrow.{narrowed_whole}
use Rattle.pt_laws.proofs.Finish.{kept_within, start_kind, rows_within}
use Rattle.pt_laws.proofs.MeaningWalk.{sooner_then, sooner_same, sooner_strict, sooner_weak, sooner_edge, sooner_never, tag_from, the_part, narrow, HasPart, part_cases, in_parts, part_in, part_list, parts_push, parts_all, part_along}

pub record Mid (g : Graph) (rank : ℕ → ℕ) (rows : ℕ → List Row) (w : World) (zs : List ActorFiring) : Type 0 where
  pub order : (z : ActorFiring) (b p : ℕ) (u : Tag) (v : ℤ) → IsIn z zs → w.waits b p u ≡ Some v → Sooner rank z.tag z.actor u b
  pub arr : Values
  pub came : (a p : ℕ) (t : Tag) → arr a p t ≡ or_else (opening g rows a p t) (flows g (edges g) (parts g zs) a p t)
  pub fresh : (a p : ℕ) (t : Tag) → ((z : ActorFiring) → IsIn z zs → z.actor ≡ a → z.tag ≡ t → ⊥) → w.waits a p t ≡ arr a p t
  pub used : (z : ActorFiring) (p : ℕ) → IsIn z zs → p < 8 → at_port z.inputs p ≡ arr z.actor p z.tag
  pub rising : (u : Unit) → Rising (parts g zs u)
  pub threaded : (u : Unit) → Threaded (kind_of g u.actor) u.group (first_state (kind_of g u.actor)) (parts g zs u)
  pub states_are : (a p : ℕ) → w.states a ≡ last_state (first_state (kind_of g a)) (parts g zs (at_input g a p))

pub absent : (o : Option ℤ) → ((v : ℤ) → o ≡ Some v → ⊥) → o ≡ None
absent None h = refl
absent (Some v) h = absurd (h v refl)

pub when_twice : (b : Bool) (x : Option ℤ) → when b (when b x) ≡ when b x
when_twice true x = refl
when_twice false x = refl

narrowed_again : (k : Kind) (group : ℕ) (inputs : List (Option ℤ)) → narrowed k group (narrowed k group inputs) ≡ narrowed k group inputs
narrowed_again k group inputs = eight_below _ _ (λ p lt.
    ap (when (input_group k p == group)) (at_eight (λ q. when (input_group k q == group) (at_port inputs q)) p lt) ∙ when_twice (input_group k p == group) (at_port inputs p))

module _ (g : Graph) (rank : ℕ → ℕ) (rows : ℕ → List Row) (wired : IsWired g) (grows : GrowsAlong g rank) (w : World) (zs : List ActorFiring) (m : Mid g rank rows w zs) (x : ActorFiring) (fires : Fires g rank w x) where
  abbrev new : Values
  new = going g (edges g) (leaves_actor x.actor) x.tag x.outputs

  abbrev after : List ActorFiring
  after = zs ++ x ∷ []

  present_x : (p : ℕ) × (v : ℤ) × (p < 8) × (w.waits x.actor p x.tag ≡ Some v)
  present_x = eight_found (λ p. w.waits x.actor p x.tag) (ap any_present (sym fires.inputs) ∙ fires.present)

  -- earlier firings come before this one
  earlier : (z : ActorFiring) → IsIn z zs → Sooner rank z.tag z.actor x.tag x.actor
  earlier z mem = let at = present_x in m.order z x.actor at.0 x.tag at.1 mem at.3

  new_later : (b p : ℕ) (u : Tag) (v : ℤ) → new b p u ≡ Some v → Sooner rank x.tag x.actor u b
  new_later b p u v h =
      let went = going_found g (edges g) (leaves_actor x.actor) x.tag x.outputs b p u v h in
      let e : Edge = went.edge in
      let from : e.from ≡ x.actor = eqb-true e.from x.actor went.leaves_it in
      let time : x.tag.time + e.weight.time ≡ u.time = ap (λ (t : Tag). t.time) went.when_is in
      let step : x.tag.step + e.weight.step ≡ u.step = ap (λ (t : Tag). t.step) went.when_is in
      sooner_edge x.tag u e.weight.time e.weight.step x.actor b (rank x.actor) (rank b) time step
      (λ zt zs2. subst (λ c. rank c < rank b) from (subst (λ c. rank e.from < rank c) went.to (grows e went.mem zt zs2)))

  in_after : (z : ActorFiring) → IsIn z after → IsIn z zs ⊎ (z ≡ x)
  in_after z mem = ⊎_elim (λ (l : IsIn z zs). inl l) (λ (r : IsIn z (x ∷ [])). inr (⊎_elim (λ (e : z ≡ x). e) (λ (h : ⊥). absurd h) r)) (IsIn-append z zs (x ∷ []) mem)

  new_past : (z : ActorFiring) → IsIn z after → (b p : ℕ) (u : Tag) (v : ℤ) → new b p u ≡ Some v → Sooner rank z.tag z.actor u b
  new_past z mem b p u v h =
      ⊎_elim
      (λ (old : IsIn z zs). sooner_then z.tag x.tag u z.actor x.actor b (rank z.actor) (rank x.actor) (rank b) (earlier z old) (sooner_weak x.tag u x.actor b (rank x.actor) (rank b) (new_later b p u v h)))
      (λ (e : z ≡ x). subst (λ (y : ActorFiring). Sooner rank y.tag y.actor u b) (sym e) (new_later b p u v h))
      (in_after z mem)

  kept_waits : (b p : ℕ) (u : Tag) (v : ℤ) → without w.waits x.actor x.tag b p u ≡ Some v → (w.waits b p u ≡ Some v) × (x.actor ≡ b → x.tag ≡ u → ⊥)
  kept_waits b p u v h =
      let f = when_found (not (b == x.actor && same_tag x.tag u)) (w.waits b p u) v h in
      (f.1, λ ea et. clash (b == x.actor && same_tag x.tag u) f.0 (and_from (b == x.actor) (same_tag x.tag u) (eq-eqb b x.actor (sym ea)) (subst (λ t. same_tag x.tag t ≡ true) et (same_tag-refl x.tag))))
    where
      clash : (b : Bool) → not b ≡ true → b ≡ true → ⊥
      clash b n y = false≢true (sym (ap not y) ∙ n)

  order_after : (z : ActorFiring) (b p : ℕ) (u : Tag) (v : ℤ) → IsIn z after → (after_firing g w x).waits b p u ≡ Some v → Sooner rank z.tag z.actor u b
  order_after z b p u v mem h =
      ⊎_elim
      (λ (old : without w.waits x.actor x.tag b p u ≡ Some v).
      let kept = kept_waits b p u v old in
      ⊎_elim
      (λ (before : IsIn z zs). m.order z b p u v before kept.0)
      (λ (e : z ≡ x).
      subst (λ (y : ActorFiring). Sooner rank y.tag y.actor u b) (sym e)
      (sooner_strict x.tag u x.actor b (rank x.actor) (rank b) (fires.first b p u v kept.0) (λ ea et es. kept.1 ea (tag_from x.tag u et es))))
      (in_after z mem))
      (λ (n : new b p u ≡ Some v). new_past z mem b p u v n)
      (or_else_found (without w.waits x.actor x.tag b p u) (new b p u) v h)

  -- nothing new comes where something has fired
  none_new : (z : ActorFiring) (p : ℕ) → IsIn z after → new z.actor p z.tag ≡ None
  none_new z p mem = absent _ (λ v h. sooner_never z.tag z.actor (rank z.actor) (new_past z mem z.actor p z.tag v h))

  flows_after : (a p : ℕ) (t : Tag) → flows g (edges g) (parts g after) a p t ≡ or_else (flows g (edges g) (parts g zs) a p t) (new a p t)
  flows_after a p t =
      ap (λ (q : Firings). flows g (edges g) q a p t) (parts_all g zs x)
      ∙ flows_append g (edges g) (edges_fed_once g wired) (parts g zs) (part_list g x) a p t
      ∙ ap (or_else (flows g (edges g) (parts g zs) a p t))
      (ap (when (nat_lt t.time (suc g.until))) (first_of_same _ _ (edges g) (λ e mem.
      ap (when (e.to == a && e.input == p)) (part_along g x (λ q. w.waits x.actor q x.tag) e t fires.inputs fires.present fires.outputs))))

  fresh_x : (p : ℕ) → w.waits x.actor p x.tag ≡ m.arr x.actor p x.tag
  fresh_x p = m.fresh x.actor p x.tag (λ z mem ea et.
      let s : Sooner rank z.tag z.actor x.tag x.actor = earlier z mem in
      let s2 : Sooner rank x.tag z.actor x.tag x.actor = subst (λ t. Sooner rank t z.actor x.tag x.actor) et s in
      let s3 : Sooner rank x.tag x.actor x.tag x.actor = subst (λ a. Sooner rank x.tag a x.tag x.actor) ea s2 in
      sooner_never x.tag x.actor (rank x.actor) s3)

  used_after : (z : ActorFiring) (p : ℕ) → IsIn z after → p < 8 → at_port z.inputs p ≡ added m.arr new z.actor p z.tag
  used_after z p mem lt =
      ⊎_elim
      (λ (old : IsIn z zs). m.used z p old lt)
      (λ (e : z ≡ x).
      subst (λ (y : ActorFiring). at_port y.inputs p ≡ m.arr y.actor p y.tag) (sym e)
      (ap (λ i. at_port i p) fires.inputs ∙ at_eight (λ q. w.waits x.actor q x.tag) p lt ∙ fresh_x p))
      (in_after z mem)
      ∙ sym (or_else_none (m.arr z.actor p z.tag)) ∙ ap (or_else (m.arr z.actor p z.tag)) (sym (none_new z p mem))

  fresh_after : (a p : ℕ) (t : Tag) → ((z : ActorFiring) → IsIn z after → z.actor ≡ a → z.tag ≡ t → ⊥) → (after_firing g w x).waits a p t ≡ added m.arr new a p t
  fresh_after a p t never =
      let apart : (a == x.actor && same_tag x.tag t) ≡ false =
      ⊎_elim
      (λ (both : (a == x.actor && same_tag x.tag t) ≡ true).
      let two = and_parts (a == x.actor) (same_tag x.tag t) both in
      absurd (never x (IsIn-append_right x zs (x ∷ []) (inl refl)) (sym (eqb-true a x.actor two.0)) (same_tag-true x.tag t two.1)))
      (λ (no_both : (a == x.actor && same_tag x.tag t) ≡ false). no_both)
      (cases_Bool (a == x.actor && same_tag x.tag t)) in
      ap (λ o. or_else o (new a p t))
      (when-true (not (a == x.actor && same_tag x.tag t)) (w.waits a p t) (ap not apart)
      ∙ m.fresh a p t (λ z mem. never z (IsIn-append_left z zs (x ∷ []) mem)))

  -- the part that a unit has in this firing
  part_fires : (u : Unit) → HasPart g u x → IsFiring (kind_of g u.actor) u.group (last_state (first_state (kind_of g u.actor)) (parts g zs u)) (the_part (kind_of g u.actor) x (narrow g u x))
  part_fires u has =
      let at = eight_found (λ p. when (input_group (kind_of g u.actor) p == u.group) (at_port x.inputs p)) has.present in
      let group : input_group (kind_of g u.actor) at.0 ≡ u.group = eqb-true _ u.group (when_found (input_group (kind_of g u.actor) at.0 == u.group) (at_port x.inputs at.0) at.1 at.3).0 in
      let unit : at_input g u.actor at.0 ≡ u = λ i. record { actor = u.actor; group = group i } in
      let state : x.before ≡ last_state (first_state (kind_of g u.actor)) (parts g zs u) =
      fires.before ∙ ap w.states has.actor ∙ m.states_are u.actor at.0 ∙ ap (λ v. last_state (first_state (kind_of g u.actor)) (parts g zs v)) unit in
      record {
        before = state;
        after = ap (λ q. (fired (kind_of g u.actor) q (narrow g u x)).state) state;
        outputs = ap (λ q. (fired (kind_of g u.actor) q (narrow g u x)).outputs) state;
        present = has.present;
        shape = narrowed_again (kind_of g u.actor) u.group x.inputs;
      }

  parts_none : (u : Unit) → part_of g u x ≡ None → parts g after u ≡ parts g zs u
  parts_none u none = parts_push g zs x u ∙ ap (λ o. parts g zs u ++ cons_option o []) none ∙ append-nil (parts g zs u)

  parts_some : (u : Unit) → HasPart g u x → parts g after u ≡ parts g zs u ++ the_part (kind_of g u.actor) x (narrow g u x) ∷ []
  parts_some u has = parts_push g zs x u ∙ ap (λ o. parts g zs u ++ cons_option o []) has.is

  rising_after : (u : Unit) → Rising (parts g after u)
  rising_after u =
      ⊎_elim
      (λ (none : part_of g u x ≡ None). subst Rising (sym (parts_none u none)) (m.rising u))
      (λ (has : HasPart g u x).
      subst Rising (sym (parts_some u has))
      (rising_push (parts g zs u) (the_part (kind_of g u.actor) x (narrow g u x)) (m.rising u) (λ y mem.
      let from = in_parts g u zs y mem in
      let z : ActorFiring = from.0 in
      let same : z.actor ≡ x.actor = from.2.actor ∙ sym has.actor in
      let s : Sooner rank z.tag x.actor x.tag x.actor = subst (λ a. Sooner rank z.tag a x.tag x.actor) same (earlier z from.1) in
      subst (λ (v : Firing). Before v.tag x.tag) (sym from.3) (sooner_same z.tag x.tag x.actor (rank x.actor) s))))
      (part_cases g u x)

  threaded_after : (u : Unit) → Threaded (kind_of g u.actor) u.group (first_state (kind_of g u.actor)) (parts g after u)
  threaded_after u =
      ⊎_elim
      (λ (none : part_of g u x ≡ None). subst (Threaded (kind_of g u.actor) u.group (first_state (kind_of g u.actor))) (sym (parts_none u none)) (m.threaded u))
      (λ (has : HasPart g u x).
      subst (Threaded (kind_of g u.actor) u.group (first_state (kind_of g u.actor))) (sym (parts_some u has))
      (threaded_push (kind_of g u.actor) u.group (first_state (kind_of g u.actor)) (parts g zs u) (the_part (kind_of g u.actor) x (narrow g u x)) (m.threaded u) (part_fires u has)))
      (part_cases g u x)

  states_after : (a p : ℕ) → put_state w.states x.actor x.after a ≡ last_state (first_state (kind_of g a)) (parts g after (at_input g a p))
  states_after a p =
      ⊎_elim
      (λ (mine : x.actor ≡ a).
      cond-true (a == x.actor) x.after (w.states a) (eq-eqb a x.actor (sym mine))
      ∙ ⊎_elim
      (λ (none : part_of g u x ≡ None). after_none mine none)
      (λ (has : HasPart g u x).
      after_some mine has
      ∙ sym (last_push (first_state (kind_of g a)) (parts g zs u) (the_part (kind_of g a) x (narrow g u x)))
      ∙ ap (last_state (first_state (kind_of g a))) (sym (parts_some u has)))
      (part_cases g u x))
      (λ (other : x.actor ≡ a → ⊥).
      cond-false (a == x.actor) x.after (w.states a) (differ a x.actor (λ e. other (sym e)))
      ∙ m.states_are a p
      ∙ ap (last_state (first_state (kind_of g a))) (sym (parts_none u (when-false (x.actor == a) _ (differ x.actor a other)))))
      (cases_eq x.actor a)
    where
      u : Unit
      u = at_input g a p

      differ : (a b : ℕ) → (a ≡ b → ⊥) → (a == b) ≡ false
      differ a b ne = ⊎_elim (λ (y : (a == b) ≡ true). absurd (ne (eqb-true a b y))) (λ (n : (a == b) ≡ false). n) (cases_Bool (a == b))

      after_is : x.actor ≡ a → x.after ≡ (fired (kind_of g a) x.before x.inputs).state
      after_is mine = fires.after ∙ ap (λ b. (fired (kind_of g b) x.before x.inputs).state) mine

      whole : ((q o : ℕ) → input_group (kind_of g a) q ≡ input_group (kind_of g a) o) → narrow g u x ≡ x.inputs
      whole one = ap (narrowed (kind_of g a) u.group) fires.inputs ∙ narrowed_whole (kind_of g a) u.group (λ q. w.waits x.actor q x.tag) (λ q. one q p) ∙ sym fires.inputs

      after_some : x.actor ≡ a → HasPart g u x → x.after ≡ (fired (kind_of g a) x.before (narrow g u x)).state
      after_some mine has =
          after_is mine ∙
          ⊎_elim
          (λ (one : (q o : ℕ) → input_group (kind_of g a) q ≡ input_group (kind_of g a) o). ap (λ i. (fired (kind_of g a) x.before i).state) (sym (whole one)))
          (λ (keeps : (q : ℤ) (inputs : List (Option ℤ)) → (fired (kind_of g a) q inputs).state ≡ q). keeps x.before x.inputs ∙ sym (keeps x.before (narrow g u x)))
          (kind_cases (kind_of g a))

      after_none : x.actor ≡ a → part_of g u x ≡ None → x.after ≡ last_state (first_state (kind_of g a)) (parts g after u)
      after_none mine none =
          ⊎_elim
          (λ (one : (q o : ℕ) → input_group (kind_of g a) q ≡ input_group (kind_of g a) o).
          absurd (none_some (the_part (kind_of g a) x (narrow g u x))
          (sym none ∙ when-true (x.actor == a) _ (eq-eqb x.actor a mine)
          ∙ when-true (any_present (narrow g u x)) (Some (the_part (kind_of g a) x (narrow g u x))) (ap any_present (whole one) ∙ fires.present))))
          (λ (keeps : (q : ℤ) (inputs : List (Option ℤ)) → (fired (kind_of g a) q inputs).state ≡ q).
          after_is mine ∙ keeps x.before x.inputs ∙ fires.before ∙ ap w.states mine ∙ m.states_are a p
          ∙ ap (last_state (first_state (kind_of g a))) (sym (parts_none u none)))
          (kind_cases (kind_of g a))

  pub mid_step : Mid g rank rows (after_firing g w x) after
  mid_step = record {
    order = order_after;
    arr = added m.arr new;
    came = λ a p t.
        ap (λ o. or_else o (new a p t)) (m.came a p t)
        ∙ or_else_assoc (opening g rows a p t) (flows g (edges g) (parts g zs) a p t) (new a p t)
        ∙ ap (or_else (opening g rows a p t)) (sym (flows_after a p t));
    fresh = fresh_after;
    used = used_after;
    rising = rising_after;
    threaded = threaded_after;
    states_are = states_after;
  }

pub mid_start : (g : Graph) (rank : ℕ → ℕ) (rows : ℕ → List Row) → Mid g rank rows (at_start g rows) []
mid_start g rank rows = record {
  order = λ z b p u v mem h. absurd mem;
  arr = opening g rows;
  came = λ a p t. sym (ap (or_else (opening g rows a p t)) (flows_nothing g (edges g) a p t) ∙ or_else_none (opening g rows a p t));
  fresh = λ a p t never. refl;
  used = λ z p mem lt. absurd mem;
  rising = λ u. tt;
  threaded = λ u. tt;
  states_are = λ a p. refl;
}

pub record MidEnd (g : Graph) (rank : ℕ → ℕ) (rows : ℕ → List Row) (zs : List ActorFiring) : Type 0 where
  pub world : World
  pub mid : Mid g rank rows world zs
  pub nothing_waits : (a p : ℕ) (t : Tag) → world.waits a p t ≡ None

mid_runs : (g : Graph) (rank : ℕ → ℕ) (rows : ℕ → List Row) → IsWired g → GrowsAlong g rank → (xs zs : List ActorFiring) (w : World) → Mid g rank rows w zs → Runs g rank w xs → MidEnd g rank rows (zs ++ xs)
mid_runs g rank rows wired grows [] zs w m runs = subst (MidEnd g rank rows) (sym (append-nil zs)) (record { world = w; mid = m; nothing_waits = runs })
mid_runs g rank rows wired grows (x ∷ xs) zs w m (fires, rest) =
    subst (MidEnd g rank rows) (append_assoc zs (x ∷ []) xs)
    (mid_runs g rank rows wired grows xs (zs ++ x ∷ []) (after_firing g w x) (mid_step g rank rows wired grows w zs m x fires) rest)

module _ (g : Graph) (rank : ℕ → ℕ) (rows : ℕ → List Row) (xs : List ActorFiring) (fits : FitRows g rows) (e : MidEnd g rank rows xs) where
  abbrev f : Firings
  f u = parts g xs u

  pub came_is : (a p : ℕ) (t : Tag) → e.mid.arr a p t ≡ comes g (opening g rows) f a p t
  came_is a p t =
      let b : Bool = nat_lt t.time (suc g.until) in
      let along : Option ℤ = first_of (λ (d : Edge). when (d.to == a && d.input == p) (comes_along f g d t)) (edges g) in
      e.mid.came a p t
      ∙ ap (λ o. or_else o (when b along)) (sym (kept_within b (opening g rows a p t) (λ v h. opening_within a p t v h)))
      ∙ sym (when_or_else b (opening g rows a p t) along)
    where
      opening_within : (a p : ℕ) (t : Tag) (v : ℤ) → opening g rows a p t ≡ Some v → nat_lt t.time (suc g.until) ≡ true
      opening_within a p t v h =
          ⊎_elim
          (λ (s : start_at g (kind_of g a) t ≡ Some v). start_kind g (kind_of g a) t v s)
          (λ (r : row_at (rows a) t ≡ Some v). rows_within g a (rows a) t v (fits.fit a) r)
          (or_else_found (start_at g (kind_of g a) t) (row_at (rows a) t) v (when_found (p == 0) _ v h).1)

  -- where an actor fired, its inputs are what came
  inputs_are : (u : Unit) (z : ActorFiring) → IsIn z xs → z.actor ≡ u.actor → narrow g u z ≡ unit_inputs g (comes g (opening g rows) f) u z.tag
  inputs_are u z mem same = eight_below _ _ (λ p lt.
      ap (when (input_group (kind_of g u.actor) p == u.group))
      (e.mid.used z p mem lt ∙ ap (λ a. e.mid.arr a p z.tag) same ∙ came_is u.actor p z.tag))

  reacts_some : (u : Unit) (t : Tag) (y : Firing) → firing_at (f u) t ≡ Some y → Some y ≡ reaction g (opening g rows) f u t
  reacts_some u t y h =
      let is = threaded_at (kind_of g u.actor) u.group (first_state (kind_of g u.actor)) (f u) t y (e.mid.rising u) (e.mid.threaded u) h in
      let from = in_parts g u xs y (firing_at_in (f u) t y h).0 in
      let z : ActorFiring = from.0 in
      let tag : z.tag ≡ t = ap (λ (v : Firing). v.tag) (sym from.3) ∙ is.1 in
      let inputs : y.inputs ≡ unit_inputs g (comes g (opening g rows) f) u t =
      ap (λ (v : Firing). v.inputs) from.3 ∙ inputs_are u z from.1 from.2.actor ∙ ap (unit_inputs g (comes g (opening g rows) f) u) tag in
      firing_is (kind_of g u.actor) u.group (state_before (first_state (kind_of g u.actor)) (f u) t) t y (unit_inputs g (comes g (opening g rows) f) u t) is.0 is.1 inputs

  -- whether an actor fired at a tag
  fired_there : (a : ℕ) (t : Tag) → ((z : ActorFiring) × IsIn z xs × (z.actor ≡ a) × (z.tag ≡ t)) ⊎ ((z : ActorFiring) → IsIn z xs → z.actor ≡ a → z.tag ≡ t → ⊥)
  fired_there a t = look xs (λ z mem. mem)
    where
      look : (ys : List ActorFiring) → ((z : ActorFiring) → IsIn z ys → IsIn z xs) → ((z : ActorFiring) × IsIn z xs × (z.actor ≡ a) × (z.tag ≡ t)) ⊎ ((z : ActorFiring) → IsIn z ys → z.actor ≡ a → z.tag ≡ t → ⊥)
      look [] sub = inr (λ z mem ea et. mem)
      look (y ∷ ys) sub =
          ⊎_elim
          (λ (both : (y.actor == a && same_tag y.tag t) ≡ true).
          let two = and_parts (y.actor == a) (same_tag y.tag t) both in
          inl (y, sub y (inl refl), eqb-true y.actor a two.0, same_tag-true y.tag t two.1))
          (λ (apart : (y.actor == a && same_tag y.tag t) ≡ false).
          ⊎_elim
          (λ (found : (z : ActorFiring) × IsIn z xs × (z.actor ≡ a) × (z.tag ≡ t)). inl found)
          (λ (never : (z : ActorFiring) → IsIn z ys → z.actor ≡ a → z.tag ≡ t → ⊥).
          inr (λ z mem ea et. ⊎_elim
          (λ (same : z ≡ y).
          false≢true (sym apart ∙ and_from (y.actor == a) (same_tag y.tag t)
          (eq-eqb y.actor a (ap (λ (v : ActorFiring). v.actor) (sym same) ∙ ea))
          (subst (λ s. same_tag y.tag s ≡ true) (ap (λ (v : ActorFiring). v.tag) (sym same) ∙ et) (same_tag-refl y.tag))))
          (λ (r : IsIn z ys). never z r ea et)
          mem))
          (look ys (λ z mem. sub z (inr mem))))
          (cases_Bool (y.actor == a && same_tag y.tag t))

  -- a member's tag has a firing
  pub there_is : (ys : List Firing) (y : Firing) → IsIn y ys → firing_at ys y.tag ≡ None → ⊥
  there_is [] y mem h = mem
  there_is (v ∷ ys) y mem h =
      ⊎_elim
      (λ (same : y ≡ v).
      none_some v (sym h ∙ ap (λ (r : Firing). firing_at (v ∷ ys) r.tag) same ∙ ap (λ o. or_else o (firing_at ys v.tag)) (when-true (same_tag v.tag v.tag) (Some v) (same_tag-refl v.tag))))
      (λ (r : IsIn y ys).
      ⊎_elim
      (λ (t : same_tag v.tag y.tag ≡ true). none_some v (sym h ∙ ap (λ o. or_else o (firing_at ys y.tag)) (when-true (same_tag v.tag y.tag) (Some v) t)))
      (λ (n : same_tag v.tag y.tag ≡ false). there_is ys y r (sym (ap (λ o. or_else o (firing_at ys y.tag)) (when-false (same_tag v.tag y.tag) (Some v) n)) ∙ h))
      (cases_Bool (same_tag v.tag y.tag)))
      mem

  not_present : (b : Bool) → (b ≡ true → ⊥) → b ≡ false
  not_present true h = absurd (h refl)
  not_present false h = refl

  reacts_none : (u : Unit) (t : Tag) → firing_at (f u) t ≡ None → reaction g (opening g rows) f u t ≡ None
  reacts_none u t h = when-false (any_present (unit_inputs g (comes g (opening g rows) f) u t)) _
      (⊎_elim
      (λ (found : (z : ActorFiring) × IsIn z xs × (z.actor ≡ u.actor) × (z.tag ≡ t)).
      let z : ActorFiring = found.0 in
      let same : narrow g u z ≡ unit_inputs g (comes g (opening g rows) f) u t = inputs_are u z found.1 found.2 ∙ ap (unit_inputs g (comes g (opening g rows) f) u) found.3 in
      not_present _ (λ present.
      let here : any_present (narrow g u z) ≡ true = ap any_present same ∙ present in
      let has : HasPart g u z = record {
        actor = found.2;
        present = here;
        is = when-true (z.actor == u.actor) _ (eq-eqb z.actor u.actor found.2) ∙ when-true (any_present (narrow g u z)) (Some (the_part (kind_of g u.actor) z (narrow g u z))) here;
      } in
      there_is (f u) (the_part (kind_of g u.actor) z (narrow g u z)) (part_in g u xs z found.1 has) (ap (firing_at (f u)) found.3 ∙ h)))
      (λ (never : (z : ActorFiring) → IsIn z xs → z.actor ≡ u.actor → z.tag ≡ t → ⊥).
      ap any_present (eight_below _ nothing (λ p lt.
      ap (when (input_group (kind_of g u.actor) p == u.group)) (sym (came_is u.actor p t) ∙ sym (e.mid.fresh u.actor p t never) ∙ e.nothing_waits u.actor p t)
      ∙ when_none ℤ (input_group (kind_of g u.actor) p == u.group))))
      (fired_there u.actor t))

  reacts_is : (u : Unit) (t : Tag) (o : Option Firing) → firing_at (f u) t ≡ o → firing_at (f u) t ≡ reaction g (opening g rows) f u t
  reacts_is u t None h = h ∙ sym (reacts_none u t h)
  reacts_is u t (Some y) h = h ∙ reacts_some u t y h

  pub behaves : Behaves g (opening g rows) Everywhere f
  behaves = record { rising = e.mid.rising; reacts = λ u t d. reacts_is u t (firing_at (f u) t) refl }

pub meaning_behaves : MeaningBehaves
meaning_behaves g rank rows xs wired ranks fits meaning =
    behaves g rank rows xs fits (mid_runs g rank rows wired (ranks_grow g rank ranks) xs [] (at_start g rows) (mid_start g rank rows) meaning)
