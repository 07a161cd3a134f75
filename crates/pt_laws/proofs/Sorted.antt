-- A list of firings in order whose parts are a behaviour is the meaning.
use Rattle.std.proofs.Common.{◌≡◌, ℕ, suc, ◌+◌, ◌<◌, ◌≤◌, ◌==◌, true, false, ◌&&◌, List, [], ◌∷◌, ◌++◌, Option, Some, None, ℤ, nat_lt, arith, refl, sym, ap, subst, ◌∙◌, inl, inr, ⊎_elim, append_assoc, eq-eqb, eqb-true}
use Rattle.std.proofs.lemmas.Bool.{cases_Bool, cond-true, cond-false, and_parts}
use Rattle.std.proofs.lemmas.List.Elements.{filter_map-append}
use Rattle.std.specs.List.{cons_option}
use Rattle.pt_types.specs.declared.graph.Graph.{Graph}
use Rattle.pt_types.specs.declared.graph.Unit.{Unit}
use Rattle.pt_tags.specs.declared.tag.Tag.{Tag}
use Rattle.pt_tags.specs.Tags.{tag_lt, plus, Before}
use Rattle.pt_semantics.specs.Lists.{or_else, IsIn, Each}
use Rattle.pt_types.specs.Ports.{when, at_port}
use Rattle.pt_semantics.specs.Edges.{edges, first_state}
use Rattle.pt_types.specs.Lookups.{kind_of}
use Rattle.pt_semantics.specs.Units.{at_input, source, unit_inputs}
use Rattle.pt_types.specs.Groups.{input_group}
use Rattle.pt_semantics.specs.Firing.{any_present}
use Rattle.pt_semantics.specs.Meaning.{Values, row_at, start_at, opening, World, ActorFiring, waiting, NotAfter, IsFirst, after_firing, Fires, Runs, at_start}
use Rattle.pt_semantics.specs.Behaviours.{Firing, Firings, Rising, firing_at, state_before, comes, reaction, Behaves, Everywhere}
use Rattle.pt_semantics.specs.Cycles.{GrowsAlong}
use Rattle.pt_semantics.specs.Wired.{IsWired}
use Rattle.pt_types.specs.declared.rows.Row.{Row}
use Rattle.pt_semantics.specs.Parts.{part_of, parts}
use Rattle.pt_semantics.specs.Rows.{FitRows}
use Rattle.pt_semantics.specs.Sorted.{Sooner, InKeyOrder, IsFull}
use Rattle.pt_laws.specs.MeaningTheorems.{SortedIsMeaning}
use Rattle.pt_semantics.proofs.Longest.{ranks_grow}
use Rattle.pt_semantics.proofs.Tags.{same_tag-true, same_tag-before, Before-irrefl, tag_lt-from, tag_lt-true}
use Rattle.pt_semantics.proofs.Words.{when-true, firing_at_head, firing_at_tail}
use Rattle.pt_semantics.proofs.Lookups.{none_some, same_some, or_else_none, or_else_assoc, or_else_found, when_found, when_or_else, first_of_found, Each-in, IsIn-append, IsIn-append_right, eight_below, at_eight, eight_found, eight_present}
use Rattle.pt_laws.proofs.Threads.{last_state, firing_at_in}
use Rattle.pt_laws.proofs.Flows.{edges_fed_once, flows, flows_append}
use Rattle.pt_laws.proofs.Finish.{kept_within, start_kind, rows_within}
use Rattle.pt_laws.proofs.MeaningWalk.{sooner_then, sooner_same, sooner_weak, sooner_edge, sooner_never, the_part, narrow, HasPart, part_cases, in_parts, part_in}
use Rattle.pt_laws.proofs.MeaningSteps.{Mid, mid_step, mid_start}

absent : (o : Option ℤ) → ((v : ℤ) → o ≡ Some v → ⊥) → o ≡ None
absent None h = refl
absent (Some v) h = absurd (h v refl)

-- in a rising list a member is what stands at its tag
rising_at : (xs : List Firing) (y : Firing) → Rising xs → IsIn y xs → firing_at xs y.tag ≡ Some y
rising_at [] y r mem = absurd mem
rising_at (x ∷ xs) y r mem =
    ⊎_elim
    (λ (e : y ≡ x). ap (λ (z : Firing). firing_at (x ∷ xs) z.tag) e ∙ firing_at_head x xs ∙ ap Some (sym e))
    (λ (m : IsIn y xs). firing_at_tail x xs y.tag (same_tag-before x.tag y.tag (Each-in (λ (z : Firing). Before x.tag z.tag) xs r.0 y m)) ∙ rising_at xs y r.1 m)
    mem

-- the state before a tag, where the list goes over it
state_split : (q : ℤ) (xs : List Firing) (y : Firing) (ys : List Firing) → Each (λ (x : Firing). Before x.tag y.tag) xs → state_before q (xs ++ y ∷ ys) y.tag ≡ last_state q xs
state_split q [] y ys h = cond-false (tag_lt y.tag y.tag) (state_before y.after ys y.tag) q (not_less y.tag)
  where
    not_less : (t : Tag) → tag_lt t t ≡ false
    not_less t = ⊎_elim (λ (k : tag_lt t t ≡ true). absurd (Before-irrefl t (tag_lt-true t t k))) (λ (k : tag_lt t t ≡ false). k) (cases_Bool (tag_lt t t))
state_split q (x ∷ xs) y ys h = cond-true (tag_lt x.tag y.tag) (state_before x.after (xs ++ y ∷ ys) y.tag) q (tag_lt-from x.tag y.tag h.0) ∙ state_split x.after xs y ys h.1

-- what comes is what was there or flows
comes_flows : (g : Graph) (rows : ℕ → List Row) (f : Firings) → FitRows g rows → (a p : ℕ) (t : Tag) → comes g (opening g rows) f a p t ≡ or_else (opening g rows a p t) (flows g (edges g) f a p t)
comes_flows g rows f fits a p t =
    when_or_else (nat_lt t.time (suc g.until)) (opening g rows a p t) _
    ∙ ap (λ o. or_else o (flows g (edges g) f a p t)) (kept_within (nat_lt t.time (suc g.until)) (opening g rows a p t) (λ v h.
    ⊎_elim
    (λ (s : start_at g (kind_of g a) t ≡ Some v). start_kind g (kind_of g a) t v s)
    (λ (r : row_at (rows a) t ≡ Some v). rows_within g a (rows a) t v (fits.fit a) r)
    (or_else_found (start_at g (kind_of g a) t) (row_at (rows a) t) v (when_found (p == 0) _ v h).1)))

ordered_front : (rank : ℕ → ℕ) (zs : List ActorFiring) (x : ActorFiring) (rest : List ActorFiring) → InKeyOrder rank (zs ++ x ∷ rest) → (z : ActorFiring) → IsIn z zs → Sooner rank z.tag z.actor x.tag x.actor
ordered_front rank [] x rest o z mem = absurd mem
ordered_front rank (y ∷ zs) x rest o z mem =
    ⊎_elim
    (λ (e : z ≡ y). subst (λ (v : ActorFiring). Sooner rank v.tag v.actor x.tag x.actor) (sym e) (Each-in (λ (v : ActorFiring). Sooner rank y.tag y.actor v.tag v.actor) (zs ++ x ∷ rest) o.0 x (IsIn-append_right x zs (x ∷ rest) (inl refl))))
    (λ (m : IsIn z zs). ordered_front rank zs x rest o.1 z m)
    mem

ordered_back : (rank : ℕ → ℕ) (zs : List ActorFiring) (x : ActorFiring) (rest : List ActorFiring) → InKeyOrder rank (zs ++ x ∷ rest) → (z : ActorFiring) → IsIn z rest → Sooner rank x.tag x.actor z.tag z.actor
ordered_back rank [] x rest o z mem = Each-in (λ (v : ActorFiring). Sooner rank x.tag x.actor v.tag v.actor) rest o.0 z mem
ordered_back rank (y ∷ zs) x rest o z mem = ordered_back rank zs x rest o.1 z mem

weak_refl : (t : Tag) (a ra : ℕ) → (t.time ≤ t.time) × (t.time ≤ t.time → (t.step ≤ t.step) × (t.step ≤ t.step → (ra ≤ ra) × (ra ≤ ra → a ≤ a)))
weak_refl t a ra = (omega arith, λ h. (omega arith, λ k. (omega arith, λ l. omega arith)))

module _ (g : Graph) (rank : ℕ → ℕ) (rows : ℕ → List Row) (wired : IsWired g) (grows : GrowsAlong g rank) (fits : FitRows g rows) (zs rest : List ActorFiring) (behaves : Behaves g (opening g rows) Everywhere (parts g (zs ++ rest))) (w : World) (m : Mid g rank rows w zs) where
  abbrev all : Firings
  all = parts g (zs ++ rest)

  abbrev come : Values
  come = comes g (opening g rows) all

  come_split : (a p : ℕ) (t : Tag) → come a p t ≡ or_else (m.arr a p t) (flows g (edges g) (parts g rest) a p t)
  come_split a p t =
      comes_flows g rows all fits a p t
      ∙ ap (or_else (opening g rows a p t))
      (ap (λ (q : Firings). flows g (edges g) q a p t) (λ i u. filter_map-append (part_of g u) zs rest i)
      ∙ flows_append g (edges g) (edges_fed_once g wired) (parts g zs) (parts g rest) a p t)
      ∙ sym (or_else_assoc (opening g rows a p t) (flows g (edges g) (parts g zs) a p t) (flows g (edges g) (parts g rest) a p t))
      ∙ ap (λ o. or_else o (flows g (edges g) (parts g rest) a p t)) (sym (m.came a p t))

  -- where something comes, the unit fires
  come_fires : (b p : ℕ) (u : Tag) (v : ℤ) → p < 8 → come b p u ≡ Some v → (z : ActorFiring) × IsIn z (zs ++ rest) × HasPart g (at_input g b p) z × (z.tag ≡ u)
  come_fires b p u v lt h =
      let unit : Unit = at_input g b p in
      let present : any_present (unit_inputs g (comes g (opening g rows) all) unit u) ≡ true =
      eight_present (λ q. when (input_group (kind_of g b) q == input_group (kind_of g b) p) (comes g (opening g rows) all b q u)) p v lt
      (when-true (input_group (kind_of g b) p == input_group (kind_of g b) p) (comes g (opening g rows) all b p u) (eq-eqb _ _ refl) ∙ h) in
      let fires : firing_at (all unit) u ≡ Some _ = behaves.reacts unit u tt ∙ when-true (any_present (unit_inputs g (comes g (opening g rows) all) unit u)) _ present in
      let member = firing_at_in (all unit) u _ fires in
      let from = in_parts g unit (zs ++ rest) _ member.0 in
      (from.0, from.1, from.2, ap (λ (y : Firing). y.tag) (sym from.3) ∙ member.1)

  not_twice : (z : ActorFiring) (b p : ℕ) (u : Tag) (v : ℤ) → IsIn z zs → w.waits b p u ≡ Some v → z.actor ≡ b → z.tag ≡ u → ⊥
  not_twice z b p u v mem h ea et =
      let s : Sooner rank z.tag z.actor u b = m.order z b p u v mem h in
      sooner_never u b (rank b) (subst (λ t. Sooner rank t b u b) et (subst (λ a. Sooner rank z.tag a u b) ea s))

  -- what waits comes, and its actor fires later
  waits_fires : (b p : ℕ) (u : Tag) (v : ℤ) → p < 8 → w.waits b p u ≡ Some v → (z : ActorFiring) × IsIn z rest × (z.actor ≡ b) × (z.tag ≡ u)
  waits_fires b p u v lt h =
      let arr : m.arr b p u ≡ Some v = sym (m.fresh b p u (λ z mem ea et. not_twice z b p u v mem h ea et)) ∙ h in
      let f = come_fires b p u v lt (come_split b p u ∙ ap (λ o. or_else o (flows g (edges g) (parts g rest) b p u)) arr) in
      ⊎_elim
      (λ (early : IsIn f.0 zs). absurd (not_twice f.0 b p u v early h f.2.actor f.3))
      (λ (late : IsIn f.0 rest). (f.0, late, f.2.actor, f.3))
      (IsIn-append f.0 zs rest f.1)

  -- only ports below 8 have anything
  waits_port : (b p : ℕ) (u : Tag) (v : ℤ) → w.waits b p u ≡ Some v → p < 8
  waits_port b p u v h =
      let arr : m.arr b p u ≡ Some v = sym (m.fresh b p u (λ z mem ea et. not_twice z b p u v mem h ea et)) ∙ h in
      ⊎_elim
      (λ (o : opening g rows b p u ≡ Some v). let z : p ≡ 0 = eqb-true p 0 (when_found (p == 0) _ v o).0 in omega arith)
      (λ (f : flows g (edges g) (parts g zs) b p u ≡ Some v).
      let e = first_of_found _ (edges g) v (when_found (nat_lt u.time (suc g.until)) _ v f).1 in
      let port : e.0.input ≡ p = eqb-true e.0.input p (and_parts (e.0.to == b) (e.0.input == p) (when_found (e.0.to == b && e.0.input == p) _ v e.2).0).1 in
      subst (λ n. n < 8) port (wired.ports e.0 e.1))
      (or_else_found (opening g rows b p u) (flows g (edges g) (parts g zs) b p u) v (sym (m.came b p u) ∙ arr))

  -- at the end nothing waits
  pub ends : rest ≡ [] → (a p : ℕ) (t : Tag) → w.waits a p t ≡ None
  ends none a p t = absent (w.waits a p t) (λ v h.
      let f = waits_fires a p t v (waits_port a p t v h) h in
      let mem : IsIn f.0 [] = subst (IsIn f.0) none f.1 in mem)

module _ (g : Graph) (rank : ℕ → ℕ) (rows : ℕ → List Row) (wired : IsWired g) (grows : GrowsAlong g rank) (fits : FitRows g rows) (zs : List ActorFiring) (x : ActorFiring) (rest : List ActorFiring) (behaves : Behaves g (opening g rows) Everywhere (parts g (zs ++ x ∷ rest))) (w : World) (m : Mid g rank rows w zs) (ordered : InKeyOrder rank (zs ++ x ∷ rest)) (full : IsFull g x) where
  abbrev whole : Firings
  whole = parts g (zs ++ x ∷ rest)

  x_in : IsIn x (zs ++ x ∷ rest)
  x_in = IsIn-append_right x zs (x ∷ rest) (inl refl)

  -- x is the only firing at its actor and tag
  only_x : (z : ActorFiring) → IsIn z (zs ++ x ∷ rest) → z.actor ≡ x.actor → z.tag ≡ x.tag → z ≡ x
  only_x z mem ea et =
      ⊎_elim
      (λ (early : IsIn z zs).
      let s : Sooner rank z.tag z.actor x.tag x.actor = ordered_front rank zs x rest ordered z early in
      absurd (sooner_never x.tag x.actor (rank x.actor) (subst (λ t. Sooner rank t x.actor x.tag x.actor) et (subst (λ a. Sooner rank z.tag a x.tag x.actor) ea s))))
      (λ (late : IsIn z (x ∷ rest)).
      ⊎_elim
      (λ (e : z ≡ x). e)
      (λ (r : IsIn z rest).
      let s : Sooner rank x.tag x.actor z.tag z.actor = ordered_back rank zs x rest ordered z r in
      absurd (sooner_never x.tag x.actor (rank x.actor) (subst (λ t. Sooner rank x.tag x.actor t x.actor) et (subst (λ a. Sooner rank x.tag x.actor z.tag a) ea s))))
      late)
      (IsIn-append z zs (x ∷ rest) mem)

  first : IsFirst rank w.waits x.actor x.tag
  first b p u v h =
      let f = waits_fires g rank rows wired grows fits zs (x ∷ rest) behaves w m b p u v (waits_port g rank rows wired grows fits zs (x ∷ rest) behaves w m b p u v h) h in
      let goal : NotAfter rank x.tag x.actor f.0.tag f.0.actor =
      ⊎_elim
      (λ (e : f.0 ≡ x). subst (λ (z : ActorFiring). NotAfter rank x.tag x.actor z.tag z.actor) (sym e) (weak_refl x.tag x.actor (rank x.actor)))
      (λ (r : IsIn f.0 rest). sooner_weak x.tag f.0.tag x.actor f.0.actor (rank x.actor) (rank f.0.actor) (ordered_back rank zs x rest ordered f.0 r))
      f.1 in
      subst (λ t. NotAfter rank x.tag x.actor t b) f.3 (subst (λ a. NotAfter rank x.tag x.actor f.0.tag a) f.2 goal)

  -- nothing flows to x from x or from what is later
  nothing_later : (p : ℕ) → flows g (edges g) (parts g (x ∷ rest)) x.actor p x.tag ≡ None
  nothing_later p = absent _ (λ v h.
      let e = first_of_found _ (edges g) v (when_found (nat_lt x.tag.time (suc g.until)) _ v h).1 in
      let ends = when_found (e.0.to == x.actor && e.0.input == p) _ v e.2 in
      let to : e.0.to ≡ x.actor = eqb-true e.0.to x.actor (and_parts (e.0.to == x.actor) (e.0.input == p) ends.0).0 in
      let y = first_of_found _ (parts g (x ∷ rest) (source g e.0)) v ends.1 in
      let tag : plus y.0.tag e.0.weight ≡ x.tag = same_tag-true (plus y.0.tag e.0.weight) x.tag (when_found _ _ v y.2).0 in
      let from = in_parts g (source g e.0) (x ∷ rest) y.0 y.1 in
      let z : ActorFiring = from.0 in
      let ztag : y.0.tag ≡ z.tag = ap (λ (k : Firing). k.tag) from.3 in
      let time : z.tag.time + e.0.weight.time ≡ x.tag.time = ap (λ (t : Tag). t.time + e.0.weight.time) (sym ztag) ∙ ap (λ (t : Tag). t.time) tag in
      let step : z.tag.step + e.0.weight.step ≡ x.tag.step = ap (λ (t : Tag). t.step + e.0.weight.step) (sym ztag) ∙ ap (λ (t : Tag). t.step) tag in
      let s : Sooner rank z.tag z.actor x.tag x.actor = sooner_edge z.tag x.tag e.0.weight.time e.0.weight.step z.actor x.actor (rank z.actor) (rank x.actor) time step
      (λ zt zs2. subst (λ c. rank c < rank x.actor) (sym from.2.actor) (subst (λ c. rank e.0.from < rank c) to (grows e.0 e.1 zt zs2))) in
      ⊎_elim
      (λ (same : z ≡ x). sooner_never x.tag x.actor (rank x.actor) (subst (λ (k : ActorFiring). Sooner rank k.tag k.actor x.tag x.actor) same s))
      (λ (r : IsIn z rest).
      sooner_never x.tag x.actor (rank x.actor)
      (sooner_then x.tag z.tag x.tag x.actor z.actor x.actor (rank x.actor) (rank z.actor) (rank x.actor) (ordered_back rank zs x rest ordered z r) (sooner_weak z.tag x.tag z.actor x.actor (rank z.actor) (rank x.actor) s)))
      from.1)

  not_yet : (z : ActorFiring) → IsIn z zs → z.actor ≡ x.actor → z.tag ≡ x.tag → ⊥
  not_yet z mem ea et =
      let s : Sooner rank z.tag z.actor x.tag x.actor = ordered_front rank zs x rest ordered z mem in
      sooner_never x.tag x.actor (rank x.actor) (subst (λ t. Sooner rank t x.actor x.tag x.actor) et (subst (λ a. Sooner rank z.tag a x.tag x.actor) ea s))

  come_waits : (p : ℕ) → comes g (opening g rows) whole x.actor p x.tag ≡ w.waits x.actor p x.tag
  come_waits p =
      come_split g rank rows wired grows fits zs (x ∷ rest) behaves w m x.actor p x.tag
      ∙ ap (or_else (m.arr x.actor p x.tag)) (nothing_later p) ∙ or_else_none (m.arr x.actor p x.tag)
      ∙ sym (m.fresh x.actor p x.tag not_yet)

  -- the part of a unit of x is what the unit does at its tag
  part_reacts : (u : Unit) → HasPart g u x → Some (the_part (kind_of g u.actor) x (narrow g u x)) ≡ reaction g (opening g rows) whole u x.tag
  part_reacts u has =
      sym (rising_at (whole u) (the_part (kind_of g u.actor) x (narrow g u x)) (behaves.rising u) (part_in g u (zs ++ x ∷ rest) x x_in has)) ∙ behaves.reacts u x.tag tt

  port_comes : (p : ℕ) → p < 8 → at_port x.inputs p ≡ comes g (opening g rows) whole x.actor p x.tag
  port_comes p lt =
      ⊎_elim
      (λ (none : part_of g u x ≡ None). port_none none ∙ sym (come_none none))
      (λ (has : HasPart g u x).
      let f = when_found _ _ _ (sym (part_reacts u has)) in
      let same : unit_inputs g (comes g (opening g rows) whole) u x.tag ≡ narrow g u x = ap (λ (y : Firing). y.inputs) (same_some _ _ f.1) in
      sym (at_eight (λ q. when (input_group (kind_of g x.actor) q == u.group) (at_port x.inputs q)) p lt ∙ when-true (u.group == u.group) (at_port x.inputs p) (eq-eqb u.group u.group refl))
      ∙ ap (λ i. at_port i p) (sym same)
      ∙ at_eight (λ q. when (input_group (kind_of g x.actor) q == u.group) (comes g (opening g rows) whole x.actor q x.tag)) p lt
      ∙ when-true (u.group == u.group) (comes g (opening g rows) whole x.actor p x.tag) (eq-eqb u.group u.group refl))
      (part_cases g u x)
    where
      u : Unit
      u = at_input g x.actor p

      has_from : any_present (narrow g u x) ≡ true → HasPart g u x
      has_from here = record {
        actor = refl;
        present = here;
        is = when-true (x.actor == x.actor) _ (eq-eqb x.actor x.actor refl) ∙ when-true (any_present (narrow g u x)) (Some (the_part (kind_of g x.actor) x (narrow g u x))) here;
      }

      no_part : part_of g u x ≡ None → HasPart g u x → ⊥
      no_part none has = none_some _ (sym none ∙ has.is)

      port_none : part_of g u x ≡ None → at_port x.inputs p ≡ None
      port_none none = absent (at_port x.inputs p) (λ v h. no_part none (has_from
          (eight_present (λ q. when (input_group (kind_of g x.actor) q == u.group) (at_port x.inputs q)) p v lt (when-true (u.group == u.group) (at_port x.inputs p) (eq-eqb u.group u.group refl) ∙ h))))

      come_none : part_of g u x ≡ None → comes g (opening g rows) whole x.actor p x.tag ≡ None
      come_none none = absent _ (λ v h.
          let f = come_fires g rank rows wired grows fits zs (x ∷ rest) behaves w m x.actor p x.tag v lt h in
          no_part none (subst (HasPart g u) (only_x f.0 f.1 f.2.actor f.3) f.2))

  inputs_x : x.inputs ≡ waiting w.waits x.actor x.tag
  inputs_x = full.ports ∙ eight_below _ _ (λ p lt. port_comes p lt ∙ come_waits p)

  before_x : x.before ≡ w.states x.actor
  before_x =
      let at = eight_found (λ p. at_port x.inputs p) (ap any_present (sym full.ports) ∙ full.present) in
      let p : ℕ = at.0 in
      let u : Unit = at_input g x.actor p in
      let here : any_present (narrow g u x) ≡ true =
      eight_present (λ q. when (input_group (kind_of g x.actor) q == u.group) (at_port x.inputs q)) p at.1 at.2 (when-true (u.group == u.group) (at_port x.inputs p) (eq-eqb u.group u.group refl) ∙ at.3) in
      let has : HasPart g u x = record {
        actor = refl;
        present = here;
        is = when-true (x.actor == x.actor) _ (eq-eqb x.actor x.actor refl) ∙ when-true (any_present (narrow g u x)) (Some (the_part (kind_of g x.actor) x (narrow g u x))) here;
      } in
      let f = when_found _ _ _ (sym (part_reacts u has)) in
      let state : state_before (first_state (kind_of g x.actor)) (whole u) x.tag ≡ x.before = ap (λ (y : Firing). y.before) (same_some _ _ f.1) in
      let list : whole u ≡ parts g zs u ++ (the_part (kind_of g x.actor) x (narrow g u x) ∷ parts g rest u) =
      filter_map-append (part_of g u) zs (x ∷ rest) ∙ ap (λ o. parts g zs u ++ cons_option o (parts g rest u)) has.is in
      sym state
      ∙ ap (λ l. state_before (first_state (kind_of g x.actor)) l x.tag) list
      ∙ state_split (first_state (kind_of g x.actor)) (parts g zs u) (the_part (kind_of g x.actor) x (narrow g u x)) (parts g rest u)
      (each_below u refl (parts g zs u) (λ y mem. mem))
      ∙ sym (m.states_are x.actor p)
    where
      below : (u : Unit) → u.actor ≡ x.actor → (y : Firing) → IsIn y (parts g zs u) → Before y.tag x.tag
      below u e y mem =
          let from = in_parts g u zs y mem in
          let z : ActorFiring = from.0 in
          let same : z.actor ≡ x.actor = from.2.actor ∙ e in
          let s : Sooner rank z.tag x.actor x.tag x.actor = subst (λ a. Sooner rank z.tag a x.tag x.actor) same (ordered_front rank zs x rest ordered z from.1) in
          subst (λ (v : Firing). Before v.tag x.tag) (sym from.3) (sooner_same z.tag x.tag x.actor (rank x.actor) s)

      each_below : (u : Unit) → u.actor ≡ x.actor → (ys : List Firing) → ((y : Firing) → IsIn y ys → IsIn y (parts g zs u)) → Each (λ (y : Firing). Before y.tag x.tag) ys
      each_below u e [] sub = tt
      each_below u e (y ∷ ys) sub = (below u e y (sub y (inl refl)), each_below u e ys (λ z mem. sub z (inr mem)))

  pub fires_x : Fires g rank w x
  fires_x = record { first = first; inputs = inputs_x; present = full.present; before = before_x; after = full.after; outputs = full.outputs }

runs_from : (g : Graph) (rank : ℕ → ℕ) (rows : ℕ → List Row) → IsWired g → GrowsAlong g rank → FitRows g rows → (rest zs : List ActorFiring) (w : World) → Mid g rank rows w zs → InKeyOrder rank (zs ++ rest) → Each (IsFull g) rest → Behaves g (opening g rows) Everywhere (parts g (zs ++ rest)) → Runs g rank w rest
runs_from g rank rows wired grows fits [] zs w m ordered full behaves = ends g rank rows wired grows fits zs [] behaves w m refl
runs_from g rank rows wired grows fits (x ∷ rest) zs w m ordered full behaves =
    let fires : Fires g rank w x = fires_x g rank rows wired grows fits zs x rest behaves w m ordered full.0 in (
      fires,
      runs_from g rank rows wired grows fits rest (zs ++ x ∷ []) (after_firing g w x) (mid_step g rank rows wired grows w zs m x fires)
          (subst (InKeyOrder rank) (sym (append_assoc zs (x ∷ []) rest)) ordered)
          full.1
          (subst (λ l. Behaves g (opening g rows) Everywhere (parts g l)) (sym (append_assoc zs (x ∷ []) rest)) behaves),
    )

pub sorted_is_meaning : SortedIsMeaning
sorted_is_meaning g rank rows xs wired ranks fits ordered full behaves =
    runs_from g rank rows wired (ranks_grow g rank ranks) fits xs [] (at_start g rows) (mid_start g rank rows) ordered full behaves
