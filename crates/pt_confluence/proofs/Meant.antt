-- Tasks in order, joined, are the meaning.
use Rattle.std.proofs.Common.{◌≡◌, ◌==◌, ◌<◌, ℕ, ℤ, true, false, List, [], ◌∷◌, Option, Some, None, map, refl, sym, ap, subst, ◌∙◌, inl, inr, ⊎_elim, eq-eqb, eqb-true}
use Rattle.std.specs.List.{cons_option, filter_map}
use Rattle.std.proofs.Math.Path.{fun_ext}
use Rattle.std.proofs.lemmas.Bool.{cases_Bool, false≢true}
use Rattle.pt_tags.specs.Tags.{Before}
use Rattle.pt_tags.specs.declared.tag.Tag.{Tag}
use Rattle.pt_types.specs.Ports.{at_port, when}
use Rattle.pt_types.specs.declared.firing.ActorFiring.{ActorFiring}
use Rattle.pt_types.specs.declared.firing.Task.{Task}
use Rattle.pt_types.specs.declared.graph.Graph.{Graph}
use Rattle.pt_types.specs.declared.graph.Unit.{Unit}
use Rattle.pt_types.specs.declared.kind.Kind.{Kind}
use Rattle.pt_types.specs.declared.rows.Row.{Row}
use Rattle.pt_semantics.specs.Behaviours.{Behaves, Everywhere, Firing, Firings, Rising, firing_at}
use Rattle.pt_types.specs.Lookups.{kind_of}
use Rattle.pt_semantics.specs.Firing.{any_present, fired}
use Rattle.pt_semantics.specs.History.{firing_by, of_unit}
use Rattle.pt_semantics.specs.Lists.{Each, IsIn}
use Rattle.pt_semantics.specs.Meaning.{IsMeaning, opening}
use Rattle.pt_semantics.specs.Parts.{narrowed, part_of, parts}
use Rattle.pt_semantics.specs.Ranks.{AreRanks}
use Rattle.pt_semantics.specs.Rows.{FitRows}
use Rattle.pt_semantics.specs.Sorted.{InKeyOrder, Sooner}
use Rattle.pt_semantics.specs.Units.{unit_of}
use Rattle.pt_types.specs.Groups.{input_group}
use Rattle.pt_semantics.specs.Wired.{IsWired}
use Rattle.pt_semantics.proofs.Lookups.{Each-from, Each-in, eight_below, eight_found, none_some, when_found}
use Rattle.pt_laws.proofs.MeaningWalk.{HasPart, in_parts, narrow, part_cases, part_in, sooner_never, sooner_same, the_part}
use Rattle.pt_laws.proofs.Sorted.{sorted_is_meaning}
use Rattle.pt_laws.proofs.Threads.{firing_at_in}
use Rattle.pt_semantics.proofs.Words.{firings_agree, when-false, when-true}
use Rattle.pt_confluence.specs.Joined.{TasksInOrder, neighbours_joined, whole_firing}
use Rattle.pt_confluence.proofs.Neighbours.{AreOne, HasInput, IsWithin, Strict, are_full, in_key_order, made_of, strict_joined, within_joined}
use Rattle.pt_confluence.proofs.Claims.{agree, fired_by, fires, has_input, own_input, rising_at, same_firing, same_state}

option_same : (x y : Option ℤ) → ((v : ℤ) → x ≡ Some v → y ≡ Some v) → ((v : ℤ) → y ≡ Some v → x ≡ Some v) → x ≡ y
option_same None None h k = refl
option_same None (Some v) h k = k v refl
option_same (Some v) y h k = sym (h v refl)

-- rising lists with the same members are one
rise_same : (xs ys : List Firing) → Rising xs → Rising ys → ((x : Firing) → IsIn x xs → IsIn x ys) → ((y : Firing) → IsIn y ys → IsIn y xs) → xs ≡ ys
rise_same xs ys rx ry into back = firings_agree xs ys rx ry (λ t. at t (firing_at xs t) (firing_at ys t) refl refl)
  where
    to : (cs bs : List Firing) → Rising bs → ((x : Firing) → IsIn x cs → IsIn x bs) → (t : Tag) (x : Firing) → firing_at cs t ≡ Some x → firing_at bs t ≡ Some x
    to cs bs rb sub t x h =
        let found = firing_at_in cs t x h in
        subst (λ s. firing_at bs s ≡ Some x) found.1 (rising_at bs x rb (sub x found.0))

    at : (t : Tag) (a b : Option Firing) → firing_at xs t ≡ a → firing_at ys t ≡ b → firing_at xs t ≡ firing_at ys t
    at t (Some x) b ha hb = ha ∙ sym (to xs ys ry into t x ha)
    at t None (Some y) ha hb = to ys xs rx back t y hb ∙ sym hb
    at t None None ha hb = ha ∙ sym hb

-- the parts of firings in order rise
parts_after : (g : Graph) (rank : ℕ → ℕ) (u : Unit) (x : ActorFiring) (ys : List ActorFiring) → x.actor ≡ u.actor → Each (λ (y : ActorFiring). Sooner rank x.tag x.actor y.tag y.actor) ys → Each (λ (z : Firing). Before x.tag z.tag) (parts g ys u)
parts_after g rank u x ys mine later =
    Each-from (λ (z : Firing). Before x.tag z.tag) (parts g ys u)
    (λ z mem.
    let (y, at, has, is) = in_parts g u ys z mem in
    let sooner : Sooner rank x.tag x.actor y.tag y.actor = Each-in (λ (k : ActorFiring). Sooner rank x.tag x.actor k.tag k.actor) ys later y at in
    subst (λ (k : Firing). Before x.tag k.tag) (sym is)
    (sooner_same x.tag y.tag x.actor (rank x.actor) (subst (λ a. Sooner rank x.tag x.actor y.tag a) (has.actor ∙ sym mine) sooner)))

parts_rise : (g : Graph) (rank : ℕ → ℕ) (u : Unit) (xs : List ActorFiring) → InKeyOrder rank xs → Rising (parts g xs u)
parts_rise g rank u [] h = tt
parts_rise g rank u (x ∷ xs) h =
    ⊎_elim
    (λ (none : part_of g u x ≡ None). subst (λ o. Rising (cons_option o (parts g xs u))) (sym none) (parts_rise g rank u xs h.1))
    (λ (has : HasPart g u x). subst (λ o. Rising (cons_option o (parts g xs u))) (sym has.is) (parts_after g rank u x xs has.actor h.0, parts_rise g rank u xs h.1))
    (part_cases g u x)

in_map : {X Y : Type 0} (h : X → Y) (xs : List X) (y : Y) → IsIn y (map h xs) → (x : X) × IsIn x xs × (y ≡ h x)
in_map h [] y mem = absurd mem
in_map h (x ∷ xs) y mem =
    ⊎_elim
    (λ (e : y ≡ h x). (x, inl refl, e))
    (λ (later : IsIn y (map h xs)). let (z, at, e) = in_map h xs y later in (z, inr at, e))
    mem

map_in : {X Y : Type 0} (h : X → Y) (xs : List X) (x : X) → IsIn x xs → IsIn (h x) (map h xs)
map_in h [] x mem = absurd mem
map_in h (y ∷ xs) x mem = ⊎_elim (λ (e : x ≡ y). inl (ap h e)) (λ (later : IsIn x xs). inr (map_in h xs x later)) mem

-- no two of a strict list are of one actor and tag
strict_one : (rank : ℕ → ℕ) (xs : List Task) → Strict rank xs → (x y : Task) → IsIn x xs → IsIn y xs → AreOne x y → x ≡ y
strict_one rank [] h x y mx my one = absurd mx
strict_one rank (z ∷ xs) h x y mx my one =
    ⊎_elim
    (λ (ex : x ≡ z).
    ⊎_elim
    (λ (ey : y ≡ z). ex ∙ sym ey)
    (λ (ly : IsIn y xs). absurd (never z y ex one (Each-in (λ (k : Task). Sooner rank z.tag z.actor k.tag k.actor) xs h.0 y ly)))
    my)
    (λ (lx : IsIn x xs).
    ⊎_elim
    (λ (ey : y ≡ z). absurd (never z x ey (record { actor = sym one.actor; tag = sym one.tag }) (Each-in (λ (k : Task). Sooner rank z.tag z.actor k.tag k.actor) xs h.0 x lx)))
    (λ (ly : IsIn y xs). strict_one rank xs h.1 x y lx ly one)
    my)
    mx
  where
    never : (z b : Task) → {a : Task} → a ≡ z → AreOne a b → Sooner rank z.tag z.actor b.tag b.actor → ⊥
    never z b {a} e one sooner =
        let of : AreOne z b = subst (λ k. AreOne k b) e one in
        sooner_never b.tag b.actor (rank b.actor)
        (subst (λ c. Sooner rank b.tag c b.tag b.actor) of.actor (subst (λ t. Sooner rank t z.actor b.tag b.actor) of.tag sooner))

-- a unit's firing by its kind
abbrev made_by : Kind → Tag → List (Option ℤ) → ℤ → Firing
made_by k t inputs q = record { tag = t; inputs = inputs; before = q; after = (fired k q inputs).state; outputs = (fired k q inputs).outputs }

module _ (g : Graph) (rank : ℕ → ℕ) (rows : ℕ → List Row) (f : Firings) (behaves : Behaves g (opening g rows) Everywhere f) (tasks : List Task) (claimed : (u : Unit) → filter_map (of_unit g u) tasks ≡ f u)
    (sorted : List Task) (order : TasksInOrder rank sorted) (of_them : (t : Task) → IsIn t sorted → IsIn t tasks) (all_of_them : (t : Task) → IsIn t tasks → IsIn t sorted) where
  abbrev firings : List ActorFiring
  firings = map (whole_firing g) (neighbours_joined sorted)

  agreeing : (x : Task) → IsIn x sorted → (y : Task) → IsIn y sorted → AreOne x y → (p : ℕ) (v w : ℤ) → p < 8 → at_port x.inputs p ≡ Some v → at_port y.inputs p ≡ Some w → v ≡ w
  agreeing x mx y my one = agree g (opening g rows) f behaves tasks claimed x y (of_them x mx) (of_them y my) one

  -- a task is within each joined one of its actor and tag
  within : (t y : Task) → IsIn t sorted → IsIn y (neighbours_joined sorted) → AreOne t y → IsWithin t y
  within t y mt my one =
      let (z, mz, w) = within_joined sorted agreeing t mt in
      let same : z ≡ y = strict_one rank (neighbours_joined sorted) (strict_joined rank sorted order) z y mz my (record { actor = sym w.one.actor ∙ one.actor; tag = sym w.one.tag ∙ one.tag }) in
      subst (IsWithin t) same w

  -- of whose inputs those of the task's unit are the task's
  own_part : (t y : Task) → IsIn t sorted → IsIn y (neighbours_joined sorted) → AreOne t y → narrowed (kind_of g t.actor) (unit_of g t).group y.inputs ≡ t.inputs
  own_part t y mt my one =
      eight_below (λ p. when (input_group (kind_of g t.actor) p == (unit_of g t).group) (at_port y.inputs p)) (λ p. at_port t.inputs p) port
      ∙ sym (has_input g (opening g rows) f behaves tasks claimed t (of_them t mt)).ports
    where
      port : (p : ℕ) → p < 8 → when (input_group (kind_of g t.actor) p == (unit_of g t).group) (at_port y.inputs p) ≡ at_port t.inputs p
      port p lt =
          ⊎_elim
          (λ (on : (input_group (kind_of g t.actor) p == (unit_of g t).group) ≡ true).
          when-true (input_group (kind_of g t.actor) p == (unit_of g t).group) (at_port y.inputs p) on
          ∙ option_same (at_port y.inputs p) (at_port t.inputs p)
          (λ v at.
          let (z, mz, of, there) = (made_of sorted y my).found p v lt at in
          let both : AreOne t z = record { actor = one.actor ∙ sym of.actor; tag = one.tag ∙ sym of.tag } in
          let group : (unit_of g t).group ≡ (unit_of g z).group =
          sym (eqb-true (input_group (kind_of g t.actor) p) (unit_of g t).group on) ∙ ap (λ a. input_group (kind_of g a) p) both.actor
          ∙ own_input g (opening g rows) f behaves tasks claimed z (of_them z mz) p v lt there in
          ap (λ (k : Firing). at_port k.inputs p) (same_firing g (opening g rows) f behaves tasks claimed t z (of_them t mt) (of_them z mz) both group) ∙ there)
          (λ v at. (within t y mt my one).ports p v lt at))
          (λ (off : (input_group (kind_of g t.actor) p == (unit_of g t).group) ≡ false).
          when-false (input_group (kind_of g t.actor) p == (unit_of g t).group) (at_port y.inputs p) off
          ∙ option_same None (at_port t.inputs p)
          (λ v at. absurd (none_some v at))
          (λ v at. absurd (false≢true (sym off ∙ eq-eqb (input_group (kind_of g t.actor) p) (unit_of g t).group (own_input g (opening g rows) f behaves tasks claimed t (of_them t mt) p v lt at)))))
          (cases_Bool (input_group (kind_of g t.actor) p == (unit_of g t).group))

  part_is : (t y : Task) → IsIn t sorted → IsIn y (neighbours_joined sorted) → AreOne t y → HasPart g (unit_of g t) (whole_firing g y) × (the_part (kind_of g t.actor) (whole_firing g y) (narrow g (unit_of g t) (whole_firing g y)) ≡ firing_by g t)
  part_is t y mt my one =
      let own = own_part t y mt my one in
      let (first, mf, of, state) = (made_of sorted y my).first in
      let same : y.state ≡ t.state =
      sym state ∙ same_state g (opening g rows) f behaves tasks claimed first t (of_them first mf) (of_them t mt) (record { actor = of.actor ∙ sym one.actor; tag = of.tag ∙ sym one.tag }) in
      let present : any_present (narrow g (unit_of g t) (whole_firing g y)) ≡ true = ap any_present own ∙ (has_input g (opening g rows) f behaves tasks claimed t (of_them t mt)).present in (
        record {
          actor = sym one.actor;
          present = present;
          is =
              when-true (y.actor == t.actor) _ (eq-eqb y.actor t.actor (sym one.actor))
              ∙ when-true (any_present (narrow g (unit_of g t) (whole_firing g y))) (Some (the_part (kind_of g t.actor) (whole_firing g y) (narrow g (unit_of g t) (whole_firing g y)))) present;
        },
        λ i. made_by (kind_of g t.actor) (sym one.tag i) (own i) (same i),
      )

  -- each task's firing is a part
  part_of_task : (t : Task) → IsIn t sorted → IsIn (firing_by g t) (parts g firings (unit_of g t))
  part_of_task t mt =
      let (y, my, w) = within_joined sorted agreeing t mt in
      let (has, is) = part_is t y mt my w.one in
      subst (λ x. IsIn x (parts g firings (unit_of g t))) is (part_in g (unit_of g t) firings (whole_firing g y) (map_in (whole_firing g) (neighbours_joined sorted) y my) has)

  -- and each part a task's firing
  task_of_part : (u : Unit) (x : Firing) → IsIn x (parts g firings u) → (t : Task) × IsIn t sorted × (unit_of g t ≡ u) × (firing_by g t ≡ x)
  task_of_part u x mem =
      let (z, mz, has, is) = in_parts g u firings x mem in
      let (y, my, e) = in_map (whole_firing g) (neighbours_joined sorted) z mz in
      let has_y : HasPart g u (whole_firing g y) = subst (HasPart g u) e has in
      let (p, v, lt, there) = eight_found (λ q. when (input_group (kind_of g u.actor) q == u.group) (at_port y.inputs q)) has_y.present in
      let found = when_found (input_group (kind_of g u.actor) p == u.group) (at_port y.inputs p) v there in
      let (t, mt, one, at) = (made_of sorted y my).found p v lt found.1 in
      let actor : t.actor ≡ u.actor = one.actor ∙ has_y.actor in
      let group : (unit_of g t).group ≡ u.group =
      sym (own_input g (opening g rows) f behaves tasks claimed t (of_them t mt) p v lt at) ∙ ap (λ a. input_group (kind_of g a) p) actor ∙ eqb-true (input_group (kind_of g u.actor) p) u.group found.0 in
      let unit : unit_of g t ≡ u = λ i. record { actor = actor i; group = group i } in (
        t,
        mt,
        unit,
        sym (part_is t y mt my one).1 ∙ ap (λ (w : Unit). the_part (kind_of g w.actor) (whole_firing g y) (narrow g w (whole_firing g y))) unit
            ∙ ap (λ (k : ActorFiring). the_part (kind_of g u.actor) k (narrow g u k)) (sym e) ∙ sym is,
      )

  parts_are : (u : Unit) → parts g firings u ≡ f u
  parts_are u =
      rise_same (parts g firings u) (f u) (parts_rise g rank u firings (in_key_order rank g sorted order)) (behaves.rising u)
      (λ x mem.
      let (t, mt, unit, is) = task_of_part u x mem in
      subst (IsIn x) (ap f unit) (subst (λ k. IsIn k (f (unit_of g t))) is (fires g (opening g rows) f behaves tasks claimed t (of_them t mt))))
      (λ x mem.
      let (t, mt, unit, is) = fired_by g (opening g rows) f behaves tasks claimed u x mem in
      subst (λ v. IsIn x (parts g firings v)) unit (subst (λ k. IsIn k (parts g firings (unit_of g t))) is (part_of_task t (all_of_them t mt))))

  pub is_meaning : IsWired g → AreRanks g rank → FitRows g rows → IsMeaning g rank rows firings
  is_meaning wired ranks fits =
      sorted_is_meaning g rank rows firings wired ranks fits (in_key_order rank g sorted order)
      (are_full g sorted (Each-from HasInput sorted (λ t mem. has_input g (opening g rows) f behaves tasks claimed t (of_them t mem))))
      (subst (Behaves g (opening g rows) Everywhere) (fun_ext (λ u. sym (parts_are u))) behaves)
