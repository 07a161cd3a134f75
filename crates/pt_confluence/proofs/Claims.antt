-- What is known of tasks whose firings are a behaviour.
use Rattle.std.proofs.Common.{◌≡◌, ◌==◌, ◌<◌, ◌++◌, ◌⊎◌, ℕ, ℤ, pos, Bool, true, false, if◌then◌else◌, List, [], ◌∷◌, Option, Some, None, refl, sym, ap, ap₂, subst, ◌∙◌, inl, inr, ⊎_elim, eqb-true, append_assoc, append-nil}
use Rattle.std.specs.List.{cons_option, filter_map}
use Rattle.std.proofs.lemmas.Bool.{cases_Bool, cond-false}
use Rattle.pt_tags.specs.Tags.{Before, tag_lt}
use Rattle.pt_tags.specs.declared.tag.Tag.{Tag}
use Rattle.pt_types.specs.Ports.{at_port, eight, when}
use Rattle.pt_types.specs.declared.firing.Task.{Task}
use Rattle.pt_types.specs.declared.graph.Graph.{Graph}
use Rattle.pt_types.specs.declared.graph.Unit.{Unit}
use Rattle.pt_types.specs.declared.kind.Kind.{Kind}
use Rattle.pt_types.specs.declared.kind.Kind.TheVariants.{Lanes}
use Rattle.pt_semantics.specs.Behaviours.{Behaves, Everywhere, Firing, Firings, Rising, comes, firing_at, state_before}
use Rattle.pt_semantics.specs.Edges.{first_state}
use Rattle.pt_types.specs.Lookups.{kind_of}
use Rattle.pt_semantics.specs.Firing.{any_present, fired}
use Rattle.pt_semantics.specs.History.{firing_by, of_unit}
use Rattle.pt_semantics.specs.Lists.{Each, IsIn}
use Rattle.pt_semantics.specs.Meaning.{Values}
use Rattle.pt_semantics.specs.Units.{first_port, same_part, unit_inputs, unit_of}
use Rattle.pt_types.specs.Groups.{input_group}
use Rattle.pt_semantics.proofs.Lookups.{Each-in, at_eight, same_part-refl, same_part-true, same_some, when_found}
use Rattle.pt_semantics.proofs.Tags.{Before-irrefl, same_tag-before, tag_lt-true}
use Rattle.pt_semantics.proofs.Words.{firing_at_head, firing_at_tail, when-true}
use Rattle.pt_confluence.proofs.Neighbours.{AreOne, HasInput}

-- in a rising list a member is what stands at its tag
pub rising_at : (xs : List Firing) (y : Firing) → Rising xs → IsIn y xs → firing_at xs y.tag ≡ Some y
rising_at [] y r mem = absurd mem
rising_at (x ∷ xs) y r mem =
    ⊎_elim
    (λ (e : y ≡ x). ap (λ (z : Firing). firing_at (x ∷ xs) z.tag) e ∙ firing_at_head x xs ∙ ap Some (sym e))
    (λ (m : IsIn y xs). firing_at_tail x xs y.tag (same_tag-before x.tag y.tag (Each-in (λ (z : Firing). Before x.tag z.tag) xs r.0 y m)) ∙ rising_at xs y r.1 m)
    mem

-- members of a list's values
pub in_values : {X Y : Type 0} (h : X → Option Y) (xs : List X) (x : X) (y : Y) → IsIn x xs → h x ≡ Some y → IsIn y (filter_map h xs)
in_values h [] x y mem is = absurd mem
in_values {Y = Y} h (z ∷ xs) x y mem is =
    ⊎_elim
    (λ (e : x ≡ z). subst (λ o. IsIn y (cons_option o (filter_map h xs))) (sym is ∙ ap h e) (inl refl))
    (λ (later : IsIn x xs). onto (h z) (in_values h xs x y later is))
    mem
  where
    onto : (o : Option Y) → IsIn y (filter_map h xs) → IsIn y (cons_option o (filter_map h xs))
    onto None m = m
    onto (Some w) m = inr m

pub value_from : {X Y : Type 0} (h : X → Option Y) (xs : List X) (y : Y) → IsIn y (filter_map h xs) → (x : X) × IsIn x xs × (h x ≡ Some y)
value_from h [] y mem = absurd mem
value_from {X = X} {Y = Y} h (z ∷ xs) y mem = by (h z) refl (value_from h xs y) mem
  where
    by : (o : Option Y) → h z ≡ o → (IsIn y (filter_map h xs) → (x : X) × IsIn x xs × (h x ≡ Some y)) → IsIn y (cons_option o (filter_map h xs)) → (x : X) × IsIn x (z ∷ xs) × (h x ≡ Some y)
    by None is on m = let (x, at, e) = on m in (x, inr at, e)
    by (Some w) is on m =
        ⊎_elim
        (λ (e : y ≡ w). (z, inl refl, is ∙ ap Some (sym e)))
        (λ (later : IsIn y (filter_map h xs)). let (x, at, e) = on later in (x, inr at, e))
        m

part_from : (u v : Unit) → u.actor ≡ v.actor → u.group ≡ v.group → u ≡ v
part_from u v a b = λ i. record { actor = a i; group = b i }

-- an actor has one group, or it is lanes
one_group : (k : Kind) → ((p q : ℕ) → input_group k p ≡ input_group k q) ⊎ ((cells : List ℕ) × (k ≡ Lanes cells))
one_group (Lanes cells) = inr (cells, refl)
one_group _ = inl (λ p q. refl)

-- the state of lanes stays 0
not_less : (t : Tag) → tag_lt t t ≡ false
not_less t = ⊎_elim (λ (k : tag_lt t t ≡ true). absurd (Before-irrefl t (tag_lt-true t t k))) (λ (k : tag_lt t t ≡ false). k) (cases_Bool (tag_lt t t))

abbrev Stays : Firing → Type 0
Stays x = x.after ≡ pos 0

if_stays : (b : Bool) (n : ℤ) → n ≡ pos 0 → (if b then n else pos 0) ≡ pos 0
if_stays true n e = e
if_stays false n e = refl

state_up_to : (zs : List Firing) (x : Firing) (rest : List Firing) → Each Stays zs → state_before (pos 0) (zs ++ x ∷ rest) x.tag ≡ pos 0
state_up_to [] x rest h = cond-false (tag_lt x.tag x.tag) (state_before x.after rest x.tag) (pos 0) (not_less x.tag)
state_up_to (z ∷ zs) x rest h =
    if_stays (tag_lt z.tag x.tag) (state_before z.after (zs ++ x ∷ rest) x.tag)
    (ap (λ q. state_before q (zs ++ x ∷ rest) x.tag) h.0 ∙ state_up_to zs x rest h.1)

state_stays : (xs : List Firing) (t : Tag) → Each Stays xs → state_before (pos 0) xs t ≡ pos 0
state_stays [] t h = refl
state_stays (x ∷ xs) t h = if_stays (tag_lt x.tag t) (state_before x.after xs t) (ap (λ q. state_before q xs t) h.0 ∙ state_stays xs t h.1)

each_push : {X : Type 0} (P : X → Type 0) (xs : List X) (x : X) → Each P xs → P x → Each P (xs ++ x ∷ [])
each_push P [] x h p = (p, tt)
each_push P (y ∷ ys) x h p = (h.0, each_push P ys x h.1 p)

module _ (g : Graph) (given : Values) (f : Firings) (behaves : Behaves g given Everywhere f) where
  -- a firing does what comes to its unit
  pub record Reacts (u : Unit) (x : Firing) : Type 0 where
    pub inputs : x.inputs ≡ unit_inputs g (comes g given f) u x.tag
    pub present : any_present x.inputs ≡ true
    pub before : x.before ≡ state_before (first_state (kind_of g u.actor)) (f u) x.tag
    pub after : x.after ≡ (fired (kind_of g u.actor) x.before x.inputs).state

  pub reacts : (u : Unit) (x : Firing) → IsIn x (f u) → Reacts u x
  reacts u x mem =
      let found = when_found (any_present (unit_inputs g (comes g given f) u x.tag)) _ x (sym (behaves.reacts u x.tag tt) ∙ rising_at (f u) x (behaves.rising u) mem) in
      let is = same_some _ x found.1 in
      let ins : unit_inputs g (comes g given f) u x.tag ≡ x.inputs = ap (λ (y : Firing). y.inputs) is in
      let was : state_before (first_state (kind_of g u.actor)) (f u) x.tag ≡ x.before = ap (λ (y : Firing). y.before) is in
      record {
        inputs = sym ins;
        present = ap any_present (sym ins) ∙ found.0;
        before = sym was;
        after = sym (ap (λ (y : Firing). y.after) is) ∙ ap₂ (λ q i. (fired (kind_of g u.actor) q i).state) was ins;
      }

  lanes_from : (u : Unit) (cells : List ℕ) → kind_of g u.actor ≡ Lanes cells → (zs rest : List Firing) → f u ≡ zs ++ rest → ((x : Firing) → IsIn x rest → IsIn x (f u)) → Each Stays zs → Each Stays (f u)
  lanes_from u cells lanes zs [] e sub h = subst (Each Stays) (sym (e ∙ append-nil zs)) h
  lanes_from u cells lanes zs (x ∷ rest) e sub h =
      let r = reacts u x (sub x (inl refl)) in
      let stays : Stays x =
      r.after ∙ ap (λ k. (fired k x.before x.inputs).state) lanes
      ∙ r.before ∙ ap₂ (λ k l. state_before (first_state k) l x.tag) lanes e ∙ state_up_to zs x rest h in
      lanes_from u cells lanes (zs ++ x ∷ []) rest (e ∙ sym (append_assoc zs (x ∷ []) rest)) (λ y m. sub y (inr m)) (each_push Stays zs x h stays)

  lanes_state : (u : Unit) (cells : List ℕ) → kind_of g u.actor ≡ Lanes cells → (x : Firing) → IsIn x (f u) → x.before ≡ pos 0
  lanes_state u cells lanes x mem =
      (reacts u x mem).before ∙ ap (λ k. state_before (first_state k) (f u) x.tag) lanes
      ∙ state_stays (f u) x.tag (lanes_from u cells lanes [] (f u) refl (λ y m. m) tt)

  module _ (tasks : List Task) (claimed : (u : Unit) → filter_map (of_unit g u) tasks ≡ f u) where
    -- the firing of a task is one of its unit
    pub fires : (t : Task) → IsIn t tasks → IsIn (firing_by g t) (f (unit_of g t))
    fires t mem =
        subst (IsIn (firing_by g t)) (claimed (unit_of g t))
        (in_values (of_unit g (unit_of g t)) tasks t (firing_by g t) mem (when-true (same_part (unit_of g t) (unit_of g t)) (Some (firing_by g t)) (same_part-refl (unit_of g t))))

    -- and each firing is a task's
    pub fired_by : (u : Unit) (x : Firing) → IsIn x (f u) → (t : Task) × IsIn t tasks × (unit_of g t ≡ u) × (firing_by g t ≡ x)
    fired_by u x mem =
        let (t, at, is) = value_from (of_unit g u) tasks x (subst (IsIn x) (sym (claimed u)) mem) in
        let found = when_found (same_part (unit_of g t) u) (Some (firing_by g t)) x is in
        (t, at, same_part-true (unit_of g t) u found.0, same_some (firing_by g t) x found.1)

    pub has_input : (t : Task) → IsIn t tasks → HasInput t
    has_input t mem =
        let r = reacts (unit_of g t) (firing_by g t) (fires t mem) in
        record { ports = subst (λ is. is ≡ eight (λ p. at_port is p)) (sym r.inputs) refl; present = r.present }

    -- an input of a task is one of its unit
    pub own_input : (t : Task) → IsIn t tasks → (p : ℕ) (v : ℤ) → p < 8 → at_port t.inputs p ≡ Some v → input_group (kind_of g t.actor) p ≡ (unit_of g t).group
    own_input t mem p v lt at =
        let r = reacts (unit_of g t) (firing_by g t) (fires t mem) in
        let here : when (input_group (kind_of g t.actor) p == (unit_of g t).group) (comes g given f t.actor p t.tag) ≡ Some v =
        sym (at_eight (λ q. when (input_group (kind_of g t.actor) q == (unit_of g t).group) (comes g given f t.actor q t.tag)) p lt) ∙ ap (λ is. at_port is p) (sym r.inputs) ∙ at in
        eqb-true (input_group (kind_of g t.actor) p) (unit_of g t).group (when_found (input_group (kind_of g t.actor) p == (unit_of g t).group) (comes g given f t.actor p t.tag) v here).0

    -- tasks of one unit and tag have the same firing
    pub same_firing : (x y : Task) → IsIn x tasks → IsIn y tasks → AreOne x y → (unit_of g x).group ≡ (unit_of g y).group → firing_by g x ≡ firing_by g y
    same_firing x y mx my one group =
        let u : unit_of g x ≡ unit_of g y = part_from (unit_of g x) (unit_of g y) one.actor group in
        same_some (firing_by g x) (firing_by g y)
        (sym (rising_at (f (unit_of g x)) (firing_by g x) (behaves.rising (unit_of g x)) (fires x mx))
        ∙ ap₂ (λ v t. firing_at (f v) t) u one.tag
        ∙ rising_at (f (unit_of g y)) (firing_by g y) (behaves.rising (unit_of g y)) (fires y my))

    group_at : (x y : Task) → AreOne x y → (p : ℕ) → input_group (kind_of g x.actor) p ≡ input_group (kind_of g y.actor) p
    group_at x y one p = ap (λ a. input_group (kind_of g a) p) one.actor

    pub agree : (x y : Task) → IsIn x tasks → IsIn y tasks → AreOne x y → (p : ℕ) (v w : ℤ) → p < 8 → at_port x.inputs p ≡ Some v → at_port y.inputs p ≡ Some w → v ≡ w
    agree x y mx my one p v w lt hx hy =
        let same = same_firing x y mx my one (sym (own_input x mx p v lt hx) ∙ group_at x y one p ∙ own_input y my p w lt hy) in
        same_some v w (sym hx ∙ ap (λ (z : Firing). at_port z.inputs p) same ∙ hy)

    pub same_state : (x y : Task) → IsIn x tasks → IsIn y tasks → AreOne x y → x.state ≡ y.state
    same_state x y mx my one =
        ⊎_elim
        (λ (all : (p q : ℕ) → input_group (kind_of g x.actor) p ≡ input_group (kind_of g x.actor) q).
        let same = same_firing x y mx my one (all (first_port x.inputs) (first_port y.inputs) ∙ group_at x y one (first_port y.inputs)) in
        ap (λ (z : Firing). z.before) same)
        (λ (lanes : (cells : List ℕ) × (kind_of g x.actor ≡ Lanes cells)).
        lanes_state (unit_of g x) lanes.0 lanes.1 (firing_by g x) (fires x mx)
        ∙ sym (lanes_state (unit_of g y) lanes.0 (ap (kind_of g) (sym one.actor) ∙ lanes.1) (firing_by g y) (fires y my)))
        (one_group (kind_of g x.actor))
