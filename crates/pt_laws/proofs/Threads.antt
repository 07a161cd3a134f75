-- The firings of one unit hang together: each takes up the state that the one before left.
use Rattle.std.proofs.Common.{◌≡◌, ℕ, ◌==◌, ◌⊎◌, Bool, true, false, List, [], ◌∷◌, ◌++◌, Option, Some, None, ℤ, refl, sym, ap, ap₂, subst, ◌∙◌, inl, inr, ⊎_elim}
use Rattle.std.specs.Prelude.{⊤}
use Rattle.std.proofs.lemmas.Bool.{cases_Bool, cond-true, cond-false}
use Rattle.pt_tags.specs.declared.tag.Tag.{Tag}
use Rattle.pt_types.specs.declared.graph.Graph.{Graph}
use Rattle.pt_types.specs.declared.kind.Kind.{Kind}
use Rattle.pt_types.specs.declared.kind.Kind.TheVariants.{Lanes}
use Rattle.pt_types.specs.declared.graph.Unit.{Unit}
use Rattle.pt_tags.specs.Tags.{Before, same_tag, tag_lt}
use Rattle.pt_semantics.specs.Lists.{or_else, IsIn}
use Rattle.pt_types.specs.Ports.{when}
use Rattle.pt_types.specs.Lookups.{kind_of}
use Rattle.pt_semantics.specs.Units.{unit_inputs}
use Rattle.pt_types.specs.Groups.{input_group}
use Rattle.pt_semantics.specs.Firing.{fired, any_present}
use Rattle.pt_semantics.specs.Meaning.{Values}
use Rattle.pt_semantics.specs.Behaviours.{Firing, Rising, firing_at, state_before, firing_of}
use Rattle.pt_semantics.specs.Parts.{narrowed}
use Rattle.pt_semantics.proofs.Tags.{Before-irrefl, cases_tags, same_tag-true, same_tag-before, tag_lt-true, tag_lt-from}
use Rattle.pt_semantics.proofs.Words.{when-true, firing_at_none, firing_at_head, firing_at_tail, past}
use Rattle.pt_semantics.proofs.Lookups.{none_some, same_some, or_else_none, first_of-append, eight_below, at_eight}

-- x is what this kind does from state q with the inputs of this group
pub record IsFiring (kind : Kind) (group : ℕ) (q : ℤ) (x : Firing) : Type 0 where
  pub before : x.before ≡ q
  pub after : x.after ≡ (fired kind q x.inputs).state
  pub outputs : x.outputs ≡ (fired kind q x.inputs).outputs
  pub present : any_present x.inputs ≡ true
  pub shape : narrowed kind group x.inputs ≡ x.inputs

abbrev pub Threaded : Kind → ℕ → ℤ → List Firing → Type 0
Threaded kind group q [] = ⊤
Threaded kind group q (x ∷ xs) = IsFiring kind group q x × Threaded kind group x.after xs

abbrev pub last_state : ℤ → List Firing → ℤ
last_state q [] = q
last_state q (x ∷ xs) = last_state x.after xs

pub threaded_push : (kind : Kind) (group : ℕ) (q : ℤ) (xs : List Firing) (x : Firing) → Threaded kind group q xs → IsFiring kind group (last_state q xs) x → Threaded kind group q (xs ++ x ∷ [])
threaded_push kind group q [] x t f = (f, tt)
threaded_push kind group q (y ∷ xs) x t f = (t.0, threaded_push kind group y.after xs x t.1 f)

pub threaded_last : (kind : Kind) (group : ℕ) (q : ℤ) (xs : List Firing) (x : Firing) → Threaded kind group q (xs ++ x ∷ []) → IsFiring kind group (last_state q xs) x
threaded_last kind group q [] x t = t.0
threaded_last kind group q (y ∷ xs) x t = threaded_last kind group y.after xs x t.1

pub threaded_front : (kind : Kind) (group : ℕ) (q : ℤ) (xs ys : List Firing) → Threaded kind group q (xs ++ ys) → Threaded kind group q xs
threaded_front kind group q [] ys t = tt
threaded_front kind group q (y ∷ xs) ys t = (t.0, threaded_front kind group y.after xs ys t.1)

pub last_push : (q : ℤ) (xs : List Firing) (x : Firing) → last_state q (xs ++ x ∷ []) ≡ x.after
last_push q [] x = refl
last_push q (y ∷ xs) x = last_push y.after xs x

-- where firings keep the state, it is the first one throughout
pub keeps_last : (kind : Kind) (group : ℕ) (q : ℤ) (xs : List Firing) → ((r : ℤ) (inputs : List (Option ℤ)) → (fired kind r inputs).state ≡ r) → Threaded kind group q xs → last_state q xs ≡ q
keeps_last kind group q [] keeps t = refl
keeps_last kind group q (x ∷ xs) keeps t = keeps_last kind group x.after xs keeps t.1 ∙ t.0.after ∙ keeps q x.inputs

pub threaded_at : (kind : Kind) (group : ℕ) (q : ℤ) (xs : List Firing) (t : Tag) (x : Firing) → Rising xs → Threaded kind group q xs → firing_at xs t ≡ Some x → IsFiring kind group (state_before q xs t) x × (x.tag ≡ t)
threaded_at kind group q [] t x r th h = absurd (none_some x h)
threaded_at kind group q (y ∷ xs) t x r th h =
    ⊎_elim
    (λ (e : y.tag ≡ t).
    let ex : y ≡ x = same_some y x (sym (firing_at_head y xs) ∙ ap (firing_at (y ∷ xs)) e ∙ h) in
    let at_start : state_before q (y ∷ xs) t ≡ q = cond-false (tag_lt y.tag t) (state_before y.after xs t) q (not_less y.tag t e) in
    (subst (λ z. IsFiring kind group z x) (sym at_start) (subst (λ z. IsFiring kind group q z) ex th.0), subst (λ (z : Firing). z.tag ≡ t) ex e))
    (λ (o : Before y.tag t ⊎ Before t y.tag).
    ⊎_elim
    (λ (l : Before y.tag t).
    let on : state_before q (y ∷ xs) t ≡ state_before y.after xs t = cond-true (tag_lt y.tag t) (state_before y.after xs t) q (tag_lt-from y.tag t l) in
    let rest = threaded_at kind group y.after xs t x r.1 th.1 (sym (firing_at_tail y xs t (same_tag-before y.tag t l)) ∙ h) in
    (subst (λ z. IsFiring kind group z x) (sym on) rest.0, rest.1))
    (λ (l : Before t y.tag). absurd (none_some x (sym (firing_at_none (y ∷ xs) t (past t y xs l r)) ∙ h)))
    o)
    (cases_tags y.tag t)
  where
    not_less : (a b : Tag) → a ≡ b → tag_lt a b ≡ false
    not_less a b e = ⊎_elim (λ (k : tag_lt a b ≡ true). absurd (Before-irrefl b (subst (λ z. Before z b) e (tag_lt-true a b k)))) (λ (k : tag_lt a b ≡ false). k) (cases_Bool (tag_lt a b))

-- such a firing is the reaction to its inputs
pub firing_is : (kind : Kind) (group : ℕ) (q : ℤ) (t : Tag) (x : Firing) (inputs : List (Option ℤ)) → IsFiring kind group q x → x.tag ≡ t → x.inputs ≡ inputs → Some x ≡ firing_of kind t q inputs
firing_is kind group q t x inputs f et ei =
    let here : Some x ≡ firing_of kind x.tag q x.inputs =
    sym (when-true (any_present x.inputs) (Some (record { tag = x.tag; inputs = x.inputs; before = q; after = (fired kind q x.inputs).state; outputs = (fired kind q x.inputs).outputs })) f.present
    ∙ (λ i. Some (record { tag = x.tag; inputs = x.inputs; before = sym f.before i; after = sym f.after i; outputs = sym f.outputs i }))) in
    here ∙ ap₂ (λ a b. firing_of kind a q b) et ei

-- a firing that is there is a member
pub firing_at_in : (xs : List Firing) (t : Tag) (x : Firing) → firing_at xs t ≡ Some x → IsIn x xs × (x.tag ≡ t)
firing_at_in [] t x h = absurd (none_some x h)
firing_at_in (y ∷ xs) t x h =
    ⊎_elim
    (λ (k : same_tag y.tag t ≡ true).
    let ey : y ≡ x = same_some y x (sym (ap (λ o. or_else o (firing_at xs t)) (when-true (same_tag y.tag t) (Some y) k)) ∙ h) in
    (inl (sym ey), subst (λ (z : Firing). z.tag ≡ t) ey (same_tag-true y.tag t k)))
    (λ (k : same_tag y.tag t ≡ false).
    let r = firing_at_in xs t x (sym (firing_at_tail y xs t k) ∙ h) in (inr r.0, r.1))
    (cases_Bool (same_tag y.tag t))

-- where no member has the tag there is none
pub firing_at_absent : (xs : List Firing) (t : Tag) → ((x : Firing) → IsIn x xs → x.tag ≡ t → ⊥) → firing_at xs t ≡ None
firing_at_absent [] t h = refl
firing_at_absent (x ∷ xs) t h =
    firing_at_tail x xs t (⊎_elim (λ (k : same_tag x.tag t ≡ true). absurd (h x (inl refl) (same_tag-true x.tag t k))) (λ (k : same_tag x.tag t ≡ false). k) (cases_Bool (same_tag x.tag t)))
    ∙ firing_at_absent xs t (λ y m. h y (inr m))

-- one firing more
pub firing_at_push : (xs : List Firing) (x : Firing) (t : Tag) → firing_at (xs ++ x ∷ []) t ≡ or_else (firing_at xs t) (when (same_tag x.tag t) (Some x))
firing_at_push xs x t = first_of-append (λ (y : Firing). when (same_tag y.tag t) (Some y)) xs (x ∷ []) ∙ ap (or_else (firing_at xs t)) (or_else_none (when (same_tag x.tag t) (Some x)))

-- an actor is one unit, or its firings keep the state
pub kind_cases : (k : Kind) → ((p o : ℕ) → input_group k p ≡ input_group k o) ⊎ ((q : ℤ) (inputs : List (Option ℤ)) → (fired k q inputs).state ≡ q)
kind_cases (Lanes cells) = inr (λ q inputs. refl)
kind_cases _ = inl (λ p o. refl)

when_twice : (b : Bool) (x : Option ℤ) → when b (when b x) ≡ when b x
when_twice true x = refl
when_twice false x = refl

-- a unit's inputs are its own
pub inputs_shape : (g : Graph) (values : Values) (u : Unit) (t : Tag) → narrowed (kind_of g u.actor) u.group (unit_inputs g values u t) ≡ unit_inputs g values u t
inputs_shape g values u t =
    eight_below _ _ (λ p lt.
    ap (when (input_group (kind_of g u.actor) p == u.group)) (at_eight (λ o. when (input_group (kind_of g u.actor) o == u.group) (values u.actor o t)) p lt)
    ∙ when_twice (input_group (kind_of g u.actor) p == u.group) (values u.actor p t))
