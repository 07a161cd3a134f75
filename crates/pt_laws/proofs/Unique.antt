-- The global list makes one list of firings.
use Rattle.std.proofs.Common.{◌≡◌, ℕ, ◌≤◌, List, [], ◌∷◌, Some, ℤ, arith, refl, sym, ap, ap₂, subst, ◌∙◌}
use Rattle.pt_types.specs.declared.graph.Graph.{Graph}
use Rattle.pt_tags.specs.declared.tag.Tag.{Tag}
use Rattle.pt_types.specs.Lookups.{kind_of}
use Rattle.pt_semantics.specs.Firing.{fired, any_present}
use Rattle.pt_semantics.specs.Meaning.{World, ActorFiring, waiting, after_firing, Fires, Runs, at_start}
use Rattle.pt_laws.specs.MeaningTheorems.{MeaningIsOne}
use Rattle.pt_semantics.proofs.Lookups.{none_some, eight_found}

both_first : (t u : Tag) (a b ra rb : ℕ) →
    ((t.time ≤ u.time) × (u.time ≤ t.time → (t.step ≤ u.step) × (u.step ≤ t.step → (ra ≤ rb) × (rb ≤ ra → a ≤ b)))) →
    ((u.time ≤ t.time) × (t.time ≤ u.time → (u.step ≤ t.step) × (t.step ≤ u.step → (rb ≤ ra) × (ra ≤ rb → b ≤ a)))) →
    (t.time ≡ u.time) × (t.step ≡ u.step) × (a ≡ b)
both_first t u a b ra rb h k = (grind arith, grind arith, grind arith)

waits_for : (g : Graph) (rank : ℕ → ℕ) (w : World) (x : ActorFiring) → Fires g rank w x → (p : ℕ) × (v : ℤ) × (w.waits x.actor p x.tag ≡ Some v)
waits_for g rank w x f = let at = eight_found (λ p. w.waits x.actor p x.tag) (ap any_present (sym f.inputs) ∙ f.present) in (at.0, at.1, at.3)

same_firing : (g : Graph) (rank : ℕ → ℕ) (w : World) (x y : ActorFiring) → Fires g rank w x → Fires g rank w y → x ≡ y
same_firing g rank w x y f h =
    let at_x = waits_for g rank w x f in
    let at_y = waits_for g rank w y h in
    let keys = both_first x.tag y.tag x.actor y.actor (rank x.actor) (rank y.actor) (f.first y.actor at_y.0 y.tag at_y.1 at_y.2) (h.first x.actor at_x.0 x.tag at_x.1 at_x.2) in
    let tag : x.tag ≡ y.tag = λ i. record { time = keys.0 i; step = keys.1 i } in
    let actor : x.actor ≡ y.actor = keys.2 in
    let inputs : x.inputs ≡ y.inputs = f.inputs ∙ ap₂ (λ a t. waiting w.waits a t) actor tag ∙ sym h.inputs in
    let before : x.before ≡ y.before = f.before ∙ ap w.states actor ∙ sym h.before in
    let after : x.after ≡ y.after = f.after ∙ (λ i. (fired (kind_of g (actor i)) (before i) (inputs i)).state) ∙ sym h.after in
    let outputs : x.outputs ≡ y.outputs = f.outputs ∙ (λ i. (fired (kind_of g (actor i)) (before i) (inputs i)).outputs) ∙ sym h.outputs in
    λ i. record { actor = actor i; tag = tag i; inputs = inputs i; before = before i; after = after i; outputs = outputs i }

same_runs : (g : Graph) (rank : ℕ → ℕ) (xs ys : List ActorFiring) (w : World) → Runs g rank w xs → Runs g rank w ys → xs ≡ ys
same_runs g rank [] [] w r q = refl
same_runs g rank [] (y ∷ ys) w r (f, q) = let at = waits_for g rank w y f in absurd (none_some at.1 (sym (r y.actor at.0 y.tag) ∙ at.2))
same_runs g rank (x ∷ xs) [] w (f, r) q = let at = waits_for g rank w x f in absurd (none_some at.1 (sym (q x.actor at.0 x.tag) ∙ at.2))
same_runs g rank (x ∷ xs) (y ∷ ys) w (f, r) (h, q) =
    let e : x ≡ y = same_firing g rank w x y f h in
    ap₂ (λ a b. a ∷ b) e (same_runs g rank xs ys (after_firing g w x) r (subst (λ z. Runs g rank (after_firing g w z) ys) (sym e) q))

pub meaning_is_one : MeaningIsOne
meaning_is_one g rank rows xs ys r q = same_runs g rank xs ys (at_start g rows) r q
