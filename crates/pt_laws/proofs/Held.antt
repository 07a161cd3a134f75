-- Between what came to a port and what waits there stands what was claimed.
use Rattle.std.proofs.Common.{◌≡◌, ℕ, ◌<◌, ◌==◌, ◌≢◌, Bool, true, false, not, ◌&&◌, [], Option, Some, None, ℤ, refl, sym, ap, ap₂, subst, ◌∙◌, ⊎_elim, eq-eqb}
use Rattle.std.proofs.lemmas.Bool.{and_left, and_right}
use Rattle.pt_tags.specs.declared.tag.Tag.{Tag}
use Rattle.pt_types.specs.declared.graph.Graph.{Graph}
use Rattle.pt_types.specs.declared.graph.Unit.{Unit}
use Rattle.pt_tags.specs.Tags.{Before, same_tag, plus}
use Rattle.pt_semantics.specs.Lists.{or_else, IsIn}
use Rattle.pt_types.specs.Ports.{when, at_port}
use Rattle.pt_types.specs.Lookups.{kind_of}
use Rattle.pt_semantics.specs.Units.{at_input, unit_inputs, same_part}
use Rattle.pt_types.specs.Groups.{input_group}
use Rattle.pt_semantics.specs.Meaning.{Values, added}
use Rattle.pt_semantics.specs.Behaviours.{Firing, Firings, firing_at}
use Rattle.pt_types.specs.declared.firing.Task.{Task}
use Rattle.pt_semantics.specs.Claiming.{without_unit}
use Rattle.pt_semantics.specs.History.{firing_by}
use Rattle.pt_semantics.proofs.Tags.{Before-irrefl, same_tag-true}
use Rattle.pt_semantics.proofs.Words.{when-true}
use Rattle.pt_semantics.proofs.Lookups.{none_some, same_some, or_else_none, or_else_found, at_eight, same_part_not, cases_part}
use Rattle.pt_semantics.proofs.Floor.{IsPast, plus_zero}
use Rattle.pt_semantics.proofs.Claiming.{more, more_same, more_other}
use Rattle.pt_laws.proofs.Threads.{firing_at_in, firing_at_push, firing_at_absent}

-- arr: all that came so far
pub record Held (g : Graph) (waits : Values) (c : Firings) (arr : Values) : Type 0 where
  pub fresh : (a p : ℕ) (t : Tag) → p < 8 → firing_at (c (at_input g a p)) t ≡ None → waits a p t ≡ arr a p t
  pub used : (a p : ℕ) (t : Tag) (x : Firing) → p < 8 → firing_at (c (at_input g a p)) t ≡ Some x → at_port x.inputs p ≡ arr a p t

-- nothing new comes where a unit has fired
abbrev pub IsNew : Graph → Firings → Values → Type 0
IsNew g c new = (a p : ℕ) (t : Tag) (x : Firing) → firing_at (c (at_input g a p)) t ≡ Some x → new a p t ≡ None

pub past_new : (g : Graph) (c : Firings) (new : Values) → IsPast g c new → IsNew g c new
past_new g c new past a p t x h = at (new a p t) refl
  where
    at : (o : Option ℤ) → new a p t ≡ o → new a p t ≡ None
    at None e = e
    at (Some v) e =
        let m = firing_at_in (c (at_input g a p)) t x h in
        let b : Before x.tag (plus t _) = past a p t v [] (at_input g a p) x e refl m.0 in
        absurd (Before-irrefl t (subst (λ z. Before z t) m.1 (subst (λ z. Before x.tag z) (plus_zero t) b)))

pub held_arrive : (g : Graph) (waits : Values) (c : Firings) (arr new : Values) → Held g waits c arr → IsNew g c new → Held g (added waits new) c (added arr new)
held_arrive g waits c arr new h past = record {
  fresh = λ a p t lt e. ap (λ o. or_else o (new a p t)) (h.fresh a p t lt e);
  used = λ a p t x lt e. h.used a p t x lt e ∙ sym (or_else_none (arr a p t)) ∙ ap (or_else (arr a p t)) (sym (past a p t x e));
}

or_else_both : {X : Type 0} (x y : Option X) → or_else x y ≡ None → (x ≡ None) × (y ≡ None)
or_else_both None y h = (refl, h)
or_else_both (Some x) y h = absurd (none_some x (sym h))

when_off : {X : Type 0} (b : Bool) (x : X) → when b (Some x) ≡ None → b ≡ false
when_off true x h = absurd (none_some x (sym h))
when_off false x h = refl

not-is : (b : Bool) → b ≡ false → not b ≡ true
not-is b e = ap not e

pub held_claim : (g : Graph) (waits : Values) (c : Firings) (arr : Values) (w : Unit) (task : Task) → Held g waits c arr → ((x : Firing) → IsIn x (c w) → Before x.tag task.tag) → task.inputs ≡ unit_inputs g waits w task.tag → Held g (without_unit g waits w task.tag) (more c w (firing_by g task)) arr
held_claim g waits c arr w task h below inputs = record {
  fresh = λ a p t lt e.
      ⊎_elim
      (λ (here : w ≡ at_input g a p).
      let parts = or_else_both (firing_at (c (at_input g a p)) t) _ (sym (firing_at_push (c (at_input g a p)) (firing_by g task) t) ∙ ap (λ l. firing_at l t) (sym (more_same c w (at_input g a p) (firing_by g task) here)) ∙ e) in
      let off : same_tag task.tag t ≡ false = when_off (same_tag task.tag t) (firing_by g task) parts.1 in
      when-true (not (same_part (at_input g a p) w && same_tag task.tag t)) (waits a p t) (not-is _ (and_right (same_part (at_input g a p) w) (same_tag task.tag t) off))
      ∙ h.fresh a p t lt parts.0)
      (λ (there : w ≢ at_input g a p).
      when-true (not (same_part (at_input g a p) w && same_tag task.tag t)) (waits a p t) (not-is _ (and_left (same_part (at_input g a p) w) (same_tag task.tag t) (same_part_not (at_input g a p) w (λ z. there (sym z)))))
      ∙ h.fresh a p t lt (ap (λ l. firing_at l t) (sym (more_other c w (at_input g a p) (firing_by g task) there)) ∙ e))
      (cases_part w (at_input g a p));
  used = λ a p t x lt e.
      ⊎_elim
      (λ (here : w ≡ at_input g a p).
      ⊎_elim
      (λ (old : firing_at (c (at_input g a p)) t ≡ Some x). h.used a p t x lt old)
      (λ (new : when (same_tag task.tag t) (Some (firing_by g task)) ≡ Some x). claimed_now a p t x lt here new)
      (or_else_found (firing_at (c (at_input g a p)) t) _ x
      (sym (firing_at_push (c (at_input g a p)) (firing_by g task) t) ∙ ap (λ l. firing_at l t) (sym (more_same c w (at_input g a p) (firing_by g task) here)) ∙ e)))
      (λ (there : w ≢ at_input g a p).
      h.used a p t x lt (ap (λ l. firing_at l t) (sym (more_other c w (at_input g a p) (firing_by g task) there)) ∙ e))
      (cases_part w (at_input g a p));
}
  where
    on : (b : Bool) (x : Firing) → when b (Some (firing_by g task)) ≡ Some x → (b ≡ true) × (firing_by g task ≡ x)
    on true x z = (refl, same_some (firing_by g task) x z)
    on false x z = absurd (none_some x z)

    claimed_now : (a p : ℕ) (t : Tag) (x : Firing) → p < 8 → w ≡ at_input g a p → when (same_tag task.tag t) (Some (firing_by g task)) ≡ Some x → at_port x.inputs p ≡ arr a p t
    claimed_now a p t x lt here z =
        let is = on (same_tag task.tag t) x z in
        let et : task.tag ≡ t = same_tag-true task.tag t is.0 in
        let actor : w.actor ≡ a = ap (λ (v : Unit). v.actor) here in
        let group : w.group ≡ input_group (kind_of g a) p = ap (λ (v : Unit). v.group) here in
        let none : firing_at (c w) task.tag ≡ None = firing_at_absent (c w) task.tag (λ y m ey. Before-irrefl task.tag (subst (λ v. Before v task.tag) ey (below y m))) in
        let none_here : firing_at (c (at_input g a p)) t ≡ None = subst (λ v. firing_at (c v) t ≡ None) here (subst (λ v. firing_at (c w) v ≡ None) et none) in
        let kinds : input_group (kind_of g w.actor) p ≡ w.group = ap (λ b. input_group (kind_of g b) p) actor ∙ sym group in
        ap (λ (v : Firing). at_port v.inputs p) (sym is.1)
        ∙ ap (λ l. at_port l p) inputs
        ∙ at_eight (λ o. when (input_group (kind_of g w.actor) o == w.group) (waits w.actor o task.tag)) p lt
        ∙ when-true (input_group (kind_of g w.actor) p == w.group) (waits w.actor p task.tag) (eq-eqb _ _ kinds)
        ∙ ap₂ (λ b v. waits b p v) actor et
        ∙ h.fresh a p t lt none_here
