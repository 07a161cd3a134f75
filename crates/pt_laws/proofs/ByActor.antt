-- Confluence, actor by actor.
use Rattle.std.proofs.Common.{◌≡◌, ℕ, ◌<◌, ◌==◌, true, List, [], ◌∷◌, Option, Some, ℤ, refl, sym, ap, ap₂, subst, ◌∙◌, ⊎_elim, eq-eqb, eqb-true}
use Rattle.pt_types.specs.declared.graph.Graph.{Graph}
use Rattle.pt_types.specs.declared.kind.Kind.{Kind}
use Rattle.pt_types.specs.declared.graph.Unit.{Unit}
use Rattle.pt_types.specs.Ports.{when, eight, at_port}
use Rattle.pt_semantics.specs.Lists.{IsIn, Each}
use Rattle.pt_types.specs.Lookups.{kind_of}
use Rattle.pt_semantics.specs.Units.{at_input}
use Rattle.pt_types.specs.Groups.{input_group}
use Rattle.pt_semantics.specs.Firing.{any_present, fired}
use Rattle.pt_types.specs.declared.rows.Row.{Row}
use Rattle.pt_semantics.specs.Meaning.{World, ActorFiring, IsMeaning, Runs, after_firing}
use Rattle.pt_semantics.specs.Parts.{narrowed, parts, IsPartOf, AreTheFirings}
use Rattle.pt_semantics.specs.Sorted.{IsFull}
use Rattle.pt_laws.specs.HistoryTheorems.{ConfluenceByActor}
use Rattle.pt_semantics.specs.Linked.{all_claims}
use Rattle.pt_semantics.specs.Behaviours.{Firings}
use Rattle.pt_semantics.proofs.Words.{when-true}
use Rattle.pt_semantics.proofs.Lookups.{Each-in, eight_below, at_eight, eight_found, eight_present, when_found}
use Rattle.pt_laws.proofs.Threads.{kind_cases}
use Rattle.pt_laws.proofs.Narrow.{narrowed_whole, part_output}
use Rattle.pt_laws.proofs.MeaningWalk.{the_part, narrow, HasPart, in_parts, part_in}
use Rattle.pt_laws.proofs.Confluent.{confluence}

pub full_runs : (g : Graph) (rank : ℕ → ℕ) (xs : List ActorFiring) (w : World) → Runs g rank w xs → Each (IsFull g) xs
full_runs g rank [] w runs = tt
full_runs g rank (x ∷ xs) w (fires, rest) = (
  record {
    ports = fires.inputs ∙ sym (eight_below _ _ (λ p lt. at_eight (λ q. w.waits x.actor q x.tag) p lt)) ∙ ap (λ i. eight (λ p. at_port i p)) (sym fires.inputs);
    present = fires.present;
    after = fires.after;
    outputs = fires.outputs;
  },
  full_runs g rank xs (after_firing g w x) rest,
)

pub part_is : (g : Graph) (u : Unit) (z : ActorFiring) → IsFull g z → HasPart g u z → IsPartOf g u (the_part (kind_of g u.actor) z (narrow g u z)) z
part_is g u z full has = record {
  actor = has.actor;
  tag = refl;
  inputs = refl;
  before = refl;
  after =
      ⊎_elim
      (λ (one : (p o : ℕ) → input_group k p ≡ input_group k o). ap (λ i. (fired k z.before i).state) (whole one))
      (λ (keeps : (q : ℤ) (inputs : List (Option ℤ)) → (fired k q inputs).state ≡ q). keeps z.before (narrow g u z) ∙ sym (keeps z.before z.inputs))
      (kind_cases k)
      ∙ ap (λ a. (fired (kind_of g a) z.before z.inputs).state) (sym has.actor) ∙ sym full.after;
  outputs = λ o same.
      ap₂ (λ j i. at_port (fired k z.before (narrowed k j i)).outputs o) (sym same) full.ports
      ∙ part_output k z.before (λ p. at_port z.inputs p) o
      ∙ ap (λ i. at_port (fired k z.before i).outputs o) (sym full.ports)
      ∙ ap (λ a. at_port (fired (kind_of g a) z.before z.inputs).outputs o) (sym has.actor) ∙ ap (λ l. at_port l o) (sym full.outputs);
}
  where
    k : Kind
    k = kind_of g u.actor

    whole : ((p o : ℕ) → input_group k p ≡ input_group k o) → narrow g u z ≡ z.inputs
    whole one =
        let at = eight_found (λ p. when (input_group k p == u.group) (at_port z.inputs p)) has.present in
        let group : input_group k at.0 ≡ u.group = eqb-true _ u.group (when_found (input_group k at.0 == u.group) (at_port z.inputs at.0) at.1 at.3).0 in
        ap (narrowed k u.group) full.ports ∙ narrowed_whole k u.group (λ p. at_port z.inputs p) (λ p. one p at.0 ∙ group) ∙ sym full.ports

has_from_port : (g : Graph) (z : ActorFiring) (p : ℕ) (v : ℤ) → p < 8 → at_port z.inputs p ≡ Some v → HasPart g (at_input g z.actor p) z
has_from_port g z p v lt h =
    let u : Unit = at_input g z.actor p in
    let here : any_present (narrow g u z) ≡ true =
    eight_present (λ q. when (input_group (kind_of g z.actor) q == u.group) (at_port z.inputs q)) p v lt (when-true (u.group == u.group) (at_port z.inputs p) (eq-eqb u.group u.group refl) ∙ h) in
    record {
      actor = refl;
      present = here;
      is = when-true (z.actor == z.actor) _ (eq-eqb z.actor z.actor refl) ∙ when-true (any_present (narrow g u z)) (Some (the_part (kind_of g z.actor) z (narrow g u z))) here;
    }

-- where the claims are the meaning's parts they are so actor by actor
pub by_parts : (g : Graph) (rank : ℕ → ℕ) (rows : ℕ → List Row) (claimed : Firings) (xs : List ActorFiring) → IsMeaning g rank rows xs → ((u : Unit) → claimed u ≡ parts g xs u) → AreTheFirings g claimed xs
by_parts g rank rows claimed xs meaning same =
    let full = full_runs g rank xs _ meaning in
    record {
      claims = λ u x mem.
          let from = in_parts g u xs x (subst (IsIn x) (same u) mem) in
          (from.0, from.1, subst (λ y. IsPartOf g u y from.0) (sym from.3) (part_is g u from.0 (Each-in (IsFull g) xs full from.0 from.1) from.2));
      firings = λ z p v mem lt h.
          let u : Unit = at_input g z.actor p in
          let has = has_from_port g z p v lt h in
          (the_part (kind_of g z.actor) z (narrow g u z), subst (IsIn (the_part (kind_of g z.actor) z (narrow g u z))) (sym (same u)) (part_in g u xs z mem has), part_is g u z (Each-in (IsFull g) xs full z mem) has);
    }

pub by_actor : ConfluenceByActor
by_actor g level rank rows histories ends xs wired levels ranks fits legal finished linked meaning =
    by_parts g rank rows (all_claims g histories) xs meaning (confluence g level rank rows histories ends xs wired levels ranks fits legal finished linked meaning)
