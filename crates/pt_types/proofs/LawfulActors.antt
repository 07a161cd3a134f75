-- The actors of a lawful graph, and what stands for an actor past their end.
use Rattle.std.proofs.Common.{◌≡◌, ℕ, ◌<◌, ◌≤◌, true, ◌&&◌, ◌==◌, nat_lt, length, refl, sym, subst, ⊎_elim}
use Rattle.std.proofs.lemmas.Bool.{and_parts, ltb-true, eqb-true, cases_lt}
use Rattle.std.proofs.lemmas.Option.{slice_get-get_or}
use Rattle.std.proofs.lemmas.List.{get_or_past}
use Rattle.pt_types.specs.declared.graph.Graph.{Graph}
use Rattle.pt_types.specs.declared.graph.Actor.{Actor}
use Rattle.pt_types.specs.Names.{is_name}
use Rattle.pt_types.specs.Kinds.{kind_is_lawful, visible_inputs, visible_outputs}
use Rattle.pt_types.specs.Groups.{actor_at, no_actor}
use Rattle.pt_types.specs.Lawful.{IsLawful, actor_is_lawful}
use Rattle.pt_types.proofs.Distinct.{all_at}

-- an actor of a lawful graph
pub record IsActor (platforms : ℕ) (a : Actor) : Type 0 where
  pub platform : a.platform < platforms
  pub kind : kind_is_lawful a.kind ≡ true
  pub inputs : a.inputs ≡ visible_inputs a.kind

lawful_actor : (n : ℕ) (a : Actor) → actor_is_lawful n a ≡ true → IsActor n a
lawful_actor n a h =
    let four = and_parts (is_name a.name && nat_lt a.platform n && kind_is_lawful a.kind && a.inputs == visible_inputs a.kind) (a.outputs == visible_outputs a.kind) h in
    let three = and_parts (is_name a.name && nat_lt a.platform n && kind_is_lawful a.kind) (a.inputs == visible_inputs a.kind) four.0 in
    let two = and_parts (is_name a.name && nat_lt a.platform n) (kind_is_lawful a.kind) three.0 in
    let one = and_parts (is_name a.name) (nat_lt a.platform n) two.0 in
    record { platform = ltb-true a.platform n one.1; kind = two.1; inputs = eqb-true a.inputs (visible_inputs a.kind) three.1 }

pub actor_of : (g : Graph) (a : ℕ) → IsLawful g → a < length g.actors → IsActor (length g.platforms) (actor_at g.actors a)
actor_of g a lawful less = lawful_actor (length g.platforms) (actor_at g.actors a) (all_at (actor_is_lawful (length g.platforms)) g.actors a (actor_at g.actors a) lawful.actors (slice_get-get_or g.actors a no_actor less))

past_end : (g : Graph) (a : ℕ) → length g.actors ≤ a → no_actor ≡ actor_at g.actors a
past_end g a more = sym (get_or_past g.actors a no_actor more)

pub any_kind : (g : Graph) (a : ℕ) → IsLawful g → kind_is_lawful (actor_at g.actors a).kind ≡ true
any_kind g a lawful = ⊎_elim (λ (less : a < length g.actors). (actor_of g a lawful less).kind) (λ (more : length g.actors ≤ a). subst (λ (x : Actor). kind_is_lawful x.kind ≡ true) (past_end g a more) refl) (cases_lt a (length g.actors))

pub any_home : (g : Graph) (a : ℕ) → IsLawful g → (actor_at g.actors a).platform < length g.platforms
any_home g a lawful = ⊎_elim (λ (less : a < length g.actors). (actor_of g a lawful less).platform) (λ (more : length g.actors ≤ a). subst (λ (x : Actor). x.platform < length g.platforms) (past_end g a more) lawful.some_platform) (cases_lt a (length g.actors))
