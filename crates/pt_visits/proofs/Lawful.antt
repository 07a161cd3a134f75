-- The actors of a lawful graph are of lawful kinds.
use Rattle.std.proofs.Common.{◌≡◌, ℕ, zero, suc, subst, true, ◌&&◌, ◌==◌, nat_lt, List, [], ◌∷◌, Some}
use Rattle.std.specs.Prelude.{slice_get}
use Rattle.std.specs.List.{list_all}
use Rattle.std.proofs.lemmas.Bool.{and_parts}
use Rattle.pt_types.specs.declared.graph.Actor.{Actor}
use Rattle.pt_types.specs.Kinds.{kind_is_lawful, visible_inputs, visible_outputs}
use Rattle.pt_types.specs.Names.{is_name}
use Rattle.pt_types.specs.Lawful.{actor_is_lawful}

kind_of_one : (n : ℕ) (a : Actor) → actor_is_lawful n a ≡ true → kind_is_lawful a.kind ≡ true
kind_of_one n a h =
    let four = and_parts (is_name a.name && nat_lt a.platform n && kind_is_lawful a.kind && a.inputs == visible_inputs a.kind) (a.outputs == visible_outputs a.kind) h in
    let three = and_parts (is_name a.name && nat_lt a.platform n && kind_is_lawful a.kind) (a.inputs == visible_inputs a.kind) four.0 in
    (and_parts (is_name a.name && nat_lt a.platform n) (kind_is_lawful a.kind) three.0).1

pub lawful_kind : (n : ℕ) (actors : List Actor) (k : ℕ) (a : Actor) → list_all (actor_is_lawful n) actors ≡ true → slice_get actors k ≡ Some a → kind_is_lawful a.kind ≡ true
lawful_kind n [] k a h at = cc
lawful_kind n (x ∷ xs) zero a h at =
    let same : x ≡ a = cc in
    kind_of_one n a (subst (λ (y : Actor). actor_is_lawful n y ≡ true) same (and_parts (actor_is_lawful n x) (list_all (actor_is_lawful n) xs) h).0)
lawful_kind n (x ∷ xs) (suc k) a h at = lawful_kind n xs k a (and_parts (actor_is_lawful n x) (list_all (actor_is_lawful n) xs) h).1 at
