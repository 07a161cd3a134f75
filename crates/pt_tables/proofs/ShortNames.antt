-- Names are short.
use Rattle.std.proofs.Common.{◌≡◌, ℕ, ◌≤◌, List, [], Option, Some, None, length, true, sym, subst, ⊎_elim, arith}
use Rattle.std.specs.Prelude.{◌==◌, ◌&&◌, nat_le, nat_lt, slice_index}
use Rattle.std.specs.List.{list_all}
use Rattle.std.proofs.lemmas.Bool.{and_parts, leb-true}
use Rattle.std.proofs.lemmas.Option.{get_or_from_slice_get, slice_get_cases}
use Rattle.std.proofs.Math.ListN.{get_or-eq_default}
use Rattle.pt_types.specs.declared.graph.Actor.{Actor}
use Rattle.pt_types.specs.declared.graph.Graph.{Graph}
use Rattle.pt_types.specs.declared.graph.Link.{Link}
use Rattle.pt_types.specs.Groups.{no_actor}
use Rattle.pt_types.specs.Kinds.{kind_is_lawful, visible_inputs, visible_outputs}
use Rattle.pt_types.specs.Lawful.{IsLawful, actor_is_lawful}
use Rattle.pt_types.specs.Lookups.{actor_name, platform_name}
use Rattle.pt_types.specs.Names.{in_name, is_letter, is_name}
use Rattle.pt_types.proofs.Distinct.{all_at}
use Rattle.pt_tables.specs.Names.{HasShortNames, receiver_name, sender_name}

short_name : (n : List ℕ) → is_name n ≡ true → length n ≤ 32
short_name n h =
    let three = and_parts (nat_le 1 (length n) && nat_le (length n) 32 && is_letter (slice_index n 0)) (list_all in_name n) h in
    let two = and_parts (nat_le 1 (length n) && nat_le (length n) 32) (is_letter (slice_index n 0)) three.0 in
    leb-true (length n) 32 (and_parts (nat_le 1 (length n)) (nat_le (length n) 32) two.0).1

named : (platforms : ℕ) (a : Actor) → actor_is_lawful platforms a ≡ true → is_name a.name ≡ true
named platforms a h =
    let four = and_parts (is_name a.name && nat_lt a.platform platforms && kind_is_lawful a.kind && a.inputs == visible_inputs a.kind) (a.outputs == visible_outputs a.kind) h in
    let three = and_parts (is_name a.name && nat_lt a.platform platforms && kind_is_lawful a.kind) (a.inputs == visible_inputs a.kind) four.0 in
    let two = and_parts (is_name a.name && nat_lt a.platform platforms) (kind_is_lawful a.kind) three.0 in
    (and_parts (is_name a.name) (nat_lt a.platform platforms) two.0).0

-- a lawful graph has short names
pub short_names : (g : Graph) → IsLawful g → HasShortNames g
short_names g lawful = record { platforms = of_platform; actors = of_actor }
  where
    of_platform : (p : ℕ) → length (platform_name g p) ≤ 32
    of_platform p =
        ⊎_elim
        (λ there. let (n, lt, at, is) = there in subst (λ m. length m ≤ 32) (sym (get_or_from_slice_get g.platforms p n [] at)) (short_name n (all_at is_name g.platforms p n lawful.platforms at)))
        (λ past. subst (λ m. length m ≤ 32) (sym (get_or-eq_default g.platforms [] past.0)) (omega arith))
        (slice_get_cases g.platforms p).1

    of_actor : (a : ℕ) → length (actor_name g a) ≤ 32
    of_actor a =
        ⊎_elim
        (λ there. let (x, lt, at, is) = there in subst (λ (y : Actor). length y.name ≤ 32) (sym (get_or_from_slice_get g.actors a x no_actor at)) (short_name x.name (named (length g.platforms) x (all_at (actor_is_lawful (length g.platforms)) g.actors a x lawful.actors at))))
        (λ past. subst (λ (y : Actor). length y.name ≤ 32) (sym (get_or-eq_default g.actors no_actor past.0)) (omega arith))
        (slice_get_cases g.actors a).1

-- so has an end of a link
pub short_receiver : (g : Graph) → HasShortNames g → (link : Option Link) → length (receiver_name g link) ≤ 32
short_receiver g short None = omega arith
short_receiver g short (Some link) = short.actors link.to

pub short_sender : (g : Graph) → HasShortNames g → (link : Option Link) → length (sender_name g link) ≤ 32
short_sender g short None = omega arith
short_sender g short (Some link) = short.actors link.from
