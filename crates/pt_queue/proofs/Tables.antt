-- The table of the groups of a graph's actors.
use Rattle.std.proofs.Common.{◌≡◌, ℕ, zero, suc, ◌-◌, ◌<◌, ◌≤◌, ◌==◌, ◌&&◌, Bool, true, false, cond, List, [], ◌∷◌, map, length, slice_index_or, nat_le, nat_lt, refl, sym, ap, subst, ◌∙◌, arith}
use Rattle.std.specs.Prelude.{sum}
use Rattle.std.specs.List.{list_all}
use Rattle.std.proofs.lemmas.Bool.{and_parts, leb-true}
use Rattle.std.proofs.lemmas.List.{length-map}
use Rattle.pt_types.specs.declared.graph.Graph.{Graph}
use Rattle.pt_types.specs.declared.graph.Actor.{Actor}
use Rattle.pt_types.specs.declared.kind.Kind.{Kind}
use Rattle.pt_types.specs.declared.kind.Kind.TheVariants.{Lanes}
use Rattle.pt_types.specs.Kinds.{kind_is_lawful, is_among, visible_inputs, visible_outputs}
use Rattle.pt_types.specs.Names.{is_name}
use Rattle.pt_types.specs.Lawful.{IsLawful, actor_is_lawful}
use Rattle.pt_types.specs.Groups.{no_actor}
use Rattle.pt_types.specs.Lookups.{kind_of}
use Rattle.pt_semantics.specs.Units.{groups}
use Rattle.pt_types.specs.Groups.{cell_of, input_group}
use Rattle.pt_queue.specs.declared.groups.Groups.{Groups}
use Rattle.pt_queue.specs.Groups.{kind_groups, groups_at, group_in, one_unit, AreGroups}

at_map : (actors : List Actor) (i : ℕ) → slice_index_or (map (λ (a : Actor). kind_groups a.kind) actors) i one_unit ≡ kind_groups (slice_index_or actors i no_actor).kind
at_map [] i = refl
at_map (a ∷ actors) zero = refl
at_map (a ∷ actors) (suc i) = at_map actors i

input_at : (k : Kind) (p : ℕ) → p < 8 → slice_index_or (kind_groups k).inputs p 0 ≡ input_group k p
input_at k zero l = refl
input_at k (suc zero) l = refl
input_at k (suc (suc zero)) l = refl
input_at k (suc (suc (suc zero))) l = refl
input_at k (suc (suc (suc (suc zero)))) l = refl
input_at k (suc (suc (suc (suc (suc zero))))) l = refl
input_at k (suc (suc (suc (suc (suc (suc zero)))))) l = refl
input_at k (suc (suc (suc (suc (suc (suc (suc zero))))))) l = refl
input_at k (suc (suc (suc (suc (suc (suc (suc (suc p)))))))) l = absurd (omega arith)

-- the groups of each actor in turn are the graph's
pub table_is : (g : Graph) (table : List Groups) → table ≡ map (λ (a : Actor). kind_groups a.kind) g.actors → AreGroups g table
table_is g table h = record {
  len = ap length h ∙ length-map g.actors (λ (a : Actor). kind_groups a.kind);
  inputs = λ a p l. ap (λ (x : Groups). slice_index_or x.inputs p 0) (at a) ∙ input_at (kind_of g a) p l;
  counts = λ a. ap (λ (x : Groups). x.count) (at a);
}
  where
    at : (a : ℕ) → groups_at table a ≡ kind_groups (kind_of g a)
    at a = ap (λ (xs : List Groups). slice_index_or xs a one_unit) h ∙ at_map g.actors a

cells_few : (k : Kind) → kind_is_lawful k ≡ true → groups k ≤ 8
cells_few (Lanes cells) h =
    let two = and_parts (is_among 1 8 (length cells) && list_all (is_among 1 8) cells) (nat_le (sum cells) 8) h in
    let one = and_parts (is_among 1 8 (length cells)) (list_all (is_among 1 8) cells) two.0 in
    leb-true (length cells) 8 (and_parts (nat_le 1 (length cells)) (nat_le (length cells) 8) one.0).1
cells_few _ h = omega arith

lawful_one : (n : ℕ) (a : Actor) → actor_is_lawful n a ≡ true → kind_is_lawful a.kind ≡ true
lawful_one n a h =
    let four = and_parts (is_name a.name && nat_lt a.platform n && kind_is_lawful a.kind && a.inputs == visible_inputs a.kind) (a.outputs == visible_outputs a.kind) h in
    let three = and_parts (is_name a.name && nat_lt a.platform n && kind_is_lawful a.kind) (a.inputs == visible_inputs a.kind) four.0 in
    (and_parts (is_name a.name && nat_lt a.platform n) (kind_is_lawful a.kind) three.0).1

few_in : (n : ℕ) (actors : List Actor) (i : ℕ) (d : Actor) → list_all (actor_is_lawful n) actors ≡ true → i < length actors → groups (slice_index_or actors i d).kind ≤ 8
few_in n [] i d h l = absurd (omega arith)
few_in n (a ∷ actors) zero d h l = cells_few a.kind (lawful_one n a (and_parts (actor_is_lawful n a) (list_all (actor_is_lawful n) actors) h).0)
few_in n (a ∷ actors) (suc i) d h l = few_in n actors i d (and_parts (actor_is_lawful n a) (list_all (actor_is_lawful n) actors) h).1 (omega arith)

-- an actor of a lawful graph has few groups
pub few_groups : (g : Graph) (actors : List Actor) (i : ℕ) (a d : Actor) → IsLawful g → actors ≡ g.actors → i < length actors → a ≡ slice_index_or actors i d → groups a.kind ≤ 8
few_groups g actors i a d lawful same below is =
    let all : list_all (actor_is_lawful (length g.platforms)) actors ≡ true = subst (λ (xs : List Actor). list_all (actor_is_lawful (length g.platforms)) xs ≡ true) (sym same) lawful.actors in
    subst (λ (x : Actor). groups x.kind ≤ 8) (sym is) (few_in (length g.platforms) actors i d all below)

less_step : (b : Bool) (c n : ℕ) → c ≤ n → cond b 0 (suc c) ≤ suc n
less_step true c n l = omega arith
less_step false c n l = omega arith

cell_few : (cells : List ℕ) (p : ℕ) → cell_of cells p ≤ length cells
cell_few [] p = omega arith
cell_few (n ∷ ns) p = less_step (nat_lt p n) (cell_of ns (p - n)) (length ns) (cell_few ns (p - n))

-- a group is at most the number of groups
pub input_few : (k : Kind) (p : ℕ) → input_group k p ≤ groups k
input_few (Lanes cells) p = cell_few cells p
input_few _ p = omega arith

-- the groups of eight inputs are fewer than nine, and count from 0 on

cell_step : (n c p : ℕ) → 1 ≤ n → c ≤ p - n → (b : Bool) → nat_lt p n ≡ b → cond b 0 (suc c) ≤ p
cell_step n c p some l true h = omega arith
cell_step n c p some l false h = let m : n ≤ p = past p n h in omega (arith, m, l, some)
  where
    past : (p n : ℕ) → nat_lt p n ≡ false → n ≤ p
    past p n h = grind arith

cell_below : (cells : List ℕ) (p : ℕ) → list_all (is_among 1 8) cells ≡ true → cell_of cells p ≤ p
cell_below [] p h = omega arith
cell_below (n ∷ ns) p h =
    let two = and_parts (is_among 1 8 n) (list_all (is_among 1 8) ns) h in
    let one = and_parts (nat_le 1 n) (nat_le n 8) two.0 in
    cell_step n (cell_of ns (p - n)) p (leb-true 1 n one.0) (cell_below ns (p - n) two.1) (nat_lt p n) refl

input_below : (k : Kind) (p : ℕ) → kind_is_lawful k ≡ true → input_group k p ≤ p
input_below (Lanes cells) p h =
    let two = and_parts (is_among 1 8 (length cells) && list_all (is_among 1 8) cells) (nat_le (sum cells) 8) h in
    cell_below cells p (and_parts (is_among 1 8 (length cells)) (list_all (is_among 1 8) cells) two.0).1
input_below _ p h = omega arith

below_in : (n : ℕ) (actors : List Actor) (a p : ℕ) → list_all (actor_is_lawful n) actors ≡ true → input_group (slice_index_or actors a no_actor).kind p ≤ p
below_in n [] a p h = omega arith
below_in n (x ∷ actors) zero p h = input_below x.kind p (lawful_one n x (and_parts (actor_is_lawful n x) (list_all (actor_is_lawful n) actors) h).0)
below_in n (x ∷ actors) (suc a) p h = below_in n actors a p (and_parts (actor_is_lawful n x) (list_all (actor_is_lawful n) actors) h).1

pub few_inputs : (g : Graph) (table : List Groups) → IsLawful g → AreGroups g table → (a p : ℕ) → p < 8 → group_in table a p < 8
few_inputs g table lawful are a p l =
    let below = below_in (length g.platforms) g.actors a p lawful.actors in
    let is : group_in table a p ≡ input_group (kind_of g a) p = are.inputs a p l in
    omega (arith, below, is, l)
