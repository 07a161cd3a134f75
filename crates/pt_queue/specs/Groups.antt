-- The input groups of actors, as a table.
use Rattle.std.specs.Prelude.{◌≡◌, ℕ, ◌<◌, List, [], ◌∷◌, length, slice_index_or}
use Rattle.pt_types.specs.declared.graph.Graph.{Graph}
use Rattle.pt_types.specs.declared.kind.Kind.{Kind}
use Rattle.pt_types.specs.Lookups.{kind_of}
use Rattle.pt_semantics.specs.Units.{groups}
use Rattle.pt_types.specs.Groups.{input_group}
use Rattle.pt_queue.specs.declared.groups.Groups.{Groups}

-- the groups of an actor of this kind
abbrev pub kind_groups : Kind → Groups
kind_groups k = record {
  inputs = input_group k 0 ∷ input_group k 1 ∷ input_group k 2 ∷ input_group k 3 ∷ input_group k 4 ∷ input_group k 5 ∷ input_group k 6 ∷ input_group k 7 ∷ [];
  count = groups k;
}

-- the groups of an actor that is a single unit
abbrev pub one_unit : Groups
one_unit = record { inputs = 0 ∷ 0 ∷ 0 ∷ 0 ∷ 0 ∷ 0 ∷ 0 ∷ 0 ∷ []; count = 1 }

-- the groups of actor a; past the table's end, those of a single unit
abbrev pub groups_at : List Groups → ℕ → Groups
groups_at table a = slice_index_or table a one_unit

-- the group of an input of an actor
abbrev pub group_in : List Groups → ℕ → ℕ → ℕ
group_in table a p = slice_index_or (groups_at table a).inputs p 0

-- the table has the groups of a graph's actors
pub record AreGroups (g : Graph) (table : List Groups) : Type 0 where
  pub len : length table ≡ length g.actors
  pub inputs : (a p : ℕ) → p < 8 → group_in table a p ≡ input_group (kind_of g a) p
  pub counts : (a : ℕ) → (groups_at table a).count ≡ groups (kind_of g a)
