use Rattle.std.proofs.Common.{◌≡◌, ℕ, ◌≤◌, length}
use Rattle.json.specs.Json.{members, value}
use Rattle.serde_json.specs.Data.{Members, no_members}
use Rattle.serde_json.specs.Read.{of_members, converted}
use Rattle.serde_json.specs.View.{members_view}
use Rattle.pt_graph_text.specs.Apart.{hollow_members}
use Rattle.pt_graph_text.proofs.object.read_members.Given as goal

abbrev pub invariant-members : goal.invariant-members
invariant-members g l =
    (n : ℕ) × (old : Members) × (length l.reader ≤ n)
    × (converted (λ ms. of_members ms no_members) (members (value l.depth) (length l.initial.reader) l.initial.reader) ≡ converted (λ ms. of_members ms old) (members (value l.depth) n l.reader))
    × (members_view l.found.entries ≡ hollow_members old)
    × (l.lists ≡ g.L.ObjectArrays.lists_of l.version old)
    × (length l.reader ≤ length l.initial.reader)

abbrev pub decreases-members : goal.decreases-members
decreases-members g l = length l.reader
