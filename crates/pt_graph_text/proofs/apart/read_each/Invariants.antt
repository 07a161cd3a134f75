use Rattle.std.proofs.Common.{◌≡◌, ℕ, ◌≤◌, [], length, Ok}
use Rattle.json.specs.Json.{items, value}
use Rattle.serde_json.specs.Read.{of_items, converted}
use Rattle.pt_graph_text.specs.Apart.{so_far}
use Rattle.pt_graph_text.proofs.Listed.{joined}
use Rattle.pt_graph_text.proofs.apart.read_each.Given as goal

abbrev pub invariant-items : goal.invariant-items
invariant-items g l =
    (n : ℕ) × (length l.reader ≤ n)
    × (joined (g.T.Decode.decoded l.version) (Ok []) (converted of_items (items (value l.depth) (length l.initial.reader) l.initial.reader)) ≡ joined (g.T.Decode.decoded l.version) (so_far l.wrong l.found.items) (converted of_items (items (value l.depth) n l.reader)))
    × (length l.reader ≤ length l.initial.reader)

abbrev pub decreases-items : goal.decreases-items
decreases-items g l = length l.reader
