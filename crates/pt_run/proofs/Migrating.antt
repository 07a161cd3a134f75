-- The graph file as one of version 2.
use Rattle.std.proofs.Common.{◌≡◌, ℕ, ◌≤◌, ◌++◌, List, [], ◌∷◌, Ok, sym, ap, subst, ◌∙◌, length}
use Rattle.pt_types.specs.declared.graph.Graph.{Graph}
use Rattle.pt_types.specs.Limits.{most_graph_bytes}
use Rattle.pt_blocks.specs.declared.blocks.Named.{Named}
use Rattle.pt_graph_writer.specs.Text.{graph_text}
use Rattle.pt_graph_writer.specs.RoundTrip.{ReadsBack}
use Rattle.pt_run.specs.Migrating.{IsDefined, IsMigrated}
use Rattle.pt_graph.specs.GraphOf.{graph_of}

-- the text of a graph that a file defines, with a line feed
pub is_migrated : (g : Graph) (blocks : List Named) (text line : List ℕ) → IsDefined blocks g → text ≡ graph_text g blocks → ReadsBack g blocks (text ++ 10 ∷ []) → line ≡ text ++ 10 ∷ [] → IsMigrated g blocks line
is_migrated g blocks text line (bytes, defines) is back pushed = record {
  is = pushed ∙ ap (λ t. t ++ 10 ∷ []) is;
  reads_back = subst (λ t. length t ≤ most_graph_bytes → graph_of blocks t ≡ Ok g) (sym pushed) (back bytes defines);
}
