-- From the headline to that of a run whose words state no number of claims.
use Rattle.std.proofs.Common.{◌≡◌, ℕ, List, Option, None, Some, Ok, refl}
use Rattle.pt_types.specs.declared.graph.Graph.{Graph}
use Rattle.pt_blocks.specs.declared.blocks.Named.{Named}
use Rattle.pt_graph.specs.GraphOf.{graph_of}
use Rattle.pt_words.specs.Grammar.{usual_file}
use Rattle.pt_run.specs.GraphFiles.{graph_by}
use Rattle.pt_run.specs.UsualHeadline.{UsualHeadline}
use Rattle.pt_run.proofs.GraphFiles.{usual_by}
use Rattle.pt_sensor_files.specs.Bytes.{OfBytes}

graph_is : (blocks : List Named) (name : List ℕ) (content : Option (List ℕ)) (g : Graph) → OfBytes content (λ bytes. graph_by blocks (usual_file name) bytes ≡ Ok g) → OfBytes content (λ bytes. graph_of blocks bytes ≡ Ok g)
graph_is blocks name None g h = (h.0, usual_by blocks (usual_file name) h.0 g refl h.1)
graph_is blocks name (Some bytes) g h = usual_by blocks (usual_file name) bytes g refl h

pub usual_headline : UsualHeadline
usual_headline contents blocks workers clock log name outcome left w headline =
    let h = headline workers clock log (usual_file name) refl in
    record {
      run = λ ran.
          let run = h.run ran in
          record {
            graph = run.graph;
            rank = run.rank;
            level = run.level;
            rows = run.rows;
            file = graph_is blocks name (contents name) run.graph run.file;
            sensors = run.sensors;
            leaves = run.leaves;
            readings = run.readings;
          };
      nothing_else = h.nothing_else;
      late_message = h.late_message;
      late_row = λ actor row seen limit is. let late = h.late_row actor row seen limit is in (late.0, graph_is blocks name (contents name) late.0 late.1, late.2);
    }
