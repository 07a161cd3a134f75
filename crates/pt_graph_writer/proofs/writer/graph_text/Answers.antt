use Rattle.std.proofs.Common.{◌≡◌, ◌∙◌, ◌≤◌, false, Some, ap, arith, ◌++◌, ◌∷◌, [], IsUtf8, rules}
use Rattle.std.proofs.lemmas.Str.{IsUtf8-append, IsUtf8-from_ascii}
use Rattle.serde_json.specs.Data.{depth}
use Rattle.serde_json.specs.Read.{max_depth}
use Rattle.serde_json.specs.View.{view}
use Rattle.serde_json.specs.Written.{has_float, compact_text}
use Rattle.pt_graph_writer.specs.Text.{graph_data}
use Rattle.pt_graph_writer.proofs.Plain.{plain_graph}
use Rattle.pt_graph_writer.proofs.Back.{reads_back}
use Rattle.pt_graph_writer.proofs.LineFeed.{read_line}
use Rattle.pt_graph_writer.proofs.writer.graph_text.Goals as goal

pub returns-clause-text : goal.returns-clause-text
returns-clause-text g c =
    let graph = c.args.graph.now in
    let blocks = c.args.blocks.now.listed.items in
    let built : view c.in_ok-value.value ≡ graph_data graph blocks = c.in_ok-value.ensures.value ∙ ap (graph_data graph) c.listed.ensures.list in
    let whole : has_float (view c.in_ok-value.value) ≡ false = ap has_float built ∙ (plain_graph graph blocks).whole in
    c.in_ok-text.ensures.text whole ∙ ap compact_text built

pub returns-clause-reads_back : goal.returns-clause-reads_back
returns-clause-reads_back g c = λ bytes given short.
    let graph = c.args.graph.now in
    let blocks = c.args.blocks.now.listed.items in
    let built : view c.in_ok-value.value ≡ graph_data graph blocks = c.in_ok-value.ensures.value ∙ ap (graph_data graph) c.listed.ensures.list in
    let shallow : depth (view c.in_ok-value.value) ≤ max_depth = rw built (omega (arith, (plain_graph graph blocks).shallow)) in
    reads_back blocks graph bytes c.in_ok-text.text.items c.listed.ensures.blocks.0 c.in_ok-value.ensures.fits given c.in_ok-text.ensures.utf8 (c.in_ok-text.ensures.reads_back shallow ∙ ap Some built) short

pub returns-clause-reads_line : goal.returns-clause-reads_line
returns-clause-reads_line g c = λ bytes given short.
    let graph = c.args.graph.now in
    let blocks = c.args.blocks.now.listed.items in
    let text = c.in_ok-text.text.items in
    let built : view c.in_ok-value.value ≡ graph_data graph blocks = c.in_ok-value.ensures.value ∙ ap (graph_data graph) c.listed.ensures.list in
    let shallow : depth (view c.in_ok-value.value) ≤ max_depth = rw built (omega (arith, (plain_graph graph blocks).shallow)) in
    let utf8 : IsUtf8 (text ++ 10 ∷ []) = IsUtf8-append text (10 ∷ []) c.in_ok-text.ensures.utf8 (IsUtf8-from_ascii (10 ∷ []) (search rules)) in
    reads_back blocks graph bytes (text ++ 10 ∷ []) c.listed.ensures.blocks.0 c.in_ok-value.ensures.fits given utf8 (read_line text c.in_ok-text.ensures.compact ∙ (c.in_ok-text.ensures.reads_back shallow ∙ ap Some built)) short
