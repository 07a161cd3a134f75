use Rattle.std.proofs.Common.{◌≡◌, Err, sym, subst, rules}
use Rattle.pt_graph_text.specs.Faults.{Gives}
use Rattle.pt_graph.specs.GraphOf.{graph_in}
use Rattle.pt_graph.proofs.Texts.{refused-document, refused-checks, graph_in-built}
use Rattle.pt_graph.proofs.reader.graph_in.Goals as goal

pub returns-in_err-document : goal.returns-in_err-document
returns-in_err-document c =
    let e = c.in_err-document.field-0.0 in
    let same : c.from_residual.result ≡ Err e = search rules in
    subst (Gives (graph_in c.args.listed.now c.args.bytes.now)) (sym same) (refused-document c.args.listed.now c.args.bytes.now e c.in_err-document.ensures)

pub returns-in_err-wiring : goal.returns-in_err-wiring
returns-in_err-wiring c =
    let e = c.in_err-wiring.field-0.0 in
    let same : c.from_residual-in_err-wiring.result ≡ Err e = search rules in
    subst (Gives (graph_in c.args.listed.now c.args.bytes.now)) (sym same) (refused-checks c.args.listed.now c.args.bytes.now c.in_ok-document.document e c.in_ok-document.ensures c.in_err-wiring.ensures)

pub returns : goal.returns
returns c =
    subst (λ r. Gives r c.build.result) (sym (graph_in-built c.args.listed.now c.args.bytes.now c.in_ok-document.document c.in_ok-document.ensures c.in_ok-wiring.ensures.0)) c.build.ensures
