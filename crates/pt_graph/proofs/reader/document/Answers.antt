use Rattle.std.proofs.Common.{sym, ap, ◌∙◌, subst}
use Rattle.pt_graph_text.specs.Faults.{Gives}
use Rattle.pt_graph_text.specs.Whole.{document_of_text}
use Rattle.pt_graph.proofs.Texts.{document_of_bytes-text, document_of_bytes-refused}
use Rattle.pt_graph.proofs.reader.document.Goals as goal

pub returns-in-Ok : goal.returns-in-Ok
returns-in-Ok c =
    let text = c.in-Ok.ensures.cases in
    subst (λ r. Gives r c.read_document.result) (ap document_of_text text.0 ∙ sym (document_of_bytes-text c.args.bytes.now text.1)) c.read_document.ensures

pub returns-in-Err : goal.returns-in-Err
returns-in-Err c = λ other. document_of_bytes-refused c.args.bytes.now c.in-Err.ensures.cases.0
