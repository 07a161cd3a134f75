use Rattle.std.proofs.Common.{◌≡◌, true, false, Err, sym, ap, ◌∙◌, subst, arith, rules}
use Rattle.serde_json.specs.View.{view}
use Rattle.pt_graph_text.specs.Faults.{Gives}
use Rattle.pt_graph_text.specs.Versions.{version_of, is_second}
use Rattle.pt_graph_text.specs.Whole.{document_of_text}
use Rattle.pt_graph_text.specs.declared.version.Version.TheVariants.{First, Second}
use Rattle.pt_graph_text.proofs.Wholes.{refused-text, document_of_text-apart, is_second-Second, is_second-First, emptied_once}
use Rattle.pt_graph_text.proofs.whole.read_document.Goals as goal

pub returns-in_err-left : goal.returns-in_err-left
returns-in_err-left c =
    let told = refused-text c.args.text.now c.in_err-left.field-0.0 c.in_err-left.ensures.err in
    let same : c.from_residual.result ≡ Err c.in_err-left.field-0.0 = search rules in
    subst (Gives (document_of_text c.args.text.now)) (sym same) told

pub returns-then-is_second : goal.returns-then-is_second
returns-then-is_second c =
    let top = c.in_ok-left.field-0 in
    let read = c.in_ok-left.ensures.ok in
    let second : is_second (version_of (view top.left)) ≡ true = grind arith in
    let whole = document_of_text-apart Second c.args.text.now read.0 (view top.left) top.lists read.1 read.2 read.3 (is_second-Second _ second) in
    subst (λ r. Gives r c.document_with.result) (sym whole) c.document_with.ensures

pub returns : goal.returns
returns c =
    let before = c.in_ok-left.ensures.ok in
    let top = c.in_ok-left-2.field-0 in
    let read = c.in_ok-left-2.ensures.ok in
    let first : is_second (version_of (view c.in_ok-left.field-0.left)) ≡ false = grind arith in
    let same : view c.in_ok-left.field-0.left ≡ view top.left = before.2 ∙ emptied_once c.args.text.now before.0 read.0 before.1 read.1 ∙ sym read.2 in
    let whole = document_of_text-apart First c.args.text.now read.0 (view top.left) top.lists read.1 read.2 read.3 (is_second-First _ (ap (λ d. is_second (version_of d)) (sym same) ∙ first)) in
    subst (λ r. Gives r c.document_with-2.result) (sym whole) c.document_with-2.ensures
