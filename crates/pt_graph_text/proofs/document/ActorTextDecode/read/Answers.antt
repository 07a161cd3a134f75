use Rattle.std.proofs.Common.{◌≡◌, None, ◌∙◌, subst}
use Rattle.serde_json.specs.View.{view}
use Rattle.pt_graph_text.specs.Decoding.{Fails}
use Rattle.pt_graph_text.specs.Documents.{actor_of}
use Rattle.pt_graph_text.proofs.Inners.{actor_known, actor_unknown}
use Rattle.pt_graph_text.proofs.document.ActorTextDecode.read.Goals as goal

pub returns-in-Ok-clause-ok : goal.returns-in-Ok-clause-ok
returns-in-Ok-clause-ok c =
    let top = c.in_ok-left.field-0 in
    let read = c.in_ok-left.ensures.ok in (read.0, read.1, c.with_inner.ensures ∙ actor_known c.args.version read.0 (view top.left) top.lists c.in-Ok.actor read.2 read.3 c.in-Ok.ensures)

pub returns-in-Err-Member-clause-ok : goal.returns-in-Err-Member-clause-ok
returns-in-Err-Member-clause-ok c =
    let top = c.in_ok-left.field-0 in
    let none : actor_of c.args.version (view top.left) ≡ None = subst (Fails (actor_of c.args.version (view top.left))) c.in-Err-Member.field-0-is c.in-Err-Member.ensures in
    let read = c.in_ok-left.ensures.ok in (read.0, read.1, actor_unknown c.args.version read.0 (view top.left) top.lists read.2 read.3 none)
