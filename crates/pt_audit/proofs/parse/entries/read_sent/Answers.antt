use Rattle.std.proofs.Common.{refl, slice_get}
use Rattle.std.proofs.lemmas.Option.{none-some, same_Some}
use Rattle.pt_tables.specs.Names.{sender_name}
use Rattle.pt_audit.proofs.Parsing.ItemLines.{named_parts}
use Rattle.pt_audit.proofs.Parsing.Printed.{lacks_sender, no_comma_in_names}
use Rattle.pt_audit.proofs.parse.entries.read_sent.Goals as goal

pub returns-in_err-link_from : goal.returns-in_err-link_from
returns-in_err-link_from c x logged e =
    let parts = named_parts c.args.fields.now _ _ (sender_name c.args.graph.now (slice_get c.args.graph.now.links x.link)) x.message (lacks_sender c.args.graph.now 44 (slice_get c.args.graph.now.links x.link) c.requires.lawful no_comma_in_names) e c.cut.ensures.before c.cut.ensures.after in
    absurd (none-some x.link (c.in_err-link_from.ensures x.link logged.link parts.0))

pub returns-in_err-read_message : goal.returns-in_err-read_message
returns-in_err-read_message c x logged e =
    let parts = named_parts c.args.fields.now _ _ (sender_name c.args.graph.now (slice_get c.args.graph.now.links x.link)) x.message (lacks_sender c.args.graph.now 44 (slice_get c.args.graph.now.links x.link) c.requires.lawful no_comma_in_names) e c.cut.ensures.before c.cut.ensures.after in
    absurd (none-some x.message (c.in_err-read_message.ensures x.message logged.tag logged.value parts.1))

pub returns : goal.returns
returns c x logged e =
    let parts = named_parts c.args.fields.now _ _ (sender_name c.args.graph.now (slice_get c.args.graph.now.links x.link)) x.message (lacks_sender c.args.graph.now 44 (slice_get c.args.graph.now.links x.link) c.requires.lawful no_comma_in_names) e c.cut.ensures.before c.cut.ensures.after in
    let link = same_Some _ _ (c.in_ok-link_from.ensures x.link logged.link parts.0) in
    let message = same_Some _ _ (c.in_ok-read_message.ensures x.message logged.tag logged.value parts.1) in
    rw (link, message) refl
