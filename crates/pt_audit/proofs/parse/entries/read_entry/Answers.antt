use Rattle.std.proofs.Common.{Some, ap, sym, ◌∙◌}
use Rattle.std.proofs.lemmas.Option.{none-some, same_Some}
use Rattle.pt_audit.specs.declared.parse.entries.Entry.TheVariants.{Post, Sent, Take}
use Rattle.pt_audit.proofs.Parsing.ItemLines.{claim_only, kind_of, post_only, row_only, sent_only, take_only, word_parts}
use Rattle.pt_audit.proofs.parse.entries.read_entry.Goals as goal

pub returns-in_err-word_of : goal.returns-in_err-word_of
returns-in_err-word_of c item logged e =
    let parts = word_parts c.args.graph.now c.args.line.now _ _ item _ e c.cut.ensures.before c.cut.ensures.after c.in_err-word_of.ensures in
    absurd (none-some (kind_of item) parts.0)

pub returns-in_err-number-in-Post : goal.returns-in_err-number-in-Post
returns-in_err-number-in-Post c item logged e =
    let parts = word_parts c.args.graph.now c.args.line.now _ _ item _ e c.cut.ensures.before c.cut.ensures.after c.in_ok-word_of.ensures in
    let kind = sym c.in-Post.is ∙ same_Some _ _ parts.0 in
    let is = post_only c.args.graph.now _ item kind logged parts.1 in
    absurd (none-some is.0 (c.in_err-number-in-Post.ensures is.0 is.1 is.2))

pub returns-in_ok-number-in-Post : goal.returns-in_ok-number-in-Post
returns-in_ok-number-in-Post c item logged e =
    let parts = word_parts c.args.graph.now c.args.line.now _ _ item _ e c.cut.ensures.before c.cut.ensures.after c.in_ok-word_of.ensures in
    let kind = sym c.in-Post.is ∙ same_Some _ _ parts.0 in
    let is = post_only c.args.graph.now _ item kind logged parts.1 in
    ap Some (ap Post (same_Some _ _ (c.in_ok-number-in-Post.ensures is.0 is.1 is.2)) ∙ sym is.3)

pub returns-in_err-read_taken-in-Take : goal.returns-in_err-read_taken-in-Take
returns-in_err-read_taken-in-Take c item logged e =
    let parts = word_parts c.args.graph.now c.args.line.now _ _ item _ e c.cut.ensures.before c.cut.ensures.after c.in_ok-word_of.ensures in
    let kind = sym c.in-Take.is ∙ same_Some _ _ parts.0 in
    let is = take_only c.args.graph.now _ item kind logged parts.1 in
    absurd (none-some is.0 (c.in_err-read_taken-in-Take.ensures is.0 is.1 is.2))

pub returns-in_ok-read_taken-in-Take : goal.returns-in_ok-read_taken-in-Take
returns-in_ok-read_taken-in-Take c item logged e =
    let parts = word_parts c.args.graph.now c.args.line.now _ _ item _ e c.cut.ensures.before c.cut.ensures.after c.in_ok-word_of.ensures in
    let kind = sym c.in-Take.is ∙ same_Some _ _ parts.0 in
    let is = take_only c.args.graph.now _ item kind logged parts.1 in
    ap Some (ap Take (same_Some _ _ (c.in_ok-read_taken-in-Take.ensures is.0 is.1 is.2)) ∙ sym is.3)

pub returns-in_err-read_sent-in-Sent : goal.returns-in_err-read_sent-in-Sent
returns-in_err-read_sent-in-Sent c item logged e =
    let parts = word_parts c.args.graph.now c.args.line.now _ _ item _ e c.cut.ensures.before c.cut.ensures.after c.in_ok-word_of.ensures in
    let kind = sym c.in-Sent.is ∙ same_Some _ _ parts.0 in
    let is = sent_only c.args.graph.now _ item kind logged parts.1 in
    absurd (none-some is.0 (c.in_err-read_sent-in-Sent.ensures is.0 is.1 is.2))

pub returns-in_ok-read_sent-in-Sent : goal.returns-in_ok-read_sent-in-Sent
returns-in_ok-read_sent-in-Sent c item logged e =
    let parts = word_parts c.args.graph.now c.args.line.now _ _ item _ e c.cut.ensures.before c.cut.ensures.after c.in_ok-word_of.ensures in
    let kind = sym c.in-Sent.is ∙ same_Some _ _ parts.0 in
    let is = sent_only c.args.graph.now _ item kind logged parts.1 in
    ap Some (ap Sent (same_Some _ _ (c.in_ok-read_sent-in-Sent.ensures is.0 is.1 is.2)) ∙ sym is.3)

pub returns-in-Row : goal.returns-in-Row
returns-in-Row c item logged e =
    let parts = word_parts c.args.graph.now c.args.line.now _ _ item _ e c.cut.ensures.before c.cut.ensures.after c.in_ok-word_of.ensures in
    ap Some (sym (row_only item (sym c.in-Row.is ∙ same_Some _ _ parts.0)))

pub returns-in-Claim : goal.returns-in-Claim
returns-in-Claim c item logged e =
    let parts = word_parts c.args.graph.now c.args.line.now _ _ item _ e c.cut.ensures.before c.cut.ensures.after c.in_ok-word_of.ensures in
    ap Some (sym (claim_only item (sym c.in-Claim.is ∙ same_Some _ _ parts.0)))
