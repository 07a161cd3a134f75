use Rattle.std.proofs.Common.{rules, ◌≡◌, ◌∙◌, string_bytes, sym}
use Rattle.std.proofs.lemmas.Slice.Eq.{bytes_eq-Decides}
use Rattle.pt_run.proofs.Judging.{same_tables}
use Rattle.pt_run.proofs.audit.are_tables.Goals as goal

pub returns : goal.returns
returns c = λ rows h.
    let same : c.as_bytes.result.now ≡ string_bytes c.in_ok-tables.tables = search rules in
    let decides = bytes_eq-Decides c.as_bytes.result.now c.args.text.now in
    let both = same_tables c.args.plan.now rows (string_bytes c.in_ok-tables.tables) c.args.text.now (c.in_ok-tables.ensures rows h) in
    (λ e. both.0 (sym same ∙ decides.0 (sym c.eq.ensures ∙ e)), λ k. c.eq.ensures ∙ decides.1 (same ∙ both.1 k))
