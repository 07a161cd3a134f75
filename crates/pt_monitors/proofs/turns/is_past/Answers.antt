use Rattle.std.proofs.Common.{rules, ◌≡◌, None, sym, ◌∙◌}
use Rattle.pt_monitors.proofs.Latest.{no_later}
use Rattle.pt_monitors.proofs.turns.is_past.Goals as goal

pub returns-then-is_none : goal.returns-then-is_none
returns-then-is_none c = λ _.
    let none : c.miss_past.result ≡ None = search rules in
    no_later c.args.history.now.turns c.args.number c.in-Some.latest c.args.mark.actor c.args.mark.tag c.args.slack c.requires.number (rw c.in-Some.is at c.requires.latest) (sym c.miss_past.ensures ∙ none)
