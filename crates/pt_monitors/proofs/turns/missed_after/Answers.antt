use Rattle.std.proofs.Common.{◌≡◌, ◌++◌, [], filter_map, option_map, sym, ap, ap₂, ◌∙◌, length, eqb-true}
use Rattle.std.proofs.lemmas.List.{append-nil}
use Rattle.std.proofs.lemmas.Result.{on_ok_weaker}
use Rattle.pt_semantics.specs.Turn.{Turn}
use Rattle.pt_semantics.proofs.Lookups.{same_some}
use Rattle.pt_monitors.specs.Misses.{miss_of_message}
use Rattle.pt_monitors.proofs.Missing.{empty_list}
use Rattle.pt_monitors.proofs.turns.missed_after.Goals as goal

pub returns-then-is_empty : goal.returns-then-is_empty
returns-then-is_empty c = λ turn at.
    let sent : turn.sent ≡ c.sent-sent.result.now = same_some turn.sent c.sent-sent.result.now (ap (option_map (λ (t : Turn). t.sent)) (sym at) ∙ c.sent-sent.ensures) in
    let none : turn.sent ≡ [] = sent ∙ empty_list c.sent-sent.result.now (eqb-true (length c.sent-sent.result.now) 0 (sym c.is_empty.ensures ∙ c.if-is_empty.true)) in
    sym (append-nil c.args.misses.now.items) ∙ ap (λ s. c.args.misses.now.items ++ filter_map (miss_of_message c.args.graph.now turn.last) s) (sym none)

pub returns : goal.returns
returns c =
    on_ok_weaker c.missed_messages.result (λ put turn at.
    let sent : turn.sent ≡ c.sent-sent.result.now = same_some turn.sent c.sent-sent.result.now (ap (option_map (λ (t : Turn). t.sent)) (sym at) ∙ c.sent-sent.ensures) in
    let last : turn.last ≡ c.last.result = same_some turn.last c.last.result (ap (option_map (λ (t : Turn). t.last)) (sym at) ∙ c.last.ensures) in
    put ∙ ap₂ (λ r s. c.args.misses.now.items ++ filter_map (miss_of_message c.args.graph.now r) s) (sym last) (sym sent)) c.missed_messages.ensures
