use Rattle.std.proofs.Common.{rules, ◌≡◌, ◌-◌, suc, length, ap, sym, ◌∙◌, arith}
use Rattle.pt_semantics.specs.Closing.{on_link}
use Rattle.pt_turn.specs.Gone.{last_sent}
use Rattle.pt_cases.proofs.Taken.{sent_last}
use Rattle.pt_cases.proofs.platforms.turns.sent_lately.Goals as goal

pub returns : goal.returns
returns c =
    let turns = c.history-history.result.now.turns in
    let long : length turns ≡ suc (c.turns.result - 1) = omega (arith, c.turns.ensures, ap length c.history-history.ensures.turns, c.requires) in
    let last : last_sent turns ≡ c.sent.result.now = sent_last turns (c.turns.result - 1) c.sent.result.now long c.sent.ensures in
    let same : last_sent c.args.platform.now.turns ≡ c.sent.result.now = ap last_sent (sym c.history-history.ensures.turns) ∙ last in
    let count : c.len.result ≡ length c.in_ok-own.own.items = search rules in
    count ∙ ap length (c.in_ok-own.ensures ∙ ap (on_link c.args.link) (sym same))
