use Rattle.std.proofs.Common.{rules, ◌≡◌, length}
use Rattle.pt_run.proofs.OwnClocks.{all_back, one_each, outcome_by_first}
use Rattle.pt_run.proofs.engines.run_by_clocks.Goals as goal

pub visit_all-requires-clause-clocks : goal.visit_all-requires-clause-clocks
visit_all-requires-clause-clocks g c = λ κs lives.
    let handed : c.replace-handed.result.items ≡ c.args.clocks.now.items = search rules in
    let count : c.len.result ≡ length c.args.platforms.items = search rules in
    one_each g.C.Clock.readings g.C.Clock.ahead c.len.result c.args.clocks.now.items c.replace-handed.result.items c.in_ok-own.own.items c.in_ok-own.others.items c.args.platforms.items handed count c.requires.clocks c.in_ok-own.ensures

pub returns-clause-outcome : goal.returns-clause-outcome
returns-clause-outcome g c =
    let handed : c.replace-handed.result.items ≡ c.args.clocks.now.items = search rules in
    let count : c.len.result ≡ length c.args.platforms.items = search rules in
    let ended = c.in_ok-rounds.field-0 in
    outcome_by_first g.C.Clock.readings g.C.Clock.ahead c.len.result c.args.clocks.now.items c.replace-handed.result.items c.in_ok-own.own.items c.in_ok-own.others.items c.args.platforms.items handed count c.requires.clocks c.in_ok-own.ensures
    c.args.workers ended.clocks.items c.in_ok-clocks.field-0.items ended.rounds.platforms.items ended.rounds.fault c.in_ok-clocks.ensures c.in_ok-rounds.ensures

pub returns-clause-clocks : goal.returns-clause-clocks
returns-clause-clocks g c =
    let handed : c.replace-handed.result.items ≡ c.args.clocks.now.items = search rules in
    let count : c.len.result ≡ length c.args.platforms.items = search rules in
    let ended = c.in_ok-rounds.field-0 in
    all_back g.C.Clock.readings g.C.Clock.ahead c.len.result c.args.clocks.now.items c.replace-handed.result.items c.in_ok-own.own.items c.in_ok-own.others.items c.args.platforms.items handed count c.requires.clocks c.in_ok-own.ensures
    c.args.workers ended.clocks.items c.in_ok-clocks.field-0.items ended.rounds.platforms.items ended.rounds.fault c.in_ok-clocks.ensures c.in_ok-rounds.ensures c.requires.ready
