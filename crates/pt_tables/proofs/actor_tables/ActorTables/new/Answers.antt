use Rattle.std.proofs.Common.{◌++◌, ◌∙◌, sym, ap, append-nil, length, arith, ◌≤◌}
use Rattle.std.proofs.lemmas.List.{drop_all}
use Rattle.pt_tables.proofs.Gathering.{no_texts, none_yet}
use Rattle.pt_tables.proofs.actor_tables.ActorTables.new.Goals as goal

pub returns : goal.returns
returns c =
    let past : length c.args.actors.now ≤ c.loop.index = omega arith in
    sym (append-nil c.loop.tables.items) ∙ ap (λ xs. c.loop.tables.items ++ no_texts xs) (sym (drop_all c.loop.index c.args.actors.now past)) ∙ c.loop.invariant ∙ none_yet 0 c.args.actors.now
