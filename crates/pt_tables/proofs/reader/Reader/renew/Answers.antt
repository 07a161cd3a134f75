use Rattle.std.specs.Prelude.{slice_get}
use Rattle.pt_tables.proofs.Written.{head_is}
use Rattle.pt_tables.proofs.reader.Reader.renew.Goals as goal

pub returns-clause-head : goal.returns-clause-head
returns-clause-head c =
    let line = c.renew.new.self in
    head_is (slice_get c.args.history.now.turns c.args.number) c.head_after-head.result line.first line.last line.count c.head_after-head.ensures c.renew.ensures.first c.renew.ensures.last c.renew.ensures.count
