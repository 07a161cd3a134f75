use Rattle.std.proofs.Common.{length, ap, ◌∙◌}
use Rattle.pt_history.specs.Turns.{RoomyTurns, entering}
use Rattle.pt_history.specs.Whole.{lists_of}
use Rattle.pt_history.specs.Lists.{on_last}
use Rattle.pt_history.proofs.Growing.{fits_extend, rows_last}
use Rattle.pt_history.proofs.Quietness.{rows_told}
use Rattle.pt_history.proofs.history.History.enter.Goals as goal

pub invariant_of-self : goal.invariant_of-self
invariant_of-self c = record {
  heads = c.self.invariant.heads;
  posted = c.self.invariant.posted;
  rows = fits_extend (length c.self.inside.heads.items) c.self.inside.room.turns c.self.inside.room.rows c.self.inside.rows c.extend.new.self c.args.rows.now c.self.invariant.rows c.extend.ensures.lists c.extend.ensures.items c.extend.ensures.room;
  taken = c.self.invariant.taken;
  claimed = c.self.invariant.claimed;
  sent = c.self.invariant.sent;
  quiet = rows_told (lists_of c.self.inside) c.extend.new.self.lists c.args.rows.now (length c.self.inside.heads.items) c.self.inside.last_quiet c.self.inside.before_quiet c.is_empty.result c.self.invariant.rows.lists c.extend.ensures.lists c.is_empty.ensures c.self.invariant.quiet;
}

pub returns-clause-turns : goal.returns-clause-turns
returns-clause-turns c =
    rows_last (lists_of c.self.inside) c.args.rows.now c.extend.new.self.lists c.self.inside.heads.items c.self.invariant.rows.lists c.extend.ensures.lists
    ∙ ap (λ (v : RoomyTurns). on_last (entering c.args.rows.now) v.turns) c.self.view_is
