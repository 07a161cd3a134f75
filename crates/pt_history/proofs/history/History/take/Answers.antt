use Rattle.std.proofs.Common.{length, ap, ◌∙◌}
use Rattle.pt_history.specs.Turns.{RoomyTurns, taking}
use Rattle.pt_history.specs.Whole.{lists_of}
use Rattle.pt_history.specs.Lists.{on_last}
use Rattle.pt_history.proofs.Growing.{fits_extend, taken_last}
use Rattle.pt_history.proofs.Quietness.{taken_told}
use Rattle.pt_history.proofs.history.History.take.Goals as goal

pub invariant_of-self : goal.invariant_of-self
invariant_of-self c = record {
  heads = c.self.invariant.heads;
  posted = c.self.invariant.posted;
  rows = c.self.invariant.rows;
  taken = fits_extend (length c.self.inside.heads.items) c.self.inside.room.turns c.self.inside.room.taken c.self.inside.taken c.extend.new.self c.args.messages.now c.self.invariant.taken c.extend.ensures.lists c.extend.ensures.items c.extend.ensures.room;
  claimed = c.self.invariant.claimed;
  sent = c.self.invariant.sent;
  quiet = taken_told (lists_of c.self.inside) c.extend.new.self.lists c.args.messages.now (length c.self.inside.heads.items) c.self.inside.last_quiet c.self.inside.before_quiet c.is_empty.result c.self.invariant.taken.lists c.extend.ensures.lists c.is_empty.ensures c.self.invariant.quiet;
}

pub returns-clause-turns : goal.returns-clause-turns
returns-clause-turns c =
    taken_last (lists_of c.self.inside) c.args.messages.now c.extend.new.self.lists c.self.inside.heads.items c.self.invariant.taken.lists c.extend.ensures.lists
    ∙ ap (λ (v : RoomyTurns). on_last (taking c.args.messages.now) v.turns) c.self.view_is
