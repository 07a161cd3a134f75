use Rattle.std.proofs.Common.{length, ap, ◌∙◌}
use Rattle.pt_history.specs.Turns.{RoomyTurns, sending}
use Rattle.pt_history.specs.Whole.{lists_of}
use Rattle.pt_history.specs.Lists.{on_last}
use Rattle.pt_history.proofs.Growing.{fits_extend, sent_last}
use Rattle.pt_history.proofs.Quietness.{sent_told}
use Rattle.pt_history.proofs.history.History.send.Goals as goal

pub invariant_of-self : goal.invariant_of-self
invariant_of-self c = record {
  heads = c.self.invariant.heads;
  posted = c.self.invariant.posted;
  rows = c.self.invariant.rows;
  taken = c.self.invariant.taken;
  claimed = c.self.invariant.claimed;
  sent = fits_extend (length c.self.inside.heads.items) c.self.inside.room.turns c.self.inside.room.sent c.self.inside.sent c.extend.new.self c.args.messages.now c.self.invariant.sent c.extend.ensures.lists c.extend.ensures.items c.extend.ensures.room;
  quiet = sent_told (lists_of c.self.inside) c.extend.new.self.lists c.args.messages.now (length c.self.inside.heads.items) c.self.inside.last_quiet c.self.inside.before_quiet c.is_empty.result c.self.invariant.sent.lists c.extend.ensures.lists c.is_empty.ensures c.self.invariant.quiet;
}

pub returns-clause-turns : goal.returns-clause-turns
returns-clause-turns c =
    sent_last (lists_of c.self.inside) c.args.messages.now c.extend.new.self.lists c.self.inside.heads.items c.self.invariant.sent.lists c.extend.ensures.lists
    ∙ ap (λ (v : RoomyTurns). on_last (sending c.args.messages.now) v.turns) c.self.view_is
