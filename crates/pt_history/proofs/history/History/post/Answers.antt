use Rattle.std.proofs.Common.{length, sym, subst, ap, ◌&&◌, ◌∙◌}
use Rattle.pt_types.specs.declared.firing.Task.{Task}
use Rattle.pt_history.specs.Keeping.{HasRoomFor, TellQuiet, turns_from}
use Rattle.pt_history.specs.Turns.{RoomyTurns, posting}
use Rattle.pt_history.specs.Whole.{lists_of}
use Rattle.pt_history.specs.Lists.{RoomyLists, on_last}
use Rattle.pt_history.proofs.Growing.{fits_extend, posted_last}
use Rattle.pt_history.proofs.Quietness.{posted_told}
use Rattle.pt_history.proofs.history.History.post.Goals as goal

pub invariant_of-self : goal.invariant_of-self
invariant_of-self c =
    let n = length c.self.inside.heads.items in
    let new = c.post.new.self in
    record {
      heads = c.self.invariant.heads;
      posted = fits_extend n c.self.inside.room.turns c.self.inside.room.posted c.self.inside.work.posted new.posted c.args.dones.now c.self.invariant.posted c.post.ensures.lists c.post.ensures.items c.post.ensures.room;
      claimed = subst (HasRoomFor n c.self.inside.room.turns c.self.inside.room.claimed) (sym c.post.ensures.claimed) c.self.invariant.claimed;
      rows = c.self.invariant.rows;
      taken = c.self.invariant.taken;
      sent = c.self.invariant.sent;
      quiet = subst (λ (p : RoomyLists Task). TellQuiet (record (lists_of c.self.inside) { claimed = p.lists; posted = new.posted.lists }) n (c.self.inside.last_quiet && c.is_empty.result) c.self.inside.before_quiet) (sym c.post.ensures.claimed)
          (posted_told (lists_of c.self.inside) new.posted.lists c.args.dones.now n c.self.inside.last_quiet c.self.inside.before_quiet c.is_empty.result c.self.invariant.posted.lists c.post.ensures.lists c.is_empty.ensures c.self.invariant.quiet);
    }

pub returns-clause-turns : goal.returns-clause-turns
returns-clause-turns c =
    ap (λ (p : RoomyLists Task). turns_from (record (lists_of c.self.inside) { claimed = p.lists; posted = c.post.new.self.posted.lists }) 0 c.self.inside.heads.items) c.post.ensures.claimed
    ∙ posted_last (lists_of c.self.inside) c.args.dones.now c.post.new.self.posted.lists c.self.inside.heads.items c.self.invariant.posted.lists c.post.ensures.lists
    ∙ ap (λ (v : RoomyTurns). on_last (posting c.args.dones.now) v.turns) c.self.view_is
