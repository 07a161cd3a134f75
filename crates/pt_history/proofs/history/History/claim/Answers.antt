use Rattle.std.proofs.Common.{length, sym, subst, ap, ◌&&◌, ◌∙◌}
use Rattle.pt_types.specs.declared.firing.Done.{Done}
use Rattle.pt_history.specs.Keeping.{HasRoomFor, TellQuiet, turns_from}
use Rattle.pt_history.specs.Turns.{RoomyTurns, claiming}
use Rattle.pt_history.specs.Whole.{lists_of}
use Rattle.pt_history.specs.Lists.{RoomyLists, on_last}
use Rattle.pt_history.proofs.Growing.{fits_extend, claimed_last}
use Rattle.pt_history.proofs.Quietness.{claimed_told}
use Rattle.pt_history.proofs.history.History.claim.Goals as goal

pub invariant_of-self : goal.invariant_of-self
invariant_of-self c =
    let n = length c.self.inside.heads.items in
    let new = c.claim.new.self in
    record {
      heads = c.self.invariant.heads;
      claimed = fits_extend n c.self.inside.room.turns c.self.inside.room.claimed c.self.inside.work.claimed new.claimed c.args.tasks.now c.self.invariant.claimed c.claim.ensures.lists c.claim.ensures.items c.claim.ensures.room;
      posted = subst (HasRoomFor n c.self.inside.room.turns c.self.inside.room.posted) (sym c.claim.ensures.posted) c.self.invariant.posted;
      rows = c.self.invariant.rows;
      taken = c.self.invariant.taken;
      sent = c.self.invariant.sent;
      quiet = subst (λ (p : RoomyLists Done). TellQuiet (record (lists_of c.self.inside) { posted = p.lists; claimed = new.claimed.lists }) n (c.self.inside.last_quiet && c.is_empty.result) c.self.inside.before_quiet) (sym c.claim.ensures.posted)
          (claimed_told (lists_of c.self.inside) new.claimed.lists c.args.tasks.now n c.self.inside.last_quiet c.self.inside.before_quiet c.is_empty.result c.self.invariant.claimed.lists c.claim.ensures.lists c.is_empty.ensures c.self.invariant.quiet);
    }

pub returns-clause-turns : goal.returns-clause-turns
returns-clause-turns c =
    ap (λ (p : RoomyLists Done). turns_from (record (lists_of c.self.inside) { posted = p.lists; claimed = c.claim.new.self.claimed.lists }) 0 c.self.inside.heads.items) c.claim.ensures.posted
    ∙ claimed_last (lists_of c.self.inside) c.args.tasks.now c.claim.new.self.claimed.lists c.self.inside.heads.items c.self.invariant.claimed.lists c.claim.ensures.lists
    ∙ ap (λ (v : RoomyTurns). on_last (claiming c.args.tasks.now) v.turns) c.self.view_is
