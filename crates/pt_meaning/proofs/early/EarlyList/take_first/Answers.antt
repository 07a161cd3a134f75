use Rattle.std.proofs.Common.{◌≡◌, ◌+◌, refl, rules, true}
use Rattle.pt_meaning.specs.Early.{is_event_at, left, Heads}
use Rattle.pt_meaning.proofs.Earlies.{heads_on}
use Rattle.pt_meaning.proofs.early.EarlyList.take_first.Goals as goal

pub returns-clause-some : goal.returns-clause-some
returns-clause-some c =
    let found = c.in_ok-event.ensures in
    let at : is_event_at c.args.tag c.args.actor c.in_ok-event.event ≡ true = search rules in
    let heads : Heads c.args.tag c.args.actor c.in_ok-event.event.value (left c.args.self.now) (left (record { events = c.args.self.now.events; next = c.args.self.now.next + 1 })) =
    heads_on c.args.tag c.args.actor c.args.self.now.events.items c.args.self.now.next (c.args.self.now.next + 1) c.in_ok-event.event found.0 found.1 refl at in
    search (rules, heads)
