use Rattle.std.proofs.Common.{List, sym, ap, subst, ◌∙◌}
use Rattle.pt_types.specs.declared.firing.OnLink.{OnLink}
use Rattle.pt_types.specs.declared.firing.Task.{Task}
use Rattle.pt_turn.specs.Platforms.{PlatformView, level_at, state_at}
use Rattle.pt_turn.specs.Turned.{MayCome}
use Rattle.pt_visits.proofs.Visits.{MakesTurn, nothing_sent}
use Rattle.pt_pool.proofs.Visits.{any_room, may_come, may_go_out, was_visited}
use Rattle.pt_pool.proofs.visiting.visit_platform.Goals as goal

pub turn-requires-clause-taken : goal.turn-requires-clause-taken
turn-requires-clause-taken g c =
    let v = c.args.platform.now in
    subst (λ (p : PlatformView). MayCome p.plan.graph (level_at p) p.number (state_at p) c.as_slice.result.now) (sym c.in_ok-room.ensures.room)
    (subst (MayCome v.plan.graph (level_at v) v.number (state_at v)) (sym c.as_slice.ensures.value)
    (may_come v c.args.outlets.now c.args.inlets.now c.take_all.new.inlets c.take_all.new.given.items c.requires.fits c.requires.no_fault c.take_all.ensures.taken))

pub put_all-requires-clause-nothing_sent : goal.put_all-requires-clause-nothing_sent
put_all-requires-clause-nothing_sent g c =
    let made = (c.turn.ensures.turned (ap (λ (p : PlatformView). p.fault) c.in_ok-room.ensures.room ∙ c.requires.no_fault)).0 in
    nothing_sent c.room.new.self.turns c.turn.new.self.turns made.turn made.turns made.at.3

pub put_all-requires-clause-orderly : goal.put_all-requires-clause-orderly
put_all-requires-clause-orderly g c =
    let v = c.args.platform.now in
    let room = c.in_ok-room.ensures.room in
    let turned = c.turn.ensures.turned (ap (λ (p : PlatformView). p.fault) room ∙ c.requires.no_fault) in
    let made : MakesTurn c.args.most v c.turn.new.self c.args.reading c.args.done.now c.as_slice.result.now c.reserve-2.new.self.tasks c.turn.new.tasks.tasks =
    any_room v c.room.new.self c.turn.new.self c.args.reading c.args.most c.args.done.now c.as_slice.result.now c.reserve-2.new.self.tasks c.turn.new.tasks.tasks room turned in
    may_go_out c.outgoing_lists_stay_orderly.ensures v c.turn.new.self c.args.outlets.now c.args.inlets.now c.args.reading c.args.most c.args.done.now c.as_slice.result.now c.requires.fits c.show_running.ensures.runs (c.show_running.ensures.on_time c.requires.no_fault) made.0

pub returns-clause-visited : goal.returns-clause-visited
returns-clause-visited g c =
    let v = c.args.platform.now in
    let room = c.in_ok-room.ensures.room in
    let turned = c.turn.ensures.turned (ap (λ (p : PlatformView). p.fault) room ∙ c.requires.no_fault) in
    let made : MakesTurn c.args.most v c.turn.new.self c.args.reading c.args.done.now c.as_slice.result.now c.reserve-2.new.self.tasks c.turn.new.tasks.tasks =
    any_room v c.room.new.self c.turn.new.self c.args.reading c.args.most c.args.done.now c.as_slice.result.now c.reserve-2.new.self.tasks c.turn.new.tasks.tasks room turned in
    let given : MakesTurn c.args.most v c.turn.new.self c.args.reading c.args.done.now c.take_all.new.given.items c.args.tasks.now.tasks c.turn.new.tasks.tasks =
    subst (λ (ts : List Task). MakesTurn c.args.most v c.turn.new.self c.args.reading c.args.done.now c.take_all.new.given.items ts c.turn.new.tasks.tasks) c.reserve-2.ensures.tasks
    (subst (λ (ms : List OnLink). MakesTurn c.args.most v c.turn.new.self c.args.reading c.args.done.now ms c.reserve-2.new.self.tasks c.turn.new.tasks.tasks) c.as_slice.ensures.value made) in
    was_visited c.args.reading c.args.most c.args.done.now v c.turn.new.self c.put_all.new.platform c.args.outlets.now c.put_all.new.outlets c.args.inlets.now c.take_all.new.inlets c.take_all.new.given.items c.args.tasks.now.tasks c.turn.new.tasks.tasks given c.take_all.ensures.taken c.put_all.ensures
