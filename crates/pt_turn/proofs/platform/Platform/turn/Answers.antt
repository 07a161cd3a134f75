use Rattle.std.proofs.Common.{◌≡◌, ◌≤◌, ◌++◌, Option, None, length, sym, subst}
use Rattle.std.specs.Prelude.{MatchOption}
use Rattle.std.specs.Arc.{arc_value}
use Rattle.pt_causality.specs.Ranked.{level_of}
use Rattle.pt_offsets.specs.Plans.{Parts}
use Rattle.pt_turn.specs.Posts.Posted.{AreDone}
use Rattle.pt_turn.specs.Fields.State.{left_in}
use Rattle.pt_turn.specs.Steps.{NoneSeenBefore}
use Rattle.pt_turn.specs.declared.room.Room.{Room}
use Rattle.pt_turn.specs.declared.platform.Platform.TheInside.{Inside}
use Rattle.pt_turn.specs.Making.{CanKeep, IsReady}
use Rattle.pt_turn.specs.Platforms.{IsPlatform, IsRoomy, PlatformView, platform_graph, level_at, messages_of, state_at, view_of}
use Rattle.pt_turn.specs.TakenEnds.{MarksEnds}
use Rattle.pt_turn.specs.Turned.{IsEnough, IsTurned, MayCome, StaysThere}
use Rattle.pt_turn.proofs.Again.{IsDone, after, is_again, is_done_as, is_turned}
use Rattle.pt_turn.proofs.Readiness.{basis_of, both_rooms, can_keep, is_ready}
use Rattle.pt_turn.proofs.platform.Platform.turn.Goals as goal

pub make-requires : goal.make-requires
make-requires c =
    let p : Inside = c.self.inside in
    let room : (r : Room) × IsRoomy p r × IsEnough c.args.reading (length c.args.done.now) (length c.args.taken.now) c.args.most r = both_rooms p p.room (IsEnough c.args.reading (length c.args.done.now) (length c.args.taken.now) c.args.most) c.self.invariant.room
    (subst (λ (v : PlatformView). MatchOption v.room ⊥ (IsEnough c.args.reading (length c.args.done.now) (length c.args.taken.now) c.args.most)) (sym c.self.view_is) c.requires.room) in
    let done : AreDone (platform_graph p) c.args.done.now = subst (λ (v : PlatformView). AreDone v.plan.graph c.args.done.now) (sym c.self.view_is) c.requires.done in
    let may : MayCome (platform_graph p) (level_of (arc_value p.plan).ranks) p.number (state_at (view_of p)) c.args.taken.now = subst (λ (v : PlatformView). MayCome v.plan.graph (level_at v) v.number (state_at v) c.args.taken.now) (sym c.self.view_is) c.requires.taken in
    subst (λ (plan : Parts). IsReady plan (record { level = level_of plan.ranks; platform = p.number; taken = messages_of p.progress.history.turns }) p.number p.closing c.raised_to-reading.result c.args.most c.args.done.now c.args.taken.now p.progress.fields p.progress.lists × (CanKeep plan c.raised_to-reading.result (length c.args.done.now) (length c.args.taken.now) c.args.most p.progress.fields p.progress.history.room × ((c.args.most ≤ c.args.tasks.now.spare) × ((p.progress.fault ≡ None) × (NoneSeenBefore p.progress.next_row (left_in p.progress.fields.sensors.items) × MarksEnds (length plan.graph.links) p.progress.ended (messages_of p.progress.history.turns)))))) (sym c.deref.ensures)
    (subst (λ r. IsReady (arc_value p.plan) (basis_of p) p.number p.closing r c.args.most c.args.done.now c.args.taken.now p.progress.fields p.progress.lists × (CanKeep (arc_value p.plan) r (length c.args.done.now) (length c.args.taken.now) c.args.most p.progress.fields p.progress.history.room × ((c.args.most ≤ c.args.tasks.now.spare) × ((p.progress.fault ≡ None) × (NoneSeenBefore p.progress.next_row (left_in p.progress.fields.sensors.items) × MarksEnds (length (platform_graph p).links) p.progress.ended (messages_of p.progress.history.turns)))))) (sym c.raised_to-reading.ensures)
    (is_ready p room.0 c.args.reading c.args.most c.args.done.now c.args.taken.now c.self.invariant c.in_default.is room.1 room.2 c.requires.most done may, (can_keep p room.0 c.args.reading c.args.most (length c.args.done.now) (length c.args.taken.now) room.1 room.2, (c.requires.tasks, (c.in_default.is, (c.self.invariant.next_row, c.self.invariant.ended))))))

pub invariant_of-self : goal.invariant_of-self
invariant_of-self c =
    let p : Inside = c.self.inside in
    let m = c.make.ensures in
    let done : IsDone p c.raised_to-reading.result c.args.most c.args.done.now c.args.taken.now c.make.new.progress.fields c.make.new.progress.history c.make.new.progress.lists c.make.new.progress.fault c.args.tasks.now.tasks c.make.new.tasks.tasks =
    is_done_as p c.args.self.now c.deref.result.now c.args.reading c.raised_to-reading.result c.args.most c.args.done.now c.args.taken.now c.make.new.progress.fields c.make.new.progress.history c.make.new.progress.lists c.make.new.progress.fault c.args.tasks.now.tasks c.make.new.tasks.tasks c.self.view_is c.self.invariant c.requires.room c.deref.ensures
    m.kept m.sound m.sensors m.all_rows m.reading m.claims m.empty m.outbox m.sent c.raised_to-reading.type_inv in
    subst (λ (o : Option Room). IsPlatform (record (after p c.make.new.progress.fields c.make.new.progress.history c.make.new.progress.ended c.make.new.progress.lists c.make.new.progress.fault None c.make.new.progress.next_row) { room = o })) (sym c.clear.ensures)
    (is_again p c.raised_to-reading.result c.args.most c.args.done.now c.args.taken.now c.make.new.progress.fields c.make.new.progress.history c.make.new.progress.ended c.make.new.progress.lists c.make.new.progress.fault None c.make.new.progress.next_row c.args.tasks.now.tasks c.make.new.tasks.tasks c.self.invariant c.in_default.is done tt m.next_row (subst (λ (plan : Parts). MarksEnds (length plan.graph.links) c.make.new.progress.ended (messages_of c.make.new.progress.history.turns)) c.deref.ensures m.ended))

pub returns-clause-turned : goal.returns-clause-turned
returns-clause-turned c =
    let p : Inside = c.self.inside in
    let m = c.make.ensures in
    let done : IsDone p c.raised_to-reading.result c.args.most c.args.done.now c.args.taken.now c.make.new.progress.fields c.make.new.progress.history c.make.new.progress.lists c.make.new.progress.fault c.args.tasks.now.tasks c.make.new.tasks.tasks =
    is_done_as p c.args.self.now c.deref.result.now c.args.reading c.raised_to-reading.result c.args.most c.args.done.now c.args.taken.now c.make.new.progress.fields c.make.new.progress.history c.make.new.progress.lists c.make.new.progress.fault c.args.tasks.now.tasks c.make.new.tasks.tasks c.self.view_is c.self.invariant c.requires.room c.deref.ensures
    m.kept m.sound m.sensors m.all_rows m.reading m.claims m.empty m.outbox m.sent c.raised_to-reading.type_inv in
    λ none.
    subst (λ (o : Option Room). (made : IsTurned c.args.self.now (view_of (record (after p c.make.new.progress.fields c.make.new.progress.history c.make.new.progress.ended c.make.new.progress.lists c.make.new.progress.fault None c.make.new.progress.next_row) { room = o })) c.args.reading c.args.most c.args.done.now c.args.taken.now) × (c.make.new.tasks.tasks ≡ c.args.tasks.now.tasks ++ made.turn.claimed) × StaysThere c.args.self.now (view_of (record (after p c.make.new.progress.fields c.make.new.progress.history c.make.new.progress.ended c.make.new.progress.lists c.make.new.progress.fault None c.make.new.progress.next_row) { room = o }))) (sym c.clear.ensures)
    (subst (λ (v : PlatformView). (made : IsTurned v (view_of (after p c.make.new.progress.fields c.make.new.progress.history c.make.new.progress.ended c.make.new.progress.lists c.make.new.progress.fault None c.make.new.progress.next_row)) c.args.reading c.args.most c.args.done.now c.args.taken.now) × (c.make.new.tasks.tasks ≡ c.args.tasks.now.tasks ++ made.turn.claimed) × StaysThere v (view_of (after p c.make.new.progress.fields c.make.new.progress.history c.make.new.progress.ended c.make.new.progress.lists c.make.new.progress.fault None c.make.new.progress.next_row))) c.self.view_is
    (is_turned p c.raised_to-reading.result c.args.reading c.args.most c.args.done.now c.args.taken.now c.make.new.progress.fields c.make.new.progress.history c.make.new.progress.ended c.make.new.progress.lists c.make.new.progress.fault c.make.new.progress.next_row c.args.tasks.now.tasks c.make.new.tasks.tasks c.raised_to-reading.ensures done))
