use Rattle.std.proofs.Common.{◌≤◌, Option, length, subst, sym}
use Rattle.pt_semantics.specs.Entering.{all_due}
use Rattle.pt_turn.specs.Fields.State.{left_in}
use Rattle.pt_turn.specs.Steps.{count_due}
use Rattle.pt_offsets.specs.Plans.{Parts}
use Rattle.pt_turn.specs.declared.platform.Platform.TheInside.{Inside}
use Rattle.pt_turn.specs.Growing.{AreEnough}
use Rattle.pt_turn.specs.Platforms.{IsRoomy, PlatformView, platform_graph, raised_to}
use Rattle.pt_turn.specs.declared.room.Room.{Room}
use Rattle.pt_turn.proofs.Rooms.{some_room}
use Rattle.pt_turn.proofs.Wider.{is_roomy, is_wider, room_still, wider}
use Rattle.pt_turn.proofs.platform.Platform.room_with.Goals as goal

pub invariant_of-self : goal.invariant_of-self
invariant_of-self c =
    let p : Inside = c.self.inside in
    let m = c.make_room.ensures in
    is_wider p c.make_room.new.fields c.make_room.new.history c.make_room.new.lists p.room c.self.invariant m.fields m.history m.lists
    (room_still p c.make_room.new.fields c.make_room.new.history c.make_room.new.lists p.room p.room m.fields m.history m.lists c.self.invariant.room)

pub invariant_of-self-2 : goal.invariant_of-self-2
invariant_of-self-2 c =
    let p : Inside = c.self.inside in
    let m = c.make_room.ensures in
    let enough : AreEnough (platform_graph p) p.progress.fields (raised_to p.progress.fields.reading c.args.room.reading) c.args.room c.in-Some.needs =
    subst (λ (plan : Parts). count_due plan.graph (raised_to p.progress.fields.reading c.args.room.reading) p.progress.fields ≤ c.args.rows → AreEnough plan.graph p.progress.fields (raised_to p.progress.fields.reading c.args.room.reading) c.args.room c.in-Some.needs) c.deref.ensures (c.in-Some.ensures (raised_to p.progress.fields.reading c.args.room.reading))
    (subst (λ (v : PlatformView). length (all_due v.plan.graph (raised_to v.reading c.args.room.reading) (left_in v.sensors)) ≤ c.args.rows) (sym {A = PlatformView} c.self.view_is) c.requires.rows) in
    let room : Option Room = c.set.new.self in
    is_wider p c.make_room.new.fields c.make_room.new.history c.make_room.new.lists room c.self.invariant m.fields m.history m.lists
    (some_room (IsRoomy (wider p c.make_room.new.fields c.make_room.new.history c.make_room.new.lists room)) room c.args.room c.set.ensures
    (is_roomy p c.make_room.new.fields c.make_room.new.history c.make_room.new.lists room c.args.room c.in-Some.needs m.fields enough c.in_ok-make_room.ensures.met.0 c.in_ok-make_room.ensures.met.1 c.in_ok-make_room.ensures.met.2))

pub make_room-requires : goal.make_room-requires
make_room-requires c = record { empty = c.self.invariant.empty }
