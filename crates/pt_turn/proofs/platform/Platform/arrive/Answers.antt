use Rattle.std.proofs.Common.{Option, set, sym, subst, ap, ◌∙◌}
use Rattle.std.specs.Vec.{with_item}
use Rattle.pt_turn.specs.Arrives.Arrived.{with_row}
use Rattle.pt_turn.specs.Arrived.{HasArrived, MayArriveAt}
use Rattle.pt_turn.specs.declared.platform.Platform.TheInside.{Inside}
use Rattle.pt_turn.specs.declared.room.Room.{Room}
use Rattle.pt_turn.specs.Platforms.{IsPlatform, PlatformView, view_of}
use Rattle.pt_turn.proofs.MoreRows.{has_arrived, is_platform, is_same, same_items, with_sensors}
use Rattle.pt_turn.proofs.platform.Platform.arrive.Goals as goal

pub invariant_of-self : goal.invariant_of-self
invariant_of-self c =
    let p : Inside = c.self.inside in
    is_same p (with_item p.progress.fields.sensors c.in_ok-place.place c.append.new.sensor) (same_items p.progress.fields.sensors.items c.in_ok-place.place c.index_mut.result.now c.append.new.sensor (c.in_default.ensures.refused ∙ c.index_mut.ensures.value)) c.self.invariant

pub invariant_of-self-2 : goal.invariant_of-self-2
invariant_of-self-2 c =
    let p : Inside = c.self.inside in
    let may : MayArriveAt (view_of p) c.args.sensor c.args.row c.in_ok-place.place = subst (λ (v : PlatformView). MayArriveAt v c.args.sensor c.args.row c.in_ok-place.place) (sym {A = PlatformView} c.self.view_is) c.in_ok-place.ensures.may in
    subst (λ (o : Option Room). IsPlatform (record (with_sensors p (with_item p.progress.fields.sensors c.in_ok-place.place c.append.new.sensor) c.lesser-self-inside.result) { room = o })) (sym c.clear.ensures)
    (is_platform p (with_item p.progress.fields.sensors c.in_ok-place.place c.append.new.sensor) c.args.sensor c.in_ok-place.place c.index_mut.result.now c.lesser-self-inside.result c.args.row c.self.invariant may (ap (set p.progress.fields.sensors.items c.in_ok-place.place) (c.in-Ok.ensures.appended ∙ ap (with_row c.args.row) c.index_mut.ensures.value)) c.lesser-self-inside.ensures.0 c.lesser-self-inside.ensures.1)

pub returns-clause-arrived : goal.returns-clause-arrived
returns-clause-arrived c =
    let p : Inside = c.self.inside in
    let may : MayArriveAt (view_of p) c.args.sensor c.args.row c.in_ok-place.place = subst (λ (v : PlatformView). MayArriveAt v c.args.sensor c.args.row c.in_ok-place.place) (sym {A = PlatformView} c.self.view_is) c.in_ok-place.ensures.may in
    subst (λ (o : Option Room). HasArrived c.args.self.now (view_of (record (with_sensors p (with_item p.progress.fields.sensors c.in_ok-place.place c.append.new.sensor) c.lesser-self-inside.result) { room = o })) c.args.sensor c.args.row) (sym c.clear.ensures)
    (subst (λ (v : PlatformView). HasArrived v (view_of (with_sensors p (with_item p.progress.fields.sensors c.in_ok-place.place c.append.new.sensor) c.lesser-self-inside.result)) c.args.sensor c.args.row) c.self.view_is
    (has_arrived p (with_item p.progress.fields.sensors c.in_ok-place.place c.append.new.sensor) c.args.sensor c.in_ok-place.place c.index_mut.result.now c.lesser-self-inside.result c.args.row c.self.invariant may (ap (set p.progress.fields.sensors.items c.in_ok-place.place) (c.in-Ok.ensures.appended ∙ ap (with_row c.args.row) c.index_mut.ensures.value))))
