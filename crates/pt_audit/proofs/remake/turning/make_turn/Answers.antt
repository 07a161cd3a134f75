use Rattle.std.proofs.Common.{◌≡◌, ℕ, Some, max, None, length, sym, ap, subst, ◌∙◌, rules}
use Rattle.pt_turn.specs.Platforms.{PlatformView, level_at, state_at}
use Rattle.pt_turn.specs.Turned.{IsTurned, MayCome}
use Rattle.pt_visits.proofs.Visits.{MakesTurn, without_room}
use Rattle.pt_audit.proofs.remake.turning.make_turn.Goals as goal

pub turn-requires-clause-taken : goal.turn-requires-clause-taken
turn-requires-clause-taken c =
    let room : c.room.new.self ≡ record c.args.platform.now { room = Some (record { reading = c.args.hints.now.last; done = length c.args.dones.now; taken = c.len.result; most = c.max-most.result }) } = c.in_ok-room.ensures.room in
    subst (λ (v : PlatformView). MayCome v.plan.graph (level_at v) v.number (state_at v) c.as_slice.result.now) (sym room)
    (subst (MayCome c.args.platform.now.plan.graph (level_at c.args.platform.now) c.args.platform.now.number (state_at c.args.platform.now)) (sym c.as_slice.ensures.value) c.requires.taken)

pub returns : goal.returns
returns c =
    let v = c.args.platform.now in
    let room : c.room.new.self ≡ record v { room = Some (record { reading = c.args.hints.now.last; done = length c.args.dones.now; taken = c.len.result; most = c.max-most.result }) } = c.in_ok-room.ensures.room in
    let no_fault : c.room.new.self.fault ≡ None = ap (λ (z : PlatformView). z.fault) room ∙ c.requires.no_fault in
    let most : c.max-most.result ≡ max 1 c.args.hints.now.claims = search rules in
    let turned : MakesTurn c.max-most.result v c.turn.new.self c.args.hints.now.last c.args.dones.now c.as_slice.result.now c.reserve.new.self.tasks c.turn.new.tasks.tasks =
    without_room c.max-most.result v c.turn.new.self (Some (record { reading = c.args.hints.now.last; done = length c.args.dones.now; taken = c.len.result; most = c.max-most.result })) c.args.hints.now.last c.args.dones.now c.as_slice.result.now c.reserve.new.self.tasks c.turn.new.tasks.tasks
    (subst (λ (z : PlatformView). MakesTurn c.max-most.result z c.turn.new.self c.args.hints.now.last c.args.dones.now c.as_slice.result.now c.reserve.new.self.tasks c.turn.new.tasks.tasks) room (c.turn.ensures.turned no_fault)) in (
      subst (λ (n : ℕ). IsTurned v c.turn.new.self c.args.hints.now.last n c.args.dones.now c.args.hints.now.taken.items) most
          (subst (λ ms. IsTurned v c.turn.new.self c.args.hints.now.last c.max-most.result c.args.dones.now ms) c.as_slice.ensures.value turned.0),
      turned.2,
    )
