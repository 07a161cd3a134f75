use Rattle.std.proofs.Common.{◌≡◌, ◌+◌, ◌<◌, ◌/◌, length, subst, arith}
use Rattle.pt_history.specs.declared.head.Head.{Head}
use Rattle.pt_history.specs.Indices.{RoomyItems}
use Rattle.pt_history.specs.Levels.{IsSingleAfter}
use Rattle.pt_history.proofs.HeadLists.{length-heads, single_after}
use Rattle.pt_history.proofs.past_heads.PastHeads.levels.Goals as goal

pub returns : goal.returns
returns c = λ n at is.
    let lasts = c.self.inside.lasts.items in
    let lists = c.self.inside.runs.lists in
    let next : n + 1 < length lasts = c.levels.ensures.next n at is.last in
    let block : (n + 1) / 64 ≡ c.args.block = omega (arith, at, is.inner) in
    let none = c.levels-2.ensures (n + 1) block (omega (arith, next, c.self.invariant.same)) is.run in
    let many = length-heads lasts lists c.self.invariant.same in
    subst (λ (v : RoomyItems Head). IsSingleAfter v.items n) c.self.view_is
    (record { next = omega (arith, many, next); is = λ head was. single_after lasts lists n head c.self.invariant.same next (c.levels.ensures.same n at is.last) none was })
