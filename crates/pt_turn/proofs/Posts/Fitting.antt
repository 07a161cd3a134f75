-- The sums of open claims stay small.
use Rattle.std.proofs.Common.{◌+◌, ◌*◌, ◌<◌, ◌≤◌, length, arith}
use Rattle.std.proofs.lemmas.Bool.{leb-true}
use Rattle.std.proofs.lemmas.Nat.{mul-le}
use Rattle.pt_semantics.specs.Floor.{IsBounded}
use Rattle.pt_semantics.proofs.Acyclic.{levels_are_small}
use Rattle.pt_semantics.proofs.Lookups.{Each-in, Each-from}
use Rattle.pt_causality.proofs.Lawful.{wires_are_light}
use Rattle.pt_turn.specs.declared.state.fields.OpenClaim.{OpenClaim}
use Rattle.pt_turn.specs.Fields.State.{IsOpen}
use Rattle.pt_turn.specs.Posts.Sent.{SumsFit}
use Rattle.pt_turn.specs.Posts.Posted.{OpenClaimsFit}

pub open_claims_fit : OpenClaimsFit
open_claims_fit g level claimed f taken lawful wired levels sound bounded =
    Each-from (λ (c : OpenClaim). SumsFit g c.task.actor c.task.tag) f.open_claims.items (λ c mem e there from.
    let is : IsOpen g f.open_claims.items c = Each-in (IsOpen g f.open_claims.items) f.open_claims.items sound.open_claims c mem in
    let at : IsBounded g level c.unit.actor c.task.tag = bounded.busy c.unit c.task is.found in
    let few : length g.actors ≤ 1024 = lawful.few_actors in
    let until : g.until ≤ 1000000000000000 = leb-true g.until 1000000000000000 lawful.until in
    let time : c.task.tag.time ≤ 1000000000000000 = omega (arith, at.0, until) in
    let step : c.task.tag.step ≤ length g.actors * c.task.tag.time + level c.unit.actor = at.1 in
    let low : level c.unit.actor ≤ length g.actors = levels_are_small g level wired levels c.unit.actor in
    let product : length g.actors * c.task.tag.time ≤ 1024 * 1000000000000000 = mul-le (length g.actors) c.task.tag.time 1024 1000000000000000 few time in
    let light = wires_are_light g e lawful there in
    let light_time : e.weight.time ≤ 1000000000000000 = light.0 in
    let light_step : e.weight.step ≤ 1 = light.1 in
    let sum_time : c.task.tag.time + e.weight.time < 18446744073709551616 = omega (arith, time, light_time) in
    let sum_step : c.task.tag.step + e.weight.step < 18446744073709551616 = omega (arith, step, low, few, product, light_step) in
    (sum_time, sum_step))
