use Rattle.std.proofs.Common.{◌≡◌, ◌+◌, ◌∷◌, ◌++◌, [], List, Some, length, take, sym, ap, subst, ◌∙◌, arith}
use Rattle.std.specs.Prelude.{slice_get}
use Rattle.std.proofs.Math.Seq.{take-length}
use Rattle.std.proofs.lemmas.Option.{slice_get-get_or}
use Rattle.pt_types.specs.declared.firing.Task.{Task}
use Rattle.pt_actors.specs.Room.{Roomy}
use Rattle.pt_pool.specs.Stations.Stations.{HavePlaced}
use Rattle.pt_pool.proofs.Stations.Places.{placed_left, placed_none, placed_one}
use Rattle.pt_pool.proofs.station.placing.place_all.Goals.{in-Err, in_default}
use Rattle.pt_pool.proofs.station.placing.place_all.Goals as goal

pub loop-k-init : goal.loop-k-init
loop-k-init c = record {
  room = omega arith;
  placed = placed_none c.args.keeper.now c.args.left.now.tasks;
}

pub loop-k-preserved : goal.loop-k-preserved
loop-k-preserved c =
    let inv = c.loop-k.invariant in
    let k = c.loop-k.k in
    let tasks = c.args.tasks.now in
    let old = c.args.keeper.now in
    let mid = c.loop-k.keeper in
    let handed = c.args.left.now.tasks in
    let now = c.loop-k.left.tasks in
    let task : Task = c.index-tasks-k.result in
    let here : slice_get tasks k ≡ Some task = slice_get-get_or tasks k task c.loop-k-test.true ∙ ap Some (sym c.index-tasks-k.is) in
    elim c.match-place.branch [
      | in-Err w ↦
          let e = w.in-Err.ensures.placed in
          let pushed : w.push.new.self.tasks ≡ now ++ task ∷ [] = w.push.ensures.tasks ∙ ap (λ (t : Task). now ++ t ∷ []) e.0 in
          let same : c.match-place.left.tasks ≡ w.push.new.self.tasks = ap (λ (r : Roomy). r.tasks) w.left-is in
          let spare : c.match-place.left.spare ≡ w.push.new.self.spare = ap (λ (r : Roomy). r.spare) w.left-is in
          record {
            room = omega (arith, w.push.ensures.spare, spare, inv.room);
            placed = placed_left tasks k old mid handed now inv.placed task here c.place.new.keeper c.match-place.left.tasks e.1 e.2 (same ∙ pushed);
          }
      | in_default w ↦
          let same : c.match-place.left.tasks ≡ now = ap (λ (r : Roomy). r.tasks) w.left-is in
          let spare : c.match-place.left.spare ≡ c.loop-k.left.spare = ap (λ (r : Roomy). r.spare) w.left-is in
          record {
            room = omega (arith, spare, inv.room);
            placed = subst (HavePlaced (take (k + 1) tasks) old c.place.new.keeper handed) (sym same) (placed_one tasks k old mid handed now inv.placed task here c.place.new.keeper w.in_default.ensures.placed);
          }
    ]

pub returns : goal.returns
returns c =
    let tasks = c.args.tasks.now in
    let all : c.loop-k.k ≡ length tasks = omega arith in
    subst (λ (z : List Task). HavePlaced z c.args.keeper.now c.loop-k.keeper c.args.left.now.tasks c.loop-k.left.tasks)
    (ap (λ n. take n tasks) all ∙ take-length tasks)
    c.loop-k.invariant.placed
