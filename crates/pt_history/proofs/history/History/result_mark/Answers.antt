use Rattle.std.proofs.Common.{◌≡◌, List, length, ap, sym, ◌∙◌, arith}
use Rattle.std.specs.Prelude.{option_map, slice_get}
use Rattle.std.specs.List.{flat_map}
use Rattle.pt_types.specs.declared.firing.Done.{Done}
use Rattle.pt_semantics.specs.Turn.{Turn}
use Rattle.pt_history.specs.Tasks.{mark_of}
use Rattle.pt_history.specs.Turns.{RoomyTurns}
use Rattle.pt_history.specs.Whole.{lists_of}
use Rattle.pt_history.proofs.Dated.{length-results, of_result}
use Rattle.pt_history.proofs.Reading.{all_posted}
use Rattle.pt_history.proofs.history.History.result_mark.Goals as goal

pub result_mark-requires : goal.result_mark-requires
result_mark-requires c =
    let all : flat_map (λ (turn : Turn). turn.posted) c.args.self.now.turns ≡ flat_map (λ (dones : List Done). dones) c.self.inside.work.posted.lists =
    ap (λ (v : RoomyTurns). flat_map (λ (turn : Turn). turn.posted) v.turns) (sym c.self.view_is) ∙ all_posted (lists_of c.self.inside) c.self.inside.heads.items c.self.invariant.posted.lists in
    omega (arith, ap length all, length-results c.args.self.now.turns, c.requires)

pub returns : goal.returns
returns c =
    let all : flat_map (λ (turn : Turn). turn.posted) c.args.self.now.turns ≡ flat_map (λ (dones : List Done). dones) c.self.inside.work.posted.lists =
    ap (λ (v : RoomyTurns). flat_map (λ (turn : Turn). turn.posted) v.turns) (sym c.self.view_is) ∙ all_posted (lists_of c.self.inside) c.self.inside.heads.items c.self.invariant.posted.lists in
    of_result (λ (done : Done). mark_of done.task) c.args.self.now.turns c.args.number
    ∙ ap (λ ds. option_map (λ (done : Done). mark_of done.task) (slice_get ds c.args.number)) all ∙ c.result_mark.ensures
