use Rattle.std.proofs.Common.{◌≡◌, List, length, ap, sym, ◌∙◌, arith}
use Rattle.std.specs.Prelude.{option_map, slice_get}
use Rattle.pt_history.specs.Tasks.{mark_of}
use Rattle.std.specs.List.{flat_map}
use Rattle.pt_types.specs.declared.firing.Task.{Task}
use Rattle.pt_semantics.specs.Turn.{Turn}
use Rattle.pt_history.specs.Turns.{RoomyTurns}
use Rattle.pt_history.specs.Whole.{lists_of}
use Rattle.pt_history.proofs.Reading.{all_claims}
use Rattle.pt_history.proofs.history.History.mark.Goals as goal

pub mark-requires : goal.mark-requires
mark-requires c =
    let all : flat_map (λ (turn : Turn). turn.claimed) c.args.self.now.turns ≡ flat_map (λ (tasks : List Task). tasks) c.self.inside.work.claimed.lists =
    ap (λ (v : RoomyTurns). flat_map (λ (turn : Turn). turn.claimed) v.turns) (sym c.self.view_is) ∙ all_claims (lists_of c.self.inside) c.self.inside.heads.items c.self.invariant.claimed.lists in
    omega (arith, ap length all, c.requires)

pub returns : goal.returns
returns c =
    let all : flat_map (λ (turn : Turn). turn.claimed) c.args.self.now.turns ≡ flat_map (λ (tasks : List Task). tasks) c.self.inside.work.claimed.lists =
    ap (λ (v : RoomyTurns). flat_map (λ (turn : Turn). turn.claimed) v.turns) (sym c.self.view_is) ∙ all_claims (lists_of c.self.inside) c.self.inside.heads.items c.self.invariant.claimed.lists in
    ap (λ ts. option_map mark_of (slice_get ts c.args.number)) all ∙ c.mark.ensures
