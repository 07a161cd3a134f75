use Rattle.std.proofs.Common.{length, ap, sym, ◌∙◌}
use Rattle.pt_history.specs.Turns.{RoomyTurns, all_dated}
use Rattle.pt_history.specs.Keeping.{turns_from}
use Rattle.pt_history.specs.Whole.{lists_of}
use Rattle.pt_history.proofs.Dated.{length-results}
use Rattle.pt_history.proofs.Reading.{all_posted}
use Rattle.pt_history.proofs.history.History.results.Goals as goal

pub returns : goal.returns
returns c =
    c.results.ensures
    ∙ ap length (sym (all_posted (lists_of c.self.inside) c.self.inside.heads.items c.self.invariant.posted.lists))
    ∙ sym (length-results (turns_from (lists_of c.self.inside) 0 c.self.inside.heads.items))
    ∙ ap (λ (v : RoomyTurns). length (all_dated v.turns)) c.self.view_is
