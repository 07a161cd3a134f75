use Rattle.std.proofs.Common.{◌≡◌, ◌-◌, length, ap, sym, ◌∙◌, arith}
use Rattle.std.specs.Prelude.{option_map, slice_get}
use Rattle.pt_semantics.specs.Turn.{is_quiet}
use Rattle.pt_history.specs.Turns.{RoomyTurns}
use Rattle.pt_history.specs.Whole.{lists_of}
use Rattle.pt_history.proofs.Quietness.{told_at}
use Rattle.pt_history.proofs.Reading.{length-turns}
use Rattle.pt_history.proofs.history.History.was_quiet.Goals as goal

pub returns : goal.returns
returns c =
    let heads = c.self.inside.heads.items in
    let lists : length c.args.self.now.turns ≡ length heads = ap (λ (v : RoomyTurns). length v.turns) (sym c.self.view_is) ∙ length-turns (lists_of c.self.inside) 0 heads in
    ap (λ (v : RoomyTurns). option_map is_quiet (slice_get v.turns (length c.args.self.now.turns - 1))) (sym c.self.view_is)
    ∙ told_at (lists_of c.self.inside) (length c.args.self.now.turns - 1) heads c.self.inside.last_quiet (omega (arith, lists, c.requires)) (c.self.invariant.quiet.of_last (length c.args.self.now.turns - 1) (omega (arith, lists, c.requires)))
