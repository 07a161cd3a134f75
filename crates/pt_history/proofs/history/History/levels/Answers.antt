use Rattle.std.proofs.Common.{◌≡◌, ◌<◌, [], length, refl, subst, arith}
use Rattle.pt_semantics.specs.Turn.{Turn}
use Rattle.pt_history.specs.Keeping.{turns_from}
use Rattle.pt_history.specs.Levels.{AreTurnLevels}
use Rattle.pt_history.specs.Turns.{RoomyTurns}
use Rattle.pt_history.specs.Whole.{lists_of}
use Rattle.pt_history.specs.declared.levels.TurnLevels.{TurnLevels}
use Rattle.pt_history.proofs.Reading.{length-turns, list_of, no_head, single_turn}
use Rattle.pt_history.proofs.history.History.levels.Goals as goal

pub returns : goal.returns
returns c =
    let heads = c.self.inside.heads.items in
    let turns = turns_from (lists_of c.self.inside) 0 heads in
    let lists : length turns ≡ length heads = length-turns (lists_of c.self.inside) 0 heads in
    let levels : TurnLevels = record {
      heads = c.levels.result;
      posted = c.posted_levels.result;
      rows = c.levels-2.result;
      taken = c.levels-3.result;
      claimed = c.claimed_levels.result;
      sent = c.levels-4.result;
    } in
    let are : AreTurnLevels turns c.args.block levels = record {
      heads = λ n turn at is was. single_turn (lists_of c.self.inside) heads n turn (c.levels.ensures n at is) was;
      posted = λ n at lt is.
          let low : n < length heads = omega (arith, lists, lt) in
          list_of (λ (turn : Turn). turn.posted) (lists_of c.self.inside) c.self.inside.work.posted.lists n heads no_head [] low refl (c.posted_levels.ensures n at (omega (arith, low, c.self.invariant.posted.lists)) is);
      rows = λ n at lt is.
          let low : n < length heads = omega (arith, lists, lt) in
          list_of (λ (turn : Turn). turn.rows) (lists_of c.self.inside) c.self.inside.rows.lists n heads no_head [] low refl (c.levels-2.ensures n at (omega (arith, low, c.self.invariant.rows.lists)) is);
      taken = λ n at lt is.
          let low : n < length heads = omega (arith, lists, lt) in
          list_of (λ (turn : Turn). turn.taken) (lists_of c.self.inside) c.self.inside.taken.lists n heads no_head [] low refl (c.levels-3.ensures n at (omega (arith, low, c.self.invariant.taken.lists)) is);
      claimed = λ n at lt is.
          let low : n < length heads = omega (arith, lists, lt) in
          list_of (λ (turn : Turn). turn.claimed) (lists_of c.self.inside) c.self.inside.work.claimed.lists n heads no_head [] low refl (c.claimed_levels.ensures n at (omega (arith, low, c.self.invariant.claimed.lists)) is);
      sent = λ n at lt is.
          let low : n < length heads = omega (arith, lists, lt) in
          list_of (λ (turn : Turn). turn.sent) (lists_of c.self.inside) c.self.inside.sent.lists n heads no_head [] low refl (c.levels-4.ensures n at (omega (arith, low, c.self.invariant.sent.lists)) is);
    } in
    subst (λ (v : RoomyTurns). AreTurnLevels v.turns c.args.block levels) c.self.view_is are
