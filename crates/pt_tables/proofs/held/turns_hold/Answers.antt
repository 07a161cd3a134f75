use Rattle.std.proofs.Common.{◌≤◌, ◌<◌, length, slice_get, subst, arith}
use Rattle.std.proofs.lemmas.Option.{slice_get_within}
use Rattle.pt_semantics.specs.Lists.{Each}
use Rattle.pt_semantics.specs.Turn.{Turn}
use Rattle.pt_history.specs.Turns.{posted_in}
use Rattle.pt_history.proofs.InTurn.{posted_is}
use Rattle.pt_tables.specs.Held.{HasHeldHead, IsHeldMessage, IsHeldResult, IsHeldTurn}
use Rattle.pt_tables.proofs.Members.{each_of, one_more_at}
use Rattle.pt_tables.proofs.Written.{read_of}
use Rattle.pt_tables.proofs.held.turns_hold.Goals as goal

pub loop-number-preserved : goal.loop-number-preserved
loop-number-preserved c =
    let inv = c.loop-number.invariant in
    record {
      levels = c.renew_levels.ensures;
      held = one_more_at (λ (turn : Turn). HasHeldHead turn × Each IsHeldMessage turn.taken × Each IsHeldMessage turn.sent) c.args.history.now.turns c.loop-number.number c.turn_holds.ensures inv.held;
    }

pub returns : goal.returns
returns c =
    let turns = c.args.history.now.turns in
    let all : length turns ≤ c.loop-number.number = omega (arith, c.turns-number-end.ensures, c.loop-number-test.false) in
    each_of IsHeldTurn turns (λ k turn at.
    let lt : k < length turns = slice_get_within turns k turn at in
    let (head, taken, sent) = c.loop-number.invariant.held k turn (omega (arith, lt, all)) at in
    record {
      first = head.first;
      last = head.last;
      count = head.count;
      lists = record {
        posted = subst (Each IsHeldResult) (read_of (λ (t : Turn). t.posted) (slice_get turns k) turn (posted_in turns k) at (posted_is turns k lt)) (c.results_hold.ensures k lt);
        taken = taken;
        sent = sent;
      };
    })
