use Rattle.std.proofs.Common.{◌≤◌, ◌<◌, length, subst, ◌∙◌, arith}
use Rattle.std.specs.Prelude.{flat_map}
use Rattle.std.proofs.lemmas.List.{take_all}
use Rattle.std.proofs.lemmas.Result.{err_from_is_err_and}
use Rattle.pt_io.specs.Calls.{writing}
use Rattle.pt_tables.specs.Log.{turn_lines}
use Rattle.pt_tables.specs.Putting.{IsPartPut, IsPut}
use Rattle.pt_tables.specs.TurnLists.{named_lines}
use Rattle.pt_tables.proofs.Out.{next_part, next_put, put_none}
use Rattle.pt_tables.proofs.Parts.{is_there}
use Rattle.pt_tables.proofs.putting.put_turns.Goals as goal

pub loop-number-init : goal.loop-number-init
loop-number-init g c = record {
  platform = c.new-reader.ensures.platform ∙ c.platform_name.ensures;
  at = c.new-reader.ensures.first;
  out = put_none g.K.Sink c.args.out.now;
}

pub loop-number-preserved : goal.loop-number-preserved
loop-number-preserved g c =
    let turns = c.args.history.now.turns in
    let n = c.loop-number.number in
    let graph = c.args.graph.now in
    let inv = c.loop-number.invariant in
    let lt : n < length turns = omega (arith, c.turns-number-end.ensures, c.loop-number-test.true) in
    let (turn, at) = is_there turns n lt in
    record {
      platform = c.in_ok-put_turn.ensures.platform ∙ inv.platform;
      at = c.in_ok-put_turn.ensures.at;
      out =
          next_put g.K.Sink c.args.out.now c.loop-number.out c.put_turn.new.out (turn_lines graph c.args.platform) turns n turn at inv.out
          (subst (λ name. IsPut (writing g.K.Sink c.loop-number.out c.put_turn.new.out) (named_lines graph name turn)) inv.platform (c.in_ok-put_turn.ensures.all turn at));
    }

pub returns-in_err-put_turn-clause-part : goal.returns-in_err-put_turn-clause-part
returns-in_err-put_turn-clause-part g c =
    let turns = c.args.history.now.turns in
    let n = c.loop-number.number in
    let graph = c.args.graph.now in
    let inv = c.loop-number.invariant in
    let lt : n < length turns = omega (arith, c.turns-number-end.ensures, c.loop-number-test.true) in
    let (turn, at) = is_there turns n lt in
    let p = err_from_is_err_and c.from_residual.result c.from_residual.ensures.1 in
    rw p.1
    (next_part g.K.Sink c.args.out.now c.loop-number.out c.put_turn.new.out (turn_lines graph c.args.platform) turns n turn at inv.out
    (subst (λ name. IsPartPut (writing g.K.Sink c.loop-number.out c.put_turn.new.out) (named_lines graph name turn)) inv.platform (c.in_err-put_turn.ensures.part turn at)))

pub returns-clause-all : goal.returns-clause-all
returns-clause-all g c =
    let turns = c.args.history.now.turns in
    let all : length turns ≤ c.loop-number.number = omega (arith, c.turns-number-end.ensures, c.loop-number-test.false) in
    subst (λ ts. IsPut (writing g.K.Sink c.args.out.now c.loop-number.out) (flat_map (turn_lines c.args.graph.now c.args.platform) ts)) (take_all c.loop-number.number turns all) c.loop-number.invariant.out
