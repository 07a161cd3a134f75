use Rattle.std.proofs.Common.{◌∙◌, sym, ap, arith, take}
use Rattle.std.proofs.Math.Path.{fun_ext}
use Rattle.std.proofs.lemmas.List.{take_all, drop_all}
use Rattle.pt_types.specs.Ends.{is_fed, fed_twice_from}
use Rattle.pt_graph.proofs.Inputs.{put_input, other_input}
use Rattle.pt_graph.proofs.index.fed_inputs.Goals as goal

pub loop-i-preserved : goal.loop-i-preserved
loop-i-preserved c = record {
  left = other_input c.args.wires.now c.loop-i.i _ (omega arith) (sym (c.loop-i.invariant.fed _ _) ∙ (sym c.contains.ensures ∙ c.if-contains.false)) ∙ c.loop-i.invariant.left;
  fed = put_input c.args.wires.now c.loop-i.i _ c.loop-i.fed c.insert.new.self (omega arith) c.loop-i.invariant.fed c.in-Ok.ensures.updates;
}

pub returns : goal.returns
returns c = record {
  once = sym c.loop-i.invariant.left ∙ ap (fed_twice_from (take c.loop-i.i c.args.wires.now) c.loop-i.i) (drop_all c.loop-i.i c.args.wires.now c.loop-i-test.false);
  fed = fun_ext (λ a. fun_ext (λ p. c.loop-i.invariant.fed a p ∙ ap (λ xs. is_fed xs a p) (take_all c.loop-i.i c.args.wires.now c.loop-i-test.false)));
}
