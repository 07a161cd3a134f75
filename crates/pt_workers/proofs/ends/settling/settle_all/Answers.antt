use Rattle.std.proofs.Common.{◌≡◌, ◌∷◌, [], Some, length, sym, append-nil, arith}
use Rattle.std.proofs.lemmas.Option.{slice_get_within}
use Rattle.pt_workers.specs.LinkEnds.Settled.{LinkIsSettled}
use Rattle.pt_workers.proofs.LinkEnds.Returning.{more_left, of_both, one_pair, settled_more}
use Rattle.pt_workers.proofs.ends.settling.settle_all.Goals as goal

pub loop-outlet-init : goal.loop-outlet-init
loop-outlet-init g c = record {
  count = c.requires.count;
  outs = ([], sym (append-nil c.args.outlets.items));
  ins = ([], sym (append-nil c.args.inlets.items));
  settled = λ l o i le at at'. let w = slice_get_within c.args.outlets.items l (Some o) at in absurd (omega (arith, w, le));
}

pub settle_one-requires : goal.settle_one-requires
settle_one-requires g c =
    let inv = c.loop-outlet.invariant in
    let a : length c.pop-in-Some.new.self.items ≡ length c.pop.new.self.items = omega (arith, c.pop-in-Some.new.self.ok.0, c.pop.new.self.ok.0, c.in-Some.ensures.cases, c.in-Some-pop.ensures.cases, inv.count) in
    one_pair c.pop.new.self.items c.loop-outlet.outlets.items inv.outs.0 c.args.outlets.items c.pop-in-Some.new.self.items c.loop-outlet.inlets.items inv.ins.0 c.args.inlets.items c.in-Some.outlet c.in-Some-pop.inlet
    c.in-Some.ensures.items inv.outs.1 c.in-Some-pop.ensures.items inv.ins.1 a c.requires.ends

pub loop-outlet-preserved : goal.loop-outlet-preserved
loop-outlet-preserved g c =
    let inv = c.loop-outlet.invariant in
    let a : length c.pop-in-Some.new.self.items ≡ length c.pop.new.self.items = omega (arith, c.pop-in-Some.new.self.ok.0, c.pop.new.self.ok.0, c.in-Some.ensures.cases, c.in-Some-pop.ensures.cases, inv.count) in record {
      count = omega (arith, c.in-Some.ensures.cases, c.in-Some-pop.ensures.cases, inv.count);
      outs = (c.in-Some.outlet ∷ inv.outs.0, more_left c.pop.new.self.items c.loop-outlet.outlets.items inv.outs.0 c.args.outlets.items c.in-Some.outlet c.in-Some.ensures.items inv.outs.1);
      ins = (c.in-Some-pop.inlet ∷ inv.ins.0, more_left c.pop-in-Some.new.self.items c.loop-outlet.inlets.items inv.ins.0 c.args.inlets.items c.in-Some-pop.inlet c.in-Some-pop.ensures.items inv.ins.1);
      settled = settled_more c.pop.new.self.items c.loop-outlet.outlets.items inv.outs.0 c.args.outlets.items c.pop-in-Some.new.self.items c.loop-outlet.inlets.items inv.ins.0 c.args.inlets.items c.in-Some.outlet c.in-Some-pop.inlet
          c.in-Some.ensures.items inv.outs.1 c.in-Some-pop.ensures.items inv.ins.1 a (of_both LinkIsSettled c.in-Some.outlet c.in-Some-pop.inlet c.settle_one.ensures) inv.settled;
    }
