use Rattle.std.proofs.Common.{◌<◌, ℕ, [], refl, sym, subst, ◌∙◌, append-nil, vec_len, length}
use Rattle.pt_workers.proofs.LinkEnds.Laying.{front_less, last_is, laid_more, others_same}
use Rattle.pt_workers.proofs.LinkEnds.Lists.{none_past}
use Rattle.pt_workers.proofs.ends.places.lay.Goals as goal

pub loop-number-init : goal.loop-number-init
loop-number-init g c = record {
  count = refl;
  front = ([], sym (append-nil c.args.things.items));
  laid = λ i e le at. absurd (none_past c.args.things.items i e le at);
  others = λ n none. refl;
}

pub index_mut-place-requires : goal.index_mut-place-requires
index_mut-place-requires g c =
    let inv = c.loop-number.invariant in
    let xs = c.pop.new.self.items in
    let x : ℕ × g.row.T.Denot = (c.in-Some.number, c.in-Some.thing) in
    let at = last_is xs c.loop-number.things.items inv.front.0 c.args.things.items x c.in-Some.ensures.items inv.front.1 in
    subst (λ (n : ℕ). c.in-Some.number < n) (sym inv.count) (c.requires.within (length xs) x at)

pub loop-number-preserved-in-Some : goal.loop-number-preserved-in-Some
loop-number-preserved-in-Some g c =
    let inv = c.loop-number.invariant in
    let xs = c.pop.new.self.items in
    let ys = c.loop-number.things.items in
    let orig = c.args.things.items in
    let x : ℕ × g.row.T.Denot = (c.in-Some.number, c.in-Some.thing) in
    let is = c.in-Some.ensures.items in record {
      count = inv.count;
      front = front_less xs ys inv.front.0 orig x is inv.front.1;
      laid = laid_more xs ys inv.front.0 orig x is inv.front.1 c.loop-number.places.items c.replace.new.self (vec_len c.args.places.now) c.requires.distinct c.requires.within (sym inv.count ∙ c.loop-number.places.ok.0) c.replace.ensures.after inv.laid;
      others = λ n none. others_same xs ys inv.front.0 orig x is inv.front.1 c.loop-number.places.items c.replace.new.self n none ∙ inv.others n none;
    }

pub loop-number-preserved : goal.loop-number-preserved
loop-number-preserved g c =
    let inv = c.loop-number.invariant in
    let xs = c.pop.new.self.items in
    let ys = c.loop-number.things.items in
    let orig = c.args.things.items in
    let x : ℕ × g.row.T.Denot = (c.in-Some.number, c.in-Some.thing) in
    let is = c.in-Some.ensures.items in record {
      count = inv.count;
      front = front_less xs ys inv.front.0 orig x is inv.front.1;
      laid = laid_more xs ys inv.front.0 orig x is inv.front.1 c.loop-number.places.items c.replace.new.self (vec_len c.args.places.now) c.requires.distinct c.requires.within (sym inv.count ∙ c.loop-number.places.ok.0) c.replace.ensures.after inv.laid;
      others = λ n none. others_same xs ys inv.front.0 orig x is inv.front.1 c.loop-number.places.items c.replace.new.self n none ∙ inv.others n none;
    }
