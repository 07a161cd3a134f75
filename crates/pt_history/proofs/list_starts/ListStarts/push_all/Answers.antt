use Rattle.std.proofs.Common.{◌≡◌, ℕ, ◌+◌, ◌-◌, ◌++◌, length, get_or, replicate, ap, ap₂, sym, subst, ◌∙◌, arith}
use Rattle.std.proofs.lemmas.List.{length_push}
use Rattle.pt_history.specs.Indices.{AreBelow, RoomyItems, values_at}
use Rattle.pt_history.specs.Numbers.{numbers_with}
use Rattle.pt_history.proofs.Blocks.{last_repeated, length_repeated}
use Rattle.pt_history.proofs.NumberLists.{length-with}
use Rattle.pt_history.proofs.ValuesAt.{below_more, below_repeat, pushed_all}
use Rattle.pt_history.proofs.list_starts.ListStarts.push_all.Goals as goal

pub push_all-requires-clause-low : goal.push_all-requires-clause-low
push_all-requires-clause-low c =
    let was : length (numbers_with c.self.inside.in_order c.self.inside.stored.items) ≡ c.self.inside.in_order + length c.self.inside.stored.items = length-with c.self.inside.in_order c.self.inside.stored.items in
    omega (arith, was, c.self.invariant.last, c.len.ensures, c.self.inside.stored.ok.0)

pub push_all-requires-clause-high : goal.push_all-requires-clause-high
push_all-requires-clause-high c =
    let was : length (numbers_with c.self.inside.in_order c.self.inside.stored.items) ≡ c.self.inside.in_order + length c.self.inside.stored.items = length-with c.self.inside.in_order c.self.inside.stored.items in
    omega (arith, was, c.self.invariant.last, c.len.ensures, c.self.inside.stored.ok.0)

pub invariant_of-self : goal.invariant_of-self
invariant_of-self c =
    let values = numbers_with c.self.inside.in_order c.self.inside.stored.items in
    let is = c.self.inside.indices.indices in
    let new = numbers_with c.push_number.new.in_order c.push_number.new.stored.items in
    let index = (c.self.inside.in_order + c.len.result) in
    let times = c.args.times in
    let spare : c.args.self.now.spare ≡ c.self.inside.indices.spare = ap (λ (v : RoomyItems ℕ). v.spare) (sym c.self.view_is) in
    let was : length values ≡ c.self.inside.in_order + length c.self.inside.stored.items = length-with c.self.inside.in_order c.self.inside.stored.items in
    let now : length new ≡ c.push_number.new.in_order + length c.push_number.new.stored.items = length-with c.push_number.new.in_order c.push_number.new.stored.items in
    let long : length new ≡ length values + 1 = ap length c.push_number.ensures.numbers ∙ length_push values c.args.start in
    let last : index ≡ length new - 1 = omega (arith, long, was, c.len.ensures, c.self.inside.stored.ok.0) in
    let many : length c.push_all.new.self.indices ≡ length is + times = ap length c.push_all.ensures.indices ∙ length_repeated is index times in
    record {
      below = subst (AreBelow (length new)) (sym c.push_all.ensures.indices) (below_repeat (length new) index times is (below_more (length values) (length new) is (omega (arith, long)) c.self.invariant.below) (omega (arith, last, long)));
      last = ap (λ l. get_or l (length c.push_all.new.self.indices - 1) 0) c.push_all.ensures.indices ∙ sym (last_repeated is index times (length c.push_all.new.self.indices) c.requires.some many) ∙ last;
      room = omega (arith, c.push_number.ensures.few_stored, c.push_number.ensures.room, c.push_all.ensures.room, c.self.invariant.room, spare, c.requires.some);
      fits = omega (arith, long, was, now, c.push_all.ensures.room, c.self.invariant.fits, spare, c.requires.some);
    }

pub returns-clause-items : goal.returns-clause-items
returns-clause-items c =
    let values = numbers_with c.self.inside.in_order c.self.inside.stored.items in
    let was : length values ≡ c.self.inside.in_order + length c.self.inside.stored.items = length-with c.self.inside.in_order c.self.inside.stored.items in
    let is = c.self.inside.indices.indices in
    ap₂ (λ vs ks. values_at vs ks) c.push_number.ensures.numbers c.push_all.ensures.indices
    ∙ pushed_all values c.args.start is (c.self.inside.in_order + c.len.result) c.args.times (omega (arith, was, c.len.ensures, c.self.inside.stored.ok.0)) c.self.invariant.below
    ∙ ap (λ (v : RoomyItems ℕ). v.items ++ replicate c.args.times c.args.start) c.self.view_is
