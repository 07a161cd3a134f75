use Rattle.std.proofs.Common.{◌≡◌, ◌+◌, ◌-◌, ◌<◌, ◌≤◌, List, get_or, length, arith, sym, subst, inl, ◌∙◌}
use Rattle.pt_types.specs.declared.rows.Row.{Row}
use Rattle.pt_semantics.specs.Lists.{Each, IsIn}
use Rattle.pt_turn.specs.Arrives.Arrived.{AreInOrder}
use Rattle.pt_turn.proofs.Arrives.Order.{is_in_at, is_sensor, seen_all, times_all}
use Rattle.pt_turn.proofs.arrive.testing.test.Goals as goal

pub returns-then-row-before-clause-why : goal.returns-then-row-before-clause-why
returns-then-row-before-clause-why c =
    let rows : List Row = c.as_slice.result.now in
    let last : Row = c.in-Some-last.before.now in
    let some : 0 < length rows = c.in-Some-last.ensures.item.3.0 in
    let is : last ≡ get_or rows (length rows - 1) last = c.in-Some-last.ensures.item.3.1 last in
    record {
      earlier = last;
      is_in = subst (IsIn last) c.as_slice.ensures (subst (λ (z : Row). IsIn z rows) (sym is) (is_in_at rows (length rows - 1) last (omega (arith, some))));
      time = c.if-row-before.true;
    }

pub returns-then-row-before-2-clause-why : goal.returns-then-row-before-2-clause-why
returns-then-row-before-2-clause-why c =
    let rows : List Row = c.as_slice.result.now in
    let last : Row = c.in-Some-last.before.now in
    let some : 0 < length rows = c.in-Some-last.ensures.item.3.0 in
    let is : last ≡ get_or rows (length rows - 1) last = c.in-Some-last.ensures.item.3.1 last in
    inl (record {
      earlier = last;
      is_in = subst (IsIn last) c.as_slice.ensures (subst (λ (z : Row). IsIn z rows) (sym is) (is_in_at rows (length rows - 1) last (omega (arith, some))));
      seen = c.if-row-before-2.true;
    })

pub returns-clause-next : goal.returns-clause-next
returns-clause-next c =
    let rows : List Row = c.as_slice.result.now in
    let last : Row = c.in-Some-last.before.now in
    let some : 0 < length rows = c.in-Some-last.ensures.item.3.0 in
    let is : last ≡ get_or rows (length rows - 1) last = c.in-Some-last.ensures.item.3.1 last in
    let ends : (length rows - 1) + 1 ≡ length rows = omega (arith, some) in
    let order : AreInOrder rows = subst AreInOrder (sym c.as_slice.ensures) c.requires.order in
    let kind = is_sensor _ c.in-Some.bound (sym c.bound_of.ensures ∙ c.in-Some.is) in
    record {
      fits = record { file = kind.0; bound = c.in-Some.bound; sensor = kind.1; in_time = c.in_default-past_limit.ensures; within = omega (arith, c.if-graph-row.false) };
      seen_after = c.if-row.false;
      times = subst (Each (λ (x : Row). x.time < c.args.row.time)) c.as_slice.ensures (times_all rows (length rows - 1) last last c.args.row ends is order.1 c.if-row-before.false);
      seen = subst (Each (λ (x : Row). x.seen ≤ c.args.row.seen)) c.as_slice.ensures (seen_all rows (length rows - 1) last last c.args.row ends is order.0 c.if-row-before-2.false);
      read = c.was_read.ensures.no c.if-was_read.false;
    }
