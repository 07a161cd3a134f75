use Rattle.std.proofs.Common.{◌≡◌, ◌+◌, ◌≤◌, length, sym, subst, ◌∙◌, arith}
use Rattle.pt_causality.specs.Delays.{least_of}
use Rattle.pt_slacks.specs.Rows.{AreSlackRows, HasRisen, slack_row_at}
use Rattle.pt_slacks.proofs.Costs.{cheap, hops_len}
use Rattle.pt_slacks.proofs.Pushes.{risen_more, rows_more}
use Rattle.pt_slacks.proofs.Settling.{begun_len, begun_small, ended, read_row, risen, went_on}
use Rattle.pt_slacks.proofs.rows.settle.Goals as goal

pub next_row-requires-clause-len : goal.next_row-requires-clause-len
next_row-requires-clause-len c =
    let rows = c.loop-round.rows.items in
    let m = c.loop-round.round in
    let is = read_row rows m c.index.result.now c.as_slice-row.result.now c.loop-round.invariant.are.len c.as_slice-row.ensures c.index.ensures in
    begun_len c.args.graph.now (least_of c.args.least.now) c.args.hops.now rows m c.as_slice-row.result.now is c.loop-round.invariant.are

pub next_row-requires-clause-row : goal.next_row-requires-clause-row
next_row-requires-clause-row c =
    let rows = c.loop-round.rows.items in
    let m = c.loop-round.round in
    let is = read_row rows m c.index.result.now c.as_slice-row.result.now c.loop-round.invariant.are.len c.as_slice-row.ensures c.index.ensures in
    let same : length c.args.hops.now ≡ length c.args.graph.now.links = hops_len c.args.graph.now c.args.hops.now c.requires.hops in
    let few : length c.args.graph.now.links ≤ 64 = c.requires.lawful.few_links in
    begun_small c.args.graph.now (least_of c.args.least.now) c.args.hops.now rows m c.as_slice-row.result.now is c.loop-round.invariant.are c.requires.lawful (omega (arith, same, few))
    (λ w less. cheap c.args.graph.now c.args.hops.now w c.requires.lawful c.requires.hops less) (omega (arith, same, few))

pub next_row-requires-clause-cost : goal.next_row-requires-clause-cost
next_row-requires-clause-cost c = λ w less. cheap c.args.graph.now c.args.hops.now w c.requires.lawful c.requires.hops less

pub first_risen-requires-clause-len : goal.first_risen-requires-clause-len
first_risen-requires-clause-len c =
    let rows = c.loop-round.rows.items in
    let m = c.loop-round.round in
    let is = read_row rows m c.index.result.now c.as_slice-row.result.now c.loop-round.invariant.are.len c.as_slice-row.ensures c.index.ensures in
    begun_len c.args.graph.now (least_of c.args.least.now) c.args.hops.now rows m c.as_slice-row.result.now is c.loop-round.invariant.are
    ∙ sym (subst (λ xs. length xs ≡ length c.args.hops.now) (sym c.as_slice.ensures) c.in_ok-next.ensures.len)

pub first_risen-requires-clause-few : goal.first_risen-requires-clause-few
first_risen-requires-clause-few c =
    let rows = c.loop-round.rows.items in
    let m = c.loop-round.round in
    let is = read_row rows m c.index.result.now c.as_slice-row.result.now c.loop-round.invariant.are.len c.as_slice-row.ensures c.index.ensures in
    let len : length c.as_slice-row.result.now ≡ length c.args.hops.now = begun_len c.args.graph.now (least_of c.args.least.now) c.args.hops.now rows m c.as_slice-row.result.now is c.loop-round.invariant.are in
    let same : length c.args.hops.now ≡ length c.args.graph.now.links = hops_len c.args.graph.now c.args.hops.now c.requires.hops in
    let few : length c.args.graph.now.links ≤ 64 = c.requires.lawful.few_links in
    omega (arith, len, same, few)

pub returns-in_default : goal.returns-in_default
returns-in_default c =
    let rows = c.loop-round.rows.items in
    let m = c.loop-round.round in
    let is = read_row rows m c.index.result.now c.as_slice-row.result.now c.loop-round.invariant.are.len c.as_slice-row.ensures c.index.ensures in
    let same : length c.args.hops.now ≡ length c.args.graph.now.links = hops_len c.args.graph.now c.args.hops.now c.requires.hops in
    let few : length c.args.graph.now.links ≤ 64 = c.requires.lawful.few_links in
    ended c.args.graph.now (least_of c.args.least.now) c.args.hops.now rows m c.as_slice-row.result.now is c.loop-round.invariant.are c.in_ok-next.next c.as_slice.result.now c.in_ok-next.ensures c.as_slice.ensures c.in_default.ensures
    (begun_small c.args.graph.now (least_of c.args.least.now) c.args.hops.now rows m c.as_slice-row.result.now is c.loop-round.invariant.are c.requires.lawful (omega (arith, same, few))
    (λ w less. cheap c.args.graph.now c.args.hops.now w c.requires.lawful c.requires.hops less) (omega (arith, same, few)))

pub loop-round-preserved : goal.loop-round-preserved
loop-round-preserved c =
    let g = c.args.graph.now in
    let least = least_of c.args.least.now in
    let hops = c.args.hops.now in
    let rows = c.loop-round.rows.items in
    let m = c.loop-round.round in
    let is = read_row rows m c.index.result.now c.as_slice-row.result.now c.loop-round.invariant.are.len c.as_slice-row.ensures c.index.ensures in
    let up = risen g least hops rows m c.as_slice-row.result.now is c.loop-round.invariant.are c.in_ok-next.next c.as_slice.result.now c.in-Some.risen c.as_slice.ensures c.in-Some.ensures in
    record {
      are =
          subst (λ rs. AreSlackRows g least hops rs (m + 1)) (sym c.in_ok-push-2.ensures.items)
          (rows_more g least hops rows c.in_ok-next.next m c.loop-round.invariant.are (went_on g least hops rows m c.as_slice-row.result.now is c.loop-round.invariant.are c.in_ok-next.next c.in_ok-next.ensures));
      rose = λ k same.
          subst (λ rs. HasRisen (length hops) (slack_row_at rs k) (slack_row_at rs (k + 1)) c.in-Some.risen) (sym c.in_ok-push-2.ensures.items)
          (risen_more g least hops rows c.in_ok-next.next (length hops) m c.in-Some.risen c.loop-round.invariant.are up k same);
    }
