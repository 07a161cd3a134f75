use Rattle.std.proofs.Common.{◌≡◌, ◌<◌, ◌≤◌, ◌^◌, ◌+◌, ◌-◌, ◌==◌, [], List, ℕ, true, false, length, slice_index, slice_index_or, sym, subst, ap, ◌∙◌, arith}
use Rattle.std.specs.List.{list_any}
use Rattle.std.proofs.lemmas.List.{get_or_read}
use Rattle.std.specs.Prelude.{reverse}
use Rattle.pt_causality.specs.Delays.{least_of}
use Rattle.pt_slacks.specs.Rows.{slack_row_at}
use Rattle.pt_slacks.specs.Trails.{IsRaisedByTrail}
use Rattle.pt_slacks.proofs.Costs.{cheap, hops_len}
use Rattle.pt_slacks.proofs.Rounds.{row_len, rows_fit}
use Rattle.pt_slacks.proofs.Walking.{asks_at, back, closes, none_asks, walk_ends, walk_more}
use Rattle.pt_slacks.proofs.ring.ring_of.Goals as goal

-- the row of a round
row_read : (rows : List (List ℕ)) (n step : ℕ) (item row : List ℕ) → length rows ≡ (n + 1) + 1 → row ≡ item → item ≡ slice_index_or rows (n - step) item → row ≡ slack_row_at rows (n - step)
row_read rows n step item row len same read = same ∙ get_or_read rows (n - step) item (omega (arith, len)) read []

pub raiser-requires-clause-len : goal.raiser-requires-clause-len
raiser-requires-clause-len c =
    let n = length c.args.hops.now in
    let rows = c.args.rows.now in
    let is_row = row_read rows n c.loop-step.step c.index-rows-round.result c.as_slice.result.now c.requires.rising.are.len c.as_slice.ensures c.index-rows-round.is in
    ap length is_row ∙ row_len c.args.graph.now (least_of c.args.least.now) c.args.hops.now rows (n + 1) (n - c.loop-step.step) c.requires.rising.are (omega arith)

pub raiser-requires-clause-row : goal.raiser-requires-clause-row
raiser-requires-clause-row c =
    let n = length c.args.hops.now in
    let rows = c.args.rows.now in
    let is_row = row_read rows n c.loop-step.step c.index-rows-round.result c.as_slice.result.now c.requires.rising.are.len c.as_slice.ensures c.index-rows-round.is in
    let same : n ≡ length c.args.graph.now.links = hops_len c.args.graph.now c.args.hops.now c.requires.hops in
    let few : length c.args.graph.now.links ≤ 64 = c.requires.lawful.few_links in
    λ w below.
    subst (λ r. slice_index r w < 2 ^ 62) (sym is_row)
    (rows_fit c.args.graph.now (least_of c.args.least.now) c.args.hops.now rows (n + 1) c.requires.lawful (omega (arith, same, few))
    (λ v less. cheap c.args.graph.now c.args.hops.now v c.requires.lawful c.requires.hops less) c.requires.rising.are (n - c.loop-step.step) (omega arith) (omega (arith, same, few)) w below)

pub raiser-requires-clause-cost : goal.raiser-requires-clause-cost
raiser-requires-clause-cost c = λ w less. cheap c.args.graph.now c.args.hops.now w c.requires.lawful c.requires.hops less

pub closed-requires-clause-closing : goal.closed-requires-clause-closing
closed-requires-clause-closing c =
    let g = c.args.graph.now in
    let least = least_of c.args.least.now in
    let hops = c.args.hops.now in
    let n = length hops in
    let rows = c.args.rows.now in
    let step = c.loop-step.step in
    let at = c.loop-step.at in
    let from = c.in-Some.from in
    let trail = c.loop-step.trail.items in
    let is_row = row_read rows n step c.index-rows-round.result c.as_slice.result.now c.requires.rising.are.len c.as_slice.ensures c.index-rows-round.is in
    let b = back g least hops rows c.requires.rising.are step trail at c.loop-step-test.true c.loop-step.invariant in
    let room : b.risen + (step + 1) ≡ n = b.place in
    let place : n - step ≡ b.risen + 1 = omega (arith, room) in
    let asks = asks_at g least hops rows c.requires.rising.are c.as_slice.result.now c.slack_at-slack.result (n - step) b.risen at from is_row c.slack_at-slack.ensures place c.in-Some.ensures.1 in
    let on : list_any (λ x. x == from) (reverse trail) ≡ true = sym (ap (λ xs. list_any (λ x. x == from) (reverse xs)) c.as_slice-in-loop-step.ensures.value) ∙ sym c.is_on.ensures ∙ c.if-is_on.true in
    subst (λ xs. IsRaisedByTrail hops least rows xs (n - step) from) (sym c.as_slice-then-is_on.ensures.value)
    (closes g least hops rows c.requires.rising.are step at from (n - step) trail b place c.in-Some.ensures.0 asks on)

pub loop-step-preserved : goal.loop-step-preserved
loop-step-preserved c =
    let g = c.args.graph.now in
    let least = least_of c.args.least.now in
    let hops = c.args.hops.now in
    let n = length hops in
    let rows = c.args.rows.now in
    let step = c.loop-step.step in
    let at = c.loop-step.at in
    let from = c.in-Some.from in
    let trail = c.loop-step.trail.items in
    let is_row = row_read rows n step c.index-rows-round.result c.as_slice.result.now c.requires.rising.are.len c.as_slice.ensures c.index-rows-round.is in
    let b = back g least hops rows c.requires.rising.are step trail at c.loop-step-test.true c.loop-step.invariant in
    let room : b.risen + (step + 1) ≡ n = b.place in
    let place : n - step ≡ b.risen + 1 = omega (arith, room) in
    let asks = asks_at g least hops rows c.requires.rising.are c.as_slice.result.now c.slack_at-slack.result (n - step) b.risen at from is_row c.slack_at-slack.ensures place c.in-Some.ensures.1 in
    let off : list_any (λ x. x == from) (reverse trail) ≡ false = sym (ap (λ xs. list_any (λ x. x == from) (reverse xs)) c.as_slice-in-loop-step.ensures.value) ∙ sym c.is_on.ensures ∙ c.if-is_on.false in
    walk_more g least hops rows c.requires.rising.are step at from trail c.push-in-loop-step.new.self.items b.risen b.others room b.are c.in_ok-push-2.ensures.items b.is_trail c.in-Some.ensures.0 asks off

pub returns-in_default : goal.returns-in_default
returns-in_default c =
    let g = c.args.graph.now in
    let least = least_of c.args.least.now in
    let hops = c.args.hops.now in
    let n = length hops in
    let rows = c.args.rows.now in
    let step = c.loop-step.step in
    let is_row = row_read rows n step c.index-rows-round.result c.as_slice.result.now c.requires.rising.are.len c.as_slice.ensures c.index-rows-round.is in
    let b = back g least hops rows c.requires.rising.are step c.loop-step.trail.items c.loop-step.at c.loop-step-test.true c.loop-step.invariant in
    let room : b.risen + (step + 1) ≡ n = b.place in
    let place : n - step ≡ b.risen + 1 = omega (arith, room) in
    absurd
    (none_asks g least hops rows c.requires.rising.are c.as_slice.result.now c.slack_at-slack.result (n - step) b.risen c.loop-step.at is_row c.slack_at-slack.ensures place (omega (arith, room)) b.is_trail.on.0 c.in_default.ensures)

pub returns : goal.returns
returns c =
    absurd
    (walk_ends c.args.graph.now (least_of c.args.least.now) c.args.hops.now c.args.rows.now c.requires.rising.are c.loop-step.trail.items c.loop-step.at c.loop-step.step (omega arith) c.loop-step.invariant)
