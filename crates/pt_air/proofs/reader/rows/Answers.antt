use Rattle.std.proofs.Common.{◌≡◌, ◌-◌, ◌+◌, suc, Some, ◌∙◌, ap, sym, Ok, arith, rules, is_ok, true}
use Rattle.std.proofs.lemmas.Result.{err_from_is_err_and}
use Rattle.csv.specs.Records.{fields_of}
use Rattle.pt_air.proofs.Loop.{more, odd, done, too_many, full}
use Rattle.pt_air.proofs.reader.rows.Goals as goal

pub returns-then-not-found : goal.returns-then-not-found
returns-then-not-found c =
    let n = c.loop-index.index in
    let left = c.args.most - (n + 1) in
    let e : c.args.most - n ≡ suc left = omega (arith, c.loop-index-test.true) in
    done (λ r. Some r.now) c.advance.new.reader (fields_of c.advance.new.line) c.args.graph.now left c.loop-index.rows.items _ _ _
    (rw c.if-not-found.true at c.in_ok-found.ensures) (rw e at c.loop-index.invariant.rows) ∙ ap Ok (sym c.new.ensures)

pub returns-in_err-row : goal.returns-in_err-row
returns-in_err-row c =
    let n = c.loop-index.index in
    let left = c.args.most - (n + 1) in
    let e : c.args.most - n ≡ suc left = omega (arith, c.loop-index-test.true) in
    let p = err_from_is_err_and c.from_residual-in_err-row.result c.from_residual-in_err-row.ensures.1 in
    rw (p.1, p.2) (λ _. odd (λ r. Some r.now) c.advance.new.reader (fields_of c.advance.new.line) c.args.graph.now left c.loop-index.rows.items _ _ _ _
    (rw c.if-not-found.false at c.in_ok-found.ensures)
    (rw c.loop-index.invariant.count (rw (← c.as_slice.ensures.value) (sym c.in_err-row.ensures)))
    (rw e at c.loop-index.invariant.rows))

pub loop-index-preserved : goal.loop-index-preserved
loop-index-preserved c =
    let n = c.loop-index.index in
    let left = c.args.most - (n + 1) in
    let e : c.args.most - n ≡ suc left = omega (arith, c.loop-index-test.true) in
    let pushed : is_ok c.push.result ≡ true = search rules in
    let m = more (λ r. Some r.now) c.advance.new.reader (fields_of c.advance.new.line) c.args.graph.now left c.loop-index.rows.items c.in_ok-row.row _ _ _
    (rw c.if-not-found.false at c.in_ok-found.ensures)
    (rw c.loop-index.invariant.count (rw (← c.as_slice.ensures.value) (sym c.in_ok-row.ensures)))
    (rw e at c.loop-index.invariant.rows) in
    let items = rw pushed at c.push.ensures.items in
    let len = rw pushed at c.push.ensures.len in
    record {
      plain = m.plain;
      count = omega (arith, c.loop-index.invariant.count, len);
      rows = rw items m.rest;
    }

pub returns-then-found : goal.returns-then-found
returns-then-found c =
    let zero_left : c.args.most - c.loop-index.index ≡ 0 = omega (arith, c.loop-index-test.false) in
    λ _. too_many (λ r. Some r.now) c.advance-2.new.reader (fields_of c.advance-2.new.line) c.args.graph.now c.loop-index.rows.items _ _ _
    (rw c.if-found.true at c.in_ok-found-2.ensures) (rw zero_left at c.loop-index.invariant.rows)

pub returns-else-found : goal.returns-else-found
returns-else-found c =
    let zero_left : c.args.most - c.loop-index.index ≡ 0 = omega (arith, c.loop-index-test.false) in
    full (λ r. Some r.now) c.advance-2.new.reader (fields_of c.advance-2.new.line) c.args.graph.now c.loop-index.rows.items _ _ _
    (rw c.if-found.false at c.in_ok-found-2.ensures) (rw zero_left at c.loop-index.invariant.rows) ∙ ap Ok (sym c.new-else-found.ensures)
