use Rattle.pt_audit.specs.Parsing.Lines.{Block}
use Rattle.pt_audit.proofs.Loop.{further, stops}
use Rattle.pt_audit.proofs.blocks.verify_blocks.Goals as goal

pub verify_block-requires : goal.verify_block-requires
verify_block-requires g c = record {
  begun =
      let (rows, h) = c.requires.begun in
      let r = c.loop-block.invariant rows h in
      (rows, r.before, r.have);
}

pub returns-then-not-branch : goal.returns-then-not-branch
returns-then-not-branch g c = λ rows h.
    let r = c.loop-block.invariant rows h in
    let b : Block = record { line = c.in-Some.block.line; text = c.in-Some.block.text.now } in
    stops c.args.plan.now rows c.args.log c.loop-block.rest c.next.new.self b c.loop-block.order c.loop-block.last c.loop-block.platforms r c.in-Some.ensures
    (c.in_ok-verify_block.ensures.none rows r.before c.in-Some.block.line r.have c.if-not-branch.true)

pub loop-block-preserved : goal.loop-block-preserved
loop-block-preserved g c = λ rows h.
    let r = c.loop-block.invariant rows h in
    let b : Block = record { line = c.in-Some.block.line; text = c.in-Some.block.text.now } in
    further c.args.plan.now rows c.args.log c.loop-block.rest c.next.new.self b c.loop-block.order c.verify_block.new.order c.loop-block.last c.verify_block.new.last c.loop-block.platforms c.verify_block.new.platforms r c.in-Some.ensures
    (c.in_ok-verify_block.ensures.verified rows r.before c.in-Some.block.line r.have c.if-not-branch.false)
