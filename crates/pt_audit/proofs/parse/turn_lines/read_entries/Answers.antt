use Rattle.std.proofs.Common.{refl}
use Rattle.std.proofs.lemmas.Option.{none-some}
use Rattle.pt_audit.proofs.Parsing.Reading.{after_shorter, all_read, empty_rest, line_at, next_item, reads_on, some_rest}
use Rattle.pt_audit.proofs.parse.turn_lines.read_entries.Goals as goal

pub returns-in_default : goal.returns-in_default
returns-in_default c items logged e =
    let next = next_item c.args.graph.now items c.args.hints.now c.loop-rest.rest.now c.loop-rest.hints c.requires.lawful (some_rest c.loop-rest.rest.now c.loop-rest-test.ensures) (c.loop-rest.invariant.reads items logged e) in
    absurd (none-some _ (c.in_default.ensures next.item next.logged (line_at c.loop-rest.rest.now _ _ c.cut.ensures.before next.line)))

pub loop-rest-smaller : goal.loop-rest-smaller
loop-rest-smaller c = rw c.cut.ensures.after (after_shorter 10 c.loop-rest.rest.now (some_rest c.loop-rest.rest.now c.loop-rest-test.ensures))

pub loop-rest-preserved : goal.loop-rest-preserved
loop-rest-preserved c = reads_on c.args.graph.now c.args.text.now c.args.hints.now c.loop-rest.rest.now c.loop-rest.hints c.cut.result.0.now c.cut.result.1.now c.in-Some.entry c.add.new.self c.requires.lawful (some_rest c.loop-rest.rest.now c.loop-rest-test.ensures) c.loop-rest.invariant c.cut.ensures.before c.cut.ensures.after c.in-Some.ensures c.in_ok-add.ensures.tally c.in_ok-add.ensures.claims

pub returns : goal.returns
returns c items logged e = (refl, all_read c.args.graph.now items c.args.hints.now c.loop-rest.rest.now c.loop-rest.hints (empty_rest c.loop-rest.rest.now c.loop-rest-test.ensures) (c.loop-rest.invariant.reads items logged e))
