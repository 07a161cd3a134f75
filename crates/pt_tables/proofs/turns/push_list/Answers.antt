use Rattle.std.proofs.Common.{◌≤◌, ◌++◌, List, ℕ, length, take, ap, string_bytes, sym, ◌∙◌, arith}
use Rattle.std.proofs.lemmas.List.{append_assoc, take_all}
use Rattle.pt_tables.specs.TurnLists.{all_lines, entry_lines}
use Rattle.pt_tables.proofs.Out.{one_more_lines}
use Rattle.pt_tables.proofs.Parts.{claimed_more, posted_more}
use Rattle.pt_tables.proofs.TurnLists.{counted}
use Rattle.pt_tables.proofs.turns.push_list.Goals as goal

pub count-index-end-requires-clause-results : goal.count-index-end-requires-clause-results
count-index-end-requires-clause-results c = omega (arith, c.requires.lists.results, c.requires.lists.through.results, posted_more c.args.history.now.turns c.args.lists.now.number c.requires.number)

pub count-index-end-requires-clause-claims : goal.count-index-end-requires-clause-claims
count-index-end-requires-clause-claims c = omega (arith, c.requires.lists.claims, c.requires.lists.through.claims, claimed_more c.args.history.now.turns c.args.lists.now.number c.requires.number)

abbrev own_line : List ℕ → List ℕ
own_line line = line

pub loop-index-preserved : goal.loop-index-preserved
loop-index-preserved c = λ turn at.
    let lines = entry_lines c.args.graph.now turn c.args.list in
    let n = c.loop-index.index in
    let old : List ℕ = string_bytes c.args.text.now in
    let line : List ℕ = c.write.new.pen.line in
    c.in_ok-push_str.ensures.bytes
    ∙ ap (λ l. string_bytes c.loop-index.text ++ l) c.as_str.ensures
    ∙ ap (λ l. l ++ line) (c.loop-index.invariant turn at)
    ∙ append_assoc old (all_lines (take n lines)) line
    ∙ ap (λ l. old ++ l) (sym (one_more_lines own_line lines n line (c.write.ensures turn at)))

pub returns : goal.returns
returns c = λ turn at.
    let lines = entry_lines c.args.graph.now turn c.args.list in
    let all : length lines ≤ c.loop-index.index = omega (arith, c.loop-index-test.false, c.count-index-end.ensures, counted c.args.graph.now c.args.history.now.turns c.args.lists.now turn c.args.list c.requires.number c.requires.lists at) in
    c.loop-index.invariant turn at ∙ ap (λ ls. string_bytes c.args.text.now ++ all_lines ls) (take_all c.loop-index.index lines all)
