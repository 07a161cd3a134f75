use Rattle.std.proofs.Common.{◌≡◌, ◌<◌, ◌-◌, Some, ap, slice_get, subst, sym, ◌∙◌}
use Rattle.pt_history.specs.Turns.{claimed_in, posted_in}
use Rattle.pt_history.proofs.InTurn.{claimed_is, posted_is}
use Rattle.pt_semantics.specs.Turn.{Turn}
use Rattle.pt_tables.specs.Log.{claim_line, post_line}
use Rattle.pt_tables.specs.TurnLists.{count_of, entry_lines}
use Rattle.pt_tables.proofs.Parts.{claimed_item, posted_item}
use Rattle.pt_tables.proofs.TurnLists.{line_of}
use Rattle.pt_tables.proofs.Written.{read_of}
use Rattle.pt_tables.proofs.turn_lists.TurnLists.write.Goals as goal

pub result_mark-requires : goal.result_mark-requires
result_mark-requires c =
    let lists = c.args.self.now in
    let inside : c.args.index < lists.through.results - lists.before.results = subst (λ list. c.args.index < count_of lists list) c.in-Posted.is c.requires.index in
    let (done, is) = posted_item c.args.history.now.turns lists.number lists.before.results lists.through.results c.args.index c.requires.number c.requires.lists.results c.requires.lists.through.results inside in
    is.within

pub mark-requires : goal.mark-requires
mark-requires c =
    let lists = c.args.self.now in
    let inside : c.args.index < lists.through.claims - lists.before.claims = subst (λ list. c.args.index < count_of lists list) c.in-Claimed.is c.requires.index in
    let (task, is) = claimed_item c.args.history.now.turns lists.number lists.before.claims lists.through.claims c.args.index c.requires.number c.requires.lists.claims c.requires.lists.through.claims inside in
    is.within

pub returns-in-Posted : goal.returns-in-Posted
returns-in-Posted c = λ turn at.
    let turns = c.args.history.now.turns in
    let lists = c.args.self.now in
    let inside : c.args.index < lists.through.results - lists.before.results = subst (λ list. c.args.index < count_of lists list) c.in-Posted.is c.requires.index in
    let (done, is) = posted_item turns lists.number lists.before.results lists.through.results c.args.index c.requires.number c.requires.lists.results c.requires.lists.through.results inside in
    let own : posted_in turns lists.number ≡ turn.posted = read_of (λ (t : Turn). t.posted) (slice_get turns lists.number) turn (posted_in turns lists.number) at (posted_is turns lists.number c.requires.number) in
    let there : slice_get turn.posted c.args.index ≡ Some done = ap (λ dones. slice_get dones c.args.index) (sym own) ∙ is.own in
    subst (λ list. slice_get (entry_lines c.args.graph.now turn list) c.args.index ≡ Some c.write_post.new.line) (sym c.in-Posted.is)
    (line_of post_line turn.posted c.args.index done there ∙ ap Some (sym (c.write_post.ensures done (is.mark c.result_mark.result c.result_mark.ensures))))

pub returns-in-Claimed : goal.returns-in-Claimed
returns-in-Claimed c = λ turn at.
    let turns = c.args.history.now.turns in
    let lists = c.args.self.now in
    let g = c.args.graph.now in
    let inside : c.args.index < lists.through.claims - lists.before.claims = subst (λ list. c.args.index < count_of lists list) c.in-Claimed.is c.requires.index in
    let (task, is) = claimed_item turns lists.number lists.before.claims lists.through.claims c.args.index c.requires.number c.requires.lists.claims c.requires.lists.through.claims inside in
    let made : claimed_in turns lists.number ≡ turn.claimed = read_of (λ (t : Turn). t.claimed) (slice_get turns lists.number) turn (claimed_in turns lists.number) at (claimed_is turns lists.number c.requires.number) in
    let there : slice_get turn.claimed c.args.index ≡ Some task = ap (λ tasks. slice_get tasks c.args.index) (sym made) ∙ is.own in
    subst (λ list. slice_get (entry_lines g turn list) c.args.index ≡ Some c.write_claim.new.pen.line) (sym c.in-Claimed.is)
    (line_of (claim_line g) turn.claimed c.args.index task there ∙ ap Some (sym (c.write_claim.ensures task (is.mark c.mark.result c.mark.ensures))))
