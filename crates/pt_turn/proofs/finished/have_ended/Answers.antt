use Rattle.std.proofs.Common.{◌≡◌, ◌<◌, ◌≤◌, List, length, get_or, refl, sym, ap, subst, ◌∙◌, arith}
use Rattle.std.proofs.lemmas.Bool.{false≢true}
use Rattle.pt_types.specs.declared.graph.Link.{Link}
use Rattle.pt_types.specs.Lookups.{platform_of}
use Rattle.pt_turn.proofs.Ends.{all_links, not_ended, one_link_more}
use Rattle.pt_turn.proofs.Naming.{no_link}
use Rattle.pt_turn.proofs.finished.have_ended.Goals as goal

pub returns-then-not-has : goal.returns-then-not-has
returns-then-not-has c =
    let lt : c.loop-l.l < length c.args.graph.now.links = subst (λ (ls : List Link). c.loop-l.l < length ls) c.as_slice-links.ensures c.loop-l-test.true in
    let home : platform_of c.args.graph.now (get_or c.args.graph.now.links c.loop-l.l no_link).to ≡ c.args.number =
    sym (c.platform_of.ensures ∙ ap (λ (ls : List Link). platform_of c.args.graph.now (get_or ls c.loop-l.l no_link).to) c.as_slice-links.ensures) ∙ c.if-platform_of-number.false in
    (λ e. absurd (false≢true e), λ all. absurd (not_ended c.loop-l.l c.args.graph.now c.args.number c.args.ended.now no_link lt home (sym c.has.ensures ∙ c.if-not-has.true) all))

pub loop-l-preserved : goal.loop-l-preserved
loop-l-preserved c = one_link_more c.loop-l.l c.args.graph.now c.args.number c.args.ended.now no_link c.loop-l.invariant (λ home. sym c.has.ensures ∙ c.if-not-has.false)

pub returns : goal.returns
returns c =
    let le : length c.args.graph.now.links ≤ c.loop-l.l = subst (λ (ls : List Link). length ls ≤ c.loop-l.l) c.as_slice-links.ensures (omega (arith, c.loop-l-test.false)) in
    (λ e. all_links c.loop-l.l c.args.graph.now c.args.number c.args.ended.now le c.loop-l.invariant, λ all. refl)
