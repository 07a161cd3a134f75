use Rattle.std.proofs.Common.{rules, ◌≡◌, ◌<◌, Some, get_or, length, slice_get, sym, ◌∙◌, arith}
use Rattle.std.proofs.lemmas.Option.{slice_get-get_or}
use Rattle.pt_semantics.specs.Closing.{on_link}
use Rattle.pt_audit.proofs.Remaking.Sends.{link_there, went_counts, went_one}
use Rattle.pt_audit.proofs.remake.sending.send.Goals as goal

pub returns-clause-counts : goal.returns-clause-counts
returns-clause-counts c =
    let v = c.args.platform.now in
    let m = c.args.next.now in
    let is_next : c.outgoing.result ≡ Some c.args.next.now.message = search rules in
    let first : slice_get (on_link m.link v.outbox) 0 ≡ Some m.message = sym c.outgoing.ensures ∙ is_next in
    let lt : c.args.next.now.link < 64 = link_there v m.link m.message c.requires.only_links c.requires.few_links first in
    let within : c.args.next.now.link < length c.args.counts.now = omega (arith, lt, c.told-counts) in
    λ yes. went_counts v c.went.new.self c.args.counts.now m (get_or c.args.counts.now m.link 0) c.requires.begun c.requires.counts
    (slice_get-get_or c.args.counts.now m.link 0 within) lt (went_one v c.went.new.self m c.went.ensures first)
