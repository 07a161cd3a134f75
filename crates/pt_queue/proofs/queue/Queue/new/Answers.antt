use Rattle.std.proofs.Common.{◌≡◌, [], None, length, replicate, ap, ap₂, ◌∙◌, ◌*◌, arith}
use Rattle.pt_queue.specs.Lines.{all_of, with_events}
use Rattle.pt_queue.proofs.Changing.{none_kept, none_known}
use Rattle.pt_queue.proofs.Views.{none_in}
use Rattle.pt_queue.proofs.queue.Queue.new.Goals as goal

pub returns-clause-empty : goal.returns-clause-empty
returns-clause-empty c = ap₂ (λ lines loose. all_of (with_events lines loose)) c.in_ok-lines.ensures c.new-4.ensures.items ∙ none_in (8 * c.len.result)

pub new-requires-2 : goal.new-requires-2
new-requires-2 c =
    let len = c.in_ok-groups.ensures.len in
    let few = c.requires.lawful.few_actors in
    omega (arith, len, few, c.len-2.ensures, c.in_ok-groups.groups.ok.0)

pub invariant_of-result : goal.invariant_of-result
invariant_of-result c =
    let table = c.in_ok-groups.groups.items in
    let none : all_of (with_events c.in_ok-lines.lines c.new-4.result.items) ≡ [] = ap₂ (λ lines loose. all_of (with_events lines loose)) c.in_ok-lines.ensures c.new-4.ensures.items ∙ none_in (8 * c.len.result) in
    let len : c.len.result ≡ length table = c.len.ensures ∙ c.in_ok-groups.groups.ok.0 in
    let len_2 : c.len-2.result ≡ length table = c.len-2.ensures ∙ c.in_ok-groups.groups.ok.0 in (
      none_kept table c.in_ok-lines.lines c.new-4.result.items (c.in_ok-lines.ensures ∙ ap (λ n. replicate (8 * n) []) len) c.new-4.ensures.items,
      omega (arith, c.new-4.ensures.len, c.new-4.result.ok),
      none_known c.args.graph.now table (all_of (with_events c.in_ok-lines.lines c.new-4.result.items)) c.in_ok-tags.tags c.requires.lawful c.in_ok-groups.ensures none (c.in_ok-tags.ensures ∙ ap (λ n. replicate (8 * n) None) len_2),
    )
