use Rattle.std.proofs.Common.{◌≡◌, ◌++◌, drop}
use Rattle.pt_semantics.specs.Closing.{on_link}
use Rattle.pt_audit.proofs.linking.push_on.Given as goal

abbrev pub invariant-loop-message : goal.invariant-loop-message
invariant-loop-message l = l.messages.items ++ on_link l.link (drop l.message-index l.from) ≡ l.fn.messages.items ++ on_link l.link l.from
