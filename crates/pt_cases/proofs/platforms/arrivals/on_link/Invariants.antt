use Rattle.std.proofs.Common.{◌≡◌, ◌++◌, drop}
use Rattle.pt_semantics.specs.Closing.{on_link}
use Rattle.pt_cases.proofs.platforms.arrivals.on_link.Given as goal

abbrev pub invariant-loop-message : goal.invariant-loop-message
invariant-loop-message l = l.own.items ++ on_link l.link (drop l.message-index l.messages) ≡ on_link l.link l.messages
