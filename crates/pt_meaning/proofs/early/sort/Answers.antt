use Rattle.std.proofs.Common.{◌≡◌, rules}
use Rattle.std.proofs.lemmas.List.Sorted.{answers_always}
use Rattle.pt_meaning.specs.Early.{event_moment}
use Rattle.pt_meaning.proofs.early.sort.Goals as goal

pub returns-clause-sorted : goal.returns-clause-sorted
returns-clause-sorted c = c.in_ok-sort_by_key.ensures.sorted event_moment (answers_always _ (λ a r. r ≡ event_moment a.0.now) _ (λ f a r q k. search rules))

pub returns-clause-stable : goal.returns-clause-stable
returns-clause-stable c = c.in_ok-sort_by_key.ensures.stable event_moment (answers_always _ (λ a r. r ≡ event_moment a.0.now) _ (λ f a r q k. search rules))
