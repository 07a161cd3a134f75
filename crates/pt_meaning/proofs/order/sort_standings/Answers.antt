use Rattle.std.proofs.Common.{◌≡◌, rules}
use Rattle.std.proofs.lemmas.List.Sorted.{answers_always}
use Rattle.pt_meaning.specs.Current.{own_standing}
use Rattle.pt_meaning.proofs.order.sort_standings.Goals as goal

pub returns : goal.returns
returns c = c.in_ok-sort_by_key.ensures.sorted own_standing (answers_always _ (λ a r. r ≡ own_standing a.0.now) _ (λ f a r q k. search rules))
