use Rattle.std.proofs.Common.{◌≡◌, Bor, rules}
use Rattle.std.proofs.lemmas.Fn.{always_returns_same}
use Rattle.pt_types.specs.declared.firing.Task.{Task}
use Rattle.pt_causality.specs.Ranked.{rank_of}
use Rattle.pt_confluence.specs.Moments.{moment_of}
use Rattle.pt_confluence.proofs.gathering.sort.Goals as goal

pub returns-clause-sorted : goal.returns-clause-sorted
returns-clause-sorted c =
    c.sort_unstable_by_key.ensures.sorted (λ (task : Bor Task). moment_of (rank_of c.args.ranks.now) task.now)
    (always_returns_same _ (λ a r. r ≡ moment_of (rank_of c.args.ranks.now) a.0.now.now) _ (λ a r q k. (search rules, search rules)))
