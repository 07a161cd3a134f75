use Rattle.std.proofs.Common.{◌∙◌, ap, length}
use Rattle.pt_meaning.specs.Early.{early_waits, left}
use Rattle.pt_meaning.specs.Waiting.{waits_in, rank_in}
use Rattle.pt_meaning.specs.Running.{states_from}
use Rattle.pt_meaning.specs.Held.{late_value}
use Rattle.pt_meaning.proofs.Both.{only_early}
use Rattle.pt_meaning.proofs.FiredOn.{states_start}
use Rattle.pt_meaning.proofs.engine.begin.Goals as goal

pub returns-clause-world : goal.returns-clause-world
returns-clause-world c =
    let rank = rank_in c.args.ranks.now in
    let kept = ap states_from c.in_ok-states.ensures ∙ states_start c.args.graph.now in
    let waits =
    only_early (early_waits (left c.in_ok-early.early)) (waits_in (rank_in c.args.ranks.now) (late_value c.in_ok-late.late)) (λ a p t. ap (λ v. v a p t) (c.in_ok-late.ensures.empty rank))
    ∙ c.in_ok-early.ensures.waits in
    λ i. record { waits = waits i; states = kept i }

pub returns-clause-sound : goal.returns-clause-sound
returns-clause-sound c = record { early = c.in_ok-early.ensures.sound; late = c.in_ok-late.ensures.sound (rank_in c.args.ranks.now) (length c.args.graph.now.actors) 0 }
