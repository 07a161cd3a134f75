use Rattle.std.proofs.Common.{◌≡◌, ◌++◌, ◌∷◌, [], ◌∙◌, ap, sym, subst, rules}
use Rattle.pt_meaning.specs.declared.early.Early.{Early}
use Rattle.pt_meaning.specs.Early.{early_waits, AreEarly}
use Rattle.pt_meaning.specs.Waiting.{rank_in}
use Rattle.pt_meaning.proofs.Earlies.{early_push, early_push_placed}
use Rattle.pt_meaning.proofs.opening.begin.Goals as goal

pub returns-clause-waits : goal.returns-clause-waits
returns-clause-waits c =
    let event : Early = record { moment = record { time = c.args.time; rank = c.rank_at.result; actor = c.args.actor }; value = c.args.value } in
    let pushed : c.push.new.self.items ≡ c.args.events.now.items ++ event ∷ [] = search rules in
    ap early_waits pushed ∙ early_push c.args.events.now.items event

pub returns-clause-sound : goal.returns-clause-sound
returns-clause-sound c = λ actors within was.
    let event : Early = record { moment = record { time = c.args.time; rank = c.rank_at.result; actor = c.args.actor }; value = c.args.value } in
    let pushed : c.push.new.self.items ≡ c.args.events.now.items ++ event ∷ [] = search rules in
    subst (AreEarly (rank_in c.args.ranks.now) actors) (sym pushed) (early_push_placed (rank_in c.args.ranks.now) actors c.args.events.now.items event was (record { rank_is = c.rank_at.ensures; actor = within }))
