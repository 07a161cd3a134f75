-- Confluence: both the meaning and the histories are behaviours, and there is one.
use Rattle.pt_semantics.specs.Meaning.{opening}
use Rattle.pt_semantics.specs.Parts.{parts}
use Rattle.pt_laws.specs.HistoryTheorems.{Confluence, ConfluenceOn}
use Rattle.pt_semantics.specs.Settled.{Passes}
use Rattle.pt_semantics.specs.Linked.{all_claims}
use Rattle.pt_semantics.proofs.Longest.{ranks_grow}
use Rattle.pt_laws.proofs.Agree.{agree, behaviours_agree}
use Rattle.pt_laws.proofs.Finish.{histories_behave, histories_behave_on}
use Rattle.pt_laws.proofs.MeaningSteps.{meaning_behaves}

pub confluence : Confluence
confluence g level rank rows histories ends xs wired levels ranks fits legal finished linked meaning u =
    behaviours_agree g (opening g rows) rank (all_claims g histories) (parts g xs) (ranks_grow g rank ranks)
    (histories_behave g level rows histories ends wired levels fits legal finished linked)
    (meaning_behaves g rank rows xs wired ranks fits meaning) u

pub confluence_on : ConfluenceOn
confluence_on g level rank rows histories ends xs test wired levels ranks fits closed legal settled caught meaning u t d =
    let m = meaning_behaves g rank rows xs wired ranks fits meaning in
    agree g (opening g rows) rank (ranks_grow g rank ranks) (Passes test) closed (all_claims g histories) (parts g xs)
    (histories_behave_on g level rows histories ends (Passes test) wired levels fits closed legal settled caught)
    (record { rising = m.rising; reacts = λ v s e. m.reacts v s tt })
    u t d
