use Rattle.std.proofs.Common.{IfSome, subst, sym}
use Rattle.pt_monitors.specs.InTime.{EndBy}
use Rattle.pt_monitors.proofs.Latest.{ends_by_reading}
use Rattle.pt_monitors.proofs.platforms.missed_by.Goals as goal

pub missed_until-requires : goal.missed_until-requires
missed_until-requires c =
    subst (λ turns. IfSome c.reading.result (λ r. EndBy r turns)) (sym c.history-history.ensures.turns)
    (ends_by_reading _ _ _ _ _ _ c.reading.result c.history-history.ensures.legal (sym c.reading.ensures))
