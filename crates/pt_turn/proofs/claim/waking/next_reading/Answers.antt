use Rattle.std.proofs.Common.{length, get_or, subst}
use Rattle.pt_turn.specs.Claims.Least.{AtOrIn, Below, IsLeastAmong}
use Rattle.pt_turn.specs.Claims.Next.{no_sensor, IsSeenNext}
use Rattle.pt_turn.proofs.Claims.Candidates.{next_is}
use Rattle.pt_turn.proofs.claim.waking.next_reading.Goals as goal

pub returns : goal.returns
returns c = λ taken.
    let f = c.args.fields.now in
    let first : IsLeastAmong (AtOrIn c.args.closing (Below (length f.sensors.items) (λ i. IsSeenNext (get_or f.sensors.items i no_sensor)))) c.seen_next-seen.result = subst (λ xs. IsLeastAmong (AtOrIn c.args.closing (Below (length xs) (λ i. IsSeenNext (get_or xs i no_sensor)))) c.seen_next-seen.result) c.as_slice.ensures.value c.seen_next-seen.ensures in
    next_is c.args.plan.now.graph f c.args.platform c.args.closing c.seen_next-seen.result c.paced_next.result taken c.requires.sound c.requires.sensors c.requires.closing first c.paced_next.ensures
