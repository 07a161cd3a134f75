use Rattle.std.proofs.Common.{◌≡◌, ◌+◌, ◌++◌, ◌∷◌, [], true, refl, sym, subst, ◌∙◌, arith, Ok, Err}
use Rattle.std.specs.Prelude.{OnOk, is_err, Result}
use Rattle.pt_replay.proofs.Visits.Arrived.{Delivers, all_came, all_places, has_place, one_more, still_all}
use Rattle.pt_replay.proofs.visit.delivering.deliver_from.Goals as goal

on_ok : {T E P : Type 0} (r : Result T E) → (is_err r ≡ true → ⊥) → OnOk r P → P
on_ok (Ok x) fits h = h
on_ok (Err x) fits h = absurd (fits refl)

pub returns-in_default-clause-pipe : goal.returns-in_default-clause-pipe
returns-in_default-clause-pipe c = (all_came c.args.now c.loop-k._k c.args.airway.now c.loop-k.airway c.loop-k.pipe c.loop-k.invariant (omega arith) c.in_default.ensures.later).0

pub returns-in_default-clause-airway : goal.returns-in_default-clause-airway
returns-in_default-clause-airway c =
    still_all c.args.now c.loop-k.airway c.arrived.new.self c.in_default.ensures.later c.arrived.ensures.left
    ∙ (all_came c.args.now c.loop-k._k c.args.airway.now c.loop-k.airway c.loop-k.pipe c.loop-k.invariant (omega arith) c.in_default.ensures.later).1

pub loop-k-preserved : goal.loop-k-preserved
loop-k-preserved c =
    let pushed : c.push.new.self ≡ c.loop-k.pipe ++ c.in-Some.message ∷ [] =
    on_ok c.push.result (λ failed. has_place c.args.now c.loop-k._k c.args.airway.now c.loop-k.airway c.loop-k.pipe c.loop-k.invariant (omega arith) (c.push.ensures.full.0 failed)) c.push.ensures.ok in
    subst (Delivers c.args.now (c.loop-k._k + 1) c.args.airway.now c.arrived.new.self) (sym pushed)
    (one_more c.args.now c.loop-k._k c.args.airway.now c.loop-k.airway c.loop-k.pipe c.loop-k.invariant c.in-Some.message c.arrived.new.self (sym c.in-Some.is ∙ c.arrived.ensures.first) c.arrived.ensures.left)

pub returns-clause-pipe : goal.returns-clause-pipe
returns-clause-pipe c = (all_places c.args.now c.loop-k._k c.args.airway.now c.loop-k.airway c.loop-k.pipe c.loop-k.invariant (omega arith)).0

pub returns-clause-airway : goal.returns-clause-airway
returns-clause-airway c = (all_places c.args.now c.loop-k._k c.args.airway.now c.loop-k.airway c.loop-k.pipe c.loop-k.invariant (omega arith)).1
