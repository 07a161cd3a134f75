use Rattle.std.proofs.Common.{◌≡◌, ◌∷◌, ◌++◌, [], true, false, sym, subst, ◌∙◌, Ok, Err}
use Rattle.std.specs.Prelude.{OnErr, OnOk, is_err, Result}
use Rattle.pt_visits.specs.Pushing.{IsPushed}
use Rattle.pt_visits.proofs.Pushed.{has_place, none_yet, one_more, still_begun, when_empty, when_full}
use Rattle.pt_visits.proofs.pushing.push_from.Goals as goal

on_err : {T E P : Type 0} (r : Result T E) → is_err r ≡ true → OnErr r P → P
on_err (Ok x) e h = cc
on_err (Err x) e h = h

on_ok : {T E P : Type 0} (r : Result T E) → is_err r ≡ false → OnOk r P → P
on_ok (Ok x) e h = h
on_ok (Err x) e h = cc

pub loop-message-init : goal.loop-message-init
loop-message-init c = none_yet c.args.link c.args.platform.now c.args.pipe.now

pub returns-then-is_err : goal.returns-then-is_err
returns-then-is_err c =
    let failed : is_err c.push.result ≡ true = sym c.is_err.ensures.value ∙ c.if-is_err.true in
    let same : c.push.new.self ≡ c.loop-message.pipe = on_err c.push.result failed c.push.ensures.unchanged in
    subst (IsPushed c.args.link c.args.platform.now c.loop-message.platform c.args.pipe.now) (sym same)
    (when_full c.args.link c.args.platform.now c.loop-message.platform c.args.pipe.now c.loop-message.pipe c.loop-message.invariant (c.push.ensures.full.0 failed))

pub went-requires-clause-begun : goal.went-requires-clause-begun
went-requires-clause-begun c = still_begun c.args.link c.args.platform.now c.loop-message.platform c.args.pipe.now c.loop-message.pipe c.loop-message.invariant c.requires.begun

pub went-requires-clause-few : goal.went-requires-clause-few
went-requires-clause-few c =
    let pushed : c.push.new.self ≡ c.loop-message.pipe ++ c.in-Some.message ∷ [] = on_ok c.push.result (sym c.is_err.ensures.value ∙ c.if-is_err.false) c.push.ensures.ok in
    has_place c.args.link c.args.platform.now c.loop-message.platform c.args.pipe.now c.loop-message.pipe c.loop-message.invariant c.in-Some.message c.push.new.self c.requires.begun c.requires.nothing_sent pushed c.push.ensures.at_most

pub loop-message-preserved : goal.loop-message-preserved
loop-message-preserved c =
    let pushed : c.push.new.self ≡ c.loop-message.pipe ++ c.in-Some.message ∷ [] = on_ok c.push.result (sym c.is_err.ensures.value ∙ c.if-is_err.false) c.push.ensures.ok in
    one_more c.args.link c.args.platform.now c.loop-message.platform c.args.pipe.now c.loop-message.pipe c.loop-message.invariant c.went.new.self c.in-Some.message c.push.new.self (sym c.in-Some.is ∙ c.outgoing.ensures) pushed c.push.ensures.at_most c.went.ensures

pub returns : goal.returns
returns c = when_empty c.args.link c.args.platform.now c.loop-message.platform c.args.pipe.now c.loop-message.pipe c.loop-message.invariant (sym c.in_default.is ∙ c.outgoing.ensures)
