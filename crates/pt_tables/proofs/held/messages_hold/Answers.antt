use Rattle.std.proofs.Common.{◌≡◌, Some, arith, get_or, pos, slice_get}
use Rattle.std.proofs.lemmas.Option.{slice_get-get_or, slice_get_within}
use Rattle.pt_tags.specs.declared.message.Message.TheVariants.{Event}
use Rattle.pt_types.specs.declared.firing.OnLink.{OnLink}
use Rattle.pt_tables.specs.Held.{IsHeldMessage}
use Rattle.pt_tables.proofs.Members.{each_of, one_more}
use Rattle.pt_tables.proofs.held.messages_hold.Goals as goal

abbrev no_message : OnLink
no_message = record { link = 0; message = Event (record { time = 0; step = 0 }) (pos 0) }

pub loop-message-preserved : goal.loop-message-preserved
loop-message-preserved c =
    let xs = c.args.messages.now in
    let n = c.loop-message.message-index in
    let x : OnLink = get_or xs n no_message in
    let at : slice_get xs n ≡ Some x = slice_get-get_or xs n no_message c.loop-message-test.true in
    one_more IsHeldMessage xs n x at (record { tag = c.holds.ensures.tag; value = c.holds.ensures.value }) c.loop-message.invariant

pub returns : goal.returns
returns c =
    each_of IsHeldMessage c.args.messages.now (λ k x at. let lt = slice_get_within c.args.messages.now k x at in c.loop-message.invariant k x (omega (arith, lt, c.loop-message-test.false)) at)
