use Rattle.std.proofs.Common.{◌++◌, ◌∷◌, ◌<◌, ◌≤◌, ◌+◌, length, get_or, drop, take, sym, subst, arith}
use Rattle.std.specs.Prelude.{pos}
use Rattle.std.proofs.lemmas.Bool.{false≢true}
use Rattle.std.proofs.lemmas.List.{take_all, take_more}
use Rattle.pt_tags.specs.declared.message.Message.TheVariants.{Event}
use Rattle.pt_types.specs.declared.firing.OnLink.{OnLink}
use Rattle.pt_types.specs.declared.graph.Graph.{Graph}
use Rattle.pt_visits.specs.Visited.{HasSent}
use Rattle.pt_audit.specs.Remaking.Steps.{CanSend}
use Rattle.pt_audit.proofs.Remaking.Parts.{parted}
use Rattle.pt_audit.proofs.Remaking.Sends.{SendsOn, all_sent, has_place, is_next, none_counted, nothing_yet, one_more, same_graph, still_begun, still_links}
use Rattle.pt_audit.proofs.remake.sending.send_all.Goals as goal

-- a message that stands for none past the end of a list
abbrev none : OnLink
none = record { link = 0; message = Event (record { time = 0; step = 0 }) (pos 0) }

pub loop-message-init : goal.loop-message-init
loop-message-init c = nothing_yet c.args.platform.now _ (none_counted c.args.platform.now c.requires.nothing_sent)

pub send-requires : goal.send-requires
send-requires c =
    let v = c.args.platform.now in
    let now = c.loop-message.platform in
    let sent = take c.loop-message.message-index c.args.messages.now in
    record {
      begun = still_begun v now sent c.loop-message.counts c.loop-message.invariant c.requires.begun;
      few_links = subst (λ (g : Graph). length g.links ≤ 64) (sym (same_graph v now sent c.loop-message.counts c.loop-message.invariant)) c.requires.few_links;
      only_links = still_links v now sent c.loop-message.counts c.loop-message.invariant c.requires.only_links;
      counts = c.loop-message.invariant.counts_are;
    }

pub loop-message-preserved : goal.loop-message-preserved
loop-message-preserved c =
    let v = c.args.platform.now in
    let now = c.loop-message.platform in
    let sent = take c.loop-message.message-index c.args.messages.now in
    let m : OnLink = get_or c.args.messages.now c.loop-message.message-index none in
    let within : c.loop-message.message-index < length c.args.messages.now = omega arith in
    subst (λ ms. SendsOn v c.send.new.platform ms c.send.new.counts) (sym (take_more c.args.messages.now c.loop-message.message-index none within))
    (one_more v now sent c.loop-message.counts c.loop-message.invariant c.send.new.platform c.send.new.counts m c.requires.begun c.requires.nothing_sent (c.send.ensures.sent c.if-not-send.false) (c.send.ensures.few c.if-not-send.false) (c.send.ensures.counts c.if-not-send.false))

pub returns-then-not-send : goal.returns-then-not-send
returns-then-not-send c =
    let v = c.args.platform.now in
    let now = c.loop-message.platform in
    let sent = take c.loop-message.message-index c.args.messages.now in
    let m : OnLink = get_or c.args.messages.now c.loop-message.message-index none in
    let rest = drop (c.loop-message.message-index + 1) c.args.messages.now in
    let within : c.loop-message.message-index < length c.args.messages.now = omega arith in
    record {
      sent = λ no. absurd (false≢true no);
      never = λ no can.
          let all : CanSend v.outbox (sent ++ m ∷ rest) = subst (CanSend v.outbox) (parted c.args.messages.now c.loop-message.message-index none within) can in
          c.send.ensures.never c.if-not-send.true
          (is_next v now sent c.loop-message.counts c.loop-message.invariant m rest all)
          (has_place v now sent c.loop-message.counts c.loop-message.invariant m rest all c.requires.begun c.requires.nothing_sent);
    }

pub returns-clause-sent : goal.returns-clause-sent
returns-clause-sent c =
    let v = c.args.platform.now in
    let now = c.loop-message.platform in
    let sent = take c.loop-message.message-index c.args.messages.now in
    let all : length c.args.messages.now ≤ c.loop-message.message-index = omega arith in
    λ yes. subst (λ ms. HasSent v now ms × CanSend v.outbox ms) (take_all c.loop-message.message-index c.args.messages.now all) (c.loop-message.invariant.gone, all_sent v now sent c.loop-message.counts c.loop-message.invariant)
