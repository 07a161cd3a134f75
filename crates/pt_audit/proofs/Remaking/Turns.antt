-- A turn that was made from hints, before its messages are sent.
use Rattle.std.proofs.Common.{◌≡◌, ◌+◌, ◌-◌, List, [], ◌∷◌, ◌++◌, Option, Some, length, slice_get, sym, ap, subst, ◌∙◌, arith, length-append}
use Rattle.pt_tags.specs.declared.message.Message.{Message}
use Rattle.pt_types.specs.declared.firing.OnLink.{OnLink}
use Rattle.pt_semantics.specs.Closing.{on_link}
use Rattle.pt_semantics.specs.Kept.{settled}
use Rattle.pt_offsets.specs.Plans.{Parts}
use Rattle.pt_semantics.specs.Turn.{Turn}
use Rattle.pt_turn.specs.Gone.{last_sent}
use Rattle.pt_turn.specs.Platforms.{PlatformView, level_at, messages_of, state_at}
use Rattle.pt_turn.specs.Turned.{is_late}
use Rattle.pt_turn.proofs.Coming.{on_append}
use Rattle.pt_turn.proofs.Turns.{messages_more}
use Rattle.pt_turn.proofs.Sending.{last_sent_pushed}
use Rattle.pt_visits.specs.Visited.{HasSent}
use Rattle.pt_audit.specs.declared.parse.hints.Hints.{Hints}
use Rattle.pt_audit.specs.Remaking.Following.{CanFollow}
use Rattle.pt_audit.specs.Parsing.Hints.{AreHints}
use Rattle.pt_audit.specs.Remaking.Lasts.{AreLast, last_of}
use Rattle.pt_audit.specs.Remaking.Remade.{HasRemade, at_last}
use Rattle.pt_audit.specs.Remaking.Steps.{CanSend, HasCounts, HasMade, OnlyLinks, claims_in}
use Rattle.pt_audit.proofs.Remaking.Histories.{running_tidy}
use Rattle.pt_audit.proofs.Remaking.Tidy.{IsTidy, at_seam, turn_tidy}
use Rattle.pt_audit.proofs.Remaking.Counts.{counts_hold, sends_hold}
use Rattle.pt_audit.proofs.Remaking.Logged.{remade}

module _ (hints : Hints) (old mid : PlatformView) (h : HasMade hints old mid) where
  tidy_there : IsTidy old.plan.graph (level_at old) old.number (claims_in old.turns) (state_at old)
  tidy_there = running_tidy old h.running

  pub counts_must : (turn : Turn) → AreHints old.number turn hints → CanFollow old turn → HasCounts hints h.made.turn
  counts_must turn logged follows = counts_hold hints old mid (claims_in old.turns) h.dones tidy_there h.form h.are h.done h.made turn logged follows.late follows.new follows.is

  pub sends_must : (turn : Turn) → AreHints old.number turn hints → CanFollow old turn → CanSend mid.outbox hints.sent.items
  sends_must turn logged follows = sends_hold hints old mid (claims_in old.turns) h.dones tidy_there h.form h.are h.done h.made turn logged follows.late follows.new follows.is

  pub remade_from : HasCounts hints h.made.turn → (new : PlatformView) (messages : List OnLink) → messages ≡ hints.sent.items → HasSent mid new messages × CanSend mid.outbox messages → HasRemade hints old new
  remade_from counts new messages are sent =
      let both : HasSent mid new hints.sent.items × CanSend mid.outbox hints.sent.items = subst (λ ms. HasSent mid new ms × CanSend mid.outbox ms) are sent in
      remade hints old mid (claims_in old.turns) h.dones h.named h.no_fault tidy_there h.form h.are h.done h.made h.stays counts new both.0 both.1

  -- the last recorded turn is the one that was made
  pub last_made : (turns : List Turn) → turns ≡ mid.turns → slice_get turns (length turns - 1) ≡ Some h.made.turn
  last_made turns are = at_end turns (settled old.turns) h.made.turn (are ∙ h.made.turns)
    where
      at_end : (turns before : List Turn) (turn : Turn) → turns ≡ before ++ turn ∷ [] → slice_get turns (length turns - 1) ≡ Some turn
      at_end turns before turn is =
          let long : length turns ≡ length before + 1 = ap length is ∙ length-append before (turn ∷ []) in
          let place : length turns - 1 ≡ length before = omega (arith, long) in
          ap (λ k. slice_get turns k) place ∙ ap (λ (ts : List Turn). slice_get ts (length before)) is ∙ at_seam before [] turn

  pub nothing_sent_yet : last_sent mid.turns ≡ []
  nothing_sent_yet = ap last_sent h.made.turns ∙ last_sent_pushed (settled old.turns) h.made.turn ∙ h.made.at.3

  pub only_links : OnlyLinks mid.plan.graph mid.outbox
  only_links l none = (turn_tidy old.plan.graph (level_at old) old.number (claims_in old.turns) (state_at old) (state_at mid) h.made.turn (is_late mid.fault) h.made.is tidy_there).foreign l (ap (λ (p : Parts). slice_get p.graph.links l) (sym h.stays.plan) ∙ none)

-- the last messages after the turn
pub last_after : (hints : Hints) (old new : PlatformView) (last : List (Option Message)) → HasRemade hints old new → AreLast old.plan.graph old.number (λ l. (state_at old).taken l ++ on_link l hints.taken.items) last → AreLast old.plan.graph old.number (state_at new).taken last
last_after hints old new last h lasts = record {
  count = lasts.count;
  is = λ l link at home.
      lasts.is l link at home
      ∙ ap (λ z. Some (last_of ((state_at old).taken l ++ on_link l z))) h.hints_are.taken
      ∙ ap (λ z. Some (last_of z)) (sym (on_append l (messages_of old.turns) h.turn.taken) ∙ ap (on_link l) (sym (ap messages_of h.kept ∙ messages_more old.turns (at_last h.turn))));
}
