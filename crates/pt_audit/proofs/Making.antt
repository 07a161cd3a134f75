-- A platform after one more logged turn.
use Rattle.std.proofs.Common.{◌≡◌, ℕ, Bool, false, List, [], ◌∷◌, ◌++◌, Option, Some, None, refl, sym, ap, subst, ◌∙◌, append-nil, append_assoc}
use Rattle.std.specs.Prelude.{flat_map}
use Rattle.std.proofs.lemmas.Grind.{flat_map-append}
use Rattle.pt_tags.specs.declared.message.Message.{Message}
use Rattle.pt_types.specs.declared.graph.Graph.{Graph}
use Rattle.pt_types.specs.declared.rows.Row.{Row}
use Rattle.pt_types.specs.declared.firing.OnLink.{OnLink}
use Rattle.pt_history.proofs.Gathered.{sent_settled}
use Rattle.pt_semantics.specs.Closing.{on_link}
use Rattle.pt_semantics.specs.History.{AreJoined, IsCounted, Legal}
use Rattle.pt_semantics.specs.Kept.{kept_with, settled}
use Rattle.pt_semantics.specs.Linked.{all_sent, all_taken}
use Rattle.pt_semantics.specs.Platform.{State, opened}
use Rattle.pt_semantics.specs.Turn.{IsLast, IsTurn, Turn}
use Rattle.pt_causality.specs.Ranked.{level_of}
use Rattle.pt_offsets.specs.Plans.{Parts}
use Rattle.pt_turn.specs.Platforms.{PlatformView, level_at, messages_of, state_at}
use Rattle.pt_turn.specs.Running.{GoesOn}
use Rattle.pt_turn.specs.Turned.{FaultsIfLast, is_late}
use Rattle.pt_turn.specs.declared.fault.TurnFault.{TurnFault}
use Rattle.pt_turn.proofs.Coming.{on_append}
use Rattle.pt_turn.proofs.Turns.{goes_on_push, legal_push, messages_more}
use Rattle.pt_audit.specs.declared.parse.hints.Hints.{Hints}
use Rattle.pt_audit.specs.Remaking.Remade.{HasRemade, at_last}
use Rattle.pt_audit.specs.Verifying.{HasMadeLogged}
use Rattle.pt_audit.proofs.OneState.{turn_same, turn_state}
use Rattle.pt_audit.proofs.LoggedTurns.{each_push}

-- Messages.

on_all : (l : ℕ) (f : Turn → List OnLink) (turns : List Turn) → flat_map (λ (turn : Turn). on_link l (f turn)) turns ≡ on_link l (flat_map f turns)
on_all l f [] = refl
on_all l f (x ∷ turns) = ap (λ (z : List Message). on_link l (f x) ++ z) (on_all l f turns) ∙ sym (on_append l (f x) (flat_map f turns))

pub sent_more : (l : ℕ) (turns : List Turn) (turn : Turn) → all_sent l (kept_with turns turn) ≡ all_sent l turns ++ on_link l turn.sent
sent_more l turns turn =
    on_all l (λ (t : Turn). t.sent) (settled turns ++ turn ∷ [])
    ∙ ap (on_link l) (flat_map-append (λ (t : Turn). t.sent) (settled turns) (turn ∷ []) ∙ ap (λ (z : List OnLink). flat_map (λ (t : Turn). t.sent) (settled turns) ++ z) (append-nil turn.sent) ∙ ap (λ (z : List OnLink). z ++ turn.sent) (sent_settled turns))
    ∙ on_append l (flat_map (λ (t : Turn). t.sent) turns) turn.sent
    ∙ ap (λ (z : List Message). z ++ on_link l turn.sent) (sym (on_all l (λ (t : Turn). t.sent) turns))

pub taken_more : (l : ℕ) (turns : List Turn) (turn : Turn) → all_taken l (kept_with turns turn) ≡ all_taken l turns ++ on_link l turn.taken
taken_more l turns turn =
    on_all l (λ (t : Turn). t.taken) (kept_with turns turn)
    ∙ ap (on_link l) (messages_more turns turn)
    ∙ on_append l (messages_of turns) turn.taken
    ∙ ap (λ (z : List Message). z ++ on_link l turn.taken) (sym (on_all l (λ (t : Turn). t.taken) turns))

pub all_push : (l : ℕ) (f : Turn → List OnLink) (turns : List Turn) (turn : Turn) → flat_map (λ (t : Turn). on_link l (f t)) (turns ++ turn ∷ []) ≡ flat_map (λ (t : Turn). on_link l (f t)) turns ++ on_link l (f turn)
all_push l f turns turn = flat_map-append (λ (t : Turn). on_link l (f t)) turns (turn ∷ []) ∙ ap (λ (z : List Message). flat_map (λ (t : Turn). on_link l (f t)) turns ++ z) (append-nil (on_link l (f turn)))

-- The turn that was made, with the graph and the number of the plan.

pub record Step (g : Graph) (level : ℕ → ℕ) (i : ℕ) (s : State) (turn : Turn) (fault : Option TurnFault) (new : State) : Type 0 where
  pub is : IsTurn g level i s turn (is_late fault) new
  pub last : FaultsIfLast fault (IsLast g s turn.last (is_late fault) is.ready)

pub step_of : (plan : Parts) (i : ℕ) (hints : Hints) (old new : PlatformView) → old.plan ≡ plan → old.number ≡ i → (h : HasRemade hints old new) → Step plan.graph (level_of plan.ranks) i (state_at old) h.turn new.fault (state_at new)
step_of plan i hints old new plan_is number_is h =
    let here : Step old.plan.graph (level_at old) old.number (state_at old) h.turn new.fault (state_at new) = record { is = h.is; last = h.last } in
    subst (λ n. Step plan.graph (level_of plan.ranks) n (state_at old) h.turn new.fault (state_at new)) number_is
    (subst (λ (p : Parts). Step p.graph (level_of p.ranks) old.number (state_at old) h.turn new.fault (state_at new)) plan_is here)

-- no turn follows a last one
last_over : (g : Graph) (level : ℕ → ℕ) (i : ℕ) (s mid new end : State) (turns : List Turn) (turn next : Turn) (late : Bool) → GoesOn g level i s turns mid → (is : IsTurn g level i mid turn late new) → IsLast g mid turn.last late is.ready
    → Legal g level i s (turns ++ turn ∷ next ∷ []) end → ⊥
last_over g level i s mid new end [] turn next late h is last (slow, mid2, is2, ends, rest) =
    never_nil next (ends (turn_same g level i turn late slow mid s new mid2 h is is2 last))
  where
    never_nil : (x : Turn) → x ∷ [] ≡ [] → ⊥
    never_nil x e = cc
last_over g level i s mid new end (x ∷ turns) turn next late h is last (slow, mid2, is2, ends, rest) =
    last_over g level i h.0 mid new end turns turn next late h.3 is last (subst (λ (z : State). Legal g level i z (turns ++ turn ∷ next ∷ []) end) (sym (turn_state g level i s x false slow h.0 mid2 h.1 is2).1) rest)

-- one more turn
module _ (g : Graph) (level : ℕ → ℕ) (i : ℕ) (rows : ℕ → List Row) (old new : PlatformView) (turns : List Turn) (turn : Turn) (h : HasMadeLogged g level i rows old turns) (faultless : old.fault ≡ None)
    (step : Step g level i (state_at old) turn new.fault (state_at new)) (kept : new.turns ≡ kept_with old.turns (at_last turn)) (counted : IsCounted turn) (joined : AreJoined (turns ++ turn ∷ [])) where
  goes : GoesOn g level i (opened g i rows) turns (state_at old)
  goes = h.goes_on faultless

  on_by : (fault : Option TurnFault) → Step g level i (state_at old) turn fault (state_at new) → fault ≡ None → GoesOn g level i (opened g i rows) (turns ++ turn ∷ []) (state_at new)
  on_by None s e = goes_on_push g level i (opened g i rows) (state_at old) (state_at new) turns turn goes s.is s.last
  on_by (Some fault) s e = absurd (some_none fault e)
    where
      some_none : (f : TurnFault) → Some f ≡ None → ⊥
      some_none f e = cc

  over_by : (fault : Option TurnFault) → Step g level i (state_at old) turn fault (state_at new) → (fault ≡ None → ⊥) → (next : Turn) (end : State) → Legal g level i (opened g i rows) ((turns ++ turn ∷ []) ++ next ∷ []) end → ⊥
  over_by None s e next end legal = absurd (e refl)
  over_by (Some fault) s e next end legal =
      last_over g level i (opened g i rows) (state_at old) (state_at new) end turns turn next (is_late (Some fault)) goes s.is s.last
      (subst (λ (ts : List Turn). Legal g level i (opened g i rows) ts end) (append_assoc turns (turn ∷ []) (next ∷ [])) legal)

  pub made_more : HasMadeLogged g level i rows new (turns ++ turn ∷ [])
  made_more = record {
    goes_on = on_by new.fault step;
    leads = legal_push g level i (opened g i rows) (state_at old) (state_at new) turns turn (is_late new.fault) goes step.is;
    over = over_by new.fault step;
    counted = each_push IsCounted turns turn h.counted counted;
    joined = joined;
    sent = λ l. ap (all_sent l) kept ∙ sent_more l old.turns (at_last turn) ∙ ap (λ (z : List Message). z ++ on_link l turn.sent) (h.sent l) ∙ sym (all_push l (λ (t : Turn). t.sent) turns turn);
    taken = λ l. ap (all_taken l) kept ∙ taken_more l old.turns (at_last turn) ∙ ap (λ (z : List Message). z ++ on_link l turn.taken) (h.taken l) ∙ sym (all_push l (λ (t : Turn). t.taken) turns turn);
  }
