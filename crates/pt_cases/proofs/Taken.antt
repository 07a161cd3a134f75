-- Messages that may come after those that were taken.
use Rattle.std.proofs.Common.{◌≡◌, ◌+◌, ℕ, zero, suc, length, arith, List, [], ◌∷◌, ◌++◌, Bool, true, Option, Some, None, Result, Ok, Err, IfOk, take, sym, ap, subst, ◌∙◌, ⊎_elim}
use Rattle.std.specs.Prelude.{option_map, slice_get}
use Rattle.pt_semantics.proofs.Lookups.{none_some, same_some}
use Rattle.pt_history.proofs.Along.{grows}
use Rattle.pt_types.specs.declared.graph.Graph.{Graph}
use Rattle.pt_types.specs.declared.firing.OnLink.{OnLink}
use Rattle.pt_semantics.specs.Closing.{on_link}
use Rattle.pt_semantics.specs.Lists.{Each, IsIn}
use Rattle.pt_semantics.specs.Orderly.{IsOrderly}
use Rattle.pt_semantics.specs.Platform.{State}
use Rattle.pt_semantics.specs.Turn.{Turn}
use Rattle.pt_turn.specs.Platforms.{messages_of}
use Rattle.pt_turn.specs.Gone.{last_sent}
use Rattle.pt_turn.specs.Turned.{MayCome}
use Rattle.pt_turn.proofs.Coming.{on_append}
use Rattle.pt_cases.specs.Arrivals.{AreOrderly, ComesTo}

appended : (o : Option Turn) (old taken : List OnLink) → option_map (λ (turn : Turn). turn.taken) o ≡ Some taken → option_map (λ (turn : Turn). old ++ turn.taken) o ≡ Some (old ++ taken)
appended None old taken is = absurd (none_some taken is)
appended (Some turn) old taken is = ap (λ (t : List OnLink). Some (old ++ t)) (same_some turn.taken taken is)

-- the messages of one turn more
pub taken_more : (turns : List Turn) (n : ℕ) (old new taken : List OnLink) → old ≡ messages_of (take n turns) → option_map (λ (turn : Turn). turn.taken) (slice_get turns n) ≡ Some taken → new ≡ old ++ taken → new ≡ messages_of (take (n + 1) turns)
taken_more turns n old new taken was is grew = grows (λ (turn : Turn). turn.taken) turns n [] old new was (appended (slice_get turns n) old taken is ∙ ap Some (sym grew))

each_in : {X : Type 0} (P : X → Type 0) (xs : List X) (x : X) → Each P xs → IsIn x xs → P x
each_in P [] x all at = absurd at
each_in P (y ∷ ys) x all at = ⊎_elim (λ (same : x ≡ y). subst P (sym same) all.0) (λ (later : IsIn x ys). each_in P ys x all.1 later) at

may : (g : Graph) (level : ℕ → ℕ) (i : ℕ) (s : State) (before all messages : List OnLink) → ((l : ℕ) → s.taken l ≡ on_link l before) → all ≡ before ++ messages → Each (ComesTo g i) messages → AreOrderly g level i all → MayCome g level i s messages
may g level i s before all messages taken whole stand orderly = record {
  links = λ m at. each_in (ComesTo g i) messages m stand at;
  orderly = λ l link there home. subst (IsOrderly g level link) (ap (on_link l) whole ∙ on_append l before messages ∙ ap (λ z. z ++ on_link l messages) (sym (taken l))) (orderly l link there home);
}

pub may_come : {E : Type 0} (r : Result Bool E) (g : Graph) (level : ℕ → ℕ) (i : ℕ) (s : State) (before all messages : List OnLink) → ((l : ℕ) → s.taken l ≡ on_link l before) → all ≡ before ++ messages → Each (ComesTo g i) messages
    → IfOk r (λ holds. holds ≡ true → AreOrderly g level i all) → IfOk r (λ holds. holds ≡ true → MayCome g level i s messages)
may_come (Ok b) g level i s before all messages taken whole stand h = λ yes. may g level i s before all messages taken whole stand (h yes)
may_come (Err e) g level i s before all messages taken whole stand h = tt

-- what was sent after the last of some turns
pub sent_last : (turns : List Turn) (n : ℕ) (sent : List OnLink) → length turns ≡ suc n → option_map (λ (turn : Turn). turn.sent) (slice_get turns n) ≡ Some sent → last_sent turns ≡ sent
sent_last [] n sent long is = absurd (omega (arith, long))
sent_last (turn ∷ []) zero sent long is = same_some turn.sent sent is
sent_last (turn ∷ []) (suc n) sent long is = absurd (none_some sent is)
sent_last (turn ∷ next ∷ turns) zero sent long is = absurd (omega (arith, long))
sent_last (turn ∷ next ∷ turns) (suc n) sent long is = let shorter : length (next ∷ turns) ≡ suc n = omega (arith, long) in sent_last (next ∷ turns) n sent shorter is
