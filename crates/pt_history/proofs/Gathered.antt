-- What the next turn changes of a history, for those that keep one: nothing that was claimed, taken or sent.
use Rattle.std.proofs.Common.{◌≡◌, ◌+◌, ◌^◌, ◌&&◌, if◌then◌else◌, Bool, true, false, List, [], ◌∷◌, ◌++◌, nat_lt, refl, sym, ap, ◌∙◌}
use Rattle.std.specs.List.{flat_map}
use Rattle.std.proofs.lemmas.Bool.{and_parts}
use Rattle.pt_history.specs.Lists.{on_last}
use Rattle.pt_history.proofs.LastMember.{on_last-push}
use Rattle.pt_semantics.specs.Turn.{Turn, is_quiet, joined}
use Rattle.pt_semantics.specs.Kept.{kept, kept_from, kept_with, settled}
use Rattle.pt_history.proofs.Joining.{quiet_is}

-- what is gathered of each turn, and of a quiet one is nothing, is gathered of the settled history too
module _ {X : Type 0} (f : Turn → List X) (nothing : (x : Turn) → is_quiet x ≡ true → f x ≡ []) (second : (x y : Turn) → f (joined x y) ≡ f y) where
  pair : (x y : Turn) (b : Bool) → (b ≡ true → is_quiet x ≡ true) → flat_map f (if b then joined x y ∷ [] else x ∷ y ∷ []) ≡ f x ++ (f y ++ [])
  pair x y true h = ap (λ z. z ++ []) (second x y) ∙ ap (λ z. z ++ (f y ++ [])) (sym (nothing x (h refl)))
  pair x y false h = refl

  gathered : (turns : List Turn) → flat_map f (settled turns) ≡ flat_map f turns
  gathered [] = refl
  gathered (x ∷ []) = refl
  gathered (x ∷ y ∷ []) =
      pair x y (is_quiet x && is_quiet y && nat_lt (x.count + y.count) (2 ^ 64))
      (λ h. (and_parts (is_quiet x) (is_quiet y) (and_parts (is_quiet x && is_quiet y) (nat_lt (x.count + y.count) (2 ^ 64)) h).0).0)
  gathered (x ∷ y ∷ z ∷ rest) = ap (λ l. f x ++ l) (gathered (y ∷ z ∷ rest))

-- so what was claimed, taken or sent stays the same
pub claimed_settled : (turns : List Turn) → flat_map (λ (turn : Turn). turn.claimed) (settled turns) ≡ flat_map (λ (turn : Turn). turn.claimed) turns
claimed_settled turns = gathered (λ (turn : Turn). turn.claimed) (λ x quiet. ap (λ (turn : Turn). turn.claimed) (quiet_is x quiet)) (λ x y. refl) turns

pub taken_settled : (turns : List Turn) → flat_map (λ (turn : Turn). turn.taken) (settled turns) ≡ flat_map (λ (turn : Turn). turn.taken) turns
taken_settled turns = gathered (λ (turn : Turn). turn.taken) (λ x quiet. ap (λ (turn : Turn). turn.taken) (quiet_is x quiet)) (λ x y. refl) turns

pub sent_settled : (turns : List Turn) → flat_map (λ (turn : Turn). turn.sent) (settled turns) ≡ flat_map (λ (turn : Turn). turn.sent) turns
sent_settled turns = gathered (λ (turn : Turn). turn.sent) (λ x quiet. ap (λ (turn : Turn). turn.sent) (quiet_is x quiet)) (λ x y. refl) turns

-- one turn more, of all turns of a platform
kept_from-push : (history turns : List Turn) (turn : Turn) → kept_from history (turns ++ turn ∷ []) ≡ kept_with (kept_from history turns) turn
kept_from-push history [] turn = refl
kept_from-push history (x ∷ turns) turn = kept_from-push (kept_with history x) turns turn

pub kept-push : (turns : List Turn) (turn : Turn) → kept (turns ++ turn ∷ []) ≡ kept_with (kept turns) turn
kept-push turns turn = kept_from-push [] turns turn

-- the last turn changed, of all turns of a platform
pub kept-on_last : (f : Turn → Turn) (turns : List Turn) (turn : Turn) → on_last f (kept (turns ++ turn ∷ [])) ≡ kept (turns ++ f turn ∷ [])
kept-on_last f turns turn = ap (on_last f) (kept-push turns turn) ∙ on_last-push f (settled (kept turns)) turn ∙ sym (kept-push turns (f turn))
