-- Logged turns, one more at the end.
use Rattle.std.proofs.Common.{◌≡◌, ◌≢◌, ℕ, ◌≤◌, ◌<◌, Bool, true, false, List, [], ◌∷◌, ◌++◌, Some, refl, sym, ap, subst, ◌∙◌, ⊎_elim, append-nil, arith, length}
use Rattle.std.specs.Prelude.{◌==◌, if◌then◌else◌}
use Rattle.std.specs.List.{cons_option}
use Rattle.std.proofs.lemmas.Bool.{eq-eqb, eqb-true, cases_Bool}
use Rattle.std.proofs.lemmas.List.Elements.{filter_map-append}
use Rattle.pt_types.specs.declared.graph.Graph.{Graph}
use Rattle.pt_types.specs.declared.rows.Row.{Row}
use Rattle.pt_types.specs.Ports.{when}
use Rattle.pt_semantics.specs.History.{IsCounted, IsLegal}
use Rattle.pt_semantics.specs.Lists.{Each}
use Rattle.pt_semantics.specs.Platform.{State, opened}
use Rattle.pt_tables.specs.Log.{turn_lines}
use Rattle.pt_audit.specs.Parsing.Hints.{IsLoggable}
use Rattle.pt_audit.specs.Parsing.Lines.{Block}
use Rattle.pt_laws.proofs.Onward.{cases_same}
use Rattle.pt_audit.specs.Logged.{AreLawful, AreLogged, InPlatformOrder, LoggedTurn, turns_of}
use Rattle.pt_audit.proofs.OneState.{Parted, legal_parted}
use Rattle.pt_audit.proofs.JoinedTurns.{joined_front}

-- the turns of a platform

pub same_number : (a b : ℕ) → a ≡ b → (a == b) ≡ true
same_number a b e = eq-eqb a b e

pub other_number : (a b : ℕ) → a ≢ b → (a == b) ≡ false
other_number a b n = ⊎_elim (λ (t : (a == b) ≡ true). absurd (n (eqb-true a b t))) (λ (f : (a == b) ≡ false). f) (cases_Bool (a == b))

turns_push : (i : ℕ) (logged : List LoggedTurn) (t : LoggedTurn) → turns_of i (logged ++ t ∷ []) ≡ turns_of i logged ++ turns_of i (t ∷ [])
turns_push i logged t = filter_map-append (λ (x : LoggedTurn). when (x.platform == i) (Some x.turn)) logged (t ∷ [])

pub turns_here : (i : ℕ) (logged : List LoggedTurn) (t : LoggedTurn) → t.platform ≡ i → turns_of i (logged ++ t ∷ []) ≡ turns_of i logged ++ t.turn ∷ []
turns_here i logged t e = turns_push i logged t ∙ ap (λ (b : Bool). turns_of i logged ++ cons_option (when b (Some t.turn)) []) (same_number t.platform i e)

pub turns_there : (i : ℕ) (logged : List LoggedTurn) (t : LoggedTurn) → t.platform ≢ i → turns_of i (logged ++ t ∷ []) ≡ turns_of i logged
turns_there i logged t n = turns_push i logged t ∙ ap (λ (b : Bool). turns_of i logged ++ cons_option (when b (Some t.turn)) []) (other_number t.platform i n) ∙ append-nil (turns_of i logged)

-- a platform past all that are logged has made no turn
pub none_of : (i j : ℕ) (logged : List LoggedTurn) → Each (λ (t : LoggedTurn). t.platform ≤ j) logged → j < i → turns_of i logged ≡ []
none_of i j [] h lt = refl
none_of i j (t ∷ logged) h lt =
    let le : t.platform ≤ j = h.0 in
    let other : t.platform ≢ i = λ e. absurd (omega (arith, le, lt, e)) in
    ap (λ (b : Bool). cons_option (when b (Some t.turn)) (turns_of i logged)) (other_number t.platform i other) ∙ none_of i j logged h.1 lt

-- one more block and its turn

pub logged_push : (g : Graph) (blocks : List Block) (logged : List LoggedTurn) (b : Block) (t : LoggedTurn) → AreLogged g blocks logged → b.text ≡ turn_lines g t.platform t.turn → IsLoggable g t.platform t.turn → AreLogged g (blocks ++ b ∷ []) (logged ++ t ∷ [])
logged_push g [] [] b t h text is = (text, is, tt)
logged_push g [] (u ∷ logged) b t h text is = absurd h
logged_push g (c ∷ blocks) [] b t h text is = absurd h
logged_push g (c ∷ blocks) (u ∷ logged) b t h text is = (h.0, h.1, logged_push g blocks logged b t h.2 text is)

-- the turn of the last block
pub record LastLogged (g : Graph) (blocks : List Block) (b : Block) (logged : List LoggedTurn) : Type 0 where
  pub front : List LoggedTurn
  pub turn : LoggedTurn
  pub is : logged ≡ front ++ turn ∷ []
  pub before : AreLogged g blocks front
  pub text : b.text ≡ turn_lines g turn.platform turn.turn
  pub loggable : IsLoggable g turn.platform turn.turn

pub logged_last : (g : Graph) (blocks : List Block) (b : Block) (logged : List LoggedTurn) → AreLogged g (blocks ++ b ∷ []) logged → LastLogged g blocks b logged
logged_last g [] b [] h = absurd h
logged_last g [] b (t ∷ []) h = record { front = []; turn = t; is = refl; before = tt; text = h.0; loggable = h.1 }
logged_last g [] b (t ∷ u ∷ logged) h = absurd h.2
logged_last g (c ∷ blocks) b [] h = absurd h
logged_last g (c ∷ blocks) b (t ∷ logged) h =
    let on = logged_last g blocks b logged h.2 in
    record { front = t ∷ on.front; turn = on.turn; is = ap (λ ts. t ∷ ts) on.is; before = (h.0, h.1, on.before); text = on.text; loggable = on.loggable }

pub each_push : {X : Type 0} (P : X → Type 0) (xs : List X) (x : X) → Each P xs → P x → Each P (xs ++ x ∷ [])
each_push P [] x h p = (p, tt)
each_push P (y ∷ xs) x h p = (h.0, each_push P xs x h.1 p)

pub each_front : {X : Type 0} (P : X → Type 0) (xs : List X) (x : X) → Each P (xs ++ x ∷ []) → Each P xs
each_front P [] x h = tt
each_front P (y ∷ xs) x h = (h.0, each_front P xs x h.1)

pub each_last : {X : Type 0} (P : X → Type 0) (xs : List X) (x : X) → Each P (xs ++ x ∷ []) → P x
each_last P [] x h = h.0
each_last P (y ∷ xs) x h = each_last P xs x h.1

-- the order of platforms

pub order_push : (logged : List LoggedTurn) (t : LoggedTurn) → InPlatformOrder logged → Each (λ (u : LoggedTurn). u.platform ≤ t.platform) logged → InPlatformOrder (logged ++ t ∷ [])
order_push [] t h le = (tt, tt)
order_push (u ∷ logged) t h le = (each_push (λ (later : LoggedTurn). u.platform ≤ later.platform) logged t h.0 le.0, order_push logged t h.1 le.1)

pub order_front : (logged : List LoggedTurn) (t : LoggedTurn) → InPlatformOrder (logged ++ t ∷ []) → InPlatformOrder logged
order_front [] t h = tt
order_front (u ∷ logged) t h = (each_front (λ (later : LoggedTurn). u.platform ≤ later.platform) logged t h.0, order_front logged t h.1)

pub order_last : (logged : List LoggedTurn) (t : LoggedTurn) → InPlatformOrder (logged ++ t ∷ []) → Each (λ (u : LoggedTurn). u.platform ≤ t.platform) logged
order_last [] t h = tt
order_last (u ∷ logged) t h = (each_last (λ (later : LoggedTurn). u.platform ≤ later.platform) logged t h.0, order_last logged t h.1)

-- lawful turns without the last one

module _ (g : Graph) (level : ℕ → ℕ) (rows : ℕ → List Row) (front : List LoggedTurn) (t : LoggedTurn) (ends : ℕ → State) (within : t.platform < length g.platforms) (h : AreLawful g level rows (front ++ t ∷ []) ends) where
  -- the turns of the platform of the last one
  pub own : IsLegal g level t.platform rows (turns_of t.platform front ++ t.turn ∷ []) (ends t.platform)
  own = subst (λ turns. IsLegal g level t.platform rows turns (ends t.platform)) (turns_here t.platform front t refl) (h.legal t.platform within)

  pub parted : Parted g level t.platform (opened g t.platform rows) (turns_of t.platform front) t.turn (ends t.platform)
  parted = legal_parted g level t.platform (opened g t.platform rows) (turns_of t.platform front) t.turn (ends t.platform) own.leads

  abbrev pub before_ends : ℕ → State
  before_ends i = if t.platform == i then parted.mid else ends i

  own_before : IsLegal g level t.platform rows (turns_of t.platform front) parted.mid
  own_before = record {
    leads = parted.leads;
    counted = each_front IsCounted (turns_of t.platform front) t.turn own.counted;
    joined = joined_front (turns_of t.platform front) t.turn own.joined;
  }

  legal_before : (i : ℕ) → i < length g.platforms → IsLegal g level i rows (turns_of i front) (before_ends i)
  legal_before i lt =
      ⊎_elim
      (λ (here : t.platform ≡ i).
      subst (λ k. IsLegal g level k rows (turns_of k front) (before_ends k)) here
      (subst (λ (s : State). IsLegal g level t.platform rows (turns_of t.platform front) s) (sym (ap (λ (b : Bool). if b then parted.mid else ends t.platform) (same_number t.platform t.platform refl))) own_before))
      (λ (there : t.platform ≢ i).
      subst (λ (s : State). IsLegal g level i rows (turns_of i front) s) (sym (ap (λ (b : Bool). if b then parted.mid else ends i) (other_number t.platform i there)))
      (subst (λ turns. IsLegal g level i rows turns (ends i)) (turns_there i front t there) (h.legal i lt)))
      (cases_same t.platform i)

  pub lawful_before : AreLawful g level rows front before_ends
  lawful_before = record { in_order = order_front front t h.in_order; legal = legal_before }
