-- Logged turns in the order of their platforms, as histories.
use Rattle.std.proofs.Common.{◌≡◌, ◌≢◌, ℕ, zero, suc, ◌+◌, ◌≤◌, ◌<◌, Bool, List, [], ◌∷◌, ◌++◌, Some, refl, sym, ap, ap₂, subst, ◌∙◌, ⊎_elim, append_assoc, arith, length}
use Rattle.std.specs.Prelude.{flat_map}
use Rattle.std.specs.List.{cons_option}
use Rattle.pt_types.specs.declared.graph.Graph.{Graph}
use Rattle.pt_types.specs.Ports.{when}
use Rattle.pt_semantics.specs.Lists.{Each}
use Rattle.pt_semantics.specs.Turn.{Turn}
use Rattle.pt_laws.proofs.Onward.{cases_same}
use Rattle.pt_tables.specs.Log.{history_lines, lines_from, turn_lines}
use Rattle.pt_audit.specs.LawfulLogs.{history_in}
use Rattle.pt_audit.specs.Logged.{InPlatformOrder, LoggedTurn, turns_of}
use Rattle.pt_audit.proofs.LoggedTurns.{other_number, same_number}

-- the text of a logged turn
abbrev pub lines_logged : Graph → LoggedTurn → List ℕ
lines_logged g t = turn_lines g t.platform t.turn

-- the histories of k platforms from p on
abbrev pub histories_from : ℕ → ℕ → List LoggedTurn → List (List Turn)
histories_from p zero logged = []
histories_from p (suc k) logged = turns_of p logged ∷ histories_from (p + 1) k logged

-- logged turns whose platforms are from p on, in order: those of p, and then those of later platforms
record Split (p : ℕ) (logged : List LoggedTurn) : Type 0 where
  own : List Turn
  later : List LoggedTurn
  in_order : InPlatformOrder later
  past : Each (λ (t : LoggedTurn). p + 1 ≤ t.platform) later
  turns : turns_of p logged ≡ own
  others : (i : ℕ) → p + 1 ≤ i → turns_of i logged ≡ turns_of i later
  below : (n : ℕ) → Each (λ (t : LoggedTurn). t.platform < n) logged → Each (λ (t : LoggedTurn). t.platform < n) later
  lines : (g : Graph) → flat_map (lines_logged g) logged ≡ history_lines g p own ++ flat_map (lines_logged g) later

none_past : (p : ℕ) (logged : List LoggedTurn) → Each (λ (t : LoggedTurn). p + 1 ≤ t.platform) logged → turns_of p logged ≡ []
none_past p [] h = refl
none_past p (t ∷ logged) h =
    let other : t.platform ≢ p = λ e. absurd (omega (arith, h.0, e)) in
    ap (λ (b : Bool). cons_option (when b (Some t.turn)) (turns_of p logged)) (other_number t.platform p other) ∙ none_past p logged h.1

all_past : (p : ℕ) (t : LoggedTurn) (logged : List LoggedTurn) → p + 1 ≤ t.platform → Each (λ (u : LoggedTurn). t.platform ≤ u.platform) logged → Each (λ (u : LoggedTurn). p + 1 ≤ u.platform) logged
all_past p t [] lt h = tt
all_past p t (u ∷ logged) lt h = let le : t.platform ≤ u.platform = h.0 in (omega (arith, lt, le), all_past p t logged lt h.1)

split : (p : ℕ) (logged : List LoggedTurn) → InPlatformOrder logged → Each (λ (t : LoggedTurn). p ≤ t.platform) logged → Split p logged
split p [] order h = record { own = []; later = []; in_order = tt; past = tt; turns = refl; others = λ i le. refl; below = λ n all. all; lines = λ g. refl }
split p (t ∷ logged) order h =
    ⊎_elim
    (λ (here : t.platform ≡ p).
    let on = split p logged order.1 h.1 in
    record {
      own = t.turn ∷ on.own;
      later = on.later;
      in_order = on.in_order;
      past = on.past;
      turns = ap (λ (b : Bool). cons_option (when b (Some t.turn)) (turns_of p logged)) (same_number t.platform p here) ∙ ap (λ (ts : List Turn). t.turn ∷ ts) on.turns;
      others = λ i le.
          let other : t.platform ≢ i = λ e. absurd (omega (arith, here, e, le)) in
          ap (λ (b : Bool). cons_option (when b (Some t.turn)) (turns_of i logged)) (other_number t.platform i other) ∙ on.others i le;
      below = λ n all. on.below n all.1;
      lines = λ g.
          ap₂ (λ n (text : List ℕ). turn_lines g n t.turn ++ text) here (on.lines g) ∙ sym (append_assoc (turn_lines g p t.turn) (history_lines g p on.own) (flat_map (lines_logged g) on.later));
    })
    (λ (there : t.platform ≢ p).
    let le : p ≤ t.platform = h.0 in
    let lt : p + 1 ≤ t.platform = omega (arith, le, there) in
    let past : Each (λ (u : LoggedTurn). p + 1 ≤ u.platform) (t ∷ logged) = (lt, all_past p t logged lt order.0) in
    record { own = []; later = t ∷ logged; in_order = order; past = past; turns = none_past p (t ∷ logged) past; others = λ i le. refl; below = λ n all. all; lines = λ g. refl })
    (cases_same t.platform p)

same_from : (p k : ℕ) (some others : List LoggedTurn) → ((i : ℕ) → p ≤ i → turns_of i some ≡ turns_of i others) → histories_from p k some ≡ histories_from p k others
same_from p zero some others h = refl
same_from p (suc k) some others h = ap₂ (λ (t : List Turn) ts. t ∷ ts) (h p (omega arith)) (same_from (p + 1) k some others (λ i le. h i (omega (arith, le))))

none_left : (p : ℕ) (logged : List LoggedTurn) → Each (λ (t : LoggedTurn). p ≤ t.platform) logged → Each (λ (t : LoggedTurn). t.platform < p + zero) logged → logged ≡ []
none_left p [] low high = refl
none_left p (t ∷ logged) low high = let le : p ≤ t.platform = low.0 in let lt : t.platform < p + zero = high.0 in absurd (omega (arith, le, lt))

-- the text of logged turns is that of their histories
pub text_by_platform : (g : Graph) (p k : ℕ) (logged : List LoggedTurn) → InPlatformOrder logged → Each (λ (t : LoggedTurn). p ≤ t.platform) logged → Each (λ (t : LoggedTurn). t.platform < p + k) logged → flat_map (lines_logged g) logged ≡ lines_from g p (histories_from p k logged)
text_by_platform g p zero logged order low high = ap (flat_map (lines_logged g)) (none_left p logged low high)
text_by_platform g p (suc k) logged order low high =
    let s = split p logged order low in
    let next : p + suc k ≡ (p + 1) + k = omega arith in
    let on = text_by_platform g (p + 1) k s.later s.in_order s.past (subst (λ n. Each (λ (t : LoggedTurn). t.platform < n) s.later) next (s.below (p + suc k) high)) in
    s.lines g ∙ ap₂ (λ (own : List Turn) text. history_lines g p own ++ text) (sym s.turns) (on ∙ ap (lines_from g (p + 1)) (same_from (p + 1) k s.later logged (λ i le. sym (s.others i le))))

pub count_from : (p k : ℕ) (logged : List LoggedTurn) → length (histories_from p k logged) ≡ k
count_from p zero logged = refl
count_from p (suc k) logged = ap suc (count_from (p + 1) k logged)

pub history_from : (p k : ℕ) (logged : List LoggedTurn) (i : ℕ) → i < k → history_in (histories_from p k logged) i ≡ turns_of (p + i) logged
history_from p zero logged i lt = absurd (omega arith)
history_from p (suc k) logged zero lt = let e : p ≡ p + 0 = omega arith in ap (λ n. turns_of n logged) e
history_from p (suc k) logged (suc i) lt = let e : (p + 1) + i ≡ p + suc i = omega arith in history_from (p + 1) k logged i (omega arith) ∙ ap (λ n. turns_of n logged) e
