-- A lawful log is fine, and its head is the tables.
use Rattle.std.proofs.Common.{◌≡◌, ◌≢◌, ℕ, zero, suc, ◌+◌, ◌≤◌, ◌<◌, Bool, List, [], ◌∷◌, ◌++◌, Some, refl, sym, ap, ap₂, subst, ◌∙◌, append-nil, arith, length, map}
use Rattle.std.proofs.lemmas.List.{map-append}
use Rattle.std.proofs.lemmas.List.Elements.{filter_map-append}
use Rattle.std.specs.Prelude.{◌==◌}
use Rattle.std.specs.List.{cons_option}
use Rattle.pt_types.specs.declared.graph.Graph.{Graph}
use Rattle.pt_types.specs.declared.rows.Row.{Row}
use Rattle.pt_types.specs.Lookups.{platform_of}
use Rattle.pt_types.specs.Ports.{when}
use Rattle.pt_semantics.specs.History.{IsLegal}
use Rattle.pt_semantics.specs.Linked.{all_sent, all_taken}
use Rattle.pt_semantics.specs.Lists.{Each}
use Rattle.pt_semantics.specs.Tables.{tables_text}
use Rattle.pt_semantics.specs.Turn.{Turn}
use Rattle.pt_semantics.proofs.Lookups.{Each-append}
use Rattle.pt_causality.specs.Ranked.{level_of}
use Rattle.pt_offsets.specs.Plans.{IsAdmitted, Parts}
use Rattle.pt_tables.specs.Log.{lines_from}
use Rattle.pt_audit.specs.Parsing.Hints.{IsLoggable}
use Rattle.pt_audit.specs.Parsing.Lines.{Block, at_log, blocks_from, text_lines}
use Rattle.pt_audit.proofs.Parsing.BlockTexts.{concat_lines}
use Rattle.pt_audit.proofs.Parsing.Cut.{log_blocks, log_cut, text_of}
use Rattle.pt_audit.specs.Parsing.Numbered.{numbered}
use Rattle.pt_audit.specs.LawfulLogs.{IsLawfulLog, history_in}
use Rattle.pt_audit.specs.Theorems.{LawfulLogsAreFine}
use Rattle.pt_audit.specs.Logged.{AreLogged, InPlatformOrder, LoggedTurn, turns_of}
use Rattle.pt_audit.specs.Verdicts.{IsHead, IsVerdict}
use Rattle.pt_audit.specs.declared.verdict.Verdict.TheVariants.{Fine}
use Rattle.pt_audit.proofs.LoggedTurns.{other_number, same_number}

abbrev as_logged : ℕ × Turn → LoggedTurn
as_logged x = record { platform = x.0; turn = x.1 }

abbrev logged_from : ℕ → List (List Turn) → List LoggedTurn
logged_from p histories = map as_logged (numbered p histories)

-- the logged turns of one platform
abbrev own_logged : ℕ → List Turn → List LoggedTurn
own_logged p turns = map as_logged (map (λ (turn : Turn). (p, turn)) turns)

logged_cons : (p : ℕ) (turns : List Turn) (histories : List (List Turn)) → logged_from p (turns ∷ histories) ≡ own_logged p turns ++ logged_from (p + 1) histories
logged_cons p turns histories = map-append as_logged (map (λ (turn : Turn). (p, turn)) turns) (numbered (p + 1) histories)

-- blocks with these texts are those of these turns

same_head : (x y : List ℕ) (xs ys : List (List ℕ)) → x ∷ xs ≡ y ∷ ys → (x ≡ y) × (xs ≡ ys)
same_head x y xs ys e = (cc, cc)

none_some_list : (x : List ℕ) (xs : List (List ℕ)) → [] ≡ x ∷ xs → ⊥
none_some_list x xs e = cc

are_logged : (g : Graph) (blocks : List Block) (xs : List (ℕ × Turn)) → map (λ (block : Block). block.text) blocks ≡ map (text_of g) xs → Each (λ (x : ℕ × Turn). IsLoggable g x.0 x.1) xs → AreLogged g blocks (map as_logged xs)
are_logged g [] [] e h = tt
are_logged g [] (x ∷ xs) e h = none_some_list (text_of g x) (map (text_of g) xs) e
are_logged g (b ∷ blocks) [] e h = none_some_list b.text (map (λ (block : Block). block.text) blocks) (sym e)
are_logged g (b ∷ blocks) (x ∷ xs) e h =
    let both = same_head b.text (text_of g x) (map (λ (block : Block). block.text) blocks) (map (text_of g) xs) e in
    (both.0, h.0, are_logged g blocks xs both.1 h.1)

-- the turns of each platform are its history

turns_append : (i : ℕ) (xs ys : List LoggedTurn) → turns_of i (xs ++ ys) ≡ turns_of i xs ++ turns_of i ys
turns_append i xs ys = filter_map-append (λ (t : LoggedTurn). when (t.platform == i) (Some t.turn)) xs ys

own_turns : (p : ℕ) (turns : List Turn) → turns_of p (own_logged p turns) ≡ turns
own_turns p [] = refl
own_turns p (turn ∷ turns) = ap (λ (b : Bool). cons_option (when b (Some turn)) (turns_of p (own_logged p turns))) (same_number p p refl) ∙ ap (λ ts. turn ∷ ts) (own_turns p turns)

others_turns : (i p : ℕ) (turns : List Turn) → p ≢ i → turns_of i (own_logged p turns) ≡ []
others_turns i p [] ne = refl
others_turns i p (turn ∷ turns) ne = ap (λ (b : Bool). cons_option (when b (Some turn)) (turns_of i (own_logged p turns))) (other_number p i ne) ∙ others_turns i p turns ne

-- earlier platforms have none of these
earlier : (i p : ℕ) (histories : List (List Turn)) → i < p → turns_of i (logged_from p histories) ≡ []
earlier i p [] lt = refl
earlier i p (turns ∷ histories) lt =
    ap (turns_of i) (logged_cons p turns histories) ∙ turns_append i (own_logged p turns) (logged_from (p + 1) histories)
    ∙ ap₂ (λ (a b : List Turn). a ++ b) (others_turns i p turns (λ e. absurd (omega (arith, lt, e)))) (earlier i (p + 1) histories (omega (arith, lt)))

history_logged : (p i : ℕ) (histories : List (List Turn)) → turns_of (p + i) (logged_from p histories) ≡ history_in histories i
history_logged p i [] = refl
history_logged p zero (turns ∷ histories) =
    let here : p + 0 ≡ p = omega arith in
    ap (λ n. turns_of n (logged_from p (turns ∷ histories))) here ∙ ap (turns_of p) (logged_cons p turns histories) ∙ turns_append p (own_logged p turns) (logged_from (p + 1) histories)
    ∙ ap₂ (λ (a b : List Turn). a ++ b) (own_turns p turns) (earlier p (p + 1) histories (omega arith)) ∙ append-nil turns
history_logged p (suc i) (turns ∷ histories) =
    let next : p + suc i ≡ (p + 1) + i = omega arith in
    ap (turns_of (p + suc i)) (logged_cons p turns histories) ∙ turns_append (p + suc i) (own_logged p turns) (logged_from (p + 1) histories)
    ∙ ap₂ (λ (a b : List Turn). a ++ b) (others_turns (p + suc i) p turns (λ e. absurd (omega (arith, e)))) (ap (λ n. turns_of n (logged_from (p + 1) histories)) next ∙ history_logged (p + 1) i histories)

-- the turns stand in the order of their platforms

own_from : (p : ℕ) (turns : List Turn) → Each (λ (t : LoggedTurn). p ≤ t.platform) (own_logged p turns)
own_from p [] = tt
own_from p (turn ∷ turns) = (omega arith, own_from p turns)

all_from : (q p : ℕ) (histories : List (List Turn)) → q ≤ p → Each (λ (t : LoggedTurn). q ≤ t.platform) (logged_from p histories)
all_from q p [] le = tt
all_from q p (turns ∷ histories) le =
    subst (Each (λ (t : LoggedTurn). q ≤ t.platform)) (sym (logged_cons p turns histories))
    (Each-append (λ (t : LoggedTurn). q ≤ t.platform) (own_logged p turns) (logged_from (p + 1) histories) (own_after q p turns le) (all_from q (p + 1) histories (omega (arith, le))))
  where
    own_after : (q p : ℕ) (turns : List Turn) → q ≤ p → Each (λ (t : LoggedTurn). q ≤ t.platform) (own_logged p turns)
    own_after q p [] le = tt
    own_after q p (turn ∷ turns) le = (le, own_after q p turns le)

in_order : (p : ℕ) (histories : List (List Turn)) → InPlatformOrder (logged_from p histories)
in_order p [] = tt
in_order p (turns ∷ histories) = subst InPlatformOrder (sym (logged_cons p turns histories)) (own_then p turns (logged_from (p + 1) histories) (in_order (p + 1) histories) (all_from p (p + 1) histories (omega arith)))
  where
    own_then : (p : ℕ) (turns : List Turn) (rest : List LoggedTurn) → InPlatformOrder rest → Each (λ (t : LoggedTurn). p ≤ t.platform) rest → InPlatformOrder (own_logged p turns ++ rest)
    own_then p [] rest h le = h
    own_then p (turn ∷ turns) rest h le = (Each-append (λ (t : LoggedTurn). p ≤ t.platform) (own_logged p turns) rest (own_from p turns) le, own_then p turns rest h le)

-- 64 bits hold their numbers

own_held : (g : Graph) (p : ℕ) (turns : List Turn) → Each (IsLoggable g p) turns → Each (λ (x : ℕ × Turn). IsLoggable g x.0 x.1) (map (λ (turn : Turn). (p, turn)) turns)
own_held g p [] h = tt
own_held g p (turn ∷ turns) h = (h.0, own_held g p turns h.1)

all_held : (g : Graph) (p : ℕ) (histories : List (List Turn)) → ((i : ℕ) → i < length histories → Each (IsLoggable g (p + i)) (history_in histories i)) → Each (λ (x : ℕ × Turn). IsLoggable g x.0 x.1) (numbered p histories)
all_held g p [] h = tt
all_held g p (turns ∷ histories) h =
    let here : p + 0 ≡ p = omega arith in
    Each-append (λ (x : ℕ × Turn). IsLoggable g x.0 x.1) (map (λ (turn : Turn). (p, turn)) turns) (numbered (p + 1) histories)
    (own_held g p turns (subst (λ n. Each (IsLoggable g n) turns) here (h 0 (omega arith))))
    (all_held g (p + 1) histories (λ i lt. let next : p + suc i ≡ (p + 1) + i = omega arith in subst (λ n. Each (IsLoggable g n) (history_in histories i)) next (h (suc i) (omega (arith, lt)))))

module _ (plan : Parts) (rows : ℕ → List Row) (bytes : List ℕ) (admitted : IsAdmitted plan) (log : IsLawfulLog plan rows bytes) where
  abbrev logged : List LoggedTurn
  logged = logged_from 0 log.histories

  history : (i : ℕ) → turns_of i logged ≡ history_in log.histories i
  history i = let here : i ≡ 0 + i = omega arith in ap (λ n. turns_of n logged) here ∙ history_logged 0 i log.histories

  lines : at_log (text_lines bytes) ≡ Some (text_lines (tables_text plan.graph log.firings), text_lines (lines_from plan.graph 0 log.histories))
  lines = ap (λ (text : List ℕ). at_log (text_lines text)) log.text ∙ log_cut plan.graph log.firings log.histories admitted.lawful

  held : Each (λ (x : ℕ × Turn). IsLoggable plan.graph x.0 x.1) (numbered 0 log.histories)
  held = all_held plan.graph 0 log.histories (λ i lt. let here : i ≡ 0 + i = omega arith in subst (λ n. Each (IsLoggable plan.graph n) (history_in log.histories i)) here (log.held i (subst (λ n. i < n) log.all lt)))

  pub fine : IsVerdict plan rows bytes Fine
  fine = record {
    short = log.short;
    head = text_lines (tables_text plan.graph log.firings);
    rest = text_lines (lines_from plan.graph 0 log.histories);
    lines = lines;
    fact = record {
      logged = logged;
      ends = log.ends;
      are_logged = are_logged plan.graph (blocks_from (length (text_lines (tables_text plan.graph log.firings)) + 2) (text_lines (lines_from plan.graph 0 log.histories))) (numbered 0 log.histories)
          (log_blocks plan.graph (length (text_lines (tables_text plan.graph log.firings)) + 2) log.histories admitted.lawful) held;
      lawful = record {
        in_order = in_order 0 log.histories;
        legal = λ i lt. subst (λ (turns : List Turn). IsLegal plan.graph (level_of plan.ranks) i rows turns (log.ends i)) (sym (history i)) (log.legal i lt);
      };
      fact = (
        log.finished,
        λ l link at. ap (all_sent l) (history (platform_of plan.graph link.from)) ∙ log.linked l link at ∙ ap (all_taken l) (sym (history (platform_of plan.graph link.to))),
      );
    };
  }

  pub head : IsHead plan rows bytes
  head = record {
    head = text_lines (tables_text plan.graph log.firings);
    rest = text_lines (lines_from plan.graph 0 log.histories);
    lines = lines;
    tables = record { firings = log.firings; meaning = log.meaning; written = concat_lines (tables_text plan.graph log.firings) };
  }

pub lawful_is_fine : LawfulLogsAreFine
lawful_is_fine = λ plan rows bytes admitted log. (fine plan rows bytes admitted log, head plan rows bytes admitted log)
