-- A fine log whose head is the tables is lawful.
use Rattle.std.proofs.Common.{◌≡◌, ◌≢◌, ℕ, ◌+◌, ◌≤◌, ◌<◌, Bool, List, [], ◌∷◌, ◌++◌, Some, refl, sym, ap, ap₂, subst, ◌∙◌, ⊎_elim, append_assoc, arith, length}
use Rattle.std.specs.Prelude.{flat_map}
use Rattle.std.specs.List.{concat, cons_option}
use Rattle.pt_types.specs.declared.graph.Graph.{Graph}
use Rattle.pt_types.specs.declared.rows.Row.{Row}
use Rattle.pt_types.specs.Lookups.{platform_of}
use Rattle.pt_types.specs.Ports.{when}
use Rattle.pt_semantics.specs.History.{IsLegal}
use Rattle.pt_semantics.specs.Linked.{AreLinked, all_sent, all_taken}
use Rattle.pt_semantics.specs.Lists.{Each}
use Rattle.pt_semantics.specs.Tables.{tables_text}
use Rattle.pt_semantics.specs.Turn.{Turn}
use Rattle.pt_semantics.proofs.LawfulEdges.{wired}
use Rattle.pt_semantics.proofs.Lookups.{same_some}
use Rattle.pt_laws.proofs.Onward.{cases_same}
use Rattle.pt_causality.specs.Ranked.{level_of}
use Rattle.pt_offsets.specs.Plans.{IsAdmitted, Parts}
use Rattle.pt_tables.specs.Log.{lines_from, log_head, log_text}
use Rattle.pt_audit.specs.Parsing.Hints.{IsLoggable}
use Rattle.pt_audit.specs.Parsing.Lines.{Block, blocks_from, text_lines}
use Rattle.pt_audit.proofs.Parsing.BlockTexts.{concat_lines, joined, joined_lines}
use Rattle.pt_audit.specs.LawfulLogs.{IsLawfulLog, history_in}
use Rattle.pt_audit.specs.Theorems.{FineLogsAreLawful}
use Rattle.pt_audit.specs.Logged.{AreLogged, LoggedTurn, turns_of}
use Rattle.pt_audit.specs.Verdicts.{IsHead, IsVerdict, AllBlocksSay, AllAreFinished}
use Rattle.pt_audit.specs.declared.verdict.Verdict.TheVariants.{Fine}
use Rattle.pt_audit.proofs.ByPlatform.{count_from, histories_from, history_from, lines_logged, text_by_platform}
use Rattle.pt_audit.proofs.Texts.{log_parts}
use Rattle.pt_audit.proofs.LoggedTurns.{other_number, same_number}

logged_texts : (g : Graph) (blocks : List Block) (logged : List LoggedTurn) → AreLogged g blocks logged → joined blocks ≡ flat_map (lines_logged g) logged
logged_texts g [] [] h = refl
logged_texts g [] (t ∷ logged) h = absurd h
logged_texts g (b ∷ blocks) [] h = absurd h
logged_texts g (b ∷ blocks) (t ∷ logged) h = ap₂ (λ (text : List ℕ) more. text ++ more) h.0 (logged_texts g blocks logged h.2)

logged_held : (g : Graph) (i : ℕ) (blocks : List Block) (logged : List LoggedTurn) → AreLogged g blocks logged → Each (IsLoggable g i) (turns_of i logged)
logged_held g i [] [] h = tt
logged_held g i [] (t ∷ logged) h = absurd h
logged_held g i (b ∷ blocks) [] h = absurd h
logged_held g i (b ∷ blocks) (t ∷ logged) h =
    ⊎_elim
    (λ (here : t.platform ≡ i).
    subst (λ (c : Bool). Each (IsLoggable g i) (cons_option (when c (Some t.turn)) (turns_of i logged))) (sym (same_number t.platform i here))
    (subst (λ n. IsLoggable g n t.turn) here h.1, logged_held g i blocks logged h.2))
    (λ (there : t.platform ≢ i).
    subst (λ (c : Bool). Each (IsLoggable g i) (cons_option (when c (Some t.turn)) (turns_of i logged))) (sym (other_number t.platform i there)) (logged_held g i blocks logged h.2))
    (cases_same t.platform i)

logged_below : (g : Graph) (n : ℕ) (blocks : List Block) (logged : List LoggedTurn) → n ≡ length g.platforms → AreLogged g blocks logged → Each (λ (t : LoggedTurn). t.platform < n) logged
logged_below g n [] [] e h = tt
logged_below g n [] (t ∷ logged) e h = absurd h
logged_below g n (b ∷ blocks) [] e h = absurd h
logged_below g n (b ∷ blocks) (t ∷ logged) e h = let lt : t.platform < length g.platforms = h.1.platform in (omega (arith, lt, e), logged_below g n blocks logged e h.2)

from_zero : (logged : List LoggedTurn) → Each (λ (t : LoggedTurn). 0 ≤ t.platform) logged
from_zero [] = tt
from_zero (t ∷ logged) = (omega arith, from_zero logged)

module _ (plan : Parts) (rows : ℕ → List Row) (bytes : List ℕ) (admitted : IsAdmitted plan) (fine : IsVerdict plan rows bytes Fine) (head : IsHead plan rows bytes) where
  abbrev blocks : List Block
  blocks = blocks_from (length fine.head + 2) fine.rest

  said : AllBlocksSay plan.graph (level_of plan.ranks) rows blocks (λ histories ends. AllAreFinished plan.graph ends × AreLinked plan.graph histories)
  said = fine.fact

  abbrev count : ℕ
  count = length plan.graph.platforms

  abbrev histories : List (List Turn)
  histories = histories_from 0 count said.logged

  history : (i : ℕ) → i < count → history_in histories i ≡ turns_of i said.logged
  history i lt = let e : 0 + i ≡ i = omega arith in history_from 0 count said.logged i lt ∙ ap (λ n. turns_of n said.logged) e

  below : Each (λ (t : LoggedTurn). t.platform < 0 + count) said.logged
  below = logged_below plan.graph (0 + count) blocks said.logged (omega arith) said.are_logged

  rest_is : concat fine.rest ≡ lines_from plan.graph 0 histories
  rest_is =
      sym (joined_lines (length fine.head + 2) fine.rest) ∙ logged_texts plan.graph blocks said.logged said.are_logged
      ∙ text_by_platform plan.graph 0 count said.logged said.lawful.in_order (from_zero said.logged) below

  head_is : concat fine.head ≡ tables_text plan.graph head.tables.firings
  head_is =
      let same = same_some (fine.head, fine.rest) (head.head, head.rest) (sym fine.lines ∙ head.lines) in
      ap (λ (parts : List (List ℕ) × List (List ℕ)). concat parts.0) same ∙ head.tables.written

  text_is : bytes ≡ tables_text plan.graph head.tables.firings ++ log_text plan.graph histories
  text_is =
      sym (concat_lines bytes) ∙ log_parts (text_lines bytes) fine.head fine.rest fine.lines
      ∙ append_assoc (concat fine.head) log_head (concat fine.rest)
      ∙ ap₂ (λ (some more : List ℕ). some ++ (log_head ++ more)) head_is rest_is

  pub lawful : IsLawfulLog plan rows bytes
  lawful = record {
    short = fine.short;
    histories = histories;
    all = count_from 0 count said.logged;
    ends = said.ends;
    legal = λ i lt. subst (λ (turns : List Turn). IsLegal plan.graph (level_of plan.ranks) i rows turns (said.ends i)) (sym (history i lt)) (said.lawful.legal i lt);
    finished = said.fact.0;
    linked = λ l link at.
        ap (all_sent l) (history (platform_of plan.graph link.from) ((wired plan.graph admitted.lawful).homes link.from))
        ∙ said.fact.1 l link at
        ∙ ap (all_taken l) (sym (history (platform_of plan.graph link.to) ((wired plan.graph admitted.lawful).homes link.to)));
    held = λ i lt. subst (Each (IsLoggable plan.graph i)) (sym (history i lt)) (logged_held plan.graph i blocks said.logged said.are_logged);
    firings = head.tables.firings;
    meaning = head.tables.meaning;
    text = text_is;
  }

pub fine_is_lawful : FineLogsAreLawful
fine_is_lawful = λ plan rows bytes admitted fine head. lawful plan rows bytes admitted fine head
