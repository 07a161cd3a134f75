-- What is found of a log is the same by each admitted plan of one graph.
use Rattle.std.proofs.Common.{◌≡◌, ◌≤◌, ◌<◌, ℕ, List, length, sym, ap, subst, ◌∙◌}
use Rattle.pt_types.specs.declared.graph.Graph.{Graph}
use Rattle.pt_types.specs.declared.rows.Row.{Row}
use Rattle.pt_semantics.specs.Linked.{AreLinked}
use Rattle.pt_semantics.specs.Meaning.{IsMeaning}
use Rattle.pt_semantics.specs.Ranks.{AreLevels, AreRanks}
use Rattle.pt_semantics.specs.Tables.{tables_text}
use Rattle.pt_semantics.proofs.Acyclic.{levels_are_one, ranks_are_one}
use Rattle.pt_causality.specs.Ranked.{level_of, rank_of}
use Rattle.pt_offsets.specs.Plans.{IsAdmitted, Parts}
use Rattle.pt_audit.specs.Parsing.Lines.{Block}
use Rattle.pt_audit.specs.LawfulLogs.{IsLawfulLog}
use Rattle.pt_audit.specs.Limits.{log_limit}
use Rattle.pt_audit.specs.Verdicts.{AllAreFinished, HasLog, IsFirstUnfinished, IsFirstUnlinked, IsHead, IsVerdict, IsVerdictOn, StopsAt, AllBlocksSay}
use Rattle.pt_audit.specs.declared.verdict.Verdict.{Verdict}
use Rattle.pt_audit.specs.declared.verdict.Verdict.TheVariants.{TooLong, NoLog, Turn, Unfinished, Unlinked, Table, Fine}
use Rattle.pt_audit.proofs.FineLogs.{lawful_is_fine}
use Rattle.pt_audit.proofs.Lawful.{fine_is_lawful}
use Rattle.pt_run.specs.Auditing.{Accepts, IsUnlawful, Refuses}

module _ (p q : Parts) (rows : ℕ → List Row) (bytes : List ℕ) (one : IsAdmitted p) (two : IsAdmitted q) (same : p.graph ≡ q.graph) where
  levels : level_of p.ranks ≡ level_of q.ranks
  levels = levels_are_one q.graph (level_of p.ranks) (level_of q.ranks) (subst (λ (g : Graph). AreLevels g (level_of p.ranks)) same one.levels) two.levels

  ranks : rank_of p.ranks ≡ rank_of q.ranks
  ranks = ranks_are_one q.graph (rank_of p.ranks) (rank_of q.ranks) (subst (λ (g : Graph). AreRanks g (rank_of p.ranks)) same one.ranks) two.ranks

  by_levels : (Fact : Graph → (ℕ → ℕ) → Type 0) → Fact p.graph (level_of p.ranks) → Fact q.graph (level_of q.ranks)
  by_levels Fact h = subst (λ (level : ℕ → ℕ). Fact q.graph level) levels (subst (λ (g : Graph). Fact g (level_of p.ranks)) same h)

  verdict_on : (v : Verdict) (blocks : List Block) → IsVerdictOn p rows blocks v → IsVerdictOn q rows blocks v
  verdict_on TooLong blocks k = k
  verdict_on NoLog blocks k = k
  verdict_on Table blocks k = k
  verdict_on (Turn line) blocks k = by_levels (λ g level. StopsAt g level rows line blocks) k
  verdict_on (Unfinished i) blocks k = by_levels (λ g level. AllBlocksSay g level rows blocks (λ histories ends. IsFirstUnfinished g i ends)) k
  verdict_on (Unlinked l) blocks k = by_levels (λ g level. AllBlocksSay g level rows blocks (λ histories ends. AllAreFinished g ends × IsFirstUnlinked g l histories)) k
  verdict_on Fine blocks k = by_levels (λ g level. AllBlocksSay g level rows blocks (λ histories ends. AllAreFinished g ends × AreLinked g histories)) k

  is_short : length bytes ≤ log_limit p.graph.claims → length bytes ≤ log_limit q.graph.claims
  is_short h = subst (λ (g : Graph). length bytes ≤ log_limit g.claims) same h

  on_file : (v : Verdict) → HasLog (log_limit p.graph.claims) bytes (λ blocks. IsVerdictOn p rows blocks v) → HasLog (log_limit q.graph.claims) bytes (λ blocks. IsVerdictOn q rows blocks v)
  on_file v k = record { short = is_short k.short; head = k.head; rest = k.rest; lines = k.lines; fact = verdict_on v _ k.fact }

  pub same_verdict : (v : Verdict) → IsVerdict p rows bytes v → IsVerdict q rows bytes v
  same_verdict TooLong k = subst (λ (g : Graph). log_limit g.claims < length bytes) same k
  same_verdict NoLog k = (is_short k.0, k.1)
  same_verdict (Turn line) k = on_file (Turn line) k
  same_verdict (Unfinished i) k = on_file (Unfinished i) k
  same_verdict (Unlinked l) k = on_file (Unlinked l) k
  same_verdict Table k = on_file Table k
  same_verdict Fine k = on_file Fine k

  pub same_head : IsHead p rows bytes → IsHead q rows bytes
  same_head k = record {
    head = k.head;
    rest = k.rest;
    lines = k.lines;
    tables = record {
      firings = k.tables.firings;
      meaning = subst (λ (rank : ℕ → ℕ). IsMeaning q.graph rank rows k.tables.firings) ranks (subst (λ (g : Graph). IsMeaning g (rank_of p.ranks) rows k.tables.firings) same k.tables.meaning);
      written = k.tables.written ∙ ap (λ (g : Graph). tables_text g k.tables.firings) same;
    };
  }

  pub same_lawful : IsLawfulLog p rows bytes → IsLawfulLog q rows bytes
  same_lawful k = let fine = lawful_is_fine p rows bytes one k in fine_is_lawful q rows bytes two (same_verdict Fine fine.0) (same_head fine.1)

pub same_refusal : (p q : Parts) (rows : ℕ → List Row) (bytes : List ℕ) → IsAdmitted p → IsAdmitted q → p.graph ≡ q.graph → (v : Verdict) → Refuses p rows bytes v → Refuses q rows bytes v
same_refusal p q rows bytes one two same TooLong k = same_verdict p q rows bytes one two same TooLong k
same_refusal p q rows bytes one two same NoLog k = same_verdict p q rows bytes one two same NoLog k
same_refusal p q rows bytes one two same (Turn line) k = same_verdict p q rows bytes one two same (Turn line) k
same_refusal p q rows bytes one two same (Unfinished i) k = same_verdict p q rows bytes one two same (Unfinished i) k
same_refusal p q rows bytes one two same (Unlinked l) k = same_verdict p q rows bytes one two same (Unlinked l) k
same_refusal p q rows bytes one two same Table k = (same_verdict p q rows bytes one two same Fine k.0, λ head. k.1 (same_head q p rows bytes two one (sym same) head))
same_refusal p q rows bytes one two same Fine k = absurd k

pub same_unlawful : (p q : Parts) (rows : ℕ → List Row) (bytes : List ℕ) → IsAdmitted p → IsAdmitted q → p.graph ≡ q.graph → (v : Verdict) → IsUnlawful p rows bytes v → IsUnlawful q rows bytes v
same_unlawful p q rows bytes one two same v k = record {
  refuses = same_refusal p q rows bytes one two same v k.refuses;
  only = λ other h. k.only other (same_refusal q p rows bytes two one (sym same) other h);
  never = λ lawful. k.never (same_lawful q p rows bytes two one (sym same) lawful);
}

pub same_accepted : (p q : Parts) (rows : ℕ → List Row) (bytes : List ℕ) → IsAdmitted p → IsAdmitted q → p.graph ≡ q.graph → Accepts p rows bytes → Accepts q rows bytes
same_accepted p q rows bytes one two same k = record {
  lawful = same_lawful p q rows bytes one two same k.lawful;
  only = λ v h. k.only v (same_refusal q p rows bytes two one (sym same) v h);
}
