-- What the replay of a log, and the comparison of its head, say of the file.
use Rattle.std.proofs.Common.{◌≡◌, ◌≢◌, ◌↔◌, Bool, true, ℕ, ◌+◌, ◌<◌, ◌≤◌, List, Option, Some, None, IfSome, length, take, drop, refl, sym, ap, subst, ◌∙◌, arith}
use Rattle.std.specs.List.{concat}
use Rattle.std.proofs.lemmas.Bool.Decides.{nat_tests}
use Rattle.std.proofs.lemmas.List.{length-take, take_all}
use Rattle.pt_types.specs.declared.rows.Row.{Row}
use Rattle.pt_semantics.specs.Tables.{tables_text}
use Rattle.pt_semantics.proofs.Lookups.{same_some}
use Rattle.pt_laws.proofs.Unique.{meaning_is_one}
use Rattle.pt_causality.specs.Ranked.{rank_of}
use Rattle.pt_offsets.specs.Plans.{IsAdmitted, Parts}
use Rattle.pt_confluence.specs.Gathered.{AreTables, HaveFinished}
use Rattle.pt_turn.specs.Platforms.{PlatformView}
use Rattle.pt_audit.specs.Parsing.Lines.{text_lines}
use Rattle.pt_audit.specs.Parsing.Places.{IsLogAt}
use Rattle.pt_audit.proofs.Parsing.BlockTexts.{concat_lines}
use Rattle.pt_audit.specs.Limits.{log_limit}
use Rattle.pt_audit.specs.Verdicts.{IsHead, IsVerdict}
use Rattle.pt_audit.specs.declared.verdict.Verdict.{Verdict}
use Rattle.pt_audit.specs.declared.verdict.Verdict.TheVariants.{TooLong, NoLog, Turn, Unfinished, Unlinked, Table, Fine}
use Rattle.pt_audit.proofs.FineLogs.{lawful_is_fine}
use Rattle.pt_audit.proofs.Lawful.{fine_is_lawful}
use Rattle.pt_audit.proofs.OneVerdict.{file_once}
use Rattle.pt_run.specs.Auditing.{Accepts, IsJudged, IsUnlawful, Refuses}
use Rattle.pt_sensor_files.specs.Bytes.{OfBytes}

-- a text is the tables of the meaning if it is the tables that were written
pub same_tables : (plan : Parts) (rows : ℕ → List Row) (tables text : List ℕ) → AreTables plan rows tables → (tables ≡ text) ↔ AreTables plan rows text
same_tables plan rows tables text h = (λ e. subst (AreTables plan rows) e h, λ k. h.written ∙ ap (tables_text plan.graph) (meaning_is_one plan.graph (rank_of plan.ranks) rows h.firings k.firings h.meaning k.meaning) ∙ sym k.written)

-- verdicts are told apart
fine_or : (v : Verdict) → Fine ≡ v → v ≢ Fine → ⊥
fine_or v e ne = ne (sym e)

table_fine : Table ≡ Fine → ⊥
table_fine e = cc

module _ (plan : Parts) (rows : ℕ → List Row) (bytes : List ℕ) (admitted : IsAdmitted plan) where
  -- the replay found a fault
  pub replay_refuses : (v : Verdict) → v ≢ Fine → IsVerdict plan rows bytes v → IsJudged plan rows bytes v
  replay_refuses v ne is = judged v ne unlawful
    where
      one : (other : Verdict) → IsVerdict plan rows bytes other → other ≡ v
      one other k = file_once plan rows bytes other v admitted k is

      refuses : (u : Verdict) → u ≢ Fine → IsVerdict plan rows bytes u → Refuses plan rows bytes u
      refuses TooLong ne k = k
      refuses NoLog ne k = k
      refuses (Turn line) ne k = k
      refuses (Unfinished i) ne k = k
      refuses (Unlinked l) ne k = k
      refuses Table ne k = absurd k.fact
      refuses Fine ne k = absurd (ne refl)

      only : (other : Verdict) → Refuses plan rows bytes other → other ≡ v
      only TooLong k = one TooLong k
      only NoLog k = one NoLog k
      only (Turn line) k = one (Turn line) k
      only (Unfinished i) k = one (Unfinished i) k
      only (Unlinked l) k = one (Unlinked l) k
      only Table k = absurd (fine_or v (one Fine k.0) ne)
      only Fine k = absurd k

      unlawful : IsUnlawful plan rows bytes v
      unlawful = record { refuses = refuses v ne is; only = only; never = λ lawful. fine_or v (one Fine (lawful_is_fine plan rows bytes admitted lawful).0) ne }

      judged : (u : Verdict) → u ≢ Fine → IsUnlawful plan rows bytes u → IsJudged plan rows bytes u
      judged TooLong ne k = k
      judged NoLog ne k = k
      judged (Turn line) ne k = k
      judged (Unfinished i) ne k = k
      judged (Unlinked l) ne k = k
      judged Table ne k = k
      judged Fine ne k = absurd (ne refl)

  -- the replay found none
  module _ (place line : ℕ) (at : IsLogAt bytes place line) (fine : IsVerdict plan rows bytes Fine) where
    one : (other : Verdict) → IsVerdict plan rows bytes other → other ≡ Fine
    one other k = file_once plan rows bytes other Fine admitted k fine

    -- and the text before `log` is the tables
    pub head_is_table : AreTables plan rows (take place bytes) → Accepts plan rows bytes
    head_is_table tables = record { lawful = fine_is_lawful plan rows bytes admitted fine head; only = only }
      where
        head : IsHead plan rows bytes
        head = record {
          head = text_lines (take place bytes);
          rest = text_lines (drop (place + 4) bytes);
          lines = at.lines;
          tables = record { firings = tables.firings; meaning = tables.meaning; written = concat_lines (take place bytes) ∙ tables.written };
        }

        only : (v : Verdict) → Refuses plan rows bytes v → ⊥
        only TooLong k = let e = one TooLong k in absurd cc
        only NoLog k = let e = one NoLog k in absurd cc
        only (Turn l) k = let e = one (Turn l) k in absurd cc
        only (Unfinished i) k = let e = one (Unfinished i) k in absurd cc
        only (Unlinked l) k = let e = one (Unlinked l) k in absurd cc
        only Table k = k.1 head
        only Fine k = k

    -- the head is that text
    of_head : IsHead plan rows bytes → AreTables plan rows (take place bytes)
    of_head head =
        let parts = same_some (head.head, head.rest) (text_lines (take place bytes), text_lines (drop (place + 4) bytes)) (sym head.lines ∙ at.lines) in
        subst (AreTables plan rows) (ap (λ (p : List (List ℕ) × List (List ℕ)). concat p.0) parts ∙ concat_lines (take place bytes)) head.tables

    -- or it isn't
    pub head_is_other : (AreTables plan rows (take place bytes) → ⊥) → IsUnlawful plan rows bytes Table
    head_is_other other = record {
      refuses = (fine, λ head. other (of_head head));
      only = only;
      never = λ lawful. other (of_head (lawful_is_fine plan rows bytes admitted lawful).1);
    }
      where
        only : (v : Verdict) → Refuses plan rows bytes v → v ≡ Table
        only TooLong k = absurd (let e = one TooLong k in cc)
        only NoLog k = absurd (let e = one NoLog k in cc)
        only (Turn l) k = absurd (let e = one (Turn l) k in cc)
        only (Unfinished i) k = absurd (let e = one (Unfinished i) k in cc)
        only (Unlinked l) k = absurd (let e = one (Unlinked l) k in cc)
        only Table k = refl
        only Fine k = absurd k

-- The first bytes of a log, one more than it may have.

whole : (most : ℕ) (bytes : List ℕ) → length (take (most + 1) bytes) ≤ most → take (most + 1) bytes ≡ bytes
whole most bytes short = take_all _ _ (grind (arith, nat_tests, length-take (most + 1) bytes))

longer : (most : ℕ) (bytes : List ℕ) → most < length (take (most + 1) bytes) → most < length bytes
longer most bytes long = grind (arith, nat_tests, length-take (most + 1) bytes)

-- each log that is refused by another verdict than `TooLong` is short
refused_short : (plan : Parts) (rows : ℕ → List Row) (bytes : List ℕ) (v : Verdict) → v ≢ TooLong → Refuses plan rows bytes v → length bytes ≤ log_limit plan.graph.claims
refused_short plan rows bytes TooLong ne k = absurd (ne refl)
refused_short plan rows bytes NoLog ne k = k.0
refused_short plan rows bytes (Turn line) ne k = k.short
refused_short plan rows bytes (Unfinished i) ne k = k.short
refused_short plan rows bytes (Unlinked l) ne k = k.short
refused_short plan rows bytes Table ne k = k.0.short
refused_short plan rows bytes Fine ne k = absurd k

not_both : (a b : ℕ) → a < b → b ≤ a → ⊥
not_both a b lt le = omega (arith, lt, le)

too_long : (plan : Parts) (rows : ℕ → List Row) (bytes : List ℕ) → log_limit plan.graph.claims < length bytes → IsUnlawful plan rows bytes TooLong
too_long plan rows bytes long = record { refuses = long; only = only; never = λ lawful. not_both (log_limit plan.graph.claims) (length bytes) long lawful.short }
  where
    short : (v : Verdict) → v ≢ TooLong → Refuses plan rows bytes v → v ≡ TooLong
    short v ne k = absurd (not_both (log_limit plan.graph.claims) (length bytes) long (refused_short plan rows bytes v ne k))

    only : (other : Verdict) → Refuses plan rows bytes other → other ≡ TooLong
    only TooLong k = refl
    only NoLog k = short NoLog (λ e. absurd cc) k
    only (Turn line) k = short (Turn line) (λ e. absurd cc) k
    only (Unfinished i) k = short (Unfinished i) (λ e. absurd cc) k
    only (Unlinked l) k = short (Unlinked l) (λ e. absurd cc) k
    only Table k = short Table (λ e. absurd cc) k
    only Fine k = absurd k

-- what they say of a file the whole file says
judged_whole : (plan : Parts) (rows : ℕ → List Row) (bytes : List ℕ) (v : Verdict) → IsJudged plan rows (take (log_limit plan.graph.claims + 1) bytes) v → IsJudged plan rows bytes v
judged_whole plan rows bytes v k = by_verdict v k
  where
    unlawful : (u : Verdict) → u ≢ TooLong → IsUnlawful plan rows (take (log_limit plan.graph.claims + 1) bytes) u → IsUnlawful plan rows bytes u
    unlawful u ne k = subst (λ bs. IsUnlawful plan rows bs u) (whole (log_limit plan.graph.claims) bytes (refused_short plan rows (take (log_limit plan.graph.claims + 1) bytes) u ne k.refuses)) k

    by_verdict : (u : Verdict) → IsJudged plan rows (take (log_limit plan.graph.claims + 1) bytes) u → IsJudged plan rows bytes u
    by_verdict TooLong k = too_long plan rows bytes (longer (log_limit plan.graph.claims) bytes k.refuses)
    by_verdict NoLog k = unlawful NoLog (λ e. absurd cc) k
    by_verdict (Turn line) k = unlawful (Turn line) (λ e. absurd cc) k
    by_verdict (Unfinished i) k = unlawful (Unfinished i) (λ e. absurd cc) k
    by_verdict (Unlinked l) k = unlawful (Unlinked l) (λ e. absurd cc) k
    by_verdict Table k = unlawful Table (λ e. absurd cc) k
    by_verdict Fine k = subst (Accepts plan rows) (whole (log_limit plan.graph.claims) bytes k.lawful.short) k

-- so what is found of the fetched bytes holds of the content
pub judged_content : (plan : Parts) (rows : ℕ → List Row) (content : Option (List ℕ)) (fetched : List ℕ) (v : Verdict) → IfSome content (λ bytes. fetched ≡ take (log_limit plan.graph.claims + 1) bytes) → IsJudged plan rows fetched v → OfBytes content (λ bytes. IsJudged plan rows bytes v)
judged_content plan rows None fetched v h k = (fetched, k)
judged_content plan rows (Some bytes) fetched v h k = judged_whole plan rows bytes v (subst (λ bs. IsJudged plan rows bs v) h k)

-- a verdict that isn't `Fine` refuses
refused_by : (plan : Parts) (rows : ℕ → List Row) (bytes : List ℕ) (v : Verdict) → v ≢ Fine → IsJudged plan rows bytes v → IsUnlawful plan rows bytes v
refused_by plan rows bytes TooLong ne k = k
refused_by plan rows bytes NoLog ne k = k
refused_by plan rows bytes (Turn line) ne k = k
refused_by plan rows bytes (Unfinished i) ne k = k
refused_by plan rows bytes (Unlinked l) ne k = k
refused_by plan rows bytes Table ne k = k
refused_by plan rows bytes Fine ne k = absurd (ne refl)

pub judged_unlawful : (plan : Parts) (rows : ℕ → List Row) (content : Option (List ℕ)) (v : Verdict) → v ≢ Fine → OfBytes content (λ bytes. IsJudged plan rows bytes v) → OfBytes content (λ bytes. IsUnlawful plan rows bytes v)
judged_unlawful plan rows None v ne k = (k.0, refused_by plan rows k.0 v ne k.1)
judged_unlawful plan rows (Some bytes) v ne k = refused_by plan rows bytes v ne k

-- what is found of tables with other names for the same things
pub tables_at : (p q : Parts) (rows : ℕ → List Row) (platforms items : List PlatformView) (text bytes : List ℕ) (same : Bool) → q ≡ p → platforms ≡ items → text ≡ bytes → ((rs : ℕ → List Row) → HaveFinished q rs platforms → (same ≡ true) ↔ AreTables q rs text) →
    HaveFinished p rows items → (same ≡ true) ↔ AreTables p rows bytes
tables_at p q rows platforms items text bytes same plans views texts found finished =
    subst (λ z. (same ≡ true) ↔ AreTables p rows z) texts (subst (λ (z : Parts). (same ≡ true) ↔ AreTables z rows text) plans
    (found rows (subst (λ (z : Parts). HaveFinished z rows platforms) (sym plans) (subst (λ (z : List PlatformView). HaveFinished p rows z) (sym views) finished))))
