-- The verdict after a verification.
use Rattle.std.proofs.Common.{◌≡◌, ℕ, ◌+◌, ◌≤◌, List, ◌++◌, Option, Some, None, sym, ap, subst, ◌∙◌, arith, length, take, drop}
use Rattle.std.proofs.Math.Seq.{take-append_seam}
use Rattle.std.specs.Prelude.{◌-◌, MatchOption}
use Rattle.std.proofs.lemmas.List.{length-drop, take_all}
use Rattle.pt_tags.specs.declared.message.Message.{Message}
use Rattle.pt_types.specs.declared.rows.Row.{Row}
use Rattle.pt_semantics.specs.Rows.{FitRows}
use Rattle.pt_causality.specs.Ranked.{level_of}
use Rattle.pt_offsets.specs.Plans.{Parts}
use Rattle.pt_turn.specs.Platforms.{PlatformView}
use Rattle.pt_confluence.specs.Gathered.{HaveFinished}
use Rattle.pt_audit.specs.Parsing.Lines.{Block, blocks_from, text_lines}
use Rattle.pt_audit.specs.Parsing.Places.{IsLogAt}
use Rattle.pt_audit.specs.Finishing.{IsFinalVerdict}
use Rattle.pt_audit.specs.Limits.{log_limit}
use Rattle.pt_audit.specs.Verifying.{AreVerified}
use Rattle.pt_audit.specs.Verdicts.{HasLog, IsVerdict, IsVerdictOn, StopsAt}
use Rattle.pt_audit.specs.declared.order.Order.{Order}
use Rattle.pt_audit.specs.declared.verdict.Verdict.{Verdict}
use Rattle.pt_audit.specs.declared.verdict.Verdict.TheVariants.{TooLong, NoLog, Turn, Unfinished, Unlinked, Table, Fine}
use Rattle.pt_audit.proofs.Judged.{all_finished, judged}

-- a list of which every item was written
pub written : {X : Type 0} (n : ℕ) (new old : List X) → n ≡ length new → take n (new ++ drop (length new) old) ≡ new
written n new old e = ap (λ k. take k (new ++ drop (length new) old)) e ∙ take-append_seam new (drop (length new) old)

-- what comes from a place on, as a slice has it
pub rest_of : (xs : List ℕ) (n : ℕ) → take (length xs - n) (drop n xs) ≡ drop n xs
rest_of xs n = take_all (length xs - n) (drop n xs) (omega (arith, length-drop n xs))

module _ (plan : Parts) (rows : ℕ → List Row) (blocks : List Block) (order : Order) (last : List (Option Message)) (platforms : List PlatformView) where
  -- what is known where the verification stopped at a line, or didn't
  abbrev pub Stopped : Option ℕ → Type 0
  Stopped stop = MatchOption stop (AreVerified plan rows blocks order last platforms) (λ line. StopsAt plan.graph (level_of plan.ranks) rows line blocks)

  abbrev pub After : Verdict → Option ℕ → Type 0
  After v stop = MatchOption stop (IsFinalVerdict plan.graph platforms v) (λ line. v ≡ Turn line)

  pub verdict_is : (stop : Option ℕ) (v : Verdict) → Stopped stop → After v stop → IsVerdictOn plan rows blocks v
  verdict_is None v h k = judged plan rows blocks order last platforms h v k
  verdict_is (Some line) v h k = subst (IsVerdictOn plan rows blocks) (sym k) h

  pub finished_is : (stop : Option ℕ) (v : Verdict) → FitRows plan.graph rows → Stopped stop → After v stop → v ≡ Fine → HaveFinished plan rows platforms
  finished_is None v fit h k e = all_finished plan rows blocks order last platforms h fit v k e
  finished_is (Some line) v fit h k e = absurd (other line (sym k ∙ e))
    where
      other : (line : ℕ) → Turn line ≡ Fine → ⊥
      other line e = cc

-- the verdict on a log is that on its file
pub verdict_on_file : (plan : Parts) (rows : ℕ → List Row) (bytes : List ℕ) (place line : ℕ) (v : Verdict) → length bytes ≤ log_limit plan.graph.claims → IsLogAt bytes place line → IsVerdictOn plan rows (blocks_from (line + 1) (text_lines (drop (place + 4) bytes))) v → IsVerdict plan rows bytes v
verdict_on_file plan rows bytes place line v short at h = by v h
  where
    has : (w : Verdict) → IsVerdictOn plan rows (blocks_from (line + 1) (text_lines (drop (place + 4) bytes))) w → HasLog (log_limit plan.graph.claims) bytes (λ blocks. IsVerdictOn plan rows blocks w)
    has w k = record {
      short = short;
      head = text_lines (take place bytes);
      rest = text_lines (drop (place + 4) bytes);
      lines = at.lines;
      fact =
          let next : line + 1 ≡ length (text_lines (take place bytes)) + 2 = omega (arith, at.number) in
          subst (λ n. IsVerdictOn plan rows (blocks_from n (text_lines (drop (place + 4) bytes))) w) next k;
    }

    by : (w : Verdict) → IsVerdictOn plan rows (blocks_from (line + 1) (text_lines (drop (place + 4) bytes))) w → IsVerdict plan rows bytes w
    by TooLong k = absurd k
    by NoLog k = absurd k
    by Table k = absurd k
    by (Turn l) k = has (Turn l) k
    by (Unfinished i) k = has (Unfinished i) k
    by (Unlinked l) k = has (Unlinked l) k
    by Fine k = has Fine k
