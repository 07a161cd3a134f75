use Rattle.std.proofs.Common.{◌≡◌, ℕ, List, [], None, Option, length, replicate, sym, ap, subst, ◌∙◌, arith}
use Rattle.pt_tags.specs.declared.message.Message.{Message}
use Rattle.pt_types.specs.declared.graph.Graph.{Graph}
use Rattle.pt_types.specs.declared.rows.Row.{Row}
use Rattle.pt_offsets.specs.Plans.{IsAdmitted, Parts}
use Rattle.pt_turn.specs.All.{AreReady}
use Rattle.pt_turn.specs.Platforms.{PlatformView}
use Rattle.pt_confluence.specs.Gathered.{AreLegal, HaveFinished}
use Rattle.std.specs.Prelude.{MatchOption}
use Rattle.pt_audit.specs.Finishing.{IsFinalVerdict}
use Rattle.pt_audit.specs.Verifying.{AreVerified, fresh_order}
use Rattle.pt_audit.specs.declared.verdict.Verdict.{Verdict}
use Rattle.pt_audit.specs.declared.verdict.Verdict.TheVariants.{Turn}
use Rattle.pt_audit.proofs.Ended.{finished_is, verdict_is, written}
use Rattle.pt_audit.proofs.Start.{starts}
use Rattle.pt_audit.proofs.log.verify_log.Goals as goal

-- at the start, with the lists as they are lent
started : (plan : Parts) (rows : ℕ → List Row) (platforms sliced lent : List PlatformView) (last last_lent : List (Option Message)) (g : Graph) (links : ℕ) → IsAdmitted plan → AreReady plan rows platforms → AreLegal sliced → sliced ≡ platforms → lent ≡ platforms → last_lent ≡ last → last ≡ replicate links None → links ≡ length g.links → g ≡ plan.graph
    → AreVerified plan rows [] (fresh_order 0) last_lent lent
started plan rows platforms sliced lent last last_lent g links admitted ready legal same lends lasts none count graph =
    subst (λ (vs : List PlatformView). AreVerified plan rows [] (fresh_order 0) last_lent vs) (sym lends)
    (starts plan rows platforms last_lent admitted ready (subst AreLegal same legal) (lasts ∙ none ∙ ap (λ n. replicate n None) (count ∙ ap (λ (z : Graph). length z.links) graph)))

pub verify_blocks-requires : goal.verify_blocks-requires
verify_blocks-requires g c = record {
  begun =
      let (rows, ready) = c.requires.ready in (
        rows,
        started c.args.plan.now rows c.args.platforms.items c.as_slice.result.now c.as_mut_slice.result.now c.in_ok-last.last.items c.as_mut_slice-2.result.now c.graph.result.now (length c.as_slice-2.result.now) c.graph.ensures.admitted ready c.have_not_moved.ensures.legal c.as_slice.ensures.value c.as_mut_slice.ensures.value c.as_mut_slice-2.ensures.value c.in_ok-last.ensures (ap length c.as_slice-2.ensures) c.graph.ensures.value,
      );
}

-- the verdict, in the words of the plan
judged_by : (stop : Option ℕ) (g h : Graph) (some all : List PlatformView) (v : Verdict) → g ≡ h → some ≡ all → MatchOption stop (IsFinalVerdict g some v) (λ line. v ≡ Turn line) → MatchOption stop (IsFinalVerdict h all v) (λ line. v ≡ Turn line)
judged_by stop g h some all v graph same k =
    subst (λ (z : Graph). MatchOption stop (IsFinalVerdict z all v) (λ line. v ≡ Turn line)) graph (subst (λ (vs : List PlatformView). MatchOption stop (IsFinalVerdict g vs v) (λ line. v ≡ Turn line)) same k)

pub returns-clause-verdict : goal.returns-clause-verdict
returns-clause-verdict g c = λ rows ready.
    let stopped = c.in_ok-stop.ensures rows (started c.args.plan.now rows c.args.platforms.items c.as_slice.result.now c.as_mut_slice.result.now c.in_ok-last.last.items c.as_mut_slice-2.result.now c.graph.result.now (length c.as_slice-2.result.now) c.graph.ensures.admitted ready c.have_not_moved.ensures.legal c.as_slice.ensures.value c.as_mut_slice.ensures.value c.as_mut_slice-2.ensures.value c.in_ok-last.ensures (ap length c.as_slice-2.ensures) c.graph.ensures.value) in
    let all : c.as_slice-3.result.now ≡ c.verify_blocks.new.platforms = c.as_slice-3.ensures.value ∙ written c.args.platforms.len c.verify_blocks.new.platforms c.args.platforms.items (omega (arith, c.verify_blocks.auto.platforms, c.as_mut_slice.ensures.len)) in
    let after = judged_by c.in_ok-stop.stop c.graph-2.result.now c.args.plan.now.graph c.as_slice-3.result.now c.verify_blocks.new.platforms c.in_ok-verdict.verdict c.graph-2.ensures.value all c.in_ok-verdict.ensures in
    verdict_is c.args.plan.now rows c.args.log c.verify_blocks.new.order c.verify_blocks.new.last c.verify_blocks.new.platforms c.in_ok-stop.stop c.in_ok-verdict.verdict stopped after

pub returns-clause-fine : goal.returns-clause-fine
returns-clause-fine g c = λ rows ready e.
    let stopped = c.in_ok-stop.ensures rows (started c.args.plan.now rows c.args.platforms.items c.as_slice.result.now c.as_mut_slice.result.now c.in_ok-last.last.items c.as_mut_slice-2.result.now c.graph.result.now (length c.as_slice-2.result.now) c.graph.ensures.admitted ready c.have_not_moved.ensures.legal c.as_slice.ensures.value c.as_mut_slice.ensures.value c.as_mut_slice-2.ensures.value c.in_ok-last.ensures (ap length c.as_slice-2.ensures) c.graph.ensures.value) in
    let all : c.as_slice-3.result.now ≡ c.verify_blocks.new.platforms = c.as_slice-3.ensures.value ∙ written c.args.platforms.len c.verify_blocks.new.platforms c.args.platforms.items (omega (arith, c.verify_blocks.auto.platforms, c.as_mut_slice.ensures.len)) in
    let after = judged_by c.in_ok-stop.stop c.graph-2.result.now c.args.plan.now.graph c.as_slice-3.result.now c.verify_blocks.new.platforms c.in_ok-verdict.verdict c.graph-2.ensures.value all c.in_ok-verdict.ensures in
    subst (λ (vs : List PlatformView). HaveFinished c.args.plan.now rows vs) (sym (written c.args.platforms.len c.verify_blocks.new.platforms c.args.platforms.items (omega (arith, c.verify_blocks.auto.platforms, c.as_mut_slice.ensures.len))))
    (finished_is c.args.plan.now rows c.args.log c.verify_blocks.new.order c.verify_blocks.new.last c.verify_blocks.new.platforms c.in_ok-stop.stop c.in_ok-verdict.verdict ready.fit stopped after e)
