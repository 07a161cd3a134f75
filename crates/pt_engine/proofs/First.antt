-- Platforms just opened, before the first visit.
use Rattle.std.proofs.Common.{◌≡◌, ◌∙◌, ◌<◌, ◌++◌, ℕ, List, [], get_or, length, replicate, take, drop, Some, slice_get, ap, subst}
use Rattle.std.proofs.Math.Seq.{take-append_seam}
use Rattle.std.proofs.lemmas.List.{length-replicate}
use Rattle.std.proofs.lemmas.Option.{slice_get-get_or}
use Rattle.pt_tags.specs.declared.message.Message.{Message}
use Rattle.pt_types.specs.declared.firing.Done.{Done}
use Rattle.pt_types.specs.declared.graph.Graph.{Graph}
use Rattle.pt_types.specs.declared.graph.Link.{Link}
use Rattle.pt_types.specs.declared.rows.Row.{Row}
use Rattle.pt_semantics.specs.Visits.{run_at_start}
use Rattle.pt_offsets.specs.Plans.{IsAdmitted, Parts}
use Rattle.pt_turn.specs.All.{AreReady}
use Rattle.pt_turn.specs.Platforms.{PlatformView}
use Rattle.pt_engine.specs.Asked.{HaveLegalHistories}
use Rattle.pt_engine.specs.Shown.{AreShown}
use Rattle.pt_engine.proofs.Listed.{none_in}
use Rattle.pt_engine.proofs.Showing.{start_shows}

-- platforms just opened, with empty pipes and no pending results
pub record AreOpened (plan : Parts) (rows : ℕ → List Row) (platforms : List PlatformView) (pipes : List (List Message)) (results : List (List Done)) : Type 0 where
  pub ready : AreReady plan rows platforms
  pub some : 0 < length platforms
  pub admitted : IsAdmitted plan
  pub legal : HaveLegalHistories platforms
  pub no_message : pipes ≡ replicate (length plan.graph.links) []
  pub no_result : results ≡ replicate (length platforms) []

pub shown_first : (plan : Parts) (rows : ℕ → List Row) (platforms : List PlatformView) (pipes : List (List Message)) (results : List (List Done)) → AreOpened plan rows platforms pipes results → AreShown plan rows (run_at_start plan.graph rows) platforms pipes results
shown_first plan rows platforms pipes results new = start_shows plan rows platforms pipes results new.ready new.legal
    (ap length new.no_message ∙ length-replicate (length plan.graph.links) [])
    (λ l pipe at. none_in (length plan.graph.links) l pipe (subst (λ ps. slice_get ps l ≡ Some pipe) new.no_message at))
    (ap length new.no_result ∙ length-replicate (length platforms) [])
    (λ i dones at. none_in (length platforms) i dones (subst (λ rs. slice_get rs i ≡ Some dones) new.no_result at))

-- the plan of the first platform is that of all
module _ (plan : Parts) (rows : ℕ → List Row) (platforms sliced : List PlatformView) (d : PlatformView) (first : Parts) (g : Graph) (links : List Link) (pipes : List (List Message)) (results : List (List Done))
    (some : 0 < length platforms) (plan_is : first ≡ (get_or platforms 0 d).plan) (graph_is : g ≡ first.graph) (admitted : IsAdmitted first) (links_are : links ≡ g.links) (same : sliced ≡ platforms)
    (no_message : pipes ≡ replicate (length links) []) (no_result : results ≡ replicate (length sliced) []) (legal : HaveLegalHistories sliced) where
  pub opened : AreReady plan rows platforms → AreOpened plan rows platforms pipes results
  opened ready =
      let whole : first ≡ plan = plan_is ∙ ready.all.plans 0 (get_or platforms 0 d) (slice_get-get_or platforms 0 d some) in
      record {
        ready = ready;
        some = some;
        admitted = subst IsAdmitted whole admitted;
        legal = subst HaveLegalHistories same legal;
        no_message = no_message ∙ ap (λ (ls : List Link). replicate (length ls) []) (links_are ∙ ap (λ (z : Graph). z.links) graph_is ∙ ap (λ (p : Parts). p.graph.links) whole);
        no_result = no_result ∙ ap (λ (vs : List PlatformView). replicate (length vs) []) same;
      }

-- a list of which every item was written
pub written : {X : Type 0} (n : ℕ) (new old : List X) → n ≡ length new → take n (new ++ drop (length new) old) ≡ new
written n new old e = ap (λ k. take k (new ++ drop (length new) old)) e ∙ take-append_seam new (drop (length new) old)
