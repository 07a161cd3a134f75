-- The tables of what was claimed are those of the meaning.
use Rattle.std.proofs.Common.{◌≡◌, ◌∙◌, ℕ, List, map}
use Rattle.std.specs.List.{flat_map}
use Rattle.pt_types.specs.declared.firing.ActorFiring.{ActorFiring}
use Rattle.pt_types.specs.declared.rows.Row.{Row}
use Rattle.pt_semantics.specs.Meaning.{IsMeaning, at_start, opening}
use Rattle.pt_semantics.specs.Parts.{parts}
use Rattle.pt_laws.proofs.Agree.{behaviours_agree}
use Rattle.pt_semantics.proofs.Longest.{ranks_grow}
use Rattle.pt_laws.proofs.MeaningSteps.{meaning_behaves}
use Rattle.pt_semantics.specs.Linked.{all_claims}
use Rattle.pt_causality.specs.Ranked.{rank_of}
use Rattle.pt_offsets.specs.Plans.{IsAdmitted, Parts}
use Rattle.pt_turn.specs.Platforms.{PlatformView}
use Rattle.pt_turn.specs.All.{histories_of}
use Rattle.pt_tables.specs.Gathered.{texts_from}
use Rattle.pt_confluence.specs.Gathered.{AreLegal, AreTables, HaveFinished, by_task, claimed_tasks}
use Rattle.pt_confluence.specs.Joined.{neighbours_joined, whole_firing}
use Rattle.pt_types.specs.declared.firing.Task.{Task}
use Rattle.pt_semantics.specs.Tables.{tables_text}
use Rattle.pt_confluence.proofs.All.{behaves, claimed, is_wired}
use Rattle.pt_confluence.proofs.Meant.{is_meaning}
use Rattle.pt_confluence.proofs.Ordering.{AreOrdered, order_of}
use Rattle.pt_confluence.proofs.Lines.{have_inputs, same_texts}

pub texts_are : (plan : Parts) (rows : ℕ → List Row) (platforms : List PlatformView) → IsAdmitted plan → HaveFinished plan rows platforms → AreLegal platforms → (xs : List ActorFiring) → IsMeaning plan.graph (rank_of plan.ranks) rows xs
    → texts_from 0 plan.graph.actors (map by_task (flat_map claimed_tasks platforms)) ≡ texts_from 0 plan.graph.actors xs
texts_are plan rows platforms admitted run are xs meaning =
    same_texts plan.graph (flat_map claimed_tasks platforms) xs (have_inputs plan.graph (rank_of plan.ranks) (at_start plan.graph rows) xs meaning)
    (λ u. claimed plan rows platforms admitted run are u
    ∙ behaviours_agree plan.graph (opening plan.graph rows) (rank_of plan.ranks) (all_claims plan.graph (histories_of platforms)) (parts plan.graph xs) (ranks_grow plan.graph (rank_of plan.ranks) admitted.ranks)
    (behaves plan rows platforms admitted run are)
    (meaning_behaves plan.graph (rank_of plan.ranks) rows xs (is_wired plan rows platforms admitted run are) admitted.ranks run.fit meaning) u)

-- the tasks in order, joined, are the meaning
pub meaning_is : (plan : Parts) (rows : ℕ → List Row) (platforms : List PlatformView) → IsAdmitted plan → HaveFinished plan rows platforms → AreLegal platforms → (sorted : List Task) → AreOrdered (rank_of plan.ranks) (flat_map claimed_tasks platforms) sorted
    → IsMeaning plan.graph (rank_of plan.ranks) rows (map (whole_firing plan.graph) (neighbours_joined sorted))
meaning_is plan rows platforms admitted run are sorted of =
    is_meaning plan.graph (rank_of plan.ranks) rows (all_claims plan.graph (histories_of platforms)) (behaves plan rows platforms admitted run are) (flat_map claimed_tasks platforms) (claimed plan rows platforms admitted run are)
    sorted of.order of.of_them of.all (is_wired plan rows platforms admitted run are) admitted.ranks run.fit

-- so there is one, and the tables of what was claimed are its tables
pub tables_are : (plan : Parts) (rows : ℕ → List Row) (platforms : List PlatformView) (text : List ℕ) → IsAdmitted plan → HaveFinished plan rows platforms → AreLegal platforms
    → ((xs : List ActorFiring) → texts_from 0 plan.graph.actors (map by_task (flat_map claimed_tasks platforms)) ≡ texts_from 0 plan.graph.actors xs → text ≡ tables_text plan.graph xs) → AreTables plan rows text
tables_are plan rows platforms text admitted run are written =
    let (sorted, of) = order_of (rank_of plan.ranks) (flat_map claimed_tasks platforms) in
    let meaning = meaning_is plan rows platforms admitted run are sorted of in
    record {
      firings = map (whole_firing plan.graph) (neighbours_joined sorted);
      meaning = meaning;
      written = written (map (whole_firing plan.graph) (neighbours_joined sorted)) (texts_are plan rows platforms admitted run are (map (whole_firing plan.graph) (neighbours_joined sorted)) meaning);
    }
