use Rattle.std.proofs.Common.{None, slice_index_or, sym, subst}
use Rattle.pt_types.specs.declared.graph.Unit.{Unit}
use Rattle.pt_offsets.specs.Timings.{AreTimings, actor_offset_of, bound_in, least_offset_in, margin_in, offset_of, timing_at}
use Rattle.pt_offsets.proofs.Admitted.{feasible}
use Rattle.pt_offsets.proofs.ByWord.{least_in_words}
use Rattle.pt_offsets.proofs.admission.offsets.Goals as goal
use Rattle.pt_offsets.proofs.admission.offsets.Goals.{In_ok-new}

-- the table has the timings that were computed
timed : (c : In_ok-new) → AreTimings c.args.graph.now c.in_ok-new.field-0.actors.items
timed c = subst (AreTimings c.args.graph.now) (sym c.in_ok-new.ensures.actors) c.in_ok-actors.ensures

pub returns-clause-offsets : goal.returns-clause-offsets
unfolding offset_of
returns-clause-offsets c = λ u. (timed c u.actor).offsets u.group

pub returns-clause-actors : goal.returns-clause-actors
unfolding actor_offset_of
returns-clause-actors c = λ a. (timed c a).offset

pub returns-clause-words : goal.returns-clause-words
unfolding least_offset_in
returns-clause-words c = least_in_words c.args.graph.now c.in_ok-actors.actors.items c.in_ok-new.field-0.words.items c.in_ok-actors.ensures c.in_ok-new.ensures.words

pub returns-clause-bounds : goal.returns-clause-bounds
unfolding bound_in
returns-clause-bounds c = λ a. (timed c a).bound

pub returns-clause-margins : goal.returns-clause-margins
unfolding margin_in
returns-clause-margins c = λ a. ((timing_at c.in_ok-new.field-0.actors.items a).offset, (timed c a).offset, (timed c a).margin)

pub returns-clause-feasible : goal.returns-clause-feasible
returns-clause-feasible c =
    feasible c.args.graph.now (λ (u : Unit). slice_index_or (timing_at c.in_ok-new.field-0.actors.items u.actor).offsets u.group None) (λ u. (timed c u.actor).offsets u.group) c.in_ok-admit_all.ensures
