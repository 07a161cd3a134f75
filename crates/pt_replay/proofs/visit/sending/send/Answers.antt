use Rattle.std.proofs.Common.{◌∙◌, List, [], refl, sym, ap}
use Rattle.std.specs.Prelude.{slice_index_or}
use Rattle.pt_tags.specs.declared.message.Message.{Message}
use Rattle.pt_semantics.specs.TrueTime.{put_link}
use Rattle.pt_replay.proofs.Visits.Moving.{none_there}
use Rattle.pt_replay.proofs.Visits.Replacing.{map_alike}
use Rattle.pt_replay.proofs.Visits.Resting.{all_kept}
use Rattle.pt_replay.proofs.visit.sending.send.Goals as goal

pub returns-then-are_empty : goal.returns-then-are_empty
returns-then-are_empty c =
    let none = c.are_empty.ensures c.if-are_empty.true in
    record {
      airways = sym (
          map_alike (λ k. put_link c.args.air.now c.args.graph.now c.args.now k (slice_index_or c.args.pipes.now k [])) (λ k a. a)
          (λ k a. ap (λ (ms : List Message). put_link c.args.air.now c.args.graph.now c.args.now k ms a) (none k)) 0 c.args.airways.now
          ∙ all_kept 0 c.args.airways.now);
      pipes = none_there c.args.pipes.now none;
      none = λ e. refl;
    }
