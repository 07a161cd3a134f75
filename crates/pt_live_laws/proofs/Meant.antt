-- The claims of a live run are those of the meaning.
use Rattle.pt_semantics.specs.Kept.{kept}
use Rattle.pt_semantics.specs.Readings.{raised_list}
use Rattle.pt_laws.proofs.Confluent.{confluence}
use Rattle.pt_semantics.specs.Visits.{run_at_start}
use Rattle.pt_fixed_order_laws.proofs.Sound.{sound_at_start}
use Rattle.pt_fixed_order_laws.proofs.Whole.{fixed_order_is_legal}
use Rattle.pt_live_laws.specs.Meant.{LiveIsMeant}
use Rattle.pt_live_laws.proofs.Home.{visits_home}
use Rattle.pt_live_laws.proofs.Written.{lines_in_order}

pub live_is_meant : LiveIsMeant
live_is_meant g level rank rows most readings y xs wired are ranks fits went finished means =
    let home = visits_home g level rows wired are fits most 0 (λ i. raised_list (readings i)) (run_at_start g rows) y went.made (sound_at_start g level rows) went.visits in
    let (legal, matched, linked) = fixed_order_is_legal g level rows most readings y wired are fits went in (
      confluence g level rank rows (λ i. kept (y.did i)) y.at xs wired are ranks fits legal finished (linked finished) means,
      lines_in_order g level most (λ i. raised_list (readings i)) rows went.made y went.visits home,
    )
