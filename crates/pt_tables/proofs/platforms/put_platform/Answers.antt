use Rattle.std.proofs.Common.{subst, sym}
use Rattle.pt_tables.specs.Names.{HasShortNames}
use Rattle.pt_tables.proofs.ShortNames.{short_names}
use Rattle.pt_tables.proofs.platforms.put_platform.Goals as goal

pub put_turns-requires : goal.put_turns-requires
put_turns-requires g c = subst HasShortNames (sym c.graph.ensures.value) (short_names _ c.graph.ensures.admitted.lawful)
