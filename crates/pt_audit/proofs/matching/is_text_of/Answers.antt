use Rattle.std.proofs.Common.{ap, arith, length}
use Rattle.pt_tables.proofs.ShortNames.{short_names}
use Rattle.pt_audit.proofs.matching.is_text_of.Goals as goal

pub push_turn_line-requires : goal.push_turn_line-requires
push_turn_line-requires c = omega (arith, ap length c.platform_name.ensures, (short_names c.args.graph.now c.requires.lawful).platforms c.args.hints.now.platform)
