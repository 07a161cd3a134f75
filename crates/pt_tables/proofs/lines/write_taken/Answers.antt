use Rattle.std.proofs.Common.{ap, arith, length, slice_get}
use Rattle.pt_tables.proofs.ShortNames.{short_receiver}
use Rattle.pt_tables.proofs.lines.write_taken.Goals as goal

pub write_message-requires : goal.write_message-requires
write_message-requires c = omega (arith, ap length c.receiver_name.ensures, short_receiver c.args.graph.now c.requires (slice_get c.args.graph.now.links c.args.taken.now.link))
