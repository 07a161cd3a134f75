use Rattle.std.proofs.Common.{ap, arith, length, slice_get}
use Rattle.pt_tables.proofs.ShortNames.{short_sender}
use Rattle.pt_tables.proofs.lines.write_sent.Goals as goal

pub write_message-requires : goal.write_message-requires
write_message-requires c = omega (arith, ap length c.sender_name.ensures, short_sender c.args.graph.now c.requires (slice_get c.args.graph.now.links c.args.sent.now.link))
