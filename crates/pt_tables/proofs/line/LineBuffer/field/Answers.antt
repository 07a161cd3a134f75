use Rattle.std.proofs.Common.{length, ap, arith}
use Rattle.pt_tables.proofs.line.LineBuffer.field.Goals as goal

pub put-requires-clause-room : goal.put-requires-clause-room
put-requires-clause-room c = omega (arith, c.requires, c.number.ensures.length)

pub returns-clause-length : goal.returns-clause-length
returns-clause-length c = omega (arith, c.number.ensures.length, ap length c.put.ensures)
