use Rattle.std.proofs.Common.{◌≡◌, take}
use Rattle.std.specs.Prelude.{flat_map}
use Rattle.pt_io.specs.Calls.{writing}
use Rattle.pt_tables.specs.Log.{turn_lines}
use Rattle.pt_tables.specs.Putting.{IsPut}
use Rattle.pt_tables.specs.Reader.{HasComeTo}
use Rattle.pt_types.specs.Lookups.{platform_name}
use Rattle.pt_tables.proofs.putting.put_turns.Given as goal

abbrev pub invariant-loop-number : goal.invariant-loop-number
invariant-loop-number g l = record {
  platform : l.reader.line.platform.now ≡ platform_name l.graph l.platform;
  at : HasComeTo l.history.turns l.number l.reader;
  out : IsPut (writing g.K.Sink l.fn.out l.out) (flat_map (turn_lines l.graph l.platform) (take l.number l.history.turns));
}
