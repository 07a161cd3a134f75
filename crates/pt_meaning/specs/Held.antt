-- The events sent since the start: those of the line, those of the map, and those of the tag that runs.
use Rattle.std.specs.Prelude.{Option, ℤ}
use Rattle.std.specs.BTreeMap as tree
use Rattle.pt_semantics.specs.Lists.{or_else}
use Rattle.pt_meaning.specs.declared.place.EventPlace.{EventPlace}
use Rattle.pt_meaning.specs.declared.pending.Pending.{Pending}
use Rattle.pt_meaning.specs.declared.late.Late.{Late}
use Rattle.pt_meaning.specs.Current.{current_value}
use Rattle.pt_meaning.specs.Line.{in_line}
use Rattle.pt_meaning.specs.Waiting.{place_cmp}

-- the value that waits at a place, in the line or else in the map
abbrev pub pending_value : Pending → EventPlace → Option ℤ
pending_value pending q = or_else (in_line place_cmp pending.line q) (tree.get place_cmp pending.later.events q)

-- the value that waits at a place, in the line or the map or else at the tag that runs
abbrev pub late_value : Late → EventPlace → Option ℤ
late_value late q = or_else (pending_value late.pending q) (current_value late.current q)
