-- The kinds of actors as they are written: a kind has exactly its members, besides `name`, `platform` and `kind`.
use Rattle.std.specs.Prelude.{ℕ, List, Option, Some, None, codes, ◌&&◌, if◌then◌else◌, bytes_eq}
use Rattle.serde_json.specs.Data.{Data}
use Rattle.serde_json.specs.Find.{as_str}
use Rattle.pt_graph_text.specs.Decoding.{◌>>=◌, only_if, field, whole, has_members}
use Rattle.pt_graph_text.specs.Versions.{is_second}
use Rattle.pt_graph_text.specs.Rows.{list_of, row_text_of}
use Rattle.pt_graph_text.specs.declared.version.Version.{Version}
use Rattle.pt_graph_text.specs.declared.kinds.KindText.{KindText}
use Rattle.pt_graph_text.specs.declared.kinds.KindText.TheVariants as kind

-- a kind that has no members of its own
abbrev pub plain_of : KindText → Data → Option KindText
plain_of k d = only_if (has_members 3 d) (Some k)

unfoldable pub sensor_of : Version → Data → Option KindText
sensor_of v d = only_if (has_members 5 d) (do
  file ← field as_str (codes "file") d
  bound ← field whole (codes "bound") d
  Some (kind.Sensor file bound))

unfoldable pub send_of : Version → Data → Option KindText
send_of v d = only_if (has_members 4 d) (do
  slack ← field whole (codes "slack") d
  Some (kind.Send slack))

unfoldable pub actuator_of : Version → Data → Option KindText
actuator_of v d = only_if (has_members 4 d) (do
  slack ← field whole (codes "slack") d
  Some (kind.Actuator slack))

unfoldable pub every_of : Version → Data → Option KindText
every_of v d = only_if (has_members 5 d) (do
  start ← field whole (codes "start") d
  period ← field whole (codes "period") d
  Some (kind.Every start period))

unfoldable pub delay_of : Version → Data → Option KindText
delay_of v d = only_if (has_members 4 d) (do
  time ← field whole (codes "d") d
  Some (kind.Delay time))

unfoldable pub scale_of : Version → Data → Option KindText
scale_of v d = only_if (has_members 5 d) (do
  num ← field whole (codes "num") d
  den ← field whole (codes "den") d
  Some (kind.Scale num den))

unfoldable pub shift_of : Version → Data → Option KindText
shift_of v d = only_if (has_members 4 d) (do
  by ← field whole (codes "by") d
  Some (kind.Shift by))

unfoldable pub above_of : Version → Data → Option KindText
above_of v d = only_if (has_members 4 d) (do
  limit ← field whole (codes "limit") d
  Some (kind.Above limit))

unfoldable pub merge_of : Version → Data → Option KindText
merge_of v d = only_if (has_members 4 d) (do
  n ← field whole (codes "n") d
  Some (kind.Merge n))

unfoldable pub machine_of : Version → Data → Option KindText
machine_of v d = only_if (has_members 6 d) (do
  start ← field whole (codes "start") d
  outputs ← field whole (codes "outputs") d
  rows ← field (list_of (row_text_of v)) (codes "rows") d
  Some (kind.Machine start outputs rows))

unfoldable pub block_of : Version → Data → Option KindText
block_of v d = only_if (has_members 4 d) (do
  block ← field as_str (codes "block") d
  Some (kind.Block block))

-- only version 2 has lanes
unfoldable pub lanes_of : Version → Data → Option KindText
lanes_of v d = only_if (is_second v && has_members 4 d) (do
  cells ← field (list_of whole) (codes "cells") d
  Some (kind.Lanes cells))

-- the kind with this word, of the other kinds
unfoldable pub other_kind_of : Version → List ℕ → Data → Option KindText
other_kind_of v word d =
    if bytes_eq word (codes "latch") then plain_of kind.Latch d
    else if bytes_eq word (codes "merge") then merge_of v d
    else if bytes_eq word (codes "machine") then machine_of v d
    else if bytes_eq word (codes "block") then block_of v d
    else if bytes_eq word (codes "lanes") then lanes_of v d
    else None

-- the kind with this word, if it computes with numbers
unfoldable pub number_kind_of : Version → List ℕ → Data → Option KindText
number_kind_of v word d =
    if bytes_eq word (codes "scale") then scale_of v d
    else if bytes_eq word (codes "shift") then shift_of v d
    else if bytes_eq word (codes "add") then plain_of kind.Add d
    else if bytes_eq word (codes "sub") then plain_of kind.Sub d
    else if bytes_eq word (codes "above") then above_of v d
    else if bytes_eq word (codes "count") then plain_of kind.Count d
    else if bytes_eq word (codes "sum") then plain_of kind.Sum d
    else other_kind_of v word d

-- the kind with this word, with its members
unfoldable pub kind_text_of : Version → List ℕ → Data → Option KindText
kind_text_of v word d =
    if bytes_eq word (codes "sensor") then sensor_of v d
    else if bytes_eq word (codes "receive") then plain_of kind.Receive d
    else if bytes_eq word (codes "send") then send_of v d
    else if bytes_eq word (codes "actuator") then actuator_of v d
    else if bytes_eq word (codes "every") then every_of v d
    else if bytes_eq word (codes "delay") then delay_of v d
    else number_kind_of v word d
