-- The version of a graph file.
use Rattle.std.specs.Prelude.{ℤ, pos, Bool, true, false, Option, Some, None, codes, if◌then◌else◌}
use Rattle.std.specs.Ordering.{int_eq}
use Rattle.serde_json.specs.Data.{Data}
use Rattle.pt_graph_text.specs.Decoding.{field, whole}
use Rattle.pt_graph_text.specs.declared.version.Version.{Version}
use Rattle.pt_graph_text.specs.declared.version.Version.TheVariants.{First, Second}

abbrev pub is_second : Version → Bool
is_second First = false
is_second Second = true

abbrev pub is_two : Option ℤ → Bool
is_two None = false
is_two (Some z) = int_eq z (pos 2)

-- a file is of version 2 if its member `ptides` is the whole number 2, and else of version 1
abbrev pub version_of : Data → Version
version_of d = if is_two (field whole (codes "ptides") d) then Second else First
