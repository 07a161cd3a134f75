-- Lists, and the rows of a machine, as they are written.
use Rattle.std.specs.Prelude.{ℕ, ℤ, List, Option, Some, None, codes, ◌&&◌, Result, Ok, Err, if◌then◌else◌, is_some, option_and_then}
use Rattle.serde_json.specs.Data.{Data}
use Rattle.serde_json.specs.Find.{get, as_str, as_null, as_array}
use Rattle.pt_graph_text.specs.Decoding.{◌>>=◌, only_if, field, optional_field, place, whole, has_members, has_items, each_from}
use Rattle.pt_graph_text.specs.Versions.{is_second}
use Rattle.pt_graph_text.specs.declared.version.Version.{Version}
use Rattle.pt_graph_text.specs.declared.document.RowText.{RowText}

-- the parts of an array, if all could be decoded
abbrev pub all_decoded : {A : Type 0} → Result (List A) ℕ → Option (List A)
all_decoded (Ok xs) = Some xs
all_decoded (Err i) = None

abbrev pub list_of : {A : Type 0} → (Data → Option A) → Data → Option (List A)
list_of f d = option_and_then (λ ds. all_decoded (each_from f 0 ds)) (as_array d)

-- `null`, or an output and a value
unfoldable pub emit_of : Data → Option (Option (ℤ × ℤ))
emit_of d = if is_some (as_null d) then Some None else only_if (has_items 2 d) (do
  output ← place whole 0 d
  given ← place whole 1 d
  Some (Some (output, given)))

-- the number of members of a row: one more with a guard, which only version 2 has
abbrev pub row_members : Version → Data → ℕ
row_members v d = if is_second v && is_some (get (codes "guard") d) then 6 else 5

unfoldable pub row_text_of : Version → Data → Option RowText
row_text_of v d = only_if (has_members (row_members v d) d) (do
  state ← field whole (codes "state") d
  low ← field whole (codes "low") d
  high ← field whole (codes "high") d
  next ← field whole (codes "next") d
  emit ← field emit_of (codes "emit") d
  guard ← optional_field as_str (codes "guard") d
  Some (record { state = state; low = low; high = high; next = next; emit = emit; guard = guard }))
