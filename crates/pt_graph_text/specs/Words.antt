-- The bytes of a word.
use Rattle.std.specs.Prelude.{ℕ, List, string_bytes}
use Rattle.pt_graph_text.specs.declared.word.Text.{Text}
use Rattle.pt_graph_text.specs.declared.word.Text.TheVariants as text

-- the bytes of a text, wherever it lies
abbrev pub bytes_of : Text → List ℕ
bytes_of (text.Short bytes) = bytes
bytes_of (text.Long string) = string_bytes string.value
