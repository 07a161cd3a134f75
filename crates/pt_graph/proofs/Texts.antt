-- The document of bytes that are text or not, and the graph of a document.
use Rattle.std.proofs.Common.{◌≡◌, List, ℕ, Some, None, Result, Ok, Err, refl, ap, ◌∙◌, true, false, cond, IsUtf8}
use Rattle.std.specs.Str.{is_utf8}
use Rattle.std.proofs.lemmas.Str.{IsUtf8-from_is_utf8, is_utf8-from_IsUtf8}
use Rattle.serde_json.specs.Data.{Data}
use Rattle.serde_json.specs.Read.{read}
use Rattle.pt_blocks.specs.declared.blocks.Named.{Named}
use Rattle.pt_graph_text.specs.Faults.{◌>>=◌, Gives, or_fault}
use Rattle.pt_graph_text.specs.Whole.{document_of, document_of_text}
use Rattle.pt_graph_text.specs.declared.document.Document.{Document}
use Rattle.pt_graph_text.specs.declared.fault.GraphFault.{GraphFault}
use Rattle.pt_graph_text.specs.declared.fault.GraphFault.TheVariants as fault
use Rattle.pt_graph.specs.Checking.{document_of_bytes}
use Rattle.pt_graph.specs.GraphOf.{json_of, checked, built, graph_in}

pub json_of-text : (bytes : List ℕ) (d : Data) → IsUtf8 bytes × (read bytes ≡ Some d) → json_of bytes ≡ Some d
unfolding json_of
json_of-text bytes d h = rw (is_utf8-from_IsUtf8 bytes h.0) h.1

pub document_of_bytes-text : (bytes : List ℕ) → IsUtf8 bytes → document_of_bytes bytes ≡ document_of_text bytes
unfolding document_of_bytes document_of_text json_of
document_of_bytes-text bytes h = ap (λ b. or_fault fault.NotJson (cond b (read bytes) None) >>= document_of) (is_utf8-from_IsUtf8 bytes h)

pub document_of_bytes-refused : (bytes : List ℕ) → (IsUtf8 bytes → ⊥) → document_of_bytes bytes ≡ Err fault.NotJson
unfolding document_of_bytes json_of
document_of_bytes-refused bytes h =
    elim (is_utf8 bytes) as (λ b. is_utf8 bytes ≡ b → (or_fault fault.NotJson (cond b (read bytes) None) >>= document_of) ≡ Err fault.NotJson) [
      | true ↦ λ e. absurd (h (IsUtf8-from_is_utf8 bytes e))
      | false ↦ λ e. refl
    ] refl

in_two_steps : {A B C : Type 0} (r : Result A GraphFault) (f : A → Result B GraphFault) (g : B → Result C GraphFault) → (r >>= (λ a. f a >>= g)) ≡ ((r >>= f) >>= g)
in_two_steps (Ok a) f g = refl
in_two_steps (Err e) f g = refl

-- the graph of a text is that of its document
pub graph_in-document : (blocks : List Named) (bytes : List ℕ) → graph_in blocks bytes ≡ (document_of_bytes bytes >>= (λ document. checked document >>= (λ done. built blocks document)))
unfolding graph_in document_of_bytes
graph_in-document blocks bytes = in_two_steps (or_fault fault.NotJson (json_of bytes)) document_of (λ document. checked document >>= (λ done. built blocks document))

pub refused-document : (blocks : List Named) (bytes : List ℕ) (e : GraphFault) → Gives (document_of_bytes bytes) (Err e) → Gives (graph_in blocks bytes) (Err e)
refused-document blocks bytes e h other = graph_in-document blocks bytes ∙ ap (λ r. r >>= (λ document. checked document >>= (λ done. built blocks document))) (h other)

pub refused-checks : (blocks : List Named) (bytes : List ℕ) (d : Document) (e : GraphFault) → document_of_bytes bytes ≡ Ok d → Gives (checked d) (Err e) → Gives (graph_in blocks bytes) (Err e)
refused-checks blocks bytes d e is h other =
    graph_in-document blocks bytes ∙ ap (λ r. r >>= (λ document. checked document >>= (λ done. built blocks document))) is ∙ ap (λ r. r >>= (λ done. built blocks d)) (h other)

pub graph_in-built : (blocks : List Named) (bytes : List ℕ) (d : Document) → document_of_bytes bytes ≡ Ok d → checked d ≡ Ok tt → graph_in blocks bytes ≡ built blocks d
graph_in-built blocks bytes d is passed =
    graph_in-document blocks bytes ∙ ap (λ r. r >>= (λ document. checked document >>= (λ done. built blocks document))) is ∙ ap (λ r. r >>= (λ done. built blocks d)) passed
