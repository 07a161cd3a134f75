-- The text of a file with a line `log`.
use Rattle.std.proofs.Common.{◌≡◌, ℕ, Bool, true, false, List, [], ◌∷◌, ◌++◌, Option, Some, None, refl, sym, ap, ap₂, ◌∙◌, append_assoc}
use Rattle.std.specs.Prelude.{bytes_eq, if◌then◌else◌, option_map}
use Rattle.std.specs.List.{concat}
use Rattle.std.proofs.lemmas.Slice.Eq.{bytes_eq-Decides}
use Rattle.pt_semantics.proofs.Lookups.{none_some, same_some}
use Rattle.pt_tables.specs.Log.{log_head}
use Rattle.pt_audit.specs.Parsing.Lines.{at_log}

abbrev Parts : Type 0
Parts = List (List ℕ) × List (List ℕ)

-- a line before the first ones
abbrev before_parts : List ℕ → Option Parts → Option Parts
before_parts line o = option_map (λ (parts : Parts). (line ∷ parts.0, parts.1)) o

-- the lines before the first line `log`, that line, and the lines after it are all lines
pub log_parts : (lines head rest : List (List ℕ)) → at_log lines ≡ Some (head, rest) → concat lines ≡ concat head ++ log_head ++ concat rest
log_parts [] head rest e = absurd (none_some (head, rest) e)
log_parts (line ∷ lines) head rest e = by (bytes_eq line log_head) refl (log_parts lines)
  where
    further : ((front after : List (List ℕ)) → at_log lines ≡ Some (front, after) → concat lines ≡ concat front ++ log_head ++ concat after) → (o : Option Parts) → at_log lines ≡ o → before_parts line o ≡ Some (head, rest) → concat (line ∷ lines) ≡ concat head ++ log_head ++ concat rest
    further ih None at h = absurd (none_some (head, rest) h)
    further ih (Some (front, after)) at h =
        let same : (line ∷ front, after) ≡ (head, rest) = same_some (line ∷ front, after) (head, rest) h in
        let first : line ∷ front ≡ head = ap (λ (parts : Parts). parts.0) same in
        let last : after ≡ rest = ap (λ (parts : Parts). parts.1) same in
        ap (λ text. line ++ text) (ih front after at)
        ∙ sym (append_assoc line (concat front ++ log_head) (concat after)) ∙ ap (λ text. text ++ concat after) (sym (append_assoc line (concat front) log_head))
        ∙ ap₂ (λ (some : List (List ℕ)) (more : List (List ℕ)). concat some ++ log_head ++ concat more) first last

    by : (c : Bool) → bytes_eq line log_head ≡ c → ((front after : List (List ℕ)) → at_log lines ≡ Some (front, after) → concat lines ≡ concat front ++ log_head ++ concat after) → concat (line ∷ lines) ≡ concat head ++ log_head ++ concat rest
    by true c ih =
        let found : Some ([], lines) ≡ Some (head, rest) = sym (ap (λ (d : Bool). if d then Some ([], lines) else before_parts line (at_log lines)) c) ∙ e in
        let same : ◌≡◌ {A = Parts} ([], lines) (head, rest) = same_some ([], lines) (head, rest) found in
        let first : ◌≡◌ {A = List (List ℕ)} [] head = ap (λ (parts : Parts). parts.0) same in
        let last : lines ≡ rest = ap (λ (parts : Parts). parts.1) same in
        ap (λ text. text ++ concat lines) ((bytes_eq-Decides line log_head).0 c)
        ∙ ap₂ (λ (some : List (List ℕ)) (more : List (List ℕ)). concat some ++ log_head ++ concat more) first last
    by false c ih = further ih (at_log lines) refl (sym (ap (λ (d : Bool). if d then Some ([], lines) else before_parts line (at_log lines)) c) ∙ e)
