-- The values that rows have for an argument.
use Rattle.std.proofs.Common.{◌≡◌, ℕ, List, [], ◌∷◌, ◌++◌, true, false, refl, ap, ◌∙◌}
use Rattle.std.specs.Prelude.{unwrap_or}
use Rattle.std.specs.Str.{bytes_eq}
use Rattle.std.proofs.lemmas.Slice.Eq.{bytes_eq-Decides}
use Rattle.clap.specs.Walk.{Row, all_of, with_values}
use Rattle.clap.specs.declared.builder.value_parser.Reading.{Reading}
use Rattle.clap.specs.declared.parser.matches.ValueSource.{ValueSource}

abbrev pub values_in : List ℕ → List Row → List (List ℕ)
values_in id rows = unwrap_or (all_of id rows) []

pub here : (id : List ℕ) (how : Reading) (s : ValueSource) (vs : List (List ℕ)) (rows : List Row) → bytes_eq id id ≡ true → values_in id (with_values id how s vs rows) ≡ values_in id rows ++ vs
here id how s vs [] same = rw same refl
here id how s vs (r ∷ rows) same =
    elim (bytes_eq r.id id) as (λ b. bytes_eq r.id id ≡ b → values_in id (with_values id how s vs (r ∷ rows)) ≡ values_in id (r ∷ rows) ++ vs) [
      | true ↦ λ e. rw (e, e) refl
      | false ↦ λ e. rw (e, e) (here id how s vs rows same)
    ] refl

pub other : (id k : List ℕ) (how : Reading) (s : ValueSource) (vs : List (List ℕ)) (rows : List Row) → bytes_eq k id ≡ false → values_in id (with_values k how s vs rows) ≡ values_in id rows
other id k how s vs [] differ = rw differ refl
other id k how s vs (r ∷ rows) differ =
    elim (bytes_eq r.id k) as (λ b. bytes_eq r.id k ≡ b → values_in id (with_values k how s vs (r ∷ rows)) ≡ values_in id (r ∷ rows)) [
      | true ↦ λ e. let is : bytes_eq r.id id ≡ false = ap (λ t. bytes_eq t id) ((bytes_eq-Decides r.id k).0 e) ∙ differ in rw (e, is) refl
      | false ↦ λ e.
          elim (bytes_eq r.id id) as (λ b. bytes_eq r.id id ≡ b → values_in id (with_values k how s vs (r ∷ rows)) ≡ values_in id (r ∷ rows)) [
            | true ↦ λ f. rw (e, f) refl
            | false ↦ λ f. rw (e, f) (other id k how s vs rows differ)
          ] refl
    ] refl
