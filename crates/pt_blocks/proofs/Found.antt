-- A value read through a reference that a lookup gave.
use Rattle.std.proofs.Common.{◌≡◌, ◌≤◌, ◌<◌, ℕ, List, Option, None, Some, IfSome, MatchOption, ap, sym, refl, length, get_or, option_map}
use Rattle.std.proofs.lemmas.Option.{slice_get_past, slice_get_read}
use Rattle.std.specs.List.{slice_get}

pub found_at : {R A B : Type 0} (P : R → Type 0) (now : R → A) (value : A → B) (xs : List A) (n : ℕ) (o : Option R) → IfSome o (λ x. now x ≡ get_or xs n (now x)) → MatchOption o (length xs ≤ n) (λ x. (n < length xs) × P x) → option_map (λ x. value (now x)) o ≡ option_map value (slice_get xs n)
found_at P now value xs n None same past = sym (ap (option_map value) (slice_get_past xs n past))
found_at P now value xs n (Some x) same within = sym (ap (option_map value) (slice_get_read xs (length xs) n (now x) refl within.0 same))
