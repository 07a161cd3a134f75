-- Decoding of JSON values, with nothing if a value is not of the wanted form.
use Rattle.std.specs.Prelude.{◌≡◌, ℕ, ◌+◌, ℤ, List, [], ◌∷◌, Bool, true, false, Option, Some, None, Result, Ok, Err, option_and_then, option_map, unwrap_or, ◌==◌}
use Rattle.serde_json.specs.Data.{Data, Items, no_items, item}
use Rattle.serde_json.specs.Find.{get, at, as_number, as_i64, as_array, as_object}
use Rattle.serde_json.specs.Events.{members_len, items_len}
use Rattle.pt_graph_text.specs.declared.decode.Misfit.{Misfit}
use Rattle.pt_graph_text.specs.declared.decode.Misfit.TheVariants as misfit
use Rattle.pt_graph_text.specs.declared.decode.Stop.{Stop}
use Rattle.pt_graph_text.specs.declared.decode.Stop.TheVariants as stop

infixl 10 ◌>>=◌
abbrev pub ◌>>=◌ : {A B : Type 0} → Option A → (A → Option B) → Option B
(Some x) >>= f = f x
None >>= f = None

-- a decoder's result is the one that the definition gives, unless memory ran out
abbrev pub Fails : {A : Type 0} → Option A → Misfit → Type 0
Fails o misfit.Memory = Unit {0}
Fails o misfit.Member = o ≡ None

abbrev pub Decodes : {A : Type 0} → Option A → Result A Misfit → Type 0
Decodes o (Ok x) = o ≡ Some x
Decodes o (Err e) = Fails o e

-- the value, if a test is true
abbrev pub only_if : {A : Type 0} → Bool → Option A → Option A
only_if true o = o
only_if false o = None

abbrev pub whole : Data → Option ℤ
whole d = option_and_then as_i64 (as_number d)

-- the decoded member with this key
abbrev pub field : {A : Type 0} → (Data → Option A) → List ℕ → Data → Option A
field f key d = option_and_then f (get key d)

-- the decoded member with this key, if there is such a member
abbrev pub some_of : {A : Type 0} → Option A → Option (Option A)
some_of None = None
some_of (Some x) = Some (Some x)

abbrev pub if_there : {A : Type 0} → (Data → Option A) → Option Data → Option (Option A)
if_there f None = Some None
if_there f (Some d) = some_of (f d)

abbrev pub optional_field : {A : Type 0} → (Data → Option A) → List ℕ → Data → Option (Option A)
optional_field f key d = if_there f (get key d)

-- the decoded item at this index
abbrev pub place : {A : Type 0} → (Data → Option A) → ℕ → Data → Option A
place f i d = option_and_then f (at i d)

-- an object of exactly n members
abbrev pub has_members : ℕ → Data → Bool
has_members n d = unwrap_or (option_map (λ ms. members_len ms == n) (as_object d)) false

-- an array of exactly n items
abbrev pub has_items : ℕ → Data → Bool
has_items n d = unwrap_or (option_map (λ ds. items_len ds == n) (as_array d)) false

-- all items decoded, or the index of the first that could not be
abbrev pub at_index : {A : Type 0} → ℕ → Option A → Result A ℕ
at_index i None = Err i
at_index i (Some x) = Ok x

abbrev pub in_front : {A : Type 0} → Result A ℕ → Result (List A) ℕ → Result (List A) ℕ
in_front (Err i) rest = Err i
in_front (Ok x) (Err i) = Err i
in_front (Ok x) (Ok xs) = Ok (x ∷ xs)

abbrev pub each_from : {A : Type 0} → (Data → Option A) → ℕ → Items → Result (List A) ℕ
each_from f i no_items = Ok []
each_from f i (item d ds) = in_front (at_index i (f d)) (each_from f (i + 1) ds)

-- a loop's result is the one that the definition gives, unless memory ran out
abbrev pub Stops : {A : Type 0} → Result A ℕ → Stop → Type 0
Stops r stop.Memory = Unit {0}
Stops r (stop.At i) = r ≡ Err i

abbrev pub DecodesEach : {A : Type 0} → Result A ℕ → Result A Stop → Type 0
DecodesEach r (Ok x) = r ≡ Ok x
DecodesEach r (Err e) = Stops r e
