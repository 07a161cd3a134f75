-- An object whose arrays are decoded separately: the object without their items, and the decoded items.
use Rattle.std.specs.Prelude.{ℕ, List, [], ◌∷◌, ◌++◌, length, Option, Some, None, Result, Ok, Err, option_map, option_and_then}
use Rattle.serde_json.specs.Data.{Data, null, boolean, number, string, array, object, no_items, Members, no_members, member}
use Rattle.serde_json.specs.Find.{get_member, as_array}
use Rattle.pt_graph_text.specs.Decoding.{each_from}

-- an array without its items; any other value as it is
abbrev pub hollow : Data → Data
hollow null = null
hollow (boolean b) = boolean b
hollow (number n) = number n
hollow (string s) = string s
hollow (array ds) = array no_items
hollow (object ms) = object ms

abbrev pub hollow_members : Members → Members
hollow_members no_members = no_members
hollow_members (member k d ms) = member k (hollow d) (hollow_members ms)

-- the decoded items of an array; nothing if the value is not an array
abbrev pub list_in : {A : Type 0} → (Data → Option A) → Data → Option (Result (List A) ℕ)
list_in f d = option_map (each_from f 0) (as_array d)

-- the decoded items of the member with this key
abbrev pub list_at : {A : Type 0} → (Data → Option A) → List ℕ → Members → Option (Result (List A) ℕ)
list_at f key ms = option_and_then (list_in f) (get_member key ms)

-- the result for the first items of an array: the parts, or the index of the first that could not be decoded
abbrev pub so_far : {A : Type 0} → Option ℕ → List A → Result (List A) ℕ
so_far None front = Ok front
so_far (Some i) front = Err i

-- the result with one more item
abbrev pub and_part : {A : Type 0} → Result (List A) ℕ → Option A → Result (List A) ℕ
and_part (Ok front) None = Err (length front)
and_part (Ok front) (Some x) = Ok (front ++ x ∷ [])
and_part (Err i) part = Err i

-- an object without the items of its arrays; any other value as it is
abbrev pub without_items : Data → Data
without_items null = null
without_items (boolean b) = boolean b
without_items (number n) = number n
without_items (string s) = string s
without_items (array ds) = array ds
without_items (object ms) = object (hollow_members ms)

-- the members of an object; none if the value is not an object
abbrev pub members_in : Data → Members
members_in null = no_members
members_in (boolean b) = no_members
members_in (number n) = no_members
members_in (string s) = no_members
members_in (array ds) = no_members
members_in (object ms) = ms
