-- The document of what was read apart is that of the whole.
use Rattle.std.proofs.Common.{◌≡◌, ◌≢◌, ℕ, suc, List, ◌==◌, Option, Some, None, Result, Ok, Err, option_map, option_and_then, true, false, true≢false, refl, sym, ap, ◌∙◌, Ordering, Less, Equal, Greater}
use Rattle.std.specs.Prelude.{codes}
use Rattle.serde_json.specs.Data.{Data, null, boolean, number, string, array, object, Items, Members, no_members, member}
use Rattle.serde_json.specs.Events.{members_len}
use Rattle.serde_json.specs.Find.{get_member, as_str, as_array}
use Rattle.std.specs.Ordering.{nat_cmp, match_ordering}
use Rattle.std.specs.Cmp.Lexicographic.{slice_cmp}
use Rattle.serde_json.specs.Read.{read}
use Rattle.pt_graph_text.specs.declared.arrays.Arrays.{Arrays}
use Rattle.pt_graph_text.specs.Decoding.{field, whole, has_members, each_from}
use Rattle.pt_graph_text.specs.Apart.{hollow, hollow_members, without_items, members_in, list_at}
use Rattle.pt_graph_text.specs.Arrays.{arrays_of, pairs_in, document_with}
use Rattle.pt_graph_text.specs.Versions.{version_of, is_second}
use Rattle.pt_graph_text.specs.Whole as whole_file
use Rattle.pt_graph_text.specs.Whole.{head_of, pairs_of, document_in, document_of, document_of_text}
use Rattle.pt_graph_text.specs.Documents.{actor_of, wire_of, link_of, pair_of}
use Rattle.pt_graph_text.specs.declared.version.Version.{Version}
use Rattle.pt_graph_text.specs.declared.version.Version.TheVariants.{First, Second}
use Rattle.pt_graph_text.specs.Faults.{◌>>=◌, Gives, or_fault, array_parts, top}
use Rattle.pt_graph_text.specs.declared.fault.Part.TheVariants as part
use Rattle.pt_graph_text.specs.declared.fault.GraphFault.{GraphFault}
use Rattle.pt_graph_text.specs.declared.fault.GraphFault.TheVariants as fault
use Rattle.pt_graph_text.specs.declared.document.TopNumbers.{TopNumbers}
use Rattle.pt_graph_text.specs.declared.document.Document.{Document}
use Rattle.pt_graph_text.specs.declared.document.ActorText.{ActorText}
use Rattle.pt_graph_text.specs.declared.document.WireText.{WireText}
use Rattle.pt_graph_text.specs.declared.document.LinkText.{LinkText}
use Rattle.pt_graph_text.specs.declared.document.PairText.{PairText}

-- ---- what is left of an object

hollow-match_ordering : (o : Ordering) (a b : Option Data) → option_map hollow (match_ordering o a b a) ≡ match_ordering o (option_map hollow a) (option_map hollow b) (option_map hollow a)
hollow-match_ordering Less a b = refl
hollow-match_ordering Equal a b = refl
hollow-match_ordering Greater a b = refl

pub get_member-hollow : (k : List ℕ) (ms : Members) → get_member k (hollow_members ms) ≡ option_map hollow (get_member k ms)
get_member-hollow k no_members = refl
get_member-hollow k (member l d ms) = rw (get_member-hollow k ms) (sym (hollow-match_ordering (slice_cmp nat_cmp k l) (get_member k ms) (Some d)))

members_len-hollow : (ms : Members) → members_len (hollow_members ms) ≡ members_len ms
members_len-hollow no_members = refl
members_len-hollow (member k d ms) = ap suc (members_len-hollow ms)

pub has_members-emptied : (n : ℕ) (d : Data) → has_members n (without_items d) ≡ has_members n d
has_members-emptied n null = refl
has_members-emptied n (boolean b) = refl
has_members-emptied n (number x) = refl
has_members-emptied n (string s) = refl
has_members-emptied n (array ds) = refl
has_members-emptied n (object ms) = ap (λ m. m == n) (members_len-hollow ms)

-- a decoder that takes no array sees no difference
abbrev pub SeesNoArray : {A : Type 0} → (Data → Option A) → Type 0
SeesNoArray f = (d : Data) → f (hollow d) ≡ f d

pub whole-SeesNoArray : SeesNoArray whole
whole-SeesNoArray null = refl
whole-SeesNoArray (boolean b) = refl
whole-SeesNoArray (number n) = refl
whole-SeesNoArray (string s) = refl
whole-SeesNoArray (array ds) = refl
whole-SeesNoArray (object ms) = refl

pub as_str-SeesNoArray : SeesNoArray as_str
as_str-SeesNoArray null = refl
as_str-SeesNoArray (boolean b) = refl
as_str-SeesNoArray (number n) = refl
as_str-SeesNoArray (string s) = refl
as_str-SeesNoArray (array ds) = refl
as_str-SeesNoArray (object ms) = refl

of_hollow : {A : Type 0} (f : Data → Option A) → SeesNoArray f → (o : Option Data) → option_and_then f (option_map hollow o) ≡ option_and_then f o
of_hollow f h None = refl
of_hollow f h (Some d) = h d

pub field-emptied : {A : Type 0} (f : Data → Option A) → SeesNoArray f → (k : List ℕ) (d : Data) → field f k (without_items d) ≡ field f k d
field-emptied f h k null = refl
field-emptied f h k (boolean b) = refl
field-emptied f h k (number n) = refl
field-emptied f h k (string s) = refl
field-emptied f h k (array ds) = refl
field-emptied f h k (object ms) = ap (option_and_then f) (get_member-hollow k ms) ∙ of_hollow f h (get_member k ms)

pub version_of-emptied : (d : Data) → version_of (without_items d) ≡ version_of d
version_of-emptied d = rw (field-emptied whole whole-SeesNoArray (codes "ptides") d) refl

head_of-emptied : (v : Version) (d : Data) → head_of v (without_items d) ≡ head_of v d
unfolding head_of
head_of-emptied v d =
    rw (has_members-emptied _ d, field-emptied whole whole-SeesNoArray (codes "ptides") d, field-emptied whole whole-SeesNoArray (codes "until") d, field-emptied whole whole-SeesNoArray (codes "clock_error") d) refl

-- ---- the arrays

map_found : {A : Type 0} (g : Items → A) (o : Option Data) → option_and_then (λ d. option_map g (as_array d)) o ≡ option_map g (option_and_then as_array o)
map_found g None = refl
map_found g (Some d) = refl

list_at-array : {A : Type 0} (f : Data → Option A) (k : List ℕ) (d : Data) → list_at f k (members_in d) ≡ option_map (each_from f 0) (whole_file.array k d)
list_at-array f k null = refl
list_at-array f k (boolean b) = refl
list_at-array f k (number n) = refl
list_at-array f k (string s) = refl
list_at-array f k (array ds) = refl
list_at-array f k (object ms) = map_found (each_from f 0) (get_member k ms)

pairs_in-pairs_of : (v : Version) (d : Data) → pairs_in v (list_at (pair_of v) (codes "clock_errors") (members_in d)) ≡ option_map (each_from (pair_of v) 0) (pairs_of v d)
pairs_in-pairs_of First d = refl
pairs_in-pairs_of Second d = list_at-array (pair_of Second) (codes "clock_errors") d

abbrev from_lists : Version → Option TopNumbers → Option (Result (List (List ℕ)) ℕ) → Option (Result (List ActorText) ℕ) → Option (Result (List WireText) ℕ) → Option (Result (List LinkText) ℕ) → Option (Result (List PairText) ℕ) → Result Document GraphFault
from_lists v h p a w l r = do
  head ← or_fault (fault.Member top) h
  platforms ← or_fault (fault.Member top) p
  actors ← or_fault (fault.Member top) a
  wires ← or_fault (fault.Member top) w
  links ← or_fault (fault.Member top) l
  pairs ← or_fault (fault.Member top) r
  platforms ← array_parts part.Platform platforms
  actors ← array_parts part.Actor actors
  wires ← array_parts part.Wire wires
  links ← array_parts part.Link links
  pairs ← array_parts part.Pair pairs
  Ok (record { version = v; head = head; platforms = platforms; actors = actors; wires = wires; links = links; pairs = pairs })

abbrev from_items : Version → Option TopNumbers → Option Items → Option Items → Option Items → Option Items → Option Items → Result Document GraphFault
from_items v h p a w l r = do
  head ← or_fault (fault.Member top) h
  platforms ← or_fault (fault.Member top) p
  actors ← or_fault (fault.Member top) a
  wires ← or_fault (fault.Member top) w
  links ← or_fault (fault.Member top) l
  pairs ← or_fault (fault.Member top) r
  platforms ← array_parts part.Platform (each_from as_str 0 platforms)
  actors ← array_parts part.Actor (each_from (actor_of v) 0 actors)
  wires ← array_parts part.Wire (each_from (wire_of v) 0 wires)
  links ← array_parts part.Link (each_from (link_of v) 0 links)
  pairs ← array_parts part.Pair (each_from (pair_of v) 0 pairs)
  Ok (record { version = v; head = head; platforms = platforms; actors = actors; wires = wires; links = links; pairs = pairs })

in_turn : (v : Version) (h : Option TopNumbers) (p a w l r : Option Items)
    → from_lists v h (option_map (each_from as_str 0) p) (option_map (each_from (actor_of v) 0) a) (option_map (each_from (wire_of v) 0) w) (option_map (each_from (link_of v) 0) l) (option_map (each_from (pair_of v) 0) r) ≡ from_items v h p a w l r
in_turn v None p a w l r = refl
in_turn v (Some h) None a w l r = refl
in_turn v (Some h) (Some p) None w l r = refl
in_turn v (Some h) (Some p) (Some a) None l r = refl
in_turn v (Some h) (Some p) (Some a) (Some w) None r = refl
in_turn v (Some h) (Some p) (Some a) (Some w) (Some l) None = refl
in_turn v (Some h) (Some p) (Some a) (Some w) (Some l) (Some r) = refl

same : (v : Version) {h h' : Option TopNumbers} {p p' : Option (Result (List (List ℕ)) ℕ)} {a a' : Option (Result (List ActorText) ℕ)} {w w' : Option (Result (List WireText) ℕ)} {l l' : Option (Result (List LinkText) ℕ)} {r r' : Option (Result (List PairText) ℕ)}
    → h ≡ h' → p ≡ p' → a ≡ a' → w ≡ w' → l ≡ l' → r ≡ r' → from_lists v h p a w l r ≡ from_lists v h' p' a' w' l' r'
same v {h' = h'} {p} {p'} {a} {a'} {w} {w'} {l} {l'} {r} hh hp ha hw hl hr =
    ap (λ x. from_lists v x p a w l r) hh ∙ ap (λ x. from_lists v h' x a w l r) hp ∙ ap (λ x. from_lists v h' p' x w l r) ha ∙ ap (λ x. from_lists v h' p' a' x l r) hw ∙ ap (λ x. from_lists v h' p' a' w' x r) hl ∙ ap (λ x. from_lists v h' p' a' w' l' x) hr

pub document_with-emptied : (v : Version) (d : Data) → document_with v (without_items d) (arrays_of v (members_in d)) ≡ document_in v d
unfolding document_with document_in
document_with-emptied v d =
    same v (head_of-emptied v d) (list_at-array as_str (codes "platforms") d) (list_at-array (actor_of v) (codes "actors") d) (list_at-array (wire_of v) (codes "wires") d) (list_at-array (link_of v) (codes "links") d) (pairs_in-pairs_of v d)
    ∙ in_turn v (head_of v d) (whole_file.array (codes "platforms") d) (whole_file.array (codes "actors") d) (whole_file.array (codes "wires") d) (whole_file.array (codes "links") d) (pairs_of v d)

-- ---- the whole text

pub refused-text : (text : List ℕ) (e : GraphFault) → (e ≢ fault.Memory → (e ≡ fault.NotJson) × (read text ≡ None)) → Gives (document_of_text text) (Err e)
unfolding document_of_text
refused-text text e h other = let why = h other in ap (λ o. or_fault fault.NotJson o >>= document_of) why.1 ∙ ap Err (sym why.0)

pub document_of_text-apart : (v : Version) (text : List ℕ) (d left : Data) (a : Arrays) → read text ≡ Some d → left ≡ without_items d → a ≡ arrays_of v (members_in d) → version_of left ≡ v → document_of_text text ≡ document_with v left a
unfolding document_of_text
document_of_text-apart v text d left a found without apart is =
    let version : version_of d ≡ v = sym (version_of-emptied d) ∙ ap version_of (sym without) ∙ is in
    ap (λ o. or_fault fault.NotJson o >>= document_of) found ∙ ap (λ w. document_in w d) version ∙ sym (document_with-emptied v d) ∙ ap (λ l. document_with v l (arrays_of v (members_in d))) (sym without) ∙ ap (document_with v left) (sym apart)

pub is_second-Second : (v : Version) → is_second v ≡ true → v ≡ Second
is_second-Second First e = absurd (true≢false (sym e))
is_second-Second Second e = refl

pub is_second-First : (v : Version) → is_second v ≡ false → v ≡ First
is_second-First First e = refl
is_second-First Second e = absurd (true≢false e)

abbrev value_in : Option Data → Data
value_in None = null
value_in (Some d) = d

-- a text has one value
pub emptied_once : (text : List ℕ) (d e : Data) → read text ≡ Some d → read text ≡ Some e → without_items d ≡ without_items e
emptied_once text d e h k = ap (λ o. without_items (value_in o)) (sym h ∙ k)
