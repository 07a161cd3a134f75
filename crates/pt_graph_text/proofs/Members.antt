-- An object whose arrays are read apart, member by member.
use Rattle.std.proofs.Common.{◌≡◌, ℕ, zero, suc, List, ◌∷◌, length, true, false, Ordering, Less, Equal, Greater, nat_cmp, Option, Some, None, option_map, refl, sym, ap, ◌∙◌, subst, true≢false}
use Rattle.std.specs.Prelude as prelude
use Rattle.std.specs.Prelude.{⊤}
use Rattle.std.specs.Cmp.Lexicographic.{slice_cmp}
use Rattle.std.specs.Ordering.{match_ordering}
use Rattle.json.specs.Token.{Token}
use Rattle.json.specs.Json as json
use Rattle.json.specs.Json.{Parse, parse_map, value_with, value}
use Rattle.json.specs.Reads.{token_of}
use Rattle.json.specs.declared.token.Token.{Token as Handed}
use Rattle.json.specs.declared.token.Token.TheVariants.{BeginObject, EndObject, BeginArray, EndArray, Key, String, Number, Bool, Null, Bad}
use Rattle.serde_json.specs.Data.{Data, Num, number, array, Items, Members, no_members, member, put}
use Rattle.serde_json.specs.Read.{number_of, of_json, of_items, converted}
use Rattle.pt_graph_text.specs.Apart.{hollow, hollow_members, without_items, members_in}
use Rattle.pt_graph_text.proofs.Turns.{converted_some}

hollow-match_ordering : (o : Ordering) (a b c : Members) → hollow_members (match_ordering o a b c) ≡ match_ordering o (hollow_members a) (hollow_members b) (hollow_members c)
hollow-match_ordering Less a b c = refl
hollow-match_ordering Equal a b c = refl
hollow-match_ordering Greater a b c = refl

pub hollow_members-put : (k : List ℕ) (d : Data) (ms : Members) → hollow_members (put k d ms) ≡ put k (hollow d) (hollow_members ms)
hollow_members-put k d no_members = refl
hollow_members-put k d (member l e ms) = hollow-match_ordering (slice_cmp nat_cmp k l) _ _ _ ∙ rw (hollow_members-put k d ms) refl

abbrev pub opens_object : Token → prelude.Bool
opens_object Token.begin_object = true
opens_object Token.begin_array = false
opens_object Token.end_object = false
opens_object Token.end_array = false
opens_object (Token.key s) = false
opens_object (Token.string s) = false
opens_object (Token.number s) = false
opens_object (Token.boolean b) = false
opens_object Token.null = false
opens_object Token.bad = false

abbrev is_object : json.Json → prelude.Bool
is_object json.null = false
is_object (json.boolean b) = false
is_object (json.number s) = false
is_object (json.string s) = false
is_object (json.array js) = false
is_object (json.object ms) = true

abbrev reads_object : Option (json.Json × List Token) → prelude.Bool
reads_object None = false
reads_object (Some p) = is_object p.0

reads_array : (o : Option (json.Items × List Token)) → reads_object (parse_map json.array o) ≡ false
reads_array None = refl
reads_array (Some p) = refl

reads_no_object : (a : Parse json.Items) (o : Parse json.Members) (t : Token) (ts : List Token) → opens_object t ≡ false → reads_object (value_with a o (t ∷ ts)) ≡ false
reads_no_object a o Token.begin_object ts e = absurd (true≢false e)
reads_no_object a o Token.end_object ts e = refl
reads_no_object a o Token.begin_array ts e = reads_array (a ts)
reads_no_object a o Token.end_array ts e = refl
reads_no_object a o (Token.key s) ts e = refl
reads_no_object a o (Token.string s) ts e = refl
reads_no_object a o (Token.number s) ts e = refl
reads_no_object a o (Token.boolean b) ts e = refl
reads_no_object a o Token.null ts e = refl
reads_no_object a o Token.bad ts e = refl

reads_plain : (depth : ℕ) (t : Token) (ts : List Token) → opens_object t ≡ false → reads_object (value depth (t ∷ ts)) ≡ false
unfolding value
reads_plain zero t ts e = reads_no_object (λ ts. None) (λ ts. None) t ts e
reads_plain (suc d) t ts e = reads_no_object (λ ts. json.items (value d) (length ts) ts) (λ ts. json.members (value d) (length ts) ts) t ts e

abbrev pub HasNoMembers : Data → Type 0
HasNoMembers d = (without_items d ≡ d) × (members_in d ≡ no_members)

abbrev HaveNone : Option Data → Type 0
HaveNone None = ⊤
HaveNone (Some d) = HasNoMembers d

none_of_number : (n : Option Num) → HaveNone (option_map number n)
none_of_number None = tt
none_of_number (Some n) = (refl, refl)

none_of_array : (ds : Option Items) → HaveNone (option_map array ds)
none_of_array None = tt
none_of_array (Some ds) = (refl, refl)

none_of_json : (j : json.Json) → is_object j ≡ false → HaveNone (of_json j)
none_of_json json.null e = (refl, refl)
none_of_json (json.boolean b) e = (refl, refl)
none_of_json (json.number s) e = none_of_number (number_of s)
none_of_json (json.string s) e = (refl, refl)
none_of_json (json.array js) e = none_of_array (of_items js)
none_of_json (json.object ms) e = absurd (true≢false e)

-- a value that begins with no bracket of an object is no object
pub no_object : (depth : ℕ) (t : Token) (ts rest : List Token) (d : Data) → opens_object t ≡ false → converted of_json (value depth (t ∷ ts)) ≡ Some (d, rest) → HasNoMembers d
no_object depth t ts rest d plain e =
    let j = converted_some of_json (value depth (t ∷ ts)) d rest e in
    let no : is_object j.0 ≡ false = ap reads_object (sym j.1) ∙ reads_plain depth t ts plain in
    subst HaveNone j.2 (none_of_json j.0 no)

-- the token that a reader handed out opens no object
pub opens_no_object : (t : Handed) → (t ≡ BeginObject → ⊥) → opens_object (token_of t) ≡ false
opens_no_object BeginObject other = absurd (other refl)
opens_no_object EndObject other = refl
opens_no_object BeginArray other = refl
opens_no_object EndArray other = refl
opens_no_object (Key s) other = refl
opens_no_object (String s) other = refl
opens_no_object (Number s) other = refl
opens_no_object (Bool b) other = refl
opens_no_object Null other = refl
opens_no_object Bad other = refl
