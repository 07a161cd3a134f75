-- A value that is no array is all that is left of it.
use Rattle.std.proofs.Common.{◌≡◌, ℕ, zero, suc, List, ◌∷◌, length, true, false, Option, Some, None, option_map, refl, sym, ap, ◌∙◌, subst, true≢false}
use Rattle.std.specs.Prelude as prelude
use Rattle.std.specs.Prelude.{⊤}
use Rattle.json.specs.Token.{Token}
use Rattle.json.specs.Json as json
use Rattle.json.specs.Json.{Parse, parse_map, value_with, value}
use Rattle.json.specs.Reads.{token_of}
use Rattle.json.specs.declared.token.Token.{Token as Handed}
use Rattle.json.specs.declared.token.Token.TheVariants.{BeginObject, EndObject, BeginArray, EndArray, Key, String, Number, Bool, Null, Bad}
use Rattle.serde_json.specs.Data.{Data, Num, number, object, Members, no_members}
use Rattle.serde_json.specs.Find.{as_array}
use Rattle.serde_json.specs.Read.{number_of, of_json, of_members, converted}
use Rattle.pt_graph_text.specs.Apart.{hollow}
use Rattle.pt_graph_text.proofs.Turns.{converted_some}

abbrev pub opens_array : Token → prelude.Bool
opens_array Token.begin_array = true
opens_array Token.begin_object = false
opens_array Token.end_object = false
opens_array Token.end_array = false
opens_array (Token.key s) = false
opens_array (Token.string s) = false
opens_array (Token.number s) = false
opens_array (Token.boolean b) = false
opens_array Token.null = false
opens_array Token.bad = false

abbrev is_array : json.Json → prelude.Bool
is_array json.null = false
is_array (json.boolean b) = false
is_array (json.number s) = false
is_array (json.string s) = false
is_array (json.array js) = true
is_array (json.object ms) = false

abbrev reads_array : Option (json.Json × List Token) → prelude.Bool
reads_array None = false
reads_array (Some p) = is_array p.0

reads_object : (o : Option (json.Members × List Token)) → reads_array (parse_map json.object o) ≡ false
reads_object None = refl
reads_object (Some p) = refl

reads_no_array : (a : Parse json.Items) (o : Parse json.Members) (t : Token) (ts : List Token) → opens_array t ≡ false → reads_array (value_with a o (t ∷ ts)) ≡ false
reads_no_array a o Token.begin_object ts e = reads_object (o ts)
reads_no_array a o Token.end_object ts e = refl
reads_no_array a o Token.begin_array ts e = absurd (true≢false e)
reads_no_array a o Token.end_array ts e = refl
reads_no_array a o (Token.key s) ts e = refl
reads_no_array a o (Token.string s) ts e = refl
reads_no_array a o (Token.number s) ts e = refl
reads_no_array a o (Token.boolean b) ts e = refl
reads_no_array a o Token.null ts e = refl
reads_no_array a o Token.bad ts e = refl

reads_plain : (depth : ℕ) (t : Token) (ts : List Token) → opens_array t ≡ false → reads_array (value depth (t ∷ ts)) ≡ false
unfolding value
reads_plain zero t ts e = reads_no_array (λ ts. None) (λ ts. None) t ts e
reads_plain (suc d) t ts e = reads_no_array (λ ts. json.items (value d) (length ts) ts) (λ ts. json.members (value d) (length ts) ts) t ts e

abbrev pub IsWhole : Data → Type 0
IsWhole d = (hollow d ≡ d) × (as_array d ≡ None)

abbrev AreWhole : Option Data → Type 0
AreWhole None = ⊤
AreWhole (Some d) = IsWhole d

whole_number : (n : Option Num) → AreWhole (option_map number n)
whole_number None = tt
whole_number (Some n) = (refl, refl)

whole_object : (ms : Option Members) → AreWhole (option_map object ms)
whole_object None = tt
whole_object (Some ms) = (refl, refl)

whole_json : (j : json.Json) → is_array j ≡ false → AreWhole (of_json j)
whole_json json.null e = (refl, refl)
whole_json (json.boolean b) e = (refl, refl)
whole_json (json.number s) e = whole_number (number_of s)
whole_json (json.string s) e = (refl, refl)
whole_json (json.array js) e = absurd (true≢false e)
whole_json (json.object ms) e = whole_object (of_members ms no_members)

-- a value that begins with no bracket of an array is no array
pub whole_value : (depth : ℕ) (t : Token) (ts rest : List Token) (d : Data) → opens_array t ≡ false → converted of_json (value depth (t ∷ ts)) ≡ Some (d, rest) → IsWhole d
whole_value depth t ts rest d plain e =
    let j = converted_some of_json (value depth (t ∷ ts)) d rest e in
    let no : is_array j.0 ≡ false = ap reads_array (sym j.1) ∙ reads_plain depth t ts plain in
    subst AreWhole j.2 (whole_json j.0 no)

-- the token that a reader handed out opens no array
pub opens_no_array : (t : Handed) → (t ≡ BeginArray → ⊥) → opens_array (token_of t) ≡ false
opens_no_array BeginObject other = refl
opens_no_array EndObject other = refl
opens_no_array BeginArray other = absurd (other refl)
opens_no_array EndArray other = refl
opens_no_array (Key s) other = refl
opens_no_array (String s) other = refl
opens_no_array (Number s) other = refl
opens_no_array (Bool b) other = refl
opens_no_array Null other = refl
opens_no_array Bad other = refl
