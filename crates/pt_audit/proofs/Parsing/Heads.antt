-- The fields of a turn's first line.
use Rattle.std.proofs.Common.{◌≡◌, ℕ, List, [], ◌∷◌, ◌++◌, codes, refl, ap, ◌∙◌, append_assoc, arith, length, length-append}
use Rattle.std.specs.Fmt.{decimal}
use Rattle.pt_types.specs.declared.graph.Graph.{Graph}
use Rattle.pt_types.specs.Lawful.{IsLawful}
use Rattle.pt_types.specs.Lookups.{platform_name}
use Rattle.pt_tables.specs.Log.{turn_line}
use Rattle.pt_audit.specs.Parsing.Fields.{after, before}
use Rattle.pt_audit.proofs.Parsing.Cuts.{Lacks, after_at, before_at}
use Rattle.pt_audit.proofs.Parsing.Printed.{comma, lacks_decimal, lacks_platform, no_comma_in_names}

-- lists that end in one item are equal before it
pub push_cancel : (xs ys : List ℕ) (z : ℕ) → xs ++ z ∷ [] ≡ ys ++ z ∷ [] → xs ≡ ys
push_cancel [] [] z e = refl
push_cancel [] (y ∷ ys) z e = absurd (omega (arith, ap length e, length-append ys (z ∷ [])))
push_cancel (x ∷ xs) [] z e = absurd (omega (arith, ap length e, length-append xs (z ∷ [])))
push_cancel (x ∷ xs) (y ∷ ys) z e =
    let rest = push_cancel xs ys z cc in
    let first : x ≡ y = cc in
    rw (first, rest) refl

-- where the four fields are
pub record HaveFields (line platform first last count : List ℕ) : Type 0 where
  pub platform_is : before 44 (after 44 line) ≡ platform
  pub first_is : before 44 (after 44 (after 44 line)) ≡ first
  pub last_is : before 44 (after 44 (after 44 (after 44 line))) ≡ last
  pub count_is : after 44 (after 44 (after 44 (after 44 line))) ≡ count

four_fields : (word platform first last count : List ℕ) → Lacks 44 word → Lacks 44 platform → Lacks 44 first → Lacks 44 last → HaveFields (word ++ 44 ∷ (platform ++ 44 ∷ (first ++ 44 ∷ (last ++ 44 ∷ count)))) platform first last count
four_fields word platform first last count a b c d =
    let one = after_at 44 word (platform ++ 44 ∷ (first ++ 44 ∷ (last ++ 44 ∷ count))) a in
    let two = ap (after 44) one ∙ after_at 44 platform (first ++ 44 ∷ (last ++ 44 ∷ count)) b in
    let three = ap (after 44) two ∙ after_at 44 first (last ++ 44 ∷ count) c in
    record {
      platform_is = ap (before 44) one ∙ before_at 44 platform (first ++ 44 ∷ (last ++ 44 ∷ count)) b;
      first_is = ap (before 44) two ∙ before_at 44 first (last ++ 44 ∷ count) c;
      last_is = ap (before 44) three ∙ before_at 44 last count d;
      count_is = ap (after 44) three ∙ after_at 44 last count d;
    }

-- the first line of a turn, without its line feed
pub head_is : (line platform first last count : List ℕ) → line ++ 10 ∷ [] ≡ codes "turn," ++ platform ++ 44 ∷ first ++ 44 ∷ last ++ 44 ∷ count ++ 10 ∷ [] → line ≡ codes "turn" ++ 44 ∷ (platform ++ 44 ∷ (first ++ 44 ∷ (last ++ 44 ∷ count)))
head_is line platform first last count e = push_cancel line (codes "turn," ++ platform ++ 44 ∷ first ++ 44 ∷ last ++ 44 ∷ count) 10 e ∙ simp append_assoc

turn_word : Lacks 44 (codes "turn")
turn_word = (omega arith, (omega arith, (omega arith, (omega arith, tt))))

pub head_fields : (g : Graph) (line : List ℕ) (p first last count : ℕ) → IsLawful g → line ++ 10 ∷ [] ≡ turn_line (platform_name g p) first last count → HaveFields line (platform_name g p) (decimal first) (decimal last) (decimal count)
head_fields g line p first last count lawful e = rw (head_is line (platform_name g p) (decimal first) (decimal last) (decimal count) e) (four_fields (codes "turn") (platform_name g p) (decimal first) (decimal last) (decimal count) turn_word (lacks_platform g 44 p lawful no_comma_in_names) (lacks_decimal 44 first comma) (lacks_decimal 44 last comma))

-- the fields, as they are cut off one after another
pub head_parts : (g : Graph) (line : List ℕ) (p first last count : ℕ) (rest name rest' one rest'' two three : List ℕ) → IsLawful g → line ++ 10 ∷ [] ≡ turn_line (platform_name g p) first last count → rest ≡ after 44 line → name ≡ before 44 rest → rest' ≡ after 44 rest → one ≡ before 44 rest' → rest'' ≡ after 44 rest' → two ≡ before 44 rest'' → three ≡ after 44 rest'' → (name ≡ platform_name g p) × (one ≡ decimal first) × (two ≡ decimal last) × (three ≡ decimal count)
head_parts g line p first last count rest name rest' one rest'' two three lawful e a b c d f h i =
    let fields = head_fields g line p first last count lawful e in
    let second = c ∙ ap (after 44) a in
    let third = f ∙ ap (after 44) second in
    (b ∙ ap (before 44) a ∙ fields.platform_is, d ∙ ap (before 44) second ∙ fields.first_is, h ∙ ap (before 44) third ∙ fields.last_is, i ∙ ap (after 44) third ∙ fields.count_is)
