-- A search for a bit that is set, by the summary of the words.
use Rattle.std.proofs.Common.{◌≡◌, ◌≢◌, ℕ, ◌+◌, ◌-◌, ◌*◌, ◌/◌, ◌%◌, ◌^◌, ◌<◌, ◌≤◌, ◌⊎◌, List, Option, Some, None, length, replicate, slice_index_or, sym, ap, ◌∙◌, ⊎_elim, arith}
use Rattle.std.proofs.Math.Nat.{div-div-eq-div-mul}
use Rattle.std.specs.Int.{bit_at, bit_not, w64}
use Rattle.std.specs.Int.RustNames.{bit_and, bit_or}
use Rattle.std.proofs.lemmas.List.{get_or-replicate, get_or_past, length-replicate}
use Rattle.std.proofs.lemmas.Nat.{pow-add}
use Rattle.std.proofs.lemmas.Nat.Bits.{bit_at_above, bit_at_clear_other, bit_at_set_other, bit_at_set_same, bit_at-lt, bit_at-pow_other, bit_at-zero}
use Rattle.pt_causality.specs.Before.{bit_of}
use Rattle.pt_queue.specs.Marks.{AreSummed, IsFirstMark, IsNextBit, IsTopBit}
use Rattle.pt_causality.proofs.Marks.{at_word, past_words}

pub below_or : (n m : ℕ) → (n < m) ⊎ (m ≤ n)
below_or n m = grind arith

either : (n m : ℕ) → (n ≡ m) ⊎ (n ≢ m)
either n m = grind arith

-- the bits of a word that is shifted
shifted : (word from i : ℕ) → bit_at (word / 2 ^ from) i ≡ bit_at word (from + i)
shifted word from i = ap (λ n. n % 2) (div-div-eq-div-mul word (2 ^ from) (2 ^ i) ∙ ap (λ p. word / p) (sym (pow-add 2 from i)))

moved : (word from i : ℕ) → from ≤ i → bit_at word i ≡ bit_at (word / 2 ^ from) (i - from)
moved word from i le = let is : i ≡ from + (i - from) = omega (arith, le) in ap (bit_at word) is ∙ sym (shifted word from (i - from))

-- the lowest bit of what is left of a word
pub next_of : (word from k : ℕ) → word < 2 ^ 64 → bit_at (word / 2 ^ from) k ≡ 1 → ((i : ℕ) → i < k → bit_at (word / 2 ^ from) i ≡ 0) → IsNextBit word from (Some (from + k))
next_of word from k fits set first = (few, omega arith, here, λ i le less. moved word from i le ∙ first (i - from) (omega (arith, le, less)))
  where
    here : bit_at word (from + k) ≡ 1
    here = sym (shifted word from k) ∙ set

    few : from + k < 64
    few = ⊎_elim
        (λ (l : from + k < 64). l)
        (λ (m : 64 ≤ from + k). let none = bit_at_above word 64 (from + k) fits m in absurd (omega (arith, none, here)))
        (below_or (from + k) 64)

pub none_left : (word from : ℕ) → word / 2 ^ from ≡ 0 → IsNextBit word from None
none_left word from zero = λ i le. moved word from i le ∙ ap (λ n. bit_at n (i - from)) zero ∙ bit_at-zero (i - from)

-- a bit that isn't 1 is 0
not_one : (words : List ℕ) (n : ℕ) → (bit_of words n ≡ 1 → ⊥) → bit_of words n ≡ 0
not_one words n away = by (bit_of words n) (bit_at-lt (slice_index_or words (n / 64) 0) (n % 64)) away
  where
    by : (b : ℕ) → b < 2 → (b ≡ 1 → ⊥) → b ≡ 0
    by b l away = ⊎_elim (λ (e : b ≡ 1). absurd (away e)) (λ (e : b ≢ 1). plain b l e) (either b 1)
      where
        plain : (b : ℕ) → b < 2 → b ≢ 1 → b ≡ 0
        plain b l e = grind arith

-- a word that is 0 has no bit
pub zero_word : (words : List ℕ) (n index : ℕ) → n / 64 ≡ index → slice_index_or words index 0 ≡ 0 → bit_of words n ≡ 0
zero_word words n index at zero = ap (λ k. bit_at (slice_index_or words k 0) (n % 64)) at ∙ ap (λ w. bit_at w (n % 64)) zero ∙ bit_at-zero (n % 64)

zero_pair : (words : List ℕ) (n pair : ℕ) → slice_index_or words (2 * pair) 0 ≡ 0 → slice_index_or words (2 * pair + 1) 0 ≡ 0 → n / 128 ≡ pair → bit_of words n ≡ 0
zero_pair words n pair low high at = ⊎_elim
    (λ (e : n / 64 ≡ 2 * pair). zero_word words n (2 * pair) e low)
    (λ (e : n / 64 ≡ 2 * pair + 1). zero_word words n (2 * pair + 1) e high)
    (half (n / 64) pair (omega (arith, at)))
  where
    half : (k pair : ℕ) → k / 2 ≡ pair → (k ≡ 2 * pair) ⊎ (k ≡ 2 * pair + 1)
    half k pair e = grind arith

-- the summary after two words were changed
module _ (words : List ℕ) (summary pair : ℕ) (few : pair < 64) (others : (n : ℕ) → n / 128 ≢ pair → bit_of words n ≡ 1 → bit_at summary (n / 128) ≡ 1) where
  pub summed_set : AreSummed words (bit_or summary (1 * 2 ^ pair % 2 ^ 64))
  summed_set n one = ⊎_elim
      (λ (e : n / 128 ≡ pair). ap (bit_at (bit_or summary (1 * 2 ^ pair % 2 ^ 64))) e ∙ bit_at_set_same w64 summary pair few)
      (λ (ne : n / 128 ≢ pair). bit_at_set_other w64 summary pair few (n / 128) ne ∙ others n ne one)
      (either (n / 128) pair)

  pub summed_clear : summary < 2 ^ 64 → slice_index_or words (2 * pair) 0 ≡ 0 → slice_index_or words (2 * pair + 1) 0 ≡ 0 → AreSummed words (bit_and summary (bit_not w64 (1 * 2 ^ pair % 2 ^ 64)))
  summed_clear fits low high n one = ⊎_elim
      (λ (e : n / 128 ≡ pair). let none = zero_pair words n pair low high e in absurd (omega (arith, none, one)))
      (λ (ne : n / 128 ≢ pair).
      let old : bit_at summary (n / 128) ≡ 1 = others n ne one in
      let within : n / 128 < 64 = ⊎_elim (λ (l : n / 128 < 64). l) (λ (m : 64 ≤ n / 128). let none = bit_at_above summary 64 (n / 128) fits m in absurd (omega (arith, none, old))) (below_or (n / 128) 64) in
      bit_at_clear_other w64 summary pair few (n / 128) within ne ∙ old)
      (either (n / 128) pair)

-- a word and the other one of its pair are 0
pub summed_without : (words : List ℕ) (summary index : ℕ) → index < 128 → summary < 2 ^ 64 → AreSummed words summary → slice_index_or words index 0 ≡ 0 → slice_index_or words (4 * (index / 2) + 1 - index) 0 ≡ 0 → AreSummed words (bit_and summary (bit_not w64 (1 * 2 ^ (index / 2) % 2 ^ 64)))
summed_without words summary index few fits are own partner = ⊎_elim
    (λ (e : index ≡ 2 * (index / 2)).
    let other : 4 * (index / 2) + 1 - index ≡ 2 * (index / 2) + 1 = omega (arith, e) in
    clear (ap (λ k. slice_index_or words k 0) (sym e) ∙ own) (ap (λ k. slice_index_or words k 0) (sym other) ∙ partner))
    (λ (e : index ≡ 2 * (index / 2) + 1).
    let other : 4 * (index / 2) + 1 - index ≡ 2 * (index / 2) = omega (arith, e) in
    clear (ap (λ k. slice_index_or words k 0) (sym other) ∙ partner) (ap (λ k. slice_index_or words k 0) (sym e) ∙ own))
    (half index)
  where
    clear : slice_index_or words (2 * (index / 2)) 0 ≡ 0 → slice_index_or words (2 * (index / 2) + 1) 0 ≡ 0 → AreSummed words (bit_and summary (bit_not w64 (1 * 2 ^ (index / 2) % 2 ^ 64)))
    clear = summed_clear words summary (index / 2) (omega (arith, few)) (λ n ne one. are n one) fits

    half : (k : ℕ) → (k ≡ 2 * (k / 2)) ⊎ (k ≡ 2 * (k / 2) + 1)
    half k = grind arith

-- without bits
zeros : (count k : ℕ) → slice_index_or (replicate {A = ℕ} count 0) k 0 ≡ 0
zeros count k = ⊎_elim
    (λ (l : k < count). get_or-replicate {A = ℕ} count k 0 0 l)
    (λ (m : count ≤ k). get_or_past (replicate {A = ℕ} count 0) k 0 (omega (arith, m, length-replicate {A = ℕ} count 0)))
    (below_or k count)

pub none_summed : (words : List ℕ) (summary count : ℕ) → words ≡ replicate count 0 → AreSummed words summary
none_summed words summary count is n one =
    let none : bit_of words n ≡ 0 = ap (λ ws. bit_of ws n) is ∙ ap (λ w. bit_at w (n % 64)) (zeros count (n / 64)) ∙ bit_at-zero (n % 64) in
    absurd (omega (arith, none, one))

-- what the summary says of words
pub none_words : (words : List ℕ) (summary a b : ℕ) → AreSummed words summary → ((n : ℕ) → a ≤ n → n < b → bit_at summary (n / 2) ≡ 0) → (n : ℕ) → 64 * a ≤ n → n < 64 * b → bit_of words n ≡ 0
none_words words summary a b are none n le up = not_one words n (λ one.
    let set : bit_at summary (n / 128) ≡ 1 = are n one in
    let same : n / 64 / 2 ≡ n / 128 = omega arith in
    let clear : bit_at summary (n / 128) ≡ 0 = ap (bit_at summary) (sym same) ∙ none (n / 64) (omega (arith, le)) (omega (arith, up)) in
    omega (arith, set, clear))

-- the next word that may have a bit
pub next_pair : (summary index pair k : ℕ) → IsNextBit summary (index / 2) (Some pair) → k < 2 * pair → index ≤ k → bit_at summary (k / 2) ≡ 0
next_pair summary index pair k next less le = next.3 (k / 2) (omega (arith, le)) (omega (arith, less))

pub no_pair : (summary index k : ℕ) → IsNextBit summary (index / 2) None → index ≤ k → bit_at summary (k / 2) ≡ 0
no_pair summary index k none le = none (k / 2) (omega (arith, le))

-- one word more without a bit
pub none_more : (words : List ℕ) (start index word n : ℕ) → word ≡ slice_index_or words index 0 → IsNextBit word 0 None → ((n : ℕ) → 64 * start ≤ n → n < 64 * index → bit_of words n ≡ 0) → 64 * start ≤ n → n < 64 * (index + 1) → bit_of words n ≡ 0
none_more words start index word n is none old le up = ⊎_elim
    (λ (l : n < 64 * index). old n le l)
    (λ (m : 64 * index ≤ n). at_word words n index (n % 64) (omega arith) (omega (arith, m, up)) ∙ ap (λ w. bit_at w (n % 64)) (sym is) ∙ none (n % 64) (omega arith))
    (below_or n (64 * index))

-- the first bit of a word is the first of all
pub first_in_word : (words : List ℕ) (from index low word bit : ℕ) → word ≡ slice_index_or words index 0 → IsNextBit word low (Some bit) → from ≤ 64 * index + low → ((n : ℕ) → from ≤ n → n < 64 * index + low → bit_of words n ≡ 0) → IsFirstMark words from (Some (64 * index + bit))
first_in_word words from index low word bit is next le none =
    let few : bit < 64 = next.0 in
    let over : low ≤ bit = next.1 in (
      omega (arith, le, over),
      at_word words (64 * index + bit) index bit few (omega arith) ∙ ap (λ w. bit_at w bit) (sym is) ∙ next.2,
      λ n more less. ⊎_elim
          (λ (l : n < 64 * index + low). none n more l)
          (λ (m : 64 * index + low ≤ n).
          let at : n ≡ 64 * index + n % 64 = place n index bit low few less m in
          at_word words n index (n % 64) (omega arith) at ∙ ap (λ w. bit_at w (n % 64)) (sym is) ∙ next.3 (n % 64) (omega (arith, at, m)) (omega (arith, at, less)))
          (below_or n (64 * index + low)),
    )
  where
    place : (n index bit low : ℕ) → bit < 64 → n < 64 * index + bit → 64 * index + low ≤ n → n ≡ 64 * index + n % 64
    place n index bit low few less m = omega (arith, few, less, m)

-- none in the rest of a word: the first is behind it
pub first_further : (words : List ℕ) (from word : ℕ) (o : Option ℕ) → word ≡ slice_index_or words (from / 64) 0 → IsNextBit word (from % 64) None → IsFirstMark words (64 * (from / 64 + 1)) o → IsFirstMark words from o
first_further words from word o is none further = by o further
  where
    here : (n : ℕ) → from ≤ n → n < 64 * (from / 64 + 1) → bit_of words n ≡ 0
    here n le less =
        let at : n ≡ 64 * (from / 64) + n % 64 = omega (arith, le, less) in
        at_word words n (from / 64) (n % 64) (omega arith) at ∙ ap (λ w. bit_at w (n % 64)) (sym is) ∙ none (n % 64) (omega (arith, at, le))

    by : (o : Option ℕ) → IsFirstMark words (64 * (from / 64 + 1)) o → IsFirstMark words from o
    by None f = λ n le. ⊎_elim (λ (l : n < 64 * (from / 64 + 1)). here n le l) (λ (m : 64 * (from / 64 + 1) ≤ n). f n m) (below_or n (64 * (from / 64 + 1)))
    by (Some p) f =
        let over : 64 * (from / 64 + 1) ≤ p = f.0 in (
          omega (arith, over),
          f.1,
          λ n le less. ⊎_elim (λ (l : n < 64 * (from / 64 + 1)). here n le l) (λ (m : 64 * (from / 64 + 1) ≤ n). f.2 n m less) (below_or n (64 * (from / 64 + 1))),
        )

pub none_past : (words : List ℕ) (from : ℕ) → length words ≤ from / 64 → IsFirstMark words from None
none_past words from past n le = past_words words n (omega (arith, past, le))

-- the words at both ends

pub none_at_all : (words : List ℕ) (summary n : ℕ) → AreSummed words summary → summary ≡ 0 → bit_of words n ≡ 1 → ⊥
none_at_all words summary n are zero one = let set = are n one in let none : bit_at summary (n / 128) ≡ 0 = ap (λ w. bit_at w (n / 128)) zero ∙ bit_at-zero (n / 128) in omega (arith, set, none)

pub pair_first : (words : List ℕ) (summary pair n : ℕ) → AreSummed words summary → IsNextBit summary 0 (Some pair) → bit_of words n ≡ 1 → 2 * pair ≤ n / 64
pair_first words summary pair n are next one = ⊎_elim
    (λ (l : n / 128 < pair). let set = are n one in let clear = next.3 (n / 128) (omega arith) l in absurd (omega (arith, set, clear)))
    (λ (m : pair ≤ n / 128). omega (arith, m))
    (below_or (n / 128) pair)

pub pair_last : (words : List ℕ) (summary pair n : ℕ) → AreSummed words summary → IsTopBit summary (Some pair) → bit_of words n ≡ 1 → n / 64 ≤ 2 * pair + 1
pair_last words summary pair n are top one = ⊎_elim
    (λ (l : pair < n / 128). let set = are n one in let clear = bit_at_above summary (pair + 1) (n / 128) top.2 (omega (arith, l)) in absurd (omega (arith, set, clear)))
    (λ (m : n / 128 ≤ pair). omega (arith, m))
    (below_or pair (n / 128))

-- a bit isn't in a word that is 0
pub not_there : (words : List ℕ) (n index : ℕ) → slice_index_or words index 0 ≡ 0 → bit_of words n ≡ 1 → n / 64 ≢ index
not_there words n index zero one at = let none = zero_word words n index at zero in omega (arith, none, one)

-- the only bit of a word
pub only_bit : (words : List ℕ) (place n : ℕ) → slice_index_or words (place / 64) 0 ≡ 2 ^ (place % 64) → n / 64 ≡ place / 64 → bit_of words n ≡ 1 → n ≡ place
only_bit words place n is at one = ⊎_elim
    (λ (e : n % 64 ≡ place % 64). omega (arith, e, at))
    (λ (ne : n % 64 ≢ place % 64).
    let none : bit_of words n ≡ 0 = ap (λ k. bit_at (slice_index_or words k 0) (n % 64)) at ∙ ap (λ w. bit_at w (n % 64)) is ∙ bit_at-pow_other (place % 64) (n % 64) ne in
    absurd (omega (arith, none, one)))
    (either (n % 64) (place % 64))
