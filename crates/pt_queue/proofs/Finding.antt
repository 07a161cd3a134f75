-- The search for a unit that holds up another, word by word.
use Rattle.std.proofs.Common.{◌≡◌, ℕ, ◌+◌, ◌-◌, ◌*◌, ◌/◌, ◌%◌, ◌^◌, ◌<◌, ◌≤◌, ◌≢◌, ◌&&◌, ◌⊎◌, Bool, true, false, not, nat_lt, IsSome, List, Option, None, Some, length, slice_index_or, refl, sym, ap, subst, ◌∙◌, ⊎_elim, arith}
use Rattle.std.specs.Int.{bit_at}
use Rattle.std.specs.Option.{is_some}
use Rattle.std.specs.Int.RustNames.{bit_and}
use Rattle.std.proofs.lemmas.Bool.{cases_Bool, false≢true}
use Rattle.std.proofs.lemmas.Nat.Bits.{bit_at_and, bit_at-zero}
use Rattle.pt_tags.specs.declared.tag.Tag.{Tag}
use Rattle.pt_tags.specs.declared.tag.Delay.{Delay}
use Rattle.pt_types.specs.declared.graph.Unit.{Unit}
use Rattle.pt_semantics.proofs.Lookups.{same_part-refl}
use Rattle.pt_causality.specs.Before.{MayHave, bit_of}
use Rattle.pt_queue.specs.declared.groups.Groups.{Groups}
use Rattle.pt_queue.specs.Groups.{groups_at}
use Rattle.pt_queue.specs.Scans.{reaches}
use Rattle.pt_queue.specs.Tagged.{tag_holds_up, tag_in, unit_holds_up}
use Rattle.pt_queue.specs.Marks.{AreMarks, IsHolder, IsHolderAmong, IsHolderIn, one_if, unit_with}
use Rattle.pt_queue.proofs.ByUnit.{no_place, tag_with, with_place}
use Rattle.pt_queue.proofs.Holding.{holder_has}
use Rattle.pt_causality.proofs.Marks.{at_word, past_words}
use Rattle.pt_queue.proofs.Words.{top_above, top_below}

pub below_or : (n m : ℕ) → (n < m) ⊎ (m ≤ n)
below_or n m = grind arith

same_or : (n m : ℕ) → m ≤ n → (n ≡ m) ⊎ (m < n)
same_or n m l = grind arith

-- the bits left of a word, without the highest
pub without_top : (holds : ℕ → Bool) (word left bit : ℕ) → 2 ^ bit ≤ left → left < 2 ^ (bit + 1) → holds bit ≡ false → ((i : ℕ) → i < 64 → bit_at word i ≡ 1 → bit_at left i ≡ 0 → holds i ≡ false) → (i : ℕ) → i < 64 → bit_at word i ≡ 1 → bit_at (left - 2 ^ bit) i ≡ 0 → holds i ≡ false
without_top holds word left bit le less off before i few set gone = ⊎_elim
    (λ (l : i < bit). before i few set (top_below left bit i le less l ∙ gone))
    (λ (m : bit ≤ i). ⊎_elim
    (λ (e : i ≡ bit). subst (λ k. holds k ≡ false) (sym e) off)
    (λ (l : bit < i). before i few set (top_above left bit i less l))
    (same_or i bit m))
    (below_or i bit)

module _ (table : List Groups) (least : Unit → Unit → Option Delay) (u : Unit) (t : Tag) (tags : List (Option Tag)) (marks : List ℕ) (are : AreMarks tags marks) where
  -- the unit with place n holds up u
  abbrev holds : ℕ → Bool
  holds n = unit_holds_up table least u t tags (unit_with n)

  -- so its bit is set
  marked : (n : ℕ) → holds n ≡ true → bit_of marks n ≡ 1
  marked n h = are n ∙ ap one_if (sym (tag_with tags n)) ∙ (holder_has table least u t (unit_with n) (tag_in tags (unit_with n)) h).0

  pub past_marks : (n : ℕ) → length marks ≤ n / 64 → holds n ≡ false
  past_marks n l = ⊎_elim
      (λ (y : holds n ≡ true). let one = marked n y in let none = past_words marks n l in absurd (omega (arith, one, none)))
      (λ (no : holds n ≡ false). no)
      (cases_Bool (holds n))

  -- nor where its bit is not set in both
  pub bit_clear : (before : List ℕ) → ((x : Unit) → IsSome (least x u) → MayHave before x) → (n : ℕ) → n / 64 < length before → bit_at (bit_and (slice_index_or marks (n / 64) 0) (slice_index_or before (n / 64) 0)) (n % 64) ≡ 0 → holds n ≡ false
  bit_clear before all n l zero = ⊎_elim
      (λ (y : holds n ≡ true).
      let has = holder_has table least u t (unit_with n) (tag_in tags (unit_with n)) y in
      let place : 8 * (n / 8) + n % 8 ≡ n = omega arith in
      let second : bit_of before n ≡ 1 = ap (bit_of before) (sym place) ∙ all (unit_with n) has.1 (omega arith) (omega (arith, l)) in
      let first : bit_of marks n ≡ 1 = marked n y in
      let both = bit_at_and (slice_index_or marks (n / 64) 0) (slice_index_or before (n / 64) 0) (n % 64) in
      absurd (omega (arith, both, first, second, zero)))
      (λ (no : holds n ≡ false). no)
      (cases_Bool (holds n))

  pub word_clear : (before : List ℕ) → ((x : Unit) → IsSome (least x u) → MayHave before x) → (n : ℕ) → n / 64 < length before → bit_and (slice_index_or marks (n / 64) 0) (slice_index_or before (n / 64) 0) ≡ 0 → holds n ≡ false
  word_clear before all n l none = bit_clear before all n l (ap (λ w. bit_at w (n % 64)) none ∙ bit_at-zero (n % 64))

  module _ (before : List ℕ) (all : (x : Unit) → IsSome (least x u) → MayHave before x) (index m b : ℕ) (own : m ≡ slice_index_or marks index 0)
      (other : (x : Unit) → MayHave before x → x.group < 8 → (8 * x.actor + x.group) / 64 ≡ index → bit_at b ((8 * x.actor + x.group) % 64) ≡ 1) where
    in_both : (n i : ℕ) → i < 64 → n ≡ 64 * index + i → holds n ≡ true → bit_at (bit_and m b) i ≡ 1
    in_both n i l is h =
        let has = holder_has table least u t (unit_with n) (tag_in tags (unit_with n)) h in
        let place : 8 * (n / 8) + n % 8 ≡ n = omega arith in
        let word : (8 * (n / 8) + n % 8) / 64 ≡ index = omega (arith, place, l, is) in
        let bit : (8 * (n / 8) + n % 8) % 64 ≡ i = omega (arith, place, l, is) in
        let first : bit_at m i ≡ 1 = ap (λ w. bit_at w i) own ∙ sym (at_word marks n index i l is) ∙ marked n h in
        let second : bit_at b i ≡ 1 = ap (bit_at b) (sym bit) ∙ other (unit_with n) (all (unit_with n) has.1) (omega arith) word in
        omega (arith, bit_at_and m b i, first, second)

    -- one word more
    pub word_done : (len behind end : ℕ) → behind < len → index ≡ len - behind - 1 → IsHolderIn table least u t tags index (bit_and m b) None → ((n : ℕ) → 64 * (len - behind) ≤ n → n < 64 * end → holds n ≡ false) → (n : ℕ) → 64 * (len - (behind + 1)) ≤ n → n < 64 * end → holds n ≡ false
    word_done len behind end l at none done n le up = ⊎_elim
        (λ (less : n < 64 * (len - behind)). ⊎_elim
        (λ (y : holds n ≡ true).
        let i : n ≡ 64 * index + (n - 64 * index) = omega (arith, le, at, l) in
        let few : n - 64 * index < 64 = omega (arith, le, less, at, l) in
        let off : holds (64 * index + (n - 64 * index)) ≡ false = none (n - 64 * index) few (in_both n (n - 64 * index) few i y) in
        absurd (false≢true (sym (ap holds i ∙ off) ∙ y)))
        (λ (no : holds n ≡ false). no)
        (cases_Bool (holds n)))
        (λ (more : 64 * (len - behind) ≤ n). done n more up)
        (below_or n (64 * (len - behind)))

-- a unit does not hold up itself
not_itself : (table : List Groups) (least : Unit → Unit → Option Delay) (u : Unit) (t : Tag) (o : Option Tag) → tag_holds_up table least u t u o ≡ false
not_itself table least u t None = refl
not_itself table least u t (Some w) = ap (λ b. not b && (reaches (least u u) w t && nat_lt u.group (groups_at table u.actor).count)) (same_part-refl u)

-- all units, by their places
pub no_holder : (table : List Groups) (least : Unit → Unit → Option Delay) (u : Unit) (t : Tag) (tags : List (Option Tag)) → ((n : ℕ) → unit_holds_up table least u t tags (unit_with n) ≡ false) → IsHolder table least u t tags None
no_holder table least u t tags none = λ x. ⊎_elim
    (λ (l : x.group < 8). subst (λ z. unit_holds_up table least u t tags z ≡ false) (with_place x l) (none (8 * x.actor + x.group)))
    (λ (m : 8 ≤ x.group). ap (tag_holds_up table least u t x) (no_place tags x m))
    (below_or x.group 8)

pub none_found : (o : Option Unit) → is_some o ≡ false → o ≡ None
none_found None h = refl
none_found (Some x) h = absurd (false≢true (sym h))

-- outside of the words that have bits no unit holds up
module _ (table : List Groups) (least : Unit → Unit → Option Delay) (u : Unit) (t : Tag) (tags : List (Option Tag)) (from end : ℕ)
    (span : (n : ℕ) → one_if (slice_index_or tags n None) ≡ 1 → (from ≤ n / 64) × (n / 64 < end)) where
  outside : (n : ℕ) → ((from ≤ n / 64) × (n / 64 < end) → ⊥) → unit_holds_up table least u t tags (unit_with n) ≡ false
  outside n away = ⊎_elim
      (λ (y : unit_holds_up table least u t tags (unit_with n) ≡ true). absurd (away (span n (ap one_if (sym (tag_with tags n)) ∙ (holder_has table least u t (unit_with n) (tag_in tags (unit_with n)) y).0))))
      (λ (k : unit_holds_up table least u t tags (unit_with n) ≡ false). k)
      (cases_Bool (unit_holds_up table least u t tags (unit_with n)))

  -- so it is enough to look at these words
  within : ((n : ℕ) → from ≤ n / 64 → n / 64 < end → unit_holds_up table least u t tags (unit_with n) ≡ false) → IsHolder table least u t tags None
  within none = no_holder table least u t tags (λ n. ⊎_elim
      (λ (low : n / 64 < from). outside n (λ (w : (from ≤ n / 64) × (n / 64 < end)). omega (arith, low, w.0)))
      (λ (high : from ≤ n / 64). ⊎_elim
      (λ (l : n / 64 < end). none n high l)
      (λ (past : end ≤ n / 64). outside n (λ (w : (from ≤ n / 64) × (n / 64 < end)). omega (arith, past, w.1)))
      (below_or (n / 64) end))
      (below_or (n / 64) from))

  -- what two parts of the words give
  pub found_among : (middle : ℕ) (o p : Option Unit) → IsHolderAmong table least u t tags from middle o → is_some o ≡ false → IsHolderAmong table least u t tags middle end p → IsHolder table least u t tags p
  found_among middle o (Some h) front none rest = rest
  found_among middle o None front none rest = within (λ n high l. ⊎_elim
      (λ (k : n / 64 < middle). subst (IsHolderAmong table least u t tags from middle) (none_found o none) front n (omega (arith, high)) (omega (arith, k)))
      (λ (m : middle ≤ n / 64). rest n (omega (arith, m)) (omega (arith, l)))
      (below_or (n / 64) middle))

  -- no unit holds up where the words share no bit but its own
  pub none_shared : (marks before : List ℕ) → AreMarks tags marks → ((x : Unit) → IsSome (least x u) → MayHave before x) → u.group < 8
      → ((n : ℕ) → from ≤ n / 64 → n / 64 < end → n ≢ 8 * u.actor + u.group → (n / 64 < length before) × (bit_at (bit_and (slice_index_or marks (n / 64) 0) (slice_index_or before (n / 64) 0)) (n % 64) ≡ 0))
      → IsHolder table least u t tags None
  none_shared marks before marked all group none = within (λ n high l. ⊎_elim
      (λ (e : n ≡ 8 * u.actor + u.group). ap (λ k. unit_holds_up table least u t tags (unit_with k)) e ∙ ap (unit_holds_up table least u t tags) (with_place u group) ∙ not_itself table least u t (tag_in tags u))
      (λ (ne : n ≢ 8 * u.actor + u.group). let clear = none n high l ne in bit_clear table least u t tags marks marked before all n clear.0 clear.1)
      (either n (8 * u.actor + u.group)))
    where
      either : (n m : ℕ) → (n ≡ m) ⊎ (n ≢ m)
      either n m = grind arith
