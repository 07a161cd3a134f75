-- Indices in blocks: each by its number, and one more.
use Rattle.std.proofs.Common.{◌≡◌, ◌⊎◌, ℕ, zero, suc, ◌+◌, ◌-◌, ◌*◌, ◌/◌, ◌%◌, ◌^◌, ◌<◌, ◌≤◌, List, [], ◌∷◌, ◌++◌, count_ones, length, get_or, replicate, append-nil, refl, sym, ap, ap₂, subst, ◌∙◌, arith, inl, inr}
use Rattle.std.proofs.lemmas.Bool.{cases_lt}
use Rattle.std.proofs.lemmas.List.{append_assoc, get_or-append_right, get_or-replicate, get_or_append_left, get_or_push, length-append, length-replicate, length_push}
use Rattle.std.proofs.lemmas.Nat.{mod-pow-add, ones_cat, pow-add, pow_pos, shl-shr}
use Rattle.std.proofs.Math.Nat.{add-mul-mod_self_right, mod-eq_of_lt, mul-mod_left, pow-suc}
use Rattle.pt_history.specs.declared.indices.Block.{Block}
use Rattle.pt_history.specs.Indices.{index_at, index_in, indices_from, no_block}

pub no_ones : count_ones 0 ≡ 0
unfolding lib.Count.ones
no_ones = refl

one_one : count_ones 1 ≡ 1
unfolding lib.Count.ones
one_one = refl

twice : (j : ℕ) → 2 ^ (j + 1) ≡ 2 ^ j + 2 ^ j
twice j = ap (λ k. 2 ^ k) (omega arith) ∙ pow-suc 2 j ∙ double (2 ^ j)
  where
    double : (n : ℕ) → n * 2 ≡ n + n
    double n = omega arith

-- an index by its number
pub length-indices : (bs : List Block) (k n : ℕ) → length (indices_from bs k n) ≡ n
length-indices bs k zero = refl
length-indices bs k (suc n) = ap suc (length-indices bs (k + 1) n)

pub get_from : (bs : List Block) (k n i : ℕ) → i < n → get_or (indices_from bs k n) i 0 ≡ index_at bs (k + i)
get_from bs k zero i lt = absurd (omega arith)
get_from bs k (suc n) zero lt = ap (index_at bs) (omega arith)
get_from bs k (suc n) (suc i) lt = get_from bs (k + 1) n i (omega arith) ∙ ap (index_at bs) (omega arith)

-- one more
push_from : (bs : List Block) (k n : ℕ) → indices_from bs k (suc n) ≡ indices_from bs k n ++ index_at bs (k + n) ∷ []
push_from bs k zero = ap (λ i. index_at bs i ∷ []) (omega arith)
push_from bs k (suc n) = ap (λ l. index_at bs k ∷ l) (push_from bs (k + 1) n ∙ ap (λ i. indices_from bs (k + 1) n ++ index_at bs i ∷ []) (omega arith))

same_from : (ds bs : List Block) (k n : ℕ) → ((i : ℕ) → i < k + n → index_at ds i ≡ index_at bs i) → indices_from ds k n ≡ indices_from bs k n
same_from ds bs k zero same = refl
same_from ds bs k (suc n) same = ap₂ (λ i l. i ∷ l) (same k (omega arith)) (same_from ds bs (k + 1) n (λ i lt. same i (omega arith)))

-- another newest block in which the first j indices are the same
abbrev pub SameBelow : Block → Block → ℕ → Type 0
SameBelow a b j = (i : ℕ) → i < j → index_in a i ≡ index_in b i

in_block : (blocks : List Block) (old new : Block) (count i : ℕ) → length blocks ≡ count / 64 → SameBelow new old (count % 64) → i < count → ((i / 64 < length blocks) ⊎ (length blocks ≤ i / 64)) → index_at (blocks ++ new ∷ []) i ≡ index_at (blocks ++ old ∷ []) i
in_block blocks old new count i full same lt (inl there) = ap (λ b. index_in b (i % 64)) (get_or_append_left blocks (new ∷ []) no_block (i / 64) there ∙ sym (get_or_append_left blocks (old ∷ []) no_block (i / 64) there))
in_block blocks old new count i full same lt (inr past) =
    let last : length blocks ≡ i / 64 = omega (arith, past, full, lt) in
    ap (λ b. index_in b (i % 64)) (get_or_push blocks new no_block (i / 64) last)
    ∙ same (i % 64) (omega (arith, last, full, lt))
    ∙ sym (ap (λ b. index_in b (i % 64)) (get_or_push blocks old no_block (i / 64) last))

appended : (blocks : List Block) (old new : Block) (count x : ℕ) → length blocks ≡ count / 64 → SameBelow new old (count % 64) → index_in new (count % 64) ≡ x
    → indices_from (blocks ++ new ∷ []) 0 (count + 1) ≡ indices_from (blocks ++ old ∷ []) 0 count ++ x ∷ []
appended blocks old new count x full same is =
    let more : count + 1 ≡ suc count = omega arith in
    let last : 0 + count ≡ count = omega arith in
    ap (indices_from (blocks ++ new ∷ []) 0) more
    ∙ push_from (blocks ++ new ∷ []) 0 count
    ∙ ap (λ k. indices_from (blocks ++ new ∷ []) 0 count ++ index_at (blocks ++ new ∷ []) k ∷ []) last
    ∙ ap₂ (λ l y. l ++ y ∷ []) (same_from (blocks ++ new ∷ []) (blocks ++ old ∷ []) 0 count (λ i lt. in_block blocks old new count i full same (omega (arith, lt)) (cases_lt (i / 64) (length blocks))))
    (ap (λ b. index_in b (count % 64)) (get_or_push blocks new no_block (count / 64) full) ∙ is)

-- the index after those of the newest block: the same again, or the next
again_in : (b : Block) (j : ℕ) → b.bits < 2 ^ j → index_in b j ≡ b.base + count_ones b.bits
again_in b j few = let double : 2 ^ (j + 1) ≡ 2 ^ j + 2 ^ j = twice j in ap (λ n. b.base + count_ones n) (mod-eq_of_lt (omega (arith, few, double)))

raised_ones : (bits j : ℕ) → bits < 2 ^ j → count_ones (bits + 2 ^ j) ≡ count_ones bits + 1
raised_ones bits j few =
    let whole : bits + 2 ^ j ≡ 1 * 2 ^ j + bits = omega arith in
    let cat : count_ones (1 * 2 ^ j + bits) ≡ count_ones 1 + count_ones bits = ones_cat j 1 bits few in
    ap count_ones whole ∙ omega (arith, cat, one_one)

raised_in : (b : Block) (j : ℕ) → b.bits < 2 ^ j → index_in (record b { bits = b.bits + 2 ^ j }) j ≡ b.base + count_ones b.bits + 1
raised_in b j few =
    let double : 2 ^ (j + 1) ≡ 2 ^ j + 2 ^ j = twice j in
    let ones : count_ones (b.bits + 2 ^ j) ≡ count_ones b.bits + 1 = raised_ones b.bits j few in
    ap (λ n. b.base + count_ones n) (mod-eq_of_lt (omega (arith, few, double))) ∙ omega (arith, ones)

raised_before : (b : Block) (j : ℕ) → SameBelow (record b { bits = b.bits + 2 ^ j }) b j
raised_before b j i lt =
    let parts : 2 ^ j ≡ 2 ^ (j - (i + 1)) * 2 ^ (i + 1) = ap (λ k. 2 ^ k) (omega (arith, lt)) ∙ pow-add 2 (j - (i + 1)) (i + 1) in
    ap (λ n. b.base + count_ones ((b.bits + n) % 2 ^ (i + 1))) parts ∙ ap (λ n. b.base + count_ones n) (add-mul-mod_self_right b.bits (2 ^ (j - (i + 1))) (2 ^ (i + 1)))

-- the newest block becomes `new`, with one more index x
pub record Adds (blocks : List Block) (old new : Block) (count x : ℕ) : Type 0 where
  pub indices : indices_from (blocks ++ new ∷ []) 0 (count + 1) ≡ indices_from (blocks ++ old ∷ []) 0 count ++ x ∷ []
  pub full : length blocks ≡ count / 64
  pub rises : x ≡ new.base + count_ones new.bits
  pub bits : new.bits < 2 ^ (count % 64 + 1)

pub adds_again : (blocks : List Block) (b : Block) (count x : ℕ) → length blocks ≡ count / 64 → b.bits < 2 ^ (count % 64) → x ≡ b.base + count_ones b.bits → Adds blocks b b count x
adds_again blocks b count x full few is =
    let double : 2 ^ (count % 64 + 1) ≡ 2 ^ (count % 64) + 2 ^ (count % 64) = twice (count % 64) in
    record { indices = appended blocks b b count x full (λ i lt. refl) (again_in b (count % 64) few ∙ sym is); full = full; rises = is; bits = omega (arith, few, double) }

pub adds_next : (blocks : List Block) (b : Block) (count x : ℕ) → length blocks ≡ count / 64 → b.bits < 2 ^ (count % 64) → x ≡ b.base + count_ones b.bits → Adds blocks b (record b { bits = b.bits + 2 ^ (count % 64) }) count (x + 1)
adds_next blocks b count x full few is =
    let double : 2 ^ (count % 64 + 1) ≡ 2 ^ (count % 64) + 2 ^ (count % 64) = twice (count % 64) in
    let ones : count_ones (b.bits + 2 ^ (count % 64)) ≡ count_ones b.bits + 1 = raised_ones b.bits (count % 64) few in
    record {
      indices = appended blocks b (record b { bits = b.bits + 2 ^ (count % 64) }) count (x + 1) full (raised_before b (count % 64)) (raised_in b (count % 64) few ∙ omega (arith, is));
      full = full;
      rises = omega (arith, is, ones);
      bits = omega (arith, few, double);
    }

-- the next block has no indices yet
pub closes : (blocks new_blocks : List Block) (old new next : Block) (count x : ℕ) → Adds blocks old new count x → (count + 1) % 64 ≡ 0 → new_blocks ≡ blocks ++ new ∷ []
    → indices_from (new_blocks ++ next ∷ []) 0 (count + 1) ≡ indices_from (blocks ++ old ∷ []) 0 count ++ x ∷ []
closes blocks new_blocks old new next count x adds all are =
    let many : length (blocks ++ new ∷ []) ≡ length blocks + 1 = length_push blocks new in
    ap (λ bs. indices_from (bs ++ next ∷ []) 0 (count + 1)) are
    ∙ same_from ((blocks ++ new ∷ []) ++ next ∷ []) (blocks ++ new ∷ []) 0 (count + 1) (λ i lt. ap (λ b. index_in b (i % 64)) (get_or_append_left (blocks ++ new ∷ []) (next ∷ []) no_block (i / 64) (omega (arith, lt, many, adds.full, all))))
    ∙ adds.indices

-- the last index
pub last_at : (bs : List Block) (new es : List ℕ) (e count : ℕ) → es ≡ indices_from bs 0 count → new ≡ es ++ e ∷ [] → e ≡ get_or new (count + 1 - 1) 0
last_at bs new es e count are is =
    let many : length es ≡ count = ap length are ∙ length-indices bs 0 count in
    sym (ap (λ l. get_or l (count + 1 - 1) 0) is ∙ get_or_push es e 0 (count + 1 - 1) (omega (arith, many)))

pub last_seen : (bs : List Block) (seen : List ℕ) (last count : ℕ) → indices_from bs 0 count ≡ seen → last ≡ get_or (indices_from bs 0 count) (count - 1) 0 → last ≡ get_or seen (length seen - 1) 0
last_seen bs seen last count view is =
    let many : count ≡ length seen = sym (length-indices bs 0 count) ∙ ap length view in
    is ∙ ap (λ l. get_or l (count - 1) 0) view ∙ ap (λ k. get_or seen (k - 1) 0) many

-- the bits that a shift to the left leaves
pub shifted : (bits j : ℕ) → j < 64 → count_ones ((bits * 2 ^ (63 - j)) % 2 ^ 64) ≡ count_ones (bits % 2 ^ (j + 1))
shifted bits j lt =
    let up = 63 - j in
    let whole : 64 ≡ (j + 1) + (63 - j) = omega (arith, lt) in
    let cat : count_ones (bits % 2 ^ (j + 1) * 2 ^ up + 0) ≡ count_ones (bits % 2 ^ (j + 1)) + count_ones 0 = ones_cat up (bits % 2 ^ (j + 1)) 0 (pow_pos up) in
    ap (λ k. count_ones ((bits * 2 ^ up) % 2 ^ k)) whole
    ∙ ap count_ones (mod-pow-add (bits * 2 ^ up) (j + 1) up ∙ ap₂ (λ a b. a % 2 ^ (j + 1) * 2 ^ up + b) (shl-shr bits up) (mul-mod_left bits (2 ^ up)))
    ∙ omega (arith, cat, no_ones)

-- an index that is the same as the one before it
pub level : (b : Block) (j : ℕ) → b.bits / 2 ^ (j + 1) % 2 ≡ 0 → index_in b (j + 1) ≡ index_in b j
level b j is =
    let place : j + 1 + 1 ≡ 1 + (j + 1) = omega arith in
    ap (λ k. b.base + count_ones (b.bits % 2 ^ k)) place
    ∙ ap (λ n. b.base + count_ones n) (mod-pow-add b.bits 1 (j + 1) ∙ ap (λ n. n * 2 ^ (j + 1) + b.bits % 2 ^ (j + 1)) is ∙ nothing (2 ^ (j + 1)) (b.bits % 2 ^ (j + 1)))
  where
    nothing : (a b : ℕ) → 0 * a + b ≡ b
    nothing a b = omega arith

pub level_at : (bs : List Block) (count n : ℕ) (seen : List ℕ) (b : Block) → indices_from bs 0 count ≡ seen → n + 1 < length seen → (n % 64 ≡ 63 → ⊥) → b ≡ get_or bs (n / 64) no_block → index_in b (n % 64 + 1) ≡ index_in b (n % 64)
    → get_or seen (n + 1) 0 ≡ get_or seen n 0
level_at bs count n seen b view lt inner is same =
    let many : length seen ≡ count = ap length (sym view) ∙ length-indices bs 0 count in
    let block : (n + 1) / 64 ≡ n / 64 = omega (arith, inner) in
    let place : (n + 1) % 64 ≡ n % 64 + 1 = omega (arith, inner) in
    let at : 0 + n ≡ n = omega arith in
    let at_next : 0 + (n + 1) ≡ n + 1 = omega arith in
    sym (ap (λ l. get_or l (n + 1) 0) view)
    ∙ get_from bs 0 count (n + 1) (omega (arith, many, lt))
    ∙ ap (index_at bs) at_next
    ∙ ap₂ (λ d k. index_in (get_or bs d no_block) k) block place
    ∙ ap (λ (d : Block). index_in d (n % 64 + 1)) (sym is)
    ∙ same
    ∙ ap (λ (d : Block). index_in d (n % 64)) is
    ∙ ap (index_at bs) (sym at)
    ∙ sym (get_from bs 0 count n (omega (arith, many, lt)))
    ∙ ap (λ l. get_or l n 0) view

pub last_pushed : (new es : List ℕ) (e : ℕ) → new ≡ es ++ e ∷ [] → get_or new (length new - 1) 0 ≡ e
last_pushed new es e is =
    let many : length (es ++ e ∷ []) ≡ length es + 1 = length_push es e in
    ap (λ l. get_or l (length l - 1) 0) is ∙ get_or_push es e 0 (length (es ++ e ∷ []) - 1) (omega (arith, many))

-- the last index many times more, in the newest block
pub record Repeats (blocks : List Block) (b : Block) (count more x : ℕ) : Type 0 where
  pub indices : indices_from (blocks ++ b ∷ []) 0 (count + more) ≡ indices_from (blocks ++ b ∷ []) 0 count ++ replicate more x
  pub full : length blocks ≡ (count + more) / 64
  pub bits : b.bits < 2 ^ ((count + more) % 64)

pub repeats : (blocks : List Block) (b : Block) (x more count : ℕ) → length blocks ≡ count / 64 → b.bits < 2 ^ (count % 64) → x ≡ b.base + count_ones b.bits → more < 64 - count % 64 → Repeats blocks b count more x
repeats blocks b x zero count full few is room =
    let none : count + 0 ≡ count = omega arith in
    let same : count ≡ count + 0 = omega arith in
    record {
      indices = ap (indices_from (blocks ++ b ∷ []) 0) none ∙ sym (append-nil (indices_from (blocks ++ b ∷ []) 0 count));
      full = omega (arith, full);
      bits = subst (λ k. b.bits < 2 ^ (k % 64)) same few;
    }
repeats blocks b x (suc m) count full few is room =
    let adds : Adds blocks b b count x = adds_again blocks b count x full few is in
    let place : count % 64 + 1 ≡ (count + 1) % 64 = omega (arith, room) in
    let all : count + suc m ≡ (count + 1) + m = omega arith in
    let rest : Repeats blocks b (count + 1) m x = repeats blocks b x m (count + 1) (omega (arith, full, room)) (subst (λ k. b.bits < 2 ^ k) place adds.bits) is (omega (arith, room)) in
    record {
      indices =
          ap (indices_from (blocks ++ b ∷ []) 0) all
          ∙ rest.indices
          ∙ ap (λ l. l ++ replicate m x) adds.indices
          ∙ append_assoc (indices_from (blocks ++ b ∷ []) 0 count) (x ∷ []) (replicate m x);
      full = omega (arith, rest.full);
      bits = subst (λ k. b.bits < 2 ^ (k % 64)) (sym all) rest.bits;
    }

-- the next index many times, in the newest block
pub record Raises (blocks : List Block) (old new : Block) (count times x : ℕ) : Type 0 where
  pub indices : indices_from (blocks ++ new ∷ []) 0 (count + times) ≡ indices_from (blocks ++ old ∷ []) 0 count ++ replicate times x
  pub full : length blocks ≡ (count + times) / 64
  pub bits : new.bits < 2 ^ ((count + times) % 64)
  pub rises : x ≡ new.base + count_ones new.bits

pub raises : (blocks : List Block) (b : Block) (x times count : ℕ) → length blocks ≡ count / 64 → b.bits < 2 ^ (count % 64) → x ≡ b.base + count_ones b.bits → 0 < times → times < 64 - count % 64
    → Raises blocks b (record b { bits = b.bits + 2 ^ (count % 64) }) count times (x + 1)
raises blocks b x zero count full few is some room = absurd (omega (arith, some))
raises blocks b x (suc m) count full few is some room =
    let new : Block = record b { bits = b.bits + 2 ^ (count % 64) } in
    let adds : Adds blocks b new count (x + 1) = adds_next blocks b count x full few is in
    let place : count % 64 + 1 ≡ (count + 1) % 64 = omega (arith, room) in
    let all : count + suc m ≡ (count + 1) + m = omega arith in
    let rest : Repeats blocks new (count + 1) m (x + 1) = repeats blocks new (x + 1) m (count + 1) (omega (arith, full, room)) (subst (λ k. new.bits < 2 ^ k) place adds.bits) adds.rises (omega (arith, room)) in
    record {
      indices =
          ap (indices_from (blocks ++ new ∷ []) 0) all
          ∙ rest.indices
          ∙ ap (λ l. l ++ replicate m (x + 1)) adds.indices
          ∙ append_assoc (indices_from (blocks ++ b ∷ []) 0 count) ((x + 1) ∷ []) (replicate m (x + 1));
      full = omega (arith, rest.full);
      bits = subst (λ k. new.bits < 2 ^ (k % 64)) (sym all) rest.bits;
      rises = adds.rises;
    }

pub last_repeated : (es : List ℕ) (x times n : ℕ) → 0 < times → n ≡ length es + times → x ≡ get_or (es ++ replicate times x) (n - 1) 0
last_repeated es x times n some is =
    sym (get_or-append_right es (replicate times x) (length es) (n - 1) 0 refl (omega (arith, some, is))
    ∙ get_or-replicate times (n - 1 - length es) x 0 (omega (arith, some, is)))

pub length_repeated : {X : Type 0} (es : List X) (x : X) (times : ℕ) → length (es ++ replicate times x) ≡ length es + times
length_repeated es x times = length-append es (replicate times x) ∙ ap (λ k. length es + k) (length-replicate times x)
