-- What heads and lists tell of each turn.
use Rattle.std.proofs.Common.{rules, ◌≡◌, ℕ, zero, suc, ◌+◌, ◌<◌, List, [], ◌∷◌, ◌++◌, length, get_or, Some, None, Option, subst, ◌≤◌, ◌⊎◌, inl, inr, drop, take, refl, sym, ap, ap₂, ◌∙◌, arith, eqb}
use Rattle.std.specs.Prelude.{option_map, slice_get, unwrap_or}
use Rattle.std.specs.List.{flat_map}
use Rattle.std.proofs.lemmas.List.{drop_all, drop_more, get_or_past}
use Rattle.std.proofs.lemmas.Bool.{cases_lt}
use Rattle.std.proofs.lemmas.Option.{get_or_from_slice_get, slice_get-get_or}
use Rattle.pt_types.specs.declared.firing.Done.{Done}
use Rattle.pt_types.specs.declared.firing.OnLink.{OnLink}
use Rattle.pt_types.specs.declared.firing.Task.{Task}
use Rattle.pt_semantics.specs.Turn.{Turn, is_empty}
use Rattle.pt_semantics.proofs.Lookups.{same_some}
use Rattle.pt_history.specs.Heads.{single}
use Rattle.pt_history.specs.Levels.{IsSingleAfter}
use Rattle.pt_history.specs.declared.head.Head.{Head}
use Rattle.pt_history.specs.Keeping.{Lists, turn_at, turns_from}
use Rattle.pt_history.specs.Turns.{claimed_in, posted_in, turn_head}

-- a head that stands for none
abbrev pub no_head : Head
no_head = record { first = 0; last = 0; count = 0 }

pub length-turns : (p : Lists) (i : ℕ) (hs : List Head) → length (turns_from p i hs) ≡ length hs
length-turns p i [] = refl
length-turns p i (h ∷ hs) = ap suc (length-turns p (i + 1) hs)

-- the turn of a number
get_from : (p : Lists) (i k j : ℕ) (hs : List Head) (h : Head) → i + k ≡ j → k < length hs → slice_get (turns_from p i hs) k ≡ Some (turn_at p j (get_or hs k h))
get_from p i k j [] h e lt = absurd (omega arith)
get_from p i zero j (x ∷ hs) h e lt = let same : i ≡ j = omega arith in ap (λ n. Some (turn_at p n x)) same
get_from p i (suc k) j (x ∷ hs) h e lt = get_from p (i + 1) k j hs h (omega arith) (omega arith)

pub get_turn : (p : Lists) (k : ℕ) (hs : List Head) (h : Head) → k < length hs → slice_get (turns_from p 0 hs) k ≡ Some (turn_at p k (get_or hs k h))
get_turn p k hs h lt = get_from p 0 k k hs h (omega arith) lt

-- one list of a turn, of which what is read of its number
pub list_of : {X : Type 0} (f : Turn → List X) (p : Lists) (lists : List (List X)) (k : ℕ) (hs : List Head) (h : Head) (list : List X) → k < length hs → f (turn_at p k (get_or hs k h)) ≡ get_or lists k [] → slice_get lists k ≡ Some list → option_map f (slice_get (turns_from p 0 hs) k) ≡ Some list
list_of f p lists k hs h list lt is read = ap (option_map f) (get_turn p k hs h lt) ∙ ap Some (is ∙ get_or_from_slice_get lists k list [] read)

-- what is read of the head of a turn
pub number_of : {X : Type 0} (f : Turn → X) (n : Head → X) (p : Lists) (k : ℕ) (hs : List Head) (h : Head) → k < length hs → f (turn_at p k (get_or hs k h)) ≡ n (get_or hs k h) → option_map f (slice_get (turns_from p 0 hs) k) ≡ Some (n (get_or hs k h))
number_of {X} f n p k hs h lt is = ap (option_map f) (get_turn p k hs h lt) ∙ ap Some is

-- the members of one list of all turns
all_from : {X : Type 0} (f : Turn → List X) (p : Lists) (lists : List (List X)) (i : ℕ) (hs : List Head) → ((k : ℕ) (h : Head) → f (turn_at p k h) ≡ get_or lists k []) → i + length hs ≡ length lists → flat_map f (turns_from p i hs) ≡ flat_map (λ (list : List X). list) (drop i lists)
all_from {X} f p lists i [] is e = sym (ap (flat_map (λ (list : List X). list)) (drop_all i lists (omega arith)))
all_from {X} f p lists i (h ∷ hs) is e =
    ap₂ (λ list more. list ++ more) (is i h) (all_from f p lists (i + 1) hs is (omega arith))
    ∙ sym (ap (flat_map (λ (list : List X). list)) (drop_more lists i [] (omega arith)))

-- all claims
pub all_claims : (p : Lists) (hs : List Head) → length p.claimed ≡ length hs → flat_map (λ (turn : Turn). turn.claimed) (turns_from p 0 hs) ≡ flat_map (λ (tasks : List Task). tasks) p.claimed
all_claims p hs e = all_from (λ (turn : Turn). turn.claimed) p p.claimed 0 hs (λ k h. refl) (omega arith)

-- all messages that were taken
pub all_messages : (p : Lists) (hs : List Head) → length p.taken ≡ length hs → flat_map (λ (turn : Turn). turn.taken) (turns_from p 0 hs) ≡ flat_map (λ (messages : List OnLink). messages) p.taken
all_messages p hs e = all_from (λ (turn : Turn). turn.taken) p p.taken 0 hs (λ k h. refl) (omega arith)

-- all messages that were sent
pub all_sent : (p : Lists) (hs : List Head) → length p.sent ≡ length hs → flat_map (λ (turn : Turn). turn.sent) (turns_from p 0 hs) ≡ flat_map (λ (messages : List OnLink). messages) p.sent
all_sent p hs e = all_from (λ (turn : Turn). turn.sent) p p.sent 0 hs (λ k h. refl) (omega arith)

-- all results
pub all_posted : (p : Lists) (hs : List Head) → length p.posted ≡ length hs → flat_map (λ (turn : Turn). turn.posted) (turns_from p 0 hs) ≡ flat_map (λ (dones : List Done). dones) p.posted
all_posted p hs e = all_from (λ (turn : Turn). turn.posted) p p.posted 0 hs (λ k h. refl) (omega arith)

-- the members of one list of the first turns
first_from : {X : Type 0} (f : Turn → List X) (p : Lists) (lists : List (List X)) (n i : ℕ) (hs : List Head) → ((k : ℕ) (h : Head) → f (turn_at p k h) ≡ get_or lists k []) → i + length hs ≡ length lists
    → flat_map f (take n (turns_from p i hs)) ≡ flat_map (λ (list : List X). list) (take n (drop i lists))
first_from {X} f p lists n i [] is e = nothing f n ∙ sym (ap (λ (ls : List (List X)). flat_map (λ (list : List X). list) (take n ls)) (drop_all i lists (omega arith)) ∙ nothing (λ (list : List X). list) n)
  where
    nothing : {X Y : Type 0} (f : X → List Y) (n : ℕ) → flat_map f (take n []) ≡ []
    nothing f zero = refl
    nothing f (suc n) = refl
first_from {X} f p lists zero i (h ∷ hs) is e = sym (ap (λ (ls : List (List X)). flat_map (λ (list : List X). list) (take zero ls)) (drop_more lists i [] (omega arith)))
first_from {X} f p lists (suc n) i (h ∷ hs) is e =
    ap₂ (λ list more. list ++ more) (is i h) (first_from f p lists n (i + 1) hs is (omega arith))
    ∙ sym (ap (λ (ls : List (List X)). flat_map (λ (list : List X). list) (take (suc n) ls)) (drop_more lists i [] (omega arith)))

-- the results of the first turns
pub first_posted : (p : Lists) (n : ℕ) (hs : List Head) → length p.posted ≡ length hs → flat_map (λ (turn : Turn). turn.posted) (take n (turns_from p 0 hs)) ≡ flat_map (λ (dones : List Done). dones) (take n p.posted)
first_posted p n hs e = first_from (λ (turn : Turn). turn.posted) p p.posted n 0 hs (λ k h. refl) (omega arith)

-- the claims of the first turns
pub first_claimed : (p : Lists) (n : ℕ) (hs : List Head) → length p.claimed ≡ length hs → flat_map (λ (turn : Turn). turn.claimed) (take n (turns_from p 0 hs)) ≡ flat_map (λ (tasks : List Task). tasks) (take n p.claimed)
first_claimed p n hs e = first_from (λ (turn : Turn). turn.claimed) p p.claimed n 0 hs (λ k h. refl) (omega arith)

-- the head of a single turn, after a turn with the same last reading
pub single_turn : (p : Lists) (hs : List Head) (n : ℕ) (turn : Turn) → IsSingleAfter hs n → slice_get (turns_from p 0 hs) n ≡ Some turn → option_map turn_head (slice_get (turns_from p 0 hs) (n + 1)) ≡ Some (single turn.last)
single_turn p hs n turn after was =
    let before : n < length hs = omega (arith, after.next) in
    let head = get_or hs n no_head in
    let is : turn_at p n head ≡ turn = same_some (turn_at p n head) turn (sym (get_turn p n hs no_head before) ∙ was) in
    number_of turn_head (λ (h : Head). h) p (n + 1) hs no_head after.next refl
    ∙ ap (λ (h : Head). Some h) (get_or_from_slice_get hs (n + 1) (single head.last) no_head (after.is head (slice_get-get_or hs n no_head before)))
    ∙ ap (λ (t : Turn). Some (single t.last)) is

-- whether a list is empty, by its length
pub empty_by_length : {X : Type 0} (xs : List X) → is_empty xs ≡ eqb (length xs) 0
empty_by_length [] = refl
empty_by_length (x ∷ xs) = search rules

none_at : {Y : Type 0} (ys : List Y) (i : ℕ) → length ys ≤ i → slice_get ys i ≡ None
none_at [] i h = refl
none_at (y ∷ ys) zero h = absurd (omega arith)
none_at (y ∷ ys) (suc i) h = none_at ys i (omega arith)

-- a list of a turn, whether there is such a turn or not
list_in : {X : Type 0} (f : Turn → List X) (p : Lists) (lists : List (List X)) (k : ℕ) (hs : List Head) → ((j : ℕ) (h : Head) → f (turn_at p j h) ≡ get_or lists j []) → length lists ≡ length hs
    → unwrap_or (option_map f (slice_get (turns_from p 0 hs) k)) [] ≡ get_or lists k []
list_in {X} f p lists k hs is e = by (cases_lt k (length hs))
  where
    by : (k < length hs) ⊎ (length hs ≤ k) → unwrap_or (option_map f (slice_get (turns_from p 0 hs) k)) [] ≡ get_or lists k []
    by (inl lt) = ap (λ (o : Option Turn). unwrap_or (option_map f o) []) (get_turn p k hs no_head lt) ∙ is k (get_or hs k no_head)
    by (inr past) = ap (λ (o : Option Turn). unwrap_or (option_map f o) []) (none_at (turns_from p 0 hs) k (subst (λ n. n ≤ k) (sym (length-turns p 0 hs)) past)) ∙ sym (get_or_past lists k [] (subst (λ n. n ≤ k) (sym e) past))

pub posted_of : (p : Lists) (k : ℕ) (hs : List Head) → length p.posted ≡ length hs → posted_in (turns_from p 0 hs) k ≡ get_or p.posted k []
posted_of p k hs e = list_in (λ (turn : Turn). turn.posted) p p.posted k hs (λ j h. refl) e

pub claimed_of : (p : Lists) (k : ℕ) (hs : List Head) → length p.claimed ≡ length hs → claimed_in (turns_from p 0 hs) k ≡ get_or p.claimed k []
claimed_of p k hs e = list_in (λ (turn : Turn). turn.claimed) p p.claimed k hs (λ j h. refl) e

-- a list with an item is one of the lists
pub within_lists : {X : Type 0} (lists : List (List X)) (k i : ℕ) → i < length (get_or lists k []) → k < length lists
within_lists [] zero i h = absurd (omega arith)
within_lists [] (suc k) i h = absurd (omega arith)
within_lists (l ∷ lists) zero i h = omega arith
within_lists (l ∷ lists) (suc k) i h = let low = within_lists lists k i h in omega (arith, low)
