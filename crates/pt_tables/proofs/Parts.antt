-- The members of a turn's lists, among those of all turns.
use Rattle.std.proofs.Common.{◌≡◌, ℕ, zero, suc, ◌+◌, ◌-◌, ◌<◌, List, [], ◌∷◌, ◌++◌, Some, length, length-append, take, refl, sym, ap, ◌∙◌, arith}
use Rattle.std.specs.Prelude.{flat_map, option_map, slice_get, unwrap_or}
use Rattle.std.proofs.lemmas.Option.{slice_get_within}
use Rattle.pt_semantics.proofs.Lookups.{none_some, same_some}
use Rattle.pt_types.specs.declared.firing.Done.{Done}
use Rattle.pt_types.specs.declared.firing.Task.{Task}
use Rattle.pt_semantics.specs.Turn.{Turn}
use Rattle.pt_history.specs.Tasks.{mark_of}
use Rattle.pt_history.specs.Turns.{all_dated, claimed_in, posted_in, turn_head, Dated}
use Rattle.pt_history.specs.declared.claims.Mark.{Mark}
use Rattle.pt_history.specs.declared.head.Head.{Head}
use Rattle.pt_history.proofs.Along.{grows}
use Rattle.pt_history.proofs.Dated.{at_left, at_right, length-results, of_result}

pub is_there : {X : Type 0} (xs : List X) (n : ℕ) → n < length xs → (x : X) × (slice_get xs n ≡ Some x)
is_there [] n lt = absurd (omega (arith, lt))
is_there (x ∷ xs) zero lt = (x, refl)
is_there (x ∷ xs) (suc n) lt = is_there xs n (omega (arith, lt))

count_more : {X Y : Type 0} (f : X → List Y) (xs : List X) (n : ℕ) (x : X) → slice_get xs n ≡ Some x → length (flat_map f (take (n + 1) xs)) ≡ length (flat_map f (take n xs)) + length (f x)
count_more {X} f xs n x at =
    let before = flat_map f (take n xs) in
    let is : before ++ f x ≡ flat_map f (take (n + 1) xs) = grows f xs n [] before (before ++ f x) refl (ap (option_map (λ (x : X). before ++ f x)) at) in
    ap length (sym is) ∙ length-append before (f x)

-- how many there are up to the end of a member's own
pub part_more : {X Y : Type 0} (f : X → List Y) (xs : List X) (n : ℕ) → n < length xs → length (flat_map f (take (n + 1) xs)) ≡ length (flat_map f (take n xs)) + length (unwrap_or (option_map f (slice_get xs n)) [])
part_more f xs n lt =
    let (x, at) = is_there xs n lt in
    count_more f xs n x at ∙ ap (λ o. length (flat_map f (take n xs)) + length (unwrap_or (option_map f o) [])) (sym at)

item_of : {X Y : Type 0} (f : X → List Y) (xs : List X) (n k : ℕ) (x : X) → slice_get xs n ≡ Some x → k < length (f x) → slice_get (flat_map f xs) (length (flat_map f (take n xs)) + k) ≡ slice_get (f x) k
item_of f [] n k x at lt = absurd (none_some x at)
item_of f (y ∷ xs) zero k x at lt =
    let same : y ≡ x = same_some y x at in
    ap (slice_get (f y ++ flat_map f xs)) (first k) ∙ at_left (f y) (flat_map f xs) k (omega (arith, lt, ap (λ z. length (f z)) same)) ∙ ap (λ z. slice_get (f z) k) same
  where
    first : (k : ℕ) → 0 + k ≡ k
    first k = omega arith
item_of f (y ∷ xs) (suc n) k x at lt =
    let rest = length (flat_map f (take n xs)) in
    let many : length (f y ++ flat_map f (take n xs)) ≡ length (f y) + rest = length-append (f y) (flat_map f (take n xs)) in
    at_right (f y) (flat_map f xs) (length (f y ++ flat_map f (take n xs)) + k) (rest + k) (omega (arith, many)) ∙ item_of f xs n k x at lt

-- one of a member's own
pub part_item : {X Y : Type 0} (f : X → List Y) (xs : List X) (n k : ℕ) → n < length xs → k < length (unwrap_or (option_map f (slice_get xs n)) [])
    → slice_get (flat_map f xs) (length (flat_map f (take n xs)) + k) ≡ slice_get (unwrap_or (option_map f (slice_get xs n)) []) k
part_item f xs n k lt inside =
    let (x, at) = is_there xs n lt in
    let is = ap (λ o. unwrap_or (option_map f o) []) at in
    item_of f xs n k x at (omega (arith, inside, ap length is)) ∙ ap (λ ys. slice_get ys k) (sym is)

-- the results of a turn
pub posted_more : (turns : List Turn) (n : ℕ) → n < length turns → length (flat_map (λ (turn : Turn). turn.posted) (take (n + 1) turns)) ≡ length (flat_map (λ (turn : Turn). turn.posted) (take n turns)) + length (posted_in turns n)
posted_more turns n lt = part_more (λ (turn : Turn). turn.posted) turns n lt

-- one of them, which is also one of all results
pub record IsPosted (turns : List Turn) (n k place : ℕ) (done : Done) : Type 0 where
  pub own : slice_get (posted_in turns n) k ≡ Some done
  pub within : place < length (all_dated turns)
  pub mark : (mark : Mark) → option_map (λ (d : Dated). mark_of d.done.task) (slice_get (all_dated turns) place) ≡ Some mark → mark_of done.task ≡ mark

pub posted_item : (turns : List Turn) (n from end k : ℕ) → n < length turns → from ≡ length (flat_map (λ (turn : Turn). turn.posted) (take n turns)) → end ≡ length (flat_map (λ (turn : Turn). turn.posted) (take (n + 1) turns)) → k < end - from
    → (done : Done) × IsPosted turns n k (from + k) done
posted_item turns n from end k lt start stop inside =
    let all = flat_map (λ (turn : Turn). turn.posted) turns in
    let few : k < length (posted_in turns n) = omega (arith, start, stop, inside, posted_more turns n lt) in
    let (done, at) = is_there (posted_in turns n) k few in
    let flat : slice_get all (from + k) ≡ Some done = ap (λ s. slice_get all (s + k)) start ∙ part_item (λ (turn : Turn). turn.posted) turns n k lt few ∙ at in
    let within : from + k < length all = slice_get_within all (from + k) done flat in
    let whole : length (all_dated turns) ≡ length all = length-results turns in (
      done,
      record {
        own = at;
        within = omega (arith, within, whole);
        mark = λ mark is. same_some (mark_of done.task) mark (ap (option_map (λ (d : Done). mark_of d.task)) (sym flat) ∙ sym (of_result (λ (d : Done). mark_of d.task) turns (from + k)) ∙ is);
      },
    )

-- the claims of a turn
pub claimed_more : (turns : List Turn) (n : ℕ) → n < length turns → length (flat_map (λ (turn : Turn). turn.claimed) (take (n + 1) turns)) ≡ length (flat_map (λ (turn : Turn). turn.claimed) (take n turns)) + length (claimed_in turns n)
claimed_more turns n lt = part_more (λ (turn : Turn). turn.claimed) turns n lt

-- one of them, which is also one of all claims
pub record IsClaimed (turns : List Turn) (n k place : ℕ) (task : Task) : Type 0 where
  pub own : slice_get (claimed_in turns n) k ≡ Some task
  pub within : place < length (flat_map (λ (turn : Turn). turn.claimed) turns)
  pub mark : (mark : Mark) → option_map mark_of (slice_get (flat_map (λ (turn : Turn). turn.claimed) turns) place) ≡ Some mark → mark_of task ≡ mark

pub claimed_item : (turns : List Turn) (n from end k : ℕ) → n < length turns → from ≡ length (flat_map (λ (turn : Turn). turn.claimed) (take n turns)) → end ≡ length (flat_map (λ (turn : Turn). turn.claimed) (take (n + 1) turns)) → k < end - from
    → (task : Task) × IsClaimed turns n k (from + k) task
claimed_item turns n from end k lt start stop inside =
    let all = flat_map (λ (turn : Turn). turn.claimed) turns in
    let few : k < length (claimed_in turns n) = omega (arith, start, stop, inside, claimed_more turns n lt) in
    let (task, at) = is_there (claimed_in turns n) k few in
    let flat : slice_get all (from + k) ≡ Some task = ap (λ s. slice_get all (s + k)) start ∙ part_item (λ (turn : Turn). turn.claimed) turns n k lt few ∙ at in (
      task,
      record {
        own = at;
        within = slice_get_within all (from + k) task flat;
        mark = λ mark is. same_some (mark_of task) mark (ap (option_map mark_of) (sym flat) ∙ is);
      },
    )

-- the last reading of a turn, by its head
pub last_read : (turns : List Turn) (n k : ℕ) (head : Head) (turn : Turn) → option_map turn_head (slice_get turns n) ≡ Some head → k + 1 ≡ n + 1 → slice_get turns k ≡ Some turn → turn.last ≡ head.last
last_read turns n k head turn is next at =
    let same : k ≡ n = omega (arith, next) in
    ap (λ (h : Head). h.last) (same_some (turn_head turn) head (ap (option_map turn_head) (sym at ∙ ap (slice_get turns) same) ∙ is))
