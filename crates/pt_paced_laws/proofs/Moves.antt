-- A turn leaves less to do on its platform, or makes no move.
use Rattle.std.proofs.Common.{◌≡◌, ℕ, zero, suc, ◌+◌, ◌-◌, ◌<◌, ◌≤◌, ◌⊎◌, ◌≢◌, Bool, true, false, if◌then◌else◌, List, [], ◌∷◌, ◌++◌, None, length, map, arith, refl, sym, ap, subst, ◌∙◌, inl, inr, ⊎_elim, length-append, append-nil}
use Rattle.std.specs.List.{flat_map, range_with_len}
use Rattle.std.proofs.lemmas.Bool.{and_from, cases_lt, false≢true}
use Rattle.std.proofs.lemmas.Grind.{flat_map-append}
use Rattle.pt_types.specs.declared.graph.Graph.{Graph}
use Rattle.pt_types.specs.declared.graph.Unit.{Unit}
use Rattle.pt_types.specs.declared.rows.Row.{Row}
use Rattle.pt_types.specs.declared.rows.RowAt.{RowAt}
use Rattle.pt_types.specs.declared.firing.OnLink.{OnLink}
use Rattle.pt_types.specs.declared.firing.Task.{Task}
use Rattle.pt_semantics.specs.Closing.{on_link}
use Rattle.pt_semantics.specs.Counts.{sum_below}
use Rattle.pt_semantics.specs.Entering.{all_due, due, not_due}
use Rattle.pt_semantics.specs.Linked.{all_sent, all_taken}
use Rattle.pt_semantics.specs.Lists.{Each, IsIn}
use Rattle.pt_semantics.specs.Platform.{State}
use Rattle.pt_semantics.specs.Turn.{Turn, is_empty, is_quiet}
use Rattle.pt_semantics.specs.Visits.{VisitRecord}
use Rattle.pt_laws.proofs.Onward.{cases_same}
use Rattle.pt_laws.proofs.Paces.{in_on_link}
use Rattle.pt_laws.proofs.Rows.{due_split}
use Rattle.pt_laws.proofs.Sums.{sum_le, sum_lt}
use Rattle.pt_paced_laws.proofs.Turns.{Does}

-- what a platform may still do: the claims and the closing left, the rows left, and the messages that it may still send and take
abbrev pub to_do : Graph → State → List Turn → ℕ
to_do g s turns =
    ((g.claims - s.claims) + (if s.closed then 0 else 1))
    + (sum_below (λ a. length (s.left a)) (length g.actors)
    + (sum_below (λ l. (g.claims + 1) - length (all_sent l turns)) (length g.links) + sum_below (λ l. (g.claims + 1) - length (all_taken l turns)) (length g.links)))

-- nothing enters, is taken, claimed or sent
pub record MovesNothing (turn : Turn) : Type 0 where
  pub rows : turn.rows ≡ []
  pub taken : turn.taken ≡ []
  pub claimed : turn.claimed ≡ []
  pub sent : turn.sent ≡ []

-- a turn from s to new without a move
pub record IsStill (s : State) (turn : Turn) (new : State) : Type 0 where
  pub nothing : MovesNothing turn
  pub closed : new.closed ≡ s.closed

-- what is left to do on all platforms
abbrev pub all_to_do : Graph → (ℕ → State) → (ℕ → List Turn) → ℕ
all_to_do g at did = sum_below (λ i. to_do g (at i) (did i)) (length g.platforms)

-- a round in which no platform makes a move
pub record IsStillRound (from : ℕ → State) (ms : List VisitRecord) (to : ℕ → State) : Type 0 where
  pub turns : Each (λ (m : VisitRecord). MovesNothing m.turn) ms
  pub closed : (j : ℕ) → (to j).closed ≡ (from j).closed

-- no claim is open on the n platforms from i on
abbrev pub IsFree : (ℕ → State) → ℕ → ℕ → Type 0
IsFree at n i = (j : ℕ) → i ≤ j → j < n + i → (u : Unit) → (at j).busy u ≡ None

-- each of the first n lists is empty, or one is not
abbrev AllOrOne : {X : Type 0} → (ℕ → List X) → ℕ → Type 0
AllOrOne f n = ((k : ℕ) → k < n → f k ≡ []) ⊎ ((k : ℕ) × (k < n) × (0 < length (f k)))

empty_more : {X : Type 0} (f : ℕ → List X) (n : ℕ) (xs : List X) → f n ≡ xs → AllOrOne f n → AllOrOne f (suc n)
empty_more f n (x ∷ xs) e rest = inr (n, omega arith, subst (λ z. 0 < length z) (sym e) (omega arith))
empty_more f n [] e rest =
    ⊎_elim
    (λ (none : (k : ℕ) → k < n → f k ≡ []). inl (λ k l. ⊎_elim (λ (same : k ≡ n). ap f same ∙ e) (λ (other : k ≢ n). none k (below k n l other)) (cases_same k n)))
    (λ (one : (k : ℕ) × (k < n) × (0 < length (f k))). inr (one.0, wider one.0 n one.1, one.2))
    rest
  where
    below : (k n : ℕ) → k < suc n → k ≢ n → k < n
    below k n l other = ⊎_elim (λ (h : k < n). h) (λ (h : n ≤ k). absurd (other (omega (arith, h, l)))) (cases_lt k n)

    wider : (k n : ℕ) → k < n → k < suc n
    wider k n l = omega (arith, l)

all_empty : {X : Type 0} (f : ℕ → List X) (n : ℕ) → AllOrOne f n
all_empty f zero = inl (λ k l. absurd (omega (arith, l)))
all_empty f (suc n) = empty_more f n (f n) refl (all_empty f n)

-- what is empty at each number joins to nothing
nothing_along : {X : Type 0} (f : ℕ → List X) (n a : ℕ) → ((k : ℕ) → k < a + n → f k ≡ []) → flat_map f (range_with_len a n) ≡ []
nothing_along f zero a none = refl
nothing_along f (suc n) a none =
    ap (λ z. z ++ flat_map f (range_with_len (a + 1) n)) (none a (omega arith))
    ∙ nothing_along f n (a + 1) (λ k l. none k (omega (arith, l)))

-- a row is due or left
due_length : (r : ℕ) (rows : List Row) → length (due r rows) + length (not_due r rows) ≡ length rows
due_length r rows = sym (length-append (due r rows) (not_due r rows)) ∙ ap length (due_split r rows)

-- turns without a move that post nothing are quiet
pub quiet_turns : (ms : List VisitRecord) → Each (λ (m : VisitRecord). MovesNothing m.turn) ms → Each (λ (m : VisitRecord). m.turn.posted ≡ []) ms → Each (λ (m : VisitRecord). is_quiet m.turn ≡ true) ms
quiet_turns [] moves posts = tt
quiet_turns (m ∷ ms) moves posts = (quiet m.turn moves.0 posts.0, quiet_turns ms moves.1 posts.1)
  where
    empty : {X : Type 0} (xs : List X) → xs ≡ [] → is_empty xs ≡ true
    empty xs e = ap is_empty e

    quiet : (turn : Turn) → MovesNothing turn → turn.posted ≡ [] → is_quiet turn ≡ true
    quiet turn k posted =
        and_from _ _ (and_from _ _ (and_from _ _ (and_from _ _ (empty turn.posted posted) (empty turn.rows k.rows)) (empty turn.taken k.taken)) (empty turn.claimed k.claimed)) (empty turn.sent k.sent)

-- a number does not rise, and it falls unless P
abbrev pub Falls : Type 0 → ℕ → ℕ → Type 0
Falls P before after = (after ≤ before) × (P ⊎ (after < before))

-- and so do two together
pub both_fall : (P Q : Type 0) (a b c d : ℕ) → Falls P a b → Falls Q c d → Falls (P × Q) (a + c) (b + d)
both_fall P Q a b c d (le, one) (le2, other) = (
  omega (arith, le, le2),
  ⊎_elim
      (λ (p : P). ⊎_elim (λ (q : Q). inl (p, q)) (λ (lt : d < c). inr (omega (arith, le, lt))) other)
      (λ (lt : b < a). inr (omega (arith, lt, le2)))
      one,
)

-- one step after another
pub then_falls : (P Q R : Type 0) (a b c : ℕ) → (P → Q → R) → Falls P a b → Falls Q b c → Falls R a c
then_falls P Q R a b c join (le, one) (le2, other) = (
  omega (arith, le, le2),
  ⊎_elim
      (λ (p : P). ⊎_elim (λ (q : Q). inl (join p q)) (λ (lt : c < b). inr (omega (arith, le, lt))) other)
      (λ (lt : b < a). inr (omega (arith, lt, le2)))
      one,
)

-- what falls on one platform and stays on the others falls in all
pub one_falls : (P : Type 0) (before after : ℕ → ℕ) (n i : ℕ) → i < n → ((j : ℕ) → j ≢ i → after j ≡ before j) → Falls P (before i) (after i) → Falls P (sum_below before n) (sum_below after n)
one_falls P before after n i lt others (le, one) = (
  sum_le after before n all,
  ⊎_elim (λ (p : P). inl p) (λ (less : after i < before i). inr (sum_lt after before n i all lt less)) one,
)
  where
    all : (j : ℕ) → after j ≤ before j
    all j = ⊎_elim (λ (e : j ≡ i). subst (λ k. after k ≤ before k) (sym e) le) (λ (ne : j ≢ i). let e = others j ne in omega (arith, e)) (cases_same j i)

-- where a row enters, fewer are left
rows_fall : (g : Graph) (r : ℕ) (left new : ℕ → List Row) → ((a : ℕ) → new a ≡ not_due r (left a)) → Falls (all_due g r left ≡ []) (sum_below (λ a. length (left a)) (length g.actors)) (sum_below (λ a. length (new a)) (length g.actors))
rows_fall g r left new is = (
  sum_le (λ a. length (new a)) (λ a. length (left a)) (length g.actors) fewer,
  ⊎_elim
      (λ (none : (a : ℕ) → a < length g.actors → due r (left a) ≡ []).
      inl (nothing_along (λ a. map {B = RowAt} (λ (row : Row). record { sensor = a; row = row }) (due r (left a))) (length g.actors) 0
      (λ a l. ap (map {B = RowAt} (λ (row : Row). record { sensor = a; row = row })) (none a (omega (arith, l))))))
      (λ (one : (a : ℕ) × (a < length g.actors) × (0 < length (due r (left a)))).
      inr (sum_lt (λ a. length (new a)) (λ a. length (left a)) (length g.actors) one.0 fewer one.1 (less one.0 one.2)))
      (all_empty (λ a. due r (left a)) (length g.actors)),
)
  where
    fewer : (a : ℕ) → length (new a) ≤ length (left a)
    fewer a = let h = due_length r (left a) in let e : length (new a) ≡ length (not_due r (left a)) = ap length (is a) in omega (arith, h, e)

    less : (a : ℕ) → 0 < length (due r (left a)) → length (new a) < length (left a)
    less a some = let h = due_length r (left a) in let e : length (new a) ≡ length (not_due r (left a)) = ap length (is a) in omega (arith, h, e, some)

-- what was sent and taken on a link with one turn more
sent_more : (l : ℕ) (turns : List Turn) (turn : Turn) → length (all_sent l (turns ++ turn ∷ [])) ≡ length (all_sent l turns) + length (on_link l turn.sent)
sent_more l turns turn = ap length (flat_map-append (λ (x : Turn). on_link l x.sent) turns (turn ∷ []) ∙ ap (λ z. all_sent l turns ++ z) (append-nil (on_link l turn.sent))) ∙ length-append (all_sent l turns) (on_link l turn.sent)

taken_more : (l : ℕ) (turns : List Turn) (turn : Turn) → length (all_taken l (turns ++ turn ∷ [])) ≡ length (all_taken l turns) + length (on_link l turn.taken)
taken_more l turns turn = ap length (flat_map-append (λ (x : Turn). on_link l x.taken) turns (turn ∷ []) ∙ ap (λ z. all_taken l turns ++ z) (append-nil (on_link l turn.taken))) ∙ length-append (all_taken l turns) (on_link l turn.taken)

-- each link with one of these messages is a link of the graph, and has few messages
pub record AreFew (g : Graph) (ms : List OnLink) (count : ℕ → ℕ) : Type 0 where
  pub link : (m : OnLink) → IsIn m ms → m.link < length g.links
  pub few : (m : OnLink) → IsIn m ms → count m.link ≤ (g.claims + 1)

-- where a message moves, fewer may follow
messages_fall : (g : Graph) (ms : List OnLink) (before after : ℕ → ℕ) → ((l : ℕ) → after l ≡ before l + length (on_link l ms)) → AreFew g ms after →
    Falls (ms ≡ []) (sum_below (λ l. (g.claims + 1) - before l) (length g.links)) (sum_below (λ l. (g.claims + 1) - after l) (length g.links))
messages_fall g ms before after is few = (sum_le (λ l. (g.claims + 1) - after l) (λ l. (g.claims + 1) - before l) (length g.links) fewer, by_list ms refl)
  where
    fewer : (l : ℕ) → (g.claims + 1) - after l ≤ (g.claims + 1) - before l
    fewer l = let e = is l in omega (arith, e)

    less : (l : ℕ) → 0 < length (on_link l ms) → after l ≤ (g.claims + 1) → (g.claims + 1) - after l < (g.claims + 1) - before l
    less l some le = let e = is l in omega (arith, e, some, le)

    some_in : {X : Type 0} (x : X) (xs : List X) → IsIn x xs → 0 < length xs
    some_in x [] m = absurd m
    some_in x (y ∷ xs) m = omega arith

    by_list : (xs : List OnLink) → ms ≡ xs → (ms ≡ []) ⊎ (sum_below (λ l. (g.claims + 1) - after l) (length g.links) < sum_below (λ l. (g.claims + 1) - before l) (length g.links))
    by_list [] e = inl e
    by_list (m ∷ xs) e =
        let mem : IsIn m ms = subst (IsIn m) (sym e) (inl refl) in
        inr (sum_lt (λ l. (g.claims + 1) - after l) (λ l. (g.claims + 1) - before l) (length g.links) m.link fewer (few.link m mem) (less m.link (some_in m.message (on_link m.link ms) (in_on_link m ms mem)) (few.few m mem)))

-- with a claim, fewer are left
claims_fall : (g : Graph) (tasks : List Task) (before after : ℕ) → after ≡ length tasks + before → after ≤ g.claims → Falls (tasks ≡ []) (g.claims - before) (g.claims - after)
claims_fall g [] before after e le = (omega (arith, e), inl refl)
claims_fall g (task ∷ tasks) before after e le = (omega (arith, e), inr (omega (arith, e, le)))

-- a platform closes once
closings_fall : (before after : Bool) → (before ≡ true → after ≡ true) → Falls (after ≡ before) (if before then 0 else 1) (if after then 0 else 1)
closings_fall true true stays = (omega arith, inl refl)
closings_fall true false stays = (absurd (false≢true (stays refl)), inl (stays refl))
closings_fall false true stays = (omega arith, inr (omega arith))
closings_fall false false stays = (omega arith, inl refl)

-- a turn with a move leaves less to do
pub turn_falls : (g : Graph) (s new : State) (turn : Turn) (turns : List Turn) → Does g s turn new → AreFew g turn.sent (λ l. length (all_sent l (turns ++ turn ∷ []))) → AreFew g turn.taken (λ l. length (all_taken l (turns ++ turn ∷ []))) →
    Falls (IsStill s turn new) (to_do g s turns) (to_do g new (turns ++ turn ∷ []))
turn_falls g s new turn turns does sent taken = (
  all.0,
  ⊎_elim
      (λ (still : ((turn.claimed ≡ []) × (new.closed ≡ s.closed)) × ((all_due g turn.last s.left ≡ []) × ((turn.sent ≡ []) × (turn.taken ≡ [])))).
      inl (record { nothing = record { rows = does.rows ∙ still.1.0; taken = still.1.1.1; claimed = still.0.0; sent = still.1.1.0 }; closed = still.0.1 }))
      (λ (less : to_do g new (turns ++ turn ∷ []) < to_do g s turns). inr less)
      all.1,
)
  where
    all : Falls (((turn.claimed ≡ []) × (new.closed ≡ s.closed)) × ((all_due g turn.last s.left ≡ []) × ((turn.sent ≡ []) × (turn.taken ≡ [])))) (to_do g s turns) (to_do g new (turns ++ turn ∷ []))
    all =
        both_fall _ _ _ _ _ _
        (both_fall _ _ _ _ _ _ (claims_fall g turn.claimed s.claims new.claims does.claims does.few) (closings_fall s.closed new.closed does.stays))
        (both_fall _ _ _ _ _ _ (rows_fall g turn.last s.left new.left does.left)
        (both_fall _ _ _ _ _ _
        (messages_fall g turn.sent (λ l. length (all_sent l turns)) (λ l. length (all_sent l (turns ++ turn ∷ []))) (λ l. sent_more l turns turn) sent)
        (messages_fall g turn.taken (λ l. length (all_taken l turns)) (λ l. length (all_taken l (turns ++ turn ∷ []))) (λ l. taken_more l turns turn) taken)))
