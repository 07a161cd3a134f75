-- The results with given numbers: a number names one claim.
use Rattle.std.proofs.Common.{◌≡◌, ℕ, suc, ◌<◌, ◌≤◌, List, [], ◌∷◌, Option, Some, None, length, map, slice_get, refl, sym, ap, ap₂, subst, ◌∙◌, ⊎_elim, arith}
use Rattle.std.proofs.lemmas.Option.{slice_get_within}
use Rattle.pt_types.specs.declared.graph.Graph.{Graph}
use Rattle.pt_types.specs.declared.graph.Unit.{Unit}
use Rattle.pt_types.specs.declared.firing.Done.{Done}
use Rattle.pt_types.specs.declared.firing.Task.{Task}
use Rattle.pt_types.specs.Lookups.{kind_of}
use Rattle.pt_semantics.specs.Firing.{fired}
use Rattle.pt_semantics.specs.Lists.{Each, IsIn}
use Rattle.pt_semantics.specs.Platform.{State, put_busy}
use Rattle.pt_semantics.specs.Posting.{Posts, after_post}
use Rattle.pt_semantics.specs.Units.{unit_of}
use Rattle.pt_semantics.proofs.Floor.{put_none_found}
use Rattle.pt_semantics.proofs.Lookups.{same_some}
use Rattle.pt_turn.specs.Posts.Posted.{AreDone, ArePosted, IsDone}
use Rattle.pt_audit.specs.Remaking.Steps.{AreOf}
use Rattle.pt_audit.proofs.Remaking.Tidy.{IsTidy}

-- the number of the claim that a result is of
abbrev pub number_of : Done → ℕ
number_of d = d.task.number

-- a result of an open claim
abbrev pub IsOfOpen : Graph → State → Done → Type 0
IsOfOpen g s d = (s.busy (unit_of g d.task) ≡ Some d.task) × IsDone g d

was_open : (g : Graph) (s : State) (x : Done) (ds : List Done) → Each (IsOfOpen g (after_post g s x)) ds → Each (IsOfOpen g s) ds
was_open g s x [] h = tt
was_open g s x (d ∷ ds) h = ((put_none_found s.busy (unit_of g x.task) (unit_of g d.task) d.task h.0.0, h.0.1), was_open g s x ds h.1)

pub posts_open : (g : Graph) (ds : List Done) (s new : State) → Posts g s ds new → Each (IsOfOpen g s) ds
posts_open g [] s new h = tt
posts_open g (d ∷ ds) s new (busy, result, rest) = ((busy, result), was_open g s d ds (posts_open g ds (after_post g s d) new rest))

same_done : (g : Graph) (d e : Done) → d.task ≡ e.task → IsDone g d → IsDone g e → d ≡ e
same_done g d e same hd he =
    let result : d.fired ≡ e.fired = hd ∙ ap (λ (t : Task). fired (kind_of g t.actor) t.state t.inputs) same ∙ sym he in
    λ i. record { task = same i; fired = result i }

-- the results of the claims with these numbers
rest_of : (claims : List Task) (n : ℕ) (numbers : List ℕ) (d : Done) (dones : List Done) → AreOf claims (n ∷ numbers) (d ∷ dones) → AreOf claims numbers dones
rest_of claims n numbers d dones h = record {
  count = let c : suc (length dones) ≡ suc (length numbers) = h.count in omega (arith, c);
  each = λ k number at. h.each (suc k) number at;
}

first_of_it : (claims : List Task) (n : ℕ) (numbers : List ℕ) (d : Done) (dones : List Done) → AreOf claims (n ∷ numbers) (d ∷ dones) → slice_get claims n ≡ Some d.task
first_of_it claims n numbers d dones h =
    let one = h.each 0 n refl in
    let same : d ≡ one.0 = same_some d one.0 one.1 in
    one.2 ∙ ap (λ (z : Done). Some z.task) (sym same)

-- these results are the ones that were posted, if they are of the same claims
pub dones_are : (g : Graph) (level : ℕ → ℕ) (i : ℕ) (claims : List Task) (s : State) (ds dones : List Done) → IsTidy g level i claims s → Each (IsOfOpen g s) ds → AreOf claims (map number_of ds) dones → AreDone g dones → dones ≡ ds
dones_are g level i claims s [] [] tidy of are done = refl
dones_are g level i claims s [] (e ∷ dones) tidy of are done = absurd (none (length dones) are.count)
  where
    none : (n : ℕ) → suc n ≡ 0 → ⊥
    none n e = omega (arith, e)
dones_are g level i claims s (d ∷ ds) [] tidy of are done = absurd (none (length (map number_of ds)) are.count)
  where
    none : (n : ℕ) → 0 ≡ suc n → ⊥
    none n e = omega (arith, e)
dones_are g level i claims s (d ∷ ds) (e ∷ dones) tidy of are done =
    let task : e.task ≡ d.task = same_some e.task d.task (sym (first_of_it claims d.task.number (map number_of ds) e dones are) ∙ tidy.claims (unit_of g d.task) d.task of.0.0) in
    ap₂ (λ (x : Done) xs. x ∷ xs) (same_done g e d task done.0 of.0.1) (dones_are g level i claims s ds dones tidy of.1 (rest_of claims d.task.number (map number_of ds) e dones are) done.1)

-- two lists of results of open claims with the same numbers are the same
pub same_numbers : (g : Graph) (level : ℕ → ℕ) (i : ℕ) (claims : List Task) (s : State) (ds es : List Done) → IsTidy g level i claims s → Each (IsOfOpen g s) ds → Each (IsOfOpen g s) es → map number_of ds ≡ map number_of es → ds ≡ es
same_numbers g level i claims s [] [] tidy hd he same = refl
same_numbers g level i claims s [] (e ∷ es) tidy hd he same = cc
same_numbers g level i claims s (d ∷ ds) [] tidy hd he same = cc
same_numbers g level i claims s (d ∷ ds) (e ∷ es) tidy hd he same =
    let number : d.task.number ≡ e.task.number = cc in
    let rest : map number_of ds ≡ map number_of es = cc in
    let task : d.task ≡ e.task = same_some d.task e.task (sym (tidy.claims (unit_of g d.task) d.task hd.0.0) ∙ ap (slice_get claims) number ∙ tidy.claims (unit_of g e.task) e.task he.0.0) in
    ap₂ (λ (x : Done) xs. x ∷ xs) (same_done g d e task hd.0.1 he.0.1) (same_numbers g level i claims s ds es tidy hd.1 he.1 rest)

-- the numbers of results
pub numbers_are : (g : Graph) (level : ℕ → ℕ) (i : ℕ) (claims : List Task) (s : State) (numbers : List ℕ) (dones : List Done) → IsTidy g level i claims s → AreOf claims numbers dones → numbers ≡ map number_of dones
numbers_are g level i claims s [] [] tidy are = refl
numbers_are g level i claims s [] (d ∷ dones) tidy are = absurd (none (length dones) are.count)
  where
    none : (n : ℕ) → suc n ≡ 0 → ⊥
    none n e = omega (arith, e)
numbers_are g level i claims s (n ∷ numbers) [] tidy are = absurd (none (length numbers) are.count)
  where
    none : (n : ℕ) → 0 ≡ suc n → ⊥
    none n e = omega (arith, e)
numbers_are g level i claims s (n ∷ numbers) (d ∷ dones) tidy are =
    ap₂ (λ (x : ℕ) xs. x ∷ xs) (sym (tidy.numbers n d.task (first_of_it claims n numbers d dones are))) (numbers_are g level i claims s numbers dones tidy (rest_of claims n numbers d dones are))

-- an open claim has a number below that of all claims
pub number_below : (g : Graph) (level : ℕ → ℕ) (i : ℕ) (claims : List Task) (s : State) (ds : List Done) (number : ℕ) → IsTidy g level i claims s → Each (IsOfOpen g s) ds → IsIn number (map number_of ds) → number < length claims
number_below g level i claims s [] number tidy of m = absurd m
number_below g level i claims s (d ∷ ds) number tidy of m =
    ⊎_elim
    (λ (here : number ≡ d.task.number). subst (λ n. n < length claims) (sym here) (slice_get_within claims d.task.number d.task (tidy.claims (unit_of g d.task) d.task of.0.0)))
    (λ (later : IsIn number (map number_of ds)). number_below g level i claims s ds number tidy of.1 later)
    m

-- of results that can all be posted, all are
pub all_posted : (g : Graph) (ds posted : List Done) (s new : State) → Posts g s ds new → ArePosted g s.busy ds posted → posted ≡ ds
all_posted g [] posted s new h are = are
all_posted g (d ∷ ds) posted s new (busy, result, rest) are =
    ⊎_elim
    (λ (yes : (s.busy (unit_of g d.task) ≡ Some d.task) × (more : List Done) × (posted ≡ d ∷ more) × ArePosted g (put_busy s.busy (unit_of g d.task) None) ds more).
    yes.2 ∙ ap (λ xs. d ∷ xs) (all_posted g ds yes.1 (after_post g s d) new rest yes.3))
    (λ (no : (s.busy (unit_of g d.task) ≡ Some d.task → ⊥) × ArePosted g s.busy ds posted). absurd (no.0 busy))
    are

few_posted : (g : Graph) (busy : Unit → Option Task) (ds posted : List Done) → ArePosted g busy ds posted → length posted ≤ length ds
few_posted g busy [] posted are = let n : length posted ≡ 0 = ap length are in omega (arith, n)
few_posted g busy (d ∷ ds) posted are =
    ⊎_elim
    (λ (yes : (busy (unit_of g d.task) ≡ Some d.task) × (more : List Done) × (posted ≡ d ∷ more) × ArePosted g (put_busy busy (unit_of g d.task) None) ds more).
    let n : length posted ≡ suc (length yes.1) = ap length yes.2 in
    let few : length yes.1 ≤ length ds = few_posted g (put_busy busy (unit_of g d.task) None) ds yes.1 yes.3 in
    omega (arith, n, few))
    (λ (no : (busy (unit_of g d.task) ≡ Some d.task → ⊥) × ArePosted g busy ds posted). let few : length posted ≤ length ds = few_posted g busy ds posted no.1 in omega (arith, few))
    are

-- if as many results were posted as were given, they were all posted
pub posted_by_count : (g : Graph) (busy : Unit → Option Task) (ds posted : List Done) → ArePosted g busy ds posted → length posted ≡ length ds → posted ≡ ds
posted_by_count g busy [] posted are count = are
posted_by_count g busy (d ∷ ds) posted are count =
    ⊎_elim
    (λ (yes : (busy (unit_of g d.task) ≡ Some d.task) × (more : List Done) × (posted ≡ d ∷ more) × ArePosted g (put_busy busy (unit_of g d.task) None) ds more).
    let n : length posted ≡ suc (length yes.1) = ap length yes.2 in
    let fewer : length yes.1 ≡ length ds = omega (arith, n, count) in
    yes.2 ∙ ap (λ xs. d ∷ xs) (posted_by_count g (put_busy busy (unit_of g d.task) None) ds yes.1 yes.3 fewer))
    (λ (no : (busy (unit_of g d.task) ≡ Some d.task → ⊥) × ArePosted g busy ds posted).
    let few : length posted ≤ length ds = few_posted g busy ds posted no.1 in
    absurd (omega (arith, few, count)))
    are
