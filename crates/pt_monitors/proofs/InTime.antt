-- Results that were posted in time, and turns of which no result is a miss.
use Rattle.std.proofs.Common.{◌≡◌, ℕ, zero, suc, ◌+◌, ◌≤◌, List, [], ◌∷◌, ◌++◌, Some, length, take, refl, sym, ap, ap₂, subst, ◌∙◌, arith}
use Rattle.std.specs.Prelude.{filter_map, flat_map, map, option_map, slice_get, unwrap_or}
use Rattle.std.specs.List.{cons_option}
use Rattle.std.proofs.lemmas.List.{append-nil, take_all}
use Rattle.pt_types.specs.declared.firing.Done.{Done}
use Rattle.pt_types.specs.declared.graph.Graph.{Graph}
use Rattle.pt_semantics.specs.Lists.{Each}
use Rattle.pt_semantics.specs.Turn.{Turn}
use Rattle.pt_semantics.proofs.Lookups.{none_some, same_some}
use Rattle.pt_history.specs.Turns.{all_dated, dated}
use Rattle.pt_history.specs.declared.miss.Miss.{Miss}
use Rattle.pt_monitors.specs.InTime.{AreInTime, IsInTime, HasNoMiss}
use Rattle.pt_monitors.specs.Misses.{AppendsMisses, miss_of_message, miss_of_result, missed_of}

none_before : {X : Type 0} (P : X → Type 0) (xs : List X) → Each P (take zero xs)
none_before P [] = tt
none_before P (x ∷ xs) = tt

each_suc : {X : Type 0} (P : X → Type 0) (xs : List X) (n : ℕ) → ((x : X) → slice_get xs n ≡ Some x → P x) → Each P (take n xs) → Each P (take (suc n) xs)
each_suc P [] n at so = tt
each_suc P (x ∷ xs) zero at so = (at x refl, none_before P xs)
each_suc P (x ∷ xs) (suc n) at so = (so.0, each_suc P xs n at so.1)

-- one result more
pub in_time_begins : (g : Graph) (turns : List Turn) → Each (IsInTime g) (take 0 (all_dated turns))
in_time_begins g turns = none_before (IsInTime g) (all_dated turns)

pub in_time_next : (g : Graph) (turns : List Turn) (n : ℕ) → HasNoMiss g (slice_get (all_dated turns) n) → Each (IsInTime g) (take n (all_dated turns)) → Each (IsInTime g) (take (n + 1) (all_dated turns))
in_time_next g turns n at so = let next : suc n ≡ n + 1 = omega arith in subst (λ k. Each (IsInTime g) (take k (all_dated turns))) next (each_suc (IsInTime g) (all_dated turns) n at so)

pub in_time_all : (g : Graph) (turns : List Turn) (n : ℕ) → length (all_dated turns) ≤ n → Each (IsInTime g) (take n (all_dated turns)) → AreInTime g turns
in_time_all g turns n past so = subst (Each (IsInTime g)) (take_all n (all_dated turns) past) so

each_left : {X : Type 0} (P : X → Type 0) (xs ys : List X) → Each P (xs ++ ys) → Each P xs
each_left P [] ys e = tt
each_left P (x ∷ xs) ys e = (e.0, each_left P xs ys e.1)

each_right : {X : Type 0} (P : X → Type 0) (xs ys : List X) → Each P (xs ++ ys) → Each P ys
each_right P [] ys e = e
each_right P (x ∷ xs) ys e = each_right P xs ys e.1

no_miss : (g : Graph) (r : ℕ) (dones : List Done) → Each (IsInTime g) (map (λ (done : Done). record { reading = r; done = done }) dones) → filter_map (miss_of_result g r) dones ≡ []
no_miss g r [] e = refl
no_miss g r (d ∷ ds) e = ap₂ (λ o l. cons_option o l) e.0 (no_miss g r ds e.1)

-- so no results' misses are appended for a turn
pub still : (g : Graph) (turns : List Turn) (k : ℕ) (old : List Miss) → AreInTime g turns → AppendsMisses g (slice_get turns k) (unwrap_or (option_map (λ (turn : Turn). turn.posted) (slice_get turns k)) []) old old
still g [] k old e = λ reading is. absurd (none_some reading is)
still g (x ∷ xs) zero old e = λ reading is.
    sym (append-nil old)
    ∙ ap (λ l. old ++ l) (sym (no_miss g x.last x.posted (each_left (IsInTime g) (dated x) (all_dated xs) e)))
    ∙ ap (λ r. old ++ filter_map (miss_of_result g r) x.posted) (same_some x.last reading is)
still g (x ∷ xs) (suc k) old e = still g xs k old (each_right (IsInTime g) (dated x) (all_dated xs) e)

both_empty : {X : Type 0} (xs ys : List X) → xs ++ ys ≡ [] → (xs ≡ []) × (ys ≡ [])
both_empty [] ys none = (refl, none)
both_empty (x ∷ xs) ys none = absurd (omega (arith, ap length none))

-- and without messages there are no misses
pub nothing_missed : (g : Graph) (turns : List Turn) → AreInTime g turns → flat_map (λ (turn : Turn). turn.sent) turns ≡ [] → missed_of g turns ≡ []
nothing_missed g [] e none = refl
nothing_missed g (x ∷ xs) e none =
    let parts = both_empty x.sent (flat_map (λ (turn : Turn). turn.sent) xs) none in
    ap₂ (λ a b. a ++ b)
    (ap₂ (λ a b. a ++ b) (no_miss g x.last x.posted (each_left (IsInTime g) (dated x) (all_dated xs) e)) (ap (filter_map (miss_of_message g x.last)) parts.0))
    (nothing_missed g xs (each_right (IsInTime g) (dated x) (all_dated xs) e) parts.1)
