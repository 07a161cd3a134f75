-- The readings of a platform never fall, so no turn ends after its reading; and what is in time at a reading is so before.
use Rattle.std.proofs.Common.{◌≡◌, ℕ, zero, suc, ◌+◌, ◌<◌, ◌≤◌, Bool, true, false, List, [], ◌∷◌, ◌++◌, Option, Some, None, IfSome, length, nat_lt, refl, sym, ap, ◌∙◌, ⊎_elim, arith}
use Rattle.std.specs.Prelude.{map, option_map, slice_get}
use Rattle.std.proofs.lemmas.Bool.Decides.{nat_tests}
use Rattle.pt_tags.specs.declared.tag.Tag.{Tag}
use Rattle.pt_types.specs.declared.firing.Done.{Done}
use Rattle.pt_types.specs.declared.firing.Task.{Task}
use Rattle.pt_types.specs.declared.graph.Graph.{Graph}
use Rattle.pt_types.specs.declared.rows.Row.{Row}
use Rattle.pt_types.specs.Ports.{when}
use Rattle.pt_semantics.specs.Claiming.{Claims, after_claim}
use Rattle.pt_semantics.specs.Closing.{CanClose, Closes, shut}
use Rattle.pt_semantics.specs.History.{IsLegal, Legal}
use Rattle.pt_semantics.specs.Lists.{Each}
use Rattle.pt_semantics.specs.Platform.{State, opened, raised}
use Rattle.pt_semantics.specs.Turn.{IsTurn, Turn}
use Rattle.pt_semantics.specs.Units.{unit_of}
use Rattle.pt_semantics.proofs.Lookups.{none_some, same_some}
use Rattle.pt_history.specs.Turns.{Dated, all_dated, dated}
use Rattle.pt_history.specs.declared.miss.Miss.{Miss}
use Rattle.pt_monitors.specs.InTime.{EndBy}
use Rattle.pt_monitors.specs.Misses.{miss_past}

-- claims and closing leave the reading as it is
claims_read : (g : Graph) (r : ℕ) (tasks : List Task) (s new : State) → Claims g r s tasks new → new.reading ≡ s.reading
claims_read g r [] s new same = ap (λ (z : State). z.reading) same
claims_read g r (task ∷ tasks) s new all = claims_read g r tasks (after_claim g s (unit_of g task) task) new all.1

closes_read : (g : Graph) (i : ℕ) (s new : State) (r : ℕ) (late : Bool) → Closes g i s r late new → new.reading ≡ s.reading
closes_read g i s new r late how =
    ⊎_elim
    (λ (shuts : CanClose g i s r × (late ≡ false) × (new ≡ shut g i s)). ap (λ (z : State). z.reading) shuts.2)
    (λ (stays : (CanClose g i s r → late ≡ true) × (new ≡ s)). ap (λ (z : State). z.reading) stays.1)
    how

-- after a turn the platform has the turn's last reading
turn_read : (g : Graph) (level : ℕ → ℕ) (i : ℕ) (s : State) (turn : Turn) (late : Bool) (new : State) → IsTurn g level i s turn late new → new.reading ≡ Some turn.last
turn_read g level i s turn late new t =
    ap (λ (z : State). z.reading) t.sends.1 ∙ closes_read g i t.ready t.done turn.last late t.closes ∙ claims_read g turn.last turn.claimed (raised t.got turn.last) t.ready t.claims

-- a reading never falls
up_to : (p first last r : ℕ) → p ≤ first → first ≤ last → last ≤ r → p ≤ r
up_to p first last r a b c = omega (arith, a, b, c)

never_falls : (g : Graph) (level : ℕ → ℕ) (i : ℕ) (turns : List Turn) (s new : State) (p r : ℕ) → Legal g level i s turns new → s.reading ≡ Some p → new.reading ≡ Some r → p ≤ r
never_falls g level i [] s new p r same was is = let e : p ≡ r = same_some p r (sym was ∙ (sym (ap (λ (z : State). z.reading) same) ∙ is)) in omega (arith, e)
never_falls g level i (turn ∷ turns) s new p r (late, mid, t, last, rest) was is =
    up_to p turn.first turn.last r (t.rises p was) t.span (never_falls g level i turns mid new turn.last r rest (turn_read g level i s turn late mid t) is)

turns_end : (g : Graph) (level : ℕ → ℕ) (i : ℕ) (turns : List Turn) (s new : State) (r : ℕ) → Legal g level i s turns new → new.reading ≡ Some r → EndBy r turns
turns_end g level i [] s new r same is = tt
turns_end g level i (turn ∷ turns) s new r (late, mid, t, last, rest) is =
    (never_falls g level i turns mid new turn.last r rest (turn_read g level i s turn late mid t) is, turns_end g level i turns mid new r rest is)

pub ends_by_reading : (g : Graph) (level : ℕ → ℕ) (i : ℕ) (rows : ℕ → List Row) (turns : List Turn) (s : State) (reading : Option ℕ) → IsLegal g level i rows turns s → s.reading ≡ reading → IfSome reading (λ r. EndBy r turns)
ends_by_reading g level i rows turns s None legal is = tt
ends_by_reading g level i rows turns s (Some r) legal is = turns_end g level i turns (opened g i rows) s r legal.leads is

-- what is no miss at a reading is none before it
not_past : (limit reading : ℕ) (m : Miss) → when (nat_lt limit reading) (Some m) ≡ None → reading ≤ limit
not_past limit reading m none = by_test (nat_lt limit reading) refl none
  where
    by_test : (b : Bool) → nat_lt limit reading ≡ b → when b (Some m) ≡ None → reading ≤ limit
    by_test true e none = absurd (none_some m (sym none))
    by_test false e none = grind (arith, nat_tests)

in_time : (limit reading : ℕ) (m : Miss) → reading ≤ limit → when (nat_lt limit reading) (Some m) ≡ None
in_time limit reading m le = let no : nat_lt limit reading ≡ false = grind (arith, nat_tests) in rw no refl

before : (reading latest actor : ℕ) (tag : Tag) (slack : ℕ) → reading ≤ latest → miss_past latest actor tag slack ≡ None → miss_past reading actor tag slack ≡ None
before reading latest actor tag slack le none =
    let most = not_past (tag.time + slack) latest (record { actor = actor; tag = tag; reading = latest; limit = tag.time + slack }) none in
    in_time (tag.time + slack) reading (record { actor = actor; tag = tag; reading = reading; limit = tag.time + slack }) (omega (arith, le, most))

each_both : {X : Type 0} (P : X → Type 0) (xs ys : List X) → Each P xs → Each P ys → Each P (xs ++ ys)
each_both P [] ys left right = right
each_both P (x ∷ xs) ys left right = (left.0, each_both P xs ys left.1 right)

dated_by : (r last : ℕ) (dones : List Done) → last ≤ r → Each (λ (d : Dated). d.reading ≤ r) (map (λ (done : Done). record { reading = last; done = done }) dones)
dated_by r last [] le = tt
dated_by r last (done ∷ dones) le = (le, dated_by r last dones le)

all_by : (r : ℕ) (turns : List Turn) → EndBy r turns → Each (λ (d : Dated). d.reading ≤ r) (all_dated turns)
all_by r [] by = tt
all_by r (turn ∷ turns) by = each_both (λ (d : Dated). d.reading ≤ r) (dated turn) (all_dated turns) (dated_by r turn.last turn.posted by.0) (all_by r turns by.1)

each_at : {X Y : Type 0} (P : X → Type 0) (f : X → Y) (y : Y) (xs : List X) (n : ℕ) → ((x : X) → P x → f x ≡ y) → n < length xs → Each P xs → option_map f (slice_get xs n) ≡ Some y
each_at P f y [] n so lt each = absurd (omega (arith, lt))
each_at P f y (x ∷ xs) zero so lt each = ap Some (so x each.0)
each_at P f y (x ∷ xs) (suc n) so lt each = each_at P f y xs n so (omega (arith, lt)) each.1

-- a result is no miss if it is none at a reading that no turn is past
pub no_later : (turns : List Turn) (n latest actor : ℕ) (tag : Tag) (slack : ℕ) → n < length (all_dated turns) → EndBy latest turns → miss_past latest actor tag slack ≡ None
    → option_map (λ (d : Dated). miss_past d.reading actor tag slack) (slice_get (all_dated turns) n) ≡ Some None
no_later turns n latest actor tag slack lt by none =
    each_at (λ (d : Dated). d.reading ≤ latest) (λ (d : Dated). miss_past d.reading actor tag slack) None (all_dated turns) n (λ d le. before d.reading latest actor tag slack le none) lt (all_by latest turns by)
