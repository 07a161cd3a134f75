-- Quiet turns that join, and the turns after that.
use Rattle.std.proofs.Common.{rules, ◌≡◌, ℕ, zero, suc, ◌+◌, ◌^◌, ◌<◌, ◌≤◌, ◌&&◌, if◌then◌else◌, Bool, true, false, List, [], ◌∷◌, ◌++◌, length, get_or, nat_lt, Option, Some, take, set, refl, sym, ap, ap₂, ◌∙◌, arith, add-one}
use Rattle.std.specs.Prelude.{option_map, slice_get}
use Rattle.std.proofs.lemmas.Bool.{and_from, false≢true}
use Rattle.pt_types.specs.declared.firing.Done.{Done}
use Rattle.pt_types.specs.declared.firing.OnLink.{OnLink}
use Rattle.pt_types.specs.declared.firing.Task.{Task}
use Rattle.pt_types.specs.declared.rows.RowAt.{RowAt}
use Rattle.pt_semantics.specs.Turn.{Turn, is_empty, is_quiet, joined}
use Rattle.pt_semantics.specs.Kept.{settled}
use Rattle.pt_history.specs.declared.head.Head.{Head}
use Rattle.pt_history.specs.Keeping.{IsQuietAt, Joins, Lists, turn_at, turns_from}
use Rattle.pt_history.specs.Turns.{quiet}
use Rattle.pt_history.proofs.Reading.{get_turn, length-turns}

-- a quiet turn has empty lists
quiet_lists : (first last count : ℕ) (ps : List Done) (rs : List RowAt) (ts : List OnLink) (cs : List Task) (ss : List OnLink) → (is_empty ps && is_empty rs && is_empty ts && is_empty cs && is_empty ss) ≡ true
    → (let turn : Turn = record { first = first; last = last; count = count; posted = ps; rows = rs; taken = ts; claimed = cs; sent = ss } in turn ≡ quiet first last count)
quiet_lists first last count [] [] [] [] [] q = refl
quiet_lists first last count (p ∷ ps) rs ts cs ss q = absurd (false≢true q)
quiet_lists first last count [] (r ∷ rs) ts cs ss q = absurd (false≢true q)
quiet_lists first last count [] [] (t ∷ ts) cs ss q = absurd (false≢true q)
quiet_lists first last count [] [] [] (c ∷ cs) ss q = absurd (false≢true q)
quiet_lists first last count [] [] [] [] (s ∷ ss) q = absurd (false≢true q)

pub quiet_is : (turn : Turn) → is_quiet turn ≡ true → turn ≡ quiet turn.first turn.last turn.count
quiet_is turn q = quiet_lists turn.first turn.last turn.count turn.posted turn.rows turn.taken turn.claimed turn.sent q

-- the last two turns, by their number
pub settled_at : (turns : List Turn) (n : ℕ) (x y : Turn) → n + 2 ≡ length turns → slice_get turns n ≡ Some x → slice_get turns (suc n) ≡ Some y → settled turns ≡ take n turns ++ settled (x ∷ y ∷ [])
settled_at [] n x y e ex ey = absurd (omega arith)
settled_at (a ∷ []) n x y e ex ey = absurd (omega arith)
settled_at (a ∷ b ∷ []) zero x y e ex ey = let p : a ≡ x = cc in let q : b ≡ y = cc in ap₂ (λ u v. settled (u ∷ v ∷ [])) p q
settled_at (a ∷ b ∷ []) (suc n) x y e ex ey = absurd (omega arith)
settled_at (a ∷ b ∷ c ∷ rest) zero x y e ex ey = absurd (omega arith)
settled_at (a ∷ b ∷ c ∷ rest) (suc n) x y e ex ey = ap (λ ts. a ∷ ts) (settled_at (b ∷ c ∷ rest) n x y (omega arith) ex ey)

pub take_two : (turns : List Turn) (n : ℕ) (x y : Turn) → n + 2 ≡ length turns → slice_get turns n ≡ Some x → slice_get turns (suc n) ≡ Some y → take n turns ++ x ∷ y ∷ [] ≡ turns
take_two [] n x y e ex ey = absurd (omega arith)
take_two (a ∷ []) n x y e ex ey = absurd (omega arith)
take_two (a ∷ b ∷ []) zero x y e ex ey = let p : x ≡ a = cc in let q : y ≡ b = cc in ap₂ (λ u v. u ∷ v ∷ []) p q
take_two (a ∷ b ∷ c ∷ rest) zero x y e ex ey = absurd (omega arith)
take_two (a ∷ b ∷ rest) (suc n) x y e ex ey = ap (λ ts. a ∷ ts) (take_two (b ∷ rest) n x y (omega arith) ex ey)

pub settled_short : (turns : List Turn) → length turns < 2 → settled turns ≡ turns
settled_short [] h = refl
settled_short (x ∷ []) h = refl
settled_short (x ∷ y ∷ rest) h = absurd (omega arith)

-- what is to be shown only if there are two turns
pub stays_unless : (turns : List Turn) → ((n : ℕ) → n + 2 ≡ length turns → settled turns ≡ turns) → settled turns ≡ turns
stays_unless [] h = refl
stays_unless (x ∷ []) h = refl
stays_unless (x ∷ y ∷ rest) h = h (length rest) (omega arith)

-- where the last two turns do not join, all stay
stays_by : (turns : List Turn) (n : ℕ) → n + 2 ≡ length turns → ((x y : Turn) → slice_get turns n ≡ Some x → slice_get turns (suc n) ≡ Some y → (is_quiet x && is_quiet y && nat_lt (x.count + y.count) (2 ^ 64)) ≡ false) → settled turns ≡ turns
stays_by [] n e h = refl
stays_by (a ∷ []) n e h = refl
stays_by (a ∷ b ∷ []) zero e h = ap (λ (q : Bool). if q then joined a b ∷ [] else a ∷ b ∷ []) (h a b refl refl)
stays_by (a ∷ b ∷ []) (suc n) e h = absurd (omega arith)
stays_by (a ∷ b ∷ c ∷ rest) zero e h = absurd (omega arith)
stays_by (a ∷ b ∷ c ∷ rest) (suc n) e h = ap (λ ts. a ∷ ts) (stays_by (b ∷ c ∷ rest) n (omega arith) h)

-- a turn of which it is known whether it is quiet
quiet_of : (turns : List Turn) (n : ℕ) (x : Turn) (b : Bool) → option_map is_quiet (slice_get turns n) ≡ Some b → slice_get turns n ≡ Some x → is_quiet x ≡ b
quiet_of turns n x b is ex = one (is_quiet x) b (sym (ap (option_map is_quiet) ex) ∙ is)
  where
    one : (a b : Bool) → ◌≡◌ {A = Option Bool} (Some a) (Some b) → a ≡ b
    one a b e = cc

pub stays_first : (turns : List Turn) (n : ℕ) → n + 2 ≡ length turns → option_map is_quiet (slice_get turns n) ≡ Some false → settled turns ≡ turns
stays_first turns n e off = stays_by turns n e (λ x y ex ey. ap (λ q. q && is_quiet y && nat_lt (x.count + y.count) (2 ^ 64)) (quiet_of turns n x false off ex))

pub stays_second : (turns : List Turn) (n : ℕ) → n + 2 ≡ length turns → IsQuietAt turns n → option_map is_quiet (slice_get turns (n + 1)) ≡ Some false → settled turns ≡ turns
stays_second turns n e on off =
    stays_by turns n e
    (λ x y ex ey. ap₂ (λ p q. p && q && nat_lt (x.count + y.count) (2 ^ 64)) (quiet_of turns n x true on ex) (quiet_of turns (n + 1) y false off (ap (slice_get turns) (add-one n) ∙ ey)))

-- two turns that do not join
pub stays : (turns : List Turn) (n : ℕ) (x y : Turn) → n + 2 ≡ length turns → slice_get turns n ≡ Some x → slice_get turns (suc n) ≡ Some y → (is_quiet x && is_quiet y && nat_lt (x.count + y.count) (2 ^ 64)) ≡ false → settled turns ≡ turns
stays turns n x y e ex ey off =
    settled_at turns n x y e ex ey
    ∙ ap (λ (b : Bool). take n turns ++ (if b then joined x y ∷ [] else x ∷ y ∷ [])) off
    ∙ take_two turns n x y e ex ey

-- two turns that do
pub join : (turns : List Turn) (n : ℕ) (x y : Turn) → n + 2 ≡ length turns → slice_get turns n ≡ Some x → slice_get turns (suc n) ≡ Some y → is_quiet x ≡ true → is_quiet y ≡ true → x.count + y.count < 2 ^ 64 → settled turns ≡ take n turns ++ quiet x.first y.last (x.count + y.count) ∷ []
join turns n x y e ex ey qx qy fits =
    let on : (is_quiet x && is_quiet y && nat_lt (x.count + y.count) (2 ^ 64)) ≡ true = and_from (is_quiet x && is_quiet y) (nat_lt (x.count + y.count) (2 ^ 64)) (and_from (is_quiet x) (is_quiet y) qx qy) (less (x.count + y.count) (2 ^ 64) fits) in
    settled_at turns n x y e ex ey
    ∙ ap (λ (b : Bool). take n turns ++ (if b then joined x y ∷ [] else x ∷ y ∷ [])) on
    ∙ ap (λ (t : Turn). take n turns ++ joined x t ∷ []) (quiet_is y qy)
  where
    less : (m n : ℕ) → m < n → nat_lt m n ≡ true
    less m n h = search rules

-- the turns after two heads were changed
two_set : (p : Lists) (i j k n : ℕ) (hs : List Head) (x y : Head) → n + 2 ≡ length hs → j ≡ i + n → k ≡ j + 1 → turns_from p i (set (set hs n x) (suc n) y) ≡ take n (turns_from p i hs) ++ turn_at p j x ∷ turn_at p k y ∷ []
two_set p i j k n [] x y e ej ek = absurd (omega arith)
two_set p i j k zero (a ∷ []) x y e ej ek = absurd (omega arith)
two_set p i j k zero (a ∷ b ∷ []) x y e ej ek =
    let first : i ≡ j = omega arith in
    let second : i + 1 ≡ k = omega arith in
    ap₂ (λ u v. turn_at p u x ∷ turn_at p v y ∷ []) first second
two_set p i j k zero (a ∷ b ∷ c ∷ hs) x y e ej ek = absurd (omega arith)
two_set p i j k (suc n) (a ∷ hs) x y e ej ek = ap (λ ts. turn_at p i a ∷ ts) (two_set p (i + 1) j k n hs x y (omega arith) (omega arith) ek)

-- a turn is quiet whatever its head
quiet_at : (p : Lists) (n : ℕ) (hs : List Head) (h : Head) → n < length hs → IsQuietAt (turns_from p 0 hs) n → turn_at p n h ≡ quiet h.first h.last h.count
quiet_at p n hs h lt is =
    let q : is_quiet (turn_at p n (get_or hs n h)) ≡ true = some (is_quiet (turn_at p n (get_or hs n h))) (sym (ap (option_map is_quiet) (get_turn p n hs h lt)) ∙ is) in
    quiet_is (turn_at p n h) q
  where
    some : (b : Bool) → ◌≡◌ {A = Option Bool} (Some b) (Some true) → b ≡ true
    some b e = cc

pub turns_join : (p : Lists) (n : ℕ) (hs : List Head) (x y : Head) → n + 2 ≡ length hs → IsQuietAt (turns_from p 0 hs) n → IsQuietAt (turns_from p 0 hs) (n + 1) → turns_from p 0 (set (set hs n x) (suc n) y) ≡ take n (turns_from p 0 hs) ++ quiet x.first x.last x.count ∷ quiet y.first y.last y.count ∷ []
turns_join p n hs x y e before last =
    two_set p 0 n (n + 1) n hs x y e (omega arith) refl
    ∙ ap₂ (λ u v. take n (turns_from p 0 hs) ++ u ∷ v ∷ []) (quiet_at p n hs x (omega arith) before) (quiet_at p (n + 1) hs y (omega arith) last)

-- the turn of a head that is read of a number
first_is : (p : Lists) (n : ℕ) (hs : List Head) (x : Head) → n < length hs → x ≡ get_or hs n x → slice_get (turns_from p 0 hs) n ≡ Some (turn_at p n x)
first_is p n hs x lt is = get_turn p n hs x lt ∙ ap (λ h. Some (turn_at p n h)) (sym is)

-- two turns of which 64 bits do not hold how many they are
pub stays_full : (p : Lists) (n : ℕ) (hs : List Head) (x y : Head) → n + 2 ≡ length hs → x ≡ get_or hs n x → y ≡ get_or hs (n + 1) y → 2 ^ 64 ≤ x.count + y.count → settled (turns_from p 0 hs) ≡ turns_from p 0 hs
stays_full p n hs x y e ex ey many =
    let turns = turns_from p 0 hs in
    stays turns n (turn_at p n x) (turn_at p (n + 1) y) (e ∙ sym (length-turns p 0 hs)) (first_is p n hs x (omega arith) ex) (sym (ap (slice_get turns) (add-one n)) ∙ first_is p (n + 1) hs y (omega arith) ey)
    (ap (λ b. is_quiet (turn_at p n x) && is_quiet (turn_at p (n + 1) y) && b) (not_less (x.count + y.count) (2 ^ 64) many) ∙ and_off (is_quiet (turn_at p n x) && is_quiet (turn_at p (n + 1) y)))
  where
    not_less : (m n : ℕ) → n ≤ m → nat_lt m n ≡ false
    not_less m n h = search rules

    and_off : (b : Bool) → (b && false) ≡ false
    and_off true = refl
    and_off false = refl

pub joins_run : (p : Lists) (n count : ℕ) (hs : List Head) (x y : Head) → n + 2 ≡ length hs → x ≡ get_or hs n x → y ≡ get_or hs (n + 1) y → IsQuietAt (turns_from p 0 hs) n → IsQuietAt (turns_from p 0 hs) (n + 1) → count ≡ x.count + y.count → count < 2 ^ 64 → Joins (turns_from p 0 hs) n (record { first = x.first; last = y.last; count = count })
joins_run p n count hs x y e ex ey before last is fits =
    let turns = turns_from p 0 hs in
    let there : slice_get turns n ≡ Some (turn_at p n x) = first_is p n hs x (omega arith) ex in
    let next : slice_get turns (n + 1) ≡ Some (turn_at p (n + 1) y) = first_is p (n + 1) hs y (omega arith) ey in
    record {
      are_last = e ∙ sym (length-turns p 0 hs);
      before = before;
      last = last;
      settles =
          join turns n (turn_at p n x) (turn_at p (n + 1) y) (e ∙ sym (length-turns p 0 hs)) there (sym (ap (slice_get turns) (add-one n)) ∙ next)
          (quiet_of turns n (turn_at p n x) true before there) (quiet_of turns (n + 1) (turn_at p (n + 1) y) true last next) (omega (arith, is))
          ∙ ap (λ k. take n turns ++ quiet x.first y.last k ∷ []) (sym is);
    }
