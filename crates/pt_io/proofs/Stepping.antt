-- A clock that counts to the end stops telling.
use Rattle.std.proofs.Common.{◌≡◌, ℕ, zero, suc, ◌+◌, ◌^◌, ◌<◌, ◌≤◌, ◌⊎◌, ⊎_elim, inl, inr, Bool, true, false, List, Some, None, length, [], ◌∷◌, ◌++◌, refl, sym, ap, ◌∙◌, arith, append_assoc, append-nil, length-append}
use Rattle.std.proofs.lemmas.Bool.{cases_lt}
use Rattle.std.specs.Prelude.{if◌then◌else◌, Option}
use Rattle.pt_io.specs.Clocks.{AreAsAhead, HandedOut, IsAsAhead, ReportsOneMore, first_readings}

pub length-first : (f : ℕ → ℕ) (n : ℕ) → length (first_readings f n) ≡ n
length-first f zero = refl
length-first f (suc n) = omega (arith, length-append (first_readings f n) (f n ∷ []), length-first f n)

pub stops : (f : ℕ → ℕ) (n next : ℕ) (contents : Bool) → 2 ^ 64 ≤ n + 1 → ReportsOneMore (if contents then Some (first_readings f n) else None) next None
stops f n next true full = omega (arith, length-first f n)
stops f n next false full = refl

-- the next reading is the one of its number
pub as_ahead : (f : ℕ → ℕ) (n next : ℕ) (contents : Bool) → (contents ≡ true → next ≡ f n) → IsAsAhead (Some f) (if contents then Some (first_readings f n) else None) next
as_ahead f n next true h = h refl ∙ ap f (sym (length-first f n))
as_ahead f n next false h = tt

pub goes_on : (f : ℕ → ℕ) (n next : ℕ) (contents : Bool) → (contents ≡ true → next ≡ f n) → ReportsOneMore (if contents then Some (first_readings f n) else None) next (if contents then Some (first_readings f (suc n)) else None)
goes_on f n next true h = ap (λ r. first_readings f n ++ r ∷ []) (sym (h refl))
goes_on f n next false h = refl

pub none_handed : (began : Option (List ℕ)) → HandedOut began began []
none_handed None = refl
none_handed (Some before) = sym (append-nil before)

none_some : {X : Type 0} (x : X) → Some x ≡ None → ⊥
none_some x e = cc

-- one reading more was handed out
pub handed_more : (began before now : Option (List ℕ)) (readings : List ℕ) (r : ℕ) → HandedOut began before readings → ReportsOneMore before r now → HandedOut began now (readings ++ r ∷ [])
handed_more None None now readings r h one = one
handed_more None (Some all) now readings r h one = absurd (none_some all h)
handed_more (Some b) None None readings r h one = omega (arith, h, length-append readings (r ∷ []))
handed_more (Some b) None (Some l) readings r h one = absurd (none_some l one)
handed_more (Some b) (Some all) None readings r h one =
    let n : length all ≡ length b + length readings = ap length h ∙ length-append b readings in omega (arith, n, one, length-append readings (r ∷ []))
handed_more (Some b) (Some all) (Some l) readings r h one = one ∙ ap (λ z. z ++ r ∷ []) h ∙ append_assoc b readings (r ∷ [])

first_more : (f : ℕ → ℕ) (readings : List ℕ) (r : ℕ) → readings ≡ first_readings f (length readings) → r ≡ f (length readings) → readings ++ r ∷ [] ≡ first_readings f (length (readings ++ r ∷ []))
first_more f readings r h is =
    let n : length (readings ++ r ∷ []) ≡ suc (length readings) = omega (arith, length-append readings (r ∷ [])) in
    ap (λ z. readings ++ z ∷ []) is ∙ ap (λ z. z ++ f (length readings) ∷ []) h ∙ sym (ap (first_readings f) n)

-- and it is the one fixed ahead
pub ahead_more : (ahead : Option (ℕ → ℕ)) (began before now : Option (List ℕ)) (readings : List ℕ) (r : ℕ) → HandedOut began before readings → AreAsAhead ahead began before readings → IsAsAhead ahead before r → ReportsOneMore before r now → AreAsAhead ahead began now (readings ++ r ∷ [])
ahead_more None began before now readings r h a is one = tt
ahead_more (Some f) began before None readings r h a is one = λ e. tt
ahead_more (Some f) began None (Some l) readings r h a is one = λ e. absurd (none_some l one)
ahead_more (Some f) None (Some all) (Some l) readings r h a is one = λ e. absurd (none_some all h)
ahead_more (Some f) (Some b) (Some all) (Some l) readings r h a is one = λ e. first_more f readings r (a e) (is ∙ ap (λ z. f (length z)) (h ∙ ap (λ z. z ++ readings) (inner b e)))
  where
    inner : (b : List ℕ) → Some b ≡ Some [] → b ≡ []
    inner b e = cc

front_of : (f : ℕ → ℕ) (m n : ℕ) → m ≤ n → (more : List ℕ) × (first_readings f n ≡ first_readings f m ++ more)
front_of f m zero le = let none : zero ≡ m = omega (arith, le) in ([], ap (first_readings f) none ∙ sym (append-nil (first_readings f m)))
front_of f m (suc n) le =
    ⊎_elim
    (λ (l : m < suc n). let on = front_of f m n (omega (arith, l)) in (on.0 ++ f n ∷ [], ap (λ z. z ++ f n ∷ []) on.1 ∙ append_assoc (first_readings f m) on.0 (f n ∷ [])))
    (λ (k : suc n ≤ m). let all : suc n ≡ m = omega (arith, le, k) in ([], ap (first_readings f) all ∙ sym (append-nil (first_readings f m))))
    (cases_lt m (suc n))

-- of the first readings of one clock, one list begins with the other
pub one_begins : (f : ℕ → ℕ) (m n : ℕ) → (more : List ℕ) × ((first_readings f n ≡ first_readings f m ++ more) ⊎ (first_readings f m ≡ first_readings f n ++ more))
one_begins f m n =
    ⊎_elim
    (λ (l : m < n). let on = front_of f m n (omega (arith, l)) in (on.0, inl on.1))
    (λ (k : n ≤ m). let on = front_of f n m k in (on.0, inr on.1))
    (cases_lt m n)
