-- Where events wait within bounds, an actor fires first.
use Rattle.std.proofs.Common.{◌≡◌, ℕ, zero, suc, ◌<◌, ◌≤◌, ◌⊎◌, ⊎_elim, inl, inr, Bool, true, false, Some, ℤ, refl, sym, subst, arith}
use Rattle.std.proofs.lemmas.Bool.{cases_lt}
use Rattle.pt_tags.specs.declared.tag.Tag.{Tag}
use Rattle.pt_semantics.specs.Firing.{any_present}
use Rattle.pt_semantics.specs.Meaning.{Values, IsFirst, waiting}
use Rattle.pt_semantics.proofs.Lookups.{eight_present}

-- the number below n at which f is least, of those at which P holds; of equal ones the least number
record Least (P : ℕ → Type 0) (f : ℕ → ℕ) (n : ℕ) : Type 0 where
  at : ℕ
  low : at < n
  is : P at
  least : (k : ℕ) → k < n → P k → (f at ≤ f k) × (f k ≤ f at → at ≤ k)

abbrev Decides : Type 0 → Type 0
Decides P = P ⊎ (P → ⊥)

below_or_last : (k n : ℕ) → k < suc n → (k < n) ⊎ (k ≡ n)
below_or_last k n h = ⊎_elim (λ (l : k < n). inl l) (λ (m : n ≤ k). inr (omega (arith, h, m))) (cases_lt k n)

least_of : (P : ℕ → Type 0) → ((k : ℕ) → Decides (P k)) → (f : ℕ → ℕ) (n : ℕ) → Least P f n ⊎ ((k : ℕ) → k < n → P k → ⊥)
least_of P decides f zero = inr (λ k l h. omega (arith, l))
least_of P decides f (suc n) = by (decides n) (least_of P decides f n)
  where
    same : (k : ℕ) → k ≡ n → (f n ≤ f k) × (f k ≤ f n → n ≤ k)
    same k e = let alike : f n ≤ f n = omega arith in (subst (λ z. f n ≤ f z) (sym e) alike, λ _. omega (arith, e))

    by : Decides (P n) → Least P f n ⊎ ((k : ℕ) → k < n → P k → ⊥) → Least P f (suc n) ⊎ ((k : ℕ) → k < suc n → P k → ⊥)
    by (inr fails) (inr none) = inr (λ k l h. ⊎_elim (λ (b : k < n). none k b h) (λ (e : k ≡ n). fails (subst P e h)) (below_or_last k n l))
    by (inr fails) (inl best) = inl (record {
      at = best.at;
      low = omega (arith, best.low);
      is = best.is;
      least = λ k l h. ⊎_elim (λ (b : k < n). best.least k b h) (λ (e : k ≡ n). absurd (fails (subst P e h))) (below_or_last k n l);
    })
    by (inl holds) (inr none) = inl (record {
      at = n;
      low = omega arith;
      is = holds;
      least = λ k l h. ⊎_elim (λ (b : k < n). absurd (none k b h)) (λ (e : k ≡ n). same k e) (below_or_last k n l);
    })
    by (inl holds) (inl best) =
        ⊎_elim
        (λ (less : f n < f best.at).
        inl (record {
          at = n;
          low = omega arith;
          is = holds;
          least = λ k l h. ⊎_elim (λ (b : k < n). let up = best.least k b h in (omega (arith, less, up.0), λ back. omega (arith, less, up.0, back))) (λ (e : k ≡ n). same k e) (below_or_last k n l);
        }))
        (λ (upto : f best.at ≤ f n).
        inl (record {
          at = best.at;
          low = omega (arith, best.low);
          is = best.is;
          least = λ k l h. ⊎_elim (λ (b : k < n). best.least k b h) (λ (e : k ≡ n). (subst (λ z. f best.at ≤ f z) (sym e) upto, λ _. omega (arith, best.low, e))) (below_or_last k n l);
        }))
        (cases_lt (f n) (f best.at))

decides_least : (P : ℕ → Type 0) → ((k : ℕ) → Decides (P k)) → (f : ℕ → ℕ) (n : ℕ) → Decides (Least P f n)
decides_least P decides f n = ⊎_elim (λ (l : Least P f n). inl l) (λ (none : (k : ℕ) → k < n → P k → ⊥). inr (λ l. none l.at l.low l.is)) (least_of P decides f n)

least_with : (P : ℕ → Type 0) → ((k : ℕ) → Decides (P k)) → (f : ℕ → ℕ) (n k : ℕ) → k < n → P k → Least P f n
least_with P decides f n k low h = ⊎_elim (λ (l : Least P f n). l) (λ (none : (k : ℕ) → k < n → P k → ⊥). absurd (none k low h)) (least_of P decides f n)

is_true : (b : Bool) → Decides (b ≡ true)
is_true true = inl refl
is_true false = inr differ
  where
    differ : false ≡ true → ⊥
    differ e = cc

-- an event is for one of that many actors at one of eight ports, at a time up to the horizon and at one of that many steps
pub record IsWithin (actors until steps a p : ℕ) (t : Tag) : Type 0 where
  pub actor : a < actors
  pub port : p < 8
  pub time : t.time ≤ until
  pub step : t.step ≤ steps

-- each event that waits is
abbrev pub AreWithin : ℕ → ℕ → ℕ → Values → Type 0
AreWithin actors until steps waits = (a p : ℕ) (t : Tag) (v : ℤ) → waits a p t ≡ Some v → IsWithin actors until steps a p t

-- the actor that fires first, and its tag
pub record First (rank : ℕ → ℕ) (waits : Values) (steps : ℕ) : Type 0 where
  pub actor : ℕ
  pub tag : Tag
  pub first : IsFirst rank waits actor tag
  pub present : any_present (waiting waits actor tag) ≡ true
  pub step : tag.step ≤ steps

module _ (rank : ℕ → ℕ) (waits : Values) (actors until steps : ℕ) where
  abbrev Fires : ℕ → ℕ → ℕ → Type 0
  Fires time step a = any_present (waiting waits a (record { time = time; step = step })) ≡ true

  abbrev AtTag : ℕ → ℕ → Type 0
  AtTag time step = Least (Fires time step) rank actors

  abbrev AtTime : ℕ → Type 0
  AtTime time = Least (AtTag time) (λ s. s) (suc steps)

  decides_actor : (time step a : ℕ) → Decides (Fires time step a)
  decides_actor time step a = is_true (any_present (waiting waits a (record { time = time; step = step })))

  decides_tag : (time step : ℕ) → Decides (AtTag time step)
  decides_tag time step = decides_least (Fires time step) (decides_actor time step) rank actors

  decides_time : (time : ℕ) → Decides (AtTime time)
  decides_time time = decides_least (AtTag time) (decides_tag time) (λ s. s) (suc steps)

  module _ (within : AreWithin actors until steps waits) where
    here : (a p : ℕ) (t : Tag) (v : ℤ) → waits a p t ≡ Some v → Fires t.time t.step a
    here a p t v is = eight_present (λ q. waits a q t) p v (within a p t v is).port is

    at_tag : (a p : ℕ) (t : Tag) (v : ℤ) → waits a p t ≡ Some v → AtTag t.time t.step
    at_tag a p t v is = least_with (Fires t.time t.step) (decides_actor t.time t.step) rank actors a (within a p t v is).actor (here a p t v is)

    at_time : (a p : ℕ) (t : Tag) (v : ℤ) → waits a p t ≡ Some v → AtTime t.time
    at_time a p t v is = let low = within a p t v is in least_with (AtTag t.time) (decides_tag t.time) (λ s. s) (suc steps) t.step (omega (arith, low.step)) (at_tag a p t v is)

    module _ (best : Least AtTime (λ x. x) (suc until)) where
      comes_first : IsFirst rank waits best.is.is.at (record { time = best.at; step = best.is.at })
      comes_first b p u v is =
          let low = within b p u v is in
          let early = best.least u.time (omega (arith, low.time)) (at_time b p u v is) in (
            early.0,
            λ back.
                let time : u.time ≡ best.at = omega (arith, early.0, back) in
                let soon = best.is.least u.step (omega (arith, low.step)) (subst (λ z. AtTag z u.step) time (at_tag b p u v is)) in (
                  soon.0,
                  λ steps_back.
                      let step : u.step ≡ best.is.at = omega (arith, soon.0, steps_back) in
                      best.is.is.least b low.actor (subst (λ z. Fires best.at z b) step (subst (λ z. Fires z u.step b) time (here b p u v is))),
                ),
          )

    pub first_of_all : (a p : ℕ) (t : Tag) (v : ℤ) → waits a p t ≡ Some v → First rank waits steps
    first_of_all a p t v is =
        let low = within a p t v is in
        let best = least_with AtTime decides_time (λ x. x) (suc until) t.time (omega (arith, low.time)) (at_time a p t v is) in
        record {
          actor = best.is.is.at;
          tag = record { time = best.at; step = best.is.at };
          first = comes_first best;
          present = best.is.is.is;
          step = omega (arith, best.is.low);
        }
