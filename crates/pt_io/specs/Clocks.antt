-- The readings of clocks.
use Rattle.std.proofs.Common.{zero, suc}
use Rattle.std.specs.Prelude.{◌≡◌, ℕ, ◌+◌, ◌*◌, ◌-◌, ◌^◌, ◌≤◌, min, Option, None, Some, MatchOption, IfSome, List, [], ◌∷◌, ◌++◌, length, map, nat_lt, if◌then◌else◌, slice_index_or}

-- One reading more. A clock may stop telling once it handed out 2 ^ 64 - 1 readings
abbrev pub ReportsOneMore : Option (List ℕ) → ℕ → Option (List ℕ) → Type 0
ReportsOneMore None reading after = after ≡ None
ReportsOneMore (Some before) reading after = MatchOption after (2 ^ 64 ≤ length before + 1) (λ l. l ≡ before ++ reading ∷ [])

-- a reading is the one that was fixed ahead for its number
abbrev pub IsAsAhead : Option (ℕ → ℕ) → Option (List ℕ) → ℕ → Type 0
IsAsAhead ahead reported reading = IfSome ahead (λ f. IfSome reported (λ before. reading ≡ f (length before)))

-- the first n readings of those that are fixed ahead
abbrev pub first_readings : (ℕ → ℕ) → ℕ → List ℕ
first_readings f zero = []
first_readings f (suc n) = first_readings f n ++ f n ∷ []

-- from start on, step by step, none above 2 ^ 64 - 1
abbrev pub step_reading : ℕ → ℕ → ℕ → ℕ
step_reading start step n = min (start + n * step) (2 ^ 64 - 1)

-- the number at that place; past the end the last one, and 0 where there is none
abbrev pub nth_or_last : List ℕ → ℕ → ℕ
nth_or_last xs n = if nat_lt n (length xs) then slice_index_or xs n 0 else slice_index_or xs (length xs - 1) 0

-- the readings that a clock handed out since it had reported `began`, if it reports them
abbrev pub HandedOut : Option (List ℕ) → Option (List ℕ) → List ℕ → Type 0
HandedOut None now readings = now ≡ None
HandedOut (Some before) None readings = 2 ^ 64 ≤ length before + length readings
HandedOut (Some before) (Some all) readings = all ≡ before ++ readings

-- if it had handed out nothing, its readings are those fixed ahead, as long as it reports them
abbrev pub AreAsAhead : Option (ℕ → ℕ) → Option (List ℕ) → Option (List ℕ) → List ℕ → Type 0
AreAsAhead ahead began now readings = IfSome ahead (λ f. began ≡ Some [] → IfSome now (λ all. readings ≡ first_readings f (length readings)))

-- what a clock reports: the readings that it handed out, and those that are fixed ahead
pub record ClockView : Type 0 where
  pub readings : Option (List ℕ)
  pub ahead : Option (ℕ → ℕ)

-- what these clocks report
abbrev pub viewed : {X : Type 0} → (X → Option (List ℕ)) → (X → Option (ℕ → ℕ)) → List X → List ClockView
viewed reported ahead clocks = map (λ c. record { readings = reported c; ahead = ahead c }) clocks
