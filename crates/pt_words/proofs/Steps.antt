-- Steps of clap's walk over the words, whatever was read before.
use Rattle.std.proofs.Common.{◌≡◌, ℕ, List, [], ◌∷◌, Bool, true, false, Option, Some, None, refl, ◌∙◌}
use Rattle.std.specs.Prelude.{codes, ◌==◌, ◌&&◌}
use Rattle.std.specs.Str.{bytes_eq}
use Rattle.clap.specs.Walk.{Walk, Held, Row, Waiting, walked, idle, option, positional, settled_rows, Rule, arg_by_long, reading_by, takes_values, with_values}
use Rattle.clap.specs.Simple.{App, built, filled}
use Rattle.clap.specs.Lexer.{name_and_value}
use Rattle.clap.specs.declared.builder.value_parser.Reading.{Reading}
use Rattle.clap.specs.declared.error.kind.ErrorKind.{ErrorKind}
use Rattle.clap.specs.declared.parser.matches.ValueSource.TheVariants.{CommandLine}
use Rattle.clap.specs.Faults.{long_fault, turn_fault, settle_fault, is_simple_and_free}
use Rattle.clap.specs.Kinds.{Kinds, or_else}
use Rattle.clap.specs.declared.error.kind.ErrorKind.TheVariants as kind
use Rattle.pt_words.specs.App.{words_app, option_rule}

abbrev pub Text : Type 0
Text = List ℕ

abbrev pub app : App
app = built words_app

pub simple : is_simple_and_free words_app ≡ true
simple = refl

abbrev pub held : List Row → Option (Text × List Text) → Held
held rows p = record { rows = rows; pending = p; skip = 0 }

abbrev pub at : List Row → Option (Text × List Text) → Waiting → Bool → Walk
at rows p waiting ended = record { held = held rows p; waiting = waiting; position = 1; is_trailing = ended; stopped = None }

-- what is pending is whole
abbrev pub IsWhole : List Row → Option (Text × List Text) → Type 0
IsWhole rows p = settle_fault app.top.rules false (held rows p) ≡ []

pub whole_graph : (rows : List Row) (w : Text) → IsWhole rows (Some (codes "graph", w ∷ []))
whole_graph rows w = refl

pub whole_workers : (rows : List Row) (w : Text) → IsWhole rows (Some (codes "workers", w ∷ []))
whole_workers rows w = refl

pub whole_clock : (rows : List Row) (w : Text) → IsWhole rows (Some (codes "clock", w ∷ []))
whole_clock rows w = refl

pub whole_claims : (rows : List Row) (w : Text) → IsWhole rows (Some (codes "claims", w ∷ []))
whole_claims rows w = refl

pub due_workers : (rows : List Row) → settle_fault app.top.rules false (held rows (Some (codes "workers", []))) ≡ kind.InvalidValue ∷ []
due_workers rows = refl

pub and_false : (b : Bool) → b && false ≡ false
and_false true = refl
and_false false = refl

pub fault_ended : (rows : List Row) (p : Option (Text × List Text)) (waiting : Waiting) (w : Text) → IsWhole rows p → turn_fault app.top [] (at rows p waiting true) w ≡ []
fault_ended rows p waiting w h = simp (and_false, h)

pub step_ended : (rows : List Row) (p : Option (Text × List Text)) (waiting : Waiting) (w : Text)
    → walked app.top.rules [] (at rows p waiting true) w ≡ at (settled_rows app.top.rules p rows) (Some (codes "graph", w ∷ [])) positional true
unfolding walked
step_ended rows p waiting w = simp and_false

abbrev pub resting : Bool → Waiting
resting true = positional
resting false = idle

pub fault_plain : (rows : List Row) (p : Option (Text × List Text)) (b : Bool) (x : ℕ) (xs : Text) → (x == 45) ≡ false → IsWhole rows p → turn_fault app.top [] (at rows p (resting b) false) (x ∷ xs) ≡ []
fault_plain rows p true x xs h f = simp (h, and_false, f)
fault_plain rows p false x xs h f = simp (h, and_false, f)

pub step_plain : (rows : List Row) (p : Option (Text × List Text)) (b : Bool) (x : ℕ) (xs : Text) → (x == 45) ≡ false
    → walked app.top.rules [] (at rows p (resting b) false) (x ∷ xs) ≡ at (settled_rows app.top.rules p rows) (Some (codes "graph", (x ∷ xs) ∷ [])) positional false
unfolding walked
step_plain rows p true x xs h = simp (h, and_false)
step_plain rows p false x xs h = simp (h, and_false)

pub step_end : (rows : List Row) (p : Option (Text × List Text)) (b : Bool) → walked app.top.rules [] (at rows p (resting b) false) (45 ∷ 45 ∷ []) ≡ at rows p (resting b) true
unfolding walked
step_end rows p true = refl
step_end rows p false = refl

pub fault_end : (rows : List Row) (p : Option (Text × List Text)) (b : Bool) → turn_fault app.top [] (at rows p (resting b) false) (45 ∷ 45 ∷ []) ≡ []
fault_end rows p true = refl
fault_end rows p false = refl

-- the words that are empty or a dash alone are values
pub fault_empty : (rows : List Row) (p : Option (Text × List Text)) (b : Bool) → IsWhole rows p → turn_fault app.top [] (at rows p (resting b) false) [] ≡ []
fault_empty rows p true f = simp (and_false, f)
fault_empty rows p false f = simp (and_false, f)

pub step_empty : (rows : List Row) (p : Option (Text × List Text)) (b : Bool)
    → walked app.top.rules [] (at rows p (resting b) false) [] ≡ at (settled_rows app.top.rules p rows) (Some (codes "graph", [] ∷ [])) positional false
unfolding walked
step_empty rows p true = simp and_false
step_empty rows p false = simp and_false

pub fault_dash : (rows : List Row) (p : Option (Text × List Text)) (b : Bool) → IsWhole rows p → turn_fault app.top [] (at rows p (resting b) false) (45 ∷ []) ≡ []
fault_dash rows p true f = simp (and_false, f)
fault_dash rows p false f = simp (and_false, f)

pub step_dash : (rows : List Row) (p : Option (Text × List Text)) (b : Bool)
    → walked app.top.rules [] (at rows p (resting b) false) (45 ∷ []) ≡ at (settled_rows app.top.rules p rows) (Some (codes "graph", (45 ∷ []) ∷ [])) positional false
unfolding walked
step_dash rows p true = simp and_false
step_dash rows p false = simp and_false

abbrev pub text_reading : Reading
text_reading = reading_by (filled (option_rule (codes "workers")))

pub or_else_none : (a b : Kinds) → (a ≡ [] → ⊥) → or_else a b ≡ [] → ⊥
or_else_none [] b h e = h refl
or_else_none (k ∷ ks) b h e = absurd cc

-- where what is pending lacks its value no option is read
pub long_stuck : (o : Option Rule) (v : Option Text) (h : Held) (k : ErrorKind) → settle_fault app.top.rules false h ≡ k ∷ [] → long_fault app.top.rules false o v h ≡ [] → ⊥
long_stuck None v h k s = λ e. absurd cc
long_stuck (Some a) v h k s =
    elim (takes_values a) as (λ b. takes_values a ≡ b → long_fault app.top.rules false (Some a) v h ≡ [] → ⊥) [
      | true ↦ λ t. elim v as (λ o. long_fault app.top.rules false (Some a) o h ≡ [] → ⊥) [
        | None ↦ rw (t, s) (λ e. absurd cc)
        | Some x ↦ rw (t, s) (λ e. absurd cc)
      ]
      | false ↦ λ t. elim v as (λ o. long_fault app.top.rules false (Some a) o h ≡ [] → ⊥) [
        | None ↦ rw (t, s) (λ e. absurd cc)
        | Some x ↦ rw t (λ e. absurd cc)
      ]
    ] refl

-- where the value of `--workers` is due
pub workers_due_step : (rows : List Row) (x : ℕ) (xs : Text) → (x == 45) ≡ false
    → walked app.top.rules [] (at rows (Some (codes "workers", [])) (option (codes "workers")) false) (x ∷ xs) ≡ at rows (Some (codes "workers", (x ∷ xs) ∷ [])) idle false
unfolding walked
workers_due_step rows x xs h = rw (h, h) refl

pub workers_due_fault : (rows : List Row) (x : ℕ) (xs : Text) → (x == 45) ≡ false
    → turn_fault app.top [] (at rows (Some (codes "workers", [])) (option (codes "workers")) false) (x ∷ xs) ≡ []
workers_due_fault rows x xs h = rw (h, h) refl

pub workers_due_step_empty : (rows : List Row) → walked app.top.rules [] (at rows (Some (codes "workers", [])) (option (codes "workers")) false) [] ≡ at rows (Some (codes "workers", [] ∷ [])) idle false
unfolding walked
workers_due_step_empty rows = refl

pub workers_due_fault_empty : (rows : List Row) → turn_fault app.top [] (at rows (Some (codes "workers", [])) (option (codes "workers")) false) [] ≡ []
workers_due_fault_empty rows = refl

pub workers_due_step_dash : (rows : List Row) → walked app.top.rules [] (at rows (Some (codes "workers", [])) (option (codes "workers")) false) (45 ∷ []) ≡ at rows (Some (codes "workers", (45 ∷ []) ∷ [])) idle false
unfolding walked
workers_due_step_dash rows = refl

pub workers_due_fault_dash : (rows : List Row) → turn_fault app.top [] (at rows (Some (codes "workers", [])) (option (codes "workers")) false) (45 ∷ []) ≡ []
workers_due_fault_dash rows = refl

pub workers_due_step_end : (rows : List Row) → walked app.top.rules [] (at rows (Some (codes "workers", [])) (option (codes "workers")) false) (45 ∷ 45 ∷ []) ≡ at rows (Some (codes "workers", [])) (option (codes "workers")) true
unfolding walked
workers_due_step_end rows = refl

pub workers_due_fault_end : (rows : List Row) → turn_fault app.top [] (at rows (Some (codes "workers", [])) (option (codes "workers")) false) (45 ∷ 45 ∷ []) ≡ []
workers_due_fault_end rows = refl

pub workers_ended_fault : (rows : List Row) (w : Text) → turn_fault app.top [] (at rows (Some (codes "workers", [])) (option (codes "workers")) true) w ≡ kind.InvalidValue ∷ []
workers_ended_fault rows w = refl

pub workers_due_fault_long : (rows : List Row) (z : ℕ) (zs : Text) → turn_fault app.top [] (at rows (Some (codes "workers", [])) (option (codes "workers")) false) (45 ∷ 45 ∷ z ∷ zs) ≡ [] → ⊥
workers_due_fault_long rows z zs = or_else_none _ _ (long_stuck (arg_by_long app.top.rules (name_and_value (z ∷ zs)).0) (name_and_value (z ∷ zs)).1 (held rows (Some (codes "workers", []))) kind.InvalidValue refl)

-- a word that begins with two dashes does the same after a positional word as at the start
long_turn : (rows : List Row) (p : Option (Text × List Text)) (b : Bool) (z : ℕ) (zs : Text)
    → turn_fault app.top [] (at rows p (resting b) false) (45 ∷ 45 ∷ z ∷ zs) ≡ turn_fault app.top [] (at rows p idle false) (45 ∷ 45 ∷ z ∷ zs)
long_turn rows p true z zs = refl
long_turn rows p false z zs = refl

-- `--workers=VALUE`
pub workers_value_fault : (rows : List Row) (p : Option (Text × List Text)) (b : Bool) (z : ℕ) (zs name v : Text) → IsWhole rows p → (name_and_value (z ∷ zs)).0 ≡ name → (name_and_value (z ∷ zs)).1 ≡ Some v
    → bytes_eq (codes "workers") name ≡ true → turn_fault app.top [] (at rows p (resting b) false) (45 ∷ 45 ∷ z ∷ zs) ≡ []
workers_value_fault rows p b z zs name v f e g a = long_turn rows p b z zs ∙ rw (e, g, a, f) refl

pub workers_value_step : (rows : List Row) (p : Option (Text × List Text)) (b : Bool) (z : ℕ) (zs name v : Text) → (name_and_value (z ∷ zs)).0 ≡ name → (name_and_value (z ∷ zs)).1 ≡ Some v
    → bytes_eq (codes "workers") name ≡ true
    → walked app.top.rules [] (at rows p (resting b) false) (45 ∷ 45 ∷ z ∷ zs) ≡ at (with_values (codes "workers") text_reading CommandLine (v ∷ []) (settled_rows app.top.rules p rows)) None idle false
unfolding walked
workers_value_step rows p true z zs name v e g a = rw (e, g, a) refl
workers_value_step rows p false z zs name v e g a = rw (e, g, a) refl

-- `--workers`
pub workers_fault : (rows : List Row) (p : Option (Text × List Text)) (b : Bool) (z : ℕ) (zs name : Text) → IsWhole rows p → (name_and_value (z ∷ zs)).0 ≡ name → (name_and_value (z ∷ zs)).1 ≡ None
    → bytes_eq (codes "workers") name ≡ true → turn_fault app.top [] (at rows p (resting b) false) (45 ∷ 45 ∷ z ∷ zs) ≡ []
workers_fault rows p b z zs name f e g a = long_turn rows p b z zs ∙ rw (e, g, a, f) refl

pub workers_step : (rows : List Row) (p : Option (Text × List Text)) (b : Bool) (z : ℕ) (zs name : Text) → (name_and_value (z ∷ zs)).0 ≡ name → (name_and_value (z ∷ zs)).1 ≡ None
    → bytes_eq (codes "workers") name ≡ true
    → walked app.top.rules [] (at rows p (resting b) false) (45 ∷ 45 ∷ z ∷ zs) ≡ at (settled_rows app.top.rules p rows) (Some (codes "workers", [])) (option (codes "workers")) false
unfolding walked
workers_step rows p true z zs name e g a = rw (e, g, a) refl
workers_step rows p false z zs name e g a = rw (e, g, a) refl

-- where the value of `--clock` is due
pub clock_due_step : (rows : List Row) (x : ℕ) (xs : Text) → (x == 45) ≡ false
    → walked app.top.rules [] (at rows (Some (codes "clock", [])) (option (codes "clock")) false) (x ∷ xs) ≡ at rows (Some (codes "clock", (x ∷ xs) ∷ [])) idle false
unfolding walked
clock_due_step rows x xs h = rw (h, h) refl

pub clock_due_fault : (rows : List Row) (x : ℕ) (xs : Text) → (x == 45) ≡ false
    → turn_fault app.top [] (at rows (Some (codes "clock", [])) (option (codes "clock")) false) (x ∷ xs) ≡ []
clock_due_fault rows x xs h = rw (h, h) refl

pub clock_due_step_empty : (rows : List Row) → walked app.top.rules [] (at rows (Some (codes "clock", [])) (option (codes "clock")) false) [] ≡ at rows (Some (codes "clock", [] ∷ [])) idle false
unfolding walked
clock_due_step_empty rows = refl

pub clock_due_fault_empty : (rows : List Row) → turn_fault app.top [] (at rows (Some (codes "clock", [])) (option (codes "clock")) false) [] ≡ []
clock_due_fault_empty rows = refl

pub clock_due_step_dash : (rows : List Row) → walked app.top.rules [] (at rows (Some (codes "clock", [])) (option (codes "clock")) false) (45 ∷ []) ≡ at rows (Some (codes "clock", (45 ∷ []) ∷ [])) idle false
unfolding walked
clock_due_step_dash rows = refl

pub clock_due_fault_dash : (rows : List Row) → turn_fault app.top [] (at rows (Some (codes "clock", [])) (option (codes "clock")) false) (45 ∷ []) ≡ []
clock_due_fault_dash rows = refl

pub clock_due_step_end : (rows : List Row) → walked app.top.rules [] (at rows (Some (codes "clock", [])) (option (codes "clock")) false) (45 ∷ 45 ∷ []) ≡ at rows (Some (codes "clock", [])) (option (codes "clock")) true
unfolding walked
clock_due_step_end rows = refl

pub clock_due_fault_end : (rows : List Row) → turn_fault app.top [] (at rows (Some (codes "clock", [])) (option (codes "clock")) false) (45 ∷ 45 ∷ []) ≡ []
clock_due_fault_end rows = refl

pub clock_ended_fault : (rows : List Row) (w : Text) → turn_fault app.top [] (at rows (Some (codes "clock", [])) (option (codes "clock")) true) w ≡ kind.InvalidValue ∷ []
clock_ended_fault rows w = refl

pub clock_due_fault_long : (rows : List Row) (z : ℕ) (zs : Text) → turn_fault app.top [] (at rows (Some (codes "clock", [])) (option (codes "clock")) false) (45 ∷ 45 ∷ z ∷ zs) ≡ [] → ⊥
clock_due_fault_long rows z zs = or_else_none _ _ (long_stuck (arg_by_long app.top.rules (name_and_value (z ∷ zs)).0) (name_and_value (z ∷ zs)).1 (held rows (Some (codes "clock", []))) kind.InvalidValue refl)

-- `--clock=VALUE`
pub clock_value_fault : (rows : List Row) (p : Option (Text × List Text)) (b : Bool) (z : ℕ) (zs name v : Text) → IsWhole rows p → (name_and_value (z ∷ zs)).0 ≡ name → (name_and_value (z ∷ zs)).1 ≡ Some v
    → bytes_eq (codes "workers") name ≡ false → bytes_eq (codes "clock") name ≡ true → turn_fault app.top [] (at rows p (resting b) false) (45 ∷ 45 ∷ z ∷ zs) ≡ []
clock_value_fault rows p b z zs name v f e g n0 a = long_turn rows p b z zs ∙ rw (e, g, n0, a, f) refl

pub clock_value_step : (rows : List Row) (p : Option (Text × List Text)) (b : Bool) (z : ℕ) (zs name v : Text) → (name_and_value (z ∷ zs)).0 ≡ name → (name_and_value (z ∷ zs)).1 ≡ Some v
    → bytes_eq (codes "workers") name ≡ false → bytes_eq (codes "clock") name ≡ true
    → walked app.top.rules [] (at rows p (resting b) false) (45 ∷ 45 ∷ z ∷ zs) ≡ at (with_values (codes "clock") text_reading CommandLine (v ∷ []) (settled_rows app.top.rules p rows)) None idle false
unfolding walked
clock_value_step rows p true z zs name v e g n0 a = rw (e, g, n0, a) refl
clock_value_step rows p false z zs name v e g n0 a = rw (e, g, n0, a) refl

-- `--clock`
pub clock_fault : (rows : List Row) (p : Option (Text × List Text)) (b : Bool) (z : ℕ) (zs name : Text) → IsWhole rows p → (name_and_value (z ∷ zs)).0 ≡ name → (name_and_value (z ∷ zs)).1 ≡ None
    → bytes_eq (codes "workers") name ≡ false → bytes_eq (codes "clock") name ≡ true → turn_fault app.top [] (at rows p (resting b) false) (45 ∷ 45 ∷ z ∷ zs) ≡ []
clock_fault rows p b z zs name f e g n0 a = long_turn rows p b z zs ∙ rw (e, g, n0, a, f) refl

pub clock_step : (rows : List Row) (p : Option (Text × List Text)) (b : Bool) (z : ℕ) (zs name : Text) → (name_and_value (z ∷ zs)).0 ≡ name → (name_and_value (z ∷ zs)).1 ≡ None
    → bytes_eq (codes "workers") name ≡ false → bytes_eq (codes "clock") name ≡ true
    → walked app.top.rules [] (at rows p (resting b) false) (45 ∷ 45 ∷ z ∷ zs) ≡ at (settled_rows app.top.rules p rows) (Some (codes "clock", [])) (option (codes "clock")) false
unfolding walked
clock_step rows p true z zs name e g n0 a = rw (e, g, n0, a) refl
clock_step rows p false z zs name e g n0 a = rw (e, g, n0, a) refl

-- where the value of `--claims` is due
pub claims_due_step : (rows : List Row) (x : ℕ) (xs : Text) → (x == 45) ≡ false
    → walked app.top.rules [] (at rows (Some (codes "claims", [])) (option (codes "claims")) false) (x ∷ xs) ≡ at rows (Some (codes "claims", (x ∷ xs) ∷ [])) idle false
unfolding walked
claims_due_step rows x xs h = rw (h, h) refl

pub claims_due_fault : (rows : List Row) (x : ℕ) (xs : Text) → (x == 45) ≡ false
    → turn_fault app.top [] (at rows (Some (codes "claims", [])) (option (codes "claims")) false) (x ∷ xs) ≡ []
claims_due_fault rows x xs h = rw (h, h) refl

pub claims_due_step_empty : (rows : List Row) → walked app.top.rules [] (at rows (Some (codes "claims", [])) (option (codes "claims")) false) [] ≡ at rows (Some (codes "claims", [] ∷ [])) idle false
unfolding walked
claims_due_step_empty rows = refl

pub claims_due_fault_empty : (rows : List Row) → turn_fault app.top [] (at rows (Some (codes "claims", [])) (option (codes "claims")) false) [] ≡ []
claims_due_fault_empty rows = refl

pub claims_due_step_dash : (rows : List Row) → walked app.top.rules [] (at rows (Some (codes "claims", [])) (option (codes "claims")) false) (45 ∷ []) ≡ at rows (Some (codes "claims", (45 ∷ []) ∷ [])) idle false
unfolding walked
claims_due_step_dash rows = refl

pub claims_due_fault_dash : (rows : List Row) → turn_fault app.top [] (at rows (Some (codes "claims", [])) (option (codes "claims")) false) (45 ∷ []) ≡ []
claims_due_fault_dash rows = refl

pub claims_due_step_end : (rows : List Row) → walked app.top.rules [] (at rows (Some (codes "claims", [])) (option (codes "claims")) false) (45 ∷ 45 ∷ []) ≡ at rows (Some (codes "claims", [])) (option (codes "claims")) true
unfolding walked
claims_due_step_end rows = refl

pub claims_due_fault_end : (rows : List Row) → turn_fault app.top [] (at rows (Some (codes "claims", [])) (option (codes "claims")) false) (45 ∷ 45 ∷ []) ≡ []
claims_due_fault_end rows = refl

pub claims_ended_fault : (rows : List Row) (w : Text) → turn_fault app.top [] (at rows (Some (codes "claims", [])) (option (codes "claims")) true) w ≡ kind.InvalidValue ∷ []
claims_ended_fault rows w = refl

pub claims_due_fault_long : (rows : List Row) (z : ℕ) (zs : Text) → turn_fault app.top [] (at rows (Some (codes "claims", [])) (option (codes "claims")) false) (45 ∷ 45 ∷ z ∷ zs) ≡ [] → ⊥
claims_due_fault_long rows z zs = or_else_none _ _ (long_stuck (arg_by_long app.top.rules (name_and_value (z ∷ zs)).0) (name_and_value (z ∷ zs)).1 (held rows (Some (codes "claims", []))) kind.InvalidValue refl)

-- `--claims=VALUE`
pub claims_value_fault : (rows : List Row) (p : Option (Text × List Text)) (b : Bool) (z : ℕ) (zs name v : Text) → IsWhole rows p → (name_and_value (z ∷ zs)).0 ≡ name → (name_and_value (z ∷ zs)).1 ≡ Some v
    → bytes_eq (codes "workers") name ≡ false → bytes_eq (codes "clock") name ≡ false → bytes_eq (codes "claims") name ≡ true → turn_fault app.top [] (at rows p (resting b) false) (45 ∷ 45 ∷ z ∷ zs) ≡ []
claims_value_fault rows p b z zs name v f e g n0 n1 a = long_turn rows p b z zs ∙ rw (e, g, n0, n1, a, f) refl

pub claims_value_step : (rows : List Row) (p : Option (Text × List Text)) (b : Bool) (z : ℕ) (zs name v : Text) → (name_and_value (z ∷ zs)).0 ≡ name → (name_and_value (z ∷ zs)).1 ≡ Some v
    → bytes_eq (codes "workers") name ≡ false → bytes_eq (codes "clock") name ≡ false → bytes_eq (codes "claims") name ≡ true
    → walked app.top.rules [] (at rows p (resting b) false) (45 ∷ 45 ∷ z ∷ zs) ≡ at (with_values (codes "claims") text_reading CommandLine (v ∷ []) (settled_rows app.top.rules p rows)) None idle false
unfolding walked
claims_value_step rows p true z zs name v e g n0 n1 a = rw (e, g, n0, n1, a) refl
claims_value_step rows p false z zs name v e g n0 n1 a = rw (e, g, n0, n1, a) refl

-- `--claims`
pub claims_fault : (rows : List Row) (p : Option (Text × List Text)) (b : Bool) (z : ℕ) (zs name : Text) → IsWhole rows p → (name_and_value (z ∷ zs)).0 ≡ name → (name_and_value (z ∷ zs)).1 ≡ None
    → bytes_eq (codes "workers") name ≡ false → bytes_eq (codes "clock") name ≡ false → bytes_eq (codes "claims") name ≡ true → turn_fault app.top [] (at rows p (resting b) false) (45 ∷ 45 ∷ z ∷ zs) ≡ []
claims_fault rows p b z zs name f e g n0 n1 a = long_turn rows p b z zs ∙ rw (e, g, n0, n1, a, f) refl

pub claims_step : (rows : List Row) (p : Option (Text × List Text)) (b : Bool) (z : ℕ) (zs name : Text) → (name_and_value (z ∷ zs)).0 ≡ name → (name_and_value (z ∷ zs)).1 ≡ None
    → bytes_eq (codes "workers") name ≡ false → bytes_eq (codes "clock") name ≡ false → bytes_eq (codes "claims") name ≡ true
    → walked app.top.rules [] (at rows p (resting b) false) (45 ∷ 45 ∷ z ∷ zs) ≡ at (settled_rows app.top.rules p rows) (Some (codes "claims", [])) (option (codes "claims")) false
unfolding walked
claims_step rows p true z zs name e g n0 n1 a = rw (e, g, n0, n1, a) refl
claims_step rows p false z zs name e g n0 n1 a = rw (e, g, n0, n1, a) refl

-- `--log`
pub log_fault : (rows : List Row) (p : Option (Text × List Text)) (b : Bool) (z : ℕ) (zs name : Text) → IsWhole rows p → (name_and_value (z ∷ zs)).0 ≡ name → (name_and_value (z ∷ zs)).1 ≡ None
    → bytes_eq (codes "workers") name ≡ false → bytes_eq (codes "clock") name ≡ false → bytes_eq (codes "claims") name ≡ false → bytes_eq (codes "log") name ≡ true
    → turn_fault app.top [] (at rows p (resting b) false) (45 ∷ 45 ∷ z ∷ zs) ≡ []
log_fault rows p b z zs name f e g n0 n1 n2 a = long_turn rows p b z zs ∙ rw (e, g, n0, n1, n2, a, f) refl

pub log_step : (rows : List Row) (p : Option (Text × List Text)) (b : Bool) (z : ℕ) (zs name : Text) → (name_and_value (z ∷ zs)).0 ≡ name → (name_and_value (z ∷ zs)).1 ≡ None
    → bytes_eq (codes "workers") name ≡ false → bytes_eq (codes "clock") name ≡ false → bytes_eq (codes "claims") name ≡ false → bytes_eq (codes "log") name ≡ true
    → walked app.top.rules [] (at rows p (resting b) false) (45 ∷ 45 ∷ z ∷ zs) ≡ at (with_values (codes "log") text_reading CommandLine ([] ∷ []) (settled_rows app.top.rules p rows)) None idle false
unfolding walked
log_step rows p true z zs name e g n0 n1 n2 a = rw (e, g, n0, n1, n2, a) refl
log_step rows p false z zs name e g n0 n1 n2 a = rw (e, g, n0, n1, n2, a) refl

-- `--log=VALUE` is refused
pub log_value_fault : (rows : List Row) (p : Option (Text × List Text)) (b : Bool) (z : ℕ) (zs name v : Text) → (name_and_value (z ∷ zs)).0 ≡ name → (name_and_value (z ∷ zs)).1 ≡ Some v
    → bytes_eq (codes "workers") name ≡ false → bytes_eq (codes "clock") name ≡ false → bytes_eq (codes "claims") name ≡ false → bytes_eq (codes "log") name ≡ true
    → turn_fault app.top [] (at rows p (resting b) false) (45 ∷ 45 ∷ z ∷ zs) ≡ kind.TooManyValues ∷ []
log_value_fault rows p b z zs name v e g n0 n1 n2 a = long_turn rows p b z zs ∙ rw (e, g, n0, n1, n2, a) refl

-- another name is refused
pub unknown_fault : (rows : List Row) (p : Option (Text × List Text)) (b : Bool) (z : ℕ) (zs name : Text) → (name_and_value (z ∷ zs)).0 ≡ name
    → bytes_eq (codes "workers") name ≡ false → bytes_eq (codes "clock") name ≡ false → bytes_eq (codes "claims") name ≡ false → bytes_eq (codes "log") name ≡ false
    → turn_fault app.top [] (at rows p (resting b) false) (45 ∷ 45 ∷ z ∷ zs) ≡ kind.UnknownArgument ∷ []
unknown_fault rows p b z zs name e n0 n1 n2 n3 = long_turn rows p b z zs ∙ rw (e, n0, n1, n2, n3) refl
