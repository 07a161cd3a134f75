-- clap's walk over words that have no short one agrees with what they say.
use Rattle.std.proofs.Common.{◌≡◌, ℕ, List, [], ◌∷◌, ◌++◌, Bool, true, false, Option, Some, None, refl, sym, ap, ◌∙◌, fold, append-nil}
use Rattle.std.proofs.lemmas.List.{append_assoc}
use Rattle.std.specs.Prelude.{codes, ◌==◌}
use Rattle.std.specs.Str.{bytes_eq}
use Rattle.clap.specs.Walk.{Walk, Row, Waiting, walked, idle, option, positional, settled_rows, with_values}
use Rattle.clap.specs.Lexer.{name_and_value}
use Rattle.clap.specs.Faults.{turn_fault, settle_fault, walk_fault}
use Rattle.clap.specs.Kinds.{Kinds, or_else}
use Rattle.clap.specs.declared.error.kind.ErrorKind.{ErrorKind}
use Rattle.clap.specs.declared.error.kind.ErrorKind.TheVariants as kind
use Rattle.clap.specs.declared.parser.matches.ValueSource.TheVariants.{CommandLine}
use Rattle.pt_words.specs.Said.{Said, Place, among, workers_due, clock_due, claims_due, ended, is_dashed, no_words, option_said, said, with_graph, with_workers, with_clock, with_claims, with_log}
use Rattle.pt_words.specs.Short.{has_short, is_short}
use Rattle.pt_words.proofs.Rows.{values_in, here, other}
use Rattle.pt_words.proofs.Steps as step
use Rattle.pt_words.proofs.Steps.{Text, app, at, held, IsWhole, resting, text_reading}
use Rattle.pt_words.proofs.Shapes.{view, empty, dash, plain, ending, long, short}

abbrev pub said_in : List Row → Said
said_in rows = record { graphs = values_in (codes "graph") rows; workers = values_in (codes "workers") rows; clocks = values_in (codes "clock") rows; claims = values_in (codes "claims") rows; logs = values_in (codes "log") rows }

abbrev pub plus : Said → Said → Said
plus a b = record { graphs = a.graphs ++ b.graphs; workers = a.workers ++ b.workers; clocks = a.clocks ++ b.clocks; claims = a.claims ++ b.claims; logs = a.logs ++ b.logs }

plus_nothing : (a : Said) → a ≡ plus a no_words
plus_nothing a = λ i. record { graphs = sym (append-nil a.graphs) i; workers = sym (append-nil a.workers) i; clocks = sym (append-nil a.clocks) i; claims = sym (append-nil a.claims) i; logs = sym (append-nil a.logs) i }

-- the faults of the rest of a walk, and the rows that it ends with
abbrev pub rest_fault : Walk → List Text → Kinds
rest_fault w ws = or_else (walk_fault app.top [] w ws) (settle_fault app.top.rules false (fold (walked app.top.rules []) w ws).held)

abbrev pub last_rows : Walk → List Text → List Row
last_rows w ws = settled_rows app.top.rules (fold (walked app.top.rules []) w ws).held.pending (fold (walked app.top.rules []) w ws).held.rows

unfoldable pub Agrees : Said → Walk → List Text → Option Said → Type 0
Agrees now w ws None = rest_fault w ws ≡ [] → ⊥
Agrees now w ws (Some s) = (rest_fault w ws ≡ []) × (said_in (last_rows w ws) ≡ plus now s)

rest_more : (w v : Walk) (x : Text) (ws : List Text) → turn_fault app.top [] w x ≡ [] → walked app.top.rules [] w x ≡ v → rest_fault w (x ∷ ws) ≡ rest_fault v ws
unfolding walk_fault
rest_more w v x ws f s = rw f (ap (λ u. rest_fault u ws) s)

goes_on : (now : Said) (w v : Walk) (x : Text) (ws : List Text) (o : Option Said) → turn_fault app.top [] w x ≡ [] → walked app.top.rules [] w x ≡ v → Agrees now v ws o → Agrees now w (x ∷ ws) o
unfolding Agrees
goes_on now w v x ws None f s h = λ e. h (sym (rest_more w v x ws f s) ∙ e)
goes_on now w v x ws (Some t) f s h = (rest_more w v x ws f s ∙ h.0, ap (λ u. said_in (last_rows u ws)) s ∙ h.1)

stops : (now : Said) (w : Walk) (x : Text) (ws : List Text) → (turn_fault app.top [] w x ≡ [] → ⊥) → Agrees now w (x ∷ ws) None
unfolding walk_fault Agrees
stops now w x ws f = step.or_else_none _ _ (step.or_else_none _ _ f)

refuses : (now : Said) (w : Walk) (x : Text) (ws : List Text) (k : ErrorKind) → turn_fault app.top [] w x ≡ k ∷ [] → Agrees now w (x ∷ ws) None
refuses now w x ws k f = stops now w x ws (rw f (λ e. absurd cc))

finishes : (now : Said) (rows : List Row) (p : Option (Text × List Text)) (waiting : Waiting) (e : Bool) → IsWhole rows p → said_in (settled_rows app.top.rules p rows) ≡ now
    → Agrees now (at rows p waiting e) [] (Some no_words)
unfolding walk_fault Agrees
finishes now rows p waiting e f is = (f, is ∙ plus_nothing now)

plain_undashed : (x : ℕ) (xs : Text) → (x == 45) ≡ false → is_dashed (x ∷ xs) ≡ false
plain_undashed x [] h = refl
plain_undashed x (y ∷ ys) h = h

plain_unshort : (x : ℕ) (xs : Text) → (x == 45) ≡ false → is_short (x ∷ xs) ≡ false
plain_unshort x [] h = refl
plain_unshort x (y ∷ ys) h = rw h refl

pub short_plain : (x : ℕ) (xs : Text) (ws : List Text) → (x == 45) ≡ false → has_short ((x ∷ xs) ∷ ws) ≡ has_short ws
short_plain x xs ws h = rw (h, plain_unshort x xs h) refl

abbrev more_graphs : Text → Said → Said
more_graphs w a = record a { graphs = a.graphs ++ w ∷ [] }

rows_graphs : (w : Text) (rows : List Row) → said_in (with_values (codes "graph") text_reading CommandLine (w ∷ []) rows) ≡ more_graphs w (said_in rows)
rows_graphs w rows = λ i. record { graphs = here (codes "graph") text_reading CommandLine (w ∷ []) rows refl i; workers = other (codes "workers") (codes "graph") text_reading CommandLine (w ∷ []) rows refl i; clocks = other (codes "clock") (codes "graph") text_reading CommandLine (w ∷ []) rows refl i; claims = other (codes "claims") (codes "graph") text_reading CommandLine (w ∷ []) rows refl i; logs = other (codes "log") (codes "graph") text_reading CommandLine (w ∷ []) rows refl i }

shift_graphs : (w : Text) (a s : Said) → plus (more_graphs w a) s ≡ plus a (record s { graphs = w ∷ s.graphs })
shift_graphs w a s = λ i. record { graphs = append_assoc a.graphs (w ∷ []) s.graphs i; workers = a.workers ++ s.workers; clocks = a.clocks ++ s.clocks; claims = a.claims ++ s.claims; logs = a.logs ++ s.logs }

adds_graphs : (now : Said) (w : Text) (v : Walk) (ws : List Text) (o : Option Said) → Agrees (more_graphs w now) v ws o → Agrees now v ws (with_graph w o)
unfolding Agrees
adds_graphs now w v ws None h = h
adds_graphs now w v ws (Some s) h = (h.0, h.1 ∙ shift_graphs w now s)

abbrev more_workers : Text → Said → Said
more_workers w a = record a { workers = a.workers ++ w ∷ [] }

rows_workers : (w : Text) (rows : List Row) → said_in (with_values (codes "workers") text_reading CommandLine (w ∷ []) rows) ≡ more_workers w (said_in rows)
rows_workers w rows = λ i. record { graphs = other (codes "graph") (codes "workers") text_reading CommandLine (w ∷ []) rows refl i; workers = here (codes "workers") text_reading CommandLine (w ∷ []) rows refl i; clocks = other (codes "clock") (codes "workers") text_reading CommandLine (w ∷ []) rows refl i; claims = other (codes "claims") (codes "workers") text_reading CommandLine (w ∷ []) rows refl i; logs = other (codes "log") (codes "workers") text_reading CommandLine (w ∷ []) rows refl i }

shift_workers : (w : Text) (a s : Said) → plus (more_workers w a) s ≡ plus a (record s { workers = w ∷ s.workers })
shift_workers w a s = λ i. record { graphs = a.graphs ++ s.graphs; workers = append_assoc a.workers (w ∷ []) s.workers i; clocks = a.clocks ++ s.clocks; claims = a.claims ++ s.claims; logs = a.logs ++ s.logs }

adds_workers : (now : Said) (w : Text) (v : Walk) (ws : List Text) (o : Option Said) → Agrees (more_workers w now) v ws o → Agrees now v ws (with_workers w o)
unfolding Agrees
adds_workers now w v ws None h = h
adds_workers now w v ws (Some s) h = (h.0, h.1 ∙ shift_workers w now s)

abbrev more_clocks : Text → Said → Said
more_clocks w a = record a { clocks = a.clocks ++ w ∷ [] }

rows_clocks : (w : Text) (rows : List Row) → said_in (with_values (codes "clock") text_reading CommandLine (w ∷ []) rows) ≡ more_clocks w (said_in rows)
rows_clocks w rows = λ i. record { graphs = other (codes "graph") (codes "clock") text_reading CommandLine (w ∷ []) rows refl i; workers = other (codes "workers") (codes "clock") text_reading CommandLine (w ∷ []) rows refl i; clocks = here (codes "clock") text_reading CommandLine (w ∷ []) rows refl i; claims = other (codes "claims") (codes "clock") text_reading CommandLine (w ∷ []) rows refl i; logs = other (codes "log") (codes "clock") text_reading CommandLine (w ∷ []) rows refl i }

shift_clocks : (w : Text) (a s : Said) → plus (more_clocks w a) s ≡ plus a (record s { clocks = w ∷ s.clocks })
shift_clocks w a s = λ i. record { graphs = a.graphs ++ s.graphs; workers = a.workers ++ s.workers; clocks = append_assoc a.clocks (w ∷ []) s.clocks i; claims = a.claims ++ s.claims; logs = a.logs ++ s.logs }

adds_clocks : (now : Said) (w : Text) (v : Walk) (ws : List Text) (o : Option Said) → Agrees (more_clocks w now) v ws o → Agrees now v ws (with_clock w o)
unfolding Agrees
adds_clocks now w v ws None h = h
adds_clocks now w v ws (Some s) h = (h.0, h.1 ∙ shift_clocks w now s)

abbrev more_claims : Text → Said → Said
more_claims w a = record a { claims = a.claims ++ w ∷ [] }

rows_claims : (w : Text) (rows : List Row) → said_in (with_values (codes "claims") text_reading CommandLine (w ∷ []) rows) ≡ more_claims w (said_in rows)
rows_claims w rows = λ i. record { graphs = other (codes "graph") (codes "claims") text_reading CommandLine (w ∷ []) rows refl i; workers = other (codes "workers") (codes "claims") text_reading CommandLine (w ∷ []) rows refl i; clocks = other (codes "clock") (codes "claims") text_reading CommandLine (w ∷ []) rows refl i; claims = here (codes "claims") text_reading CommandLine (w ∷ []) rows refl i; logs = other (codes "log") (codes "claims") text_reading CommandLine (w ∷ []) rows refl i }

shift_claims : (w : Text) (a s : Said) → plus (more_claims w a) s ≡ plus a (record s { claims = w ∷ s.claims })
shift_claims w a s = λ i. record { graphs = a.graphs ++ s.graphs; workers = a.workers ++ s.workers; clocks = a.clocks ++ s.clocks; claims = append_assoc a.claims (w ∷ []) s.claims i; logs = a.logs ++ s.logs }

adds_claims : (now : Said) (w : Text) (v : Walk) (ws : List Text) (o : Option Said) → Agrees (more_claims w now) v ws o → Agrees now v ws (with_claims w o)
unfolding Agrees
adds_claims now w v ws None h = h
adds_claims now w v ws (Some s) h = (h.0, h.1 ∙ shift_claims w now s)

abbrev more_logs : Text → Said → Said
more_logs w a = record a { logs = a.logs ++ w ∷ [] }

rows_logs : (w : Text) (rows : List Row) → said_in (with_values (codes "log") text_reading CommandLine (w ∷ []) rows) ≡ more_logs w (said_in rows)
rows_logs w rows = λ i. record { graphs = other (codes "graph") (codes "log") text_reading CommandLine (w ∷ []) rows refl i; workers = other (codes "workers") (codes "log") text_reading CommandLine (w ∷ []) rows refl i; clocks = other (codes "clock") (codes "log") text_reading CommandLine (w ∷ []) rows refl i; claims = other (codes "claims") (codes "log") text_reading CommandLine (w ∷ []) rows refl i; logs = here (codes "log") text_reading CommandLine (w ∷ []) rows refl i }

shift_logs : (w : Text) (a s : Said) → plus (more_logs w a) s ≡ plus a (record s { logs = w ∷ s.logs })
shift_logs w a s = λ i. record { graphs = a.graphs ++ s.graphs; workers = a.workers ++ s.workers; clocks = a.clocks ++ s.clocks; claims = a.claims ++ s.claims; logs = append_assoc a.logs (w ∷ []) s.logs i }

adds_logs : (now : Said) (v : Walk) (ws : List Text) (o : Option Said) → Agrees (more_logs [] now) v ws o → Agrees now v ws (with_log o)
unfolding Agrees
adds_logs now v ws None h = h
adds_logs now v ws (Some s) h = (h.0, h.1 ∙ shift_logs [] now s)

workers_doomed : (now : Said) (rows : List Row) (ws : List Text) → Agrees now (at rows (Some (codes "workers", [])) (option (codes "workers")) true) ws None
unfolding walk_fault Agrees
workers_doomed now rows [] = λ e. absurd cc
workers_doomed now rows (x ∷ ws) = refuses now (at rows (Some (codes "workers", [])) (option (codes "workers")) true) x ws kind.InvalidValue (step.workers_ended_fault rows x)

workers_unfinished : (now : Said) (rows : List Row) → Agrees now (at rows (Some (codes "workers", [])) (option (codes "workers")) false) [] None
unfolding walk_fault Agrees
workers_unfinished now rows = λ e. absurd cc

clock_doomed : (now : Said) (rows : List Row) (ws : List Text) → Agrees now (at rows (Some (codes "clock", [])) (option (codes "clock")) true) ws None
unfolding walk_fault Agrees
clock_doomed now rows [] = λ e. absurd cc
clock_doomed now rows (x ∷ ws) = refuses now (at rows (Some (codes "clock", [])) (option (codes "clock")) true) x ws kind.InvalidValue (step.clock_ended_fault rows x)

clock_unfinished : (now : Said) (rows : List Row) → Agrees now (at rows (Some (codes "clock", [])) (option (codes "clock")) false) [] None
unfolding walk_fault Agrees
clock_unfinished now rows = λ e. absurd cc

claims_doomed : (now : Said) (rows : List Row) (ws : List Text) → Agrees now (at rows (Some (codes "claims", [])) (option (codes "claims")) true) ws None
unfolding walk_fault Agrees
claims_doomed now rows [] = λ e. absurd cc
claims_doomed now rows (x ∷ ws) = refuses now (at rows (Some (codes "claims", [])) (option (codes "claims")) true) x ws kind.InvalidValue (step.claims_ended_fault rows x)

claims_unfinished : (now : Said) (rows : List Row) → Agrees now (at rows (Some (codes "claims", [])) (option (codes "claims")) false) [] None
unfolding walk_fault Agrees
claims_unfinished now rows = λ e. absurd cc

-- where the walk stands, by what was said
pub data Standing (now : Said) : Type 0 where
  amid : (rows : List Row) (p : Option (Text × List Text)) (b : Bool) → IsWhole rows p → said_in (settled_rows app.top.rules p rows) ≡ now → Standing now
  at_workers : (rows : List Row) → said_in rows ≡ now → Standing now
  at_clock : (rows : List Row) → said_in rows ≡ now → Standing now
  at_claims : (rows : List Row) → said_in rows ≡ now → Standing now

abbrev pub walk_at : (now : Said) → Standing now → Walk
walk_at now (amid rows p b f e) = at rows p (resting b) false
walk_at now (at_workers rows e) = at rows (Some (codes "workers", [])) (option (codes "workers")) false
walk_at now (at_clock rows e) = at rows (Some (codes "clock", [])) (option (codes "clock")) false
walk_at now (at_claims rows e) = at rows (Some (codes "claims", [])) (option (codes "claims")) false

abbrev pub place_at : (now : Said) → Standing now → Place
place_at now (amid rows p b f e) = among
place_at now (at_workers rows e) = workers_due
place_at now (at_clock rows e) = clock_due
place_at now (at_claims rows e) = claims_due

-- after a positional word
with_next : (now : Said) (w : Text) (T : List Row) → said_in T ≡ now → said_in (settled_rows app.top.rules (Some (codes "graph", w ∷ [])) T) ≡ more_graphs w now
with_next now w T e = rows_graphs w T ∙ ap (more_graphs w) e

sim_end : (now : Said) (rows : List Row) (p : Option (Text × List Text)) (waiting : Waiting) → IsWhole rows p → said_in (settled_rows app.top.rules p rows) ≡ now → (ws : List Text)
    → Agrees now (at rows p waiting true) ws (said ended ws)
sim_end now rows p waiting f e [] = finishes now rows p waiting true f e
sim_end now rows p waiting f e (x ∷ ws) =
    let T : List Row = settled_rows app.top.rules p rows in
    goes_on now (at rows p waiting true) (at T (Some (codes "graph", x ∷ [])) positional true) x ws (with_graph x (said ended ws)) (step.fault_ended rows p waiting x f) (step.step_ended rows p waiting x)
    (adds_graphs now x (at T (Some (codes "graph", x ∷ [])) positional true) ws (said ended ws)
    (sim_end (more_graphs x now) T (Some (codes "graph", x ∷ [])) positional (step.whole_graph T x) (with_next now x T e) ws))

graph_next : (now : Said) (rows : List Row) (p : Option (Text × List Text)) (b : Bool) (x : Text) (ws : List Text) (o : Option Said) → turn_fault app.top [] (at rows p (resting b) false) x ≡ []
    → walked app.top.rules [] (at rows p (resting b) false) x ≡ at (settled_rows app.top.rules p rows) (Some (codes "graph", x ∷ [])) positional false
    → Agrees (more_graphs x now) (at (settled_rows app.top.rules p rows) (Some (codes "graph", x ∷ [])) positional false) ws o
    → Agrees now (at rows p (resting b) false) (x ∷ ws) (with_graph x o)
graph_next now rows p b x ws o f s h = goes_on now _ _ x ws (with_graph x o) f s (adds_graphs now x _ ws o h)

pub said_plain : (x : ℕ) (xs : Text) (ws : List Text) → (x == 45) ≡ false → said among ((x ∷ xs) ∷ ws) ≡ with_graph (x ∷ xs) (said among ws)
said_plain x xs ws h = rw (h, plain_undashed x xs h) refl

pub workers_plain : (x : ℕ) (xs : Text) (ws : List Text) → (x == 45) ≡ false → said workers_due ((x ∷ xs) ∷ ws) ≡ with_workers (x ∷ xs) (said among ws)
workers_plain x xs ws h = rw (plain_undashed x xs h) refl

pub clock_plain : (x : ℕ) (xs : Text) (ws : List Text) → (x == 45) ≡ false → said clock_due ((x ∷ xs) ∷ ws) ≡ with_clock (x ∷ xs) (said among ws)
clock_plain x xs ws h = rw (plain_undashed x xs h) refl

pub claims_plain : (x : ℕ) (xs : Text) (ws : List Text) → (x == 45) ≡ false → said claims_due ((x ∷ xs) ∷ ws) ≡ with_claims (x ∷ xs) (said among ws)
claims_plain x xs ws h = rw (plain_undashed x xs h) refl

abbrev long_word_of : ℕ → Text → Text
long_word_of z zs = 45 ∷ 45 ∷ z ∷ zs

abbrev pub Follows : List Text → Type 0
Follows ws = (now : Said) (s : Standing now) → Agrees now (walk_at now s) ws (said (place_at now s) ws)

named : (now : Said) (rows : List Row) (p : Option (Text × List Text)) (b : Bool) → IsWhole rows p → said_in (settled_rows app.top.rules p rows) ≡ now → (z : ℕ) (zs name : Text) (ws : List Text)
    → (name_and_value (z ∷ zs)).0 ≡ name → (name_and_value (z ∷ zs)).1 ≡ None → Follows ws
    → Agrees now (at rows p (resting b) false) (long_word_of z zs ∷ ws) (option_said name None (λ next. said next ws))
named now rows p b f e z zs name ws n v follows =
    let T : List Row = settled_rows app.top.rules p rows in
    elim (bytes_eq (codes "workers") name) as (λ c. bytes_eq (codes "workers") name ≡ c → Agrees now (at rows p (resting b) false) (long_word_of z zs ∷ ws) (option_said name None (λ next. said next ws))) [
      | true ↦ λ w. rw w (goes_on now _ (at T (Some (codes "workers", [])) (option (codes "workers")) false) (long_word_of z zs) ws (said workers_due ws) (step.workers_fault rows p b z zs name f n v w) (step.workers_step rows p b z zs name n v w) (follows now (at_workers T e)))
      | false ↦ λ w. elim (bytes_eq (codes "clock") name) as (λ c. bytes_eq (codes "clock") name ≡ c → Agrees now (at rows p (resting b) false) (long_word_of z zs ∷ ws) (option_said name None (λ next. said next ws))) [
        | true ↦ λ k. rw (w, k) (goes_on now _ (at T (Some (codes "clock", [])) (option (codes "clock")) false) (long_word_of z zs) ws (said clock_due ws) (step.clock_fault rows p b z zs name f n v w k) (step.clock_step rows p b z zs name n v w k) (follows now (at_clock T e)))
        | false ↦ λ k. elim (bytes_eq (codes "claims") name) as (λ c. bytes_eq (codes "claims") name ≡ c → Agrees now (at rows p (resting b) false) (long_word_of z zs ∷ ws) (option_said name None (λ next. said next ws))) [
          | true ↦ λ m. rw (w, k, m) (goes_on now _ (at T (Some (codes "claims", [])) (option (codes "claims")) false) (long_word_of z zs) ws (said claims_due ws) (step.claims_fault rows p b z zs name f n v w k m) (step.claims_step rows p b z zs name n v w k m) (follows now (at_claims T e)))
          | false ↦ λ m. elim (bytes_eq (codes "log") name) as (λ c. bytes_eq (codes "log") name ≡ c → Agrees now (at rows p (resting b) false) (long_word_of z zs ∷ ws) (option_said name None (λ next. said next ws))) [
            | true ↦ λ l. rw (w, k, m, l) (goes_on now _ (at (with_values (codes "log") text_reading CommandLine ([] ∷ []) T) None idle false) (long_word_of z zs) ws (with_log (said among ws)) (step.log_fault rows p b z zs name f n v w k m l) (step.log_step rows p b z zs name n v w k m l)
                (adds_logs now _ ws (said among ws) (follows (more_logs [] now) (amid (with_values (codes "log") text_reading CommandLine ([] ∷ []) T) None false refl (rows_logs [] T ∙ ap (more_logs []) e)))))
            | false ↦ λ l. rw (w, k, m, l) (refuses now _ (long_word_of z zs) ws kind.UnknownArgument (step.unknown_fault rows p b z zs name n w k m l))
          ] refl
        ] refl
      ] refl
    ] refl

valued : (now : Said) (rows : List Row) (p : Option (Text × List Text)) (b : Bool) → IsWhole rows p → said_in (settled_rows app.top.rules p rows) ≡ now → (z : ℕ) (zs name value : Text) (ws : List Text)
    → (name_and_value (z ∷ zs)).0 ≡ name → (name_and_value (z ∷ zs)).1 ≡ Some value → Follows ws
    → Agrees now (at rows p (resting b) false) (long_word_of z zs ∷ ws) (option_said name (Some value) (λ next. said next ws))
valued now rows p b f e z zs name value ws n v follows =
    let T : List Row = settled_rows app.top.rules p rows in
    elim (bytes_eq (codes "workers") name) as (λ c. bytes_eq (codes "workers") name ≡ c → Agrees now (at rows p (resting b) false) (long_word_of z zs ∷ ws) (option_said name (Some value) (λ next. said next ws))) [
      | true ↦ λ w. rw w (goes_on now _ (at (with_values (codes "workers") text_reading CommandLine (value ∷ []) T) None idle false) (long_word_of z zs) ws (with_workers value (said among ws)) (step.workers_value_fault rows p b z zs name value f n v w) (step.workers_value_step rows p b z zs name value n v w)
          (adds_workers now value _ ws (said among ws) (follows (more_workers value now) (amid (with_values (codes "workers") text_reading CommandLine (value ∷ []) T) None false refl (rows_workers value T ∙ ap (more_workers value) e)))))
      | false ↦ λ w. elim (bytes_eq (codes "clock") name) as (λ c. bytes_eq (codes "clock") name ≡ c → Agrees now (at rows p (resting b) false) (long_word_of z zs ∷ ws) (option_said name (Some value) (λ next. said next ws))) [
        | true ↦ λ k. rw (w, k) (goes_on now _ (at (with_values (codes "clock") text_reading CommandLine (value ∷ []) T) None idle false) (long_word_of z zs) ws (with_clock value (said among ws)) (step.clock_value_fault rows p b z zs name value f n v w k) (step.clock_value_step rows p b z zs name value n v w k)
            (adds_clocks now value _ ws (said among ws) (follows (more_clocks value now) (amid (with_values (codes "clock") text_reading CommandLine (value ∷ []) T) None false refl (rows_clocks value T ∙ ap (more_clocks value) e)))))
        | false ↦ λ k. elim (bytes_eq (codes "claims") name) as (λ c. bytes_eq (codes "claims") name ≡ c → Agrees now (at rows p (resting b) false) (long_word_of z zs ∷ ws) (option_said name (Some value) (λ next. said next ws))) [
          | true ↦ λ m. rw (w, k, m) (goes_on now _ (at (with_values (codes "claims") text_reading CommandLine (value ∷ []) T) None idle false) (long_word_of z zs) ws (with_claims value (said among ws)) (step.claims_value_fault rows p b z zs name value f n v w k m) (step.claims_value_step rows p b z zs name value n v w k m)
              (adds_claims now value _ ws (said among ws) (follows (more_claims value now) (amid (with_values (codes "claims") text_reading CommandLine (value ∷ []) T) None false refl (rows_claims value T ∙ ap (more_claims value) e)))))
          | false ↦ λ m. elim (bytes_eq (codes "log") name) as (λ c. bytes_eq (codes "log") name ≡ c → Agrees now (at rows p (resting b) false) (long_word_of z zs ∷ ws) (option_said name (Some value) (λ next. said next ws))) [
            | true ↦ λ l. rw (w, k, m) (refuses now _ (long_word_of z zs) ws kind.TooManyValues (step.log_value_fault rows p b z zs name value n v w k m l))
            | false ↦ λ l. rw (w, k, m) (refuses now _ (long_word_of z zs) ws kind.UnknownArgument (step.unknown_fault rows p b z zs name n w k m l))
          ] refl
        ] refl
      ] refl
    ] refl

at_option : (now : Said) (rows : List Row) (p : Option (Text × List Text)) (b : Bool) → IsWhole rows p → said_in (settled_rows app.top.rules p rows) ≡ now → (z : ℕ) (zs : Text) (o : Option Text) (ws : List Text)
    → (name_and_value (z ∷ zs)).1 ≡ o → Follows ws → Agrees now (at rows p (resting b) false) (long_word_of z zs ∷ ws) (option_said (name_and_value (z ∷ zs)).0 o (λ next. said next ws))
at_option now rows p b f e z zs None ws v follows = named now rows p b f e z zs (name_and_value (z ∷ zs)).0 ws refl v follows
at_option now rows p b f e z zs (Some value) ws v follows = valued now rows p b f e z zs (name_and_value (z ∷ zs)).0 value ws refl v follows

pub sim : (ws : List Text) → has_short ws ≡ false → Follows ws
sim [] h now (amid rows p b f e) = finishes now rows p (resting b) false f e
sim [] h now (at_workers rows e) = workers_unfinished now rows
sim [] h now (at_clock rows e) = clock_unfinished now rows
sim [] h now (at_claims rows e) = claims_unfinished now rows
sim (w ∷ ws) h now (amid rows p b f e) = elim (view w) [
  | empty q ↦ rw q (graph_next now rows p b [] ws (said among ws) (step.fault_empty rows p b f) (step.step_empty rows p b)
      (sim ws (rw q at h) (more_graphs [] now) (amid (settled_rows app.top.rules p rows) (Some (codes "graph", [] ∷ [])) true (step.whole_graph (settled_rows app.top.rules p rows) []) (with_next now [] (settled_rows app.top.rules p rows) e))))
  | dash q ↦ rw q (graph_next now rows p b (45 ∷ []) ws (said among ws) (step.fault_dash rows p b f) (step.step_dash rows p b)
      (sim ws (rw q at h) (more_graphs (45 ∷ []) now) (amid (settled_rows app.top.rules p rows) (Some (codes "graph", (45 ∷ []) ∷ [])) true (step.whole_graph (settled_rows app.top.rules p rows) (45 ∷ [])) (with_next now (45 ∷ []) (settled_rows app.top.rules p rows) e))))
  | plain x xs q k ↦ rw (q, said_plain x xs ws k) (graph_next now rows p b (x ∷ xs) ws (said among ws) (step.fault_plain rows p b x xs k f) (step.step_plain rows p b x xs k)
      (sim ws (rw (q, short_plain x xs ws k) at h) (more_graphs (x ∷ xs) now) (amid (settled_rows app.top.rules p rows) (Some (codes "graph", (x ∷ xs) ∷ [])) true (step.whole_graph (settled_rows app.top.rules p rows) (x ∷ xs)) (with_next now (x ∷ xs) (settled_rows app.top.rules p rows) e))))
  | ending q ↦ rw q (goes_on now _ (at rows p (resting b) true) (45 ∷ 45 ∷ []) ws (said ended ws) (step.fault_end rows p b) (step.step_end rows p b) (sim_end now rows p (resting b) f e ws))
  | long z zs q ↦ rw q (at_option now rows p b f e z zs (name_and_value (z ∷ zs)).1 ws refl (sim ws (rw q at h)))
  | short y ys q k ↦ let bad = rw (q, k) at h in absurd cc
]
sim (w ∷ ws) h now (at_workers rows e) = elim (view w) [
  | empty q ↦ rw q (goes_on now _ (at rows (Some (codes "workers", [] ∷ [])) idle false) [] ws (with_workers [] (said among ws)) (step.workers_due_fault_empty rows) (step.workers_due_step_empty rows)
      (adds_workers now [] _ ws (said among ws) (sim ws (rw q at h) (more_workers [] now) (amid rows (Some (codes "workers", [] ∷ [])) false (step.whole_workers rows []) (rows_workers [] rows ∙ ap (more_workers []) e)))))
  | dash q ↦ rw q (goes_on now _ (at rows (Some (codes "workers", (45 ∷ []) ∷ [])) idle false) (45 ∷ []) ws (with_workers (45 ∷ []) (said among ws)) (step.workers_due_fault_dash rows) (step.workers_due_step_dash rows)
      (adds_workers now (45 ∷ []) _ ws (said among ws) (sim ws (rw q at h) (more_workers (45 ∷ []) now) (amid rows (Some (codes "workers", (45 ∷ []) ∷ [])) false (step.whole_workers rows (45 ∷ [])) (rows_workers (45 ∷ []) rows ∙ ap (more_workers (45 ∷ [])) e)))))
  | plain x xs q k ↦ rw (q, workers_plain x xs ws k) (goes_on now _ (at rows (Some (codes "workers", (x ∷ xs) ∷ [])) idle false) (x ∷ xs) ws (with_workers (x ∷ xs) (said among ws)) (step.workers_due_fault rows x xs k) (step.workers_due_step rows x xs k)
      (adds_workers now (x ∷ xs) _ ws (said among ws) (sim ws (rw (q, short_plain x xs ws k) at h) (more_workers (x ∷ xs) now) (amid rows (Some (codes "workers", (x ∷ xs) ∷ [])) false (step.whole_workers rows (x ∷ xs)) (rows_workers (x ∷ xs) rows ∙ ap (more_workers (x ∷ xs)) e)))))
  | ending q ↦ rw q (goes_on now _ (at rows (Some (codes "workers", [])) (option (codes "workers")) true) (45 ∷ 45 ∷ []) ws None (step.workers_due_fault_end rows) (step.workers_due_step_end rows) (workers_doomed now rows ws))
  | long z zs q ↦ rw q (stops now _ (long_word_of z zs) ws (step.workers_due_fault_long rows z zs))
  | short y ys q k ↦ let bad = rw (q, k) at h in absurd cc
]
sim (w ∷ ws) h now (at_clock rows e) = elim (view w) [
  | empty q ↦ rw q (goes_on now _ (at rows (Some (codes "clock", [] ∷ [])) idle false) [] ws (with_clock [] (said among ws)) (step.clock_due_fault_empty rows) (step.clock_due_step_empty rows)
      (adds_clocks now [] _ ws (said among ws) (sim ws (rw q at h) (more_clocks [] now) (amid rows (Some (codes "clock", [] ∷ [])) false (step.whole_clock rows []) (rows_clocks [] rows ∙ ap (more_clocks []) e)))))
  | dash q ↦ rw q (goes_on now _ (at rows (Some (codes "clock", (45 ∷ []) ∷ [])) idle false) (45 ∷ []) ws (with_clock (45 ∷ []) (said among ws)) (step.clock_due_fault_dash rows) (step.clock_due_step_dash rows)
      (adds_clocks now (45 ∷ []) _ ws (said among ws) (sim ws (rw q at h) (more_clocks (45 ∷ []) now) (amid rows (Some (codes "clock", (45 ∷ []) ∷ [])) false (step.whole_clock rows (45 ∷ [])) (rows_clocks (45 ∷ []) rows ∙ ap (more_clocks (45 ∷ [])) e)))))
  | plain x xs q k ↦ rw (q, clock_plain x xs ws k) (goes_on now _ (at rows (Some (codes "clock", (x ∷ xs) ∷ [])) idle false) (x ∷ xs) ws (with_clock (x ∷ xs) (said among ws)) (step.clock_due_fault rows x xs k) (step.clock_due_step rows x xs k)
      (adds_clocks now (x ∷ xs) _ ws (said among ws) (sim ws (rw (q, short_plain x xs ws k) at h) (more_clocks (x ∷ xs) now) (amid rows (Some (codes "clock", (x ∷ xs) ∷ [])) false (step.whole_clock rows (x ∷ xs)) (rows_clocks (x ∷ xs) rows ∙ ap (more_clocks (x ∷ xs)) e)))))
  | ending q ↦ rw q (goes_on now _ (at rows (Some (codes "clock", [])) (option (codes "clock")) true) (45 ∷ 45 ∷ []) ws None (step.clock_due_fault_end rows) (step.clock_due_step_end rows) (clock_doomed now rows ws))
  | long z zs q ↦ rw q (stops now _ (long_word_of z zs) ws (step.clock_due_fault_long rows z zs))
  | short y ys q k ↦ let bad = rw (q, k) at h in absurd cc
]
sim (w ∷ ws) h now (at_claims rows e) = elim (view w) [
  | empty q ↦ rw q (goes_on now _ (at rows (Some (codes "claims", [] ∷ [])) idle false) [] ws (with_claims [] (said among ws)) (step.claims_due_fault_empty rows) (step.claims_due_step_empty rows)
      (adds_claims now [] _ ws (said among ws) (sim ws (rw q at h) (more_claims [] now) (amid rows (Some (codes "claims", [] ∷ [])) false (step.whole_claims rows []) (rows_claims [] rows ∙ ap (more_claims []) e)))))
  | dash q ↦ rw q (goes_on now _ (at rows (Some (codes "claims", (45 ∷ []) ∷ [])) idle false) (45 ∷ []) ws (with_claims (45 ∷ []) (said among ws)) (step.claims_due_fault_dash rows) (step.claims_due_step_dash rows)
      (adds_claims now (45 ∷ []) _ ws (said among ws) (sim ws (rw q at h) (more_claims (45 ∷ []) now) (amid rows (Some (codes "claims", (45 ∷ []) ∷ [])) false (step.whole_claims rows (45 ∷ [])) (rows_claims (45 ∷ []) rows ∙ ap (more_claims (45 ∷ [])) e)))))
  | plain x xs q k ↦ rw (q, claims_plain x xs ws k) (goes_on now _ (at rows (Some (codes "claims", (x ∷ xs) ∷ [])) idle false) (x ∷ xs) ws (with_claims (x ∷ xs) (said among ws)) (step.claims_due_fault rows x xs k) (step.claims_due_step rows x xs k)
      (adds_claims now (x ∷ xs) _ ws (said among ws) (sim ws (rw (q, short_plain x xs ws k) at h) (more_claims (x ∷ xs) now) (amid rows (Some (codes "claims", (x ∷ xs) ∷ [])) false (step.whole_claims rows (x ∷ xs)) (rows_claims (x ∷ xs) rows ∙ ap (more_claims (x ∷ xs)) e)))))
  | ending q ↦ rw q (goes_on now _ (at rows (Some (codes "claims", [])) (option (codes "claims")) true) (45 ∷ 45 ∷ []) ws None (step.claims_due_fault_end rows) (step.claims_due_step_end rows) (claims_doomed now rows ws))
  | long z zs q ↦ rw q (stops now _ (long_word_of z zs) ws (step.claims_due_fault_long rows z zs))
  | short y ys q k ↦ let bad = rw (q, k) at h in absurd cc
]
