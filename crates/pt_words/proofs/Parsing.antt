-- What a parse comes to, by what the words say.
use Rattle.std.proofs.Common.{◌≡◌, List, [], ◌∷◌, Bool, true, false, Option, Some, None, refl, sym, ap, ap₂, ◌∙◌, fold, cond}
use Rattle.std.proofs.Math.Bool.{or-true}
use Rattle.std.specs.Prelude.{is_some}
use Rattle.clap.specs.Walk.{Row, Walk, finished, walked, with_default, idle}
use Rattle.clap.specs.Simple.{App, entered, matches_of}
use Rattle.clap.specs.Faults.{check_fault, defaults_fault, entered_fault, fault_of, settle_fault, walk_fault}
use Rattle.clap.specs.Kinds.{Kinds, or_else}
use Rattle.pt_words.specs.App.{words_app}
use Rattle.clap.specs.Lexer.{name_and_value}
use Rattle.pt_words.specs.Said.{Place, Said, among, claims_due, clock_due, no_words, option_said, said, with_claims, with_clock, with_graph, with_workers, workers_due}
use Rattle.pt_words.specs.Short.{has_short}
use Rattle.pt_words.proofs.Agreeing.{Agrees, amid, claims_plain, clock_plain, last_rows, rest_fault, said_in, said_plain, short_plain, sim, workers_plain}
use Rattle.pt_words.proofs.Shapes.{view, empty, dash, plain, ending, long, short}
use Rattle.pt_words.proofs.Steps.{Text, app, at}

no_more : (a : Kinds) → or_else a [] ≡ a
no_more [] = refl
no_more (k ∷ ks) = refl

no_defaults : (rows : List Row) → defaults_fault rows app.top.rules ≡ []
unfolding defaults_fault
no_defaults rows = simp or-true

no_checks : (rows : List Row) (o : Option (Text × List Text)) → check_fault app.top rows (is_some (entered app o)) ≡ []
no_checks rows None = refl
no_checks rows (Some q) = refl

no_entered : (o : Option (Text × List Text)) → entered_fault app o ≡ []
no_entered None = refl
no_entered (Some q) = refl

abbrev end : List Text → Walk
end ws = fold (walked app.top.rules []) (at [] None idle false) ws

pub whole : (ws : List Text) → fault_of words_app ws ≡ rest_fault (at [] None idle false) ws
whole ws =
    ap (λ t. or_else (walk_fault app.top [] (at [] None idle false) ws) (or_else t (or_else (settle_fault app.top.rules false (end ws).held) (or_else (defaults_fault (last_rows (at [] None idle false) ws) app.top.rules) (check_fault app.top (finished app.top.rules (end ws).held) (is_some (entered app (end ws).stopped))))))) (no_entered (end ws).stopped)
    ∙ ap₂ (λ d c. or_else (walk_fault app.top [] (at [] None idle false) ws) (or_else (settle_fault app.top.rules false (end ws).held) (or_else d c))) (no_defaults (last_rows (at [] None idle false) ws)) (no_checks (finished app.top.rules (end ws).held) (end ws).stopped)
    ∙ ap (or_else (walk_fault app.top [] (at [] None idle false) ws)) (no_more (settle_fault app.top.rules false (end ws).held))

either : (b : Bool) (rows : List Row) → cond b rows rows ≡ rows
either true rows = refl
either false rows = refl

same_rows : (rows : List Row) → fold with_default rows app.top.rules ≡ rows
same_rows rows = simp either

pub rows_are : (ws : List Text) → matches_of words_app ws ≡ last_rows (at [] None idle false) ws
rows_are ws = same_rows (last_rows (at [] None idle false) ws)

agrees : (ws : List Text) → has_short ws ≡ false → Agrees no_words (at [] None idle false) ws (said among ws)
agrees ws h = sim ws h no_words (amid [] None false refl refl)

pub record Parses (ws : List Text) (o : Option Said) : Type 0 where
  pub none : o ≡ None → fault_of words_app ws ≡ [] → ⊥
  pub some : (s : Said) → o ≡ Some s → (fault_of words_app ws ≡ []) × (said_in (matches_of words_app ws) ≡ s)

by_walk : (ws : List Text) (o : Option Said) → Agrees no_words (at [] None idle false) ws o → Parses ws o
unfolding Agrees
by_walk ws None h = record { none = λ _ e. h (sym (whole ws) ∙ e); some = λ s e. absurd cc }
by_walk ws (Some k) h = record { none = λ e. absurd cc; some = λ s e. (whole ws ∙ h.0, ap said_in (rows_are ws) ∙ h.1 ∙ cc) }

pub parses : (ws : List Text) → has_short ws ≡ false → Parses ws (said among ws)
parses ws h = by_walk ws (said among ws) (agrees ws h)

none_else : {X : Type 0} (b : Bool) (x : X) → cond b x x ≡ x
none_else true x = refl
none_else false x = refl

option_none : (name : Text) (v : Option Text) (next : Place → Option Said) → next among ≡ None → next workers_due ≡ None → next clock_due ≡ None → next claims_due ≡ None → option_said name v next ≡ None
option_none name None next a w k m = simp (a, w, k, m, none_else)
option_none name (Some value) next a w k m = simp (a, none_else)

-- words of which one is short, before `--`, are refused
short_said : (ws : List Text) → has_short ws ≡ true → (said among ws ≡ None) × (said workers_due ws ≡ None) × (said clock_due ws ≡ None) × (said claims_due ws ≡ None)
short_said [] h = absurd cc
short_said (w ∷ ws) h = elim (view w) [
  | empty q ↦ rw q (let later = short_said ws (rw q at h) in (ap (with_graph []) later.0, ap (with_workers []) later.0, ap (with_clock []) later.0, ap (with_claims []) later.0))
  | dash q ↦ rw q (let later = short_said ws (rw q at h) in (ap (with_graph (45 ∷ [])) later.0, ap (with_workers (45 ∷ [])) later.0, ap (with_clock (45 ∷ [])) later.0, ap (with_claims (45 ∷ [])) later.0))
  | plain x xs q k ↦ rw q (let later = short_said ws (rw (q, short_plain x xs ws k) at h) in (
    said_plain x xs ws k ∙ ap (with_graph (x ∷ xs)) later.0,
    workers_plain x xs ws k ∙ ap (with_workers (x ∷ xs)) later.0,
    clock_plain x xs ws k ∙ ap (with_clock (x ∷ xs)) later.0,
    claims_plain x xs ws k ∙ ap (with_claims (x ∷ xs)) later.0,
  ))
  | ending q ↦ let bad = rw q at h in absurd cc
  | long z zs q ↦ rw q (let later = short_said ws (rw q at h) in (option_none (name_and_value (z ∷ zs)).0 (name_and_value (z ∷ zs)).1 (λ next. said next ws) later.0 later.1 later.2 later.3, refl, refl, refl))
  | short y ys q k ↦ rw q (rw k refl, refl, refl, refl)
]

pub short_refused : (ws : List Text) → has_short ws ≡ true → said among ws ≡ None
short_refused ws h = (short_said ws h).0

-- what an answer needs of the words, where clap's parse gives matches and where it fails
pub at_ok : (a : App) (ws : List Text) (rows : List Row) (t : Said) → a ≡ words_app → has_short ws ≡ false → fault_of a ws ≡ [] → rows ≡ matches_of a ws → t ≡ said_in rows → said among ws ≡ Some t
at_ok a ws rows t is h none got viewed =
    let p = parses ws h in
    let none' : fault_of words_app ws ≡ [] = ap (λ b. fault_of b ws) (sym is) ∙ none in
    let rows' : t ≡ said_in (matches_of words_app ws) = viewed ∙ ap said_in (got ∙ ap (λ b. matches_of b ws) is) in
    elim (said among ws) as (λ o. said among ws ≡ o → o ≡ Some t) [
      | None ↦ λ e. absurd (p.none e none')
      | Some s ↦ λ e. ap Some (sym (rows' ∙ (p.some s e).1))
    ] refl

pub at_err : (a : App) (ws : List Text) → a ≡ words_app → has_short ws ≡ false → (fault_of a ws ≡ [] → ⊥) → said among ws ≡ None
at_err a ws is h some =
    let p = parses ws h in
    elim (said among ws) as (λ o. said among ws ≡ o → o ≡ None) [
      | None ↦ λ e. refl
      | Some s ↦ λ e. absurd (some (ap (λ b. fault_of b ws) is ∙ (p.some s e).0))
    ] refl
