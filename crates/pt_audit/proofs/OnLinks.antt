-- A legal turn takes and sends on links of the graph alone.
use Rattle.std.proofs.Common.{◌≡◌, ℕ, ◌<◌, ◌≤◌, ◌==◌, Bool, true, List, [], ◌∷◌, Option, Some, None, refl, sym, ap, subst, ◌∙◌, ⊎_elim, arith, length}
use Rattle.std.proofs.lemmas.Bool.{cases_lt}
use Rattle.std.proofs.lemmas.Option.{slice_get_within}
use Rattle.std.specs.List.{cons_option}
use Rattle.pt_types.specs.declared.firing.OnLink.{OnLink}
use Rattle.pt_types.specs.declared.graph.Graph.{Graph}
use Rattle.pt_types.specs.declared.rows.Row.{Row}
use Rattle.pt_types.specs.Ports.{when}
use Rattle.pt_semantics.specs.Bounds.{link_bound}
use Rattle.pt_semantics.specs.Closing.{on_link}
use Rattle.pt_semantics.specs.Cycles.{HasLevels}
use Rattle.pt_semantics.specs.Entering.{after_rows}
use Rattle.pt_semantics.specs.History.{Legal}
use Rattle.pt_semantics.specs.Lists.{Each}
use Rattle.pt_semantics.specs.Platform.{State, opened}
use Rattle.pt_semantics.specs.Rows.{FitRows}
use Rattle.pt_semantics.specs.Taking.{IsOnTime, Takes, after_message, with_taken}
use Rattle.pt_semantics.specs.Turn.{IsTurn, Turn}
use Rattle.pt_semantics.specs.Wired.{IsWired}
use Rattle.pt_laws.proofs.Home.{home_holds}
use Rattle.pt_fixed_order_laws.specs.Sound.{IsForeign, SendsNothingElse}
use Rattle.pt_fixed_order_laws.proofs.Sound.{Own, turn_own}
use Rattle.pt_audit.proofs.LoggedTurns.{same_number}

-- a message is on a link of the graph
abbrev pub IsOn : Graph → OnLink → Type 0
IsOn g x = x.link < length g.links

-- a turn takes and sends on links of the graph alone
pub record IsOnLinks (g : Graph) (t : Turn) : Type 0 where
  pub taken : Each (IsOn g) t.taken
  pub sent : Each (IsOn g) t.sent

takes_on : (g : Graph) (level : ℕ → ℕ) (i : ℕ) (s : State) (ms : List OnLink) (late : Bool) (new : State) → Takes g level i s ms late new → Each (IsOn g) ms
takes_on g level i s [] late new h = tt
takes_on g level i s (m ∷ ms) late new (link, at, home, orderly, next) = (
  slice_get_within g.links m.link link at,
  ⊎_elim
      (λ (on : IsOnTime s.reading (link_bound g link) m.message × Takes g level i (after_message s m.link link m.message) ms late new). takes_on g level i (after_message s m.link link m.message) ms late new on.1)
      (λ (off : (IsOnTime s.reading (link_bound g link) m.message → ⊥) × (ms ≡ []) × (late ≡ true) × (new ≡ with_taken s m.link m.message)). subst (Each (IsOn g)) (sym off.1) tt)
      next,
)

never : {X : Type 0} (x : X) (xs : List X) → x ∷ xs ≡ [] → ⊥
never x xs e = cc

tail_none : {X : Type 0} (o : Option X) (xs : List X) → cons_option o xs ≡ [] → xs ≡ []
tail_none None xs e = e
tail_none (Some x) xs e = absurd (never x xs e)

-- no message on a link past these numbers: none is on another
below : (n : ℕ) (xs : List OnLink) → ((l : ℕ) → n ≤ l → on_link l xs ≡ []) → Each (λ (x : OnLink). x.link < n) xs
below n [] none = tt
below n (x ∷ xs) none = (
  ⊎_elim
      (λ (lt : x.link < n). lt)
      (λ (past : n ≤ x.link). absurd (never x.message (on_link x.link xs) (sym (ap (λ (b : Bool). cons_option (when b (Some x.message)) (on_link x.link xs)) (same_number x.link x.link refl)) ∙ none x.link past)))
      (cases_lt x.link n),
  below n xs (λ l past. tail_none (when (x.link == l) (Some x.message)) (on_link l xs) (none l past)),
)

-- a link past the last leads from no platform
foreign : (g : Graph) (i l : ℕ) → length g.links ≤ l → IsForeign g i l
foreign g i l past link at home = let lt = slice_get_within g.links l link at in absurd (omega (arith, past, lt))

module _ (g : Graph) (level : ℕ → ℕ) (i : ℕ) (rows : ℕ → List Row) (wired : IsWired g) (up : HasLevels g level) (fits : FitRows g rows) where
  one : (s mid : State) (turn : Turn) (late : Bool) → IsTurn g level i s turn late mid → Own g level i s turn mid → IsOnLinks g turn
  one s mid turn late is own = record {
    taken = takes_on g level i (after_rows is.posted turn.last) turn.taken late is.got is.takes;
    sent = below (length g.links) turn.sent (λ l past. own.sent l (foreign g i l past));
  }

  -- a state to which a legal history leads, and a turn from it
  own_turn : (all : List Turn) (s mid : State) (turn : Turn) (late : Bool) → Legal g level i (opened g i rows) all s → SendsNothingElse g i s → IsTurn g level i s turn late mid → Own g level i s turn mid
  own_turn all s mid turn late legal none is = turn_own g level i s mid turn late (home_holds g level i rows all s wired up fits legal).busy none is

  -- turns that follow a legal history, which `before` leads on
  walk : (s new : State) (turns : List Turn) → ((ts : List Turn) (z : State) → Legal g level i s ts z → (all : List Turn) × Legal g level i (opened g i rows) all z) → SendsNothingElse g i s → Legal g level i s turns new → Each (IsOnLinks g) turns
  walk s new [] before none legal = tt
  walk s new (turn ∷ []) before none (late, mid, is, last, rest) =
      let here = before [] s refl in
      (one s mid turn late is (own_turn here.0 s mid turn late here.1 none is), tt)
  walk s new (turn ∷ next ∷ more) before none (late, mid, is, last, rest) =
      let here = before [] s refl in
      let own = own_turn here.0 s mid turn late here.1 none is in (
        one s mid turn late is own,
        walk mid new (next ∷ more) (λ ts z legal. before (turn ∷ ts) z (late, mid, is, (λ e. absurd (never next more (last e))), legal)) own.left rest,
      )

  pub on_links : (turns : List Turn) (s : State) → Legal g level i (opened g i rows) turns s → Each (IsOnLinks g) turns
  on_links turns s legal = walk (opened g i rows) s turns (λ ts z h. (ts, h)) (λ l f. refl) legal
