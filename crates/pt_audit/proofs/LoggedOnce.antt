-- The blocks of a log are the texts of one list of lawful turns at most: a block and the state before it fix a turn.
use Rattle.std.proofs.Common.{◌≡◌, ℕ, List, [], ◌∷◌, ◌++◌, sym, subst, ◌∙◌, append-nil, append_assoc, flat_map, refl}
use Rattle.pt_types.specs.declared.graph.Graph.{Graph}
use Rattle.pt_types.specs.declared.rows.Row.{Row}
use Rattle.pt_types.specs.Lawful.{IsLawful}
use Rattle.pt_semantics.specs.Platform.{State, opened}
use Rattle.pt_semantics.specs.Turn.{IsTurn, Turn}
use Rattle.pt_audit.specs.Parsing.Lines.{Block}
use Rattle.pt_audit.proofs.Parsing.SameTexts.{HaveSameHints, same_hints}
use Rattle.pt_audit.proofs.Remaking.Tidy.{history_tidy}
use Rattle.pt_audit.proofs.Remaking.Logged.{one_turn}
use Rattle.pt_audit.specs.Logged.{AreLawful, AreLogged, LoggedTurn, turns_of}
use Rattle.pt_audit.proofs.OneState.{Parted, legal_state}
use Rattle.pt_audit.proofs.LoggedTurns.{LastLogged, before_ends, lawful_before, parted, logged_last}

-- what holds of a front, and with each list also of that list and one more member, holds of the front and all that follows
from_front : {X : Type 0} (P : List X → Type 0) → ((xs : List X) (x : X) → P xs → P (xs ++ x ∷ [])) → (front rest : List X) → P front → P (front ++ rest)
from_front P push front [] h = subst P (sym (append-nil front)) h
from_front P push front (x ∷ rest) h = subst P (append_assoc front (x ∷ []) rest) (from_front P push (front ++ x ∷ []) rest (push front x h))

module _ (g : Graph) (level : ℕ → ℕ) (rows : ℕ → List Row) (lawful_graph : IsLawful g) where
  -- two last turns with the same hints, after the same turns of one platform
  last_once : (p q : ℕ) (xs ys : List Turn) (t u : Turn) (a b : State) → xs ≡ ys → Parted g level p (opened g p rows) xs t a → Parted g level q (opened g q rows) ys u b → HaveSameHints p q t u → t ≡ u
  last_once p q xs ys t u a b before one other same =
      let there : Parted g level p (opened g p rows) ys u b = subst (λ n. Parted g level n (opened g n rows) ys u b) (sym same.platform) other in
      let here : Parted g level p (opened g p rows) xs u b = subst (λ (zs : List Turn). Parted g level p (opened g p rows) zs u b) (sym before) there in
      let mid : here.mid ≡ one.mid = legal_state g level p (opened g p rows) xs here.mid one.mid here.leads one.leads in
      let tidy = history_tidy g level p rows xs one.mid one.leads in
      (one_turn g level p p q (flat_map (λ (turn : Turn). turn.claimed) xs) one.mid a b t u one.late here.late tidy one.is (subst (λ (s : State). IsTurn g level p s u here.late b) mid here.is) same).0

  abbrev AreOnce : List Block → Type 0
  AreOnce blocks = (some others : List LoggedTurn) (ends theirs : ℕ → State) → AreLogged g blocks some → AreLawful g level rows some ends → AreLogged g blocks others → AreLawful g level rows others theirs → some ≡ others

  none_once : AreOnce []
  none_once [] [] ends theirs are lawful they too = refl
  none_once [] (u ∷ others) ends theirs are lawful they too = absurd they
  none_once (t ∷ some) others ends theirs are lawful they too = absurd are

  one_more : (blocks : List Block) (b : Block) → AreOnce blocks → AreOnce (blocks ++ b ∷ [])
  one_more blocks b once some others ends theirs are lawful they too =
      let x : LastLogged g blocks b some = logged_last g blocks b some are in
      let y : LastLogged g blocks b others = logged_last g blocks b others they in
      let mine : AreLawful g level rows (x.front ++ x.turn ∷ []) ends = subst (λ (ts : List LoggedTurn). AreLawful g level rows ts ends) x.is lawful in
      let other : AreLawful g level rows (y.front ++ y.turn ∷ []) theirs = subst (λ (ts : List LoggedTurn). AreLawful g level rows ts theirs) y.is too in
      let front : x.front ≡ y.front = once x.front y.front (before_ends g level rows x.front x.turn ends x.loggable.platform mine) (before_ends g level rows y.front y.turn theirs y.loggable.platform other)
      x.before (lawful_before g level rows x.front x.turn ends x.loggable.platform mine) y.before (lawful_before g level rows y.front y.turn theirs y.loggable.platform other) in
      let same = same_hints g lawful_graph x.turn.platform y.turn.platform x.turn.turn y.turn.turn x.loggable y.loggable (sym x.text ∙ y.text) in
      let turns : turns_of x.turn.platform x.front ≡ turns_of y.turn.platform y.front = λ i. turns_of (same.platform i) (front i) in
      let turn : x.turn.turn ≡ y.turn.turn = last_once x.turn.platform y.turn.platform (turns_of x.turn.platform x.front) (turns_of y.turn.platform y.front) x.turn.turn y.turn.turn (ends x.turn.platform) (theirs y.turn.platform) turns
      (parted g level rows x.front x.turn ends x.loggable.platform mine) (parted g level rows y.front y.turn theirs y.loggable.platform other) same in
      let last : x.turn ≡ y.turn = λ i. record { platform = same.platform i; turn = turn i } in
      x.is ∙ (λ i. front i ++ last i ∷ []) ∙ sym y.is

  pub logged_once : (blocks : List Block) (some others : List LoggedTurn) (ends theirs : ℕ → State) → AreLogged g blocks some → AreLawful g level rows some ends → AreLogged g blocks others → AreLawful g level rows others theirs → some ≡ others
  logged_once blocks = from_front AreOnce one_more [] blocks none_once
