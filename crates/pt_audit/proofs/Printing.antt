-- The log of finished platforms is lawful.
use Rattle.std.proofs.Common.{◌≡◌, ℕ, zero, suc, ◌<◌, ◌≤◌, List, [], ◌∷◌, ◌++◌, Option, Some, refl, sym, ap, subst, ◌∙◌, length, slice_get}
use Rattle.std.specs.Prelude.{option_map, unwrap_or}
use Rattle.pt_types.specs.declared.firing.ActorFiring.{ActorFiring}
use Rattle.pt_types.specs.declared.firing.OnLink.{OnLink}
use Rattle.pt_types.specs.declared.graph.Graph.{Graph}
use Rattle.pt_types.specs.declared.rows.Row.{Row}
use Rattle.pt_semantics.specs.History.{IsLegal}
use Rattle.pt_semantics.specs.Linked.{AreLinked, IsFinished}
use Rattle.pt_semantics.specs.Lists.{Each}
use Rattle.pt_semantics.specs.Meaning.{IsMeaning}
use Rattle.pt_semantics.specs.Platform.{State, opened}
use Rattle.pt_semantics.specs.Tables.{tables_text}
use Rattle.pt_semantics.specs.Turn.{Turn}
use Rattle.pt_semantics.proofs.LawfulEdges.{wired}
use Rattle.pt_semantics.proofs.Longest.{levels_grow}
use Rattle.pt_causality.specs.Ranked.{level_of, rank_of}
use Rattle.pt_offsets.specs.Plans.{IsAdmitted, Parts}
use Rattle.pt_turn.specs.All.{histories_of}
use Rattle.pt_turn.specs.Platforms.{PlatformView, state_at}
use Rattle.pt_tables.specs.Held.{IsHeldMessage, IsHeldTurn}
use Rattle.pt_tables.specs.Log.{log_text}
use Rattle.pt_tables.specs.Platforms.{histories}
use Rattle.pt_confluence.specs.Gathered.{HaveFinished}
use Rattle.pt_audit.specs.Parsing.Hints.{IsLoggable, IsLoggableOn}
use Rattle.pt_audit.specs.LawfulLogs.{IsLawfulLog, history_in}
use Rattle.pt_audit.specs.Limits.{log_limit}
use Rattle.pt_audit.specs.Theorems.{HaveLegal, PrintedLogsAreLawful}
use Rattle.pt_audit.proofs.Judged.{member}
use Rattle.pt_audit.proofs.OnLinks.{IsOn, IsOnLinks, on_links}

-- a message that 64 bits hold, on a link of the graph
loggable_on : (g : Graph) (xs : List OnLink) → Each (IsOn g) xs → Each IsHeldMessage xs → Each (IsLoggableOn g) xs
loggable_on g [] on held = tt
loggable_on g (x ∷ xs) on held = (record { link = on.0; tag = held.0.tag; value = held.0.value }, loggable_on g xs on.1 held.1)

loggable : (g : Graph) (i : ℕ) (turns : List Turn) → i < length g.platforms → Each (IsOnLinks g) turns → Each IsHeldTurn turns → Each (IsLoggable g i) turns
loggable g i [] lt on held = tt
loggable g i (t ∷ turns) lt on held = (
  record {
    platform = lt;
    first = held.0.first;
    last = held.0.last;
    count = held.0.count;
    posted = held.0.lists.posted;
    taken = loggable_on g t.taken on.0.taken held.0.lists.taken;
    sent = loggable_on g t.sent on.0.sent held.0.lists.sent;
  },
  loggable g i turns lt on.1 held.1,
)

-- the history at a place
same_history : (platforms : List PlatformView) (i : ℕ) → history_in (histories platforms) i ≡ histories_of platforms i
same_history [] i = refl
same_history (v ∷ platforms) zero = refl
same_history (v ∷ platforms) (suc i) = same_history platforms i

each_history : (platforms : List PlatformView) (i : ℕ) (v : PlatformView) → slice_get platforms i ≡ Some v → Each (Each IsHeldTurn) (histories platforms) → Each IsHeldTurn v.turns
each_history platforms i v at held = go platforms i at held
  where
    go : (ps : List PlatformView) (k : ℕ) → slice_get ps k ≡ Some v → Each (Each IsHeldTurn) (histories ps) → Each IsHeldTurn v.turns
    go [] k at held = cc
    go (w ∷ ps) zero at held = let same : w ≡ v = cc in subst (λ (u : PlatformView). Each IsHeldTurn u.turns) same held.0
    go (w ∷ ps) (suc k) at held = go ps k at held.1

count_of : (platforms : List PlatformView) → length (histories platforms) ≡ length platforms
count_of [] = refl
count_of (v ∷ platforms) = ap suc (count_of platforms)

module _ (plan : Parts) (rows : ℕ → List Row) (platforms : List PlatformView) (firings : List ActorFiring) (bytes : List ℕ) (admitted : IsAdmitted plan) (finished : HaveFinished plan rows platforms) (legal : HaveLegal plan rows platforms) (held : Each (Each IsHeldTurn) (histories platforms)) where
  -- the platform of a number
  view : (i : ℕ) → i < length plan.graph.platforms → (v : PlatformView) × (slice_get platforms i ≡ Some v)
  view i lt = member platforms i (subst (λ n. i < n) (sym finished.all.count) lt)

  -- the state of each platform
  abbrev ends : ℕ → State
  ends i = unwrap_or (option_map state_at (slice_get platforms i)) (opened plan.graph i rows)

  ends_at : (i : ℕ) (v : PlatformView) → slice_get platforms i ≡ Some v → ends i ≡ state_at v
  ends_at i v at = ap (λ (o : Option PlatformView). unwrap_or (option_map state_at o) (opened plan.graph i rows)) at

  history_at : (i : ℕ) (v : PlatformView) → slice_get platforms i ≡ Some v → history_in (histories platforms) i ≡ v.turns
  history_at i v at = same_history platforms i ∙ ap (λ (o : Option PlatformView). unwrap_or (option_map (λ (w : PlatformView). w.turns) o) []) at

  legal_at : (i : ℕ) → i < length plan.graph.platforms → IsLegal plan.graph (level_of plan.ranks) i rows (history_in (histories platforms) i) (ends i)
  legal_at i lt =
      let (v, at) = view i lt in
      subst (λ (turns : List Turn). IsLegal plan.graph (level_of plan.ranks) i rows turns (ends i)) (sym (history_at i v at))
      (subst (λ (s : State). IsLegal plan.graph (level_of plan.ranks) i rows v.turns s) (sym (ends_at i v at)) (legal i v at))

  finished_at : (i : ℕ) → i < length plan.graph.platforms → IsFinished plan.graph i (ends i)
  finished_at i lt = let (v, at) = view i lt in subst (IsFinished plan.graph i) (sym (ends_at i v at)) (finished.finished i v at)

  held_at : (i : ℕ) → i < length plan.graph.platforms → Each (IsLoggable plan.graph i) (history_in (histories platforms) i)
  held_at i lt =
      let (v, at) = view i lt in
      subst (Each (IsLoggable plan.graph i)) (sym (history_at i v at))
      (loggable plan.graph i v.turns lt
      (on_links plan.graph (level_of plan.ranks) i rows (wired plan.graph admitted.lawful) (levels_grow plan.graph (level_of plan.ranks) admitted.levels) finished.fit v.turns (state_at v) (legal i v at).leads)
      (each_history platforms i v at held))

  linked : AreLinked plan.graph (history_in (histories platforms))
  linked = let same : histories_of platforms ≡ history_in (histories platforms) = λ j i. sym (same_history platforms i) j in subst (AreLinked plan.graph) same finished.linked

  lawful : IsMeaning plan.graph (rank_of plan.ranks) rows firings → bytes ≡ tables_text plan.graph firings ++ log_text plan.graph (histories platforms) → length bytes ≤ log_limit plan.graph.claims → IsLawfulLog plan rows bytes
  lawful meaning text short = record {
    short = short;
    histories = histories platforms;
    all = count_of platforms ∙ finished.all.count;
    ends = ends;
    legal = legal_at;
    finished = finished_at;
    linked = linked;
    held = held_at;
    firings = firings;
    meaning = meaning;
    text = text;
  }

pub printed_is_lawful : PrintedLogsAreLawful
printed_is_lawful plan rows platforms firings bytes admitted finished legal held meaning text short = lawful plan rows platforms firings bytes admitted finished legal held meaning text short
