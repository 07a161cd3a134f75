-- What all platforms of a plan claimed.
use Rattle.std.proofs.Common.{◌≡◌, ◌≢◌, ◌==◌, ◌<◌, ◌+◌, ℕ, zero, suc, Bool, true, false, if◌then◌else◌, List, [], ◌∷◌, ◌++◌, Option, Some, length, arith, refl, sym, ap, subst, ◌∙◌, inl, slice_get, unwrap_or, option_map, eqb-true, append-nil, take, slice_index_or}
use Rattle.std.specs.List.{filter_map, flat_map}
use Rattle.std.proofs.Math.Path.{fun_ext}
use Rattle.std.proofs.lemmas.List.{take_more}
use Rattle.std.proofs.lemmas.List.Elements.{filter_map-append}
use Rattle.pt_types.specs.declared.firing.ActorFiring.{ActorFiring}
use Rattle.pt_types.specs.declared.graph.Graph.{Graph}
use Rattle.pt_types.specs.declared.graph.Unit.{Unit}
use Rattle.pt_types.specs.declared.rows.Row.{Row}
use Rattle.pt_semantics.specs.Lists.{IsIn}
use Rattle.pt_semantics.specs.Behaviours.{Behaves, Everywhere}
use Rattle.pt_types.specs.Lookups.{platform_of}
use Rattle.pt_semantics.specs.History.{IsLegal, Legal, claims_of, of_unit}
use Rattle.pt_semantics.specs.Linked.{IsFinished, all_claims}
use Rattle.pt_semantics.specs.Meaning.{IsMeaning, opening}
use Rattle.pt_semantics.specs.Platform.{State, opened}
use Rattle.pt_semantics.specs.Turn.{Turn}
use Rattle.pt_semantics.specs.Wired.{IsWired}
use Rattle.pt_laws.proofs.ByActor.{by_actor}
use Rattle.pt_laws.proofs.Confluent.{confluence}
use Rattle.pt_laws.proofs.Finish.{histories_behave}
use Rattle.pt_laws.proofs.Home.{home_holds}
use Rattle.pt_semantics.proofs.Longest.{levels_grow}
use Rattle.pt_semantics.proofs.Lookups.{none_some, same_some}
use Rattle.pt_semantics.proofs.LawfulEdges.{wired}
use Rattle.pt_causality.specs.Ranked.{level_of, rank_of}
use Rattle.pt_offsets.specs.Plans.{IsAdmitted, Parts}
use Rattle.pt_turn.specs.Platforms.{PlatformView, rows_at, state_at}
use Rattle.pt_turn.specs.All.{histories_of}
use Rattle.pt_confluence.specs.Gathered.{AgreeOnClaims, AreLegal, HaveFinished, IsItsHistory, claimed_tasks}

pub legal_none : AreLegal []
legal_none i v h = absurd (none_some v h)

pub legal_push : (platforms : List PlatformView) (v : PlatformView) → AreLegal platforms → IsItsHistory v → AreLegal (platforms ++ v ∷ [])
legal_push [] v are is zero w h = subst IsItsHistory (same_some v w h) is
legal_push [] v are is (suc i) w h = absurd (none_some w h)
legal_push (x ∷ platforms) v are is zero w h = are 0 w h
legal_push (x ∷ platforms) v are is (suc i) w h = legal_push platforms v (λ j y e. are (suc j) y e) is i w h

pub legal_more : (platforms : List PlatformView) (i : ℕ) (v : PlatformView) → i < length platforms → v ≡ slice_index_or platforms i v → AreLegal (take i platforms) → IsItsHistory v → AreLegal (take (i + 1) platforms)
legal_more platforms i v lt at are is =
    subst AreLegal (ap (λ (w : PlatformView). take i platforms ++ w ∷ []) at ∙ sym (take_more platforms i v lt)) (legal_push (take i platforms) v are is)

-- the claims of a unit are its tasks' firings
claims_are : (g : Graph) (u : Unit) (turns : List Turn) → filter_map (of_unit g u) (flat_map (λ (turn : Turn). turn.claimed) turns) ≡ claims_of g turns u
claims_are g u [] = refl
claims_are g u (turn ∷ turns) =
    filter_map-append (of_unit g u) turn.claimed (flat_map (λ (t : Turn). t.claimed) turns)
    ∙ ap (λ xs. filter_map (of_unit g u) turn.claimed ++ xs) (claims_are g u turns)

all_claims_are : (g : Graph) (u : Unit) (platforms : List PlatformView) → filter_map (of_unit g u) (flat_map claimed_tasks platforms) ≡ flat_map (λ (v : PlatformView). claims_of g v.turns u) platforms
all_claims_are g u [] = refl
all_claims_are g u (v ∷ platforms) =
    filter_map-append (of_unit g u) (claimed_tasks v) (flat_map claimed_tasks platforms)
    ∙ ap (λ xs. xs ++ filter_map (of_unit g u) (flat_map claimed_tasks platforms)) (claims_are g u v.turns)
    ∙ ap (λ xs. claims_of g v.turns u ++ xs) (all_claims_are g u platforms)

none_of : {X Y : Type 0} (f : X → List Y) (xs : List X) → ((i : ℕ) (x : X) → slice_get xs i ≡ Some x → f x ≡ []) → flat_map f xs ≡ []
none_of f [] h = refl
none_of f (x ∷ xs) h = ap (λ ys. ys ++ flat_map f xs) (h 0 x refl) ∙ none_of f xs (λ i y e. h (suc i) y e)

-- where all others give nothing
one_of : {X Y : Type 0} (f : X → List Y) (xs : List X) (k : ℕ) (v : X) → slice_get xs k ≡ Some v → ((i : ℕ) (x : X) → slice_get xs i ≡ Some x → i ≢ k → f x ≡ []) → flat_map f xs ≡ f v
one_of f [] k v there others = absurd (none_some v there)
one_of f (x ∷ xs) zero v there others =
    ap (λ ys. f x ++ ys) (none_of f xs (λ i y e. others (suc i) y e (λ z. absurd (omega (arith, z))))) ∙ append-nil (f x) ∙ ap f (same_some x v there)
one_of f (x ∷ xs) (suc k) v there others =
    ap (λ ys. ys ++ flat_map f xs) (others 0 x refl (λ z. absurd (omega (arith, z))))
    ∙ one_of f xs k v there (λ i y e ne. others (suc i) y e (λ z. ne (omega (arith, z))))

some_at : {X : Type 0} (xs : List X) (i : ℕ) → i < length xs → (x : X) × (slice_get xs i ≡ Some x)
some_at [] i lt = absurd (omega arith)
some_at (x ∷ xs) zero lt = (x, refl)
some_at (x ∷ xs) (suc i) lt = some_at xs i (omega arith)

nothing_in : {X : Type 0} (xs : List X) → ((x : X) → IsIn x xs → ⊥) → xs ≡ []
nothing_in [] h = refl
nothing_in (x ∷ xs) h = absurd (h x (inl refl))

-- a platform opens with its own rows alone
same_opening : (g : Graph) (i : ℕ) (some others : ℕ → List Row) → ((a : ℕ) → platform_of g a ≡ i → some a ≡ others a) → opened g i some ≡ opened g i others
same_opening g i some others same =
    ap (λ (left : ℕ → List Row). record (opened g i some) { left = left }) (fun_ext (λ a. at (platform_of g a == i) a (λ e. same a (eqb-true (platform_of g a) i e))))
  where
    at : (b : Bool) (a : ℕ) → (b ≡ true → some a ≡ others a) → (if b then some a else []) ≡ (if b then others a else [])
    at true a h = h refl
    at false a h = refl

module _ (plan : Parts) (rows : ℕ → List Row) (platforms : List PlatformView) (admitted : IsAdmitted plan) (run : HaveFinished plan rows platforms) (are : AreLegal platforms) where
  abbrev pub g : Graph
  g = plan.graph

  abbrev pub level : ℕ → ℕ
  level = level_of plan.ranks

  pub is_wired : IsWired g
  is_wired = wired g admitted.lawful

  legal : (i : ℕ) (v : PlatformView) → slice_get platforms i ≡ Some v → IsLegal g level i rows v.turns (state_at v)
  legal i v there =
      let of_plan : IsLegal g level v.number (rows_at v) v.turns (state_at v) =
      subst (λ (p : Parts). IsLegal p.graph (level_of p.ranks) v.number (rows_at v) v.turns (state_at v)) (run.all.plans i v there) (are i v there) in
      let numbered : IsLegal g level i (rows_at v) v.turns (state_at v) =
      subst (λ n. IsLegal g level n (rows_at v) v.turns (state_at v)) (run.all.numbers i v there) of_plan in
      record {
        leads = subst (λ (s : State). Legal g level i s v.turns (state_at v)) (same_opening g i (rows_at v) rows (λ a home. run.all.opened i a v there home)) numbered.leads;
        counted = numbered.counted;
        joined = numbered.joined;
      }

  platform_at : (i : ℕ) → i < length g.platforms → (v : PlatformView) × (slice_get platforms i ≡ Some v)
  platform_at i lt = some_at platforms i (let same = run.all.count in omega (arith, same, lt))

  abbrev ends : ℕ → State
  ends i = unwrap_or (option_map state_at (slice_get platforms i)) (opened g i rows)

  history_at : (i : ℕ) (v : PlatformView) → slice_get platforms i ≡ Some v → v.turns ≡ histories_of platforms i
  history_at i v there = ap (λ (o : Option PlatformView). unwrap_or (option_map (λ (w : PlatformView). w.turns) o) []) (sym there)

  end_at : (i : ℕ) (v : PlatformView) → slice_get platforms i ≡ Some v → state_at v ≡ ends i
  end_at i v there = ap (λ (o : Option PlatformView). unwrap_or (option_map state_at o) (opened g i rows)) (sym there)

  legal_at : (i : ℕ) → i < length g.platforms → IsLegal g level i rows (histories_of platforms i) (ends i)
  legal_at i lt =
      let (v, there) = platform_at i lt in
      subst (λ ts. IsLegal g level i rows ts (ends i)) (history_at i v there)
      (subst (λ (s : State). IsLegal g level i rows v.turns s) (end_at i v there) (legal i v there))

  finished_at : (i : ℕ) → i < length g.platforms → IsFinished g i (ends i)
  finished_at i lt =
      let (v, there) = platform_at i lt in
      subst (IsFinished g i) (end_at i v there) (run.finished i v there)

  -- what they claimed is a behaviour
  pub behaves : Behaves g (opening g rows) Everywhere (all_claims g (histories_of platforms))
  behaves = histories_behave g level rows (histories_of platforms) ends is_wired admitted.levels run.fit legal_at finished_at run.linked

  elsewhere : (u : Unit) (i : ℕ) (v : PlatformView) → slice_get platforms i ≡ Some v → i ≢ platform_of g u.actor → claims_of g v.turns u ≡ []
  elsewhere u i v there ne =
      nothing_in (claims_of g v.turns u)
      (λ x mem. ne (sym ((home_holds g level i rows v.turns (state_at v) is_wired (levels_grow g level admitted.levels) run.fit (legal i v there).leads).claims u x mem)))

  -- the tasks of a unit, of all platforms, are its claims
  pub claimed : (u : Unit) → filter_map (of_unit g u) (flat_map claimed_tasks platforms) ≡ all_claims g (histories_of platforms) u
  claimed u =
      let (v, there) = platform_at (platform_of g u.actor) (is_wired.homes u.actor) in
      all_claims_are g u platforms
      ∙ one_of (λ (w : PlatformView). claims_of g w.turns u) platforms (platform_of g u.actor) v there (λ i w at ne. elsewhere u i w at ne)
      ∙ ap (λ ts. claims_of g ts u) (history_at (platform_of g u.actor) v there)

  -- and where the firings are the meaning, it is theirs
  pub claimed_of : (xs : List ActorFiring) → IsMeaning g (rank_of plan.ranks) rows xs → AgreeOnClaims plan platforms xs
  claimed_of xs meaning = record {
    units = confluence g level (rank_of plan.ranks) rows (histories_of platforms) ends xs is_wired admitted.levels admitted.ranks run.fit legal_at finished_at run.linked meaning;
    actors = by_actor g level (rank_of plan.ranks) rows (histories_of platforms) ends xs is_wired admitted.levels admitted.ranks run.fit legal_at finished_at run.linked meaning;
  }
