-- A file has one verdict at most.
use Rattle.std.proofs.Common.{◌≡◌, ℕ, ◌+◌, ◌≤◌, ◌<◌, ◌⊎◌, None, List, [], ◌∷◌, ◌++◌, refl, sym, ap, ap₂, subst, ◌∙◌, inl, inr, ⊎_elim, append_assoc, arith, length}
use Rattle.std.proofs.lemmas.Bool.{cases_lt}
use Rattle.pt_types.specs.declared.graph.Graph.{Graph}
use Rattle.pt_types.specs.declared.rows.Row.{Row}
use Rattle.pt_semantics.specs.History.{Legal}
use Rattle.pt_semantics.specs.Linked.{AreLinked, IsFinished}
use Rattle.pt_semantics.proofs.Lookups.{none_some, same_some}
use Rattle.pt_semantics.specs.Platform.{State, opened}
use Rattle.pt_semantics.specs.Turn.{Turn as Recorded}
use Rattle.pt_causality.specs.Ranked.{level_of}
use Rattle.pt_offsets.specs.Plans.{IsAdmitted, Parts}
use Rattle.pt_audit.specs.Parsing.Lines.{Block, at_log, blocks_from, text_lines}
use Rattle.pt_audit.specs.Logged.{AreLawful, BlocksAreLawful, LoggedTurn, turns_of}
use Rattle.pt_audit.specs.Limits.{log_limit}
use Rattle.pt_audit.specs.Theorems.{VerdictsAreOne}
use Rattle.pt_audit.specs.Verdicts.{AllAreFinished, HasLog, IsFirstUnfinished, IsFirstUnlinked, IsLinked, IsVerdict, IsVerdictOn, StopsAt, AllBlocksSay}
use Rattle.pt_audit.specs.declared.verdict.Verdict.{Verdict}
use Rattle.pt_audit.specs.declared.verdict.Verdict.TheVariants.{TooLong, NoLog, Turn, Unfinished, Unlinked, Table, Fine}
use Rattle.pt_audit.proofs.OneState.{legal_state}
use Rattle.pt_audit.proofs.LoggedOnce.{logged_once}
use Rattle.pt_audit.proofs.LoggedTurns.{before_ends, lawful_before, logged_last}

-- Blocks of lawful turns, without the last ones.

lawful_until : (g : Graph) (level : ℕ → ℕ) (rows : ℕ → List Row) (blocks : List Block) (b : Block) → BlocksAreLawful g level rows (blocks ++ b ∷ []) → BlocksAreLawful g level rows blocks
lawful_until g level rows blocks b (logged, ends, are, lawful) =
    let x = logged_last g blocks b logged are in
    let whole : AreLawful g level rows (x.front ++ x.turn ∷ []) ends = subst (λ (ts : List LoggedTurn). AreLawful g level rows ts ends) x.is lawful in
    (x.front, before_ends g level rows x.front x.turn ends x.loggable.platform whole, x.before, lawful_before g level rows x.front x.turn ends x.loggable.platform whole)

pub lawful_front : (g : Graph) (level : ℕ → ℕ) (rows : ℕ → List Row) (front : List Block) (b : Block) (more : List Block) → BlocksAreLawful g level rows (front ++ b ∷ more) → BlocksAreLawful g level rows (front ++ b ∷ [])
lawful_front g level rows front b [] h = h
lawful_front g level rows front b (c ∷ more) h =
    let on : BlocksAreLawful g level rows ((front ++ b ∷ []) ++ c ∷ []) = lawful_front g level rows (front ++ b ∷ []) c more (subst (BlocksAreLawful g level rows) (sym (append_assoc front (b ∷ []) (c ∷ more))) h) in
    lawful_until g level rows (front ++ b ∷ []) c on

-- Two places in one list.

abbrev Places : List Block → Block → List Block → Block → Type 0
Places xs b ys c = ((xs ≡ ys) × (b ≡ c)) ⊎ (((rest : List Block) × (ys ≡ xs ++ b ∷ rest)) ⊎ ((rest : List Block) × (xs ≡ ys ++ c ∷ rest)))

heads : (x y : Block) (xs ys : List Block) → x ∷ xs ≡ y ∷ ys → (x ≡ y) × (xs ≡ ys)
heads x y xs ys e = (cc, cc)

places : (xs ys : List Block) (b c : Block) (zs ws : List Block) → xs ++ b ∷ zs ≡ ys ++ c ∷ ws → Places xs b ys c
places [] [] b c zs ws e = inl (refl, (heads b c zs ws e).0)
places [] (y ∷ ys) b c zs ws e = let h = heads b y zs (ys ++ c ∷ ws) e in inr (inl (ys, ap (λ z. z ∷ ys) (sym h.0)))
places (x ∷ xs) [] b c zs ws e = let h = heads x c (xs ++ b ∷ zs) ws e in inr (inr (xs, ap (λ z. z ∷ xs) h.0))
places (x ∷ xs) (y ∷ ys) b c zs ws e =
    let h = heads x y (xs ++ b ∷ zs) (ys ++ c ∷ ws) e in
    ⊎_elim
    (λ (same : (xs ≡ ys) × (b ≡ c)). inl (ap₂ (λ z (zs : List Block). z ∷ zs) h.0 same.0, same.1))
    (λ (other : ((rest : List Block) × (ys ≡ xs ++ b ∷ rest)) ⊎ ((rest : List Block) × (xs ≡ ys ++ c ∷ rest))).
    ⊎_elim
    (λ (one : (rest : List Block) × (ys ≡ xs ++ b ∷ rest)). inr (inl (one.0, ap₂ (λ z (zs : List Block). z ∷ zs) (sym h.0) one.1)))
    (λ (two : (rest : List Block) × (xs ≡ ys ++ c ∷ rest)). inr (inr (two.0, ap₂ (λ z (zs : List Block). z ∷ zs) h.0 two.1)))
    other)
    (places xs ys b c zs ws h.1)

module _ (g : Graph) (level : ℕ → ℕ) (rows : ℕ → List Row) (blocks : List Block) where
  pub stops_once : (l m : ℕ) → StopsAt g level rows l blocks → StopsAt g level rows m blocks → l ≡ m
  stops_once l m s t =
      ⊎_elim
      (λ (same : (s.before ≡ t.before) × (s.bad ≡ t.bad)). s.at ∙ ap (λ (b : Block). b.line) same.1 ∙ sym t.at)
      (λ (other : ((rest : List Block) × (t.before ≡ s.before ++ s.bad ∷ rest)) ⊎ ((rest : List Block) × (s.before ≡ t.before ++ t.bad ∷ rest))).
      ⊎_elim
      (λ (one : (rest : List Block) × (t.before ≡ s.before ++ s.bad ∷ rest)). absurd (s.never (lawful_front g level rows s.before s.bad one.0 (subst (BlocksAreLawful g level rows) one.1 t.are_lawful))))
      (λ (two : (rest : List Block) × (s.before ≡ t.before ++ t.bad ∷ rest)). absurd (t.never (lawful_front g level rows t.before t.bad two.0 (subst (BlocksAreLawful g level rows) two.1 s.are_lawful))))
      other)
      (places s.before t.before s.bad t.bad s.after t.after (sym s.is ∙ t.is))

  pub stops_or_lawful : (l : ℕ) → StopsAt g level rows l blocks → BlocksAreLawful g level rows blocks → ⊥
  stops_or_lawful l s h = s.never (lawful_front g level rows s.before s.bad s.after (subst (BlocksAreLawful g level rows) s.is h))

-- The first of some numbers.

first_one : (P : ℕ → Type 0) (i j : ℕ) → (P i → ⊥) → ((k : ℕ) → k < i → P k) → (P j → ⊥) → ((k : ℕ) → k < j → P k) → i ≡ j
first_one P i j ni below_i nj below_j =
    ⊎_elim
    (λ (lt : i < j). absurd (ni (below_j i lt)))
    (λ (le : j ≤ i). ⊎_elim (λ (gt : j < i). absurd (nj (below_i j gt))) (λ (ge : i ≤ j). omega (arith, le, ge)) (cases_lt j i))
    (cases_lt i j)

module _ (plan : Parts) (rows : ℕ → List Row) (blocks : List Block) (admitted : IsAdmitted plan) where
  abbrev Logged : ((ℕ → List Recorded) → (ℕ → State) → Type 0) → Type 0
  Logged Fact = AllBlocksSay plan.graph (level_of plan.ranks) rows blocks Fact

  lawful_of : (Fact : (ℕ → List Recorded) → (ℕ → State) → Type 0) → Logged Fact → BlocksAreLawful plan.graph (level_of plan.ranks) rows blocks
  lawful_of Fact t = (t.logged, t.ends, t.are_logged, t.lawful)

  module _ (Some_fact Other_fact : (ℕ → List Recorded) → (ℕ → State) → Type 0) (t : Logged Some_fact) (u : Logged Other_fact) where
    pub same_logged : t.logged ≡ u.logged
    same_logged = logged_once plan.graph (level_of plan.ranks) rows admitted.lawful blocks t.logged u.logged t.ends u.ends t.are_logged t.lawful u.are_logged u.lawful

    pub same_end : (i : ℕ) → i < length plan.graph.platforms → t.ends i ≡ u.ends i
    same_end i lt =
        let theirs = u.lawful.legal i lt in
        legal_state plan.graph (level_of plan.ranks) i (opened plan.graph i rows) (turns_of i t.logged) (t.ends i) (u.ends i) (t.lawful.legal i lt).leads
        (subst (λ (ts : List LoggedTurn). Legal plan.graph (level_of plan.ranks) i (opened plan.graph i rows) (turns_of i ts) (u.ends i)) (sym same_logged) theirs.leads)

    pub same_finished : (i : ℕ) → i < length plan.graph.platforms → IsFinished plan.graph i (u.ends i) → IsFinished plan.graph i (t.ends i)
    same_finished i lt h = subst (IsFinished plan.graph i) (sym (same_end i lt)) h

    pub same_linked : (l : ℕ) → IsLinked plan.graph (λ i. turns_of i u.logged) l → IsLinked plan.graph (λ i. turns_of i t.logged) l
    same_linked l h = subst (λ (ts : List LoggedTurn). IsLinked plan.graph (λ i. turns_of i ts) l) (sym same_logged) h

  abbrev Open : ℕ → (ℕ → List Recorded) → (ℕ → State) → Type 0
  Open i histories ends = IsFirstUnfinished plan.graph i ends

  abbrev Apart : ℕ → (ℕ → List Recorded) → (ℕ → State) → Type 0
  Apart l histories ends = AllAreFinished plan.graph ends × IsFirstUnlinked plan.graph l histories

  abbrev Done : (ℕ → List Recorded) → (ℕ → State) → Type 0
  Done histories ends = AllAreFinished plan.graph ends × AreLinked plan.graph histories

  open_once : (i j : ℕ) → Logged (Open i) → Logged (Open j) → i ≡ j
  open_once i j t u =
      let a = t.fact in
      let b = u.fact in
      ⊎_elim
      (λ (lt : i < j). absurd (a.unfinished (same_finished (Open i) (Open j) t u i a.platform (b.first i lt))))
      (λ (le : j ≤ i). ⊎_elim (λ (gt : j < i). absurd (b.unfinished (same_finished (Open j) (Open i) u t j b.platform (a.first j gt)))) (λ (ge : i ≤ j). omega (arith, le, ge)) (cases_lt j i))
      (cases_lt i j)

  open_or : (i : ℕ) (Fact : (ℕ → List Recorded) → (ℕ → State) → Type 0) → Logged (Open i) → (u : Logged Fact) → AllAreFinished plan.graph u.ends → ⊥
  open_or i Fact t u all = let a = t.fact in a.unfinished (same_finished (Open i) Fact t u i a.platform (all i a.platform))

  apart_once : (l m : ℕ) → Logged (Apart l) → Logged (Apart m) → l ≡ m
  apart_once l m t u =
      let a = t.fact.1 in
      let b = u.fact.1 in
      first_one (IsLinked plan.graph (λ i. turns_of i t.logged)) l m a.unlinked a.first (λ h. b.unlinked (same_linked (Apart m) (Apart l) u t m h)) (λ k lt. same_linked (Apart l) (Apart m) t u k (b.first k lt))

  apart_or_done : (l : ℕ) → Logged (Apart l) → Logged Done → ⊥
  apart_or_done l t u = let a = t.fact.1 in a.unlinked (same_linked (Apart l) Done t u l (u.fact.1 l))

  stops_not : (line : ℕ) (Fact : (ℕ → List Recorded) → (ℕ → State) → Type 0) → StopsAt plan.graph (level_of plan.ranks) rows line blocks → Logged Fact → ⊥
  stops_not line Fact s t = stops_or_lawful plan.graph (level_of plan.ranks) rows blocks line s (lawful_of Fact t)

  pub verdict_once : (v w : Verdict) → IsVerdictOn plan rows blocks v → IsVerdictOn plan rows blocks w → v ≡ w
  verdict_once TooLong w hv hw = absurd hv
  verdict_once NoLog w hv hw = absurd hv
  verdict_once Table w hv hw = absurd hv
  verdict_once v TooLong hv hw = absurd hw
  verdict_once v NoLog hv hw = absurd hw
  verdict_once v Table hv hw = absurd hw
  verdict_once (Turn l) (Turn m) hv hw = ap Turn (stops_once plan.graph (level_of plan.ranks) rows blocks l m hv hw)
  verdict_once (Turn l) (Unfinished i) hv hw = absurd (stops_not l (Open i) hv hw)
  verdict_once (Turn l) (Unlinked m) hv hw = absurd (stops_not l (Apart m) hv hw)
  verdict_once (Turn l) Fine hv hw = absurd (stops_not l Done hv hw)
  verdict_once (Unfinished i) (Turn m) hv hw = absurd (stops_not m (Open i) hw hv)
  verdict_once (Unfinished i) (Unfinished j) hv hw = ap Unfinished (open_once i j hv hw)
  verdict_once (Unfinished i) (Unlinked m) hv hw = absurd (open_or i (Apart m) hv hw hw.fact.0)
  verdict_once (Unfinished i) Fine hv hw = absurd (open_or i Done hv hw hw.fact.0)
  verdict_once (Unlinked l) (Turn m) hv hw = absurd (stops_not m (Apart l) hw hv)
  verdict_once (Unlinked l) (Unfinished j) hv hw = absurd (open_or j (Apart l) hw hv hv.fact.0)
  verdict_once (Unlinked l) (Unlinked m) hv hw = ap Unlinked (apart_once l m hv hw)
  verdict_once (Unlinked l) Fine hv hw = absurd (apart_or_done l hv hw)
  verdict_once Fine (Turn m) hv hw = absurd (stops_not m Done hw hv)
  verdict_once Fine (Unfinished j) hv hw = absurd (open_or j Done hw hv hv.fact.0)
  verdict_once Fine (Unlinked m) hv hw = absurd (apart_or_done m hw hv)
  verdict_once Fine Fine hv hw = refl

-- Whole files.

-- a file that is too long has no other verdict
too_long_only : (plan : Parts) (rows : ℕ → List Row) (bytes : List ℕ) → log_limit plan.graph.claims < length bytes → (w : Verdict) → IsVerdict plan rows bytes w → w ≡ TooLong
too_long_only plan rows bytes long TooLong h = refl
too_long_only plan rows bytes long NoLog h = absurd (omega (arith, long, h.0))
too_long_only plan rows bytes long (Turn l) h = absurd (omega (arith, long, h.short))
too_long_only plan rows bytes long (Unfinished i) h = absurd (omega (arith, long, h.short))
too_long_only plan rows bytes long (Unlinked l) h = absurd (omega (arith, long, h.short))
too_long_only plan rows bytes long Table h = absurd (omega (arith, long, h.short))
too_long_only plan rows bytes long Fine h = absurd (omega (arith, long, h.short))

-- nor has a file without a line `log`
no_log_only : (plan : Parts) (rows : ℕ → List Row) (bytes : List ℕ) → length bytes ≤ log_limit plan.graph.claims → at_log (text_lines bytes) ≡ None → (w : Verdict) → IsVerdict plan rows bytes w → w ≡ NoLog
no_log_only plan rows bytes short none TooLong h = absurd (omega (arith, short, h))
no_log_only plan rows bytes short none NoLog h = refl
no_log_only plan rows bytes short none (Turn l) h = absurd (none_some (h.head, h.rest) (sym none ∙ h.lines))
no_log_only plan rows bytes short none (Unfinished i) h = absurd (none_some (h.head, h.rest) (sym none ∙ h.lines))
no_log_only plan rows bytes short none (Unlinked l) h = absurd (none_some (h.head, h.rest) (sym none ∙ h.lines))
no_log_only plan rows bytes short none Table h = absurd (none_some (h.head, h.rest) (sym none ∙ h.lines))
no_log_only plan rows bytes short none Fine h = absurd (none_some (h.head, h.rest) (sym none ∙ h.lines))

-- two verdicts on the log of a file are one
log_once : (plan : Parts) (rows : ℕ → List Row) (bytes : List ℕ) (v w : Verdict) → IsAdmitted plan → HasLog (log_limit plan.graph.claims) bytes (λ blocks. IsVerdictOn plan rows blocks v) → HasLog (log_limit plan.graph.claims) bytes (λ blocks. IsVerdictOn plan rows blocks w) → v ≡ w
log_once plan rows bytes v w admitted h k =
    let same = same_some (k.head, k.rest) (h.head, h.rest) (sym k.lines ∙ h.lines) in
    let blocks : blocks_from (length k.head + 2) k.rest ≡ blocks_from (length h.head + 2) h.rest = ap (λ (parts : List (List ℕ) × List (List ℕ)). blocks_from (length parts.0 + 2) parts.1) same in
    verdict_once plan rows (blocks_from (length h.head + 2) h.rest) admitted v w h.fact (subst (λ (bs : List Block). IsVerdictOn plan rows bs w) blocks k.fact)

-- a file with a line `log` has no verdict but that on its log
log_only : (plan : Parts) (rows : ℕ → List Row) (bytes : List ℕ) (v w : Verdict) → IsAdmitted plan → HasLog (log_limit plan.graph.claims) bytes (λ blocks. IsVerdictOn plan rows blocks v) → IsVerdict plan rows bytes w → v ≡ w
log_only plan rows bytes v TooLong admitted h k = absurd (omega (arith, h.short, k))
log_only plan rows bytes v NoLog admitted h k = absurd (none_some (h.head, h.rest) (sym k.1 ∙ h.lines))
log_only plan rows bytes v (Turn l) admitted h k = log_once plan rows bytes v (Turn l) admitted h k
log_only plan rows bytes v (Unfinished i) admitted h k = log_once plan rows bytes v (Unfinished i) admitted h k
log_only plan rows bytes v (Unlinked l) admitted h k = log_once plan rows bytes v (Unlinked l) admitted h k
log_only plan rows bytes v Table admitted h k = log_once plan rows bytes v Table admitted h k
log_only plan rows bytes v Fine admitted h k = log_once plan rows bytes v Fine admitted h k

pub file_once : VerdictsAreOne
file_once plan rows bytes TooLong w admitted h k = sym (too_long_only plan rows bytes h w k)
file_once plan rows bytes NoLog w admitted h k = sym (no_log_only plan rows bytes h.0 h.1 w k)
file_once plan rows bytes (Turn l) w admitted h k = log_only plan rows bytes (Turn l) w admitted h k
file_once plan rows bytes (Unfinished i) w admitted h k = log_only plan rows bytes (Unfinished i) w admitted h k
file_once plan rows bytes (Unlinked l) w admitted h k = log_only plan rows bytes (Unlinked l) w admitted h k
file_once plan rows bytes Table w admitted h k = log_only plan rows bytes Table w admitted h k
file_once plan rows bytes Fine w admitted h k = log_only plan rows bytes Fine w admitted h k
