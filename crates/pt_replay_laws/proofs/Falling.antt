-- A visit leaves less to do, or makes no move; and so does a round. After one without a move nothing is open, and if nothing
-- was open before it, it is quiet.
use Rattle.std.proofs.Common.{◌≡◌, ◌≢◌, ℕ, zero, suc, ◌+◌, ◌<◌, ◌≤◌, false, List, [], ◌∷◌, ◌++◌, Option, None, Some, length, slice_get, arith, refl, sym, ap, subst, ◌∙◌, inl, ⊎_elim, length-append}
use Rattle.std.proofs.lemmas.Option.{slice_get_within}
use Rattle.pt_types.specs.declared.firing.OnLink.{OnLink}
use Rattle.pt_types.specs.declared.graph.Graph.{Graph}
use Rattle.pt_types.specs.declared.graph.Link.{Link}
use Rattle.pt_types.specs.declared.graph.Unit.{Unit}
use Rattle.pt_types.specs.declared.rows.Row.{Row}
use Rattle.pt_types.specs.Lookups.{platform_of}
use Rattle.pt_semantics.specs.Entering.{after_rows}
use Rattle.pt_semantics.specs.Linked.{IsFinished, all_sent, all_taken}
use Rattle.pt_semantics.specs.Lists.{Each, IsIn}
use Rattle.pt_semantics.specs.Platform.{State, opened}
use Rattle.pt_semantics.specs.Ranks.{AreLevels}
use Rattle.pt_semantics.specs.Rows.{FitRows}
use Rattle.pt_semantics.specs.Visits.{VisitRecord}
use Rattle.pt_semantics.specs.Wired.{IsWired}
use Rattle.pt_semantics.proofs.Longest.{levels_grow}
use Rattle.pt_semantics.proofs.Lookups.{none_some, same_some}
use Rattle.pt_laws.proofs.Onward.{cases_same}
use Rattle.pt_laws.proofs.Paces.{in_on_link}
use Rattle.pt_laws.proofs.Walks.{on_time_history}
use Rattle.pt_paced_laws.proofs.Few.{history_sends_few}
use Rattle.pt_paced_laws.proofs.Moves.{AreFew, Falls, IsFree, IsStill, IsStillRound, MovesNothing, all_to_do, one_falls, quiet_turns, then_falls, to_do, turn_falls}
use Rattle.pt_paced_laws.proofs.Rounds.{nothing_posted, turn_frees}
use Rattle.pt_paced_laws.proofs.SameTurn.{takes_member}
use Rattle.pt_paced_laws.proofs.Turns.{turn_does}
use Rattle.pt_types.specs.declared.air.Air.{Air}
use Rattle.pt_fixed_order_laws.specs.Sound.{IsForeign}
use Rattle.pt_fixed_order_laws.proofs.Sound.{goes_on_time}
use Rattle.pt_replay_laws.specs.Between.{under_way}
use Rattle.pt_replay_laws.specs.ReplayRounds.{ReplayRound, IsQuiet}
use Rattle.pt_replay_laws.specs.ReplayState.{IsVisitAt, ReplayState}
use Rattle.pt_replay_laws.proofs.Quiet.{Begins, round_leaves}
use Rattle.pt_replay_laws.proofs.Sound.{IsSound, joins, others, own_turn, sound_visit, turn_of}
use Rattle.pt_paced_laws.proofs.Places.{is_above, is_first, is_later, is_passed, none_left, not_before, one_fewer}

-- if nothing is open, nothing is posted
pub round_posts_nothing : (g : Graph) (level : ℕ → ℕ) (air : Air) (now n i : ℕ) (x : ReplayState) (ms : List VisitRecord) (y : ReplayState) → ReplayRound g level air now n i x ms y → IsFree x.at n i → Each (λ (m : VisitRecord). m.turn.posted ≡ []) ms
round_posts_nothing g level air now zero i x ms y round free = subst (Each (λ (m : VisitRecord). m.turn.posted ≡ [])) (sym round.0) tt
round_posts_nothing g level air now (suc n) i x ms y round free = ⊎_elim
    (λ (done : IsFinished g i (x.at i) × ReplayRound g level air now n (suc i) x ms y). round_posts_nothing g level air now n (suc i) x ms y done.1 (λ j le lt. free j (omega (arith, le)) (omega (arith, lt))))
    (λ (one : Begins g level air now n i x ms y).
    subst (Each (λ (m : VisitRecord). m.turn.posted ≡ [])) (sym one.4) (
      nothing_posted g one.1.turn.posted (x.at one.1.platform) one.6.visit.is.posted (λ u. free one.1.platform (not_before one.1.platform i one.5) (is_first i one.1.platform n one.5) u) one.6.visit.is.posts,
      round_posts_nothing g level air now n (suc i) one.3 one.2 y one.7 (λ j le lt u.
          ap (λ (s : State). s.busy u) (others g level air now x one.1 one.3 one.6 j (λ e. is_above j i one.1.platform le e one.5)).0
          ∙ free j (omega (arith, le)) (omega (arith, lt)) u),
    ))
    round

-- a round without a move that posts nothing is quiet
pub quiet_still : (x : ReplayState) (ms : List VisitRecord) (y : ReplayState) → IsStillRound x.at ms y.at → Each (λ (m : VisitRecord). m.turn.posted ≡ []) ms → IsQuiet x ms y
quiet_still x ms y still none = record { quiet = quiet_turns ms still.turns none; closed = still.closed }

module _ (g : Graph) (level : ℕ → ℕ) (rows : ℕ → List Row) (air : Air) (wired : IsWired g) (are : AreLevels g level) (fits : FitRows g rows) (now : ℕ) where
  -- after a visit without a fault
  sound_then : (x : ReplayState) (m : VisitRecord) (y : ReplayState) → IsSound g level rows 0 x → IsVisitAt g level air now x m y → m.fault ≡ false → IsSound g level rows 0 y
  sound_then x m y h f fine = sound_visit g level rows wired are fits air now 0 x m y h f (omega arith) 0 (omega arith) (λ low. fine)

  carries_few : (y : ReplayState) → IsSound g level rows 0 y → (l : ℕ) (link : Link) → slice_get g.links l ≡ Some link → length (all_sent l (y.did (platform_of g link.from))) ≤ (g.claims + 1)
  carries_few y h l link at =
      history_sends_few g level rows wired are fits l link at (y.did (platform_of g link.from)) (y.at (platform_of g link.from))
      (goes_on_time g level (platform_of g link.from) (y.did (platform_of g link.from)) (opened g (platform_of g link.from) rows) (y.at (platform_of g link.from)) (h.goes (platform_of g link.from) (omega arith)))

  takes_few : (y : ReplayState) → IsSound g level rows 0 y → (l : ℕ) (link : Link) → slice_get g.links l ≡ Some link → length (all_taken l (y.did (platform_of g link.to))) ≤ (g.claims + 1)
  takes_few y h l link at =
      let sent = carries_few y h l link at in
      let sum = ap length (h.linked l link at) ∙ length-append (all_taken l (y.did (platform_of g link.to))) (under_way y l) in
      omega (arith, sent, sum)

  -- what a platform sends is on its own links
  sent_on : (x : ReplayState) (m : VisitRecord) (y : ReplayState) → IsSound g level rows 0 x → IsVisitAt g level air now x m y → (o : OnLink) → IsIn o m.turn.sent → (link : Link) × (slice_get g.links o.link ≡ Some link) × (platform_of g link.from ≡ m.platform)
  sent_on x m y h f o mem = by_link (slice_get g.links o.link) refl
    where
      never : IsForeign g m.platform o.link → ⊥
      never foreign =
          let none : IsIn o.message [] = subst (IsIn o.message) ((own_turn g level rows wired are fits air now 0 x m y h f (omega arith)).sent o.link foreign) (in_on_link o m.turn.sent mem) in
          absurd none

      by_link : (found : Option Link) → slice_get g.links o.link ≡ found → (link : Link) × (slice_get g.links o.link ≡ Some link) × (platform_of g link.from ≡ m.platform)
      by_link None e = absurd (never (λ link at home. none_some link (sym e ∙ at)))
      by_link (Some link) e = ⊎_elim
          (λ (home : platform_of g link.from ≡ m.platform). (link, e, home))
          (λ (away : platform_of g link.from ≢ m.platform). absurd (never (λ other at home. away (ap (λ (z : Link). platform_of g z.from) (same_some link other (sym e ∙ at)) ∙ home))))
          (cases_same (platform_of g link.from) m.platform)

  visit_falls : (x : ReplayState) (m : VisitRecord) (y : ReplayState) → IsSound g level rows 0 x → IsVisitAt g level air now x m y → m.fault ≡ false → m.platform < length g.platforms →
      Falls (IsStill (x.at m.platform) m.turn (y.at m.platform)) (all_to_do g x.at x.did) (all_to_do g y.at y.did)
  visit_falls x m y h f fine lt =
      one_falls (IsStill (x.at m.platform) m.turn (y.at m.platform)) (λ i. to_do g (x.at i) (x.did i)) (λ i. to_do g (y.at i) (y.did i)) (length g.platforms) m.platform lt
      (λ j ne. let same = others g level air now x m y f j ne in ap (λ s. to_do g s (y.did j)) same.0 ∙ ap (to_do g (x.at j)) same.1)
      (subst (λ z. Falls (IsStill (x.at m.platform) m.turn (y.at m.platform)) (to_do g (x.at m.platform) (x.did m.platform)) (to_do g (y.at m.platform) z)) (sym (joins g level air now x m y f))
      (turn_falls g (x.at m.platform) (y.at m.platform) m.turn (x.did m.platform) (turn_does g level m.platform (x.at m.platform) (y.at m.platform) m.turn m.late (turn_of g level air now x m y f)) sent taken))
    where
      after : IsSound g level rows 0 y
      after = sound_then x m y h f fine

      sent : AreFew g m.turn.sent (λ l. length (all_sent l (x.did m.platform ++ m.turn ∷ [])))
      sent = record {
        link = λ o mem. let on = sent_on x m y h f o mem in slice_get_within g.links o.link on.0 on.1;
        few = λ o mem.
            let on = sent_on x m y h f o mem in
            subst (λ z. length (all_sent o.link z) ≤ (g.claims + 1)) (joins g level air now x m y f)
            (subst (λ i. length (all_sent o.link (y.did i)) ≤ (g.claims + 1)) on.2 (carries_few y after o.link on.0 on.1));
      }

      taken : AreFew g m.turn.taken (λ l. length (all_taken l (x.did m.platform ++ m.turn ∷ [])))
      taken = record {
        link = λ o mem. let on = takes_member g level m.platform m.turn.taken m.late (after_rows f.visit.is.posted m.turn.last) f.visit.is.got f.visit.is.takes o mem in slice_get_within g.links o.link on.0 on.1;
        few = λ o mem.
            let on = takes_member g level m.platform m.turn.taken m.late (after_rows f.visit.is.posted m.turn.last) f.visit.is.got f.visit.is.takes o mem in
            subst (λ z. length (all_taken o.link z) ≤ (g.claims + 1)) (joins g level air now x m y f)
            (subst (λ i. length (all_taken o.link (y.did i)) ≤ (g.claims + 1)) on.2 (takes_few y after o.link on.0 on.1));
      }

  pub round_falls : (n i : ℕ) (x : ReplayState) (ms : List VisitRecord) (y : ReplayState) → n + i ≤ length g.platforms → IsSound g level rows 0 x → ReplayRound g level air now n i x ms y → Each (λ (m : VisitRecord). m.fault ≡ false) ms → Falls (IsStillRound x.at ms y.at) (all_to_do g x.at x.did) (all_to_do g y.at y.did)
  round_falls zero i x ms y le h (none, same) fine =
      subst (λ z. Falls (IsStillRound x.at ms z.at) (all_to_do g x.at x.did) (all_to_do g z.at z.did)) (sym same)
      (omega arith, inl (record { turns = subst (Each (λ (m : VisitRecord). MovesNothing m.turn)) (sym none) tt; closed = λ j. refl }))
  round_falls (suc n) i x ms y le h round fine = ⊎_elim
      (λ (done : IsFinished g i (x.at i) × ReplayRound g level air now n (suc i) x ms y). round_falls n (suc i) x ms y (omega (arith, le)) h done.1 fine)
      (λ (one : Begins g level air now n i x ms y).
      let all : Each (λ (m : VisitRecord). m.fault ≡ false) (one.1 ∷ one.2) = subst (Each (λ (m : VisitRecord). m.fault ≡ false)) one.4 fine in
      let lt : one.1.platform < length g.platforms = subst (λ j. j < length g.platforms) (sym one.5) (omega (arith, le)) in
      then_falls (IsStill (x.at one.1.platform) one.1.turn (one.3.at one.1.platform)) (IsStillRound one.3.at one.2 y.at) (IsStillRound x.at ms y.at) (all_to_do g x.at x.did) (all_to_do g one.3.at one.3.did) (all_to_do g y.at y.did)
      (λ still rest. record {
        turns = subst (Each (λ (m : VisitRecord). MovesNothing m.turn)) (sym one.4) (still.nothing, rest.turns);
        closed = λ j. rest.closed j ∙ stays x one.1 one.3 one.6 still.closed j;
      })
      (visit_falls x one.1 one.3 h one.6 all.0 lt)
      (round_falls n (suc i) one.3 one.2 y (omega (arith, le)) (sound_then x one.1 one.3 h one.6 all.0) one.7 all.1))
      round
    where
      stays : (x : ReplayState) (m : VisitRecord) (mid : ReplayState) → IsVisitAt g level air now x m mid → (mid.at m.platform).closed ≡ (x.at m.platform).closed → (j : ℕ) → (mid.at j).closed ≡ (x.at j).closed
      stays x m mid f here j = ⊎_elim
          (λ (e : j ≡ m.platform). subst (λ i. (mid.at i).closed ≡ (x.at i).closed) (sym e) here)
          (λ (ne : j ≢ m.platform). ap (λ (s : State). s.closed) (others g level air now x m mid f j ne).0)
          (cases_same j m.platform)

  -- a finished platform has nothing open
  finished_free : (i : ℕ) (x : ReplayState) → IsSound g level rows 0 x → IsFinished g i (x.at i) → (u : Unit) → (x.at i).busy u ≡ None
  finished_free i x h done =
      ((on_time_history g level i rows wired (levels_grow g level are) fits (x.did i) (x.at i) (goes_on_time g level i (x.did i) (opened g i rows) (x.at i) (h.goes i (omega arith)))).keeps.is_shut done.closed).busy

  pub round_frees : (n i : ℕ) (x : ReplayState) (ms : List VisitRecord) (y : ReplayState) → IsSound g level rows 0 x → ReplayRound g level air now n i x ms y → Each (λ (m : VisitRecord). m.fault ≡ false) ms → Each (λ (m : VisitRecord). MovesNothing m.turn) ms → IsFree y.at n i
  round_frees zero i x ms y h round fine still j from below u = absurd (none_left i j from below)
  round_frees (suc n) i x ms y h round fine still j from below u = ⊎_elim
      (λ (done : IsFinished g i (x.at i) × ReplayRound g level air now n (suc i) x ms y).
      ⊎_elim
      (λ (here : j ≡ i).
      subst (λ k. (y.at k).busy u ≡ None) (sym here)
      (ap (λ (s : State). s.busy u) (round_leaves g level air now n (suc i) x ms y done.1 i (omega arith)) ∙ finished_free i x h done.0 u))
      (λ (there : j ≢ i). round_frees n (suc i) x ms y h done.1 fine still j (is_later i j from there) (one_fewer n i j below) u)
      (cases_same j i))
      (λ (one : Begins g level air now n i x ms y).
      let all : Each (λ (m : VisitRecord). m.fault ≡ false) (one.1 ∷ one.2) = subst (Each (λ (m : VisitRecord). m.fault ≡ false)) one.4 fine in
      let moves : Each (λ (m : VisitRecord). MovesNothing m.turn) (one.1 ∷ one.2) = subst (Each (λ (m : VisitRecord). MovesNothing m.turn)) one.4 still in
      ⊎_elim
      (λ (here : j ≡ i).
      subst (λ k. (y.at k).busy u ≡ None) (one.5 ∙ sym here)
      (ap (λ (s : State). s.busy u) (round_leaves g level air now n (suc i) one.3 one.2 y one.7 one.1.platform (is_passed one.1.platform i one.5)) ∙ turn_frees g level one.1.platform (x.at one.1.platform) (one.3.at one.1.platform) one.1.turn one.1.late (turn_of g level air now x one.1 one.3 one.6) one.6.visit.handed moves.0.claimed u))
      (λ (there : j ≢ i). round_frees n (suc i) one.3 one.2 y (sound_then x one.1 one.3 h one.6 all.0) one.7 all.1 moves.1 j (is_later i j from there) (one_fewer n i j below) u)
      (cases_same j i))
      round
