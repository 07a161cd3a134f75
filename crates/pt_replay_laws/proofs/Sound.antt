-- The platforms between the visits of a round.
use Rattle.std.proofs.Common.{◌≡◌, ◌≢◌, ℕ, ◌<◌, ◌≤◌, Bool, true, false, List, [], ◌∷◌, ◌++◌, Some, slice_get, refl, sym, ap, subst, ◌∙◌, inl, ⊎_elim, append_assoc, arith, length, ◌^◌}
use Rattle.std.proofs.lemmas.Bool.{cases_Bool, false≢true}
use Rattle.pt_tags.specs.declared.message.Message.{Message}
use Rattle.pt_types.specs.declared.graph.Graph.{Graph}
use Rattle.pt_types.specs.declared.graph.Link.{Link}
use Rattle.pt_types.specs.declared.rows.Row.{Row}
use Rattle.pt_types.specs.Lookups.{platform_of}
use Rattle.pt_semantics.specs.Closing.{on_link}
use Rattle.pt_semantics.specs.Entering.{after_rows}
use Rattle.pt_semantics.specs.History.{Legal}
use Rattle.pt_semantics.specs.Kept.{IsSingle}
use Rattle.pt_semantics.specs.Linked.{all_sent, all_taken}
use Rattle.pt_semantics.specs.Lists.{Each}
use Rattle.pt_semantics.specs.Orderly.{IsOrderly}
use Rattle.pt_semantics.specs.Platform.{State, opened}
use Rattle.pt_semantics.specs.Ranks.{AreLevels}
use Rattle.pt_semantics.specs.Rows.{FitRows}
use Rattle.pt_semantics.specs.Turn.{IsLast, IsTurn, Turn}
use Rattle.pt_semantics.specs.Visits.{VisitRecord}
use Rattle.pt_semantics.specs.Wired.{IsWired}
use Rattle.pt_semantics.proofs.Longest.{levels_grow}
use Rattle.pt_laws.proofs.Bounds.{outgoing_orderly_after}
use Rattle.pt_laws.proofs.Home.{home_on_time}
use Rattle.pt_laws.proofs.Onward.{cases_same}
use Rattle.pt_types.specs.declared.air.Air.{Air}
use Rattle.pt_semantics.specs.Arrivals.{AirwayView, NeverFall}
use Rattle.pt_semantics.specs.TrueTime.{delay_on, reading_at, transits_on}
use Rattle.pt_fixed_order_laws.specs.Sound.{NoneWasLast, SendsNothingElse}
use Rattle.pt_fixed_order_laws.proofs.Sound.{Own, goes_on_time, one_more_linked, push_last, push_on, sent_push, single_push, takes_own, turn_own}
use Rattle.pt_laws.proofs.SameTurns.{turn_to}
use Rattle.pt_replay_laws.specs.Between.{under_way}
use Rattle.pt_replay_laws.specs.ReplayState.{IsVisitAt, ReplayState, replay_at_start, taken_off}
use Rattle.pt_replay_laws.proofs.Ways.{carried, come_front, drop_falls, left_carried, put_carried, put_falls}

-- what a visit does
module _ (g : Graph) (level : ℕ → ℕ) (air : Air) (now : ℕ) (x : ReplayState) (m : VisitRecord) (y : ReplayState) (f : IsVisitAt g level air now x m y) where
  pub others : (p : ℕ) → p ≢ m.platform → (y.at p ≡ x.at p) × (y.did p ≡ x.did p)
  others p ne = (ap (λ (z : ℕ → State). z p) f.states ∙ (f.visit.others p ne).0, ap (λ (z : ℕ → List Turn). z p) f.turns ∙ (f.visit.others p ne).1)

  pub joins : y.did m.platform ≡ x.did m.platform ++ m.turn ∷ []
  joins = ap (λ (z : ℕ → List Turn). z m.platform) f.turns ∙ f.visit.joins

  abbrev pub turn_of : IsTurn g level m.platform (x.at m.platform) m.turn m.late (y.at m.platform)
  turn_of = turn_to g level m.platform (x.at m.platform) (f.after.at m.platform) (y.at m.platform) m.turn m.late (sym (ap (λ (z : ℕ → State). z m.platform) f.states)) f.visit.is

  pub not_late : m.fault ≡ false → m.late ≡ false
  not_late fine = ⊎_elim (λ (e : m.late ≡ true). absurd (false≢true (sym fine ∙ f.visit.faults.0 (inl e)))) (λ (e : m.late ≡ false). e) (cases_Bool m.late)

  -- the turn, if no message was late
  pub on_time : m.late ≡ false → (is : IsTurn g level m.platform (x.at m.platform) m.turn false (y.at m.platform)) × (is.ready ≡ f.visit.is.ready)
  on_time e = go m.late e turn_of
    where
      go : (late : Bool) → late ≡ false → (is : IsTurn g level m.platform (x.at m.platform) m.turn late (y.at m.platform)) → (one : IsTurn g level m.platform (x.at m.platform) m.turn false (y.at m.platform)) × (one.ready ≡ is.ready)
      go false e is = (is, refl)
      go true e is = absurd (false≢true (sym e))

  -- it is not a last one, if the platform has no fault
  pub not_last : (fine : m.fault ≡ false) → IsLast g (x.at m.platform) m.turn.last false (on_time (not_late fine)).0.ready → ⊥
  not_last fine last =
      false≢true (sym fine ∙ f.visit.faults.0
      (subst (λ b. IsLast g (x.at m.platform) (reading_at air m.platform now) b f.visit.is.ready) (sym (not_late fine))
      (subst (λ n. IsLast g (x.at m.platform) n false f.visit.is.ready) f.visit.last
      (subst (IsLast g (x.at m.platform) m.turn.last false) (on_time (not_late fine)).1 last))))

  pub single : IsSingle m.turn
  single = record { once = f.visit.once; one_reading = f.visit.first ∙ sym f.visit.last; fits = subst (λ n. n < 2 ^ 64) (sym f.visit.last) f.visit.fits }

  -- on each link the messages that were taken were the first, and those that were sent are the last
  pub way : (l : ℕ) → (rest : List Message) × (under_way x l ≡ on_link l m.turn.taken ++ rest) × (under_way y l ≡ rest ++ on_link l m.turn.sent)
  way l =
      let (held, split) = come_front g m.platform now l (x.airways l) in
      let rest : List Message = f.visit.rest l ++ held in
      let all : under_way x l ≡ on_link l m.turn.taken ++ rest = split ∙ ap (λ z. z ++ held) (f.visit.takes l) ∙ append_assoc (on_link l m.turn.taken) (f.visit.rest l) held in (
        rest,
        all,
        ap carried (f.airways l)
            ∙ put_carried now (transits_on air l) (delay_on g l) (on_link l m.turn.sent) (taken_off (on_link l m.turn.taken) (x.airways l))
            ∙ ap (λ z. z ++ on_link l m.turn.sent) (left_carried (on_link l m.turn.taken) rest (x.airways l) all),
      )

  -- arrivals still never fall
  pub falls : ((l : ℕ) → NeverFall 0 (x.airways l).on_way (x.airways l).latest) → (l : ℕ) → NeverFall 0 (y.airways l).on_way (y.airways l).latest
  falls h l =
      subst (λ (a : AirwayView). NeverFall 0 a.on_way a.latest) (sym (f.airways l))
      (put_falls now (transits_on air l) (delay_on g l) (on_link l m.turn.sent) (taken_off (on_link l m.turn.taken) (x.airways l))
      (drop_falls (length (on_link l m.turn.taken)) (x.airways l).on_way (x.airways l).latest (h l)))

-- all platforms in a round, after the visits of the first n. A platform that was not visited in it has no fault
pub record IsSound (g : Graph) (level : ℕ → ℕ) (rows : ℕ → List Row) (n : ℕ) (x : ReplayState) : Type 0 where
  pub goes : (p : ℕ) → n ≤ p → NoneWasLast g level p (opened g p rows) (x.did p) (x.at p)
  pub legal : (p : ℕ) → Legal g level p (opened g p rows) (x.did p) (x.at p)
  pub single : (p : ℕ) → Each IsSingle (x.did p)
  pub own : (p : ℕ) → SendsNothingElse g p (x.at p)
  pub linked : (l : ℕ) (link : Link) → slice_get g.links l ≡ Some link → all_sent l (x.did (platform_of g link.from)) ≡ all_taken l (x.did (platform_of g link.to)) ++ under_way x l
  pub orderly : (l : ℕ) (link : Link) → slice_get g.links l ≡ Some link → IsOrderly g level link (all_sent l (x.did (platform_of g link.from)) ++ (x.at (platform_of g link.from)).outbox l)
  pub falls : (l : ℕ) → NeverFall 0 (x.airways l).on_way (x.airways l).latest

pub sound_at_start : (g : Graph) (level : ℕ → ℕ) (rows : ℕ → List Row) → IsSound g level rows 0 (replay_at_start g rows)
sound_at_start g level rows = record {
  goes = λ p le. refl;
  legal = λ p. refl;
  single = λ p. tt;
  own = λ p l f. refl;
  linked = λ l link at. refl;
  orderly = λ l link at. (tt, tt);
  falls = λ l. omega arith;
}

-- nothing else is known of more platforms
pub sound_further : (g : Graph) (level : ℕ → ℕ) (rows : ℕ → List Row) (n k : ℕ) (x : ReplayState) → n ≤ k → IsSound g level rows n x → IsSound g level rows k x
sound_further g level rows n k x le h = record {
  goes = λ p from. h.goes p (omega (arith, le, from));
  legal = h.legal;
  single = h.single;
  own = h.own;
  linked = h.linked;
  orderly = h.orderly;
  falls = h.falls;
}

module _ (g : Graph) (level : ℕ → ℕ) (rows : ℕ → List Row) (wired : IsWired g) (are : AreLevels g level) (fits : FitRows g rows) where
  module _ (air : Air) (now n : ℕ) (x : ReplayState) (m : VisitRecord) (y : ReplayState) (h : IsSound g level rows n x) (f : IsVisitAt g level air now x m y) (le : n ≤ m.platform) where
    pub own_turn : Own g level m.platform (x.at m.platform) m.turn (y.at m.platform)
    own_turn = turn_own g level m.platform (x.at m.platform) (y.at m.platform) m.turn m.late
        (home_on_time g level m.platform rows (x.did m.platform) (x.at m.platform) wired (levels_grow g level are) fits (goes_on_time g level m.platform (x.did m.platform) (opened g m.platform rows) (x.at m.platform) (h.goes m.platform le))).busy
        (h.own m.platform) (turn_of g level air now x m y f)

    -- what is true of the platform that flew, and of each that did not, is true of all
    by_platform : (P : ℕ → State → List Turn → Type 0) → ((p : ℕ) → p ≢ m.platform → P p (x.at p) (x.did p)) → P m.platform (y.at m.platform) (x.did m.platform ++ m.turn ∷ []) → (p : ℕ) → P p (y.at p) (y.did p)
    by_platform P there here p = ⊎_elim
        (λ (e : p ≡ m.platform). subst (λ q. P q (y.at q) (y.did q)) (sym e) (subst (P m.platform (y.at m.platform)) (sym (joins g level air now x m y f)) here))
        (λ (ne : p ≢ m.platform). let same = others g level air now x m y f p ne in subst (λ t. P p (y.at p) t) (sym same.1) (subst (λ s. P p s (x.did p)) (sym same.0) (there p ne)))
        (cases_same p m.platform)

    linked_after : (l : ℕ) (link : Link) → slice_get g.links l ≡ Some link → all_sent l (y.did (platform_of g link.from)) ≡ all_taken l (y.did (platform_of g link.to)) ++ under_way y l
    linked_after l link at =
        let (rest, first, last) = way g level air now x m y f l in
        one_more_linked g m.platform m.turn x.did y.did (joins g level air now x m y f) (λ p ne. (others g level air now x m y f p ne).1) l link at (own_turn.sent l)
        (λ away. takes_own g level m.platform m.turn.taken m.late (after_rows f.visit.is.posted m.turn.last) f.visit.is.got l link at away f.visit.is.takes)
        (under_way x l) rest (under_way y l) first last (h.linked l link at)

    orderly_after : (l : ℕ) (link : Link) → slice_get g.links l ≡ Some link → IsOrderly g level link (all_sent l (y.did (platform_of g link.from)) ++ (y.at (platform_of g link.from)).outbox l)
    orderly_after l link at = ⊎_elim
        (λ (here : platform_of g link.from ≡ m.platform).
        subst (λ p. IsOrderly g level link (all_sent l (y.did p) ++ (y.at p).outbox l)) (sym here)
        (subst (IsOrderly g level link)
        (sym (append_assoc (all_sent l (x.did m.platform)) (on_link l m.turn.sent) ((y.at m.platform).outbox l))
        ∙ ap (λ z. z ++ (y.at m.platform).outbox l) (sym (ap (all_sent l) (joins g level air now x m y f) ∙ sent_push l (x.did m.platform) m.turn)))
        (outgoing_orderly_after g level m.platform rows (x.did m.platform) m.turn (x.at m.platform) (y.at m.platform) m.late wired are fits
        (goes_on_time g level m.platform (x.did m.platform) (opened g m.platform rows) (x.at m.platform) (h.goes m.platform le)) (turn_of g level air now x m y f) l link at here)))
        (λ (there : platform_of g link.from ≢ m.platform).
        let same = others g level air now x m y f (platform_of g link.from) there in
        subst (λ t. IsOrderly g level link (all_sent l t ++ (y.at (platform_of g link.from)).outbox l)) (sym same.1)
        (subst (λ (s : State). IsOrderly g level link (all_sent l (x.did (platform_of g link.from)) ++ s.outbox l)) (sym same.0) (h.orderly l link at)))
        (cases_same (platform_of g link.from) m.platform)

    -- so it is after the visit, of the platforms from k on if this one has no fault or is not one of them
    pub sound_visit : (k : ℕ) → n ≤ k → (k ≤ m.platform → m.fault ≡ false) → IsSound g level rows k y
    sound_visit k more fine = record {
      goes = by_platform (λ p s t. k ≤ p → NoneWasLast g level p (opened g p rows) t s)
          (λ p ne from. h.goes p (omega (arith, more, from)))
          (λ from. push_on g level m.platform (x.did m.platform) m.turn (opened g m.platform rows) (x.at m.platform) (y.at m.platform) (h.goes m.platform le)
          (on_time g level air now x m y f (not_late g level air now x m y f (fine from))).0 (not_last g level air now x m y f (fine from)));
      legal = by_platform (λ p s t. Legal g level p (opened g p rows) t s)
          (λ p ne. h.legal p)
          (push_last g level m.platform (x.did m.platform) m.turn m.late (opened g m.platform rows) (x.at m.platform) (y.at m.platform) (h.goes m.platform le) (turn_of g level air now x m y f));
      single = by_platform (λ p s t. Each IsSingle t) (λ p ne. h.single p) (single_push (x.did m.platform) m.turn (h.single m.platform) (single g level air now x m y f));
      own = by_platform (λ p s t. SendsNothingElse g p s) (λ p ne. h.own p) own_turn.left;
      linked = linked_after;
      orderly = orderly_after;
      falls = falls g level air now x m y f h.falls;
    }
