-- The end of a run of platforms whose clocks are near one another, as their turns are kept; and so of a whole paced run.
use Rattle.std.proofs.Common.{◌≡◌, ℕ, ◌+◌, ◌<◌, true, false, List, ◌++◌, Option, None, Some, ℤ, ◌≤ℤ◌, length, slice_get, arith, refl, sym, ap, subst, ◌∙◌, ⊎_elim}
use Rattle.std.proofs.lemmas.Bool.{cases_Bool}
use Rattle.std.proofs.lemmas.Int.{ints}
use Rattle.pt_tags.specs.declared.message.Message.TheVariants.{Event}
use Rattle.pt_tags.specs.declared.tag.Tag.{Tag}
use Rattle.pt_types.specs.declared.kind.Kind.TheVariants.{Actuator}
use Rattle.pt_types.specs.declared.firing.Done.{Done}
use Rattle.pt_types.specs.declared.firing.Task.{Task}
use Rattle.pt_types.specs.declared.graph.Graph.{Graph}
use Rattle.pt_types.specs.declared.graph.Link.{Link}
use Rattle.pt_types.specs.declared.graph.Unit.{Unit}
use Rattle.pt_types.specs.declared.rows.Row.{Row}
use Rattle.pt_semantics.specs.Behaviours.{Firing}
use Rattle.pt_types.specs.Lookups.{slack_of}
use Rattle.pt_types.specs.Lookups.{kind_of, platform_of}
use Rattle.pt_semantics.specs.History.{IsCounted}
use Rattle.pt_laws.specs.HistoryTheorems.{IsSame}
use Rattle.pt_semantics.specs.Kept.{IsSingle, kept}
use Rattle.pt_semantics.specs.Linked.{all_claims}
use Rattle.pt_semantics.specs.Lists.{Each, IsIn}
use Rattle.pt_semantics.specs.Meaning.{ActorFiring, IsMeaning}
use Rattle.pt_semantics.specs.Missed.{IsMissed}
use Rattle.pt_semantics.specs.Offsets.{HasOffset, IsFeasible}
use Rattle.pt_semantics.specs.Rows.{FitRows}
use Rattle.pt_semantics.specs.Wired.{IsWired}
use Rattle.pt_semantics.specs.Paced.{IsPaced, paced_by}
use Rattle.pt_semantics.specs.Parts.{parts}
use Rattle.pt_semantics.specs.Ranks.{AreLevels, AreRanks}
use Rattle.pt_semantics.specs.Rounds.{IsTimely}
use Rattle.pt_semantics.specs.Turn.{Turn, is_quiet}
use Rattle.pt_semantics.specs.Units.{at_input, first_port, unit_of}
use Rattle.pt_types.specs.Groups.{input_group}
use Rattle.pt_semantics.specs.Visits.{AreFinished, RunState}
use Rattle.pt_laws.proofs.KeptTurns.{kept_counted, kept_is_legal}
use Rattle.pt_semantics.proofs.Lookups.{Each-from, Each-in}
use Rattle.pt_laws.specs.NearClocks.{AreNear}
use Rattle.pt_laws.proofs.NearClocks.{one_is_near}
use Rattle.pt_laws.proofs.Onward.{OnwardNear, round_onward}
use Rattle.pt_laws.proofs.Paces.{in_on_link}
use Rattle.pt_paced_laws.proofs.Long.{none_long}
use Rattle.pt_paced_laws.proofs.Missed.{meant_is_missed, missed_is_meant}
use Rattle.pt_paced_laws.proofs.PacedRuns.{missed_when_paced, run_onward}
use Rattle.pt_paced_laws.proofs.Prefix.{prefixes}
use Rattle.pt_paced_laws.specs.NearClocks.{KeepsPace}
use Rattle.pt_paced_laws.specs.Schedule.{AreAllClaimed, AreClaimedAsMeant, HaveMissed, IsMissedByMeaning, IsOnSchedule, SendsWithinSlack}
use Rattle.pt_paced_laws.specs.WholeRuns.{AllOnSchedule, AllWithinSlack, ClaimedAsMeant, IsEnd, MissedAsMeant, NoneIsLate, kept_by}
use Rattle.pt_paced_laws.proofs.Members.{claims_nothing, each_kept, kept_was_made, made_is_kept, posts_nothing, sends_nothing}
use Rattle.pt_paced_laws.proofs.Singles.{single_run}

-- a unit has one offset
offset_one : (g : Graph) (u : Unit) (o p : Option ℤ) → HasOffset g u o → HasOffset g u p → o ≡ p
offset_one g u None None h k = refl
offset_one g u None (Some r) h k = let s = k.some in absurd (h s.0 s.1 s.2 s.3)
offset_one g u (Some o) None h k = let s = h.some in absurd (k s.0 s.1 s.2 s.3)
offset_one g u (Some o) (Some r) h k = ap Some (same o r (subst (λ z. z ≤ℤ r) h.some.4 (k.greatest h.some.0 h.some.1 h.some.2 h.some.3)) (subst (λ z. z ≤ℤ o) k.some.4 (h.greatest k.some.0 k.some.1 k.some.2 k.some.3)))
  where
    same : (a b : ℤ) → a ≤ℤ b → b ≤ℤ a → a ≡ b
    same a b up down = omega (arith, ints)

-- an actuator has one unit
actuator_unit : (g : Graph) (a p slack : ℕ) → kind_of g a ≡ Actuator slack → at_input g a p ≡ at_input g a 0
actuator_unit g a p slack e =
    let same : input_group (kind_of g a) p ≡ input_group (kind_of g a) 0 = ap (λ k. input_group k p) e ∙ sym (ap (λ k. input_group k 0) e) in
    λ j. record { actor = a; group = same j }

-- all platforms of a graph that can run, together, each at its own clock's reading: at the end of a run, or before
pub record IsNearEnd (g : Graph) (level : ℕ → ℕ) (rows : ℕ → List Row) (y : RunState) : Type 0 where
  pub wired : IsWired g
  pub levels : AreLevels g level
  pub fit : FitRows g rows
  pub feasible : IsFeasible g
  pub offset : Unit → Option ℤ
  pub offsets : (u : Unit) → HasOffset g u (offset u)
  pub clock : ℕ → ℕ
  pub near : AreNear g clock
  pub onward : OnwardNear g level rows offset clock y
  pub single : (i : ℕ) → Each IsSingle (y.did i)

module _ (g : Graph) (level : ℕ → ℕ) (rows : ℕ → List Row) (y : RunState) (end : IsNearEnd g level rows y) where
  timed : (i : ℕ) → i < length g.platforms → Each (IsTimely g end.offset) (y.did i)
  timed = end.onward.timed

  counted : (i : ℕ) → Each IsCounted (kept (y.did i))
  counted i = kept_counted (y.did i) (end.single i)

  same : (i : ℕ) → IsSame g (kept (y.did i)) (y.did i)
  same i = (kept_is_legal g level i rows (y.did i) (y.at i) end.wired end.levels end.fit (end.single i)).2

  -- a turn that claims is one turn
  once : (i : ℕ) → i < length g.platforms → (turn : Turn) (task : Task) → IsIn turn (kept (y.did i)) → IsIn task turn.claimed → turn.first ≡ turn.last
  once i lt turn task m claimed =
      let c = Each-in IsCounted (kept (y.did i)) (counted i) turn m in
      ⊎_elim
      (λ (quiet : is_quiet turn ≡ true). absurd (claims_nothing turn task quiet claimed))
      (λ (noisy : is_quiet turn ≡ false). c.3 (c.4 noisy))
      (cases_Bool (is_quiet turn))

  -- the tasks of a turn that was made
  on_time : (i : ℕ) → i < length g.platforms → (turn : Turn) (task : Task) → IsIn turn (kept (y.did i)) → IsIn task turn.claimed → IsPaced g (unit_of g task) task.tag turn.last
  on_time i lt turn task m claimed =
      ⊎_elim
      (λ (quiet : is_quiet turn ≡ true). absurd (claims_nothing turn task quiet claimed))
      (λ (made : IsIn turn (y.did i)). (
        end.offset (unit_of g task),
        end.offsets (unit_of g task),
        Each-in (λ (k : Task). turn.last ≡ paced_by (end.offset (unit_of g k)) k.tag) turn.claimed (Each-in (IsTimely g end.offset) (y.did i) (timed i lt) turn made).claims task claimed,
      ))
      (kept_was_made (y.did i) turn m)

  schedule : (i : ℕ) → i < length g.platforms → Each (IsOnSchedule g) (kept (y.did i))
  schedule i lt = Each-from (IsOnSchedule g) (kept (y.did i)) (λ turn m task claimed. (once i lt turn task m claimed, on_time i lt turn task m claimed))

  slack : (i : ℕ) → i < length g.platforms → Each (SendsWithinSlack g) (kept (y.did i))
  slack i lt =
      each_kept (SendsWithinSlack g)
      (λ turn quiet l link t v at m. absurd (sends_nothing turn (record { link = l; message = Event t v }) quiet m))
      (y.did i)
      (Each-from (SendsWithinSlack g) (y.did i) (λ turn made l link t v at m.
      (Each-in (IsTimely g end.offset) (y.did i) (timed i lt) turn made).sends l link t v at (in_on_link (record { link = l; message = Event t v }) turn.sent m)))

  kept_claims : (u : Unit) → all_claims g (kept_by y) u ≡ all_claims g y.did u
  kept_claims u = (same (platform_of g u.actor)).claims u

  module _ (rank : ℕ → ℕ) (xs : List ActorFiring) (ranks : AreRanks g rank) (meaning : IsMeaning g rank rows xs) where
    prefix : (u : Unit) → ((rest : List Firing) × (parts g xs u ≡ all_claims g y.did u ++ rest)) × (AreFinished g y → all_claims g y.did u ≡ parts g xs u)
    prefix = prefixes g level rows end.offset end.wired end.levels end.fit end.feasible end.offsets end.clock end.near y end.onward rank xs ranks meaning

    front : AreClaimedAsMeant g xs (kept_by y)
    front u = let p = prefix u in (p.0.0, p.0.1 ∙ ap (λ z. z ++ p.0.0) (sym (kept_claims u)))

    whole : AreFinished g y → AreAllClaimed g xs (kept_by y)
    whole done u = kept_claims u ∙ (prefix u).1 done

    -- the reading of a missed entry is the paced reading of its actuator
    record IsAnActuator (turn : Turn) (a : ℕ) (t : Tag) (limit : ℕ) : Type 0 where
      slack_is : ℕ
      kind : kind_of g a ≡ Actuator slack_is
      limit_is : limit ≡ t.time + slack_is
      reading : turn.last ≡ paced_by (end.offset (at_input g a 0)) t

    actuator : (i : ℕ) → i < length g.platforms → (turn : Turn) (a : ℕ) (t : Tag) (limit : ℕ) → IsIn turn (y.did i) → IsMissed g turn a t limit → IsAnActuator turn a t limit
    actuator i lt turn a t limit made missed =
        let timely = Each-in (IsTimely g end.offset) (y.did i) (timed i lt) turn made in
        let m = missed_when_paced g end.offset turn a t limit timely missed in
        let d : Done = m.0 in
        let unit : unit_of g d.task ≡ at_input g a 0 = ap (λ b. at_input g b (first_port d.task.inputs)) m.2 ∙ actuator_unit g a (first_port d.task.inputs) m.4.0 m.4.1 in
        let on : turn.last ≡ paced_by (end.offset (unit_of g d.task)) d.task.tag = Each-in (λ (e : Done). turn.last ≡ paced_by (end.offset (unit_of g e.task)) e.task.tag) turn.posted timely.posts d m.1 in
        record {
          slack_is = m.4.0;
          kind = m.4.1;
          limit_is = m.4.2;
          reading = subst (λ w. turn.last ≡ paced_by (end.offset (at_input g a 0)) w) m.3 (subst (λ v. turn.last ≡ paced_by (end.offset v) d.task.tag) unit on);
        }

    -- a turn that missed something is not quiet
    noisy : (turn : Turn) (a : ℕ) (t : Tag) (limit : ℕ) → IsMissed g turn a t limit → is_quiet turn ≡ true → ⊥
    noisy turn a t limit missed quiet =
        ⊎_elim
        (λ (post : (d : Done) × IsIn d turn.posted × (d.task.actor ≡ a) × (d.task.tag ≡ t) × ((slack : ℕ) × (kind_of g a ≡ Actuator slack) × (limit ≡ t.time + slack))). posts_nothing turn post.0 quiet post.1)
        (λ (send : (l : ℕ) × (value : ℤ) × (link : Link) × IsIn (record { link = l; message = Event t value }) turn.sent × (slice_get g.links l ≡ Some link) × (link.from ≡ a) × (limit ≡ t.time + slack_of (kind_of g a))).
        sends_nothing turn (record { link = send.0; message = Event t send.1 }) quiet send.3)
        missed.0

    module _ (done : AreFinished g y) where
      both : ((i a limit : ℕ) (t : Tag) (turn : Turn) → i < length g.platforms → IsIn turn (y.did i) → IsMissed g turn a t limit → (z : ActorFiring) × IsIn z xs × (z.actor ≡ a) × (z.tag ≡ t) × ((slack : ℕ) × (kind_of g a ≡ Actuator slack) × (t.time + slack < paced_by (end.offset (at_input g a 0)) t)))
          × ((z : ActorFiring) (slack : ℕ) → IsIn z xs → kind_of g z.actor ≡ Actuator slack → z.tag.time + slack < paced_by (end.offset (at_input g z.actor 0)) z.tag → (turn : Turn) × IsIn turn (y.did (platform_of g z.actor)) × IsMissed g turn z.actor z.tag (z.tag.time + slack))
      both = (
        missed_is_meant g level rank rows end.offset end.wired end.levels ranks end.fit end.feasible end.offsets end.clock end.near y end.onward xs meaning done,
        meant_is_missed g level rank rows end.offset end.wired end.levels ranks end.fit end.feasible end.offsets end.clock end.near y end.onward xs meaning done,
      )

      there : (a : ℕ) (t : Tag) (reading limit : ℕ) → HaveMissed g (kept_by y) a t reading limit → IsMissedByMeaning g xs a t reading limit
      there a t reading limit (i, lt, turn, m, at, missed) =
          ⊎_elim
          (λ (quiet : is_quiet turn ≡ true). absurd (noisy turn a t limit missed quiet))
          (λ (made : IsIn turn (y.did i)).
          let act = actuator i lt turn a t limit made missed in
          let z = both.0 i a limit t turn lt made missed in
          record {
            firing = z.0;
            there = z.1;
            actor = z.2;
            tag = z.3;
            slack = act.slack_is;
            actuator = act.kind;
            limit_is = act.limit_is;
            paced = (end.offset (at_input g a 0), end.offsets (at_input g a 0), sym at ∙ act.reading);
            past = subst (λ n. limit < n) at missed.1;
          })
          (kept_was_made (y.did i) turn m)

      back : (a : ℕ) (t : Tag) (reading limit : ℕ) → IsMissedByMeaning g xs a t reading limit → HaveMissed g (kept_by y) a t reading limit
      back a t reading limit m =
          let one : m.paced.0 ≡ end.offset (at_input g a 0) = offset_one g (at_input g a 0) m.paced.0 (end.offset (at_input g a 0)) m.paced.1 (end.offsets (at_input g a 0)) in
          let reads : reading ≡ paced_by (end.offset (at_input g a 0)) t = m.paced.2 ∙ ap (λ o. paced_by o t) one in
          let over : t.time + m.slack < paced_by (end.offset (at_input g a 0)) t = subst (λ n. n < paced_by (end.offset (at_input g a 0)) t) m.limit_is (subst (λ n. limit < n) reads m.past) in
          let kind : kind_of g m.firing.actor ≡ Actuator m.slack = ap (kind_of g) m.actor ∙ m.actuator in
          let over2 : m.firing.tag.time + m.slack < paced_by (end.offset (at_input g m.firing.actor 0)) m.firing.tag =
          subst (λ b. m.firing.tag.time + m.slack < paced_by (end.offset (at_input g b 0)) m.firing.tag) (sym m.actor) (subst (λ (w : Tag). w.time + m.slack < paced_by (end.offset (at_input g a 0)) w) (sym m.tag) over) in
          let f = both.1 m.firing m.slack m.there kind over2 in
          let i : ℕ = platform_of g m.firing.actor in
          let lt : i < length g.platforms = end.wired.homes m.firing.actor in
          let missed : IsMissed g f.0 a t limit =
          subst (λ n. IsMissed g f.0 a t n) (sym m.limit_is)
          (subst (λ (w : Tag). IsMissed g f.0 a w (w.time + m.slack)) m.tag
          (subst (λ b. IsMissed g f.0 b m.firing.tag (m.firing.tag.time + m.slack)) m.actor f.2)) in
          let act = actuator i lt f.0 a t limit f.1 missed in
          ⊎_elim
          (λ (quiet : is_quiet f.0 ≡ true). absurd (noisy f.0 a t limit missed quiet))
          (λ (loud : is_quiet f.0 ≡ false). (i, lt, f.0, made_is_kept f.0 loud (y.did i) f.1, act.reading ∙ sym reads, missed))
          (cases_Bool (is_quiet f.0))

-- it keeps the paced schedule, and does what the meaning does
pub keeps_pace : (g : Graph) (level : ℕ → ℕ) (rows : ℕ → List Row) (y : RunState) → IsNearEnd g level rows y → KeepsPace g level rows y
keeps_pace g level rows y end = record {
  none_late = λ i lt. (kept_is_legal g level i rows (y.did i) (y.at i) end.wired end.levels end.fit (end.single i)).1 (end.onward.legal i lt);
  on_schedule = schedule g level rows y end;
  within_slack = slack g level rows y end;
  claimed_as_meant = λ rank xs ranks meaning. front g level rows y end rank xs ranks meaning;
  all_claimed = λ done rank xs ranks meaning. whole g level rows y end rank xs ranks meaning done;
  missed_as_meant = λ done rank xs ranks meaning a t reading limit. (there g level rows y end rank xs ranks meaning done a t reading limit, back g level rows y end rank xs ranks meaning done a t reading limit);
  none_long = λ done rank xs ranks meaning. none_long g level rank rows end.offset end.wired end.levels ranks end.fit end.feasible end.offsets xs meaning end.clock end.near y end.onward done;
}

-- the end of a whole paced run is such an end, at one common reading
near_end : (g : Graph) (level : ℕ → ℕ) (rows : ℕ → List Row) (y : RunState) → IsEnd g level rows y → IsNearEnd g level rows y
near_end g level rows y end = record {
  wired = end.wired;
  levels = end.levels;
  fit = end.fit;
  feasible = end.feasible;
  offset = end.offset;
  offsets = end.offsets;
  clock = λ i. end.run.reading;
  near = one_is_near g end.run.reading;
  onward = (round_onward g level rows end.offset end.offsets end.wired end.feasible end.run.reading (length g.platforms) 0 end.run.before y end.run.made (omega arith)
      (run_onward g level rows end.offset end.wired end.levels end.fit end.feasible end.offsets end.run.rounds end.run.reading end.run.before end.run.run) end.run.round).1;
  single = single_run g level rows y end.run;
}

pub all_on_schedule : AllOnSchedule
all_on_schedule g level rows y end = (keeps_pace g level rows y (near_end g level rows y end)).on_schedule

pub all_within_slack : AllWithinSlack
all_within_slack g level rows y end = (keeps_pace g level rows y (near_end g level rows y end)).within_slack

pub none_is_late : NoneIsLate
none_is_late g level rows y end = (keeps_pace g level rows y (near_end g level rows y end)).none_late

pub claimed_as_meant : ClaimedAsMeant
claimed_as_meant g level rank rows y xs end ranks meaning =
    let k = keeps_pace g level rows y (near_end g level rows y end) in
    (k.claimed_as_meant rank xs ranks meaning, λ done. k.all_claimed done rank xs ranks meaning)

pub missed_as_meant : MissedAsMeant
missed_as_meant g level rank rows y xs end done ranks meaning = (keeps_pace g level rows y (near_end g level rows y end)).missed_as_meant done rank xs ranks meaning
