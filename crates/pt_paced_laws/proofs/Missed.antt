-- In a finished run each claim is posted, and so the missed entries are told by the meaning and the paced readings.
use Rattle.std.proofs.Common.{◌≡◌, ℕ, ◌+◌, ◌<◌, ◌≤◌, ◌⊎◌, ◌≢◌, Bool, true, false, List, [], ◌∷◌, ◌++◌, Option, Some, None, ℤ, length, filter_map, arith, refl, sym, ap, subst, ◌∙◌, inl, inr, ⊎_elim, append-nil, append_assoc}
use Rattle.std.specs.List.{flat_map}
use Rattle.pt_types.specs.declared.graph.Graph.{Graph}
use Rattle.pt_types.specs.declared.kind.Kind.TheVariants.{Actuator}
use Rattle.pt_types.specs.declared.graph.Unit.{Unit}
use Rattle.pt_tags.specs.declared.tag.Tag.{Tag}
use Rattle.pt_semantics.specs.Wired.{IsWired}
use Rattle.pt_semantics.specs.Ranks.{AreLevels, AreRanks}
use Rattle.pt_semantics.specs.Offsets.{HasOffset, IsFeasible}
use Rattle.pt_semantics.specs.Rows.{FitRows}
use Rattle.pt_semantics.specs.Missed.{IsMissed}
use Rattle.pt_semantics.specs.Visits.{AreFinished, RunState}
use Rattle.pt_semantics.specs.Lists.{IsIn}
use Rattle.pt_types.specs.Lookups.{kind_of, platform_of}
use Rattle.pt_semantics.specs.Units.{at_input, unit_of, first_port}
use Rattle.pt_types.specs.Groups.{input_group}
use Rattle.pt_types.specs.Ports.{at_port}
use Rattle.pt_semantics.specs.Firing.{any_present}
use Rattle.pt_semantics.specs.Behaviours.{Firing, Firings}
use Rattle.pt_types.specs.declared.rows.Row.{Row}
use Rattle.pt_semantics.specs.Meaning.{ActorFiring, IsMeaning, at_start}
use Rattle.pt_types.specs.declared.firing.Task.{Task}
use Rattle.pt_types.specs.declared.firing.Done.{Done}
use Rattle.pt_semantics.specs.Platform.{State, put_busy, raised, opened}
use Rattle.pt_semantics.specs.Turn.{Turn, IsTurn}
use Rattle.pt_semantics.specs.Claiming.{IsNext, Claims, after_claim}
use Rattle.pt_semantics.specs.Posting.{Posts, after_post}
use Rattle.pt_semantics.specs.Closing.{CanClose, shut}
use Rattle.pt_semantics.specs.History.{firing_by, of_unit, claims_of, LegalOnTime}
use Rattle.pt_semantics.specs.Entering.{after_rows}
use Rattle.pt_semantics.specs.Linked.{all_claims}
use Rattle.pt_semantics.specs.Sorted.{IsFull}
use Rattle.pt_semantics.specs.Parts.{AreTheFirings}
use Rattle.pt_semantics.specs.Paced.{paced_by}
use Rattle.pt_semantics.specs.Rounds.{IsTimely}
use Rattle.pt_paced_laws.specs.PacedTheorems.{MissedIsInMeaning}
use Rattle.pt_semantics.proofs.Lookups.{none_some, same_some, Each-in, IsIn-append, IsIn-append_left, IsIn-append_right, cases_part, eight_found}
use Rattle.pt_semantics.proofs.Floor.{put_same, put_other, put_none_found}
use Rattle.pt_semantics.proofs.Claiming.{more, more_same, more_other, more_found}
use Rattle.pt_laws.proofs.FloorHolds.{all_more}
use Rattle.pt_laws.proofs.Progress.{takes_grown}
use Rattle.pt_semantics.proofs.Longest.{levels_grow}
use Rattle.pt_laws.proofs.Home.{home_on_time}
use Rattle.pt_laws.specs.NearClocks.{AreNear}
use Rattle.pt_laws.proofs.NearClocks.{one_is_near}
use Rattle.pt_laws.proofs.ByActor.{full_runs, by_parts}
use Rattle.pt_laws.proofs.Onward.{Onward, OnwardNear, round_onward}
use Rattle.pt_paced_laws.proofs.PacedRuns.{run_onward, missed_when_paced}
use Rattle.pt_paced_laws.proofs.Prefix.{prefixes, whole_at}

-- each claim is open or posted, and what is posted was claimed
pub record Accounted (g : Graph) (busy : Unit → Option Task) (c : Firings) (ds : List Done) : Type 0 where
  pub all : (u : Unit) (x : Firing) → IsIn x (c u) → ((task : Task) × (busy u ≡ Some task) × (firing_by g task ≡ x)) ⊎ ((d : Done) × IsIn d ds × (unit_of g d.task ≡ u) × (firing_by g d.task ≡ x))
  pub back : (d : Done) → IsIn d ds → IsIn (firing_by g d.task) (c (unit_of g d.task))
  pub opened : (u : Unit) (task : Task) → busy u ≡ Some task → IsIn (firing_by g task) (c u)

more_in : (c : Firings) (w v : Unit) (x y : Firing) → IsIn y (c v) → IsIn y (more c w x v)
more_in c w v x y mem =
    ⊎_elim
    (λ (e : w ≡ v). subst (IsIn y) (sym (more_same c w v x e)) (IsIn-append_left y (c v) (x ∷ []) mem))
    (λ (ne : w ≢ v). subst (IsIn y) (sym (more_other c w v x ne)) mem)
    (cases_part w v)

post_accounted : (g : Graph) (busy : Unit → Option Task) (c : Firings) (ds : List Done) (d : Done) → Accounted g busy c ds → busy (unit_of g d.task) ≡ Some d.task → Accounted g (put_busy busy (unit_of g d.task) None) c (ds ++ d ∷ [])
post_accounted g busy c ds d k b = record {
  all = λ u x mem.
      ⊎_elim
      (λ (o : (task : Task) × (busy u ≡ Some task) × (firing_by g task ≡ x)).
      ⊎_elim
      (λ (here : unit_of g d.task ≡ u).
      let same : d.task ≡ o.0 = same_some d.task o.0 (sym b ∙ ap busy here ∙ o.1) in
      inr (d, IsIn-append_right d ds (d ∷ []) (inl refl), here, ap (firing_by g) same ∙ o.2))
      (λ (there : unit_of g d.task ≢ u). inl (o.0, put_other busy (unit_of g d.task) u None there ∙ o.1, o.2))
      (cases_part (unit_of g d.task) u))
      (λ (p : (e : Done) × IsIn e ds × (unit_of g e.task ≡ u) × (firing_by g e.task ≡ x)). inr (p.0, IsIn-append_left p.0 ds (d ∷ []) p.1, p.2, p.3))
      (k.all u x mem);
  back = λ e mem.
      ⊎_elim
      (λ (old : IsIn e ds). k.back e old)
      (λ (new : IsIn e (d ∷ [])). ⊎_elim (λ (same : e ≡ d). subst (λ (z : Done). IsIn (firing_by g z.task) (c (unit_of g z.task))) (sym same) (k.opened (unit_of g d.task) d.task b)) (λ (z : ⊥). absurd z) new)
      (IsIn-append e ds (d ∷ []) mem);
  opened = λ u task o. k.opened u task (put_none_found busy (unit_of g d.task) u task o);
}

posts_accounted : (g : Graph) (more_ds ds : List Done) (s new : State) (c : Firings) → Accounted g s.busy c ds → Posts g s more_ds new → Accounted g new.busy c (ds ++ more_ds)
posts_accounted g [] ds s new c k e = subst (λ (z : State). Accounted g z.busy c (ds ++ [])) (sym e) (subst (Accounted g s.busy c) (sym (append-nil ds)) k)
posts_accounted g (d ∷ more_ds) ds s new c k (b, result, rest) =
    subst (Accounted g new.busy c) (append_assoc ds (d ∷ []) more_ds)
    (posts_accounted g more_ds (ds ++ d ∷ []) (after_post g s d) new c (post_accounted g s.busy c ds d k b) rest)

claim_accounted : (g : Graph) (s : State) (r : ℕ) (c : Firings) (ds : List Done) (task : Task) → Accounted g s.busy c ds → IsNext g s r (unit_of g task) task → Accounted g (put_busy s.busy (unit_of g task) (Some task)) (more c (unit_of g task) (firing_by g task)) ds
claim_accounted g s r c ds task k next = record {
  all = λ u x mem.
      ⊎_elim
      (λ (old : IsIn x (c u)).
      ⊎_elim
      (λ (o : (other : Task) × (s.busy u ≡ Some other) × (firing_by g other ≡ x)).
      ⊎_elim
      (λ (here : unit_of g task ≡ u). absurd (none_some o.0 (sym next.safe.free ∙ ap s.busy here ∙ o.1)))
      (λ (there : unit_of g task ≢ u). inl (o.0, put_other s.busy (unit_of g task) u (Some task) there ∙ o.1, o.2))
      (cases_part (unit_of g task) u))
      (λ (p : (e : Done) × IsIn e ds × (unit_of g e.task ≡ u) × (firing_by g e.task ≡ x)). inr p)
      (k.all u x old))
      (λ (new : (unit_of g task ≡ u) × (x ≡ firing_by g task)). inl (task, put_same s.busy (unit_of g task) u (Some task) new.0, sym new.1))
      (more_found c (unit_of g task) u (firing_by g task) x mem);
  back = λ e mem. more_in c (unit_of g task) (unit_of g e.task) (firing_by g task) (firing_by g e.task) (k.back e mem);
  opened = λ u other b.
      ⊎_elim
      (λ (here : unit_of g task ≡ u).
      let same : task ≡ other = same_some task other (sym (put_same s.busy (unit_of g task) u (Some task) here) ∙ b) in
      subst (λ (z : Task). IsIn (firing_by g z) (more c (unit_of g task) (firing_by g task) u)) same
      (subst (IsIn (firing_by g task)) (sym (more_same c (unit_of g task) u (firing_by g task) here)) (IsIn-append_right (firing_by g task) (c u) (firing_by g task ∷ []) (inl refl))))
      (λ (there : unit_of g task ≢ u). more_in c (unit_of g task) u (firing_by g task) (firing_by g other) (k.opened u other (sym (put_other s.busy (unit_of g task) u (Some task) there) ∙ b)))
      (cases_part (unit_of g task) u);
}

claims_accounted : (g : Graph) (r : ℕ) (tasks : List Task) (s new : State) (c : Firings) (ds : List Done) → Accounted g s.busy c ds → Claims g r s tasks new → Accounted g new.busy (λ u. c u ++ filter_map (of_unit g u) tasks) ds
claims_accounted g r [] s new c ds k e =
    let same : ◌≡◌ {A = Firings} c (λ u. c u ++ []) = λ j u. sym (append-nil (c u)) j in
    subst (λ (z : State). Accounted g z.busy (λ u. c u ++ []) ds) (sym e) (subst (λ z. Accounted g s.busy z ds) same k)
claims_accounted g r (task ∷ tasks) s new c ds k (next, rest) =
    subst (λ z. Accounted g new.busy z ds) (all_more c g task tasks)
    (claims_accounted g r tasks (after_claim g s (unit_of g task) task) new (more c (unit_of g task) (firing_by g task)) ds (claim_accounted g s r c ds task k next) rest)

turn_accounted : (g : Graph) (level : ℕ → ℕ) (i : ℕ) (s new : State) (turn : Turn) (late : Bool) (c : Firings) (ds : List Done) → Accounted g s.busy c ds → IsTurn g level i s turn late new → Accounted g new.busy (λ u. c u ++ filter_map (of_unit g u) turn.claimed) (ds ++ turn.posted)
turn_accounted g level i s new turn late c ds k is =
    let k1 = posts_accounted g turn.posted ds s is.posted c k is.posts in
    let got = takes_grown g level i turn.taken late (after_rows is.posted turn.last) (after_rows is.posted turn.last) is.got (record { waits = λ a p t v h. h; busy = λ u. refl; outbox = λ l. refl; closed = refl }) is.takes in
    let busy : ◌≡◌ {A = Unit → Option Task} is.posted.busy is.got.busy = λ j u. sym (got.busy u) j in
    let k2 : Accounted g is.got.busy c (ds ++ turn.posted) = subst (λ z. Accounted g z c (ds ++ turn.posted)) busy k1 in
    let k3 = claims_accounted g turn.last turn.claimed (raised is.got turn.last) is.ready c (ds ++ turn.posted) k2 is.claims in
    let k4 : Accounted g is.done.busy (λ u. c u ++ filter_map (of_unit g u) turn.claimed) (ds ++ turn.posted) =
    ⊎_elim
    (λ (shuts : CanClose g i is.ready turn.last × (late ≡ false) × (is.done ≡ shut g i is.ready)). subst (λ (z : State). Accounted g z.busy (λ u. c u ++ filter_map (of_unit g u) turn.claimed) (ds ++ turn.posted)) (sym shuts.2) k3)
    (λ (stays : (CanClose g i is.ready turn.last → late ≡ true) × (is.done ≡ is.ready)). subst (λ (z : State). Accounted g z.busy (λ u. c u ++ filter_map (of_unit g u) turn.claimed) (ds ++ turn.posted)) (sym stays.1) k3)
    is.closes in
    subst (λ (z : State). Accounted g z.busy (λ u. c u ++ filter_map (of_unit g u) turn.claimed) (ds ++ turn.posted)) (sym is.sends.1) k4

abbrev pub all_posted : List Turn → List Done
all_posted turns = flat_map (λ (turn : Turn). turn.posted) turns

turns_accounted : (g : Graph) (level : ℕ → ℕ) (i : ℕ) (turns : List Turn) (s new : State) (c : Firings) (ds : List Done) → Accounted g s.busy c ds → LegalOnTime g level i s turns new → Accounted g new.busy (λ u. c u ++ claims_of g turns u) (ds ++ all_posted turns)
turns_accounted g level i [] s new c ds k e =
    let same : ◌≡◌ {A = Firings} c (λ u. c u ++ []) = λ j u. sym (append-nil (c u)) j in
    subst (λ (z : State). Accounted g z.busy (λ u. c u ++ []) (ds ++ [])) (sym e) (subst (λ z. Accounted g s.busy z (ds ++ [])) same (subst (Accounted g s.busy c) (sym (append-nil ds)) k))
turns_accounted g level i (turn ∷ turns) s new c ds k (mid, is, rest) =
    let on = turns_accounted g level i turns mid new (λ u. c u ++ filter_map (of_unit g u) turn.claimed) (ds ++ turn.posted) (turn_accounted g level i s mid turn false c ds k is) rest in
    let same : ◌≡◌ {A = Firings} (λ u. (c u ++ filter_map (of_unit g u) turn.claimed) ++ claims_of g turns u) (λ u. c u ++ claims_of g (turn ∷ turns) u) = λ j u. append_assoc (c u) (filter_map (of_unit g u) turn.claimed) (claims_of g turns u) j in
    subst (Accounted g new.busy (λ u. c u ++ claims_of g (turn ∷ turns) u)) (append_assoc ds turn.posted (all_posted turns)) (subst (λ z. Accounted g new.busy z ((ds ++ turn.posted) ++ all_posted turns)) same on)

pub accounted : (g : Graph) (level : ℕ → ℕ) (i : ℕ) (rows : ℕ → List Row) (turns : List Turn) (s : State) → LegalOnTime g level i (opened g i rows) turns s → Accounted g s.busy (claims_of g turns) (all_posted turns)
accounted g level i rows turns s legal =
    turns_accounted g level i turns (opened g i rows) s (λ u. []) [] (record { all = λ u x mem. absurd mem; back = λ d mem. absurd mem; opened = λ u task b. absurd (none_some task b) }) legal

posted_in : (turns : List Turn) (d : Done) → IsIn d (all_posted turns) → (turn : Turn) × IsIn turn turns × IsIn d turn.posted
posted_in [] d m = absurd m
posted_in (turn ∷ turns) d m =
    ⊎_elim
    (λ (here : IsIn d turn.posted). (turn, inl refl, here))
    (λ (there : IsIn d (all_posted turns)). let f = posted_in turns d there in (f.0, inr f.1, f.2))
    (IsIn-append d turn.posted (all_posted turns) m)

in_posted : (turns : List Turn) (turn : Turn) (d : Done) → IsIn turn turns → IsIn d turn.posted → IsIn d (all_posted turns)
in_posted [] turn d m n = absurd m
in_posted (x ∷ turns) turn d m n =
    ⊎_elim
    (λ (e : turn ≡ x). IsIn-append_left d x.posted (all_posted turns) (subst (λ (z : Turn). IsIn d z.posted) e n))
    (λ (k : IsIn turn turns). IsIn-append_right d x.posted (all_posted turns) (in_posted turns turn d k n))
    m

-- an actuator has one unit
actuator_unit : (g : Graph) (a p slack : ℕ) → kind_of g a ≡ Actuator slack → at_input g a p ≡ at_input g a 0
actuator_unit g a p slack e =
    let same : input_group (kind_of g a) p ≡ input_group (kind_of g a) 0 = ap (λ k. input_group k p) e ∙ sym (ap (λ k. input_group k 0) e) in
    λ j. record { actor = a; group = same j }

module _ (g : Graph) (level rank : ℕ → ℕ) (rows : ℕ → List Row) (offset : Unit → Option ℤ) (wired : IsWired g) (are : AreLevels g level) (ranks : AreRanks g rank) (fits : FitRows g rows) (feasible : IsFeasible g) (has : (u : Unit) → HasOffset g u (offset u)) (c : ℕ → ℕ) (near : AreNear g c) (y : RunState) (h : OnwardNear g level rows offset c y)
    (xs : List ActorFiring) (meaning : IsMeaning g rank rows xs) (finished : AreFinished g y) where
  firings : AreTheFirings g (all_claims g y.did) xs
  firings = by_parts g rank rows (all_claims g y.did) xs meaning (λ u. (prefixes g level rows offset wired are fits feasible has c near y h rank xs ranks meaning u).1 finished)

  full : (z : ActorFiring) → IsIn z xs → IsFull g z
  full z mem = Each-in (IsFull g) xs (full_runs g rank xs (at_start g rows) meaning) z mem

  free : (i : ℕ) → i < length g.platforms → (u : Unit) → (y.at i).busy u ≡ None
  free i lt u = ((whole_at g level rows offset wired are fits feasible has c near y h i lt).keeps.is_shut (finished i lt).closed).busy u

  home_of : (i : ℕ) → i < length g.platforms → (d : Done) → IsIn d (all_posted (y.did i)) → i ≡ platform_of g d.task.actor
  home_of i lt d mem =
      sym ((home_on_time g level i rows (y.did i) (y.at i) wired (levels_grow g level are) fits (h.legal i lt)).claims (unit_of g d.task) (firing_by g d.task) ((accounted g level i rows (y.did i) (y.at i) (h.legal i lt)).back d mem))

  -- each missed entry is an actuator's, whose paced reading is past its limit
  pub missed_is_meant : (i a limit : ℕ) (t : Tag) (turn : Turn) → i < length g.platforms → IsIn turn (y.did i) → IsMissed g turn a t limit → (z : ActorFiring) × IsIn z xs × (z.actor ≡ a) × (z.tag ≡ t) × ((slack : ℕ) × (kind_of g a ≡ Actuator slack) × (t.time + slack < paced_by (offset (at_input g a 0)) t))
  missed_is_meant i a limit t turn lt mem missed =
      let m = missed_when_paced g offset turn a t limit (Each-in (IsTimely g offset) (y.did i) (h.timed i lt) turn mem) missed in
      let slack = m.4 in
      let d : Done = m.0 in
      let unit : unit_of g d.task ≡ at_input g a 0 = ap (λ b. at_input g b (first_port d.task.inputs)) m.2 ∙ actuator_unit g a (first_port d.task.inputs) slack.0 slack.1 in
      let claimed : IsIn (firing_by g d.task) (claims_of g (y.did i) (unit_of g d.task)) = (accounted g level i rows (y.did i) (y.at i) (h.legal i lt)).back d (in_posted (y.did i) turn d mem m.1) in
      let home : i ≡ platform_of g d.task.actor = home_of i lt d (in_posted (y.did i) turn d mem m.1) in
      let z = firings.claims (unit_of g d.task) (firing_by g d.task) (subst (λ k. IsIn (firing_by g d.task) (claims_of g (y.did k) (unit_of g d.task))) home claimed) in (
        z.0,
        z.1,
        z.2.actor ∙ m.2,
        z.2.tag ∙ m.3,
        (
          slack.0,
          slack.1,
          subst (λ k. k < paced_by (offset (at_input g a 0)) t) slack.2 (subst (λ v. limit < paced_by (offset v) t) unit m.5),
        ),
      )

  -- and each such firing of the meaning is missed
  pub meant_is_missed : (z : ActorFiring) (slack : ℕ) → IsIn z xs → kind_of g z.actor ≡ Actuator slack → z.tag.time + slack < paced_by (offset (at_input g z.actor 0)) z.tag → (turn : Turn) × IsIn turn (y.did (platform_of g z.actor)) × IsMissed g turn z.actor z.tag (z.tag.time + slack)
  meant_is_missed z slack mem kind over =
      let i : ℕ = platform_of g z.actor in
      let f = full z mem in
      let port = eight_found (λ p. at_port z.inputs p) (subst (λ w. any_present w ≡ true) f.ports f.present) in
      let u : Unit = at_input g z.actor port.0 in
      let x = firings.firings z port.0 port.1 mem port.2 port.3 in
      let acc = accounted g level i rows (y.did i) (y.at i) (h.legal i (wired.homes z.actor)) in
      ⊎_elim
      (λ (o : (task : Task) × ((y.at i).busy u ≡ Some task) × (firing_by g task ≡ x.0)). absurd (none_some o.0 (sym (free i (wired.homes z.actor) u) ∙ o.1)))
      (λ (p : (d : Done) × IsIn d (all_posted (y.did i)) × (unit_of g d.task ≡ u) × (firing_by g d.task ≡ x.0)).
      let at = posted_in (y.did i) p.0 p.1 in
      let actor : p.0.task.actor ≡ z.actor = ap (λ (v : Unit). v.actor) p.2 in
      let tag : p.0.task.tag ≡ z.tag = ap (λ (q : Firing). q.tag) p.3 ∙ sym x.2.tag in
      let unit : unit_of g p.0.task ≡ at_input g z.actor 0 = p.2 ∙ actuator_unit g z.actor port.0 slack kind in
      let on : at.0.last ≡ paced_by (offset (unit_of g p.0.task)) p.0.task.tag = Each-in (λ (d : Done). at.0.last ≡ paced_by (offset (unit_of g d.task)) d.task.tag) at.0.posted (Each-in (IsTimely g offset) (y.did i) (h.timed i (wired.homes z.actor)) at.0 at.1).posts p.0 at.2 in
      let on2 : at.0.last ≡ paced_by (offset (at_input g z.actor 0)) z.tag = subst (λ w. at.0.last ≡ paced_by (offset (at_input g z.actor 0)) w) tag (subst (λ v. at.0.last ≡ paced_by (offset v) p.0.task.tag) unit on) in
      (at.0, at.1, (inl (p.0, at.2, actor, tag, (slack, kind, refl)), subst (λ k. z.tag.time + slack < k) (sym on2) over)))
      (acc.all u x.0 x.1)

pub missed_is_in_meaning : MissedIsInMeaning
missed_is_in_meaning g level rank rows offset rounds c n ms y xs wired are ranks fits feasible has r finished meaning =
    let some : n ≤ length g.platforms = r.some in
    let h : Onward g level rows offset c y = (round_onward g level rows offset has wired feasible c n 0 r.before y ms (omega arith) (run_onward g level rows offset wired are fits feasible has rounds c r.before r.run) r.round).1 in (
      missed_is_meant g level rank rows offset wired are ranks fits feasible has (λ i. c) (one_is_near g c) y h xs meaning finished,
      meant_is_missed g level rank rows offset wired are ranks fits feasible has (λ i. c) (one_is_near g c) y h xs meaning finished,
    )
