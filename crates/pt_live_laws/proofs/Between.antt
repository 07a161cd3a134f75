-- Visits over more rows.
use Rattle.std.proofs.Common.{◌≡◌, ℕ, ◌≤◌, true, false, List, [], ◌∷◌, Some, arith, sym, ap, subst, ◌∙◌, inl, inr, ⊎_elim}
use Rattle.pt_types.specs.declared.graph.Graph.{Graph}
use Rattle.pt_types.specs.declared.rows.Row.{Row}
use Rattle.pt_semantics.specs.FixedOrder.{IsOver, platform_after, put_clock}
use Rattle.pt_semantics.specs.Linked.{IsFinished}
use Rattle.pt_semantics.specs.Platform.{State, opened}
use Rattle.pt_semantics.specs.Readings.{raised_list}
use Rattle.pt_semantics.specs.Turn.{Turn}
use Rattle.pt_semantics.specs.Visits.{AreFinished, VisitRecord, RunState, run_at_start}
use Rattle.pt_fixed_order_laws.specs.SoFar.{VisitsUpTo, RunSoFar}
use Rattle.pt_fixed_order_laws.specs.Sound.{NoneWasLast, Sound}
use Rattle.pt_live_laws.specs.Growth.Growing.{SeenAfter, at_home, followed, grown, grown_together}
use Rattle.pt_live_laws.specs.Between.{AreToCome}
use Rattle.pt_live_laws.proofs.Growth.Growing.{not_last_grown, opened_grown, turn_grown, turn_reading, visit_grown, weaken}
use Rattle.pt_live_laws.proofs.Written.{same_or_not}

finished_grown : (g : Graph) (i : ℕ) (more : ℕ → List Row) (s : State) → IsFinished g i (grown more s) → IsFinished g i s
finished_grown g i more s f = record { closed = f.closed; all_went = f.all_went; ends = f.ends }

module _ (g : Graph) (level : ℕ → ℕ) (most : ℕ) where
  -- visits never lead back to a reading before
  visits_read : (i j : ℕ) (clocks : ℕ → List ℕ) (x y : RunState) (made : List VisitRecord) → VisitsUpTo g level most i clocks x made j y → (k q : ℕ) → (x.at k).reading ≡ Some q → (p : ℕ) × ((y.at k).reading ≡ Some p) × (q ≤ p)
  visits_read i j clocks x y [] (here, same, none) k q at = (q, ap (λ (z : RunState). (z.at k).reading) same ∙ at, omega arith)
  visits_read i j clocks x y (m ∷ ms) (r, later, mid, at_i, read, v, on, rest) k q at = ⊎_elim
      (λ (own : k ≡ m.platform).
      let rises : q ≤ m.turn.first = v.is.rises q (ap (λ n. (x.at n).reading) (sym own) ∙ at) in
      let go = visits_read (platform_after g i) j (put_clock clocks i later) mid y ms rest k m.turn.last (ap (λ n. (mid.at n).reading) own ∙ turn_reading g level m.platform (x.at m.platform) (mid.at m.platform) m.turn m.late v.is) in
      let span : m.turn.first ≤ m.turn.last = v.is.span in
      let le : m.turn.last ≤ go.0 = go.2 in
      (go.0, go.1, omega arith))
      (λ (other : k ≡ m.platform → ⊥). visits_read (platform_after g i) j (put_clock clocks i later) mid y ms rest k q (ap (λ (s : State). s.reading) (v.others k other).0 ∙ at))
      (same_or_not k m.platform)

  going_grown : (i j : ℕ) (clocks : ℕ → List ℕ) (more : ℕ → List Row) (x y : RunState) (made : List VisitRecord) → VisitsUpTo g level most i clocks x made j y → AreToCome g more y → VisitsUpTo g level most i clocks (grown_together g more x) made j (grown_together g more y)
  going_grown i j clocks more x y [] (here, same, none) come = (here, ap (grown_together g more) same, none)
  going_grown i j clocks more x y (m ∷ ms) (r, later, mid, at_i, read, v, on, rest) come =
      let go = visits_read (platform_after g i) j (put_clock clocks i later) mid y ms rest m.platform r (turn_reading g level m.platform (x.at m.platform) (mid.at m.platform) m.turn m.late v.is ∙ ap Some v.last) in
      let le : r ≤ go.0 = go.2 in
      let seen : SeenAfter r (at_home g m.platform more) = λ a. weaken r go.0 (at_home g m.platform more a) le (come m.platform go.0 go.1 a) in (
        r,
        later,
        grown_together g more mid,
        at_i,
        read,
        visit_grown g level most (λ l. 64) r x mid m more v seen,
        (λ (over : IsOver g m (grown_together g more mid)). on (⊎_elim
            (λ (f : AreFinished g (grown_together g more mid)). inl (λ n lt. finished_grown g n (at_home g n more) (mid.at n) (f n lt)))
            (λ (f : m.fault ≡ true). inr f)
            over)),
        going_grown (platform_after g i) j (put_clock clocks i later) more mid y ms rest come,
      )

-- all platforms at the start, with more rows
start_grown : (g : Graph) (rows more : ℕ → List Row) → run_at_start g (followed rows more) ≡ grown_together g more (run_at_start g rows)
start_grown g rows more = λ k. record (run_at_start g rows) { at = λ i. opened_grown g i rows more k }

pub is_going_grown : (g : Graph) (level : ℕ → ℕ) (rows more : ℕ → List Row) (most : ℕ) (readings : ℕ → List ℕ) (j : ℕ) (y : RunState) →
    RunSoFar g level rows most readings j y → AreToCome g more y → RunSoFar g level (followed rows more) most readings j (grown_together g more y)
is_going_grown g level rows more most readings j y goes come = record {
  made = goes.made;
  visits = subst (λ z. VisitsUpTo g level most 0 (λ i. raised_list (readings i)) z goes.made j (grown_together g more y)) (sym (start_grown g rows more))
      (going_grown g level most 0 j (λ i. raised_list (readings i)) more (run_at_start g rows) y goes.made goes.visits come);
}

none_read : (g : Graph) (level : ℕ → ℕ) (i : ℕ) (turns : List Turn) (s new : State) (q : ℕ) → NoneWasLast g level i s turns new → s.reading ≡ Some q → (p : ℕ) × (new.reading ≡ Some p) × (q ≤ p)
none_read g level i [] s new q e at = (q, ap (λ (z : State). z.reading) e ∙ at, omega arith)
none_read g level i (turn ∷ turns) s new q (mid, is, last, rest) at =
    let more = none_read g level i turns mid new turn.last rest (turn_reading g level i s mid turn false is) in
    let rises : q ≤ turn.first = is.rises q at in
    let span : turn.first ≤ turn.last = is.span in
    let on : turn.last ≤ more.0 = more.2 in
    (more.0, more.1, omega arith)

none_grown : (g : Graph) (level : ℕ → ℕ) (i : ℕ) (more : ℕ → List Row) (turns : List Turn) (s new : State) → NoneWasLast g level i s turns new → ((p : ℕ) → new.reading ≡ Some p → SeenAfter p more) → NoneWasLast g level i (grown more s) turns (grown more new)
none_grown g level i more [] s new e later = ap (grown more) e
none_grown g level i more (turn ∷ turns) s new (mid, is, last, rest) later =
    let on = none_read g level i turns mid new turn.last rest (turn_reading g level i s mid turn false is) in
    let le : turn.last ≤ on.0 = on.2 in
    let onward : SeenAfter turn.last more = λ a. weaken turn.last on.0 (more a) le (later on.0 on.1 a) in
    (grown more mid, turn_grown g level i more s mid turn false is onward, not_last_grown g level i more s mid turn false is onward last, none_grown g level i more turns mid new rest later)

pub sound_grown : (g : Graph) (level : ℕ → ℕ) (rows more : ℕ → List Row) (y : RunState) → Sound g level rows y → AreToCome g more y → Sound g level (followed rows more) (grown_together g more y)
sound_grown g level rows more y s come = record {
  goes = λ p. subst (λ z. NoneWasLast g level p z (y.did p) (grown (at_home g p more) (y.at p))) (sym (opened_grown g p rows more)) (none_grown g level p (at_home g p more) (y.did p) (opened g p rows) (y.at p) (s.goes p) (come p));
  single = s.single;
  linked = s.linked;
  own = s.own;
}
