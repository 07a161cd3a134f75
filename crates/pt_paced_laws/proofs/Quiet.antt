-- No two quiet rounds of a paced run follow one another, and a quiet one where all platforms are closed is the end.
use Rattle.std.proofs.Common.{◌≡◌, ℕ, zero, suc, ◌+◌, ◌<◌, ◌≤◌, ◌⊎◌, ◌≢◌, ◌&&◌, Bool, true, false, List, [], ◌∷◌, ◌++◌, None, length, arith, refl, sym, ap, subst, ◌∙◌, inl, inr, ⊎_elim, append-nil}
use Rattle.std.proofs.lemmas.Bool.{and_parts, false≢true}
use Rattle.pt_types.specs.declared.graph.Graph.{Graph}
use Rattle.pt_tags.specs.declared.tag.Tag.{Tag}
use Rattle.pt_types.specs.declared.graph.Unit.{Unit}
use Rattle.pt_tags.specs.Tags.{UpTo}
use Rattle.pt_semantics.specs.Lists.{IsIn}
use Rattle.pt_types.specs.Lookups.{platform_of}
use Rattle.pt_semantics.specs.Units.{at_output, HasEvent}
use Rattle.pt_types.specs.declared.rows.Row.{Row}
use Rattle.pt_semantics.specs.Platform.{State, raised}
use Rattle.pt_semantics.specs.Turn.{Turn, IsTurn, is_quiet, is_empty}
use Rattle.pt_semantics.specs.Linked.{IsFinished, all_sent, all_taken}
use Rattle.pt_semantics.specs.Posting.{Posts}
use Rattle.pt_semantics.specs.Claiming.{Claims}
use Rattle.pt_semantics.specs.Closing.{CanClose, shut}
use Rattle.pt_semantics.specs.Entering.{after_rows, all_due}
use Rattle.pt_tags.specs.declared.message.Message.TheVariants.{End}
use Rattle.pt_semantics.specs.Rows.{FitsRow}
use Rattle.pt_semantics.specs.Paced.{IsCandidate, IsClosing, IsPaced}
use Rattle.pt_semantics.specs.Rounds.{Makes, Round}
use Rattle.pt_semantics.specs.Visits.{RunState, VisitRecord}
use Rattle.pt_paced_laws.specs.PacedTheorems.{NoTwoQuiet, QuietEnds}
use Rattle.pt_semantics.proofs.Longest.{levels_grow}
use Rattle.pt_semantics.proofs.Lookups.{Each-in, IsIn-append_right}
use Rattle.pt_semantics.proofs.Least.{paced_meets}
use Rattle.pt_laws.proofs.Steps.{messages_of}
use Rattle.pt_laws.proofs.Progress.{Grown, takes_grown, grown_event, or_else_left, some_due, nothing_met}
use Rattle.pt_laws.proofs.Onward.{Onward, cases_same, round_onward}
use Rattle.pt_laws.proofs.Raise.{Rests, nothing_in}
use Rattle.pt_paced_laws.proofs.PacedRuns.{round_leaves, quiet_round, Settles, run_onward, whole_of, way_empty, outbox_empty, no_closing, raise_onward}
use Rattle.pt_paced_laws.proofs.Places.{is_later, is_passed, none_left, one_fewer}

-- the turn of a platform that is not finished
record Found (g : Graph) (level : ℕ → ℕ) (c j : ℕ) (y z : RunState) (ns : List VisitRecord) : Type 0 where
  from : RunState
  made : VisitRecord
  mid : RunState
  makes : Makes g level c from made mid
  platform : made.platform ≡ j
  same : from.at j ≡ y.at j
  after : z.at j ≡ mid.at j
  mem : IsIn made ns

find : (g : Graph) (level : ℕ → ℕ) (c n i j : ℕ) (y z : RunState) (ns : List VisitRecord) → Round g level c n i y ns z → i ≤ j → j < n + i → (IsFinished g j (y.at j) → ⊥) → Found g level c j y z ns
find g level c zero i j y z ns r le lt never = absurd (none_left i j le lt)
find g level c (suc n) i j y z ns r le lt never =
    ⊎_elim
    (λ (done : IsFinished g i (y.at i) × Round g level c n (suc i) y ns z).
    ⊎_elim
    (λ (here : j ≡ i). absurd (never (subst (λ k. IsFinished g k (y.at k)) (sym here) done.0)))
    (λ (there : j ≢ i). find g level c n (suc i) j y z ns done.1 (is_later i j le there) (one_fewer n i j lt) never)
    (cases_same j i))
    (λ (one : (IsFinished g i (y.at i) → ⊥) × (m : VisitRecord) × (rest : List VisitRecord) × (mid : RunState) × (ns ≡ m ∷ rest) × (m.platform ≡ i) × Makes g level c y m mid × Round g level c n (suc i) mid rest z).
    ⊎_elim
    (λ (here : j ≡ i). record {
      from = y;
      made = one.1;
      mid = one.3;
      makes = one.6;
      platform = one.5 ∙ sym here;
      same = refl;
      after = round_leaves g level c n (suc i) one.3 z one.2 one.7 j (is_passed j i here);
      mem = subst (IsIn one.1) (sym one.4) (inl refl);
    })
    (λ (there : j ≢ i).
    let stays : one.3.at j ≡ y.at j = (one.6.others j (λ e. there (e ∙ one.5))).0 in
    let f = find g level c n (suc i) j one.3 z one.2 one.7 (is_later i j le there) (one_fewer n i j lt) (λ fin. never (subst (IsFinished g j) stays fin)) in
    record {
      from = f.from;
      made = f.made;
      mid = f.mid;
      makes = f.makes;
      platform = f.platform;
      same = f.same ∙ stays;
      after = f.after;
      mem = subst (IsIn f.made) (sym one.4) (inr f.mem);
    })
    (cases_same j i))
    r

-- a turn that posts and claims nothing takes no event away
event_stays : (g : Graph) (level : ℕ → ℕ) (i : ℕ) (s new : State) (turn : Turn) (late : Bool) → IsTurn g level i s turn late new → turn.posted ≡ [] → turn.claimed ≡ [] → (u : Unit) (t : Tag) → HasEvent g s.waits u t → HasEvent g new.waits u t
event_stays g level i s new turn late is none_posted none_claimed u t event =
    let same : is.posted ≡ s = subst (λ z. Posts g s z is.posted) none_posted is.posts in
    let begin : Grown s (after_rows is.posted turn.last) = subst (λ z. Grown s (after_rows z turn.last)) (sym same) (record { waits = λ a p w v h. or_else_left (s.waits a p w) _ v h; busy = λ v. refl; outbox = λ l. refl; closed = refl }) in
    let got = takes_grown g level i turn.taken late s (after_rows is.posted turn.last) is.got begin is.takes in
    let at_got : HasEvent g is.got.waits u t = grown_event g s is.got u t got event in
    let ready : is.ready ≡ raised is.got turn.last = subst (λ z. Claims g turn.last (raised is.got turn.last) z is.ready) none_claimed is.claims in
    let at_ready : HasEvent g is.ready.waits u t = subst (λ (z : State). HasEvent g z.waits u t) (sym ready) at_got in
    let at_done : HasEvent g is.done.waits u t =
    ⊎_elim
    (λ (shuts : CanClose g i is.ready turn.last × (late ≡ false) × (is.done ≡ shut g i is.ready)). subst (λ (z : State). HasEvent g z.waits u t) (sym shuts.2) at_ready)
    (λ (stays : (CanClose g i is.ready turn.last → late ≡ true) × (is.done ≡ is.ready)). subst (λ (z : State). HasEvent g z.waits u t) (sym stays.1) at_ready)
    is.closes in
    subst (λ (z : State). HasEvent g z.waits u t) (sym is.sends.1) at_done

pub no_two_quiet : NoTwoQuiet
no_two_quiet g level rows offset rounds c b ms ns x y z wired are fits feasible has run first fine quiet next second fine2 quiet2 =
    let at_x : Onward g level rows offset c x = run_onward g level rows offset wired are fits feasible has rounds c x run in
    let on = round_onward g level rows offset has wired feasible c (length g.platforms) 0 x y ms (omega arith) at_x first in
    let settles = quiet_round g level c (length g.platforms) 0 x y ms first on.0 quiet.quiet fine (λ j le. quiet.closed j) in
    let at_y : Onward g level rows offset b y = raise_onward g level rows offset wired are fits feasible has c b y on.1 (λ i lt. settles.1 i (omega arith) (omega arith)) next in
    let on2 = round_onward g level rows offset has wired feasible b (length g.platforms) 0 y z ns (omega arith) at_y second in
    let settles2 = quiet_round g level b (length g.platforms) 0 y z ns second on2.0 quiet2.quiet fine2 (λ j le. quiet2.closed j) in
    let i : ℕ = next.one.0 in
    let lt : i < length g.platforms = next.one.1 in
    let f = find g level b (length g.platforms) 0 i y z ns second (omega arith) (omega arith) (λ fin. false≢true (sym next.one.2 ∙ fin.closed)) in
    stuck i lt next.one.2 next.one.3 at_y on2.1 (λ j l. settles2.1 j (omega arith) (omega arith)) f
    (Each-in (λ (m : VisitRecord). is_quiet m.turn ≡ true) ns quiet2.quiet f.made f.mem)
    (Each-in (λ (m : VisitRecord). m.late ≡ false) ns on2.0 f.made f.mem)
    (Each-in (λ (m : VisitRecord). m.fault ≡ false) ns fine2 f.made f.mem)
  where
    stuck : (i : ℕ) → i < length g.platforms → (y.at i).closed ≡ false → IsCandidate g i (y.at i) b → Onward g level rows offset b y → Onward g level rows offset b z → ((j : ℕ) → j < length g.platforms → Settles g b z j) → (f : Found g level b i y z ns) → is_quiet f.made.turn ≡ true → f.made.late ≡ false → f.made.fault ≡ false → ⊥
    stuck i lt open_still cand at_y at_z settled f q on_time fine_turn =
        ⊎_elim
        (λ (row : (a : ℕ) × (row : Row) × (rest : List Row) × ((y.at i).left a ≡ row ∷ rest) × (b ≡ row.seen)).
        let fit : FitsRow g row.0 row.1 = ((at_y.later i lt).left row.0 row.1 (subst (IsIn row.1) (sym row.3) (inl refl))).0 in
        let left_is : (f.from.at i).left row.0 ≡ row.1 ∷ row.2 = ap (λ (s : State). s.left row.0) f.same ∙ row.3 in
        some_due g fit.file f.made.turn.last row.0 fit.bound (f.from.at i).left row.1 row.2 fit.sensor left_is
        (seen_by f.made.turn.last b row.1.seen f.makes.last row.4)
        (subst (λ n. all_due g f.made.turn.last (f.from.at n).left ≡ []) f.platform (sym f.makes.is.rows ∙ nothing_in f.made.turn.rows rows_none)))
        (λ (rest : ((u : Unit) × (t : Tag) × HasEvent g (y.at i).waits u t × ((w : Tag) → HasEvent g (y.at i).waits u w → UpTo t w) × ((y.at i).busy u ≡ None) × IsPaced g u t b) ⊎ IsClosing g i b).
        ⊎_elim
        (λ (event : (u : Unit) × (t : Tag) × HasEvent g (y.at i).waits u t × ((w : Tag) → HasEvent g (y.at i).waits u w → UpTo t w) × ((y.at i).busy u ≡ None) × IsPaced g u t b).
        ⊎_elim
        (λ (done : IsFinished g i (z.at i)). false≢true (sym open_still ∙ sym (quiet2.closed i) ∙ done.closed))
        (λ (rests : Rests g b i (z.at i) z.on_way).
        rests.unsafe (λ nothing.
        nothing_met g level (z.at i) b (levels_grow g level are) rests.free nothing event.0 event.1
        (subst (λ (s : State). HasEvent g s.waits event.0 event.1) (sym f.after)
        (subst (λ n. HasEvent g (f.mid.at n).waits event.0 event.1) f.platform
        (event_stays g level f.made.platform (f.from.at f.made.platform) (f.mid.at f.made.platform) f.made.turn f.made.late f.makes.is (nothing_in f.made.turn.posted posted_none) (nothing_in f.made.turn.claimed claimed_none) event.0 event.1
        (subst (λ n. HasEvent g (f.from.at n).waits event.0 event.1) (sym f.platform) (subst (λ (s : State). HasEvent g s.waits event.0 event.1) (sym f.same) event.2)))))
        (λ a d path feeds. paced_meets g event.0 event.1 b b event.5 (omega arith) a d path feeds)))
        (settled i lt))
        (λ (closing : IsClosing g i b). no_closing g level rows offset wired are fits feasible has b b z at_z settled i lt (quiet2.closed i ∙ open_still) closing (omega arith))
        rest)
        cand
      where
        q1 : (is_empty f.made.turn.posted && is_empty f.made.turn.rows && is_empty f.made.turn.taken && is_empty f.made.turn.claimed ≡ true) × (is_empty f.made.turn.sent ≡ true)
        q1 = and_parts (is_empty f.made.turn.posted && is_empty f.made.turn.rows && is_empty f.made.turn.taken && is_empty f.made.turn.claimed) (is_empty f.made.turn.sent) q

        q2 : (is_empty f.made.turn.posted && is_empty f.made.turn.rows && is_empty f.made.turn.taken ≡ true) × (is_empty f.made.turn.claimed ≡ true)
        q2 = and_parts (is_empty f.made.turn.posted && is_empty f.made.turn.rows && is_empty f.made.turn.taken) (is_empty f.made.turn.claimed) q1.0

        claimed_none : is_empty f.made.turn.claimed ≡ true
        claimed_none = q2.1

        q3 : (is_empty f.made.turn.posted ≡ true) × (is_empty f.made.turn.rows ≡ true)
        q3 = and_parts (is_empty f.made.turn.posted) (is_empty f.made.turn.rows) (and_parts (is_empty f.made.turn.posted && is_empty f.made.turn.rows) (is_empty f.made.turn.taken) q2.0).0

        posted_none : is_empty f.made.turn.posted ≡ true
        posted_none = q3.0

        rows_none : is_empty f.made.turn.rows ≡ true
        rows_none = q3.1

        seen_by : (last b seen : ℕ) → last ≡ b → b ≡ seen → seen ≤ last
        seen_by last b seen e1 e2 = omega arith

pub quiet_ends : QuietEnds
quiet_ends g level rows offset rounds c ms x y wired are fits feasible has run round fine quiet all_closed i lt =
    let at_x : Onward g level rows offset c x = run_onward g level rows offset wired are fits feasible has rounds c x run in
    let on = round_onward g level rows offset has wired feasible c (length g.platforms) 0 x y ms (omega arith) at_x round in
    let settles = quiet_round g level c (length g.platforms) 0 x y ms round on.0 quiet.quiet fine (λ j le. quiet.closed j) in
    finish on.1 (λ j l. settles.1 j (omega arith) (omega arith))
  where
    finish : Onward g level rows offset c y → ((j : ℕ) → j < length g.platforms → Settles g c y j) → IsFinished g i (y.at i)
    finish h settled = record {
      closed = all_closed i lt;
      all_went = outbox_empty g level rows offset wired are fits feasible has c y h settled i lt;
      ends = λ l link at home.
          let from = whole_of g level rows offset wired are fits feasible has c y (platform_of g link.from) (wired.homes link.from) h in
          let to = whole_of g level rows offset wired are fits feasible has c y (platform_of g link.to) (wired.homes link.to) h in
          let shut_list : all_sent l (y.did (platform_of g link.from)) ++ (y.at (platform_of g link.from)).outbox l ≡ messages_of (from.keeps.q (at_output g link.from 0)) ++ End ∷ [] =
          from.keeps.out.once_shut (all_closed (platform_of g link.from) (wired.homes link.from)) l link at refl in
          let sent_is : all_sent l (y.did (platform_of g link.from)) ≡ messages_of (from.keeps.q (at_output g link.from 0)) ++ End ∷ [] =
          sym (append-nil (all_sent l (y.did (platform_of g link.from))))
          ∙ ap (λ e. all_sent l (y.did (platform_of g link.from)) ++ e) (sym (outbox_empty g level rows offset wired are fits feasible has c y h settled (platform_of g link.from) (wired.homes link.from) l))
          ∙ shut_list in
          let taken_is : all_taken l (y.did (platform_of g link.to)) ≡ all_sent l (y.did (platform_of g link.from)) =
          sym (append-nil (all_taken l (y.did (platform_of g link.to))))
          ∙ ap (λ e. all_taken l (y.did (platform_of g link.to)) ++ e) (sym (way_empty g level rows offset wired are fits feasible has c y h settled l link at))
          ∙ sym (h.linked l link at) in
          subst (λ n. IsIn End ((y.at n).taken l)) home
          (subst (IsIn End) (sym (to.keeps.taken_is l ∙ taken_is ∙ sent_is))
          (IsIn-append_right End (messages_of (from.keeps.q (at_output g link.from 0))) (End ∷ []) (inl refl)));
    }
