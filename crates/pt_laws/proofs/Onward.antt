-- What a run keeps from turn to turn while its platforms' clocks are near one another, and so what a paced run keeps.
use Rattle.std.proofs.Common.{◌^◌, ◌-◌, drop, true, length, ◌≡◌, ℕ, zero, suc, ◌+◌, ◌<◌, ◌≤◌, ◌⊎◌, ◌≢◌, false, List, [], ◌∷◌, ◌++◌, Option, Some, ℤ, slice_get, arith, refl, sym, ap, ap₂, subst, ◌∙◌, inl, inr, ⊎_elim, append-nil, append_assoc}
use Rattle.std.proofs.lemmas.Bool.{cases_lt}
use Rattle.pt_types.specs.declared.graph.Graph.{Graph}
use Rattle.pt_types.specs.declared.graph.Link.{Link}
use Rattle.pt_tags.specs.declared.tag.Tag.{Tag}
use Rattle.pt_types.specs.declared.graph.Unit.{Unit}
use Rattle.pt_semantics.specs.Lists.{IsIn, Each}
use Rattle.pt_types.specs.Lookups.{kind_of, platform_of}
use Rattle.pt_semantics.specs.Units.{at_output, unit_of}
use Rattle.pt_semantics.specs.Wired.{IsWired}
use Rattle.pt_semantics.specs.Offsets.{IsFeasible, HasOffset}
use Rattle.pt_types.specs.Lookups.{slack_of}
use Rattle.pt_types.specs.declared.rows.Row.{Row}
use Rattle.pt_types.specs.declared.firing.OnLink.{OnLink}
use Rattle.pt_types.specs.declared.firing.Task.{Task}
use Rattle.pt_types.specs.declared.firing.Done.{Done}
use Rattle.pt_semantics.specs.Platform.{State, opened}
use Rattle.pt_semantics.specs.Turn.{IsLast, IsTurn, Turn}
use Rattle.pt_tags.specs.declared.message.Message.{Message}
use Rattle.pt_semantics.specs.Closing.{on_link}
use Rattle.pt_semantics.specs.Entering.{after_rows}
use Rattle.pt_semantics.specs.Linked.{all_sent, all_taken, IsFinished}
use Rattle.pt_tags.specs.declared.message.Message.TheVariants.{Event}
use Rattle.pt_semantics.specs.History.{LegalOnTime}
use Rattle.pt_semantics.specs.Paced.{paced_by}
use Rattle.pt_semantics.specs.Rounds.{Makes, Round, IsTimely}
use Rattle.pt_semantics.specs.Bounds.{link_bound}
use Rattle.pt_semantics.specs.Kept.{IsSingle}
use Rattle.pt_semantics.specs.Visits.{IsVisit, VisitRecord, RunState}
use Rattle.pt_semantics.proofs.Lookups.{same_some, Each-from, Each-append, IsIn-append, IsIn-append_left, IsIn-append_right}
use Rattle.pt_laws.specs.NearClocks.{AreNear}
use Rattle.pt_laws.proofs.NearClocks.{one_is_near, sent_in_bound}
use Rattle.pt_laws.proofs.PacedClosed.{sends_in_time}
use Rattle.pt_laws.proofs.Paces.{InBound, IsForeign, Later, Paces, in_on_link, takes_own, turn_paces}

-- all platforms together, each at its own clock's reading: nothing that is still to be done was to be done before it
pub record OnwardNear (g : Graph) (level : ℕ → ℕ) (rows : ℕ → List Row) (offset : Unit → Option ℤ) (c : ℕ → ℕ) (x : RunState) : Type 0 where
  pub legal : (i : ℕ) → i < length g.platforms → LegalOnTime g level i (opened g i rows) (x.did i) (x.at i)
  pub later : (i : ℕ) → i < length g.platforms → Later g offset (c i) i (x.at i)
  pub way : (l : ℕ) (link : Link) (t : Tag) (v : ℤ) → slice_get g.links l ≡ Some link → IsIn (Event t v) (x.on_way l) → c (platform_of g link.to) ≤ t.time + link_bound g link
  pub linked : (l : ℕ) (link : Link) → slice_get g.links l ≡ Some link → all_sent l (x.did (platform_of g link.from)) ≡ all_taken l (x.did (platform_of g link.to)) ++ x.on_way l
  pub timed : (i : ℕ) → i < length g.platforms → Each (IsTimely g offset) (x.did i)

-- the same at one common reading
abbrev pub Onward : Graph → (ℕ → ℕ) → (ℕ → List Row) → (Unit → Option ℤ) → ℕ → RunState → Type 0
Onward g level rows offset c x = OnwardNear g level rows offset (λ i. c) x

-- one turn of a platform at reading r: it takes some of the messages on their way, each link's first, and what it sends is on its way
pub record Advances (g : Graph) (level : ℕ → ℕ) (r : ℕ) (x : RunState) (m : VisitRecord) (y : RunState) : Type 0 where
  pub single : IsSingle m.turn
  pub last : m.turn.last ≡ r
  pub is : IsTurn g level m.platform (x.at m.platform) m.turn m.late (y.at m.platform)
  pub faults : (IsLast g (x.at m.platform) r m.late is.ready → m.fault ≡ true) × (m.fault ≡ true → IsLast g (x.at m.platform) r m.late is.ready)
  pub others : (j : ℕ) → j ≢ m.platform → (y.at j ≡ x.at j) × (y.did j ≡ x.did j)
  pub joins : y.did m.platform ≡ x.did m.platform ++ m.turn ∷ []
  pub rest : ℕ → List Message
  pub takes : (l : ℕ) → x.on_way l ≡ on_link l m.turn.taken ++ rest l
  pub sends : (l : ℕ) → y.on_way l ≡ rest l ++ on_link l m.turn.sent

-- so does a visit
pub visit_advances : (g : Graph) (level : ℕ → ℕ) (most : ℕ) (room : ℕ → ℕ) (r : ℕ) (x : RunState) (m : VisitRecord) (y : RunState) → IsVisit g level most room r x m y → Advances g level r x m y
visit_advances g level most room r x m y k = record {
  single = record { once = k.once; one_reading = k.first ∙ sym k.last; fits = subst (λ n. n < 2 ^ 64) (sym k.last) k.fits };
  last = k.last;
  is = k.is;
  faults = k.faults;
  others = k.others;
  joins = k.joins;
  rest = k.rest;
  takes = k.takes;
  sends = k.sends;
}

-- a round of platforms, each at its own clock's reading: each of the next n, from i on, makes one turn, unless it is finished
abbrev pub AdvanceRound : Graph → (ℕ → ℕ) → (ℕ → ℕ) → ℕ → ℕ → RunState → List VisitRecord → RunState → Type 0
AdvanceRound g level c zero i x ms y = (ms ≡ []) × (y ≡ x)
AdvanceRound g level c (suc n) i x ms y =
    (IsFinished g i (x.at i) × AdvanceRound g level c n (suc i) x ms y)
    ⊎ ((IsFinished g i (x.at i) → ⊥) × (m : VisitRecord) × (rest : List VisitRecord) × (mid : RunState) × (ms ≡ m ∷ rest) × (m.platform ≡ i) × Advances g level (c m.platform) x m mid × AdvanceRound g level c n (suc i) mid rest y)

pub makes_advances : (g : Graph) (level : ℕ → ℕ) (c : ℕ) (x : RunState) (m : VisitRecord) (y : RunState) → Makes g level c x m y → Advances g level c x m y
makes_advances g level c x m y k = visit_advances g level 64 (λ l. 64 - length (x.on_way l)) c x m y k

-- a round at one common reading is one
pub round_advances : (g : Graph) (level : ℕ → ℕ) (c n i : ℕ) (x : RunState) (ms : List VisitRecord) (y : RunState) → Round g level c n i x ms y → AdvanceRound g level (λ j. c) n i x ms y
round_advances g level c zero i x ms y r = r
round_advances g level c (suc n) i x ms y r =
    ⊎_elim
    (λ (skip : IsFinished g i (x.at i) × Round g level c n (suc i) x ms y). inl (skip.0, round_advances g level c n (suc i) x ms y skip.1))
    (λ (one : (IsFinished g i (x.at i) → ⊥) × (m : VisitRecord) × (rest : List VisitRecord) × (mid : RunState) × (ms ≡ m ∷ rest) × (m.platform ≡ i) × Makes g level c x m mid × Round g level c n (suc i) mid rest y).
    inr (one.0, one.1, one.2, one.3, one.4, one.5, makes_advances g level c x one.1 one.3 one.6, round_advances g level c n (suc i) one.3 one.2 y one.7))
    r

-- all platforms together, with other messages on their way
abbrev pub with_way : RunState → (ℕ → List Message) → RunState
with_way x way = record { at = x.at; did = x.did; on_way = way }

-- and so does one that sees only some of the messages on their way, each link's first: the others are held back, and what it sends comes after them
pub part_advances : (g : Graph) (level : ℕ → ℕ) (most : ℕ) (room : ℕ → ℕ) (r : ℕ) (x : RunState) (m : VisitRecord) (y : RunState) (held before after : ℕ → List Message) → IsVisit g level most room r x m y →
    ((l : ℕ) → before l ≡ x.on_way l ++ held l) → ((l : ℕ) → after l ≡ drop (length (on_link l m.turn.taken)) (before l) ++ on_link l m.turn.sent) → Advances g level r (with_way x before) m (with_way y after)
part_advances g level most room r x m y held before after k all added = record {
  single = record { once = k.once; one_reading = k.first ∙ sym k.last; fits = subst (λ n. n < 2 ^ 64) (sym k.last) k.fits };
  last = k.last;
  is = k.is;
  faults = k.faults;
  others = k.others;
  joins = k.joins;
  rest = λ l. k.rest l ++ held l;
  takes = λ l. parts l;
  sends = λ l. added l ∙ ap (λ z. drop (length (on_link l m.turn.taken)) z ++ on_link l m.turn.sent) (parts l) ∙ ap (λ z. z ++ on_link l m.turn.sent) (drop_front (on_link l m.turn.taken) (k.rest l ++ held l));
}
  where
    parts : (l : ℕ) → before l ≡ on_link l m.turn.taken ++ (k.rest l ++ held l)
    parts l = all l ∙ ap (λ z. z ++ held l) (k.takes l) ∙ append_assoc (on_link l m.turn.taken) (k.rest l) (held l)

    drop_front : (a b : List Message) → drop (length a) (a ++ b) ≡ b
    drop_front [] b = refl
    drop_front (z ∷ a) b = drop_front a b

legal_push : (g : Graph) (level : ℕ → ℕ) (i : ℕ) (turns : List Turn) (turn : Turn) (s mid new : State) → LegalOnTime g level i s turns mid → IsTurn g level i mid turn false new → LegalOnTime g level i s (turns ++ turn ∷ []) new
legal_push g level i [] turn s mid new e is = (new, subst (λ z. IsTurn g level i z turn false new) e is, refl)
legal_push g level i (x ∷ turns) turn s mid new (one, ix, rest) is = (one, ix, legal_push g level i turns turn one mid new rest is)

sent_push : (l : ℕ) (turns : List Turn) (turn : Turn) → all_sent l (turns ++ turn ∷ []) ≡ all_sent l turns ++ on_link l turn.sent
sent_push l [] turn = append-nil (on_link l turn.sent)
sent_push l (x ∷ turns) turn = ap (λ z. on_link l x.sent ++ z) (sent_push l turns turn) ∙ sym (append_assoc (on_link l x.sent) (all_sent l turns) (on_link l turn.sent))

taken_push : (l : ℕ) (turns : List Turn) (turn : Turn) → all_taken l (turns ++ turn ∷ []) ≡ all_taken l turns ++ on_link l turn.taken
taken_push l [] turn = append-nil (on_link l turn.taken)
taken_push l (x ∷ turns) turn = ap (λ z. on_link l x.taken ++ z) (taken_push l turns turn) ∙ sym (append_assoc (on_link l x.taken) (all_taken l turns) (on_link l turn.taken))

pub cases_same : (m n : ℕ) → (m ≡ n) ⊎ (m ≢ n)
cases_same m n = ⊎_elim (λ (l : m < n). inr (λ e. absurd (omega arith))) (λ (k : n ≤ m). ⊎_elim (λ (l : n < m). inr (λ e. absurd (omega arith))) (λ (j : m ≤ n). inl (omega arith)) (cases_lt n m)) (cases_lt m n)

module _ (g : Graph) (level : ℕ → ℕ) (rows : ℕ → List Row) (offset : Unit → Option ℤ) (has : (u : Unit) → HasOffset g u (offset u)) (wired : IsWired g) (feasible : IsFeasible g) (c : ℕ → ℕ) (near : AreNear g c) where
  pub advance_onward : (x y : RunState) (m : VisitRecord) → m.platform < length g.platforms → OnwardNear g level rows offset c x → Advances g level (c m.platform) x m y → (m.late ≡ false) × OnwardNear g level rows offset c y
  advance_onward x y m lt h k = (
    tp.not_late,
    record {
      legal = λ j lj.
          ⊎_elim
          (λ (e : j ≡ m.platform).
          subst (λ n. LegalOnTime g level n (opened g n rows) (y.did n) (y.at n)) (sym e)
          (subst (λ z. LegalOnTime g level m.platform (opened g m.platform rows) z (y.at m.platform)) (sym k.joins)
          (legal_push g level m.platform (x.did m.platform) m.turn (opened g m.platform rows) (x.at m.platform) (y.at m.platform) (h.legal m.platform lt)
          (subst (λ b. IsTurn g level m.platform (x.at m.platform) m.turn b (y.at m.platform)) tp.not_late k.is))))
          (λ (ne : j ≢ m.platform).
          subst (λ z. LegalOnTime g level j (opened g j rows) z (y.at j)) (sym (k.others j ne).1)
          (subst (λ z. LegalOnTime g level j (opened g j rows) (x.did j) z) (sym (k.others j ne).0) (h.legal j lj)))
          (cases_same j m.platform);
      later = λ j lj.
          ⊎_elim
          (λ (e : j ≡ m.platform). subst (λ n. Later g offset (c n) n (y.at n)) (sym e) tp.later)
          (λ (ne : j ≢ m.platform). subst (λ z. Later g offset (c j) j z) (sym (k.others j ne).0) (h.later j lj))
          (cases_same j m.platform);
      way = λ l link t v at mem.
          ⊎_elim
          (λ (old : IsIn (Event t v) (k.rest l)). h.way l link t v at (subst (IsIn (Event t v)) (sym (k.takes l)) (IsIn-append_right (Event t v) (on_link l m.turn.taken) (k.rest l) old)))
          (λ (new : IsIn (Event t v) (on_link l m.turn.sent)). sent_in_bound g offset has wired feasible c near l link t at (sent_later l link t v at new))
          (IsIn-append (Event t v) (k.rest l) (on_link l m.turn.sent) (subst (IsIn (Event t v)) (k.sends l) mem));
      linked = λ l link at.
          sent_more l link at
          ∙ ap (λ z. z ++ on_link l m.turn.sent) (h.linked l link at ∙ ap (λ z. all_taken l (x.did (platform_of g link.to)) ++ z) (k.takes l))
          ∙ four (all_taken l (x.did (platform_of g link.to))) (on_link l m.turn.taken) (k.rest l) (on_link l m.turn.sent)
          ∙ ap₂ (λ a b. a ++ b) (sym (taken_more l link at)) (sym (k.sends l));
      timed = λ j lj.
          ⊎_elim
          (λ (e : j ≡ m.platform).
          subst (λ n. Each (IsTimely g offset) (y.did n)) (sym e)
          (subst (Each (IsTimely g offset)) (sym k.joins)
          (Each-append (IsTimely g offset) (x.did m.platform) (m.turn ∷ []) (h.timed m.platform lt)
          (timely_here, tt))))
          (λ (ne : j ≢ m.platform). subst (Each (IsTimely g offset)) (sym (k.others j ne).1) (h.timed j lj))
          (cases_same j m.platform);
    },
  )
    where
      -- what is taken came to this platform
      taken_here : (o : OnLink) → IsIn o m.turn.taken → (link : Link) → slice_get g.links o.link ≡ Some link → platform_of g link.to ≡ m.platform
      taken_here o mem link at =
          ⊎_elim
          (λ (e : platform_of g link.to ≡ m.platform). e)
          (λ (ne : platform_of g link.to ≢ m.platform).
          let none : on_link o.link m.turn.taken ≡ [] = takes_own g offset has wired (c m.platform) m.platform level m.turn.taken m.late (after_rows k.is.posted m.turn.last) k.is.got o.link link at ne k.is.takes in
          let never : IsIn o.message [] = subst (IsIn o.message) none (in_on_link o m.turn.taken mem) in absurd never)
          (cases_same (platform_of g link.to) m.platform)

      from_way : Each (InBound g offset has wired (c m.platform) m.platform) m.turn.taken
      from_way = Each-from (InBound g offset has wired (c m.platform) m.platform) m.turn.taken (λ o mem link t v at e.
          subst (λ n. c n ≤ t.time + link_bound g link) (taken_here o mem link at)
          (h.way o.link link t v at (subst (IsIn (Event t v)) (sym (k.takes o.link))
          (IsIn-append_left (Event t v) (on_link o.link m.turn.taken) (k.rest o.link)
          (subst (λ z. IsIn z (on_link o.link m.turn.taken)) e (in_on_link o m.turn.taken mem))))))

      tp : Paces g offset has wired (c m.platform) m.platform level (x.at m.platform) m.turn m.late (y.at m.platform)
      tp = turn_paces g offset has wired (c m.platform) m.platform level (x.at m.platform) (y.at m.platform) m.turn m.late (h.later m.platform lt) k.last k.is from_way

      timely_here : IsTimely g offset m.turn
      timely_here = record {
        claims = subst (λ n. Each (λ (task : Task). n ≡ paced_by (offset (unit_of g task)) task.tag) m.turn.claimed) (sym k.last) tp.timed;
        posts = subst (λ n. Each (λ (d : Done). n ≡ paced_by (offset (unit_of g d.task)) d.task.tag) m.turn.posted) (sym k.last) tp.posted;
        sends = λ l link t v at mem.
            let send = wired.sends l link at in
            let low : c m.platform ≤ paced_by (offset (at_output g link.from 0)) t = tp.sent l link t v at mem in
            let slack : paced_by (offset (at_output g link.from 0)) t ≤ t.time + send.0 = sends_in_time g link.from send.0 (offset (at_output g link.from 0)) t feasible send.1 (has (at_output g link.from 0)) in
            subst (λ n. n ≤ t.time + slack_of (kind_of g link.from)) (sym k.last) (subst (λ z. c m.platform ≤ t.time + slack_of z) (sym send.1) (omega (arith, low, slack)));
      }

      foreign : (l : ℕ) (link : Link) → slice_get g.links l ≡ Some link → platform_of g link.from ≢ m.platform → IsForeign g m.platform l
      foreign l link at ne other ato home = ne (ap (λ (z : Link). platform_of g z.from) (same_some link other (sym at ∙ ato)) ∙ home)

      -- what is sent is sent from this platform
      sent_later : (l : ℕ) (link : Link) (t : Tag) (v : ℤ) → slice_get g.links l ≡ Some link → IsIn (Event t v) (on_link l m.turn.sent) → c (platform_of g link.from) ≤ paced_by (offset (at_output g link.from 0)) t
      sent_later l link t v at mem =
          ⊎_elim
          (λ (e : platform_of g link.from ≡ m.platform). subst (λ n. c n ≤ paced_by (offset (at_output g link.from 0)) t) (sym e) (tp.sent l link t v at mem))
          (λ (ne : platform_of g link.from ≢ m.platform). let none : IsIn (Event t v) [] = subst (IsIn (Event t v)) (tp.sent_own l (foreign l link at ne)) mem in absurd none)
          (cases_same (platform_of g link.from) m.platform)

      four : (a b d e : List Message) → (a ++ (b ++ d)) ++ e ≡ (a ++ b) ++ (d ++ e)
      four a b d e = ap (λ z. z ++ e) (sym (append_assoc a b d)) ∙ append_assoc (a ++ b) d e

      sent_more : (l : ℕ) (link : Link) → slice_get g.links l ≡ Some link → all_sent l (y.did (platform_of g link.from)) ≡ all_sent l (x.did (platform_of g link.from)) ++ on_link l m.turn.sent
      sent_more l link at =
          ⊎_elim
          (λ (e : platform_of g link.from ≡ m.platform).
          subst (λ n. all_sent l (y.did n) ≡ all_sent l (x.did n) ++ on_link l m.turn.sent) (sym e)
          (ap (all_sent l) k.joins ∙ sent_push l (x.did m.platform) m.turn))
          (λ (ne : platform_of g link.from ≢ m.platform).
          ap (all_sent l) (k.others (platform_of g link.from) ne).1
          ∙ sym (append-nil (all_sent l (x.did (platform_of g link.from))))
          ∙ ap (λ z. all_sent l (x.did (platform_of g link.from)) ++ z) (sym (tp.sent_own l (foreign l link at ne))))
          (cases_same (platform_of g link.from) m.platform)

      taken_more : (l : ℕ) (link : Link) → slice_get g.links l ≡ Some link → all_taken l (y.did (platform_of g link.to)) ≡ all_taken l (x.did (platform_of g link.to)) ++ on_link l m.turn.taken
      taken_more l link at =
          ⊎_elim
          (λ (e : platform_of g link.to ≡ m.platform).
          subst (λ n. all_taken l (y.did n) ≡ all_taken l (x.did n) ++ on_link l m.turn.taken) (sym e)
          (ap (all_taken l) k.joins ∙ taken_push l (x.did m.platform) m.turn))
          (λ (ne : platform_of g link.to ≢ m.platform).
          ap (all_taken l) (k.others (platform_of g link.to) ne).1
          ∙ sym (append-nil (all_taken l (x.did (platform_of g link.to))))
          ∙ ap (λ z. all_taken l (x.did (platform_of g link.to)) ++ z) (sym (tp.taken_own l link at (λ home. ne home))))
          (cases_same (platform_of g link.to) m.platform)

  pub advance_round_onward : (n i : ℕ) (x y : RunState) (ms : List VisitRecord) → n + i ≤ length g.platforms → OnwardNear g level rows offset c x → AdvanceRound g level c n i x ms y → Each (λ (m : VisitRecord). m.late ≡ false) ms × OnwardNear g level rows offset c y
  advance_round_onward zero i x y ms le h (e, same) = (subst (Each (λ (m : VisitRecord). m.late ≡ false)) (sym e) tt, subst (OnwardNear g level rows offset c) (sym same) h)
  advance_round_onward (suc n) i x y ms le h r =
      ⊎_elim
      (λ (done : IsFinished g i (x.at i) × AdvanceRound g level c n (suc i) x ms y). advance_round_onward n (suc i) x y ms (omega (arith, le)) h done.1)
      (λ (one : (IsFinished g i (x.at i) → ⊥) × (m : VisitRecord) × (rest : List VisitRecord) × (mid : RunState) × (ms ≡ m ∷ rest) × (m.platform ≡ i) × Advances g level (c m.platform) x m mid × AdvanceRound g level c n (suc i) mid rest y).
      let lt : one.1.platform < length g.platforms = subst (λ z. z < length g.platforms) (sym one.5) (omega (arith, le)) in
      let step = advance_onward x one.3 one.1 lt h one.6 in
      let on = advance_round_onward n (suc i) one.3 y one.2 (omega (arith, le)) step.1 one.7 in
      (subst (Each (λ (m : VisitRecord). m.late ≡ false)) (sym one.4) (step.0, on.0), on.1))
      r

module _ (g : Graph) (level : ℕ → ℕ) (rows : ℕ → List Row) (offset : Unit → Option ℤ) (has : (u : Unit) → HasOffset g u (offset u)) (wired : IsWired g) (feasible : IsFeasible g) (c : ℕ) where
  pub makes_onward : (x y : RunState) (m : VisitRecord) → m.platform < length g.platforms → Onward g level rows offset c x → Makes g level c x m y → (m.late ≡ false) × Onward g level rows offset c y
  makes_onward x y m lt h k = advance_onward g level rows offset has wired feasible (λ i. c) (one_is_near g c) x y m lt h (makes_advances g level c x m y k)

  pub round_onward : (n i : ℕ) (x y : RunState) (ms : List VisitRecord) → n + i ≤ length g.platforms → Onward g level rows offset c x → Round g level c n i x ms y → Each (λ (m : VisitRecord). m.late ≡ false) ms × Onward g level rows offset c y
  round_onward n i x y ms le h r = advance_round_onward g level rows offset has wired feasible (λ j. c) (one_is_near g c) n i x y ms le h (round_advances g level c n i x ms y r)
