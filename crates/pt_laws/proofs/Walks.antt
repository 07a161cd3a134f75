-- What a platform keeps, along a whole legal history.
use Rattle.std.proofs.Common.{◌≡◌, ℕ, ◌≤◌, ◌==◌, ◌⊎◌, Bool, true, false, ◌&&◌, List, [], ◌∷◌, ◌++◌, Option, Some, None, ℤ, filter_map, slice_get, arith, refl, sym, ap, subst, ◌∙◌, inl, inr, ⊎_elim, append-nil, append_assoc, eq-eqb}
use Rattle.std.proofs.lemmas.Bool.{cond-true, false≢true}
use Rattle.std.specs.List.{cons_option}
use Rattle.pt_types.specs.declared.graph.Graph.{Graph}
use Rattle.pt_types.specs.declared.graph.Link.{Link}
use Rattle.pt_semantics.specs.Lists.{or_else, IsIn, Each}
use Rattle.pt_types.specs.Ports.{when}
use Rattle.pt_semantics.specs.Edges.{wires}
use Rattle.pt_types.specs.Lookups.{kind_of, platform_of}
use Rattle.pt_semantics.specs.Behaviours.{Firings}
use Rattle.pt_semantics.specs.Cycles.{HasLevels}
use Rattle.pt_semantics.specs.Wired.{IsWired}
use Rattle.pt_semantics.specs.Bounds.{link_bound}
use Rattle.pt_types.specs.declared.rows.Row.{Row}
use Rattle.pt_semantics.specs.Meaning.{start_at}
use Rattle.pt_types.specs.declared.firing.Task.{Task}
use Rattle.pt_types.specs.declared.firing.Done.{Done}
use Rattle.pt_tags.specs.declared.message.Message.{Message}
use Rattle.pt_types.specs.declared.firing.OnLink.{OnLink}
use Rattle.pt_semantics.specs.Platform.{State, raised, opened}
use Rattle.pt_semantics.specs.Turn.{Turn, IsTurn}
use Rattle.pt_semantics.specs.Units.{unit_of}
use Rattle.pt_semantics.specs.History.{firing_by, of_unit, claims_of, Legal, LegalOnTime}
use Rattle.pt_semantics.specs.Posting.{Posts, after_post}
use Rattle.pt_semantics.specs.Entering.{after_rows}
use Rattle.pt_semantics.specs.Taking.{after_message, with_taken, Takes, IsOnTime}
use Rattle.pt_semantics.specs.Claiming.{Claims, after_claim}
use Rattle.pt_semantics.specs.Closing.{Closes, CanClose, shut, Sends, on_link}
use Rattle.pt_semantics.specs.Orderly.{InOrder, ComesAfter}
use Rattle.pt_semantics.specs.Linked.{all_sent, all_taken}
use Rattle.pt_tags.specs.declared.message.Message.TheVariants.{End}
use Rattle.pt_semantics.specs.Rows.{FitRows}
use Rattle.pt_semantics.proofs.Lookups.{none_some, or_else_none, when_none, Each-in, IsIn-append, IsIn-append_right}
use Rattle.pt_semantics.proofs.Floor.{floor_post, floor_message, floor_raise}
use Rattle.pt_semantics.proofs.Claiming.{more, floor_claim}
use Rattle.pt_laws.proofs.FloorHolds.{Sound, all_more, posts_sound, rows_sound, closes_sound, sends_sound, opened_sound}
use Rattle.pt_laws.proofs.Flows.{flows_nothing}
use Rattle.pt_laws.proofs.Steps.{Keeps, tk_more, sent_more, keeps_post, keeps_rows, keeps_message, keeps_raise, keeps_claim, keeps_shut, keeps_send}

pub record Whole (g : Graph) (level : ℕ → ℕ) (i : ℕ) (rows : ℕ → List Row) (s : State) (up : Option ℕ) (c : Firings) (sent tk : ℕ → List Message) : Type 0 where
  pub sound : Sound g s up c
  pub keeps : Keeps g level i rows s c sent tk

-- a platform that took a late message: End was not taken on that link, and never will be
pub record Stuck (g : Graph) (i : ℕ) (taken : ℕ → List Message) : Type 0 where
  pub l : ℕ
  pub link : Link
  pub at : slice_get g.links l ≡ Some link
  pub home : platform_of g link.to ≡ i
  pub never : IsIn End (taken l) → ⊥

module _ (g : Graph) (level : ℕ → ℕ) (i : ℕ) (rows : ℕ → List Row) (wired : IsWired g) (levels : HasLevels g level) where
  pub posts_whole : (ds : List Done) (s new : State) (up : Option ℕ) (c : Firings) (sent tk : ℕ → List Message) → Whole g level i rows s up c sent tk → Posts g s ds new → Whole g level i rows new up c sent tk
  posts_whole [] s new up c sent tk h p = subst (λ z. Whole g level i rows z up c sent tk) (sym p) h
  posts_whole (d ∷ ds) s new up c sent tk h (busy, result, rest) =
      posts_whole ds (after_post g s d) new up c sent tk
      (record {
        sound = record { floor = floor_post g level s c d levels h.sound.floor busy; rest = record { fit = h.sound.rest.fit; order = h.sound.rest.order; unseen = h.sound.rest.unseen } };
        keeps = keeps_post g level i rows s c sent tk d wired levels h.sound.floor busy result h.keeps;
      })
      rest

  on_more : (k : ℕ) (tk : ℕ → List Message) (m : OnLink) (ms : List OnLink) → tk_more tk m k ++ on_link k ms ≡ tk k ++ on_link k (m ∷ ms)
  on_more k tk m ms = append_assoc (tk k) (on_link k (m ∷ [])) (on_link k ms) ∙ ap (λ z. tk k ++ z) (onto (when (m.link == k) (Some m.message)) (on_link k ms))
    where
      onto : (o : Option Message) (ys : List Message) → cons_option o [] ++ ys ≡ cons_option o ys
      onto None ys = refl
      onto (Some x) ys = refl

  end_last : (xs : List Message) (m : Message) → InOrder (xs ++ m ∷ []) → IsIn End xs → ⊥
  end_last [] m order mem = mem
  end_last (x ∷ xs) m order mem =
      ⊎_elim
      (λ (e : End ≡ x). Each-in (ComesAfter End) (xs ++ m ∷ []) (subst (λ z. Each (ComesAfter z) (xs ++ m ∷ [])) (sym e) order.0) m (IsIn-append_right m xs (m ∷ []) (inl refl)))
      (λ (r : IsIn End xs). end_last xs m order.1 r)
      mem

  end_timely : (o : Option ℕ) (b : ℕ) → IsOnTime o b End
  end_timely None b = tt
  end_timely (Some p) b = tt

  pub takes_whole : (ms : List OnLink) (late : Bool) (s new : State) (up : Option ℕ) (c : Firings) (sent tk : ℕ → List Message) → Whole g level i rows s up c sent tk → Takes g level i s ms late new → ((late ≡ false) × Whole g level i rows new up c sent (λ k. tk k ++ on_link k ms)) ⊎ ((late ≡ true) × Stuck g i new.taken)
  takes_whole [] late s new up c sent tk h (l, e) =
      let same : ◌≡◌ {A = ℕ → List Message} tk (λ k. tk k ++ []) = λ j k. sym (append-nil (tk k)) j in
      inl (l, subst (λ z. Whole g level i rows z up c sent (λ k. tk k ++ [])) (sym e) (subst (λ z. Whole g level i rows s up c sent z) same h))
  takes_whole (m ∷ ms) late s new up c sent tk h (link, at, home, orderly, next) =
      ⊎_elim
      (λ (on : IsOnTime s.reading (link_bound g link) m.message × Takes g level i (after_message s m.link link m.message) ms late new).
      let one : Whole g level i rows (after_message s m.link link m.message) up c sent (tk_more tk m) = record {
        sound = record { floor = floor_message g s c m.link link m.message wired h.sound.floor at on.0; rest = record { fit = h.sound.rest.fit; order = h.sound.rest.order; unseen = h.sound.rest.unseen } };
        keeps = keeps_message g level i rows s c sent tk m link wired h.sound.floor at home orderly on.0 h.keeps;
      } in
      let same : ◌≡◌ {A = ℕ → List Message} (λ k. tk_more tk m k ++ on_link k ms) (λ k. tk k ++ on_link k (m ∷ ms)) = λ j k. on_more k tk m ms j in
      ⊎_elim
      (λ (fine : (late ≡ false) × Whole g level i rows new up c sent (λ k. tk_more tk m k ++ on_link k ms)). inl (fine.0, subst (λ z. Whole g level i rows new up c sent z) same fine.1))
      (λ (stuck : (late ≡ true) × Stuck g i new.taken). inr stuck)
      (takes_whole ms late (after_message s m.link link m.message) new up c sent (tk_more tk m) one on.1))
      (λ (off : (IsOnTime s.reading (link_bound g link) m.message → ⊥) × (ms ≡ []) × (late ≡ true) × (new ≡ with_taken s m.link m.message)).
      inr (
        off.2,
        subst (λ (z : State). Stuck g i z.taken) (sym off.3)
            (record {
              l = m.link;
              link = link;
              at = at;
              home = home;
              never = λ mem.
                  let list : (with_taken s m.link m.message).taken m.link ≡ s.taken m.link ++ m.message ∷ [] = cond-true (m.link == m.link) (s.taken m.link ++ m.message ∷ []) (s.taken m.link) (eq-eqb m.link m.link refl) in
                  ⊎_elim
                  (λ (old : IsIn End (s.taken m.link)). end_last (s.taken m.link) m.message orderly.0 old)
                  (λ (new_one : IsIn End (m.message ∷ [])). ⊎_elim (λ (e : End ≡ m.message). off.0 (subst (λ z. IsOnTime s.reading (link_bound g link) z) e (end_timely s.reading (link_bound g link)))) (λ (z : ⊥). z) new_one)
                  (IsIn-append End (s.taken m.link) (m.message ∷ []) (subst (IsIn End) list mem));
            }),
      ))
      next

  claims_whole : (r : ℕ) (tasks : List Task) (s new : State) (up : Option ℕ) (c : Firings) (sent tk : ℕ → List Message) → s.reading ≡ Some r → Whole g level i rows s up c sent tk → Claims g r s tasks new → Whole g level i rows new up (λ u. c u ++ filter_map (of_unit g u) tasks) sent tk
  claims_whole r [] s new up c sent tk reading h e =
      let same : ◌≡◌ {A = Firings} c (λ u. c u ++ []) = λ j u. sym (append-nil (c u)) j in
      subst (λ z. Whole g level i rows z up (λ u. c u ++ []) sent tk) (sym e) (subst (λ z. Whole g level i rows s up z sent tk) same h)
  claims_whole r (task ∷ tasks) s new up c sent tk reading h (next, rest) =
      let one : Whole g level i rows (after_claim g s (unit_of g task) task) up (more c (unit_of g task) (firing_by g task)) sent tk = record {
        sound = record { floor = floor_claim g s c (unit_of g task) task r h.sound.floor reading next.safe; rest = record { fit = h.sound.rest.fit; order = h.sound.rest.order; unseen = h.sound.rest.unseen } };
        keeps = keeps_claim g level i rows s c sent tk r task wired h.sound.floor next h.keeps;
      } in
      subst (λ z. Whole g level i rows new up z sent tk) (all_more c g task tasks)
      (claims_whole r tasks (after_claim g s (unit_of g task) task) new up (more c (unit_of g task) (firing_by g task)) sent tk reading one rest)

  claims_taken : (r : ℕ) (tasks : List Task) (s new : State) → Claims g r s tasks new → (new.taken ≡ s.taken) × (new.reading ≡ s.reading)
  claims_taken r [] s new e = (ap (λ (z : State). z.taken) e, ap (λ (z : State). z.reading) e)
  claims_taken r (task ∷ tasks) s new (next, rest) = claims_taken r tasks (after_claim g s (unit_of g task) task) new rest

  closes_whole : (s new : State) (r : ℕ) (late : Bool) (c : Firings) (sent tk : ℕ → List Message) → s.reading ≡ Some r → Whole g level i rows s (Some r) c sent tk → Closes g i s r late new → Whole g level i rows new (Some r) c sent tk
  closes_whole s new r late c sent tk reading h how =
      let sound = closes_sound g i s new r late (Some r) c h.sound how in
      record {
        sound = sound.0;
        keeps =
            ⊎_elim
            (λ (shuts : CanClose g i s r × (late ≡ false) × (new ≡ shut g i s)). subst (λ z. Keeps g level i rows z c sent tk) (sym shuts.2) (keeps_shut g level i rows s c sent tk r wired reading h.sound.rest shuts.0 h.keeps))
            (λ (stays : (CanClose g i s r → late ≡ true) × (new ≡ s)). subst (λ z. Keeps g level i rows z c sent tk) (sym stays.1) h.keeps)
            how;
      }

  closes_taken : (s new : State) (r : ℕ) (late : Bool) → Closes g i s r late new → new.taken ≡ s.taken
  closes_taken s new r late how =
      ⊎_elim
      (λ (shuts : CanClose g i s r × (late ≡ false) × (new ≡ shut g i s)). ap (λ (z : State). z.taken) shuts.2)
      (λ (stays : (CanClose g i s r → late ≡ true) × (new ≡ s)). ap (λ (z : State). z.taken) stays.1)
      how

  sends_whole : (s new : State) (xs : List OnLink) (up : Option ℕ) (c : Firings) (sent tk : ℕ → List Message) → Whole g level i rows s up c sent tk → Sends s xs new → Whole g level i rows new up c (sent_more sent xs) tk
  sends_whole s new xs up c sent tk h (rest, e, fronts, most) =
      record {
        sound = (sends_sound g s new xs up c h.sound (rest, e, fronts, most)).0;
        keeps = subst (λ z. Keeps g level i rows z c (sent_more sent xs) tk) (sym e) (keeps_send g level i rows s c sent tk xs rest fronts h.keeps);
      }

  pub turn_whole : (s new : State) (turn : Turn) (late : Bool) (c : Firings) (sent tk : ℕ → List Message) → Whole g level i rows s s.reading c sent tk → IsTurn g level i s turn late new →
      ((late ≡ false) × Whole g level i rows new new.reading (λ u. c u ++ filter_map (of_unit g u) turn.claimed) (sent_more sent turn.sent) (λ k. tk k ++ on_link k turn.taken)) ⊎ ((late ≡ true) × Stuck g i new.taken)
  turn_whole s new turn late c sent tk h t =
      let r : ℕ = turn.last in
      let posted = posts_whole turn.posted s t.posted s.reading c sent tk h t.posts in
      let readings : t.posted.reading ≡ s.reading = (posts_sound g level turn.posted s t.posted s.reading c levels h.sound t.posts).1 in
      let later = λ (p : ℕ) (e : t.posted.reading ≡ Some p). le_both p turn.first turn.last (t.rises p (sym readings ∙ e)) t.span in
      let posted2 : Whole g level i rows t.posted t.posted.reading c sent tk = subst (λ z. Whole g level i rows t.posted z c sent tk) (sym readings) posted in
      let entered : Whole g level i rows (after_rows t.posted r) (Some r) c sent tk = record {
        sound = rows_sound g t.posted r c later posted2.sound;
        keeps = keeps_rows g level i rows t.posted c sent tk r wired posted2.sound.floor posted2.sound.rest posted2.keeps;
      } in
      let done_closed = closes_taken t.ready t.done r late t.closes in
      let claimed = claims_taken r turn.claimed (raised t.got r) t.ready t.claims in
      let sends_taken : new.taken ≡ t.done.taken = ap (λ (z : State). z.taken) t.sends.1 in
      ⊎_elim
      (λ (fine : (late ≡ false) × Whole g level i rows t.got (Some r) c sent (λ k. tk k ++ on_link k turn.taken)).
      let got = fine.1 in
      let got_reading : t.got.reading ≡ t.posted.reading = takes_reading turn.taken late (after_rows t.posted r) t.got t.takes in
      let later2 = λ (p : ℕ) (e : t.got.reading ≡ Some p). later p (sym got_reading ∙ e) in
      let up : Whole g level i rows (raised t.got r) (Some r) c sent (λ k. tk k ++ on_link k turn.taken) = record {
        sound = record {
          floor = floor_raise g t.got c r got.sound.floor later2;
          rest = record { fit = got.sound.rest.fit; order = got.sound.rest.order; unseen = got.sound.rest.unseen };
        };
        keeps = keeps_raise g level i rows t.got c sent _ r later2 got.keeps;
      } in
      let ready = claims_whole r turn.claimed (raised t.got r) t.ready (Some r) c sent _ refl up t.claims in
      let done = closes_whole t.ready t.done r late _ sent _ claimed.1 ready t.closes in
      let all = sends_whole t.done new turn.sent (Some r) _ sent _ done t.sends in
      let end_reading : new.reading ≡ Some r = ap (λ (z : State). z.reading) t.sends.1 ∙ (closes_sound g i t.ready t.done r late (Some r) _ ready.sound t.closes).1 ∙ claimed.1 in
      inl (fine.0, subst (λ z. Whole g level i rows new z (λ u. c u ++ filter_map (of_unit g u) turn.claimed) (sent_more sent turn.sent) (λ k. tk k ++ on_link k turn.taken)) (sym end_reading) all))
      (λ (stuck : (late ≡ true) × Stuck g i t.got.taken).
      inr (stuck.0, subst (Stuck g i) (sym (sends_taken ∙ done_closed ∙ claimed.0)) stuck.1))
      (takes_whole turn.taken late (after_rows t.posted r) t.got (Some r) c sent tk entered t.takes)
    where
      le_both : (a b d : ℕ) → a ≤ b → b ≤ d → a ≤ d
      le_both a b d x y = omega arith

      takes_reading : (ms : List OnLink) (late : Bool) (s new : State) → Takes g level i s ms late new → new.reading ≡ s.reading
      takes_reading [] late s new (l, e) = ap (λ (z : State). z.reading) e
      takes_reading (m ∷ ms) late s new (link, at, home, orderly, next) =
          ⊎_elim
          (λ (on : IsOnTime s.reading (link_bound g link) m.message × Takes g level i (after_message s m.link link m.message) ms late new). takes_reading ms late (after_message s m.link link m.message) new on.1)
          (λ (off : (IsOnTime s.reading (link_bound g link) m.message → ⊥) × (ms ≡ []) × (late ≡ true) × (new ≡ with_taken s m.link m.message)). ap (λ (z : State). z.reading) off.3)
          next

  legal_whole : (turns : List Turn) (s new : State) (c : Firings) (sent tk : ℕ → List Message) → Whole g level i rows s s.reading c sent tk → Legal g level i s turns new →
      Whole g level i rows new new.reading (λ u. c u ++ claims_of g turns u) (λ l. sent l ++ all_sent l turns) (λ l. tk l ++ all_taken l turns) ⊎ Stuck g i new.taken
  legal_whole [] s new c sent tk h e =
      let c_same : ◌≡◌ {A = Firings} c (λ u. c u ++ []) = λ j u. sym (append-nil (c u)) j in
      let s_same : ◌≡◌ {A = ℕ → List Message} sent (λ l. sent l ++ []) = λ j l. sym (append-nil (sent l)) j in
      let t_same : ◌≡◌ {A = ℕ → List Message} tk (λ l. tk l ++ []) = λ j l. sym (append-nil (tk l)) j in
      inl (subst (λ z. Whole g level i rows z z.reading (λ u. c u ++ []) (λ l. sent l ++ []) (λ l. tk l ++ [])) (sym e)
      (subst (λ z. Whole g level i rows s s.reading z (λ l. sent l ++ []) (λ l. tk l ++ [])) c_same
      (subst (λ z. Whole g level i rows s s.reading c z (λ l. tk l ++ [])) s_same (subst (λ z. Whole g level i rows s s.reading c sent z) t_same h))))
  legal_whole (turn ∷ turns) s new c sent tk h (late, mid, is, last, rest) =
      let c1 : Firings = λ u. c u ++ filter_map (of_unit g u) turn.claimed in
      let s1 : ℕ → List Message = sent_more sent turn.sent in
      let t1 : ℕ → List Message = λ k. tk k ++ on_link k turn.taken in
      let c_same : ◌≡◌ {A = Firings} (λ u. c1 u ++ claims_of g turns u) (λ u. c u ++ claims_of g (turn ∷ turns) u) = λ j u. append_assoc (c u) (filter_map (of_unit g u) turn.claimed) (claims_of g turns u) j in
      let s_same : ◌≡◌ {A = ℕ → List Message} (λ l. s1 l ++ all_sent l turns) (λ l. sent l ++ all_sent l (turn ∷ turns)) = λ j l. append_assoc (sent l) (on_link l turn.sent) (all_sent l turns) j in
      let t_same : ◌≡◌ {A = ℕ → List Message} (λ l. t1 l ++ all_taken l turns) (λ l. tk l ++ all_taken l (turn ∷ turns)) = λ j l. append_assoc (tk l) (on_link l turn.taken) (all_taken l turns) j in
      ⊎_elim
      (λ (fine : (late ≡ false) × Whole g level i rows mid mid.reading c1 s1 t1).
      ⊎_elim
      (λ (all : Whole g level i rows new new.reading (λ u. c1 u ++ claims_of g turns u) (λ l. s1 l ++ all_sent l turns) (λ l. t1 l ++ all_taken l turns)).
      inl (subst (λ z. Whole g level i rows new new.reading z (λ l. sent l ++ all_sent l (turn ∷ turns)) (λ l. tk l ++ all_taken l (turn ∷ turns))) c_same
      (subst (λ z. Whole g level i rows new new.reading (λ u. c1 u ++ claims_of g turns u) z (λ l. tk l ++ all_taken l (turn ∷ turns))) s_same
      (subst (λ z. Whole g level i rows new new.reading (λ u. c1 u ++ claims_of g turns u) (λ l. s1 l ++ all_sent l turns) z) t_same all))))
      (λ (stuck : Stuck g i new.taken). inr stuck)
      (legal_whole turns mid new c1 s1 t1 fine.1 rest))
      (λ (stuck : (late ≡ true) × Stuck g i mid.taken).
      let ended : turns ≡ [] = last (inl stuck.0) in
      let same : new ≡ mid = subst (λ z. Legal g level i mid z new) ended rest in
      inr (subst (λ (z : State). Stuck g i z.taken) (sym same) stuck.1))
      (turn_whole s mid turn late c sent tk h is)

  on_time_whole : (turns : List Turn) (s new : State) (c : Firings) (sent tk : ℕ → List Message) → Whole g level i rows s s.reading c sent tk → LegalOnTime g level i s turns new →
      Whole g level i rows new new.reading (λ u. c u ++ claims_of g turns u) (λ l. sent l ++ all_sent l turns) (λ l. tk l ++ all_taken l turns)
  on_time_whole [] s new c sent tk h e =
      let c_same : ◌≡◌ {A = Firings} c (λ u. c u ++ []) = λ j u. sym (append-nil (c u)) j in
      let s_same : ◌≡◌ {A = ℕ → List Message} sent (λ l. sent l ++ []) = λ j l. sym (append-nil (sent l)) j in
      let t_same : ◌≡◌ {A = ℕ → List Message} tk (λ l. tk l ++ []) = λ j l. sym (append-nil (tk l)) j in
      subst (λ (z : State). Whole g level i rows z z.reading (λ u. c u ++ []) (λ l. sent l ++ []) (λ l. tk l ++ [])) (sym e)
      (subst (λ z. Whole g level i rows s s.reading z (λ l. sent l ++ []) (λ l. tk l ++ [])) c_same
      (subst (λ z. Whole g level i rows s s.reading c z (λ l. tk l ++ [])) s_same (subst (λ z. Whole g level i rows s s.reading c sent z) t_same h)))
  on_time_whole (turn ∷ turns) s new c sent tk h (mid, is, rest) =
      let c1 : Firings = λ u. c u ++ filter_map (of_unit g u) turn.claimed in
      let s1 : ℕ → List Message = sent_more sent turn.sent in
      let t1 : ℕ → List Message = λ k. tk k ++ on_link k turn.taken in
      let c_same : ◌≡◌ {A = Firings} (λ u. c1 u ++ claims_of g turns u) (λ u. c u ++ claims_of g (turn ∷ turns) u) = λ j u. append_assoc (c u) (filter_map (of_unit g u) turn.claimed) (claims_of g turns u) j in
      let s_same : ◌≡◌ {A = ℕ → List Message} (λ l. s1 l ++ all_sent l turns) (λ l. sent l ++ all_sent l (turn ∷ turns)) = λ j l. append_assoc (sent l) (on_link l turn.sent) (all_sent l turns) j in
      let t_same : ◌≡◌ {A = ℕ → List Message} (λ l. t1 l ++ all_taken l turns) (λ l. tk l ++ all_taken l (turn ∷ turns)) = λ j l. append_assoc (tk l) (on_link l turn.taken) (all_taken l turns) j in
      ⊎_elim
      (λ (fine : (false ≡ false) × Whole g level i rows mid mid.reading c1 s1 t1).
      subst (λ z. Whole g level i rows new new.reading z (λ l. sent l ++ all_sent l (turn ∷ turns)) (λ l. tk l ++ all_taken l (turn ∷ turns))) c_same
      (subst (λ z. Whole g level i rows new new.reading (λ u. c1 u ++ claims_of g turns u) z (λ l. tk l ++ all_taken l (turn ∷ turns))) s_same
      (subst (λ z. Whole g level i rows new new.reading (λ u. c1 u ++ claims_of g turns u) (λ l. s1 l ++ all_sent l turns) z) t_same
      (on_time_whole turns mid new c1 s1 t1 fine.1 rest))))
      (λ (stuck : (false ≡ true) × Stuck g i mid.taken). absurd (false≢true stuck.0))
      (turn_whole s mid turn false c sent tk h is)

  pub opened_keeps : Keeps g level i rows (opened g i rows) (λ u. []) (λ l. []) (λ l. [])
  opened_keeps = record {
    arr = (opened g i rows).waits;
    q = λ u. [];
    held = record { fresh = λ a p t lt e. refl; used = λ a p t x lt e. absurd (none_some x e) };
    chains = record {
      open_is = λ u. refl;
      threaded = λ u. tt;
      states_are = λ a p free. refl;
      real = λ u x mem. absurd mem;
    };
    came = record {
      entered = λ a. [];
      split = λ a. refl;
      inner = λ a p t none.
          sym (or_else_none (when (platform_of g a == i && p == 0) (start_at g (kind_of g a) t)))
          ∙ ap (or_else (when (platform_of g a == i && p == 0) (start_at g (kind_of g a) t))) (sym (flows_nothing g (wires g) a p t));
      sensors = λ file a b p t kind.
          ap (λ k. when (platform_of g a == i && p == 0) (start_at g k t)) kind ∙ when_none ℤ (platform_of g a == i && p == 0) ∙ sym (when_none ℤ (p == 0));
      receivers = λ l link p t at.
          ap (λ k. when (platform_of g link.to == i && p == 0) (start_at g k t)) (wired.receives l link at) ∙ when_none ℤ (platform_of g link.to == i && p == 0) ∙ sym (when_none ℤ (p == 0));
    };
    out = record { while_open = λ e l link at home. refl; once_shut = λ e l link at home. absurd (false≢true e) };
    is_shut = λ e. absurd (false≢true e);
    orderly = λ l link at. (tt, tt);
    after_start = λ u x start period kind mem. absurd mem;
    taken_is = λ l. refl;
  }

  pub history_whole : FitRows g rows → (turns : List Turn) (s : State) → Legal g level i (opened g i rows) turns s →
      Whole g level i rows s s.reading (claims_of g turns) (λ l. all_sent l turns) (λ l. all_taken l turns) ⊎ Stuck g i s.taken
  history_whole fits turns s legal =
      legal_whole turns (opened g i rows) s (λ u. []) (λ l. []) (λ l. []) (record { sound = opened_sound g i rows fits; keeps = opened_keeps }) legal

  pub on_time_history : FitRows g rows → (turns : List Turn) (s : State) → LegalOnTime g level i (opened g i rows) turns s → Whole g level i rows s s.reading (claims_of g turns) (λ l. all_sent l turns) (λ l. all_taken l turns)
  on_time_history fits turns s legal =
      on_time_whole turns (opened g i rows) s (λ u. []) (λ l. []) (λ l. []) (record { sound = opened_sound g i rows fits; keeps = opened_keeps }) legal
