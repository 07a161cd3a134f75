-- One result more.
use Rattle.std.proofs.Common.{◌≡◌, ℕ, ◌<◌, List, [], ◌∷◌, ◌++◌, Some, None, length, get_or, zero, suc, refl, sym, ap, subst, ◌∙◌, inl, inr, ⊎_elim, arith, append_assoc, slice_get}
use Rattle.std.specs.List.{cons_option}
use Rattle.std.proofs.lemmas.List.Elements.{filter_map-append}
use Rattle.pt_types.specs.declared.graph.Graph.{Graph}
use Rattle.pt_types.specs.declared.firing.Task.{Task}
use Rattle.pt_types.specs.declared.firing.Done.{Done}
use Rattle.pt_types.specs.declared.firing.OnLink.{OnLink}
use Rattle.pt_types.specs.declared.graph.Unit.{Unit}
use Rattle.pt_semantics.specs.Lists.{Each}
use Rattle.pt_types.specs.Ports.{when}
use Rattle.pt_semantics.specs.Firing.{fired}
use Rattle.pt_types.specs.Lookups.{kind_of}
use Rattle.pt_semantics.specs.Platform.{State, put_busy}
use Rattle.pt_semantics.specs.Posting.{Posts, after_post}
use Rattle.pt_semantics.specs.Units.{unit_of, same_part}
use Rattle.pt_semantics.proofs.Lookups.{none_some, same_some, when_found, first_of_found, Each-in, Each-from, cases_part}
use Rattle.pt_semantics.proofs.Floor.{put_same, put_other}
use Rattle.pt_turn.specs.declared.state.fields.OpenClaim.{OpenClaim}
use Rattle.pt_turn.specs.declared.state.fields.Fields.{Fields}
use Rattle.pt_turn.specs.Fields.State.{busy_in, IsOpen, state_of}
use Rattle.pt_turn.specs.Posts.Sent.{SumsFit}
use Rattle.pt_turn.specs.Posts.Posted.{ClaimsFit, ArePlaces, ArePosted, Posted, IsDone, picked}

pub posts_push : (g : Graph) (s mid : State) (ds : List Done) (d : Done) → Posts g s ds mid → mid.busy (unit_of g d.task) ≡ Some d.task → d.fired ≡ fired (kind_of g d.task.actor) d.task.state d.task.inputs → Posts g s (ds ++ d ∷ []) (after_post g mid d)
posts_push g s mid [] d h busy result = subst (λ z. (z.busy (unit_of g d.task) ≡ Some d.task) × (d.fired ≡ fired (kind_of g d.task.actor) d.task.state d.task.inputs) × (after_post g mid d ≡ after_post g z d)) h (busy, result, refl)
posts_push g s mid (x ∷ xs) d h busy result = (h.0, h.1, posts_push g (after_post g s x) mid xs d h.2 busy result)

pub fit_found : (g : Graph) (opens : List OpenClaim) (u : Unit) (task : Task) → ClaimsFit g opens → busy_in opens u ≡ Some task → SumsFit g task.actor task.tag
fit_found g opens u task fit busy =
    let f = first_of_found (λ (o : OpenClaim). when (same_part o.unit u) (Some o.task)) opens task busy in
    let same : f.0.task ≡ task = same_some f.0.task task (when_found (same_part f.0.unit u) (Some f.0.task) task f.2).1 in
    subst (λ (t : Task). SumsFit g t.actor t.tag) same (Each-in (λ (o : OpenClaim). SumsFit g o.task.actor o.task.tag) opens fit f.0 f.1)

-- what is left open was open
pub fit_after : (g : Graph) (old new : List OpenClaim) (u : Unit) → ClaimsFit g old → Each (IsOpen g new) new → busy_in new ≡ put_busy (busy_in old) u None → ClaimsFit g new
fit_after g old new u fit sound is = Each-from (λ (o : OpenClaim). SumsFit g o.task.actor o.task.tag) new (λ o mem.
    let was : IsOpen g new o = Each-in (IsOpen g new) new sound o mem in
    let at : put_busy (busy_in old) u None o.unit ≡ Some o.task = sym (ap (λ f. f o.unit) is) ∙ was.found in
    ⊎_elim (λ (e : u ≡ o.unit). absurd (none_some o.task (sym (put_same (busy_in old) u o.unit None e) ∙ at)))
    (λ (ne : u ≡ o.unit → ⊥). fit_found g old o.unit o.task fit (sym (put_other (busy_in old) u o.unit None ne) ∙ at)) (cases_part u o.unit))

pub read_each : {X : Type 0} (P : X → Type 0) (xs : List X) (i : ℕ) (d : X) → Each P xs → i < length xs → P (get_or xs i d)
read_each P [] i d h lt = absurd (omega arith)
read_each P (x ∷ xs) zero d h lt = h.0
read_each P (x ∷ xs) (suc i) d h lt = read_each P xs i d h.1 (omega arith)

-- one result more that is posted, and one that is passed over
are_more : (g : Graph) (s mid : State) (ds ps : List Done) (d : Done) → ArePosted g s.busy ds ps → Posts g s ps mid → mid.busy (unit_of g d.task) ≡ Some d.task → ArePosted g s.busy (ds ++ d ∷ []) (ps ++ d ∷ [])
are_more g s mid [] ps d are h busy =
    let same : mid ≡ s = subst (λ l. Posts g s l mid) are h in
    inl (subst (λ (z : State). z.busy (unit_of g d.task) ≡ Some d.task) same busy, [], ap (λ l. l ++ d ∷ []) are, refl)
are_more g s mid (x ∷ xs) ps d are h busy =
    ⊎_elim
    (λ (o : (s.busy (unit_of g x.task) ≡ Some x.task) × (rest : List Done) × (ps ≡ x ∷ rest) × ArePosted g (put_busy s.busy (unit_of g x.task) None) xs rest).
    let posts : Posts g s (x ∷ o.1) mid = subst (λ l. Posts g s l mid) o.2 h in
    inl (o.0, o.1 ++ d ∷ [], ap (λ l. l ++ d ∷ []) o.2, are_more g (after_post g s x) mid xs o.1 d o.3 posts.2 busy))
    (λ (o : (s.busy (unit_of g x.task) ≡ Some x.task → ⊥) × ArePosted g s.busy xs ps). inr (o.0, are_more g s mid xs ps d o.1 h busy))
    are

are_same : (g : Graph) (s mid : State) (ds ps : List Done) (d : Done) → ArePosted g s.busy ds ps → Posts g s ps mid → (mid.busy (unit_of g d.task) ≡ Some d.task → ⊥) → ArePosted g s.busy (ds ++ d ∷ []) ps
are_same g s mid [] ps d are h free =
    let same : mid ≡ s = subst (λ l. Posts g s l mid) are h in
    inr (subst (λ (z : State). z.busy (unit_of g d.task) ≡ Some d.task → ⊥) same free, are)
are_same g s mid (x ∷ xs) ps d are h free =
    ⊎_elim
    (λ (o : (s.busy (unit_of g x.task) ≡ Some x.task) × (rest : List Done) × (ps ≡ x ∷ rest) × ArePosted g (put_busy s.busy (unit_of g x.task) None) xs rest).
    let posts : Posts g s (x ∷ o.1) mid = subst (λ l. Posts g s l mid) o.2 h in
    inl (o.0, o.1, o.2, are_same g (after_post g s x) mid xs o.1 d o.3 posts.2 free))
    (λ (o : (s.busy (unit_of g x.task) ≡ Some x.task → ⊥) × ArePosted g s.busy xs ps). inr (o.0, are_same g s mid xs ps d o.1 h free))
    are

pub posted_more : (g : Graph) (old mid new : Fields) (dones before kept after : List Done) (d : Done) → Posted g old mid dones before kept → after ≡ kept ++ d ∷ [] → IsDone g d → busy_in mid.open_claims.items (unit_of g d.task) ≡ Some d.task → Each (IsOpen g new.open_claims.items) new.open_claims.items → ((taken : List OnLink) → state_of new taken ≡ after_post g (state_of mid taken) d) → Posted g old new (dones ++ d ∷ []) before after
posted_more g old mid new dones before kept after d so items done busy sound is = record {
  posted = so.posted ++ d ∷ [];
  appended = items ∙ ap (λ xs. xs ++ d ∷ []) so.appended ∙ append_assoc before so.posted (d ∷ []);
  are = are_more g (state_of old []) (state_of mid []) dones so.posted d so.are (so.posts []) busy;
  posts = λ taken. subst (Posts g (state_of old taken) (so.posted ++ d ∷ [])) (sym (is taken)) (posts_push g (state_of old taken) (state_of mid taken) so.posted d (so.posts taken) busy done);
  fit = fit_after g mid.open_claims.items new.open_claims.items (unit_of g d.task) so.fit sound (ap (λ (s : State). s.busy) (is []));
}

pub posted_same : (g : Graph) (old mid new : Fields) (dones before kept after : List Done) (d : Done) → Posted g old mid dones before kept → after ≡ kept → (busy_in mid.open_claims.items (unit_of g d.task) ≡ Some d.task → ⊥) → new ≡ mid → Posted g old new (dones ++ d ∷ []) before after
posted_same g old mid new dones before kept after d so items free is = record {
  posted = so.posted;
  appended = items ∙ so.appended;
  are = are_same g (state_of old []) (state_of mid []) dones so.posted d so.are (so.posts []) free;
  posts = λ taken. subst (λ (f : Fields). Posts g (state_of old taken) so.posted (state_of f taken)) (sym is) (so.posts taken);
  fit = subst (λ (f : Fields). ClaimsFit g f.open_claims.items) (sym is) so.fit;
}

-- one place more
pub picked_more : (dones : List Done) (places : List ℕ) (i : ℕ) (d : Done) → slice_get dones i ≡ Some d → picked dones (places ++ i ∷ []) ≡ picked dones places ++ d ∷ []
picked_more dones places i d at = filter_map-append (slice_get dones) places (i ∷ []) ∙ ap (λ o. picked dones places ++ cons_option o []) at

pub places_more : (dones : List Done) (places : List ℕ) (i : ℕ) → ArePlaces dones places → i < length dones → ArePlaces dones (places ++ i ∷ [])
places_more dones [] i h lt = (lt, tt)
places_more dones (p ∷ places) i h lt = (h.0, places_more dones places i h.1 lt)
