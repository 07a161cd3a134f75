-- Which turns a history keeps.
use Rattle.std.proofs.Common.{◌≡◌, ◌^◌, ◌+◌, ◌&&◌, ◌⊎◌, if◌then◌else◌, Bool, true, false, List, [], ◌∷◌, nat_lt, refl, sym, subst, ◌∙◌, inl, inr, ⊎_elim}
use Rattle.std.proofs.lemmas.Bool.{and_parts, false≢true}
use Rattle.pt_types.specs.declared.firing.Done.{Done}
use Rattle.pt_types.specs.declared.firing.OnLink.{OnLink}
use Rattle.pt_types.specs.declared.firing.Task.{Task}
use Rattle.pt_semantics.specs.Kept.{kept, kept_from, kept_with, settled}
use Rattle.pt_semantics.specs.Lists.{Each, IsIn}
use Rattle.pt_semantics.specs.Turn.{Turn, is_empty, is_quiet, joined}
use Rattle.pt_semantics.proofs.Lookups.{Each-append, Each-from, Each-in, IsIn-append_left, IsIn-append_right}

-- nothing was posted, claimed or sent in a quiet turn
none_in : {X : Type 0} (xs : List X) (x : X) → is_empty xs ≡ true → IsIn x xs → ⊥
none_in [] x e m = m
none_in (y ∷ xs) x e m = false≢true e

record IsStill (x : Turn) : Type 0 where
  pub posted : is_empty x.posted ≡ true
  pub claimed : is_empty x.claimed ≡ true
  pub sent : is_empty x.sent ≡ true

still : (x : Turn) → is_quiet x ≡ true → IsStill x
still x quiet =
    let q1 = and_parts (is_empty x.posted && is_empty x.rows && is_empty x.taken && is_empty x.claimed) (is_empty x.sent) quiet in
    let q2 = and_parts (is_empty x.posted && is_empty x.rows && is_empty x.taken) (is_empty x.claimed) q1.0 in
    let q3 = and_parts (is_empty x.posted && is_empty x.rows) (is_empty x.taken) q2.0 in
    let q4 = and_parts (is_empty x.posted) (is_empty x.rows) q3.0 in
    record { posted = q4.0; claimed = q2.1; sent = q1.1 }

pub posts_nothing : (x : Turn) (d : Done) → is_quiet x ≡ true → IsIn d x.posted → ⊥
posts_nothing x d quiet m = none_in x.posted d (still x quiet).posted m

pub claims_nothing : (x : Turn) (task : Task) → is_quiet x ≡ true → IsIn task x.claimed → ⊥
claims_nothing x task quiet m = none_in x.claimed task (still x quiet).claimed m

pub sends_nothing : (x : Turn) (m : OnLink) → is_quiet x ≡ true → IsIn m x.sent → ⊥
sends_nothing x m quiet i = none_in x.sent m (still x quiet).sent i

-- whether the last of two turns joins the first
abbrev joins : Turn → Turn → Bool
joins x y = is_quiet x && is_quiet y && nat_lt (x.count + y.count) (2 ^ 64)

both_quiet : (x y : Turn) → joins x y ≡ true → (is_quiet x ≡ true) × (is_quiet y ≡ true)
both_quiet x y e = and_parts (is_quiet x) (is_quiet y) (and_parts (is_quiet x && is_quiet y) (nat_lt (x.count + y.count) (2 ^ 64)) e).0

-- what is so of each turn, and of each quiet one, is so of each that is kept
module _ (P : Turn → Type 0) (of_quiet : (x : Turn) → is_quiet x ≡ true → P x) where
  each_pair : (x y : Turn) (b : Bool) → (b ≡ true → (is_quiet x ≡ true) × (is_quiet y ≡ true)) → P x → P y → Each P (if b then joined x y ∷ [] else x ∷ y ∷ [])
  each_pair x y true quiet px py = (of_quiet (joined x y) (quiet refl).1, tt)
  each_pair x y false quiet px py = (px, (py, tt))

  each_settled : (turns : List Turn) → Each P turns → Each P (settled turns)
  each_settled [] h = tt
  each_settled (x ∷ []) h = h
  each_settled (x ∷ y ∷ []) h = each_pair x y (joins x y) (both_quiet x y) h.0 h.1.0
  each_settled (x ∷ y ∷ z ∷ rest) h = (h.0, each_settled (y ∷ z ∷ rest) h.1)

  each_from : (history turns : List Turn) → Each P history → Each P turns → Each P (kept_from history turns)
  each_from history [] h more = h
  each_from history (turn ∷ turns) h more = each_from (kept_with history turn) turns (Each-append P (settled history) (turn ∷ []) (each_settled history h) (more.0, tt)) more.1

  pub each_kept : (turns : List Turn) → Each P turns → Each P (kept turns)
  each_kept turns h = each_from [] turns tt h

-- each that is kept is quiet or was made
pub kept_was_made : (turns : List Turn) (x : Turn) → IsIn x (kept turns) → (is_quiet x ≡ true) ⊎ IsIn x turns
kept_was_made turns x m = Each-in (λ (t : Turn). (is_quiet t ≡ true) ⊎ IsIn t turns) (kept turns) (each_kept (λ (t : Turn). (is_quiet t ≡ true) ⊎ IsIn t turns) (λ t quiet. inl quiet) turns (Each-from (λ (t : Turn). (is_quiet t ≡ true) ⊎ IsIn t turns) turns (λ t i. inr i))) x m

-- and each that was made and is not quiet is kept
module _ (x : Turn) (noisy : is_quiet x ≡ false) where
  in_pair : (y z : Turn) (b : Bool) → (b ≡ true → (is_quiet y ≡ true) × (is_quiet z ≡ true)) → IsIn x (y ∷ z ∷ []) → IsIn x (if b then joined y z ∷ [] else y ∷ z ∷ [])
  in_pair y z false quiet m = m
  in_pair y z true quiet m =
      ⊎_elim
      (λ (e : x ≡ y). absurd (false≢true (sym noisy ∙ subst (λ (t : Turn). is_quiet t ≡ true) (sym e) (quiet refl).0)))
      (λ (i : IsIn x (z ∷ [])).
      ⊎_elim
      (λ (e : x ≡ z). absurd (false≢true (sym noisy ∙ subst (λ (t : Turn). is_quiet t ≡ true) (sym e) (quiet refl).1)))
      (λ (none : ⊥). absurd none)
      i)
      m

  in_settled : (turns : List Turn) → IsIn x turns → IsIn x (settled turns)
  in_settled [] m = m
  in_settled (y ∷ []) m = m
  in_settled (y ∷ z ∷ []) m = in_pair y z (joins y z) (both_quiet y z) m
  in_settled (y ∷ z ∷ w ∷ rest) m = ⊎_elim (λ (e : x ≡ y). inl e) (λ (i : IsIn x (z ∷ w ∷ rest)). inr (in_settled (z ∷ w ∷ rest) i)) m

  in_from : (history turns : List Turn) → IsIn x history ⊎ IsIn x turns → IsIn x (kept_from history turns)
  in_from history [] m = ⊎_elim (λ (i : IsIn x history). i) (λ (none : ⊥). absurd none) m
  in_from history (turn ∷ turns) m =
      in_from (kept_with history turn) turns
      (⊎_elim
      (λ (i : IsIn x history). inl (IsIn-append_left x (settled history) (turn ∷ []) (in_settled history i)))
      (λ (i : IsIn x (turn ∷ turns)).
      ⊎_elim
      (λ (e : x ≡ turn). inl (IsIn-append_right x (settled history) (turn ∷ []) (inl e)))
      (λ (later : IsIn x turns). inr later)
      i)
      m)

  pub made_is_kept : (turns : List Turn) → IsIn x turns → IsIn x (kept turns)
  made_is_kept turns m = in_from [] turns (inr m)
