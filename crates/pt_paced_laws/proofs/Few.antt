-- How many claims a platform makes, and how many messages a link carries.
use Rattle.std.proofs.Common.{◌≡◌, ℕ, suc, ◌+◌, ◌≤◌, Bool, true, false, List, [], ◌∷◌, ◌++◌, Option, Some, None, ℤ, filter_map, length, slice_get, arith, refl, sym, ap, subst, ◌∙◌, length-append}
use Rattle.std.specs.List.{cons_option}
use Rattle.pt_types.specs.declared.graph.Graph.{Graph}
use Rattle.pt_types.specs.declared.graph.Link.{Link}
use Rattle.pt_types.specs.declared.graph.Unit.{Unit}
use Rattle.pt_tags.specs.declared.message.Message.{Message}
use Rattle.pt_tags.specs.declared.message.Message.TheVariants.{End}
use Rattle.pt_tags.specs.declared.tag.Tag.{Tag}
use Rattle.pt_types.specs.declared.rows.Row.{Row}
use Rattle.pt_types.specs.Ports.{at_port}
use Rattle.pt_semantics.specs.Behaviours.{Firing}
use Rattle.pt_types.specs.Lookups.{platform_of}
use Rattle.pt_semantics.specs.History.{LegalOnTime, claims_of, of_unit}
use Rattle.pt_semantics.specs.Linked.{all_sent, all_taken}
use Rattle.pt_semantics.specs.Offsets.{HasOffset, IsFeasible}
use Rattle.pt_semantics.specs.Platform.{State, opened}
use Rattle.pt_semantics.specs.Posting.{as_message}
use Rattle.pt_semantics.specs.Ranks.{AreLevels}
use Rattle.pt_semantics.specs.Rows.{FitRows}
use Rattle.pt_semantics.specs.Turn.{Turn}
use Rattle.pt_semantics.specs.Units.{at_output}
use Rattle.pt_semantics.specs.Visits.{RunState}
use Rattle.pt_semantics.specs.Wired.{IsWired}
use Rattle.pt_semantics.proofs.Longest.{levels_grow}
use Rattle.pt_laws.proofs.Keeps.{open_list}
use Rattle.pt_laws.proofs.Onward.{Onward}
use Rattle.pt_laws.proofs.Steps.{messages_of}
use Rattle.pt_laws.proofs.Walks.{Whole, on_time_history}
use Rattle.pt_paced_laws.proofs.Turns.{turn_does}

filtered : {X Y : Type 0} (f : X → Option Y) (xs : List X) → length (filter_map f xs) ≤ length xs
filtered f [] = omega arith
filtered f (x ∷ xs) =
    let rest = filtered f xs in
    let here = one (f x) (filter_map f xs) in
    omega (arith, rest, here)
  where
    one : {Y : Type 0} (o : Option Y) (ys : List Y) → length (cons_option o ys) ≤ suc (length ys)
    one None ys = omega arith
    one (Some y) ys = omega arith

-- a unit has no more firings than its platform made claims
firings_few : (g : Graph) (level : ℕ → ℕ) (i : ℕ) (turns : List Turn) (s new : State) (u : Unit) → LegalOnTime g level i s turns new → length (claims_of g turns u) + s.claims ≤ new.claims
firings_few g level i [] s new u e = let h : new.claims ≡ s.claims = ap (λ (z : State). z.claims) e in omega (arith, h)
firings_few g level i (turn ∷ turns) s new u (mid, is, rest) =
    let later = firings_few g level i turns mid new u rest in
    let here = filtered (of_unit g u) turn.claimed in
    let does = turn_does g level i s mid turn false is in
    let claims : mid.claims ≡ length turn.claimed + s.claims = does.claims in
    let sum = length-append (filter_map (of_unit g u) turn.claimed) (claims_of g turns u) in
    omega (arith, later, here, claims, sum)

pub claims_few : (g : Graph) (level : ℕ → ℕ) (i : ℕ) (turns : List Turn) (s new : State) → s.claims ≤ g.claims → LegalOnTime g level i s turns new → new.claims ≤ g.claims
claims_few g level i [] s new few e = subst (λ (z : State). z.claims ≤ g.claims) (sym e) few
claims_few g level i (turn ∷ turns) s new few (mid, is, rest) = claims_few g level i turns mid new (turn_does g level i s mid turn false is).few rest

messages_few : (xs : List Firing) → length (messages_of xs) ≤ length xs
messages_few [] = omega arith
messages_few (x ∷ xs) =
    let rest = messages_few xs in
    let here = one x.tag (at_port x.outputs 0) in
    let sum = length-append (as_message x.tag (at_port x.outputs 0)) (messages_of xs) in
    omega (arith, rest, here, sum)
  where
    one : (t : Tag) (o : Option ℤ) → length (as_message t o) ≤ 1
    one t None = omega arith
    one t (Some v) = omega arith

-- a link carries a message for each claim of its sender's platform, and the end: so in any history
pub history_sends_few : (g : Graph) (level : ℕ → ℕ) (rows : ℕ → List Row) → IsWired g → AreLevels g level → FitRows g rows → (l : ℕ) (link : Link) → slice_get g.links l ≡ Some link → (turns : List Turn) (s : State) →
    LegalOnTime g level (platform_of g link.from) (opened g (platform_of g link.from) rows) turns s → length (all_sent l turns) ≤ (g.claims + 1)
history_sends_few g level rows wired are fits l link at turns s legal = by_closed s.closed refl
  where
    whole : Whole g level (platform_of g link.from) rows s s.reading (claims_of g turns) (λ k. all_sent k turns) (λ k. all_taken k turns)
    whole = on_time_history g level (platform_of g link.from) rows wired (levels_grow g level are) fits turns s legal

    front : (a b : List Message) (n : ℕ) → length (a ++ b) ≤ n → length a ≤ n
    front a b n le = let sum = length-append a b in omega (arith, sum, le)

    few : length (messages_of (whole.keeps.q (at_output g link.from 0))) ≤ g.claims
    few =
        let sum = ap length (whole.keeps.chains.open_is (at_output g link.from 0)) ∙ length-append (whole.keeps.q (at_output g link.from 0)) (open_list g (s.busy (at_output g link.from 0))) in
        let claimed : length (claims_of g turns (at_output g link.from 0)) + 0 ≤ s.claims = firings_few g level (platform_of g link.from) turns (opened g (platform_of g link.from) rows) s (at_output g link.from 0) legal in
        let all = claims_few g level (platform_of g link.from) turns (opened g (platform_of g link.from) rows) s (omega arith) legal in
        let each = messages_few (whole.keeps.q (at_output g link.from 0)) in
        omega (arith, sum, claimed, all, each)

    by_closed : (b : Bool) → s.closed ≡ b → length (all_sent l turns) ≤ (g.claims + 1)
    by_closed false is =
        front (all_sent l turns) (s.outbox l) (g.claims + 1)
        (subst (λ z. length z ≤ (g.claims + 1)) (sym (whole.keeps.out.while_open is l link at refl)) (omega (arith, few)))
    by_closed true is =
        let sum = length-append (messages_of (whole.keeps.q (at_output g link.from 0))) (End ∷ []) in
        front (all_sent l turns) (s.outbox l) (g.claims + 1)
        (subst (λ z. length z ≤ (g.claims + 1)) (sym (whole.keeps.out.once_shut is l link at refl)) (omega (arith, few, sum)))

module _ (g : Graph) (level : ℕ → ℕ) (rows : ℕ → List Row) (offset : Unit → Option ℤ) (wired : IsWired g) (are : AreLevels g level) (fits : FitRows g rows) (feasible : IsFeasible g) (has : (u : Unit) → HasOffset g u (offset u)) where
  -- and so it is in a paced run
  pub sent_few : (c : ℕ) (y : RunState) (l : ℕ) (link : Link) → Onward g level rows offset c y → slice_get g.links l ≡ Some link → length (all_sent l (y.did (platform_of g link.from))) ≤ (g.claims + 1)
  sent_few c y l link h at = history_sends_few g level rows wired are fits l link at (y.did (platform_of g link.from)) (y.at (platform_of g link.from)) (h.legal (platform_of g link.from) (wired.homes link.from))

  -- and no more are taken
  pub taken_few : (c : ℕ) (y : RunState) (l : ℕ) (link : Link) → Onward g level rows offset c y → slice_get g.links l ≡ Some link → length (all_taken l (y.did (platform_of g link.to))) ≤ (g.claims + 1)
  taken_few c y l link h at =
      let sent = sent_few c y l link h at in
      let sum = ap length (h.linked l link at) ∙ length-append (all_taken l (y.did (platform_of g link.to))) (y.on_way l) in
      omega (arith, sent, sum)
