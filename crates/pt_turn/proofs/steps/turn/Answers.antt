use Rattle.std.proofs.Common.{◌≡◌, ◌+◌, ◌≤◌, ◌++◌, ℕ, List, Some, length, refl, sym, ap, subst, ◌∙◌, arith, vec_len, vec_capacity}
use Rattle.pt_types.specs.declared.graph.Graph.{Graph}
use Rattle.pt_types.specs.declared.firing.OnLink.{OnLink}
use Rattle.pt_semantics.proofs.LawfulEdges.{wired}
use Rattle.pt_semantics.specs.Closing.{Closes, on_link}
use Rattle.pt_semantics.specs.Entering.{after_rows, all_due}
use Rattle.pt_semantics.specs.Posting.{Posts}
use Rattle.pt_semantics.specs.Paced.{IsClosing}
use Rattle.pt_semantics.specs.Taking.{Takes}
use Rattle.pt_semantics.specs.Wired.{IsWired}
use Rattle.pt_offsets.specs.Plans.{AreOffsets}
use Rattle.pt_turn.specs.declared.state.fields.Fields.{Fields}
use Rattle.pt_turn.specs.Fields.State.{IsSound, busy_in, left_in, state_of}
use Rattle.pt_turn.specs.Posts.Posted.{ArePosted, picked}
use Rattle.pt_turn.specs.Takes.Taken.{Arrive, NeverTakes}
use Rattle.pt_turn.specs.declared.claim_step.TurnEnd.{TurnEnd}
use Rattle.pt_turn.specs.declared.steps.Lists.{Lists}
use Rattle.pt_turn.specs.Claiming.{HasClaimed}
use Rattle.pt_turn.specs.Steps.{HasRoom, IsFront, IsGround, IsMade, NoneSeenBefore}
use Rattle.pt_turn.proofs.Joining.{AreSteps, claims_part, is_made, late_is, never_posts, shows_end}
use Rattle.pt_causality.specs.Branches.{AreBranches}
use Rattle.pt_turn.proofs.steps.turn.Goals as goal

pub posts-requires-clause-wired : goal.posts-requires-clause-wired
posts-requires-clause-wired g c = subst IsWired (sym c.graph-graph.ensures.value) (wired c.args.setup.now.plan.now.graph c.graph-graph.ensures.admitted.lawful)

pub posts-requires-clause-never : goal.posts-requires-clause-never
posts-requires-clause-never g c =
    let goes_on : IsGround c.graph-graph.result.now g.basis c.args.fields.now = subst (λ gr. IsGround gr g.basis c.args.fields.now) (sym c.graph-graph.ensures.value) c.requires.1.1.0 in
    λ taken. never_posts c.graph-graph.result.now (state_of c.args.fields.now g.basis.taken) (λ l. on_link l taken) goes_on.never.posts

pub enter_from-requires-clause-never : goal.enter_from-requires-clause-never
enter_from-requires-clause-never g c =
    let goes_on : IsGround c.graph-graph.result.now g.basis c.args.fields.now = subst (λ gr. IsGround gr g.basis c.args.fields.now) (sym c.graph-graph.ensures.value) c.requires.1.1.0 in
    λ taken. goes_on.never.rows c.posts.ensures.posted.posted (state_of c.posts.new.fields g.basis.taken) c.args.reading (c.posts.ensures.posted.posts g.basis.taken)

pub enter_from-requires-clause-offsets : goal.enter_from-requires-clause-offsets
enter_from-requires-clause-offsets g c =
    let own : AreOffsets c.args.setup.now.plan.now.graph c.offsets-offsets.result.now = subst (AreOffsets c.args.setup.now.plan.now.graph) (sym c.offsets-offsets.ensures.value) c.offsets-offsets.ensures.admitted.offsets in
    subst (λ z. AreOffsets z c.offsets-offsets.result.now) (sym c.graph-graph.ensures.value) own

pub enter_from-requires-clause-events : goal.enter_from-requires-clause-events
enter_from-requires-clause-events g c =
    let room : HasRoom c.graph-graph.result.now c.args.fields.now c.args.lists.now c.args.reading (length c.args.dones.now) (length c.args.messages.now) c.args.most = subst (λ gr. HasRoom gr c.args.fields.now c.args.lists.now c.args.reading (length c.args.dones.now) (length c.args.messages.now) c.args.most) (sym c.graph-graph.ensures.value) c.requires.1.1.1.1.1.1.1.1.1.1.0 in
    let due : length (all_due c.graph-graph.result.now c.args.reading (left_in c.posts.new.fields.sensors.items)) ≡ length (all_due c.graph-graph.result.now c.args.reading (left_in c.args.fields.now.sensors.items)) = ap (λ v. length (all_due c.graph-graph.result.now c.args.reading (left_in v.items))) c.posts.ensures.frame.0 in
    omega (arith, due, c.posts.ensures.events, room.events)

pub takes-late-requires : goal.takes-late-requires
takes-late-requires g c =
    let gr : Graph = c.graph-graph.result.now in
    let value : gr ≡ c.args.setup.now.plan.now.graph = c.graph-graph.ensures.value in
    let goes_on : IsGround gr g.basis c.args.fields.now = subst (λ z. IsGround z g.basis c.args.fields.now) (sym value) c.requires.1.1.0 in
    let rises : (p : ℕ) → c.args.fields.now.reading ≡ Some p → p ≤ c.args.reading = c.requires.1.1.1.1.1.0 in
    let room : HasRoom gr c.args.fields.now c.args.lists.now c.args.reading (length c.args.dones.now) (length c.args.messages.now) c.args.most = subst (λ z. HasRoom z c.args.fields.now c.args.lists.now c.args.reading (length c.args.dones.now) (length c.args.messages.now) c.args.most) (sym value) c.requires.1.1.1.1.1.1.1.1.1.1.0 in
    let never : NeverTakes gr g.basis (state_of c.enter_from.new.fields g.basis.taken) = subst (NeverTakes gr g.basis) (sym (c.enter_from.ensures.entered g.basis.taken))
    (λ ms got l link m takes at orderly on. goes_on.never.messages c.posts.ensures.posted.posted (state_of c.posts.new.fields g.basis.taken) c.args.reading ms got l link m (c.posts.ensures.posted.posts g.basis.taken) rises takes at orderly on) in
    let due : length (all_due gr c.args.reading (left_in c.posts.new.fields.sensors.items)) ≡ length (all_due gr c.args.reading (left_in c.args.fields.now.sensors.items)) = ap (λ v. length (all_due gr c.args.reading (left_in v.items))) c.posts.ensures.frame.0 in
    let events : length c.args.messages.now ≤ c.enter_from.new.fields.queue.spare = omega (arith, due, c.posts.ensures.events, c.enter_from.ensures.events, room.events) in
    let kept : vec_len c.args.lists.now.taken + length c.args.messages.now ≤ vec_capacity c.args.lists.now.taken = room.taken in
    let offsets : AreOffsets gr c.offsets-offsets.result.now = subst (λ z. AreOffsets z c.offsets-offsets.result.now) (sym value) (subst (AreOffsets c.args.setup.now.plan.now.graph) (sym c.offsets-offsets.ensures.value) c.offsets-offsets.ensures.admitted.offsets) in
    let is_wired : IsWired gr = subst IsWired (sym value) (wired c.args.setup.now.plan.now.graph c.graph-graph.ensures.admitted.lawful) in
    let arrive : Arrive gr g.basis c.args.messages.now = subst (λ z. Arrive z g.basis c.args.messages.now) (sym value) c.requires.1.1.1.1.1.1.1.0 in
    (c.enter_from.ensures.sound, (is_wired, (offsets, (arrive, (never, (events, kept))))))

pub claim_unless-ending-requires-clause-sound : goal.claim_unless-ending-requires-clause-sound
claim_unless-ending-requires-clause-sound g c =
    let is : IsSound c.args.setup.now.plan.now.graph c.takes-late.new.fields = subst (λ z. IsSound z c.takes-late.new.fields) c.graph-graph.ensures.value c.takes-late.ensures.sound in
    record { groups = is.groups; states = is.states; open_claims = is.open_claims; links = is.links; at_units = is.at_units; none_safe = is.none_safe }

pub close-requires-clause-closing : goal.close-requires-clause-closing
close-requires-clause-closing g c = subst (λ z. IsClosing z c.args.setup.now.number c.args.setup.now.closing) (sym c.graph-graph.ensures.value) c.requires.1.1.1.1.0

pub returns-clause-made : goal.returns-clause-made
returns-clause-made g c =
    let gr : Graph = c.graph-graph.result.now in
    let value : gr ≡ c.args.setup.now.plan.now.graph = c.graph-graph.ensures.value in
    let empty = c.requires.1.1.1.1.1.1.1.1.1.1.1.0 in
    let most = c.requires.1.1.1.1.1.1.1.1.0 in
    let few : c.args.fields.now.claims ≤ gr.claims = subst (λ (z : Graph). c.args.fields.now.claims ≤ z.claims) (sym value) c.requires.1.1.1.1.1.1.1.1.1.0 in
    let rises : (p : ℕ) → c.args.fields.now.reading ≡ Some p → p ≤ c.args.reading = c.requires.1.1.1.1.1.0 in
    let number : g.basis.platform ≡ c.args.setup.now.number = c.requires.1.1.1.0 in
    let took = c.takes-late.ensures.took in
    let all : List OnLink = g.basis.taken ++ c.takes-late.new.kept.items in
    let before : Fields = record c.takes-late.new.fields { reading = Some c.args.reading } in
    let after : Fields = c.claim_unless-ending.new.fields in
    let ending : TurnEnd = c.claim_unless-ending.result in
    let lists : Lists = record { posted = c.posts.new.kept; rows = c.enter_from.new.kept; taken = c.takes-late.new.kept; claimed = c.claim_unless-ending.new.tasks } in
    let same : before.claims ≡ c.args.fields.now.claims = c.takes-late.ensures.frame.6 ∙ c.enter_from.ensures.frame.5 ∙ c.posts.ensures.frame.3 in
    let claimed : HasClaimed gr c.args.reading c.args.most before after c.args.lists.now.claimed.items lists.claimed.items c.takes-late.result ending = subst (λ z. HasClaimed z c.args.reading c.args.most before after c.args.lists.now.claimed.items lists.claimed.items c.takes-late.result ending) (sym value) c.claim_unless-ending.ensures.claimed in
    let posted : picked c.args.dones.now lists.posted.items ≡ c.posts.ensures.posted.posted = c.posts.ensures.posted.appended ∙ ap (λ xs. picked c.args.dones.now xs ++ c.posts.ensures.posted.posted) empty.posted in
    let taken : lists.taken.items ≡ took.taken = took.appended ∙ ap (λ xs. xs ++ took.taken) empty.taken in
    let steps : AreSteps gr g.basis c.args.reading c.args.most c.args.dones.now c.args.messages.now c.args.fields.now before after c.close.new.fields lists c.takes-late.result ending = record {
      rises = rises;
      posted = state_of c.posts.new.fields g.basis.taken;
      posts = subst (λ ps. Posts gr (state_of c.args.fields.now g.basis.taken) ps (state_of c.posts.new.fields g.basis.taken)) (sym posted) (c.posts.ensures.posted.posts g.basis.taken);
      are = subst (ArePosted gr (busy_in c.args.fields.now.open_claims.items) c.args.dones.now) (sym posted) c.posts.ensures.posted.are;
      rows = c.enter_from.ensures.rows ∙ ap (λ xs. xs ++ all_due gr c.args.reading (left_in c.posts.new.fields.sensors.items)) empty.rows ∙ ap (λ v. all_due gr c.args.reading (left_in v.items)) c.posts.ensures.frame.0;
      got = state_of c.takes-late.new.fields all;
      takes = subst (λ ts. Takes gr g.basis.level g.basis.platform (after_rows (state_of c.posts.new.fields g.basis.taken) c.args.reading) ts c.takes-late.result (state_of c.takes-late.new.fields (g.basis.taken ++ ts))) (sym taken)
          (subst (λ z. Takes gr g.basis.level g.basis.platform z took.taken c.takes-late.result (state_of c.takes-late.new.fields (g.basis.taken ++ took.taken))) (c.enter_from.ensures.entered g.basis.taken) took.takes);
      front = subst (λ ts. IsFront c.args.messages.now ts c.takes-late.result) (sym taken) (record { rest = took.rest; front = took.front; all = took.all });
      reading = refl;
      count = same;
      is_late = late_is gr c.args.reading before after c.takes-late.result ending claimed.ends;
      ends = claimed.ends;
      claims = claims_part gr before after c.args.reading c.args.most all c.args.lists.now.claimed.items lists.claimed.items c.takes-late.result ending empty.claimed most.0 (subst (λ n. n ≤ gr.claims) (sym same) few) claimed;
      closes = subst (λ i. Closes gr i (state_of after all) c.args.reading c.takes-late.result (state_of c.close.new.fields all)) (sym number) (c.close.ensures.closes all);
    } in
    subst (λ z. IsMade z g.basis c.args.reading c.args.most c.args.dones.now c.args.messages.now c.args.fields.now c.close.new.fields lists ending) value
    (is_made gr g.basis c.args.reading c.args.most c.args.dones.now c.args.messages.now c.args.fields.now before after c.close.new.fields lists c.takes-late.result ending most.1 steps)

pub returns-clause-full : goal.returns-clause-full
returns-clause-full g c =
    let claimed = c.claim_unless-ending.ensures.claimed in
    shows_end c.args.setup.now.plan.now.graph c.args.reading (record c.takes-late.new.fields { reading = Some c.args.reading }) c.claim_unless-ending.new.fields c.close.new.fields c.takes-late.result c.claim_unless-ending.result
    c.close.ensures.frame.5 c.close.ensures.frame.0 c.close.ensures.frame.1 (λ on. let k = (claimed.claimed on).count in omega (arith, k)) claimed.ends

pub posts-requires-clause-branches : goal.posts-requires-clause-branches
posts-requires-clause-branches g c = subst (λ gr. AreBranches gr c.branches.result.now) (sym c.graph-graph.ensures.value) c.branches.ensures

pub enter_from-requires-clause-next_row : goal.enter_from-requires-clause-next_row
enter_from-requires-clause-next_row g c = subst (λ v. NoneSeenBefore c.args.next_row.now (left_in v.items)) (sym c.posts.ensures.frame.0) c.requires.1.1.1.1.1.1.1.1.1.1.1.1

pub returns-clause-next_row : goal.returns-clause-next_row
returns-clause-next_row g c =
    subst (λ v. NoneSeenBefore c.enter_from.new.next_row (left_in v.items)) (sym (c.close.ensures.frame.3 ∙ c.claim_unless-ending.ensures.others.sensors ∙ c.takes-late.ensures.frame.2)) c.enter_from.ensures.next_row
