use Rattle.std.proofs.Common.{◌≡◌, ◌++◌, ℕ, List, [], Some, None, sym, ap, ap₂, subst, ◌∙◌, Ok, Err}
use Rattle.std.specs.Prelude.{OnOk, Result}
use Rattle.pt_tags.specs.declared.message.Message.{Message}
use Rattle.pt_types.specs.declared.graph.Graph.{Graph}
use Rattle.pt_types.specs.declared.firing.OnLink.{OnLink}
use Rattle.pt_turn.specs.Posts.Posted.{AreDone}
use Rattle.pt_offsets.specs.Plans.{Parts}
use Rattle.pt_turn.specs.Platforms.{PlatformView, level_at, state_at}
use Rattle.pt_turn.specs.Turned.{MayCome}
use Rattle.pt_visits.specs.Pipes.{arriving, emptied}
use Rattle.pt_visits.proofs.Visits.{MakesTurn, is_visited, nothing_sent, rested_visit, without_room}
use Rattle.pt_visits.proofs.visiting.visit_knowing.Goals as goal

-- what is true of each of two results that come with a value
both_ok : {T E P Q R : Type 0} (r : Result T E) → (P → Q → R) → OnOk r P → OnOk r Q → OnOk r R
both_ok (Ok x) f p q = f p q
both_ok (Err x) f p q = tt

-- what is true anyway is true of a result with a value
always : {T E P : Type 0} (r : Result T E) → P → OnOk r P
always (Ok x) p = p
always (Err x) p = tt

arrived : (g h : Graph) (i j : ℕ) (pipes : List (List Message)) (before messages now : List OnLink) → messages ≡ now → now ≡ before ++ arriving g i 0 pipes → before ≡ [] → g ≡ h → i ≡ j → messages ≡ arriving h j 0 pipes
arrived g h i j pipes before messages now is taken none graph number = is ∙ taken ∙ ap (λ (ms : List OnLink). ms ++ arriving g i 0 pipes) none ∙ ap₂ (λ (a : Graph) (k : ℕ). arriving a k 0 pipes) graph number

pub turn-requires-clause-taken : goal.turn-requires-clause-taken
turn-requires-clause-taken g c =
    let room : c.room.new.self ≡ record c.args.platform.now { room = Some (record { reading = c.args.reading; done = c.len.result; taken = c.len-2.result; most = c.args.most }) } = c.in_ok-room.ensures.room ∙ ap (λ (v : PlatformView). record v { room = Some (record { reading = c.args.reading; done = c.len.result; taken = c.len-2.result; most = c.args.most }) }) (c.in_ok-rested.ensures.awake c.if-rested.false) in
    let graph : c.graph-graph.result.now ≡ c.args.platform.now.plan.graph = c.graph-graph.ensures.value ∙ ap (λ (p : Parts). p.graph) (c.deref.ensures ∙ c.plan.ensures) in
    let messages : c.as_slice-4.result.now ≡ arriving c.args.platform.now.plan.graph c.args.platform.now.number 0 c.args.pipes.now = arrived c.graph-graph.result.now c.args.platform.now.plan.graph c.number.result c.args.platform.now.number c.args.pipes.now c.clear.new.self.items c.as_slice-4.result.now c.take_all.new.taken.items c.as_slice-4.ensures.value c.in_ok-take_all.ensures.taken c.clear.ensures.items graph c.number.ensures in
    subst (λ (v : PlatformView). MayCome v.plan.graph (level_at v) v.number (state_at v) c.as_slice-4.result.now) (sym room)
    (subst (MayCome c.args.platform.now.plan.graph (level_at c.args.platform.now) c.args.platform.now.number (state_at c.args.platform.now)) (sym messages) c.requires.taken)

pub push_all-requires-clause-nothing_sent : goal.push_all-requires-clause-nothing_sent
push_all-requires-clause-nothing_sent g c =
    let room : c.room.new.self ≡ record c.args.platform.now { room = Some (record { reading = c.args.reading; done = c.len.result; taken = c.len-2.result; most = c.args.most }) } = c.in_ok-room.ensures.room ∙ ap (λ (v : PlatformView). record v { room = Some (record { reading = c.args.reading; done = c.len.result; taken = c.len-2.result; most = c.args.most }) }) (c.in_ok-rested.ensures.awake c.if-rested.false) in
    let no_fault : c.room.new.self.fault ≡ None = ap (λ (v : PlatformView). v.fault) room ∙ c.requires.no_fault in
    let made = (c.turn.ensures.turned no_fault).0 in
    nothing_sent c.room.new.self.turns c.turn.new.self.turns made.turn made.turns made.at.3

pub push_all-requires-clause-none : goal.push_all-requires-clause-none
push_all-requires-clause-none g c = c.in_ok-take_all.ensures.none

pub returns : goal.returns
returns g c =
    let room : c.room.new.self ≡ record c.args.platform.now { room = Some (record { reading = c.args.reading; done = c.len.result; taken = c.len-2.result; most = c.args.most }) } = c.in_ok-room.ensures.room ∙ ap (λ (v : PlatformView). record v { room = Some (record { reading = c.args.reading; done = c.len.result; taken = c.len-2.result; most = c.args.most }) }) (c.in_ok-rested.ensures.awake c.if-rested.false) in
    let no_fault : c.room.new.self.fault ≡ None = ap (λ (v : PlatformView). v.fault) room ∙ c.requires.no_fault in
    let graph : c.graph-graph.result.now ≡ c.args.platform.now.plan.graph = c.graph-graph.ensures.value ∙ ap (λ (p : Parts). p.graph) (c.deref.ensures ∙ c.plan.ensures) in
    let messages : c.as_slice-4.result.now ≡ arriving c.args.platform.now.plan.graph c.args.platform.now.number 0 c.args.pipes.now = arrived c.graph-graph.result.now c.args.platform.now.plan.graph c.number.result c.args.platform.now.number c.args.pipes.now c.clear.new.self.items c.as_slice-4.result.now c.take_all.new.taken.items c.as_slice-4.ensures.value c.in_ok-take_all.ensures.taken c.clear.ensures.items graph c.number.ensures in
    let turned : MakesTurn c.args.most c.args.platform.now c.turn.new.self c.args.reading c.as_slice-3.result.now c.as_slice-4.result.now c.renew.new.self.tasks c.turn.new.tasks.tasks =
    without_room c.args.most c.args.platform.now c.turn.new.self (Some (record { reading = c.args.reading; done = c.len.result; taken = c.len-2.result; most = c.args.most })) c.args.reading c.as_slice-3.result.now c.as_slice-4.result.now c.renew.new.self.tasks c.turn.new.tasks.tasks
    (subst (λ (v : PlatformView). MakesTurn c.args.most v c.turn.new.self c.args.reading c.as_slice-3.result.now c.as_slice-4.result.now c.renew.new.self.tasks c.turn.new.tasks.tasks) room (c.turn.ensures.turned no_fault)) in
    let handed : c.renew.new.self.tasks ≡ [] = c.renew.ensures.tasks in
    let between : c.take_all.new.pipes ≡ emptied c.args.platform.now.plan.graph c.args.platform.now.number 0 c.args.pipes.now = c.in_ok-take_all.ensures.pipes ∙ ap₂ (λ (a : Graph) (k : ℕ). emptied a k 0 c.args.pipes.now) graph c.number.ensures in
    let graph_now : c.graph.result.now ≡ c.push_all.new.platform.plan.graph = c.graph.ensures.value ∙ ap (λ (p : Parts). p.graph) (c.deref-2.ensures ∙ c.plan-2.ensures) in
    record {
      visited = both_ok c.fire_all.result
          (λ fired done. is_visited c.args.most c.args.reading c.args.results.now.items c.as_slice-3.result.now c.fire_all.new.results.items c.args.platform.now c.turn.new.self c.push_all.new.platform c.args.pipes.now c.take_all.new.pipes c.push_all.new.pipes c.as_slice-4.result.now c.renew.new.self.tasks c.turn.new.tasks.tasks
          turned c.as_slice-3.ensures.value messages handed c.push_all.ensures.pushed between (fired ∙ c.as_slice-5.ensures) (subst (λ (a : Graph). AreDone a c.fire_all.new.results.items) graph_now done))
          c.fire_all.ensures.tasks c.fire_all.ensures.done;
      none = always c.fire_all.result c.push_all.ensures.none;
    }

pub returns-then-rested : goal.returns-then-rested
returns-then-rested g c =
    let graph : c.graph-graph.result.now ≡ c.args.platform.now.plan.graph = c.graph-graph.ensures.value ∙ ap (λ (p : Parts). p.graph) (c.deref.ensures ∙ c.plan.ensures) in
    let messages : c.as_slice-2.result.now ≡ arriving c.args.platform.now.plan.graph c.args.platform.now.number 0 c.args.pipes.now = arrived c.graph-graph.result.now c.args.platform.now.plan.graph c.number.result c.args.platform.now.number c.args.pipes.now c.clear.new.self.items c.as_slice-2.result.now c.take_all.new.taken.items c.as_slice-2.ensures.value c.in_ok-take_all.ensures.taken c.clear.ensures.items graph c.number.ensures in
    let between : c.take_all.new.pipes ≡ emptied c.args.platform.now.plan.graph c.args.platform.now.number 0 c.args.pipes.now = c.in_ok-take_all.ensures.pipes ∙ ap₂ (λ (a : Graph) (k : ℕ). emptied a k 0 c.args.pipes.now) graph c.number.ensures in
    let rested = c.in_ok-rested.ensures.rested c.if-rested.true in
    record { visited = rested_visit c.args.most c.args.reading c.args.results.now.items c.args.platform.now c.rests.new.platform c.args.pipes.now c.take_all.new.pipes c.as_slice-2.result.now (sym c.as_slice.ensures.value ∙ rested.0) rested.1 messages between rested.2; none = c.in_ok-take_all.ensures.none }
