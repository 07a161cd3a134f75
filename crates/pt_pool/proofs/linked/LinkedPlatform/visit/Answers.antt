use Rattle.std.proofs.Common.{◌≡◌, ℕ, ◌++◌, List, None, true, length, take, drop, sym, ap, subst, ◌∙◌}
use Rattle.std.proofs.lemmas.List.{length-map}
use Rattle.pt_pool.specs.Ends.{end_in, end_out}
use Rattle.pt_links.specs.Ends.{SentBy, TakenBy}
use Rattle.pt_pool.specs.Answers.{LinkedRefused}
use Rattle.pt_pool.specs.LinkedPlatform.{IsOfRun, LinkedPlatformView, WasVisited}
use Rattle.pt_pool.proofs.Answering.{back, refused_is, view}
use Rattle.pt_pool.proofs.Keeping.{kept_visited}
use Rattle.pt_pool.proofs.linked.LinkedPlatform.visit.Goals as goal

pub returns-in_default-clause-answer : goal.returns-in_default-clause-answer
returns-in_default-clause-answer g c =
    let s = c.self.inside in
    let old : LinkedPlatformView = view s.platform (g.C.Clock.readings s.clock) s.outlets.items s.inlets.items s.marked in
    let readings = g.C.Clock.readings c.read-reading.new.self in
    let q = c.visit_platform.new.platform in
    let outs = c.visit_platform.new.outlets in
    let ins = c.visit_platform.new.inlets in
    let r = c.in_default.ensures.refused in
    let o : outs ≡ s.outlets.items = r.1 ∙ c.as_mut_slice.ensures.value in
    let i : ins ≡ s.inlets.items = r.2 ∙ c.as_mut_slice-2.ensures.value in
    let eo : take s.outlets.len (outs ++ drop (length outs) s.outlets.items) ≡ s.outlets.items = back s.outlets.len outs s.outlets.items (s.outlets.ok.0 ∙ sym (ap length o)) ∙ o in
    let ei : take s.inlets.len (ins ++ drop (length ins) s.inlets.items) ≡ s.inlets.items = back s.inlets.len ins s.inlets.items (s.inlets.ok.0 ∙ sym (ap length i)) ∙ i in
    subst (λ (v : LinkedPlatformView). LinkedRefused v (view q readings (take s.outlets.len (outs ++ drop (length outs) s.outlets.items)) (take s.inlets.len (ins ++ drop (length ins) s.inlets.items)) true) c.args.tasks.now.tasks c.visit_platform.new.tasks.tasks) c.self.view_is
    (refused_is old c.read-reading.result readings q (take s.outlets.len (outs ++ drop (length outs) s.outlets.items)) (take s.inlets.len (ins ++ drop (length ins) s.inlets.items)) c.args.tasks.now.tasks c.visit_platform.new.tasks.tasks c.read-reading.ensures.readings r.0 eo ei r.3)

pub invariant_of-self-2 : goal.invariant_of-self-2
invariant_of-self-2 g c =
    let s = c.self.inside in
    let J = g.J.Run in
    let readings = g.C.Clock.readings s.clock in
    let after = g.C.Clock.readings c.read-reading.new.self in
    let q = c.visit_platform.new.platform in
    let outs = c.visit_platform.new.outlets in
    let ins = c.visit_platform.new.inlets in
    let tasks = c.visit_platform.new.tasks.tasks in
    let none : s.platform.fault ≡ None = ap (λ (v : LinkedPlatformView). v.platform.fault) c.self.view_is ∙ c.requires.no_fault in
    let w : WasVisited c.read-reading.result c.args.most c.args.done.now s.platform q s.outlets.items outs s.inlets.items ins c.args.tasks.now.tasks tasks =
    subst (λ (xs : List (ℕ × TakenBy)). WasVisited c.read-reading.result c.args.most c.args.done.now s.platform q s.outlets.items outs xs ins c.args.tasks.now.tasks tasks) c.as_mut_slice-2.ensures.value
    (subst (λ (xs : List (ℕ × SentBy)). WasVisited c.read-reading.result c.args.most c.args.done.now s.platform q xs outs c.as_mut_slice-2.result.now ins c.args.tasks.now.tasks tasks) c.as_mut_slice.ensures.value c.in-Ok.ensures.visited) in
    let same : length outs ≡ length s.outlets.items = sym (length-map outs end_out) ∙ ap length w.put.put.ends ∙ length-map s.outlets.items end_out in
    let same' : length ins ≡ length s.inlets.items = sym (length-map ins end_in) ∙ ap length w.took.ends ∙ length-map s.inlets.items end_in in
    let kept = kept_visited J.plan J.rows J.link J.began J.fixed c.read-reading.result c.args.most c.args.done.now (g.C.Clock.ahead s.clock) (g.C.Clock.ahead c.read-reading.new.self) readings after s.platform q s.outlets.items outs s.inlets.items ins c.args.tasks.now.tasks tasks s.marked c.self.invariant none c.show_running.ensures.read
    c.read-reading.ensures.ahead c.read-reading.ensures.readings c.read-reading.ensures.as_ahead w in
    subst (λ (xs : List (ℕ × TakenBy)). IsOfRun J.plan J.rows J.link (J.began q.number) (J.fixed q.number) (g.C.Clock.ahead c.read-reading.new.self) after q (take s.outlets.len (outs ++ drop (length outs) s.outlets.items)) xs s.marked) (sym (back s.inlets.len ins s.inlets.items (s.inlets.ok.0 ∙ sym same')))
    (subst (λ (xs : List (ℕ × SentBy)). IsOfRun J.plan J.rows J.link (J.began q.number) (J.fixed q.number) (g.C.Clock.ahead c.read-reading.new.self) after q xs ins s.marked) (sym (back s.outlets.len outs s.outlets.items (s.outlets.ok.0 ∙ sym same))) kept)
