use Rattle.std.proofs.Common.{◌≡◌, ◌↔◌, true, [], length, sym, ap, subst, ◌∙◌, eq-eqb, eqb-true}
use Rattle.std.proofs.lemmas.Bool.{false≢true}
use Rattle.pt_types.specs.declared.graph.Graph.{Graph}
use Rattle.pt_semantics.specs.Closing.{on_link}
use Rattle.pt_semantics.specs.Linked.{IsFinished}
use Rattle.pt_offsets.specs.Plans.{Parts}
use Rattle.pt_turn.specs.declared.platform.Platform.TheInside.{Inside}
use Rattle.pt_turn.specs.Finished.{HaveEnded}
use Rattle.pt_turn.specs.Platforms.{PlatformView, messages_of, platform_graph, state_at}
use Rattle.pt_turn.proofs.Ends.{flags_tell, no_members, no_messages}
use Rattle.pt_turn.proofs.platform.Platform.finished.Goals as goal

pub returns-then-not-is_empty : goal.returns-then-not-is_empty
returns-then-not-is_empty c =
    let p : Inside = c.self.inside in (
      λ e. absurd (false≢true e),
      λ is.
          let none : c.args.self.now.outbox ≡ [] = no_messages c.args.self.now.outbox is.all_went in
          let empty : length p.progress.fields.outbox.items ≡ 0 = ap length (ap (λ (v : PlatformView). v.outbox) c.self.view_is ∙ none) in
          absurd (false≢true (sym c.if-not-is_empty.true ∙ (c.is_empty.ensures ∙ eq-eqb (length p.progress.fields.outbox.items) 0 empty))),
    )

pub returns : goal.returns
returns c =
    let p : Inside = c.self.inside in
    let len : length p.progress.fields.outbox.items ≡ 0 = eqb-true (length p.progress.fields.outbox.items) 0 (sym c.is_empty.ensures ∙ c.if-not-is_empty.false) in
    let empty : p.progress.fields.outbox.items ≡ [] = no_members p.progress.fields.outbox.items len in
    let graph : c.graph.result.now ≡ platform_graph p = c.graph.ensures.value ∙ ap (λ (plan : Parts). plan.graph) c.deref.ensures in
    let ended : (c.have_ended.result ≡ true) ↔ HaveEnded (platform_graph p) p.number p.progress.ended = subst (λ (g : Graph). (c.have_ended.result ≡ true) ↔ HaveEnded g p.number p.progress.ended) graph c.have_ended.ensures in
    let taken = flags_tell (platform_graph p) p.number p.progress.ended (messages_of p.progress.history.turns) c.self.invariant.ended in
    subst (λ (v : PlatformView). (c.have_ended.result ≡ true) ↔ IsFinished v.plan.graph v.number (state_at v)) c.self.view_is
    (λ e. record { closed = c.if-not-self.false; all_went = λ l. ap (on_link l) empty; ends = taken.0 (ended.0 e) }, λ is. ended.1 (taken.1 is.ends))

pub have_ended-requires : goal.have_ended-requires
have_ended-requires c =
    let p : Inside = c.self.inside in
    let graph : c.graph.result.now ≡ platform_graph p = c.graph.ensures.value ∙ ap (λ (plan : Parts). plan.graph) c.deref.ensures in
    c.self.invariant.ended.len ∙ ap (λ (g : Graph). length g.links) (sym graph)
