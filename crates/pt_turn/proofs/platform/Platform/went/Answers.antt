use Rattle.std.proofs.Common.{◌≡◌, ◌<◌, [], length, sym, ap, subst, ◌∙◌, arith}
use Rattle.pt_semantics.specs.Closing.{on_link}
use Rattle.pt_turn.specs.declared.platform.Platform.TheInside.{Inside}
use Rattle.pt_turn.specs.Gone.{FirstHasGone, last_sent}
use Rattle.pt_turn.specs.Platforms.{PlatformView, view_of}
use Rattle.pt_turn.proofs.Lighter.{Went, has_gone, is_lighter, lighter, went_of}
use Rattle.pt_turn.proofs.platform.Platform.went.Goals as goal

pub unreachable-requires : goal.unreachable-requires
unreachable-requires c =
    let none : on_link c.args.link c.self.inside.progress.fields.outbox.items ≡ [] = c.in_default.ensures.first in
    let empty : length (on_link c.args.link c.args.self.now.outbox) ≡ 0 = ap length (ap (λ (v : PlatformView). on_link c.args.link v.outbox) (sym {A = PlatformView} c.self.view_is) ∙ none) in
    omega (arith, empty, c.requires.waits)

gone : (c : goal.After-send) → Went c.self.inside c.args.link (record { link = c.args.link; message = c.in-Some.message }) c.pop.new.self c.send.new.self
gone c =
    let p : Inside = c.self.inside in
    let begun : 0 < length p.progress.history.turns = subst (λ (v : PlatformView). 0 < length v.turns) (sym {A = PlatformView} c.self.view_is) c.requires.begun in
    let few : length (on_link c.args.link (last_sent p.progress.history.turns)) < 64 = subst (λ (v : PlatformView). length (on_link c.args.link (last_sent v.turns)) < 64) (sym {A = PlatformView} c.self.view_is) c.requires.few in
    went_of p c.args.link c.in-Some.message c.as_slice.result.now c.pop.new.self c.send.new.self c.in-Some.ensures.first c.in-Some.ensures.others c.in-Some.ensures.len c.in-Some.ensures.links c.in-Some.ensures.spare
    c.as_slice.ensures c.send.ensures.turns c.send.ensures.room begun few

pub invariant_of-self : goal.invariant_of-self
invariant_of-self c = is_lighter c.self.inside c.args.link (record { link = c.args.link; message = c.in-Some.message }) c.pop.new.self c.send.new.self c.self.invariant (gone c)

pub returns : goal.returns
returns c =
    subst (λ v. FirstHasGone v (view_of (lighter c.self.inside c.pop.new.self c.send.new.self)) c.args.link) c.self.view_is
    (has_gone c.self.inside c.args.link (record { link = c.args.link; message = c.in-Some.message }) c.pop.new.self c.send.new.self (gone c))
