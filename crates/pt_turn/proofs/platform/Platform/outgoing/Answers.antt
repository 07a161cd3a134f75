use Rattle.std.proofs.Common.{ap, ◌∙◌}
use Rattle.std.specs.Prelude.{slice_get}
use Rattle.pt_semantics.specs.Closing.{on_link}
use Rattle.pt_turn.specs.Platforms.{PlatformView}
use Rattle.pt_turn.proofs.platform.Platform.outgoing.Goals as goal

pub returns : goal.returns
returns c = c.first.ensures ∙ ap (λ (v : PlatformView). slice_get (on_link c.args.link v.outbox) 0) c.self.view_is
