use Rattle.std.proofs.Common.{length, ap, sym, ◌++◌, ◌∷◌, [], ◌∙◌}
use Rattle.pt_history.specs.Indices.{RoomyIndices}
use Rattle.pt_history.proofs.Blocks.{length-indices}
use Rattle.pt_history.proofs.indices.Indices.len.Goals as goal

pub returns : goal.returns
returns c = sym (length-indices (c.self.inside.blocks.items ++ c.self.inside.newest ∷ []) 0 c.self.inside.count) ∙ ap (λ (v : RoomyIndices). length v.indices) c.self.view_is
