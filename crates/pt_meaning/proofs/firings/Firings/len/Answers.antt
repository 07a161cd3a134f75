use Rattle.std.proofs.Common.{◌≡◌, ◌∙◌, sym, ap, length, rules}
use Rattle.pt_meaning.proofs.Lists.{length_firings}
use Rattle.pt_meaning.proofs.firings.Firings.len.Goals as goal

pub returns : goal.returns
returns c =
    let f = c.self.inside in
    let counted : c.len.result ≡ length c.self.inside.marks.items = search rules in
    counted ∙ sym (length_firings f.tags.items f.places.items f.values.items 0 f.marks.items) ∙ ap length c.self.view_is
