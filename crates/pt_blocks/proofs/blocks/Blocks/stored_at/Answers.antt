-- A stored function has the law of its block.
use Rattle.std.proofs.Common.{◌∙◌, ap, sym, option_map}
use Rattle.std.proofs.lemmas.Option.{slice_get-map}
use Rattle.std.specs.List.{slice_get}
use Rattle.pt_blocks.proofs.Found.{found_at}
use Rattle.pt_blocks.proofs.blocks.Blocks.stored_at.Goals as goal

pub returns : goal.returns
returns g c = record {
  law = found_at _ (λ f. f.now) (λ s. s.law) c.as_slice.result.now c.args.number c.get.result c.get.ensures.lookup.1 c.get.ensures.lookup.3
      ∙ ap (λ functions. option_map (λ s. s.law) (slice_get functions c.args.number)) c.as_slice.ensures.value
      ∙ sym (slice_get-map (λ s. s.law) c.args.self.now.stored.items c.args.number) ∙ ap (λ laws. slice_get laws c.args.number) c.args.self.now.laws ∙ slice_get-map (λ b. b.law) c.args.self.now.listed.items c.args.number;
}
