use Rattle.std.proofs.Common.{rules, ◌≡◌, ◌<◌, ℕ, List, [], Option, Some, get_or, length, slice_get, sym, ap, subst, ◌∙◌, arith}
use Rattle.std.proofs.lemmas.Option.{slice_get-get_or}
use Rattle.std.proofs.lemmas.Slice.Eq.{slice_eq-Decides}
use Rattle.std.specs.Prelude.{option_map, unwrap_or}
use Rattle.pt_types.specs.declared.graph.Link.{Link}
use Rattle.pt_types.specs.Lookups.{platform_of}
use Rattle.pt_semantics.specs.Linked.{all_sent, all_taken}
use Rattle.pt_semantics.proofs.LawfulEdges.{wired}
use Rattle.pt_semantics.proofs.Lookups.{same_some}
use Rattle.pt_turn.specs.All.{histories_of}
use Rattle.pt_turn.specs.Platforms.{PlatformView}
use Rattle.pt_audit.proofs.linking.is_linked.Goals as goal

-- the history of a platform by its number
history : (platforms : List PlatformView) (i : ℕ) (v : PlatformView) → i < length platforms → v ≡ get_or platforms i v → histories_of platforms i ≡ v.turns
history platforms i v lt is =
    ap (λ (o : Option PlatformView). unwrap_or (option_map (λ (z : PlatformView). z.turns) o) []) (slice_get-get_or platforms i v lt ∙ ap Some (sym is))

pub bounds-platforms-from : goal.bounds-platforms-from
bounds-platforms-from c =
    let home : platform_of c.args.graph.now c.args.link.now.from < length c.args.graph.now.platforms = (wired c.args.graph.now c.requires.lawful).homes c.args.link.now.from in
    omega (arith, home, c.platform_of-from.ensures, c.requires.all)

pub bounds-platforms-to : goal.bounds-platforms-to
bounds-platforms-to c =
    let home : platform_of c.args.graph.now c.args.link.now.to < length c.args.graph.now.platforms = (wired c.args.graph.now c.requires.lawful).homes c.args.link.now.to in
    omega (arith, home, c.platform_of-to.ensures, c.requires.all)

pub returns : goal.returns
returns c =
    let from_home : platform_of c.args.graph.now c.args.link.now.from < length c.args.graph.now.platforms = (wired c.args.graph.now c.requires.lawful).homes c.args.link.now.from in
    let to_home : platform_of c.args.graph.now c.args.link.now.to < length c.args.graph.now.platforms = (wired c.args.graph.now c.requires.lawful).homes c.args.link.now.to in
    let from_lt : c.platform_of-from.result < length c.args.platforms.now = omega (arith, from_home, c.platform_of-from.ensures, c.requires.all) in
    let to_lt : c.platform_of-to.result < length c.args.platforms.now = omega (arith, to_home, c.platform_of-to.ensures, c.requires.all) in
    let from : histories_of c.args.platforms.now (platform_of c.args.graph.now c.args.link.now.from) ≡ c.index-platforms-from.result.turns =
    ap (histories_of c.args.platforms.now) (sym c.platform_of-from.ensures) ∙ history c.args.platforms.now c.platform_of-from.result c.index-platforms-from.result from_lt c.index-platforms-from.is in
    let to : histories_of c.args.platforms.now (platform_of c.args.graph.now c.args.link.now.to) ≡ c.index-platforms-to.result.turns =
    ap (histories_of c.args.platforms.now) (sym c.platform_of-to.ensures) ∙ history c.args.platforms.now c.platform_of-to.result c.index-platforms-to.result to_lt c.index-platforms-to.is in
    let sent : c.as_slice.result.now ≡ all_sent c.args.number (histories_of c.args.platforms.now (platform_of c.args.graph.now c.args.link.now.from)) =
    c.as_slice.ensures.value ∙ c.in_ok-sent.ensures ∙ ap (all_sent c.args.number) (c.history.ensures.turns ∙ sym from) in
    let taken : c.as_slice-2.result.now ≡ all_taken c.args.number (histories_of c.args.platforms.now (platform_of c.args.graph.now c.args.link.now.to)) =
    c.as_slice-2.ensures.value ∙ c.in_ok-taken.ensures ∙ ap (all_taken c.args.number) (c.history-2.ensures.turns ∙ sym to) in
    let decides = slice_eq-Decides (λ a b. search rules) c.as_slice.result.now c.as_slice-2.result.now c.eq.result c.eq.ensures in
    let the_link : (l : Link) → slice_get c.args.graph.now.links c.args.number ≡ Some l → c.args.link.now ≡ l = λ l at. same_some c.args.link.now l (sym c.requires.link ∙ at) in (
      λ e l at.
          let P : Link → Type 0 = λ z. all_sent c.args.number (histories_of c.args.platforms.now (platform_of c.args.graph.now z.from)) ≡ all_taken c.args.number (histories_of c.args.platforms.now (platform_of c.args.graph.now z.to)) in
          subst P (the_link l at) (sym sent ∙ decides.0 e ∙ taken),
      λ h. decides.1 (sent ∙ h c.args.link.now c.requires.link ∙ sym taken),
    )
