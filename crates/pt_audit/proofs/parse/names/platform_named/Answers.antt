use Rattle.std.proofs.Common.{ap, sym, ◌∙◌, subst, bytes_eq, true, ◌≡◌, Some, arith}
use Rattle.pt_audit.proofs.Parsing.Namesakes.{platform_found}
use Rattle.pt_audit.proofs.parse.names.platform_named.Goals as goal

pub returns-then-eq : goal.returns-then-eq
returns-then-eq c p known e =
    let items = c.as_slice-platform-items.result.now in
    let text = c.as_bytes.ensures.value ∙ c.as_str.ensures in
    let same : bytes_eq c.platform-item.result c.args.name.now ≡ true = subst (λ xs. bytes_eq xs c.args.name.now ≡ true) text (sym c.eq.ensures ∙ c.if-eq.true) in
    ap Some (platform_found c.args.graph.now items c.loop-number.number p c.platform-item.result c.args.name.now c.requires.lawful c.as_slice-platform-items.ensures (omega arith) c.platform-item.is same known e)
