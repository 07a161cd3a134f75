use Rattle.std.proofs.Common.{◌≡◌, ◌<◌, ◌≤◌, ◌^◌, List, None, ap, arith, length, subst, sym, ◌∙◌}
use Rattle.std.specs.Prelude.{◌↔◌}
use Rattle.std.specs.List.{All}
use Rattle.pt_types.specs.declared.air.Air.{Air}
use Rattle.pt_air.specs.declared.row.AirRow.{AirRow}
use Rattle.pt_air.specs.AirOf.{air_with}
use Rattle.pt_semantics.specs.RecordedTimes.{KeepsBounds}
use Rattle.pt_sensors.proofs.FewRows.{few_rows}
use Rattle.pt_air.proofs.Given.{rows_of-rows}
use Rattle.pt_air.proofs.Keeping.{breach-None}
use Rattle.pt_air.proofs.Sizes.{lags_len, small_lags, small_transits, transits_len}
use Rattle.pt_air.proofs.reader.read_air.Goals as goal

pub air_with-requires : goal.air_with-requires
air_with-requires c =
    let rows = rows_of-rows c.args.graph.now c.args.bytes.now c.in_ok-rows.rows c.in_ok-rows.ensures in
    let limit = few_rows c.args.graph.now.claims c.requires in
    subst (λ (rows : List AirRow). length rows < 2 ^ 32) (sym c.as_slice.ensures) (omega (arith, rows.few, limit))

pub returns-clause-lengths : goal.returns-clause-lengths
returns-clause-lengths c =
    let e = c.in_ok-air.ensures ∙ ap (air_with c.args.graph.now) c.as_slice.ensures in (
      ap (λ (air : Air). length air.lags) e ∙ lags_len c.args.graph.now c.in_ok-rows.rows,
      ap (λ (air : Air). length air.transits) e ∙ transits_len c.args.graph.now c.in_ok-rows.rows,
    )

pub returns-clause-numbers : goal.returns-clause-numbers
returns-clause-numbers c =
    let e = c.in_ok-air.ensures ∙ ap (air_with c.args.graph.now) c.as_slice.ensures in
    let rows = rows_of-rows c.args.graph.now c.args.bytes.now c.in_ok-rows.rows c.in_ok-rows.ensures in
    subst (λ (air : Air). All (λ n. n ≤ 1000000000000000) air.lags × All (All (λ n. n ≤ 1000000000000000)) air.transits) (sym e)
    (small_lags c.args.graph.now c.in_ok-rows.rows rows.each, small_transits c.args.graph.now c.in_ok-rows.rows rows.each)

pub returns-clause-bounds : goal.returns-clause-bounds
returns-clause-bounds c =
    let e = c.in_ok-air.ensures ∙ ap (air_with c.args.graph.now) c.as_slice.ensures in
    subst (λ (air : Air). (air.breach ≡ None) ↔ KeepsBounds c.args.graph.now air) (sym e) (breach-None c.args.graph.now c.in_ok-rows.rows)
