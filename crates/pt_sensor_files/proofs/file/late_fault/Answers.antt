use Rattle.std.proofs.Common.{refl, sym, subst, pos}
use Rattle.pt_types.specs.declared.rows.Row.{Row}
use Rattle.pt_sensor_files.specs.Recorded.{IsLateRow}
use Rattle.pt_sensor_files.proofs.Lateness.{late_found}
use Rattle.pt_sensor_files.proofs.file.late_fault.Goals as goal

abbrev no_row : Row
no_row = record { time = 0; seen = 0; value = pos 0 }

pub limit-requires : goal.limit-requires
limit-requires c =
    (late_found c.args.rows.now c.args.bound c.args.until c.in_ok-number.number no_row (sym c.in_ok-number.ensures)).past

pub returns-clause-some : goal.returns-clause-some
returns-clause-some c =
    let found = late_found c.args.rows.now c.args.bound c.args.until c.in_ok-number.number no_row (sym c.in_ok-number.ensures) in
    (refl, subst (IsLateRow c.args.rows.now c.args.until c.args.bound c.in_ok-number.number _) (sym c.limit.ensures) found)
