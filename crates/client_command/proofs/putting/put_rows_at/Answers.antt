use Rattle.std.proofs.Common.{sym}
use Rattle.std.specs.Option.{option_map}
use Rattle.std.proofs.lemmas.Result.{err_from_is_err_and}
use Rattle.header_types.specs.Views.{schema_of}
use Rattle.client_command.proofs.Put.{in_vain, not_made, taken}
use Rattle.client_command.proofs.putting.put_rows_at.Goals as goal

pub returns-in-Err : goal.returns-in-Err
returns-in-Err g c =
    not_made c.args.address c.args.table.now c.args.id (option_map (λ s. schema_of s.now) c.args.schema) c.args.text.now c.in-Err.fault c.of_rows.result (g.C.Connect.log c.args.connect.now)
    (g.O.Write.contents c.args.out.now) c.in-Err.ensures.none c.of_rows.ensures

pub returns : goal.returns
returns g c =
    let made = c.in-Ok.ensures.made in
    taken c.args.address c.args.table.now c.args.id (option_map (λ s. schema_of s.now) c.args.schema) c.args.text.now made.0 made.2 (g.C.Connect.log c.args.connect.now)
    (g.C.Connect.log c.put_at.new.connect) (g.O.Write.contents c.args.out.now) (g.O.Write.contents c.tell_put.new.out) c.in_ok-version.version c.tell_put.result c.tell_put.ensures.fault
    (c.in_ok-version.ensures made.0 made.2.valid (sym made.1)) c.tell_put.ensures.written

pub returns-in_err-version : goal.returns-in_err-version
returns-in_err-version g c =
    let p = err_from_is_err_and c.from_residual.result c.from_residual.ensures.1 in
    rw (p.1, p.2)
    (let made = c.in-Ok.ensures.made in
    in_vain c.args.address c.args.table.now c.args.id (option_map (λ s. schema_of s.now) c.args.schema) c.args.text.now made.0 made.2 (g.C.Connect.log c.args.connect.now)
    (g.C.Connect.log c.put_at.new.connect) (g.O.Write.contents c.args.out.now) c.in_err-version.field-0.0 (c.in_err-version.ensures made.0 made.2.valid (sym made.1)))
