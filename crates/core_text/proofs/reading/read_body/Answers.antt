use Rattle.core_text.proofs.CommonWords.{rules, ◌≡◌, Some, version_read}
use Rattle.core_text.proofs.Bodies.{err_kept, is_body, no_body, no_fields, no_table, on_body}
use Rattle.core_text.proofs.reading.read_body.Goals as goal

pub returns-in_err-fields-clause-err : goal.returns-in_err-fields-clause-err
returns-in_err-fields-clause-err g c =
    let first : version_read c.args.text.now ≡ Some (c.in_ok-version.version, c.in_ok-version.rest.now) =
    search rules in
    err_kept c.from_residual-in_err-fields.result c.in_err-fields.field-0.0 _ c.from_residual-in_err-fields.ensures.1
    (on_body c.args.text.now (no_fields c.in_ok-version.version c.args.text.now c.in_ok-version.rest.now first)
    c.in_err-fields.field-0.0 c.in_err-fields.ensures.err)

pub returns-in_err-table-clause-err : goal.returns-in_err-table-clause-err
returns-in_err-table-clause-err g c =
    let first : version_read c.args.text.now ≡ Some (c.in_ok-version.version, c.in_ok-version.rest.now) =
    search rules in
    err_kept c.from_residual-in_err-table.result c.in_err-table.field-0.0 _ c.from_residual-in_err-table.ensures.1
    (on_body c.args.text.now
    (no_table c.in_ok-version.version c.args.text.now c.in_ok-version.rest.now c.in_ok-fields.rest.now
    c.in_ok-fields.fields first c.in_ok-fields.ensures.ok) c.in_err-table.field-0.0 c.in_err-table.ensures.err)

pub returns-in_err-records-clause-err : goal.returns-in_err-records-clause-err
returns-in_err-records-clause-err g c =
    let first : version_read c.args.text.now ≡ Some (c.in_ok-version.version, c.in_ok-version.rest.now) =
    search rules in
    err_kept _ c.in_err-records.field-0.0 _ c.from_residual-in_err-records.ensures.1
    (on_body c.args.text.now (no_body c.in_ok-version.version c.args.text.now c.in_ok-version.rest.now
    c.in_ok-fields.rest.now c.in_ok-table.rest.now c.in_ok-fields.fields c.in_ok-table.table first
    c.in_ok-fields.ensures.ok c.in_ok-table.ensures.ok) c.in_err-records.field-0.0 c.in_err-records.ensures.err)

pub returns-clause-ok : goal.returns-clause-ok
returns-clause-ok g c =
    let first : version_read c.args.text.now ≡ Some (c.in_ok-version.version, c.in_ok-version.rest.now) =
    search rules in
    is_body c.in_ok-version.version c.args.text.now c.in_ok-version.rest.now c.in_ok-fields.rest.now
    c.in_ok-table.rest.now c.in_ok-fields.fields c.in_ok-table.table c.in_ok-records.records.items first
    c.in_ok-fields.ensures.ok c.in_ok-table.ensures.ok c.in_ok-records.ensures.ok
