use Rattle.std.proofs.Common.{◌≡◌, ◌<◌, List, ap, length, arith, sym, subst}
use Rattle.std.proofs.lemmas.Bool.Decides.{nat_tests}
use Rattle.std.proofs.lemmas.Result.{err_from_is_err_and}
use Rattle.fsl_record.proofs.GroupLists.{first_fails, more_fails, read_all}
use Rattle.std.proofs.lemmas.List.{nil_from_length}
use Rattle.fsl_record.specs.declared.Record.{Record}
use Rattle.fsl_record.specs.Groups.{IsGroupOf}
use Rattle.fsl_record.proofs.groups.group.Goals as goal

pub returns-in_err-rest-clause-fault : goal.returns-in_err-rest-clause-fault
returns-in_err-rest-clause-fault c =
    let p = err_from_is_err_and c.from_residual.result c.from_residual.ensures.1 in
    rw (p.1, p.2) (first_fails c.args.version c.args.first c.args.bytes.now c.in_err-rest.field-0.0 c.in_err-rest.ensures.fault)

pub returns-in_err-rest-2-clause-fault : goal.returns-in_err-rest-2-clause-fault
returns-in_err-rest-2-clause-fault c =
    let p = err_from_is_err_and c.from_residual-in_err-rest-2.result c.from_residual-in_err-rest-2.ensures.1 in
    let some : 0 < length c.loop-rest.rest.now = grind (arith, nat_tests, c.is_empty.ensures, c.loop-rest-test.true) in
    rw (p.1, p.2) (more_fails c.args.version c.args.first c.args.bytes.now c.loop-rest.rest.now c.loop-rest.records.items c.in_err-rest-2.field-0.0 c.loop-rest.invariant (λ none. absurd (omega (arith, ap length none, some))) c.in_err-rest-2.ensures.fault)

pub returns-clause-records : goal.returns-clause-records
returns-clause-records c =
    let none : length c.loop-rest.rest.now ≡ 0 = grind (arith, nat_tests, c.is_empty.ensures, c.loop-rest-test.false) in
    subst (λ (rs : List Record). IsGroupOf c.args.version c.args.first c.args.bytes.now rs) (sym c.from_vec.ensures)
    (read_all c.args.version c.args.first c.args.bytes.now c.loop-rest.rest.now c.loop-rest.records.items c.loop-rest.invariant (nil_from_length c.loop-rest.rest.now none))
