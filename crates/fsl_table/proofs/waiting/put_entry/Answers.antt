use Rattle.std.proofs.Common.{◌≡◌, arith, Some}
use Rattle.std.specs.BTreeMap.{is_at}
use Rattle.fsl_table.specs.Weave.{place}
use Rattle.fsl_table.proofs.Places.{place_some}
use Rattle.fsl_table.proofs.Keeping.{kept-set_place}
use Rattle.fsl_table.proofs.Putting.{put-replaced}
use Rattle.fsl_table.proofs.waiting.put_entry.Goals as goal

pub replace_at-before-requires : goal.replace_at-before-requires
replace_at-before-requires g c =
    let p : place (is_at (g.K.Ord.cmp c.args.key)) c.args.waiting.now.items ≡ Some c.in-Some.at = cc in
    let within = (place_some (is_at (g.K.Ord.cmp c.args.key)) c.args.waiting.now.items c.in-Some.at p).within in
    grind (arith, within)

pub returns-in-Some-clause-kept : goal.returns-in-Some-clause-kept
returns-in-Some-clause-kept g c =
    let p : place (is_at (g.K.Ord.cmp c.args.key)) c.args.waiting.now.items ≡ Some c.in-Some.at = cc in
    let d : g.row.K.Denot × g.row.V.Denot = (c.args.key, c.replace_at-before.result) in
    rw c.replace_at-before.ensures.room (kept-set_place g.met.K.Ord.total c.args.key c.args.value c.args.waiting.now.items c.replace_at-before.new.waiting.items c.args.tree.now.entries _ c.in-Some.at d p (c.replace_at-before.ensures.items d) c.requires)

pub returns-in-Some-clause-put : goal.returns-in-Some-clause-put
returns-in-Some-clause-put g c =
    let p : place (is_at (g.K.Ord.cmp c.args.key)) c.args.waiting.now.items ≡ Some c.in-Some.at = cc in
    let d : g.row.K.Denot × g.row.V.Denot = (c.args.key, c.replace_at-before.result) in
    put-replaced g.met.K.Ord.total c.args.key c.args.value c.replace_at-before.result c.args.waiting.now.items c.replace_at-before.new.waiting.items c.args.tree.now.entries _ _ c.in-Some.at d p (c.replace_at-before.ensures.items d) (c.replace_at-before.ensures.before d) c.replace_at-before.ensures.room
