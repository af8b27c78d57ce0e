use Rattle.std.proofs.Common.{◌∙◌, is_some, ap}
use Rattle.fsl_order.specs.Names.{bytes_cmp, has}
use Rattle.fsl_table.specs.Contents.{value_at}
use Rattle.fsl_table.proofs.Outcomes.{always_ok}
use Rattle.fsl_leaves.specs.Kept.{AreFlipped, rows_of}
use Rattle.fsl_leaves.proofs.Facts.{same_differs, if_ok}
use Rattle.fsl_leaves.proofs.Reading.{lists_flipped}
use Rattle.fsl_leaves.proofs.rows.put_listed.Goals as goal

pub returns-clause-changed : goal.returns-clause-changed
returns-clause-changed g c =
    let old = rows_of c.args.maps.now in
    let new = rows_of c.put_either.new.maps in
    let start : AreFlipped (λ q. is_some (value_at bytes_cmp q old.leaves.entries)) c.new-changed.result.keys old.leaves.entries =
    λ q. ap (λ ks. has ks q) c.new-changed.ensures.empty ∙ same_differs (is_some (value_at bytes_cmp q old.leaves.entries)) in
    if_ok _ c.listed.result c.put_either.new.changed.keys c.listed.ensures.names
    (lists_flipped old new c.requires.kept c.in_ok-put_either.ensures.kept c.put_either.new.changed.keys c.listed.ensures.rising
    (c.in_ok-put_either.ensures.flips (λ q. is_some (value_at bytes_cmp q old.leaves.entries)) start))

pub returns-clause-entries : goal.returns-clause-entries
returns-clause-entries g c = always_ok c.listed.result c.in_ok-put_either.ensures.entries

pub returns-clause-kept : goal.returns-clause-kept
returns-clause-kept g c = always_ok c.listed.result c.in_ok-put_either.ensures.kept
