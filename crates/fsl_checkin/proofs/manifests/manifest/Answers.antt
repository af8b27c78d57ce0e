use Rattle.std.proofs.Common.{List, subst, sym, ap, ◌∙◌}
use Rattle.std.specs.Prelude.{IsTrue}
use Rattle.fsl_manifest.specs.declared.Manifest.{Manifest}
use Rattle.fsl_manifest.specs.Manifests.{is_well_formed}
use Rattle.fsl_checkin.specs.declared.types.TreeItem.{TreeItem}
use Rattle.fsl_checkin.specs.Checkins.{checkin_of}
use Rattle.fsl_checkin.proofs.CheckinLemmas.{can_be_written}
use Rattle.fsl_checkin.proofs.manifests.manifest.Goals as goal

pub write-requires : goal.write-requires
write-requires c =
    let well = can_be_written c.args.items.now c.args.parent c.args.user.now c.args.comment.now c.args.moment c.requires.user c.requires.comment c.requires.good c.requires.rising in
    let is = c.in_ok-checkin.ensures ∙ ap (λ (l : List TreeItem). checkin_of l c.args.parent c.args.user.now c.args.comment.now c.args.moment) c.items.ensures in
    subst (λ (m : Manifest). IsTrue (is_well_formed m)) (sym is) well
