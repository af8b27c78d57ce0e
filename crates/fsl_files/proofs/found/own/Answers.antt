use Rattle.std.proofs.Common.{◌∙◌, ap, []}
use Rattle.fsl_files.specs.declared.Listing.TheVariants as listing
use Rattle.fsl_files.specs.Files.{overlay}
use Rattle.fsl_files.proofs.Fitting.{own_files}
use Rattle.fsl_files.proofs.found.own.Goals as goal

pub returns-clause-listing : goal.returns-clause-listing
returns-clause-listing c =
    ap listing.Known (c.new.ensures.files ∙ ap (overlay []) c.items-files.ensures ∙ own_files c.args.entry.now c.requires.fit c.requires.own)
