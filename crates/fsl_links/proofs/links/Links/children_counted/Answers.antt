use Rattle.std.proofs.Common.{◌∙◌, ap}
use Rattle.std.proofs.lemmas.Result.{IfOk-weaker}
use Rattle.fsl_links.specs.Kept.{rows_of}
use Rattle.fsl_links.specs.Links.{children}
use Rattle.fsl_links.proofs.Reading.{seconds-children}
use Rattle.fsl_links.proofs.links.Links.children_counted.Goals as goal

pub returns : goal.returns
returns g c =
    IfOk-weaker c.seconds.result _ _ (λ l e. e ∙ seconds-children (rows_of c.self.inside.maps) c.args.name c.self.invariant ∙ ap (λ h. children h.facts c.args.name) c.self.view_is) c.seconds.ensures.seconds
