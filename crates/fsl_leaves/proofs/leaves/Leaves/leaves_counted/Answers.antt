use Rattle.std.proofs.Common.{◌∙◌, ap}
use Rattle.std.proofs.lemmas.Result.{IfOk-weaker}
use Rattle.std.specs.Map.{keys_of}
use Rattle.fsl_leaves.specs.Kept.{rows_of}
use Rattle.fsl_leaves.specs.Leaves.{leaves}
use Rattle.fsl_leaves.proofs.Reading.{leaves_are}
use Rattle.fsl_leaves.proofs.leaves.Leaves.leaves_counted.Goals as goal

pub returns : goal.returns
returns g c =
    IfOk-weaker c.keys.result _ _ (λ l e. e ∙ ap (λ t. keys_of t.entries) c.map.ensures ∙ leaves_are (rows_of c.self.inside.maps) c.self.invariant ∙ ap (λ h. leaves h.facts) c.self.view_is) c.keys.ensures.keys
