use Rattle.std.proofs.Common.{◌∙◌, sym}
use Rattle.fsl_order.specs.Names.{bytes_cmp}
use Rattle.fsl_uv.specs.Cards.{hashed}
use Rattle.fsl_uv.proofs.HashOrder.{none-first, none-last}
use Rattle.fsl_uv.proofs.version.hash_order.Goals as goal

pub returns-in-None-Some : goal.returns-in-None-Some
returns-in-None-Some c =
    sym ((λ i. bytes_cmp (hashed (c.in-None-Some.is-0 i)) (hashed (c.in-None-Some.is-1 i))) ∙ none-first c.in-None-Some.name c.bytes.ensures.named)

pub returns-in-Some-None : goal.returns-in-Some-None
returns-in-Some-None c =
    sym ((λ i. bytes_cmp (hashed (c.in-Some-None.is-0 i)) (hashed (c.in-Some-None.is-1 i))) ∙ none-last c.in-Some-None.name c.bytes-in-Some-None.ensures.named)
