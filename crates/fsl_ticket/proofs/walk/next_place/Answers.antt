use Rattle.std.proofs.Common.{◌∙◌, ap}
use Rattle.fsl_order.specs.Names.{bytes_cmp}
use Rattle.fsl_table.specs.Contents.{first_of}
use Rattle.fsl_table.specs.Within.{within, above}
use Rattle.fsl_table.proofs.Walk.{from}
use Rattle.fsl_ticket.specs.Newest.{newest_cmp}
use Rattle.fsl_ticket.proofs.Going.{goes_on}
use Rattle.fsl_ticket.proofs.walk.next_place.Goals as goal

pub returns : goal.returns
returns g c =
    let spots = c.args.spots.now.held.entries in
    ap (λ o. from newest_cmp o (within bytes_cmp c.args.id spots)) (c.next_within.ensures.next ∙ (λ i. first_of (above newest_cmp (c.key.ensures i).second (within bytes_cmp (c.key.ensures i).first (c.map.ensures i).entries))))
    ∙ goes_on c.args.id c.args.place spots c.requires
