use Rattle.std.proofs.Common.{false, sym, ap, ◌∙◌}
use Rattle.std.specs.Option.{option_map_or}
use Rattle.std.specs.Str.{bytes_eq}
use Rattle.fsl_name.specs.Name.{name_text}
use Rattle.fsl_tags.specs.Gathered.{in_set}
use Rattle.fsl_cross.specs.Facts.{ticket_fact_of}
use Rattle.fsl_cross.specs.Inside.{has_ticket}
use Rattle.fsl_cross.proofs.TableLemmas.{put-on}
use Rattle.fsl_cross.proofs.targets.insert_ticket.Goals as goal

pub returns-in-Ticket : goal.returns-in-Ticket
returns-in-Ticket c =
    put-on c.insert.result (in_set c.args.set.now) (in_set c.insert.new.set) (has_ticket c.args.item.now) (name_text c.in-Ticket.ticket.id) (λ q. ap (λ a. option_map_or (λ f. bytes_eq (name_text f.id) q) (ticket_fact_of c.args.item.now.name a) false) (sym c.in-Ticket.is ∙ c.artifact.ensures)) c.insert.ensures
