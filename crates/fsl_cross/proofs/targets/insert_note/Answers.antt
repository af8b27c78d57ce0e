use Rattle.std.proofs.Common.{false, sym, ap, ◌∙◌}
use Rattle.std.specs.Prelude.{option_and_then}
use Rattle.std.specs.Option.{option_map_or}
use Rattle.std.specs.Str.{bytes_eq}
use Rattle.fsl_name.specs.Name.{name_text}
use Rattle.fsl_tags.specs.Gathered.{in_set}
use Rattle.fsl_wiki.specs.Pages.{as_note}
use Rattle.fsl_cross.specs.Facts.{pages_fact_of}
use Rattle.fsl_cross.specs.Inside.{has_note}
use Rattle.fsl_cross.proofs.TableLemmas.{put-on}
use Rattle.fsl_cross.proofs.targets.insert_note.Goals as goal

pub returns-in-Technote : goal.returns-in-Technote
returns-in-Technote c =
    put-on c.insert.result (in_set c.args.set.now) (in_set c.insert.new.set) (has_note c.args.item.now) (name_text c.in-Technote.note.id) (λ q. ap (λ a. option_map_or (λ n. bytes_eq (name_text n.id) q) (option_and_then as_note (pages_fact_of c.args.item.now.name a)) false) (sym c.in-Technote.is ∙ c.artifact.ensures)) c.insert.ensures
