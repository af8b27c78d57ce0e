use Rattle.std.proofs.Common.{◌∙◌, Some, sym, ap}
use Rattle.std.specs.Option.{option_map}
use Rattle.fsl_wiki.specs.Pages as table
use Rattle.fsl_wiki.specs.Kept.{before_all, top, rows_of}
use Rattle.fsl_wiki.proofs.Latest.{note_is}
use Rattle.fsl_wiki.proofs.pages.Pages.note_counted.Goals as goal

pub returns-in-None : goal.returns-in-None
returns-in-None g c =
    let r = rows_of c.self.inside.maps in
    ap (option_map (λ p. p.1)) (sym c.in-None.is ∙ c.current-late.ensures ∙ ap (λ g. top r.spots.entries (Some (before_all g))) c.note.ensures)
    ∙ note_is r c.self.invariant c.args.id
    ∙ ap (λ h. table.note h.facts c.args.id) c.self.view_is

pub returns : goal.returns
returns g c =
    let r = rows_of c.self.inside.maps in
    ap Some c.name.ensures
    ∙ ap (option_map (λ p. p.1)) (sym c.in-Some.is ∙ c.current-late.ensures ∙ ap (λ g. top r.spots.entries (Some (before_all g))) c.note.ensures)
    ∙ note_is r c.self.invariant c.args.id
    ∙ ap (λ h. table.note h.facts c.args.id) c.self.view_is
