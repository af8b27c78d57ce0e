use Rattle.std.proofs.Common.{◌∙◌, ap, sym, true, false}
use Rattle.fsl_links.specs.Links.{primary}
use Rattle.fsl_links.specs.Kept.{leader}
use Rattle.fsl_links.proofs.Reading.{leader-there, primary-is}
use Rattle.fsl_links.proofs.links.Links.primary_counted.Goals as goal

pub returns-in-None : goal.returns-in-None
returns-in-None g c =
    let es = c.self.inside.maps.facts.held.entries in
    sym (ap (λ h. primary h.facts c.args.name) (sym c.self.view_is) ∙ primary-is es c.args.name ∙ ap (leader es) (sym c.first_parent.ensures.parent ∙ c.in-None.is))

pub returns-then-is_there : goal.returns-then-is_there
returns-then-is_there g c =
    let es = c.self.inside.maps.facts.held.entries in
    sym (ap (λ h. primary h.facts c.args.name) (sym c.self.view_is) ∙ primary-is es c.args.name ∙ ap (leader es) (sym c.first_parent.ensures.parent ∙ c.in-Some.is)
    ∙ leader-there es c.in-Some.first true (sym c.is_there.ensures.there ∙ c.if-is_there.true))

pub returns : goal.returns
returns g c =
    let es = c.self.inside.maps.facts.held.entries in
    sym (ap (λ h. primary h.facts c.args.name) (sym c.self.view_is) ∙ primary-is es c.args.name ∙ ap (leader es) (sym c.first_parent.ensures.parent ∙ c.in-Some.is)
    ∙ leader-there es c.in-Some.first false (sym c.is_there.ensures.there ∙ c.if-is_there.false))
