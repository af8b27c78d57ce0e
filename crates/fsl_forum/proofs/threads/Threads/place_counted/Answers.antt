use Rattle.std.proofs.Common.{◌∙◌, sym, ap}
use Rattle.std.specs.Prelude.{option_and_then}
use Rattle.fsl_forum.specs.Held.{fact_of, facts_of}
use Rattle.fsl_forum.specs.Kept.{place_by}
use Rattle.fsl_forum.specs.Threads.{end, place}
use Rattle.fsl_forum.proofs.Stepping.{place-is}
use Rattle.fsl_forum.proofs.threads.Threads.place_counted.Goals as goal

pub returns-in-Some : goal.returns-in-Some
returns-in-Some g c =
    let es = c.self.inside.maps.posts.held.entries in
    let name = c.args.name in
    c.place.ensures ∙ ap (λ e. place_by e (fact_of (name, c.in-Some.node.now))) (c.end_of.ensures ∙ c.self.invariant.ends name)
    ∙ ap (option_and_then (λ n. place_by (end (facts_of es) name) (fact_of (name, n)))) c.in-Some.ensures.value ∙ sym (place-is es name) ∙ ap (λ h. place h.facts name) c.self.view_is

pub returns : goal.returns
returns g c =
    let es = c.self.inside.maps.posts.held.entries in
    let name = c.args.name in
    ap (option_and_then (λ n. place_by (end (facts_of es) name) (fact_of (name, n)))) c.in-None.ensures.value ∙ sym (place-is es name) ∙ ap (λ h. place h.facts name) c.self.view_is
