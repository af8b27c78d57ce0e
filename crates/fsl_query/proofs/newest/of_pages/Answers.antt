use Rattle.std.proofs.Common.{[], ◌++◌, Option, take, sym, ap, subst, ◌∙◌, append-nil}
use Rattle.std.specs.Prelude.{filter_map, option_map}
use Rattle.std.specs.List.{cons_option}
use Rattle.fsl_order.specs.Maps.{value_at}
use Rattle.fsl_wiki.specs.declared.Fact as pages_of
use Rattle.fsl_wiki.specs.Pages.{as_page}
use Rattle.fsl_query.specs.Gathering.{Takes}
use Rattle.fsl_query.specs.Listings.{dated_page, newest, versions}
use Rattle.fsl_query.proofs.ListingLemmas.{no_version}
use Rattle.fsl_query.proofs.NewestLemmas.{Dated, taken}
use Rattle.fsl_query.proofs.NoteLemmas.{given_front}
use Rattle.fsl_query.proofs.newest.of_pages.Goals as goal
use Rattle.fsl_query.proofs.newest.of_pages.Goals.{in-Page+in_ok-put, in_default}

pub loop-fact-preserved : goal.loop-fact-preserved
loop-fact-preserved c q =
    let facts = c.args.facts.now in
    let i = c.loop-fact.fact-index in
    let f = c.fact-item.result in
    let h : pages_of.Fact → Option Dated = λ x. option_map dated_page (as_page x) in
    let more = given_front h facts i f c.loop-fact-test.true c.fact-item.is in
    elim c.match-fact.branch [
      | in-Page+in_ok-put w ↦
          (λ j. value_at (w.found-is j).entries q)
          ∙ taken (versions (take i facts)) (dated_page w.in-Page.page) c.loop-fact.found.entries w.put.new.newest.entries c.loop-fact.invariant
          (subst (λ k. Takes c.loop-fact.found.entries w.put.new.newest.entries (k, (w.in-Page.page.date, w.in-Page.page.name))) w.bytes.ensures w.in_ok-put.ensures) q
          ∙ ap (λ l. newest l q) (sym (more ∙ ap (λ (o : Option Dated). filter_map h (take i facts) ++ cons_option o []) (ap h w.in-Page.is)))
      | in_default w ↦
          (λ j. value_at (w.found-is j).entries q) ∙ c.loop-fact.invariant q
          ∙ ap (λ l. newest l q) (sym (more ∙ ap (λ (o : Option Dated). filter_map h (take i facts) ++ cons_option o []) (no_version f w.in_default.not-Page) ∙ append-nil (filter_map h (take i facts))))
    ]
