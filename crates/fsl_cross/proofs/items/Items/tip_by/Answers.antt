use Rattle.std.proofs.Common.{◌≡◌, ℕ, List, ◌++◌, ◌∙◌}
use Rattle.std.specs.Prelude.{filter_map, option_map, codes}
use Rattle.fsl_order.specs.Names.{dated_cmp}
use Rattle.fsl_order.specs.Rows.{greatest}
use Rattle.fsl_tags.specs.Tags.{holders}
use Rattle.fsl_cross.specs.Checkins.{tags_facts}
use Rattle.fsl_cross.specs.Inside.{dated_over}
use Rattle.fsl_cross.proofs.TipLemmas.{tip-is}
use Rattle.fsl_cross.proofs.items.Items.tip_by.Goals as goal

pub returns : goal.returns
returns c =
    let items = c.args.self.now in
    let symbol = c.args.symbol.now in
    let facts : c.args.tags.now.facts ≡ tags_facts items = c.requires in
    let names : c.items.result.now ≡ holders (tags_facts items) (codes "sym-" ++ symbol)
    = c.items.ensures ∙ c.in_ok-holders.ensures ∙ (λ i. holders (facts i) ((c.bytes.ensures ∙ c.in_ok-tag.ensures) i)) in
    c.latest.ensures ∙ (λ i. option_map (λ (d : ℕ × List ℕ). d.1) (greatest dated_cmp (filter_map (dated_over (facts i) items) (names i))))
    ∙ tip-is items c.rises.ensures symbol
