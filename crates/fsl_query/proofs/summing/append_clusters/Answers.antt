use Rattle.std.proofs.Common.{◌≡◌, ℕ, List, ◌++◌, length, ap, ◌∙◌}
use Rattle.std.specs.Prelude.{codes}
use Rattle.std.proofs.lemmas.List.{append_assoc}
use Rattle.fsl_cluster.specs.declared.Fact.{Fact}
use Rattle.fsl_cluster.specs.Clusters.{unclustered, missing}
use Rattle.fsl_cross.specs.Tables as cross
use Rattle.fsl_query.specs.Lines.{count_line}
use Rattle.fsl_query.proofs.summing.append_clusters.Goals as goal

pub returns : goal.returns
returns c =
    let t = cross.tables c.args.tables.now.fields c.args.tables.now.items in
    let first : c.unclustered_count-unclustered.result ≡ length (unclustered t.clusters) =
    c.unclustered_count-unclustered.ensures ∙ ap (λ (facts : List Fact). length (unclustered facts)) c.cluster.ensures.facts in
    let second : c.missing_count-wanted.result ≡ length (missing t.clusters) =
    c.missing_count-wanted.ensures ∙ ap (λ (facts : List Fact). length (missing facts)) c.cluster-2.ensures.facts in
    c.in_ok-append_count-2.ensures ∙ ap (λ (text : List ℕ). text ++ count_line (codes "wanted") c.missing_count-wanted.result) c.in_ok-append_count.ensures
    ∙ append_assoc c.args.into.now (count_line (codes "unclustered") c.unclustered_count-unclustered.result) (count_line (codes "wanted") c.missing_count-wanted.result)
    ∙ (λ i. c.args.into.now ++ (count_line (codes "unclustered") (first i) ++ count_line (codes "wanted") (second i)))
