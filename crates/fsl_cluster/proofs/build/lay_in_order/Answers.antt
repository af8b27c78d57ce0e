use Rattle.std.proofs.Common.{◌∙◌, List, map, sym}
use Rattle.std.specs.Str.{bytes_eq}
use Rattle.std.specs.Cmp.Lexicographic.{nat_list_eq_equiv}
use Rattle.std.proofs.lemmas.List.Sorted.{IsPermutation-map}
use Rattle.std.proofs.lemmas.Map.Keys.{IsDistinct-IsPermutation}
use Rattle.fsl_order.proofs.RowLemmas.{by_name-permutation}
use Rattle.fsl_table.proofs.Outcomes.{on_ok_map}
use Rattle.fsl_cluster.specs.declared.Fact.{Fact}
use Rattle.fsl_cluster.proofs.build.lay_in_order.Goals as goal

pub lay_all-requires-clause-distinct : goal.lay_all-requires-clause-distinct
lay_all-requires-clause-distinct g c =
    let facts : List Fact = c.args.facts in
    let ordered : List Fact = c.in_order.result.items in
    IsDistinct-IsPermutation bytes_eq nat_list_eq_equiv.symm (map (λ f. f.name) facts) (map (λ f. f.name) ordered) (IsPermutation-map (λ f. f.name) facts ordered c.in_order.ensures) c.requires.distinct

pub returns-clause-facts : goal.returns-clause-facts
returns-clause-facts g c =
    let facts : List Fact = c.args.facts in
    let ordered : List Fact = c.in_order.result.items in
    on_ok_map c.lay_all.result (λ e. e ∙ sym (by_name-permutation (λ f. f.name) facts ordered c.requires.distinct c.in_order.ensures)) c.lay_all.ensures.facts
