use Rattle.std.proofs.Common.{◌≡◌, ◌∙◌, ◌∷◌, [], List, ℕ, cond, sym, ap}
use Rattle.std.specs.Str.{bytes_eq}
use Rattle.fsl_order.specs.Rows.{greater}
use Rattle.fsl_tags.specs.declared.Assertion.{Assertion}
use Rattle.fsl_tags.specs.Tags.{newer_cmp}
use Rattle.fsl_tags.specs.Kept.{newest_of}
use Rattle.fsl_tags.specs.Laid.{row_in}
use Rattle.fsl_tags.proofs.RowsOf.{of_tag}
use Rattle.fsl_tags.proofs.Newest.{greater-none}
use Rattle.fsl_tags.proofs.EffectiveLaw.{newer_cmp-IsTotalOrder}
use Rattle.fsl_tags.proofs.Filling.{full_none, rises_none, sorted_rest}
use Rattle.fsl_tags.proofs.Grouping.{group-next}
use Rattle.fsl_tags.proofs.lay.put_groups.Goals as goal

pub loop-entry-init : goal.loop-entry-init
loop-entry-init g c = record {
  kept = record { full = full_none c.args.own.now.held.entries c.requires.empty; rise = λ x. rises_none (row_in c.args.own.now.held.entries x) (ap (λ es. row_in es x) c.requires.empty) };
  newest = λ x tag. ap (λ es. greater newer_cmp (of_tag (row_in es x) tag) (newest_of tag (row_in c.args.groups.entries x))) c.requires.empty;
  sorted = c.requires.ordered;
}

pub loop-entry-preserved : goal.loop-entry-preserved
loop-entry-preserved g c =
    let left = c.loop-entry.left.entries in
    let rest = c.pop.new.noted.entries in
    let e : List ℕ × List Assertion = c.in-Some.entry in
    let cut : left ≡ e ∷ rest = c.in-Some.ensures in
    let own = c.loop-entry.own.held.entries in
    record {
      kept = c.in_ok-put_newest.ensures.kept;
      newest = λ x tag.
          group-next left rest own c.put_newest.new.own.held.entries e cut c.loop-entry.invariant.sorted x tag
          (c.in_ok-put_newest.ensures.own x tag ∙ ap (λ l. cond (bytes_eq x c.in-Some.entry.0) (greater newer_cmp (of_tag (row_in own x) tag) (newest_of tag l)) (of_tag (row_in own x) tag)) c.items.ensures)
          ∙ c.loop-entry.invariant.newest x tag;
      sorted = sorted_rest left rest e cut c.loop-entry.invariant.sorted;
    }

pub returns-clause-newest : goal.returns-clause-newest
returns-clause-newest g c = λ x tag.
    let found = of_tag (row_in c.loop-entry.own.held.entries x) tag in
    let none : c.loop-entry.left.entries ≡ [] = c.in_default.ensures.0 in
    sym (greater-none newer_cmp newer_cmp-IsTotalOrder found)
    ∙ ap (λ es. greater newer_cmp found (newest_of tag (row_in es x))) (sym none) ∙ c.loop-entry.invariant.newest x tag
