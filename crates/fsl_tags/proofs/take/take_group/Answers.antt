use Rattle.std.proofs.Common.{[], ◌≡◌, ◌∙◌, ◌+◌, inr, ℕ, List, Option, length, cond, true, false, sym, ap, refl, arith, subst}
use Rattle.std.specs.Str.{bytes_eq}
use Rattle.fsl_order.specs.Rows.{greater}
use Rattle.fsl_tags.specs.declared.Assertion.{Assertion}
use Rattle.fsl_tags.specs.Tags.{newer_cmp}
use Rattle.fsl_tags.specs.Kept.{newest_of}
use Rattle.fsl_tags.specs.Climbed.{row_up}
use Rattle.fsl_tags.specs.Joined.{joined}
use Rattle.fsl_tags.specs.Laid.{row_in, Rises, AreLaid}
use Rattle.fsl_tags.proofs.RowsOf.{of_tag}
use Rattle.fsl_table.proofs.Outcomes.{four_ok, always_ok}
use Rattle.fsl_tags.proofs.Renewal.{renewal-root, renewal-even, renewal-all, up-rises}
use Rattle.fsl_tags.proofs.Grouping.{put-else, put-rises, put-older, put-finds}
use Rattle.std.specs.List.{AllByRecursion}
use Rattle.fsl_table.specs.Pairs.{seconds}
use Rattle.fsl_tags.proofs.take.take_group.Goals as goal

no_longer : (n : ℕ) → n ≡ 0 + n
no_longer n = omega arith

pub folded-requires : goal.folded-requires
folded-requires g c = subst Rises (sym c.row_of-near.ensures.row) (c.requires.right.laid.rise c.args.target)

pub renew-requires : goal.renew-requires
renew-requires g c =
    let facts = c.args.graph.now.facts.held.entries in
    let own = c.args.own.now.held.entries in
    let now = c.set.new.rows.held.entries in
    let rows = c.args.flow.now.rows.held.entries in
    let target = c.args.target in
    let r = c.requires.right in
    let row = c.in_ok-row.row in
    let newest : List ℕ → Option Assertion = λ t. newest_of t c.args.group.now in
    let put : (x : List ℕ) → row_in now x ≡ cond (bytes_eq x target) row (row_in own x) = c.in_ok-set.ensures.row in
    let finds : (t : List ℕ) → of_tag row t ≡ greater newer_cmp (of_tag (row_in own target) t) (newest t) =
    λ t. c.in_ok-row.ensures.newest t ∙ ap (λ l. greater newer_cmp (of_tag l t) (newest t)) c.row_of-near.ensures.row in
    let rise : (x : List ℕ) → Rises (row_in now x) = put-rises target row newest own now put finds c.in_ok-row.ensures.rises r.laid.rise in
    let else : (x : List ℕ) → bytes_eq x target ≡ false → row_in own x ≡ row_in now x = put-else target row newest own now put finds in
    record {
      laid = record { ordered = r.laid.ordered; pairs = r.laid.pairs; rise = rise };
      full = r.full;
      above = up-rises facts own rows r.laid.rise r.right c.parent_of-up.result;
      root =
          ap (λ o. joined (row_up (row_in rows) o) (row_in now target)) c.parent_of-up.ensures.parent
          ∙ renewal-root facts facts own now rows target r.laid.rise rise r.right (λ x h. refl) else 0 (no_longer (length facts)) (inr (inr refl)) (put-older target row newest own now put finds);
      even = renewal-even facts facts own now rows target r.laid.rise rise r.right (λ x h. refl) else 0 (no_longer (length facts));
    }

pub returns : goal.returns
returns g c =
    let facts = c.args.graph.now.facts.held.entries in
    let children = c.args.graph.now.children.held.entries in
    let own = c.args.own.now.held.entries in
    let now = c.set.new.rows.held.entries in
    let rows = c.args.flow.now.rows.held.entries in
    let target = c.args.target in
    let r = c.requires.right in
    let row = c.in_ok-row.row in
    let newest : List ℕ → Option Assertion = λ t. newest_of t c.args.group.now in
    let put : (x : List ℕ) → row_in now x ≡ cond (bytes_eq x target) row (row_in own x) = c.in_ok-set.ensures.row in
    let finds : (t : List ℕ) → of_tag row t ≡ greater newer_cmp (of_tag (row_in own target) t) (newest t) =
    λ t. c.in_ok-row.ensures.newest t ∙ ap (λ l. greater newer_cmp (of_tag l t) (newest t)) c.row_of-near.ensures.row in
    let rise : (x : List ℕ) → Rises (row_in now x) = put-rises target row newest own now put finds c.in_ok-row.ensures.rises r.laid.rise in
    let else : (x : List ℕ) → bytes_eq x target ≡ false → row_in own x ≡ row_in now x = put-else target row newest own now put finds in
    let laid : AreLaid facts children now = record { ordered = r.laid.ordered; pairs = r.laid.pairs; rise = rise } in
    let only = λ (none : seconds target children ≡ []). subst (AllByRecursion (λ x. bytes_eq x target ≡ true)) (sym none) tt in
    record {
      right =
          four_ok c.renew.result
          (λ full each root even. record { laid = laid; own_full = c.in_ok-set.ensures.full; full = full; right = renewal-all facts facts own now rows target r.laid.rise rise r.right (λ x h. refl) else 0 (no_longer (length facts)) c.renew.new.flow.rows.held.entries each root even })
          c.renew.ensures.full c.renew.ensures.each c.renew.ensures.root c.renew.ensures.even;
      own = always_ok c.renew.result (put-finds target row newest own now put finds);
      noted = c.renew.ensures.noted;
      own_was = c.in_ok-set.ensures.was;
      rows_was = c.renew.ensures.was;
      more = λ none. c.renew.ensures.more (only none);
      touches = λ none.
          (let n : length (seconds target children) ≡ 0 = ap length none in
          let touches = c.renew.ensures.touches (only none) in omega (arith, n, touches, c.parent_of-up.ensures.cost, c.in_ok-set.ensures.most, c.row_of-near.ensures.cost));
      back = λ none. (let back = c.renew.ensures.back (only none) in omega (arith, back, c.in_ok-set.ensures.back));
    }
