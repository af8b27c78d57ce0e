use Rattle.std.proofs.Common.{◌≡◌, ℕ, ◌+◌, ◌*◌, ◌≤◌, ◌||◌, ◌&&◌, not, if◌then◌else◌, ◌∙◌, ap, sym, subst, is_some, option_and_then, length, arith}
use Rattle.std.specs.Prelude.{OnOk}
use Rattle.std.specs.Str.{bytes_eq}
use Rattle.std.specs.List.Sorted.{IsStrictlySortedBy}
use Rattle.std.specs.Map.{keys_of}
use Rattle.fsl_order.specs.Names.{bytes_cmp, has}
use Rattle.fsl_order.proofs.Orders.{bytes_cmp-IsTotalOrder}
use Rattle.fsl_leaves.specs.Keys.{kin_cmp, is_kin, walked}
use Rattle.fsl_table.specs.Contents.{value_at, with_entry}
use Rattle.fsl_table.proofs.Entries.{sorted-insert_entry}
use Rattle.fsl_table.proofs.Outcomes.{on_ok_map, always_ok}
use Rattle.fsl_leaves.specs.declared.line.Line.{Line}
use Rattle.fsl_leaves.specs.Kept.{continues_in, leaf, is_in, continued}
use Rattle.fsl_leaves.proofs.Facts.{pairs_with}
use Rattle.fsl_leaves.proofs.Counting.{walked_is, leaf_with}
use Rattle.fsl_leaves.proofs.rows.put_fact.Goals as goal

cost_of : (n m first linked last : ℕ) → n ≡ m → linked ≤ first + (3 + 4 * n) → last ≤ linked + 1 → last ≤ first + (4 + 4 * m)
cost_of n m first linked last same a b = omega (arith, same, a, b)

pub returns-in-Err : goal.returns-in-Err
returns-in-Err g c =
    let parents : length c.in-Ok.line.parents ≡ length c.args.fact.parents = ap (λ l. length l.parents) c.in-Ok.ensures in
    let linked = c.link_line.ensures in
    record {
      entries = tt;
      kept = tt;
      flips = tt;
      was = (λ i. record { facts = c.args.maps.now.facts.was; children = linked.children_was i; leaves = linked.leaves_was i });
      cost = cost_of (length c.in-Ok.line.parents) (length c.args.fact.parents) c.args.steps.now c.link_line.new.steps c.link_line.new.steps parents linked.cost (omega arith);
      back = omega (arith, parents, linked.back);
    }

pub returns-in-Ok-link_line : goal.returns-in-Ok-link_line
returns-in-Ok-link_line g c =
    let k = c.requires.kept in
    let es = c.args.maps.now.facts.held.entries in
    let cs = c.args.maps.now.children.held.entries in
    let name = c.args.fact.name in
    let line : Line = record { parents = c.args.fact.parents; branch = c.args.fact.branch } in
    let told : c.in-Ok.line ≡ line = c.in-Ok.ensures in
    let count : length c.in-Ok.line.parents ≡ length c.args.fact.parents = ap (λ l. length l.parents) told in
    let ended : not (walked cs name c.in-Ok.line.branch || has c.in-Ok.line.parents name) ≡ not (continued es name line.branch || has line.parents name) =
    ap (λ l. not (walked cs name l.branch || has l.parents name)) told ∙ ap (λ b. not (b || has line.parents name)) (walked_is es cs k.ordered k.pairs name line.branch) in
    let entries : OnOk c.put.result (c.put.new.self.held.entries ≡ with_entry bytes_cmp name line es) = on_ok_map c.put.result (λ e. e ∙ ap (λ l. with_entry bytes_cmp name l es) told) c.put.ensures.ok in
    let linked = c.in-Ok-link_line.ensures in
    record {
      entries = entries;
      kept = on_ok_map c.put.result
          (λ put. record {
            ordered = subst (λ es. IsStrictlySortedBy bytes_cmp (keys_of es)) (sym put) (sorted-insert_entry bytes_cmp-IsTotalOrder name line es k.ordered);
            pairs_ordered = linked.pairs_ordered;
            leaves_ordered = linked.leaves_ordered;
            pairs = λ key.
                linked.pairs key
                ∙ ap (λ l. is_some (value_at kin_cmp key cs) || is_kin name l.parents l.branch key) told
                ∙ pairs_with es cs name line k.pairs c.requires.absent key
                ∙ ap (λ es. continues_in (option_and_then (λ c. value_at bytes_cmp c es) key.second) key.first.parent key.first.branch) (sym put);
            leaves = λ q.
                linked.leaves q
                ∙ (λ i. if bytes_eq q name then ended i else (k.leaves q i && not (has (told i).parents q && is_in (value_at bytes_cmp q es) (told i).branch)))
                ∙ sym (leaf_with es name line k.ordered c.requires.absent q)
                ∙ ap (λ es. leaf es q) (sym put);
          })
          entries;
      flips = always_ok c.put.result linked.flips;
      was = (λ i. record { facts = c.put.ensures.was i; children = linked.children_was i; leaves = linked.leaves_was i });
      cost = cost_of (length c.in-Ok.line.parents) (length c.args.fact.parents) c.args.steps.now c.link_line.new.steps c.put.new.steps count c.link_line.ensures.cost c.put.ensures.cost;
      back = omega (arith, count, c.link_line.ensures.back, c.put.ensures.back);
    }
