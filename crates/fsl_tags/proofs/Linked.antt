-- A fact more among facts, and the pairs of children and parents by it.
use Rattle.std.specs.Prelude.{◌≡◌, ℕ, ◌+◌, List, [], ◌∷◌, length, Bool, true, false, ◌&&◌, ◌||◌, not, cond, Option, Some, None, is_some, option_and_then}
use Rattle.std.proofs.Common.{refl, sym, ap, ◌∙◌, arith}
use Rattle.std.specs.Str.{bytes_eq}
use Rattle.std.specs.BTreeMap.{insert_entry}
use Rattle.std.specs.Ordering.{match_ordering}
use Rattle.std.specs.declared.cmp.Ordering.TheVariants.{Less, Equal, Greater}
use Rattle.std.specs.Cmp.Lexicographic.{bytes_decides}
use Rattle.fsl_order.specs.Names.{bytes_cmp}
use Rattle.fsl_table.specs.Exact.{pair_cmp}
use Rattle.fsl_table.specs.declared.key.Pair.{Pair}
use Rattle.fsl_table.specs.Contents.{value_at, with_entry}
use Rattle.fsl_tags.specs.declared.node.Node.{Node}
use Rattle.fsl_table.specs.Pairs.{is_name}
use Rattle.fsl_tags.specs.Laid.{parent_in}
use Rattle.fsl_table.proofs.Finding.{value-with}

-- ---- a fact more

pub parent-with : (name : List ℕ) (node : Node) (facts : List (List ℕ × Node)) (x : List ℕ) → parent_in (with_entry bytes_cmp name node facts) x ≡ cond (bytes_eq x name) node.parent (parent_in facts x)
parent-with name node facts x =
    ap (option_and_then (λ n. n.parent)) (value-with name node facts x)
    ∙ elim (bytes_eq x name) as (λ b. option_and_then (λ n. n.parent) (cond b (Some node) (value_at bytes_cmp x facts)) ≡ cond b node.parent (parent_in facts x)) [ true ↦ refl | false ↦ refl ]

pub longer-with : (name : List ℕ) (node : Node) (facts : List (List ℕ × Node)) → (j : ℕ) × (length (with_entry bytes_cmp name node facts) ≡ j + length facts)
longer-with name node [] = (1, refl)
longer-with name node (e ∷ facts) =
    elim (bytes_cmp name e.0) as (λ o. (j : ℕ) × (length (match_ordering o ((name, node) ∷ e ∷ facts) ((e.0, node) ∷ facts) (e ∷ insert_entry bytes_cmp facts name node)) ≡ j + length (e ∷ facts))) [
      | Less ↦ (1, omega arith)
      | Equal ↦ (0, omega arith)
      | Greater ↦ let l = longer-with name node facts in (l.0, omega (arith, l.1))
    ]

-- the pairs after the old one was taken out and the new one put
pub relinked : (facts : List (List ℕ × Node)) (name : List ℕ) (node : Node) (old mid new : List (Pair × Unit {0}))
    → ((k : Pair) → is_some (value_at pair_cmp k old) ≡ is_name (option_and_then (parent_in facts) k.second) k.first)
    → ((k : Pair) → is_some (value_at pair_cmp k mid) ≡ (not (is_name k.second name && is_name (parent_in facts name) k.first) && is_some (value_at pair_cmp k old)))
    → ((k : Pair) → is_some (value_at pair_cmp k new) ≡ ((is_name k.second name && is_name node.parent k.first) || is_some (value_at pair_cmp k mid)))
    → (k : Pair) → is_some (value_at pair_cmp k new) ≡ is_name (option_and_then (parent_in (with_entry bytes_cmp name node facts)) k.second) k.first
relinked facts name node old mid new before gone come k =
    come k ∙ ap (λ b. (is_name k.second name && is_name node.parent k.first) || b) (gone k ∙ ap (λ b. not (is_name k.second name && is_name (parent_in facts name) k.first) && b) (before k)) ∙ by k.second
  where
    or-off : (b : Bool) → (b || (not b && b)) ≡ b
    or-off true = refl
    or-off false = refl

    own : (u o : Bool) → (u || (not o && o)) ≡ u
    own true o = refl
    own false true = refl
    own false false = refl

    by : (s : Option (List ℕ)) → ((is_name s name && is_name node.parent k.first) || (not (is_name s name && is_name (parent_in facts name) k.first) && is_name (option_and_then (parent_in facts) s) k.first))
        ≡ is_name (option_and_then (parent_in (with_entry bytes_cmp name node facts)) s) k.first
    by None = refl
    by (Some c) =
        elim (bytes_eq c name) as (λ b. bytes_eq c name ≡ b → ((b && is_name node.parent k.first) || (not (b && is_name (parent_in facts name) k.first) && is_name (parent_in facts c) k.first)) ≡ is_name (cond b node.parent (parent_in facts c)) k.first) [
          | true ↦ λ h. ap (λ q. is_name node.parent k.first || (not (is_name (parent_in facts name) k.first) && is_name (parent_in facts q) k.first)) ((bytes_decides c name).0 h) ∙ own (is_name node.parent k.first) (is_name (parent_in facts name) k.first)
          | false ↦ λ _. refl
        ] refl
        ∙ ap (λ o. is_name o k.first) (sym (parent-with name node facts c))
