-- The rows of an ordered map, with one more, and the row of a name.
use Rattle.std.proofs.Common.{◌≡◌, ℕ, List, [], ◌∷◌, cond, Some, map, refl, sym, ap, ◌∙◌}
use Rattle.std.specs.List.{AllByRecursion}
use Rattle.std.specs.List.Sorted.{IsStrictlySortedBy}
use Rattle.std.specs.Map.{keys_of, values_of, lookup}
use Rattle.std.specs.BTreeMap.{insert_entry, is_at}
use Rattle.std.specs.Ordering.{is_eq, match_ordering}
use Rattle.std.specs.declared.cmp.Ordering.TheVariants.{Less, Equal, Greater}
use Rattle.std.specs.FinMap.{put}
use Rattle.std.specs.FinMap.Entries.{by_order}
use Rattle.std.specs.Str.{bytes_eq}
use Rattle.std.specs.Cmp.Lexicographic.{texts_ties, nat_list_eq_equiv}
use Rattle.fsl_order.specs.Names.{bytes_cmp}
use Rattle.fsl_order.specs.Rows.{keyed, by_name, named}
use Rattle.fsl_order.proofs.Orders.{bytes_cmp-IsAntisymmetric}
use Rattle.fsl_order.proofs.Places.{put-insert}
use Rattle.fsl_name.specs.RowsKept.{IsKept}

module _ {X : Type 0} (name : X → List ℕ) where
  abbrev pub Own : List (List ℕ × X) → Type 0
  Own es = AllByRecursion (λ e. e.0 ≡ name e.1) es

  -- kept entries are those of their rows
  keyed-kept : (es : List (List ℕ × X)) → IsStrictlySortedBy bytes_cmp (keys_of es) → Own es → keyed bytes_cmp name (values_of es) ≡ es
  unfolding IsStrictlySortedBy
  keyed-kept [] h own = refl
  keyed-kept (e ∷ es) h own =
      ap (put bytes_cmp (name e.1) e.1) (keyed-kept es h.1 own.1) ∙ (λ i. put bytes_cmp (sym own.0 i) e.1 es) ∙ front es h.0
    where
      front : (es : List (List ℕ × X)) → AllByRecursion (λ y. bytes_cmp e.0 y ≡ Less) (keys_of es) → put bytes_cmp e.0 e.1 es ≡ e ∷ es
      front [] h = refl
      front (f ∷ fs) h = ap (λ r. by_order r ((e.0, e.1) ∷ f ∷ fs) ((f.0, e.1) ∷ fs) (f ∷ put bytes_cmp e.0 e.1 fs)) h.0

  -- an insert of a row under its name is that row put among the rows by name
  pub values-insert : (x : X) (es : List (List ℕ × X)) → IsKept name es → values_of (insert_entry bytes_cmp es (name x) x) ≡ by_name name (x ∷ values_of es)
  values-insert x es kept =
      ap values_of (sym (put-insert bytes_cmp (name x) x es) ∙ ap (put bytes_cmp (name x) x) (sym (keyed-kept es kept.rising kept.named)))

  own-insert : (x : X) (es : List (List ℕ × X)) → Own es → Own (insert_entry bytes_cmp es (name x) x)
  own-insert x [] own = (refl, tt)
  own-insert x (e ∷ es) own =
      elim (bytes_cmp (name x) e.0) as (λ r. bytes_cmp (name x) e.0 ≡ r → Own (match_ordering r ((name x, x) ∷ e ∷ es) ((e.0, x) ∷ es) (e ∷ insert_entry bytes_cmp es (name x) x))) [
        | Less ↦ λ _. (refl, own)
        | Equal ↦ λ h. (sym (bytes_cmp-IsAntisymmetric (name x) e.0 h), own.1)
        | Greater ↦ λ _. (own.0, own-insert x es own.1)
      ] refl

  -- the map keeps its rows under their names
  pub kept-insert : (x : X) (es : List (List ℕ × X)) → IsKept name es → IsStrictlySortedBy bytes_cmp (keys_of (insert_entry bytes_cmp es (name x) x)) → IsKept name (insert_entry bytes_cmp es (name x) x)
  kept-insert x es kept rising = record { rising = rising; named = own-insert x es kept.named }

  -- a look-up of a name finds its row
  pub lookup-kept : (q : List ℕ) (es : List (List ℕ × X)) → Own es → lookup (is_at (bytes_cmp q)) es ≡ named name (values_of es) q
  lookup-kept q [] own = refl
  lookup-kept q (e ∷ es) own =
      (λ i. cond (turned i) (Some e.1) (lookup-kept q es own.1 i))
    where
      turned : is_eq (bytes_cmp q e.0) ≡ bytes_eq (name e.1) q
      turned = ap (λ k. is_eq (bytes_cmp q k)) own.0 ∙ sym (nat_list_eq_equiv.symm (name e.1) q ∙ texts_ties q (name e.1))

  -- the keys are the names of the rows
  pub names-kept : (es : List (List ℕ × X)) → Own es → keys_of es ≡ map name (values_of es)
  names-kept [] own = refl
  names-kept (e ∷ es) own = λ i. own.0 i ∷ names-kept es own.1 i
