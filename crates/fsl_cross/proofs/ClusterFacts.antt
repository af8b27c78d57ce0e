-- The facts of clusters, one item more, and an item that becomes public.
use Rattle.std.proofs.Common.{◌≡◌, ℕ, true, false, cond, List, [], ◌∷◌, Option, Some, map, refl, sym, ap, ◌∙◌, Result}
use Rattle.std.specs.Prelude.{IfSome, is_some, option_and_then, filter_map, OnOk}
use Rattle.std.specs.Str.{bytes_eq}
use Rattle.std.specs.Cmp.Lexicographic.{bytes_decides}
use Rattle.fsl_order.specs.Names.{has}
use Rattle.fsl_order.specs.Rows.{by_name, named}
use Rattle.fsl_order.proofs.RowLemmas.{is_some-named}
use Rattle.fsl_cluster.specs.declared.Fact.{Fact}
use Rattle.fsl_cross.specs.declared.Item.{Item}
use Rattle.fsl_cross.specs.Facts.{cluster_fact}
use Rattle.fsl_cross.specs.Marks.{private_at}
use Rattle.fsl_cross.specs.Tables.{cluster_facts, without}
use Rattle.fsl_table.proofs.Outcomes.{on_ok_map}
use Rattle.fsl_cross.proofs.Moved.{item_name}
use Rattle.fsl_cross.proofs.FactLemmas.{Rise}
use Rattle.fsl_cross.proofs.Mapped.{named-given}
use Rattle.fsl_cross.proofs.Sets.{given-at}
use Rattle.fsl_cross.proofs.Added.{given-absent, some-added}

abbrev fact_name : Fact → List ℕ
fact_name f = f.name

abbrev give : Item → Option Fact
give item = Some (cluster_fact item)

own : (item : Item) → IfSome (give item) (λ f. f.name ≡ item.name)
own item = refl

as-given : (items : List Item) → map cluster_fact items ≡ filter_map give items
as-given [] = refl
as-given (item ∷ items) = ap (λ l. cluster_fact item ∷ l) (as-given items)

module _ (items : List Item) (rise : Rise items) (x : Item) (at : named item_name items x.name ≡ Some x) where
  pub clusters-absent : (before : List Fact) (f : Fact) → before ≡ cluster_facts (without x.name items) → f ≡ cluster_fact x → has (map (λ f. f.name) before) f.name ≡ false
  clusters-absent before f is of =
      (λ i. has (map fact_name ((is ∙ as-given (without x.name items)) i)) (of i).name) ∙ given-absent item_name fact_name give own items rise x.name

  pub clusters-added : {X E : Type 0} (r : Result X E) (before after : List Fact) (f : Fact) → before ≡ cluster_facts (without x.name items) → f ≡ cluster_fact x → OnOk r (after ≡ by_name (λ f. f.name) (f ∷ before)) → OnOk r (after ≡ cluster_facts items)
  clusters-added r before after f is of put =
      on_ok_map r (λ e. e ∙ sym (as-given items))
      (some-added item_name fact_name give own items rise x at before r after f (is ∙ as-given (without x.name items)) (ap Some (sym of)) put)

  -- ---- an item that becomes public

  abbrev hidden : Item → Option Fact
  hidden item = Some (cluster_fact (private_at x.name true item))

  as-hidden : (some : List Item) → map cluster_fact (map (private_at x.name true) some) ≡ filter_map hidden some
  as-hidden [] = refl
  as-hidden (item ∷ some) = ap (λ l. cluster_fact (private_at x.name true item) ∷ l) (as-hidden some)

  hidden-own : (item : Item) → IfSome (hidden item) (λ f. f.name ≡ item.name)
  hidden-own item = elim (bytes_eq item.name x.name) as (λ b. (cluster_fact (cond b (record item { private = true }) item)).name ≡ item.name) [ true ↦ refl | false ↦ refl ]

  pub clusters-there : (before : List Fact) (f : Fact) → before ≡ cluster_facts (map (private_at x.name true) items) → f ≡ cluster_fact x → has (map (λ f. f.name) before) f.name ≡ true
  clusters-there before f is of =
      (λ i. has (map fact_name ((is ∙ as-hidden items) i)) (of i).name) ∙ sym (is_some-named fact_name (filter_map hidden items) x.name)
      ∙ ap is_some (named-given item_name fact_name hidden hidden-own items rise x.name ∙ ap (option_and_then hidden) at)

  pub clusters-hidden : (before : List Fact) (f : Fact) → before ≡ cluster_facts (map (private_at x.name true) items) → f ≡ cluster_fact x → named (λ f. f.name) before f.name ≡ Some (record f { private = true })
  clusters-hidden before f is of =
      (λ i. named fact_name ((is ∙ as-hidden items) i) (of i).name) ∙ named-given item_name fact_name hidden hidden-own items rise x.name ∙ ap (option_and_then hidden) at
      ∙ ap (λ b. Some (cluster_fact (cond b (record x { private = true }) x))) ((bytes_decides x.name x.name).1 refl) ∙ ap (λ (g : Fact). Some (record g { private = true })) (sym of)

  pub clusters-published : {X E : Type 0} (r : Result X E) (before after : List Fact) (f : Fact) → before ≡ cluster_facts (map (private_at x.name true) items) → f ≡ cluster_fact x
      → OnOk r (after ≡ by_name (λ f. f.name) (f ∷ before)) → OnOk r (after ≡ cluster_facts items)
  clusters-published r before after f is of put =
      on_ok_map r
      (λ e. e ∙ (λ i. by_name fact_name (of i ∷ (is ∙ as-hidden items) i))
      ∙ sym (as-given items ∙ given-at item_name fact_name hidden hidden-own give own items rise x at
      (λ y apart. ap (λ b. Some (cluster_fact (cond b (record y { private = true }) y))) (sym apart)))) put
