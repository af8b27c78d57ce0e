-- The row of a name is told by its entry and by which version is the current one.
use Rattle.std.proofs.Common.{◌≡◌, ℕ, List, [], ◌∷◌, Bool, true, false, cond, ◌||◌, ◌&&◌, Option, Some, None, map, filter, if◌then◌else◌, refl, sym, ap, subst, ◌∙◌}
use Rattle.std.specs.List.{list_any, filter_map, cons_option, IsDistinct}
use Rattle.std.specs.List.Sorted.{IsStrictlySortedBy}
use Rattle.std.specs.Map.{keys_of}
use Rattle.std.specs.Option.{option_map, option_map_or, option_and_then}
use Rattle.std.specs.Ordering.{is_eq, is_lt, ordering_then, on, eq_by_cmp}
use Rattle.std.specs.Str.{bytes_eq}
use Rattle.std.specs.Cmp.Lexicographic.{texts_ties, bytes_decides, nat_list_eq_equiv}
use Rattle.std.specs.declared.cmp.Ordering.{Ordering}
use Rattle.std.specs.declared.cmp.Ordering.TheVariants.{Less, Equal, Greater}
use Rattle.std.proofs.lemmas.Map.Keys.{IsDistinct-from_sorted}
use Rattle.fsl_order.specs.Names.{bytes_cmp, dated_cmp}
use Rattle.fsl_order.specs.Rows.{greater, greatest, AreDistinct}
use Rattle.fsl_order.proofs.Orders.{bytes_cmp-IsTotalOrder}
use Rattle.fsl_table.specs.Contents.{value_at}
use Rattle.fsl_table.proofs.Entries.{none_above}
use Rattle.fsl_wiki.specs.declared.Page.{Page}
use Rattle.fsl_wiki.specs.declared.Note.{Note}
use Rattle.fsl_wiki.specs.declared.Attached.{Attached}
use Rattle.fsl_wiki.specs.declared.Fact.{Fact}
use Rattle.fsl_wiki.specs.declared.Fact.TheVariants as fact
use Rattle.fsl_wiki.specs.declared.entry.Entry.{Entry}
use Rattle.fsl_wiki.specs.declared.entry.Entry.TheVariants as entry
use Rattle.fsl_wiki.specs.declared.entry.Row.{Row}
use Rattle.fsl_wiki.specs.Groups.{group_cmp, page_group, note_group, file_group}
use Rattle.fsl_wiki.specs.Pages.{fact_name, as_page, as_note, as_attached, current_note, current, pages_row}
use Rattle.fsl_wiki.specs.Kept.{Lines, fact_of, fact_at, facts_of, group_of, place_of, latest, is_called, leads, row_by}
use Rattle.fsl_wiki.proofs.Canonical.{own}
use Rattle.fsl_wiki.proofs.Moved.{note_name, attached_name}

-- ---- those that a fact of one name gives

module _ {Y : Type 0} (kind : Fact → Option Y) (name : Y → List ℕ) (same : (f : Fact) (y : Y) → kind f ≡ Some y → name y ≡ fact_name f) (test : Y → Bool) where
  -- what the entry of a name gives
  abbrev pub given : Lines → List ℕ → Option Y
  given es q = option_and_then (λ e. kind (fact_at q e)) (value_at bytes_cmp q es)

  abbrev passes : List ℕ → Y → Bool
  passes q y = bytes_eq (name y) q && test y

  abbrev tested : Option Y → Bool
  tested o = option_map_or test o false

  pub any_given : (es : Lines) (q : List ℕ) → IsStrictlySortedBy bytes_cmp (keys_of es) → list_any (passes q) (filter_map kind (facts_of es)) ≡ tested (given es q)
  unfolding IsStrictlySortedBy
  any_given [] q sorted = refl
  any_given (e ∷ es) q sorted =
      by (any_given es q sorted.1) (kind (fact_of e)) refl
      ∙ elim (bytes_eq q e.0) as (λ b. bytes_eq q e.0 ≡ b → here b (kind (fact_of e)) ≡ tested (option_and_then (λ e. kind (fact_at q e)) (cond b (Some e.1) (value_at bytes_cmp q es)))) [
        | true ↦ λ h.
            let is : q ≡ e.0 = (bytes_decides q e.0).0 h in
            let none : value_at bytes_cmp q es ≡ None = ap (λ n. value_at bytes_cmp n es) is ∙ none_above bytes_cmp-IsTotalOrder e.0 es sorted.0 in
            ap (λ o. or_tested (kind (fact_of e)) (tested (option_and_then (λ e. kind (fact_at q e)) o))) none ∙ or_none (kind (fact_of e)) ∙ ap (λ n. tested (kind (fact_at n e.1))) (sym is)
        | false ↦ λ h. refl
      ] refl
      ∙ ap (λ b. tested (option_and_then (λ e. kind (fact_at q e)) (cond b (Some e.1) (value_at bytes_cmp q es)))) (texts_ties q e.0)
    where
      or_tested : Option Y → Bool → Bool
      or_tested o r = tested o || r

      here : Bool → Option Y → Bool
      here true o = or_tested o (tested (given es q))
      here false o = tested (given es q)

      or_none : (o : Option Y) → or_tested o false ≡ tested o
      or_none None = refl
      or_none (Some y) = elim (test y) as (λ b. (b || false) ≡ b) [ true ↦ refl | false ↦ refl ]

      front : (b c r : Bool) → ((b && c) || r) ≡ cond b (c || r) r
      front true c r = refl
      front false c r = refl

      cases : (b : Bool) (y : Y) → cond b (test y || tested (given es q)) (tested (given es q)) ≡ here b (Some y)
      cases true y = refl
      cases false y = refl

      skip : (b : Bool) → tested (given es q) ≡ here b None
      skip true = refl
      skip false = refl

      by : list_any (passes q) (filter_map kind (facts_of es)) ≡ tested (given es q) → (o : Option Y) → kind (fact_of e) ≡ o → list_any (passes q) (cons_option o (filter_map kind (facts_of es))) ≡ here (bytes_eq q e.0) o
      by rest None is = rest ∙ skip (bytes_eq q e.0)
      by rest (Some y) is =
          (λ i. passes q y || rest i)
          ∙ ap (λ n. (bytes_eq n q && test y) || tested (given es q)) (same (fact_of e) y is ∙ own e)
          ∙ front (bytes_eq e.0 q) (test y) (tested (given es q))
          ∙ ap (λ b. cond b (test y || tested (given es q)) (tested (given es q))) (nat_list_eq_equiv.symm e.0 q)
          ∙ cases (bytes_eq q e.0) y

-- ---- the versions of one thing are those of one kind

module _ {Y : Type 0} (give : Y → Fact) (date : Y → ℕ) (name : Y → List ℕ) (place : (y : Y) → place_of (give y) ≡ (date y, name y)) where
  abbrev y_cmp : Y → Y → Ordering
  y_cmp = on (λ y. (date y, name y)) dated_cmp

  pub greatest_given : (ys : List Y) → greatest (on place_of dated_cmp) (map give ys) ≡ option_map give (greatest y_cmp ys)
  greatest_given [] = refl
  greatest_given (y ∷ ys) = ap (greater (on place_of dated_cmp) (Some (give y))) (greatest_given ys) ∙ by (greatest y_cmp ys)
    where
      by : (o : Option Y) → greater (on place_of dated_cmp) (Some (give y)) (option_map give o) ≡ option_map give (greater y_cmp (Some y) o)
      by None = refl
      by (Some z) =
          (λ i. let f : Fact = give y in Some (if is_lt (dated_cmp (place y i) (place z i)) then give z else f))
          ∙ elim (is_lt (y_cmp y z)) as (λ b. Some (if b then give z else give y) ≡ option_map give (Some (if b then z else y))) [ true ↦ refl | false ↦ refl ]

pub of_note : (id : List ℕ) (facts : List Fact) → filter (λ f. is_eq (group_cmp (note_group id) (group_of f))) facts ≡ map fact.Note (filter (λ n. bytes_eq n.id id) (filter_map as_note facts))
of_note id [] = refl
of_note id (fact.Page p ∷ facts) = of_note id facts
of_note id (fact.Attached a ∷ facts) = of_note id facts
of_note id (fact.Note n ∷ facts) =
    ap (λ b. cond b (fact.Note n ∷ filter (λ f. is_eq (group_cmp (note_group id) (group_of f))) facts) (filter (λ f. is_eq (group_cmp (note_group id) (group_of f))) facts)) (only (bytes_cmp id n.id) ∙ sym (texts_ties id n.id) ∙ nat_list_eq_equiv.symm id n.id)
    ∙ ap (λ l. cond (bytes_eq n.id id) (fact.Note n ∷ l) l) (of_note id facts)
    ∙ elim (bytes_eq n.id id) as (λ b. cond b (fact.Note n ∷ map fact.Note (filter (λ n. bytes_eq n.id id) (filter_map as_note facts))) (map fact.Note (filter (λ n. bytes_eq n.id id) (filter_map as_note facts))) ≡ map fact.Note (cond b (n ∷ filter (λ n. bytes_eq n.id id) (filter_map as_note facts)) (filter (λ n. bytes_eq n.id id) (filter_map as_note facts)))) [ true ↦ refl | false ↦ refl ]
  where
    only : (r : Ordering) → is_eq (ordering_then r Equal) ≡ is_eq r
    only Less = refl
    only Equal = refl
    only Greater = refl

pub not_last : (r s : Ordering) → is_eq s ≡ false → is_eq (ordering_then r s) ≡ false
not_last Less s h = refl
not_last Equal s h = h
not_last Greater s h = refl

pub of_page : (title : List ℕ) (facts : List Fact) → filter (λ f. is_eq (group_cmp (page_group title) (group_of f))) facts ≡ map fact.Page (filter (λ p. bytes_eq p.title title) (filter_map as_page facts))
of_page title [] = refl
of_page title (fact.Note n ∷ facts) = of_page title facts
of_page title (fact.Attached a ∷ facts) =
    ap (λ b. cond b (fact.Attached a ∷ filter (λ f. is_eq (group_cmp (page_group title) (group_of f))) facts) (filter (λ f. is_eq (group_cmp (page_group title) (group_of f))) facts)) (not_last (bytes_cmp title a.target) Less refl)
    ∙ of_page title facts
of_page title (fact.Page p ∷ facts) =
    ap (λ b. cond b (fact.Page p ∷ filter (λ f. is_eq (group_cmp (page_group title) (group_of f))) facts) (filter (λ f. is_eq (group_cmp (page_group title) (group_of f))) facts)) (only (bytes_cmp title p.title) ∙ sym (texts_ties title p.title) ∙ nat_list_eq_equiv.symm title p.title)
    ∙ ap (λ l. cond (bytes_eq p.title title) (fact.Page p ∷ l) l) (of_page title facts)
    ∙ elim (bytes_eq p.title title) as (λ b. cond b (fact.Page p ∷ map fact.Page (filter (λ p. bytes_eq p.title title) (filter_map as_page facts))) (map fact.Page (filter (λ p. bytes_eq p.title title) (filter_map as_page facts))) ≡ map fact.Page (cond b (p ∷ filter (λ p. bytes_eq p.title title) (filter_map as_page facts)) (filter (λ p. bytes_eq p.title title) (filter_map as_page facts)))) [ true ↦ refl | false ↦ refl ]
  where
    only : (r : Ordering) → is_eq (ordering_then r Equal) ≡ is_eq r
    only Less = refl
    only Equal = refl
    only Greater = refl

abbrev file_items : List ℕ → List ℕ → List Fact → List Attached
file_items target file facts = filter (λ a. bytes_eq a.target target && bytes_eq a.file file) (filter_map as_attached facts)

pub of_file : (target file : List ℕ) (facts : List Fact)
    → filter (λ f. is_eq (group_cmp (file_group target file) (group_of f))) facts ≡ map fact.Attached (filter (λ a. bytes_eq a.target target && bytes_eq a.file file) (filter_map as_attached facts))
of_file target file [] = refl
of_file target file (fact.Note n ∷ facts) = of_file target file facts
of_file target file (fact.Page p ∷ facts) =
    ap (λ b. cond b (fact.Page p ∷ filter (λ f. is_eq (group_cmp (file_group target file) (group_of f))) facts) (filter (λ f. is_eq (group_cmp (file_group target file) (group_of f))) facts)) (not_last (bytes_cmp target p.title) Greater refl)
    ∙ of_file target file facts
of_file target file (fact.Attached a ∷ facts) =
    ap (λ b. cond b (fact.Attached a ∷ filter (λ f. is_eq (group_cmp (file_group target file) (group_of f))) facts) (filter (λ f. is_eq (group_cmp (file_group target file) (group_of f))) facts))
    (both (bytes_cmp target a.target) (bytes_cmp file a.file) ∙ (λ i. (sym (texts_ties target a.target) ∙ nat_list_eq_equiv.symm target a.target) i && (sym (texts_ties file a.file) ∙ nat_list_eq_equiv.symm file a.file) i))
    ∙ ap (λ l. cond (bytes_eq a.target target && bytes_eq a.file file) (fact.Attached a ∷ l) l) (of_file target file facts)
    ∙ elim (bytes_eq a.target target && bytes_eq a.file file) as (λ b. cond b (fact.Attached a ∷ map fact.Attached (file_items target file facts)) (map fact.Attached (file_items target file facts)) ≡ map fact.Attached (cond b (a ∷ file_items target file facts) (file_items target file facts))) [ true ↦ refl | false ↦ refl ]
  where
    both : (r s : Ordering) → is_eq (ordering_then r s) ≡ (is_eq r && is_eq s)
    both Less s = refl
    both Equal s = refl
    both Greater s = refl

pub latest_note : (facts : List Fact) (id : List ℕ) → latest facts (note_group id) ≡ option_map fact.Note (current_note facts id)
latest_note facts id = ap (greatest (on place_of dated_cmp)) (of_note id facts) ∙ greatest_given fact.Note (λ n. n.date) (λ n. n.name) (λ n. refl) (filter (λ n. bytes_eq n.id id) (filter_map as_note facts))

pub latest_file : (facts : List Fact) (target file : List ℕ) → latest facts (file_group target file) ≡ option_map fact.Attached (current facts target file)
latest_file facts target file =
    ap (greatest (on place_of dated_cmp)) (of_file target file facts)
    ∙ greatest_given fact.Attached (λ a. a.date) (λ a. a.name) (λ a. refl) (filter (λ a. bytes_eq a.target target && bytes_eq a.file file) (filter_map as_attached facts))

-- ---- rows

abbrev pub triple : Row → Bool × Bool × Bool
triple r = (r.page, r.note, r.attached)

page_name : (f : Fact) (p : Page) → as_page f ≡ Some p → p.name ≡ fact_name f
page_name (fact.Page q) p e = let same : q ≡ p = cc in ap (λ p. p.name) (sym same)
page_name (fact.Note n) p e = cc
page_name (fact.Attached a) p e = cc

module _ (es : Lines) (q : List ℕ) (sorted : IsStrictlySortedBy bytes_cmp (keys_of es)) where
  abbrev facts : List Fact
  facts = facts_of es

  abbrev note_test : Note → Bool
  note_test n = option_map_or (λ c. bytes_eq c.name q) (current_note facts n.id) false

  abbrev file_test : Attached → Bool
  file_test a = option_map_or (λ c. bytes_eq c.name q) (current facts a.target a.file) false

  pages_part : list_any (λ p. bytes_eq p.name q) (filter_map as_page facts) ≡ option_map_or (λ _. true) (given as_page (λ p. p.name) page_name (λ _. true) es q) false
  pages_part = ap (λ t. list_any t (filter_map as_page facts)) all ∙ any_given as_page (λ p. p.name) page_name (λ _. true) es q sorted
    where
      and-true : (b : Bool) → b ≡ (b && true)
      and-true true = refl
      and-true false = refl

      all : ◌≡◌ {A = Page → Bool} (λ p. bytes_eq p.name q) (λ p. bytes_eq p.name q && true)
      all = λ i p. and-true (bytes_eq p.name q) i

  called_note : (o : Option Note) → option_map_or (λ c. bytes_eq c.name q) o false ≡ is_called q (option_map fact.Note o)
  called_note None = refl
  called_note (Some n) = refl

  called_file : (o : Option Attached) → option_map_or (λ c. bytes_eq c.name q) o false ≡ is_called q (option_map fact.Attached o)
  called_file None = refl
  called_file (Some a) = refl

  abbrev parts : Option Entry → Bool × Bool × Bool
  parts o = (
    option_map_or (λ _. true) (option_and_then (λ e. as_page (fact_at q e)) o) false,
    option_map_or note_test (option_and_then (λ e. as_note (fact_at q e)) o) false,
    option_map_or file_test (option_and_then (λ e. as_attached (fact_at q e)) o) false,
  )

  pub row_is : pages_row facts q ≡ triple (row_by (value_at bytes_cmp q es) (leads es q))
  row_is =
      (λ i. (pages_part i, any_given as_note (λ n. n.name) note_name note_test es q sorted i, any_given as_attached (λ a. a.name) attached_name file_test es q sorted i))
      ∙ by (value_at bytes_cmp q es)
    where
      by : (o : Option Entry) → parts o ≡ triple (row_by o (leads es q))
      by None = refl
      by (Some (entry.Page e)) = refl
      by (Some (entry.Note e)) = λ i. (false, (called_note (current_note facts e.id) ∙ ap (is_called q) (sym (latest_note facts e.id))) i, false)
      by (Some (entry.Attached e)) = λ i. (false, false, (called_file (current facts e.target e.file) ∙ ap (is_called q) (sym (latest_file facts e.target e.file))) i)

-- ---- names of entries differ

pub distinct_facts : (es : Lines) → IsStrictlySortedBy bytes_cmp (keys_of es) → AreDistinct (map fact_name (facts_of es))
distinct_facts es sorted =
    let tied : eq_by_cmp bytes_cmp ≡ bytes_eq = λ i x y. sym (texts_ties x y) i in
    subst AreDistinct (sym (names es)) (subst (λ e. IsDistinct e (keys_of es)) tied (IsDistinct-from_sorted bytes_cmp (keys_of es) sorted))
  where
    names : (es : Lines) → map fact_name (facts_of es) ≡ keys_of es
    names [] = refl
    names (e ∷ es) = λ i. own e i ∷ names es i
