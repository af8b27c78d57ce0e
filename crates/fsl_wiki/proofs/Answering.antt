-- The pages of a title and the attachments of a target, as the keys give them.
use Rattle.std.proofs.Common.{◌≡◌, ℕ, List, [], ◌∷◌, ◌++◌, Bool, true, false, cond, ◌&&◌, if◌then◌else◌, Option, Some, None, map, filter, refl, sym, ap, subst, ◌∙◌}
use Rattle.std.proofs.Common.{T}
use Rattle.std.specs.Prelude.{reverse}
use Rattle.std.specs.List.{filter_map, cons_option, IsDistinct, AllByRecursion}
use Rattle.std.specs.List.Sorted.{IsStrictlySortedBy}
use Rattle.std.specs.Map.{keys_of}
use Rattle.std.specs.FinMap.{put, is_sorted}
use Rattle.std.specs.FinMap.Entries.{by_order, below_all}
use Rattle.std.specs.Option.{option_and_then, option_or}
use Rattle.std.specs.Ordering.{is_eq, is_lt, eq_by_cmp, on}
use Rattle.std.specs.Cmp.{IsTotalOrder}
use Rattle.std.specs.Cmp.Lexicographic.{texts_ties, nat_list_eq_equiv}
use Rattle.std.specs.Str.{bytes_eq}
use Rattle.std.specs.declared.cmp.Ordering.{Ordering}
use Rattle.std.specs.declared.cmp.Ordering.TheVariants.{Less, Equal, Greater}
use Rattle.std.proofs.lemmas.List.{reverse-append}
use Rattle.std.proofs.lemmas.List.Elements.{filter_map-append}
use Rattle.std.proofs.lemmas.List.Sorted.{IsPermutation-reverse, IsPermutation-trans}
use Rattle.std.proofs.lemmas.Map.Lookups.{exact_bytes}
use Rattle.fsl_order.specs.Names.{bytes_cmp, dated_cmp}
use Rattle.fsl_order.specs.Rows.{keyed, in_order, greatest, AreDistinct}
use Rattle.fsl_order.proofs.Gathered.{in_order-filter_map, in_order-filter, distinct-given, distinct-filter}
use Rattle.fsl_order.proofs.MovedLemmas.{IsPermutation-in_order}
use Rattle.fsl_order.proofs.Orders.{bytes_cmp-IsTotalOrder, dated_cmp-IsTotalOrder, dated_cmp-IsAntisymmetric}
use Rattle.fsl_order.proofs.Places.{distinct-places, dated-other}
use Rattle.fsl_order.proofs.RowLemmas.{is_sorted-keyed}
use Rattle.fsl_order.proofs.SortedLemmas.{in_order-from_sort}
use Rattle.fsl_table.specs.Contents.{value_at, first_of}
use Rattle.fsl_table.specs.Placed.{items_at, put_item}
use Rattle.fsl_table.specs.Within.{within}
use Rattle.fsl_table.proofs.Gathered.{items_are}
use Rattle.fsl_wiki.specs.declared.Page.{Page}
use Rattle.fsl_wiki.specs.declared.Attached.{Attached}
use Rattle.fsl_wiki.specs.declared.Fact.{Fact}
use Rattle.fsl_wiki.specs.declared.Fact.TheVariants as fact
use Rattle.fsl_wiki.specs.declared.entry.Entry.{Entry}
use Rattle.fsl_wiki.specs.Groups.{group_cmp, page_group}
use Rattle.fsl_wiki.specs.Late.{late_cmp, late_cmp-IsTotalOrder, late_cmp-exact}
use Rattle.fsl_wiki.specs.Pages.{fact_name, as_page, as_attached, history, current}
use Rattle.fsl_wiki.specs.Kept.{Lines, Rows, IsKept, fact_of, fact_at, facts_of, group_of, place_of, date_of, item, file_item, file_place, name_in, page_at, page_in, file_at, first_file, first_of_file}
use Rattle.fsl_wiki.proofs.Canonical.{own_file}
use Rattle.fsl_wiki.proofs.Latest.{items_of, distinct_versions, first_in_order}
use Rattle.fsl_wiki.proofs.Moved.{attached_name}
use Rattle.fsl_wiki.proofs.Standing.{of_page, distinct_facts}

-- ---- lists from the end

module _ {X : Type 0} where
  rev_cons : (x : X) (xs : List X) → reverse (x ∷ xs) ≡ reverse xs ++ x ∷ []
  rev_cons x xs = reverse-append (x ∷ []) xs

  all_push : (P : X → Type 0) (xs : List X) (x : X) → AllByRecursion P xs → P x → AllByRecursion P (xs ++ x ∷ [])
  all_push P [] x h p = (p, tt)
  all_push P (y ∷ xs) x h p = (h.0, all_push P xs x h.1 p)

  all_reverse : (P : X → Type 0) (xs : List X) → AllByRecursion P xs → AllByRecursion P (reverse xs)
  all_reverse P [] h = tt
  all_reverse P (x ∷ xs) h = subst (AllByRecursion P) (sym (rev_cons x xs)) (all_push P (reverse xs) x (all_reverse P xs h.1) h.0)

  module _ (R : X → X → Ordering) where
    sorted_push : (xs : List X) (x : X) → IsStrictlySortedBy R xs → AllByRecursion (λ y. R y x ≡ Less) xs → IsStrictlySortedBy R (xs ++ x ∷ [])
    unfolding IsStrictlySortedBy
    sorted_push [] x h a = (tt, tt)
    sorted_push (y ∷ xs) x h a = (all_push (λ z. R y z ≡ Less) xs x h.0 a.0, sorted_push xs x h.1 a.1)

    sorted_reverse : (xs : List X) → IsStrictlySortedBy (λ a b. R b a) xs → IsStrictlySortedBy R (reverse xs)
    unfolding IsStrictlySortedBy
    sorted_reverse [] h = tt
    sorted_reverse (x ∷ xs) h = subst (IsStrictlySortedBy R) (sym (rev_cons x xs)) (sorted_push (reverse xs) x (sorted_reverse xs h.1) (all_reverse (λ y. R y x ≡ Less) xs h.0))

append_none : {X : Type 0} (xs : List X) → xs ++ [] ≡ xs
append_none [] = refl
append_none (x ∷ xs) = ap (λ l. x ∷ l) (append_none xs)

rev_filter : {X Y : Type 0} (h : X → Option Y) (xs : List X) → filter_map h (reverse xs) ≡ reverse (filter_map h xs)
rev_filter h [] = refl
rev_filter h (x ∷ xs) =
    ap (filter_map h) (rev_cons x xs) ∙ filter_map-append h (reverse xs) (x ∷ [])
    ∙ ap (λ l. l ++ cons_option (h x) []) (rev_filter h xs)
    ∙ by (h x)
  where
    by : (o : Option _) → reverse (filter_map h xs) ++ cons_option o [] ≡ reverse (cons_option o (filter_map h xs))
    by None = append_none (reverse (filter_map h xs))
    by (Some y) = sym (rev_cons y (filter_map h xs))

map_push : {X Y : Type 0} (f : X → Y) (xs : List X) (x : X) → map f (xs ++ x ∷ []) ≡ map f xs ++ f x ∷ []
map_push f [] x = refl
map_push f (y ∷ xs) x = ap (λ l. f y ∷ l) (map_push f xs x)

rev_map : {X Y : Type 0} (f : X → Y) (xs : List X) → map f (reverse xs) ≡ reverse (map f xs)
rev_map f [] = refl
rev_map f (x ∷ xs) = ap (map f) (rev_cons x xs) ∙ map_push f (reverse xs) x ∙ ap (λ l. l ++ f x ∷ []) (rev_map f xs) ∙ sym (rev_cons (f x) (map f xs))

-- ---- items in the falling order, from the end

both_left : (a b : Bool) → T (a && b) → T a
both_left true b h = tt
both_left false b h = h

both_right : (a b : Bool) → T (a && b) → T b
both_right true b h = h
both_right false b h = absurd h

less : (r : Ordering) → T (is_lt r) → r ≡ Less
less Less h = refl
less Equal h = absurd h
less Greater h = absurd h

module _ {K X : Type 0} (R : K → K → Ordering) where
  all_below : (k : K) (es : List (K × X)) → T (below_all R k es) → AllByRecursion (λ y. R k y ≡ Less) (keys_of es)
  all_below k [] h = tt
  all_below k (e ∷ es) h = (less (R k e.0) (both_left (is_lt (R k e.0)) (below_all R k es) h), all_below k es (both_right (is_lt (R k e.0)) (below_all R k es) h))

  sorted_from : (es : List (K × X)) → T (is_sorted R es) → IsStrictlySortedBy R (keys_of es)
  unfolding IsStrictlySortedBy
  sorted_from [] h = tt
  sorted_from (e ∷ es) h = (all_below e.0 es (both_left (below_all R e.0 es) (is_sorted R es) h), sorted_from es (both_right (below_all R e.0 es) (is_sorted R es) h))

  module _ (exact : (x y : K) → R x y ≡ Equal → x ≡ y) (key : X → K) where
    put_own : (x : X) (es : List (K × X)) → AllByRecursion (λ e. e.0 ≡ key e.1) es → AllByRecursion (λ e. e.0 ≡ key e.1) (put R (key x) x es)
    put_own x [] h = (refl, tt)
    put_own x (e ∷ es) h =
        elim (R (key x) e.0) as (λ r. R (key x) e.0 ≡ r → AllByRecursion (λ e. e.0 ≡ key e.1) (by_order r ((key x, x) ∷ e ∷ es) ((e.0, x) ∷ es) (e ∷ put R (key x) x es))) [
          | Less ↦ λ _. (refl, h)
          | Equal ↦ λ t. (sym (exact (key x) e.0 t), h.1)
          | Greater ↦ λ _. (h.0, put_own x es h.1)
        ] refl

    keyed_own : (xs : List X) → AllByRecursion (λ e. e.0 ≡ key e.1) (keyed R key xs)
    keyed_own [] = tt
    keyed_own (x ∷ xs) = put_own x (keyed R key xs) (keyed_own xs)

    keys_are : (es : List (K × X)) → AllByRecursion (λ e. e.0 ≡ key e.1) es → keys_of es ≡ map key (map (λ e. e.1) es)
    keys_are [] h = refl
    keys_are (e ∷ es) h = λ i. h.0 i ∷ keys_are es h.1 i

    sorted_items : IsTotalOrder R → (xs : List X) → IsStrictlySortedBy R (map key (in_order R key xs))
    sorted_items o xs = subst (IsStrictlySortedBy R) (keys_are (keyed R key xs) (keyed_own xs)) (sorted_from (keyed R key xs) (is_sorted-keyed o key xs))

module _ {Y : Type 0} (date : Y → ℕ) (name : Y → List ℕ) where
  abbrev place : Y → ℕ × List ℕ
  place y = (date y, name y)

  pub late_places : (ys : List Y) → AreDistinct (map name ys) → IsDistinct (eq_by_cmp late_cmp) (map place ys)
  late_places ys d = distinct-places late_cmp place late_cmp-IsTotalOrder late_cmp-exact name (λ x y h. dated-other (date y) (date x) (name y) (name x) (nat_list_eq_equiv.symm (name y) (name x) ∙ h)) ys d

  dated_places : (ys : List Y) → AreDistinct (map name ys) → IsDistinct (eq_by_cmp dated_cmp) (map place ys)
  dated_places ys d = distinct-places dated_cmp place dated_cmp-IsTotalOrder dated_cmp-IsAntisymmetric name (λ x y h. dated-other (date x) (date y) (name x) (name y) h) ys d

  pub from_the_end : (ys : List Y) → AreDistinct (map name ys) → reverse (in_order late_cmp place ys) ≡ in_order dated_cmp place ys
  from_the_end ys d =
      let l = in_order late_cmp place ys in
      in_order-from_sort dated_cmp place dated_cmp-IsTotalOrder dated_cmp-IsAntisymmetric ys (reverse l) (dated_places ys d)
      (IsPermutation-trans ys l (reverse l) (IsPermutation-in_order late_cmp late_cmp-IsTotalOrder place ys (late_places ys d)) (IsPermutation-reverse l))
      (subst (IsStrictlySortedBy dated_cmp) (sym (rev_map place l)) (sorted_reverse dated_cmp (map place l) (sorted_items late_cmp late_cmp-exact place late_cmp-IsTotalOrder ys)))

-- ---- pages

page_given : (f : Fact) (p : Page) → as_page f ≡ Some p → (p.date, p.name) ≡ place_of f
page_given (fact.Page q) p e = let same : q ≡ p = cc in ap (λ p. (p.date, p.name)) (sym same)
page_given (fact.Note n) p e = cc
page_given (fact.Attached a) p e = cc

page_named : (f : Fact) (p : Page) → as_page f ≡ Some p → p.name ≡ fact_name f
page_named f p e = ap (λ q. q.1) (page_given f p e)

pages_again : (ys : List Page) → filter_map as_page (map fact.Page ys) ≡ ys
pages_again [] = refl
pages_again (y ∷ ys) = ap (λ l. y ∷ l) (pages_again ys)

pages_at : (es : Lines) (ws : List ((ℕ × List ℕ) × Unit {0})) → filter_map (λ p. page_at es p.1) (keys_of ws) ≡ filter_map as_page (items_at name_in item es ws)
pages_at es [] = refl
pages_at es (w ∷ ws) = by (pages_at es ws) (value_at bytes_cmp w.0.1 es)
  where
    by : filter_map (λ p. page_at es p.1) (keys_of ws) ≡ filter_map as_page (items_at name_in item es ws) → (o : Option Entry)
        → cons_option (option_and_then (page_in w.0.1) o) (filter_map (λ p. page_at es p.1) (keys_of ws)) ≡ filter_map as_page (put_item (option_and_then (λ e. item (w.0.1, e)) o) (items_at name_in item es ws))
    by rest None = rest
    by rest (Some e) = ap (cons_option (as_page (fact_at w.0.1 e))) rest

module _ (r : Rows) (k : IsKept r) (title : List ℕ) where
  abbrev pages : List Page
  pages = filter (λ p. bytes_eq p.title title) (filter_map as_page (facts_of r.facts.entries))

  abbrev versions : List Fact
  versions = filter (λ f. is_eq (group_cmp (page_group title) (group_of f))) (facts_of r.facts.entries)

  pub pages_are : filter_map (λ p. page_at r.facts.entries p.1) (reverse (keys_of (within group_cmp (page_group title) r.spots.entries))) ≡ history (facts_of r.facts.entries) title
  pages_are =
      let es = r.facts.entries in
      let ws = within group_cmp (page_group title) r.spots.entries in
      let fs = facts_of es in
      let given : filter_map as_page versions ≡ pages = ap (filter_map as_page) (of_page title fs) ∙ pages_again pages in
      rev_filter (λ p. page_at es p.1) (keys_of ws)
      ∙ ap reverse (pages_at es ws ∙ ap (filter_map as_page) (items_of r k (page_group title))
      ∙ sym (in_order-filter_map late_cmp late_cmp-IsTotalOrder as_page place_of (λ p. (p.date, p.name)) page_given versions (late_places date_of fact_name versions (distinct_versions r k (page_group title))))
      ∙ ap (in_order late_cmp (λ p. (p.date, p.name))) given)
      ∙ from_the_end (λ p. p.date) (λ p. p.name) pages
      (subst (λ l. AreDistinct (map (λ p. p.name) l)) given (distinct-given as_page fact_name (λ p. p.name) page_named versions (distinct_versions r k (page_group title))))

-- ---- attachments

files_given : (es : Lines) → filter_map file_item es ≡ filter_map as_attached (facts_of es)
files_given [] = refl
files_given (e ∷ es) = ap (cons_option (as_attached (fact_of e))) (files_given es)

first_given : (es : Lines) (file : List ℕ) (ws : List ((ℕ × List ℕ) × Unit {0})) → first_of_file es file (keys_of ws) ≡ first_of (filter (λ a. bytes_eq a.file file) (items_at name_in file_item es ws))
first_given es file [] = refl
first_given es file (w ∷ ws) =
    ap (option_or (first_file (file_at es w.0.1) file)) (first_given es file ws) ∙ by (file_at es w.0.1) (items_at name_in file_item es ws)
  where
    by : (o : Option Attached) (l : List Attached) → option_or (first_file o file) (first_of (filter (λ a. bytes_eq a.file file) l)) ≡ first_of (filter (λ a. bytes_eq a.file file) (put_item o l))
    by None l = refl
    by (Some a) l =
        elim (bytes_eq a.file file) as (λ b. option_or (if b then Some a else None) (first_of (filter (λ a. bytes_eq a.file file) l)) ≡ first_of (cond b (a ∷ filter (λ a. bytes_eq a.file file) l) (filter (λ a. bytes_eq a.file file) l))) [ true ↦ refl | false ↦ refl ]

both_tests : {Y : Type 0} (p q : Y → Bool) (ys : List Y) → filter q (filter p ys) ≡ filter (λ y. p y && q y) ys
both_tests p q [] = refl
both_tests p q (y ∷ ys) =
    elim (p y) as (λ b. filter q (cond b (y ∷ filter p ys) (filter p ys)) ≡ cond (b && q y) (y ∷ filter (λ y. p y && q y) ys) (filter (λ y. p y && q y) ys)) [
      | true ↦ ap (λ l. cond (q y) (y ∷ l) l) (both_tests p q ys)
      | false ↦ both_tests p q ys
    ]

module _ (r : Rows) (k : IsKept r) (target file : List ℕ) where
  abbrev files : List Attached
  files = filter_map as_attached (facts_of r.facts.entries)

  abbrev of_target : List Attached
  of_target = filter (λ a. bytes_eq a.target target) files

  files_distinct : AreDistinct (map (λ a. a.name) files)
  files_distinct = distinct-given as_attached fact_name (λ a. a.name) attached_name (facts_of r.facts.entries) (distinct_facts r.facts.entries k.ordered)

  pub file_is : first_of_file r.facts.entries file (keys_of (within bytes_cmp target r.targets.entries)) ≡ current (facts_of r.facts.entries) target file
  file_is =
      let es = r.facts.entries in
      let some = distinct-filter (λ a. bytes_eq a.target target) (λ a. a.name) files files_distinct in
      first_given es file (within bytes_cmp target r.targets.entries)
      ∙ ap (λ l. first_of (filter (λ a. bytes_eq a.file file) l))
      (items_are bytes_cmp late_cmp bytes_cmp-IsTotalOrder late_cmp-IsTotalOrder exact_bytes late_cmp-exact name_in file_item (λ a. a.target) file_place own_file es r.targets.entries k.ordered k.targets_ordered k.targets target
      ∙ (λ i. in_order late_cmp file_place (filter (λ a. (sym (texts_ties target a.target) ∙ nat_list_eq_equiv.symm target a.target) i) (files_given es i))))
      ∙ ap first_of (sym (in_order-filter (λ a. bytes_eq a.file file) file_place late_cmp late_cmp-IsTotalOrder of_target (late_places (λ a. a.date) (λ a. a.name) of_target some)))
      ∙ first_in_order file_place (λ a. a.name) (λ a. refl) (filter (λ a. bytes_eq a.file file) of_target) (distinct-filter (λ a. bytes_eq a.file file) (λ a. a.name) of_target some)
      ∙ ap (greatest (on file_place dated_cmp)) (both_tests (λ a. bytes_eq a.target target) (λ a. bytes_eq a.file file) files)
