-- The tip, found among the names on which the tag of a symbolic name is in force.
use Rattle.std.proofs.Common.{◌≡◌, ℕ, ◌+◌, ◌<◌, Bool, true, false, cond, List, [], ◌∷◌, ◌++◌, length, Option, Some, None, map, filter, take, get_or, refl, sym, ap, ◌∙◌, subst}
use Rattle.std.specs.Prelude.{◌&&◌, ◌||◌, filter_map, is_some, IfSome, T, option_map, option_and_then, codes}
use Rattle.std.specs.List.{AllByRecursion, cons_option}
use Rattle.std.specs.List.Sorted.{IsStrictlySortedBy}
use Rattle.std.specs.Ordering.{is_lt}
use Rattle.std.specs.declared.cmp.Ordering.TheVariants.{Less}
use Rattle.std.specs.FinMap.{is_sorted}
use Rattle.std.specs.FinMap.Entries.{below_all}
use Rattle.std.specs.Str.{bytes_eq}
use Rattle.std.proofs.lemmas.List.{take_more, append_assoc}
use Rattle.std.proofs.lemmas.List.Elements.{filter_map-append}
use Rattle.std.proofs.lemmas.List.Folds.{list_any-append}
use Rattle.fsl_order.specs.Names.{bytes_cmp, has, dated_cmp}
use Rattle.fsl_order.specs.Rows.{keyed, ascending, named, greater, greatest}
use Rattle.fsl_order.proofs.Orders.{bytes_cmp-IsTotalOrder, dated_cmp-IsTotalOrder, less_from}
use Rattle.fsl_order.proofs.RowLemmas.{is_sorted-keyed, is_some-named, has-filter}
use Rattle.fsl_order.proofs.AscendingLemmas.{itself, Twins-keyed, twin_parts, has-ascending}
use Rattle.fsl_order.proofs.GreatestLemmas.{greatest-append}
use Rattle.fsl_order.proofs.SortedLemmas.{ascending-from, same_names}
use Rattle.fsl_name.proofs.Rising.{rising-filter, named-own}
use Rattle.fsl_manifest.specs.declared.Manifest.{Manifest}
use Rattle.fsl_artifact.specs.declared.Artifact.TheVariants as kind
use Rattle.fsl_tags.specs.declared.Fact as tags
use Rattle.fsl_tags.specs.declared.Assertion.{Assertion}
use Rattle.fsl_tags.specs.Tags.{assertions, force, holders}
use Rattle.fsl_cross.specs.declared.Item.{Item}
use Rattle.fsl_links.specs.Links.{primary}
use Rattle.fsl_cross.specs.Facts.{as_manifest, tag_cards}
use Rattle.fsl_cross.specs.Facts.{assertions as cards_of}
use Rattle.fsl_cross.specs.Checkins.{links_facts, tags_fact, tags_facts, checkin, date, has_symbol, tip}
use Rattle.fsl_cross.specs.Inside.{dated_over}
use Rattle.fsl_cross.proofs.Mapped.{named-has, named-given, rising-given}
use Rattle.fsl_cross.proofs.Moved.{item_name}
use Rattle.fsl_cross.proofs.FactLemmas.{Rise, tags-named}

-- ---- a name more

-- the greatest of what the names give that were passed
pub greatest-next : {X : Type 0} (give : X → Option (ℕ × List ℕ)) (xs : List X) (i : ℕ) (x : X) (best next found : Option (ℕ × List ℕ)) → i < length xs → x ≡ get_or xs i x
    → best ≡ greatest dated_cmp (filter_map give (take i xs)) → found ≡ give x → next ≡ greater dated_cmp best found → next ≡ greatest dated_cmp (filter_map give (take (i + 1) xs))
greatest-next give xs i x best next found lt is so gives step =
    step ∙ (λ j. greater dated_cmp (so j) (gives j)) ∙ ap (greater dated_cmp (greatest dated_cmp (filter_map give (take i xs)))) (sym (one (give x)))
    ∙ sym (ap (λ l. greatest dated_cmp (filter_map give l)) (take_more xs i x lt ∙ ap (λ y. take i xs ++ y ∷ []) (sym is))
    ∙ ap (greatest dated_cmp) (filter_map-append give (take i xs) (x ∷ []))
    ∙ greatest-append dated_cmp dated_cmp-IsTotalOrder (filter_map give (take i xs)) (filter_map give (x ∷ [])))
  where
    one : (o : Option (ℕ × List ℕ)) → greatest dated_cmp (cons_option o []) ≡ o
    one None = refl
    one (Some c) = refl

-- ---- ascending names rise

first-holds : (a b : Bool) → T (a && b) → a ≡ true
first-holds true b h = refl
first-holds false b h = absurd h

second-holds : (a b : Bool) → T (a && b) → T b
second-holds true b h = h
second-holds false b h = absurd h

T-from : (b : Bool) → b ≡ true → T b
T-from true e = tt
T-from false e = cc

below-rising : (k : List ℕ) (es : List (List ℕ × List ℕ)) → T (below_all bytes_cmp k es) → AllByRecursion (λ y. bytes_cmp k y ≡ Less) (map (λ e. e.0) es)
below-rising k [] h = tt
below-rising k (e ∷ es) h =
    (less_from (bytes_cmp k e.0) (first-holds (is_lt (bytes_cmp k e.0)) (below_all bytes_cmp k es) h), below-rising k es (second-holds (is_lt (bytes_cmp k e.0)) (below_all bytes_cmp k es) h))

keys-rising : (es : List (List ℕ × List ℕ)) → T (is_sorted bytes_cmp es) → IsStrictlySortedBy bytes_cmp (map (λ e. e.0) es)
unfolding IsStrictlySortedBy
keys-rising [] h = tt
keys-rising (e ∷ es) h =
    (below-rising e.0 es (T-from (below_all bytes_cmp e.0 es) (first-holds (below_all bytes_cmp e.0 es) (is_sorted bytes_cmp es) h)), keys-rising es (second-holds (below_all bytes_cmp e.0 es) (is_sorted bytes_cmp es) h))

ascending-rises : (names : List (List ℕ)) → IsStrictlySortedBy bytes_cmp (ascending names)
ascending-rises names =
    let es = keyed bytes_cmp itself names in
    subst (IsStrictlySortedBy bytes_cmp) (sym (twin_parts es (Twins-keyed names))) (keys-rising es (is_sorted-keyed bytes_cmp-IsTotalOrder itself names))

-- ---- tests of names

-- those that pass a test rise too
filter-rises : (p : List ℕ → Bool) (xs : List (List ℕ)) → IsStrictlySortedBy bytes_cmp xs → IsStrictlySortedBy bytes_cmp (filter p xs)
filter-rises p xs h = subst (IsStrictlySortedBy bytes_cmp) (same_names (filter p xs)) (rising-filter (λ name. name) p xs (subst (IsStrictlySortedBy bytes_cmp) (sym (same_names xs)) h))

-- names that give nothing are left out
given-filtered : {Y : Type 0} (give : List ℕ → Option Y) (p : List ℕ → Bool) → ((q : List ℕ) → p q ≡ is_some (give q)) → (xs : List (List ℕ)) → filter_map give (filter p xs) ≡ filter_map give xs
given-filtered give p same [] = refl
given-filtered {Y = Y} give p same (x ∷ xs) = ap (λ b. filter_map give (cond b (x ∷ filter p xs) (filter p xs))) (same x) ∙ by (give x) refl (given-filtered give p same xs)
  where
    by : (o : Option Y) → give x ≡ o → filter_map give (filter p xs) ≡ filter_map give xs → filter_map give (cond (is_some o) (x ∷ filter p xs) (filter p xs)) ≡ cons_option o (filter_map give xs)
    by None e rest = rest
    by (Some y) e rest = (λ i. cons_option (e i) (rest i))

is_some-map : {X Y : Type 0} (f : X → Y) (o : Option X) → is_some (option_map f o) ≡ is_some o
is_some-map f None = refl
is_some-map f (Some x) = refl

-- ---- the holders of a symbolic name

module _ (items : List Item) (rise : Rise items) (symbol : List ℕ) where
  abbrev facts : List tags.Fact
  facts = tags_facts items

  abbrev tag : List ℕ
  tag = codes "sym-" ++ symbol

  abbrev holds : List ℕ → Bool
  holds q = is_some (force facts q tag)

  abbrev manifest_of : Item → Option Manifest
  manifest_of item = as_manifest item.artifact

  abbrev is_checkin : List ℕ → Bool
  is_checkin q = is_some (checkin items q)

  -- a check-in that has the symbolic name
  abbrev kept : Item → Option Item
  kept item = cond (holds item.name && is_some (manifest_of item)) (Some item) None

  kept-own : (item : Item) → IfSome (kept item) (λ i. i.name ≡ item.name)
  kept-own item = elim (holds item.name && is_some (manifest_of item)) as (λ b. IfSome (cond b (Some item) None) (λ (i : Item). i.name ≡ item.name)) [ true ↦ refl | false ↦ tt ]

  abbrev kept_names : List (List ℕ)
  kept_names = map item_name (filter_map kept items)

  is_some-kept : (item : Item) → is_some (kept item) ≡ (holds item.name && is_some (manifest_of item))
  is_some-kept item = elim (holds item.name && is_some (manifest_of item)) as (λ b. is_some (cond b (Some item) None) ≡ b) [ true ↦ refl | false ↦ refl ]

  and-none : (b : Bool) → (b && false) ≡ false
  and-none true = refl
  and-none false = refl

  has-kept : (q : List ℕ) → has kept_names q ≡ (holds q && is_checkin q)
  has-kept q =
      sym (is_some-named item_name (filter_map kept items) q) ∙ ap is_some (named-given item_name item_name kept kept-own items rise q)
      ∙ elim (named item_name items q) as (λ o. named item_name items q ≡ o → is_some (option_and_then kept o) ≡ (holds q && is_some (option_and_then manifest_of o))) [
        | None ↦ λ _. sym (and-none (holds q))
        | Some item ↦ λ e. is_some-kept item ∙ ap (λ n. holds n && is_some (manifest_of item)) (named-has item_name items q item e)
      ] refl

  -- a check-in has a fact of tags
  fact-there : (item : Item) → is_some (manifest_of item) ≡ true → is_some (tags_fact items item) ≡ true
  fact-there item =
      elim item.artifact as (λ a. is_some (as_manifest a) ≡ true
      → is_some (option_map (λ cards. let g : tags.Fact = record { name = item.name; checkin = is_some (as_manifest item.artifact); parent = primary (links_facts items) item.name; tags = cards_of item cards } in g) (tag_cards a)) ≡ true) [
        | kind.Manifest m ↦ λ e. refl
        | kind.Plain ↦ λ e. cc
        | kind.Cluster m ↦ λ e. cc
        | kind.Control m ↦ λ e. cc
        | kind.Wiki m ↦ λ e. cc
        | kind.Ticket m ↦ λ e. cc
        | kind.Attachment m ↦ λ e. cc
        | kind.Technote m ↦ λ e. cc
        | kind.Forum m ↦ λ e. cc
      ]

  there : (q : List ℕ) → is_checkin q ≡ true → has (map (λ f. f.name) facts) q ≡ true
  there q =
      elim (named item_name items q) as (λ o. named item_name items q ≡ o → is_some (option_and_then manifest_of o) ≡ true → has (map (λ (f : tags.Fact). f.name) facts) q ≡ true) [
        | None ↦ λ _ e. cc
        | Some item ↦ λ found e.
            sym (is_some-named (λ (f : tags.Fact). f.name) facts q) ∙ ap is_some (tags-named items rise q ∙ ap (option_and_then (tags_fact items)) found) ∙ fact-there item e
      ] refl

  abbrev subjects : List (List ℕ)
  subjects = map (λ f. f.name) facts ++ map (λ a. a.target) (assertions facts)

  -- a check-in on which the tag is in force is among the holders
  holders-has : (q : List ℕ) → has (filter is_checkin (holders facts tag)) q ≡ (holds q && is_checkin q)
  holders-has q =
      has-filter is_checkin (holders facts tag) q ∙ ap (λ b. b && is_checkin q) (has-ascending (filter holds subjects) q ∙ has-filter holds subjects q)
      ∙ elim (is_checkin q) as (λ b. is_checkin q ≡ b → ((has subjects q && holds q) && b) ≡ (holds q && b)) [
        | true ↦ λ e. ap (λ b. (b && holds q) && true) (list_any-append (bytes_eq q) (map (λ f. f.name) facts) (map (λ a. a.target) (assertions facts)) ∙ ap (λ b. b || has (map (λ (a : Assertion). a.target) (assertions facts)) q) (there q e))
        | false ↦ λ e. and-none (has subjects q && holds q) ∙ sym (and-none (holds q))
      ] refl

  -- the holders that are check-ins are the check-ins that have the symbolic name
  holders-kept : filter is_checkin (holders facts tag) ≡ kept_names
  holders-kept =
      ascending-from kept_names (filter is_checkin (holders facts tag)) (filter-rises is_checkin (holders facts tag) (ascending-rises (filter holds subjects))) (λ q. holders-has q ∙ sym (has-kept q))
      ∙ sym (ascending-from kept_names kept_names (rising-given item_name item_name kept kept-own items rise) (λ q. refl))

  abbrev dated : List ℕ → Option (ℕ × List ℕ)
  dated q = dated_over facts items q

  abbrev with_date : Item → Option (ℕ × List ℕ)
  with_date item = option_map (λ m. (date items item.name m, item.name)) (as_manifest item.artifact)

  abbrev symbolic : Item → Bool
  symbolic item = has_symbol items symbol item.name

  kept-dated : (xs ys : List Item) → xs ++ ys ≡ items → filter_map dated (map item_name (filter_map kept ys)) ≡ filter_map with_date (filter symbolic ys)
  kept-dated xs [] cut = refl
  kept-dated xs (y ∷ ys) cut =
      by (holds y.name) (manifest_of y)
      (ap (λ o. option_map (λ (m : Manifest). (date items y.name m, y.name)) (option_and_then manifest_of o)) own) refl (kept-dated (xs ++ y ∷ []) ys (append_assoc xs (y ∷ []) ys ∙ cut))
      ∙ ap (λ b. filter_map with_date (cond b (y ∷ filter symbolic ys) (filter symbolic ys))) (sym (is_some-map (λ (a : Assertion). a.value) (force facts y.name tag)))
    where
      own : named item_name items y.name ≡ Some y
      own = subst (λ l. named item_name l y.name ≡ Some y) cut (named-own item_name xs y ys (subst Rise (sym cut) rise))

      by : (b : Bool) (o : Option Manifest) → dated y.name ≡ option_map (λ m. (date items y.name m, y.name)) o → with_date y ≡ option_map (λ m. (date items y.name m, y.name)) o
          → filter_map dated (map item_name (filter_map kept ys)) ≡ filter_map with_date (filter symbolic ys)
          → filter_map dated (map item_name (cons_option (cond (b && is_some o) (Some y) None) (filter_map kept ys))) ≡ filter_map with_date (cond b (y ∷ filter symbolic ys) (filter symbolic ys))
      by false o d p rest = rest
      by true None d p rest = rest ∙ ap (λ o. cons_option o (filter_map with_date (filter symbolic ys))) (sym p)
      by true (Some m) d p rest = λ i. cons_option ((d ∙ sym p) i) (rest i)

  pub tip-is : option_map (λ c. c.1) (greatest dated_cmp (filter_map (dated_over facts items) (holders facts tag))) ≡ tip items symbol
  tip-is =
      ap (λ l. option_map (λ (c : ℕ × List ℕ). c.1) (greatest dated_cmp l))
      (sym (given-filtered dated is_checkin (λ q. sym (is_some-map (λ (m : Manifest). (date items q m, q)) (checkin items q))) (holders facts tag)) ∙ ap (filter_map dated) holders-kept ∙ kept-dated [] items refl)
