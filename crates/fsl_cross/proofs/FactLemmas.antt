-- The facts of a set whose items rise by name.
use Rattle.std.proofs.Common.{◌≡◌, ℕ, zero, suc, ◌+◌, ◌<◌, ◌≤◌, true, false, List, [], ◌∷◌, ◌++◌, length, Option, Some, None, map, take, get_or, refl, sym, ap, ◌∙◌, subst, arith}
use Rattle.std.specs.Prelude.{IfSome, IsTrue, filter_map, is_some, option_map, option_to_list, option_and_then, slice_get, slice_index}
use Rattle.std.specs.Option.{option_map_or}
use Rattle.std.specs.List.{AllByRecursion, cons_option, enumerate_from}
use Rattle.std.specs.List.Sorted.{IsStrictlySortedBy, IsStrictlyIncreasing}
use Rattle.std.proofs.lemmas.List.{length-map, take_more}
use Rattle.std.proofs.lemmas.List.{length-take-le}
use Rattle.std.proofs.lemmas.List.Elements.{All-from_recursion, filter_map-append}
use Rattle.fsl_order.specs.Names.{bytes_cmp}
use Rattle.fsl_order.specs.Rows.{by_name, named, AreDistinct}
use Rattle.fsl_grammar.specs.declared.TagCard.{TagCard}
use Rattle.fsl_artifact.specs.declared.Artifact.TheVariants.{Plain, Manifest, Cluster, Control, Wiki, Ticket, Attachment, Technote, Forum}
use Rattle.fsl_links.specs.declared.Fact as links
use Rattle.fsl_links.specs.Links as parentage
use Rattle.fsl_links.specs.Links.{primary}
use Rattle.fsl_tags.specs.declared.Fact as tags
use Rattle.fsl_tags.specs.declared.Assertion.{Assertion}
use Rattle.fsl_tags.specs.Tags.{IsTagFact, AreTagFacts}
use Rattle.fsl_leaves.specs.declared.Fact as leaves
use Rattle.fsl_cross.specs.declared.Item.{Item}
use Rattle.fsl_cross.specs.Facts.{as_manifest, tag_cards, assertion, assertion_on, assertions, links_fact, parent_names, target_of}
use Rattle.fsl_cross.specs.Checkins.{links_facts, tags_fact, tags_facts, branch}
use Rattle.fsl_cross.specs.Tables.{leaves_fact, leaves_facts, item_set}
use Rattle.fsl_cross.proofs.Mapped.{by_name-rising, by_name-given, distinct-given, named-given, named-has, given-all}
use Rattle.fsl_cross.proofs.Moved.{item_name}

abbrev pub Rise : List Item → Type 0
Rise items = IsStrictlySortedBy bytes_cmp (map item_name items)

-- ---- each fact has the name of its item

pub links_own : (item : Item) → IfSome (links_fact item) (λ f. f.name ≡ item.name)
links_own item = elim (as_manifest item.artifact) as (λ o. IfSome (option_map (λ m. let f : links.Fact = record { name = item.name; parents = parent_names m } in f) o) (λ f. f.name ≡ item.name)) [ None ↦ tt | Some m ↦ refl ]

pub tags_own : (items : List Item) (item : Item) → IfSome (tags_fact items item) (λ f. f.name ≡ item.name)
tags_own items item =
    elim (tag_cards item.artifact) as (λ o. IfSome (option_map (λ cards. let f : tags.Fact = record { name = item.name; checkin = is_some (as_manifest item.artifact); parent = primary (links_facts items) item.name; tags = assertions item cards } in f) o) (λ f. f.name ≡ item.name)) [
      | None ↦ tt
      | Some cards ↦ refl
    ]

pub leaves_own : (items : List Item) (item : Item) → IfSome (leaves_fact items item) (λ f. f.name ≡ item.name)
leaves_own items item =
    elim (as_manifest item.artifact) as (λ o. IfSome (option_map (λ m. let f : leaves.Fact = record { name = item.name; parents = parent_names m; branch = branch items item.name } in f) o) (λ f. f.name ≡ item.name)) [ None ↦ tt | Some m ↦ refl ]

-- ---- the facts stand by name

pub set-rising : (items : List Item) → Rise items → item_set items ≡ items
set-rising items h = by_name-rising item_name items h

pub links-by_name : (items : List Item) → Rise items → by_name (λ f. f.name) (links_facts items) ≡ links_facts items
links-by_name items h = by_name-given item_name (λ f. f.name) links_fact links_own items h

pub tags-by_name : (items : List Item) → Rise items → by_name (λ f. f.name) (tags_facts items) ≡ tags_facts items
tags-by_name items h = by_name-given item_name (λ f. f.name) (tags_fact items) (tags_own items) items h

pub leaves-by_name : (items : List Item) → Rise items → by_name (λ f. f.name) (leaves_facts items) ≡ leaves_facts items
leaves-by_name items h = by_name-given item_name (λ f. f.name) (leaves_fact items) (leaves_own items) items h

pub links-distinct : (items : List Item) → Rise items → AreDistinct (map (λ f. f.name) (links_facts items))
links-distinct items h = distinct-given item_name (λ f. f.name) links_fact links_own items h

pub leaves-distinct : (items : List Item) → Rise items → AreDistinct (map (λ f. f.name) (leaves_facts items))
leaves-distinct items h = distinct-given item_name (λ f. f.name) (leaves_fact items) (leaves_own items) items h

-- ---- the fact of a name

pub links-named : (items : List Item) → Rise items → (q : List ℕ) → named (λ f. f.name) (links_facts items) q ≡ option_and_then links_fact (named item_name items q)
links-named items h q = named-given item_name (λ f. f.name) links_fact links_own items h q

pub tags-named : (items : List Item) → Rise items → (q : List ℕ) → named (λ f. f.name) (tags_facts items) q ≡ option_and_then (tags_fact items) (named item_name items q)
tags-named items h q = named-given item_name (λ f. f.name) (tags_fact items) (tags_own items) items h q

-- ---- what the facts of tags meet

-- an artifact with a fact of parentage is a check-in
checkin-is : (items : List Item) (item : Item) (f : links.Fact) → links_fact item ≡ Some f → option_map_or (λ g. g.checkin) (tags_fact items item) false ≡ true
checkin-is items item f =
    elim item.artifact as (λ a. option_map (λ m. let g : links.Fact = record { name = item.name; parents = parent_names m } in g) (as_manifest a) ≡ Some f
    → option_map_or (λ g. g.checkin) (option_map (λ cards. let g : tags.Fact = record { name = item.name; checkin = is_some (as_manifest a); parent = primary (links_facts items) item.name; tags = assertions item cards } in g) (tag_cards a)) false ≡ true) [
      | Manifest m ↦ λ e. refl
      | Plain ↦ λ e. cc
      | Cluster m ↦ λ e. cc
      | Control m ↦ λ e. cc
      | Wiki m ↦ λ e. cc
      | Ticket m ↦ λ e. cc
      | Attachment m ↦ λ e. cc
      | Technote m ↦ λ e. cc
      | Forum m ↦ λ e. cc
    ]

-- .. and its fact of tags says so
fact-checkin : (items : List Item) (item : Item) (f : links.Fact) → links_fact item ≡ Some f → is_some (as_manifest item.artifact) ≡ true
fact-checkin items item f =
    elim (as_manifest item.artifact) as (λ o. option_map (λ m. let g : links.Fact = record { name = item.name; parents = parent_names m } in g) o ≡ Some f → is_some o ≡ true) [ None ↦ λ e. cc | Some m ↦ λ e. refl ]

-- the item behind a fact of parentage
behind : (items : List Item) → Rise items → (q : List ℕ) (f : links.Fact) → named (λ f. f.name) (links_facts items) q ≡ Some f → (item : Item) × (named item_name items q ≡ Some item) × (links_fact item ≡ Some f)
behind items h q f e =
    elim (named item_name items q) as (λ o. named item_name items q ≡ o → option_and_then links_fact o ≡ Some f → (item : Item) × (named item_name items q ≡ Some item) × (links_fact item ≡ Some f)) [
      | None ↦ λ _ r. cc
      | Some item ↦ λ found r. (item, found, r)
    ] refl (sym (links-named items h q) ∙ e)

-- a check-in's fact of tags is found as one
found-checkin : (items : List Item) → Rise items → (q : List ℕ) (f : links.Fact) → named (λ f. f.name) (links_facts items) q ≡ Some f → option_map_or (λ g. g.checkin) (named (λ g. g.name) (tags_facts items) f.name) false ≡ true
found-checkin items h q f e =
    let item = behind items h q f e in
    let same : f.name ≡ q = named-has (λ f. f.name) (links_facts items) q f e in
    ap (λ n. option_map_or (λ (g : tags.Fact). g.checkin) (named (λ g. g.name) (tags_facts items) n) false) same
    ∙ ap (λ o. option_map_or (λ (g : tags.Fact). g.checkin) o false) (tags-named items h q)
    ∙ ap (λ o. option_map_or (λ (g : tags.Fact). g.checkin) (option_and_then (tags_fact items) o) false) item.1
    ∙ checkin-is items item.0 f item.2

abbrev IsUp : List Item → Item → List ℕ → Type 0
IsUp items item up = IsTrue (is_some (as_manifest item.artifact)) × IsTrue (option_map_or (λ g. g.checkin) (named (λ g. g.name) (tags_facts items) up) false)

-- only a check-in has a primary parent, and that is there as one
child-fit : (items : List Item) → Rise items → (item : Item) → named item_name items item.name ≡ Some item → IfSome (primary (links_facts items) item.name) (IsUp items item)
child-fit items h item own =
    elim (named (λ f. f.name) (links_facts items) item.name) as (λ o. named (λ f. f.name) (links_facts items) item.name ≡ o
    → IfSome (option_map (λ (p : links.Fact). p.name) (option_and_then (parentage.checkin (links_facts items)) (option_and_then (λ (f : links.Fact). slice_get f.parents 0) o))) (IsUp items item)) [
      | None ↦ λ _. tt
      | Some f ↦ λ found.
          let mine : links_fact item ≡ Some f = sym (ap (option_and_then links_fact) own) ∙ sym (links-named items h item.name) ∙ found in
          let is : is_some (as_manifest item.artifact) ≡ true = fact-checkin items item f mine in
          elim (slice_get f.parents 0) as (λ o. IfSome (option_map (λ (p : links.Fact). p.name) (option_and_then (parentage.checkin (links_facts items)) o)) (IsUp items item)) [
            | None ↦ tt
            | Some first ↦ elim (parentage.checkin (links_facts items) first) as (λ o. parentage.checkin (links_facts items) first ≡ o → IfSome (option_map (λ (p : links.Fact). p.name) o) (IsUp items item)) [
              | None ↦ λ _. tt
              | Some p ↦ λ there. (is, found-checkin items h first p there)
            ] refl
          ]
    ] refl

-- the assertions of cards from a place on
abbrev said : ℕ → List ℕ → ℕ → List TagCard → List Assertion
said date source n cards = filter_map (assertion date source) (enumerate_from n cards)

-- what a card says, in front of what others say
said-more : (date : ℕ) (source : List ℕ) (n : ℕ) (card : TagCard) (cards : List TagCard) (P : List Assertion → Type 0) → P (said date source (n + 1) cards)
    → ((target : List ℕ) → P (assertion_on date source (n, card) target ∷ said date source (n + 1) cards)) → P (said date source n (card ∷ cards))
said-more date source n card cards P none some = by (target_of source card.target)
  where
    by : (o : Option (List ℕ)) → P (cons_option (option_map (assertion_on date source (n, card)) o) (said date source (n + 1) cards))
    by None = none
    by (Some target) = some target

-- places rise, from one on
abbrev rise-from : ℕ → List Assertion → Type 0
rise-from n [] = Unit {0}
rise-from n (a ∷ rest) = (n ≤ a.place) × rise-from (a.place + 1) rest

rise-later : (m n : ℕ) (xs : List Assertion) → m ≤ n → rise-from n xs → rise-from m xs
rise-later m n [] le h = tt
rise-later m n (a ∷ xs) le h = (omega (arith, le, h.0), h.1)

said-rise : (date : ℕ) (source : List ℕ) (n : ℕ) (cards : List TagCard) → rise-from n (said date source n cards)
said-rise date source n [] = tt
said-rise date source n (card ∷ cards) =
    let rest = said-rise date source (n + 1) cards in
    said-more date source n card cards (rise-from n) (rise-later n (n + 1) _ (omega arith) rest) (λ target. (omega arith, rest))

-- the number at a place
abbrev place_at : List Assertion → ℕ → ℕ
place_at xs k = slice_index (map (λ (a : Assertion). a.place) xs) k

next-rises : (n : ℕ) (xs : List Assertion) → rise-from n xs → (k : ℕ) → suc k < length xs → place_at xs k < place_at xs (suc k)
next-rises n [] h k lt = absurd (omega (arith, lt))
next-rises n (a ∷ []) h k lt = absurd (omega (arith, lt))
next-rises n (a ∷ b ∷ xs) h zero lt = omega (arith, h.1.0)
next-rises n (a ∷ b ∷ xs) h (suc k) lt = next-rises (a.place + 1) (b ∷ xs) h.1 k (omega (arith, lt))

places-rise : (n : ℕ) (xs : List Assertion) → rise-from n xs → IsStrictlyIncreasing (map (λ a. a.place) xs)
places-rise n xs h k lt =
    let next : suc k ≡ k + 1 = omega arith in
    let long = length-map xs (λ (a : Assertion). a.place) in
    subst (λ j. place_at xs k < place_at xs j) next (next-rises n xs h k (omega (arith, lt, long)))

said-sources : (date : ℕ) (source : List ℕ) (n : ℕ) (cards : List TagCard) → AllByRecursion (λ (a : Assertion). a.source ≡ source) (said date source n cards)
said-sources date source n [] = tt
said-sources date source n (card ∷ cards) =
    let rest = said-sources date source (n + 1) cards in
    said-more date source n card cards (AllByRecursion (λ (a : Assertion). a.source ≡ source)) rest (λ target. (refl, rest))

pub fact-fit : (items : List Item) → Rise items → (item : Item) → named item_name items item.name ≡ Some item → IfSome (tags_fact items item) (IsTagFact (tags_facts items))
fact-fit items h item own =
    elim (tag_cards item.artifact) as (λ o. IfSome (option_map (λ cards. let g : tags.Fact = record { name = item.name; checkin = is_some (as_manifest item.artifact); parent = primary (links_facts items) item.name; tags = assertions item cards } in g) o) (IsTagFact (tags_facts items))) [
      | None ↦ tt
      | Some cards ↦ record {
        child = child-fit items h item own;
        sources = All-from_recursion (λ (a : Assertion). a.source ≡ item.name) (assertions item cards) (said-sources cards.0 item.name 0 cards.1);
        places = places-rise 0 (assertions item cards) (said-rise cards.0 item.name 0 cards.1);
      }
    ]

-- the facts meet what the table of tags asks
pub tags-fit : (items : List Item) → Rise items → AreTagFacts (tags_facts items)
tags-fit items h = record {
  differ = distinct-given item_name (λ (f : tags.Fact). f.name) (tags_fact items) (tags_own items) items h;
  fit = given-all item_name (λ (f : tags.Fact). f.name) (tags_fact items) (tags_own items) (IsTagFact (tags_facts items)) [] items items refl h (fact-fit items h);
}

-- ---- a T card more

enumerate-append : {X : Type 0} (n : ℕ) (xs ys : List X) → enumerate_from n (xs ++ ys) ≡ enumerate_from n xs ++ enumerate_from (n + length xs) ys
enumerate-append n [] ys = ap (λ m. enumerate_from m ys) zero
  where
    zero : n ≡ n + 0
    zero = omega arith
enumerate-append n (x ∷ xs) ys = ap (λ l. (n, x) ∷ l) (enumerate-append (n + 1) xs ys ∙ ap (λ m. enumerate_from (n + 1) xs ++ enumerate_from m ys) later)
  where
    later : n + 1 + length xs ≡ n + length (x ∷ xs)
    later = omega arith

pub assertions-next : (date : ℕ) (source : List ℕ) (cards : List TagCard) (i : ℕ) (card : TagCard) → i < length cards → card ≡ get_or cards i card
    → filter_map (assertion date source) (enumerate_from 0 (take (i + 1) cards)) ≡ filter_map (assertion date source) (enumerate_from 0 (take i cards)) ++ option_to_list (assertion date source (i, card))
assertions-next date source cards i card lt is =
    ap (λ l. filter_map (assertion date source) (enumerate_from 0 l)) (take_more cards i card lt ∙ ap (λ c. take i cards ++ c ∷ []) (sym is))
    ∙ ap (filter_map (assertion date source)) (enumerate-append 0 (take i cards) (card ∷ []) ∙ ap (λ n. enumerate_from 0 (take i cards) ++ (n, card) ∷ []) passed)
    ∙ filter_map-append (assertion date source) (enumerate_from 0 (take i cards)) ((i, card) ∷ [])
    ∙ ap (λ l. filter_map (assertion date source) (enumerate_from 0 (take i cards)) ++ l) (only (assertion date source (i, card)))
  where
    passed : 0 + length (take i cards) ≡ i
    passed = let long = length-take-le i cards (omega (arith, lt)) in omega (arith, long)

    only : (o : Option Assertion) → cons_option o [] ≡ option_to_list o
    only None = refl
    only (Some a) = refl
