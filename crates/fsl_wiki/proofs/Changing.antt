-- Which rows differ where a fact is put.
use Rattle.std.proofs.Common.{◌≡◌, ◌≢◌, ℕ, List, [], ◌∷◌, Bool, true, false, cond, not, ◌||◌, ◌&&◌, if◌then◌else◌, Option, Some, None, filter, refl, sym, ap, subst, ◌∙◌}
use mathlib.Core.Bool.{true≢false, beq}
use Rattle.std.specs.Bool.{MatchBool}
use Rattle.std.specs.List.{filter_map, list_any}
use Rattle.std.specs.Option.{option_and_then, option_map_or}
use Rattle.std.specs.Str.{bytes_eq}
use Rattle.std.specs.Ordering.{is_eq, is_lt, match_ordering, on}
use Rattle.std.specs.List.Sorted.{IsStrictlySortedBy}
use Rattle.std.specs.Map.{keys_of}
use Rattle.std.specs.Cmp.{eq_by_cmp_equiv}
use Rattle.std.specs.Cmp.Lexicographic.{bytes_decides, nat_list_eq_equiv}
use Rattle.std.specs.declared.cmp.Ordering.{Ordering}
use Rattle.std.specs.declared.cmp.Ordering.TheVariants.{Less, Equal, Greater}
use Rattle.fsl_order.specs.Names.{bytes_cmp, dated_cmp, has}
use Rattle.fsl_order.specs.Rows.{ListsChanged, greater, greatest}
use Rattle.fsl_order.proofs.Orders.{bytes_cmp-IsTotalOrder}
use Rattle.fsl_order.proofs.Booleans.{and_true}
use Rattle.fsl_table.specs.Contents.{value_at, with_entry}
use Rattle.fsl_table.proofs.Entries.{sorted-insert_entry}
use Rattle.fsl_table.proofs.Finding.{value-with}
use Rattle.fsl_wiki.specs.declared.Fact.{Fact}
use Rattle.fsl_wiki.specs.declared.entry.Entry.{Entry}
use Rattle.fsl_wiki.specs.declared.entry.Entry.TheVariants as entry
use Rattle.fsl_wiki.specs.declared.entry.Row.{Row}
use Rattle.fsl_wiki.specs.declared.group.Group.{Group}
use Rattle.fsl_wiki.specs.Exact.{exact_group}
use Rattle.fsl_wiki.specs.Groups.{group_cmp}
use Rattle.fsl_wiki.specs.Pages.{fact_name, pages_row}
use Rattle.fsl_wiki.specs.Kept.{Lines, Spot, fact_of, fact_at, facts_of, group_of, group_in, place_of, latest, is_called, is_page, leads, before_all, race_in, race_at, row_by, row_in, same_row, in_one}
use Rattle.fsl_wiki.proofs.Canonical.{group_cmp-IsTotalOrder, group_is}
use Rattle.fsl_wiki.proofs.Standing.{any_given, row_is, triple, not_last}

-- ---- one that is current is of what it is current in

module _ {X : Type 0} (R : X → X → Ordering) (p t : X → Bool) where
  greatest_any : (xs : List X) → option_map_or t (greatest R (filter p xs)) false ≡ true → list_any (λ x. t x && p x) xs ≡ true
  greatest_any [] h = absurd (true≢false (sym h))
  greatest_any (x ∷ xs) h =
      elim (p x) as (λ b. option_map_or t (greatest R (cond b (x ∷ filter p xs) (filter p xs))) false ≡ true → ((t x && b) || list_any (λ x. t x && p x) xs) ≡ true) [
        | true ↦ λ h. first (greatest R (filter p xs)) (greatest_any xs) h
        | false ↦ λ h. later (t x) (list_any (λ x. t x && p x) xs) (greatest_any xs h)
      ] h
    where
      later : (b c : Bool) → c ≡ true → ((b && false) || c) ≡ true
      later true c h = h
      later false c h = h

      or_true : (b c : Bool) → c ≡ true → (b || c) ≡ true
      or_true true c h = refl
      or_true false c h = h

      own : (b c : Bool) → b ≡ true → ((b && true) || c) ≡ true
      own true c h = refl
      own false c h = absurd (true≢false (sym h))

      first : (o : Option X) → (option_map_or t o false ≡ true → list_any (λ x. t x && p x) xs ≡ true) → option_map_or t (greater R (Some x) o) false ≡ true → ((t x && true) || list_any (λ x. t x && p x) xs) ≡ true
      first None rest h = own (t x) (list_any (λ x. t x && p x) xs) h
      first (Some y) rest h =
          elim (is_lt (R x y)) as (λ b. t (if b then y else x) ≡ true → ((t x && true) || list_any (λ x. t x && p x) xs) ≡ true) [
            | true ↦ λ h. or_true (t x && true) (list_any (λ x. t x && p x) xs) (rest h)
            | false ↦ λ h. own (t x) (list_any (λ x. t x && p x) xs) h
          ] h

all_given : (fs : List Fact) → filter_map Some fs ≡ fs
all_given [] = refl
all_given (f ∷ fs) = ap (λ l. f ∷ l) (all_given fs)

same_name : (f g : Fact) → Some f ≡ Some g → fact_name g ≡ fact_name f
same_name f g h = let same : f ≡ g = cc in ap fact_name (sym same)

-- whether what may be there is of this
abbrev in_group : Group → Option Entry → Bool
in_group g None = false
in_group g (Some e) = is_eq (group_cmp g (group_in e))

module _ (es : Lines) (sorted : IsStrictlySortedBy bytes_cmp (keys_of es)) (q : List ℕ) where
  of_its_group : (s : Spot) → leads es q (Some s) ≡ true → in_group s.first (value_at bytes_cmp q es) ≡ true
  of_its_group s h =
      sym (by (value_at bytes_cmp q es))
      ∙ sym (any_given Some fact_name same_name (λ f. is_eq (group_cmp s.first (group_of f))) es q sorted)
      ∙ ap (list_any (λ f. bytes_eq (fact_name f) q && is_eq (group_cmp s.first (group_of f)))) (all_given (facts_of es))
      ∙ greatest_any (on place_of dated_cmp) (λ f. is_eq (group_cmp s.first (group_of f))) (λ f. bytes_eq (fact_name f) q) (facts_of es) h
    where
      by : (o : Option Entry) → option_map_or (λ f. is_eq (group_cmp s.first (group_of f))) (option_and_then (λ e. Some (fact_at q e)) o) false ≡ in_group s.first o
      by None = refl
      by (Some e) = ap (λ g. is_eq (group_cmp s.first g)) (group_is q e)

  elsewhere : (s : Spot) → in_group s.first (value_at bytes_cmp q es) ≡ false → leads es q (Some s) ≡ false
  elsewhere s h =
      elim (leads es q (Some s)) as (λ b. leads es q (Some s) ≡ b → b ≡ false) [
        | true ↦ λ t. absurd (true≢false (sym (of_its_group s t) ∙ h))
        | false ↦ λ t. refl
      ] refl

-- whether a key is of this
abbrev is_race : Option Spot → Group → Bool
is_race None g = false
is_race (Some s) g = is_eq (group_cmp s.first g)

equal : (r : Ordering) → is_eq r ≡ true → r ≡ Equal
equal Less h = absurd (true≢false (sym h))
equal Equal h = refl
equal Greater h = absurd (true≢false (sym h))

module _ (es : Lines) (sorted : IsStrictlySortedBy bytes_cmp (keys_of es)) (q : List ℕ) (x : Entry) (there : value_at bytes_cmp q es ≡ Some x) where
  lead_if : (s : Option Spot) → leads es q s ≡ (is_race s (group_in x) && leads es q (Some (before_all (group_in x))))
  lead_if None = refl
  lead_if (Some s) =
      elim (is_eq (group_cmp s.first (group_in x))) as (λ b. is_eq (group_cmp s.first (group_in x)) ≡ b → leads es q (Some s) ≡ (b && leads es q (Some (before_all (group_in x))))) [
        | true ↦ λ h. ap (λ g. is_called q (latest (facts_of es) g)) (exact_group s.first (group_in x) (equal (group_cmp s.first (group_in x)) h))
        | false ↦ λ h. elsewhere es sorted q s (ap (in_group s.first) there ∙ h)
      ] refl

-- ---- what a fact is no version of stays as it is

group_stays : (k : List ℕ) (e : Entry) (g : Group) → in_group g (Some e) ≡ false → (es : Lines) → in_group g (value_at bytes_cmp k es) ≡ false
    → filter (λ f. is_eq (group_cmp g (group_of f))) (facts_of (with_entry bytes_cmp k e es)) ≡ filter (λ f. is_eq (group_cmp g (group_of f))) (facts_of es)
group_stays k e g own [] h = ap (λ b. cond b (fact_at k e ∷ []) []) (ap (λ x. is_eq (group_cmp g x)) (group_is k e) ∙ own)
group_stays k e g own (x ∷ xs) h =
    let rest = filter (λ f. is_eq (group_cmp g (group_of f))) (facts_of xs) in
    let all = filter (λ f. is_eq (group_cmp g (group_of f))) (facts_of (x ∷ xs)) in
    elim (bytes_cmp k x.0) as (λ r. in_group g (cond (is_eq r) (Some x.1) (value_at bytes_cmp k xs)) ≡ false → filter (λ f. is_eq (group_cmp g (group_of f))) (facts_of (match_ordering r ((k, e) ∷ x ∷ xs) ((x.0, e) ∷ xs) (x ∷ with_entry bytes_cmp k e xs))) ≡ filter (λ f. is_eq (group_cmp g (group_of f))) (facts_of (x ∷ xs))) [
      | Less ↦ λ h. ap (λ b. cond b (fact_at k e ∷ all) all) (ap (λ x. is_eq (group_cmp g x)) (group_is k e) ∙ own)
      | Equal ↦ λ h. ap (λ b. cond b (fact_at x.0 e ∷ rest) rest) (ap (λ x. is_eq (group_cmp g x)) (group_is x.0 e) ∙ own) ∙ sym (ap (λ b. cond b (fact_of x ∷ rest) rest) (ap (λ y. is_eq (group_cmp g y)) (group_is x.0 x.1) ∙ h))
      | Greater ↦ λ h. ap (λ l. cond (is_eq (group_cmp g (group_of (fact_of x)))) (fact_of x ∷ l) l) (group_stays k e g own xs h)
    ] h

not_in : (x y : Entry) → is_page x ≡ false → is_race (race_in y) (group_in x) ≡ false → in_group (group_in x) (Some y) ≡ false
not_in (entry.Page x) y raced h = absurd (true≢false raced)
not_in (entry.Note x) (entry.Page y) raced h = refl
not_in (entry.Attached x) (entry.Page y) raced h = not_last (bytes_cmp x.target y.title) Greater refl
not_in (entry.Note x) (entry.Note y) raced h = (eq_by_cmp_equiv group_cmp-IsTotalOrder).symm (group_in (entry.Note x)) (group_in (entry.Note y)) ∙ h
not_in (entry.Note x) (entry.Attached y) raced h = refl
not_in (entry.Attached x) (entry.Note y) raced h = refl
not_in (entry.Attached x) (entry.Attached y) raced h = (eq_by_cmp_equiv group_cmp-IsTotalOrder).symm (group_in (entry.Attached x)) (group_in (entry.Attached y)) ∙ h

not_in-if : (x : Entry) (o : Option Entry) → is_page x ≡ false → is_race (option_and_then race_in o) (group_in x) ≡ false → in_group (group_in x) o ≡ false
not_in-if x None raced h = refl
not_in-if x (Some y) raced h = not_in x y raced h

-- a page is no version of what the other facts are versions of
page_apart : (t : List ℕ) (y : Entry) → is_race (race_in y) (Rattle.fsl_wiki.specs.Groups.page_group t) ≡ false
page_apart t (entry.Page y) = refl
page_apart t (entry.Note y) = refl
page_apart t (entry.Attached y) = not_last (bytes_cmp y.target t) Greater refl

page_apart-if : (t : List ℕ) (o : Option Entry) → is_race (option_and_then race_in o) (Rattle.fsl_wiki.specs.Groups.page_group t) ≡ false
page_apart-if t None = refl
page_apart-if t (Some y) = page_apart t y

beq-itself : (b : Bool) → beq b b ≡ true
beq-itself true = refl
beq-itself false = refl

row_itself : (r : Row) → same_row r r ≡ true
row_itself r = λ i. beq-itself r.page i && (beq-itself r.note i && beq-itself r.attached i)

flips : (t s l m : Bool) → (t ≡ false → s ≡ false → l ≡ m) → in_one ((t && l) || (s && l)) ((t && m) || (s && m)) ≡ not (beq l m)
flips true s true true h = elim s as (λ s. in_one true true ≡ false) [ true ↦ refl | false ↦ refl ]
flips true true true false h = refl
flips true false true false h = refl
flips true true false true h = refl
flips true false false true h = refl
flips true true false false h = refl
flips true false false false h = refl
flips false true true true h = refl
flips false true true false h = refl
flips false true false true h = refl
flips false true false false h = refl
flips false false l m h = sym (ap (λ l. not (beq l m)) (h refl refl) ∙ ap not (beq-itself m))

row_told : (x : Entry) (l m : Bool) → is_page x ≡ false → not (beq l m) ≡ not (same_row (row_in x l) (row_in x m))
row_told (entry.Page x) l m raced = absurd (true≢false raced)
row_told (entry.Note x) l m raced = ap not (sym (and_true (beq l m)))
row_told (entry.Attached x) l m raced = refl

race_told : (x : Entry) → is_page x ≡ false → race_in x ≡ Some (before_all (group_in x))
race_told (entry.Page x) raced = absurd (true≢false raced)
race_told (entry.Note x) raced = refl
race_told (entry.Attached x) raced = refl

module _ (es : Lines) (sorted : IsStrictlySortedBy bytes_cmp (keys_of es)) (k : List ℕ) (e : Entry) where
  abbrev pub after : Lines
  after = with_entry bytes_cmp k e es

  pub after_sorted : IsStrictlySortedBy bytes_cmp (keys_of after)
  after_sorted = sorted-insert_entry bytes_cmp-IsTotalOrder k e es sorted

  module _ (q : List ℕ) (other : bytes_eq q k ≡ false) where
    same_entry : value_at bytes_cmp q after ≡ value_at bytes_cmp q es
    same_entry = value-with k e es q ∙ ap (λ b. cond b (Some e) (value_at bytes_cmp q es)) other

    abbrev new : Option Spot
    new = race_in e

    abbrev old : Option Spot
    old = race_at es k

    -- nothing differs where the name is a page, or isn't there
    quiet : (fs : Lines) (up : IsStrictlySortedBy bytes_cmp (keys_of fs)) (s : Option Spot) → ((t : Spot) → s ≡ Some t → in_group t.first (value_at bytes_cmp q fs) ≡ false) → leads fs q s ≡ false
    quiet fs up None h = refl
    quiet fs up (Some t) h = elsewhere fs up q t (h t refl)

    stays : (x : Entry) → is_page x ≡ false → is_race new (group_in x) ≡ false → is_race old (group_in x) ≡ false → leads es q (Some (before_all (group_in x))) ≡ leads after q (Some (before_all (group_in x)))
    stays x raced n o =
        ap (λ l. is_called q (greatest (on place_of dated_cmp) l))
        (sym (group_stays k e (group_in x) (not_in x e raced n) es (not_in-if x (value_at bytes_cmp k es) raced o)))

    abbrev told : Option Entry → Type 0
    told o = in_one (leads es q new || leads es q old) (leads after q new || leads after q old) ≡ not (same_row (row_by o (leads es q)) (row_by o (leads after q)))

    with_race : (x : Entry) → value_at bytes_cmp q es ≡ Some x → is_page x ≡ false → told (Some x)
    with_race x there raced =
        let j = Some (before_all (group_in x)) in
        let later : value_at bytes_cmp q after ≡ Some x = same_entry ∙ there in
        (λ i. in_one (lead_if es sorted q x there new i || lead_if es sorted q x there old i) (lead_if after after_sorted q x later new i || lead_if after after_sorted q x later old i))
        ∙ flips (is_race new (group_in x)) (is_race old (group_in x)) (leads es q j) (leads after q j) (stays x raced)
        ∙ row_told x (leads es q j) (leads after q j) raced
        ∙ (λ i. not (same_row (row_in x (leads es q (sym (race_told x raced) i))) (row_in x (leads after q (sym (race_told x raced) i)))))

    with_none : value_at bytes_cmp q es ≡ None → told None
    with_none none =
        λ i. in_one
        (quiet es sorted new (λ t _. ap (in_group t.first) none) i || quiet es sorted old (λ t _. ap (in_group t.first) none) i)
        (quiet after after_sorted new (λ t _. ap (in_group t.first) (same_entry ∙ none)) i || quiet after after_sorted old (λ t _. ap (in_group t.first) (same_entry ∙ none)) i)

    with_page : (x : _) → value_at bytes_cmp q es ≡ Some (entry.Page x) → told (Some (entry.Page x))
    with_page x there =
        let n : (t : Spot) → new ≡ Some t → in_group t.first (Some (entry.Page x)) ≡ false = λ t is. ap (λ s. is_race s (group_in (entry.Page x))) (sym is) ∙ page_apart x.title e in
        let o : (t : Spot) → old ≡ Some t → in_group t.first (Some (entry.Page x)) ≡ false = λ t is. ap (λ s. is_race s (group_in (entry.Page x))) (sym is) ∙ page_apart-if x.title (value_at bytes_cmp k es) in
        λ i. in_one
        (quiet es sorted new (λ t is. ap (in_group t.first) there ∙ n t is) i || quiet es sorted old (λ t is. ap (in_group t.first) there ∙ o t is) i)
        (quiet after after_sorted new (λ t is. ap (in_group t.first) (same_entry ∙ there) ∙ n t is) i || quiet after after_sorted old (λ t is. ap (in_group t.first) (same_entry ∙ there) ∙ o t is) i)

    by : (o : Option Entry) → value_at bytes_cmp q es ≡ o → told o
    by None there = with_none there
    by (Some (entry.Page x)) there = with_page x there
    by (Some (entry.Note x)) there = with_race (entry.Note x) there refl
    by (Some (entry.Attached x)) there = with_race (entry.Attached x) there refl

    -- another name's row differs where it is current before or after, and not both
    pub others : in_one (leads es q new || leads es q old) (leads after q new || leads after q old) ≡ not (same_row (row_by (value_at bytes_cmp q es) (leads es q)) (row_by (value_at bytes_cmp q after) (leads after q)))
    others =
        by (value_at bytes_cmp q es) refl
        ∙ ap (λ o. not (same_row (row_by (value_at bytes_cmp q es) (leads es q)) (row_by o (leads after q)))) (sym same_entry)

  abbrev pub row_before : List ℕ → Row
  row_before q = row_by (value_at bytes_cmp q es) (leads es q)

  abbrev pub row_after : List ℕ → Row
  row_after q = row_by (value_at bytes_cmp q after) (leads after q)

  beq_true : (a b : Bool) → beq a b ≡ true → a ≡ b
  beq_true true true h = refl
  beq_true true false h = absurd (true≢false (sym h))
  beq_true false true h = absurd (true≢false (sym h))
  beq_true false false h = refl

  and_left : (a b : Bool) → (a && b) ≡ true → a ≡ true
  and_left true b h = refl
  and_left false b h = h

  and_right : (a b : Bool) → (a && b) ≡ true → b ≡ true
  and_right true b h = h
  and_right false b h = absurd (true≢false (sym h))

  matched : (a b : Row) (s : Bool) → same_row a b ≡ s → MatchBool (not s) (triple a ≢ triple b) (triple a ≡ triple b)
  matched a b true h =
      let rest = and_right (beq a.page b.page) (beq a.note b.note && beq a.attached b.attached) h in
      λ i. (
        beq_true a.page b.page (and_left (beq a.page b.page) (beq a.note b.note && beq a.attached b.attached) h) i,
        beq_true a.note b.note (and_left (beq a.note b.note) (beq a.attached b.attached) rest) i,
        beq_true a.attached b.attached (and_right (beq a.note b.note) (beq a.attached b.attached) rest) i,
      )
  matched a b false h = λ same.
      true≢false (sym ((λ i. beq (same i).0 b.page && (beq (same i).1 b.note && beq (same i).2 b.attached)) ∙ row_itself b) ∙ h)

  -- a list that has exactly the names whose rows are not the same
  pub lists_changed : (list : List (List ℕ)) → IsStrictlySortedBy bytes_cmp list → ((q : List ℕ) → has list q ≡ not (same_row (row_before q) (row_after q)))
      → ListsChanged (pages_row (facts_of es)) (pages_row (facts_of after)) list
  lists_changed list rising is = record {
    rising = rising;
    differ = λ q.
        subst (λ b. MatchBool b (pages_row (facts_of es) q ≢ pages_row (facts_of after) q) (pages_row (facts_of es) q ≡ pages_row (facts_of after) q)) (sym (is q))
        (subst (λ r. MatchBool (not (same_row (row_before q) (row_after q))) (r ≢ pages_row (facts_of after) q) (r ≡ pages_row (facts_of after) q)) (sym (row_is es q sorted))
        (subst (λ r. MatchBool (not (same_row (row_before q) (row_after q))) (triple (row_before q) ≢ r) (triple (row_before q) ≡ r)) (sym (row_is after q after_sorted))
        (matched (row_before q) (row_after q) (same_row (row_before q) (row_after q)) refl)));
  }

  -- .. of a page that wasn't there, its name
  pub page_changed : value_at bytes_cmp k es ≡ None → is_page e ≡ true → ListsChanged (pages_row (facts_of es)) (pages_row (facts_of after)) (k ∷ [])
  unfolding IsStrictlySortedBy
  page_changed none page = lists_changed (k ∷ []) (tt, tt) (λ q. told q (bytes_eq q k) refl)
    where
      here : value_at bytes_cmp k after ≡ Some e
      here = value-with k e es k ∙ ap (λ b. cond b (Some e) (value_at bytes_cmp k es)) (nat_list_eq_equiv.refl k)

      own : (e : Entry) (l : Option Spot → Bool) → is_page e ≡ true → true ≡ not (same_row (row_by None (leads es k)) (row_in e (l (race_in e))))
      own (entry.Page e) l page = refl
      own (entry.Note e) l page = absurd (true≢false (sym page))
      own (entry.Attached e) l page = absurd (true≢false (sym page))

      no_race : (e : Entry) → is_page e ≡ true → race_in e ≡ None
      no_race (entry.Page e) page = refl
      no_race (entry.Note e) page = absurd (true≢false (sym page))
      no_race (entry.Attached e) page = absurd (true≢false (sym page))

      no_old : race_at es k ≡ None
      no_old = ap (option_and_then race_in) none

      told : (q : List ℕ) (b : Bool) → bytes_eq q k ≡ b → (bytes_eq q k || false) ≡ not (same_row (row_before q) (row_after q))
      told q true h =
          ap (λ b. b || false) h
          ∙ own e (leads after k) page
          ∙ (λ i. not (same_row (row_by (sym none i) (leads es k)) (row_by (sym here i) (leads after k))))
          ∙ ap (λ n. not (same_row (row_before n) (row_after n))) (sym ((bytes_decides q k).0 h))
      told q false h =
          ap (λ b. b || false) h
          ∙ (λ i. in_one (leads es q (sym (no_race e page) i) || leads es q (sym no_old i)) (leads after q (sym (no_race e page) i) || leads after q (sym no_old i)))
          ∙ others q h

  -- .. of those that are current before or after, and not both, and the name itself where its row isn't the same
  pub among_changed : (list : List (List ℕ)) (was is : List ℕ → Bool) (wanted : Bool) → IsStrictlySortedBy bytes_cmp list
      → ((q : List ℕ) → has list q ≡ ((bytes_eq q k && wanted) || in_one (was q) (is q)))
      → wanted ≡ not (same_row (row_before k) (row_after k))
      → ((q : List ℕ) → was q ≡ (not (bytes_eq q k) && (leads es q (race_in e) || leads es q (race_at es k))))
      → ((q : List ℕ) → is q ≡ (not (bytes_eq q k) && (leads after q (race_in e) || leads after q (race_at es k))))
      → ListsChanged (pages_row (facts_of es)) (pages_row (facts_of after)) list
  among_changed list was is wanted rising has_it own before now =
      lists_changed list rising (λ q. has_it q ∙ (λ i. (bytes_eq q k && wanted) || in_one (before q i) (now q i)) ∙ told q (bytes_eq q k) refl)
    where
      told : (q : List ℕ) (b : Bool) → bytes_eq q k ≡ b
          → ((bytes_eq q k && wanted) || in_one (not (bytes_eq q k) && (leads es q (race_in e) || leads es q (race_at es k))) (not (bytes_eq q k) && (leads after q (race_in e) || leads after q (race_at es k))))
          ≡ not (same_row (row_before q) (row_after q))
      told q true h =
          ap (λ b. (b && wanted) || in_one (not b && (leads es q (race_in e) || leads es q (race_at es k))) (not b && (leads after q (race_in e) || leads after q (race_at es k)))) h
          ∙ or-false wanted ∙ own ∙ ap (λ n. not (same_row (row_before n) (row_after n))) (sym ((bytes_decides q k).0 h))
        where
          or-false : (b : Bool) → (b || false) ≡ b
          or-false true = refl
          or-false false = refl
      told q false h =
          ap (λ b. (b && wanted) || in_one (not b && (leads es q (race_in e) || leads es q (race_at es k))) (not b && (leads after q (race_in e) || leads after q (race_at es k)))) h
          ∙ others q h
