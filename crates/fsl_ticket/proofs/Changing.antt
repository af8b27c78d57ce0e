-- Which rows differ where a change is put.
use Rattle.std.proofs.Common.{◌≡◌, ◌≢◌, ℕ, List, [], ◌∷◌, Bool, true, false, cond, not, ◌||◌, ◌&&◌, if◌then◌else◌, Option, Some, None, map, filter, option_map, refl, sym, ap, subst, ◌∙◌}
use mathlib.Core.Bool.{true≢false}
use Rattle.std.specs.Bool.{MatchBool}
use Rattle.std.specs.List.{filter_map, AllByRecursion, cons_option}
use Rattle.std.specs.Str.{bytes_eq}
use Rattle.std.specs.Ordering.{is_eq, match_ordering}
use Rattle.std.specs.List.Sorted.{IsStrictlySortedBy}
use Rattle.std.specs.Cmp.Lexicographic.{pointwise, bytes_decides, nat_list_eq_equiv}
use Rattle.std.specs.declared.cmp.Ordering.TheVariants.{Less, Equal, Greater}
use Rattle.fsl_order.specs.Names.{bytes_cmp, dated_cmp, has}
use Rattle.fsl_order.specs.Rows.{ListsChanged, in_order}
use Rattle.fsl_order.proofs.Booleans.{first_holds, second_holds}
use Rattle.fsl_table.specs.Contents.{value_at, with_entry}
use Rattle.fsl_ticket.specs.declared.entry.Entry.{Entry}
use Rattle.fsl_ticket.specs.Tickets.{fields, tickets_row}
use Rattle.fsl_ticket.specs.Seen.{value_from}
use Rattle.fsl_ticket.specs.Kept.{Lines, fact_of, facts_of, is_id, is_same, row_of, if_other, if_any}
use Rattle.fsl_ticket.proofs.Walking.{fields_any}

-- ---- when two rows are the same

texts_true : (xs ys : List (List ℕ)) → pointwise bytes_eq xs ys ≡ true → xs ≡ ys
texts_true [] [] h = refl
texts_true [] (y ∷ ys) h = absurd (true≢false (sym h))
texts_true (x ∷ xs) [] h = absurd (true≢false (sym h))
texts_true (x ∷ xs) (y ∷ ys) h =
    λ i. (bytes_decides x y).0 (first_holds (bytes_eq x y) (pointwise bytes_eq xs ys) h) i ∷ texts_true xs ys (second_holds (bytes_eq x y) (pointwise bytes_eq xs ys) h) i

texts_itself : (xs : List (List ℕ)) → pointwise bytes_eq xs xs ≡ true
texts_itself [] = refl
texts_itself (x ∷ xs) = λ i. nat_list_eq_equiv.refl x i && texts_itself xs i

same_true : (a b : Option (List (List ℕ))) → is_same a b ≡ true → a ≡ b
same_true None None h = refl
same_true None (Some ys) h = absurd (true≢false (sym h))
same_true (Some xs) None h = absurd (true≢false (sym h))
same_true (Some xs) (Some ys) h = ap Some (texts_true xs ys h)

same_itself : (a : Option (List (List ℕ))) → is_same a a ≡ true
same_itself None = refl
same_itself (Some xs) = texts_itself xs

same_false : (a b : Option (List (List ℕ))) → is_same a b ≡ false → a ≢ b
same_false a b h e = true≢false (sym (ap (is_same a) (sym e) ∙ same_itself a) ∙ h)

-- ---- tickets that have neither the change nor the one in whose place it is put

filter_stays : (k : List ℕ) (e : Entry) (q : List ℕ) → bytes_eq e.id q ≡ false → (es : Lines) → is_id (value_at bytes_cmp k es) q ≡ false
    → filter (λ f. bytes_eq f.id q) (facts_of (with_entry bytes_cmp k e es)) ≡ filter (λ f. bytes_eq f.id q) (facts_of es)
filter_stays k e q own [] h = ap (λ b. cond b (fact_of (k, e) ∷ []) []) own
filter_stays k e q own (x ∷ xs) h =
    let rest = filter (λ f. bytes_eq f.id q) (facts_of xs) in
    elim (bytes_cmp k x.0) as (λ r. is_id (cond (is_eq r) (Some x.1) (value_at bytes_cmp k xs)) q ≡ false → filter (λ f. bytes_eq f.id q) (facts_of (match_ordering r ((k, e) ∷ x ∷ xs) ((x.0, e) ∷ xs) (x ∷ with_entry bytes_cmp k e xs))) ≡ filter (λ f. bytes_eq f.id q) (facts_of (x ∷ xs))) [
      | Less ↦ λ h. ap (λ b. cond b (fact_of (k, e) ∷ filter (λ f. bytes_eq f.id q) (facts_of (x ∷ xs))) (filter (λ f. bytes_eq f.id q) (facts_of (x ∷ xs)))) own
      | Equal ↦ λ h. ap (λ b. cond b (fact_of (x.0, e) ∷ rest) rest) own ∙ sym (ap (λ b. cond b (fact_of x ∷ rest) rest) (nat_list_eq_equiv.symm x.1.id q ∙ h))
      | Greater ↦ λ h. ap (λ l. cond (bytes_eq x.1.id q) (fact_of x ∷ l) l) (filter_stays k e q own xs h)
    ] h

row_stays : (configured : List (List ℕ)) (k : List ℕ) (e : Entry) (q : List ℕ) (es : Lines) → bytes_eq q e.id ≡ false → is_id (value_at bytes_cmp k es) q ≡ false
    → tickets_row configured (facts_of es) q ≡ tickets_row configured (facts_of (with_entry bytes_cmp k e es)) q
row_stays configured k e q es own old =
    fields_any configured (facts_of es) q
    ∙ ap (λ l. option_map (λ list. map (value_from list) configured) (if_any (in_order dated_cmp (λ f. (f.date, f.name)) l))) (sym (filter_stays k e q (nat_list_eq_equiv.symm e.id q ∙ own) es old))
    ∙ sym (fields_any configured (facts_of (with_entry bytes_cmp k e es)) q)

-- ---- the ids whose rows aren't the same any more

module _ (configured : List (List ℕ)) (es fs : Lines) where
  abbrev differs : List ℕ → Bool
  differs q = not (is_same (fields configured (facts_of es) q) (fields configured (facts_of fs) q))

  others_are : (ids : List (List ℕ)) → filter_map (if_other configured fs) (map (row_of configured es) ids) ≡ filter differs ids
  others_are [] = refl
  others_are (q ∷ ids) =
      by (is_same (fields configured (facts_of es) q) (fields configured (facts_of fs) q)) (filter_map (if_other configured fs) (map (row_of configured es) ids))
      ∙ ap (λ l. cond (differs q) (q ∷ l) l) (others_are ids)
    where
      by : (b : Bool) (l : List (List ℕ)) → cons_option (if b then None else Some q) l ≡ cond (not b) (q ∷ l) l
      by true l = refl
      by false l = refl

all_filtered : (p : List ℕ → Bool) (x : List ℕ) (ids : List (List ℕ)) → AllByRecursion (λ y. bytes_cmp x y ≡ Less) ids → AllByRecursion (λ y. bytes_cmp x y ≡ Less) (filter p ids)
all_filtered p x [] h = tt
all_filtered p x (q ∷ ids) h =
    elim (p q) as (λ b. AllByRecursion (λ y. bytes_cmp x y ≡ Less) (cond b (q ∷ filter p ids) (filter p ids))) [ true ↦ (h.0, all_filtered p x ids h.1) | false ↦ all_filtered p x ids h.1 ]

rising_filtered : (p : List ℕ → Bool) (ids : List (List ℕ)) → IsStrictlySortedBy bytes_cmp ids → IsStrictlySortedBy bytes_cmp (filter p ids)
unfolding IsStrictlySortedBy
rising_filtered p [] h = tt
rising_filtered p (q ∷ ids) h =
    elim (p q) as (λ b. IsStrictlySortedBy bytes_cmp (cond b (q ∷ filter p ids) (filter p ids))) [ true ↦ (all_filtered p q ids h.0, rising_filtered p ids h.1) | false ↦ rising_filtered p ids h.1 ]

has_filtered : (p : List ℕ → Bool) (ids : List (List ℕ)) (q : List ℕ) → has (filter p ids) q ≡ (has ids q && p q)
has_filtered p [] q = refl
has_filtered p (x ∷ ids) q =
    taken (p x) (filter p ids)
    ∙ ap (λ b. (bytes_eq q x && p x) || b) (has_filtered p ids q)
    ∙ elim (bytes_eq q x) as (λ b. bytes_eq q x ≡ b → ((b && p x) || (has ids q && p q)) ≡ ((b || has ids q) && p q)) [
      | true ↦ λ h. ap (λ n. p n || (has ids q && p q)) (sym ((bytes_decides q x).0 h)) ∙ either (p q) (has ids q)
      | false ↦ λ h. refl
    ] refl
  where
    taken : (b : Bool) (l : List (List ℕ)) → has (cond b (x ∷ l) l) q ≡ ((bytes_eq q x && b) || has l q)
    taken true l = ap (λ b. b || has l q) (sym (and-true (bytes_eq q x)))
      where
        and-true : (b : Bool) → (b && true) ≡ b
        and-true true = refl
        and-true false = refl
    taken false l = ap (λ b. b || has l q) (sym (and-false (bytes_eq q x)))
      where
        and-false : (b : Bool) → (b && false) ≡ false
        and-false true = refl
        and-false false = refl

    either : (a h : Bool) → (a || (h && a)) ≡ a
    either true h = refl
    either false true = refl
    either false false = refl

or_left : (a b : Bool) → false ≡ (a || b) → a ≡ false
or_left true b h = sym h
or_left false b h = refl

or_right : (a b : Bool) → false ≡ (a || b) → b ≡ false
or_right true b h = absurd (true≢false (sym h))
or_right false b h = sym h

module _ (configured : List (List ℕ)) (es : Lines) (k : List ℕ) (e : Entry) (ids : List (List ℕ)) where
  abbrev after : Lines
  after = with_entry bytes_cmp k e es

  abbrev Differ : List ℕ → Bool → Type 0
  Differ q b = MatchBool b (tickets_row configured (facts_of es) q ≢ tickets_row configured (facts_of after) q) (tickets_row configured (facts_of es) q ≡ tickets_row configured (facts_of after) q)

  by : (q : List ℕ) → has ids q ≡ (is_id (value_at bytes_cmp k es) q || bytes_eq q e.id) → (h s : Bool) → has ids q ≡ h → is_same (fields configured (facts_of es) q) (fields configured (facts_of after) q) ≡ s → Differ q (h && not s)
  by q own true true h s = same_true (fields configured (facts_of es) q) (fields configured (facts_of after) q) s
  by q own true false h s = same_false (fields configured (facts_of es) q) (fields configured (facts_of after) q) s
  by q own false s h _ =
      let none : false ≡ (is_id (value_at bytes_cmp k es) q || bytes_eq q e.id) = sym h ∙ own in
      row_stays configured k e q es (or_right (is_id (value_at bytes_cmp k es) q) (bytes_eq q e.id) none) (or_left (is_id (value_at bytes_cmp k es) q) (bytes_eq q e.id) none)

  -- of the ids that the change may touch, those whose rows aren't the same are all that differ
  pub lists_others : IsStrictlySortedBy bytes_cmp ids → ((q : List ℕ) → has ids q ≡ (is_id (value_at bytes_cmp k es) q || bytes_eq q e.id))
      → ListsChanged (tickets_row configured (facts_of es)) (tickets_row configured (facts_of after)) (filter_map (if_other configured after) (map (row_of configured es) ids))
  lists_others rising own =
      subst (ListsChanged (tickets_row configured (facts_of es)) (tickets_row configured (facts_of after))) (sym (others_are configured es after ids))
      (record {
        rising = rising_filtered (differs configured es after) ids rising;
        differ = λ q. subst (Differ q) (sym (has_filtered (differs configured es after) ids q))
            (by q (own q) (has ids q) (is_same (fields configured (facts_of es) q) (fields configured (facts_of after) q)) refl refl);
      })
