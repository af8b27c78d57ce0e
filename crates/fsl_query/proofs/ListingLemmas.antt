-- Lists that are gathered one by one, for the reports on what there is.
use Rattle.std.proofs.Common.{◌≡◌, ℕ, zero, suc, arith, ◌+◌, ◌<◌, Bool, true, false, cond, List, [], ◌∷◌, ◌++◌, length, take, get_or, map, Option, Some, None, refl, sym, ap, ◌∙◌, append_assoc}
use Rattle.std.specs.Prelude.{◌||◌, ◌&&◌, filter_map, find, flat_map, if◌then◌else◌, option_map, unwrap_or, All, Contains}
use Rattle.std.specs.BTreeMap.{is_at}
use Rattle.std.specs.List.{cons_option, list_any}
use Rattle.std.specs.Map.{keys_of}
use Rattle.std.specs.List.Sorted.{IsStrictlySortedBy}
use Rattle.std.specs.Option.{option_eq, option_map_or, option_or}
use Rattle.std.specs.Ordering.{is_lt}
use Rattle.std.specs.Cmp.{eq_by_cmp_equiv}
use Rattle.std.specs.Cmp.Lexicographic.{texts_ties, bytes_decides}
use Rattle.std.specs.Str.{bytes_eq}
use Rattle.std.proofs.lemmas.List.{take_more}
use Rattle.std.proofs.lemmas.List.Elements.{All-contains_itself, All-weaker}
use Rattle.std.proofs.lemmas.List.Folds.{find-append}
use Rattle.std.proofs.lemmas.Map.Keys.{IsDistinct-from_sorted}
use Rattle.std.proofs.lemmas.Map.Views.{lookup-from_Contains}
use Rattle.fsl_order.specs.Maps.{value_at}
use Rattle.fsl_order.specs.Names.{bytes_cmp, dated_cmp}
use Rattle.fsl_order.specs.Rows.{greater, greatest}
use Rattle.fsl_order.proofs.Orders.{bytes_cmp-IsTotalOrder}
use Rattle.fsl_name.specs.Name.{name_text}
use Rattle.fsl_ticket.specs.declared.Fact as tickets_of
use Rattle.fsl_forum.specs.declared.Fact as posts_of
use Rattle.fsl_forum.specs.Threads.{place}
use Rattle.fsl_timeline.specs.declared.Row.{Row}
use Rattle.fsl_timeline.specs.declared.RowKind.{RowKind}
use Rattle.fsl_timeline.specs.declared.RowKind.TheVariants as row
use Rattle.fsl_wiki.specs.declared.Fact as pages_of
use Rattle.fsl_wiki.specs.declared.Fact.TheVariants as fact
use Rattle.fsl_wiki.specs.declared.Page.{Page}
use Rattle.fsl_wiki.specs.Pages.{as_page}
use Rattle.fsl_query.specs.Gathering.{NotesTitle}
use Rattle.fsl_date.specs.Moment.{moment_text}
use Rattle.fsl_query.specs.Lines.{shown, spaced, ticket_line}
use Rattle.fsl_query.specs.Listings.{dated_change, dated_checkin, dated_page, names_thread, newest, under}

-- ---- lines of many words

-- a word, and further ones with a blank before each
pub spaced_words : (word : List ℕ) (words : List (List ℕ)) → spaced (word ∷ words) ≡ word ++ (flat_map (λ w. 32 ∷ w) words ++ 10 ∷ [])
spaced_words word [] = refl
spaced_words word (w ∷ words) =
    ap (λ l. word ++ (32 ∷ l)) (spaced_words w words)
    ∙ ap (λ l. word ++ (32 ∷ l)) (sym (append_assoc w (flat_map (λ x. 32 ∷ x) words) (10 ∷ [])))

-- ---- the first that passes

module _ {X : Type 0} (p : X → Bool) where
  -- the first of one item more
  pub first_more : (xs : List X) (i : ℕ) (x : X) → i < length xs → x ≡ get_or xs i x → find p (take (i + 1) xs) ≡ option_or (find p (take i xs)) (cond (p x) (Some x) None)
  first_more xs i x lt is = ap (find p) (take_more xs i x lt) ∙ find-append p (take i xs) (get_or xs i x ∷ []) ∙ ap (λ y. option_or (find p (take i xs)) (cond (p y) (Some y) None)) (sym is)

-- ---- titles

pub or_none : {X : Type 0} (o : Option X) → option_or o None ≡ o
or_none None = refl
or_none (Some x) = refl

pub map_or : {X Y : Type 0} (f : X → Y) (o : Option X) (q : Option X) → option_map f (option_or o q) ≡ option_or (option_map f o) (option_map f q)
map_or f None q = refl
map_or f (Some x) q = refl

pub unwrap_map : {X : Type 0} (f : X → List ℕ) (o : Option X) → unwrap_or (option_map f o) [] ≡ option_map_or f o []
unwrap_map f None = refl
unwrap_map f (Some x) = refl

-- a title comes where there is none
pub title_comes : (old new : List (List ℕ × List ℕ)) (name title : List ℕ) → value_at old name ≡ None → ((q : List ℕ) → value_at new q ≡ cond (is_at (bytes_cmp name) q) (Some title) (value_at old q)) → NotesTitle old new name title
title_comes old new name title none written q =
    written q
    ∙ ap (λ b. cond b (Some title) (value_at old q)) (sym (texts_ties name q))
    ∙ elim (bytes_eq name q) as (λ b. bytes_eq name q ≡ b → cond b (Some title) (value_at old q) ≡ option_or (value_at old q) (if b then Some title else None)) [
      | true ↦ λ e. sym (ap (λ o. option_or o (Some title)) (ap (value_at old) (sym ((bytes_decides name q).0 e)) ∙ none))
      | false ↦ λ _. sym (or_none (value_at old q))
    ] refl

-- ---- the latest changes of tickets are those of tickets

or_later : (a b : Bool) → b ≡ true → (a || b) ≡ true
or_later true b e = refl
or_later false b e = e

same_one : {X : Type 0} (x y : X) → Some x ≡ Some y → x ≡ y
same_one x y e = cc

never_some : {X : Type 0} (x : X) → None ≡ Some x → ⊥
never_some x e = cc

pub any_id : (facts : List tickets_of.Fact) (q : List ℕ) (d : ℕ × List ℕ) → newest (map dated_change facts) q ≡ Some d → list_any (λ f. bytes_eq f.id d.1) facts ≡ true
any_id [] q d is = absurd (never_some d is)
any_id (f ∷ facts) q d is =
    elim (bytes_eq (name_text f.id) q) as (λ b. greatest dated_cmp (cons_option (if b then Some (f.date, f.id) else None) (filter_map (under q) (map dated_change facts))) ≡ Some d → (bytes_eq f.id d.1 || list_any (λ f. bytes_eq f.id d.1) facts) ≡ true) [
      | true ↦ λ e. by (newest (map dated_change facts) q) (λ again. any_id facts q d again) e
      | false ↦ λ e. or_later (bytes_eq f.id d.1) (list_any (λ f. bytes_eq f.id d.1) facts) (any_id facts q d e)
    ] is
  where
    own : (f.date, f.id) ≡ d → (bytes_eq f.id d.1 || list_any (λ f. bytes_eq f.id d.1) facts) ≡ true
    own e = ap (λ b. b || list_any (λ f. bytes_eq f.id d.1) facts) ((bytes_decides f.id d.1).1 (ap (λ (p : ℕ × List ℕ). p.1) e))

    by : (o : Option (ℕ × List ℕ)) → (o ≡ Some d → list_any (λ f. bytes_eq f.id d.1) facts ≡ true) → greater dated_cmp (Some (f.date, f.id)) o ≡ Some d → (bytes_eq f.id d.1 || list_any (λ f. bytes_eq f.id d.1) facts) ≡ true
    by None again e = own (same_one _ d e)
    by (Some y) again e =
        elim (is_lt (dated_cmp (f.date, f.id) y)) as (λ b. Some (if b then y else (f.date, f.id)) ≡ Some d → (bytes_eq f.id d.1 || list_any (λ f. bytes_eq f.id d.1) facts) ≡ true) [
          | true ↦ λ e. or_later (bytes_eq f.id d.1) (list_any (λ f. bytes_eq f.id d.1) facts) (again e)
          | false ↦ λ e. own (same_one _ d e)
        ] e

-- each change that is kept is one of a ticket
pub all_there : (facts : List tickets_of.Fact) (es : List (List ℕ × (ℕ × List ℕ))) → IsStrictlySortedBy bytes_cmp (keys_of es) → ((q : List ℕ) → value_at es q ≡ newest (map dated_change facts) q)
    → All (λ e. list_any (λ f. bytes_eq f.id e.1.1) facts ≡ true) es
all_there facts es rising is =
    All-weaker (Contains es) (λ e. list_any (λ f. bytes_eq f.id e.1.1) facts ≡ true)
    (λ e there. any_id facts e.0 e.1 (sym (is e.0) ∙ lookup-from_Contains (eq_by_cmp_equiv bytes_cmp-IsTotalOrder) e.0 e.1 es (IsDistinct-from_sorted bytes_cmp (keys_of es) rising) there))
    es (All-contains_itself es)

-- the first that passes
pub first_is : {X : Type 0} (p : X → Bool) (xs : List X) (i : ℕ) (x : X) → find p (take i xs) ≡ None → i < length xs → x ≡ get_or xs i x → p x ≡ true → Some x ≡ find p xs
first_is p [] i x none lt is passes = absurd (omega (arith, lt))
first_is p (y ∷ ys) zero x none lt is passes = ap Some is ∙ sym (ap (λ b. cond b (Some y) (find p ys)) (ap p (sym is) ∙ passes))
first_is p (y ∷ ys) (suc i) x none lt is passes =
    elim (p y) as (λ b. cond b (Some y) (find p (take i ys)) ≡ None → Some x ≡ cond b (Some y) (find p ys)) [
      | true ↦ λ e. absurd (never_some y (sym e))
      | false ↦ λ e. first_is p ys i x e (omega (arith, lt)) is passes
    ] none

-- what is put of some values, as words of a line
pub words_shown : (f : List ℕ → List ℕ) (values : List (List ℕ)) → flat_map (λ w. 32 ∷ w) (map f values) ≡ flat_map (λ v. 32 ∷ f v) values
words_shown f [] = refl
words_shown f (v ∷ values) = ap (λ l. 32 ∷ f v ++ l) (words_shown f values)

-- ---- titles of posts that a thread is named by

module _ (facts : List posts_of.Fact) (rows : List Row) (i : ℕ) (r : Row) (lt : i < length rows) (is : r ≡ get_or rows i r) where
  abbrev text_of : Option Row → Option (List ℕ)
  text_of o = option_map (λ r. r.text) o

  abbrev own : Bool
  own = option_eq bytes_eq (place facts r.name) (Some r.name)

  both_false : (a : Bool) → (a && false) ≡ false
  both_false true = refl
  both_false false = refl

  -- a row that names no thread
  pub title_passed : own ≡ false → (q : List ℕ) → text_of (find (names_thread facts q) (take i rows)) ≡ text_of (find (names_thread facts q) (take (i + 1) rows))
  title_passed other q =
      sym (ap text_of (first_more (names_thread facts q) rows i r lt is
      ∙ ap (λ b. option_or (find (names_thread facts q) (take i rows)) (cond (bytes_eq r.name q && b) (Some r) None)) other
      ∙ ap (λ b. option_or (find (names_thread facts q) (take i rows)) (cond b (Some r) None)) (both_false (bytes_eq r.name q))
      ∙ or_none (find (names_thread facts q) (take i rows))))

  -- a row that names one
  pub title_noted : own ≡ true → (old new : List (List ℕ × List ℕ)) → ((q : List ℕ) → value_at old q ≡ text_of (find (names_thread facts q) (take i rows))) → NotesTitle old new r.name r.text
      → (q : List ℕ) → value_at new q ≡ text_of (find (names_thread facts q) (take (i + 1) rows))
  title_noted names old new before notes q =
      notes q
      ∙ ap (λ o. option_or o (if bytes_eq r.name q then Some r.text else None)) (before q)
      ∙ elim (bytes_eq r.name q) as (λ b. option_or (text_of (find (names_thread facts q) (take i rows))) (if b then Some r.text else None) ≡ text_of (option_or (find (names_thread facts q) (take i rows)) (cond (b && true) (Some r) None))) [
        | true ↦ sym (map_or (λ r. r.text) (find (names_thread facts q) (take i rows)) (Some r))
        | false ↦ sym (map_or (λ r. r.text) (find (names_thread facts q) (take i rows)) None)
      ]
      ∙ sym (ap text_of (first_more (names_thread facts q) rows i r lt is
      ∙ ap (λ b. option_or (find (names_thread facts q) (take i rows)) (cond (bytes_eq r.name q && b) (Some r) None)) names))

-- the line of a ticket in three parts
pub ticket_put : (into a b d : List ℕ) (date : ℕ) (id : List ℕ) (values : List (List ℕ)) → a ≡ (into ++ moment_text date) ++ (32 ∷ name_text id) → b ≡ a ++ flat_map (λ v. 32 ∷ shown v) values → d ≡ b ++ (10 ∷ [])
    → d ≡ into ++ ticket_line date id values
ticket_put into a b d date id values first second third =
    let told = flat_map (λ v. 32 ∷ shown v) values in
    let stamp = moment_text date ++ (32 ∷ name_text id) in
    third ∙ ap (λ l. l ++ (10 ∷ [])) (second ∙ ap (λ l. l ++ told) (first ∙ append_assoc into (moment_text date) (32 ∷ name_text id)))
    ∙ append_assoc (into ++ stamp) told (10 ∷ []) ∙ append_assoc into stamp (told ++ (10 ∷ []))
    ∙ ap (λ l. into ++ l)
    (append_assoc (moment_text date) (32 ∷ name_text id) (told ++ (10 ∷ []))
    ∙ ap (λ l. moment_text date ++ (32 ∷ l)) (sym (spaced_words (name_text id) (map shown values) ∙ ap (λ l. name_text id ++ (l ++ (10 ∷ []))) (words_shown shown values))))

-- ---- rows and facts that give nothing under a key

pub no_checkin : (branch : List ℕ) (r : Row) (kind : RowKind) → (kind ≡ row.Checkin → ⊥) → dated_checkin branch r kind ≡ None
no_checkin branch r row.Checkin other = absurd (other refl)
no_checkin branch r row.Wiki other = refl
no_checkin branch r row.Ticket other = refl
no_checkin branch r row.Note other = refl
no_checkin branch r row.Forum other = refl
no_checkin branch r row.Tag other = refl

pub no_version : (f : pages_of.Fact) → ((p : Page) → f ≡ fact.Page p → ⊥) → option_map dated_page (as_page f) ≡ None
no_version (fact.Page p) other = absurd (other p refl)
no_version (fact.Note n) other = refl
no_version (fact.Attached a) other = refl
