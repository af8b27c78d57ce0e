-- Rows of technotes and posts that go.
use Rattle.std.proofs.Common.{◌≡◌, ℕ, zero, suc, ◌<◌, ◌≤◌, true, false, cond, List, [], ◌∷◌, Bool, Option, Some, None, length, take, get_or, refl, sym, ap, ◌∙◌, subst, arith, append-nil, Result, Ok, Err}
use Rattle.std.specs.Prelude.{◌≢◌, ◌||◌, ◌&&◌, not, is_some, unwrap_or, option_and_then, OnOk}
use Rattle.std.specs.Bool.{MatchBool}
use Rattle.std.specs.List.{AllByRecursion}
use Rattle.std.specs.List.Sorted.{IsStrictlySortedBy}
use Rattle.std.specs.Option.{option_eq, option_map_or}
use Rattle.std.specs.Ordering.{is_eq}
use Rattle.std.specs.declared.cmp.Ordering.TheVariants.{Less}
use Rattle.std.specs.Str.{bytes_eq}
use Rattle.std.specs.Cmp.Lexicographic.{texts_ties, nat_list_eq_equiv, bytes_decides}
use Rattle.std.proofs.lemmas.Bool.{not-true}
use Rattle.fsl_order.specs.TableState.{TableState, Change}
use Rattle.fsl_order.specs.Names.{bytes_cmp, has}
use Rattle.fsl_order.specs.Rows.{named}
use Rattle.fsl_order.proofs.RowLemmas.{is_some-named}
use Rattle.fsl_artifact.specs.declared.Artifact.{Artifact}
use Rattle.fsl_artifact.specs.declared.Artifact.TheVariants as kind
use Rattle.fsl_timeline.specs.declared.Row.{Row}
use Rattle.fsl_timeline.specs.declared.RowKind.TheVariants as row
use Rattle.fsl_timeline.specs.Timeline.{retired}
use Rattle.fsl_wiki.specs.Pages as pages
use Rattle.fsl_forum.specs.Threads as threads
use Rattle.fsl_cross.specs.declared.Item.{Item}
use Rattle.fsl_cross.specs.Tables.{pages_facts, forum_facts, timeline_row_of, without}
use Rattle.fsl_cross.specs.Gone.{is_rowless, is_gone, has_row, RowsGone, OthersShown}
use Rattle.fsl_cross.specs.Mixed.{mixed, rows_mixed, timeline_row, all_changed}
use Rattle.fsl_cross.specs.Trails.{Leads, AreTold}
use Rattle.fsl_cross.proofs.Moved.{item_name}
use Rattle.fsl_cross.proofs.FactLemmas.{Rise}
use Rattle.fsl_cross.proofs.TableLemmas.{row-own}
use Rattle.fsl_cross.proofs.Mapped.{named-given, named-has}
use Rattle.fsl_cross.proofs.Sets.{set_at, named-out, mixed-own, mixed-next}
use Rattle.fsl_cross.proofs.Going.{goes-put}

-- ---- names

all-at : (P : List ℕ → Type 0) (xs : List (List ℕ)) (i : ℕ) (x : List ℕ) → AllByRecursion P xs → i < length xs → x ≡ get_or xs i x → P x
all-at P [] i x all lt is = absurd (omega (arith, lt))
all-at P (y ∷ xs) zero x all lt is = subst P (sym is) all.0
all-at P (y ∷ xs) (suc i) x all lt is = all-at P xs i x all.1 (omega (arith, lt)) is

-- a name of a list that rises isn't among those before it
pub rising-fresh : (names : List (List ℕ)) (i : ℕ) (name : List ℕ) → IsStrictlySortedBy bytes_cmp names → i < length names → name ≡ get_or names i name → has (take i names) name ≡ false
unfolding IsStrictlySortedBy
rising-fresh [] i name rise lt is = absurd (omega (arith, lt))
rising-fresh (x ∷ names) zero name rise lt is = refl
rising-fresh (x ∷ names) (suc i) name rise lt is =
    let less : bytes_cmp x name ≡ Less = all-at (λ y. bytes_cmp x y ≡ Less) names i name rise.0 (omega (arith, lt)) is in
    ap (λ b. b || has (take i names) name) (nat_list_eq_equiv.symm name x ∙ texts_ties x name ∙ ap is_eq less) ∙ rising-fresh names i name rise.1 (omega (arith, lt)) is

-- it is in the list
pub has-at : (names : List (List ℕ)) (i : ℕ) (name : List ℕ) → i < length names → name ≡ get_or names i name → has names name ≡ true
has-at [] i name lt is = absurd (omega (arith, lt))
has-at (x ∷ names) zero name lt is = ap (λ b. b || has names name) ((bytes_decides name x).1 is)
has-at (x ∷ names) (suc i) name lt is = ap (λ b. bytes_eq name x || b) (has-at names i name (omega (arith, lt)) is) ∙ or-true (bytes_eq name x)
  where
    or-true : (b : Bool) → (b || true) ≡ true
    or-true true = refl
    or-true false = refl

-- ---- what one change tells

module _ {F R : Type 0} (row_of : List F → List ℕ → R) (first now : TableState F) where
  -- a row that it lists is another
  pub told-other : (us : List (Change F)) → length us ≤ 1 → Leads first us now → AreTold row_of us → (q : List ℕ) → has (all_changed us) q ≡ true → row_of now.facts q ≡ row_of first.facts q → ⊥
  told-other [] few lead told q listed same = cc
  told-other (u ∷ []) few lead told q listed same =
      let there : has u.changed q ≡ true = sym (ap (λ l. has l q) (append-nil u.changed)) ∙ listed in
      subst (λ b. MatchBool b (row_of u.before.facts q ≢ row_of u.after.facts q) (row_of u.before.facts q ≡ row_of u.after.facts q)) there (told.0.differ q)
      (ap (λ fs. row_of fs q) lead.0.facts ∙ sym same ∙ ap (λ fs. row_of fs q) lead.1.facts)
  told-other (u ∷ v ∷ us) few lead told q listed same = absurd (omega (arith, few))

  -- the names that it lists rise
  pub told-rises : (us : List (Change F)) → length us ≤ 1 → AreTold row_of us → IsStrictlySortedBy bytes_cmp (all_changed us)
  unfolding IsStrictlySortedBy
  told-rises [] few told = tt
  told-rises (u ∷ []) few told = subst (IsStrictlySortedBy bytes_cmp) (sym (append-nil u.changed)) told.0.rising
  told-rises (u ∷ v ∷ us) few told = absurd (omega (arith, few))

-- ---- rows that are taken out

abbrev row_name : Row → List ℕ
row_name r = r.name

-- the others are there as they were
pub others-retired : {X E : Type 0} (r : Result X E) (name : List ℕ) (before after : List Row) → OnOk r (after ≡ retired name before) → OnOk r (OthersShown name before after)
others-retired (Ok x) name before after out = λ q apart.
    ap (λ rows. has_row rows q) out
    ∙ sym (is_some-named row_name (retired name before) q)
    ∙ ap is_some (named-out row_name name q before ∙ ap (λ b. cond b None (named row_name before q)) (nat_list_eq_equiv.symm name q ∙ apart))
    ∙ is_some-named row_name before q
others-retired (Err e) name before after out = tt

-- an artifact that is so has no row
pub rowless-none : (items : List Item) (name : List ℕ) (a : Artifact) → is_rowless (pages_facts items) (forum_facts items) name a ≡ true → timeline_row_of items name a ≡ None
rowless-none items name (kind.Technote t) e = ap (λ b. cond b (Some (record { time = t.time; name = name; kind = row.Note; user = unwrap_or t.user []; text = unwrap_or t.comment [] })) None) (not-true (option_eq bytes_eq (pages.note (pages_facts items) t.id) (Some name)) e)
rowless-none items name (kind.Forum f) e = ap (λ b. cond b (Some (record { time = f.date; name = name; kind = row.Forum; user = f.user; text = unwrap_or f.title [] })) None) (not-true (is_some (threads.place (forum_facts items) name)) e)
rowless-none items name kind.Plain e = cc
rowless-none items name (kind.Manifest m) e = cc
rowless-none items name (kind.Cluster c) e = cc
rowless-none items name (kind.Control c) e = cc
rowless-none items name (kind.Wiki w) e = cc
rowless-none items name (kind.Ticket t) e = cc
rowless-none items name (kind.Attachment a) e = cc

module _ (items : List Item) (rise : Rise items) (n : List ℕ) where
  abbrev old : List Item
  old = without n items

  -- the artifact of a name that is so
  pub gone-behind : (q : List ℕ) → is_gone items n q ≡ true
      → (bytes_eq q n ≡ false) × (y : Item) × (named item_name items y.name ≡ Some y) × (y.name ≡ q) × (is_rowless (pages_facts items) (forum_facts items) y.name y.artifact ≡ true)
  gone-behind q gone = by (bytes_eq q n) refl (named item_name items q) refl gone
    where
      by : (b : Bool) → bytes_eq q n ≡ b → (o : Option Item) → named item_name items q ≡ o → (not b && option_map_or (λ item. is_rowless (pages_facts items) (forum_facts items) q item.artifact) o false) ≡ true
          → (bytes_eq q n ≡ false) × (y : Item) × (named item_name items y.name ≡ Some y) × (y.name ≡ q) × (is_rowless (pages_facts items) (forum_facts items) y.name y.artifact ≡ true)
      by true same o found g = cc
      by false apart None found g = cc
      by false apart (Some y) found g =
          let own : y.name ≡ q = named-has item_name items q y found in
          (apart, y, ap (named item_name items) own ∙ found, own, ap (λ p. is_rowless (pages_facts items) (forum_facts items) p y.artifact) own ∙ g)

  rows-retired : (done : List (List ℕ)) (y : Item) → named item_name items y.name ≡ Some y → timeline_row items y ≡ None → rows_mixed items n (y.name ∷ done) ≡ retired y.name (rows_mixed items n done)
  rows-retired done y found none =
      mixed-next item_name row_name (timeline_row old) (timeline_row items) (row-own old) (row-own items) items rise done y found
      ∙ ap (λ o. set_at row_name y.name o (rows_mixed items n done)) none

  -- the row of such a name is taken out
  pub gone-goes : {X E : Type 0} (r : Result X E) (q : List ℕ) (before after : List Row) → is_gone items n q ≡ true → OnOk r (after ≡ retired q before) → OnOk r (RowsGone items n (q ∷ []) before after)
  gone-goes r q before after gone out =
      let y = gone-behind q gone in
      goes-put (rows_mixed items n) (is_gone items n) r (retired q) q before after gone
      (λ done. subst (λ p. rows_mixed items n (p ∷ done) ≡ retired p (rows_mixed items n done)) y.3 (rows-retired done y.1 y.2 (rowless-none items y.1.name y.1.artifact y.4))) out

  -- a row that was there is there until its name is done
  pub old-shown : (done : List (List ℕ)) (y : Item) → named item_name items y.name ≡ Some y → has done y.name ≡ false → is_some (timeline_row old y) ≡ true → has_row (rows_mixed items n done) y.name ≡ true
  old-shown done y found out was =
      sym (is_some-named row_name (rows_mixed items n done) y.name)
      ∙ ap is_some (named-given item_name row_name (mixed item_name (timeline_row old) (timeline_row items) done) (mixed-own item_name row_name (timeline_row old) (timeline_row items) (row-own old) (row-own items) done) items rise y.name
      ∙ ap (option_and_then (mixed item_name (timeline_row old) (timeline_row items) done)) found ∙ ap (λ b. cond b (timeline_row items y) (timeline_row old y)) out)
      ∙ was
