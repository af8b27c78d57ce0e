-- How two rising lists of files differ, path by path.
use Rattle.std.proofs.Common.{◌≡◌, ℕ, true, false, cond, List, [], ◌∷◌, ◌++◌, Some, None, map, drop, slice_get, refl, sym, ap, ◌∙◌, subst}
use Rattle.std.specs.Prelude.{Option, filter_map, option_map, if◌then◌else◌}
use Rattle.std.proofs.lemmas.List.{append_assoc}
use Rattle.std.specs.List.Sorted.{IsStrictlySortedBy}
use Rattle.std.specs.declared.cmp.Ordering.TheVariants.{Less, Equal, Greater}
use Rattle.std.specs.List.{AllByRecursion}
use Rattle.std.specs.Ordering.{is_eq, ordering_reverse}
use Rattle.std.specs.Str.{bytes_eq}
use Rattle.std.specs.Cmp.Lexicographic.{texts_ties, nat_list_eq_equiv, bytes_decides}
use Rattle.std.specs.FinMap.{put}
use Rattle.std.specs.FinMap.Entries.{by_order}
use Rattle.fsl_order.specs.Names.{bytes_cmp}
use Rattle.fsl_order.specs.Rows.{keyed, ascending}
use Rattle.fsl_order.proofs.Orders.{bytes_cmp-IsTotalOrder, bytes_cmp-IsAntisymmetric}
use Rattle.fsl_files.specs.declared.FileRow.{FileRow}
use Rattle.fsl_files.specs.declared.Change.{Change}
use Rattle.fsl_files.specs.declared.How.{How}
use Rattle.fsl_files.specs.declared.How.TheVariants.{Added, Edited, Deleted}
use Rattle.fsl_files.specs.Files.{how, same_file, file_at, differences}
use Rattle.fsl_files.specs.Walks.{edits}
use Rattle.fsl_files.proofs.Merging.{After, After-first, After-later, Rise, first_left, first_right, first_both}

abbrev pub path : FileRow → List ℕ
path r = r.path

abbrev same_name : List ℕ → List ℕ
same_name name = name

-- a name that stands later is another
other : (a b : List ℕ) → bytes_cmp a b ≡ Less → bytes_eq b a ≡ false
other a b less = nat_list_eq_equiv.symm b a ∙ texts_ties a b ∙ ap is_eq less

itself : (a : List ℕ) → bytes_eq a a ≡ true
itself a = (bytes_decides a a).1 refl

-- ---- a file of a path

at_first : (a : FileRow) (rows : List FileRow) → file_at (a ∷ rows) a.path ≡ Some a
at_first a rows = ap (λ b. cond b (Some a) (file_at rows a.path)) (itself a.path)

at_later : (a : FileRow) (rows : List FileRow) (p : List ℕ) → bytes_cmp a.path p ≡ Less → file_at (a ∷ rows) p ≡ file_at rows p
at_later a rows p less = ap (λ b. cond b (Some a) (file_at rows p)) (nat_list_eq_equiv.symm a.path p ∙ other a.path p less)

at_none : (p : List ℕ) (rows : List FileRow) → After path p rows → file_at rows p ≡ None
at_none p [] after = refl
at_none p (r ∷ rows) after = ap (λ b. cond b (Some r) (file_at rows p)) (other p r.path after.0) ∙ at_none p rows after.1

-- ---- lists of paths

All-put : {X : Type 0} (P : X → Type 0) (k : List ℕ) (x : X) (es : List (List ℕ × X)) → P x → AllByRecursion (λ e. P e.1) es → AllByRecursion (λ e. P e.1) (put bytes_cmp k x es)
All-put P k x [] h all = (h, tt)
All-put P k x (e ∷ es) h all =
    elim (bytes_cmp k e.0) as (λ r. AllByRecursion (λ e. P e.1) (by_order r ((k, x) ∷ e ∷ es) ((e.0, x) ∷ es) (e ∷ put bytes_cmp k x es))) [
      | Less ↦ (h, all)
      | Equal ↦ (h, all.1)
      | Greater ↦ (all.0, All-put P k x es h all.1)
    ]

All-keyed : (P : List ℕ → Type 0) (names : List (List ℕ)) → AllByRecursion P names → AllByRecursion (λ e. P e.1) (keyed bytes_cmp same_name names)
All-keyed P [] all = tt
All-keyed P (n ∷ names) all = All-put P n n (keyed bytes_cmp same_name names) all.0 (All-keyed P names all.1)

All-values : (P : List ℕ → Type 0) (es : List (List ℕ × List ℕ)) → AllByRecursion (λ e. P e.1) es → AllByRecursion P (map (λ e. e.1) es)
All-values P [] all = tt
All-values P (e ∷ es) all = (all.0, All-values P es all.1)

-- what holds of all names holds of them ascending
All-ascending : (P : List ℕ → Type 0) (names : List (List ℕ)) → AllByRecursion P names → AllByRecursion P (ascending names)
All-ascending P names all = All-values P (keyed bytes_cmp same_name names) (All-keyed P names all)

All-paths : (k : List ℕ) (rows : List FileRow) → After path k rows → After same_name k (map path rows)
All-paths k [] after = tt
All-paths k (r ∷ rows) after = (after.0, All-paths k rows after.1)

All-both : (P : List ℕ → Type 0) (xs ys : List (List ℕ)) → AllByRecursion P xs → AllByRecursion P ys → AllByRecursion P (xs ++ ys)
All-both P [] ys a b = b
All-both P (x ∷ xs) ys a b = (a.0, All-both P xs ys a.1 b)

paths_of : (old new : List FileRow) → map path (old ++ new) ≡ map path old ++ map path new
paths_of [] new = refl
paths_of (r ∷ old) new = ap (λ ps. r.path ∷ ps) (paths_of old new)

same_items : (f g : List ℕ → Option Change) (ps : List (List ℕ)) → AllByRecursion (λ p. f p ≡ g p) ps → filter_map f ps ≡ filter_map g ps
same_items f g [] all = refl
same_items f g (p ∷ ps) all = (λ i. given (all.0 i) (same_items f g ps all.1 i))
  where
    given : Option Change → List Change → List Change
    given None cs = cs
    given (Some c) cs = c ∷ cs

All-map : (P Q : List ℕ → Type 0) → ((p : List ℕ) → P p → Q p) → (ps : List (List ℕ)) → AllByRecursion P ps → AllByRecursion Q ps
All-map P Q to [] all = tt
All-map P Q to (p ∷ ps) all = (to p all.0, All-map P Q to ps all.1)

-- ---- one path after the other

abbrev noted : List ℕ → Option How → Option Change
noted p h = option_map (λ h. record { path = p; how = h }) h

abbrev change_at : List FileRow → List FileRow → List ℕ → Option Change
change_at old new p = noted p (how (file_at old p) (file_at new p))

abbrev given : Option Change → List Change → List Change
given None cs = cs
given (Some c) cs = c ∷ cs

-- the differences behind a first path
step : (old new old' new' : List FileRow) (p : List ℕ)
    → ascending (map path (old ++ new)) ≡ p ∷ ascending (map path (old' ++ new'))
    → After path p old' → After path p new'
    → ((q : List ℕ) → bytes_cmp p q ≡ Less → file_at old q ≡ file_at old' q)
    → ((q : List ℕ) → bytes_cmp p q ≡ Less → file_at new q ≡ file_at new' q)
    → differences old new ≡ given (change_at old new p) (differences old' new')
step old new old' new' p first a b same_old same_new =
    ap (filter_map (change_at old new)) first
    ∙ ap (given (change_at old new p)) (
    same_items (change_at old new) (change_at old' new') (ascending (map path (old' ++ new')))
    (All-map (λ q. bytes_cmp p q ≡ Less) (λ q. change_at old new q ≡ change_at old' new' q) (λ q less i. noted q (how (same_old q less i) (same_new q less i)))
    (ascending (map path (old' ++ new')))
    (All-ascending (λ q. bytes_cmp p q ≡ Less) (map path (old' ++ new'))
    (subst (AllByRecursion (λ q. bytes_cmp p q ≡ Less)) (sym (paths_of old' new')) (All-both (λ q. bytes_cmp p q ≡ Less) (map path old') (map path new') (All-paths p old' a) (All-paths p new' b)))))
    )

-- a path that only the old list has
pub deleted_first : (a : FileRow) (old new : List FileRow) → After path a.path old → After path a.path new → differences (a ∷ old) new ≡ record { path = a.path; how = Deleted } ∷ differences old new
deleted_first a old new x y =
    step (a ∷ old) new old new a.path
    (ap ascending (paths_of (a ∷ old) new) ∙ first_left same_name a.path (map path old) (map path new) (All-paths a.path old x) (All-paths a.path new y) ∙ ap (λ ps. a.path ∷ ascending ps) (sym (paths_of old new)))
    x y (at_later a old) (λ q less. refl)
    ∙ (λ i. given (noted a.path (how (at_first a old i) (at_none a.path new y i))) (differences old new))

-- a path that only the new list has
pub added_first : (b : FileRow) (old new : List FileRow) → After path b.path old → After path b.path new → differences old (b ∷ new) ≡ record { path = b.path; how = Added } ∷ differences old new
added_first b old new x y =
    step old (b ∷ new) old new b.path
    (ap ascending (paths_of old (b ∷ new)) ∙ first_right same_name b.path (map path old) (map path new) (All-paths b.path old x) (All-paths b.path new y) ∙ ap (λ ps. b.path ∷ ascending ps) (sym (paths_of old new)))
    x y (λ q less. refl) (at_later b new)
    ∙ (λ i. given (noted b.path (how (at_none b.path old x i) (at_first b new i))) (differences old new))

-- a path that both lists have
pub both_first : (a b : FileRow) (old new : List FileRow) → bytes_cmp a.path b.path ≡ Equal → After path a.path old → After path b.path new → differences (a ∷ old) (b ∷ new) ≡ edits a b ++ differences old new
both_first a b old new e x y =
    let same : a.path ≡ b.path = bytes_cmp-IsAntisymmetric a.path b.path e in
    let x' : After path b.path old = subst (λ k. After path k old) same x in
    step (a ∷ old) (b ∷ new) old new b.path
    (ap ascending (paths_of (a ∷ old) (b ∷ new)) ∙ first_both same_name a.path b.path (map path old) (map path new) e (All-paths a.path old x) (All-paths b.path new y) ∙ (λ i. same i ∷ ascending (sym (paths_of old new) i)))
    x' y (λ q less. at_later a old q (subst (λ k. bytes_cmp k q ≡ Less) (sym same) less)) (at_later b new)
    ∙ (λ i. given (noted b.path (how (file_at (a ∷ old) (sym same i)) (at_first b new i))) (differences old new))
    ∙ ap (λ o. given (noted b.path (how o (Some b))) (differences old new)) (at_first a old)
    ∙ elim (same_file a b) as (λ s. given (noted b.path (if s then None else Some Edited)) (differences old new) ≡ cond s [] (record { path = b.path; how = Edited } ∷ []) ++ differences old new) [ true ↦ refl | false ↦ refl ]

-- ---- as the lists are walked

pub none_at : (rows : List FileRow) → None ≡ slice_get rows 0 → rows ≡ []
none_at [] e = refl
none_at (r ∷ rows) e = absurd cc

some_at : (rows : List FileRow) (a : FileRow) → Some a ≡ slice_get rows 0 → rows ≡ a ∷ drop 1 rows
some_at [] a e = absurd cc
some_at (r ∷ rows) a e = let same : r ≡ a = cc in λ i. same i ∷ rows

pub drop_rises : (rows : List FileRow) → Rise path rows → Rise path (drop 1 rows)
unfolding IsStrictlySortedBy
drop_rises [] h = h
drop_rises (r ∷ rows) h = h.1

abbrev pub deleted : FileRow → List Change
deleted a = record { path = a.path; how = Deleted } ∷ []

abbrev pub added : FileRow → List Change
added b = record { path = b.path; how = Added } ∷ []

module _ (old new : List FileRow) (old_rises : Rise path old) (new_rises : Rise path new) where
  after_old : (a : FileRow) → Some a ≡ slice_get old 0 → After path a.path (drop 1 old)
  after_old a e = After-first path a (drop 1 old) (subst (Rise path) (some_at old a e) old_rises)

  after_new : (b : FileRow) → Some b ≡ slice_get new 0 → After path b.path (drop 1 new)
  after_new b e = After-first path b (drop 1 new) (subst (Rise path) (some_at new b e) new_rises)

  pub deleted_alone : (a : FileRow) → Some a ≡ slice_get old 0 → None ≡ slice_get new 0 → differences old new ≡ deleted a ++ differences (drop 1 old) new
  deleted_alone a e f =
      ap (λ rows. differences rows new) (some_at old a e)
      ∙ deleted_first a (drop 1 old) new (after_old a e) (subst (After path a.path) (sym (none_at new f)) tt)

  pub added_alone : (b : FileRow) → None ≡ slice_get old 0 → Some b ≡ slice_get new 0 → differences old new ≡ added b ++ differences old (drop 1 new)
  added_alone b e f =
      ap (differences old) (some_at new b f)
      ∙ added_first b old (drop 1 new) (subst (After path b.path) (sym (none_at old e)) tt) (after_new b f)

  module _ (a b : FileRow) (e : Some a ≡ slice_get old 0) (f : Some b ≡ slice_get new 0) where
    pub deleted_before : bytes_cmp a.path b.path ≡ Less → differences old new ≡ deleted a ++ differences (drop 1 old) new
    deleted_before o =
        ap (λ rows. differences rows new) (some_at old a e)
        ∙ deleted_first a (drop 1 old) new (after_old a e)
        (subst (After path a.path) (sym (some_at new b f)) (o, After-later path a.path b.path (drop 1 new) o (after_new b f)))

    pub edited_both : bytes_cmp a.path b.path ≡ Equal → differences old new ≡ edits a b ++ differences (drop 1 old) (drop 1 new)
    edited_both o = (λ i. differences (some_at old a e i) (some_at new b f i)) ∙ both_first a b (drop 1 old) (drop 1 new) o (after_old a e) (after_new b f)

    pub added_before : bytes_cmp a.path b.path ≡ Greater → differences old new ≡ added b ++ differences old (drop 1 new)
    added_before o =
        let less : bytes_cmp b.path a.path ≡ Less = bytes_cmp-IsTotalOrder.antisymm b.path a.path ∙ ap ordering_reverse o in
        ap (differences old) (some_at new b f)
        ∙ added_first b old (drop 1 new)
        (subst (After path b.path) (sym (some_at old a e)) (less, After-later path b.path a.path (drop 1 old) less (after_old a e))) (after_new b f)

-- what was noted, with what is left to note
pub noted_step : (before now more left all : List Change) → now ≡ before ++ more → all ≡ more ++ left → now ++ left ≡ before ++ all
noted_step before now more left all e f = ap (λ l. l ++ left) e ∙ append_assoc before more left ∙ ap (λ l. before ++ l) (sym f)
