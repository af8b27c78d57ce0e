-- The posts of a thread by the pairs are those of the definition.
use Rattle.std.specs.Prelude.{◌≡◌, ◌&&◌, ℕ, List, [], ◌∷◌, Bool, true, false, cond, if◌then◌else◌, Some, None, is_some, map, filter, filter_map, option_and_then}
use Rattle.std.proofs.Common.{refl, sym, ap, ◌∙◌, subst}
use Rattle.std.specs.List.{AllByRecursion, cons_option}
use Rattle.std.specs.List.Sorted.{IsStrictlySortedBy}
use Rattle.std.specs.declared.cmp.Ordering.TheVariants.{Less, Equal, Greater}
use Rattle.std.specs.Ordering.{is_eq}
use Rattle.std.specs.Map.{keys_of, values_of}
use Rattle.std.specs.Str.{bytes_eq}
use Rattle.std.specs.Cmp.Lexicographic.{texts_ties, nat_list_eq_equiv}
use Rattle.std.specs.FinMap.{put}
use Rattle.std.specs.FinMap.Entries.{by_order}
use Rattle.std.proofs.lemmas.List.Kept.{IsStrictlySortedBy-filter}
use Rattle.fsl_order.specs.Names.{bytes_cmp, dated_cmp, has}
use Rattle.fsl_order.specs.Rows.{keyed}
use Rattle.fsl_order.proofs.Places.{put-insert}
use Rattle.fsl_order.proofs.RowLemmas.{is_some-named, has-filter}
use Rattle.fsl_order.proofs.SortedLemmas.{ascending-from}
use Rattle.fsl_table.specs.declared.key.Pair.{Pair}
use Rattle.fsl_table.specs.Pairs.{is_name, seconds}
use Rattle.fsl_table.proofs.Seconds.{has_seconds, seconds_sorted}
use Rattle.fsl_forum.specs.declared.Fact.{Fact}
use Rattle.fsl_forum.specs.declared.Post.{Post}
use Rattle.fsl_forum.specs.Held.{Nodes, AreOf, facts_of}
use Rattle.fsl_forum.specs.Kept.{place_by}
use Rattle.fsl_forum.specs.Rows.{with_post}
use Rattle.fsl_forum.specs.Threads.{post, end, is_valid, thread_of, place, thread, shown}

-- ---- by date and name

abbrev Key : Type 0
Key = ℕ × List ℕ

-- entries as a thread shows them
abbrev shown_all : List (Key × Fact) → List (Key × Post)
shown_all es = map (λ e. (e.0, shown e.1)) es

shown-put : (k : Key) (f : Fact) (es : List (Key × Fact)) → shown_all (put dated_cmp k f es) ≡ put dated_cmp k (shown f) (shown_all es)
shown-put k f [] = refl
shown-put k f (e ∷ es) =
    elim (dated_cmp k e.0) as (λ r. shown_all (by_order r ((k, f) ∷ e ∷ es) ((e.0, f) ∷ es) (e ∷ put dated_cmp k f es))
    ≡ by_order r ((k, shown f) ∷ (e.0, shown e.1) ∷ shown_all es) ((e.0, shown f) ∷ shown_all es) ((e.0, shown e.1) ∷ put dated_cmp k (shown f) (shown_all es))) [
      | Less ↦ refl
      | Equal ↦ refl
      | Greater ↦ ap (λ l. (e.0, shown e.1) ∷ l) (shown-put k f es)
    ]

pub shown-values : (es : List (Key × Fact)) → values_of (shown_all es) ≡ map shown (map (λ e. e.1) es)
shown-values [] = refl
shown-values (e ∷ es) = ap (λ l. shown e.1 ∷ l) (shown-values es)

abbrev dated : List Fact → List (Key × Fact)
dated facts = keyed dated_cmp (λ f. (f.date, f.name)) facts

-- the post of a name before others
pub gathered-more : (facts : List Fact) (name : List ℕ) (names : List (List ℕ)) → with_post (post facts name) (shown_all (dated (filter_map (post facts) names))) ≡ shown_all (dated (filter_map (post facts) (name ∷ names)))
gathered-more facts name names =
    elim (post facts name) as (λ o. with_post o (shown_all (dated (filter_map (post facts) names))) ≡ shown_all (dated (cons_option o (filter_map (post facts) names)))) [
      | None ↦ refl
      | Some f ↦ sym (put-insert dated_cmp (f.date, f.name) (shown f) (shown_all (dated (filter_map (post facts) names)))) ∙ sym (shown-put (f.date, f.name) f (dated (filter_map (post facts) names)))
    ]

-- ---- the names of a thread

abbrev AreOwn : List Fact → List Fact → Type 0
AreOwn all facts = AllByRecursion (λ f. post all f.name ≡ Some f) facts

own-more : (e : Fact) (all facts : List Fact) → AllByRecursion (λ n. bytes_cmp e.name n ≡ Less) (map (λ f. f.name) facts) → AreOwn all facts → AreOwn (e ∷ all) facts
own-more e all [] above own = tt
own-more e all (f ∷ facts) above own = (
  ap (λ b. cond b (Some e) (post all f.name)) (texts_ties e.name f.name ∙ ap is_eq above.0) ∙ own.0,
  own-more e all facts above.1 own.1,
)

-- posts in order are each the one of its name
are-own : (facts : List Fact) → IsStrictlySortedBy bytes_cmp (map (λ f. f.name) facts) → AreOwn facts facts
unfolding IsStrictlySortedBy
are-own [] up = tt
are-own (f ∷ facts) up = (ap (λ b. cond b (Some f) (post facts f.name)) (nat_list_eq_equiv.refl f.name), own-more f facts facts up.0 (are-own facts up.1))

names-keys : (es : Nodes) → map (λ f. f.name) (facts_of es) ≡ keys_of es
names-keys [] = refl
names-keys (e ∷ es) = ap (λ l. e.0 ∷ l) (names-keys es)

module _ (all : List Fact) (root : List ℕ) where
  abbrev in_it : Fact → Bool
  in_it f = is_valid all f && bytes_eq (thread_of all f) root

  abbrev named_in : List ℕ → Bool
  named_in x = is_name (place all x) root

  in-is : (f : Fact) → post all f.name ≡ Some f → named_in f.name ≡ in_it f
  in-is f own = ap (λ o. is_name (option_and_then (λ f. place_by (end all f.name) f) o) root) own ∙ elim (is_valid all f) as (λ b. is_name (if b then Some (thread_of all f) else None) root ≡ (b && bytes_eq (thread_of all f) root)) [ true ↦ refl | false ↦ refl ]

  posts-named : (facts : List Fact) → AreOwn all facts → filter_map (post all) (filter named_in (map (λ f. f.name) facts)) ≡ filter in_it facts
  posts-named [] own = refl
  posts-named (f ∷ facts) own =
      ap (λ b. filter_map (post all) (cond b (f.name ∷ filter named_in (map (λ f. f.name) facts)) (filter named_in (map (λ f. f.name) facts)))) (in-is f own.0)
      ∙ elim (in_it f) as (λ b. filter_map (post all) (cond b (f.name ∷ filter named_in (map (λ f. f.name) facts)) (filter named_in (map (λ f. f.name) facts))) ≡ cond b (f ∷ filter in_it facts) (filter in_it facts)) [
        | true ↦ (λ i. cons_option (own.0 i) (posts-named facts own.1 i))
        | false ↦ posts-named facts own.1
      ]

  names-in : (names : List (List ℕ)) → IsStrictlySortedBy bytes_cmp (map (λ f. f.name) all) → IsStrictlySortedBy bytes_cmp names → ((x : List ℕ) → has names x ≡ named_in x) → names ≡ filter named_in (map (λ f. f.name) all)
  names-in names up rise same =
      let ks = filter named_in (map (λ f. f.name) all) in
      ascending-from ks names rise (λ q. same q ∙ sym (has-filter named_in (map (λ f. f.name) all) q ∙ ap (λ b. b && named_in q) (sym (is_some-named (λ f. f.name) all q)) ∙ there q))
      ∙ sym (ascending-from ks ks (IsStrictlySortedBy-filter bytes_cmp named_in (map (λ f. f.name) all) up) (λ q. refl))
    where
      there : (q : List ℕ) → (is_some (post all q) && named_in q) ≡ named_in q
      there q = elim (post all q) as (λ o. (is_some o && is_name (option_and_then (λ f. place_by (end all f.name) f) o) root) ≡ is_name (option_and_then (λ f. place_by (end all f.name) f) o) root) [ None ↦ refl | Some f ↦ refl ]

pub thread-posts : (es : Nodes) (placed : List (Pair × Unit {0})) (root : List ℕ) → IsStrictlySortedBy bytes_cmp (keys_of es) → AreOf (place (facts_of es)) placed
    → map shown (map (λ e. e.1) (dated (filter_map (post (facts_of es)) (seconds root placed)))) ≡ thread (facts_of es) root
thread-posts es placed root ordered of_ =
    let up : IsStrictlySortedBy bytes_cmp (map (λ f. f.name) (facts_of es)) = subst (IsStrictlySortedBy bytes_cmp) (sym (names-keys es)) ordered in
    let names = names-in (facts_of es) root (seconds root placed) up (seconds_sorted root placed of_.ordered) (λ x. has_seconds root x placed ∙ of_.pairs (record { first = root; second = Some x })) in
    ap (λ fs. map shown (map (λ e. e.1) (dated fs))) (ap (filter_map (post (facts_of es))) names ∙ posts-named (facts_of es) root (facts_of es) (are-own (facts_of es) up))
