-- Tables that are filled with posts, one after the other, each with the end that its chain has among all.
use mathlib.Core.Bool.{true≢false}
use Rattle.std.specs.Prelude.{◌≡◌, ℕ, List, [], ◌∷◌, true, false, cond, Option, Some, None, is_some, option_and_then, map}
use Rattle.std.proofs.Common.{refl, sym, ap, ◌∙◌, subst}
use Rattle.std.specs.Option.{option_map_or}
use Rattle.std.specs.Str.{bytes_eq}
use Rattle.std.specs.List.Sorted.{IsStrictlySortedBy}
use Rattle.std.specs.Map.{keys_of}
use Rattle.std.specs.Cmp.Lexicographic.{nat_list_eq_equiv}
use Rattle.fsl_order.specs.Names.{bytes_cmp}
use Rattle.fsl_order.specs.Rows.{by_name, AreDistinct}
use Rattle.fsl_order.proofs.NamedLemmas.{named-by_name}
use Rattle.fsl_order.proofs.RowLemmas.{is_some-named}
use Rattle.fsl_order.proofs.Orders.{bytes_cmp-IsTotalOrder}
use Rattle.fsl_name.proofs.RowsBuilt.{by_name-again}
use Rattle.fsl_table.specs.Contents.{value_at, with_entry}
use Rattle.fsl_table.proofs.Entries.{sorted-insert_entry}
use Rattle.fsl_table.proofs.Facts.{facts_with, absent_before}
use Rattle.fsl_forum.specs.declared.Fact.{Fact}
use Rattle.fsl_forum.specs.Held.{AreMoved, AreOf, IsEnded, IsKept, Rows, fact_of, facts_of, node_of}
use Rattle.fsl_forum.specs.Kept.{place_by}
use Rattle.fsl_forum.specs.Threads.{post, next, next_of, end, place}
use Rattle.fsl_forum.proofs.ChainLaw.{end_by_next, end-alike}
use Rattle.fsl_forum.proofs.Invalid.{place-alike}
use Rattle.fsl_forum.proofs.Linked.{of-alike}
use Rattle.std.proofs.Math.Path.{transport}
use Rattle.fsl_forum.proofs.Canonical.{of-none}
use Rattle.fsl_forum.proofs.Climbs.{named_so}

-- where the posts stand, by the ends of their chains among all
abbrev pub place_among : List Fact → List Fact → List ℕ → Option (List ℕ)
place_among all facts x = option_and_then (λ f. place_by (end all f.name) f) (post facts x)

abbrev pub end_among : List Fact → List Fact → List ℕ → Option (List ℕ)
end_among all facts x = option_and_then (λ f. end all f.name) (post facts x)

-- some posts are in
pub record IsFilled (all facts : List Fact) (r : Rows) : Type 0 where
  pub are : facts_of r.posts.entries ≡ by_name (λ f. f.name) facts
  pub ordered : IsStrictlySortedBy bytes_cmp (keys_of r.posts.entries)
  pub following : AreOf (next_of facts) r.followers.entries
  pub ends_ordered : IsStrictlySortedBy bytes_cmp (keys_of r.ends.entries)
  pub ended : (x : List ℕ) → value_at bytes_cmp x r.ends.entries ≡ end_among all facts x
  pub standing : AreOf (place_among all facts) r.placed.entries

none-named : (facts : List Fact) (f : Fact) → AreDistinct (map (λ f. f.name) (f ∷ facts)) → post facts f.name ≡ None
none-named facts f d = sym (named-by_name (λ f. f.name) facts f.name) ∙ none (post (by_name (λ f. f.name) facts) f.name) (is_some-named (λ f. f.name) (by_name (λ f. f.name) facts) f.name ∙ absent_before (λ f. f.name) f facts d)
  where
    none : (o : Option Fact) → is_some o ≡ false → o ≡ None
    none None h = refl
    none (Some f) h = absurd (true≢false h)

module _ {B : Type 0} (g : Fact → Option B) (f : Fact) (facts : List Fact) where
  pub one-more : (x : List ℕ) → cond (bytes_eq x f.name) (g f) (option_and_then g (post facts x)) ≡ option_and_then g (post (f ∷ facts) x)
  one-more x =
      ap (λ b. cond b (g f) (option_and_then g (post facts x))) (nat_list_eq_equiv.symm x f.name)
      ∙ elim (bytes_eq f.name x) as (λ b. cond b (g f) (option_and_then g (post facts x)) ≡ option_and_then g (cond b (Some f) (post facts x))) [ true ↦ refl | false ↦ refl ]

  pub none-more : AreDistinct (map (λ f. f.name) (f ∷ facts)) → option_and_then g (post facts f.name) ≡ None
  none-more d = ap (option_and_then g) (none-named facts f d)

pub filled-more : (all facts : List Fact) (f : Fact) (r s : Rows) (found : Option (List ℕ))
    → AreDistinct (map (λ f. f.name) (f ∷ facts)) → found ≡ end all f.name → IsFilled all facts r
    → s.posts.entries ≡ with_entry bytes_cmp f.name (node_of f) r.posts.entries
    → AreMoved f.name None (next f) r.followers.entries s.followers.entries
    → IsStrictlySortedBy bytes_cmp (keys_of s.ends.entries)
    → IsEnded f.name found r.ends.entries s.ends.entries
    → AreMoved f.name None (place_by found f) r.placed.entries s.placed.entries
    → IsFilled all (f ∷ facts) s
filled-more all facts f r s found d known is put follow sorted ended stand = record {
  are = ap facts_of put ∙ facts_with fact_of (λ f. f.name) (λ e. refl) f.name (node_of f) r.posts.entries is.ordered ∙ ap (λ fs. by_name (λ f. f.name) (f ∷ fs)) is.are ∙ by_name-again (λ f. f.name) f facts d;
  ordered = subst (λ es. IsStrictlySortedBy bytes_cmp (keys_of es)) (sym put) (sorted-insert_entry bytes_cmp-IsTotalOrder f.name (node_of f) r.posts.entries is.ordered);
  following = of-alike (λ x. cond (bytes_eq x f.name) (next f) (next_of facts x)) (next_of (f ∷ facts)) s.followers.entries (one-more next f facts) (follow (next_of facts) is.following (none-more next f facts d));
  ends_ordered = sorted;
  ended = λ x. ended x ∙ (λ i. cond (bytes_eq x f.name) (known i) (is.ended x i)) ∙ one-more (λ f. end all f.name) f facts x;
  standing = of-alike (λ x. cond (bytes_eq x f.name) (place_by found f) (place_among all facts x)) (place_among all (f ∷ facts)) s.placed.entries
      (λ x. ap (λ e. cond (bytes_eq x f.name) (place_by e f) (place_among all facts x)) known ∙ one-more (λ f. place_by (end all f.name) f) f facts x)
      (stand (place_among all facts) is.standing (none-more (λ f. place_by (end all f.name) f) f facts d));
}

-- all are in
pub filled-all : (all : List Fact) (r : Rows) → IsFilled all all r → IsKept r
filled-all all r is =
    let same : (x : List ℕ) → post all x ≡ post (facts_of r.posts.entries) x = λ x. sym (ap (λ fs. post fs x) is.are ∙ named-by_name (λ f. f.name) all x) in
    let ends : (x : List ℕ) → end all x ≡ end (facts_of r.posts.entries) x = end-alike all (facts_of r.posts.entries) same in
    record {
      ordered = is.ordered;
      followers = of-alike (next_of all) (next_of (facts_of r.posts.entries)) r.followers.entries (λ x. ap (option_and_then next) (same x)) is.following;
      ends_ordered = is.ends_ordered;
      ends = λ x. is.ended x ∙ end-named x ∙ ends x;
      placed = of-alike (place all) (place (facts_of r.posts.entries)) r.placed.entries (λ x. place-alike all (facts_of r.posts.entries) x (same x) ends) is.standing;
    }
  where
    end-named : (x : List ℕ) → end_among all all x ≡ end all x
    end-named x =
        elim (post all x) as (λ o. post all x ≡ o → option_and_then (λ f. end all f.name) o ≡ end all x) [
          | None ↦ λ p. sym (end_by_next all x ∙ ap (option_and_then (λ f. option_map_or (end all) (next f) (Some f.name))) p)
          | Some f ↦ λ p. ap (end all) (named_so all all x f p)
        ] refl

-- none are in
pub filled-none : (all facts : List Fact) (r : Rows) → facts ≡ [] → r.posts.entries ≡ [] → r.followers.entries ≡ [] → r.ends.entries ≡ [] → r.placed.entries ≡ [] → IsFilled all facts r
unfolding IsStrictlySortedBy
filled-none all facts r d p f e w =
    transport
    (λ i. IsFilled all (sym d i) (record {
      posts = record { entries = sym p i; spare = r.posts.spare };
      followers = record { entries = sym f i; spare = r.followers.spare };
      ends = record { entries = sym e i; spare = r.ends.spare };
      placed = record { entries = sym w i; spare = r.placed.spare };
    }))
    (record { are = refl; ordered = tt; following = of-none (next_of []) (λ x. refl); ends_ordered = tt; ended = λ x. refl; standing = of-none (place_among all []) (λ x. refl) })
