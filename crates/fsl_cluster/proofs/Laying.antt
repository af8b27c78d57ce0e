-- Which names are unclustered and which are missing: with one fact more, with one less, and with one that becomes public.
use Rattle.std.proofs.Common.{◌≡◌, ℕ, List, Bool, true, false, cond, not, ◌||◌, ◌&&◌, Some, None, is_some, refl, sym, ap, ◌∙◌}
use Rattle.std.specs.Str.{bytes_eq}
use Rattle.std.specs.Cmp.Lexicographic.{bytes_decides}
use Rattle.fsl_order.specs.Names.{bytes_cmp, has}
use Rattle.fsl_table.specs.Contents.{value_at, with_entry, without_key}
use Rattle.fsl_table.proofs.Finding.{value-with, value-without}
use Rattle.fsl_cluster.specs.declared.entry.Entry.{Entry}
use Rattle.fsl_cluster.specs.Kept.{Entries, is_listed, is_public, is_free, is_absent, is_unheld}
use Rattle.fsl_cluster.proofs.Listing.{Sorted, listed_with, listed_less, listed_over}

-- ---- with one more
module _ (es : Entries) (name : List ℕ) (v : Entry) (sorted : Sorted es) (absent : value_at bytes_cmp name es ≡ None) where
  abbrev with : Entries
  with = with_entry bytes_cmp name v es

  pub was_bound : is_free es name ≡ false
  was_bound = ap (λ o. is_public o && not (is_listed (λ e. e.members) es name)) absent

  split : (p h l : Bool) → ((p && not l) && not h) ≡ (p && not (h || l))
  split true true true = refl
  split true true false = refl
  split true false l = and-true (not l)
    where
      and-true : (b : Bool) → (b && true) ≡ b
      and-true true = refl
      and-true false = refl
  split false h l = refl

  pub free_with : (q : List ℕ) → ((is_free es q && not (has v.members q)) || (bytes_eq q name && (not v.private && not (is_listed (λ e. e.members) with name)))) ≡ is_free with q
  free_with q =
      elim (bytes_eq q name) as (λ b. bytes_eq q name ≡ b → ((is_free es q && not (has v.members q)) || (b && (not v.private && not (is_listed (λ e. e.members) with name)))) ≡ (is_public (cond b (Some v) (value_at bytes_cmp q es)) && not (is_listed (λ e. e.members) with q))) [
        | true ↦ λ s.
            ap (λ x. (x && not (has v.members q)) || (not v.private && not (is_listed (λ e. e.members) with name))) (ap (is_free es) ((bytes_decides q name).0 s) ∙ was_bound)
            ∙ ap (λ n. not v.private && not (is_listed (λ e. e.members) with n)) (sym ((bytes_decides q name).0 s))
        | false ↦ λ s.
            or-none (is_free es q && not (has v.members q))
            ∙ split (is_public (value_at bytes_cmp q es)) (has v.members q) (is_listed (λ e. e.members) es q)
            ∙ ap (λ x. is_public (value_at bytes_cmp q es) && not x) (sym (listed_with (λ e. e.members) es name v sorted absent q))
      ] refl
      ∙ ap (λ o. is_public o && not (is_listed (λ e. e.members) with q)) (sym (value-with name v es q))
    where
      or-none : (b : Bool) → (b || false) ≡ b
      or-none true = refl
      or-none false = refl

  come : (s h l : Bool) → (((not s && l) || (h && not s)) && true) ≡ (not s && (h || l))
  come true true l = refl
  come true false l = refl
  come false true true = refl
  come false true false = refl
  come false false true = refl
  come false false false = refl

  pub absent_with : (q : List ℕ) → ((is_absent es q || (has v.refs q && is_unheld es name q)) && not (bytes_eq q name)) ≡ is_absent with q
  absent_with q =
      elim (bytes_eq q name) as (λ b. ((is_absent es q || (has v.refs q && not (b || is_some (value_at bytes_cmp q es)))) && not b) ≡ (not (is_some (cond b (Some v) (value_at bytes_cmp q es))) && is_listed (λ e. e.refs) with q)) [
        | true ↦ never (is_absent es q || (has v.refs q && false))
        | false ↦
            come (is_some (value_at bytes_cmp q es)) (has v.refs q) (is_listed (λ e. e.refs) es q)
            ∙ ap (λ x. not (is_some (value_at bytes_cmp q es)) && x) (sym (listed_with (λ e. e.refs) es name v sorted absent q))
      ]
      ∙ ap (λ o. not (is_some o) && is_listed (λ e. e.refs) with q) (sym (value-with name v es q))
    where
      never : (b : Bool) → (b && false) ≡ false
      never true = refl
      never false = refl

-- ---- with one less
module _ (es : Entries) (name : List ℕ) (v : Entry) (sorted : Sorted es) (there : value_at bytes_cmp name es ≡ Some v) where
  abbrev less : Entries
  less = without_key bytes_cmp name es

  left : (p h l : Bool) → (((p && not (h || l)) || (h && (true && (p && not l)))) && true) ≡ (p && not l)
  left true true true = refl
  left true true false = refl
  left true false true = refl
  left true false false = refl
  left false true l = refl
  left false false l = refl

  pub free_less : (q : List ℕ) → ((is_free es q || (has v.members q && (not (bytes_eq q name) && (is_public (value_at bytes_cmp q es) && not (is_listed (λ e. e.members) less q))))) && not (bytes_eq q name)) ≡ is_free less q
  free_less q =
      ap (λ x. ((is_public (value_at bytes_cmp q es) && not x) || (has v.members q && (not (bytes_eq q name) && (is_public (value_at bytes_cmp q es) && not (is_listed (λ e. e.members) less q))))) && not (bytes_eq q name))
      (listed_less (λ e. e.members) es name v sorted there q)
      ∙ elim (bytes_eq q name) as (λ b. (((is_public (value_at bytes_cmp q es) && not (has v.members q || is_listed (λ e. e.members) less q)) || (has v.members q && (not b && (is_public (value_at bytes_cmp q es) && not (is_listed (λ e. e.members) less q))))) && not b)
      ≡ (is_public (cond b None (value_at bytes_cmp q es)) && not (is_listed (λ e. e.members) less q))) [
        | true ↦ never ((is_public (value_at bytes_cmp q es) && not (has v.members q || is_listed (λ e. e.members) less q)) || (has v.members q && false))
        | false ↦ left (is_public (value_at bytes_cmp q es)) (has v.members q) (is_listed (λ e. e.members) less q)
      ]
      ∙ ap (λ o. is_public o && not (is_listed (λ e. e.members) less q)) (sym (value-without name es sorted q))
    where
      never : (b : Bool) → (b && false) ≡ false
      never true = refl
      never false = refl

  gone : (s h l : Bool) → (((not s && (h || l)) && not (h && not l)) || false) ≡ (not s && l)
  gone true h l = refl
  gone false true true = refl
  gone false true false = refl
  gone false false true = refl
  gone false false false = refl

  pub absent_less : (q : List ℕ) → ((is_absent es q && not (has v.refs q && not (is_listed (λ e. e.refs) less q))) || (bytes_eq q name && is_listed (λ e. e.refs) less name)) ≡ is_absent less q
  absent_less q =
      elim (bytes_eq q name) as (λ b. bytes_eq q name ≡ b → ((is_absent es q && not (has v.refs q && not (is_listed (λ e. e.refs) less q))) || (b && is_listed (λ e. e.refs) less name)) ≡ (not (is_some (cond b None (value_at bytes_cmp q es))) && is_listed (λ e. e.refs) less q)) [
        | true ↦ λ s.
            ap (λ o. ((not (is_some o) && is_listed (λ e. e.refs) es q) && not (has v.refs q && not (is_listed (λ e. e.refs) less q))) || is_listed (λ e. e.refs) less name) (ap (λ n. value_at bytes_cmp n es) ((bytes_decides q name).0 s) ∙ there)
            ∙ ap (is_listed (λ e. e.refs) less) (sym ((bytes_decides q name).0 s))
        | false ↦ λ s.
            ap (λ x. ((not (is_some (value_at bytes_cmp q es)) && x) && not (has v.refs q && not (is_listed (λ e. e.refs) less q))) || false) (listed_less (λ e. e.refs) es name v sorted there q)
            ∙ gone (is_some (value_at bytes_cmp q es)) (has v.refs q) (is_listed (λ e. e.refs) less q)
      ] refl
      ∙ ap (λ o. not (is_some o) && is_listed (λ e. e.refs) less q) (sym (value-without name es sorted q))

  -- ---- with one that becomes public
  module _ (w : Entry) (was : v.private ≡ true) (public : w.private ≡ false) (members : v.members ≡ w.members) (refs : v.refs ≡ w.refs) where
    abbrev over : Entries
    over = with_entry bytes_cmp name w es

    pub was_private : is_free es name ≡ false
    was_private = ap (λ o. is_public o && not (is_listed (λ e. e.members) es name)) there ∙ ap (λ b. not b && not (is_listed (λ e. e.members) es name)) was

    pub free_over : (q : List ℕ) → (is_free es q || (bytes_eq q name && not (is_listed (λ e. e.members) es name))) ≡ is_free over q
    free_over q =
        elim (bytes_eq q name) as (λ b. bytes_eq q name ≡ b → (is_free es q || (b && not (is_listed (λ e. e.members) es name))) ≡ (is_public (cond b (Some w) (value_at bytes_cmp q es)) && not (is_listed (λ e. e.members) es q))) [
          | true ↦ λ s.
              ap (λ x. x || not (is_listed (λ e. e.members) es name)) (ap (is_free es) ((bytes_decides q name).0 s) ∙ was_private)
              ∙ ap (λ n. not (is_listed (λ e. e.members) es n)) (sym ((bytes_decides q name).0 s))
              ∙ ap (λ b. not b && not (is_listed (λ e. e.members) es q)) (sym public)
          | false ↦ λ s. or-none (is_free es q)
        ] refl
        ∙ (λ i. is_public (sym (value-with name w es q) i) && not (sym (listed_over (λ e. e.members) es name v sorted there w members q) i))
      where
        or-none : (b : Bool) → (b || false) ≡ b
        or-none true = refl
        or-none false = refl

    pub absent_over : (q : List ℕ) → is_absent es q ≡ is_absent over q
    absent_over q =
        elim (bytes_eq q name) as (λ b. bytes_eq q name ≡ b → is_absent es q ≡ (not (is_some (cond b (Some w) (value_at bytes_cmp q es))) && is_listed (λ e. e.refs) es q)) [
          | true ↦ λ s. ap (λ o. not (is_some o) && is_listed (λ e. e.refs) es q) (ap (λ n. value_at bytes_cmp n es) ((bytes_decides q name).0 s) ∙ there)
          | false ↦ λ s. refl
        ] refl
        ∙ (λ i. not (is_some (sym (value-with name w es q) i)) && sym (listed_over (λ e. e.refs) es name v sorted there w refs q) i)
