-- What a write makes of a map by text or name, and of a map of maps.
use Rattle.std.specs.Prelude.{◌≡◌, ◌&&◌, ℕ, List, [], true, false, cond, Option, Some, None, if◌then◌else◌}
use Rattle.std.proofs.Common.{refl, sym, ap, subst, ◌∙◌}
use Rattle.std.specs.declared.cmp.Ordering.{Ordering}
use Rattle.std.specs.Ordering.{is_lt}
use Rattle.std.specs.Option.{option_map_or}
use Rattle.std.specs.BTreeMap.{BTreeMap, is_at}
use Rattle.std.specs.Str.{bytes_eq}
use Rattle.std.specs.Cmp.Lexicographic.{texts_ties, bytes_decides}
use Rattle.fsl_order.specs.Names.{bytes_cmp}
use Rattle.fsl_order.specs.Rows.{greater}
use Rattle.fsl_order.specs.Maps.{value_at, group_at}

-- the value of one key is written
abbrev pub Writes : {X : Type 0} → List (List ℕ × X) → List (List ℕ × X) → List ℕ → X → Type 0
Writes old new key x = (q : List ℕ) → value_at new q ≡ cond (is_at (bytes_cmp key) q) (Some x) (value_at old q)

module _ {X : Type 0} where
  pub value_written : (old new : List (List ℕ × X)) (key : List ℕ) (x : X) → Writes old new key x → (q : List ℕ) → value_at new q ≡ cond (bytes_eq key q) (Some x) (value_at old q)
  value_written old new key x written q = written q ∙ ap (λ b. cond b (Some x) (value_at old q)) (sym (texts_ties key q))

  module _ (R : X → X → Ordering) where
    not_outdone : (x : X) (kept : Option X) → option_map_or (λ y. is_lt (R x y)) kept false ≡ false → Some x ≡ greater R (Some x) kept
    not_outdone x None e = refl
    not_outdone x (Some y) e = ap (λ b. Some (if b then y else x)) (sym e)

    -- a value that isn't outdone is written
    pub kept_put : (old new : List (List ℕ × X)) (key : List ℕ) (x : X) → option_map_or (λ y. is_lt (R x y)) (value_at old key) false ≡ false → Writes old new key x
        → (q : List ℕ) → value_at new q ≡ cond (bytes_eq key q) (greater R (Some x) (value_at old q)) (value_at old q)
    kept_put old new key x not_less written q =
        value_written old new key x written q
        ∙ elim (bytes_eq key q) as (λ b. bytes_eq key q ≡ b → cond b (Some x) (value_at old q) ≡ cond b (greater R (Some x) (value_at old q)) (value_at old q)) [
          | true ↦ λ e. not_outdone x (value_at old q) (sym (ap (λ k. option_map_or (λ y. is_lt (R x y)) (value_at old k) false) ((bytes_decides key q).0 e)) ∙ not_less)
          | false ↦ λ _. refl
        ] refl

module _ {K X : Type 0} where
  -- the map of one text is written
  pub group_written : (old new : List (List ℕ × BTreeMap K X)) (key : List ℕ) (w : BTreeMap K X) → Writes old new key w
      → (q : List ℕ) → group_at new q ≡ cond (bytes_eq key q) w.entries (group_at old q)
  group_written old new key w written q =
      ap (λ o. option_map_or (λ g. g.entries) o []) (value_written old new key w written q)
      ∙ elim (bytes_eq key q) as (λ b. option_map_or (λ g. g.entries) (cond b (Some w) (value_at old q)) [] ≡ cond b w.entries (group_at old q)) [ true ↦ refl | false ↦ refl ]

  -- the map of one text becomes what a function makes of it
  pub group_changed : (old new : List (List ℕ × BTreeMap K X)) (key : List ℕ) (w : BTreeMap K X) (f : List (K × X) → List (K × X)) → Writes old new key w → w.entries ≡ f (group_at old key)
      → (q : List ℕ) → group_at new q ≡ cond (bytes_eq key q) (f (group_at old q)) (group_at old q)
  group_changed old new key w f written is q =
      group_written old new key w written q
      ∙ elim (bytes_eq key q) as (λ b. bytes_eq key q ≡ b → cond b w.entries (group_at old q) ≡ cond b (f (group_at old q)) (group_at old q)) [
        | true ↦ λ e. is ∙ ap (λ k. f (group_at old k)) ((bytes_decides key q).0 e)
        | false ↦ λ _. refl
      ] refl

  -- a text that had no map gets what a function makes of no entries
  pub group_begun : (old mid new : List (List ℕ × BTreeMap K X)) (key k : List ℕ) (w : BTreeMap K X) (f : List (K × X) → List (K × X)) → mid ≡ old → k ≡ key → value_at old key ≡ None → Writes mid new k w → w.entries ≡ f []
      → (q : List ℕ) → group_at new q ≡ cond (bytes_eq key q) (f (group_at old q)) (group_at old q)
  group_begun old mid new key k w f same own none written is =
      group_changed old new key w f (subst (λ k. Writes old new k w) own (subst (λ m. Writes m new k w) same written)) (is ∙ ap (λ o. f (option_map_or (λ g. g.entries) o [])) (sym none))

module _ {X : Type 0} (R : X → X → Ordering) where
  -- what a value of a key is to become, where it has a value already or not
  abbrev pub Keeps : (List ℕ → Option X) → List (List ℕ × X) → List ℕ → X → Type 0
  Keeps was new key x = (q : List ℕ) → value_at new q ≡ cond (bytes_eq key q) (greater R (Some x) (was q)) (was q)

  -- the map of one text takes a value in, unless that is outdone
  pub group_kept : (old new : List (List ℕ × BTreeMap (List ℕ) X)) (text key : List ℕ) (x : X) (w : BTreeMap (List ℕ) X) → Writes old new text w → Keeps (value_at (group_at old text)) w.entries key x
      → (t q : List ℕ) → value_at (group_at new t) q ≡ cond (bytes_eq text t && bytes_eq key q) (greater R (Some x) (value_at (group_at old t) q)) (value_at (group_at old t) q)
  group_kept old new text key x w written keeps t q =
      ap (λ es. value_at es q) (group_written old new text w written t)
      ∙ elim (bytes_eq text t) as (λ b. bytes_eq text t ≡ b → value_at (cond b w.entries (group_at old t)) q ≡ cond (b && bytes_eq key q) (greater R (Some x) (value_at (group_at old t) q)) (value_at (group_at old t) q)) [
        | true ↦ λ e. keeps q ∙ ap (λ k. cond (bytes_eq key q) (greater R (Some x) (value_at (group_at old k) q)) (value_at (group_at old k) q)) ((bytes_decides text t).0 e)
        | false ↦ λ _. refl
      ] refl

  -- the same of a text that had no map
  pub group_kept_first : (old mid new : List (List ℕ × BTreeMap (List ℕ) X)) (text t key : List ℕ) (x : X) (w : BTreeMap (List ℕ) X) → mid ≡ old → t ≡ text → value_at old text ≡ None → Writes mid new t w → Keeps (λ _. None) w.entries key x
      → (t q : List ℕ) → value_at (group_at new t) q ≡ cond (bytes_eq text t && bytes_eq key q) (greater R (Some x) (value_at (group_at old t) q)) (value_at (group_at old t) q)
  group_kept_first old mid new text t key x w same own none written keeps =
      group_kept old new text key x w (subst (λ k. Writes old new k w) own (subst (λ m. Writes m new t w) same written))
      (subst (λ o. Keeps (value_at (option_map_or (λ g. g.entries) o [])) w.entries key x) (sym none) keeps)
