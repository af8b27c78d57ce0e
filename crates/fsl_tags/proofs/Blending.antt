-- Which assertion of a tag a row has, where one more is put or where two rows are made one.
use mir.Val.{bool_byte}
use Rattle.std.specs.Prelude.{◌≡◌, ◌+◌, ◌<◌, Bool, ℕ, List, [], ◌∷◌, ◌++◌, true, false, cond, if◌then◌else◌, Option, Some, None, map, filter}
use Rattle.std.proofs.Common.{arith, ◌≤◌, refl, sym, ap, ◌∙◌, subst}
use Rattle.std.proofs.lemmas.List.Elements.{filter-append}
use Rattle.std.specs.List.{AllByRecursion}
use Rattle.std.specs.List.Sorted.{IsStrictlySortedBy}
use Rattle.std.specs.Option.{option_map_or}
use Rattle.std.specs.Str.{bytes_eq}
use Rattle.std.specs.Cmp.Lexicographic.{bytes_decides}
use Rattle.std.specs.declared.cmp.Ordering.TheVariants.{Less}
use Rattle.fsl_order.specs.Names.{bytes_cmp}
use Rattle.fsl_order.specs.Rows.{greater, greatest}
use Rattle.fsl_order.proofs.GreatestLemmas.{greatest-append}
use Rattle.fsl_tags.specs.declared.Assertion.{Assertion}
use Rattle.fsl_tags.specs.Tags.{newer_cmp, is_newer, only}
use Rattle.fsl_tags.specs.Kept.{newest_of}
use Rattle.fsl_tags.specs.Passing.{passes}
use Rattle.fsl_tags.specs.Joined.{joined}
use Rattle.fsl_tags.specs.Put.{put_in}
use Rattle.fsl_tags.proofs.Newest.{greater-none, greater-assoc, greater-takes, greater-keeps}
use Rattle.fsl_tags.proofs.EffectiveLaw.{newer_cmp-IsTotalOrder}
use Rattle.fsl_tags.proofs.Merging.{none_before, joined-rises, joined-finds}
use Rattle.fsl_tags.proofs.RowsOf.{Rise, of_tag, same_row}
use Rattle.fsl_tags.proofs.Trees.{put-finds}

pub byte_within : (b : Bool) (n m : ℕ) → n < m → n + bool_byte b ≤ m
byte_within true n m h = omega (arith, h)
byte_within false n m h = omega (arith, h)

-- ---- a group in two

pub newest_of-append : (tag : List ℕ) (xs ys : List Assertion) → newest_of tag (xs ++ ys) ≡ greater newer_cmp (newest_of tag xs) (newest_of tag ys)
newest_of-append tag xs ys =
    ap (greatest newer_cmp) (filter-append (λ a. bytes_eq a.tag tag) xs ys)
    ∙ greatest-append newer_cmp newer_cmp-IsTotalOrder (filter (λ a. bytes_eq a.tag tag) xs) (filter (λ a. bytes_eq a.tag tag) ys)

kept_off : (o : Option Assertion) → greater newer_cmp o None ≡ o
kept_off o = greater-none newer_cmp newer_cmp-IsTotalOrder o

-- ---- one more, where it is newer

abbrev one : Bool → Assertion → Option Assertion
one b a = greatest newer_cmp (cond b (a ∷ []) [])

module _ (row : List Assertion) (a : Assertion) (tag : List ℕ) where
  at_tag : bytes_eq a.tag tag ≡ true → of_tag row tag ≡ of_tag row a.tag
  at_tag e = ap (of_tag row) (sym ((bytes_decides a.tag tag).0 e))

  pub newer-put : is_newer a (of_tag row a.tag) ≡ true → of_tag (put_in row a) tag ≡ greater newer_cmp (of_tag row tag) (newest_of tag (a ∷ []))
  newer-put newer =
      put-finds row a tag
      ∙ elim (bytes_eq a.tag tag) as (λ b. bytes_eq a.tag tag ≡ b → cond b (Some a) (of_tag row tag) ≡ greater newer_cmp (of_tag row tag) (one b a)) [
        | true ↦ λ e. sym (greater-takes newer_cmp newer_cmp-IsTotalOrder (of_tag row tag) a (ap (is_newer a) (at_tag e) ∙ newer))
        | false ↦ λ _. sym (kept_off (of_tag row tag))
      ] refl

  pub newer-not : is_newer a (of_tag row a.tag) ≡ false → of_tag row tag ≡ greater newer_cmp (of_tag row tag) (newest_of tag (a ∷ []))
  newer-not older =
      elim (bytes_eq a.tag tag) as (λ b. bytes_eq a.tag tag ≡ b → of_tag row tag ≡ greater newer_cmp (of_tag row tag) (one b a)) [
        | true ↦ λ e. sym (greater-keeps newer_cmp newer_cmp-IsTotalOrder (of_tag row tag) a (ap (is_newer a) (at_tag e) ∙ older))
        | false ↦ λ _. sym (kept_off (of_tag row tag))
      ] refl

  -- ---- one more, unless that of its tag is newer

  abbrev under : Option Assertion → Bool
  under found = option_map_or (λ above. is_newer above (Some a)) found false

  stays : (found : Option Assertion) → under found ≡ true → found ≡ greater newer_cmp (Some a) found
  stays None h = cc
  stays (Some above) h = sym (ap (λ b. Some (if b then above else a)) h)

  comes : (found : Option Assertion) → under found ≡ false → Some a ≡ greater newer_cmp (Some a) found
  comes None h = refl
  comes (Some above) h = sym (ap (λ b. Some (if b then above else a)) h)

  pub own-under : under (of_tag row a.tag) ≡ true → of_tag row tag ≡ greater newer_cmp (newest_of tag (a ∷ [])) (of_tag row tag)
  own-under h =
      elim (bytes_eq a.tag tag) as (λ b. bytes_eq a.tag tag ≡ b → of_tag row tag ≡ greater newer_cmp (one b a) (of_tag row tag)) [
        | true ↦ λ e. stays (of_tag row tag) (ap under (at_tag e) ∙ h)
        | false ↦ λ _. refl
      ] refl

  pub own-put : under (of_tag row a.tag) ≡ false → of_tag (put_in row a) tag ≡ greater newer_cmp (newest_of tag (a ∷ [])) (of_tag row tag)
  own-put h =
      put-finds row a tag
      ∙ elim (bytes_eq a.tag tag) as (λ b. bytes_eq a.tag tag ≡ b → cond b (Some a) (of_tag row tag) ≡ greater newer_cmp (one b a) (of_tag row tag)) [
        | true ↦ λ e. comes (of_tag row tag) (ap under (at_tag e) ∙ h)
        | false ↦ λ _. refl
      ] refl

-- ---- one after another

-- behind those of a group
pub then-newer : (row mid now group : List Assertion) (a : Assertion) (tag : List ℕ) → of_tag mid tag ≡ greater newer_cmp (of_tag row tag) (newest_of tag group)
    → of_tag now tag ≡ greater newer_cmp (of_tag mid tag) (newest_of tag (a ∷ [])) → of_tag now tag ≡ greater newer_cmp (of_tag row tag) (newest_of tag (group ++ a ∷ []))
then-newer row mid now group a tag first second =
    second ∙ ap (λ o. greater newer_cmp o (newest_of tag (a ∷ []))) first
    ∙ sym (greater-assoc newer_cmp newer_cmp-IsTotalOrder (of_tag row tag) (newest_of tag group) (newest_of tag (a ∷ [])))
    ∙ ap (greater newer_cmp (of_tag row tag)) (sym (newest_of-append tag group (a ∷ [])))

-- before those of a group
pub then-own : (row mid now group : List Assertion) (a : Assertion) (tag : List ℕ) → of_tag mid tag ≡ greater newer_cmp (newest_of tag group) (of_tag row tag)
    → of_tag now tag ≡ greater newer_cmp (newest_of tag (a ∷ [])) (of_tag mid tag) → of_tag now tag ≡ greater newer_cmp (newest_of tag (a ∷ group)) (of_tag row tag)
then-own row mid now group a tag first second =
    second ∙ ap (greater newer_cmp (newest_of tag (a ∷ []))) first
    ∙ greater-assoc newer_cmp newer_cmp-IsTotalOrder (newest_of tag (a ∷ [])) (newest_of tag group) (of_tag row tag)
    ∙ ap (λ o. greater newer_cmp o (of_tag row tag)) (sym (newest_of-append tag (a ∷ []) group))

-- ---- the newest of a row

pub newest-row : (xs : List Assertion) (tag : List ℕ) → Rise xs → newest_of tag xs ≡ of_tag xs tag
unfolding IsStrictlySortedBy
newest-row [] tag h = refl
newest-row (x ∷ xs) tag h =
    elim (bytes_eq x.tag tag) as (λ b. bytes_eq x.tag tag ≡ b → greatest newer_cmp (cond b (x ∷ filter (λ a. bytes_eq a.tag tag) xs) (filter (λ a. bytes_eq a.tag tag) xs)) ≡ cond b (Some x) (of_tag xs tag)) [
      | true ↦ λ e. ap (greater newer_cmp (Some x)) (newest-row xs tag h.1 ∙ ap (of_tag xs) (sym ((bytes_decides x.tag tag).0 e)) ∙ none_before x.tag xs h.0)
      | false ↦ λ _. newest-row xs tag h.1
    ] refl

-- ---- what passes of a row

pass-all : (P : List ℕ → Type 0) (xs : List Assertion) → AllByRecursion P (map (λ a. a.tag) xs) → AllByRecursion P (map (λ a. a.tag) (filter passes xs))
pass-all P [] h = tt
pass-all P (x ∷ xs) h =
    elim (passes x) as (λ b. AllByRecursion P (map (λ a. a.tag) (cond b (x ∷ filter passes xs) (filter passes xs)))) [
      | true ↦ (h.0, pass-all P xs h.1)
      | false ↦ pass-all P xs h.1
    ]

pub pass-rises : (xs : List Assertion) → Rise xs → Rise (filter passes xs)
unfolding IsStrictlySortedBy
pass-rises [] h = tt
pass-rises (x ∷ xs) h =
    elim (passes x) as (λ b. IsStrictlySortedBy bytes_cmp (map (λ a. a.tag) (cond b (x ∷ filter passes xs) (filter passes xs)))) [
      | true ↦ (pass-all (λ q. bytes_cmp x.tag q ≡ Less) xs h.0, pass-rises xs h.1)
      | false ↦ pass-rises xs h.1
    ]

pub pass-finds : (xs : List Assertion) (tag : List ℕ) → Rise xs → of_tag (filter passes xs) tag ≡ only passes (of_tag xs tag)
unfolding IsStrictlySortedBy
pass-finds [] tag h = refl
pass-finds (x ∷ xs) tag h =
    elim (passes x) as (λ p. passes x ≡ p → of_tag (cond p (x ∷ filter passes xs) (filter passes xs)) tag ≡ only passes (cond (bytes_eq x.tag tag) (Some x) (of_tag xs tag))) [
      | true ↦ λ is. elim (bytes_eq x.tag tag) as (λ b. cond b (Some x) (of_tag (filter passes xs) tag) ≡ only passes (cond b (Some x) (of_tag xs tag))) [
        | true ↦ sym (ap (λ p. if p then Some x else None) is)
        | false ↦ pass-finds xs tag h.1
      ]
      | false ↦ λ is. pass-finds xs tag h.1 ∙ elim (bytes_eq x.tag tag) as (λ b. bytes_eq x.tag tag ≡ b → only passes (of_tag xs tag) ≡ only passes (cond b (Some x) (of_tag xs tag))) [
        | true ↦ λ e. ap (only passes) (ap (of_tag xs) (sym ((bytes_decides x.tag tag).0 e)) ∙ none_before x.tag xs h.0) ∙ sym (ap (λ p. if p then Some x else None) is)
        | false ↦ λ _. refl
      ] refl
    ] refl

-- ---- the row of both

module _ (own above row : List Assertion) (up : Rise own) (up_above : Rise above) (passing : filter passes above ≡ above) (up_row : Rise row) where
  -- by what it has of each tag
  pub row-of_both : ((tag : List ℕ) → of_tag row tag ≡ greater newer_cmp (of_tag own tag) (of_tag above tag)) → row ≡ joined above own
  row-of_both finds =
      same_row row (joined above own) up_row (joined-rises above own up_above up)
      (λ tag. finds tag ∙ ap (greater newer_cmp (of_tag own tag)) (ap (λ l. of_tag l tag) (sym passing) ∙ pass-finds above tag up_above) ∙ sym (joined-finds above own tag up_above up))

  pub row-over : ((tag : List ℕ) → of_tag row tag ≡ greater newer_cmp (newest_of tag own) (of_tag above tag)) → row ≡ joined above own
  row-over finds = row-of_both (λ tag. finds tag ∙ ap (λ o. greater newer_cmp o (of_tag above tag)) (newest-row own tag up))

  pub row-under : ((tag : List ℕ) → of_tag row tag ≡ greater newer_cmp (of_tag own tag) (newest_of tag above)) → row ≡ joined above own
  row-under finds = row-of_both (λ tag. finds tag ∙ ap (greater newer_cmp (of_tag own tag)) (newest-row above tag up_above))

pass-twice : (xs : List Assertion) → filter passes (filter passes xs) ≡ filter passes xs
pass-twice [] = refl
pass-twice (x ∷ xs) =
    elim (passes x) as (λ b. passes x ≡ b → filter passes (cond b (x ∷ filter passes xs) (filter passes xs)) ≡ cond b (x ∷ filter passes xs) (filter passes xs)) [
      | true ↦ λ is. ap (λ b. cond b (x ∷ filter passes (filter passes xs)) (filter passes (filter passes xs))) is ∙ ap (λ l. x ∷ l) (pass-twice xs)
      | false ↦ λ _. pass-twice xs
    ] refl

-- what doesn't pass is as if it weren't above
module _ (own above far : List Assertion) (up : Rise own) (up_above : Rise above) (far_is : far ≡ filter passes above) where
  pub far-rises : Rise far
  far-rises = subst Rise (sym far_is) (pass-rises above up_above)

  pub far-passes : filter passes far ≡ far
  far-passes = ap (filter passes) far_is ∙ pass-twice above ∙ sym far_is

  pub far-joined : joined far own ≡ joined above own
  far-joined =
      same_row (joined far own) (joined above own) (joined-rises far own far-rises up) (joined-rises above own up_above up)
      (λ tag. joined-finds far own tag far-rises up
      ∙ ap (greater newer_cmp (of_tag own tag)) (sym (pass-finds far tag far-rises) ∙ ap (λ l. of_tag l tag) (far-passes ∙ far_is) ∙ pass-finds above tag up_above)
      ∙ sym (joined-finds above own tag up_above up))
