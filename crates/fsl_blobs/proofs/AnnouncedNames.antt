-- What an announcement meets.
use Rattle.std.proofs.Common.{◌≡◌, ℕ, ◌+◌, Bool, true, false, cond, not, List, [], ◌∷◌, length, Result, Ok, Err, refl, sym, ap, ◌∙◌, subst, arith}
use Rattle.std.specs.Prelude.{◌||◌, if◌then◌else◌, is_some, nat_le, OnErr}
use Rattle.std.specs.List.Sorted.{IsStrictlySortedBy}
use Rattle.std.specs.declared.cmp.Ordering.TheVariants.{Less}
use Rattle.std.specs.Ordering.{is_eq}
use Rattle.std.specs.FinMap as map_of
use Rattle.std.specs.FinSet as set
use Rattle.std.proofs.lemmas.List.Elements.{All-weaker}
use Rattle.std.proofs.lemmas.List.Folds.{list_any_none}
use Rattle.std.proofs.lemmas.Map.Views.{All-after_first}
use Rattle.fsl_order.specs.Names.{bytes_cmp}
use Rattle.fsl_order.proofs.Orders.{bytes_cmp-IsTotalOrder, bytes_cmp-IsAntisymmetric}
use Rattle.fsl_record.specs.declared.Config.{Config}
use Rattle.fsl_record.specs.declared.Record.{Record}
use Rattle.fsl_blobs.specs.declared.blobs.HeldArtifact.{HeldArtifact}
use Rattle.fsl_blobs.specs.declared.Known.{Known}
use Rattle.fsl_blobs.specs.declared.Known.TheVariants as known
use Rattle.fsl_blobs.specs.Fold.{contents, is_new}
use Rattle.fsl_blobs.specs.Seen.{Seen, known_of}
use Rattle.fsl_blobs.specs.Kept.{is_same, held_at, stands, IsKept}
use Rattle.fsl_blobs.proofs.KeptLemmas.{is_same-means, turned, is_some-held, kept-new}

-- ---- how many names are announced

first_only : (name : List ℕ) (names : List (List ℕ)) → IsStrictlySortedBy bytes_cmp (name ∷ names) → stands names name ≡ false
first_only name names rise =
    list_any_none (is_same name) names
    (All-weaker (λ q. bytes_cmp name q ≡ Less) (λ q. is_same name q ≡ false) (λ q e. ap is_eq e) names (All-after_first bytes_cmp name names rise))

pub count-from : (names : List (List ℕ)) → IsStrictlySortedBy bytes_cmp names → set.len (set.from_list {R = bytes_cmp} names) ≡ length names
unfolding IsStrictlySortedBy
count-from [] rise = set.len-empty bytes_cmp
count-from (name ∷ names) rise =
    let alone : set.contains (set.from_list {R = bytes_cmp} names) name ≡ false = set.contains-from_list bytes_cmp-IsTotalOrder names name ∙ first_only name names rise in
    let rest : set.len (set.from_list {R = bytes_cmp} names) ≡ length names = count-from names rise.1 in
    set.len-insert bytes_cmp-IsTotalOrder (set.from_list names) name
    ∙ ap (λ (b : Bool). cond b (set.len (set.from_list {R = bytes_cmp} names)) (set.len (set.from_list {R = bytes_cmp} names) + 1)) alone
    ∙ omega (arith, rest)

-- ---- the answer

abbrev known_by : Bool → Bool → Bool → Bool → Known
known_by h s a f = if h then known.Held else if s then known.Shunned else if a then known.Again else if f then known.Full else known.New

module _ (records : List Record) (found : Config) (es : List (List ℕ × HeldArtifact)) (shuns announced : List (List ℕ)) (kept : IsKept records found es shuns announced)
    (starts : List ℕ) (cached : List (ℕ × List ℕ)) (b : Seen) (view : record { records = records; starts = starts; announced = set.from_list announced; cached = cached } ≡ b) (name : List ℕ) where
  known_is : (full : Bool) → nat_le 65536 (set.len b.announced) ≡ full → known_of b name ≡ known_by (is_some (held_at es name)) (stands shuns name) (stands announced name) full
  known_is full is_full =
      let held : map_of.contains_key (contents b.records).held name ≡ is_some (held_at es name) =
      ap (λ (s : Seen). map_of.contains_key (contents s.records).held name) (sym view) ∙ sym (is_some-held records found es shuns announced kept name) in
      let shun : set.contains (contents b.records).shunned name ≡ stands shuns name =
      ap (λ (s : Seen). set.contains (contents s.records).shunned name) (sym view) ∙ sym (kept.shunned name) in
      let again : set.contains b.announced name ≡ stands announced name =
      ap (λ (s : Seen). set.contains s.announced name) (sym view) ∙ set.contains-from_list bytes_cmp-IsTotalOrder announced name in
      λ i. known_by (held i) (shun i) (again i) (is_full i)

  pub known-again : is_some (held_at es name) ≡ false → stands shuns name ≡ false → stands announced name ≡ true → known.Again ≡ known_of b name
  known-again h s a = sym (known_is (nat_le 65536 (set.len b.announced)) refl ∙ (λ i. known_by (h i) (s i) (a i) (nat_le 65536 (set.len b.announced))))

  module _ (h : is_some (held_at es name) ≡ false) (s : stands shuns name ≡ false) (a : stands announced name ≡ false) (rise : IsStrictlySortedBy bytes_cmp announced) where
    fullness : nat_le 65536 (set.len b.announced) ≡ nat_le 65536 (length announced)
    fullness = ap (λ (s : Seen). nat_le 65536 (set.len s.announced)) (sym view) ∙ ap (nat_le 65536) (count-from announced rise)

    known_last : (full : Bool) → nat_le 65536 (length announced) ≡ full → known_of b name ≡ known_by false false false full
    known_last full e = known_is full (fullness ∙ e) ∙ (λ i. known_by (h i) (s i) (a i) full)

    pub known-full : nat_le 65536 (length announced) ≡ true → known.Full ≡ known_of b name
    known-full e = sym (known_last true e)

    pub known-new : nat_le 65536 (length announced) ≡ false → known.New ≡ known_of b name
    known-new e = sym (known_last false e)

  -- ---- the new name

  module _ (more : List (List ℕ)) (now : (q : List ℕ) → stands more q ≡ cond (is_same name q) true (stands announced q)) where
    pub kept-announced : is_some (held_at es name) ≡ false → stands shuns name ≡ false → IsKept records found es shuns more
    kept-announced h s = record {
      config = kept.config;
      held = kept.held;
      places = kept.places;
      receipts = kept.receipts;
      shunned = kept.shunned;
      new = λ q e. still q (sym (now q) ∙ e);
    }
      where
        itself_new : is_new (contents records) name ≡ true
        itself_new = sym (kept-new records found es shuns announced kept name) ∙ (λ i. not (h i || s i))

        still : (q : List ℕ) → cond (is_same name q) true (stands announced q) ≡ true → is_new (contents records) q ≡ true
        still q =
            elim (is_same name q) as (λ t. is_same name q ≡ t → cond t true (stands announced q) ≡ true → is_new (contents records) q ≡ true) [
              | true ↦ λ e _. subst (λ (x : List ℕ). is_new (contents records) x ≡ true) (is_same-means name q e) itself_new
              | false ↦ λ _ e. kept.new q e
            ] refl

    or_from : (t x : Bool) → cond t true x ≡ (t || x)
    or_from true x = refl
    or_from false x = refl

    inserted : set.from_list {R = bytes_cmp} more ≡ set.insert (set.from_list announced) name
    inserted =
        set.same_set bytes_cmp-IsTotalOrder bytes_cmp-IsAntisymmetric _ _ λ q.
        set.contains-from_list bytes_cmp-IsTotalOrder more q ∙ now q ∙ or_from (is_same name q) (stands announced q)
        ∙ (λ i. turned name q i || sym (set.contains-from_list bytes_cmp-IsTotalOrder announced q) i)
        ∙ sym (set.contains-insert bytes_cmp-IsTotalOrder (set.from_list announced) name q)

    announced_is : set.from_list {R = bytes_cmp} more ≡ set.insert b.announced name
    announced_is = inserted ∙ ap (λ (s : Seen). set.insert s.announced name) view

    pub seen-announced : ◌≡◌ {A = Seen} (record { records = records; starts = starts; announced = set.from_list more; cached = cached }) (record b { announced = set.insert b.announced name })
    seen-announced = λ i. record (view i) { announced = announced_is i }

-- announced names are neither held nor shunned
pub announced-new : (records : List Record) (found : Config) (es : List (List ℕ × HeldArtifact)) (shuns announced : List (List ℕ)) → IsKept records found es shuns announced
    → (starts : List ℕ) (cached : List (ℕ × List ℕ)) (b : Seen) → ◌≡◌ {A = Seen} (record { records = records; starts = starts; announced = set.from_list announced; cached = cached }) b → (q : List ℕ) → set.contains b.announced q ≡ true → is_new (contents b.records) q ≡ true
announced-new records found es shuns announced kept starts cached b view =
    subst (λ (s : Seen). (q : List ℕ) → set.contains s.announced q ≡ true → is_new (contents s.records) q ≡ true) view
    (λ q e. kept.new q (sym (set.contains-from_list bytes_cmp-IsTotalOrder announced q) ∙ e))

pub on_err : {T E : Type 0} (P : Type 0) (r : Result T E) → P → OnErr r P
on_err P (Ok x) p = tt
on_err P (Err e) p = p
