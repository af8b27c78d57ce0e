-- The whole name of a held artifact finds it alone, and stands for it in the words of a command.
use Rattle.std.proofs.Common.{◌≡◌, ℕ, ◌*◌, Bool, true, false, cond, List, [], ◌∷◌, length, take, map, codes, Some, None, refl, sym, ap, subst, ◌∙◌, arith}
use Rattle.std.specs.Prelude.{T, ◌==◌, filter, option_map}
use Rattle.std.specs.List.{AllByRecursion, list_all}
use Rattle.std.specs.Str.{bytes_eq}
use Rattle.std.specs.Ordering.{is_eq}
use Rattle.std.specs.declared.cmp.Ordering.{Ordering}
use Rattle.std.specs.declared.cmp.Ordering.TheVariants.{Less, Equal, Greater}
use Rattle.std.specs.Cmp.{eq_by_cmp_equiv, tied_itself}
use Rattle.std.specs.Cmp.Lexicographic.{texts_ties}
use Rattle.std.specs.FinMap as map_of
use Rattle.std.specs.FinMap.{find, is_sorted}
use Rattle.std.specs.FinMap.Entries.{below_all}
use Rattle.std.proofs.lemmas.Bool.{eqb-true}
use Rattle.std.proofs.lemmas.List.{take_all}
use Rattle.fsl_order.specs.Names.{bytes_cmp}
use Rattle.fsl_order.proofs.Orders.{bytes_cmp-IsTotalOrder, bytes_cmp-IsAntisymmetric}
use Rattle.fsl_order.proofs.Booleans.{first_holds}
use Rattle.fsl_name.specs.Name.{IsName, name_text, is_name_digit}
use Rattle.fsl_name.proofs.ReadAgain.{digits_all, length_digits}
use Rattle.fsl_blobs.specs.Fold.{Held, HeldSet}
use Rattle.fsl_blobs.specs.declared.Found.TheVariants as found_as
use Rattle.fsl_blobs.specs.Held.{matching, found}
use Rattle.fsl_blobs.proofs.Totals.{front_first, front_second, none_below}
use Rattle.fsl_cross.proofs.Ids.{text-same}
use Rattle.fsl_words.specs.declared.Command.TheVariants.{Export, Verify}
use Rattle.fsl_words.specs.Grammar.{is_word, prefix_in, words_in}

abbrev Entries : Type 0
Entries = List (List ℕ × Held)

-- ---- the digits of a name

long_text : (name : List ℕ) → IsName name → length (name_text name) ≡ 40
long_text name is = length_digits name ∙ ap (λ (n : ℕ). 2 * n) is.0

-- all digits of a name begin those of the same name alone
begins_alone : (name other : List ℕ) → IsName name → IsName other → bytes_eq (take (length (name_text name)) (name_text other)) (name_text name) ≡ is_eq (bytes_cmp name other)
begins_alone name other is also =
    ap (λ (t : List ℕ). bytes_eq t (name_text name)) (take_all (length (name_text name)) (name_text other) (omega (arith, long_text name is, long_text other also)))
    ∙ text-same other name also is ∙ texts_ties other name ∙ (eq_by_cmp_equiv bytes_cmp-IsTotalOrder).symm other name

-- ---- held names

equal : (o : Ordering) → is_eq o ≡ true → o ≡ Equal
equal Less e = cc
equal Equal e = refl
equal Greater e = cc

-- of entries in order each is found by its name
all_names : (es : Entries) → T (is_sorted bytes_cmp es) → ((q : List ℕ) (a : Held) → find bytes_cmp q es ≡ Some a → IsName q) → AllByRecursion (λ e. IsName e.0) es
all_names [] rise each = tt
all_names (e ∷ es) rise each = (each e.0 e.1 first, all_names es (front_second (below_all bytes_cmp e.0 es) (is_sorted bytes_cmp es) rise) (λ q a there. each q a (behind q a there (is_eq (bytes_cmp q e.0)) refl)))
  where
    first : find bytes_cmp e.0 (e ∷ es) ≡ Some e.1
    first = ap (λ (b : Bool). cond b (Some e.1) (find bytes_cmp e.0 es)) (ap is_eq (tied_itself bytes_cmp-IsTotalOrder e.0))

    none : find bytes_cmp e.0 es ≡ None
    none = none_below e.0 es (front_first (below_all bytes_cmp e.0 es) (is_sorted bytes_cmp es) rise)

    behind : (q : List ℕ) (a : Held) → find bytes_cmp q es ≡ Some a → (b : Bool) → is_eq (bytes_cmp q e.0) ≡ b → find bytes_cmp q (e ∷ es) ≡ Some a
    behind q a there true t =
        let same : q ≡ e.0 = bytes_cmp-IsAntisymmetric q e.0 (equal (bytes_cmp q e.0) t) in
        let no : None ≡ Some a = sym none ∙ sym (ap (λ (n : List ℕ). find bytes_cmp n es) same) ∙ there in
        absurd cc
    behind q a there false t = ap (λ (b : Bool). cond b (Some e.1) (find bytes_cmp q es)) t ∙ there

module _ (name : List ℕ) (is : IsName name) where
  abbrev finds : List ℕ → Bool
  finds other = bytes_eq (take (length (name_text name)) (name_text other)) (name_text name)

  none_found : (es : Entries) → AllByRecursion (λ e. IsName e.0) es → find bytes_cmp name es ≡ None → filter finds (map (λ e. e.0) es) ≡ []
  none_found [] names none = refl
  none_found (e ∷ es) names none = by (is_eq (bytes_cmp name e.0)) (begins_alone name e.0 is names.0) none (none_found es names.1)
    where
      by : (b : Bool) → finds e.0 ≡ b → cond b (Some e.1) (find bytes_cmp name es) ≡ None → (find bytes_cmp name es ≡ None → filter finds (map (λ e. e.0) es) ≡ []) → filter finds (map (λ e. e.0) (e ∷ es)) ≡ []
      by true t h more = absurd cc
      by false t h more = rw t (more h)

  one_found : (es : Entries) (a : Held) → T (is_sorted bytes_cmp es) → AllByRecursion (λ e. IsName e.0) es → find bytes_cmp name es ≡ Some a → filter finds (map (λ e. e.0) es) ≡ name ∷ []
  one_found [] a rise names there = absurd cc
  one_found (e ∷ es) a rise names there =
      by (is_eq (bytes_cmp name e.0)) refl (begins_alone name e.0 is names.0) there
      (one_found es a (front_second (below_all bytes_cmp e.0 es) (is_sorted bytes_cmp es) rise) names.1)
    where
      by : (b : Bool) → is_eq (bytes_cmp name e.0) ≡ b → finds e.0 ≡ b → cond b (Some e.1) (find bytes_cmp name es) ≡ Some a
          → (find bytes_cmp name es ≡ Some a → filter finds (map (λ e. e.0) es) ≡ name ∷ []) → filter finds (map (λ e. e.0) (e ∷ es)) ≡ name ∷ []
      by true u t h more =
          let same : name ≡ e.0 = bytes_cmp-IsAntisymmetric name e.0 (equal (bytes_cmp name e.0) u) in
          let none : find bytes_cmp name es ≡ None = ap (λ (n : List ℕ). find bytes_cmp n es) same ∙ none_below e.0 es (front_first (below_all bytes_cmp e.0 es) (is_sorted bytes_cmp es) rise) in
          rw t (λ i. sym same i ∷ none_found es names.1 none i)
      by false u t h more = rw t (more h)

pub whole_name : (held : HeldSet) (name : List ℕ) (a : Held) → ((q : List ℕ) (x : Held) → map_of.get held q ≡ Some x → IsName q) → map_of.get held name ≡ Some a → found (matching held (name_text name)) ≡ found_as.One name
whole_name held name a each there =
    let es = map_of.entries held in
    let rise = map_of.entries_sorted held in
    let names = all_names es rise (λ q x h. each q x (map_of.get-entries held q ∙ h)) in
    ap found (one_found name (each name a there) es a rise names (sym (map_of.get-entries held name) ∙ there))

-- ---- the words

plain_digit : (c : ℕ) (t : Bool) → (c == 45) ≡ t → is_name_digit c ≡ true → t ≡ false
plain_digit c true t h = absurd (let e : c ≡ 45 = eqb-true c 45 t in let no : is_name_digit 45 ≡ true = subst (λ (n : ℕ). is_name_digit n ≡ true) e h in cc)
plain_digit c false t h = refl

word_of_digits : (digits : List ℕ) → length digits ≡ 40 → list_all is_name_digit digits ≡ true → is_word digits ≡ true
word_of_digits [] long all = absurd (omega (arith, long))
word_of_digits (c ∷ digits) long all =
    let plain : (c == 45) ≡ false = plain_digit c (c == 45) refl (first_holds (is_name_digit c) (list_all is_name_digit digits) all) in
    rw plain

module _ (repository name : List ℕ) (word : is_word repository ≡ true) (is : IsName name) where
  digits : list_all is_name_digit (name_text name) ≡ true
  digits = digits_all name is.1

  fits : prefix_in (name_text name) ≡ Some (name_text name)
  fits = rw (long_text name is, digits) refl

  words : (command : List ℕ) → is_word command ≡ true → list_all is_word (repository ∷ command ∷ name_text name ∷ []) ≡ true
  words command plain = rw (word, plain, word_of_digits (name_text name) (long_text name is) digits) refl

  pub says_export : option_map (λ w. w.command) (words_in (repository ∷ codes "export" ∷ name_text name ∷ [])) ≡ Some (Export (name_text name))
  says_export = rw (words (codes "export") refl, fits) refl

  pub says_verify : option_map (λ w. w.command) (words_in (repository ∷ codes "verify" ∷ name_text name ∷ [])) ≡ Some (Verify (name_text name))
  says_verify = rw (words (codes "verify") refl, fits) refl
