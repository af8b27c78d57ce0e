-- What single words are, and words that differ.
use Rattle.std.proofs.Common.{◌≡◌, ℕ, ◌+◌, ◌<◌, Bool, true, false, not, ◌&&◌, cond, List, [], ◌∷◌, ◌++◌, length, take, drop, suc, get_or, refl, sym, ap, ◌∙◌, arith}
use Rattle.std.specs.Prelude.{◌↔◌, ◌||◌, IsTrue}
use Rattle.std.specs.List.{IsDistinct}
use Rattle.std.specs.Str.{bytes_eq}
use Rattle.std.specs.Cmp.Lexicographic.{texts_ties}
use Rattle.std.specs.BTreeMap.{is_at}
use Rattle.std.proofs.Math.Seq.{split_at}
use Rattle.std.proofs.lemmas.List.{append_assoc, take_more}
use Rattle.std.proofs.lemmas.List.Folds.{list_any-append}
use Rattle.std.proofs.lemmas.Cmp.{nat_list_eq_equiv}
use Rattle.fsl_order.specs.Names.{has, bytes_cmp}
use Rattle.fsl_order.proofs.Booleans.{and_false, cond_or}
use Rattle.fsl_record.specs.Records.{is_field, AreFields}
use Rattle.fsl_words.specs.Grammar.{all_differ}

-- ---- fields

distinct_one : (x : List ℕ) → IsDistinct bytes_eq (x ∷ [])
unfolding IsDistinct
distinct_one x = (tt, tt)

-- a list of one is a list of fields exactly where that one is a field's name
pub field_alone : (r : Bool) (field : List ℕ) → (IsTrue r ↔ AreFields (field ∷ [])) → r ≡ is_field field
field_alone r field same = by r (is_field field) refl same
  where
    by : (r b : Bool) → is_field field ≡ b → (IsTrue r ↔ AreFields (field ∷ [])) → r ≡ b
    by true true is same = refl
    by false false is same = refl
    by true false is same = sym (same.0 refl).formed ∙ ap (λ (b : Bool). b && true) is
    by false true is same = same.1 (record { few = omega arith; formed = ap (λ (b : Bool). b && true) is; differ = distinct_one field })

-- ---- words that differ

regroup : (a b d h : Bool) → (not (a || (b || false)) && (d && not h)) ≡ ((not a && d) && not (b || h))
regroup true b d h = refl
regroup false true true h = refl
regroup false true false h = refl
regroup false false true h = refl
regroup false false false h = refl

-- one word more behind the others
differ_push : (xs : List (List ℕ)) (x : List ℕ) → all_differ (xs ++ x ∷ []) ≡ (all_differ xs && not (has xs x))
differ_push [] x = refl
differ_push (y ∷ xs) x =
    ap (λ (b : Bool). not b && all_differ (xs ++ x ∷ [])) (list_any-append (bytes_eq y) xs (x ∷ []))
    ∙ ap (λ (b : Bool). not (has xs y || (bytes_eq y x || false)) && b) (differ_push xs x)
    ∙ regroup (has xs y) (bytes_eq y x) (all_differ xs) (has xs x)
    ∙ ap (λ (b : Bool). (not (has xs y) && all_differ xs) && not (b || has xs x)) (nat_list_eq_equiv.symm y x)

-- what doesn't differ at the front doesn't differ
differ_front : (xs ys : List (List ℕ)) → all_differ xs ≡ false → all_differ (xs ++ ys) ≡ false
differ_front [] ys h = absurd cc
differ_front (x ∷ xs) ys h =
    ap (λ (b : Bool). not b && all_differ (xs ++ ys)) (list_any-append (bytes_eq x) xs ys) ∙ by (has xs x) (all_differ xs) h (differ_front xs ys)
  where
    by : (b d : Bool) → (not b && d) ≡ false → (d ≡ false → all_differ (xs ++ ys) ≡ false) → (not (b || has ys x) && all_differ (xs ++ ys)) ≡ false
    by true d h more = refl
    by false d h more = ap (λ (e : Bool). not (has ys x) && e) (more h) ∙ and_false (not (has ys x))

differ_more : (words : List (List ℕ)) (i : ℕ) (word : List ℕ) → i < length words → word ≡ get_or words i word → all_differ (take (i + 1) words) ≡ (all_differ (take i words) && not (has (take i words) word))
differ_more words i word lt is =
    ap all_differ (take_more words i word lt ∙ ap (λ (x : List ℕ). take i words ++ x ∷ []) (sym is)) ∙ differ_push (take i words) word

pub differ_not : (words : List (List ℕ)) (i : ℕ) (word : List ℕ) → i < length words → word ≡ get_or words i word → has (take i words) word ≡ true → all_differ words ≡ false
differ_not words i word lt is there =
    let split : words ≡ take i words ++ word ∷ drop (suc i) words =
    split_at words i word lt ∙ ap (λ (x : List ℕ). take i words ++ x ∷ drop (suc i) words) (sym is) in
    ap all_differ (split ∙ sym (append_assoc (take i words) (word ∷ []) (drop (suc i) words)))
    ∙ differ_front (take i words ++ word ∷ []) (drop (suc i) words) (differ_push (take i words) word ∙ ap (λ (b : Bool). all_differ (take i words) && not b) there ∙ and_false (all_differ (take i words)))

-- ---- the set of the words that were passed

pub has_more : (words : List (List ℕ)) (i : ℕ) (word q : List ℕ) → i < length words → word ≡ get_or words i word → cond (is_at (bytes_cmp word) q) true (has (take i words) q) ≡ has (take (i + 1) words) q
has_more words i word q lt is =
    ap (λ (b : Bool). cond b true (has (take i words) q)) (sym (texts_ties word q))
    ∙ ap (λ (b : Bool). cond b true (has (take i words) q)) (nat_list_eq_equiv.symm word q)
    ∙ cond_or (bytes_eq q word) (has (take i words) q) ∙ sym (list_any-append (bytes_eq q) (take i words) (word ∷ []))
    ∙ ap (λ (xs : List (List ℕ)). has xs q) (ap (λ (x : List ℕ). take i words ++ x ∷ []) is ∙ sym (take_more words i word lt))

-- what an insertion says of the set before it
pub was_there : (b added : Bool) → added ≡ not b → added ≡ false → b ≡ true
was_there true added e h = refl
was_there false added e h = cc

pub was_new : (b added : Bool) → added ≡ not b → added ≡ true → b ≡ false
was_new true added e h = cc
was_new false added e h = refl

pub differ_next : (words : List (List ℕ)) (i : ℕ) (word : List ℕ) → i < length words → word ≡ get_or words i word → all_differ (take i words) ≡ true → has (take i words) word ≡ false → all_differ (take (i + 1) words) ≡ true
differ_next words i word lt is apart new = differ_more words i word lt is ∙ ap (λ (b : Bool). b && not (has (take i words) word)) apart ∙ ap (λ (b : Bool). not b) new
