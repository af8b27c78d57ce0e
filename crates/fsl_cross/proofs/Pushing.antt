-- Names that are done, and rows that some changes left as they were.
use Rattle.std.proofs.Common.{◌≡◌, ℕ, ◌+◌, ◌<◌, true, false, cond, List, [], ◌∷◌, ◌++◌, length, take, get_or, Bool, refl, sym, ap, ◌∙◌, subst}
use Rattle.std.specs.Prelude.{◌||◌, ◌≢◌}
use Rattle.std.specs.Bool.{MatchBool}
use Rattle.std.specs.Str.{bytes_eq}
use Rattle.std.specs.Cmp.Lexicographic.{bytes_decides}
use Rattle.std.proofs.lemmas.List.{take_more}
use Rattle.std.proofs.lemmas.Bool.{or_parts}
use Rattle.fsl_order.specs.TableState.{TableState, Change}
use Rattle.fsl_order.specs.Names.{has}
use Rattle.fsl_cross.specs.Mixed.{pushed, all_changed}
use Rattle.fsl_cross.specs.Trails.{Leads, AreTold}

-- ---- names

pub pushed-append : (test : List ℕ → Bool) (xs ys done : List (List ℕ)) → pushed test (xs ++ ys) done ≡ pushed test ys (pushed test xs done)
pushed-append test [] ys done = refl
pushed-append test (x ∷ xs) ys done = pushed-append test xs ys (cond (test x) (x ∷ done) done)

-- a name more of a slice
pub pushed-next : (test : List ℕ → Bool) (names : List (List ℕ)) (i : ℕ) (name : List ℕ) (done : List (List ℕ)) → i < length names → name ≡ get_or names i name
    → pushed test (take (i + 1) names) done ≡ pushed test (name ∷ []) (pushed test (take i names) done)
pushed-next test names i name done lt is =
    ap (λ l. pushed test l done) (take_more names i name lt ∙ ap (λ q. take i names ++ q ∷ []) (sym is)) ∙ pushed-append test (take i names) (name ∷ []) done

has-append : (xs ys : List (List ℕ)) (q : List ℕ) → has (xs ++ ys) q ≡ (has xs q || has ys q)
has-append [] ys q = refl
has-append (x ∷ xs) ys q = ap (λ b. bytes_eq q x || b) (has-append xs ys q) ∙ assoc (bytes_eq q x) (has xs q) (has ys q)
  where
    assoc : (a b c : Bool) → (a || (b || c)) ≡ ((a || b) || c)
    assoc true b c = refl
    assoc false b c = refl

-- what isn't done then wasn't done before ..
pub pushed-before : (test : List ℕ → Bool) (names done : List (List ℕ)) (q : List ℕ) → has (pushed test names done) q ≡ false → has done q ≡ false
pushed-before test [] done q e = e
pushed-before test (x ∷ names) done q e = by (test x) (pushed-before test names (cond (test x) (x ∷ done) done) q e)
  where
    by : (b : Bool) → has (cond b (x ∷ done) done) q ≡ false → has done q ≡ false
    by true h = (or_parts (bytes_eq q x) (has done q) h).1
    by false h = h

-- .. and isn't among the names, or fails the test
pub pushed-out : (test : List ℕ → Bool) (names done : List (List ℕ)) (q : List ℕ) → has (pushed test names done) q ≡ false → test q ≡ true → has names q ≡ false
pushed-out test [] done q e t = refl
pushed-out test (x ∷ names) done q e t =
    elim (bytes_eq q x) as (λ b. bytes_eq q x ≡ b → (b || has names q) ≡ false) [
      | true ↦ λ same.
          let is : q ≡ x = (bytes_decides q x).0 same in
          let front : (bytes_eq q x || has done q) ≡ false = subst (λ b. has (cond b (x ∷ done) done) q ≡ false) (ap test (sym is) ∙ t) (pushed-before test names (cond (test x) (x ∷ done) done) q e) in
          sym same ∙ (or_parts (bytes_eq q x) (has done q) front).0
      | false ↦ λ _. pushed-out test names (cond (test x) (x ∷ done) done) q e t
    ] refl

-- ---- rows

-- a row that no change tells of is as it was
pub told-same : {F Row : Type 0} (row : List F → List ℕ → Row) (first : TableState F) (us : List (Change F)) (now : TableState F) → Leads first us now → AreTold row us → (q : List ℕ) → has (all_changed us) q ≡ false
    → row now.facts q ≡ row first.facts q
told-same row first [] now lead told q out = ap (λ fs. row fs q) lead.facts
told-same row first (u ∷ us) now lead told q out =
    let parts = or_parts (has u.changed q) (has (all_changed us) q) (sym (has-append u.changed (all_changed us) q) ∙ out) in
    told-same row u.after us now lead.1 told.1 q parts.1
    ∙ sym (subst (λ b. MatchBool b (row u.before.facts q ≢ row u.after.facts q) (row u.before.facts q ≡ row u.after.facts q)) parts.0 (told.0.differ q))
    ∙ ap (λ fs. row fs q) lead.0.facts
