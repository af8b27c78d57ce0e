-- A mixture that goes on: a name more, a slice of names, and the names of several changes.
use Rattle.std.proofs.Common.{◌≡◌, ℕ, ◌+◌, ◌<◌, true, false, cond, List, [], ◌∷◌, ◌++◌, length, take, get_or, Bool, refl, sym, ap, ◌∙◌, Result, Ok, Err}
use Rattle.std.specs.Prelude.{◌||◌, OnOk}
use Rattle.std.specs.Str.{bytes_eq}
use Rattle.std.specs.Cmp.Lexicographic.{bytes_decides}
use Rattle.std.proofs.lemmas.List.{take_more, append_assoc}
use Rattle.fsl_order.specs.TableState.{Change}
use Rattle.fsl_order.specs.Names.{has}
use Rattle.fsl_cross.specs.Mixed.{pushed, IsMixture, GoesOn, all_changed}
use Rattle.fsl_cross.proofs.Pushing.{pushed-append, pushed-next}

all_changed-append : {F : Type 0} (us vs : List (Change F)) → all_changed (us ++ vs) ≡ all_changed us ++ all_changed vs
all_changed-append [] vs = refl
all_changed-append (u ∷ us) vs = ap (λ l. u.changed ++ l) (all_changed-append us vs) ∙ sym (append_assoc u.changed (all_changed us) (all_changed vs))

append-none : (xs : List (List ℕ)) → xs ++ [] ≡ xs
append-none [] = refl
append-none (x ∷ xs) = ap (λ l. x ∷ l) (append-none xs)

all_changed-next : {F : Type 0} (us : List (Change F)) (i : ℕ) (u : Change F) → i < length us → u ≡ get_or us i u → all_changed (take (i + 1) us) ≡ all_changed (take i us) ++ u.changed
all_changed-next us i u lt is =
    ap all_changed (take_more us i u lt ∙ ap (λ v. take i us ++ v ∷ []) (sym is)) ∙ all_changed-append (take i us) (u ∷ []) ∙ ap (λ l. all_changed (take i us) ++ l) (append-none u.changed)

module _ {F : Type 0} (mixture : List (List ℕ) → List F) (test : List ℕ → Bool) where
  -- a name that fails the test
  pub goes-stay : (q : List ℕ) (fs : List F) → test q ≡ false → GoesOn mixture (pushed test (q ∷ [])) fs fs
  goes-stay q fs out done e = e ∙ sym (ap (λ b. mixture (cond b (q ∷ done) done)) out)

  -- a name at which nothing is given
  pub goes-none : (q : List ℕ) (fs : List F) → ((done : List (List ℕ)) → mixture (q ∷ done) ≡ mixture done) → GoesOn mixture (pushed test (q ∷ [])) fs fs
  goes-none q fs none done e = e ∙ elim (test q) as (λ b. mixture done ≡ mixture (cond b (q ∷ done) done)) [ true ↦ sym (none done) | false ↦ refl ]

  -- names at which nothing new is given
  pub goes-all-none : (names : List (List ℕ)) (fs : List F) → ((q : List ℕ) → has names q ≡ true → test q ≡ true → (done : List (List ℕ)) → mixture (q ∷ done) ≡ mixture done) → GoesOn mixture (pushed test names) fs fs
  goes-all-none [] fs none done e = e
  goes-all-none (q ∷ names) fs none done e =
      goes-all-none names fs (λ p there. none p (ap (λ b. bytes_eq p q || b) there ∙ or-true (bytes_eq p q))) (cond (test q) (q ∷ done) done)
      (e ∙ elim (test q) as (λ b. test q ≡ b → mixture done ≡ mixture (cond b (q ∷ done) done)) [ true ↦ λ t. sym (none q (ap (λ b. b || has names q) ((bytes_decides q q).1 refl)) t done) | false ↦ λ _. refl ] refl)
    where
      or-true : (b : Bool) → (b || true) ≡ true
      or-true true = refl
      or-true false = refl

  -- a name that passes it, whose new fact is put
  pub goes-put : {X E : Type 0} (r : Result X E) (put : List F → List F) (q : List ℕ) (old new : List F) → test q ≡ true → ((done : List (List ℕ)) → mixture (q ∷ done) ≡ put (mixture done)) → OnOk r (new ≡ put old)
      → OnOk r (GoesOn mixture (pushed test (q ∷ [])) old new)
  goes-put (Ok x) put q old new is next facts = λ done e. facts ∙ ap put e ∙ sym (next done) ∙ sym (ap (λ b. mixture (cond b (q ∷ done) done)) is)
  goes-put (Err x) put q old new is next facts = tt

  -- a mixture stays one
  pub goes-mixture : (more : List (List ℕ) → List (List ℕ)) (old now : List F) → GoesOn mixture more old now → IsMixture mixture old → IsMixture mixture now
  goes-mixture more old now go m = (more m.0, go m.0 m.1)

  -- a name more of a slice
  pub goes-next : (names : List (List ℕ)) (i : ℕ) (name : List ℕ) (old now new : List F) → i < length names → name ≡ get_or names i name
      → GoesOn mixture (pushed test (take i names)) old now → GoesOn mixture (pushed test (name ∷ [])) now new → GoesOn mixture (pushed test (take (i + 1) names)) old new
  goes-next names i name old now new lt is go step = λ done e. step (pushed test (take i names) done) (go done e) ∙ sym (ap mixture (pushed-next test names i name done lt is))

  -- a change more of several
  pub goes-change : {G : Type 0} (us : List (Change G)) (i : ℕ) (u : Change G) (old now new : List F) → i < length us → u ≡ get_or us i u
      → GoesOn mixture (pushed test (all_changed (take i us))) old now → GoesOn mixture (pushed test u.changed) now new → GoesOn mixture (pushed test (all_changed (take (i + 1) us))) old new
  goes-change us i u old now new lt is go step = λ done e.
      step (pushed test (all_changed (take i us)) done) (go done e)
      ∙ sym (ap (λ l. mixture (pushed test l done)) (all_changed-next us i u lt is) ∙ ap mixture (pushed-append test (all_changed (take i us)) u.changed done))
