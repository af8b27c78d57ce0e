-- What stands after a fact is put, and that a table is as it is.
use Rattle.std.proofs.Common.{◌≡◌, ◌≤◌, ℕ, List, [], ◌∷◌, ◌||◌, ◌++◌, Bool, true, false, is_some, map, refl, sym, ap, ◌∙◌, arith}
use Rattle.std.specs.Cmp.Lexicographic.{nat_list_eq_equiv}
use Rattle.std.specs.Str.{bytes_eq}
use Rattle.fsl_order.specs.Names.{has}
use Rattle.fsl_order.specs.Rows.{by_name}
use Rattle.fsl_order.specs.TableState.{TableState, AreAtMost, IsAsBefore}
use Rattle.fsl_order.proofs.RowLemmas.{is_some-named}
use Rattle.fsl_order.proofs.NamedLemmas.{named-by_name}
use Rattle.fsl_ticket.specs.Seen as ticket

-- a name is there where a fact of that name was put
pub has_put : {F : Type 0} (name_of : F → List ℕ) (q : List ℕ) (f : F) (fs now : List F) → now ≡ by_name name_of (f ∷ fs) → q ≡ name_of f → has (map name_of now) q ≡ true
has_put name_of q f fs now is same =
    ap (λ xs. has (map name_of xs) q) is ∙ ap (λ n. has (map name_of (by_name name_of (f ∷ fs))) n) same
    ∙ sym (is_some-named name_of (by_name name_of (f ∷ fs)) (name_of f)) ∙ ap is_some (named-by_name name_of (f ∷ fs) (name_of f)) ∙ is_some-named name_of (f ∷ fs) (name_of f)
    ∙ ap (λ b. b || has (map name_of fs) (name_of f)) (nat_list_eq_equiv.refl (name_of f))

swap : (a b c : Bool) → (a || (b || c)) ≡ (b || (a || c))
swap true true c = refl
swap true false c = refl
swap false b c = refl

at_end : (q n : List ℕ) (names : List (List ℕ)) → has (names ++ n ∷ []) q ≡ (bytes_eq q n || has names q)
at_end q n [] = refl
at_end q n (x ∷ xs) = ap (λ b. bytes_eq q x || b) (at_end q n xs) ∙ swap (bytes_eq q x) (bytes_eq q n) (has xs q)

-- the names with one more at their end are those of the facts with one more
pub has_more : {F : Type 0} (name_of : F → List ℕ) (f : F) (fs now : List F) (names more : List (List ℕ)) → now ≡ by_name name_of (f ∷ fs) → more ≡ names ++ name_of f ∷ []
    → ((q : List ℕ) → has (map name_of fs) q ≡ has names q) → (q : List ℕ) → has (map name_of now) q ≡ has more q
has_more name_of f fs now names more is grown same q =
    ap (λ xs. has (map name_of xs) q) is
    ∙ sym (is_some-named name_of (by_name name_of (f ∷ fs)) q) ∙ ap is_some (named-by_name name_of (f ∷ fs) q) ∙ is_some-named name_of (f ∷ fs) q
    ∙ ap (λ b. bytes_eq q (name_of f) || b) (same q)
    ∙ sym (ap (λ l. has l q) grown ∙ at_end q (name_of f) names)

-- no name is there where there are no facts
pub has_none : {F : Type 0} (name_of : F → List ℕ) (q : List ℕ) (now : List F) → now ≡ [] → has (map name_of now) q ≡ false
has_none name_of q now is = ap (λ xs. has (map name_of xs) q) is

pub same_spare : (ns : List ℕ) → AreAtMost ns ns
same_spare [] = tt
same_spare (n ∷ ns) = (omega arith, same_spare ns)

pub as_is : {F : Type 0} (h g : TableState F) → h ≡ g → IsAsBefore h g
as_is h g is = record { facts = ap (λ x. x.facts) (sym is); spare = rw is (same_spare g.spare) }

-- the same of tickets
pub tickets_as_is : (h g : ticket.Seen) → h ≡ g → ticket.IsAsBefore h g
tickets_as_is h g is = record { fields = ap (λ x. x.fields) (sym is); facts = ap (λ x. x.facts) (sym is); spare = rw is (same_spare g.spare) }
