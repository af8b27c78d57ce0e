-- A fact that becomes public, and is else the same.
use Rattle.std.proofs.Common.{◌≡◌, ℕ, List, [], ◌∷◌, true, false, not, ◌&&◌, Option, Some, None, refl, sym, ap, ◌∙◌}
use mathlib.Core.Bool.{true≢false}
use Rattle.std.specs.Str.{bytes_eq}
use Rattle.std.specs.Cmp.Lexicographic.{pointwise, bytes_decides, nat_list_eq_equiv}
use Rattle.std.proofs.lemmas.Bool.{not-true}
use Rattle.fsl_order.proofs.Booleans.{first_holds, second_holds}
use Rattle.fsl_cluster.specs.declared.entry.Entry.{Entry}
use Rattle.fsl_cluster.specs.Kept.{publishes}

names_true : (xs ys : List (List ℕ)) → pointwise bytes_eq xs ys ≡ true → xs ≡ ys
names_true [] [] h = refl
names_true [] (y ∷ ys) h = absurd (true≢false (sym h))
names_true (x ∷ xs) [] h = absurd (true≢false (sym h))
names_true (x ∷ xs) (y ∷ ys) h =
    λ i. (bytes_decides x y).0 (first_holds (bytes_eq x y) (pointwise bytes_eq xs ys) h) i ∷ names_true xs ys (second_holds (bytes_eq x y) (pointwise bytes_eq xs ys) h) i

names_itself : (xs : List (List ℕ)) → pointwise bytes_eq xs xs ≡ true
names_itself [] = refl
names_itself (x ∷ xs) = ap (λ b. b && pointwise bytes_eq xs xs) (nat_list_eq_equiv.refl x) ∙ names_itself xs

-- what it says
pub record Publishes (o : Option Entry) (w : Entry) : Type 0 where
  pub entry : Entry
  pub is : o ≡ Some entry
  pub was : entry.private ≡ true
  pub public : w.private ≡ false
  pub members : entry.members ≡ w.members
  pub refs : entry.refs ≡ w.refs

pub published : (o : Option Entry) (w : Entry) → publishes o w ≡ true → Publishes o w
published None w h = absurd (true≢false (sym h))
published (Some v) w h =
    let first = first_holds (v.private && not w.private) (pointwise bytes_eq v.members w.members && pointwise bytes_eq v.refs w.refs) h in
    let second = second_holds (v.private && not w.private) (pointwise bytes_eq v.members w.members && pointwise bytes_eq v.refs w.refs) h in
    record {
      entry = v;
      is = refl;
      was = first_holds v.private (not w.private) first;
      public = not-true w.private (second_holds v.private (not w.private) first);
      members = names_true v.members w.members (first_holds (pointwise bytes_eq v.members w.members) (pointwise bytes_eq v.refs w.refs) second);
      refs = names_true v.refs w.refs (second_holds (pointwise bytes_eq v.members w.members) (pointwise bytes_eq v.refs w.refs) second);
    }

-- where it is said
pub publishing : (o : Option Entry) (w : Entry) → o ≡ Some (record { private = true; members = w.members; refs = w.refs }) → w.private ≡ false → publishes o w ≡ true
publishing o w is public =
    ap (λ o. publishes o w) is
    ∙ (λ i. not (public i) && (names_itself w.members i && names_itself w.refs i))
