-- Facts on the lines of a users file.
use Rattle.std.proofs.Common.{◌≡◌, ℕ, ◌≤◌, ◌^◌, Bool, true, false, cond, List, [], ◌∷◌, ◌++◌, length, map, Result, Ok, Err, IfOk, sym, ap, subst, ◌∙◌, arith}
use Rattle.std.specs.Prelude.{IsTrue}
use Rattle.std.specs.List.{AllByRecursion, IsDistinct}
use Rattle.std.specs.Str.{bytes_eq}
use Rattle.std.specs.Cmp.Lexicographic.{texts_ties}
use Rattle.std.specs.BTreeMap.{is_at}
use Rattle.std.proofs.lemmas.Bool.{or_parts, not-true}
use Rattle.std.proofs.lemmas.List.{map-append}
use Rattle.std.proofs.lemmas.List.Folds.{list_any-append}
use Rattle.std.proofs.lemmas.Cmp.{nat_list_eq_equiv}
use Rattle.fsl_order.specs.Names.{has, bytes_cmp}
use Rattle.fsl_order.specs.Rows.{AreDistinct}
use Rattle.fsl_order.proofs.Booleans.{cond_or}
use Rattle.fsl_wire.specs.declared.Caps.{Caps}
use Rattle.fsl_login.specs.declared.User.{User}
use Rattle.fsl_login.specs.UserFiles.{AreUsers}
use Rattle.fsl_login.specs.Reading.{is_new_name}

-- ---- names that were seen

abbrev names : List User → List (List ℕ)
names users = map (λ user. user.name) users

pub seen_next : (users : List User) (user : User) (q : List ℕ) → cond (is_at (bytes_cmp user.name) q) true (has (names users) q) ≡ has (names (users ++ user ∷ [])) q
seen_next users user q =
    ap (λ (b : Bool). cond b true (has (names users) q)) (sym (texts_ties user.name q))
    ∙ ap (λ (b : Bool). cond b true (has (names users) q)) (nat_list_eq_equiv.symm user.name q)
    ∙ cond_or (bytes_eq q user.name) (has (names users) q) ∙ sym (list_any-append (bytes_eq q) (names users) (user.name ∷ []))
    ∙ ap (λ (xs : List (List ℕ)). has xs q) (sym (map-append (λ (u : User). u.name) users (user ∷ [])))

-- ---- users who differ

all_push : {X : Type 0} (P : X → Type 0) (xs : List X) (x : X) → AllByRecursion P xs → P x → AllByRecursion P (xs ++ x ∷ [])
all_push P [] x all p = (p, tt)
all_push P (y ∷ ys) x all p = (all.0, all_push P ys x all.1 p)

distinct_push : (xs : List (List ℕ)) (x : List ℕ) → IsDistinct bytes_eq xs → has xs x ≡ false → IsDistinct bytes_eq (xs ++ x ∷ [])
unfolding IsDistinct
distinct_push [] x d h = (tt, tt)
distinct_push (y ∷ ys) x d h =
    let parts = or_parts (bytes_eq x y) (has ys x) h in
    (all_push (λ z. bytes_eq y z ≡ false) ys x d.0 (nat_list_eq_equiv.symm y x ∙ parts.0), distinct_push ys x d.1 parts.1)

pub users_next : (users : List User) (user : User) → AreUsers users → length user.name ≤ 2 ^ 20 → is_new_name user.name users ≡ true → AreUsers (users ++ user ∷ [])
users_next users user h short new =
    record {
      short = all_push (λ u. length u.name ≤ 2 ^ 20) users user h.short short;
      differ =
          subst (λ (ns : List (List ℕ)). AreDistinct ns) (sym (map-append (λ (u : User). u.name) users (user ∷ [])))
          (distinct_push (names users) user.name h.differ (not-true (has (names users) user.name) new));
    }

-- what stays true of users behind a line
pub kept_by : {E : Type 0} (r : Result Bool E) (line name secret : List ℕ) (caps : Caps) (users new : List User) → IfOk r (λ good. good ≡ is_new_name name users)
    → IfOk r (λ good. IsTrue good → new ≡ users ++ (record { name = name; caps = caps; secret = secret }) ∷ []) → length name ≤ length line
    → IfOk r (λ good. IsTrue good → length line ≤ 2 ^ 20 → AreUsers users → AreUsers new)
kept_by (Ok good) line name secret caps users new e f le =
    λ yes short h. subst AreUsers (sym (f yes)) (users_next users (record { name = name; caps = caps; secret = secret }) h (omega (arith, le, short)) (sym e ∙ yes))
kept_by (Err fault) line name secret caps users new e f le = tt
