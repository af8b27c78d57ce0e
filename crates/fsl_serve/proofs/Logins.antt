-- The login of a message whose logins are accepted is the name of a user, or `nobody`.
use Rattle.std.proofs.Common.{◌≡◌, ◌≤◌, ◌^◌, ℕ, Bool, true, false, List, [], ◌∷◌, length, Some, None, Ok, Err, refl, ap, subst, arith}
use Rattle.std.specs.Prelude.{Option, Result, filter_map, if◌then◌else◌, cond}
use Rattle.std.specs.List.{AllByRecursion, cons_option, find}
use Rattle.std.specs.Str.{bytes_eq}
use Rattle.std.proofs.lemmas.Slice.Eq.{bytes_eq-Decides}
use Rattle.fsl_name.specs.Name.{name_text}
use Rattle.fsl_wire.specs.declared.Caps.{Caps}
use Rattle.fsl_wire.specs.declared.WireCard.{WireCard}
use Rattle.fsl_wire.specs.declared.WireCard.TheVariants as cards
use Rattle.fsl_login.specs.declared.User.{User}
use Rattle.fsl_login.specs.declared.LoginFault.{LoginFault}
use Rattle.fsl_login.specs.declared.LoginFault.TheVariants.{Nonce}
use Rattle.fsl_login.specs.Logins.{nobody, user_named, user_for_login, signature_fault, login_fault, granted_unless}
use Rattle.fsl_login.specs.UserFiles.{AreUsers}
use Rattle.fsl_serve.specs.Session.{login_in}

abbrev is_none : {X : Type 0} → Option X → Type 0
is_none None = Unit {0}
is_none (Some x) = ⊥

abbrev is_some : {X : Type 0} → Option X → Type 0
is_some None = ⊥
is_some (Some x) = Unit {0}

abbrev is_err : Result Caps LoginFault → Type 0
is_err (Ok caps) = ⊥
is_err (Err fault) = Unit {0}

abbrev user_or : Option User → User → User
user_or None u = u
user_or (Some v) u = v

-- a look-up finds one that passes, of those of which P holds
found : (P : User → Type 0) (p : User → Bool) (us : List User) (u : User) → AllByRecursion P us → find p us ≡ Some u → P u × (p u ≡ true)
found P p [] u all e = absurd (subst is_none e tt)
found P p (x ∷ xs) u all e = by (p x) refl (λ f. found P p xs u all.1 f) e
  where
    by : (b : Bool) → p x ≡ b → (find p xs ≡ Some u → P u × (p u ≡ true)) → cond b (Some x) (find p xs) ≡ Some u → P u × (p u ≡ true)
    by true is more f = subst (λ (y : User). P y × (p y ≡ true)) (ap (λ (o : Option User). user_or o x) f) (all.0, is)
    by false is more f = more f

-- one login
accepted : (users : List User) (user nonce signature tail : List ℕ) (line : ℕ) → AreUsers users → login_fault users (cards.Login user nonce signature tail line) ≡ None → length user ≤ 2 ^ 20
accepted users user nonce signature tail line are e = by_nonce (bytes_eq nonce (name_text tail)) e
  where
    named : (o : Option User) → user_named users user ≡ o → signature_fault o nonce signature line ≡ None → length user ≤ 2 ^ 20
    named None is f = absurd (subst is_some f tt)
    named (Some u) is f =
        let w = found (λ v. length v.name ≤ 2 ^ 20) (λ v. bytes_eq v.name user) users u are.short is in
        subst (λ (n : List ℕ). length n ≤ 2 ^ 20) ((bytes_eq-Decides u.name user).0 w.1) w.0

    by_user : (b : Bool) → signature_fault (if b then None else user_named users user) nonce signature line ≡ None → length user ≤ 2 ^ 20
    by_user true f = absurd (subst is_some f tt)
    by_user false f = named (user_named users user) refl f

    by_nonce : (b : Bool) → (if b then signature_fault (user_for_login users user) nonce signature line else Some (Nonce line)) ≡ None → length user ≤ 2 ^ 20
    by_nonce true f = by_user (bytes_eq user nobody) f
    by_nonce false f = absurd (subst is_some f tt)

pub login_short : (users : List User) (m : List WireCard) (all caps : Caps) → AreUsers users → granted_unless (filter_map (login_fault users) m) all ≡ Ok caps → length (login_in m) ≤ 2 ^ 20
login_short users [] all caps are e = omega arith
login_short users (cards.Login user nonce signature tail line ∷ rest) all caps are e = by (login_fault users (cards.Login user nonce signature tail line)) refl e
  where
    by : (o : Option LoginFault) → login_fault users (cards.Login user nonce signature tail line) ≡ o → granted_unless (cons_option o (filter_map (login_fault users) rest)) all ≡ Ok caps → length user ≤ 2 ^ 20
    by None is f = accepted users user nonce signature tail line are is
    by (Some fault) is f = absurd (subst is_err f tt)
login_short users (cards.Push server project ∷ rest) all caps are e = login_short users rest all caps are e
login_short users (cards.Pull server project ∷ rest) all caps are e = login_short users rest all caps are e
login_short users (cards.Clone from ∷ rest) all caps are e = login_short users rest all caps are e
login_short users (cards.CloneSeqno next ∷ rest) all caps are e = login_short users rest all caps are e
login_short users (cards.File name bytes ∷ rest) all caps are e = login_short users rest all caps are e
login_short users (cards.Private ∷ rest) all caps are e = login_short users rest all caps are e
login_short users (cards.Igot name private ∷ rest) all caps are e = login_short users rest all caps are e
login_short users (cards.Gimme name ∷ rest) all caps are e = login_short users rest all caps are e
login_short users (cards.Error text ∷ rest) all caps are e = login_short users rest all caps are e
login_short users (cards.Message text ∷ rest) all caps are e = login_short users rest all caps are e
login_short users (cards.SendPrivate ∷ rest) all caps are e = login_short users rest all caps are e
