-- How a users file is read line by line.
use Rattle.std.specs.Prelude.{◌≡◌, ℕ, ◌+◌, ◌<◌, ◌≤◌, ◌||◌, min, if◌then◌else◌, Bool, true, false, not, List, [], ◌∷◌, ◌++◌, length, drop, map, sum_by, None, IsTrue}
use Rattle.std.specs.Borrow.{Bor}
use Rattle.std.specs.BTreeSet.{BTreeSet, contains}
use Rattle.fsl_order.specs.Names.{bytes_cmp, has}
use Rattle.fsl_text.specs.Tokens.{tokens_of}
use Rattle.fsl_login.specs.declared.User.{User}
use Rattle.fsl_login.specs.declared.lines.UserLine.{UserLine}
use Rattle.fsl_login.specs.declared.lines.UserLine.TheVariants as line
use Rattle.fsl_login.specs.UserFiles.{lines_of, is_meaningless, user_of, users_in, is_good_at, AreUsers}

-- a line is this, by its tokens
abbrev pub IsUserLine : UserLine → List ℕ → Type 0
IsUserLine line.Blank text = is_meaningless (tokens_of text) ≡ true
IsUserLine (line.User name letters secret) text =
    (is_meaningless (tokens_of text) ≡ false) × (tokens_of text ≡ name.now ∷ letters.now ∷ secret.now ∷ [])
    × (length name.now ≤ length text)
IsUserLine line.Bad text = (is_meaningless (tokens_of text) ≡ false) × (user_of (tokens_of text) ≡ None)

-- whether a name is that of no user
abbrev pub is_new_name : List ℕ → List User → Bool
is_new_name name users = not (has (map (λ user. user.name) users) name)

-- whether tokens are a user who is none of those before
abbrev pub is_new_among : List (List ℕ) → List User → Bool
is_new_among (name ∷ letters ∷ secret ∷ []) users = is_new_name name users
is_new_among tokens users = false

-- whether a line has no meaning, or is a user who is none of those before
abbrev pub is_good_among : List ℕ → List User → Bool
is_good_among text users = is_meaningless (tokens_of text) || is_new_among (tokens_of text) users

-- the set has the names of the users
abbrev pub IsSeen : BTreeSet (Bor (List ℕ)) → List User → Type 0
IsSeen seen users =
    (q : Bor (List ℕ)) → contains (λ a b. bytes_cmp a.now b.now) seen q ≡ has (map (λ user. user.name) users) q.now

-- a line begins at a place of a file, and ends with its newline at another one, or with the file
pub record IsCut (bytes : List ℕ) (at : ℕ) (text : List ℕ) (end : ℕ) (last : Bool) : Type 0 where
  pub split : lines_of (drop at bytes) ≡ text ∷ (if last then [] else lines_of (drop end bytes))
  pub reach : min (length bytes) (at + (length text + 1)) ≡ end
  pub short : length text ≤ end
  pub within : end ≤ length bytes
  pub exact : last ≡ false → end ≡ at + (length text + 1)

-- the lines of a file up to a place are good, and these are their users; the next line has this number
pub record IsReadTo (bytes : List ℕ) (at number : ℕ) (users : List User) : Type 0 where
  pub done : List (List ℕ)
  pub split : lines_of bytes ≡ done ++ lines_of (drop at bytes)
  pub size : sum_by (λ text. length text + 1) done ≡ at
  pub count : number ≡ length done + 1
  pub same : users ≡ users_in done
  pub good : (m : ℕ) → m < length done → IsTrue (is_good_at bytes (m + 1))
  pub kept : AreUsers users
  pub within : at ≤ length bytes
  pub room : number ≤ at + 1
