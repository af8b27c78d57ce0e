-- The users of a file that was read.
use Rattle.std.proofs.Common.{◌≡◌, ◌⊎◌, inl, inr, ℕ, ◌+◌, ◌<◌, ◌≤◌, ◌^◌, List, [], length, Result, Ok, Err, IfOk, IfErr, subst}
use Rattle.std.specs.Io.KnownBytes.{Consumes, IsAtEnd}
use Rattle.fsl_login.specs.declared.User.{User}
use Rattle.fsl_login.specs.UserFiles.{IsUsersFile}
use Rattle.fsl_login.proofs.Fronts.{fronts_tell}
use Rattle.fsl_login.proofs.OneReading.{users_read_one_way}
use Rattle.fossil.specs.Run.{Input}
use Rattle.fossil.specs.Served.{IsUsers, IsQuiet, AreNoUsers, unread, bad}
use Rattle.fossil.specs.Due.{printed, Due}
use Rattle.fossil.specs.Serving.{IsNoUserFile}

-- bytes that are users are no more than 2^20
at_end : (users : Input) (bytes : List ℕ) (these : List User) → IsUsersFile bytes these → IsAtEnd users.after.left ⊎ (2 ^ 20 < length bytes) → IsAtEnd users.after.left
at_end users bytes these form (inl end) = end
at_end users bytes these form (inr long) = let bad = fronts_tell bytes [] long in absurd (users_read_one_way.not_both bytes these bad.0 form bad.1)

pub users_read : (users : Input) (bytes : List ℕ) (these : List User) → Consumes users.before.left users.after.left bytes → IsAtEnd users.after.left ⊎ (2 ^ 20 < length bytes) → length bytes ≤ 2 ^ 20 + 65536 → IsQuiet users → IsUsersFile bytes these → IsUsers users these
users_read users bytes these read far few quiet form =
    record { bytes = bytes; read = record { bytes_read = read; far = far; few = few; quiet = quiet }; at_end = at_end users bytes these form far; form = form }

pub no_users_read : (users : Input) (bytes : List ℕ) (d : Due) → Consumes users.before.left users.after.left bytes → IsAtEnd users.after.left ⊎ (2 ^ 20 < length bytes) → length bytes ≤ 2 ^ 20 + 65536 → IsQuiet users → IsNoUserFile bytes d → AreNoUsers users (printed d)
no_users_read users bytes d read far few quiet (inl why) = bad bytes why.0 (record { bytes_read = read; far = far; few = few; quiet = quiet }) why.1 why.2
no_users_read users bytes d read far few quiet (inr e) = unread quiet e

-- the same of what a reader of bytes answers
pub users_as : (users : Input) (bytes text : List ℕ) (r : Result (List User) Due) → bytes ≡ text → Consumes users.before.left users.after.left text → IsAtEnd users.after.left ⊎ (2 ^ 20 < length text) → length text ≤ 2 ^ 20 + 65536 → IsQuiet users
    → IfOk r (IsUsersFile bytes) → IfOk r (IsUsers users)
users_as users bytes text (Ok these) same read far few quiet form = users_read users text these read far few quiet (subst (λ (b : List ℕ). IsUsersFile b these) same form)
users_as users bytes text (Err d) same read far few quiet form = tt

pub no_users_as : (users : Input) (bytes text : List ℕ) (r : Result (List User) Due) → bytes ≡ text → Consumes users.before.left users.after.left text → IsAtEnd users.after.left ⊎ (2 ^ 20 < length text) → length text ≤ 2 ^ 20 + 65536 → IsQuiet users
    → IfErr r (IsNoUserFile bytes) → IfErr r (λ d. AreNoUsers users (printed d))
no_users_as users bytes text (Ok these) same read far few quiet why = tt
no_users_as users bytes text (Err d) same read far few quiet why = no_users_read users text d read far few quiet (subst (λ (b : List ℕ). IsNoUserFile b d) same why)
