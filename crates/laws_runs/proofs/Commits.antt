-- Which commits a run's outcome has where its file stays as it is, and which files its command refuses.
use Rattle.std.proofs.Common.{◌≡◌, ◌≢◌, ◌⊎◌, inl, inr, ℕ, ◌<◌, Bool, true, false, List, [], ◌∷◌, length, Option, Some, None, refl, sym, ap, subst, ◌∙◌, arith}
use Rattle.std.specs.Prelude.{◌==◌, if◌then◌else◌}
use Rattle.fsl_journal.specs.Log.{IsNoFile}
use Rattle.fsl_words.specs.declared.Command.{Command}
use Rattle.fsl_words.specs.declared.Command.TheVariants.{Init, Ingest, Put, Shun, Unshun, Ask, Serve, Gen, Pull, Push, Clone, PullLocal, Checkin, Export, Verify, Scrub, Unversioned}
use Rattle.fsl_words.specs.declared.Unversioned.TheVariants as uv
use Rattle.fossil.specs.Outcome.{Outcome, init_outcome, IsSaidOutcome}
use Rattle.fossil.specs.Run.{opens, begins, IsNoRepository, IsRefused, after_commits}

-- a command that touches no file appends nothing
pub closed_commits : (command : Option Command) (honest : Bool) (read : List ℕ) (moment : ℕ) (bytes : List ℕ) (o : Outcome) → opens command ≡ false
    → IsSaidOutcome honest command read moment bytes o → o.commits ≡ []
closed_commits None honest read moment bytes o closed is = ap (λ (x : Outcome). x.commits) is
closed_commits (Some (Init project server fields)) honest read moment bytes o closed is = absurd (cc)
closed_commits (Some Ingest) honest read moment bytes o closed is = ap (λ (x : Outcome). x.commits) is.2
closed_commits (Some Put) honest read moment bytes o closed is = absurd (cc)
closed_commits (Some (Shun name)) honest read moment bytes o closed is = absurd (cc)
closed_commits (Some (Unshun name)) honest read moment bytes o closed is = absurd (cc)
closed_commits (Some (Ask question)) honest read moment bytes o closed is = absurd (cc)
closed_commits (Some (Serve address users workers requests)) honest read moment bytes o closed is = ap (λ (x : Outcome). x.commits) is
closed_commits (Some (Gen count reversed)) honest read moment bytes o closed is = ap (λ (x : Outcome). x.commits) is.2
closed_commits (Some (Pull address login)) honest read moment bytes o closed is = absurd (cc)
closed_commits (Some (Push address login)) honest read moment bytes o closed is = absurd (cc)
closed_commits (Some (Clone address server fields)) honest read moment bytes o closed is = absurd (cc)
closed_commits (Some (PullLocal path)) honest read moment bytes o closed is = absurd (cc)
closed_commits (Some (Checkin parent user comment)) honest read moment bytes o closed is = absurd (cc)
closed_commits (Some (Export prefix)) honest read moment bytes o closed is = absurd (cc)
closed_commits (Some (Verify prefix)) honest read moment bytes o closed is = absurd (cc)
closed_commits (Some (Scrub path)) honest read moment bytes o closed is = absurd (cc)
closed_commits (Some (Unversioned (uv.Init project server))) honest read moment bytes o closed is = absurd (cc)
closed_commits (Some (Unversioned (uv.Add path))) honest read moment bytes o closed is = absurd (cc)
closed_commits (Some (Unversioned (uv.Remove path))) honest read moment bytes o closed is = absurd (cc)
closed_commits (Some (Unversioned uv.List)) honest read moment bytes o closed is = absurd (cc)
closed_commits (Some (Unversioned (uv.Cat path))) honest read moment bytes o closed is = absurd (cc)
closed_commits (Some (Unversioned (uv.Sync peer))) honest read moment bytes o closed is = absurd (cc)

otherwise : (t : Bool) (a b : Outcome) → t ≡ false → (if t then a else b).commits ≡ b.commits
otherwise true a b is = absurd (cc)
otherwise false a b is = refl

not_zero : (n : ℕ) → 0 < n → (n == 0) ≡ false
not_zero n h = grind (arith)

has_bytes : (bytes : List ℕ) → bytes ≢ [] → (length bytes == 0) ≡ false
has_bytes [] some = absurd (some refl)
has_bytes (b ∷ bytes) some = not_zero (length (b ∷ bytes)) (omega arith)

-- nothing is appended to a file with bytes that was to be begun
init_commits : (project server : List ℕ) (fields : List (List ℕ)) (bytes : List ℕ) (o : Outcome) → bytes ≢ [] → o ≡ init_outcome project server fields (length bytes)
    → o.commits ≡ []
init_commits project server fields bytes o some is =
    ap (λ (x : Outcome). x.commits) is ∙ otherwise (length bytes == 0) _ _ (has_bytes bytes some)

-- nor to one that is refused otherwise
pub refused_commits : (command : Option Command) (honest : Bool) (read : List ℕ) (moment : ℕ) (bytes : List ℕ) (o : Outcome) → IsRefused command bytes → IsNoFile bytes
    → IsSaidOutcome honest command read moment bytes o → o.commits ≡ []
refused_commits None honest read moment bytes o refused none is = absurd refused
refused_commits (Some (Init project server fields)) honest read moment bytes o refused none is = init_commits project server fields bytes o refused is
refused_commits (Some Ingest) honest read moment bytes o refused none is = absurd refused
refused_commits (Some Put) honest read moment bytes o refused none (inl fails) = ap (λ (x : Outcome). x.commits) fails.2
refused_commits (Some Put) honest read moment bytes o refused none (inr stands) = absurd (none stands.0 stands.1)
refused_commits (Some (Shun name)) honest read moment bytes o refused none (inl fails) = ap (λ (x : Outcome). x.commits) fails.2
refused_commits (Some (Shun name)) honest read moment bytes o refused none (inr stands) = absurd (none stands.0 stands.1)
refused_commits (Some (Unshun name)) honest read moment bytes o refused none (inl fails) = ap (λ (x : Outcome). x.commits) fails.2
refused_commits (Some (Unshun name)) honest read moment bytes o refused none (inr stands) = absurd (none stands.0 stands.1)
refused_commits (Some (Ask question)) honest read moment bytes o refused none (inl fails) = ap (λ (x : Outcome). x.commits) fails.2
refused_commits (Some (Ask question)) honest read moment bytes o refused none (inr stands) = absurd (none stands.0 stands.1)
refused_commits (Some (Serve address users workers requests)) honest read moment bytes o refused none is = absurd refused
refused_commits (Some (Gen count reversed)) honest read moment bytes o refused none is = absurd refused
refused_commits (Some (Pull address login)) honest read moment bytes o refused none is = absurd is
refused_commits (Some (Push address login)) honest read moment bytes o refused none is = absurd is
refused_commits (Some (Clone address server fields)) honest read moment bytes o refused none is = absurd is
refused_commits (Some (PullLocal path)) honest read moment bytes o refused none is = absurd is
refused_commits (Some (Checkin parent user comment)) honest read moment bytes o refused none (inl fails) = ap (λ (x : Outcome). x.commits) fails.2
refused_commits (Some (Checkin parent user comment)) honest read moment bytes o refused none (inr stands) = absurd (none stands.0 stands.1)
refused_commits (Some (Export prefix)) honest read moment bytes o refused none (inl fails) = ap (λ (x : Outcome). x.commits) fails.2
refused_commits (Some (Export prefix)) honest read moment bytes o refused none (inr stands) = absurd (none stands.0 stands.1)
refused_commits (Some (Verify prefix)) honest read moment bytes o refused none (inl fails) = ap (λ (x : Outcome). x.commits) fails.2
refused_commits (Some (Verify prefix)) honest read moment bytes o refused none (inr stands) = absurd (none stands.0 stands.1)
refused_commits (Some (Scrub path)) honest read moment bytes o refused none is = absurd is
refused_commits (Some (Unversioned (uv.Init project server))) honest read moment bytes o refused none is = init_commits project server [] bytes o refused is
refused_commits (Some (Unversioned (uv.Add path))) honest read moment bytes o refused none (inl fails) = ap (λ (x : Outcome). x.commits) fails.2
refused_commits (Some (Unversioned (uv.Add path))) honest read moment bytes o refused none (inr stands) = absurd (none stands.0 stands.1)
refused_commits (Some (Unversioned (uv.Remove path))) honest read moment bytes o refused none (inl fails) = ap (λ (x : Outcome). x.commits) fails.2
refused_commits (Some (Unversioned (uv.Remove path))) honest read moment bytes o refused none (inr stands) = absurd (none stands.0 stands.1)
refused_commits (Some (Unversioned uv.List)) honest read moment bytes o refused none (inl fails) = ap (λ (x : Outcome). x.commits) fails.2
refused_commits (Some (Unversioned uv.List)) honest read moment bytes o refused none (inr stands) = absurd (none stands.0 stands.1)
refused_commits (Some (Unversioned (uv.Cat path))) honest read moment bytes o refused none (inl fails) = ap (λ (x : Outcome). x.commits) fails.2
refused_commits (Some (Unversioned (uv.Cat path))) honest read moment bytes o refused none (inr stands) = absurd (none stands.0 stands.1)
refused_commits (Some (Unversioned (uv.Sync peer))) honest read moment bytes o refused none is = absurd is

-- a command refuses a file that is no repository, unless it begins one and finds it empty
pub refused_file : (command : Option Command) (bytes : List ℕ) → opens command ≡ true → IsNoRepository bytes → (begins command ≡ false) ⊎ (bytes ≢ []) → IsRefused command bytes
refused_file None bytes opened fails which = absurd (cc)
refused_file (Some (Init project server fields)) bytes opened fails (inl loads) = absurd (cc)
refused_file (Some (Init project server fields)) bytes opened fails (inr some) = some
refused_file (Some Ingest) bytes opened fails which = absurd (cc)
refused_file (Some Put) bytes opened fails which = fails
refused_file (Some (Shun name)) bytes opened fails which = fails
refused_file (Some (Unshun name)) bytes opened fails which = fails
refused_file (Some (Ask question)) bytes opened fails which = fails
refused_file (Some (Serve address users workers requests)) bytes opened fails which = absurd (cc)
refused_file (Some (Gen count reversed)) bytes opened fails which = absurd (cc)
refused_file (Some (Pull address login)) bytes opened fails which = fails
refused_file (Some (Push address login)) bytes opened fails which = fails
refused_file (Some (Clone address server fields)) bytes opened fails (inl loads) = absurd (cc)
refused_file (Some (Clone address server fields)) bytes opened fails (inr some) = some
refused_file (Some (PullLocal path)) bytes opened fails which = fails
refused_file (Some (Checkin parent user comment)) bytes opened fails which = fails
refused_file (Some (Export prefix)) bytes opened fails which = fails
refused_file (Some (Verify prefix)) bytes opened fails which = fails
refused_file (Some (Scrub path)) bytes opened fails which = fails
refused_file (Some (Unversioned (uv.Init project server))) bytes opened fails (inl loads) = absurd (cc)
refused_file (Some (Unversioned (uv.Init project server))) bytes opened fails (inr some) = some
refused_file (Some (Unversioned (uv.Add path))) bytes opened fails which = fails
refused_file (Some (Unversioned (uv.Remove path))) bytes opened fails which = fails
refused_file (Some (Unversioned uv.List)) bytes opened fails which = fails
refused_file (Some (Unversioned (uv.Cat path))) bytes opened fails which = fails
refused_file (Some (Unversioned (uv.Sync peer))) bytes opened fails which = fails

-- a command that begins an empty file has something to commit
abbrev HasSome : Outcome → Type 0
HasSome o = after_commits [] o.commits (length o.commits) ≢ []

begun_init : (project server : List ℕ) (fields : List (List ℕ)) (bytes : List ℕ) (o : Outcome) → bytes ≡ [] → o ≡ init_outcome project server fields (length bytes) → HasSome o
begun_init project server fields bytes o empty is =
    subst (λ (x : Outcome). after_commits [] x.commits (length x.commits) ≢ [])
    (sym (is ∙ ap (λ (b : List ℕ). init_outcome project server fields (length b)) empty)) (λ e. cc)

pub begun_commits : (command : Option Command) (honest : Bool) (read : List ℕ) (moment : ℕ) (bytes : List ℕ) (o : Outcome) → begins command ≡ true → bytes ≡ []
    → IsSaidOutcome honest command read moment bytes o → after_commits [] o.commits (length o.commits) ≢ []
begun_commits None honest read moment bytes o begun empty is = absurd (cc)
begun_commits (Some (Init project server fields)) honest read moment bytes o begun empty is = begun_init project server fields bytes o empty is
begun_commits (Some Ingest) honest read moment bytes o begun empty is = absurd (cc)
begun_commits (Some Put) honest read moment bytes o begun empty is = absurd (cc)
begun_commits (Some (Shun name)) honest read moment bytes o begun empty is = absurd (cc)
begun_commits (Some (Unshun name)) honest read moment bytes o begun empty is = absurd (cc)
begun_commits (Some (Ask question)) honest read moment bytes o begun empty is = absurd (cc)
begun_commits (Some (Serve address users workers requests)) honest read moment bytes o begun empty is = absurd (cc)
begun_commits (Some (Gen count reversed)) honest read moment bytes o begun empty is = absurd (cc)
begun_commits (Some (Pull address login)) honest read moment bytes o begun empty is = absurd is
begun_commits (Some (Push address login)) honest read moment bytes o begun empty is = absurd is
begun_commits (Some (Clone address server fields)) honest read moment bytes o begun empty is = absurd is
begun_commits (Some (PullLocal path)) honest read moment bytes o begun empty is = absurd is
begun_commits (Some (Checkin parent user comment)) honest read moment bytes o begun empty is = absurd (cc)
begun_commits (Some (Export prefix)) honest read moment bytes o begun empty is = absurd (cc)
begun_commits (Some (Verify prefix)) honest read moment bytes o begun empty is = absurd (cc)
begun_commits (Some (Scrub path)) honest read moment bytes o begun empty is = absurd is
begun_commits (Some (Unversioned (uv.Init project server))) honest read moment bytes o begun empty is = begun_init project server [] bytes o empty is
begun_commits (Some (Unversioned (uv.Add path))) honest read moment bytes o begun empty is = absurd (cc)
begun_commits (Some (Unversioned (uv.Remove path))) honest read moment bytes o begun empty is = absurd (cc)
begun_commits (Some (Unversioned uv.List)) honest read moment bytes o begun empty is = absurd (cc)
begun_commits (Some (Unversioned (uv.Cat path))) honest read moment bytes o begun empty is = absurd (cc)
begun_commits (Some (Unversioned (uv.Sync peer))) honest read moment bytes o begun empty is = absurd is
