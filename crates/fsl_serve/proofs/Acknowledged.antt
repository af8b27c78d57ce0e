-- What a pusher was answered by 200 stays.
use Rattle.std.proofs.Common.{◌≡◌, ◌≢◌, ◌⊎◌, inl, inr, ℕ, ◌==◌, Bool, true, false, cond, ◌&&◌, ◌||◌, List, [], ◌∷◌, ◌++◌, length, drop, refl, sym, ap, ◌∙◌, subst, arith, append_assoc, eqb-true, if◌then◌else◌}
use Rattle.std.proofs.lemmas.Bool.{false≢true}
use Rattle.std.proofs.lemmas.List.{length-append, map-append, take_all}
use Rattle.std.proofs.lemmas.List.Folds.{list_any-append}
use Rattle.std.proofs.lemmas.Slice.Eq.{bytes_eq-Decides}
use Rattle.std.specs.Prelude.{Option, Some, None, Result, Ok, Err, is_some, fold, IsTrue, MatchBool, MatchOption}
use Rattle.std.specs.List.{list_any}
use Rattle.std.specs.Option.{option_map}
use Rattle.std.specs.Str.{bytes_eq}
use Rattle.std.specs.FinMap as map_of
use Rattle.std.specs.FinSet as set
use Rattle.fsl_disk.specs.Disk.{DiskState, IsModelled, LeavesOnly}
use Rattle.fsl_disk.proofs.Moments.{weaker}
use Rattle.fsl_name.specs.Name.{name_of}
use Rattle.fsl_order.specs.Names.{bytes_cmp}
use Rattle.fsl_record.specs.Receipts.{Brought}
use Rattle.fsl_record.specs.declared.Record.{Record}
use Rattle.fsl_record.specs.declared.Record.TheVariants as record_of
use Rattle.fsl_journal.specs.declared.CommitFault.{CommitFault}
use Rattle.fsl_journal.specs.Log.{StandsBetween}
use Rattle.fsl_login.specs.declared.User.{User}
use Rattle.fsl_blobs.specs.Fold.{Held, Contents, nothing, after, is_new, is_blob_of}
use Rattle.fsl_blobs.specs.Kept.{is_same}
use Rattle.fsl_blobs.proofs.KeptLemmas.{is_same-means, shown, blob-get, publish-get, shun-get}
use Rattle.fsl_repo.specs.declared.Arrival.{Arrival}
use Rattle.fsl_repo.specs.declared.Arrival.TheVariants as arrival
use Rattle.fsl_repo.specs.declared.ArriveFault.{ArriveFault}
use Rattle.fsl_repo.specs.declared.ArriveFault.TheVariants as arrive_fault
use Rattle.fsl_repo.specs.declared.BuildFault.TheVariants as build_fault
use Rattle.fsl_repo.specs.declared.Event.{Event}
use Rattle.fsl_repo.specs.declared.Event.TheVariants as event
use Rattle.fsl_repo.specs.declared.Answer.{Answer}
use Rattle.fsl_repo.specs.declared.Answer.TheVariants as answer
use Rattle.fsl_repo.specs.Machine.{State, IsCommit, IsArrival, IsArrivalOf, IsRoom, ArriveStep, again, arrived, now}
use Rattle.fsl_repo.specs.Onward.{Step, MayStep, IsLaterOn}
use Rattle.fsl_repo.specs.Whole.{Whole, IsWholeOn, front}
use Rattle.fsl_turn.specs.Told.{Runs}
use Rattle.fsl_history.specs.Entries.{Entry, calls_by, calls_in, call_of, IsHistory}
use Rattle.fsl_wire.specs.declared.Caps.{Caps}
use Rattle.fsl_wire.specs.declared.WireCard.{WireCard}
use Rattle.fsl_http.specs.declared.request.Asked.{Asked}
use Rattle.fsl_serve.specs.declared.said.Halt.{Halt}
use Rattle.fsl_serve.specs.declared.said.Halt.TheVariants as halt
use Rattle.fsl_serve.specs.Calls.{Call, asked, told}
use Rattle.fsl_serve.specs.Session.{events, first_events}
use Rattle.fsl_serve.specs.Sessions.{Reply, halted, concluded, IsRun, IsJudged, IsReplied}
use Rattle.fsl_serve.specs.Sessions.IsRun.{whole, early}
use Rattle.fsl_serve.specs.Sessions.IsJudged.{no_login, not_allowed, run, no_memory as judged_without}
use Rattle.fsl_serve.specs.Sessions.IsReplied.{refused, malformed, judged, no_memory as replied_without}
use Rattle.fsl_serve.specs.Ordered.{steps_by}
use Rattle.fsl_serve.specs.Acknowledged.{HasCome, EndCommitted, CommitsWhatItAnswers, HoldsBlobOf, AnsweredStays, StaysFrom, commit_of}
use Rattle.fsl_history.proofs.Lists.{calls_by-append, calls_by-own}
use Rattle.fsl_serve.proofs.Phases.{asked_append}
use Rattle.fsl_serve.proofs.Midst.{still_modelled, on, midst}

-- ---- lists

no_items : {X : Type 0} (xs ys : List X) (x : X) → xs ++ x ∷ ys ≡ [] → ⊥
no_items {X} xs ys x e = let n : length (xs ++ x ∷ ys) ≡ 0 = ap (λ (l : List X). length l) e in omega (arith, n, length-append xs (x ∷ ys))

head_or : {X : Type 0} → X → List X → X
head_or d [] = d
head_or d (x ∷ xs) = x

tail_of : {X : Type 0} → List X → List X
tail_of [] = []
tail_of (x ∷ xs) = xs

heads : {X : Type 0} (x y : X) (xs ys : List X) → x ∷ xs ≡ y ∷ ys → x ≡ y
unfolding head_or
heads x y xs ys e = ap (head_or x) e

tails : {X : Type 0} (x y : X) (xs ys : List X) → x ∷ xs ≡ y ∷ ys → xs ≡ ys
unfolding tail_of
tails x y xs ys e = ap tail_of e

last_or : {X : Type 0} → X → List X → X
last_or d [] = d
last_or d (x ∷ xs) = last_or x xs

last_of : {X : Type 0} (d : X) (xs : List X) (x : X) → last_or d (xs ++ x ∷ []) ≡ x
unfolding last_or
last_of d [] x = refl
last_of d (y ∷ xs) x = last_of y xs x

-- the same last item, behind other ones
same_last : {X : Type 0} (xs ys : List X) (a b c d : X) → xs ++ a ∷ b ∷ [] ≡ ys ++ c ∷ d ∷ [] → b ≡ d
same_last xs ys a b c d e =
    sym (last_of a (xs ++ a ∷ []) b) ∙ ap (last_or a) (append_assoc xs (a ∷ []) (b ∷ []) ∙ e ∙ sym (append_assoc ys (c ∷ []) (d ∷ []))) ∙ last_of a (ys ++ c ∷ []) d

-- what stands behind an item that isn't the last ends with the last
ends_with : {X : Type 0} (before : List X) (c : X) (rest first : List X) (b m : X) → (c ≡ m → ⊥) → before ++ c ∷ rest ≡ first ++ b ∷ m ∷ [] → (between : List X) × (rest ≡ between ++ m ∷ [])
ends_with [] c rest [] b m apart e = ([], tails c b rest (m ∷ []) e)
ends_with [] c rest (f ∷ fs) b m apart e = (fs ++ b ∷ [], tails c f rest (fs ++ b ∷ m ∷ []) e ∙ sym (append_assoc fs (b ∷ []) (m ∷ [])))
ends_with (x ∷ []) c rest [] b m apart e = absurd (apart (heads c m rest [] (tails x b (c ∷ rest) (m ∷ []) e)))
ends_with (x ∷ y ∷ ys) c rest [] b m apart e = absurd (no_items ys rest c (tails y m (ys ++ c ∷ rest) [] (tails x b (y ∷ ys ++ c ∷ rest) (m ∷ []) e)))
ends_with (x ∷ xs) c rest (f ∷ fs) b m apart e = ends_with xs c rest fs b m apart (tails x f (xs ++ c ∷ rest) (fs ++ b ∷ m ∷ []) e)

-- a last item before others
one_on : {X : Type 0} (xs : List X) (c : X) (later : List X) → (xs ++ c ∷ []) ++ later ≡ xs ++ c ∷ later
one_on [] c later = refl
one_on (x ∷ xs) c later = ap (λ l. x ∷ l) (one_on xs c later)

regroup : {X : Type 0} (before : List X) (call : X) (between : List X) (c : X) (later : List X)
    → (before ++ call ∷ (between ++ c ∷ [])) ++ later ≡ (before ++ call ∷ between) ++ c ∷ later
regroup [] call between c later = ap (λ l. call ∷ l) (one_on between c later)
regroup (b ∷ before) call between c later = ap (λ l. b ∷ l) (regroup before call between c later)

-- ---- a session that answered 200

-- an answer that isn't of a commit
kinds : (f : Answer → Bool) → ((x : _) → f (answer.Arrive x) ≡ false) → ((x : _) → f (answer.Receive x) ≡ false) → ((x : _) → f (answer.Announce x) ≡ false)
    → ((x : _) → f (answer.Shun x) ≡ false) → ((x : _) → f (answer.Unshun x) ≡ false) → ((x : _) → f (answer.Cluster x) ≡ false) → ((x : _) → f (answer.Commit x) ≡ false)
    → ((x : List ℕ) → f (answer.Build (Ok x)) ≡ false) → f (answer.Build (Err build_fault.Disk)) ≡ false → ((n m : List ℕ) → f (answer.Build (Err (build_fault.Damaged n m))) ≡ false)
    → f (answer.Build (Err build_fault.Memory)) ≡ false → (a : Answer) → f a ≡ false
kinds f p1 p2 p3 p4 p5 p6 p7 p8 p9 p10 p11 (answer.Arrive x) = p1 x
kinds f p1 p2 p3 p4 p5 p6 p7 p8 p9 p10 p11 (answer.Receive x) = p2 x
kinds f p1 p2 p3 p4 p5 p6 p7 p8 p9 p10 p11 (answer.Announce x) = p3 x
kinds f p1 p2 p3 p4 p5 p6 p7 p8 p9 p10 p11 (answer.Shun x) = p4 x
kinds f p1 p2 p3 p4 p5 p6 p7 p8 p9 p10 p11 (answer.Unshun x) = p5 x
kinds f p1 p2 p3 p4 p5 p6 p7 p8 p9 p10 p11 (answer.Cluster x) = p6 x
kinds f p1 p2 p3 p4 p5 p6 p7 p8 p9 p10 p11 (answer.Commit x) = p7 x
kinds f p1 p2 p3 p4 p5 p6 p7 p8 p9 p10 p11 (answer.Build (Ok x)) = p8 x
kinds f p1 p2 p3 p4 p5 p6 p7 p8 p9 p10 p11 (answer.Build (Err build_fault.Disk)) = p9
kinds f p1 p2 p3 p4 p5 p6 p7 p8 p9 p10 p11 (answer.Build (Err (build_fault.Damaged n m))) = p10 n m
kinds f p1 p2 p3 p4 p5 p6 p7 p8 p9 p10 p11 (answer.Build (Err build_fault.Memory)) = p11

-- whether a session sends 200 behind these answers of its build and its commit
abbrev is_good : Answer → Answer → Bool
is_good built committed = (concluded built committed).0 == 200

good_is : (built committed : Answer) → 200 ≡ (concluded built committed).0 → is_good built committed ≡ true
good_is built committed e = subst (λ (n : ℕ). (n == 200) ≡ true) e refl

not_good : {X : Type 0} (b : Bool) → b ≡ false → b ≡ true → X
not_good b p q = absurd (false≢true (sym p ∙ q))

abbrev SomeCommit : Answer → Type 0
SomeCommit a = (count : ℕ) × (a ≡ answer.Commit (Ok count))

by_answers : (built committed : Answer) → is_good built committed ≡ true → SomeCommit committed
by_answers built (answer.Commit (Ok count)) good = (count, refl)
by_answers built (answer.Commit (Err e)) good = not_good false refl good
by_answers built (answer.Arrive r) good =
    not_good (is_good built (answer.Arrive r)) (kinds (λ b. is_good b (answer.Arrive r)) (λ x. refl) (λ x. refl) (λ x. refl) (λ x. refl) (λ x. refl) (λ x. refl) (λ x. refl) (λ x. refl) refl (λ n m. refl) refl built) good
by_answers built (answer.Receive r) good =
    not_good (is_good built (answer.Receive r)) (kinds (λ b. is_good b (answer.Receive r)) (λ x. refl) (λ x. refl) (λ x. refl) (λ x. refl) (λ x. refl) (λ x. refl) (λ x. refl) (λ x. refl) refl (λ n m. refl) refl built) good
by_answers built (answer.Announce r) good =
    not_good (is_good built (answer.Announce r)) (kinds (λ b. is_good b (answer.Announce r)) (λ x. refl) (λ x. refl) (λ x. refl) (λ x. refl) (λ x. refl) (λ x. refl) (λ x. refl) (λ x. refl) refl (λ n m. refl) refl built) good
by_answers built (answer.Shun r) good =
    not_good (is_good built (answer.Shun r)) (kinds (λ b. is_good b (answer.Shun r)) (λ x. refl) (λ x. refl) (λ x. refl) (λ x. refl) (λ x. refl) (λ x. refl) (λ x. refl) (λ x. refl) refl (λ n m. refl) refl built) good
by_answers built (answer.Unshun r) good =
    not_good (is_good built (answer.Unshun r)) (kinds (λ b. is_good b (answer.Unshun r)) (λ x. refl) (λ x. refl) (λ x. refl) (λ x. refl) (λ x. refl) (λ x. refl) (λ x. refl) (λ x. refl) refl (λ n m. refl) refl built) good
by_answers built (answer.Cluster r) good =
    not_good (is_good built (answer.Cluster r)) (kinds (λ b. is_good b (answer.Cluster r)) (λ x. refl) (λ x. refl) (λ x. refl) (λ x. refl) (λ x. refl) (λ x. refl) (λ x. refl) (λ x. refl) refl (λ n m. refl) refl built) good
by_answers built (answer.Build r) good =
    not_good (is_good built (answer.Build r)) (kinds (λ b. is_good b (answer.Build r)) (λ x. refl) (λ x. refl) (λ x. refl) (λ x. refl) (λ x. refl) (λ x. refl) (λ x. refl) (λ x. refl) refl (λ n m. refl) refl built) good

module _ (before : List Call) (call : Call) (rest : List Call) (name : List ℕ) (come : HasCome name call) where
  abbrev Wanted : Type 0
  Wanted = (count : ℕ) × EndCommitted rest count

  abbrev made : List Call
  made = before ++ call ∷ rest

  none_made : made ≡ [] → Wanted
  none_made e = absurd (no_items before rest call e)

  apart : (m : Call) → m.0 ≡ event.Commit → call ≡ m → ⊥
  apart m e same = receives come.0 come.1 come.2 (sym (ap (λ (c : Call). c.0) come.4) ∙ ap (λ (c : Call). c.0) same ∙ e)
    where
      receives : (bytes : List ℕ) (private : Bool) (receipt : Brought) → event.Receive name bytes private receipt ≡ event.Commit → ⊥
      receives bytes private receipt e = cc

  by_halt : (h : Halt) → 200 ≡ (halted h).0 → Wanted
  by_halt halt.Stopped e = absurd (omega (arith, e))
  by_halt halt.Memory e = absurd (omega (arith, e))

  by_run : (message : List WireCard) (caps : Caps) (receipt : Brought) (reply : Reply) → IsRun message caps receipt made reply → 200 ≡ reply.0 → Wanted
  by_run message caps receipt reply (whole first build commit is go ev sent) ok =
      let last : event.Commit ≡ commit.0 =
      same_last (first_events message caps receipt) (asked first) _ event.Commit build.0 commit.0
      (ev ∙ ap asked is ∙ asked_append first (build ∷ commit ∷ [])) in
      let some = by_answers build.1 commit.1 (good_is build.1 commit.1 (ok ∙ ap (λ (r : Reply). r.0) sent)) in
      let ends = ends_with before call rest first build commit (apart commit (sym last)) is in
      (some.0, (ends.0, ends.1 ∙ ap (λ (c : Call). ends.0 ++ c ∷ []) (λ i. (sym last i, some.1 i))))
  by_run message caps receipt reply (early h phase sent) ok = by_halt h (ok ∙ ap (λ (r : Reply). r.0) sent)

  by_judged : (users : List User) (project : List ℕ) (message : List WireCard) (moment : Option ℕ) (reply : Reply) → IsJudged users project message moment made reply → 200 ≡ reply.0 → Wanted
  by_judged users project message moment reply (no_login fault g m e s) ok = none_made e
  by_judged users project message moment reply (not_allowed caps r g f m e s) ok = none_made e
  by_judged users project message moment reply (run caps now g f m is) ok = by_run message caps _ reply is ok
  by_judged users project message moment reply (judged_without m e s) ok = none_made e

  by_reply : (users : List User) (project : List ℕ) (request : Asked) (moment : Option ℕ) (reply : Reply) → IsReplied users project request moment made reply → 200 ≡ reply.0 → Wanted
  by_reply users project request moment reply (refused status r m e s) ok = none_made e
  by_reply users project request moment reply (malformed body fault r f m e s) ok = none_made e
  by_reply users project request moment reply (judged body message r f is) ok = by_judged users project message moment reply is ok
  by_reply users project request moment reply (replied_without body r m e s) ok = none_made e

pub commits_first : CommitsWhatItAnswers
commits_first users project request moment before call rest name reply is ok come = by_reply before call rest name come users project request moment reply is (sym ok)

-- ---- the calls of one crew in a history

module _ {E A : Type 0} where
  abbrev Split : ℕ → List (Entry E A) → List (E × A) → E × A → List (E × A) → Type 0
  Split n turns xs c later = (done more : List (Entry E A)) × (turns ≡ done ++ (n, c.0, c.1) ∷ more) × (calls_by n done ≡ xs) × (calls_by n more ≡ later)

  abbrev Splits : ℕ → List (Entry E A) → Type 0
  Splits n ts = (xs : List (E × A)) (c : E × A) (later : List (E × A)) → calls_by n ts ≡ xs ++ c ∷ later → Split n ts xs c later

  with_own : (n : ℕ) (t : Entry E A) (ts : List (Entry E A)) → (n == t.0) ≡ true → calls_by n (t ∷ ts) ≡ call_of t ∷ calls_by n ts
  with_own n t ts is = ap (λ (b : Bool). if b then call_of t ∷ calls_by n ts else calls_by n ts) is

  with_other : (n : ℕ) (t : Entry E A) (ts : List (Entry E A)) → (n == t.0) ≡ false → calls_by n (t ∷ ts) ≡ calls_by n ts
  with_other n t ts is = ap (λ (b : Bool). if b then call_of t ∷ calls_by n ts else calls_by n ts) is

  split_own : (n : ℕ) (t : Entry E A) (ts : List (Entry E A)) → Splits n ts → (n == t.0) ≡ true → Splits n (t ∷ ts)
  split_own n t ts next is [] c later e =
      let both : call_of t ∷ calls_by n ts ≡ c ∷ later = sym (with_own n t ts is) ∙ e in
      let one : call_of t ≡ c = heads (call_of t) c (calls_by n ts) later both in
      let same : n ≡ t.0 = eqb-true n t.0 is in
      ([], ts, (λ i. (sym same i, (one i).0, (one i).1) ∷ ts), refl, tails (call_of t) c (calls_by n ts) later both)
  split_own n t ts next is (x ∷ xs) c later e =
      let both : call_of t ∷ calls_by n ts ≡ x ∷ xs ++ c ∷ later = sym (with_own n t ts is) ∙ e in
      let rest = next xs c later (tails (call_of t) x (calls_by n ts) (xs ++ c ∷ later) both) in (
        t ∷ rest.0,
        rest.1,
        ap (λ (l : List (Entry E A)). t ∷ l) rest.2,
        with_own n t rest.0 is ∙ (λ i. heads (call_of t) x (calls_by n ts) (xs ++ c ∷ later) both i ∷ rest.3 i),
        rest.4,
      )

  split_other : (n : ℕ) (t : Entry E A) (ts : List (Entry E A)) → Splits n ts → (n == t.0) ≡ false → Splits n (t ∷ ts)
  split_other n t ts next is xs c later e =
      let rest = next xs c later (sym (with_other n t ts is) ∙ e) in
      (t ∷ rest.0, rest.1, ap (λ (l : List (Entry E A)). t ∷ l) rest.2, with_other n t rest.0 is ∙ rest.3, rest.4)

  split : (n : ℕ) (turns : List (Entry E A)) → Splits n turns
  split n [] = λ xs c later e. absurd (no_items xs later c (sym e))
  split n (t ∷ ts) =
      elim (n == t.0) as (λ b. (n == t.0) ≡ b → Splits n (t ∷ ts)) [ true ↦ split_own n t ts (split n ts) | false ↦ split_other n t ts (split n ts) ] refl

-- calls one after another, and where the first of them led
runs_split : {M E A : Type 0} (step : M → E → A → M → Type 0) (a c : M) (xs ys : List (E × A)) → Runs step a (xs ++ ys) c → (b : M) × Runs step a xs b × Runs step b ys c
runs_split step a c [] ys p = (a, refl, p)
runs_split step a c (x ∷ xs) ys p = let rest = runs_split step p.0 c xs ys p.2 in (rest.0, (p.0, p.1, rest.1), rest.2)

runs_on : {M E A : Type 0} (step : M → E → A → M → Type 0) (a b c : M) (xs ys : List (E × A)) → Runs step a xs b → Runs step b ys c → Runs step a (xs ++ ys) c
runs_on step a b c [] ys p q = subst (λ (s : _). Runs step s ys c) p q
runs_on step a b c (x ∷ xs) ys p q = (p.0, p.1, runs_on step p.0 b c xs ys p.2 q)

-- ---- a Blob among records

abbrev Has : List ℕ → List Record → Type 0
Has name records = IsTrue (list_any (is_blob_of name) records)

or_left : (a b : Bool) → a ≡ true → (a || b) ≡ true
or_left true b e = refl
or_left false b e = absurd (cc)

or_right : (a b : Bool) → b ≡ true → (a || b) ≡ true
or_right true b e = refl
or_right false b e = e

has_more : (name : List ℕ) (records more all : List Record) → all ≡ records ++ more → Has name records → Has name all
has_more name records more all is has =
    ap (list_any (is_blob_of name)) is ∙ list_any-append (is_blob_of name) records more ∙ or_left (list_any (is_blob_of name) records) (list_any (is_blob_of name) more) has

has_last : (name : List ℕ) (records : List Record) (private : Bool) (receipt : Option Brought) (bytes : List ℕ) → Has name (records ++ record_of.Blob private name receipt bytes ∷ [])
has_last name records private receipt bytes =
    list_any-append (is_blob_of name) records (record_of.Blob private name receipt bytes ∷ [])
    ∙ or_right (list_any (is_blob_of name) records) (bytes_eq name name || false) (or_left (bytes_eq name name) false ((bytes_eq-Decides name name).1 refl))

-- what is held came by a Blob
abbrev IsHeldIn : Contents → List ℕ → Type 0
IsHeldIn c q = is_some (map_of.get c.held q) ≡ true

added : (same new : Bool) (v : Held) (o : Option Held) → is_some (cond (same && new) (Some v) o) ≡ true → (same ≡ true) ⊎ (is_some o ≡ true)
added true new v o e = inl refl
added false new v o e = inr e

kept_shown : (name q : List ℕ) (o : Option Held) → is_some (option_map (shown name q) o) ≡ true → is_some o ≡ true
kept_shown name q None e = e
kept_shown name q (Some a) e = refl

kept_less : (b : Bool) (o : Option Held) → is_some (cond b None o) ≡ true → is_some o ≡ true
kept_less true o e = absurd (cc)
kept_less false o e = e

abbrev CameBy : Contents → Record → List ℕ → Type 0
CameBy c r q = (is_blob_of q r ≡ true) ⊎ IsHeldIn c q

came_by : (c : Contents) (r : Record) (q : List ℕ) → IsHeldIn (after c r) q → CameBy c r q
came_by c (record_of.Config config) q h = inr h
came_by c (record_of.Unshun name) q h = inr h
came_by c (record_of.Publish name) q h = inr (kept_shown name q (map_of.get c.held q) (sym (ap is_some (publish-get c name q)) ∙ h))
came_by c (record_of.Shun name) q h = inr (kept_less (is_same name q) (map_of.get c.held q) (sym (ap is_some (shun-get c name q)) ∙ h))
came_by c (record_of.Blob private name receipt bytes) q h =
    by_way (added (is_same name q) (is_new c name) (record { private = private; bytes = bytes }) (map_of.get c.held q) (sym (ap is_some (blob-get c name private receipt bytes q)) ∙ h))
  where
    by_way : (is_same name q ≡ true) ⊎ IsHeldIn c q → CameBy c (record_of.Blob private name receipt bytes) q
    by_way (inl same) = inl ((bytes_eq-Decides name q).1 (is_same-means name q same))
    by_way (inr held) = inr held

came_in : (records : List Record) (c : Contents) (q : List ℕ) → IsHeldIn (fold after c records) q → Has q records ⊎ IsHeldIn c q
came_in [] c q h = inr h
came_in (r ∷ rs) c q h = by_rest (came_in rs (after c r) q h)
  where
    by_first : CameBy c r q → Has q (r ∷ rs) ⊎ IsHeldIn c q
    by_first (inl one) = inl (or_left (is_blob_of q r) (list_any (is_blob_of q) rs) one)
    by_first (inr held) = inr held

    by_rest : Has q rs ⊎ IsHeldIn (after c r) q → Has q (r ∷ rs) ⊎ IsHeldIn c q
    by_rest (inl some) = inl (or_right (is_blob_of q r) (list_any (is_blob_of q) rs) some)
    by_rest (inr held) = by_first (came_by c r q held)

has_held : (records : List Record) (q : List ℕ) (a : Held) → map_of.get (fold after nothing records).held q ≡ Some a → Has q records
has_held records q a is = by (came_in records nothing q (ap is_some is))
  where
    by : Has q records ⊎ IsHeldIn nothing q → Has q records
    by (inl some) = some
    by (inr held) = absurd (none (sym (ap is_some (map_of.get-empty bytes_cmp q)) ∙ held))
      where
        none : false ≡ true → ⊥
        none e = cc

-- ---- an arrival

abbrev Told : Type 0
Told = Result Arrival ArriveFault

abbrev ok : Arrival → Told
ok a = Ok a

ok_is : (a b : Arrival) → ok a ≡ Ok b → a ≡ b
ok_is a b e = cc

no_fault : (a : Arrival) (e : ArriveFault) → ok a ≡ Err e → ⊥
no_fault a e h = cc

stored_only : (t : Bool) (a : Arrival) (e : ArriveFault) → ok a ≡ (if t then Err e else Ok arrival.Stored) → a ≡ arrival.Stored
stored_only true a e h = absurd (no_fault a e h)
stored_only false a e h = ok_is a arrival.Stored h

by_room : (c : Contents) (a : Arrival) → IsRoom c (Ok a) → a ≡ arrival.Stored
by_room c a (items, are, e) = stored_only _ a _ e

module _ (s : State) (name : List ℕ) (receipt : Option Brought) (bytes : List ℕ) (private : Bool) (a : Arrival) (not_shunned : a ≢ arrival.Shunned) where
  abbrev Due : Type 0
  Due = Has name (arrived s name receipt bytes private (Ok a)).records

  keeps : (a : Arrival) → Has name s.records → Has name (arrived s name receipt bytes private (Ok a)).records
  keeps arrival.Published has = has_more name s.records (record_of.Publish name ∷ []) (s.records ++ record_of.Publish name ∷ []) refl has
  keeps arrival.Stored has = has_more name s.records (record_of.Blob private name receipt bytes ∷ []) (s.records ++ record_of.Blob private name receipt bytes ∷ []) refl has
  keeps arrival.Shunned has = has
  keeps arrival.Present has = has

  by_held : (o : Option Held) → map_of.get (now s).held name ≡ o → MatchOption o (IsRoom (after (now s) (record_of.Blob private name None bytes)) (Ok a)) (λ held. ok a ≡ Ok (again held private)) → Due
  by_held None e k =
      subst (λ (x : Arrival). Has name (arrived s name receipt bytes private (Ok x)).records) (sym (by_room (after (now s) (record_of.Blob private name None bytes)) a k))
      (has_last name s.records private receipt bytes)
  by_held (Some held) e k = keeps a (has_held s.records name held e)

  by_shun : (t : Bool) → MatchBool t (ok a ≡ Ok arrival.Shunned) (MatchOption (map_of.get (now s).held name) (IsRoom (after (now s) (record_of.Blob private name None bytes)) (Ok a)) (λ held. ok a ≡ Ok (again held private))) → Due
  by_shun true k = absurd (not_shunned (ok_is a arrival.Shunned k))
  by_shun false k = by_held (map_of.get (now s).held name) refl k

  past_stopped : (o : Option ℕ) (P : Type 0) → MatchOption o P (λ faults. ok a ≡ Err (arrive_fault.Stopped faults)) → P
  past_stopped None P h = h
  past_stopped (Some faults) P h = absurd (no_fault a (arrive_fault.Stopped faults) h)

  past_size : (t : Bool) (e : ArriveFault) (P : Type 0) → MatchBool t (ok a ≡ Err e) P → P
  past_size true e P h = absurd (no_fault a e h)
  past_size false e P h = h

  past_name : (t : Bool) (e : ArriveFault) (P : Type 0) → MatchBool t P (ok a ≡ Err e) → P
  past_name true e P h = h
  past_name false e P h = absurd (no_fault a e h)

  arrives : IsArrival s name bytes private (Ok a) → Due
  arrives h =
      by_shun (set.contains (now s).shunned name)
      (past_name (bytes_eq (name_of bytes) name) _ (IsArrivalOf (now s) name bytes private (Ok a)) (past_size _ _ _ (past_stopped s.stopped _ h)))

  after_step : (new : State) → ArriveStep s name receipt bytes private (Ok a) new → Has name new.records
  after_step new (inl (due, is, leaves)) =
      subst (λ (r : List Record). Has name r) (sym (ap (λ (x : State). x.records) leaves.state ∙ ap (λ (x : State). x.records) is.1)) (arrives is.0)
  after_step new (inr (is, wants, leaves)) = absurd (no_fault a arrive_fault.Memory is)

-- ---- a commit

number_in : Result ℕ CommitFault → ℕ
number_in (Ok n) = n
number_in (Err e) = 0

commits_all : (stopped : Option ℕ) (old : State) (count : ℕ) (new : State) → IsCommit stopped old (Ok count) new → new ≡ record old { committed = length old.records }
commits_all (Some faults) old count new (is, leaves) = absurd (cc)
commits_all None old count new (inl (is, rose, leaves)) = absurd (cc)
commits_all None old count new (inr (is, same)) = same

all_front : (old new : State) → new ≡ record old { committed = length old.records } → front new ≡ old.records
all_front old new same = ap front same ∙ take_all (length old.records) old.records (omega arith)

-- ---- from that commit on

module _ {D : Type 0} (tells : D → DiskState) (only_now : (d : D) (c : List ℕ) → IsTrue (tells d).is_model → (tells d).since (tells d).moment c → (tells d).images c) where
  -- behind the call the records have a Blob of the name
  has_come : (a b : Whole D) (name : List ℕ) (call : Call) → HasCome name call → MayStep (tells a.disk) (tells b.disk) a call.0 call.1 b → Has name b.seen.state.records
  has_come a b name call (bytes, private, receipt, came, is, not_shunned) step =
      after_step a.seen.state name (Some receipt) bytes private came not_shunned b.seen.state (subst (λ (c : Call). Step a.seen.state c.0 c.1 b.seen.state) is step.step)

  -- and so have those that every crash leaves from a commit on
  stays : (c mid last : Whole D) (name : List ℕ) (count : ℕ) (calls : List Call) → Has name c.seen.state.records → IsModelled (tells c.disk)
      → MayStep (tells c.disk) (tells mid.disk) c event.Commit (answer.Commit (Ok count)) mid → Runs (steps_by tells) mid calls last
      → LeavesOnly (tells mid.disk) (tells last.disk) (HoldsBlobOf name)
  stays c mid last name count calls has m step runs =
      let fronts = all_front c.seen.state mid.seen.state (commits_all c.seen.state.stopped c.seen.state count mid.seen.state step.step) in
      weaker (tells mid.disk) (tells last.disk) (StandsBetween (front mid.seen.state) last.seen.state.records) (HoldsBlobOf name)
      (λ bytes s. (s.0, s.1, has_more name c.seen.state.records s.2.more.0 s.0 (s.2.more.1 ∙ ap (λ (l : List Record). l ++ s.2.more.0) fronts) has))
      (midst tells only_now mid last calls step.new_whole (still_modelled (tells c.disk) (tells mid.disk) step.keeps m) runs)

  pub answered_stays : AnsweredStays tells
  answered_stays first last turns n name before call rest later count is_whole m history by come (between, ends) =
      let entry : Entry Event Answer = commit_of n count in
      let commit : Call = (event.Commit, answer.Commit (Ok count)) in
      let done = split n turns (before ++ call ∷ between) commit later
      (by ∙ ap (λ (l : List Call). (before ++ call ∷ l) ++ later) ends ∙ regroup before call between commit later) in
      let here = split n done.0 before call between done.3 in
      let runs : Runs (steps_by tells) first (calls_in done.0 ++ commit ∷ calls_in done.1) last =
      subst (λ (l : List Call). Runs (steps_by tells) first l last) (ap calls_in done.2 ∙ map-append call_of done.0 (entry ∷ done.1)) history in
      let (c, to_c, (mid, step, more)) = runs_split (steps_by tells) first last (calls_in done.0) (commit ∷ calls_in done.1) runs in
      let before_c : Runs (steps_by tells) first (calls_in here.0 ++ (call.0, call.1) ∷ calls_in here.1) c =
      subst (λ (l : List Call). Runs (steps_by tells) first l c) (ap calls_in here.2 ∙ map-append call_of here.0 ((n, call.0, call.1) ∷ here.1)) to_c in
      let (a, to_a, (b, came, to_commit)) = runs_split (steps_by tells) first c (calls_in here.0) ((call.0, call.1) ∷ calls_in here.1) before_c in
      let later_c = on tells only_now b c (calls_in here.1) to_commit in
      let has = has_more name b.seen.state.records later_c.seen.more c.seen.state.records later_c.seen.records (has_come a b name call come came) in
      let model = still_modelled (tells first.disk) (tells c.disk) (on tells only_now first c (calls_in done.0) to_c).keeps m in
      record {
        done = done.0;
        more = done.1;
        mid = mid;
        parts = done.2 ∙ sym (append_assoc done.0 (entry ∷ []) done.1);
        own =
            calls_by-append n done.0 (entry ∷ []) ∙ ap (λ (l : List Call). calls_by n done.0 ++ l) (calls_by-own n event.Commit (answer.Commit (Ok count))) ∙ ap (λ (l : List Call). l ++ commit ∷ []) done.3
            ∙ append_assoc before (call ∷ between) (commit ∷ []) ∙ ap (λ (l : List Call). before ++ call ∷ l) (sym ends);
        to =
            subst (λ (l : List Call). Runs (steps_by tells) first l mid) (sym (map-append call_of done.0 (entry ∷ [])))
            (runs_on (steps_by tells) first c mid (calls_in done.0) (commit ∷ []) to_c (mid, step, refl));
        on = more;
        stays = stays c mid last name count (calls_in done.1) has model step more;
      }
