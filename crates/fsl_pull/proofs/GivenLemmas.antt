-- What a peer gives has its own name and is within the limit of an artifact, so that few faults come of it.
use Rattle.std.specs.Prelude.{◌≡◌, ℕ, ◌≤◌, ◌^◌, ◌&&◌, nat_lt, Bool, true, false, not, cond, IsTrue, List, [], ◌∷◌, length, fold, Option, Some, None, option_map, IfSome, Result, Ok, Err, MatchBool, MatchOption, if◌then◌else◌}
use Rattle.std.specs.List.{AllByRecursion, cons_option}
use Rattle.std.specs.Option.{option_map_or}
use Rattle.std.specs.Str.{bytes_eq}
use Rattle.std.specs.Cmp.Lexicographic.{bytes_decides}
use Rattle.std.specs.FinMap as map_of
use Rattle.std.specs.FinSet as set
use Rattle.std.proofs.Common.{refl, sym, ap, subst, ◌∙◌, inl, inr, arith}
use Rattle.std.proofs.lemmas.Bool.{le-ltb}
use Rattle.fsl_order.specs.Names.{bytes_cmp}
use Rattle.fsl_name.specs.Name.{name_of}
use Rattle.fsl_record.specs.declared.Record.{Record}
use Rattle.fsl_record.specs.declared.Record.TheVariants as record_of
use Rattle.fsl_record.specs.Records.{IsFit, AreRecords}
use Rattle.fsl_blobs.specs.Fold.{Held, HeldSet, Contents, contents, nothing, after, is_new}
use Rattle.fsl_blobs.specs.Held.{state_of}
use Rattle.fsl_blobs.specs.declared.BlobFault.{BlobFault}
use Rattle.fsl_blobs.specs.declared.BlobFault.TheVariants as blob_fault
use Rattle.fsl_blobs.specs.declared.BlobState.{BlobState}
use Rattle.fsl_blobs.specs.declared.BlobState.TheVariants as blob
use Rattle.fsl_blobs.specs.Kept.{is_same}
use Rattle.fsl_blobs.proofs.KeptLemmas.{shown, blob-get, publish-get, shun-get}
use Rattle.fsl_blobs.proofs.NamedHeld.{held_are_named}
use Rattle.fsl_repo.specs.declared.Arrival.{Arrival}
use Rattle.fsl_repo.specs.declared.Arrival.TheVariants as arrival
use Rattle.fsl_repo.specs.declared.ArriveFault.{ArriveFault}
use Rattle.fsl_repo.specs.declared.ArriveFault.TheVariants as arrive_fault
use Rattle.fsl_repo.specs.Contents.{IsContentNow, ContentFails}
use Rattle.fsl_repo.specs.Machine.{State, Leaves, now, again, IsRoom, IsArrivalOf, IsArrival}
use Rattle.fsl_repo.specs.Whole.{Whole, Seen}
use Rattle.fsl_disk.specs.Disk.{DiskState}
use Rattle.fsl_disk.proofs.Moments.{quiet_on}
use Rattle.fsl_pull.specs.Reading.{AreReadAs, CantRead, IsOnlyRead}
use Rattle.fsl_pull.specs.Reads.{IsGiven, IsPublicRead, FileFails, read_fault}
use Rattle.fsl_pull.specs.Pushes.{is_public}
use Rattle.fsl_pull.proofs.KeptLemmas.{itself_quiet}
use Rattle.fsl_pull.specs.declared.PullFault.{PullFault}
use Rattle.fsl_pull.specs.declared.PullFault.TheVariants as fault
use Rattle.fsl_pull.specs.Arrivals.{arrival_fault}
use Rattle.fsl_pull.specs.Taking.{IsArrived}
use Rattle.fsl_pull.specs.Calls.{IsLocalFault}

-- ---- held artifacts are within the limit

abbrev IsSmall : Option Held → Type 0
IsSmall o = IfSome o (λ a. length a.bytes ≤ 2 ^ 24)

abbrev AreSmall : HeldSet → Type 0
AreSmall held = (name : List ℕ) → IsSmall (map_of.get held name)

small_shown : (name q : List ℕ) (o : Option Held) → IsSmall o → IsSmall (option_map (shown name q) o)
small_shown name q None h = tt
small_shown name q (Some a) h = elim (is_same name q) as (λ b. length (if b then record a { private = false } else a).bytes ≤ 2 ^ 24) [ true ↦ h | false ↦ h ]

small_less : (b : Bool) (o : Option Held) → IsSmall o → IsSmall (cond b None o)
small_less true o h = tt
small_less false o h = h

small_more : (b : Bool) (a : Held) (o : Option Held) → length a.bytes ≤ 2 ^ 24 → IsSmall o → IsSmall (cond b (Some a) o)
small_more true a o small h = small
small_more false a o small h = h

small-after : (c : Contents) (r : Record) → IsFit r → AreSmall c.held → AreSmall (after c r).held
small-after c (record_of.Config config) fit h = h
small-after c (record_of.Blob private name receipt bytes) fit h = λ q.
    subst IsSmall (sym (blob-get c name private receipt bytes q)) (small_more (is_same name q && is_new c name) (record { private = private; bytes = bytes }) (map_of.get c.held q) fit.1.1 (h q))
small-after c (record_of.Publish name) fit h = λ q. subst IsSmall (sym (publish-get c name q)) (small_shown name q (map_of.get c.held q) (h q))
small-after c (record_of.Shun name) fit h = λ q. subst IsSmall (sym (shun-get c name q)) (small_less (is_same name q) (map_of.get c.held q) (h q))
small-after c (record_of.Unshun name) fit h = h

small-fold : (records : List Record) (c : Contents) → AllByRecursion IsFit records → AreSmall c.held → AreSmall (fold after c records).held
small-fold [] c fit h = h
small-fold (r ∷ records) c fit h = small-fold records (after c r) fit.1 (small-after c r fit.0 h)

held_are_small : (records : List Record) → AllByRecursion IsFit records → AreSmall (contents records).held
held_are_small records fit = small-fold records nothing fit (λ q. subst IsSmall (sym (map_of.get-empty bytes_cmp q)) tt)

-- ---- what is given

are_fit : (records : List Record) → AreRecords records → AllByRecursion IsFit records
are_fit [] h = absurd h
are_fit (r ∷ records) h = h.2

abbrev some_bytes : List ℕ → Option (List ℕ)
some_bytes b = Some b

abbrev told_by : Option Held → Bool → BlobState
told_by o shunned = option_map_or (λ a. if a.private then blob.Private (length a.bytes) else blob.Public (length a.bytes)) o (if shunned then blob.Shunned else blob.Absent)

abbrev File : Type 0
File = List ℕ × List ℕ

abbrev file_by : List ℕ → Option Held → Option File
file_by name o = option_map {U = File} (λ bytes. (name, bytes)) (option_map_or (λ a. if a.private then None else Some a.bytes) o None)

not_public : (n m : ℕ) → blob.Private n ≡ blob.Public m → ⊥
not_public n m e = cc

shunned_not : (shunned : Bool) (m : ℕ) → (if shunned then blob.Shunned else blob.Absent) ≡ blob.Public m → ⊥
shunned_not true m e = cc
shunned_not false m e = cc

-- a name that isn't held as public has no file
none_by : (name : List ℕ) (shunned : Bool) (o : Option Held) → ((size : ℕ) → told_by o shunned ≡ blob.Public size → ⊥) → file_by name o ≡ None
none_by name shunned None h = refl
none_by name shunned (Some a) h = by a.private h
  where
    by : (b : Bool) → ((size : ℕ) → (if b then blob.Private (length a.bytes) else blob.Public (length a.bytes)) ≡ blob.Public size → ⊥) → option_map {U = File} (λ bytes. (name, bytes)) (if b then None else Some a.bytes) ≡ None
    by true k = refl
    by false k = absurd (k (length a.bytes) refl)

-- and one that is has that of its bytes
some_by : (name : List ℕ) (shunned : Bool) (o : Option Held) (a : Held) (size : ℕ) → o ≡ Some a → told_by o shunned ≡ blob.Public size → file_by name o ≡ Some (name, a.bytes)
some_by name shunned o a size e is = ap (file_by name) e ∙ by a.private (sym (ap (λ (x : Option Held). told_by x shunned) e) ∙ is)
  where
    by : (b : Bool) → (if b then blob.Private (length a.bytes) else blob.Public (length a.bytes)) ≡ blob.Public size → option_map {U = File} (λ bytes. (name, bytes)) (if b then None else Some a.bytes) ≡ Some (name, a.bytes)
    by true k = absurd (not_public (length a.bytes) size k)
    by false k = refl

public_by : (shunned : Bool) (o : Option Held) (size : ℕ) → told_by o shunned ≡ blob.Public size → option_map_or (λ a. not a.private) o false ≡ true
public_by shunned None size is = absurd (shunned_not shunned size is)
public_by shunned (Some a) size is = by a.private is
  where
    by : (b : Bool) → (if b then blob.Private (length a.bytes) else blob.Public (length a.bytes)) ≡ blob.Public size → not b ≡ true
    by true k = absurd (not_public (length a.bytes) size k)
    by false k = refl

pub is_public_by : (c : Contents) (name : List ℕ) (size : ℕ) → state_of c name ≡ blob.Public size → IsTrue (is_public c name)
is_public_by c name size is = public_by (set.contains c.shunned name) (map_of.get c.held name) size is

abbrev Zipped : Bool → Option (List ℕ × List ℕ) → List (List ℕ × List ℕ) → Type 0
Zipped honest o files = AreReadAs honest (cons_option o []) files

pub unread_public : (s : State) (name : List ℕ) → ((size : ℕ) → state_of (now s) name ≡ blob.Public size → ⊥) → IsPublicRead s name None
unread_public s name h =
    record {
      read = subst (λ (o : Option (List ℕ × List ℕ)). Zipped s.honest o []) (sym (none_by name (set.contains (now s).shunned name) (map_of.get (now s).held name) h)) tt;
      fits = tt;
    }

abbrev named_of : List ℕ → Option Held → Type 0
named_of name o = IfSome o (λ a. name ≡ name_of a.bytes)

pub read_as_public : (s : State) (name text : List ℕ) (size : ℕ) → AreRecords s.records → state_of (now s) name ≡ blob.Public size → IsContentNow s name text → IsPublicRead s name (Some text)
read_as_public s name text size are is content =
    let fit = are_fit s.records are in
    let a = content.artifact in
    let named : name ≡ name_of a.bytes = subst (named_of name) content.held (held_are_named s.records fit name) in
    let small : length a.bytes ≤ 2 ^ 24 = subst IsSmall content.held (held_are_small s.records fit name) in
    record {
      read =
          subst (λ (o : Option (List ℕ × List ℕ)). Zipped s.honest o ((name, text) ∷ [])) (sym (some_by name (set.contains (now s).shunned name) (map_of.get (now s).held name) a size content.held is))
          (record { alike = refl; named = content.named ∙ named; sized = content.sized; same = content.same }, tt);
      fits = record { named = sym content.named; small = omega (arith, content.sized, small) };
    }

-- a content that isn't given
same_state : (s new : State) → Leaves s s new → new.faults ≡ s.faults → new ≡ s
same_state s new leaves same = leaves.state ∙ (λ i. record s { faults = same i })

pub read_fails : (s new : State) (name : List ℕ) (size : ℕ) (f : BlobFault) → state_of (now s) name ≡ blob.Public size → ContentFails f s name new → Leaves s s new → FileFails (read_fault name f) s name new
read_fails s new name size blob_fault.Absent is h leaves = inl (refl, same_state s new leaves h.1)
read_fails s new name size blob_fault.Disk is h leaves = inr (is_public_by (now s) name size is, (h, leaves))
read_fails s new name size (blob_fault.Damaged found) is h leaves = inr (is_public_by (now s) name size is, (refl, h.0, same_state s new leaves h.1))
read_fails s new name size blob_fault.Memory is h leaves = inl (refl, same_state s new leaves h)

-- nothing was read
pub only_read_none : {D : Type 0} (disk : D → DiskState) (r : Whole D) → IsOnlyRead disk r r
only_read_none disk r = record { state = record { state = refl; faults = omega arith }; items = refl; loaded = refl; log = refl; quiet = itself_quiet (disk r.disk) }

pub only_read_on : {D : Type 0} (disk : D → DiskState) (a b c : Whole D) → IsOnlyRead disk a b → IsOnlyRead disk b c → IsOnlyRead disk a c
only_read_on disk a b c h k =
    record {
      state = record {
        state = (k.state).state ∙ (λ i. record ((h.state).state i) { faults = c.seen.state.faults });
        faults = omega (arith, (h.state).faults, (k.state).faults);
      };
      items = k.items ∙ h.items;
      loaded = k.loaded ∙ h.loaded;
      log = k.log ∙ h.log;
      quiet = quiet_on (disk a.disk) (disk b.disk) (disk c.disk) h.quiet k.quiet;
    }

-- ---- the faults of its arrival

abbrev Fails : List ℕ → ArriveFault → Type 0
Fails name e = IsLocalFault (arrival_fault name e)

abbrev err_of : ArriveFault → Result Arrival ArriveFault
err_of e = Err e

err_is : (a b : ArriveFault) → err_of a ≡ err_of b → a ≡ b
err_is a b h = cc

not_ok : (e : ArriveFault) (a : Arrival) → err_of e ≡ Ok a → ⊥
not_ok e a h = cc

by_fault : (name : List ℕ) (e f : ArriveFault) → err_of e ≡ Err f → Fails name f → Fails name e
by_fault name e f is h = subst (Fails name) (sym (err_is e f is)) h

by_limits : (t : Bool) (bytes count missed : ℕ) (name : List ℕ) (e : ArriveFault) → err_of e ≡ (if t then Err (arrive_fault.Full bytes count missed) else Ok arrival.Stored) → Fails name e
by_limits true bytes count missed name e is = by_fault name e (arrive_fault.Full bytes count missed) is tt
by_limits false bytes count missed name e is = absurd (not_ok e arrival.Stored is)

by_room : (c : Contents) (name : List ℕ) (e : ArriveFault) → IsRoom c (Err e) → Fails name e
by_room c name e (items, are, is) = by_limits _ _ _ _ name e is

by_again : (o : Option Held) (c : Contents) (name : List ℕ) (e : ArriveFault) → MatchOption o (IsRoom c (Err e)) (λ held. err_of e ≡ Ok (again held false)) → Fails name e
by_again None c name e h = by_room c name e h
by_again (Some held) c name e h = absurd (not_ok e (again held false) h)

by_shun : (t : Bool) (o : Option Held) (c : Contents) (name : List ℕ) (e : ArriveFault) → MatchBool t (err_of e ≡ Ok arrival.Shunned) (MatchOption o (IsRoom c (Err e)) (λ held. err_of e ≡ Ok (again held false))) → Fails name e
by_shun true o c name e h = absurd (not_ok e arrival.Shunned h)
by_shun false o c name e h = by_again o c name e h

when_true : (t : Bool) (P Q : Type 0) → t ≡ true → MatchBool t P Q → P
when_true true P Q is h = h
when_true false P Q is h = absurd (no is)
  where
    no : false ≡ true → ⊥
    no e = cc

when_false : (t : Bool) (P Q : Type 0) → t ≡ false → MatchBool t P Q → Q
when_false false P Q is h = h
when_false true P Q is h = absurd (no is)
  where
    no : true ≡ false → ⊥
    no e = cc

pub given_fails : (s : State) (name bytes : List ℕ) (e : ArriveFault) → IsGiven name bytes → IsArrival s name bytes false (Err e) → IsLocalFault (arrival_fault name e)
given_fails s name bytes e given h = by_stop s.stopped h
  where
    of_named : IsArrivalOf (now s) name bytes false (Err e) → Fails name e
    of_named k = by_shun (set.contains (now s).shunned name) (map_of.get (now s).held name) (after (now s) (record_of.Blob false name None bytes)) name e k

    by_name : MatchBool (bytes_eq (name_of bytes) name) (IsArrivalOf (now s) name bytes false (Err e)) (err_of e ≡ Err (arrive_fault.NameWrong (name_of bytes))) → Fails name e
    by_name k =
        of_named (when_true (bytes_eq (name_of bytes) name) (IsArrivalOf (now s) name bytes false (Err e)) (err_of e ≡ Err (arrive_fault.NameWrong (name_of bytes))) ((bytes_decides (name_of bytes) name).1 (sym given.named)) k)

    by_stop : (o : Option ℕ)
        → MatchOption o
        (MatchBool (nat_lt (2 ^ 24) (length bytes)) (err_of e ≡ Err (arrive_fault.TooLarge (length bytes)))
        (MatchBool (bytes_eq (name_of bytes) name) (IsArrivalOf (now s) name bytes false (Err e)) (err_of e ≡ Err (arrive_fault.NameWrong (name_of bytes)))))
        (λ faults. err_of e ≡ Err (arrive_fault.Stopped faults)) → Fails name e
    by_stop None k =
        by_name (when_false (nat_lt (2 ^ 24) (length bytes)) (err_of e ≡ Err (arrive_fault.TooLarge (length bytes)))
        (MatchBool (bytes_eq (name_of bytes) name) (IsArrivalOf (now s) name bytes false (Err e)) (err_of e ≡ Err (arrive_fault.NameWrong (name_of bytes))))
        (le-ltb (2 ^ 24) (length bytes) given.small) k)
    by_stop (Some faults) k = by_fault name e (arrive_fault.Stopped faults) k tt

pub given_refused : (old new : Seen) (name bytes : List ℕ) (e : ArriveFault) → IsGiven name bytes → IsArrived old name bytes (Err e) new → IsLocalFault (arrival_fault name e)
given_refused old new name bytes e given (loaded, inl (is, state)) = given_fails old.state name bytes e given is
given_refused old new name bytes e given (loaded, inr (is, state)) = by_fault name e arrive_fault.Memory is tt

-- a file that isn't read is no fault of another repository's
pub failed_is_local : (why : PullFault) (s : State) (name : List ℕ) (left : State) → FileFails why s name left → IsLocalFault why
failed_is_local why s name left (inl h) = subst IsLocalFault (sym h.0) tt
failed_is_local why s name left (inr h) = by why h.1
  where
    by : (w : PullFault) → CantRead w s name left → IsLocalFault w
    by fault.Disk cant = tt
    by (fault.Damaged other found) cant = tt
    by (fault.NotEmpty len) cant = absurd cant
    by (fault.NotRepository at) cant = absurd cant
    by (fault.Project found) cant = absurd cant
    by (fault.Stopped faults) cant = absurd cant
    by fault.Link cant = absurd cant
    by (fault.Peer w) cant = absurd cant
    by (fault.TooLarge other size) cant = absurd cant
    by (fault.Full other) cant = absurd cant
    by (fault.Missing other) cant = absurd cant
    by fault.Rounds cant = absurd cant
    by fault.Memory cant = absurd cant
