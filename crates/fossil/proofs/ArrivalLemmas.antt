-- Files that arrive one after another.
use Rattle.std.proofs.Common.{◌≡◌, inl, inr, ℕ, ◌^◌, Bool, true, false, List, [], ◌∷◌, ◌++◌, length, drop, Option, Some, None, Result, Ok, Err, refl, sym, ap, subst, ◌∙◌, append_assoc}
use Rattle.std.specs.Prelude.{nat_lt, if◌then◌else◌, MatchBool, MatchOption}
use Rattle.std.specs.Str.{bytes_eq}
use Rattle.std.specs.FinMap as map_of
use Rattle.std.specs.FinSet as set
use Rattle.std.proofs.lemmas.List.{append-nil, drop_at}
use Rattle.fsl_name.specs.Name.{name_of}
use Rattle.fsl_record.specs.Receipts.{Brought}
use Rattle.fsl_record.specs.declared.Record.{Record}
use Rattle.fsl_record.specs.declared.Record.TheVariants as record_of
use Rattle.fsl_blobs.specs.Fold.{Held, Contents, contents, after}
use Rattle.fsl_repo.specs.declared.Arrival.{Arrival}
use Rattle.fsl_repo.specs.declared.Arrival.TheVariants as arrival
use Rattle.fsl_repo.specs.declared.ArriveFault.{ArriveFault}
use Rattle.fsl_repo.specs.declared.ArriveFault.TheVariants as arrive_fault
use Rattle.fsl_repo.specs.Machine.{State, IsRoom, IsArrival, IsArrivalOf, again, arrived, ArriveStep}
use Rattle.fsl_repo.specs.Whole.{opened}
use Rattle.fossil.specs.declared.reading.message.MessageFile.{MessageFile}
use Rattle.fossil.specs.Printed.{Printed, name_line, too_large, wrong, full}
use Rattle.fossil.specs.Arrivals.{Taken, none_taken, arrival_word, refusal_of, and_taken, Arrive}
use Rattle.fossil.specs.Taking.{AreAllTaken, HasCome}
use Rattle.fsl_repo.proofs.OneArrival.{one_arrival}
use Rattle.fsl_repo.proofs.SomeArrival.{some_arrival}

abbrev Told : Type 0
Told = Result Arrival ArriveFault

abbrev failed : ArriveFault → Told
failed fault = Err fault

abbrev refused_with : Printed → Result Taken Printed
refused_with refusal = Err refusal

-- ---- one arrival

-- the answer is that of the state, which is then the one that is due
pub is_arrival : (receipt : Option Brought) (s new : State) (name bytes : List ℕ) (private : Bool) (r : Told) → ArriveStep s name receipt bytes private r new → (r ≡ Err arrive_fault.Memory → ⊥)
    → IsArrival s name bytes private r × (new ≡ record (arrived s name receipt bytes private r) { faults = new.faults })
is_arrival receipt s new name bytes private r (inl due) other = (due.1.0, due.2.state ∙ ap (λ (d : State). record d { faults = new.faults }) due.1.1)
is_arrival receipt s new name bytes private r (inr want) other = absurd (other want.0)

-- whether an arrival gets this answer, by what it looks at
abbrev ArrivalBy : Option ℕ → List Record → List ℕ → List ℕ → Bool → Told → Type 0
ArrivalBy stopped records name bytes private result =
    MatchOption stopped
    (MatchBool (nat_lt (2 ^ 24) (length bytes)) (result ≡ Err (arrive_fault.TooLarge (length bytes)))
    (MatchBool (bytes_eq (name_of bytes) name) (IsArrivalOf (contents records) name bytes private result) (result ≡ Err (arrive_fault.NameWrong (name_of bytes)))))
    (λ faults. result ≡ Err (arrive_fault.Stopped faults))

no_room : (n b c w : ℕ) (t : Bool) (stopped : Told) → stopped ≡ Err (arrive_fault.Stopped n) → stopped ≡ (if t then Err (arrive_fault.Full b c w) else Ok arrival.Stored) → ⊥
no_room n b c w true stopped is h = cc
no_room n b c w false stopped is h = cc

not_stopped_room : (n : ℕ) (c : Contents) → IsRoom c (Err (arrive_fault.Stopped n)) → ⊥
not_stopped_room n c (items, are, is) = no_room n _ _ _ _ (Err (arrive_fault.Stopped n)) refl is

by_parts : (n size : ℕ) (found : List ℕ) (c : Contents) (private large same shunned : Bool) (held : Option Held) (r : Told) → r ≡ Err (arrive_fault.Stopped n)
    → MatchBool large (r ≡ Err (arrive_fault.TooLarge size))
    (MatchBool same (MatchBool shunned (r ≡ Ok arrival.Shunned) (MatchOption held (IsRoom c r) (λ a. r ≡ Ok (again a private)))) (r ≡ Err (arrive_fault.NameWrong found))) → ⊥
by_parts n size found c private true same shunned held r is h = cc
by_parts n size found c private false false shunned held r is h = cc
by_parts n size found c private false true true held r is h = cc
by_parts n size found c private false true false None r is h = not_stopped_room n c (subst (IsRoom c) is h)
by_parts n size found c private false true false (Some a) r is h = cc

-- where none is stopped, none is told so
pub never_stopped : (s : State) (name bytes : List ℕ) (private : Bool) (n : ℕ) → s.stopped ≡ None → IsArrival s name bytes private (Err (arrive_fault.Stopped n)) → ⊥
never_stopped s name bytes private n runs is =
    let c = contents s.records in
    by_parts n (length bytes) (name_of bytes) (after c (record_of.Blob private name None bytes)) private (nat_lt (2 ^ 24) (length bytes)) (bytes_eq (name_of bytes) name) (set.contains c.shunned name) (map_of.get c.held name)
    (Err (arrive_fault.Stopped n)) refl (subst (λ (o : Option ℕ). ArrivalBy o s.records name bytes private (Err (arrive_fault.Stopped n))) runs is)

-- of a repository that runs, no fault is that of one that is stopped
pub not_stopped : (receipt : Option Brought) (s new : State) (f : MessageFile) (fault : ArriveFault) → s.stopped ≡ None → ArriveStep s f.name receipt f.bytes f.private (Err fault) new → (n : ℕ) → fault ≡ arrive_fault.Stopped n → ⊥
not_stopped receipt s new f fault runs step n same =
    let stopped : ArriveStep s f.name receipt f.bytes f.private (Err (arrive_fault.Stopped n)) new = subst (λ (x : ArriveFault). ArriveStep s f.name receipt f.bytes f.private (Err x) new) same step in
    never_stopped s f.name f.bytes f.private n runs (is_arrival receipt s new f.name f.bytes f.private (Err (arrive_fault.Stopped n)) stopped (λ e. cc)).0

-- ---- two states that answer alike

-- they run, and have the same records
pub record AreAlike (a b : State) : Type 0 where
  pub records : a.records ≡ b.records
  pub runs : a.stopped ≡ None
  pub also : b.stopped ≡ None

pub arrives_alike : (a b : State) (name bytes : List ℕ) (private : Bool) (r : Told) → AreAlike a b → IsArrival a name bytes private r → IsArrival b name bytes private r
arrives_alike a b name bytes private r alike is =
    subst (λ (o : Option ℕ). ArrivalBy o b.records name bytes private r) (alike.runs ∙ sym alike.also)
    (subst (λ (rs : List Record). ArrivalBy a.stopped rs name bytes private r) alike.records is)

arrived_alike : (receipt : Option Brought) (a b : State) (name bytes : List ℕ) (private : Bool) (r : Told) → AreAlike a b → AreAlike (arrived a name receipt bytes private r) (arrived b name receipt bytes private r)
arrived_alike receipt a b name bytes private (Ok arrival.Shunned) alike = alike
arrived_alike receipt a b name bytes private (Ok arrival.Present) alike = alike
arrived_alike receipt a b name bytes private (Ok arrival.Published) alike =
    record { records = ap (λ (rs : List Record). rs ++ record_of.Publish name ∷ []) alike.records; runs = alike.runs; also = alike.also }
arrived_alike receipt a b name bytes private (Ok arrival.Stored) alike =
    record { records = ap (λ (rs : List Record). rs ++ record_of.Blob private name receipt bytes ∷ []) alike.records; runs = alike.runs; also = alike.also }
arrived_alike receipt a b name bytes private (Err fault) alike = alike

-- what an arrival appends
more_of : (receipt : Option Brought) (s : State) (name bytes : List ℕ) (private : Bool) (r : Told) → (more : List Record) × ((arrived s name receipt bytes private r).records ≡ s.records ++ more)
more_of receipt s name bytes private (Ok arrival.Shunned) = ([], sym (append-nil s.records))
more_of receipt s name bytes private (Ok arrival.Present) = ([], sym (append-nil s.records))
more_of receipt s name bytes private (Ok arrival.Published) = (record_of.Publish name ∷ [], refl)
more_of receipt s name bytes private (Ok arrival.Stored) = (record_of.Blob private name receipt bytes ∷ [], refl)
more_of receipt s name bytes private (Err fault) = ([], sym (append-nil s.records))

committed_same : (receipt : Option Brought) (s : State) (name bytes : List ℕ) (private : Bool) (r : Told) → (arrived s name receipt bytes private r).committed ≡ s.committed
committed_same receipt s name bytes private (Ok arrival.Shunned) = refl
committed_same receipt s name bytes private (Ok arrival.Present) = refl
committed_same receipt s name bytes private (Ok arrival.Published) = refl
committed_same receipt s name bytes private (Ok arrival.Stored) = refl
committed_same receipt s name bytes private (Err fault) = refl

-- ---- the files that are left

-- what the files that are left come to, behind those that were taken, all come to
abbrev pub GoesOn : Option Brought → Taken → List MessageFile → Taken → List MessageFile → Type 0
GoesOn receipt start all t left = (result : Result Taken Printed) → Arrive receipt t left result → Arrive receipt start all result

pub one_more : (receipt : Option Brought) (start t : Taken) (all left rest : List MessageFile) (f : MessageFile) (a : Arrival) → GoesOn receipt start all t left → left ≡ f ∷ rest → IsArrival t.state f.name f.bytes f.private (Ok a) → GoesOn receipt start all (and_taken receipt t f (Ok a)) rest
one_more receipt start t all left rest f a so_far split is = λ result h. so_far result (subst (λ (fs : List MessageFile). Arrive receipt t fs result) (sym split) (Ok a, is, h))

pub refused_here : (receipt : Option Brought) (start t : Taken) (all left rest : List MessageFile) (f : MessageFile) (fault : ArriveFault) (refusal : Printed) → GoesOn receipt start all t left → left ≡ f ∷ rest → IsArrival t.state f.name f.bytes f.private (Err fault)
    → refusal_of f.name (Err fault) ≡ Some refusal → Arrive receipt start all (Err refusal)
refused_here receipt start t all left rest f fault refusal so_far split is refuses =
    so_far (Err refusal)
    (subst (λ (fs : List MessageFile). Arrive receipt t fs (Err refusal)) (sym split)
    (Err fault, is, subst (λ (o : Option Printed). MatchOption o (Arrive receipt (and_taken receipt t f (Err fault)) rest (Err refusal)) (λ r. refused_with refusal ≡ Err r)) (sym refuses) refl))

pub none_left : (receipt : Option Brought) (start t : Taken) (all left : List MessageFile) → GoesOn receipt start all t left → left ≡ [] → Arrive receipt start all (Ok t)
none_left receipt start t all left so_far none = so_far (Ok t) (subst (λ (fs : List MessageFile). Arrive receipt t fs (Ok t)) (sym none) refl)

-- ---- in a repository

-- files were taken, and these are left of all
pub record AreTaken (receipt : Brought) (old : State) (all left : List MessageFile) (s : State) (lines : List ℕ) : Type 0 where
  pub taken : Taken
  pub goes_on : GoesOn (Some receipt) (none_taken (opened old.records 0 true)) all taken left
  pub alike : AreAlike s taken.state
  pub printed : lines ≡ taken.text
  pub committed : s.committed ≡ old.committed
  pub more : List Record
  pub records : s.records ≡ old.records ++ more

pub before_all : (receipt : Brought) (old : State) (all : List MessageFile) (lines : List ℕ) → old.stopped ≡ None → lines ≡ [] → AreTaken receipt old all all old lines
before_all receipt old all lines runs none = record {
  taken = none_taken (opened old.records 0 true);
  goes_on = λ result h. h;
  alike = record { records = refl; runs = runs; also = refl };
  printed = none;
  committed = refl;
  more = [];
  records = sym (append-nil old.records);
}

module _ (receipt : Brought) (old s new : State) (all left rest : List MessageFile) (lines : List ℕ) (f : MessageFile) (are : AreTaken receipt old all left s lines) (split : left ≡ f ∷ rest) where
  taken_more : (a : Arrival) (next : List ℕ) → ArriveStep s f.name (Some receipt) f.bytes f.private (Ok a) new → next ≡ lines ++ name_line (arrival_word a) f.name → AreTaken receipt old all rest new next
  taken_more a next step grown =
      let is = is_arrival (Some receipt) s new f.name f.bytes f.private (Ok a) step (λ e. cc) in
      let both = arrived_alike (Some receipt) s are.taken.state f.name f.bytes f.private (Ok a) are.alike in
      let more = more_of (Some receipt) s f.name f.bytes f.private (Ok a) in
      let records : new.records ≡ (arrived s f.name (Some receipt) f.bytes f.private (Ok a)).records = ap (λ (x : State). x.records) is.1 in
      record {
        taken = and_taken (Some receipt) are.taken f (Ok a);
        goes_on = one_more (Some receipt) (none_taken (opened old.records 0 true)) are.taken all left rest f a are.goes_on split (arrives_alike s are.taken.state f.name f.bytes f.private (Ok a) are.alike is.0);
        alike = record { records = records ∙ both.records; runs = ap (λ (x : State). x.stopped) is.1 ∙ both.runs; also = both.also };
        printed = grown ∙ ap (λ (t : List ℕ). t ++ name_line (arrival_word a) f.name) are.printed;
        committed = ap (λ (x : State). x.committed) is.1 ∙ committed_same (Some receipt) s f.name f.bytes f.private (Ok a) ∙ are.committed;
        more = are.more ++ more.0;
        records = records ∙ more.1 ∙ ap (λ (rs : List Record). rs ++ more.0) are.records ∙ append_assoc old.records are.more more.0;
      }

  taken_refused : (fault : ArriveFault) (refusal : Printed) → ArriveStep s f.name (Some receipt) f.bytes f.private (Err fault) new → refusal_of f.name (Err fault) ≡ Some refusal → Arrive (Some receipt) (none_taken (opened old.records 0 true)) all (Err refusal)
  taken_refused fault refusal step refuses =
      let other : failed fault ≡ Err arrive_fault.Memory → ⊥ = (λ e. let same : refusal_of f.name (Err arrive_fault.Memory) ≡ Some refusal = subst (λ (r : Told). refusal_of f.name r ≡ Some refusal) e refuses in cc) in
      refused_here (Some receipt) (none_taken (opened old.records 0 true)) are.taken all left rest f fault refusal are.goes_on split
      (arrives_alike s are.taken.state f.name f.bytes f.private (Err fault) are.alike (is_arrival (Some receipt) s new f.name f.bytes f.private (Err fault) step other).0) refuses

  -- the file came to this: it is taken too, or it refuses all
  module _ (next : List ℕ) (r : Option Printed) (come : HasCome receipt f (s, new) (lines, next) r) where
    pub one_taken : r ≡ None → AreTaken receipt old all rest new next
    one_taken none = let h : HasCome receipt f (s, new) (lines, next) None = subst (HasCome receipt f (s, new) (lines, next)) none come in taken_more h.0 next h.1 h.2

    pub one_refused : (refusal : Printed) → r ≡ Some refusal → Arrive (Some receipt) (none_taken (opened old.records 0 true)) all (Err refusal)
    one_refused refusal some = let h : HasCome receipt f (s, new) (lines, next) (Some refusal) = subst (HasCome receipt f (s, new) (lines, next)) some come in taken_refused h.0 refusal h.1 h.2

pub all_taken : (receipt : Brought) (old s : State) (all left : List MessageFile) (lines : List ℕ) → AreTaken receipt old all left s lines → left ≡ [] → AreAllTaken receipt all old s lines
all_taken receipt old s all left lines are none = record {
  taken = are.taken;
  arrive = none_left (Some receipt) (none_taken (opened old.records 0 true)) are.taken all left are.goes_on none;
  printed = are.printed;
  records =
      are.records
      ∙ ap (λ (rs : List Record). old.records ++ rs) (sym (ap (drop (length old.records)) (sym are.alike.records ∙ are.records) ∙ drop_at old.records are.more (length old.records) refl));
  committed = are.committed;
  runs = are.alike.runs;
}

-- ---- laws

pub one_arrive : (receipt : Option Brought) (files : List MessageFile) (t : Taken) (a b : Result Taken Printed) → Arrive receipt t files a → Arrive receipt t files b → a ≡ b
one_arrive receipt [] t a b h k = h ∙ sym k
one_arrive receipt (f ∷ files) t a b h k =
    by_refusal (refusal_of f.name k.0)
    (subst (λ (r : Told). MatchOption (refusal_of f.name r) (Arrive receipt (and_taken receipt t f r) files a) (λ refusal. a ≡ Err refusal)) (one_arrival t.state f.name f.bytes f.private h.0 k.0 h.1 k.1) h.2) k.2
    (one_arrive receipt files (and_taken receipt t f k.0) a b)
  where
    by_refusal : (o : Option Printed) → MatchOption o (Arrive receipt (and_taken receipt t f k.0) files a) (λ refusal. a ≡ Err refusal) → MatchOption o (Arrive receipt (and_taken receipt t f k.0) files b) (λ refusal. b ≡ Err refusal)
        → (Arrive receipt (and_taken receipt t f k.0) files a → Arrive receipt (and_taken receipt t f k.0) files b → a ≡ b) → a ≡ b
    by_refusal None h k more = more h k
    by_refusal (Some r) h k more = h ∙ sym k

pub some_arrive : (receipt : Option Brought) (files : List MessageFile) (t : Taken) → (result : Result Taken Printed) × Arrive receipt t files result
some_arrive receipt [] t = (Ok t, refl)
some_arrive receipt (f ∷ files) t =
    let r = some_arrival t.state f.name f.bytes f.private in
    by_refusal r.0 r.1 (refusal_of f.name r.0) refl (some_arrive receipt files (and_taken receipt t f r.0))
  where
    by_refusal : (r : Told) → IsArrival t.state f.name f.bytes f.private r → (o : Option Printed) → refusal_of f.name r ≡ o → (x : Result Taken Printed) × Arrive receipt (and_taken receipt t f r) files x
        → (x : Result Taken Printed) × Arrive receipt t (f ∷ files) x
    by_refusal r is None e rest =
        (rest.0, (r, is, subst (λ (o : Option Printed). MatchOption o (Arrive receipt (and_taken receipt t f r) files rest.0) (λ refusal. rest.0 ≡ Err refusal)) (sym e) rest.1))
    by_refusal r is (Some refusal) e rest =
        let x : Result Taken Printed = Err refusal in
        (x, (r, is, subst (λ (o : Option Printed). MatchOption o (Arrive receipt (and_taken receipt t f r) files x) (λ refused. x ≡ Err refused)) (sym e) refl))

-- a refusal has status 3
refusal_status : (name : List ℕ) (r : Told) (refusal : Printed) → refusal_of name r ≡ Some refusal → refusal.status ≡ 3
refusal_status name (Ok a) refusal e = absurd cc
refusal_status name (Err (arrive_fault.Stopped n)) refusal e = absurd cc
refusal_status name (Err (arrive_fault.TooLarge n)) refusal e = let same : too_large name n ≡ refusal = cc in ap (λ (p : Printed). p.status) (sym same)
refusal_status name (Err (arrive_fault.NameWrong found)) refusal e = let same : wrong (name, found) ≡ refusal = cc in ap (λ (p : Printed). p.status) (sym same)
refusal_status name (Err (arrive_fault.Full b c w)) refusal e = let same : full name ≡ refusal = cc in ap (λ (p : Printed). p.status) (sym same)
refusal_status name (Err arrive_fault.Memory) refusal e = absurd cc

pub refused_files : (receipt : Option Brought) (files : List MessageFile) (t : Taken) (refusal : Printed) → Arrive receipt t files (Err refusal) → refusal.status ≡ 3
refused_files receipt [] t refusal h = absurd cc
refused_files receipt (f ∷ files) t refusal h = by_refusal (refusal_of f.name h.0) refl h.2 (refused_files receipt files (and_taken receipt t f h.0) refusal)
  where
    by_refusal : (o : Option Printed) → refusal_of f.name h.0 ≡ o → MatchOption o (Arrive receipt (and_taken receipt t f h.0) files (Err refusal)) (λ r. refused_with refusal ≡ Err r) → (Arrive receipt (and_taken receipt t f h.0) files (Err refusal) → refusal.status ≡ 3)
        → refusal.status ≡ 3
    by_refusal None e k more = more k
    by_refusal (Some r) e k more = let same : refusal ≡ r = cc in ap (λ (p : Printed). p.status) same ∙ refusal_status f.name h.0 r e
