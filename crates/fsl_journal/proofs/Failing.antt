-- Bytes that fail to be a file fail at one place, and stand for no records.
use Rattle.std.proofs.Common.{◌≡◌, ◌≢◌, ◌⊎◌, inl, inr, ℕ, ◌+◌, ◌<◌, List, [], ◌∷◌, ◌++◌, length, drop, refl, sym, ◌∙◌, ap, subst, arith, append_assoc, length-append}
use Rattle.std.specs.List.{AllByRecursion}
use Rattle.std.proofs.lemmas.List.{append-nil}
use Rattle.std.proofs.lemmas.List.Concat.{flat_map-append}
use Rattle.fsl_record.specs.declared.Record.{Record}
use Rattle.fsl_record.specs.Records.{IsFit, IsOfVersion}
use Rattle.fsl_journal.specs.Commit.{eight}
use Rattle.fsl_journal.specs.File.{header, version_of, IsGroup, IsFileOf, AreRecordsOf, AreRead, FailsAt}
use Rattle.fsl_journal.specs.Reading.{group_body}
use Rattle.fsl_journal.proofs.Files.{Laid, laid_file, groups_bytes, records_in}
use Rattle.fsl_journal.proofs.Groups.{records_push}
use Rattle.fsl_journal.proofs.Records.{all_append, all_right, all_fit, of_left}
use Rattle.fsl_journal.proofs.Unique.{GoesOn, compare, open_more, behind_same, gates_same, behind_header, same_marks, fit_in, not_shut}

-- an open gate behind groups that read, with no group and byte behind it
pub record IsStuck (file : List ℕ) (at : ℕ) : Type 0 where
  pub mark : ℕ
  pub groups : List (List Record)
  pub rest : List ℕ
  pub split : file ≡ header mark ++ groups_bytes groups ++ 79 ∷ rest
  pub whole : AllByRecursion IsGroup groups
  pub read : (groups ≡ []) ⊎ AreRecordsOf (version_of mark) (records_in groups)
  pub place : at ≡ length (header mark ++ groups_bytes groups)
  pub none : (group : List Record) (more : List ℕ) → IsGroup group → AreRecordsOf (version_of mark) (records_in groups ++ group) → 0 < length more → rest ≢ group_body group ++ more

-- one group more that reads
read_more : (v : ℕ) (groups : List (List Record)) (group : List Record) → AllByRecursion IsGroup groups → IsGroup group → AreRecordsOf v (records_in groups ++ group) → AreRead v (groups ++ group ∷ [])
read_more v groups group whole is are = (
  all_append IsGroup groups (group ∷ []) whole (is, tt),
  inr (subst (AreRecordsOf v) (sym (records_push groups group)) are),
)

not_nil : (groups : List (List Record)) (group : List Record) → groups ++ group ∷ [] ≡ [] → ⊥
not_nil [] group is = cc
not_nil (k ∷ ks) group is = cc

last_read : (v : ℕ) (groups : List (List Record)) (group : List Record) → AreRead v (groups ++ group ∷ []) → AreRecordsOf v (records_in groups ++ group)
last_read v groups group read = elim read.1 [
  | inl none ↦ absurd (not_nil groups group none)
  | inr are ↦ subst (AreRecordsOf v) (records_push groups group) are
]

length-open : (mark : ℕ) (groups : List (List Record)) → 15 + length (groups_bytes groups) ≡ length (header mark ++ groups_bytes groups)
length-open mark groups = sym (length-append (header mark) (groups_bytes groups))

pub stuck_fails : (file : List ℕ) (at : ℕ) → IsStuck file at → FailsAt file at
unfolding eight
stuck_fails file at stuck = inr (inr (
  stuck.mark,
  stuck.groups,
  stuck.rest,
  stuck.split,
  (stuck.whole, stuck.read),
  stuck.place ∙ sym (length-open stuck.mark stuck.groups),
  λ group gate more same read.
      stuck.none group (gate ∷ more) (all_right IsGroup stuck.groups (group ∷ []) read.0).0 (last_read (version_of stuck.mark) stuck.groups group read) (omega arith)
      (behind_same 79 79 _ _ same),
))

some_behind : (rest : List ℕ) → 0 < length rest → (gate : ℕ) × (more : List ℕ) × (rest ≡ gate ∷ more)
some_behind [] none = absurd (omega (arith, none))
some_behind (gate ∷ more) _ = (gate, more, refl)

pub fails_stuck : (file : List ℕ) (at mark : ℕ) (groups : List (List Record)) (rest : List ℕ) → file ≡ header mark ++ groups_bytes groups ++ 79 ∷ rest → AreRead (version_of mark) groups → at ≡ 15 + length (groups_bytes groups)
    → ((group : List Record) (gate : ℕ) (more : List ℕ) → 79 ∷ rest ≡ 79 ∷ (group_body group ++ gate ∷ more) → AreRead (version_of mark) (groups ++ group ∷ []) → ⊥) → IsStuck file at
fails_stuck file at mark groups rest split read place none = record {
  mark = mark;
  groups = groups;
  rest = rest;
  split = split;
  whole = read.0;
  read = read.1;
  place = place ∙ length-open mark groups;
  none = λ group more is are some same.
      let behind = some_behind more some in
      none group behind.0 behind.1 (ap (λ (l : List ℕ). 79 ∷ l) (same ∙ ap (λ (l : List ℕ). group_body group ++ l) behind.2)) (read_more (version_of mark) groups group read.0 is are);
}

-- the three ways to fail
pub data Fails (file : List ℕ) (at : ℕ) : Type 0 where
  no_header : at ≡ 0 → ((mark : ℕ) (rest : List ℕ) → file ≢ header mark ++ rest) → Fails file at
  no_gate : at ≡ 15 → (mark : ℕ) → file ≡ header mark → Fails file at
  shut_gate : at ≡ 15 → (mark gate : ℕ) (rest : List ℕ) → file ≡ header mark ++ gate ∷ rest → gate ≢ 79 → Fails file at
  stuck_gate : IsStuck file at → Fails file at

pub ways : (file : List ℕ) (at : ℕ) → FailsAt file at → Fails file at
unfolding eight
ways file at (inl none) = no_header none.0 none.1
ways file at (inr (inl first)) = elim first.2 [
  | inl is ↦ no_gate first.0 first.1 is
  | inr shut ↦ shut_gate first.0 first.1 shut.0 shut.1 shut.2 shut.3
]
ways file at (inr (inr stuck)) = stuck_gate (fails_stuck file at stuck.0 stuck.1 stuck.2 stuck.3 stuck.4 stuck.5 stuck.6)

-- no group goes on at a gate that is stuck
stuck_nil : (file : List ℕ) (at : ℕ) (stuck : IsStuck file at) (more : List (List Record)) (b : List ℕ) → AllByRecursion IsGroup more → AreRecordsOf (version_of stuck.mark) (records_in (stuck.groups ++ more)) → 0 < length b → 79 ∷ stuck.rest ≡ groups_bytes more ++ b → more ≡ []
stuck_nil file at stuck [] b whole are some same = refl
stuck_nil file at stuck (k ∷ ks) b whole are some same =
    let all : records_in (stuck.groups ++ k ∷ ks) ≡ (records_in stuck.groups ++ k) ++ records_in ks =
    flat_map-append (λ (g : List Record). g) stuck.groups (k ∷ ks) ∙ sym (append_assoc (records_in stuck.groups) k (records_in ks)) in
    absurd (stuck.none k (groups_bytes ks ++ b) whole.0
    (of_left (version_of stuck.mark) (records_in stuck.groups ++ k) (records_in ks) (λ none. not_both (records_in stuck.groups) k whole.0.0 none) (subst (AreRecordsOf (version_of stuck.mark)) all are))
    (omega (arith, length-append (groups_bytes ks) b, some)) (behind_same 79 79 _ _ (same ∙ open_more k ks b)))
  where
    not_both : (front group : List Record) → group ≢ [] → front ++ group ≡ [] → ⊥
    not_both [] group other none = other none
    not_both (r ∷ rs) group other none = cc

read_fit : (v : ℕ) (groups : List (List Record)) → (groups ≡ []) ⊎ AreRecordsOf v (records_in groups) → AllByRecursion IsFit (records_in groups)
read_fit v groups (inl none) = subst (λ (gs : List (List Record)). AllByRecursion IsFit (records_in gs)) (sym none) tt
read_fit v groups (inr are) = all_fit (records_in groups) are.0

all_on : (gs hs more : List (List Record)) → hs ≡ gs ++ more → AllByRecursion IsGroup hs → AllByRecursion IsGroup more
all_on gs hs more is whole = all_right IsGroup gs more (subst (λ (ks : List (List Record)). AllByRecursion IsGroup ks) is whole)

stuck_no_file : (file : List ℕ) (at : ℕ) (records : List Record) → IsStuck file at → IsFileOf file records → ⊥
stuck_no_file file at records stuck is =
    let log = laid_file records file is in
    elim (compare stuck.groups log.groups (79 ∷ stuck.rest) (log.gate ∷ log.rest) stuck.whole log.whole (read_fit (version_of stuck.mark) stuck.groups stuck.read) (fit_in log.groups records log.all log.fit)
    (behind_header file stuck.mark is.mark stuck.groups log.groups (79 ∷ stuck.rest) (log.gate ∷ log.rest) stuck.split log.split)) [
      | inl on ↦
          let marks = same_marks file is.mark stuck.mark (groups_bytes log.groups ++ log.gate ∷ log.rest) (groups_bytes stuck.groups ++ 79 ∷ stuck.rest) log.split stuck.split in
          let of : AreRecordsOf (version_of stuck.mark) records = (log.fit, subst (λ (m : ℕ). AllByRecursion (IsOfVersion (version_of m)) records) marks log.known) in
          let are : AreRecordsOf (version_of stuck.mark) (records_in (stuck.groups ++ on.more)) = subst (AreRecordsOf (version_of stuck.mark)) (sym (ap records_in (sym on.whole) ∙ log.all)) of in
          let none : on.more ≡ [] = stuck_nil file at stuck on.more (log.gate ∷ log.rest) (all_on stuck.groups log.groups on.more on.whole log.whole) are (omega arith) on.bytes in
          log.shut (sym (gates_same 79 log.gate stuck.rest log.rest (on.bytes ∙ ap (λ (more : List (List Record)). groups_bytes more ++ log.gate ∷ log.rest) none)))
      | inr on ↦
          log.shut (shut_open on.more on.bytes)
    ]
  where
    shut_open : (more : List (List Record)) → (laid_file records file is).gate ∷ (laid_file records file is).rest ≡ groups_bytes more ++ 79 ∷ stuck.rest → (laid_file records file is).gate ≡ 79
    shut_open [] same = gates_same _ 79 _ _ same
    shut_open (k ∷ ks) same = gates_same _ 79 _ _ (same ∙ open_more k ks (79 ∷ stuck.rest))

pub no_file : (file : List ℕ) (at : ℕ) (records : List Record) → FailsAt file at → IsFileOf file records → ⊥
no_file file at records fails is = by (laid_file records file is) (ways file at fails)
  where
    by : {mark place : ℕ} → Laid records mark place file → Fails file at → ⊥
    by {mark} log (no_header _ none) = none mark (groups_bytes log.groups ++ log.gate ∷ log.rest) log.split
    by {mark} log (no_gate _ m short) = omega (arith, ap length (sym short ∙ log.split), length-append (groups_bytes log.groups) (log.gate ∷ log.rest))
    by log (shut_gate _ m gate rest front shut) = not_shut file records gate rest m is front shut
    by log (stuck_gate stuck) = stuck_no_file file at records stuck is

-- ---- the place

stuck_once : (file : List ℕ) (at to : ℕ) (one : IsStuck file at) (other : IsStuck file to) → GoesOn one.groups other.groups (79 ∷ one.rest) (79 ∷ other.rest) → at ≡ to
stuck_once file at to one other on =
    let none : on.more ≡ [] = nil other.read in
    one.place ∙ sym (ap (λ (gs : List (List Record)). length (header one.mark ++ groups_bytes gs)) (on.whole ∙ ap (λ (more : List (List Record)). one.groups ++ more) none ∙ append-nil one.groups)) ∙ sym other.place
  where
    nil_end : (gs more : List (List Record)) → gs ++ more ≡ [] → more ≡ []
    nil_end [] more is = is
    nil_end (k ∷ ks) more is = absurd (cc)

    marks : other.mark ≡ one.mark
    marks = same_marks file other.mark one.mark (groups_bytes other.groups ++ 79 ∷ other.rest) (groups_bytes one.groups ++ 79 ∷ one.rest) other.split one.split

    nil : (other.groups ≡ []) ⊎ AreRecordsOf (version_of other.mark) (records_in other.groups) → on.more ≡ []
    nil (inl none) = nil_end one.groups on.more (sym on.whole ∙ none)
    nil (inr are) =
        stuck_nil file at one on.more (79 ∷ other.rest) (all_on one.groups other.groups on.more on.whole other.whole)
        (subst (λ (gs : List (List Record)). AreRecordsOf (version_of one.mark) (records_in gs)) on.whole (subst (λ (m : ℕ). AreRecordsOf (version_of m) (records_in other.groups)) marks are)) (omega arith) on.bytes

-- a gate that is stuck is open
stuck_open : (file : List ℕ) (at : ℕ) (stuck : IsStuck file at) → (rest : List ℕ) × (file ≡ header stuck.mark ++ 79 ∷ rest)
stuck_open file at stuck = at_front stuck.groups stuck.split
  where
    at_front : (groups : List (List Record)) → file ≡ header stuck.mark ++ groups_bytes groups ++ 79 ∷ stuck.rest → (rest : List ℕ) × (file ≡ header stuck.mark ++ 79 ∷ rest)
    at_front [] split = (stuck.rest, split)
    at_front (k ∷ ks) split = (group_body k ++ (groups_bytes ks ++ 79 ∷ stuck.rest), split ∙ ap (λ (l : List ℕ). header stuck.mark ++ l) (open_more k ks (79 ∷ stuck.rest)))

pub one_place : (file : List ℕ) (at to : ℕ) → FailsAt file at → FailsAt file to → at ≡ to
one_place file at to one other = both (ways file at one) (ways file to other)
  where
    short : (m n : ℕ) (rest : List ℕ) → file ≡ header m → file ≡ header n ++ 79 ∷ rest → ⊥
    short m n rest is open_first = omega (arith, ap length (sym is ∙ open_first))

    other_gate : (m n gate : ℕ) (rest more : List ℕ) → gate ≢ 79 → file ≡ header m ++ gate ∷ rest → file ≡ header n ++ 79 ∷ more → ⊥
    other_gate m n gate rest more shut is open_first = shut (gates_same gate 79 rest more (ap (λ (l : List ℕ). drop 15 l) (sym is ∙ open_first)))

    both : Fails file at → Fails file to → at ≡ to
    both (no_header a none) (no_header b _) = a ∙ sym b
    both (no_header a none) (no_gate b m is) = absurd (none m [] is)
    both (no_header a none) (shut_gate b m gate rest is shut) = absurd (none m (gate ∷ rest) is)
    both (no_header a none) (stuck_gate stuck) = let first = stuck_open file to stuck in absurd (none stuck.mark (79 ∷ first.0) first.1)
    both (no_gate a m is) (no_header b none) = absurd (none m [] is)
    both (no_gate a m is) (no_gate b _ _) = a ∙ sym b
    both (no_gate a m is) (shut_gate b _ _ _ _ _) = a ∙ sym b
    both (no_gate a m is) (stuck_gate stuck) = let first = stuck_open file to stuck in absurd (short m stuck.mark first.0 is first.1)
    both (shut_gate a m gate rest is shut) (no_header b none) = absurd (none m (gate ∷ rest) is)
    both (shut_gate a _ _ _ _ _) (no_gate b _ _) = a ∙ sym b
    both (shut_gate a _ _ _ _ _) (shut_gate b _ _ _ _ _) = a ∙ sym b
    both (shut_gate a m gate rest is shut) (stuck_gate stuck) = let first = stuck_open file to stuck in absurd (other_gate m stuck.mark gate rest first.0 shut is first.1)
    both (stuck_gate stuck) (no_header b none) = let first = stuck_open file at stuck in absurd (none stuck.mark (79 ∷ first.0) first.1)
    both (stuck_gate stuck) (no_gate b m is) = let first = stuck_open file at stuck in absurd (short m stuck.mark first.0 is first.1)
    both (stuck_gate stuck) (shut_gate b m gate rest is shut) = let first = stuck_open file at stuck in absurd (other_gate m stuck.mark gate rest first.0 shut is first.1)
    both (stuck_gate a) (stuck_gate b) =
        elim (compare a.groups b.groups (79 ∷ a.rest) (79 ∷ b.rest) a.whole b.whole (read_fit (version_of a.mark) a.groups a.read) (read_fit (version_of b.mark) b.groups b.read)
        (behind_header file a.mark b.mark a.groups b.groups (79 ∷ a.rest) (79 ∷ b.rest) a.split b.split)) [
          | inl on ↦ stuck_once file at to a b on
          | inr on ↦ sym (stuck_once file to at b a on)
        ]
