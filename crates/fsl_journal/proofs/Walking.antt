-- What a reader of a file knows.
use Rattle.std.proofs.Common.{◌≡◌, ◌≢◌, inl, inr, Bool, true, false, ◌==◌, ℕ, ◌+◌, ◌-◌, ◌<◌, ◌≤◌, ◌^◌, List, [], ◌∷◌, ◌++◌, length, get_or, take, drop, refl, sym, ◌∙◌, ap, subst, arith, append_assoc, length-append}
use Rattle.std.specs.List.{AllByRecursion}
use Rattle.std.proofs.lemmas.Bool.Decides.{nat_tests}
use Rattle.std.proofs.lemmas.List.{drop_more, take_at}
use Rattle.fsl_record.specs.declared.Record.{Record}
use Rattle.fsl_record.specs.Records.{records_bytes}
use Rattle.fsl_journal.specs.Commit.{eight}
use Rattle.fsl_journal.specs.File.{header, version_of, IsGroup, AreRecordsOf, FailsAt}
use Rattle.fsl_journal.specs.Log.{IsLog}
use Rattle.fsl_journal.specs.Places.{group_places, IsPlacedFile}
use Rattle.fsl_journal.specs.Reading.{group_body, NoGroup}
use Rattle.fsl_journal.proofs.Failing.{stuck_fails}
use Rattle.fsl_journal.proofs.Files.{Laid, is_log, placed_file, groups_bytes, records_in, length-eight}
use Rattle.fsl_journal.proofs.Groups.{groups_push, records_push}
use Rattle.fsl_journal.proofs.Records.{all_append, AreReadSoFar, are_with, is_group_of}
use Rattle.fsl_journal.proofs.Unique.{eight_same}
use Rattle.fsl_record.proofs.Unique.{append_same}
use Rattle.fsl_record.specs.declared.RecordFault.{RecordFault}
use Rattle.fsl_record.specs.Groups.{IsGroupOf, IsGroupFault}
use Rattle.fsl_record.proofs.Exclusive.{group_no_fault}

-- the groups that were read, and what stands behind them
pub record IsReadTo (file : List ℕ) (mark : ℕ) (records : List Record) (groups : List (List Record)) (rest : List ℕ) : Type 0 where
  pub split : file ≡ header mark ++ groups_bytes groups ++ rest
  pub whole : AllByRecursion IsGroup groups
  pub all : records ≡ records_in groups
  pub read : AreReadSoFar (version_of mark) records
  -- before the first group nothing is read, and behind a group something stands
  pub first : records ≡ [] → groups ≡ []
  pub some : records ≢ [] → 0 < length rest

pub read_on : (file : List ℕ) (mark : ℕ) (rest behind more : List ℕ) (records after k : List Record) (groups : List (List Record)) → IsReadTo file mark records groups rest → rest ≡ 79 ∷ behind → IsGroup k → AreRecordsOf (version_of mark) after → after ≡ records ++ k → behind ≡ group_body k ++ more → 0 < length more
    → IsReadTo file mark after (groups ++ k ∷ []) more
read_on file mark rest behind more records after k groups read is is_group are after_is behind_is some = record {
  split =
      read.split
      ∙ ap (λ (l : List ℕ). header mark ++ groups_bytes groups ++ l) (is ∙ ap (λ (l : List ℕ). 79 ∷ l) behind_is)
      ∙ sym (append_assoc (header mark ++ groups_bytes groups) (79 ∷ group_body k) more)
      ∙ ap (λ (l : List ℕ). l ++ more) (append_assoc (header mark) (groups_bytes groups) (79 ∷ group_body k) ∙ ap (λ (l : List ℕ). header mark ++ l) (sym (groups_push groups k)));
  whole = all_append IsGroup groups (k ∷ []) read.whole (is_group, tt);
  all = after_is ∙ ap (λ (l : List Record). l ++ k) read.all ∙ sym (records_push groups k);
  read = inr are;
  first = λ none. absurd (not_nil records k is_group.0 (sym after_is ∙ none));
  some = λ _. some;
}
  where
    not_nil : (rs group : List Record) → group ≢ [] → rs ++ group ≡ [] → ⊥
    not_nil [] group other none = other none
    not_nil (r ∷ rs) group other none = cc

-- no group stands behind an open gate
pub read_stuck : (file : List ℕ) (mark : ℕ) (rest behind : List ℕ) (records : List Record) (groups : List (List Record)) (at found : ℕ) → IsReadTo file mark records groups rest → rest ≡ 79 ∷ behind → at ≡ length file - length rest → NoGroup (version_of mark) at records behind found → FailsAt file found
read_stuck file mark rest behind records groups at found read is at_is failed = stuck_fails file found (record {
  mark = mark;
  groups = groups;
  rest = behind;
  split = read.split ∙ ap (λ (l : List ℕ). header mark ++ groups_bytes groups ++ l) is;
  whole = read.whole;
  read = elim read.read [ inl none ↦ inl (read.first none) | inr are ↦ inr (subst (AreRecordsOf (version_of mark)) read.all are) ];
  place = omega (arith, failed.place, at_is, ap length read.split, length-append (header mark ++ groups_bytes groups) rest);
  none = λ group more is_group are some. failed.none group more is_group (subst (λ (rs : List Record). AreRecordsOf (version_of mark) (rs ++ group)) (sym read.all) are) some;
})

-- no group was read, and the first gate is missing or closed
pub first_shut : (file : List ℕ) (mark : ℕ) (rest : List ℕ) (records : List Record) (groups : List (List Record)) → IsReadTo file mark records groups rest → records ≡ [] → (0 < length rest → get_or rest 0 0 ≢ 79) → FailsAt file 15
first_shut file mark rest records groups read none shut = at rest (read.split ∙ ap (λ (gs : List (List Record)). header mark ++ groups_bytes gs ++ rest) (read.first none)) shut
  where
    at : (more : List ℕ) → file ≡ header mark ++ more → (0 < length more → get_or more 0 0 ≢ 79) → FailsAt file 15
    at [] split _ = inr (inl (refl, mark, inl split))
    at (gate ∷ more) split closed = inr (inl (refl, mark, inr (gate, more, split, closed (omega arith))))

-- all groups were read
module _ (file : List ℕ) (mark : ℕ) (rest : List ℕ) (records : List Record) (groups : List (List Record)) (read : IsReadTo file mark records groups rest) (other : records ≢ []) (shut : 0 < length rest → get_or rest 0 0 ≢ 79) where
  abbrev laid_all : Laid records mark (length file - length rest) file
  laid_all = record {
    groups = groups;
    gate = get_or rest 0 0;
    rest = drop 1 rest;
    split = read.split ∙ ap (λ (l : List ℕ). header mark ++ groups_bytes groups ++ l) (drop_more rest 0 0 (read.some other));
    at = omega (arith, ap length read.split, length-append (header mark ++ groups_bytes groups) rest);
    shut = shut (read.some other);
    whole = read.whole;
    all = sym read.all;
    fit = elim read.read [ inl none ↦ absurd (other none) | inr are ↦ are.0 ];
    known = elim read.read [ inl none ↦ absurd (other none) | inr are ↦ are.1 ];
  }

  pub read_all_is : IsLog records mark (length file - length rest) file
  read_all_is = is_log records mark (length file - length rest) file laid_all

  pub read_all_placed : (places : List ℕ) → places ≡ group_places 15 groups → IsPlacedFile file records places
  read_all_placed places is = placed_file records mark (length file - length rest) file places laid_all is

-- ---- a group

-- what stands behind an open gate, where it is a group and more
group_size : (group : List Record) (more behind : List ℕ) → behind ≡ group_body group ++ more → length behind ≡ 8 + length (records_bytes group) + length more
group_size group more behind is = omega (arith, ap length is, length-append (group_body group) more, length-append (eight (length (records_bytes group))) (records_bytes group), length-eight (length (records_bytes group)))

-- its number, and what stands behind the number
pub numbered : (group : List Record) (more behind body : List ℕ) (size : ℕ) → IsGroup group → behind ≡ eight size ++ body → size < 2 ^ 64 → behind ≡ group_body group ++ more → (size ≡ length (records_bytes group)) × (body ≡ records_bytes group ++ more)
numbered group more behind body size is_group number fits is =
    let n = length (records_bytes group) in
    let both = append_same (eight size) (eight (length (records_bytes group))) body (records_bytes group ++ more) (length-eight size ∙ sym (length-eight (length (records_bytes group))))
    (sym number ∙ is ∙ append_assoc (eight (length (records_bytes group))) (records_bytes group) more) in
    (eight_same size n fits is_group.1 both.piece, both.rest)

pub length-numbered : (n : ℕ) (body : List ℕ) → length (eight n ++ body) ≡ 8 + length body
length-numbered n body = omega (arith, length-append (eight n) body, length-eight n)

pub too_short : (v at : ℕ) (records : List Record) (behind : List ℕ) → length behind < 8 → NoGroup v at records behind at
too_short v at records behind short = record { place = refl; none = λ group more is_group are some same. omega (arith, group_size group more behind same, short) }

pub too_long : (v at : ℕ) (records : List Record) (behind body : List ℕ) (size : ℕ) → behind ≡ eight size ++ body → size < 2 ^ 64 → length body ≤ size → NoGroup v at records behind at
too_long v at records behind body size number fits long = record {
  place = refl;
  none = λ group more is_group are some same.
      let is = numbered group more behind body size is_group number fits same in
      omega (arith, is.0, ap length is.1, length-append (records_bytes group) more, long, some);
}

pub not_read : (v at : ℕ) (records : List Record) (behind body bytes : List ℕ) (size : ℕ) (first : Bool) (fault : RecordFault) → behind ≡ eight size ++ body → size < 2 ^ 64 → bytes ≡ take size body → first ≡ (length records == 0) → IsGroupFault v first bytes fault → NoGroup v at records behind at
not_read v at records behind body bytes size first fault number fits bytes_are first_is fails = record {
  place = refl;
  none = λ group more is_group are some same.
      let is = numbered group more behind body size is_group number fits same in
      let layout : bytes ≡ records_bytes group = bytes_are ∙ ap (λ (l : List ℕ). take size l) is.1 ∙ take_at (records_bytes group) more size (sym is.0) in
      group_no_fault v first bytes group fault (is_group_of v records group bytes first first_is is_group.0 layout are) fails;
}

-- whether records were read
pub none_is : (items : List Record) (n : ℕ) → n ≡ length items → true ≡ (n == 0) → items ≡ []
none_is [] n is empty = refl
none_is (r ∷ rs) n is empty = absurd (not_zero n (omega (arith, is)) empty)
  where
    not_zero : (k : ℕ) → 0 < k → true ≡ (k == 0) → ⊥
    not_zero k some zero_is = grind (arith, nat_tests)

pub some_is : (items : List Record) (n : ℕ) → n ≡ length items → false ≡ (n == 0) → items ≢ []
some_is items n is some = λ none. zero_is n (is ∙ ap length none) some
  where
    zero_is : (k : ℕ) → k ≡ 0 → false ≡ (k == 0) → ⊥
    zero_is k zero_k other = grind (arith, nat_tests)

-- a group that was read, and what stands behind it
pub group_there : (v : ℕ) (behind body bytes more : List ℕ) (size : ℕ) (first : Bool) (group : List Record) → behind ≡ eight size ++ body → size < 2 ^ 64 → body ≡ bytes ++ more → length bytes ≡ size → IsGroupOf v first bytes group → IsGroup group × (behind ≡ group_body group ++ more)
group_there v behind body bytes more size first group number fits split long is =
    let size_is : size ≡ length (records_bytes group) = sym long ∙ ap length is.layout in
    let body_is : body ≡ records_bytes group ++ more = split ∙ ap (λ (l : List ℕ). l ++ more) is.layout in (
      (is.some, subst (λ n. n < 2 ^ 64) size_is fits),
      number
          ∙ ap (λ n. eight n ++ body) size_is
          ∙ ap (λ (l : List ℕ). eight (length (records_bytes group)) ++ l) body_is
          ∙ sym (append_assoc (eight (length (records_bytes group))) (records_bytes group) more),
    )

-- a group goes on with what was read
pub group_on : (v : ℕ) (records group after items : List Record) (bytes : List ℕ) (first : Bool) → first ≡ (length records == 0) → AreReadSoFar v records → IsGroupOf v first bytes group → items ≡ group → after ≡ records ++ items → AreRecordsOf v after
group_on v records group after items bytes first first_is before is items_are after_is =
    subst (AreRecordsOf v) (sym (after_is ∙ ap (λ (l : List Record). records ++ l) items_are)) (are_with v records group bytes first first_is before is)
