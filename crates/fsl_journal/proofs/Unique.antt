-- A file stands for one list of records at most.
use Rattle.std.proofs.Common.{◌≡◌, ◌≢◌, ◌⊎◌, inl, inr, ℕ, ◌^◌, ◌<◌, List, [], ◌∷◌, ◌++◌, length, get_or, drop, refl, sym, ◌∙◌, ap, subst, arith, append_assoc}
use Rattle.std.specs.List.{AllByRecursion}
use Rattle.std.proofs.lemmas.List.{append-nil}
use Rattle.fsl_record.specs.declared.Record.{Record}
use Rattle.fsl_record.specs.Records.{records_bytes, IsFit, AreRecords}
use Rattle.fsl_record.proofs.Unique.{SamePiece, append_same, length_same, records_same}
use Rattle.fsl_journal.specs.Commit.{eight}
use Rattle.fsl_journal.specs.File.{header, IsGroup, IsFileOf}
use Rattle.fsl_journal.specs.Reading.{group_body}
use Rattle.fsl_journal.proofs.Files.{laid_file, groups_bytes, records_in, length-eight}
use Rattle.fsl_journal.proofs.Records.{all_left, all_right, all_fit, are_some}

pub eight_same : (m n : ℕ) → m < 2 ^ 64 → n < 2 ^ 64 → eight m ≡ eight n → m ≡ n
unfolding eight
eight_same m n m_fits n_fits same = length_same m n m_fits n_fits same

-- a number and bytes in front of others
pub sized_same : (m : ℕ) (a r : List ℕ) (n : ℕ) (b s : List ℕ) → m < 2 ^ 64 → n < 2 ^ 64 → m ≡ length a → n ≡ length b → eight m ++ a ++ r ≡ eight n ++ b ++ s → SamePiece a b r s
sized_same m a r n b s m_fits n_fits m_is n_is same =
    let sizes = append_same (eight m) (eight n) (a ++ r) (b ++ s) (length-eight m ∙ sym (length-eight n)) (sym (append_assoc (eight m) a r) ∙ same ∙ append_assoc (eight n) b s) in
    append_same a b r s (sym m_is ∙ eight_same m n m_fits n_fits sizes.piece ∙ n_is) sizes.rest

-- the bytes behind an open gate
group_same : (k l : List Record) (r s : List ℕ) → IsGroup k → IsGroup l → AllByRecursion IsFit k → AllByRecursion IsFit l → group_body k ++ r ≡ group_body l ++ s → SamePiece k l r s
group_same k l r s k_group l_group k_fit l_fit same =
    let both = sized_same (length (records_bytes k)) (records_bytes k) r (length (records_bytes l)) (records_bytes l) s k_group.1 l_group.1 refl refl same in
    record { piece = records_same k l k_fit l_fit both.piece; rest = both.rest }

pub open_more : (k : List Record) (ks : List (List Record)) (rest : List ℕ) → groups_bytes (k ∷ ks) ++ rest ≡ 79 ∷ (group_body k ++ (groups_bytes ks ++ rest))
open_more k ks rest = ap (λ (l : List ℕ). 79 ∷ l) (append_assoc (group_body k) (groups_bytes ks) rest)

-- what stands behind a byte, and the byte
pub behind_same : (g h : ℕ) (r s : List ℕ) → g ∷ r ≡ h ∷ s → r ≡ s
behind_same g h r s same = cc

pub gates_same : (g h : ℕ) (r s : List ℕ) → g ∷ r ≡ h ∷ s → g ≡ h
gates_same g h r s same = cc

-- the second groups go on after the first
pub record GoesOn (gs hs : List (List Record)) (a b : List ℕ) : Type 0 where
  pub more : List (List Record)
  pub whole : hs ≡ gs ++ more
  pub bytes : a ≡ groups_bytes more ++ b

-- of two rows of groups that the same bytes begin with, one goes on after the other
pub compare : (gs hs : List (List Record)) (a b : List ℕ) → AllByRecursion IsGroup gs → AllByRecursion IsGroup hs → AllByRecursion IsFit (records_in gs) → AllByRecursion IsFit (records_in hs)
    → groups_bytes gs ++ a ≡ groups_bytes hs ++ b → GoesOn gs hs a b ⊎ GoesOn hs gs b a
compare [] hs a b gs_whole hs_whole gs_fit hs_fit same = inl (record { more = hs; whole = refl; bytes = same })
compare (k ∷ gs) [] a b gs_whole hs_whole gs_fit hs_fit same = inr (record { more = k ∷ gs; whole = refl; bytes = sym same })
compare (k ∷ gs) (l ∷ hs) a b gs_whole hs_whole gs_fit hs_fit same =
    let both = group_same k l (groups_bytes gs ++ a) (groups_bytes hs ++ b) gs_whole.0 hs_whole.0 (all_left IsFit k (records_in gs) gs_fit) (all_left IsFit l (records_in hs) hs_fit)
    (behind_same 79 79 _ _ (sym (open_more k gs a) ∙ same ∙ open_more l hs b)) in
    elim (compare gs hs a b gs_whole.1 hs_whole.1 (all_right IsFit k (records_in gs) gs_fit) (all_right IsFit l (records_in hs) hs_fit) both.rest) [
      | inl on ↦ inl (record { more = on.more; whole = λ i. sym both.piece i ∷ on.whole i; bytes = on.bytes })
      | inr on ↦ inr (record { more = on.more; whole = λ i. both.piece i ∷ on.whole i; bytes = on.bytes })
    ]

-- no group goes on at a closed gate
shut_nil : (more : List (List Record)) (gate : ℕ) (rest b : List ℕ) → gate ≢ 79 → gate ∷ rest ≡ groups_bytes more ++ b → more ≡ []
shut_nil [] gate rest b shut same = refl
shut_nil (k ∷ ks) gate rest b shut same = absurd (shut (gates_same gate 79 rest _ (same ∙ open_more k ks b)))

pub shut_same : (gs hs : List (List Record)) (g : ℕ) (r b : List ℕ) → g ≢ 79 → GoesOn gs hs (g ∷ r) b → hs ≡ gs
shut_same gs hs g r b shut on = on.whole ∙ ap (λ (more : List (List Record)). gs ++ more) (shut_nil on.more g r b shut on.bytes) ∙ append-nil gs

-- what stands behind the header, and the mark in it
pub behind_header : (file : List ℕ) (m n : ℕ) (groups hs : List (List Record)) (a b : List ℕ) → file ≡ header m ++ groups_bytes groups ++ a → file ≡ header n ++ groups_bytes hs ++ b → groups_bytes groups ++ a ≡ groups_bytes hs ++ b
behind_header file m n groups hs a b one other = ap (λ (l : List ℕ). drop 15 l) (sym one ∙ other)

pub same_marks : (file : List ℕ) (m n : ℕ) (a b : List ℕ) → file ≡ header m ++ a → file ≡ header n ++ b → m ≡ n
same_marks file m n a b one other = ap (λ (l : List ℕ). get_or l 13 0) (sym one ∙ other)

pub fit_in : (groups : List (List Record)) (records : List Record) → records_in groups ≡ records → AreRecords records → AllByRecursion IsFit (records_in groups)
fit_in groups records is are = subst (λ (rs : List Record). AllByRecursion IsFit rs) (sym is) (all_fit records are)

pub one_file : (c : List ℕ) (es fs : List Record) → IsFileOf c es → IsFileOf c fs → es ≡ fs
one_file c es fs one other =
    let a = laid_file es c one in
    let b = laid_file fs c other in
    let groups : a.groups ≡ b.groups = elim (compare a.groups b.groups (a.gate ∷ a.rest) (b.gate ∷ b.rest) a.whole b.whole (fit_in a.groups es a.all a.fit) (fit_in b.groups fs b.all b.fit) (behind_header c one.mark other.mark a.groups b.groups (a.gate ∷ a.rest) (b.gate ∷ b.rest) a.split b.split)) [
      | inl on ↦ sym (shut_same a.groups b.groups a.gate a.rest (b.gate ∷ b.rest) a.shut on)
      | inr on ↦ shut_same b.groups a.groups b.gate b.rest (a.gate ∷ a.rest) b.shut on
    ] in
    sym a.all ∙ ap records_in groups ∙ b.all

-- a file whose first gate is closed stands for nothing
pub not_shut : (c : List ℕ) (records : List Record) (gate : ℕ) (rest : List ℕ) (mark : ℕ) → IsFileOf c records → c ≡ header mark ++ gate ∷ rest → gate ≢ 79 → ⊥
not_shut c records gate rest mark file is shut =
    let log = laid_file records c file in
    let same : gate ∷ rest ≡ groups_bytes log.groups ++ log.gate ∷ log.rest = behind_header c mark file.mark [] log.groups (gate ∷ rest) (log.gate ∷ log.rest) is log.split in
    let none : log.groups ≡ [] = shut_nil log.groups gate rest (log.gate ∷ log.rest) shut same in
    omega (arith, are_some records log.fit, ap length (sym log.all ∙ ap records_in none))
