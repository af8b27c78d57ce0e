-- A file by its gates.
use Rattle.std.proofs.Common.{◌≡◌, ◌≢◌, ◌⊎◌, inl, inr, ℕ, ◌+◌, ◌<◌, ◌≤◌, ◌^◌, List, [], ◌∷◌, ◌++◌, length, get_or, drop, refl, sym, ◌∙◌, ap, subst, arith, append_assoc, length-append}
use Rattle.std.specs.Prelude.{slice_index}
use Rattle.std.specs.List.{AllByRecursion, flat_map}
use Rattle.std.proofs.lemmas.List.{append-nil, get_or_append_left, get_or-append-add, ext_get_or}
use Rattle.std.proofs.lemmas.List.Concat.{flat_map-append}
use Rattle.fsl_journal.specs.Commit.{eight}
use Rattle.fsl_journal.specs.File.{header}
use Rattle.fsl_journal.specs.Gates.{part_bytes, gate_of, HasGroups, GoesOn, IsGateAt, IsOpenAt, From}
use Rattle.fsl_journal.proofs.Files.{length-eight}
use Rattle.fsl_journal.proofs.Unique.{eight_same, sized_same, gates_same, behind_same}

abbrev pub parts : List (List ℕ) → List ℕ
parts groups = flat_map part_bytes groups

-- what stands before a gate
abbrev pub upto : ℕ → List (List ℕ) → List ℕ
upto mark groups = header mark ++ parts groups

pub length_upto : (mark : ℕ) (groups : List (List ℕ)) → length (upto mark groups) ≡ gate_of groups
length_upto mark groups = length-append (header mark) (parts groups)

pub parts_append : (a b : List (List ℕ)) → parts (a ++ b) ≡ parts a ++ parts b
parts_append a b = flat_map-append part_bytes a b

open_part : (k : List ℕ) (ks : List (List ℕ)) (rest : List ℕ) → parts (k ∷ ks) ++ rest ≡ 79 ∷ (eight (length k) ++ k ++ (parts ks ++ rest))
open_part k ks rest = ap (λ (l : List ℕ). 79 ∷ l) (append_assoc (eight (length k) ++ k) (parts ks) rest)

-- ---- one row of groups

pub record PartsOn (gs hs : List (List ℕ)) (a b : List ℕ) : Type 0 where
  pub more : List (List ℕ)
  pub whole : hs ≡ gs ++ more
  pub bytes : a ≡ parts more ++ b

pub compare_parts : (gs hs : List (List ℕ)) (a b : List ℕ) → AllByRecursion (λ group. length group < 2 ^ 64) gs → AllByRecursion (λ group. length group < 2 ^ 64) hs → parts gs ++ a ≡ parts hs ++ b → PartsOn gs hs a b ⊎ PartsOn hs gs b a
compare_parts [] hs a b gs_small hs_small same = inl (record { more = hs; whole = refl; bytes = same })
compare_parts (k ∷ gs) [] a b gs_small hs_small same = inr (record { more = k ∷ gs; whole = refl; bytes = sym same })
compare_parts (k ∷ gs) (l ∷ hs) a b gs_small hs_small same =
    let both = sized_same (length k) k (parts gs ++ a) (length l) l (parts hs ++ b) gs_small.0 hs_small.0 refl refl
    (behind_same 79 79 _ _ (sym (open_part k gs a) ∙ same ∙ open_part l hs b)) in
    elim (compare_parts gs hs a b gs_small.1 hs_small.1 both.rest) [
      | inl on ↦ inl (record { more = on.more; whole = λ i. sym both.piece i ∷ on.whole i; bytes = on.bytes })
      | inr on ↦ inr (record { more = on.more; whole = λ i. both.piece i ∷ on.whole i; bytes = on.bytes })
    ]

pub shut_parts : (more : List (List ℕ)) (gate : ℕ) (rest b : List ℕ) → gate ≢ 79 → gate ∷ rest ≡ parts more ++ b → more ≡ []
shut_parts [] gate rest b shut same = refl
shut_parts (k ∷ ks) gate rest b shut same = absurd (shut (gates_same gate 79 rest _ (same ∙ open_part k ks b)))

pub record OneRow (m n : ℕ) (gs hs : List (List ℕ)) : Type 0 where
  pub mark : m ≡ n
  pub groups : gs ≡ hs

pub one_row : (m n : ℕ) (gs hs : List (List ℕ)) (bytes : List ℕ) → HasGroups m gs bytes → HasGroups n hs bytes → OneRow m n gs hs
one_row m n gs hs bytes one other = record {
  mark = ap (λ (l : List ℕ). get_or l 13 0) (sym one.layout ∙ other.layout);
  groups = elim (compare_parts gs hs (one.gate ∷ one.rest) (other.gate ∷ other.rest) one.sized other.sized (behind one.layout other.layout)) [
    | inl on ↦ sym (on.whole ∙ ap (λ (more : List (List ℕ)). gs ++ more) (shut_parts on.more one.gate one.rest (other.gate ∷ other.rest) one.closed on.bytes) ∙ append-nil gs)
    | inr on ↦ on.whole ∙ ap (λ (more : List (List ℕ)). hs ++ more) (shut_parts on.more other.gate other.rest (one.gate ∷ one.rest) other.closed on.bytes) ∙ append-nil hs
  ];
}
  where
    behind : bytes ≡ header m ++ parts gs ++ one.gate ∷ one.rest → bytes ≡ header n ++ parts hs ++ other.gate ∷ other.rest → parts gs ++ one.gate ∷ one.rest ≡ parts hs ++ other.gate ∷ other.rest
    behind a b = ap (λ (l : List ℕ). drop 15 l) (sym a ∙ b)

-- ---- the byte at a gate

-- a file in two, at a gate
pub at_gate : (mark : ℕ) (before behind : List (List ℕ)) (bytes : List ℕ) (has : HasGroups mark (before ++ behind) bytes) → bytes ≡ upto mark before ++ (parts behind ++ has.gate ∷ has.rest)
at_gate mark before behind bytes has =
    has.layout
    ∙ ap (λ (l : List ℕ). header mark ++ l ++ has.gate ∷ has.rest) (parts_append before behind)
    ∙ ap (λ (l : List ℕ). l ++ has.gate ∷ has.rest) (sym (append_assoc (header mark) (parts before) (parts behind)))
    ∙ append_assoc (upto mark before) (parts behind) (has.gate ∷ has.rest)

-- a byte behind a front
pub byte_behind : (bytes xs ys : List ℕ) (place k : ℕ) → bytes ≡ xs ++ ys → place ≡ length xs → slice_index bytes (place + k) ≡ slice_index ys k
byte_behind bytes xs ys place k split at =
    ap (λ (l : List ℕ). slice_index l (place + k)) split ∙ ap (λ (n : ℕ). slice_index (xs ++ ys) (n + k)) at ∙ get_or-append-add xs ys k 0

pub byte_first : (bytes xs ys : List ℕ) (place : ℕ) → bytes ≡ xs ++ ys → place ≡ length xs → slice_index bytes place ≡ slice_index ys 0
byte_first bytes xs ys place split at = ap (λ (n : ℕ). slice_index bytes n) (omega arith) ∙ byte_behind bytes xs ys place 0 split at

-- the gate's byte, where it is the last one, and where it isn't
pub shut_byte : (place mark : ℕ) (before : List (List ℕ)) (bytes : List ℕ) (has : HasGroups mark before bytes) → place ≡ gate_of before → slice_index bytes place ≡ has.gate
shut_byte place mark before bytes has at = byte_first bytes (upto mark before) (has.gate ∷ has.rest) place has.layout (at ∙ sym (length_upto mark before))

open_byte : (place mark : ℕ) (before : List (List ℕ)) (group : List ℕ) (behind : List (List ℕ)) (bytes : List ℕ) → HasGroups mark (before ++ group ∷ behind) bytes → place ≡ gate_of before → slice_index bytes place ≡ 79
open_byte place mark before group behind bytes has at =
    byte_first bytes (upto mark before) (parts (group ∷ behind) ++ has.gate ∷ has.rest) place (at_gate mark before (group ∷ behind) bytes has) (at ∙ sym (length_upto mark before))
    ∙ ap (λ (l : List ℕ). slice_index l 0) (open_part group behind (has.gate ∷ has.rest))

-- a gate that is the last one
pub record IsShutAt (place : ℕ) (bytes : List ℕ) : Type 0 where
  pub mark : ℕ
  pub before : List (List ℕ)
  pub has : HasGroups mark before bytes
  pub at : place ≡ gate_of before

pub open_at : (place : ℕ) (bytes : List ℕ) → IsGateAt place bytes → slice_index bytes place ≡ 79 → (size : ℕ) × IsOpenAt place size bytes
open_at place bytes is open_there = by is.behind is.has
  where
    by : (behind : List (List ℕ)) → HasGroups is.mark (is.before ++ behind) bytes → (size : ℕ) × IsOpenAt place size bytes
    by [] has = absurd (has.closed (sym (shut_byte place is.mark is.before bytes (subst (λ (gs : List (List ℕ)). HasGroups is.mark gs bytes) (append-nil is.before) has) is.at) ∙ open_there))
    by (group ∷ behind) has = (length group, record { mark = is.mark; before = is.before; group = group; behind = behind; has = has; at = is.at; long = refl })

pub shut_at : (place : ℕ) (bytes : List ℕ) → IsGateAt place bytes → slice_index bytes place ≢ 79 → IsShutAt place bytes
shut_at place bytes is shut_there = by is.behind is.has
  where
    by : (behind : List (List ℕ)) → HasGroups is.mark (is.before ++ behind) bytes → IsShutAt place bytes
    by [] has = record { mark = is.mark; before = is.before; has = subst (λ (gs : List (List ℕ)). HasGroups is.mark gs bytes) (append-nil is.before) has; at = is.at }
    by (group ∷ behind) has = absurd (shut_there (open_byte place is.mark is.before group behind bytes has is.at))

-- ---- from one moment to a later one

pub first_gate : (mark : ℕ) (groups : List (List ℕ)) (bytes : List ℕ) → HasGroups mark groups bytes → IsGateAt 15 bytes
first_gate mark groups bytes has = record { mark = mark; before = []; behind = groups; has = has; at = refl }

pub gate_on : (place : ℕ) (one other : List ℕ) → GoesOn one other → IsGateAt place one → IsGateAt place other
gate_on place one other go is =
    let on = go is.mark (is.before ++ is.behind) is.has in
    let more = on.1.0 in record {
      mark = on.0;
      before = is.before;
      behind = is.behind ++ more;
      has = subst (λ (gs : List (List ℕ)). HasGroups on.0 gs other) (append_assoc is.before is.behind more) on.1.1;
      at = is.at;
    }

pub open_on : (place size : ℕ) (one other : List ℕ) → GoesOn one other → IsOpenAt place size one → IsOpenAt place size other
open_on place size one other go is =
    let on = go is.mark (is.before ++ is.group ∷ is.behind) is.has in
    let more = on.1.0 in record {
      mark = on.0;
      before = is.before;
      group = is.group;
      behind = is.behind ++ more;
      has = subst (λ (gs : List (List ℕ)). HasGroups on.0 gs other) (append_assoc is.before (is.group ∷ is.behind) more) on.1.1;
      at = is.at;
      long = is.long;
    }

-- ---- behind an open gate

pub open_gate_at : (place size : ℕ) (bytes : List ℕ) → IsOpenAt place size bytes → IsGateAt place bytes
open_gate_at place size bytes is = record { mark = is.mark; before = is.before; behind = is.group ∷ is.behind; has = is.has; at = is.at }

pub next_at : (place size : ℕ) (bytes : List ℕ) → IsOpenAt place size bytes → IsGateAt (place + 9 + size) bytes
next_at place size bytes is = record {
  mark = is.mark;
  before = is.before ++ is.group ∷ [];
  behind = is.behind;
  has = subst (λ (gs : List (List ℕ)). HasGroups is.mark gs bytes) (sym (append_assoc is.before (is.group ∷ []) is.behind)) is.has;
  at = omega (arith, is.at, is.long, ap length (parts_append is.before (is.group ∷ [])), length-append (parts is.before) (parts (is.group ∷ [])), ap length (append-nil (part_bytes is.group)), length-append (79 ∷ eight (length is.group)) is.group, length-eight (length is.group));
}

pub gate_inside : (place : ℕ) (bytes : List ℕ) → IsGateAt place bytes → place < length bytes
gate_inside place bytes is =
    omega (arith, is.at, length_upto is.mark is.before, ap length (at_gate is.mark is.before is.behind bytes is.has), length-append (upto is.mark is.before) (parts is.behind ++ is.has.gate ∷ is.has.rest), length-append (parts is.behind) (is.has.gate ∷ is.has.rest))

sized_in : (before : List (List ℕ)) (group : List ℕ) (behind : List (List ℕ)) → AllByRecursion (λ g. length g < 2 ^ 64) (before ++ group ∷ behind) → length group < 2 ^ 64
sized_in [] group behind all = all.0
sized_in (b ∷ before) group behind all = sized_in before group behind all.1

pub open_size : (place size : ℕ) (bytes : List ℕ) → IsOpenAt place size bytes → size < 2 ^ 64
open_size place size bytes is = omega (arith, is.long, sized_in is.before is.group is.behind is.has.sized)

pub number_byte : (place size : ℕ) (bytes : List ℕ) → IsOpenAt place size bytes → (k : ℕ) → k < 8 → slice_index bytes (place + 1 + k) ≡ slice_index (eight size) k
number_byte place size bytes is k below =
    let tail = is.group ++ (parts is.behind ++ is.has.gate ∷ is.has.rest) in
    let front = upto is.mark is.before in
    let n = length is.group in
    let split : bytes ≡ (front ++ 79 ∷ []) ++ (eight n ++ tail) =
    at_gate is.mark is.before (is.group ∷ is.behind) bytes is.has
    ∙ ap (λ (l : List ℕ). front ++ l) (open_part is.group is.behind (is.has.gate ∷ is.has.rest) ∙ ap (λ (l : List ℕ). 79 ∷ l) (append_assoc (eight n) is.group (parts is.behind ++ is.has.gate ∷ is.has.rest)))
    ∙ sym (append_assoc front (79 ∷ []) (eight n ++ tail)) in
    byte_behind bytes (front ++ 79 ∷ []) (eight n ++ tail) (place + 1) k split (omega (arith, is.at, length_upto is.mark is.before, length-append front (79 ∷ [])))
    ∙ get_or_append_left (eight n) tail 0 k (omega (arith, below, length-eight n))
    ∙ ap (λ (m : ℕ). slice_index (eight m) k) (sym is.long)

-- a number whose bytes were seen at moments of their own
pub number_is : (held : ℕ → List ℕ) (from place size n : ℕ) → From held from (IsOpenAt place size) → n < 2 ^ 64 → ((k : ℕ) → k < length (eight n) → (m : ℕ) × (from ≤ m) × (slice_index (eight n) k ≡ slice_index (held m) (place + 1 + k))) → n ≡ size
number_is held from place size n open_there fits seen =
    eight_same n size fits (open_size place size (held from) (open_there from (omega arith)))
    (ext_get_or 0 (eight n) (eight size) (length-eight n ∙ sym (length-eight size))
    (λ k below. let at = seen k below in at.2 ∙ number_byte place size (held at.0) (open_there at.0 at.1) k (omega (arith, below, length-eight n))))
