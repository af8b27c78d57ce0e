-- A front of a file that is longer than 2^20 bytes has the first bad line of the whole file.
use Rattle.std.proofs.Common.{◌≡◌, ℕ, zero, suc, ◌+◌, ◌<◌, ◌≤◌, ◌^◌, min, Bool, true, false, cond, List, [], ◌∷◌, ◌++◌, length, take, refl, sym, ap, subst, ◌∙◌, arith, inl, inr}
use Rattle.std.specs.Prelude.{◌⊎◌, ◌-◌, ◌&&◌, not, nat_le, fold, slice_index_or}
use Rattle.std.specs.List.{onto_first}
use Rattle.std.proofs.lemmas.Bool.{cases_lt}
use Rattle.std.proofs.lemmas.List.{length-append}
use Rattle.fsl_order.proofs.Booleans.{and_false}
use Rattle.fsl_text.specs.Bytes.{is_newline}
use Rattle.fsl_login.specs.declared.User.{User}
use Rattle.fsl_login.specs.UserFiles.{lines_of, bytes_of_lines, is_good_line, is_good_at, IsUsersFile, IsFirstBadLine}
use Rattle.fsl_login.specs.OneReading.{FrontsTell}
use Rattle.fsl_login.proofs.OneReading.{users_read_one_way}

-- the bytes of lines with their newlines
total : List (List ℕ) → ℕ
total [] = 0
total (l ∷ ls) = (length l + 1) + total ls

sum_is : (a : ℕ) (ls : List (List ℕ)) → fold (λ a l. a + (length l + 1)) a ls ≡ a + total ls
unfolding total
sum_is a [] = omega arith
sum_is a (l ∷ ls) = sum_is (a + (length l + 1)) ls ∙ omega arith

total-append : (ls ms : List (List ℕ)) → total (ls ++ ms) ≡ total ls + total ms
unfolding total
total-append [] ms = omega arith
total-append (l ∷ ls) ms = ap (λ (n : ℕ). (length l + 1) + n) (total-append ls ms) ∙ omega arith

-- the lines of a front are the first lines of the file, but for the last of them, which may go on
record Shape (front more : List ℕ) : Type 0 where
  init : List (List ℕ)
  last : List ℕ
  other : List ℕ
  tail : List (List ℕ)
  front_is : lines_of front ≡ init ++ last ∷ []
  whole_is : lines_of (front ++ more) ≡ init ++ other ∷ tail
  longer : length last ≤ length other
  size : total init + length last ≡ length front

some_lines : (bytes : List ℕ) → (l : List ℕ) × (ls : List (List ℕ)) × (lines_of bytes ≡ l ∷ ls)
some_lines [] = ([], [], refl)
some_lines (b ∷ bytes) = by_byte (is_newline b) (some_lines bytes)
  where
    by_byte : (t : Bool) → (l : List ℕ) × (ls : List (List ℕ)) × (lines_of bytes ≡ l ∷ ls) → (l : List ℕ) × (ls : List (List ℕ)) × (cond t ([] ∷ lines_of bytes) (onto_first b (lines_of bytes)) ≡ l ∷ ls)
    by_byte true s = ([], lines_of bytes, refl)
    by_byte false s = (b ∷ s.0, s.1, ap (onto_first b) s.2)

next_line : (b : ℕ) (front more : List ℕ) → is_newline b ≡ true → Shape front more → Shape (b ∷ front) more
unfolding total
next_line b front more e s =
    record {
      init = [] ∷ s.init;
      last = s.last;
      other = s.other;
      tail = s.tail;
      front_is = rw e (ap (λ (ls : List (List ℕ)). [] ∷ ls) s.front_is);
      whole_is = rw e (ap (λ (ls : List (List ℕ)). [] ∷ ls) s.whole_is);
      longer = s.longer;
      size = omega (arith, s.size);
    }

more_of_line : (b : ℕ) (front more : List ℕ) → is_newline b ≡ false → (init : List (List ℕ)) (last other : List ℕ) (tail : List (List ℕ)) → lines_of front ≡ init ++ last ∷ [] → lines_of (front ++ more) ≡ init ++ other ∷ tail → length last ≤ length other → total init + length last ≡ length front → Shape (b ∷ front) more
unfolding total
more_of_line b front more e [] last other tail f w l s =
    record {
      init = [];
      last = b ∷ last;
      other = b ∷ other;
      tail = tail;
      front_is = rw e (ap (onto_first b) f);
      whole_is = rw e (ap (onto_first b) w);
      longer = omega (arith, l);
      size = omega (arith, s);
    }
more_of_line b front more e (i ∷ init) last other tail f w l s =
    record {
      init = (b ∷ i) ∷ init;
      last = last;
      other = other;
      tail = tail;
      front_is = rw e (ap (onto_first b) f);
      whole_is = rw e (ap (onto_first b) w);
      longer = l;
      size = omega (arith, s);
    }

shape : (front more : List ℕ) → Shape front more
unfolding total
shape [] more = let s = some_lines more in record { init = []; last = []; other = s.0; tail = s.1; front_is = refl; whole_is = s.2; longer = omega arith; size = omega arith }
shape (b ∷ front) more = by_byte (is_newline b) refl (shape front more)
  where
    by_byte : (t : Bool) → is_newline b ≡ t → Shape front more → Shape (b ∷ front) more
    by_byte true e s = next_line b front more e s
    by_byte false e s = more_of_line b front more e s.init s.last s.other s.tail s.front_is s.whole_is s.longer s.size

-- ---- lines of a common beginning

same_take : (n : ℕ) (init rest : List (List ℕ)) → n ≤ length init → take n (init ++ rest) ≡ take n init
same_take zero init rest le = refl
same_take (suc n) [] rest le = absurd (omega (arith, le))
same_take (suc n) (i ∷ init) rest le = ap (λ (ls : List (List ℕ)). i ∷ ls) (same_take n init rest (omega (arith, le)))

same_line : (n : ℕ) (init rest : List (List ℕ)) → n < length init → slice_index_or (init ++ rest) n [] ≡ slice_index_or init n []
same_line n [] rest lt = absurd (omega (arith, lt))
same_line zero (i ∷ init) rest lt = refl
same_line (suc n) (i ∷ init) rest lt = same_line n init rest (omega (arith, lt))

-- a line of the common beginning is good or bad in both, where both are long
over : (len s : ℕ) → 2 ^ 20 < len → nat_le (min len s) (2 ^ 20) ≡ nat_le s (2 ^ 20)
over len s lt = grind (arith, lt)

good_in : (bytes : List ℕ) (init rest : List (List ℕ)) (n : ℕ) → lines_of bytes ≡ init ++ rest → 2 ^ 20 < length bytes → 0 < n → n ≤ length init → is_good_at bytes n ≡ (is_good_line (slice_index_or init (n - 1) []) (take (n - 1) init) && nat_le (fold (λ a l. a + (length l + 1)) 0 (take n init)) (2 ^ 20))
good_in bytes init rest n e long some le =
    let line : slice_index_or (lines_of bytes) (n - 1) [] ≡ slice_index_or init (n - 1) [] = ap (λ (ls : List (List ℕ)). slice_index_or ls (n - 1) []) e ∙ same_line (n - 1) init rest (omega (arith, some, le)) in
    let before : take (n - 1) (lines_of bytes) ≡ take (n - 1) init = ap (take (n - 1)) e ∙ same_take (n - 1) init rest (omega (arith, le)) in
    let upto : take n (lines_of bytes) ≡ take n init = ap (take n) e ∙ same_take n init rest le in
    (λ i. is_good_line (line i) (before i) && nat_le (min (length bytes) (fold (λ a l. a + (length l + 1)) 0 (upto i))) (2 ^ 20))
    ∙ ap (λ (b : Bool). is_good_line (slice_index_or init (n - 1) []) (take (n - 1) init) && b) (over (length bytes) (fold (λ a l. a + (length l + 1)) 0 (take n init)) long)

pub take_one : (init : List (List ℕ)) (l : List ℕ) (rest : List (List ℕ)) → take (suc (length init)) (init ++ l ∷ rest) ≡ init ++ l ∷ []
take_one [] l rest = refl
take_one (i ∷ init) l rest = ap (λ (ls : List (List ℕ)). i ∷ ls) (take_one init l rest)

too_far : (len s : ℕ) → 2 ^ 20 < len → 2 ^ 20 < s → nat_le (min len s) (2 ^ 20) ≡ false
too_far len s p q = grind (arith, p, q)

-- the line behind the common beginning reaches too far
bad_behind : (bytes : List ℕ) (init : List (List ℕ)) (l : List ℕ) (rest : List (List ℕ)) → lines_of bytes ≡ init ++ l ∷ rest → 2 ^ 20 < length bytes → 2 ^ 20 < total init + length l + 1 → is_good_at bytes (length init + 1) ≡ false
unfolding total
bad_behind bytes init l rest e long far =
    let upto : take (length init + 1) (lines_of bytes) ≡ init ++ l ∷ [] = ap (take (length init + 1)) e ∙ (let n : length init + 1 ≡ suc (length init) = omega arith in ap (λ (m : ℕ). take m (init ++ l ∷ rest)) n) ∙ take_one init l rest in
    let sum : fold (λ a l. a + (length l + 1)) 0 (take (length init + 1) (lines_of bytes)) ≡ total init + (length l + 1) = ap (λ (ls : List (List ℕ)). fold (λ a l. a + (length l + 1)) 0 ls) upto ∙ sum_is 0 (init ++ l ∷ []) ∙ (let t = total-append init (l ∷ []) in omega (arith, t)) in
    let b : nat_le (bytes_of_lines (length init + 1) bytes) (2 ^ 20) ≡ false = too_far (length bytes) (fold (λ a l. a + (length l + 1)) 0 (take (length init + 1) (lines_of bytes))) long (omega (arith, sum, far)) in
    ap (λ (t : Bool). is_good_line (slice_index_or (lines_of bytes) (length init + 1 - 1) []) (take (length init + 1 - 1) (lines_of bytes)) && t) b
    ∙ and_false (is_good_line (slice_index_or (lines_of bytes) (length init + 1 - 1) []) (take (length init + 1 - 1) (lines_of bytes)))

module _ (front more : List ℕ) (long : 2 ^ 20 < length front) where
  whole_long : 2 ^ 20 < length (front ++ more)
  whole_long = let l = length-append front more in omega (arith, l, long)

  good_alike : (s : Shape front more) (n : ℕ) → 0 < n → n ≤ length s.init + 1 → is_good_at (front ++ more) n ≡ is_good_at front n
  good_alike s n some le = by_place (cases_lt n (length s.init + 1))
    where
      by_place : (n < length s.init + 1) ⊎ (length s.init + 1 ≤ n) → is_good_at (front ++ more) n ≡ is_good_at front n
      by_place (inl lt) =
          good_in (front ++ more) s.init (s.other ∷ s.tail) n s.whole_is whole_long some (omega (arith, lt))
          ∙ sym (good_in front s.init (s.last ∷ []) n s.front_is long some (omega (arith, lt)))
      by_place (inr ge) =
          let same : length s.init + 1 ≡ n = omega (arith, le, ge) in
          subst (λ (m : ℕ). is_good_at (front ++ more) m ≡ is_good_at front m) same
          (bad_behind (front ++ more) s.init s.other s.tail s.whole_is whole_long (omega (arith, s.size, s.longer, long))
          ∙ sym (bad_behind front s.init s.last [] s.front_is long (omega (arith, s.size, long))))

  count : (s : Shape front more) → length (lines_of front) ≡ length s.init + 1
  count s = ap length s.front_is ∙ length-append s.init (s.last ∷ [])

  count_whole : (s : Shape front more) → length s.init + 1 ≤ length (lines_of (front ++ more))
  count_whole s = let a = ap length s.whole_is in let b = length-append s.init (s.other ∷ s.tail) in omega (arith, a, b)

  told : (s : Shape front more) (n : ℕ) → IsFirstBadLine front n → IsFirstBadLine (front ++ more) n
  told s n h =
      let c = count s in
      let w = count_whole s in (
        h.0,
        omega (arith, h.1, c, w),
        ap not (good_alike s n h.0 (omega (arith, h.1, c))) ∙ h.2,
        λ m lt. good_alike s (m + 1) (omega arith) (omega (arith, lt, h.1, c)) ∙ h.3 m lt,
      )

  not_good : (s : Shape front more) (users : List User) → IsUsersFile front users → ⊥
  not_good s users h =
      let c = count s in
      let t = sym (h.0 (length s.init) (omega (arith, c))) ∙ bad_behind front s.init s.last [] s.front_is long (omega (arith, s.size, long)) in cc

  found : (s : Shape front more) → ((users : List User) × IsUsersFile front users) ⊎ ((n : ℕ) × IsFirstBadLine front n) → (n : ℕ) × IsFirstBadLine front n × IsFirstBadLine (front ++ more) n
  found s (inl u) = absurd (not_good s u.0 u.1)
  found s (inr f) = (f.0, f.1, told s f.0 f.1)

pub fronts_tell : FrontsTell
fronts_tell front more long = found front more long (shape front more) (users_read_one_way.some front)
