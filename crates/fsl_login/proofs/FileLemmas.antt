-- How a users file is read line by line.
use Rattle.std.proofs.Common.{◌≡◌, ℕ, suc, ◌+◌, ◌-◌, ◌<◌, ◌≤◌, ◌^◌, min, Bool, true, false, not, cond, List, [], ◌∷◌, ◌++◌, length, take, drop, position, Option, Some, None, refl, sym, ap, subst, ◌∙◌, arith, append_assoc, inl, inr}
use Rattle.std.specs.Prelude.{◌⊎◌, ◌&&◌, ◌||◌, nat_le, sum_by, option_to_list, slice_index_or, IsTrue}
use Rattle.std.specs.List.{position_or_len, cons_option, IsDistinct}
use Rattle.std.proofs.lemmas.Bool.{cases_lt}
use Rattle.std.proofs.lemmas.List.{length-append, length-drop, length-take-le, take_rest, take_at, drop-drop}
use Rattle.std.proofs.lemmas.List.Elements.{All-from_get_or, filter_map-append}
use Rattle.std.proofs.lemmas.List.Quantifiers.{position-Some}
use Rattle.std.proofs.lemmas.List.Splits.{slice_split_none, slice_split_first}
use Rattle.std.proofs.lemmas.List.Sums.{fails_before_first, sum_by_push}
use Rattle.fsl_order.specs.Rows.{AreDistinct}
use Rattle.fsl_order.proofs.Booleans.{and_false}
use Rattle.fsl_text.specs.Bytes.{is_newline}
use Rattle.fsl_text.specs.Tokens.{tokens_of}
use Rattle.fsl_wire.proofs.TokenLemmas.{no_place, place_found}
use Rattle.fsl_login.specs.declared.User.{User}
use Rattle.fsl_login.specs.UserFiles.{lines_of, is_meaningless, is_new_user, is_good_line, is_good_at, users_in, user_in, AreUsers, IsUsersFile, IsFirstBadLine}
use Rattle.fsl_login.specs.Reading.{is_new_among, is_good_among, IsCut, IsReadTo}
use Rattle.fsl_login.proofs.Fronts.{take_one}

-- ---- the line at a place

last_split : (rest : List ℕ) → position is_newline rest ≡ None → lines_of rest ≡ rest ∷ []
last_split rest h =
    let past = no_place is_newline rest h in
    slice_split_none is_newline rest (All-from_get_or (λ b. is_newline b ≡ false) rest 0 (λ k lt. fails_before_first is_newline rest k 0 (omega arith)))

line_split : (rest : List ℕ) (end : ℕ) → position is_newline rest ≡ Some end → lines_of rest ≡ take end rest ∷ lines_of (drop (end + 1) rest)
line_split rest end h =
    let p = position-Some is_newline rest end 0 h in
    let within : end < length rest = p.0 in
    let at : end ≡ position_or_len is_newline rest = place_found is_newline rest end h in
    slice_split_first is_newline rest 0 (omega arith)
    ∙ ap (λ (k : ℕ). take k rest ∷ lines_of (drop (k + 1) rest)) (sym at)

pub cut_last : (bytes : List ℕ) (at : ℕ) → at ≤ length bytes → position is_newline (take (length bytes - at) (drop at bytes)) ≡ None → IsCut bytes at (take (length bytes - at) (drop at bytes)) (length bytes) true
cut_last bytes at le h =
    let here = take_rest bytes at in
    let len = ap length here ∙ length-drop at bytes in
    record {
      split = ap lines_of (sym here) ∙ last_split (take (length bytes - at) (drop at bytes)) h;
      reach = omega (arith, len, le);
      short = omega (arith, len);
      within = omega arith;
      exact = λ e. cc;
    }

pub cut_line : (bytes : List ℕ) (at place : ℕ) → at ≤ length bytes → position is_newline (take (length bytes - at) (drop at bytes)) ≡ Some place → IsCut bytes at (take place (take (length bytes - at) (drop at bytes))) (at + place + 1) false
cut_line bytes at place le h =
    let rest = take (length bytes - at) (drop at bytes) in
    let here : rest ≡ drop at bytes = take_rest bytes at in
    let len = ap length here ∙ length-drop at bytes in
    let p = position-Some is_newline rest place 0 h in
    let within : place < length rest = p.0 in
    let text = length-take-le place rest (omega (arith, within)) in
    let e : at + (place + 1) ≡ at + place + 1 = omega arith in
    record {
      split =
          ap lines_of (sym here) ∙ line_split rest place h
          ∙ ap (λ (t : List ℕ). take place rest ∷ lines_of t) (ap (λ (t : List ℕ). drop (place + 1) t) here ∙ drop-drop (place + 1) at bytes ∙ ap (λ (k : ℕ). drop k bytes) e);
      reach = omega (arith, len, within, text, le);
      short = omega (arith, text);
      within = omega (arith, len, within, le);
      exact = λ e. omega (arith, text);
    }

-- ---- good lines

same_new : (ts : List (List ℕ)) (earlier : List (List ℕ)) → is_new_user ts earlier ≡ is_new_among ts (users_in earlier)
same_new [] earlier = refl
same_new (a ∷ []) earlier = refl
same_new (a ∷ b ∷ []) earlier = refl
same_new (a ∷ b ∷ c ∷ []) earlier = refl
same_new (a ∷ b ∷ c ∷ d ∷ ts) earlier = refl

line_index : (done more : List (List ℕ)) (text : List ℕ) → slice_index_or (done ++ text ∷ more) (length done) [] ≡ text
line_index [] more text = refl
line_index (t ∷ done) more text = line_index done more text

-- whether a line is good, by what stands before it
good_here : (bytes text : List ℕ) (done more : List (List ℕ)) → lines_of bytes ≡ done ++ text ∷ more
    → is_good_at bytes (length done + 1) ≡ (is_good_line text done && nat_le (min (length bytes) (sum_by (λ line. length line + 1) (done ++ text ∷ []))) (2 ^ 20))
good_here bytes text done more e =
    let n : length done + 1 - 1 ≡ length done = omega arith in
    let k : length done + 1 ≡ suc (length done) = omega arith in
    let line : slice_index_or (lines_of bytes) (length done + 1 - 1) [] ≡ text = (λ i. slice_index_or (e i) (n i) []) ∙ line_index done more text in
    let before : take (length done + 1 - 1) (lines_of bytes) ≡ done = (λ i. take (n i) (e i)) ∙ take_at done (text ∷ more) (length done) refl in
    let upto : take (length done + 1) (lines_of bytes) ≡ done ++ text ∷ [] = (λ i. take (k i) (e i)) ∙ take_one done text more in
    λ i. is_good_line (line i) (before i) && nat_le (min (length bytes) (sum_by (λ line. length line + 1) (upto i))) (2 ^ 20)

kept_or_not : (o : Option User) → cons_option o [] ≡ option_to_list o
kept_or_not None = refl
kept_or_not (Some user) = refl

long : (n : ℕ) → 2 ^ 20 < n → nat_le n (2 ^ 20) ≡ false
long n h = grind (arith, h)

short : (n : ℕ) → n ≤ 2 ^ 20 → nat_le n (2 ^ 20) ≡ true
short n h = grind (arith, h)

none_differ : AreDistinct []
unfolding IsDistinct
none_differ = tt

pub start_read : (bytes : List ℕ) (users : List User) → users ≡ [] → IsReadTo bytes 0 1 users
start_read bytes users e =
    record {
      done = [];
      split = refl;
      size = refl;
      count = refl;
      same = e;
      good = λ m lt. absurd (omega (arith, lt));
      kept = subst AreUsers (sym e) (record { short = tt; differ = none_differ });
      within = omega arith;
      room = omega arith;
    }

module _ (bytes text : List ℕ) (at number end : ℕ) (last : Bool) (users : List User) (r : IsReadTo bytes at number users) (cut : IsCut bytes at text end last) where
  abbrev more : List (List ℕ)
  more = cond last [] (lines_of (drop end bytes))

  split_here : lines_of bytes ≡ r.done ++ text ∷ more
  split_here = r.split ∙ ap (λ (ls : List (List ℕ)). r.done ++ ls) cut.split

  good_now : is_good_at bytes number ≡ (is_good_among text users && nat_le end (2 ^ 20))
  good_now =
      let count = r.count in
      let size = r.size in
      let reach = cut.reach in
      let sum = sum_by_push (λ (line : List ℕ). length line + 1) r.done text in
      let ends : min (length bytes) (sum_by (λ line. length line + 1) (r.done ++ text ∷ [])) ≡ end = omega (arith, sum, size, reach) in
      ap (λ (n : ℕ). is_good_at bytes n) count ∙ good_here bytes text r.done more split_here
      ∙ (λ i. (is_meaningless (tokens_of text) || same_new (tokens_of text) r.done i) && nat_le (ends i) (2 ^ 20))
      ∙ ap (λ (us : List User). is_good_among text us && nat_le end (2 ^ 20)) (sym r.same)

  bad_here : is_good_at bytes number ≡ false → IsFirstBadLine bytes number
  bad_here e =
      let count = r.count in
      let all = ap length split_here ∙ length-append r.done (text ∷ more) in
      (omega (arith, count), omega (arith, count, all), ap not e, λ m lt. r.good m (omega (arith, count, lt)))

  pub too_long : 2 ^ 20 < end → IsFirstBadLine bytes number
  too_long lt = bad_here (good_now ∙ ap (λ (b : Bool). is_good_among text users && b) (long end lt) ∙ and_false (is_good_among text users))

  pub not_good : (b : Bool) → b ≡ is_good_among text users → b ≡ false → IsFirstBadLine bytes number
  not_good b e f = bad_here (good_now ∙ ap (λ (b : Bool). b && nat_le end (2 ^ 20)) (sym e ∙ f))

  module _ (b : Bool) (good : b ≡ is_good_among text users) (yes : b ≡ true) (le : end ≤ 2 ^ 20) (new : List User) (added : new ≡ users ++ option_to_list (user_in text)) where
    good_is : is_good_at bytes number ≡ true
    good_is = good_now ∙ (λ i. (sym good ∙ yes) i && short end le i)

    upto : (m : ℕ) → m < length r.done + 1 → IsTrue (is_good_at bytes (m + 1))
    upto m lt = by_place (cases_lt m (length r.done))
      where
        by_place : (m < length r.done) ⊎ (length r.done ≤ m) → IsTrue (is_good_at bytes (m + 1))
        by_place (inl l) = r.good m l
        by_place (inr l) =
            let count = r.count in
            let e : number ≡ m + 1 = omega (arith, count, l, lt) in
            subst (λ (n : ℕ). is_good_at bytes n ≡ true) e good_is

    users_are : new ≡ users_in (r.done ++ text ∷ [])
    users_are =
        added ∙ (λ i. r.same i ++ sym (kept_or_not (user_in text)) i) ∙ sym (filter_map-append user_in r.done (text ∷ []))

    pub file_read : last ≡ true → IsUsersFile bytes new
    file_read e =
        let all : lines_of bytes ≡ r.done ++ text ∷ [] = split_here ∙ ap (λ (l : Bool). r.done ++ text ∷ cond l [] (lines_of (drop end bytes))) e in
        let n = ap length all ∙ length-append r.done (text ∷ []) in
        (λ m lt. upto m (omega (arith, n, lt)), users_are ∙ ap users_in (sym all))

    pub next_read : AreUsers new → last ≡ false → IsReadTo bytes end (number + 1) new
    next_read kept e =
        let count = r.count in
        let size = r.size in
        let reach = cut.reach in
        let room = r.room in
        let exact = cut.exact e in
        let n = length-append r.done (text ∷ []) in
        let sum = sum_by_push (λ (line : List ℕ). length line + 1) r.done text in
        record {
          done = r.done ++ text ∷ [];
          split =
              split_here ∙ ap (λ (l : Bool). r.done ++ text ∷ cond l [] (lines_of (drop end bytes))) e
              ∙ sym (append_assoc r.done (text ∷ []) (lines_of (drop end bytes)));
          size = omega (arith, sum, size, exact);
          count = omega (arith, count, n);
          same = users_are;
          good = λ m lt. upto m (omega (arith, n, lt));
          kept = kept;
          within = cut.within;
          room = omega (arith, room, exact);
        }
