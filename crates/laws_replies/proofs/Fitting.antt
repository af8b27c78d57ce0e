-- A reply is shorter than a message may be.
use Rattle.std.specs.Prelude.{◌≡◌, ◌⊎◌, ◌||◌, ◌&&◌, ℕ, suc, ◌+◌, ◌*◌, ◌^◌, ◌<◌, ◌≤◌, nat_le, Bool, true, false, not, List, [], ◌∷◌, ◌++◌, length, map, take, drop, filter, filter_map, flat_map, option_to_list, option_map, Option, Some, None, is_some, codes, decimal, if◌then◌else◌}
use Rattle.std.proofs.Common.{refl, sym, ap, subst, ◌∙◌, inl, inr, arith, length-append}
use Rattle.std.specs.List.{list_any, AllByRecursion}
use Rattle.std.specs.Str.{bytes_eq}
use Rattle.std.proofs.lemmas.Bool.{or_cases}
use Rattle.std.proofs.lemmas.Fmt.{length-decimal-le}
use Rattle.std.proofs.lemmas.List.{length-map, length-take}
use Rattle.std.proofs.lemmas.List.Folds.{list_any-append}
use Rattle.fsl_order.specs.Names.{has}
use Rattle.fsl_order.specs.Rows.{ascending}
use Rattle.fsl_order.proofs.AscendingLemmas.{has-ascending}
use Rattle.fsl_text.specs.Escapes.{escape}
use Rattle.fsl_text.specs.Limits.{most_of_artifact, most_of_message, most_names}
use Rattle.fsl_name.specs.Name.{IsName, name_text}
use Rattle.fsl_name.proofs.ReadAgain.{length_digits}
use Rattle.fsl_wire.specs.declared.Caps.{Caps}
use Rattle.fsl_wire.specs.declared.WireCard.{WireCard}
use Rattle.fsl_answer.specs.Replies.{line, error_line, push_line, igot_line, gimme_line, file_lines, seqno_line, reply_text, taken_after}
use Rattle.fsl_answer.specs.Refusals.{is_push}
use Rattle.fsl_answer.specs.Contents.{State, Held, is_pull, first_clone, first_of, asks_from, names_by, sends_private, public_igots, private_igots, igots, gimmes, gimme_of, each_once, sendable, candidates, sent_file, taken_count, place_or_zero, sequel, lists_of}
use Rattle.fsl_answer.specs.Keeps.{held_names, IsState}
use Rattle.fsl_answer.specs.Fits.{IsWithin, RepliesFit}
use Rattle.laws_replies.specs.Fits.{SessionRepliesFit}
use Rattle.fsl_answer.proofs.Keeping.{public_among, private_among}
use Rattle.laws_replies.proofs.Among.{all_take, all_drop, all_filter, all_found, all_given, all_map, all_unmapped, all_append, all_weaker, at_name, each_name, bounded}
use Rattle.laws_replies.proofs.Rising.{no_more}

-- ---- lines

two : (a b : List ℕ) → length (line (a ∷ b ∷ [])) ≡ length a + length b + 2
two a b = omega (arith, length-append (a ++ 32 ∷ b) (10 ∷ []), length-append a (32 ∷ b))

three : (a b c : List ℕ) → length (line (a ∷ b ∷ c ∷ [])) ≡ length a + length b + length c + 3
three a b c = omega (arith, length-append (a ++ 32 ∷ (b ++ 32 ∷ c)) (10 ∷ []), length-append a (32 ∷ (b ++ 32 ∷ c)), length-append b (32 ∷ c))

forty : (name : List ℕ) → IsName name → length (name_text name) ≡ 40
forty name h = omega (arith, length_digits name, h.0)

error_fits : (text : List ℕ) → length (escape text) ≤ 53 → length (error_line text) ≤ 60
error_fits text h = omega (arith, two (codes "error") (escape text), h)

push_fits : (c : List ℕ × List ℕ) → IsName c.0 × IsName c.1 → length (push_line c) ≤ 87
push_fits c h = omega (arith, three (codes "push") (name_text c.0) (name_text c.1), forty c.0 h.0, forty c.1 h.1)

igot_fits : (a : List ℕ × Bool) → IsName a.0 → length (igot_line a) ≤ 48
igot_fits a h = by a.1
  where
    by : (b : Bool) → length (line (codes "igot" ∷ name_text a.0 ∷ (if b then codes "1" ∷ [] else []))) ≤ 48
    by true = omega (arith, three (codes "igot") (name_text a.0) (codes "1"), forty a.0 h)
    by false = omega (arith, two (codes "igot") (name_text a.0), forty a.0 h)

gimme_fits : (name : List ℕ) → IsName name → length (gimme_line name) ≤ 47
gimme_fits name h = omega (arith, two (codes "gimme") (name_text name), forty name h)

seqno_fits : (n : ℕ) → n < 2 ^ 64 → length (seqno_line n) ≤ 33
seqno_fits n h = omega (arith, two (codes "clone_seqno") (decimal n), length-decimal-le 20 n (omega arith) (omega arith) h)

-- ---- files

-- a held artifact within the limits
IsSmall : Held → Type 0
IsSmall h = IsName h.name × (length h.bytes ≤ most_of_artifact) × (h.place < 2 ^ 64)

are_small : (hs : List Held) → AllByRecursion IsName (map (λ h. h.name) hs) → AllByRecursion (λ h. length h.bytes ≤ most_of_artifact) hs → AllByRecursion (λ h. h.place < 2 ^ 64) hs → AllByRecursion IsSmall hs
unfolding IsSmall
are_small [] named sizes places = tt
are_small (h ∷ hs) named sizes places = ((named.0, sizes.0, places.0), are_small hs named.1 sizes.1 places.1)

-- the line of a file
abbrev named : Held → List ℕ
named h = line (codes "file" ∷ name_text h.name ∷ decimal (length h.bytes) ∷ [])

named_fits : (h : Held) → IsSmall h → length (named h) ≤ 55
unfolding IsSmall
named_fits h small =
    let digits = length-decimal-le 8 (length h.bytes) (omega arith) (omega (arith, small.1)) (omega (arith, small.1)) in
    omega (arith, digits, three (codes "file") (name_text h.name) (decimal (length h.bytes)), forty h.name small.0)

parts_long : (front line bytes : List ℕ) → length (front ++ line ++ bytes ++ 10 ∷ []) ≡ length front + length line + length bytes + 1
parts_long front line bytes = omega (arith, length-append (front ++ line ++ bytes) (10 ∷ []), length-append (front ++ line) bytes, length-append front line)

private_fits : length (line (codes "private" ∷ [])) ≤ 8
private_fits = omega (arith, length-append (codes "private") (10 ∷ []))

behind : (front : List ℕ) (h : Held) → length front ≤ 8 → IsSmall h → length (front ++ named h ++ h.bytes ++ 10 ∷ []) ≤ length h.bytes + 64
behind front h few small = omega (arith, few, named_fits h small, parts_long front (named h) h.bytes)

-- a file takes 64 bytes beside its content at most: its line, the newline behind it, and the line of a private card
file_fits : (h : Held) → IsSmall h → length (file_lines (sent_file h)) ≤ length h.bytes + 64
file_fits h small = by h.private
  where
    by : (b : Bool) → length ((if b then line (codes "private" ∷ []) else []) ++ named h ++ h.bytes ++ 10 ∷ []) ≤ length h.bytes + 64
    by true = behind (line (codes "private" ∷ [])) h private_fits small
    by false = behind [] h (omega arith) small

-- what files take until their sizes reach the budget, the last of them whole
abbrev most_sent : ℕ
most_sent = 2 ^ 24 + 1000063

size_of : (h : Held) → IsSmall h → length h.bytes ≤ most_of_artifact
unfolding IsSmall
size_of h small = small.1

under : (sum : ℕ) → nat_le 1000000 sum ≡ false → sum < 1000000
under sum e = grind (arith, e)

-- the lines of the first of some artifacts
abbrev first_lines : ℕ → List Held → List ℕ
first_lines n hs = flat_map file_lines (map sent_file (take n hs))

abbrev sizes : List Held → List ℕ
sizes hs = map (λ h. length h.bytes) hs

one_more : (n : ℕ) → 1 + n ≡ suc n
one_more n = omega arith

grown : (n : ℕ) (x : Held) (hs : List Held) → first_lines (1 + n) (x ∷ hs) ≡ file_lines (sent_file x) ++ first_lines n hs
grown n x hs = ap (λ (k : ℕ). first_lines k (x ∷ hs)) (one_more n)

one_fits : (sum n : ℕ) (x : Held) (hs : List Held) → IsSmall x → sum + length x.bytes + 64 + length (first_lines n hs) ≤ most_sent → sum + length (first_lines (1 + n) (x ∷ hs)) ≤ most_sent
one_fits sum n x hs small rest =
    subst (λ (text : List ℕ). sum + length text ≤ most_sent) (sym (grown n x hs))
    (omega (arith, rest, file_fits x small, length-append (file_lines (sent_file x)) (first_lines n hs)))

files_fit : (sum : ℕ) (hs : List Held) → AllByRecursion IsSmall hs → sum ≤ most_sent → sum + length (first_lines (taken_after sum (sizes hs)) hs) ≤ most_sent
files_fit sum [] small h = omega (arith, h)
files_fit sum (x ∷ hs) small h = by (nat_le 1000000 sum) refl (λ le. files_fit (sum + length x.bytes + 64) hs small.1 le)
  where
    by : (b : Bool) → nat_le 1000000 sum ≡ b
        → (sum + length x.bytes + 64 ≤ most_sent → sum + length x.bytes + 64 + length (first_lines (taken_after (sum + length x.bytes + 64) (sizes hs)) hs) ≤ most_sent)
        → sum + length (first_lines (if b then 0 else 1 + taken_after (sum + length x.bytes + 64) (sizes hs)) (x ∷ hs)) ≤ most_sent
    by true e again = omega (arith, h)
    by false e again =
        let few = under sum e in
        one_fits sum (taken_after (sum + length x.bytes + 64) (sizes hs)) x hs small.0 (again (omega (arith, few, size_of x small.0)))

-- ---- sums

alone : {X : Type 0} (f : X → List ℕ) (x : X) (k : ℕ) → length (f x) ≤ k → length (flat_map f (x ∷ [])) ≤ k
alone f x k h = omega (arith, h, length-append (f x) [])

six : (a b c d e f : List ℕ) → length (a ++ b ++ c ++ d ++ e ++ f) ≡ length a + length b + length c + length d + length e + length f
six a b c d e f = omega (arith, length-append (a ++ b ++ c ++ d ++ e) f, length-append (a ++ b ++ c ++ d) e, length-append (a ++ b ++ c) d, length-append (a ++ b) c, length-append a b)

-- ---- the lists of a reply

module _ (s : State) (message : List WireCard) (caps : Caps) (notices : List (List ℕ)) (state : IsState s) (within : IsWithin s [])
    (short : AllByRecursion (λ n. length (escape n) ≤ 53) notices) where
  small : AllByRecursion IsSmall s.held
  small = are_small s.held within.named within.sizes within.places

  abbrev Is : List ℕ → Type 0
  Is q = has (held_names s) q ≡ true

  -- names by privacy are held
  by_in : (private : Bool) (q : List ℕ) → has (names_by private s) q ≡ true → Is q
  by_in private q e =
      let kept : Held → Bool = λ h. if private then h.private else not h.private in
      let held : AllByRecursion (λ (h : Held). Is h.name) s.held = all_unmapped Is (λ (h : Held). h.name) s.held (each_name Is (held_names s) (λ n there. there)) in
      at_name Is (names_by private s) q (all_map Is (λ (h : Held). h.name) (filter kept s.held) (all_filter (λ (h : Held). Is h.name) kept s.held held)) e

  igots_held : (q : List ℕ) → has (public_igots s message ++ private_igots s message caps) q ≡ true → has (held_names s) q ≡ true
  igots_held q e = by (or_cases (has (public_igots s message) q) (has (private_igots s message caps) q) (sym (list_any-append (bytes_eq q) (public_igots s message) (private_igots s message caps)) ∙ e))
    where
      among : (has (names_by false s) q ≡ true) ⊎ (has s.unclustered q ≡ true) → has (held_names s) q ≡ true
      among (inl e) = by_in false q e
      among (inr e) = by_in false q (state.unclustered q e)

      by : (has (public_igots s message) q ≡ true) ⊎ (has (private_igots s message caps) q ≡ true) → has (held_names s) q ≡ true
      by (inl e) = among (public_among s message caps q e)
      by (inr e) = by_in true q (private_among s message caps q e)

  abbrev all : List (List ℕ)
  all = public_igots s message ++ private_igots s message caps

  abbrev flagged : List ℕ → List ℕ × Bool
  flagged name = (name, has (private_igots s message caps) name)

  told_named : AllByRecursion (λ (a : List ℕ × Bool). IsName a.0) (igots s message caps)
  told_named =
      let named : AllByRecursion IsName (ascending all) = each_name IsName (ascending all) (λ q e. at_name IsName (held_names s) q within.named (igots_held q (sym (has-ascending all q) ∙ e))) in
      all_map (λ (a : List ℕ × Bool). IsName a.0) (λ name. (name, has (private_igots s message caps) name)) (ascending all) named

  few_told : length (igots s message caps) ≤ most_names
  few_told = omega (
    arith,
    length-map (ascending all) flagged,
    no_more all (held_names s) igots_held,
    length-map s.held (λ (h : Held). h.name),
    within.count,
  )

  wanted_named : AllByRecursion IsName (gimmes s message)
  wanted_named = by (list_any is_push message)
    where
      both : (q : List ℕ) → has (s.wants ++ s.announced) q ≡ true → IsName q
      both q e = at_name IsName (s.wants ++ s.announced) q (all_append IsName s.wants s.announced within.wanted within.known) e

      by : (b : Bool) → AllByRecursion IsName (if b then ascending (s.wants ++ s.announced) else [])
      by true = each_name IsName (ascending (s.wants ++ s.announced)) (λ q e. both q (sym (has-ascending (s.wants ++ s.announced) q) ∙ e))
      by false = tt

  few_wanted : length (gimmes s message) ≤ most_names + 65536
  few_wanted = by (list_any is_push message)
    where
      by : (b : Bool) → length (if b then ascending (s.wants ++ s.announced) else []) ≤ most_names + 65536
      by true = omega (arith, no_more (s.wants ++ s.announced) (s.wants ++ s.announced) (λ q e. e), length-append s.wants s.announced, within.few_wants, within.few_announced)
      by false = omega arith

  -- the artifacts that may be sent are held
  may_be_sent : (from : Option ℕ) → AllByRecursion IsSmall (candidates s message caps from)
  may_be_sent (Some place) = all_filter IsSmall (λ h. not h.private && nat_le place h.place) s.held small
  may_be_sent None = by (list_any is_pull message || is_some (first_clone message))
    where
      by : (b : Bool) → AllByRecursion IsSmall (if b then filter_map (sendable s (sends_private message caps)) (each_once [] (filter_map gimme_of message)) else [])
      by true =
          all_given IsSmall (sendable s (sends_private message caps)) (each_once [] (filter_map gimme_of message))
          (λ name h e. all_found IsSmall (λ (h : Held). bytes_eq h.name name && (sends_private message caps || not h.private)) s.held h small e)
      by false = tt

  abbrev found : List Held
  found = candidates s message caps (asks_from (first_clone message))

  -- where a clone goes on
  place_of : (hs : List Held) → AllByRecursion IsSmall hs → place_or_zero (first_of hs) < 2 ^ 64
  unfolding IsSmall
  place_of [] h = omega arith
  place_of (x ∷ hs) h = h.0.2

  sequel_small : (from : Option ℕ) → AllByRecursion (λ n. n < 2 ^ 64) (option_to_list (option_map (λ place. sequel found) from))
  sequel_small None = tt
  sequel_small (Some place) = (place_of (drop (taken_count found) found) (all_drop IsSmall (taken_count found) found (may_be_sent (asks_from (first_clone message)))), tt)

  codes_named : (clone : Option (ℕ × ℕ)) → AllByRecursion (λ (c : List ℕ × List ℕ). IsName c.0 × IsName c.1) (option_to_list (option_map (λ numbers. (s.server, s.project)) clone))
  codes_named None = tt
  codes_named (Some numbers) = ((within.server_code, within.project_code), tt)

  errors_fit : length (flat_map error_line (take 100 notices)) ≤ 6000
  errors_fit =
      let few : length (take 100 notices) ≤ 100 = omega (arith, length-take 100 notices) in
      let each = all_weaker (λ n. length (error_line n) ≤ 60) (λ n. length (escape n) ≤ 53) error_fits (take 100 notices) (all_take (λ n. length (escape n) ≤ 53) 100 notices short) in
      omega (arith, few, bounded error_line 60 (take 100 notices) each)

  codes_fit : (clone : Option (ℕ × ℕ)) → length (flat_map push_line (option_to_list (option_map (λ numbers. (s.server, s.project)) clone))) ≤ 87
  codes_fit None = omega arith
  codes_fit (Some numbers) = alone push_line (s.server, s.project) 87 (push_fits (s.server, s.project) (within.server_code, within.project_code))

  igots_fit : length (flat_map igot_line (igots s message caps)) ≤ 48 * most_names
  igots_fit =
      let each = all_weaker (λ a. length (igot_line a) ≤ 48) (λ (a : List ℕ × Bool). IsName a.0) igot_fits (igots s message caps) told_named in
      omega (arith, few_told, bounded igot_line 48 (igots s message caps) each)

  gimmes_fit : length (flat_map gimme_line (gimmes s message)) ≤ 47 * (most_names + 65536)
  gimmes_fit =
      let each = all_weaker (λ n. length (gimme_line n) ≤ 47) IsName gimme_fits (gimmes s message) wanted_named in
      omega (arith, few_wanted, bounded gimme_line 47 (gimmes s message) each)

  sent_fit : length (first_lines (taken_count found) found) ≤ most_sent
  sent_fit =
      let none : 0 ≤ most_sent = omega arith in
      let all_sent : 0 + length (first_lines (taken_count found) found) ≤ most_sent = files_fit 0 found (may_be_sent (asks_from (first_clone message))) none in
      omega (arith, all_sent)

  sequel_fits : (from : Option ℕ) → length (flat_map seqno_line (option_to_list (option_map (λ place. sequel found) from))) ≤ 33
  sequel_fits None = omega arith
  sequel_fits (Some place) = alone seqno_line (sequel found) 33 (seqno_fits (sequel found) (sequel_small (Some place)).0)

  reply_fits : length (reply_text (lists_of s message caps notices)) < most_of_message
  reply_fits =
      let clone = first_clone message in
      let e = flat_map error_line (take 100 notices) in
      let c = flat_map push_line (option_to_list (option_map (λ (numbers : ℕ × ℕ). (s.server, s.project)) clone)) in
      let q = flat_map seqno_line (option_to_list (option_map (λ (place : ℕ). sequel found) (asks_from clone))) in
      let whole : length (reply_text (lists_of s message caps notices)) ≡ length e + length c + length (flat_map igot_line (igots s message caps)) + length (flat_map gimme_line (gimmes s message)) + length (first_lines (taken_count found) found) + length q
      = six e c (flat_map igot_line (igots s message caps)) (flat_map gimme_line (gimmes s message)) (first_lines (taken_count found) found) q in
      omega (arith, whole, errors_fit, codes_fit clone, igots_fit, gimmes_fit, sent_fit, sequel_fits (asks_from clone))

pub session_replies_fit : SessionRepliesFit
session_replies_fit s message caps notices state within short = reply_fits s message caps notices state within short

pub replies_fit : RepliesFit
replies_fit s message caps notices state within =
    reply_fits s message caps notices state
    (record {
      count = within.count;
      sizes = within.sizes;
      places = within.places;
      few_wants = within.few_wants;
      few_announced = within.few_announced;
      server_code = within.server_code;
      project_code = within.project_code;
      named = within.named;
      wanted = within.wanted;
      known = within.known;
      short = tt;
    })
    (all_weaker (λ n. length (escape n) ≤ 53) (λ n. length (escape n) ≤ 52) (λ n h. omega (arith, h)) notices within.short)
