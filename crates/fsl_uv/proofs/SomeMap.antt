-- Records have a map, or a first Blob that is no entry.
use Rattle.std.proofs.Common.{◌≡◌, ◌⊎◌, inl, inr, ℕ, suc, Bool, true, false, List, [], ◌∷◌, ◌++◌, length, drop, option_map, Option, Some, None, if◌then◌else◌, refl, sym, ap, subst, ◌∙◌, append_assoc, arith}
use Rattle.std.specs.Prelude.{◌==◌, ◌||◌, codes}
use Rattle.std.specs.List.{list_all}
use Rattle.std.specs.Str.{bytes_eq}
use Rattle.std.specs.Cmp.Lexicographic.{bytes_decides}
use Rattle.std.proofs.lemmas.Bool.{eqb-true}
use Rattle.std.proofs.lemmas.List.{append-nil}
use Rattle.fsl_order.proofs.Booleans.{first_holds}
use Rattle.fsl_text.specs.Escapes.{escape, unescape}
use Rattle.fsl_text.proofs.Unescaping.{unescape-escape}
use Rattle.fsl_name.specs.Name.{name_of, name_text, is_name_digit}
use Rattle.fsl_date.specs.Moment.{moment_text, date_in}
use Rattle.fsl_record.specs.Receipts.{Brought}
use Rattle.fsl_record.specs.declared.Record.{Record}
use Rattle.fsl_record.specs.declared.Record.TheVariants.{Config, Blob, Publish, Shun, Unshun}
use Rattle.fsl_record.proofs.Deciding.{Decided, decide_by, decide_bool, decide_le, decide_text}
use Rattle.fsl_uv.specs.declared.Entry.{Entry}
use Rattle.fsl_uv.specs.Entries.{Version, IsEntry, IsEntryText, entry_text, content, is_path, most_of_content}
use Rattle.fsl_uv.specs.Cards.{hashed}
use Rattle.fsl_uv.specs.Words.{stands, stamped}
use Rattle.fsl_uv.specs.Syncing.{with_entry}
use Rattle.fsl_uv.specs.Stores.{IsUv, IsNoEntry}
use Rattle.fsl_uv.specs.Refusals.{RecordsReadSomeWay}
use Rattle.fsl_uv.proofs.Digests.{name-is}
use Rattle.fsl_uv.proofs.Solid.{Lacks, solid-space, solid-newline, moment-again, moment-solid, hash-solid, escape-solid, name-digits}
use Rattle.fsl_uv.proofs.EntryLemmas.{is-hash, text-is-parts, stamp-line}
use Rattle.fsl_uv.proofs.RecordLemmas.{no-entries, other-record, more-record}

-- ---- the entry that a text would be

-- what stands before the first such byte, and behind it
abbrev pub before : ℕ → List ℕ → List ℕ
before c [] = []
before c (b ∷ text) = if b == c then [] else b ∷ before c text

abbrev pub behind : ℕ → List ℕ → List ℕ
behind c [] = []
behind c (b ∷ text) = if b == c then text else behind c text

same-byte : (c : ℕ) → (c == c) ≡ true
same-byte c = grind arith

not-first : (a b : Bool) → (a || b) ≡ false → a ≡ false
not-first true b h = h
not-first false b h = refl

not-second : (a b : Bool) → (a || b) ≡ false → b ≡ false
not-second true b h = absurd cc
not-second false b h = h

pub before-is : (c : ℕ) (a r : List ℕ) → Lacks c a → before c (a ++ c ∷ r) ≡ a
before-is c [] r lacks = ap (λ (t : Bool). if t then [] else c ∷ before c r) (same-byte c)
before-is c (x ∷ a) r lacks =
    ap (λ (t : Bool). if t then [] else x ∷ before c (a ++ c ∷ r)) (not-first (x == c) (stands c a) lacks) ∙ ap (λ (l : List ℕ). x ∷ l) (before-is c a r (not-second (x == c) (stands c a) lacks))

pub behind-is : (c : ℕ) (a r : List ℕ) → Lacks c a → behind c (a ++ c ∷ r) ≡ r
behind-is c [] r lacks = ap (λ (t : Bool). if t then r else behind c r) (same-byte c)
behind-is c (x ∷ a) r lacks = ap (λ (t : Bool). if t then a ++ c ∷ r else behind c (a ++ c ∷ r)) (not-first (x == c) (stands c a) lacks) ∙ behind-is c a r (not-second (x == c) (stands c a) lacks)

abbrev pub or_zero : Option ℕ → ℕ
or_zero None = 0
or_zero (Some n) = n

abbrev held_as : List ℕ → List ℕ → Option (List ℕ)
held_as hash held = if bytes_eq hash (codes "-") then None else Some held

abbrev of_words : List ℕ → List ℕ → Entry
of_words words held = record { path = unescape (behind 32 (behind 32 words)); moment = or_zero (date_in (before 32 words)); bytes = held_as (before 32 (behind 32 words)) held }

abbrev entry_in : List ℕ → Entry
entry_in text = of_words (drop 3 (before 10 text)) (behind 10 text)

-- a content that a hash is of
held-again : (b : Option (List ℕ)) → held_as (hashed (option_map name_of b)) (content b) ≡ b
held-again None = refl
held-again (Some b) = by (bytes_eq (name_text (name_of b)) (codes "-")) refl
  where
    by : (t : Bool) → bytes_eq (name_text (name_of b)) (codes "-") ≡ t → held_as (name_text (name_of b)) b ≡ Some b
    by false e = ap (λ (t : Bool). if t then None else Some b) e
    by true e =
        let digits = name-digits (name_of b) (name-is b) in
        let forty : length (name_text (name_of b)) ≡ 40 = eqb-true (length (name_text (name_of b))) 40 (first_holds (length (name_text (name_of b)) == 40) (list_all is_name_digit (name_text (name_of b))) digits) in
        let one = ap length ((bytes_decides (name_text (name_of b)) (codes "-")).0 e) in
        absurd (omega (arith, forty, one))

words-again : (f : Entry) → IsEntry f → of_words (stamped f.moment (option_map name_of f.bytes) (escape f.path)) (content f.bytes) ≡ f
unfolding moment_text
words-again f good =
    let h = option_map name_of f.bytes in
    let rest = hashed h ++ 32 ∷ escape f.path in
    let first = before-is 32 (moment_text f.moment) rest (solid-space (moment_text f.moment) (moment-solid f.moment good.moment)) in
    let others = behind-is 32 (moment_text f.moment) rest (solid-space (moment_text f.moment) (moment-solid f.moment good.moment)) in
    let second = ap (before 32) others ∙ before-is 32 (hashed h) (escape f.path) (solid-space (hashed h) (hash-solid h (is-hash f.bytes))) in
    let third = ap (behind 32) others ∙ behind-is 32 (hashed h) (escape f.path) (solid-space (hashed h) (hash-solid h (is-hash f.bytes))) in
    let path = ap unescape third ∙ unescape-escape f.path in
    let moment = ap (λ (w : List ℕ). or_zero (date_in w)) first ∙ ap or_zero (moment-again f.moment good.moment) in
    let bytes = ap (λ (w : List ℕ). held_as w (content f.bytes)) second ∙ held-again f.bytes in
    λ i. record { path = path i; moment = moment i; bytes = bytes i }

entry-again : (f : Entry) → IsEntry f → entry_in (entry_text f) ≡ f
unfolding moment_text
entry-again f good =
    let line = codes "uv " ++ stamped f.moment (option_map name_of f.bytes) (escape f.path) in
    let lacks : Lacks 10 line = stamp-line f.moment (option_map name_of f.bytes) (escape f.path) good.moment (is-hash f.bytes) (solid-newline (escape f.path) (escape-solid f.path)) in
    let first : before 10 (entry_text f) ≡ line = ap (before 10) (text-is-parts f) ∙ before-is 10 line (content f.bytes) lacks in
    let rest : behind 10 (entry_text f) ≡ content f.bytes = ap (behind 10) (text-is-parts f) ∙ behind-is 10 line (content f.bytes) lacks in
    (λ i. of_words (drop 3 (first i)) (rest i)) ∙ words-again f good

-- ---- whether a text is an entry's

decide-entry : (e : Entry) → Decided (IsEntry e)
decide-entry e =
    decide_by (decide_bool (is_path e.path) true) (λ path.
    decide_by (decide_le (suc e.moment) 315569520000000) (λ moment.
    decide_by (decide_le (length (content e.bytes)) most_of_content) (λ size. inl (record { path = path; moment = moment; size = size }))
    (λ n h. n h.size)) (λ n h. n h.moment)) (λ n h. n h.path)

decide-as : (text : List ℕ) (e : Entry) → Decided (IsEntryText text e)
decide-as text e = decide_by (decide-entry e) (λ good. decide_by (decide_text text (entry_text e)) (λ is. inl (good, is)) (λ n h. n h.1)) (λ n h. n h.0)

decide-text : (text : List ℕ) → Decided ((e : Entry) × IsEntryText text e)
decide-text text = by (decide-as text (entry_in text))
  where
    by : Decided (IsEntryText text (entry_in text)) → Decided ((e : Entry) × IsEntryText text e)
    by (inl h) = inl (entry_in text, h)
    by (inr none) = inr (λ found. none (subst (IsEntryText text) (sym (ap entry_in found.1.1 ∙ entry-again found.0 found.1.0)) found.1))

-- ---- records, one after another

abbrev Found : List Record → Type 0
Found records = ((m : List (List ℕ × Version)) × IsUv records m) ⊎ ((name : List ℕ) × IsNoEntry records name)

by_text : (front rest : List Record) (private : Bool) (name : List ℕ) (receipt : Option Brought) (bytes : List ℕ) (m : List (List ℕ × Version)) → IsUv front m → Decided ((e : Entry) × IsEntryText bytes e)
    → ((e : Entry) → IsEntryText bytes e → Found ((front ++ Blob private name receipt bytes ∷ []) ++ rest)) → Found (front ++ Blob private name receipt bytes ∷ rest)
by_text front rest private name receipt bytes m u (inl found) go = subst Found (append_assoc front (Blob private name receipt bytes ∷ []) rest) (go found.0 found.1)
by_text front rest private name receipt bytes m u (inr none) go = inr (name, (front, rest, private, receipt, bytes, u.0, refl, u.1, λ e is. none (e, is)))

walk : (front rest : List Record) (m : List (List ℕ × Version)) → IsUv front m → Found (front ++ rest)
walk front [] m u = subst Found (sym (append-nil front)) (inl (m, u))
walk front (Blob private name receipt bytes ∷ rest) m u =
    by_text front rest private name receipt bytes m u (decide-text bytes) (λ e is. walk (front ++ Blob private name receipt bytes ∷ []) rest (with_entry m e) (more-record front m private name receipt bytes e is u))
walk front (Config c ∷ rest) m u =
    subst Found (append_assoc front (Config c ∷ []) rest) (walk (front ++ Config c ∷ []) rest m (other-record front m (Config c) (λ private name receipt bytes e. cc) u))
walk front (Publish name ∷ rest) m u =
    subst Found (append_assoc front (Publish name ∷ []) rest) (walk (front ++ Publish name ∷ []) rest m (other-record front m (Publish name) (λ private n receipt bytes e. cc) u))
walk front (Shun name ∷ rest) m u =
    subst Found (append_assoc front (Shun name ∷ []) rest) (walk (front ++ Shun name ∷ []) rest m (other-record front m (Shun name) (λ private n receipt bytes e. cc) u))
walk front (Unshun name ∷ rest) m u =
    subst Found (append_assoc front (Unshun name ∷ []) rest) (walk (front ++ Unshun name ∷ []) rest m (other-record front m (Unshun name) (λ private n receipt bytes e. cc) u))

pub records_read_some_way : RecordsReadSomeWay
records_read_some_way records = walk [] records [] no-entries
