-- Records have one map, or one first Blob that is no entry.
use Rattle.std.proofs.Common.{◌≡◌, ℕ, Bool, List, [], ◌∷◌, ◌++◌, map, option_map, Option, refl, sym, ap, subst, ◌∙◌, drop}
use Rattle.std.specs.Prelude.{codes}
use Rattle.std.specs.List.{AllByRecursion}
use Rattle.fsl_text.specs.Escapes.{escape}
use Rattle.fsl_name.specs.Name.{name_of}
use Rattle.fsl_record.specs.Receipts.{Brought}
use Rattle.fsl_record.specs.declared.Record.{Record}
use Rattle.fsl_record.specs.declared.Record.TheVariants.{Config, Blob, Publish, Shun, Unshun}
use Rattle.fsl_uv.specs.declared.Entry.{Entry}
use Rattle.fsl_uv.specs.Entries.{Version, IsEntry, IsEntryText, entry_text, content}
use Rattle.fsl_uv.specs.Maps.{uv}
use Rattle.fsl_uv.specs.Words.{stamped}
use Rattle.fsl_uv.specs.Stores.{texts, AreEntries, IsUv, IsNoEntry}
use Rattle.fsl_uv.specs.Refusals.{RecordsReadOneWay}
use Rattle.fsl_uv.proofs.Solid.{unique, solid-newline, escape-solid, one-path}
use Rattle.fsl_uv.proofs.EntryLemmas.{is-hash, text-is-parts, stamp-line, one-stamp}
use Rattle.fsl_uv.proofs.OneWay.{same-bytes}
use Rattle.fsl_uv.proofs.RecordLemmas.{texts-append}

abbrev hash : Entry → Option (List ℕ)
hash e = option_map name_of e.bytes

-- a text is of one entry
one-entry : (e f : Entry) → IsEntry e → IsEntry f → entry_text e ≡ entry_text f → e ≡ f
one-entry e f p q is =
    let line =
    unique 10 (codes "uv " ++ stamped e.moment (hash e) (escape e.path)) (content e.bytes) (codes "uv " ++ stamped f.moment (hash f) (escape f.path)) (content f.bytes)
    (stamp-line e.moment (hash e) (escape e.path) p.moment (is-hash e.bytes) (solid-newline (escape e.path) (escape-solid e.path)))
    (stamp-line f.moment (hash f) (escape f.path) q.moment (is-hash f.bytes) (solid-newline (escape f.path) (escape-solid f.path)))
    (sym (text-is-parts e) ∙ is ∙ text-is-parts f) in
    let s = one-stamp e.moment f.moment (hash e) (hash f) (escape e.path) (escape f.path) p.moment q.moment (is-hash e.bytes) (is-hash f.bytes) (ap (drop 3) line.0) in
    let path = one-path e.path f.path s.2 in
    let bytes = same-bytes e.bytes f.bytes s.1 line.1 in
    λ i. record { path = path i; moment = s.0 i; bytes = bytes i }

abbrev first_text : List (List ℕ) → List ℕ
first_text [] = []
first_text (t ∷ ts) = t

abbrev other_texts : List (List ℕ) → List (List ℕ)
other_texts [] = []
other_texts (t ∷ ts) = ts

abbrev is_there : List (List ℕ) → ℕ
is_there [] = 0
is_there (t ∷ ts) = 1

one-entries : (es fs : List Entry) → AllByRecursion IsEntry es → AllByRecursion IsEntry fs → map entry_text es ≡ map entry_text fs → es ≡ fs
one-entries [] [] p q is = refl
one-entries [] (f ∷ fs) p q is = absurd (let x : ◌≡◌ {A = ℕ} 0 1 = ap is_there is in cc)
one-entries (e ∷ es) [] p q is = absurd (let x : ◌≡◌ {A = ℕ} 1 0 = ap is_there is in cc)
one-entries (e ∷ es) (f ∷ fs) p q is =
    let first = one-entry e f p.0 q.0 (ap first_text is) in
    let later = one-entries es fs p.1 q.1 (ap other_texts is) in
    λ i. first i ∷ later i

one-map : (records : List Record) (m n : List (List ℕ × Version)) → IsUv records m → IsUv records n → m ≡ n
one-map records m n u v = u.2 ∙ ap uv (one-entries u.0 v.0 u.1.good v.1.good (sym u.1.texts ∙ v.1.texts)) ∙ sym v.2

-- a text among those of entries is an entry's
in-list : (es fs : List Entry) (bytes : List ℕ) (more : List (List ℕ)) → AllByRecursion IsEntry es → map entry_text es ≡ map entry_text fs ++ bytes ∷ more → (e : Entry) × IsEntryText bytes e
in-list [] [] bytes more p is = absurd (let x : ◌≡◌ {A = ℕ} 0 1 = ap is_there is in cc)
in-list [] (f ∷ fs) bytes more p is = absurd (let x : ◌≡◌ {A = ℕ} 0 1 = ap is_there is in cc)
in-list (e ∷ es) [] bytes more p is = (e, (p.0, sym (ap first_text is)))
in-list (e ∷ es) (f ∷ fs) bytes more p is = in-list es fs bytes more p.1 (ap other_texts is)

not-both : (records : List Record) (m : List (List ℕ × Version)) (name : List ℕ) → IsUv records m → IsNoEntry records name → ⊥
not-both records m name u (front, rest, private, receipt, bytes, entries, layout, before, none) =
    let all : texts records ≡ map entry_text entries ++ bytes ∷ texts rest =
    ap texts layout ∙ texts-append front (Blob private name receipt bytes ∷ rest) ∙ ap (λ (ts : List (List ℕ)). ts ++ bytes ∷ texts rest) before.texts in
    let found = in-list u.0 entries bytes (texts rest) u.1.good (sym u.1.texts ∙ all) in
    none found.0 found.1

-- ---- the first that is none

abbrev AreTexts : List (List ℕ) → Type 0
AreTexts ts = AllByRecursion (λ t. (e : Entry) × IsEntryText t e) ts

texts-of : (es : List Entry) → AllByRecursion IsEntry es → AreTexts (map entry_text es)
texts-of [] p = tt
texts-of (e ∷ es) p = ((e, (p.0, refl)), texts-of es p.1)

texts-in : (records : List Record) (es : List Entry) → AreEntries records es → AreTexts (texts records)
texts-in records es are = subst AreTexts (sym are.texts) (texts-of es are.good)

later-texts : (r : Record) (records : List Record) → AreTexts (texts (r ∷ records)) → AreTexts (texts records)
later-texts (Config c) records h = h
later-texts (Blob private name receipt bytes) records h = h.1
later-texts (Publish name) records h = h
later-texts (Shun name) records h = h
later-texts (Unshun name) records h = h

abbrev first_or : Record → List Record → Record
first_or d [] = d
first_or d (r ∷ records) = r

abbrev others : List Record → List Record
others [] = []
others (r ∷ records) = records

abbrev name_in : Record → List ℕ
name_in (Blob private name receipt bytes) = name
name_in r = []

-- the text of a Blob in front of others is an entry's
first-is : (r : Record) (records : List Record) (private : Bool) (name : List ℕ) (receipt : Option Brought) (bytes : List ℕ) → Blob private name receipt bytes ≡ r → AreTexts (texts (r ∷ records)) → (e : Entry) × IsEntryText bytes e
first-is r records private name receipt bytes is h = (subst (λ (x : Record). AreTexts (texts (x ∷ records))) (sym is) h).0

one-name : (front other rest more : List Record) (p q : Bool) (a b : List ℕ) (x y : Option Brought) (s t : List ℕ) → front ++ Blob p a x s ∷ rest ≡ other ++ Blob q b y t ∷ more → AreTexts (texts front) → AreTexts (texts other)
    → ((e : Entry) → IsEntryText s e → ⊥) → ((e : Entry) → IsEntryText t e → ⊥) → a ≡ b
one-name [] [] rest more p q a b x y s t is h k none never = ap (λ (rs : List Record). name_in (first_or (Blob p a x s) rs)) is
one-name [] (r ∷ other) rest more p q a b x y s t is h k none never =
    let found = first-is r other p a x s (ap (first_or r) is) k in absurd (none found.0 found.1)
one-name (r ∷ front) [] rest more p q a b x y s t is h k none never =
    let found = first-is r front q b y t (sym (ap (first_or r) is)) h in absurd (never found.0 found.1)
one-name (r ∷ front) (u ∷ other) rest more p q a b x y s t is h k none never =
    one-name front other rest more p q a b x y s t (ap others is) (later-texts r front h) (later-texts u other k) none never

same-name : (records : List Record) (a b : List ℕ) → IsNoEntry records a → IsNoEntry records b → a ≡ b
same-name records a b (front, rest, p, x, s, es, layout, are, none) (other, more, q, y, t, fs, spread, others_are, never) =
    one-name front other rest more p q a b x y s t (sym layout ∙ spread) (texts-in front es are) (texts-in other fs others_are) none never

pub records_read_one_way : RecordsReadOneWay
records_read_one_way = record { one_map = one-map; one_name = same-name; not_both = not-both }
