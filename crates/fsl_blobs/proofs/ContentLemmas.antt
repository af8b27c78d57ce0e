-- Contents that are read, or that were kept in memory.
use Rattle.std.proofs.Common.{◌≡◌, ◌⊎◌, inl, inr, ℕ, zero, suc, ◌+◌, ◌-◌, ◌≤◌, ◌^◌, drop, Bool, true, false, List, [], ◌∷◌, length, Option, Some, None, Result, Ok, Err, refl, sym, ap, ◌∙◌, subst, arith}
use Rattle.std.specs.Str.{bytes_eq}
use Rattle.std.specs.Cmp.Lexicographic.{bytes_decides}
use Rattle.std.specs.Prelude.{◌↔◌, IfSome, IsSome, OnOk, OnErr, slice_get, Contains}
use Rattle.std.specs.Option.{option_map, option_map_or}
use Rattle.std.specs.Map.{lookup}
use Rattle.std.specs.FinMap as map_of
use Rattle.std.proofs.lemmas.Bool.{eqb-true}
use Rattle.lru.specs.LruCache.{LruCache, lru_cache, put_entries, promoted}
use Rattle.lru.proofs.CallerLemmas.{Contains-lookup, Contains-promoted, Contains-put_entries}
use Rattle.fsl_disk.specs.Disk.{DiskState, IsModelled, Quiet}
use Rattle.fsl_name.specs.Name.{name_of}
use Rattle.fsl_record.specs.Receipts.{Brought}
use Rattle.fsl_record.specs.declared.Config.{Config}
use Rattle.fsl_record.specs.declared.Record.{Record}
use Rattle.fsl_record.specs.declared.Record.TheVariants as record_of
use Rattle.fsl_journal.specs.Log.{Log}
use Rattle.fsl_journal.specs.Journal.{Unspoilt}
use Rattle.fsl_journal.specs.Places.{HasContent, IsContent, IsAppended}
use Rattle.fsl_blobs.specs.declared.BlobFault.{BlobFault}
use Rattle.fsl_blobs.specs.declared.BlobFault.TheVariants as blob_fault
use Rattle.fsl_blobs.specs.declared.blobs.HeldArtifact.{HeldArtifact}
use Rattle.fsl_blobs.specs.declared.contents.Spot.{Spot}
use Rattle.fsl_blobs.specs.Fold.{Held, contents, place, size_in, IsBlobAt}
use Rattle.fsl_blobs.specs.Seen.{Seen, AreTrue, IsBounded}
use Rattle.fsl_blobs.specs.Kept.{held_at, artifact_of, IsKept, IsFrom, AreFrom, IsSpotOf, IsCachedOf, AreCached}
use Rattle.fsl_blobs.specs.Content.{IsOf, IsContentOf, IsDamaged, ContentFailed, IsStored, AwaitsCommit, IsPendingAt, IsReadOf, ReadFailed, KeepsOrHas}

-- ---- the cache

-- what is found was kept for this record, also before it went first
pub found-kept : (test : ℕ → Bool) (place : ℕ) → ((n : ℕ) → test n ≡ true → place ≡ n) → (old new : List (ℕ × List ℕ)) → new ≡ promoted test old
    → (text : List ℕ) → lookup test new ≡ Some text → Contains old (place, text)
found-kept test place sound old new is text h =
    let it = Contains-lookup test new text h in
    Contains-promoted test old (place, text)
    (subst (λ (es : List (ℕ × List ℕ)). Contains es (place, text)) is (subst (λ (n : ℕ). Contains new (n, text)) (sym (sound it.0 it.2)) it.1))

pub promoted-kept : (test : ℕ → Bool) (old new : List (ℕ × List ℕ)) → new ≡ promoted test old → (e : ℕ × List ℕ) → Contains new e → Contains old e
promoted-kept test old new is e c = Contains-promoted test old e (subst (λ (es : List (ℕ × List ℕ)). Contains es e) is c)

put-keeps : (eq : ℕ → ℕ → Bool) → ((a b : ℕ) → eq a b ≡ true → a ≡ b) → (c : LruCache ℕ (List ℕ)) (place : ℕ) (text : List ℕ) → length text ≤ 2 ^ 20 → KeepsOrHas c.entries place text (put_entries eq c place text)
put-keeps eq sound c place text short e there = elim (Contains-put_entries eq c place text e there) [
  | inl old ↦ inl old
  | inr is ↦ inr (both e is.0 (elim is.1 [ inl same ↦ same | inr key ↦ sym (sound place e.0 key.2) ]), short)
]
  where
    both : (e : ℕ × List ℕ) → e.1 ≡ text → e.0 ≡ place → e ≡ (place, text)
    both e t n = λ i. (n i, t i)

-- whether or not there was memory
pub put-either : (eq : ℕ → ℕ → Bool) → ((a b : ℕ) → eq a b ≡ true → a ≡ b) → (old new : LruCache ℕ (List ℕ)) (place : ℕ) (copy text : List ℕ) → copy ≡ text → length text ≤ 2 ^ 20
    → {T E : Type 0} → (r : Result T E) → OnOk r (new ≡ lru_cache (put_entries eq old place copy) old.cap) → OnErr r (new ≡ old) → KeepsOrHas old.entries place text new.entries
put-either eq sound old new place copy text is short (Ok x) done failed e there =
    (subst (λ (t : List ℕ). KeepsOrHas old.entries place t new.entries) is
    (subst (λ (c : LruCache ℕ (List ℕ)). KeepsOrHas old.entries place copy c.entries) (sym done) (put-keeps eq sound old place copy (subst (λ (t : List ℕ). length t ≤ 2 ^ 20) (sym is) short)))) e there
put-either eq sound old new place copy text is short (Err x) done failed e there = inl (subst (λ (c : LruCache ℕ (List ℕ)). Contains c.entries e) failed there)

-- there may be as many as before
pub put-cap : (eq : ℕ → ℕ → Bool) → ((a b : ℕ) → eq a b ≡ true → a ≡ b) → (old new : LruCache ℕ (List ℕ)) (place : ℕ) (copy : List ℕ) → {T E : Type 0} → (r : Result T E) → OnOk r (new ≡ lru_cache (put_entries eq old place copy) old.cap) → OnErr r (new ≡ old) → new.cap ≡ old.cap
put-cap eq sound old new place copy (Ok x) done failed = ap (λ (c : LruCache ℕ (List ℕ)). c.cap) done
put-cap eq sound old new place copy (Err x) done failed = ap (λ (c : LruCache ℕ (List ℕ)). c.cap) failed

-- what is kept stays little
pub bounded-left : (old : List (ℕ × List ℕ)) (new : LruCache ℕ (List ℕ)) (cap : ℕ) → IsBounded old → ((e : ℕ × List ℕ) → Contains new.entries e → Contains old e) → length new.entries ≤ new.cap → new.cap ≡ cap → cap ≡ 64 → IsBounded new.entries
bounded-left old new cap was left few same most = record { few = omega (arith, few, same, most); short = λ e there. was.short e (left e there) }

pub bounded-more : (old : List (ℕ × List ℕ)) (new : LruCache ℕ (List ℕ)) (place : ℕ) (text : List ℕ) (cap : ℕ) → IsBounded old → KeepsOrHas old place text new.entries → length new.entries ≤ new.cap → new.cap ≡ cap → cap ≡ 64 → IsBounded new.entries
bounded-more old new place text cap was keeps few same most = record {
  few = omega (arith, few, same, most);
  short = λ e there. elim (keeps e there) [
    | inl before ↦ was.short e before
    | inr is ↦ subst (λ (x : ℕ × List ℕ). length x.1 ≤ 2 ^ 20) (sym is.0) is.1
  ];
}

-- ---- a read

abbrev told_or : Option (List ℕ) → Type 0
told_or o = (held : List ℕ) × (o ≡ Some held)

told-some : (o : Option (List ℕ)) → IsSome o → told_or o
told-some None h = cc
told-some (Some held) h = (held, refl)

module _ (disk : DiskState) (log : Log) (at size : ℕ) (name text found : List ℕ) (stored : IsStored log at size name) (sized : length text ≡ size) (of : found ≡ name_of text)
    (held : Unspoilt log disk (λ _. (content : List ℕ) → IsAppended log at content → length content ≡ size → text ≡ content)) (is : Bool) (test : is ≡ bytes_eq found name) where
  modelled : IsModelled disk → (content : List ℕ) → IsAppended log at content → length content ≡ size → text ≡ content
  modelled m = let told = told-some disk.contents m.tells in held (inr m.model) told.0 told.1

  pub read-right : is ≡ true → IsReadOf disk log at size name text
  read-right passes = record {
    named = sym of ∙ (bytes_decides found name).0 (sym test ∙ passes);
    sized = sized;
    same = modelled;
  }

  pub read-wrong : is ≡ false → IsDamaged disk name size found
  read-wrong no_ = record {
    bytes = text;
    sized = sized;
    named = of;
    other = other;
    never = λ m. other (of ∙ ap name_of (modelled m stored.content stored.appended stored.sized) ∙ sym stored.named);
  }
    where
      clash : (b : Bool) → b ≡ false → b ≡ true → ⊥
      clash b f t = cc

      other : found ≡ name → ⊥
      other same = clash (bytes_eq found name) (sym test ∙ no_) ((bytes_decides found name).1 same)

-- bytes that are a content with this name aren't damaged
pub not-damaged : (X : Type 0) (name text found content : List ℕ) → found ≡ name_of text → name ≡ name_of content → text ≡ content → (is : Bool) → is ≡ bytes_eq found name → is ≡ false → X
not-damaged X name text found content of named same is test no_ = absurd (clash (bytes_eq found name) (sym test ∙ no_) ((bytes_decides found name).1 (of ∙ ap name_of same ∙ sym named)))
  where
    clash : (b : Bool) → b ≡ false → b ≡ true → ⊥
    clash b f t = cc

-- ---- one record at one place

same_blob : (p q : Bool) (a b : List ℕ) (r s : Option Brought) (x y : List ℕ) → Some (record_of.Blob p a r x) ≡ Some (record_of.Blob q b s y) → (a ≡ b) × (x ≡ y)
same_blob p q a b r s x y e = (cc, cc)

pub one-blob : (records : List Record) (n : ℕ) (a b x y : List ℕ) → IsBlobAt records n a x → IsBlobAt records n b y → (a ≡ b) × (x ≡ y)
one-blob records n a b x y p q = same_blob p.0 q.0 a b p.1 q.1 x y (sym p.2 ∙ q.2)

-- a content and its place are among those of the records
pub has-content : (records : List Record) (starts : List ℕ) (i : ℕ) (private : Bool) (name : List ℕ) (receipt : Option Brought) (bytes : List ℕ) (at : ℕ)
    → slice_get records i ≡ Some (record_of.Blob private name receipt bytes) → slice_get starts i ≡ Some at → HasContent records starts at bytes
has-content [] starts i private name receipt bytes at p q = absurd cc
has-content (r ∷ rs) [] i private name receipt bytes at p q = absurd cc
has-content (r ∷ rs) (s ∷ ss) zero private name receipt bytes at p q =
    let begins : s ≡ at = cc in
    let blob : record_of.Blob private name receipt bytes ≡ r = cc in
    inl (begins, subst (λ (x : Record). IsContent x bytes) blob refl)
has-content (r ∷ rs) (s ∷ ss) (suc i) private name receipt bytes at p q = inr (has-content rs ss i private name receipt bytes at p q)

-- behind a front of a list
get-drop : {X : Type 0} (k : ℕ) (xs : List X) (n i : ℕ) (x : X) → n ≡ k + i → slice_get xs n ≡ Some x → slice_get (drop k xs) i ≡ Some x
get-drop zero xs n i x is e = subst (λ (m : ℕ). slice_get xs m ≡ Some x) (omega (arith, is)) e
get-drop (suc k) [] n i x is e = absurd cc
get-drop (suc k) (y ∷ ys) zero i x is e = absurd (omega (arith, is))
get-drop (suc k) (y ∷ ys) (suc n) i x is e = get-drop k ys n i x (omega (arith, is)) e

-- ---- a held artifact

module _ (records : List Record) (starts : List ℕ) (found : Config) (es : List (List ℕ × HeldArtifact)) (shuns announced : List (List ℕ)) (kept : IsKept records found es shuns announced) (from : AreFrom records starts es)
    (b : Seen) (view : records ≡ b.records) (view_starts : starts ≡ b.starts) (name : List ℕ) where
  pub none-held : held_at es name ≡ None → map_of.get (contents b.records).held name ≡ None
  none-held none = ap (λ (rs : List Record). map_of.get (contents rs).held name) (sym view) ∙ sym (kept.held name) ∙ ap (option_map artifact_of) none

  -- what is true of the contents that were kept is true of those that are left
  pub true-left : (cached new : List (ℕ × List ℕ)) → cached ≡ b.cached → ((e : ℕ × List ℕ) → Contains new e → Contains cached e) → AreTrue b → (e : ℕ × List ℕ) → Contains new e → (q : List ℕ) × IsBlobAt records e.0 q e.1
  true-left cached new view_cached left all e there =
      let own = all e (subst (λ (es : List (ℕ × List ℕ)). Contains es e) view_cached (left e there)) in
      (own.0, subst (λ (rs : List Record). IsBlobAt rs e.0 own.0 e.1) (sym view) own.1)

  module _ (spot : Spot) (is : IsSpotOf (held_at es name) spot) where
    record There : Type 0 where
      artifact : HeldArtifact
      there : held_at es name ≡ Some artifact
      source : IsFrom records starts name artifact
      place : spot.place ≡ artifact.place
      at : spot.at ≡ artifact.at
      size : spot.size ≡ artifact.size

    it : There
    it = by (held_at es name) refl (from name) is
      where
        by : (o : Option HeldArtifact) → held_at es name ≡ o → IfSome o (IsFrom records starts name) → IsSpotOf o spot → There
        by None e f s = absurd s
        by (Some a) e f s = record { artifact = a; there = e; source = f; place = s.0; at = s.1; size = s.2 }

    held_is : map_of.get (contents b.records).held name ≡ Some (artifact_of it.artifact)
    held_is = ap (λ (rs : List Record). map_of.get (contents rs).held name) (sym view) ∙ sym (kept.held name) ∙ ap (option_map artifact_of) it.there

    abbrev content : List ℕ
    content = it.artifact.bytes.value

    sized : spot.size ≡ length content
    sized = it.size ∙ it.source.size

    pub size-held : spot.size ≡ size_in (contents b.records).held name
    size-held = sized ∙ sym (ap size_or held_is)
      where
        size_or : Option Held → ℕ
        size_or o = option_map_or (λ a. length a.bytes) o 0

    appended_is : (log : Log) → IsOf log b → IsAppended log spot.at content
    appended_is log same =
        subst (λ (rs : List Record). HasContent rs log.places spot.at content) (view ∙ same.records)
        (subst (λ (ss : List ℕ). HasContent records ss spot.at content) (view_starts ∙ same.starts)
        (subst (λ (n : ℕ). HasContent records starts n content) (sym it.at)
        (has-content records starts (it.artifact.place - 1) it.source.blob.0 name it.source.blob.1 content it.artifact.at it.source.blob.2 it.source.start)))

    pub stored : (log : Log) → IsOf log b → IsStored log spot.at spot.size name
    stored log same = record {
      content = content;
      appended = appended_is log same;
      sized = sym sized;
      named = it.source.named;
    }

    -- the record that added it isn't committed
    pub pending : (log : Log) → IsOf log b → AwaitsCommit log b name → IsPendingAt log spot.at spot.size name
    pending log same un =
        let a = it.artifact in
        let source = it.source in
        let index = a.place - 1 - log.stable in
        let added : a.place ≡ un.n = last (held_at es name) a (kept.places name) it.there in
        let here : a.place - 1 ≡ log.stable + index = omega (arith, added, un.behind) in
        record {
          content = content;
          pending =
              subst (λ (rs : List Record). HasContent (drop log.stable rs) (drop log.stable log.places) spot.at content) (view ∙ same.records)
              (subst (λ (ss : List ℕ). HasContent (drop log.stable records) (drop log.stable ss) spot.at content) (view_starts ∙ same.starts)
              (subst (λ (n : ℕ). HasContent (drop log.stable records) (drop log.stable starts) n content) (sym it.at)
              (has-content (drop log.stable records) (drop log.stable starts) index source.blob.0 name source.blob.1 content a.at
              (get-drop log.stable records (a.place - 1) index (record_of.Blob source.blob.0 name source.blob.1 content) here source.blob.2)
              (get-drop log.stable starts (a.place - 1) index a.at here source.start))));
          sized = sym sized;
          named = source.named;
        }
      where
        same_some : (m n : ℕ) → Some m ≡ Some n → m ≡ n
        same_some m n e = cc

        last : (o : Option HeldArtifact) (a : HeldArtifact) → IfSome o (λ x. place records name ≡ Some x.place) → o ≡ Some a → a.place ≡ un.n
        last o a h e =
            let there : place records name ≡ Some a.place = subst (λ (p : Option HeldArtifact). IfSome p (λ x. place records name ≡ Some x.place)) e h in
            same_some a.place un.n (sym there ∙ ap (λ (rs : List Record). place rs name) view ∙ un.added)

    blob : IsBlobAt records spot.place name content
    blob = subst (λ (n : ℕ). IsBlobAt records n name content) (sym it.place) it.source.blob

    pub given-cached : (disk : DiskState) (cached : List (ℕ × List ℕ)) → AreCached records cached → cached ≡ b.cached → (text : List ℕ) → Contains cached (spot.place, text) → IsContentOf disk b name text
    given-cached disk cached all view_cached text there =
        let w = all (spot.place, text) there in
        let one = one-blob records spot.place w.name name w.bytes content w.blob blob in
        record {
          artifact = artifact_of it.artifact;
          held = held_is;
          named = sym w.named ∙ one.0;
          sized = w.sized ∙ ap length one.1;
          same = λ model true_.
              let own = true_ (spot.place, text) (subst (λ (c : List (ℕ × List ℕ)). Contains c (spot.place, text)) view_cached there) in
              (one-blob records spot.place own.0 name text content (subst (λ (rs : List Record). IsBlobAt rs spot.place own.0 text) (sym view) own.1) blob).1;
        }

    module _ (disk : DiskState) (log : Log) (same : IsOf log b) (text : List ℕ) (read : IsReadOf disk log spot.at spot.size name text) where
      is_content : IsModelled disk → text ≡ content
      is_content model = read.same model content (appended_is log same) (sym sized)

      pub given-read : IsContentOf disk b name text
      given-read = record {
        artifact = artifact_of it.artifact;
        held = held_is;
        named = read.named;
        sized = read.sized ∙ sized;
        same = λ model _. is_content model;
      }

      -- it is kept for its record
      pub cached-read : (old new : List (ℕ × List ℕ)) → AreCached records old → KeepsOrHas old spot.place text new → AreCached records new
      cached-read old new all keeps e there = elim (keeps e there) [
        | inl was ↦ all e was
        | inr is ↦ subst (IsCachedOf records) (sym is.0) (record { name = name; bytes = content; blob = blob; named = sym read.named; sized = read.sized ∙ sized })
      ]

      pub true-read : (old new : List (ℕ × List ℕ)) → KeepsOrHas old spot.place text new → IsModelled disk
          → ((e : ℕ × List ℕ) → Contains old e → (q : List ℕ) × IsBlobAt records e.0 q e.1) → (e : ℕ × List ℕ) → Contains new e → (q : List ℕ) × IsBlobAt records e.0 q e.1
      true-read old new keeps model all e there = elim (keeps e there) [
        | inl was ↦ all e was
        | inr is ↦ subst (λ (x : ℕ × List ℕ). (q : List ℕ) × IsBlobAt records x.0 q x.1) (sym is.0) (name, subst (λ (t : List ℕ). IsBlobAt records spot.place name t) (sym (is_content model)) blob)
      ]

    pub not-absent : (r : Result (List ℕ) BlobFault) → (r ≡ Err blob_fault.Absent → ⊥) → (r ≡ Err blob_fault.Absent) ↔ (map_of.get (contents b.records).held name ≡ None)
    not-absent r no_ = ((λ e. absurd (no_ e)), (λ none. absurd (clash (sym held_is ∙ none))))
      where
        clash : Some (artifact_of it.artifact) ≡ None → ⊥
        clash e = cc

    pub failed : (before after : DiskState) (fault : BlobFault) → ReadFailed fault name spot.size before after → ContentFailed fault b name before after
    failed before after blob_fault.Absent f = absurd f
    failed before after blob_fault.Disk f = f
    failed before after (blob_fault.Damaged found) f = (subst (λ (n : ℕ). IsDamaged before name n found) size-held f.0, f.1)
    failed before after blob_fault.Memory f = f

-- a name that isn't held
pub none-uncommitted : (X : Type 0) (log : Log) (b : Seen) (name : List ℕ) → map_of.get (contents b.records).held name ≡ None → AwaitsCommit log b name → X
none-uncommitted X log b name none un = absurd (clash (map_of.get (contents b.records).held name) none un.held)
  where
    clash : (o : Option Held) → o ≡ None → IsSome o → ⊥
    clash None e h = cc
    clash (Some a) e h = cc

abbrev failing : BlobFault → Result (List ℕ) BlobFault
failing fault = Err fault

-- a read doesn't answer that a name isn't held
pub never-absent : (name : List ℕ) (size : ℕ) (before after : DiskState) (fault : BlobFault) → ReadFailed fault name size before after → failing fault ≡ failing blob_fault.Absent → ⊥
never-absent name size before after blob_fault.Absent f e = f
never-absent name size before after blob_fault.Disk f e = cc
never-absent name size before after (blob_fault.Damaged found) f e = cc
never-absent name size before after blob_fault.Memory f e = cc

pub quiet-same : (disk : DiskState) → Quiet disk disk
quiet-same disk = record {
  keeps = record { tells = refl; model = refl };
  contents = refl;
  later = λ _. omega arith;
  images = λ _ c h. h;
  since = λ _ t c le h. inl h;
}
