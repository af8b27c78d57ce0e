-- What the artifacts and the Config that records leave meet, so that their records can be written again.
use Rattle.std.proofs.Common.{◌≡◌, ℕ, ◌+◌, ◌<◌, ◌≤◌, ◌++◌, append_assoc, get_or, take, Bool, true, false, cond, List, [], ◌∷◌, length, Option, Some, None, refl, sym, ap, subst, ◌∙◌}
use Rattle.std.specs.Prelude.{◌&&◌, if◌then◌else◌, IfSome, filter_map, fold, option_to_list}
use Rattle.std.specs.List.{AllByRecursion, cons_option}
use Rattle.std.specs.Option.{option_map, option_map_or, option_or}
use Rattle.std.specs.FinMap as map_of
use Rattle.std.specs.FinSet as set
use Rattle.std.proofs.lemmas.Bool.{and_parts}
use Rattle.std.proofs.lemmas.List.{append-nil, take_more}
use Rattle.std.proofs.lemmas.List.Concat.{flat_map-append}
use Rattle.std.proofs.lemmas.List.Elements.{filter_map-append}
use Rattle.fsl_name.specs.Name.{name_of}
use Rattle.fsl_text.specs.Limits.{most_of_artifact}
use Rattle.fsl_order.specs.Names.{bytes_cmp}
use Rattle.fsl_record.specs.Receipts.{Brought}
use Rattle.fsl_record.specs.declared.Config.{Config}
use Rattle.fsl_record.specs.declared.Record.{Record}
use Rattle.fsl_record.specs.declared.Record.TheVariants as record_of
use Rattle.fsl_record.specs.Records.{AreFields, AreRecords, IsFit, IsWritable, record_bytes, records_bytes}
use Rattle.fsl_blobs.specs.Fold.{Held, HeldSet, Contents, contents, nothing, after, received, is_new}
use Rattle.fsl_blobs.specs.Held.{state_of}
use Rattle.fsl_blobs.specs.declared.Placed.{Placed}
use Rattle.fsl_blobs.specs.declared.BlobState.TheVariants as blob
use Rattle.fsl_blobs.specs.Kept.{is_same}
use Rattle.fsl_blobs.proofs.KeptLemmas.{is_same-means, shown, blob-get, publish-get, shun-get}
use Rattle.fsl_repo.specs.Arriving.{is_private}
use Rattle.fsl_repo.specs.Contents.{IsContentNow}
use Rattle.fsl_repo.specs.Machine.{State, now}
use Rattle.fsl_scrub.specs.Copying.{IsBlobNow}
use Rattle.fsl_scrub.specs.Scrubbed.{blob_of, unsized}

-- ---- held artifacts

abbrev pub IsFitHeld : List ℕ → Option Held → Type 0
IsFitHeld name o = IfSome o (λ a. (name ≡ name_of a.bytes) × (length a.bytes ≤ most_of_artifact))

abbrev AreFit : HeldSet → Type 0
AreFit held = (name : List ℕ) → IsFitHeld name (map_of.get held name)

fit_shown : (name q : List ℕ) (o : Option Held) → IsFitHeld q o → IsFitHeld q (option_map (shown name q) o)
fit_shown name q None h = tt
fit_shown name q (Some a) h = elim (is_same name q) as (λ b. (q ≡ name_of (if b then record a { private = false } else a).bytes) × (length (if b then record a { private = false } else a).bytes ≤ most_of_artifact)) [ true ↦ h | false ↦ h ]

fit_less : (b : Bool) (q : List ℕ) (o : Option Held) → IsFitHeld q o → IsFitHeld q (cond b None o)
fit_less true q o h = tt
fit_less false q o h = h

fit_after : (c : Contents) (r : Record) → IsFit r → AreFit c.held → AreFit (after c r).held
fit_after c (record_of.Config config) fit h = h
fit_after c (record_of.Blob private name receipt bytes) fit h = λ q.
    subst (IsFitHeld q) (sym (blob-get c name private receipt bytes q))
    (elim (is_same name q && is_new c name) as (λ b. (is_same name q && is_new c name) ≡ b → IsFitHeld q (cond b (Some (record { private = private; bytes = bytes })) (map_of.get c.held q))) [
      | true ↦ λ e. (sym (is_same-means name q (and_parts (is_same name q) (is_new c name) e).0) ∙ fit.1.0, fit.1.1)
      | false ↦ λ _. h q
    ] refl)
fit_after c (record_of.Publish name) fit h = λ q. subst (IsFitHeld q) (sym (publish-get c name q)) (fit_shown name q (map_of.get c.held q) (h q))
fit_after c (record_of.Shun name) fit h = λ q. subst (IsFitHeld q) (sym (shun-get c name q)) (fit_less (is_same name q) q (map_of.get c.held q) (h q))
fit_after c (record_of.Unshun name) fit h = h

fit_fold : (records : List Record) (c : Contents) → AllByRecursion IsFit records → AreFit c.held → AreFit (fold after c records).held
fit_fold [] c fit h = h
fit_fold (r ∷ records) c fit h = fit_fold records (after c r) fit.1 (fit_after c r fit.0 h)

all_fit : (records : List Record) → AreRecords records → AllByRecursion IsFit records
all_fit [] none = absurd none
all_fit (r ∷ records) are = are.2

pub held_fit : (records : List Record) → AreRecords records → (name : List ℕ) → IsFitHeld name (map_of.get (contents records).held name)
held_fit records are = fit_fold records nothing (all_fit records are) (λ q. subst (IsFitHeld q) (sym (map_of.get-empty bytes_cmp q)) tt)

-- ---- the Config

abbrev HasFields : Option Config → Type 0
HasFields o = IfSome o (λ config. AreFields config.fields)

first_fits : (o : Option Config) (config : Config) → AreFields config.fields → HasFields o → HasFields (option_or o (Some config))
first_fits None config fit h = fit
first_fits (Some c) config fit h = h

either : (b : Bool) (c d : Contents) → HasFields c.config → HasFields d.config → HasFields (cond b c d).config
either true c d h k = h
either false c d h k = k

published : (o : Option Held) (f : Held → Contents) (d : Contents) → ((a : Held) → HasFields (f a).config) → HasFields d.config → HasFields (option_map_or f o d).config
published None f d h k = k
published (Some a) f d h k = h a

config_after : (c : Contents) (r : Record) → IsFit r → HasFields c.config → HasFields (after c r).config
config_after c (record_of.Config config) fit h = first_fits c.config config fit.1 h
config_after c (record_of.Blob private name receipt bytes) fit h =
    either (is_new c name) (record c { held = map_of.insert c.held name (record { private = private; bytes = bytes }); receipts = received c.receipts name receipt }) c h h
config_after c (record_of.Publish name) fit h = published (map_of.get c.held name) (λ a. record c { held = map_of.insert c.held name (record a { private = false }) }) c (λ a. h) h
config_after c (record_of.Shun name) fit h = h
config_after c (record_of.Unshun name) fit h = h

config_fold : (records : List Record) (c : Contents) → AllByRecursion IsFit records → HasFields c.config → HasFields (fold after c records).config
config_fold [] c fit h = h
config_fold (r ∷ records) c fit h = config_fold records (after c r) fit.1 (config_after c r fit.0 h)

pub config_fit : (records : List Record) (config : Config) → AreRecords records → (contents records).config ≡ Some config → AreFields config.fields
config_fit records config are is = subst HasFields is (config_fold records nothing (all_fit records are) tt)

-- ---- the record of a held artifact

private_is : (p : Bool) (n : ℕ) → is_private (if p then blob.Private n else blob.Public n) ≡ p
private_is true n = refl
private_is false n = refl

abbrev told_by : Option Held → Bool → Bool
told_by o b = is_private (option_map_or (λ a. if a.private then blob.Private (length a.bytes) else blob.Public (length a.bytes)) o (if b then blob.Shunned else blob.Absent))

fits_at : (name : List ℕ) (o : Option Held) (a : Held) → o ≡ Some a → IsFitHeld name o → (name ≡ name_of a.bytes) × (length a.bytes ≤ most_of_artifact)
fits_at name o a is fit = subst (IsFitHeld name) is fit

pub blob_is : (s : State) (name text : List ℕ) (private : Bool) (receipt : Option Brought) → IsFitHeld name (map_of.get (now s).held name) → IsContentNow s name text
    → private ≡ is_private (state_of (now s) name) → receipt ≡ map_of.get (now s).receipts name → IsBlobNow s name (record_of.Blob private name receipt text)
blob_is s name text private receipt fit is told had =
    let c = now s in
    let a = is.artifact in
    let flag : private ≡ a.private = told ∙ ap (λ (o : Option Held). told_by o (set.contains c.shunned name)) is.held ∙ private_is a.private (length a.bytes) in
    let named = (fits_at name (map_of.get c.held name) a is.held fit).0 in (
      record_of.Blob a.private name (map_of.get c.receipts name) a.bytes,
      ap (option_map (λ (a : Held). record_of.Blob a.private name (map_of.get c.receipts name) a.bytes)) is.held,
      (text, (λ i. record_of.Blob (flag i) name (had i) text), record { named = is.named ∙ named; sized = is.sized; same = is.same }),
    )

pub blob_fit : (s : State) (name text : List ℕ) (private : Bool) (receipt : Option Brought) → IsFitHeld name (map_of.get (now s).held name) → IsContentNow s name text → IsWritable (record_of.Blob private name receipt text)
blob_fit s name text private receipt fit is =
    (sym is.named, subst (λ (n : ℕ). n ≤ most_of_artifact) (sym is.sized) (fits_at name (map_of.get (now s).held name) is.artifact is.held fit).1)

-- ---- one more

cons_none : (o : Option Record) → cons_option o [] ≡ option_to_list o
cons_none None = refl
cons_none (Some r) = refl

-- the Blobs of one name more
pub blobs_more : (c : Contents) (names : List Placed) (i : ℕ) (p : Placed) → i < length names → p ≡ get_or names i p
    → filter_map (λ p. blob_of c p.name) (take i names) ++ option_to_list (blob_of c p.name) ≡ filter_map (λ p. blob_of c p.name) (take (i + 1) names)
blobs_more c names i p lt is =
    ap (λ (l : List Record). filter_map (λ p. blob_of c p.name) (take i names) ++ l) (sym (cons_none (blob_of c p.name)))
    ∙ sym (filter_map-append (λ p. blob_of c p.name) (take i names) (p ∷ []))
    ∙ ap (λ (l : List Placed). filter_map (λ p. blob_of c p.name) l) (ap (λ (q : Placed). take i names ++ q ∷ []) is ∙ sym (take_more names i p lt))

-- ---- a group

-- the parts of a group, as they are written one after another
pub group_is : (o : Option Config) (config : Config) (blobs shuns : List Record) → o ≡ Some config
    → (0 ∷ 0 ∷ 0 ∷ 0 ∷ 0 ∷ 0 ∷ 0 ∷ 0 ∷ []) ++ record_bytes (record_of.Config config) ++ records_bytes blobs ++ records_bytes shuns ++ 67 ∷ []
    ≡ unsized (option_to_list (option_map record_of.Config o) ++ blobs ++ shuns)
group_is o config blobs shuns is =
    ap (λ (l : List ℕ). (0 ∷ 0 ∷ 0 ∷ 0 ∷ 0 ∷ 0 ∷ 0 ∷ 0 ∷ []) ++ l ++ records_bytes blobs ++ records_bytes shuns ++ 67 ∷ [])
    (sym (append-nil (record_bytes (record_of.Config config))) ∙ ap (λ (o : Option Config). records_bytes (option_to_list (option_map record_of.Config o))) (sym is))
    ∙ regrouped
  where
    regrouped : (0 ∷ 0 ∷ 0 ∷ 0 ∷ 0 ∷ 0 ∷ 0 ∷ 0 ∷ []) ++ records_bytes (option_to_list (option_map record_of.Config o)) ++ records_bytes blobs ++ records_bytes shuns ++ 67 ∷ []
        ≡ unsized (option_to_list (option_map record_of.Config o) ++ blobs ++ shuns)
    regrouped = simp (flat_map-append, append_assoc)
