-- Records that are read one after another.
use Rattle.std.proofs.Common.{◌≡◌, ℕ, suc, zero, ◌+◌, ◌<◌, Bool, List, [], ◌∷◌, ◌++◌, length, take, Some, refl, sym, ap, ◌∙◌, subst, append_assoc, append-nil, length-append, arith}
use Rattle.std.specs.Prelude.{◌&&◌, slice_get}
use Rattle.std.specs.List.{AllByRecursion}
use Rattle.std.specs.FinSet as set
use Rattle.fsl_order.specs.Names.{bytes_cmp}
use Rattle.fsl_order.proofs.Orders.{bytes_cmp-IsTotalOrder, bytes_cmp-IsAntisymmetric}
use Rattle.fsl_record.specs.declared.Record.{Record}
use Rattle.fsl_record.specs.Records.{IsFit, IsWritable, AreRecords}
use Rattle.fsl_blobs.specs.Fold.{Contents, contents, is_new}
use Rattle.fsl_blobs.specs.Held.{still_new}
use Rattle.fsl_blobs.specs.Seen.{Seen, applied}

still_none : (c : Contents) → still_new c set.empty ≡ set.empty
still_none c =
    set.same_set bytes_cmp-IsTotalOrder bytes_cmp-IsAntisymmetric _ _ λ q.
    set.contains-retain set.empty (is_new c) q (λ x e. ap (is_new c) (sym (bytes_cmp-IsAntisymmetric q x e)))
    ∙ ap (λ (b : Bool). b && is_new c q) (set.contains-empty bytes_cmp q) ∙ sym (set.contains-empty bytes_cmp q)

-- what a fold has read, and what is left
pub record IsFolded (entries : List Record) (places : List ℕ) (seen : Seen) (left : List Record) : Type 0 where
  pub all : entries ≡ seen.records ++ left
  pub starts : seen.starts ≡ take (length seen.records) places
  pub names : seen.announced ≡ set.empty
  pub cached : seen.cached ≡ []
  pub fit : AllByRecursion IsFit left

-- one more from the front
take-more : (ns : List ℕ) (k n : ℕ) → slice_get ns k ≡ Some n → take (k + 1) ns ≡ take k ns ++ n ∷ []
take-more [] k n e = cc
take-more (m ∷ ns) zero n e = let same : m ≡ n = cc in ap (λ (x : ℕ). x ∷ []) same
take-more (m ∷ ns) (suc k) n e =
    let one : suc k + 1 ≡ suc (k + 1) = omega arith in
    ap (λ (j : ℕ). take j (m ∷ ns)) one ∙ ap (λ (ms : List ℕ). m ∷ ms) (take-more ns k n e)

take-all : (ns : List ℕ) (k : ℕ) → k ≡ length ns → take k ns ≡ ns
take-all [] zero e = refl
take-all [] (suc k) e = refl
take-all (n ∷ ns) zero e = absurd (omega (arith, e))
take-all (n ∷ ns) (suc k) e = ap (λ (ms : List ℕ). n ∷ ms) (take-all ns k (omega (arith, e)))

tail : (l rest : List Record) (entry : Record) → AllByRecursion IsFit l → l ≡ entry ∷ rest → IsFit entry × AllByRecursion IsFit rest
tail [] rest entry h e = absurd cc
tail (r ∷ rs) rest entry h e =
    let first : r ≡ entry = cc in
    let same : rs ≡ rest = cc in
    (subst IsFit first h.0, subst (AllByRecursion IsFit) same h.1)

pub folded-first : (entries : List Record) (places : List ℕ) (many : length places ≡ length entries) (are : AreRecords entries) (first : Record) (rest : List Record) (at : ℕ) (seen : Seen)
    → entries ≡ first ∷ rest → slice_get places 0 ≡ Some at → seen ≡ record { records = first ∷ []; starts = at ∷ []; announced = set.empty; cached = [] } → IsFolded entries places seen rest
folded-first entries places many are first rest at seen split begins is =
    subst (λ (b : Seen). IsFolded entries places b rest) (sym is)
    (let fits = subst AreRecords split are in record {
      all = split;
      starts = sym (take-more places 0 at begins);
      names = refl;
      cached = refl;
      fit = fits.2.1;
    })

module _ (entries : List Record) (places : List ℕ) (many : length places ≡ length entries) (old : Seen) (left : List Record) (so_far : IsFolded entries places old left) where
  pub writable : (entry : Record) (rest : List Record) → left ≡ entry ∷ rest → IsWritable entry
  writable entry rest next = (tail left rest entry so_far.fit next).0.1

  -- there is a place for the next one
  pub is_there : (entry : Record) (rest : List Record) → left ≡ entry ∷ rest → length old.records < length places
  is_there entry rest next =
      let all : length entries ≡ length old.records + length left = ap length so_far.all ∙ length-append old.records left in
      let some : length left ≡ suc (length rest) = ap length next in
      omega (arith, many, all, some)

  pub folded-all : left ≡ [] → old ≡ record { records = entries; starts = places; announced = set.empty; cached = [] }
  folded-all none =
      let records : old.records ≡ entries = sym (so_far.all ∙ ap (λ (rs : List Record). old.records ++ rs) none ∙ append-nil old.records) in
      let starts : old.starts ≡ places = so_far.starts ∙ take-all places (length old.records) (ap length records ∙ sym many) in
      λ i. record { records = records i; starts = starts i; announced = so_far.names i; cached = so_far.cached i }

  module _ (new : Seen) (at : ℕ) (entry : Record) (rest : List Record) (next : left ≡ entry ∷ rest) (now : new ≡ applied old at entry) (begins : slice_get places (length old.records) ≡ Some at) where
    pub folded-more : IsFolded entries places new rest
    folded-more = subst (λ (b : Seen). IsFolded entries places b rest) (sym now) record {
      all = so_far.all ∙ ap (λ (rs : List Record). old.records ++ rs) next ∙ sym (append_assoc old.records (entry ∷ []) rest);
      starts =
          ap (λ (ns : List ℕ). ns ++ at ∷ []) so_far.starts ∙ sym (take-more places (length old.records) at begins)
          ∙ ap (λ (n : ℕ). take n places) (sym (length-append old.records (entry ∷ [])));
      names = ap (still_new (contents (old.records ++ entry ∷ []))) so_far.names ∙ still_none (contents (old.records ++ entry ∷ []));
      cached = so_far.cached;
      fit = (tail left rest entry so_far.fit next).1;
    }

-- ---- records behind those that were read before

-- what was read of further records, and what is left
pub record IsMore (entries : List Record) (places : List ℕ) (first seen : Seen) (left : List Record) : Type 0 where
  pub taken : List Record
  pub all : entries ≡ taken ++ left
  pub now : seen ≡ record first { records = first.records ++ taken; starts = first.starts ++ take (length taken) places }
  pub fit : AllByRecursion IsWritable left

pub more-none : (entries : List Record) (places : List ℕ) (first : Seen) → AllByRecursion IsWritable entries → IsMore entries places first first entries
more-none entries places first fit = record {
  taken = [];
  all = refl;
  now = λ i. record first { records = sym (append-nil first.records) i; starts = sym (append-nil first.starts) i };
  fit = fit;
}

fit_tail : (l rest : List Record) (entry : Record) → AllByRecursion IsWritable l → l ≡ entry ∷ rest → IsWritable entry × AllByRecursion IsWritable rest
fit_tail [] rest entry h e = absurd cc
fit_tail (r ∷ rs) rest entry h e =
    let first : r ≡ entry = cc in
    let same : rs ≡ rest = cc in
    (subst IsWritable first h.0, subst (AllByRecursion IsWritable) same h.1)

module _ (entries : List Record) (places : List ℕ) (many : length places ≡ length entries) (first old : Seen) (quiet : first.announced ≡ set.empty) (left : List Record) (so_far : IsMore entries places first old left) where
  old_records : old.records ≡ first.records ++ so_far.taken
  old_records = ap (λ (b : Seen). b.records) so_far.now

  -- how many came so far
  pub more-count : length old.records ≡ length first.records + length so_far.taken
  more-count = ap length old_records ∙ length-append first.records so_far.taken

  pub more-writable : (entry : Record) (rest : List Record) → left ≡ entry ∷ rest → IsWritable entry
  more-writable entry rest next = (fit_tail left rest entry so_far.fit next).0

  pub more-there : (entry : Record) (rest : List Record) → left ≡ entry ∷ rest → length so_far.taken < length places
  more-there entry rest next =
      let all : length entries ≡ length so_far.taken + length left = ap length so_far.all ∙ length-append so_far.taken left in
      let some : length left ≡ suc (length rest) = ap length next in
      omega (arith, many, all, some)

  pub more-all : left ≡ [] → old ≡ record first { records = first.records ++ entries; starts = first.starts ++ places }
  more-all none =
      let taken : so_far.taken ≡ entries = sym (so_far.all ∙ ap (λ (rs : List Record). so_far.taken ++ rs) none ∙ append-nil so_far.taken) in
      let starts : take (length so_far.taken) places ≡ places = take-all places (length so_far.taken) (ap length taken ∙ sym many) in
      so_far.now ∙ (λ i. record first { records = first.records ++ taken i; starts = first.starts ++ starts i })

  module _ (new : Seen) (at : ℕ) (entry : Record) (rest : List Record) (next : left ≡ entry ∷ rest) (now : new ≡ applied old at entry) (begins : slice_get places (length so_far.taken) ≡ Some at) where
    still_quiet : still_new (contents (old.records ++ entry ∷ [])) old.announced ≡ first.announced
    still_quiet =
        ap (still_new (contents (old.records ++ entry ∷ []))) (ap (λ (b : Seen). b.announced) so_far.now ∙ quiet) ∙ still_none (contents (old.records ++ entry ∷ [])) ∙ sym quiet

    pub more-on : IsMore entries places first new rest
    more-on = record {
      taken = so_far.taken ++ entry ∷ [];
      all = so_far.all ∙ ap (λ (rs : List Record). so_far.taken ++ rs) next ∙ sym (append_assoc so_far.taken (entry ∷ []) rest);
      now =
          let records : old.records ++ entry ∷ [] ≡ first.records ++ (so_far.taken ++ entry ∷ []) = ap (λ (rs : List Record). rs ++ entry ∷ []) old_records ∙ append_assoc first.records so_far.taken (entry ∷ []) in
          let starts : old.starts ++ at ∷ [] ≡ first.starts ++ take (length (so_far.taken ++ entry ∷ [])) places =
          ap (λ (ns : List ℕ). ns ++ at ∷ []) (ap (λ (b : Seen). b.starts) so_far.now)
          ∙ append_assoc first.starts (take (length so_far.taken) places) (at ∷ [])
          ∙ ap (λ (ns : List ℕ). first.starts ++ ns) (sym (take-more places (length so_far.taken) at begins) ∙ ap (λ (n : ℕ). take n places) (sym (length-append so_far.taken (entry ∷ [])))) in
          let cached : old.cached ≡ first.cached = ap (λ (b : Seen). b.cached) so_far.now in
          now ∙ (λ i. record { records = records i; starts = starts i; announced = still_quiet i; cached = cached i });
      fit = (fit_tail left rest entry so_far.fit next).1;
    }
