-- Each held artifact has its Blob among the scrubbed records, and what a new file stands for.
use Rattle.std.proofs.Common.{◌≡◌, ◌≢◌, inl, inr, ℕ, ◌+◌, Bool, true, false, cond, List, [], ◌∷◌, ◌++◌, length, map, filter, Some, None, refl, sym, ap, subst, ◌∙◌, length-append, arith}
use Rattle.std.specs.Prelude.{◌||◌, get_or, is_some, nat_le, filter_map, flat_map, option_map, suc}
use Rattle.std.specs.List.{AllByRecursion, cons_option, list_any}
use Rattle.std.specs.Ordering.{eq_by_cmp, is_eq, nat_cmp}
use Rattle.std.specs.declared.cmp.Ordering.TheVariants.{Less, Equal, Greater}
use Rattle.std.specs.Cmp.{tied_itself}
use Rattle.std.specs.FinMap as map_of
use Rattle.std.specs.FinMap.{put}
use Rattle.std.specs.FinMap.Entries.{by_order}
use Rattle.std.specs.Int.{to_be_bytes, w64}
use Rattle.std.proofs.lemmas.List.{append-nil}
use Rattle.fsl_order.specs.Names.{bytes_cmp}
use Rattle.fsl_order.specs.Rows.{keyed, in_order}
use Rattle.fsl_order.proofs.Orders.{bytes_cmp-IsTotalOrder}
use Rattle.fsl_record.specs.declared.Record.{Record}
use Rattle.fsl_record.specs.declared.Record.TheVariants as record_of
use Rattle.fsl_record.specs.Records.{AreRecords, IsOfVersion, records_bytes}
use Rattle.fsl_journal.specs.File.{group_bytes, header, mark_2}
use Rattle.fsl_blobs.specs.Fold.{Contents, Held, HeldSet, contents, held_from, place}
use Rattle.fsl_scrub.specs.Closing.{IsUnopened, UnopenedStandsForNone, WholeStandsForAll}
use Rattle.fsl_scrub.specs.Scrubbed.{HeldHaveBlobs, blob_of}

abbrev Pair : Type 0
Pair = ℕ × List ℕ

-- ---- what holds for each item holds for each in their order

module _ (P : Pair → Type 0) where
  all_put : (k : ℕ) (v : Pair) (es : List (ℕ × Pair)) → P v → AllByRecursion (λ (e : ℕ × Pair). P e.1) es → AllByRecursion (λ (e : ℕ × Pair). P e.1) (put nat_cmp k v es)
  all_put k v [] h all = (h, tt)
  all_put k v (e ∷ es) h all =
      elim (nat_cmp k e.0) as (λ r. AllByRecursion (λ (x : ℕ × Pair). P x.1) (by_order r ((k, v) ∷ e ∷ es) ((e.0, v) ∷ es) (e ∷ put nat_cmp k v es))) [
        | Less ↦ (h, all)
        | Equal ↦ (h, all.1)
        | Greater ↦ (all.0, all_put k v es h all.1)
      ]

  all_keyed : (xs : List Pair) → AllByRecursion P xs → AllByRecursion (λ (e : ℕ × Pair). P e.1) (keyed nat_cmp (λ (p : Pair). p.0) xs)
  all_keyed [] all = tt
  all_keyed (x ∷ xs) all = all_put x.0 x (keyed nat_cmp (λ (p : Pair). p.0) xs) all.0 (all_keyed xs all.1)

  all_values : (es : List (ℕ × Pair)) → AllByRecursion (λ (e : ℕ × Pair). P e.1) es → AllByRecursion P (map (λ (e : ℕ × Pair). e.1) es)
  all_values [] all = tt
  all_values (e ∷ es) all = (all.0, all_values es all.1)

  all_filter : (t : Pair → Bool) (xs : List Pair) → AllByRecursion P xs → AllByRecursion P (filter t xs)
  all_filter t [] all = tt
  all_filter t (x ∷ xs) all = elim (t x) as (λ b. AllByRecursion P (cond b (x ∷ filter t xs) (filter t xs))) [ true ↦ (all.0, all_filter t xs all.1) | false ↦ all_filter t xs all.1 ]

  all_in_order : (xs : List Pair) → AllByRecursion P xs → AllByRecursion P (in_order nat_cmp (λ (p : Pair). p.0) xs)
  all_in_order xs all = all_values (keyed nat_cmp (λ (p : Pair). p.0) xs) (all_keyed xs all)

-- ---- each placed name is held

module _ (c : Contents) where
  abbrev held : HeldSet
  held = c.held

  abbrev IsHeld : List ℕ → Type 0
  IsHeld name = is_some (map_of.get held name) ≡ true

  passed : (b : Bool) → b || true ≡ true
  passed true = refl
  passed false = refl

  later : (b : Bool) (d : Bool) → d ≡ true → b || d ≡ true
  later b d h = ap (λ (d : Bool). b || d) h ∙ passed b

  listed : (front names : List (List ℕ)) → AllByRecursion (λ (q : List ℕ). list_any (eq_by_cmp bytes_cmp q) names ≡ true) names
  listed front [] = tt
  listed front (n ∷ names) = (ap (λ (b : Bool). b || list_any (eq_by_cmp bytes_cmp n) names) (ap is_eq (tied_itself bytes_cmp-IsTotalOrder n)), more names (listed front names))
    where
      more : (qs : List (List ℕ)) → AllByRecursion (λ (q : List ℕ). list_any (eq_by_cmp bytes_cmp q) names ≡ true) qs → AllByRecursion (λ (q : List ℕ). eq_by_cmp bytes_cmp q n || list_any (eq_by_cmp bytes_cmp q) names ≡ true) qs
      more [] all = tt
      more (q ∷ qs) all = (later (eq_by_cmp bytes_cmp q n) (list_any (eq_by_cmp bytes_cmp q) names) all.0, more qs all.1)

  all_held : (qs : List (List ℕ)) → AllByRecursion (λ (q : List ℕ). list_any (eq_by_cmp bytes_cmp q) (map_of.keys held) ≡ true) qs → AllByRecursion IsHeld qs
  all_held [] all = tt
  all_held (q ∷ qs) all = (map_of.contains_key-keys held q ∙ all.0, all_held qs all.1)

  keys_held : AllByRecursion IsHeld (map_of.keys held)
  keys_held = all_held (map_of.keys held) (listed [] (map_of.keys held))

  placed_held : (records : List Record) (names : List (List ℕ)) → AllByRecursion IsHeld names → AllByRecursion (λ (p : Pair). IsHeld p.1) (filter_map (λ (name : List ℕ). option_map (λ (n : ℕ). (n, name)) (place records name)) names)
  placed_held records [] all = tt
  placed_held records (q ∷ names) all =
      elim (place records q) as (λ o. AllByRecursion (λ (p : Pair). IsHeld p.1) (cons_option (option_map (λ (n : ℕ). (n, q)) o) (filter_map (λ (name : List ℕ). option_map (λ (n : ℕ). (n, name)) (place records name)) names))) [
        | None ↦ placed_held records names all.1
        | Some n ↦ (all.0, placed_held records names all.1)
      ]

  given : (ps : List Pair) → AllByRecursion (λ (p : Pair). IsHeld p.1) ps → length (filter_map (λ (p : Pair). blob_of c p.1) ps) ≡ length ps
  given [] all = refl
  given (p ∷ ps) all =
      elim (map_of.get held p.1) as (λ o. is_some o ≡ true → length (cons_option (option_map (λ (a : Held). record_of.Blob a.private p.1 (map_of.get c.receipts p.1) a.bytes) o) (filter_map (λ (q : Pair). blob_of c q.1) ps)) ≡ suc (length ps)) [
        | None ↦ λ h. cc
        | Some a ↦ λ _. ap suc (given ps all.1)
      ] all.0

pub held_have_blobs : HeldHaveBlobs
held_have_blobs records =
    let c = contents records in
    let Stays = λ (p : Pair). is_some (map_of.get c.held p.1) ≡ true in
    let names = filter_map (λ (name : List ℕ). option_map (λ (n : ℕ). (n, name)) (place records name)) (map_of.keys c.held) in
    given c (held_from records 0) (all_in_order Stays (filter (λ (p : Pair). nat_le 0 p.0) names) (all_filter Stays (λ (p : Pair). nat_le 0 p.0) names (placed_held c records (map_of.keys c.held) (keys_held c))))

-- ---- what a new file stands for

eight_long : (n : ℕ) → length (to_be_bytes w64 n) ≡ 8
eight_long n = refl

group_opens : (c : List ℕ) (mark : ℕ) (groups : List (List Record)) (gate : ℕ) (rest : List ℕ) → IsUnopened c → c ≡ header mark ++ flat_map group_bytes groups ++ gate ∷ rest → groups ≡ []
group_opens c mark [] gate rest unopened is = refl
group_opens c mark (g ∷ groups) gate rest (inl short) is =
    let bytes = records_bytes g in
    let size = to_be_bytes w64 (length bytes) in
    let front : length (header mark) ≡ 15 = refl in
    let whole = length-append (header mark) (flat_map group_bytes (g ∷ groups) ++ gate ∷ rest) in
    let tail = length-append (flat_map group_bytes (g ∷ groups)) (gate ∷ rest) in
    let one = length-append (group_bytes g) (flat_map group_bytes groups) in
    let head = length-append (79 ∷ size) bytes in
    let first : length (79 ∷ size) ≡ 1 + length size = length-append (79 ∷ []) size in
    absurd (omega (arith, short, ap length is, front, whole, tail, one, head, first, eight_long (length bytes)))
group_opens c mark (g ∷ groups) gate rest (inr shut) is = absurd (shut.3 (ap (λ (l : List ℕ). get_or l 15 0) (sym shut.2 ∙ is)))

pub unopened_none : UnopenedStandsForNone
unopened_none c unopened records f = subst AreRecords (f.contents ∙ ap (flat_map (λ (group : List Record). group)) (group_opens c f.mark f.groups f.gate f.rest unopened f.layout)) f.fit

abbrev closed : ℕ
closed = 67

not_open : closed ≢ 79
not_open e = absurd (omega (arith, e))

-- version 2 has every record
known : (r : Record) → IsOfVersion 2 r
known (record_of.Config c) = tt
known (record_of.Blob private name None bytes) = tt
known (record_of.Blob private name (Some receipt) bytes) = refl
known (record_of.Publish name) = tt
known (record_of.Shun name) = tt
known (record_of.Unshun name) = refl

all_known : (records : List Record) → AllByRecursion (IsOfVersion 2) records
all_known [] = tt
all_known (r ∷ records) = (known r, all_known records)

pub whole_stands : WholeStandsForAll
whole_stands records fit small = record {
  mark = mark_2;
  groups = records ∷ [];
  gate = closed;
  rest = [];
  layout = ap (λ (l : List ℕ). header mark_2 ++ l ++ closed ∷ []) (sym (append-nil (group_bytes records)));
  closed = not_open;
  formed = ((λ e. subst AreRecords e fit, small), tt);
  contents = sym (append-nil records);
  fit = fit;
  known = all_known records;
}
