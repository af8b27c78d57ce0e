-- Changes that are taken back.
use Rattle.std.proofs.Common.{◌≡◌, ℕ, ◌-◌, ◌<◌, ◌≤◌, ◌^◌, Bool, true, false, cond, List, [], ◌∷◌, ◌++◌, length, map, take, Option, Some, None, Result, Ok, Err, refl, sym, ap, subst, ◌∙◌, arith, length-append, if◌then◌else◌}
use Rattle.std.specs.Prelude.{is_some, OnOk}
use Rattle.std.specs.Str.{bytes_eq}
use Rattle.std.specs.Ordering.{is_eq}
use Rattle.std.specs.Cmp.{tied_itself}
use Rattle.std.specs.Cmp.Lexicographic.{bytes_decides, texts_ties}
use Rattle.std.specs.BTreeMap.{insert_entry}
use Rattle.std.proofs.lemmas.List.{length-take-le, length-map}
use Rattle.fsl_order.specs.Names.{bytes_cmp}
use Rattle.fsl_order.specs.Maps.{value_at}
use Rattle.fsl_order.proofs.Orders.{bytes_cmp-IsTotalOrder}
use Rattle.fsl_table.proofs.Entries.{lookup-insert_entry, sorted-insert_entry, remove_entry-undoes}
use Rattle.fsl_text.specs.declared.memory.Memory.{Memory}
use Rattle.fsl_record.specs.Records.{AreRecords}
use Rattle.fsl_journal.specs.Log.{Log}
use Rattle.fsl_journal.specs.Places.{content_places, without_last}
use Rattle.fsl_uv.specs.declared.Entry.{Entry}
use Rattle.fsl_uv.specs.declared.Card.{Card}
use Rattle.fsl_uv.specs.declared.ApplyFault.{ApplyFault}
use Rattle.fsl_uv.specs.declared.ApplyFault.TheVariants as apply_fault
use Rattle.fsl_uv.specs.declared.applying.Change.{Change}
use Rattle.fsl_uv.specs.Entries.{Version}
use Rattle.fsl_uv.specs.Maps.{total, is_over}
use Rattle.fsl_uv.specs.Laws.{Rises}
use Rattle.fsl_uv.specs.Syncing.{stored, files, applied}
use Rattle.fsl_uv.specs.Stores.{log_with, blob_of, next_start}
use Rattle.fsl_uv.proofs.Logs.{less-with}
use Rattle.fsl_uv.specs.Applying.{put_back, without_change, without_changes, log_without, CanPutBack, CanTurnBack, CanTakeBack, LeadsBack, StillLeadsBack, due_of, IsTakenAll}
use Rattle.fsl_uv.proofs.Mapped.{same_map}

abbrev Map : Type 0
Map = List (List ℕ × Version)

-- ---- the last change is taken back first

pub without-last : (m : Map) (xs : List Change) (c : Change) → without_changes m (xs ++ c ∷ []) ≡ without_changes (without_change m c) xs
without-last m [] c = refl
without-last m (x ∷ xs) c = ap (λ (n : Map). without_change n x) (without-last m xs c)

pub log-last : (log : Log) (xs : List Change) (c : Change) → log_without log (xs ++ c ∷ []) ≡ log_without (without_last log) xs
log-last log [] c = refl
log-last log (x ∷ xs) c = ap without_last (log-last log xs c)

pub turn-last : (m : Map) (xs : List Change) (c : Change) → CanTurnBack m (xs ++ c ∷ []) → CanPutBack m c.path c.before × CanTurnBack (without_change m c) xs
turn-last m [] c h = (h.1, tt)
turn-last m (x ∷ xs) c h =
    let rest = turn-last m xs c h.0 in
    (rest.0, (rest.1, subst (λ (n : Map). CanPutBack n x.path x.before) (without-last m xs c) h.1))

turn-more : (m : Map) (xs : List Change) (c : Change) → CanPutBack m c.path c.before → CanTurnBack (without_change m c) xs → CanTurnBack m (xs ++ c ∷ [])
turn-more m [] c can h = (tt, can)
turn-more m (x ∷ xs) c can h = (turn-more m xs c can h.0, subst (λ (n : Map). CanPutBack n x.path x.before) (sym (without-last m xs c)) h.1)

-- ---- a path that is set

module _ (m : Map) (up : Rises m) (small : total m < 2 ^ 63) (p : List ℕ) (v : Version) where
  set-back : (o : Option Version) → value_at m p ≡ o → put_back (insert_entry bytes_cmp m p v) p o ≡ m
  set-back None is = remove_entry-undoes bytes_cmp-IsTotalOrder p p v m (tied_itself bytes_cmp-IsTotalOrder p) is
  set-back (Some w) is =
      same_map (insert_entry bytes_cmp (insert_entry bytes_cmp m p v) p w) m
      (sorted-insert_entry bytes_cmp-IsTotalOrder p w (insert_entry bytes_cmp m p v) (sorted-insert_entry bytes_cmp-IsTotalOrder p v m up)) up
      (λ q. lookup-insert_entry bytes_cmp-IsTotalOrder q p w (insert_entry bytes_cmp m p v)
      ∙ ap (cond (is_eq (bytes_cmp q p)) (Some w)) (lookup-insert_entry bytes_cmp-IsTotalOrder q p v m)
      ∙ ap (λ b. cond b (Some w) (cond b (Some v) (value_at m q))) (sym (texts_ties q p))
      ∙ by q (bytes_eq q p) refl)
    where
      by : (q : List ℕ) (b : Bool) → bytes_eq q p ≡ b → cond b (Some w) (cond b (Some v) (value_at m q)) ≡ value_at m q
      by q true e = sym (ap (value_at m) ((bytes_decides q p).0 e) ∙ is)
      by q false e = refl

  can-set-back : (o : Option Version) → value_at m p ≡ o → CanPutBack (insert_entry bytes_cmp m p v) p o
  can-set-back None is = tt
  can-set-back (Some w) is = (
    ap is_some (lookup-insert_entry bytes_cmp-IsTotalOrder p p v m) ∙ ap (λ r. is_some (cond (is_eq r) (Some v) (value_at m p))) (tied_itself bytes_cmp-IsTotalOrder p),
    subst (λ n. n < 2 ^ 63) (sym (ap total (set-back (Some w) is))) small,
  )

  -- an entry was put in, and what its path had was noted
  pub still-leads : (log after : Log) (held : Map) (changes noted : List Change) (e : Entry) (c : Change) → after ≡ log_with log (e ∷ []) → AreRecords after.records → held ≡ insert_entry bytes_cmp m p v
      → noted ≡ changes ++ c ∷ [] → c.path ≡ p → c.before ≡ value_at m p → StillLeadsBack log m changes after held noted
  still-leads log after held changes noted e c log-is fit held-is noted-is path-is before-is first n h =
      subst (λ (x : List Change). LeadsBack first n after held x) (sym noted-is)
      (record {
        can = record {
          runs = ap (λ (l : Log). l.stopped) log-is ∙ h.can.runs;
          appended =
              let a = ap (λ (l : Log). l.stable) log-is in
              let b = ap (λ (l : Log). length l.records) log-is ∙ length-append log.records (blob_of e ∷ []) in
              let d = length-append changes (c ∷ []) in
              omega (arith, a, b, d, h.can.appended);
          turns = turn-more held changes c can (subst (λ (k : Map). CanTurnBack k changes) (sym same) h.can.turns);
        };
        fit = fit;
        as_many =
            let a = ap (λ (l : Log). length l.places) log-is ∙ length-append log.places (content_places (next_start log) (blob_of e ∷ [])) in
            let b = ap (λ (l : Log). length l.records) log-is ∙ length-append log.records (blob_of e ∷ []) in
            omega (arith, a, b, h.as_many);
        count =
            let b = ap (λ (l : Log). length l.records) log-is ∙ length-append log.records (blob_of e ∷ []) in
            let d = length-append changes (c ∷ []) in
            omega (arith, b, d, h.count);
        first_log = log-last after changes c ∙ ap (λ (l : Log). log_without l changes) (ap without_last log-is ∙ less-with log e h.as_many) ∙ h.first_log;
        first_map = without-last held changes c ∙ ap (λ (k : Map). without_changes k changes) same ∙ h.first_map;
      })
    where
      same : without_change held c ≡ m
      same = (λ i. put_back (held-is i) (path-is i) (before-is i)) ∙ set-back (value_at m p) refl

      can : CanPutBack held c.path c.before
      can = subst (λ (x : Map × List ℕ × Option Version). CanPutBack x.0 x.1 x.2) (λ i. (sym held-is i, sym path-is i, sym before-is i)) (can-set-back (value_at m p) refl)

-- nothing changed
pub nothing-changed : (log after : Log) (m held : Map) (changes noted : List Change) → after ≡ log → held ≡ m → noted ≡ changes → StillLeadsBack log m changes after held noted
nothing-changed log after m held changes noted a b c first n h = subst (λ (x : Log × Map × List Change). LeadsBack first n x.0 x.1 x.2) (λ i. (sym a i, sym b i, sym c i)) h

-- before the first change
pub leads-nowhere : (log : Log) (m : Map) (changes : List Change) → log.stopped ≡ None → log.stable ≤ length log.records → length log.places ≡ length log.records → AreRecords log.records → changes ≡ [] → LeadsBack log m log m changes
leads-nowhere log m changes runs stable as_many fit none =
    subst (λ (x : List Change). LeadsBack log m log m x) (sym none)
    (record {
      can = record { runs = runs; appended = omega (arith, stable); turns = tt };
      fit = fit;
      as_many = as_many;
      count = omega arith;
      first_log = refl;
      first_map = refl;
    })

-- ---- one change less

-- what is left to take back once the last change is taken back
pub record TakesLast (log : Log) (m : Map) (left : List Change) (rest : List Change) (c : Change) (after : Log) (held : Map) : Type 0 where
  pub can : CanTakeBack after held rest
  pub logs : log_without after rest ≡ log_without log left
  pub maps : without_changes held rest ≡ without_changes m left

module _ (log : Log) (m : Map) (left rest : List Change) (c : Change) (cut : left ≡ rest ++ c ∷ []) (can : CanTakeBack log m left) where
  pub one-appended : log.stable < length log.records
  one-appended =
      let d = ap (λ (x : List Change). length x) cut ∙ length-append rest (c ∷ []) in
      omega (arith, d, can.appended)

  pub one-turns : CanPutBack m c.path c.before
  one-turns = (turn-last m rest c (subst (λ (x : List Change). CanTurnBack m x) cut can.turns)).0

  pub one-less : (after : Log) (held : Map) → after ≡ without_last log → held ≡ without_change m c → TakesLast log m left rest c after held
  one-less after held a b = record {
    can = record {
      runs = ap (λ (l : Log). l.stopped) a ∙ can.runs;
      appended =
          let d = ap (λ (x : List Change). length x) cut ∙ length-append rest (c ∷ []) in
          let s = ap (λ (l : Log). l.stable) a in
          let few : length (take (length log.records - 1) log.records) ≡ length log.records - 1 = length-take-le (length log.records - 1) log.records (omega arith) in
          let r = ap (λ (l : Log). length l.records) a ∙ few in
          omega (arith, d, s, r, can.appended);
      turns = subst (λ (k : Map). CanTurnBack k rest) (sym b) (turn-last m rest c (subst (λ (x : List Change). CanTurnBack m x) cut can.turns)).1;
    };
    logs = ap (λ (l : Log). log_without l rest) a ∙ sym (log-last log rest c) ∙ ap (log_without log) (sym cut);
    maps = ap (λ (k : Map). without_changes k rest) b ∙ sym (without-last m rest c) ∙ ap (without_changes m) (sym cut);
  }

-- ---- all or none

module _ (log : Log) (m : Map) (cards : List Card) (after : Log) (held : Map) (changes : List Change) (h : LeadsBack log m after held changes) where
  -- what an answer says: after Ok the files are in, and after a fault all is taken back
  abbrev pub Outcome : Result ℕ ApplyFault → Type 0
  Outcome (Ok count) = IsTakenAll log m cards (Ok count) after held
  Outcome (Err fault) = IsTakenAll log m cards (Err fault) log m

  by-limit : (over : Bool) → is_over held ≡ over → after ≡ log_with log (stored m (files cards)) → held ≡ applied m cards
      → Outcome (if over then Err (apply_fault.Full (total held) (length held)) else Ok (length changes))
  by-limit true o a b = (sym (ap is_over b) ∙ o, ap total b, ap (λ (k : Map). length k) b, refl, refl)
  by-limit false o a b = (sym (ap is_over b) ∙ o, many, a, b)
    where
      many : length changes ≡ length (stored m (files cards))
      many =
          let x = ap (λ (l : Log). length l.records) a ∙ length-append log.records (map blob_of (stored m (files cards))) in
          let y : length (map blob_of (stored m (files cards))) ≡ length (stored m (files cards)) = length-map (stored m (files cards)) blob_of in
          omega (arith, x, y, h.count)

  pub outcome : (taken : Result Unit Memory) → OnOk taken (after ≡ log_with log (stored m (files cards))) → OnOk taken (held ≡ applied m cards) → Outcome (due_of held taken (length changes))
  outcome (Err memory) a b = (refl, refl)
  outcome (Ok done) a b = by-limit (is_over held) refl a b

  pub came-out : (result due : Result ℕ ApplyFault) → due ≡ result → Outcome due → Outcome result
  came-out result due is o = subst Outcome is o

  pub taken-back : (fault : ApplyFault) (back : Log) (n : Map) → Outcome (Err fault) → back ≡ log_without after changes → n ≡ without_changes held changes → IsTakenAll log m cards (Err fault) back n
  taken-back fault back n o a b = subst (λ (x : Log × Map). IsTakenAll log m cards (Err fault) x.0 x.1) (λ i. (sym (a ∙ h.first_log) i, sym (b ∙ h.first_map) i)) o
