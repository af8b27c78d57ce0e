-- Two files have one outcome of a sync of unversioned files.
use Rattle.std.proofs.Common.{◌≡◌, ◌⊎◌, inl, inr, ℕ, Bool, true, false, List, [], ◌∷◌, refl, sym, ap, subst, ◌∙◌}
use Rattle.std.specs.Str.{bytes_eq}
use Rattle.std.specs.Cmp.Lexicographic.{bytes_decides}
use Rattle.fsl_record.specs.declared.Config.{Config}
use Rattle.fsl_record.specs.declared.Record.{Record}
use Rattle.fsl_record.specs.declared.Record.TheVariants as record_of
use Rattle.fsl_record.specs.Records.{AreRecords}
use Rattle.fsl_journal.specs.File.{IsFileOf, FailsAt}
use Rattle.fsl_journal.proofs.Failing.{no_file, one_place}
use Rattle.fsl_journal.proofs.SomeFile.{some_file}
use Rattle.fsl_journal.proofs.Unique.{one_file}
use Rattle.fsl_uv.specs.Entries.{Version}
use Rattle.fsl_uv.specs.Stores.{IsUv, IsNoEntry}
use Rattle.fsl_uv.specs.Reports.{sync_done, not_unversioned, other_project}
use Rattle.fsl_uv.proofs.OneMap.{records_read_one_way}
use Rattle.fsl_uv.proofs.SomeMap.{records_read_some_way}
use Rattle.fossil.specs.Outcome.{printed_of, not_repository}
use Rattle.fossil.specs.Syncs.{no_peer}
use Rattle.fossil.specs.Unversioned.{said_printed}
use Rattle.fossil.specs.UvSyncs.{aside, kept, UvSync, synced_by, unsynced, AreStore, IsSyncOfStores, IsSyncWithRecords, IsSyncWithFile, IsSyncOfRecords, IsUvSync, HasOneUvSync, HasSomeUvSync}

-- ---- one at most

first_same : (records : List Record) (a b : Config) (xs ys : List Record) → records ≡ record_of.Config a ∷ xs → records ≡ record_of.Config b ∷ ys → a ≡ b
first_same records a b xs ys e f = let h : record_of.Config a ∷ xs ≡ record_of.Config b ∷ ys = sym e ∙ f in cc

pub one_config : (records : List Record) (a b : Config) (u v : List (List ℕ × Version)) → AreStore records a u → AreStore records b v → a ≡ b
one_config records a b u v one other = first_same records a b one.0.0 other.0.0 one.0.1 other.0.1

one_stores : (config : Config) (u : List (List ℕ × Version)) (peer : Config) (v : List (List ℕ × Version)) (a b : UvSync) → IsSyncOfStores config u peer v a → IsSyncOfStores config u peer v b → a ≡ b
one_stores config u peer v a b (inl (differs, e)) (inl (others, f)) = e ∙ sym f
one_stores config u peer v a b (inl (differs, e)) (inr (same, f)) = absurd (differs same)
one_stores config u peer v a b (inr (same, e)) (inl (differs, f)) = absurd (differs same)
one_stores config u peer v a b (inr (same, e)) (inr (also, f)) = e ∙ sym f

one_records : (config : Config) (u : List (List ℕ × Version)) (there : List Record) (a b : UvSync) → IsSyncWithRecords config u there a → IsSyncWithRecords config u there b → a ≡ b
one_records config u there a b (inl (name, is, e)) (inl (other, also, f)) =
    e ∙ ap (λ (n : List ℕ). unsynced (said_printed (not_unversioned n)) kept kept) (records_read_one_way.one_name there name other is also) ∙ sym f
one_records config u there a b (inl (name, is, e)) (inr (peer, v, store, s)) = absurd (records_read_one_way.not_both there v name store.1 is)
one_records config u there a b (inr (peer, v, store, s)) (inl (name, is, e)) = absurd (records_read_one_way.not_both there v name store.1 is)
one_records config u there a b (inr (peer, v, store, s)) (inr (peer2, v2, store2, s2)) =
    one_stores config u peer v a b s
    (subst (λ (x : Config). IsSyncOfStores config u x v b) (sym (one_config there peer peer2 v v2 store store2))
    (subst (λ (x : List (List ℕ × Version)). IsSyncOfStores config u peer2 x b) (sym (records_read_one_way.one_map there v v2 store.1 store2.1)) s2))

one_with : (config : Config) (u : List (List ℕ × Version)) (peer : List ℕ) (a b : UvSync) → IsSyncWithFile config u peer a → IsSyncWithFile config u peer b → a ≡ b
one_with config u peer a b (inl (at, fails, e)) (inl (to, also, f)) = e ∙ ap (λ (n : ℕ). unsynced (no_peer n) kept aside) (one_place peer at to fails also) ∙ sym f
one_with config u peer a b (inl (at, fails, e)) (inr (there, is, s)) = absurd (no_file peer at there fails is)
one_with config u peer a b (inr (there, is, s)) (inl (at, fails, e)) = absurd (no_file peer at there fails is)
one_with config u peer a b (inr (there, is, s)) (inr (others, also, s2)) =
    one_records config u there a b s (subst (λ (rs : List Record). IsSyncWithRecords config u rs b) (sym (one_file peer there others is also)) s2)

one_of : (here : List Record) (peer : List ℕ) (a b : UvSync) → IsSyncOfRecords here peer a → IsSyncOfRecords here peer b → a ≡ b
one_of here peer a b (inl (name, is, e)) (inl (other, also, f)) =
    e ∙ ap (λ (n : List ℕ). unsynced (said_printed (not_unversioned n)) kept aside) (records_read_one_way.one_name here name other is also) ∙ sym f
one_of here peer a b (inl (name, is, e)) (inr (config, u, store, s)) = absurd (records_read_one_way.not_both here u name store.1 is)
one_of here peer a b (inr (config, u, store, s)) (inl (name, is, e)) = absurd (records_read_one_way.not_both here u name store.1 is)
one_of here peer a b (inr (config, u, store, s)) (inr (config2, u2, store2, s2)) =
    one_with config u peer a b s
    (subst (λ (x : Config). IsSyncWithFile x u peer b) (sym (one_config here config config2 u u2 store store2))
    (subst (λ (x : List (List ℕ × Version)). IsSyncWithFile config2 x peer b) (sym (records_read_one_way.one_map here u u2 store.1 store2.1)) s2))

pub one_uv_sync : HasOneUvSync
one_uv_sync file peer a b (inl (at, fails, e)) (inl (to, also, f)) =
    e ∙ ap (λ (n : ℕ). unsynced (printed_of (not_repository n)) aside aside) (one_place file at to fails also) ∙ sym f
one_uv_sync file peer a b (inl (at, fails, e)) (inr (here, is, s)) = absurd (no_file file at here fails is)
one_uv_sync file peer a b (inr (here, is, s)) (inl (at, fails, e)) = absurd (no_file file at here fails is)
one_uv_sync file peer a b (inr (here, is, s)) (inr (others, also, s2)) =
    one_of here peer a b s (subst (λ (rs : List Record). IsSyncOfRecords rs peer b) (sym (one_file file here others is also)) s2)

-- ---- and one there is

-- records begin with a Config record
some_config : (records : List Record) → AreRecords records → (config : Config) × (rest : List Record) × (records ≡ record_of.Config config ∷ rest)
some_config [] fit = absurd fit
some_config (record_of.Config config ∷ rest) fit = (config, rest, refl)
some_config (record_of.Blob private name receipt bytes ∷ rest) fit = let h = fit.0 in absurd (cc)
some_config (record_of.Publish name ∷ rest) fit = let h = fit.0 in absurd (cc)
some_config (record_of.Shun name ∷ rest) fit = let h = fit.0 in absurd (cc)
some_config (record_of.Unshun name ∷ rest) fit = let h = fit.0 in absurd (cc)

some_stores : (config : Config) (u : List (List ℕ × Version)) (peer : Config) (v : List (List ℕ × Version)) → (s : UvSync) × IsSyncOfStores config u peer v s
some_stores config u peer v = by (bytes_eq peer.project config.project) refl
  where
    by : (same : Bool) → bytes_eq peer.project config.project ≡ same → (s : UvSync) × IsSyncOfStores config u peer v s
    by true e = (synced_by (sync_done u v), inr ((bytes_decides peer.project config.project).0 e, refl))
    by false e =
        (unsynced (said_printed (other_project peer.project)) kept kept, inl (λ same. let h : true ≡ false = sym ((bytes_decides peer.project config.project).1 same) ∙ e in cc, refl))

some_records : (config : Config) (u : List (List ℕ × Version)) (there : List Record) → AreRecords there → (s : UvSync) × IsSyncWithRecords config u there s
some_records config u there fit = by (records_read_some_way there)
  where
    by : ((m : List (List ℕ × Version)) × IsUv there m) ⊎ ((name : List ℕ) × IsNoEntry there name) → (s : UvSync) × IsSyncWithRecords config u there s
    by (inl (v, is)) =
        let c = some_config there fit in
        let s = some_stores config u c.0 v in (s.0, inr (c.0, v, ((c.1, c.2), is), s.1))
    by (inr (name, is)) = (unsynced (said_printed (not_unversioned name)) kept kept, inl (name, is, refl))

some_with : (config : Config) (u : List (List ℕ × Version)) (peer : List ℕ) → (s : UvSync) × IsSyncWithFile config u peer s
some_with config u peer = by (some_file peer)
  where
    by : ((at : ℕ) × FailsAt peer at) ⊎ ((records : List Record) × IsFileOf peer records) → (s : UvSync) × IsSyncWithFile config u peer s
    by (inl (at, fails)) = (unsynced (no_peer at) kept aside, inl (at, fails, refl))
    by (inr (there, is)) = let s = some_records config u there is.fit in (s.0, inr (there, is, s.1))

some_of : (here : List Record) → AreRecords here → (peer : List ℕ) → (s : UvSync) × IsSyncOfRecords here peer s
some_of here fit peer = by (records_read_some_way here)
  where
    by : ((m : List (List ℕ × Version)) × IsUv here m) ⊎ ((name : List ℕ) × IsNoEntry here name) → (s : UvSync) × IsSyncOfRecords here peer s
    by (inl (u, is)) =
        let c = some_config here fit in
        let s = some_with c.0 u peer in (s.0, inr (c.0, u, ((c.1, c.2), is), s.1))
    by (inr (name, is)) = (unsynced (said_printed (not_unversioned name)) kept aside, inl (name, is, refl))

pub some_uv_sync : HasSomeUvSync
some_uv_sync file peer = by (some_file file)
  where
    by : ((at : ℕ) × FailsAt file at) ⊎ ((records : List Record) × IsFileOf file records) → (s : UvSync) × IsUvSync file peer s
    by (inl (at, fails)) = (unsynced (printed_of (not_repository at)) aside aside, inl (at, fails, refl))
    by (inr (here, is)) = let s = some_of here is.fit peer in (s.0, inr (here, is, s.1))
