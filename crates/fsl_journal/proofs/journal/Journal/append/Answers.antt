use Rattle.std.proofs.Common.{◌≡◌, ◌∙◌, ◌+◌, ◌∷◌, ◌++◌, [], ℕ, List, length, map, true, not, ◌&&◌, refl, sym, ap, subst, arith}
use Rattle.fsl_record.specs.Records.{AreRecords}
use Rattle.fsl_journal.specs.Inside.{records_of, places_of, log_of}
use Rattle.fsl_journal.specs.Log.{Log}
use Rattle.fsl_journal.specs.Places.{content_place, next_place}
use Rattle.fsl_journal.proofs.Appended.{pushed, map_push, log_with, sound_same, sound_appended}
use Rattle.fsl_journal.proofs.Ends.{no_answer, on_fault}
use Rattle.fsl_journal.proofs.Records.{are_more}
use Rattle.fsl_journal.proofs.journal.Journal.append.Goals as goal

pub invariant_of-self : goal.invariant_of-self
invariant_of-self c = sound_same c.self.inside _ c.self.invariant refl refl (ap (map (λ s. s.value)) c.reserve.ensures.items) refl refl refl

pub returns-in_err-reserve : goal.returns-in_err-reserve
returns-in_err-reserve c =
    let r = c.from_residual.result in
    let is = c.from_residual.ensures.1 in
    let same : map (λ s. s.value) c.reserve.new.self.items ≡ records_of c.self.inside = ap (map (λ s. s.value)) c.reserve.ensures.items in record {
      at = no_answer r _ is _;
      ok = no_answer r _ is _;
      err = on_fault r _ (log_with (log_of c.self.inside) c.args.self.now _ c.args.self.now.records _ c.args.self.now.places c.self.view_is (same ∙ ap (λ (l : Log). l.records) c.self.view_is) (ap (λ (l : Log). l.places) c.self.view_is));
      fit = subst AreRecords (sym same) c.self.invariant.fit;
    }

pub invariant_of-self-in_err-reserve-2 : goal.invariant_of-self-in_err-reserve-2
invariant_of-self-in_err-reserve-2 c = sound_same c.self.inside _ c.self.invariant refl refl (ap (map (λ s. s.value)) c.reserve.ensures.items) (ap (map (λ s. s.value)) c.reserve-2.ensures.items) refl refl

pub returns-in_err-reserve-2 : goal.returns-in_err-reserve-2
returns-in_err-reserve-2 c =
    let r = c.from_residual-in_err-reserve-2.result in
    let is = c.from_residual-in_err-reserve-2.ensures.1 in
    let same : map (λ s. s.value) c.reserve.new.self.items ≡ records_of c.self.inside = ap (map (λ s. s.value)) c.reserve.ensures.items in
    let spots : map (λ s. s.value) c.reserve-2.new.self.items ≡ places_of c.self.inside = ap (map (λ s. s.value)) c.reserve-2.ensures.items in record {
      at = no_answer r _ is _;
      ok = no_answer r _ is _;
      err = on_fault r _ (log_with (log_of c.self.inside) c.args.self.now _ c.args.self.now.records _ c.args.self.now.places c.self.view_is (same ∙ ap (λ (l : Log). l.records) c.self.view_is) (spots ∙ ap (λ (l : Log). l.places) c.self.view_is));
      fit = subst AreRecords (sym same) c.self.invariant.fit;
    }

pub invariant_of-self-in_err-reserve-3 : goal.invariant_of-self-in_err-reserve-3
invariant_of-self-in_err-reserve-3 c = sound_same c.self.inside _ c.self.invariant refl refl (ap (map (λ s. s.value)) c.reserve.ensures.items) (ap (map (λ s. s.value)) c.reserve-2.ensures.items) refl c.reserve-3.ensures.items

pub returns-in_err-reserve-3 : goal.returns-in_err-reserve-3
returns-in_err-reserve-3 c =
    let r = c.from_residual-in_err-reserve-3.result in
    let is = c.from_residual-in_err-reserve-3.ensures.1 in
    let same : map (λ s. s.value) c.reserve.new.self.items ≡ records_of c.self.inside = ap (map (λ s. s.value)) c.reserve.ensures.items in
    let spots : map (λ s. s.value) c.reserve-2.new.self.items ≡ places_of c.self.inside = ap (map (λ s. s.value)) c.reserve-2.ensures.items in record {
      at = no_answer r _ is _;
      ok = no_answer r _ is _;
      err = on_fault r _ (log_with (log_of c.self.inside) c.args.self.now _ c.args.self.now.records _ c.args.self.now.places c.self.view_is (same ∙ ap (λ (l : Log). l.records) c.self.view_is) (spots ∙ ap (λ (l : Log). l.places) c.self.view_is));
      fit = subst AreRecords (sym same) c.self.invariant.fit;
    }

pub write_behind-requires : goal.write_behind-requires
write_behind-requires c = record { fit = c.requires.fit }

pub invariant_of-self-in_err-at : goal.invariant_of-self-in_err-at
invariant_of-self-in_err-at c = sound_same c.self.inside _ c.self.invariant refl refl (ap (map (λ s. s.value)) c.reserve.ensures.items) (ap (map (λ s. s.value)) c.reserve-2.ensures.items) c.in_err-at.ensures.err c.reserve-3.ensures.items

pub returns-in_err-at : goal.returns-in_err-at
returns-in_err-at c =
    let r = c.from_residual-in_err-at.result in
    let is = c.from_residual-in_err-at.ensures.1 in
    let same : map (λ s. s.value) c.reserve.new.self.items ≡ records_of c.self.inside = ap (map (λ s. s.value)) c.reserve.ensures.items in
    let spots : map (λ s. s.value) c.reserve-2.new.self.items ≡ places_of c.self.inside = ap (map (λ s. s.value)) c.reserve-2.ensures.items in record {
      at = no_answer r _ is _;
      ok = no_answer r _ is _;
      err = on_fault r _ (log_with (log_of c.self.inside) c.args.self.now _ c.args.self.now.records _ c.args.self.now.places c.self.view_is (same ∙ ap (λ (l : Log). l.records) c.self.view_is) (spots ∙ ap (λ (l : Log). l.places) c.self.view_is));
      fit = subst AreRecords (sym same) c.self.invariant.fit;
    }

pub unwrap-requires : goal.unwrap-requires
unwrap-requires c = c.push.ensures.succeeds (omega (arith, c.in_ok-reserve-3.ensures.ok))

pub unwrap-requires-2 : goal.unwrap-requires-2
unwrap-requires-2 c = c.push-2.ensures.succeeds (omega (arith, c.in_ok-reserve-2.ensures.ok))

pub unwrap-requires-3 : goal.unwrap-requires-3
unwrap-requires-3 c = c.push-3.ensures.succeeds (omega (arith, c.in_ok-reserve.ensures.ok))

pub invariant_of-self-2 : goal.invariant_of-self-2
invariant_of-self-2 c =
    let start_fits = c.push.ensures.succeeds (omega (arith, c.in_ok-reserve-3.ensures.ok)) in
    let spot_fits = c.push-2.ensures.succeeds (omega (arith, c.in_ok-reserve-2.ensures.ok)) in
    let record_fits = c.push-3.ensures.succeeds (omega (arith, c.in_ok-reserve.ensures.ok)) in
    let items = pushed _ _ _ _ record_fits c.push-3.ensures.items ∙ ap (λ l. l ++ c.of-2.result ∷ []) c.reserve.ensures.items in
    let spots = pushed _ _ _ _ spot_fits c.push-2.ensures.items ∙ ap (λ l. l ++ c.of.result ∷ []) c.reserve-2.ensures.items in
    let starts = pushed _ _ _ _ start_fits c.push.ensures.items ∙ ap (λ l. l ++ length c.bytes-start.result.now ∷ []) c.reserve-3.ensures.items in
    sound_appended c.self.inside _ c.self.invariant refl refl c.args.entry.now _ c.in_ok-at.at
    (map_push (λ s. s.value) c.self.inside.records.items c.push-3.new.self.items c.of-2.result c.args.entry.now items c.of-2.ensures)
    (map_push (λ s. s.value) c.self.inside.places.items c.push-2.new.self.items c.of.result c.in_ok-at.at spots c.of.ensures)
    c.in_ok-at.ensures.ok.1 c.in_ok-at.ensures.ok.0 starts (ap length c.bytes-start.ensures) c.requires.place (c.know_names.ensures.names, c.requires.fit, c.know_names.ensures.receipt)

pub returns : goal.returns
returns c =
    let spot_fits = c.push-2.ensures.succeeds (omega (arith, c.in_ok-reserve-2.ensures.ok)) in
    let fits = c.push-3.ensures.succeeds (omega (arith, c.in_ok-reserve.ensures.ok)) in
    let items = pushed _ _ _ _ fits c.push-3.ensures.items ∙ ap (λ l. l ++ c.of-2.result ∷ []) c.reserve.ensures.items in
    let spots = pushed _ _ _ _ spot_fits c.push-2.ensures.items ∙ ap (λ l. l ++ c.of.result ∷ []) c.reserve-2.ensures.items in
    let all = map_push (λ s. s.value) c.self.inside.records.items c.push-3.new.self.items c.of-2.result c.args.entry.now items c.of-2.ensures in
    let places = map_push (λ s. s.value) c.self.inside.places.items c.push-2.new.self.items c.of.result c.in_ok-at.at spots c.of.ensures in record {
      at =
          subst (λ (l : Log). c.in_ok-at.at ≡ next_place l c.args.entry.now) c.self.view_is
          (c.in_ok-at.ensures.ok.1 ∙ ap (λ (l : List ℕ). content_place (c.self.inside.place + 9 + length l) c.args.entry.now) c.self.invariant.pending);
      ok =
          log_with (log_of c.self.inside) c.args.self.now _ (c.args.self.now.records ++ c.args.entry.now ∷ []) _ (c.args.self.now.places ++ c.in_ok-at.at ∷ []) c.self.view_is
          (all ∙ ap (λ (l : Log). l.records ++ c.args.entry.now ∷ []) c.self.view_is) (places ∙ ap (λ (l : Log). l.places ++ c.in_ok-at.at ∷ []) c.self.view_is);
      err = tt;
      fit =
          subst AreRecords (sym all)
          (are_more (records_of c.self.inside) (c.args.entry.now ∷ []) c.self.invariant.fit (ap (λ b. not b && true) c.requires.place) ((c.know_names.ensures.names, c.requires.fit, c.know_names.ensures.receipt), tt));
    }
