use Rattle.std.proofs.Common.{◌≡◌, ◌+◌, List, length, ◌++◌, ◌∷◌, [], map, subst, arith, ap, sym, ◌∙◌, length-append, ℕ}
use Rattle.std.proofs.lemmas.List.{length-map}
use Rattle.std.proofs.lemmas.Grind.{common_steps}
use Rattle.fsl_record.specs.declared.Record.{Record}
use Rattle.fsl_blobs.specs.Fold.{contents, held_bytes}
use Rattle.fsl_blobs.specs.Kept.{IsKept, AreFrom, AreCached}
use Rattle.fsl_blobs.proofs.Sources.{cached-more}
use Rattle.fsl_blobs.proofs.blobs.Blobs.apply.Goals as goal

pub total_with-total-requires : goal.total_with-total-requires
total_with-total-requires c =
    let count : length (map (λ s. s.value) c.self.inside.records.items) ≡ length c.self.inside.records.items = length-map _ _ in
    omega (arith, count, c.self.invariant.small, c.self.inside.records.ok)

pub invariant_of-self-2 : goal.invariant_of-self-2
invariant_of-self-2 c =
    let records = map (λ s. s.value) c.self.inside.records.items in
    let starts = map (λ s. s.value) c.self.inside.starts.items in
    let more : map (λ s. s.value) c.self.inside.records.items ++ c.args.entry ∷ [] ≡ map (λ s. s.value) c.push.new.self.items = grind (arith, common_steps) in
    let later : map (λ s. s.value) c.self.inside.starts.items ++ c.args.at ∷ [] ≡ map (λ s. s.value) c.push-2.new.self.items = grind (arith, common_steps) in
    let all : length (map (λ s. s.value) c.self.inside.records.items) ≡ length c.self.inside.records.items = length-map _ _ in
    let count : c.len.result ≡ length c.self.inside.records.items = omega (arith, c.in_ok-reserve.ensures.len, c.self.inside.records.ok) in
    let last : c.len.result + 1 ≡ length (map (λ s. s.value) c.self.inside.records.items) + 1 = ap (λ n. n + 1) (count ∙ sym all) in
    let longer : length (map (λ s. s.value) c.push.new.self.items) ≡ length (map (λ s. s.value) c.self.inside.records.items) + 1 = sym (ap length more) ∙ length-append (map (λ s. s.value) c.self.inside.records.items) (c.args.entry ∷ []) in
    let longer-2 : length (map (λ s. s.value) c.push-2.new.self.items) ≡ length (map (λ s. s.value) c.self.inside.starts.items) + 1 = sym (ap length later) ∙ length-append (map (λ s. s.value) c.self.inside.starts.items) (c.args.at ∷ []) in
    record {
      kept = subst (λ (rs : List Record). IsKept rs c.self.inside.config c.change.new.held.entries c.change.new.shunned.keys c.change.new.announced.keys) more
          (c.in_ok-change.ensures.kept (map (λ s. s.value) c.self.inside.records.items) c.self.inside.config c.self.invariant.kept last);
      from = subst (λ (rs : List Record). AreFrom rs (map (λ s. s.value) c.push-2.new.self.items) c.change.new.held.entries) more
          (subst (λ (ss : List ℕ). AreFrom (map (λ s. s.value) c.self.inside.records.items ++ c.args.entry ∷ []) ss c.change.new.held.entries) later
          (c.in_ok-change.ensures.from (map (λ s. s.value) c.self.inside.records.items) (map (λ s. s.value) c.self.inside.starts.items) c.self.invariant.from last c.self.invariant.as_many));
      as_many = longer-2 ∙ ap (λ n. n + 1) c.self.invariant.as_many ∙ sym longer;
      cached = subst (λ (rs : List Record). AreCached rs c.self.inside.cache.entries) more
          (cached-more (map (λ s. s.value) c.self.inside.records.items) c.args.entry c.self.inside.cache.entries c.self.invariant.cached);
      bounded = c.self.invariant.bounded;
      cap = c.self.invariant.cap;
      ordered = c.change.ensures.ordered (map (λ s. s.value) c.self.inside.records.items) c.self.inside.config c.self.invariant.kept last c.self.invariant.ordered;
      sum = subst (λ (rs : List Record). c.total_with-total.result ≡ held_bytes (contents rs).held) more
          (c.total_with-total.ensures.total (map (λ s. s.value) c.self.inside.records.items) (map (λ s. s.value) c.self.inside.starts.items) c.self.inside.config c.self.inside.announced.keys c.self.invariant.kept c.self.invariant.from c.self.invariant.sum);
      small = omega (arith, longer, c.total_with-total.ensures.fits, c.self.invariant.small);
    }
