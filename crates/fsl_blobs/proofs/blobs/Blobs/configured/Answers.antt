use Rattle.std.proofs.Common.{◌≡◌, ℕ, List, [], ◌∷◌, map, length, ap, sym, ◌∙◌, rules, arith}
use Rattle.lru.specs.LruCache.{LruCache}
use Rattle.fsl_blobs.proofs.KeptLemmas.{kept-first}
use Rattle.fsl_blobs.proofs.Sources.{from-first, cached-first, bounded-first}
use Rattle.fsl_blobs.proofs.Ordered.{ordered-first}
use Rattle.fsl_blobs.proofs.Totals.{total-first}
use Rattle.fsl_blobs.proofs.blobs.Blobs.configured.Goals as goal

pub invariant_of-result : goal.invariant_of-result
invariant_of-result c =
    let one : map (λ s. s.value) c.push.new.self.items ≡ c.args.first ∷ [] = search rules in
    let start : map (λ s. s.value) c.push-2.new.self.items ≡ c.args.at ∷ [] = search rules in
    record {
      kept = kept-first c.args.first c.config_of.result _ _ _ _ c.config_of.ensures one c.new.ensures.empty c.new-2.ensures.empty c.new-3.ensures.empty;
      from = from-first _ _ _ c.new.ensures.empty;
      as_many = ap length start ∙ sym (ap length one);
      cached = cached-first _ _ (ap (λ (m : LruCache ℕ (List ℕ)). m.entries) c.in_ok-cache.ensures);
      bounded = bounded-first _ (ap (λ (m : LruCache ℕ (List ℕ)). m.entries) c.in_ok-cache.ensures);
      cap = ap (λ (m : LruCache ℕ (List ℕ)). m.cap) c.in_ok-cache.ensures;
      ordered = ordered-first _ _ c.new.ensures.empty c.new-4.ensures.empty c.new-5.ensures.empty;
      sum = total-first c.args.first c.config_of.result _ c.config_of.ensures one;
      small = omega arith;
    }
